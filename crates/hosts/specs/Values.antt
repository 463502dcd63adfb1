-- Values as data. Only the rules of a host look into one; whoever uses the host knows its place in the list and no more.
use Rattle.std.specs.Prelude.{ℕ, Bool, true, false, List, [], ◌∷◌, ℤ}

pub data Value : Type 0 where
  undefined : Value
  boolean : Bool → Value
  integer : ℤ → Value
  text : List ℕ → Value
  -- the places of its items
  sequence : List ℕ → Value
  -- whatever else a host has, in a form of its own
  other : ℕ → List ℕ → Value

-- every list of values begins with these, so that 0, 1 and 2 are codes that all hosts share
abbrev pub first_values : List Value
first_values = undefined ∷ boolean false ∷ boolean true ∷ []
