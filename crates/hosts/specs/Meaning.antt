-- The meaning of a host: the values that it knows so far, how much it takes, and rules that stay as they are.
use Rattle.std.specs.Prelude.{ℕ, ◌+◌, Bool, true, ◌&&◌, List, [], ◌∷◌, ◌++◌, length, ℤ, Option, Result, nat_le}
use Rattle.hosts.specs.Values.{Value}
use Rattle.hosts.specs.declared.Unary.{Unary}
use Rattle.hosts.specs.declared.Binary.{Binary}

-- What a rule gives: a fault with the number that the host has for it, or values that are new with the answer, which go
-- to the end of the list, and the place of the answer in the list after that.
pub data Given : Type 0 where
  fault : ℕ → Given
  given : List Value → ℕ → Given

-- The rules. Each is asked with the list of values and with codes, which are places in that list; a rule that adds
-- nothing gives its answer or the number of a fault.
pub record Rules : Type 0 where
  -- the bytes that a value takes of the limit
  pub size : Value → ℕ
  -- the number of the fault of a code that is no place in the list
  pub outside : ℕ
  pub lookup : List Value → List ℕ → Option Given
  pub get_attr : List Value → ℕ → List ℕ → Given
  pub get_item : List Value → ℕ → ℕ → Given
  -- iterating: how many items there are, and the item at a place
  pub count : List Value → ℕ → Result ℕ ℕ
  pub item : List Value → ℕ → ℕ → Given
  pub is_true : List Value → ℕ → Result Bool ℕ
  pub show : List Value → ℕ → Result (List ℕ) ℕ
  pub is_text : List Value → ℕ → Bool
  pub has_filter : List ℕ → Bool
  pub has_test : List ℕ → Bool
  pub make_integer : List Value → ℤ → Given
  pub make_text : List Value → List ℕ → Given
  pub make_list : List Value → List ℕ → Given
  pub unary : Unary → List Value → ℕ → Given
  pub binary : Binary → List Value → ℕ → ℕ → Given
  -- a filter or a test by its name, over arguments; a value called with arguments
  pub filter : List ℕ → List Value → List ℕ → Given
  pub test : List ℕ → List Value → List ℕ → Result Bool ℕ
  pub call : List Value → ℕ → List ℕ → Given

pub record Meaning : Type 0 where
  pub values : List Value
  pub most_values : ℕ
  pub most_bytes : ℕ
  pub rules : Rules

-- the bytes that these values take
abbrev pub bytes : Rules → List Value → ℕ
bytes r [] = 0
bytes r (v ∷ vs) = r.size v + bytes r vs

-- Whether an addition keeps the limits. Where nothing is added there is nothing to pass one.
abbrev pub room : Meaning → List Value → Bool
room m [] = true
room m (v ∷ vs) =
    nat_le (length m.values + length (v ∷ vs)) m.most_values
    && nat_le (bytes m.rules m.values + bytes m.rules (v ∷ vs)) m.most_bytes

abbrev pub grown : Meaning → List Value → Meaning
grown m vs = record { values = m.values ++ vs; most_values = m.most_values; most_bytes = m.most_bytes; rules = m.rules }
