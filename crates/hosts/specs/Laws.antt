-- What every host keeps.
use Rattle.std.specs.Prelude.{◌≡◌, ℕ, ◌<◌, true, List, ◌++◌, length, take, Ok}
use Rattle.hosts.specs.Values.{Value, first_values}
use Rattle.hosts.specs.Meaning.{given, Rules, Meaning}

-- Making this text is no fault, and what is made is text and reads as these bytes.
pub record ReadsBack (r : Rules) (vs : List Value) (t : List ℕ) : Type 0 where
  pub added : List Value
  pub place : ℕ
  pub gives : r.make_text vs t ≡ given added place
  pub inside : place < length (vs ++ added)
  pub is_text : r.is_text (vs ++ added) place ≡ true
  pub reads : r.show (vs ++ added) place ≡ Ok t

pub record Lawful (m : Meaning) : Type 0 where
  pub first : take 3 m.values ≡ first_values
  pub texts : (vs : List Value) (t : List ℕ) → ReadsBack m.rules vs t
