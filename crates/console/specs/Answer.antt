-- The lines that the program answers.
use Rattle.std.specs.Prelude.{◌≡◌, ℕ, List, ◌++◌, Some, None, codes, decimal, Option}
use Rattle.opening.specs.Opening.{Lowest}

abbrev pub cause_line : ℕ → List ℕ
cause_line n = codes "cause " ++ decimal n

-- the answer to a line of hex digits that writes these bytes, or none: the lowest cause of the bundle
abbrev pub Answers : Option (List ℕ) → List ℕ → Type 0
Answers None text = text ≡ codes "bad line"
Answers (Some bytes) text = (n : ℕ) × Lowest bytes n × (text ≡ cause_line n)
