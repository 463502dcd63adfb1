-- What a refusal tells: the number of its cause, and what shows it.
use Rattle.std.specs.Prelude.{◌≡◌, ℕ, List, Some, None, Ok, Err, Option, Result}
use Rattle.causes.specs.Causes as causes
use Rattle.opening.specs.Opening.{IsBrokenCode}
use Rattle.opening.specs.declared.refusal.Refusal.{Refusal}
use Rattle.opening.specs.declared.refusal.Refusal.TheVariants.{Format, Standing}

-- a cause of the format is shown by the first broken rule and the first record that breaks it, and cause 5 by a code that
-- does not stand
abbrev pub Shows : List ℕ → Refusal → Type 0
Shows b (Format d) = Some d ≡ causes.defect b
Shows b (Standing x) = IsBrokenCode b x.code

abbrev pub Shown : List ℕ → Option Refusal → Type 0
Shown b None = Unit {0}
Shown b (Some r) = Shows b r

abbrev pub cause_number : Refusal → ℕ
cause_number (Format d) = causes.number d.rule
cause_number (Standing x) = 5

abbrev pub number : Option Refusal → ℕ
number None = 0
number (Some r) = cause_number r

abbrev pub told : {A : Type 0} → Result A Refusal → ℕ
told (Ok x) = 0
told (Err r) = cause_number r
