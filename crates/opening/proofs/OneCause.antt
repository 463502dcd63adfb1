-- A bundle has one lowest cause.
use Rattle.std.proofs.Common.{◌≡◌, ℕ, List, sym, refl, ◌∙◌}
use Rattle.causes.specs.Causes.{cause}
use Rattle.opening.specs.Opening.{AllStand, Opens, Lowest, OneLowestCause}
use Rattle.opening.specs.Opening.Lowest.{none, format, standing}

-- what a lowest cause says, by its sort
data Sort (b : List ℕ) (n : ℕ) : Type 0 where
  opens : n ≡ 0 → Opens b → Sort b n
  by_format : n ≡ cause b → (cause b ≡ 0 → ⊥) → Sort b n
  by_standing : n ≡ 5 → cause b ≡ 0 → (AllStand b → ⊥) → Sort b n

sort_of : (b : List ℕ) {n : ℕ} → Lowest b n → Sort b n
sort_of b (none o) = opens refl o
sort_of b (format c) = by_format refl c
sort_of b (standing c s) = by_standing refl c s

same_sort : (b : List ℕ) (m n : ℕ) → Sort b m → Sort b n → m ≡ n
same_sort b m n (opens e o) (opens f p) = e ∙ sym f
same_sort b m n (opens e o) (by_format f c) = absurd (c o.format)
same_sort b m n (opens e o) (by_standing f c s) = absurd (s o.standing)
same_sort b m n (by_format e c) (opens f p) = absurd (c p.format)
same_sort b m n (by_format e c) (by_format f d) = e ∙ sym f
same_sort b m n (by_format e c) (by_standing f d s) = absurd (c d)
same_sort b m n (by_standing e c s) (opens f p) = absurd (s p.standing)
same_sort b m n (by_standing e c s) (by_format f d) = absurd (d c)
same_sort b m n (by_standing e c s) (by_standing f d t) = e ∙ sym f

pub one_cause : (b : List ℕ) → OneLowestCause b
one_cause b m n l k = same_sort b m n (sort_of b l) (sort_of b k)
