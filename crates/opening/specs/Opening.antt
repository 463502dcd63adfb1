-- When a bundle opens, and the lowest of its causes 1 to 5.
use Rattle.std.specs.Prelude.{◌≡◌, ℕ, ◌<◌, List, [], ◌∷◌, ◌++◌, length, ◌≢◌}
use Rattle.layout.specs.Layout.{records}
use Rattle.layout.specs.declared.section.Section.TheVariants.{Codes}
use Rattle.standing.specs.declared.shape.Shape.{Shape}
use Rattle.standing.specs.Standing.{Standing}
use Rattle.standing.specs.Paths.{shape_at, Reach, Stands}
use Rattle.causes.specs.Causes.{cause}
use Rattle.bundle.specs.Decoded.{code}
use Rattle.opening.specs.Shapes.{shapes}

-- the shapes of a code of the bundle
abbrev pub code_shapes : List ℕ → ℕ → List Shape
code_shapes b c = shapes (code b c)

abbrev pub AllStand : List ℕ → Type 0
AllStand b = (c : ℕ) → c < records b Codes → Stands (code_shapes b c)

pub record Opens (b : List ℕ) : Type 0 where
  pub format : cause b ≡ 0
  pub standing : AllStand b

-- The lowest of the causes 1 to 5, or 0: a cause of the format comes first, and cause 5 is that some code does not stand.
pub data Lowest (b : List ℕ) : ℕ → Type 0 where
  none : Opens b → Lowest b 0
  format : (cause b ≢ 0) → Lowest b (cause b)
  standing : cause b ≡ 0 → (AllStand b → ⊥) → Lowest b 5

-- this code of the bundle does not stand
abbrev pub IsBrokenCode : List ℕ → ℕ → Type 0
IsBrokenCode b c = (c < records b Codes) × (Stands (code_shapes b c) → ⊥)

-- The codes of the two bundles have the same instructions wherever a path of the first reaches; what no path reaches may
-- differ.
pub record SameWhereReached (b c : List ℕ) : Type 0 where
  pub number : records b Codes ≡ records c Codes
  pub long : (i : ℕ) → i < records b Codes → length (code_shapes b i) ≡ length (code_shapes c i)
  pub alike : (i : ℕ) → i < records b Codes → (k : ℕ) (s : Standing) → Reach (code_shapes b i) k s
      → shape_at (code_shapes b i) k ≡ shape_at (code_shapes c i) k

abbrev pub UnreachedInstructionsDoNotMatter : List ℕ → Type 0
UnreachedInstructionsDoNotMatter b =
    (c : List ℕ) → SameWhereReached b c → (AllStand b → AllStand c) × (AllStand c → AllStand b)

-- the smallest bundle: a header of six empty sections
abbrev pub empty_section : List ℕ
empty_section = 0 ∷ 0 ∷ 0 ∷ 0 ∷ 48 ∷ 0 ∷ 0 ∷ 0 ∷ []

abbrev pub empty_bundle : List ℕ
empty_bundle = empty_section ++ (empty_section ++ (empty_section ++ (empty_section ++ (empty_section ++ empty_section))))

-- a bundle has one lowest cause
abbrev pub OneLowestCause : List ℕ → Type 0
OneLowestCause b = (m n : ℕ) → Lowest b m → Lowest b n → m ≡ n
