-- In a bundle without causes 1 to 4 every block, code and instruction belongs to exactly one owner.
use Rattle.std.specs.Prelude.{◌≡◌, ℕ, ◌+◌, ◌<◌, ◌≤◌, List}
use Rattle.layout.specs.Layout.{records, template, block, code}
use Rattle.layout.specs.declared.records.Span.{Span}
use Rattle.layout.specs.declared.section.Section.TheVariants.{Templates, Blocks, Codes, Instructions}
use Rattle.causes.specs.Causes.{cause}

-- there is one, and no other
pub record ExactlyOne {A : Type 0} (P : A → Type 0) : Type 0 where
  pub one : A
  pub holds : P one
  pub only : (x : A) → P x → x ≡ one

-- the number i lies in this run of records
abbrev pub InRun : Span → ℕ → Type 0
InRun run i = (run.first ≤ i) × (i < run.first + run.count)

-- a template owns a run of blocks
abbrev pub OwnsBlock : List ℕ → ℕ → ℕ → Type 0
OwnsBlock b i t = (t < records b Templates) × InRun (template b t).blocks i

-- a code is the main code of a template, or the code of a block
pub data CodeOwner : Type 0 where
  of_template : ℕ → CodeOwner
  of_block : ℕ → CodeOwner

abbrev pub OwnsCode : List ℕ → ℕ → CodeOwner → Type 0
OwnsCode b c (of_template t) = (t < records b Templates) × ((template b t).main ≡ c)
OwnsCode b c (of_block i) = (i < records b Blocks) × ((block b i).code ≡ c)

-- a code owns a run of instructions
abbrev pub OwnsInstruction : List ℕ → ℕ → ℕ → Type 0
OwnsInstruction b i c = (c < records b Codes) × InRun (code b c).instructions i

pub record OwnedOnce (b : List ℕ) : Type 0 where
  pub blocks : (i : ℕ) → i < records b Blocks → ExactlyOne (OwnsBlock b i)
  pub codes : (c : ℕ) → c < records b Codes → ExactlyOne (OwnsCode b c)
  pub instructions : (i : ℕ) → i < records b Instructions → ExactlyOne (OwnsInstruction b i)

abbrev pub RecordsHaveOneOwner : List ℕ → Type 0
RecordsHaveOneOwner b = cause b ≡ 0 → OwnedOnce b
