-- Two bundles agree if their records do, read through numbers and offsets: the numbers of codes, blocks, instructions
-- and constants, and where a name or a text stands, may differ. Such bundles hold the same program.
use Rattle.std.specs.Prelude.{◌≡◌, ℕ, ◌+◌, ◌<◌, true, List}
use Rattle.layout.specs.Layout.{records, span, template, block, code, instruction, constant, text}
use Rattle.layout.specs.declared.section.Section.TheVariants.{Templates}
use Rattle.layout.specs.declared.records.InstructionRecord.{InstructionRecord}
use Rattle.layout.specs.declared.records.ConstantRecord.{ConstantRecord}
use Rattle.instruction.specs.Kinds.{fields}
use Rattle.instruction.specs.Allowed.{uses}
use Rattle.rules.specs.Rules.{template_name, block_name}
use Rattle.bundle.specs.Decoded.{program}

-- of an integer the number counts, of a text its bytes
pub record SameConstant (b c : List ℕ) (r s : ConstantRecord) : Type 0 where
  pub kind : r.kind ≡ s.kind
  pub integer : r.kind ≡ 3 → r.a ≡ s.a
  pub string : r.kind ≡ 4 → text b (span r.a r.b) ≡ text c (span s.a s.b)

-- of the fields a and b only what the kind takes of them counts
pub record SameInstruction (b c : List ℕ) (r s : InstructionRecord) : Type 0 where
  pub kind : r.kind ≡ s.kind
  pub small : r.small ≡ s.small
  pub argc : r.argc ≡ s.argc
  pub line : r.line ≡ s.line
  pub words : (uses (fields r.kind)).text ≡ true → text b (span r.a r.b) ≡ text c (span s.a s.b)
  pub constants : (uses (fields r.kind)).constant ≡ true → SameConstant b c (constant b r.a) (constant c s.a)
  pub target : (uses (fields r.kind)).target ≡ true → r.a ≡ s.a

pub record SameCode (b c : List ℕ) (i j : ℕ) : Type 0 where
  pub flag : (code b i).flag ≡ (code c j).flag
  pub number : (code b i).instructions.count ≡ (code c j).instructions.count
  pub steps : (k : ℕ) → k < (code b i).instructions.count
      → SameInstruction b c (instruction b ((code b i).instructions.first + k)) (instruction c ((code c j).instructions.first + k))

pub record SameBlock (b c : List ℕ) (i j : ℕ) : Type 0 where
  pub name : block_name b i ≡ block_name c j
  pub body : SameCode b c (block b i).code (block c j).code

pub record SameTemplate (b c : List ℕ) (t : ℕ) : Type 0 where
  pub name : template_name b t ≡ template_name c t
  pub main : SameCode b c (template b t).main (template c t).main
  pub number : (template b t).blocks.count ≡ (template c t).blocks.count
  pub blocks : (k : ℕ) → k < (template b t).blocks.count
      → SameBlock b c ((template b t).blocks.first + k) ((template c t).blocks.first + k)

pub record Agree (b c : List ℕ) : Type 0 where
  pub number : records b Templates ≡ records c Templates
  pub templates : (t : ℕ) → t < records b Templates → SameTemplate b c t

abbrev pub AgreeingBundlesHoldOneProgram : List ℕ → Type 0
AgreeingBundlesHoldOneProgram b = (c : List ℕ) → Agree b c → program b ≡ program c
