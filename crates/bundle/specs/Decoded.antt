-- The program that a bundle holds, as plain data: records read through their numbers, names and texts through their offsets.
-- It assumes nothing of the bytes; only a bundle without causes 1 to 4 is ever run.
use Rattle.std.specs.Prelude.{ℕ, ◌+◌, cond, List, [], Some, None, Option, ◌==◌, nat_lt}
use Rattle.std.specs.Option.{unwrap_or}
use Rattle.layout.specs.Bounded.{listed}
use Rattle.layout.specs.Layout as layout
use Rattle.layout.specs.declared.section.Section.TheVariants.{Templates}
use Rattle.layout.specs.declared.records.InstructionRecord.{InstructionRecord}
use Rattle.instruction.specs.Program.{Instr, Step, Code, Block, Template, Program}
use Rattle.instruction.specs.Program.Instr.{emit_raw}
use Rattle.instruction.specs.Kinds.{decoded}
use Rattle.rules.specs.Rules.{template_name, block_name}

-- the instruction with this number; one whose kind is left out, which no bundle without causes 1 to 4 holds, reads as empty text
abbrev pub instruction : List ℕ → ℕ → Instr
instruction b i = unwrap_or (decoded b (layout.instruction b i)) (emit_raw [])

abbrev pub step : List ℕ → ℕ → Step
step b i = record { instruction = instruction b i; line = (layout.instruction b i).line }

abbrev pub code : List ℕ → ℕ → Code
code b c = record {
  required = ((layout.code b c).flag == 1);
  steps = listed (layout.code b c).instructions.count (λ k. step b ((layout.code b c).instructions.first + k));
}

abbrev pub block : List ℕ → ℕ → Block
block b i = record { name = block_name b i; code = code b (layout.block b i).code }

abbrev pub template : List ℕ → ℕ → Template
template b t = record {
  name = template_name b t;
  main = code b (layout.template b t).main;
  blocks = listed (layout.template b t).blocks.count (λ k. block b ((layout.template b t).blocks.first + k));
}

abbrev pub program : List ℕ → Program
program b = listed (layout.records b Templates) (template b)

-- the record at a place of a code, or none past its end
abbrev pub record_at : List ℕ → ℕ → ℕ → Option InstructionRecord
record_at b c k =
    cond (nat_lt k (layout.code b c).instructions.count) (Some (layout.instruction b ((layout.code b c).instructions.first + k))) None

-- what stands at a place of a code, or nothing past its end
abbrev pub fetched : List ℕ → ℕ → ℕ → Option Instr
fetched b c k =
    cond (nat_lt k (layout.code b c).instructions.count) (decoded b (layout.instruction b ((layout.code b c).instructions.first + k))) None

-- the line of a step, where there is a step and its line is known
abbrev pub line_of : Option Step → Option ℕ
line_of None = None
line_of (Some s) = cond (s.line == 0) None (Some s.line)
