-- What the bytes of a bundle say, as numbers. It assumes nothing: a byte past the end reads as 0.
use Rattle.std.specs.Prelude.{ℕ, ◌+◌, ◌*◌, List, take, drop, slice_index}
use Rattle.layout.specs.declared.section.Section.{Section}
use Rattle.layout.specs.declared.section.Section.TheVariants.{Templates, Blocks, Codes, Instructions, Constants, Text}
use Rattle.layout.specs.declared.section.Extent.{Extent}
use Rattle.layout.specs.declared.section.Header.{Header}
use Rattle.layout.specs.declared.records.Span.{Span}
use Rattle.layout.specs.declared.records.TemplateRecord.{TemplateRecord}
use Rattle.layout.specs.declared.records.BlockRecord.{BlockRecord}
use Rattle.layout.specs.declared.records.CodeRecord.{CodeRecord}
use Rattle.layout.specs.declared.records.InstructionRecord.{InstructionRecord}
use Rattle.layout.specs.declared.records.ConstantRecord.{ConstantRecord}

abbrev pub byte : List ℕ → ℕ → ℕ
byte b i = slice_index b i

-- little-endian numbers of two and of four bytes
abbrev pub u16 : List ℕ → ℕ → ℕ
u16 b i = byte b i + 256 * byte b (i + 1)

abbrev pub u32 : List ℕ → ℕ → ℕ
u32 b i = byte b i + 256 * byte b (i + 1) + 65536 * byte b (i + 2) + 16777216 * byte b (i + 3)

-- the header: for each section in turn how many records (of text: bytes) it has, and where it begins
abbrev pub place : Section → ℕ
place Templates = 0
place Blocks = 1
place Codes = 2
place Instructions = 3
place Constants = 4
place Text = 5

abbrev pub records : List ℕ → Section → ℕ
records b s = u32 b (8 * place s)

abbrev pub start : List ℕ → Section → ℕ
start b s = u32 b (8 * place s + 4)

abbrev pub extent : List ℕ → Section → Extent
extent b s = record { count = records b s; offset = start b s }

abbrev pub header : List ℕ → Header
header b = record {
  templates = extent b Templates;
  blocks = extent b Blocks;
  codes = extent b Codes;
  instructions = extent b Instructions;
  constants = extent b Constants;
  text = extent b Text;
}

-- how many bytes a record has
abbrev pub size : Section → ℕ
size Templates = 20
size Blocks = 12
size Codes = 12
size Instructions = 16
size Constants = 12
size Text = 1

-- where a record begins
abbrev pub at : List ℕ → Section → ℕ → ℕ
at b s i = start b s + size s * i

-- so many records or bytes, one after another: from which number on, and how many
abbrev pub span : ℕ → ℕ → Span
span f n = record { first = f; count = n }

abbrev pub span_at : List ℕ → ℕ → Span
span_at b p = span (u32 b p) (u32 b (p + 4))

-- the fields of a record that begins at p, in their order
abbrev pub template_at : List ℕ → ℕ → TemplateRecord
template_at b p = record { name = span_at b p; main = u32 b (p + 8); blocks = span_at b (p + 12) }

abbrev pub block_at : List ℕ → ℕ → BlockRecord
block_at b p = record { name = span_at b p; code = u32 b (p + 8) }

abbrev pub code_at : List ℕ → ℕ → CodeRecord
code_at b p = record { instructions = span_at b p; flag = u32 b (p + 8) }

abbrev pub instruction_at : List ℕ → ℕ → InstructionRecord
instruction_at b p = record {
  kind = byte b p;
  small = byte b (p + 1);
  argc = u16 b (p + 2);
  a = u32 b (p + 4);
  b = u32 b (p + 8);
  line = u16 b (p + 12);
  zero = u16 b (p + 14);
}

abbrev pub constant_at : List ℕ → ℕ → ConstantRecord
constant_at b p = record { kind = u32 b p; a = u32 b (p + 4); b = u32 b (p + 8) }

-- the record with the number i
abbrev pub template : List ℕ → ℕ → TemplateRecord
template b i = template_at b (at b Templates i)

abbrev pub block : List ℕ → ℕ → BlockRecord
block b i = block_at b (at b Blocks i)

abbrev pub code : List ℕ → ℕ → CodeRecord
code b i = code_at b (at b Codes i)

abbrev pub instruction : List ℕ → ℕ → InstructionRecord
instruction b i = instruction_at b (at b Instructions i)

abbrev pub constant : List ℕ → ℕ → ConstantRecord
constant b i = constant_at b (at b Constants i)

-- the part of the text section that a record names
abbrev pub text : List ℕ → Span → List ℕ
text b s = take s.count (drop (start b Text + s.first) b)
