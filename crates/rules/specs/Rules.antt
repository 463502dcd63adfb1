-- What a bundle has to keep so that it has none of the causes 1 to 4: one rule for each clause of the format.
-- A rule speaks of one record at a time. It assumes nothing of the bytes.
use Rattle.std.specs.Prelude.{ℕ, suc, ◌+◌, ◌-◌, ◌*◌, Bool, cond, not, ◌&&◌, ◌||◌, List, length, Some, None, Option, ◌==◌, nat_le, nat_lt}
use Rattle.std.specs.Str.{bytes_eq}
use Rattle.layout.specs.Bounded.{each, count}
use Rattle.layout.specs.Layout.{records, start, size, span, template, block, code, instruction, constant, text}
use Rattle.layout.specs.declared.section.Section.{Section}
use Rattle.layout.specs.declared.section.Section.TheVariants.{Templates, Blocks, Codes, Instructions, Constants, Text}
use Rattle.layout.specs.declared.records.Span.{Span}
use Rattle.layout.specs.declared.records.InstructionRecord.{InstructionRecord}
use Rattle.instruction.specs.Kinds.{fields}
use Rattle.instruction.specs.Allowed.{uses, fields_allowed, constant_allowed}
use Rattle.rules.specs.declared.RecordRule.{RecordRule}
use Rattle.rules.specs.declared.RecordRule.TheVariants as the
use Rattle.rules.specs.declared.Owned.{Owned}
use Rattle.rules.specs.declared.Owned.TheVariants as owned
use Rattle.rules.specs.declared.Rule.{Rule}
use Rattle.rules.specs.declared.Rule.TheVariants.{Record, Owner, BlockNameLimit}

-- these records lie in the section
abbrev pub inside : List ℕ → Section → Span → Bool
inside b s run = nat_le (run.first + run.count) (records b s)

-- where a section ends, and where it has to begin
abbrev pub finish : List ℕ → Section → ℕ
finish b s = start b s + size s * records b s

abbrev pub due : List ℕ → Section → ℕ
due b Templates = 48
due b Blocks = finish b Templates
due b Codes = finish b Blocks
due b Instructions = finish b Codes
due b Constants = finish b Instructions
due b Text = finish b Constants

-- the instruction at place k of the code c
abbrev pub at_place : List ℕ → ℕ → ℕ → InstructionRecord
at_place b c k = instruction b ((code b c).instructions.first + k)

-- a jump goes at most to the end of its code
abbrev pub jumps_inside : List ℕ → ℕ → ℕ → Bool
jumps_inside b c k =
    not (uses (fields (at_place b c k).kind)).target || nat_le (at_place b c k).a (code b c).instructions.count

abbrev pub loads : List ℕ → ℕ → ℕ → Bool
loads b c k = (at_place b c k).kind == 59

abbrev pub template_name : List ℕ → ℕ → List ℕ
template_name b t = text b (template b t).name

abbrev pub block_name : List ℕ → ℕ → List ℕ
block_name b i = text b (block b i).name

abbrev pub other_name : (ℕ → List ℕ) → ℕ → ℕ → Bool
other_name name i j = not (bytes_eq (name j) (name i))

-- no record before this one has its name
abbrev pub new_name : (ℕ → List ℕ) → ℕ → Bool
new_name name i = each i (other_name name i)

-- the record with the number i keeps the rule
abbrev pub keeps_record : List ℕ → RecordRule → ℕ → Bool
keeps_record b the.Size i = nat_le 48 (length b) && nat_le (length b) 65536
keeps_record b the.TemplateLimit i = nat_le (records b Templates) 64
keeps_record b (the.SectionStart s) i = start b s == due b s
keeps_record b the.BundleEnd i = finish b Text == length b
keeps_record b the.TemplateName t = inside b Text (template b t).name
keeps_record b the.TemplateMain t = inside b Codes (span (template b t).main 1)
keeps_record b the.TemplateBlocks t = inside b Blocks (template b t).blocks
keeps_record b the.BlockName i = inside b Text (block b i).name
keeps_record b the.BlockCode i = inside b Codes (span (block b i).code 1)
keeps_record b the.CodeInstructions c = inside b Instructions (code b c).instructions
keeps_record b the.InstructionText i =
    not (uses (fields (instruction b i).kind)).text || inside b Text (span (instruction b i).a (instruction b i).b)
keeps_record b the.InstructionConstant i =
    not (uses (fields (instruction b i).kind)).constant || inside b Constants (span (instruction b i).a 1)
keeps_record b the.ConstantText k = not ((constant b k).kind == 4) || inside b Text (span (constant b k).a (constant b k).b)
keeps_record b the.JumpTargets c = each (code b c).instructions.count (jumps_inside b c)
keeps_record b the.CodeLength c = nat_le (code b c).instructions.count 1024
keeps_record b the.CodeFlag c = nat_le (code b c).flag 1
keeps_record b the.MainFlag t = (code b (template b t).main).flag == 0
keeps_record b the.InstructionKind i = (uses (fields (instruction b i).kind)).allowed
keeps_record b the.InstructionFields i = fields_allowed (fields (instruction b i).kind) (instruction b i)
keeps_record b the.ConstantKind k = nat_le (constant b k).kind 4
keeps_record b the.ConstantFields k = constant_allowed (constant b k)
keeps_record b the.LoadOutsideMain i = each (code b (block b i).code).instructions.count (λ k. not (loads b (block b i).code k))
keeps_record b the.TemplateNames t = new_name (template_name b) t
keeps_record b the.BlockNames t =
    each (template b t).blocks.count (new_name (λ k. block_name b ((template b t).blocks.first + k)))

-- the section whose records a rule speaks of: none where it speaks of the header
abbrev pub section_of : RecordRule → Option Section
section_of the.Size = None
section_of the.TemplateLimit = None
section_of (the.SectionStart s) = None
section_of the.BundleEnd = None
section_of the.TemplateName = Some Templates
section_of the.TemplateMain = Some Templates
section_of the.TemplateBlocks = Some Templates
section_of the.BlockName = Some Blocks
section_of the.BlockCode = Some Blocks
section_of the.CodeInstructions = Some Codes
section_of the.InstructionText = Some Instructions
section_of the.InstructionConstant = Some Instructions
section_of the.ConstantText = Some Constants
section_of the.JumpTargets = Some Codes
section_of the.CodeLength = Some Codes
section_of the.CodeFlag = Some Codes
section_of the.MainFlag = Some Templates
section_of the.InstructionKind = Some Instructions
section_of the.InstructionFields = Some Instructions
section_of the.ConstantKind = Some Constants
section_of the.ConstantFields = Some Constants
section_of the.LoadOutsideMain = Some Blocks
section_of the.TemplateNames = Some Templates
section_of the.BlockNames = Some Templates

abbrev pub section_owned : Owned → Section
section_owned owned.Block = Blocks
section_owned owned.Code = Codes
section_owned owned.Instruction = Instructions

abbrev pub section_of_rule : Rule → Option Section
section_of_rule (Record r) = section_of r
section_of_rule (Owner o) = Some (section_owned o)
section_of_rule BlockNameLimit = Some Blocks

-- how many records that are: the header is one
abbrev pub scope_in : List ℕ → Option Section → ℕ
scope_in b None = 1
scope_in b (Some s) = records b s

abbrev pub scope_record : List ℕ → RecordRule → ℕ
scope_record b r = scope_in b (section_of r)

-- A template names a run of blocks and one code, a block names one code, and a code names a run of instructions.
-- Codes are named by the templates and then the blocks, counted through.
abbrev pub namers : List ℕ → Owned → ℕ
namers b owned.Block = records b Templates
namers b owned.Code = records b Templates + records b Blocks
namers b owned.Instruction = records b Codes

abbrev pub code_named_by : List ℕ → ℕ → ℕ
code_named_by b j = cond (nat_lt j (records b Templates)) (template b j).main (block b (j - records b Templates)).code

-- the run that the namer j names: where it begins and where it ends
abbrev pub run_start : List ℕ → Owned → ℕ → ℕ
run_start b owned.Block j = (template b j).blocks.first
run_start b owned.Code j = code_named_by b j
run_start b owned.Instruction j = (code b j).instructions.first

abbrev pub run_end : List ℕ → Owned → ℕ → ℕ
run_end b owned.Block j = (template b j).blocks.first + (template b j).blocks.count
run_end b owned.Code j = code_named_by b j + 1
run_end b owned.Instruction j = (code b j).instructions.first + (code b j).instructions.count

abbrev pub names : List ℕ → Owned → ℕ → ℕ → Bool
names b o i j = nat_le (run_start b o j) i && nat_lt i (run_end b o j)

-- how many records name this one
abbrev pub owners : List ℕ → Owned → ℕ → ℕ
owners b o i = count (namers b o) (names b o i)

abbrev pub owned_in : List ℕ → Owned → ℕ
owned_in b o = records b (section_owned o)

abbrev pub keeps : List ℕ → Rule → ℕ → Bool
keeps b (Record r) i = keeps_record b r i
keeps b (Owner o) i = owners b o i == 1
keeps b BlockNameLimit i = nat_le (count (suc i) (new_name (block_name b))) 32

abbrev pub scope : List ℕ → Rule → ℕ
scope b r = scope_in b (section_of_rule r)
