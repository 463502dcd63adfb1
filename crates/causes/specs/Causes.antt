-- The causes 1 to 4: a cause holds where some record breaks a rule of its number. The lowest one counts.
use Rattle.std.specs.Prelude.{ℕ, Bool, true, cond, ◌&&◌, List, [], ◌∷◌, ◌++◌, Some, None, Option}
use Rattle.layout.specs.Bounded.{each, first_or, first_not}
use Rattle.layout.specs.declared.section.Section.TheVariants.{Templates, Blocks, Codes, Instructions, Constants, Text}
use Rattle.rules.specs.Rules.{keeps, scope}
use Rattle.rules.specs.declared.RecordRule.{RecordRule}
use Rattle.rules.specs.declared.RecordRule.TheVariants.{Size, TemplateLimit, SectionStart, BundleEnd, TemplateName, TemplateMain, TemplateBlocks, BlockName, BlockCode, CodeInstructions, InstructionText, InstructionConstant, ConstantText, JumpTargets, CodeLength, CodeFlag, MainFlag, InstructionKind, InstructionFields, ConstantKind, ConstantFields, LoadOutsideMain, TemplateNames, BlockNames}
use Rattle.rules.specs.declared.Owned.TheVariants.{Block, Code, Instruction}
use Rattle.rules.specs.declared.Rule.{Rule}
use Rattle.rules.specs.declared.Rule.TheVariants.{Record, Owner, BlockNameLimit}
use Rattle.causes.specs.declared.cause.Cause.{Cause}
use Rattle.causes.specs.declared.cause.Cause.TheVariants.{Header, Reference, Field, Name, Standing}
use Rattle.causes.specs.declared.defect.Defect.{Defect}

-- cause 1: the size or the header is wrong
abbrev pub header_rules : List Rule
header_rules =
    Record Size ∷ Record TemplateLimit ∷ Record (SectionStart Templates) ∷ Record (SectionStart Blocks)
    ∷ Record (SectionStart Codes) ∷ Record (SectionStart Instructions) ∷ Record (SectionStart Constants)
    ∷ Record (SectionStart Text) ∷ Record BundleEnd ∷ []

-- cause 2: something named lies outside, or a record is named more or less than once
abbrev pub reference_rules : List Rule
reference_rules =
    Record TemplateName ∷ Record TemplateMain ∷ Record TemplateBlocks ∷ Record BlockName ∷ Record BlockCode
    ∷ Record CodeInstructions ∷ Record InstructionText ∷ Record InstructionConstant ∷ Record ConstantText
    ∷ Owner Block ∷ Owner Code ∷ Owner Instruction ∷ Record JumpTargets ∷ []

-- cause 3: a kind, a field, a number of instructions or a flag is not allowed, or LoadBlocks stands outside main code
abbrev pub field_rules : List Rule
field_rules =
    Record CodeLength ∷ Record CodeFlag ∷ Record MainFlag ∷ Record InstructionKind ∷ Record InstructionFields
    ∷ Record ConstantKind ∷ Record ConstantFields ∷ Record LoadOutsideMain ∷ []

-- cause 4: a name stands twice, or there are too many of them
abbrev pub name_rules : List Rule
name_rules = Record TemplateNames ∷ BlockNameLimit ∷ Record BlockNames ∷ []

-- the rules that are tried once the header is right, and all of them
abbrev pub body_rules : List Rule
body_rules = reference_rules ++ (field_rules ++ name_rules)

abbrev pub rules : List Rule
rules = header_rules ++ body_rules

-- every record in the rule's scope keeps it
abbrev pub kept : List ℕ → Rule → Bool
kept b r = each (scope b r) (keeps b r)

abbrev pub all_kept : List ℕ → List Rule → Bool
all_kept b [] = true
all_kept b (r ∷ rs) = kept b r && all_kept b rs

-- the lowest cause of 1 to 4, or 0
unfoldable pub cause : List ℕ → ℕ
cause b =
    cond (all_kept b header_rules)
    (cond (all_kept b reference_rules) (cond (all_kept b field_rules) (cond (all_kept b name_rules) 0 4) 3) 2) 1

-- the number of the cause that a broken rule is
abbrev pub number_record : RecordRule → ℕ
number_record Size = 1
number_record TemplateLimit = 1
number_record (SectionStart s) = 1
number_record BundleEnd = 1
number_record TemplateName = 2
number_record TemplateMain = 2
number_record TemplateBlocks = 2
number_record BlockName = 2
number_record BlockCode = 2
number_record CodeInstructions = 2
number_record InstructionText = 2
number_record InstructionConstant = 2
number_record ConstantText = 2
number_record JumpTargets = 2
number_record CodeLength = 3
number_record CodeFlag = 3
number_record MainFlag = 3
number_record InstructionKind = 3
number_record InstructionFields = 3
number_record ConstantKind = 3
number_record ConstantFields = 3
number_record LoadOutsideMain = 3
number_record TemplateNames = 4
number_record BlockNames = 4

abbrev pub number : Rule → ℕ
number (Record r) = number_record r
number (Owner o) = 2
number BlockNameLimit = 4

-- the first record that breaks a rule
abbrev pub breach : List ℕ → Rule → Option ℕ
breach b r = first_not (scope b r) (keeps b r)

abbrev pub blamed : Rule → Option ℕ → Option Defect
blamed r None = None
blamed r (Some i) = Some (record { rule = r; «record» = i })

-- the first rule of the list that is broken, with the first record that breaks it
abbrev pub first_defect : List ℕ → List Rule → Option Defect
first_defect b [] = None
first_defect b (r ∷ rs) = first_or (blamed r (breach b r)) (first_defect b rs)

unfoldable pub defect : List ℕ → Option Defect
defect b = first_defect b rules

-- the causes by their numbers
abbrev pub cause_number : Cause → ℕ
cause_number Header = 1
cause_number Reference = 2
cause_number Field = 3
cause_number Name = 4
cause_number Standing = 5

abbrev pub cause_of : Option Defect → ℕ
cause_of None = 0
cause_of (Some d) = number d.rule
