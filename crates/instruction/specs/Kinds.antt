-- The kinds of instruction: which number names which one, and which fields of the record it takes.
use Rattle.std.specs.Prelude.{ℕ, ◌-◌, ◌^◌, true, false, cond, List, ℤ, pos, negsuc, Some, None, Option, ◌==◌, nat_lt, ◌≡◌, ◌<◌, Result, MatchResult}
use Rattle.std.specs.Option.{option_map}
use Rattle.layout.specs.declared.records.InstructionRecord.{InstructionRecord}
use Rattle.layout.specs.declared.records.ConstantRecord.{ConstantRecord}
use Rattle.layout.specs.Layout as layout
use Rattle.instruction.specs.Program.{Const, Mode, Instr}
use Rattle.instruction.specs.Program.Const.{undefined, boolean, integer, string}
use Rattle.instruction.specs.Program.Mode.{keep, discard}
use Rattle.instruction.specs.Program.Instr.{emit_raw, store_local, lookup, get_attr, get_item, load_const, build_list, add, sub, mul, div, int_div, rem, pow, neg, eq, ne, gt, gte, lt, lte, not, string_concat, «in», apply_filter, perform_test, emit, push_loop, push_with, iterate, push_did_not_iterate, pop_frame, pop_loop_frame, jump, jump_if_false, jump_if_false_or_pop, jump_if_true_or_pop, begin_capture, end_capture, call_function, dup_top, discard_top, fast_super, fast_recurse, swap, call_block, load_blocks}
use Rattle.instruction.specs.declared.fields.Fields.{Fields}
use Rattle.instruction.specs.declared.fields.Fields.TheVariants as the
use Rattle.instruction.specs.declared.kind.Kind.{Kind}
use Rattle.instruction.specs.declared.kind.Kind.TheVariants as kind
use Rattle.instruction.specs.declared.kind.LeftOut.{LeftOut}
use Rattle.instruction.specs.declared.constants.ConstantKind.{ConstantKind}
use Rattle.instruction.specs.declared.constants.ConstantKind.TheVariants as known
use Rattle.instruction.specs.declared.constants.UnknownConstant.{UnknownConstant}

-- the number that stands for a kind
abbrev pub kind_number : Kind → ℕ
kind_number kind.EmitRaw = 0
kind_number kind.StoreLocal = 1
kind_number kind.Lookup = 2
kind_number kind.GetAttr = 3
kind_number kind.GetItem = 5
kind_number kind.LoadConst = 7
kind_number kind.BuildList = 11
kind_number kind.Add = 15
kind_number kind.Sub = 16
kind_number kind.Mul = 17
kind_number kind.Div = 18
kind_number kind.IntDiv = 19
kind_number kind.Rem = 20
kind_number kind.Pow = 21
kind_number kind.Neg = 22
kind_number kind.Eq = 23
kind_number kind.Ne = 24
kind_number kind.Gt = 25
kind_number kind.Gte = 26
kind_number kind.Lt = 27
kind_number kind.Lte = 28
kind_number kind.Not = 29
kind_number kind.StringConcat = 30
kind_number kind.In = 31
kind_number kind.ApplyFilter = 33
kind_number kind.PerformTest = 34
kind_number kind.Emit = 35
kind_number kind.PushLoop = 36
kind_number kind.PushWith = 37
kind_number kind.Iterate = 38
kind_number kind.PushDidNotIterate = 39
kind_number kind.PopFrame = 40
kind_number kind.PopLoopFrame = 41
kind_number kind.Jump = 42
kind_number kind.JumpIfFalse = 43
kind_number kind.JumpIfFalseOrPop = 44
kind_number kind.JumpIfTrueOrPop = 45
kind_number kind.BeginCapture = 48
kind_number kind.EndCapture = 49
kind_number kind.CallFunction = 50
kind_number kind.DupTop = 53
kind_number kind.DiscardTop = 54
kind_number kind.FastSuper = 55
kind_number kind.FastRecurse = 56
kind_number kind.Swap = 57
kind_number kind.CallBlock = 58
kind_number kind.LoadBlocks = 59

-- what an instruction takes of its record: nothing, a text (or name), a count, both, both and a cache slot,
-- a constant, a jump target, loop flags, or a capture mode
pub data Operands : Type 0 where
  plain : Instr → Operands
  text : (List ℕ → Instr) → Operands
  counted : (ℕ → Instr) → Operands
  named : (List ℕ → ℕ → Instr) → Operands
  cached : (List ℕ → ℕ → ℕ → Instr) → Operands
  constant : (Const → Instr) → Operands
  target : (ℕ → Instr) → Operands
  flags : (ℕ → Instr) → Operands
  mode : (Mode → Instr) → Operands
  left_out : Operands

abbrev pub operands : ℕ → Operands
operands k =
    cond (k == 0) (text emit_raw)
    (cond (k == 1) (text store_local)
    (cond (k == 2) (text lookup)
    (cond (k == 3) (text get_attr)
    (cond (k == 5) (plain get_item)
    (cond (k == 7) (constant load_const)
    (cond (k == 11) (counted build_list)
    (cond (k == 15) (plain add)
    (cond (k == 16) (plain sub)
    (cond (k == 17) (plain mul)
    (cond (k == 18) (plain div)
    (cond (k == 19) (plain int_div)
    (cond (k == 20) (plain rem)
    (cond (k == 21) (plain pow)
    (cond (k == 22) (plain neg)
    (cond (k == 23) (plain eq)
    (cond (k == 24) (plain ne)
    (cond (k == 25) (plain gt)
    (cond (k == 26) (plain gte)
    (cond (k == 27) (plain lt)
    (cond (k == 28) (plain lte)
    (cond (k == 29) (plain not)
    (cond (k == 30) (plain string_concat)
    (cond (k == 31) (plain «in»)
    (cond (k == 33) (cached apply_filter)
    (cond (k == 34) (cached perform_test)
    (cond (k == 35) (plain emit)
    (cond (k == 36) (flags push_loop)
    (cond (k == 37) (plain push_with)
    (cond (k == 38) (target iterate)
    (cond (k == 39) (plain push_did_not_iterate)
    (cond (k == 40) (plain pop_frame)
    (cond (k == 41) (plain pop_loop_frame)
    (cond (k == 42) (target jump)
    (cond (k == 43) (target jump_if_false)
    (cond (k == 44) (target jump_if_false_or_pop)
    (cond (k == 45) (target jump_if_true_or_pop)
    (cond (k == 48) (mode begin_capture)
    (cond (k == 49) (plain end_capture)
    (cond (k == 50) (named call_function)
    (cond (k == 53) (plain dup_top)
    (cond (k == 54) (plain discard_top)
    (cond (k == 55) (plain fast_super)
    (cond (k == 56) (plain fast_recurse)
    (cond (k == 57) (plain swap)
    (cond (k == 58) (text call_block)
    (cond (k == 59) (plain load_blocks)
    left_out))))))))))))))))))))))))))))))))))))))))))))))

-- a number's kind, or an error where it is left out
abbrev pub HasKind : ℕ → Result Kind LeftOut → Type 0
HasKind n r = MatchResult r (λ k. kind_number k ≡ n) (λ _. operands n ≡ left_out)

-- the same without the instruction's name, as the code tells the kinds apart
abbrev pub fields_of : Operands → Fields
fields_of (plain i) = the.None
fields_of (text i) = the.Text
fields_of (counted i) = the.Count
fields_of (named i) = the.TextAndCount
fields_of (cached i) = the.Cached
fields_of (constant i) = the.Constant
fields_of (target i) = the.Target
fields_of (flags i) = the.LoopFlags
fields_of (mode i) = the.CaptureMode
fields_of left_out = the.LeftOut

abbrev pub fields : ℕ → Fields
fields k = fields_of (operands k)

-- a number of 32 bits, read as signed
abbrev pub signed : ℕ → ℤ
signed n = cond (nat_lt n (2 ^ 31)) (pos n) (negsuc (2 ^ 32 - 1 - n))

-- the number that stands for a kind of constant
abbrev pub constant_number : ConstantKind → ℕ
constant_number known.Undefined = 0
constant_number known.False = 1
constant_number known.True = 2
constant_number known.Integer = 3
constant_number known.Text = 4

-- a number's kind of constant, or an error where it has none
abbrev pub HasConstantKind : ℕ → Result ConstantKind UnknownConstant → Type 0
HasConstantKind n r = MatchResult r (λ k. constant_number k ≡ n) (λ _. 4 < n)

-- 0 undefined, 1 false, 2 true, 3 an integer, 4 a text
abbrev pub constant_as : List ℕ → ConstantRecord → Option Const
constant_as b r =
    cond (r.kind == 0) (Some undefined)
    (cond (r.kind == 1) (Some (boolean false))
    (cond (r.kind == 2) (Some (boolean true))
    (cond (r.kind == 3) (Some (integer (signed r.a)))
    (cond (r.kind == 4) (Some (string (layout.text b (layout.span r.a r.b))))
    None))))

abbrev pub constant_of : List ℕ → ℕ → Option Const
constant_of b k = constant_as b (layout.constant b k)

-- 0 keeps what is captured, 1 drops it
abbrev pub mode_of : ℕ → Mode
mode_of small = cond (small == 0) keep discard

abbrev pub decoded_as : List ℕ → InstructionRecord → Operands → Option Instr
decoded_as b r (plain i) = Some i
decoded_as b r (text i) = Some (i (layout.text b (layout.span r.a r.b)))
decoded_as b r (counted i) = Some (i r.argc)
decoded_as b r (named i) = Some (i (layout.text b (layout.span r.a r.b)) r.argc)
decoded_as b r (cached i) = Some (i (layout.text b (layout.span r.a r.b)) r.argc r.small)
decoded_as b r (constant i) = option_map i (constant_of b r.a)
decoded_as b r (target i) = Some (i r.a)
decoded_as b r (flags i) = Some (i r.small)
decoded_as b r (mode i) = Some (i (mode_of r.small))
decoded_as b r left_out = None

-- the instruction that a record holds: none where its kind is left out, or where its constant is of no kind
abbrev pub decoded : List ℕ → InstructionRecord → Option Instr
decoded b r = decoded_as b r (operands r.kind)
