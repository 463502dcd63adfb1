-- What the values of the code mean: a reference is what it points to.
use Rattle.instruction.specs.Program.{Const, Mode, Instr}
use Rattle.instruction.specs.Program.Const.{undefined, boolean, integer, string}
use Rattle.instruction.specs.Program.Mode.{keep, discard}
use Rattle.instruction.specs.Program.Instr.{emit_raw, store_local, lookup, get_attr, get_item, load_const, build_list, add, sub, mul, div, int_div, rem, pow, neg, eq, ne, gt, gte, lt, lte, not, string_concat, «in», apply_filter, perform_test, emit, push_loop, push_with, iterate, push_did_not_iterate, pop_frame, pop_loop_frame, jump, jump_if_false, jump_if_false_or_pop, jump_if_true_or_pop, begin_capture, end_capture, call_function, dup_top, discard_top, fast_super, fast_recurse, swap, call_block, load_blocks}
use Rattle.instruction.specs.declared.instructions.CaptureMode.{CaptureMode}
use Rattle.instruction.specs.declared.instructions.CaptureMode.TheVariants.{Capture, Discard}
use Rattle.instruction.specs.declared.instructions.Constant.{Constant}
use Rattle.instruction.specs.declared.instructions.Constant.TheVariants.{Undefined, Bool, Integer, Text}
use Rattle.instruction.specs.declared.instructions.Instruction.{Instruction}
use Rattle.instruction.specs.declared.instructions.Instruction.TheVariants.{EmitRaw, StoreLocal, Lookup, GetAttr, GetItem, LoadConst, BuildList, Add, Sub, Mul, Div, IntDiv, Rem, Pow, Neg, Eq, Ne, Gt, Gte, Lt, Lte, Not, StringConcat, In, ApplyFilter, PerformTest, Emit, PushLoop, PushWith, Iterate, PushDidNotIterate, PopFrame, PopLoopFrame, Jump, JumpIfFalse, JumpIfFalseOrPop, JumpIfTrueOrPop, BeginCapture, EndCapture, CallFunction, DupTop, DiscardTop, FastSuper, FastRecurse, Swap, CallBlock, LoadBlocks}

abbrev pub constant_seen : Constant → Const
constant_seen Undefined = undefined
constant_seen (Bool t) = boolean t
constant_seen (Integer n) = integer n
constant_seen (Text x) = string x.now

abbrev pub mode_seen : CaptureMode → Mode
mode_seen Capture = keep
mode_seen Discard = discard

abbrev pub instruction_seen : Instruction → Instr
instruction_seen (EmitRaw x) = emit_raw x.now
instruction_seen (StoreLocal x) = store_local x.now
instruction_seen (Lookup x) = lookup x.now
instruction_seen (GetAttr x) = get_attr x.now
instruction_seen GetItem = get_item
instruction_seen (LoadConst x) = load_const (constant_seen x)
instruction_seen (BuildList n) = build_list n
instruction_seen Add = add
instruction_seen Sub = sub
instruction_seen Mul = mul
instruction_seen Div = div
instruction_seen IntDiv = int_div
instruction_seen Rem = rem
instruction_seen Pow = pow
instruction_seen Neg = neg
instruction_seen Eq = eq
instruction_seen Ne = ne
instruction_seen Gt = gt
instruction_seen Gte = gte
instruction_seen Lt = lt
instruction_seen Lte = lte
instruction_seen Not = not
instruction_seen StringConcat = string_concat
instruction_seen In = «in»
instruction_seen (ApplyFilter x n l) = apply_filter x.now n l.0
instruction_seen (PerformTest x n l) = perform_test x.now n l.0
instruction_seen Emit = emit
instruction_seen (PushLoop f) = push_loop f.0
instruction_seen PushWith = push_with
instruction_seen (Iterate n) = iterate n
instruction_seen PushDidNotIterate = push_did_not_iterate
instruction_seen PopFrame = pop_frame
instruction_seen PopLoopFrame = pop_loop_frame
instruction_seen (Jump n) = jump n
instruction_seen (JumpIfFalse n) = jump_if_false n
instruction_seen (JumpIfFalseOrPop n) = jump_if_false_or_pop n
instruction_seen (JumpIfTrueOrPop n) = jump_if_true_or_pop n
instruction_seen (BeginCapture m) = begin_capture (mode_seen m)
instruction_seen EndCapture = end_capture
instruction_seen (CallFunction x n) = call_function x.now n
instruction_seen DupTop = dup_top
instruction_seen DiscardTop = discard_top
instruction_seen FastSuper = fast_super
instruction_seen FastRecurse = fast_recurse
instruction_seen Swap = swap
instruction_seen (CallBlock x) = call_block x.now
instruction_seen LoadBlocks = load_blocks
