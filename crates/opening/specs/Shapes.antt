-- What each instruction does to the operands and the open marks. It assumes nothing.
use Rattle.std.specs.Prelude.{List, map, nat_le}
use Rattle.instruction.specs.Program.{Instr, Code}
use Rattle.instruction.specs.Program.Instr.{emit_raw, store_local, lookup, get_attr, get_item, load_const, build_list, add, sub, mul, div, int_div, rem, pow, neg, eq, ne, gt, gte, lt, lte, not, string_concat, «in», apply_filter, perform_test, emit, push_loop, push_with, iterate, push_did_not_iterate, pop_frame, pop_loop_frame, jump, jump_if_false, jump_if_false_or_pop, jump_if_true_or_pop, begin_capture, end_capture, call_function, dup_top, discard_top, fast_super, fast_recurse, swap, call_block, load_blocks}
use Rattle.standing.specs.declared.shape.MarkKind.TheVariants.{Scope, Capture, Loop}
use Rattle.standing.specs.declared.shape.Shape.{Shape}
use Rattle.standing.specs.declared.shape.Shape.TheVariants.{Plain, Inside, Turn, Goto, Branch, Opens, EndsScope, EndsCapture, EndsLoop, Load}

-- Plain takes gives; a loop is recursive where its flags have the 2
abbrev pub shape : Instr → Shape
shape (emit_raw x) = Plain 0 0
shape (store_local x) = Plain 1 0
shape (lookup x) = Plain 0 1
shape (get_attr x) = Plain 1 1
shape get_item = Plain 2 1
shape (load_const x) = Plain 0 1
shape (build_list n) = Plain n 1
shape add = Plain 2 1
shape sub = Plain 2 1
shape mul = Plain 2 1
shape div = Plain 2 1
shape int_div = Plain 2 1
shape rem = Plain 2 1
shape pow = Plain 2 1
shape neg = Plain 1 1
shape eq = Plain 2 1
shape ne = Plain 2 1
shape gt = Plain 2 1
shape gte = Plain 2 1
shape lt = Plain 2 1
shape lte = Plain 2 1
shape not = Plain 1 1
shape string_concat = Plain 2 1
shape «in» = Plain 2 1
shape (apply_filter x n l) = Plain n 1
shape (perform_test x n l) = Plain n 1
shape emit = Plain 1 0
shape (push_loop n) = Opens (Loop (nat_le 2 n)) 1
shape push_with = Opens Scope 0
shape (iterate t) = Turn t
shape push_did_not_iterate = Inside
shape pop_frame = EndsScope
shape pop_loop_frame = EndsLoop
shape (jump t) = Goto t
shape (jump_if_false t) = Branch t 0
shape (jump_if_false_or_pop t) = Branch t 1
shape (jump_if_true_or_pop t) = Branch t 1
shape (begin_capture m) = Opens Capture 0
shape end_capture = EndsCapture
shape (call_function x n) = Plain n 1
shape dup_top = Plain 1 2
shape discard_top = Plain 1 0
shape fast_super = Plain 0 0
shape fast_recurse = Plain 1 0
shape swap = Plain 2 2
shape (call_block x) = Plain 0 0
shape load_blocks = Load

abbrev pub shapes : Code → List Shape
shapes c = map (λ s. shape s.instruction) c.steps
