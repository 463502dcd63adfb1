use Rattle.std.proofs.Common.{◌≡◌, ◌++◌, map, take, drop}
use Rattle.operands.specs.Stack.{forgotten}
use Rattle.operands.proofs.stack.forget_all.Given as goal

abbrev pub invariant-loop-operand : goal.invariant-loop-operand
invariant-loop-operand l =
    l.operands ≡ map (forgotten l.frame) (take l.operand-index l.initial.operands) ++ drop l.operand-index l.initial.operands
