use Rattle.std.proofs.Common.{◌≡◌, reverse, take, Some}
use Rattle.operands.specs.Stack.{top_codes}
use Rattle.operands.proofs.stack.copy_codes.Given as goal

abbrev pub invariant-loop-place : goal.invariant-loop-place
invariant-loop-place l = top_codes l.place (reverse (take l.place l.operands)) ≡ Some (take l.place l.out)
