use Rattle.std.proofs.Common.{◌<◌, length, get_or, rules}
use Rattle.std.proofs.lemmas.List.{get_or_default}
use Rattle.std.proofs.lemmas.List.Edits.{map_over_more}
use Rattle.operands.specs.Stack.{forgotten}
use Rattle.operands.specs.declared.operand.Operand.TheVariants.{Value}
use Rattle.operands.proofs.stack.forget_all.Goals as goal

pub loop-operand-preserved : goal.loop-operand-preserved
loop-operand-preserved c =
    let operands = c.loop-operand.operands in
    let i = c.loop-operand.operand-index in
    let here : i < length operands = search rules in
    let old = get_or operands i (Value 0) in
    rw c.forgotten.ensures
    (map_over_more (forgotten c.args.frame) _ operands i old c.loop-operand-test.true c.loop-operand.invariant (get_or_default operands i (Value 0) old here))
