use Rattle.std.proofs.Common.{sym, ◌∙◌}
use Rattle.operands.specs.declared.operand.Operand.TheVariants.{Value}
use Rattle.operands.proofs.Codes.{none_at}
use Rattle.operands.proofs.stack.copy_codes.Goals as goal

pub returns-in_err-out : goal.returns-in_err-out
returns-in_err-out c =
    rw (c.from_residual.ensures, ← c.requires)
    (sym (none_at c.args.operands.now c.loop-place.place (Value 0) c.loop-place-test.true (sym c.code.ensures ∙ c.in_err-out.was)))
