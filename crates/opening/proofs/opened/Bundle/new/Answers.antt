use Rattle.std.proofs.Common.{sym}
use Rattle.std.proofs.lemmas.Result.{err_from_is_err_and}
use Rattle.opening.proofs.Verdict.{by_format, by_standing, by_none}
use Rattle.opening.proofs.opened.Bundle.new.Goals as goal

pub returns-in_err-parts-clause-lowest : goal.returns-in_err-parts-clause-lowest
returns-in_err-parts-clause-lowest c =
    let p = err_from_is_err_and c.from_residual.result c.from_residual.ensures.1 in
    rw (p.1, p.2) (by_format c.args.bytes.now _ c.in_err-parts.ensures.refused c.in_err-parts.ensures.lowest)

pub returns-in_err-check_codes-clause-lowest : goal.returns-in_err-check_codes-clause-lowest
returns-in_err-check_codes-clause-lowest c =
    let p = err_from_is_err_and c.from_residual-in_err-check_codes.result c.from_residual-in_err-check_codes.ensures.1 in
    rw (p.1, p.2) (by_standing c.args.bytes.now _ _ c.in_ok-parts.ensures.accepted (sym c.in_ok-parts.ensures.lowest) c.in_err-check_codes.ensures).1

pub returns-clause-lowest : goal.returns-clause-lowest
returns-clause-lowest c = by_none c.args.bytes.now _ c.in_ok-parts.ensures.accepted (sym c.in_ok-parts.ensures.lowest) c.in_ok-check_codes.ensures
