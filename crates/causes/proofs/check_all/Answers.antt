use Rattle.std.proofs.Common.{refl}
use Rattle.std.proofs.lemmas.Result.{err_from_is_err_and}
use Rattle.causes.proofs.Search.{in_header, in_references, in_fields, in_names}
use Rattle.causes.proofs.check_all.Goals as goal

pub returns-in_err-headed : goal.returns-in_err-headed
returns-in_err-headed c =
    let p = err_from_is_err_and c.from_residual.result c.from_residual.ensures.1 in
    rw (p.1, p.2) (in_header c.args.layout.bytes.now c.args.layout.bytes.now refl _ c.in_err-headed.ensures.defect)

pub returns-in_err-check_references : goal.returns-in_err-check_references
returns-in_err-check_references c =
    let p = err_from_is_err_and c.from_residual-in_err-check_references.result c.from_residual-in_err-check_references.ensures.1 in
    rw (p.1, p.2) (in_references c.args.layout.bytes.now _ c.in_ok-headed.ensures.same c.in_ok-headed.ensures.defect _ c.in_err-check_references.ensures)

pub returns-in_err-check_records : goal.returns-in_err-check_records
returns-in_err-check_records c =
    let p = err_from_is_err_and c.from_residual-in_err-check_records.result c.from_residual-in_err-check_records.ensures.1 in
    rw (p.1, p.2) (in_fields c.args.layout.bytes.now _ c.in_ok-headed.ensures.same c.in_ok-headed.ensures.defect c.in_ok-check_references.ensures _ c.in_err-check_records.ensures)

pub returns : goal.returns
returns c =
    in_names c.args.layout.bytes.now _ c.in_ok-headed.ensures.same c.in_ok-headed.ensures.defect c.in_ok-check_references.ensures _
    c.in_ok-check_records.ensures c.check_names.ensures
