use Rattle.std.proofs.Common.{ℕ, List, sym, ap, ◌∙◌, subst}
use Rattle.causes.specs.Causes.{cause}
use Rattle.opening.specs.Opening.{AllStand, empty_bundle}
use Rattle.opening.proofs.Empty.{empty_format, empty_stands}
use Rattle.opening.proofs.Verdict.{some_defect}
use Rattle.opening.proofs.opened.Bundle.empty.Goals as goal

pub unreachable-requires : goal.unreachable-requires
unreachable-requires c = some_defect empty_bundle _ c.in-Err.ensures.refused empty_format

pub invariant_of-result : goal.invariant_of-result
invariant_of-result c =
    let e = c.in-Ok.ensures in
    record {
      format = ap cause e.accepted ∙ empty_format;
      standing = ∣ subst (λ (b : List ℕ). AllStand b) (sym e.accepted) empty_stands ∣₁;
    }
