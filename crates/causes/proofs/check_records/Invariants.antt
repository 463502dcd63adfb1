use Rattle.std.proofs.Common.{◌≡◌, map, drop}
use Rattle.rules.specs.declared.Rule.TheVariants.{Record}
use Rattle.causes.specs.Causes.{first_defect}
use Rattle.causes.proofs.check_records.Given as goal

abbrev pub invariant-loop-rule : goal.invariant-loop-rule
invariant-loop-rule l =
    first_defect l.layout.bytes.now (map Record (drop l.rule-index l.rules)) ≡ first_defect l.layout.bytes.now (map Record l.rules)
