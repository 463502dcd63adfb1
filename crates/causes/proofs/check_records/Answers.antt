use Rattle.std.proofs.Common.{sym, ◌∙◌}
use Rattle.rules.specs.declared.RecordRule.TheVariants.{Size}
use Rattle.causes.proofs.Search.{rule_passes, rule_breaks, rules_end}
use Rattle.causes.proofs.check_records.Goals as goal

pub loop-rule-preserved : goal.loop-rule-preserved
loop-rule-preserved c =
    rule_passes c.args.layout.bytes.now c.args.rules.now c.loop-rule.rule-index Size c.loop-rule.invariant
    c.loop-rule-test.true (sym c.first_breach.ensures ∙ c.in_default.is)

pub returns-in-Some : goal.returns-in-Some
returns-in-Some c =
    rule_breaks c.args.layout.bytes.now c.args.rules.now c.loop-rule.rule-index Size c.loop-rule.invariant
    c.in-Some.«record» c.loop-rule-test.true (sym c.first_breach.ensures ∙ c.in-Some.is)

pub returns : goal.returns
returns c =
    rules_end c.args.layout.bytes.now c.args.rules.now c.loop-rule.rule-index Size c.loop-rule.invariant
    c.loop-rule-test.false
