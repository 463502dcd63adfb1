use Rattle.std.proofs.Common.{◌≡◌, true}
use Rattle.layout.specs.Bounded.{each}
use Rattle.rules.specs.Rules.{keeps}
use Rattle.rules.specs.declared.Rule.TheVariants.{BlockNameLimit}
use Rattle.causes.proofs.Firsts.{Firsts}
use Rattle.causes.proofs.names.check_block_names.Given as goal

abbrev pub invariant-loop-number : goal.invariant-loop-number
invariant-loop-number l = record {
  within : each l.number (keeps l.layout.bytes.now BlockNameLimit) ≡ true;
  firsts : Firsts l.layout.bytes.now l.number l.firsts.items;
}
