use Rattle.std.proofs.Common.{◌≡◌, true}
use Rattle.layout.specs.Bounded.{each}
use Rattle.rules.specs.Rules.{keeps}
use Rattle.rules.specs.declared.Rule.TheVariants.{Owner}
use Rattle.causes.proofs.Tallies.{Scanned}
use Rattle.causes.proofs.headed.Headed.first_not_owned_once.Given as goal

abbrev pub invariant-loop-number : goal.invariant-loop-number
invariant-loop-number l = record {
  owned_once : each l.number (keeps l.self.layout.bytes.now (Owner l.fn.owned)) ≡ true;
  scanned : Scanned l.self.layout.bytes.now l.fn.owned l.number l.owners;
}
