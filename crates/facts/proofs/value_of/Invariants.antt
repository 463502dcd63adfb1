use Rattle.std.proofs.Common.{◌≡◌, length}
use Rattle.facts.specs.Facts.{value_of}
use Rattle.facts.proofs.value_of.Given as goal

abbrev pub invariant-loop-rest : goal.invariant-loop-rest
invariant-loop-rest l = value_of l.rest l.name ≡ value_of l.facts l.name

abbrev pub decreases-loop-rest : goal.decreases-loop-rest
decreases-loop-rest l = length l.rest
