use Rattle.std.proofs.Common.{ℕ, ◌<◌}
use Rattle.standing.specs.Paths.{Stands}
use Rattle.opening.specs.Opening.{code_shapes}
use Rattle.opening.proofs.check_codes.Given as goal

abbrev pub invariant-loop-number : goal.invariant-loop-number
invariant-loop-number l = (k : ℕ) → k < l.number → Stands (code_shapes l.bundle.layout.bytes.now k)
