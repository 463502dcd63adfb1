use Rattle.std.proofs.Common.{◌≡◌, length, vec_items}
use Rattle.console.specs.Hex.{line_bytes}
use Rattle.console.proofs.Lines.{preceded}
use Rattle.console.proofs.hex.bytes_of_line.Given as goal

-- what is left of the line gives what is left of its bytes
abbrev pub invariant-loop-rest : goal.invariant-loop-rest
invariant-loop-rest l = line_bytes l.line ≡ preceded (vec_items l.bytes) (line_bytes l.rest)

abbrev pub decreases-loop-rest : goal.decreases-loop-rest
decreases-loop-rest l = length l.rest
