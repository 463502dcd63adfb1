use Rattle.std.proofs.Common.{is_ok, ap, arith}
use Rattle.std.proofs.lemmas.List.{take_all}
use Rattle.std.proofs.Output.{has_written_of_eq, has_written_append}
use Rattle.console.specs.Escape.{escaped}
use Rattle.console.proofs.Printable.{escaped_more}
use Rattle.console.proofs.escape.EscapedDisplay.fmt.Goals as goal

pub loop-byte-preserved : goal.loop-byte-preserved
loop-byte-preserved g c p =
    let so_far = c.loop-byte.invariant p in
    has_written_of_eq g.W.Write.write_str_gives _ _ _ _ (escaped_more c.args.self.now.0.now c.loop-byte.byte-index (omega arith))
    (has_written_append g.W.Write.write_str_gives _ _ _ _ _ so_far (c.write.ensures.writes so_far.plain (ap is_ok c.in_ok-write.was)))

pub returns-clause-writes : goal.returns-clause-writes
returns-clause-writes g c p ok = has_written_of_eq g.W.Write.write_str_gives _ _ _ _ (ap escaped (take_all c.loop-byte.byte-index c.args.self.now.0.now (omega arith))) (c.loop-byte.invariant p)
