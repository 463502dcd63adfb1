use Rattle.causes.specs.Tally.{CountsStarts, CountsEnds}
use Rattle.causes.proofs.headed.Headed.tally.Given as goal

abbrev pub invariant-loop-namer : goal.invariant-loop-namer
invariant-loop-namer l = record {
  starts : CountsStarts l.namer l.self.layout.bytes.now l.owned l.tally;
  ends : CountsEnds l.namer l.self.layout.bytes.now l.owned l.tally;
}
