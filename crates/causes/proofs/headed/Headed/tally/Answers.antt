use Rattle.std.proofs.Common.{◌≡◌, ◌+◌, refl, subst, arith}
use Rattle.rules.specs.Rules.{namers}
use Rattle.causes.specs.Tally.{begins, finishes, bounds_at, CountsStarts, CountsEnds}
use Rattle.causes.proofs.Tallies.{counts_none, counts_more, counts_kept, counts_le, kept_le}
use Rattle.causes.proofs.HeaderBounds.{few_namers}
use Rattle.causes.proofs.headed.Headed.tally.Goals as goal

pub loop-namer-init : goal.loop-namer-init
loop-namer-init c = record {
  starts = counts_none (begins c.args.self.layout.bytes.now c.args.owned) (λ x. x.starts) refl;
  ends = counts_none (finishes c.args.self.layout.bytes.now c.args.owned) (λ x. x.ends) refl;
}

pub overflow_add-tally : goal.overflow_add-tally
overflow_add-tally c =
    omega (
      arith,
      few_namers c.args.self.layout.bytes.now c.args.owned c.args.self.right,
      counts_le c.loop-namer.namer _ c.loop-namer.tally (λ x. x.starts) c.min.result c.loop-namer.invariant.starts (omega arith),
    )

pub overflow_add-tally-in-loop-namer : goal.overflow_add-tally-in-loop-namer
overflow_add-tally-in-loop-namer c =
    omega (
      arith,
      few_namers c.args.self.layout.bytes.now c.args.owned c.args.self.right,
      kept_le c.loop-namer.namer (finishes c.args.self.layout.bytes.now c.args.owned) c.loop-namer.tally c.min.result c.min-in-loop-namer.result
          ((bounds_at c.loop-namer.tally c.min.result).starts + 1) c.loop-namer.invariant.ends (omega arith) (omega arith),
    )

pub loop-namer-preserved : goal.loop-namer-preserved
loop-namer-preserved c = record {
  starts = counts_kept _ (begins c.args.self.layout.bytes.now c.args.owned) _ (λ x. x.starts) c.min-in-loop-namer.result _
      (counts_more c.loop-namer.namer (begins c.args.self.layout.bytes.now c.args.owned) c.loop-namer.tally (λ x. x.starts) c.min.result _
      c.loop-namer.invariant.starts (omega arith) (omega arith) refl)
      (omega arith) refl;
  ends = counts_more c.loop-namer.namer (finishes c.args.self.layout.bytes.now c.args.owned) _ (λ x. x.ends) c.min-in-loop-namer.result _
      (counts_kept c.loop-namer.namer (finishes c.args.self.layout.bytes.now c.args.owned) c.loop-namer.tally (λ x. x.ends) c.min.result _
      c.loop-namer.invariant.ends (omega arith) refl)
      (omega arith) (omega arith) refl;
}

pub returns : goal.returns
returns c =
    let all : c.loop-namer.namer ≡ namers c.args.self.layout.bytes.now c.args.owned = omega arith in
    record {
      starts = subst (λ n. CountsStarts n c.args.self.layout.bytes.now c.args.owned c.loop-namer.tally) all c.loop-namer.invariant.starts;
      ends = subst (λ n. CountsEnds n c.args.self.layout.bytes.now c.args.owned c.loop-namer.tally) all c.loop-namer.invariant.ends;
    }
