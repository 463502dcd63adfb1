use Rattle.std.proofs.Common.{length, sym, ◌∙◌, arith, rules}
use Rattle.standing.proofs.Searches.{within}
use Rattle.standing.proofs.search.Search.leaves.Goals as goal

pub invariant_of-visit : goal.invariant_of-visit
invariant_of-visit c =
    let w = within (length c.args.self.now.code.now) c.args.place c.in-Some-entry_at.«entry» (c.requires.low c.args.place c.in-Some-entry_at.«entry» (sym c.entry_at.ensures ∙ c.in-Some-entry_at.is)) in
    record { short = c.args.self.now.short; inside = search rules; read = search rules; low = omega (arith, w.low); few = omega (arith, w.few) }
