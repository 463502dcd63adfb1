use Rattle.std.proofs.Common.{◌<◌, length, arith, rules}
use Rattle.standing.proofs.Searches.{unknowns_set, within}
use Rattle.standing.proofs.search.Search.note.Goals as goal

-- an entry that is not there yet leaves room among the pending places
pub push-requires : goal.push-requires
push-requires c =
    let w = within (length c.args.self.now.code.now) c.args.arrival.place c.args.arrival.«entry» (search rules) in
    let inside : c.args.arrival.place < length c.args.self.now.entries.now = omega (arith, w.inside, c.args.self.now.ends) in
    let count = unknowns_set c.args.self.now.entries.now c.args.arrival.place c.args.arrival.«entry» (search rules) inside in
    (omega arith, omega (arith, count, c.requires, c.args.self.now.short, c.args.self.now.ends))
