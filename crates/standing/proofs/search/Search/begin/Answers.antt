use Rattle.std.proofs.Common.{ℕ, None, ◌≡◌, ◌<◌, length, rules, arith}
use Rattle.standing.specs.Entries.{item}
use Rattle.standing.proofs.Searches.{started}
use Rattle.standing.proofs.search.Search.begin.Goals as goal

pub returns-clause-begun : goal.returns-clause-begun
returns-clause-begun c =
    let none : (k : ℕ) → k < length c.fill.new.self → item c.fill.new.self k ≡ None = λ k l. search (rules, c.fill.ensures.clones) in
    rw (c.outermost.ensures, c.push.ensures.items, c.clear.ensures) (started c.args.code.now c.fill.new.self (omega (arith, c.fill.ensures.len, c.requires.ends)) none)
