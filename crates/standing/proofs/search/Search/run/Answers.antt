use Rattle.std.proofs.Common.{rules, ◌≡◌, sym, subst, List, [], Option}
use Rattle.standing.specs.Search.{Exact}
use Rattle.standing.specs.declared.entry.Entry.{Entry}
use Rattle.standing.proofs.Searches.{popped, finished}
use Rattle.standing.proofs.search.Search.run.Goals as goal

pub visit-requires : goal.visit-requires
visit-requires c = rw c.loop-place.invariant.same_code (popped _ _ c.loop-place.invariant.searching c.in-Some.ensures.items)

-- what was behind the reference at the last turn is what the caller has
exact_at : (code : _) (u v : List (Option Entry)) → v ≡ u → Exact code u → Exact code v
exact_at code u v e x = subst (Exact code) (sym e) x

pub returns : goal.returns
returns c = let q : c.loop-place.search.pending.now.items ≡ [] = search rules in
    exact_at _ c.loop-place.search.entries.now _ (search rules) (finished (rw q at c.loop-place.invariant.searching))
