use Rattle.std.proofs.Common.{◌≡◌, ◌+◌, ◌*◌, length, None}
use Rattle.standing.specs.Search.{unknowns, Searching}
use Rattle.standing.proofs.search.Search.run.Given as goal

abbrev pub invariant-loop-place : goal.invariant-loop-place
invariant-loop-place l = record {
  same_entries : l.search.entries.ghost_name ≡ l.initial.search.entries.ghost_name;
  same_code : l.search.code.now ≡ l.code;
  searching : Searching l.code l.search.entries.now l.search.pending.now.items None;
}

abbrev pub decreases-loop-place : goal.decreases-loop-place
decreases-loop-place l = 2 * unknowns l.search.entries.now + length l.search.pending.now.items
