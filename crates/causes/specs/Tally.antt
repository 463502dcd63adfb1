-- What the search for a broken rule keeps: of the records that name others, how many begin, or end, the run that they
-- name at a given place; and which blocks have different names.
use Rattle.std.specs.Prelude.{◌≡◌, ℕ, ◌<◌, min, Bool, not, List, length, nat_eq, slice_index, slice_index_or}
use Rattle.std.specs.Str.{bytes_eq}
use Rattle.layout.specs.Bounded.{count, each}
use Rattle.rules.specs.Rules.{run_start, run_end, block_name}
use Rattle.rules.specs.declared.Owned.{Owned}
use Rattle.causes.specs.declared.owners.Bounds.{Bounds}

-- where a run begins and ends, as the table has it: what lies past its last place counts there
abbrev pub begins : List ℕ → Owned → ℕ → ℕ
begins b o j = min (run_start b o j) 5457

abbrev pub finishes : List ℕ → Owned → ℕ → ℕ
finishes b o j = min (run_end b o j) 5457

abbrev pub bounds_at : List Bounds → ℕ → Bounds
bounds_at table k = slice_index_or table k (record { starts = 0; ends = 0 })

-- the counter has, for each place of the table, how many of the first n numbers f sends there
pub record Counts (n : ℕ) (f : ℕ → ℕ) (table : List Bounds) (counter : Bounds → ℕ) : Type 0 where
  pub long : length table ≡ 5458
  pub counted : (k : ℕ) → k < 5458 → counter (bounds_at table k) ≡ count n (λ j. nat_eq (f j) k)

abbrev pub CountsStarts : ℕ → List ℕ → Owned → List Bounds → Type 0
CountsStarts n b o table = Counts n (begins b o) table (λ x. x.starts)

abbrev pub CountsEnds : ℕ → List ℕ → Owned → List Bounds → Type 0
CountsEnds n b o table = Counts n (finishes b o) table (λ x. x.ends)

-- the k-th of these blocks has another name than the block i
abbrev pub other_than : List ℕ → List ℕ → ℕ → ℕ → Bool
other_than b blocks i k = not (bytes_eq (block_name b (slice_index blocks k)) (block_name b i))

-- none of these blocks has the name of the block i
abbrev pub new_among : List ℕ → List ℕ → ℕ → Bool
new_among b blocks i = each (length blocks) (other_than b blocks i)
