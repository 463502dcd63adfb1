-- How the check searches: which entries it takes, and what holds between its turns.
use Rattle.std.specs.Prelude.{◌≡◌, ℕ, suc, ◌+◌, ◌*◌, ◌<◌, ◌≤◌, not, ◌&&◌, ◌||◌, ◌⊎◌, List, [], ◌∷◌, ◌++◌, length, Some, None, Ok, Err, Option, Result, ◌==◌, ◌≢◌, nat_le, slice_set, Contains}
use Rattle.layout.specs.Bounded.{first_or}
use Rattle.standing.specs.Standing.{Standing, unless, broken, next, other, next_place, other_place}
use Rattle.standing.specs.Paths.{shape_at, Reach, Stands}
use Rattle.standing.specs.Entries.{item, kept, kept_of, opens_mark, outermost, mark_of, entry_broken, next_entry, other_entry}
use Rattle.standing.specs.declared.entry.Entry.{Entry}
use Rattle.standing.specs.declared.entry.Arrival.{Arrival}
use Rattle.standing.specs.declared.shape.Broken.{Broken}
use Rattle.standing.specs.declared.shape.Mark.{Mark}
use Rattle.standing.specs.declared.shape.Shape.{Shape}
use Rattle.standing.specs.declared.shape.Reason.{Reason}
use Rattle.standing.specs.declared.shape.Reason.TheVariants.{TooHigh, TooManyMarks, NotEmptyAtEnd, Outside}

-- why an entry cannot stand at the place j of a code with n instructions, whatever paths bring it there
abbrev pub limits : ℕ → ℕ → Entry → Option Reason
limits n j e =
    first_or (unless (nat_le j n) Outside) (first_or (unless (nat_le e.height 64) TooHigh)
    (first_or (unless (nat_le e.depth 16) TooManyMarks)
    (unless (not (j == n) || (e.height == 0 && e.depth == 0)) NotEmptyAtEnd)))

-- the entry of a mark's instruction has the marks outside it
pub record OpensAt (code : List Shape) (u : List (Option Entry)) (x : Mark) (m : List Mark) : Type 0 where
  pub height : ℕ
  pub there : item u x.place ≡ Some (kept height m)
  pub is : opens_mark x.place (shape_at code x.place) height ≡ Some x

abbrev pub Opened : List Shape → List (Option Entry) → List Mark → Type 0
Opened code u [] = Unit {0}
Opened code u (x ∷ m) = OpensAt code u x m × Opened code u m

-- the entry at a place stands for this standing
pub record Represents (code : List Shape) (u : List (Option Entry)) (i : ℕ) (s : Standing) : Type 0 where
  pub there : item u i ≡ Some (kept_of s)
  pub opened : Opened code u s.marks

-- the table and the paths agree: an entry stands for what some path brings, and what a path brings has its entry
pub record Exact (code : List Shape) (u : List (Option Entry)) : Type 0 where
  pub stands : Stands code
  pub known : (i : ℕ) (s : Standing) → Reach code i s → Represents code u i s
  pub reached : (i : ℕ) (e : Entry) → item u i ≡ Some e → (s : Standing) × Reach code i s × Represents code u i s

abbrev pub Judged : List Shape → List (Option Entry) → Result (Unit {0}) Broken → Type 0
Judged code u (Ok x) = Exact code u
Judged code u (Err b) = length code ≤ 1024 → Stands code → ⊥

-- how many places have no entry yet
abbrev pub unknowns : List (Option Entry) → ℕ
unknowns [] = 0
unknowns (None ∷ u) = suc (unknowns u)
unknowns (Some e ∷ u) = unknowns u

-- the instruction at i is not broken, and what it leaves has its entries
abbrev pub Done : List Shape → List (Option Entry) → ℕ → Type 0
Done code u i = (s : Standing) → Represents code u i s
    → (broken (shape_at code i) s ≡ None) × Represents code u (next_place (shape_at code i) i) (next (shape_at code i) i s)
    × Represents code u (other_place (shape_at code i) i) (other (shape_at code i) i s)

-- Between the turns of the search: u is the table, and p are the places still to be visited. Each place with an entry is
-- done or pending, but for the place x that is in hand.
pub record Searching (code : List Shape) (u : List (Option Entry)) (p : List ℕ) (x : Option ℕ) : Type 0 where
  pub long : length u ≡ length code + 1
  pub room : length p + unknowns u ≤ length code + 1
  pub first : item u 0 ≡ Some (outermost 0)
  pub sound : (i : ℕ) (e : Entry) → item u i ≡ Some e → (s : Standing) × Reach code i s × Represents code u i s
  pub low : (i : ℕ) (e : Entry) → item u i ≡ Some e → limits (length code) i e ≡ None
  pub done : (i : ℕ) (e : Entry) → item u i ≡ Some e → i < length code → (x ≡ Some i) ⊎ (Contains p i ⊎ Done code u i)

abbrev pub arrival : ℕ → Entry → Arrival
arrival j e = record { place = j; entry = e }

-- what the instruction at i leaves on its two ways, where e is the entry there; or why it is broken
abbrev pub Leaves : List Shape → List (Option Entry) → ℕ → Entry → Result (Arrival × Arrival) Reason → Type 0
Leaves code u i e (Ok x) =
    (entry_broken (shape_at code i) (mark_of code u e.inner) e ≡ None)
    × (x.0 ≡ arrival (next_place (shape_at code i) i) (next_entry u (shape_at code i) i e))
    × (x.1 ≡ arrival (other_place (shape_at code i) i) (other_entry u (shape_at code i) i e))
Leaves code u i e (Err r) = entry_broken (shape_at code i) (mark_of code u e.inner) e ≡ Some r

-- the same for a place, which may have no entry or no instruction
abbrev pub LeavesAt : List Shape → List (Option Entry) → ℕ → Result (Option (Arrival × Arrival)) Reason → Type 0
LeavesAt code u i (Ok None) = (e : Entry) → item u i ≡ Some e → i < length code → ⊥
LeavesAt code u i (Ok (Some x)) = (e : Entry) × (item u i ≡ Some e) × (i < length code) × Leaves code u i e (Ok x)
LeavesAt code u i (Err r) = (e : Entry) × (item u i ≡ Some e) × (i < length code) × Leaves code u i e (Err r)

-- an entry is noted: it is new and pending then, or it was there; or it cannot stand, or another one is there
abbrev pub Noted : List (Option Entry) → List ℕ → ℕ → ℕ → Entry → List (Option Entry) → List ℕ → Result (Unit {0}) Reason → Type 0
Noted u p n j e v q (Ok x) =
    (limits n j e ≡ None)
    × (((item u j ≡ None) × (v ≡ slice_set u j (Some e)) × (q ≡ p ++ j ∷ [])) ⊎ ((item u j ≡ Some e) × (v ≡ u) × (q ≡ p)))
Noted u p n j e v q (Err r) = (limits n j e ≢ None) ⊎ ((f : Entry) × (item u j ≡ Some f) × (f ≢ e))

-- a place is visited: the search goes on, with less to do, or the code does not stand
abbrev pub Visited : List Shape → List (Option Entry) → List ℕ → List (Option Entry) → List ℕ → Result (Unit {0}) Reason → Type 0
Visited code u p v q (Ok x) = Searching code v q None × (2 * unknowns v + length q ≤ 2 * unknowns u + length p)
Visited code u p v q (Err r) = Stands code → ⊥
