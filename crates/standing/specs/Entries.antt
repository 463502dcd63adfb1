-- The table of the check: for each place what it keeps of the standing there. A mark is known by its instruction, whose
-- own entry has the rest. It assumes nothing.
use Rattle.std.specs.Prelude.{ℕ, suc, ◌+◌, ◌-◌, Bool, true, false, cond, List, [], ◌∷◌, length, Some, None, Option, slice_index_or}
use Rattle.layout.specs.Bounded.{first_or}
use Rattle.standing.specs.Standing.{Standing, mark, is_scope, is_capture, is_loop, in_loop, no_capture, unless, takes, closes_loop}
use Rattle.standing.specs.Paths.{shape_at}
use Rattle.standing.specs.declared.entry.Entry.{Entry}
use Rattle.standing.specs.declared.shape.MarkKind.{MarkKind}
use Rattle.standing.specs.declared.shape.Mark.{Mark}
use Rattle.standing.specs.declared.shape.Shape.{Shape}
use Rattle.standing.specs.declared.shape.Shape.TheVariants.{Plain, Inside, Turn, Goto, Branch, Opens, EndsScope, EndsCapture, EndsLoop, Load}
use Rattle.standing.specs.declared.shape.Reason.{Reason}
use Rattle.standing.specs.declared.shape.Reason.TheVariants.{NoLoop, WrongPartner, OpenCapture}

abbrev pub entry_of : ℕ → Option ℕ → ℕ → Bool → Bool → Entry
entry_of h j d l c = record { height = h; inner = j; depth = d; looped = l; clear = c }

abbrev pub item : List (Option Entry) → ℕ → Option Entry
item u i = slice_index_or u i None

-- what an entry keeps of a standing
abbrev pub inner_of : List Mark → Option ℕ
inner_of [] = None
inner_of (x ∷ m) = Some x.place

abbrev pub kept : ℕ → List Mark → Entry
kept h m = entry_of h (inner_of m) (length m) (in_loop m) (no_capture m)

abbrev pub kept_of : Standing → Entry
kept_of s = kept s.height s.marks

-- the mark that an instruction opens at a height
abbrev pub opens_mark : ℕ → Shape → ℕ → Option Mark
opens_mark j (Plain n g) h = None
opens_mark j Inside h = None
opens_mark j (Turn t) h = None
opens_mark j (Goto t) h = None
opens_mark j (Branch t g) h = None
opens_mark j (Opens k n) h = Some (mark j k (h - n))
opens_mark j EndsScope h = None
opens_mark j EndsCapture h = None
opens_mark j EndsLoop h = None
opens_mark j Load h = None

abbrev pub mark_in : ℕ → Shape → Option Entry → Option Mark
mark_in j x None = None
mark_in j x (Some e) = opens_mark j x e.height

-- the innermost mark
abbrev pub mark_of : List Shape → List (Option Entry) → Option ℕ → Option Mark
mark_of code u None = None
mark_of code u (Some j) = mark_in j (shape_at code j) (item u j)

abbrev pub mark_floor : Option Mark → ℕ
mark_floor None = 0
mark_floor (Some x) = x.height

abbrev pub closes_mark : (Mark → Option Reason) → Option Mark → Option Reason
closes_mark f None = Some WrongPartner
closes_mark f (Some x) = f x

abbrev pub entry_broken : Shape → Option Mark → Entry → Option Reason
entry_broken (Plain n g) x e = takes (mark_floor x) n e.height
entry_broken Inside x e = unless e.looped NoLoop
entry_broken (Turn t) x e = unless e.looped NoLoop
entry_broken (Goto t) x e = None
entry_broken (Branch t g) x e = takes (mark_floor x) 1 e.height
entry_broken (Opens k n) x e = takes (mark_floor x) n e.height
entry_broken EndsScope x e = closes_mark (λ y. unless (is_scope y.kind) WrongPartner) x
entry_broken EndsCapture x e = closes_mark (λ y. unless (is_capture y.kind) WrongPartner) x
entry_broken EndsLoop x e = closes_mark (λ y. closes_loop e.height y.kind y.height) x
entry_broken Load x e = first_or (takes (mark_floor x) 1 e.height) (unless e.clear OpenCapture)

abbrev pub with_height : ℕ → Entry → Entry
with_height h e = entry_of h e.inner e.depth e.looped e.clear

abbrev pub outermost : ℕ → Entry
outermost h = entry_of h None 0 false true

abbrev pub outer_in : ℕ → Option Entry → Entry
outer_in h None = outermost h
outer_in h (Some e) = with_height h e

-- as where the innermost mark opened
abbrev pub outer_entry : List (Option Entry) → ℕ → Option ℕ → Entry
outer_entry u h None = outermost h
outer_entry u h (Some j) = outer_in h (item u j)

abbrev pub opened_entry : MarkKind → ℕ → ℕ → Entry → Entry
opened_entry k i h e = entry_of h (Some i) (suc e.depth) (cond (is_loop k) true e.looped) (cond (is_capture k) false e.clear)

abbrev pub next_entry : List (Option Entry) → Shape → ℕ → Entry → Entry
next_entry u (Plain n g) i e = with_height (e.height - n + g) e
next_entry u Inside i e = with_height (e.height - 0 + 1) e
next_entry u (Turn t) i e = with_height (e.height - 0 + 1) e
next_entry u (Goto t) i e = e
next_entry u (Branch t g) i e = with_height (e.height - 1 + 0) e
next_entry u (Opens k n) i e = opened_entry k i (e.height - n) e
next_entry u EndsScope i e = outer_entry u e.height e.inner
next_entry u EndsCapture i e = outer_entry u (e.height + 1) e.inner
next_entry u EndsLoop i e = outer_entry u e.height e.inner
next_entry u Load i e = with_height (e.height - 1 + 0) e

abbrev pub other_entry : List (Option Entry) → Shape → ℕ → Entry → Entry
other_entry u (Plain n g) i e = next_entry u (Plain n g) i e
other_entry u Inside i e = next_entry u Inside i e
other_entry u (Turn t) i e = e
other_entry u (Goto t) i e = e
other_entry u (Branch t g) i e = with_height (e.height - 1 + g) e
other_entry u (Opens k n) i e = next_entry u (Opens k n) i e
other_entry u EndsScope i e = next_entry u EndsScope i e
other_entry u EndsCapture i e = next_entry u EndsCapture i e
other_entry u EndsLoop i e = next_entry u EndsLoop i e
other_entry u Load i e = next_entry u Load i e
