-- An entry of the table stands for a whole standing: its marks are read from the entries of their instructions.
use Rattle.std.proofs.Common.{◌≡◌, ℕ, ◌+◌, List, [], ◌∷◌, Some, None, Option, refl, arith}
use Rattle.std.specs.List.{slice_get}
use Rattle.standing.specs.Standing.{Standing, outer, broken, next, other}
use Rattle.standing.specs.Paths.{shape_at}
use Rattle.standing.specs.Entries.{item, inner_of, kept, kept_of, mark_of, entry_broken, outer_entry, next_entry, other_entry}
use Rattle.standing.specs.Search.{Opened, Represents}
use Rattle.standing.specs.declared.entry.Entry.{Entry}
use Rattle.standing.specs.declared.shape.Mark.{Mark}
use Rattle.standing.specs.declared.shape.Shape.{Shape}
use Rattle.standing.specs.declared.shape.Shape.TheVariants.{Turn, Goto, Branch, Opens, EndsScope, EndsCapture, EndsLoop}

pub none_some : {A : Type 0} {o : Option A} (x : A) → o ≡ None → o ≡ Some x → ⊥
none_some x e f = grind arith

-- the table only grows: what is known stays
abbrev pub Grows : List (Option Entry) → List (Option Entry) → Type 0
Grows u v = (i : ℕ) (e : Entry) → item u i ≡ Some e → item v i ≡ Some e

pub opened_grows : (code : List Shape) (u v : List (Option Entry)) → Grows u v → (m : List Mark) → Opened code u m → Opened code v m
opened_grows code u v g [] o = tt
opened_grows code u v g (x ∷ m) o =
    (record { height = o.0.height; there = g x.place (kept o.0.height m) o.0.there; is = o.0.is }, opened_grows code u v g m o.1)

pub represents_grows : {code : List Shape} {u v : List (Option Entry)} {i : ℕ} {s : Standing} → Grows u v → Represents code u i s → Represents code v i s
represents_grows {code} {u} {v} {i} {s} g r = record { there = g i (kept_of s) r.there; opened = opened_grows code u v g s.marks r.opened }

module _ (code : List Shape) (u : List (Option Entry)) where
  same_marks : (m n : List Mark) → Opened code u m → Opened code u n → inner_of m ≡ inner_of n → m ≡ n
  same_marks [] [] o q e = refl
  same_marks (x ∷ m) (y ∷ n) o q e = grind (arith, same_marks m n, o, q)
  same_marks _ _ o q e = absurd (grind arith)

  mark_same : (m : List Mark) → Opened code u m → mark_of code u (inner_of m) ≡ slice_get m 0
  mark_same [] o = refl
  mark_same (x ∷ m) o = grind (arith, o.0.there, o.0.is)

  pub broken_same : (x : Shape) (s : Standing) → Opened code u s.marks
      → entry_broken x (mark_of code u (inner_of s.marks)) (kept_of s) ≡ broken x s
  broken_same x s o = grind (arith, mark_same s.marks o)

  outer_same : (h : ℕ) (m : List Mark) → Opened code u m → outer_entry u h (inner_of m) ≡ kept h (outer m)
  outer_same h [] o = refl
  outer_same h (x ∷ m) o = grind (arith, o.0.there)

  pub next_same : (x : Shape) (i : ℕ) (s : Standing) → Opened code u s.marks → next_entry u x i (kept_of s) ≡ kept_of (next x i s)
  next_same x i s o = grind (arith, outer_same s.height s.marks o, outer_same (s.height + 1) s.marks o)

  pub other_same : (x : Shape) (i : ℕ) (s : Standing) → Opened code u s.marks → other_entry u x i (kept_of s) ≡ kept_of (other x i s)
  other_same x i s o = grind (arith, outer_same s.height s.marks o, outer_same (s.height + 1) s.marks o)

  outer_opened : (m : List Mark) → Opened code u m → Opened code u (outer m)
  outer_opened [] o = tt
  outer_opened (x ∷ m) o = o.1

module _ {code : List Shape} {u : List (Option Entry)} {i : ℕ} {s : Standing} (r : Represents code u i s) where
  -- an entry stands for one standing only
  pub represents_one : {t : Standing} → Represents code u i t → s ≡ t
  represents_one {t} q = grind (arith, same_marks code u s.marks t.marks r.opened q.opened, r.there, q.there)

  -- the marks of what an instruction leaves have their entries too
  pub next_opened : (x : Shape) → shape_at code i ≡ x → Opened code u (next x i s).marks
  next_opened (Opens k n) q = (record { height = s.height; there = r.there; is = grind (arith, q) }, r.opened)
  next_opened EndsScope q = outer_opened code u s.marks r.opened
  next_opened EndsCapture q = outer_opened code u s.marks r.opened
  next_opened EndsLoop q = outer_opened code u s.marks r.opened
  next_opened _ q = r.opened

  pub other_opened : (x : Shape) → shape_at code i ≡ x → Opened code u (other x i s).marks
  other_opened (Turn t) q = r.opened
  other_opened (Goto t) q = r.opened
  other_opened (Branch t g) q = r.opened
  other_opened x q = next_opened x q
