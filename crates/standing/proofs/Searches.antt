-- What the turns of the search keep, and what follows at its end.
use Rattle.std.proofs.Common.{◌≡◌, ℕ, zero, suc, ◌+◌, ◌*◌, ◌<◌, ◌≤◌, ◌⊎◌, List, [], ◌∷◌, ◌++◌, length, get_or, set, Some, None, Ok, Err, Option, sym, refl, ap, ◌∙◌, subst, inl, inr, ⊎_elim, arith, length-append}
use Rattle.std.specs.List.{Contains}
use Rattle.std.proofs.lemmas.List.{get_or-set_same, get_or-set_other, length-set, get_or_past}
use Rattle.std.proofs.lemmas.List.Elements.{Contains-append_left, Contains-append_right, Contains-append_cases}
use Rattle.std.proofs.lemmas.Option.{same_Some}
use Rattle.standing.specs.Standing.{Standing, stand, broken, next, other, next_place, other_place}
use Rattle.standing.specs.Paths.{shape_at, Reach, Stands}
use Rattle.standing.specs.Paths.Reach.{begin, on, off}
use Rattle.standing.specs.Entries.{item, kept_of, outermost}
use Rattle.standing.specs.Search.{limits, Opened, Represents, Exact, unknowns, Done, Searching, arrival, Leaves, LeavesAt, Noted, Visited}
use Rattle.standing.specs.declared.entry.Arrival.{Arrival}
use Rattle.standing.specs.declared.entry.Entry.{Entry}
use Rattle.standing.specs.declared.shape.Mark.{Mark}
use Rattle.standing.specs.declared.shape.Shape.{Shape}
use Rattle.standing.specs.declared.shape.Reason.{Reason}
use Rattle.standing.proofs.Represents.{none_some, Grows, opened_grows, represents_grows, represents_one, broken_same, next_same, other_same, next_opened, other_opened}

-- a place with an entry lies in the table
known_below : (u : List (Option Entry)) (i : ℕ) (e : Entry) → item u i ≡ Some e → i < length u
known_below u i e h = grind (arith, get_or_past u i None)

pub unknowns_set : (u : List (Option Entry)) (j : ℕ) (e : Entry) → item u j ≡ None → j < length u → unknowns (set u j (Some e)) + 1 ≡ unknowns u
unknowns_set [] j e h l = absurd (omega arith)
unknowns_set (None ∷ u) zero e h l = omega arith
unknowns_set (Some x ∷ u) zero e h l = absurd (none_some x h refl)
unknowns_set (None ∷ u) (suc j) e h l = grind (arith, unknowns_set u j e)
unknowns_set (Some x ∷ u) (suc j) e h l = grind (arith, unknowns_set u j e)

grows_set : (u : List (Option Entry)) (j : ℕ) (e : Entry) → item u j ≡ None → Grows u (set u j (Some e))
grows_set u j e h i f g = grind (arith, get_or-set_other)

set_only : (u : List (Option Entry)) (j : ℕ) (e : Entry) → j < length u → (i : ℕ) (f : Entry) → item (set u j (Some e)) i ≡ Some f
    → (item u i ≡ Some f) ⊎ ((i ≡ j) × (f ≡ e))
set_only u j e l i f g = grind (arith, get_or-set_other, get_or-set_same)

-- what the limits say, as facts
pub record Within (n j : ℕ) (e : Entry) : Type 0 where
  pub inside : j ≤ n
  pub low : e.height ≤ 64
  pub few : e.depth ≤ 16
  pub ended : j ≡ n → (e.height ≡ 0) × (e.depth ≡ 0)

pub within : (n j : ℕ) (e : Entry) → limits n j e ≡ None → Within n j e
within n j e h = record { inside = grind arith; low = grind arith; few = grind arith; ended = λ i. grind arith }

limits_none : (n j : ℕ) (e : Entry) → Within n j e → limits n j e ≡ None
limits_none n j e w = grind (arith, w.inside, w.low, w.few, w.ended)

-- what a path brings to a code that stands is within the limits
stands_limits : (code : List Shape) → Stands code → (j : ℕ) (t : Standing) → Reach code j t → limits (length code) j (kept_of t) ≡ None
stands_limits code h j t r =
    limits_none (length code) j (kept_of t)
    (record {
      inside = h.inside j t r;
      low = (h.small j t r).0;
      few = (h.small j t r).1;
      ended = λ s. let e : t ≡ stand 0 [] = h.ended t (subst (λ n. Reach code n t) s r) in (grind (arith, e), grind (arith, e));
    })

done_grows : {code : List Shape} {u v : List (Option Entry)} {i : ℕ} {s : Standing} → Grows u v → Represents code u i s → Done code u i → Done code v i
done_grows {code} {u} {v} {i} {s} g r d t q =
    rw (sym (represents_one (represents_grows g r) q)) (let w = d s r in (w.0, represents_grows g w.1, represents_grows g w.2))

only : (i j : ℕ) → Contains (i ∷ []) j → i ≡ j
only i j m = let first : m.0 ≡ 0 = omega (arith, m.1) in sym (ap (λ n. get_or (i ∷ []) n j) first) ∙ m.2

-- after what a path brings was noted: the standing t at the place j
pub record Stepped (code : List Shape) (u : List (Option Entry)) (p : List ℕ) (x : Option ℕ) (j : ℕ) (t : Standing)
    (v : List (Option Entry)) (q : List ℕ) : Type 0 where
  pub still : Searching code v q x
  pub grows : Grows u v
  pub there : Represents code v j t
  pub less : 2 * unknowns v + length q ≤ 2 * unknowns u + length p

module _ {code : List Shape} {u : List (Option Entry)} {p : List ℕ} {x : Option ℕ} (h : Searching code u p x)
    {j : ℕ} {t : Standing} (r : Reach code j t) (o : Opened code u t.marks) where
  noted_new : limits (length code) j (kept_of t) ≡ None → item u j ≡ None
      → Stepped code u p x j t (set u j (Some (kept_of t))) (p ++ j ∷ [])
  noted_new lim new =
      let in_table : j < length u = omega (arith, h.long, (within (length code) j (kept_of t) lim).inside) in
      let count : unknowns (set u j (Some (kept_of t))) + 1 ≡ unknowns u = unknowns_set u j (kept_of t) new in_table in
      let more : length (p ++ j ∷ []) ≡ length p + 1 = length-append p (j ∷ []) in
      let g : Grows u (set u j (Some (kept_of t))) = grows_set u j (kept_of t) new in
      let rep : Represents code (set u j (Some (kept_of t))) j t = record {
        there = get_or-set_same u j (Some (kept_of t)) None in_table;
        opened = opened_grows code u (set u j (Some (kept_of t))) g t.marks o;
      } in
      record {
        grows = g;
        there = rep;
        less = omega arith;
        still = record {
          long = length-set u j (Some (kept_of t)) ∙ h.long;
          room = omega (arith, h.room);
          first = g 0 (outermost 0) h.first;
          sound = λ i f known. ⊎_elim
              (λ (old : item u i ≡ Some f). let s = h.sound i f old in (s.0, s.1, represents_grows g s.2))
              (λ (m : (i ≡ j) × (f ≡ kept_of t)). rw m.0 (t, r, rep))
              (set_only u j (kept_of t) in_table i f known);
          low = λ i f known. grind (arith, set_only u j (kept_of t) in_table i f known, h.low i f, lim);
          done = λ i f known inside. ⊎_elim
              (λ (old : item u i ≡ Some f). ⊎_elim
              (λ (in_hand : x ≡ Some i). inl in_hand)
              (λ (rest : Contains p i ⊎ Done code u i). inr (⊎_elim
              (λ (m : Contains p i). inl (Contains-append_left p (j ∷ []) i m))
              (λ (m : Done code u i). inr (done_grows g (h.sound i f old).2 m))
              rest))
              (h.done i f old inside))
              (λ (m : (i ≡ j) × (f ≡ kept_of t)). inr (inl (Contains-append_right p (j ∷ []) i (0, omega arith, sym m.0))))
              (set_only u j (kept_of t) in_table i f known);
        };
      }

  module _ (a : Arrival) (is : a ≡ arrival j (kept_of t)) (v : List (Option Entry)) (q : List ℕ) where
    noted_ok : Noted u p (length code) a.place a.entry v q (Ok tt) → Stepped code u p x j t v q
    noted_ok m =
        let n = rw is at m in
        ⊎_elim
        (λ (m : (item u j ≡ None) × (v ≡ set u j (Some (kept_of t))) × (q ≡ p ++ j ∷ [])). rw (m.1, m.2) (noted_new n.0 m.0))
        (λ (m : (item u j ≡ Some (kept_of t)) × (v ≡ u) × (q ≡ p)).
        rw (m.1, m.2) (record { still = h; grows = λ i e f. f; there = record { there = m.0; opened = o }; less = omega arith }))
        n.1

    noted_err : (b : Reason) → Noted u p (length code) a.place a.entry v q (Err b) → Stands code → ⊥
    noted_err b m stands =
        ⊎_elim
        (λ (m : limits (length code) j (kept_of t) ≡ None → ⊥). m (stands_limits code stands j t r))
        (λ (m : (f : Entry) × (item u j ≡ Some f) × (f ≡ kept_of t → ⊥)).
        let s = h.sound j m.0 m.1 in grind (arith, s.2.there, stands.same j s.0 t s.1 r, m.1, m.2))
        (rw is at m)

-- the place in hand needs no visit any more
settled : {code : List Shape} {u : List (Option Entry)} {p : List ℕ} {i : ℕ} → Searching code u p (Some i)
    → ((e : Entry) → item u i ≡ Some e → i < length code → Done code u i) → Searching code u p None
settled {code} {u} {p} {i} h d = record {
  long = h.long;
  room = h.room;
  first = h.first;
  sound = h.sound;
  low = h.low;
  done = λ j e known inside. ⊎_elim
      (λ (m : Some i ≡ Some j).
      let s : i ≡ j = same_Some i j m in
      inr (inr (subst (Done code u) s (d e (ap (item u) s ∙ known) (omega (arith, s))))))
      (λ (m : Contains p j ⊎ Done code u j). inr m)
      (h.done j e known inside);
}

-- the place in hand has an instruction, whose entry is of the standing s: what it leaves on its two ways
pub record Left (code : List Shape) (u : List (Option Entry)) (i : ℕ) (x : Arrival × Arrival) : Type 0 where
  pub s : Standing
  pub reach : Reach code i s
  pub rep : Represents code u i s
  pub inside : i < length code
  pub fine : broken (shape_at code i) s ≡ None
  pub on_next : x.0 ≡ arrival (next_place (shape_at code i) i) (kept_of (next (shape_at code i) i s))
  pub on_other : x.1 ≡ arrival (other_place (shape_at code i) i) (kept_of (other (shape_at code i) i s))

module _ {code : List Shape} {u : List (Option Entry)} {p : List ℕ} {i : ℕ} (h : Searching code u p (Some i)) where
  -- an instruction that is broken for its entry is so for the standing
  pub visit_refused : (b : Reason) → LeavesAt code u i (Err b) → Stands code → ⊥
  visit_refused b l stands =
      let s = h.sound i l.0 l.1 in
      let w = subst (λ (y : Entry). Leaves code u i y (Err b)) (same_Some l.0 (kept_of s.0) (sym l.1 ∙ s.2.there)) l.3 in
      none_some b (broken_same code u (shape_at code i) s.0 s.2.opened ∙ stands.fine i s.0 s.1 l.2) w

  pub visit_none : LeavesAt code u i (Ok None) → Searching code u p None
  visit_none l = settled h (λ e known inside. absurd (l e known inside))

  module _ (x : Arrival × Arrival) (l : LeavesAt code u i (Ok (Some x))) where
    pub left : Left code u i x
    left =
        let s = h.sound i l.0 l.1 in
        let w = subst (λ (y : Entry). Leaves code u i y (Ok x)) (same_Some l.0 (kept_of s.0) (sym l.1 ∙ s.2.there)) l.3 in
        record {
          s = s.0;
          reach = s.1;
          rep = s.2;
          inside = l.2;
          fine = sym (broken_same code u (shape_at code i) s.0 s.2.opened) ∙ w.0;
          on_next = w.1 ∙ ap (arrival _) (next_same code u (shape_at code i) i s.0 s.2.opened);
          on_other = w.2 ∙ ap (arrival _) (other_same code u (shape_at code i) i s.0 s.2.opened);
        }

    module _ (v : List (Option Entry)) (q : List ℕ) where
      pub next_refused : (b : Reason) → Noted u p (length code) x.0.place x.0.entry v q (Err b) → Stands code → ⊥
      next_refused = noted_err h (on left.reach left.inside left.fine) (next_opened left.rep _ refl) x.0 left.on_next v q

      pub next_noted : Noted u p (length code) x.0.place x.0.entry v q (Ok tt)
          → Stepped code u p (Some i) (next_place (shape_at code i) i) (next (shape_at code i) i left.s) v q
      next_noted = noted_ok h (on left.reach left.inside left.fine) (next_opened left.rep _ refl) x.0 left.on_next v q

      module _ (n : Noted u p (length code) x.0.place x.0.entry v q (Ok tt)) (w : List (Option Entry)) (z : List ℕ) where
        still_opened : Opened code v (other (shape_at code i) i left.s).marks
        still_opened = opened_grows code u v (next_noted n).grows _ (other_opened left.rep _ refl)

        pub other_refused : (b : Reason) → Noted v q (length code) x.1.place x.1.entry w z (Err b) → Stands code → ⊥
        other_refused = noted_err (next_noted n).still (off left.reach left.inside left.fine) still_opened x.1 left.on_other w z

        pub other_noted : Noted v q (length code) x.1.place x.1.entry w z (Ok tt) → Visited code u p w z (Ok tt)
        other_noted m =
            let a = next_noted n in
            let b = noted_ok a.still (off left.reach left.inside left.fine) still_opened x.1 left.on_other w z m in
            let rep : Represents code w i left.s = represents_grows b.grows (represents_grows a.grows left.rep) in (
              settled b.still (λ e known inside t r. rw (sym (represents_one rep r)) (left.fine, represents_grows b.grows a.there, b.there)),
              omega (arith, a.less, b.less),
            )

-- the last pending place is taken in hand
pub popped : {code : List Shape} {u : List (Option Entry)} {p : List ℕ} (q : List ℕ) (i : ℕ) → Searching code u p None → p ≡ q ++ i ∷ []
    → Searching code u q (Some i)
popped {code} {u} {p} q i h e = record {
  long = h.long;
  room = omega (arith, h.room, ap length e, length-append q (i ∷ []));
  first = h.first;
  sound = h.sound;
  low = h.low;
  done = λ j f known inside. ⊎_elim
      (λ (m : None ≡ Some j). absurd (none_some j refl m))
      (λ (m : Contains p j ⊎ Done code u j). ⊎_elim
      (λ (w : Contains p j). ⊎_elim
      (λ (s : Contains q j). inr (inl s))
      (λ (s : Contains (i ∷ []) j). inl (ap Some (only i j s)))
      (Contains-append_cases q (i ∷ []) j (subst (λ y. Contains y j) e w)))
      (λ (d : Done code u j). inr (inr d))
      m)
      (h.done j f known inside);
}

-- nothing is pending: the table has what each path brings
module _ {code : List Shape} {u : List (Option Entry)} (h : Searching code u [] None) where
  all_done : {i : ℕ} {s : Standing} → Represents code u i s → i < length code → Done code u i
  all_done {i} {s} r inside =
      ⊎_elim
      (λ (m : None ≡ Some i). absurd (none_some i refl m))
      (λ (m : Contains [] i ⊎ Done code u i). ⊎_elim (λ (w : Contains [] i). absurd (omega (arith, w.1))) (λ (d : Done code u i). d) m)
      (h.done i (kept_of s) r.there inside)

  brought : {i : ℕ} {s : Standing} → Reach code i s → Represents code u i s
  brought begin = record { there = h.first; opened = tt }
  brought (on {i} {s} r l m) = let q = brought r in (all_done q l s q).1
  brought (off {i} {s} r l m) = let q = brought r in (all_done q l s q).2

  no_marks : (m : List Mark) → length m ≡ 0 → m ≡ []
  no_marks [] e = refl
  no_marks (x ∷ m) e = absurd (omega arith)

  brought_within : {i : ℕ} {s : Standing} → Reach code i s → Within (length code) i (kept_of s)
  brought_within {i} {s} r = within (length code) i (kept_of s) (h.low i (kept_of s) (brought r).there)

  pub finished : Exact code u
  finished = record {
    stands = record {
      same = λ i s t r q. represents_one (brought r) (brought q);
      fine = λ i s r l. let q = brought r in (all_done q l s q).0;
      inside = λ i s r. (brought_within r).inside;
      small = λ i s r. let w = brought_within r in (w.low, w.few);
      ended = λ s r. let w = (brought_within r).ended refl in grind (arith, w.0, no_marks s.marks w.1);
    };
    known = λ i s r. brought r;
    reached = h.sound;
  }

-- an empty table with the first place pending
module _ (code : List Shape) (u : List (Option Entry)) (long : length u ≡ length code + 1)
    (none : (i : ℕ) → i < length u → item u i ≡ None) where
  unknowns_le : (v : List (Option Entry)) → unknowns v ≤ length v
  unknowns_le [] = omega arith
  unknowns_le (None ∷ v) = omega (arith, unknowns_le v)
  unknowns_le (Some e ∷ v) = omega (arith, unknowns_le v)

  only_first : (i : ℕ) (e : Entry) → item (set u 0 (Some (outermost 0))) i ≡ Some e → (i ≡ 0) × (e ≡ outermost 0)
  only_first i e known = grind (arith, set_only u 0 (outermost 0) (omega arith) i e known, known_below u i e, none i)

  pub started : Searching code (set u 0 (Some (outermost 0))) (0 ∷ []) None
  started =
      let in_table : 0 < length u = omega arith in
      let count : unknowns (set u 0 (Some (outermost 0))) + 1 ≡ unknowns u = unknowns_set u 0 (outermost 0) (none 0 in_table) in_table in
      let here : item (set u 0 (Some (outermost 0))) 0 ≡ Some (outermost 0) = get_or-set_same u 0 (Some (outermost 0)) None in_table in
      record {
        long = length-set u 0 (Some (outermost 0)) ∙ long;
        room = omega (arith, unknowns_le u);
        first = here;
        sound = λ i e known. rw (only_first i e known).0 (stand 0 [], begin, record { there = here; opened = tt });
        low = λ i e known. grind (arith, only_first i e known);
        done = λ i e known inside. inr (inl (0, omega arith, sym (only_first i e known).0));
      }
