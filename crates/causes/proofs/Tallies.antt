-- Counting in one pass how many runs begin and end at each place tells how many runs hold a place.
use Rattle.std.proofs.Common.{◌≡◌, ℕ, ◌+◌, ◌-◌, ◌^◌, ◌<◌, ◌≤◌, min, true, ◌&&◌, eqb, ltb, leb, ◌≢◌, List, set, replicate, sym, refl, ap, ◌∙◌, subst, ⊎_elim, arith}
use Rattle.std.proofs.lemmas.List.{get_or-set_same, get_or-set_other, length-set, get_or-replicate, length-replicate}
use Rattle.std.proofs.lemmas.Bool.{cases_eq, cases_lt, eq-eqb, ne_eqb, le-leb, lt-leb, lt-ltb, le-ltb}
use Rattle.layout.specs.Bounded.{count}
use Rattle.layout.proofs.CountBelow.{count_yes, count_no, count_le, count_same, count_none, count_step, count_between}
use Rattle.rules.specs.Rules.{run_start, run_end, names, owners, namers, owned_in}
use Rattle.rules.specs.declared.Owned.{Owned}
use Rattle.rules.specs.declared.Owned.TheVariants.{Block, Code, Instruction}
use Rattle.causes.specs.Causes.{header_rules, all_kept}
use Rattle.causes.proofs.HeaderBounds.{few_named, few_namers}
use Rattle.causes.specs.Tally.{begins, finishes, bounds_at, Counts, CountsStarts, CountsEnds}
use Rattle.causes.specs.declared.owners.Bounds.{Bounds}

pub counts_none : (f : ℕ → ℕ) (counter : Bounds → ℕ) → counter (record { starts = 0; ends = 0 }) ≡ 0
    → Counts 0 f (replicate 5458 (record { starts = 0; ends = 0 })) counter
counts_none f counter z = record {
  long = length-replicate {A = Bounds} 5458 (record { starts = 0; ends = 0 });
  counted = λ k l. ap counter (get_or-replicate {A = Bounds} 5458 k (record { starts = 0; ends = 0 }) (record { starts = 0; ends = 0 }) l) ∙ z;
}

module _ (n : ℕ) (f : ℕ → ℕ) (table : List Bounds) (counter : Bounds → ℕ) (place : ℕ) (x : Bounds) (h : Counts n f table counter) (l : place < 5458) where
  put_there : bounds_at (set table place x) place ≡ x
  put_there = get_or-set_same table place x _ (omega (arith, h.long))

  put_elsewhere : (k : ℕ) → k ≢ place → bounds_at (set table place x) k ≡ bounds_at table k
  put_elsewhere k ne = get_or-set_other table place k x _ ne

  -- one more number goes to its place
  pub counts_more : place ≡ f n → counter x ≡ counter (bounds_at table place) + 1 → Counts (n + 1) f (set table place x) counter
  counts_more e one = record {
    long = length-set table place x ∙ h.long;
    counted = λ k m. ⊎_elim
        (λ (same : k ≡ place).
        subst (λ y. counter (bounds_at (set table place x) y) ≡ count (n + 1) (λ j. eqb (f j) y)) (sym same)
        (ap counter put_there ∙ one ∙ ap (λ y. y + 1) (h.counted place l)
        ∙ sym (count_yes (λ j. eqb (f j) place) n (eq-eqb (f n) place (sym e)))))
        (λ (other : k ≡ place → ⊥).
        ap counter (put_elsewhere k other) ∙ h.counted k m
        ∙ sym (count_no (λ j. eqb (f j) k) n (ne_eqb (f n) k (λ q. other (sym (e ∙ q))))))
        (cases_eq k place);
  }

  -- a counter that stays as it was
  pub counts_kept : counter x ≡ counter (bounds_at table place) → Counts n f (set table place x) counter
  counts_kept e = record {
    long = length-set table place x ∙ h.long;
    counted = λ k m. ⊎_elim
        (λ (same : k ≡ place).
        subst (λ y. counter (bounds_at (set table place x) y) ≡ count n (λ j. eqb (f j) y)) (sym same)
        (ap counter put_there ∙ e ∙ h.counted place l))
        (λ (other : k ≡ place → ⊥). ap counter (put_elsewhere k other) ∙ h.counted k m)
        (cases_eq k place);
  }

pub counts_le : (n : ℕ) (f : ℕ → ℕ) (table : List Bounds) (counter : Bounds → ℕ) (k : ℕ) → Counts n f table counter → k < 5458
    → counter (bounds_at table k) ≤ n
counts_le n f table counter k h l = omega (arith, h.counted k l, count_le (λ j. eqb (f j) k) n)

-- the same where the other counter of a place was just raised
pub kept_le : (n : ℕ) (f : ℕ → ℕ) (table : List Bounds) (place k starts : ℕ) → Counts n f table (λ x. x.ends) → place < 5458 → k < 5458
    → (bounds_at (set table place (record { starts = starts; ends = (bounds_at table place).ends })) k).ends ≤ n
kept_le n f table place k starts h l m =
    counts_le n f (set table place (record { starts = starts; ends = (bounds_at table place).ends })) (λ x. x.ends) k
    (counts_kept n f table (λ x. x.ends) place (record { starts = starts; ends = (bounds_at table place).ends }) h l refl) m

-- a place below the bound does not see that a run is held to the bound
leb_min : (x i m : ℕ) → i < m → leb (min x m) i ≡ leb x i
leb_min x i m l =
    ⊎_elim
    (λ (h : i < x). lt-leb (min x m) i (omega arith) ∙ sym (lt-leb x i h))
    (λ (h : x ≤ i). le-leb (min x m) i (omega arith) ∙ sym (le-leb x i h))
    (cases_lt i x)

ltb_min : (y i m : ℕ) → i < m → ltb i (min y m) ≡ ltb i y
ltb_min y i m l =
    ⊎_elim
    (λ (h : i < y). lt-ltb i (min y m) (omega arith) ∙ sym (lt-ltb i y h))
    (λ (h : y ≤ i). le-ltb i (min y m) (omega arith) ∙ sym (le-ltb i y h))
    (cases_lt i y)

run_forward : (b : List ℕ) (o : Owned) (j : ℕ) → run_start b o j ≤ run_end b o j
run_forward b Block j = omega arith
run_forward b Code j = omega arith
run_forward b Instruction j = omega arith

-- how many runs hold the place i, held to the bound or not
owners_held : (b : List ℕ) (o : Owned) (i : ℕ) → i < 5457
    → count (namers b o) (λ j. leb (begins b o j) i && ltb i (finishes b o j)) ≡ owners b o i
owners_held b o i l =
    count_same (λ j. leb (begins b o j) i && ltb i (finishes b o j)) (names b o i) (namers b o)
    (λ j k. let x = leb_min (run_start b o j) i 5457 l in let y = ltb_min (run_end b o j) i 5457 l in simp (x, y))

-- while the places are gone through: `open` runs have begun before the place i and not ended
pub record Scanned (b : List ℕ) (o : Owned) (i opened : ℕ) : Type 0 where
  pub level : opened + count (namers b o) (λ j. ltb (finishes b o j) i) ≡ count (namers b o) (λ j. ltb (begins b o j) i)

pub scan_none : (b : List ℕ) (o : Owned) → Scanned b o 0 0
scan_none b o = record {
  level =
      let x : count (namers b o) (λ j. ltb (finishes b o j) 0) ≡ 0 = count_none (λ j. ltb (finishes b o j) 0) (namers b o) (λ j l. le-ltb _ 0 (omega arith)) in
      let y : count (namers b o) (λ j. ltb (begins b o j) 0) ≡ 0 = count_none (λ j. ltb (begins b o j) 0) (namers b o) (λ j l. le-ltb _ 0 (omega arith)) in
      omega arith;
}

module _ (b : List ℕ) (o : Owned) (i opened : ℕ) (table : List Bounds) (l : i < 5457) (h : Scanned b o i opened)
    (s : CountsStarts (namers b o) b o table) (e : CountsEnds (namers b o) b o table) where
  balance : (opened + (bounds_at table i).starts) + count (namers b o) (λ j. ltb (finishes b o j) i)
      ≡ count (namers b o) (λ j. ltb (begins b o j) (i + 1))
  balance = omega (arith, h.level, s.counted i (omega arith), count_step (begins b o) i (namers b o))

  forward : (j : ℕ) → begins b o j ≤ finishes b o j
  forward j = omega (arith, run_forward b o j)

  held : owners b o i + count (namers b o) (λ j. ltb (finishes b o j) (i + 1)) ≡ count (namers b o) (λ j. ltb (begins b o j) (i + 1))
  held = subst (λ x. x + count (namers b o) (λ j. ltb (finishes b o j) (i + 1)) ≡ count (namers b o) (λ j. ltb (begins b o j) (i + 1)))
      (owners_held b o i l) (count_between (begins b o) (finishes b o) i (namers b o) forward)

  ended : count (namers b o) (λ j. ltb (finishes b o j) (i + 1)) ≡ count (namers b o) (λ j. ltb (finishes b o j) i) + (bounds_at table i).ends
  ended = omega (arith, e.counted i (omega arith), count_step (finishes b o) i (namers b o))

  pub opened_few : opened + (bounds_at table i).starts ≤ namers b o + namers b o
  opened_few =
      omega (arith, h.level, count_le (λ j. ltb (begins b o j) i) (namers b o), counts_le (namers b o) (begins b o) table (λ x. x.starts) i s (omega arith))

-- what one turn of the scan comes to: the sum fits, does not go below 0, and is the number of owners
pub record Turn (b : List ℕ) (o : Owned) (i opened : ℕ) (at : Bounds) : Type 0 where
  pub fits : opened + at.starts < 2 ^ 64
  pub covers : at.ends ≤ opened + at.starts
  pub is : opened + at.starts - at.ends ≡ owners b o i
  pub next : Scanned b o (i + 1) (opened + at.starts - at.ends)

pub turn : (b : List ℕ) (o : Owned) (i n opened : ℕ) (table : List Bounds) (at : Bounds) → all_kept b header_rules ≡ true
    → n ≡ owned_in b o → i < n → at ≡ bounds_at table i → Scanned b o i opened
    → CountsStarts (namers b o) b o table → CountsEnds (namers b o) b o table → Turn b o i opened at
turn b o i n opened table at head e l is h s f =
    let few : i < 5457 = omega (arith, few_named b o head) in
    subst (Turn b o i opened) (sym is)
    (record {
      fits = omega (arith, opened_few b o i opened table few h s f, few_namers b o head);
      covers = omega (arith, balance b o i opened table few h s f, held b o i opened table few h s f, ended b o i opened table few h s f);
      is = omega (arith, balance b o i opened table few h s f, held b o i opened table few h s f, ended b o i opened table few h s f);
      next = record { level = omega (arith, balance b o i opened table few h s f, held b o i opened table few h s f, ended b o i opened table few h s f) };
    })
