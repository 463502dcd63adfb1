-- `find` and `all` over the numbers below a bound.
use Rattle.std.proofs.Common.{◌≡◌, ℕ, zero, suc, ◌+◌, ◌<◌, ◌≤◌, Bool, true, false, not, ◌&&◌, List, [], ◌∷◌, length, get_or, take, Some, None, Option, sym, refl, ap, ◌∙◌, subst, arith}
use Rattle.std.specs.Fn.{Called, CalledAt}
use Rattle.std.specs.Iterator.{YieldsThen}
use Rattle.std.specs.List.{FoldsTo, range_with_len, list_all}
use Rattle.std.specs.Bool.{⊤}
use Rattle.std.specs.Option.{MatchOption}
use Rattle.std.specs.declared.ops.Range.{Range}
use Rattle.std.proofs.iter.Yields.{nat_range_steps}
use Rattle.std.proofs.lemmas.Iterator.{first_from_Range, YieldsList-from_range}
use Rattle.std.proofs.lemmas.Iterator.Search.{all_from_yields_List}
use Rattle.std.proofs.lemmas.List.{take_all}
use Rattle.std.proofs.lemmas.List.Folds.{list_all_more}
use Rattle.std.proofs.lemmas.List.FromFn.{length-range_with_len, get_or-range_with_len}
use Rattle.layout.specs.Bounded.{each, first_not}
use Rattle.layout.proofs.EachBelow.{each_from, first_not_is, first_not_none}
use denote.Param.Members.{Mut}
use denote.Ref.{Bor}

yes_not : (t : Bool) → true ≡ not t → t ≡ false
yes_not true e = e
yes_not false e = refl

no_not : (t : Bool) → false ≡ not t → t ≡ true
no_not true e = refl
no_not false e = e

module _ (p : ℕ → Bool) (n : ℕ) where
  first_is : (r : Option ℕ)
      → MatchOption r ((k : ℕ) → 0 ≤ k → k < n → p k ≡ true) (λ i. (0 ≤ i) × (i < n) × (p i ≡ false) × ((k : ℕ) → 0 ≤ k → k < i → p k ≡ true))
      → r ≡ first_not n p
  first_is None h = sym (first_not_none p n (each_from p n (λ k l. h k (omega arith) l)))
  first_is (Some i) h = sym (first_not_is p n i h.1 (each_from p i (λ k l. h.3 k (omega arith) l)) h.2)

  -- `(0..n).find(|k| !p(*k))` is the first number of which p is not true
  pub found : {F : Type 0} {g : Mut F (Bor ℕ × Unit {0}) Bool} (u : Range ℕ) (f : F) (r : Option ℕ)
      → (xs : List ℕ) × (j : F) × YieldsThen nat_range_steps (record { start = 0; end = n }) xs r u × FoldsTo (λ p x q. CalledAt g p x false q) f xs j
      × MatchOption r ⊤ (λ x. (h : F) × CalledAt g j x true h)
      → ((x : ℕ) (b : Bool) (q : F) → CalledAt g f x b q → (q ≡ f) × (b ≡ not (p x))) → r ≡ first_not n p
  found u f r ran k =
      first_is r (first_from_Range (record { start = 0; end = n }) u f r (λ x. p x ≡ false) (λ x. p x ≡ true) ran
      (λ x q c. yes_not (p x) (k x true q c).1) (λ x q c. ((k x false q c).0, no_not (p x) (k x false q c).1)))

and_swap : (s t : Bool) → (s && t) ≡ (t && s)
and_swap true true = refl
and_swap true false = refl
and_swap false true = refl
and_swap false false = refl

-- a test of each element is one of each place
module _ {X : Type 0} (q : X → Bool) (xs : List X) (p : ℕ → Bool) (same : (k : ℕ) (d : X) → k < length xs → q (get_or xs k d) ≡ p k) where
  all_taken : (d : X) (n : ℕ) → n ≤ length xs → list_all q (take n xs) ≡ each n p
  all_taken d zero l = refl
  all_taken d (suc n) l =
      let s : suc n ≡ n + 1 = omega arith in
      ap (λ m. list_all q (take m xs)) s
      ∙ list_all_more q xs n d (omega arith)
      ∙ and_swap (list_all q (take n xs)) (q (get_or xs n d))
      ∙ ap (λ t. t && list_all q (take n xs)) (same n d (omega arith))
      ∙ ap (λ t. p n && t) (all_taken d n (omega arith))

  pub all_is_each : list_all q xs ≡ each (length xs) p
  all_is_each = by xs refl
    where
      by : (ys : List X) → ys ≡ xs → list_all q xs ≡ each (length xs) p
      by [] e = subst (λ (zs : List X). list_all q zs ≡ each (length zs) p) e refl
      by (y ∷ ys) e = ap (list_all q) (sym (take_all (length xs) xs (omega arith))) ∙ all_taken y (length xs) (omega arith)

module _ (p : ℕ → Bool) (n : ℕ) where
  all_below : list_all p (range_with_len 0 n) ≡ each n p
  all_below =
      let l : length (range_with_len 0 n) ≡ n = length-range_with_len 0 n in
      all_is_each p (range_with_len 0 n) p
      (λ k d m. let e : get_or (range_with_len 0 n) k d ≡ k = omega (arith, get_or-range_with_len 0 n k d (omega arith)) in ap p e)
      ∙ ap (λ m. each m p) l

  -- `(0..n).all(|k| p(k))` says whether p is true of each number below n
  pub found_all : {F : Type 0} {g : Mut F (ℕ × Unit {0}) Bool} (u : Range ℕ) (f : F) (r : Bool)
      → (xs : List ℕ) × (o : Option ℕ) × (j : F) × YieldsThen nat_range_steps (record { start = 0; end = n }) xs o u × FoldsTo (λ p x q. Called g p (x, tt) true q) f xs j
      × MatchOption o (r ≡ true) (λ x. (r ≡ false) × ((h : F) × Called g j (x, tt) false h))
      → ((x : ℕ) (b : Bool) (q : F) → Called g f (x, tt) b q → (q ≡ f) × (b ≡ p x)) → r ≡ each n p
  found_all u f r ran k =
      all_from_yields_List p u f r ran (YieldsList-from_range {s = record { start = 0; end = n }} 0 n n refl (omega arith)) k ∙ all_below
