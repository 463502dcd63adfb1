-- What is said of each number below a bound, and the first number of which it is not true.
use Rattle.std.proofs.Common.{◌≡◌, ℕ, zero, suc, ◌+◌, ◌<◌, ◌≤◌, Bool, true, false, not, is_some, Some, None, Option, sym, refl, ap, ◌∙◌, subst, ⊎_elim, add-one, arith}
use Rattle.std.proofs.lemmas.Bool.{cases_eq, cases_Bool, and_parts, and_from, and_cases, both_ways}
use Rattle.layout.specs.Bounded.{each, first_not}

not_not : (t : Bool) → not (not t) ≡ t
not_not true = refl
not_not false = refl

module _ (p : ℕ → Bool) where
  pub each_more : (i : ℕ) → each i p ≡ true → p i ≡ true → each (i + 1) p ≡ true
  each_more i h k = rw add-one (and_from (p i) (each i p) k h)

  pub each_at : (n i : ℕ) → each n p ≡ true → i < n → p i ≡ true
  each_at zero i h l = absurd (omega arith)
  each_at (suc n) i h l =
      ⊎_elim
      (λ (e : i ≡ n). subst (λ k. p k ≡ true) (sym e) (and_parts (p n) (each n p) h).0)
      (λ (ne : i ≡ n → ⊥). each_at n i (and_parts (p n) (each n p) h).1 (omega (arith, ne)))
      (cases_eq i n)

  pub each_from : (n : ℕ) → ((i : ℕ) → i < n → p i ≡ true) → each n p ≡ true
  each_from zero h = refl
  each_from (suc n) h = and_from (p n) (each n p) (h n (omega arith)) (each_from n (λ i l. h i (omega arith)))

  pub each_not : (n i : ℕ) → i < n → p i ≡ false → each n p ≡ false
  each_not n i l f =
      ⊎_elim (λ (t : each n p ≡ true). absurd (both_ways (p i) f (each_at n i t l))) (λ (e : each n p ≡ false). e)
      (cases_Bool (each n p))

  pub first_not_none : (n : ℕ) → each n p ≡ true → first_not n p ≡ None
  first_not_none zero h = refl
  first_not_none (suc n) h =
      let a = and_parts (p n) (each n p) h in
      let none : first_not n p ≡ None = first_not_none n a.1 in
      simp (none, a.0)

  first_not_here : (i : ℕ) → each i p ≡ true → p i ≡ false → first_not (suc i) p ≡ Some i
  first_not_here i h f = let none : first_not i p ≡ None = first_not_none i h in simp (none, f)

  pub first_not_is : (n i : ℕ) → i < n → each i p ≡ true → p i ≡ false → first_not n p ≡ Some i
  first_not_is zero i l h f = absurd (omega arith)
  first_not_is (suc n) i l h f =
      ⊎_elim
      (λ (e : i ≡ n). subst (λ k. first_not (suc k) p ≡ Some i) e (first_not_here i h f))
      (λ (ne : i ≡ n → ⊥). let before : first_not n p ≡ Some i = first_not_is n i (omega (arith, ne)) h f in simp before)
      (cases_eq i n)

  -- where it is not true of each, there is a first of which it is not
  pub each_breaks : (n : ℕ) → each n p ≡ false → (i : ℕ) × (i < n) × (each i p ≡ true) × (p i ≡ false)
  each_breaks zero h = absurd (both_ways true h refl)
  each_breaks (suc n) h =
      ⊎_elim
      (λ (t : each n p ≡ true).
      ⊎_elim
      (λ (f : p n ≡ false). (n, omega arith, t, f))
      (λ (f : each n p ≡ false). absurd (both_ways (each n p) f t))
      (and_cases (p n) (each n p) h))
      (λ (f : each n p ≡ false). let r = each_breaks n f in (r.0, omega (arith, r.1), r.2, r.3))
      (cases_Bool (each n p))

  pub each_unless_first : (n : ℕ) → first_not n p ≡ None → each n p ≡ true
  each_unless_first n h =
      ⊎_elim
      (λ (t : each n p ≡ true). t)
      (λ (f : each n p ≡ false).
      let r = each_breaks n f in
      let e : first_not n p ≡ Some r.0 = first_not_is n r.0 r.1 r.2 r.3 in
      let z : ◌≡◌ {A = ℕ} 0 1 = cc in
      absurd (omega arith))
      (cases_Bool (each n p))

  pub each_fewer : (n i : ℕ) → n ≤ i → each i p ≡ true → each n p ≡ true
  each_fewer n i l h = each_from n (λ j k. each_at i j h (omega arith))

  -- the two ways out of a loop that looks for the first: n is its bound, and i where it stands
  pub stops_at : (n m i : ℕ) → n ≡ m → i < n → each i p ≡ true → p i ≡ false → Some i ≡ first_not m p
  stops_at n m i e l h f = sym (first_not_is m i (omega arith) h f)

  pub runs_out : (n m i : ℕ) → n ≡ m → n ≤ i → each i p ≡ true → None ≡ first_not m p
  runs_out n m i e l h = sym (first_not_none m (each_fewer m i (omega arith) h))

  -- it is true of each exactly where there is no first of which it is not
  pub each_is_none : (n : ℕ) → not (is_some (first_not n p)) ≡ each n p
  each_is_none n =
      ⊎_elim
      (λ (t : each n p ≡ true). let e : first_not n p ≡ None = first_not_none n t in simp (e, t))
      (λ (f : each n p ≡ false).
      let r = each_breaks n f in
      let e : first_not n p ≡ Some r.0 = first_not_is n r.0 r.1 r.2 r.3 in
      simp (e, f))
      (cases_Bool (each n p))

  pub none_is_each : (n : ℕ) (o : Option ℕ) (t : Bool) → o ≡ first_not n p → is_some o ≡ not t → t ≡ each n p
  none_is_each n o t e h = let d : not (is_some o) ≡ each n p = rw e (each_is_none n) in sym (not_not t) ∙ ap not (sym h) ∙ d
