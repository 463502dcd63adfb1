-- How many numbers below a bound a test is true of.
use Rattle.std.proofs.Common.{◌≡◌, ℕ, zero, suc, ◌+◌, ◌<◌, ◌≤◌, Bool, true, false, ◌&&◌, eqb, ltb, leb, sym, refl, subst, ⊎_elim, arith}
use Rattle.std.proofs.lemmas.Bool.Decides.{nat_tests}
use Rattle.std.proofs.lemmas.Bool.{cases_eq, cases_Bool, both_ways, cond-true, cond-false}
use Rattle.layout.specs.Bounded.{bit, count}

pub count_le : (p : ℕ → Bool) (n : ℕ) → count n p ≤ n
count_le p zero = omega arith
count_le p (suc n) =
    let h : count n p ≤ n = count_le p n in
    ⊎_elim
    (λ (t : p n ≡ true). let e : bit (p n) ≡ 1 = cond-true (p n) 1 0 t in omega arith)
    (λ (f : p n ≡ false). let e : bit (p n) ≡ 0 = cond-false (p n) 1 0 f in omega arith)
    (cases_Bool (p n))

pub count_same : (p q : ℕ → Bool) (n : ℕ) → ((i : ℕ) → i < n → p i ≡ q i) → count n p ≡ count n q
count_same p q zero h = refl
count_same p q (suc n) h =
    let e : count n p ≡ count n q = count_same p q n (λ i l. h i (omega arith)) in
    let f : p n ≡ q n = h n (omega arith) in
    simp (e, f)

-- one more number
pub count_yes : (p : ℕ → Bool) (n : ℕ) → p n ≡ true → count (n + 1) p ≡ count n p + 1
count_yes p n t =
    let s : n + 1 ≡ suc n = omega arith in
    let e : bit (p n) ≡ 1 = cond-true (p n) 1 0 t in
    rw s (omega (arith, e))

pub count_no : (p : ℕ → Bool) (n : ℕ) → p n ≡ false → count (n + 1) p ≡ count n p
count_no p n f =
    let s : n + 1 ≡ suc n = omega arith in
    let e : bit (p n) ≡ 0 = cond-false (p n) 1 0 f in
    rw s (omega (arith, e))

-- none, where the test is true of none
pub count_none : (p : ℕ → Bool) (n : ℕ) → ((i : ℕ) → i < n → p i ≡ false) → count n p ≡ 0
count_none p zero h = refl
count_none p (suc n) h =
    let e : count n p ≡ 0 = count_none p n (λ i l. h i (omega arith)) in
    let f : bit (p n) ≡ 0 = cond-false (p n) 1 0 (h n (omega arith)) in
    omega arith

-- exactly one number below n passes the test
pub record OnlyOne (p : ℕ → Bool) (n : ℕ) : Type 0 where
  pub one : ℕ
  pub below : one < n
  pub passes : p one ≡ true
  pub only : (j : ℕ) → j < n → p j ≡ true → j ≡ one

pub count_zero_none : (p : ℕ → Bool) (n : ℕ) → count n p ≡ 0 → (i : ℕ) → i < n → p i ≡ false
count_zero_none p zero h i l = absurd (omega arith)
count_zero_none p (suc n) h i l =
    ⊎_elim
    (λ (t : p n ≡ true). let e : bit (p n) ≡ 1 = cond-true (p n) 1 0 t in absurd (omega arith))
    (λ (f : p n ≡ false).
    let e : bit (p n) ≡ 0 = cond-false (p n) 1 0 f in
    ⊎_elim
    (λ (same : i ≡ n). subst (λ k. p k ≡ false) (sym same) f)
    (λ (ne : i ≡ n → ⊥). count_zero_none p n (omega arith) i (omega (arith, ne)))
    (cases_eq i n))
    (cases_Bool (p n))

pub only_one : (p : ℕ → Bool) (n : ℕ) → count n p ≡ 1 → OnlyOne p n
only_one p zero h = absurd (omega arith)
only_one p (suc n) h =
    ⊎_elim
    (λ (t : p n ≡ true).
    let e : bit (p n) ≡ 1 = cond-true (p n) 1 0 t in
    let none : count n p ≡ 0 = omega arith in
    record {
      one = n;
      below = omega arith;
      passes = t;
      only = λ j l k. ⊎_elim
          (λ (same : j ≡ n). same)
          (λ (ne : j ≡ n → ⊥). absurd (both_ways (p j) (count_zero_none p n none j (omega (arith, ne))) k))
          (cases_eq j n);
    })
    (λ (f : p n ≡ false).
    let e : bit (p n) ≡ 0 = cond-false (p n) 1 0 f in
    let r = only_one p n (omega arith) in
    record {
      one = r.one;
      below = omega (arith, r.below);
      passes = r.passes;
      only = λ j l k. ⊎_elim
          (λ (same : j ≡ n). absurd (both_ways (p j) (subst (λ x. p x ≡ false) (sym same) f) k))
          (λ (ne : j ≡ n → ⊥). r.only j (omega (arith, ne)) k)
          (cases_eq j n);
    })
    (cases_Bool (p n))

-- Runs, each from f j to just before e j: those that hold i, and those that ended by i, are those that began by i.
pub count_step : (f : ℕ → ℕ) (i n : ℕ)
    → count n (λ j. ltb (f j) (i + 1)) ≡ count n (λ j. ltb (f j) i) + count n (λ j. eqb (f j) i)
count_step f i zero = refl
count_step f i (suc n) =
    let h = count_step f i n in
    let one : bit (ltb (f n) (i + 1)) ≡ bit (ltb (f n) i) + bit (eqb (f n) i) = grind (arith, nat_tests) in
    omega arith

pub count_between : (f e : ℕ → ℕ) (i n : ℕ) → ((j : ℕ) → f j ≤ e j)
    → count n (λ j. leb (f j) i && ltb i (e j)) + count n (λ j. ltb (e j) (i + 1)) ≡ count n (λ j. ltb (f j) (i + 1))
count_between f e i zero le = refl
count_between f e i (suc n) le =
    let h = count_between f e i n le in
    let l : f n ≤ e n = le n in
    let one : bit (leb (f n) i && ltb i (e n)) + bit (ltb (e n) (i + 1)) ≡ bit (ltb (f n) (i + 1)) =
    grind (arith, nat_tests) in
    omega arith
