-- The different block names so far, each by the first block that has it.
use Rattle.std.proofs.Common.{◌≡◌, ℕ, ◌+◌, ◌<◌, ◌≤◌, true, false, not, List, [], ◌∷◌, ◌++◌, length, get_or, sym, refl, ap, ◌∙◌, subst, ⊎_elim, add-one, arith, length-append}
use Rattle.std.specs.Str.{bytes_eq}
use Rattle.std.proofs.lemmas.Slice.Eq.{bytes_eq-Decides}
use Rattle.std.proofs.lemmas.List.{get_or_append_left}
use Rattle.std.proofs.Math.Seq.{get_or-append_seam}
use Rattle.std.proofs.lemmas.Bool.{cases_eq, cases_Bool, not-false, le-leb, lt-leb, not_from_true}
use Rattle.layout.specs.Bounded.{count}
use Rattle.layout.proofs.EachBelow.{each_from, each_at, each_not, each_breaks}
use Rattle.layout.proofs.CountBelow.{count_yes, count_no}
use Rattle.rules.specs.Rules.{block_name, new_name, other_name, keeps}
use Rattle.rules.specs.declared.Rule.TheVariants.{BlockNameLimit}
use Rattle.causes.specs.Tally.{other_than, new_among}

-- `firsts` holds a block for each name that the blocks before i have
pub record Firsts (b : List ℕ) (i : ℕ) (firsts : List ℕ) : Type 0 where
  pub few : length firsts ≤ 32
  pub counted : count i (new_name (block_name b)) ≡ length firsts
  pub earlier : (k : ℕ) → k < length firsts → get_or firsts k 0 < i
  pub covers : (j : ℕ) → j < i → (k : ℕ) × (k < length firsts) × (block_name b (get_or firsts k 0) ≡ block_name b j)

pub firsts_none : (b firsts : List ℕ) → firsts ≡ [] → Firsts b 0 firsts
firsts_none b firsts e =
    subst (Firsts b 0) (sym e)
    (record { few = omega arith; counted = refl; earlier = λ k l. absurd (omega arith); covers = λ j l. absurd (omega arith) })

same_yes : (x y : List ℕ) → x ≡ y → not (bytes_eq x y) ≡ false
same_yes x y e = not_from_true (bytes_eq x y) ((bytes_eq-Decides x y).1 e)

same_from : (x y : List ℕ) → not (bytes_eq x y) ≡ false → x ≡ y
same_from x y e = (bytes_eq-Decides x y).0 (not-false (bytes_eq x y) e)

module _ (b : List ℕ) (i : ℕ) (firsts : List ℕ) (h : Firsts b i firsts) where
  -- a block that has a new name differs from each of the firsts, and only such a one does
  pub among_is_new : new_among b firsts i ≡ new_name (block_name b) i
  among_is_new =
      ⊎_elim
      (λ (t : new_name (block_name b) i ≡ true).
      each_from (other_than b firsts i) (length firsts)
      (λ k l. each_at (other_name (block_name b) i) i (get_or firsts k 0) t (h.earlier k l))
      ∙ sym t)
      (λ (f : new_name (block_name b) i ≡ false).
      let r = each_breaks (other_name (block_name b) i) i f in
      let w = h.covers r.0 r.1 in
      let same : block_name b (get_or firsts w.0 0) ≡ block_name b i = w.2 ∙ same_from (block_name b r.0) (block_name b i) r.3 in
      each_not (other_than b firsts i) (length firsts) w.0 w.1 (same_yes (block_name b (get_or firsts w.0 0)) (block_name b i) same)
      ∙ sym f)
      (cases_Bool (new_name (block_name b) i))

  module _ (new : new_among b firsts i ≡ true) where
    counted_new : count (i + 1) (new_name (block_name b)) ≡ length firsts + 1
    counted_new = count_yes (new_name (block_name b)) i (sym among_is_new ∙ new) ∙ ap (λ x. x + 1) h.counted

    pub limit_passed : 32 ≤ length firsts → keeps b BlockNameLimit i ≡ false
    limit_passed e = lt-leb _ 32 (omega (arith, subst (λ x. count x (new_name (block_name b)) ≡ length firsts + 1) (add-one i) counted_new))

    pub limit_kept : length firsts < 32 → keeps b BlockNameLimit i ≡ true
    limit_kept l = le-leb _ 32 (omega (arith, subst (λ x. count x (new_name (block_name b)) ≡ length firsts + 1) (add-one i) counted_new))

    long : length (firsts ++ i ∷ []) ≡ length firsts + 1
    long = length-append firsts (i ∷ [])

    at_old : (k : ℕ) → k < length firsts → get_or (firsts ++ i ∷ []) k 0 ≡ get_or firsts k 0
    at_old k l = get_or_append_left firsts (i ∷ []) 0 k l

    at_new : get_or (firsts ++ i ∷ []) (length firsts) 0 ≡ i
    at_new = get_or-append_seam firsts i [] 0

    pub firsts_more : length firsts < 32 → Firsts b (i + 1) (firsts ++ i ∷ [])
    firsts_more l = record {
      few = omega (arith, long);
      counted = counted_new ∙ sym long;
      earlier = λ k m. ⊎_elim
          (λ (e : k ≡ length firsts). omega (arith, subst (λ x. get_or (firsts ++ i ∷ []) x 0 ≡ i) (sym e) at_new))
          (λ (ne : k ≡ length firsts → ⊥). let p : k < length firsts = omega (arith, ne, long) in omega (arith, at_old k p, h.earlier k p))
          (cases_eq k (length firsts));
      covers = λ j m. ⊎_elim
          (λ (e : j ≡ i). (length firsts, omega (arith, long), ap (block_name b) (at_new ∙ sym e)))
          (λ (ne : j ≡ i → ⊥).
          let w = h.covers j (omega (arith, ne)) in
          (w.0, omega (arith, w.1, long), ap (block_name b) (at_old w.0 w.1) ∙ w.2))
          (cases_eq j i);
    }

  module _ (old : new_among b firsts i ≡ false) where
    counted_old : count (i + 1) (new_name (block_name b)) ≡ length firsts
    counted_old = count_no (new_name (block_name b)) i (sym among_is_new ∙ old) ∙ h.counted

    pub limit_still_kept : keeps b BlockNameLimit i ≡ true
    limit_still_kept = le-leb _ 32 (omega (arith, h.few, subst (λ x. count x (new_name (block_name b)) ≡ length firsts) (add-one i) counted_old))

    pub firsts_same : Firsts b (i + 1) firsts
    firsts_same =
        let r = each_breaks (other_than b firsts i) (length firsts) old in
        let same : block_name b (get_or firsts r.0 0) ≡ block_name b i = same_from _ (block_name b i) r.3 in
        record {
          few = h.few;
          counted = counted_old;
          earlier = λ k l. omega (arith, h.earlier k l);
          covers = λ j l. ⊎_elim
              (λ (e : j ≡ i). (r.0, r.1, same ∙ ap (block_name b) (sym e)))
              (λ (ne : j ≡ i → ⊥). h.covers j (omega (arith, ne)))
              (cases_eq j i);
        }
