-- The first broken rule in the order of the rules shows the lowest cause.
use Rattle.std.proofs.Common.{◌≡◌, ℕ, ◌+◌, ◌<◌, ◌≤◌, true, false, cond, List, [], ◌∷◌, ◌++◌, map, length, get_or, drop, Some, None, Option, sym, refl, ap, ◌∙◌, subst, ⊎_elim, arith}
use Rattle.std.proofs.lemmas.List.{at_drop_more, at_drop_all, append-nil}
use Rattle.std.proofs.lemmas.Bool.{cases_Bool, and_parts, and_cases, both_ways}
use Rattle.layout.specs.Bounded.{first_or}
use Rattle.layout.proofs.EachBelow.{first_not_none, first_not_is, each_breaks}
use Rattle.rules.specs.Rules.{keeps, scope}
use Rattle.rules.specs.declared.RecordRule.{RecordRule}
use Rattle.rules.specs.declared.Rule.{Rule}
use Rattle.rules.specs.declared.Rule.TheVariants.{Record}
use Rattle.causes.specs.Causes.{header_rules, reference_rules, field_rules, name_rules, body_rules, kept, all_kept, cause, number, breach, blamed, first_defect, defect, cause_of}
use Rattle.causes.specs.declared.defect.Defect.{Defect}

-- the rules of a list are tried one by one
module _ (b : List ℕ) (rs : List RecordRule) (i : ℕ) (d : RecordRule) (so_far : first_defect b (map Record (drop i rs)) ≡ first_defect b (map Record rs)) where
  here : i < length rs
      → first_or (blamed (Record (get_or rs i d)) (breach b (Record (get_or rs i d)))) (first_defect b (map Record (drop (i + 1) rs)))
      ≡ first_defect b (map Record rs)
  here l = sym (at_drop_more (λ xs. first_defect b (map Record xs)) rs i d l) ∙ so_far

  pub rule_passes : i < length rs → breach b (Record (get_or rs i d)) ≡ None → first_defect b (map Record (drop (i + 1) rs)) ≡ first_defect b (map Record rs)
  rule_passes l e = simp e at (here l)

  pub rule_breaks : (k : ℕ) → i < length rs → breach b (Record (get_or rs i d)) ≡ Some k
      → Some (record { rule = Record (get_or rs i d); «record» = k }) ≡ first_defect b (map Record rs)
  rule_breaks k l e = simp e at (here l)

  pub rules_end : length rs ≤ i → None ≡ first_defect b (map Record rs)
  rules_end l = sym (at_drop_all (λ xs. first_defect b (map Record xs)) rs i l) ∙ so_far

or_assoc : {A : Type 0} (x y z : Option A) → first_or x (first_or y z) ≡ first_or (first_or x y) z
or_assoc None y z = refl
or_assoc (Some x) y z = refl

pub first_defect_append : (b : List ℕ) (xs ys : List Rule) → first_defect b (xs ++ ys) ≡ first_or (first_defect b xs) (first_defect b ys)
first_defect_append b [] ys = refl
first_defect_append b (r ∷ xs) ys =
    ap (first_or (blamed r (breach b r))) (first_defect_append b xs ys)
    ∙ or_assoc (blamed r (breach b r)) (first_defect b xs) (first_defect b ys)

-- a rule that is kept has no breach, and one that is not has one
kept_breach : (b : List ℕ) (r : Rule) → kept b r ≡ true → breach b r ≡ None
kept_breach b r h = first_not_none (keeps b r) (scope b r) h

broken_breach : (b : List ℕ) (r : Rule) → kept b r ≡ false → (k : ℕ) × (breach b r ≡ Some k)
broken_breach b r h =
    let w = each_breaks (keeps b r) (scope b r) h in
    (w.0, first_not_is (keeps b r) (scope b r) w.0 w.1 w.2 w.3)

pub kept_none : (b : List ℕ) (rs : List Rule) → all_kept b rs ≡ true → first_defect b rs ≡ None
kept_none b [] h = refl
kept_none b (r ∷ rs) h =
    let a = and_parts (kept b r) (all_kept b rs) h in
    let e : breach b r ≡ None = kept_breach b r a.0 in
    let n : first_defect b rs ≡ None = kept_none b rs a.1 in
    simp (e, n)

-- each of these rules has the number n
abbrev Numbered : ℕ → List Rule → Type 0
Numbered n [] = Unit {0}
Numbered n (r ∷ rs) = (number r ≡ n) × Numbered n rs

broken_some : (b : List ℕ) (n : ℕ) (rs : List Rule) → Numbered n rs → all_kept b rs ≡ false
    → (d : Defect) × (first_defect b rs ≡ Some d) × (number d.rule ≡ n)
broken_some b n [] numbered h = absurd (both_ways true h refl)
broken_some b n (r ∷ rs) numbered h =
    ⊎_elim
    (λ (t : kept b r ≡ true).
    ⊎_elim
    (λ (f : kept b r ≡ false). absurd (both_ways (kept b r) f t))
    (λ (f : all_kept b rs ≡ false).
    let w = broken_some b n rs numbered.1 f in
    let e : breach b r ≡ None = kept_breach b r t in
    (w.0, simp e w.1, w.2))
    (and_cases (kept b r) (all_kept b rs) h))
    (λ (f : kept b r ≡ false).
    let w = broken_breach b r f in
    let e : breach b r ≡ Some w.0 = w.1 in
    (record { rule = r; «record» = w.0 }, simp e, numbered.0))
    (cases_Bool (kept b r))

pub none_kept : (b : List ℕ) (n : ℕ) (rs : List Rule) → Numbered n rs → first_defect b rs ≡ None → all_kept b rs ≡ true
none_kept b n rs numbered e =
    ⊎_elim
    (λ (t : all_kept b rs ≡ true). t)
    (λ (f : all_kept b rs ≡ false).
    let w = broken_some b n rs numbered f in
    let p : first_defect b rs ≡ Some w.0 = w.1 in
    let z : ◌≡◌ {A = ℕ} 0 1 = cc in
    absurd (omega arith))
    (cases_Bool (all_kept b rs))

header_numbered : Numbered 1 header_rules
header_numbered = (refl, (refl, (refl, (refl, (refl, (refl, (refl, (refl, (refl, tt)))))))))

reference_numbered : Numbered 2 reference_rules
reference_numbered = (refl, (refl, (refl, (refl, (refl, (refl, (refl, (refl, (refl, (refl, (refl, (refl, (refl, tt)))))))))))))

field_numbered : Numbered 3 field_rules
field_numbered = (refl, (refl, (refl, (refl, (refl, (refl, (refl, (refl, tt))))))))

name_numbered : Numbered 4 name_rules
name_numbered = (refl, (refl, (refl, tt)))

pub header_kept : (b : List ℕ) → first_defect b header_rules ≡ None → all_kept b header_rules ≡ true
header_kept b e = none_kept b 1 header_rules header_numbered e

-- one list of rules before the rest: the cause is its number if one of its rules is broken
cause_step : (b : List ℕ) (n rest : ℕ) (xs ys : List Rule) → Numbered n xs → cause_of (first_defect b ys) ≡ rest
    → cause_of (first_defect b (xs ++ ys)) ≡ cond (all_kept b xs) rest n
cause_step b n rest xs ys numbered h =
    ⊎_elim
    (λ (t : all_kept b xs ≡ true).
    let none : first_defect b xs ≡ None = kept_none b xs t in
    simp (first_defect_append b xs ys, none, t) h)
    (λ (f : all_kept b xs ≡ false).
    let w = broken_some b n xs numbered f in
    let some : first_defect b xs ≡ Some w.0 = w.1 in
    simp (first_defect_append b xs ys, some, f) w.2)
    (cases_Bool (all_kept b xs))

pub lowest : (b : List ℕ) → cause_of (defect b) ≡ cause b
unfolding cause defect
lowest b =
    cause_step b 1 _ header_rules body_rules header_numbered
    (cause_step b 2 _ reference_rules (field_rules ++ name_rules) reference_numbered
    (cause_step b 3 _ field_rules name_rules field_numbered
    (subst (λ xs. cause_of (first_defect b xs) ≡ cond (all_kept b name_rules) 0 4) (append-nil name_rules)
    (cause_step b 4 0 name_rules [] name_numbered refl))))

-- one list of rules after another: the first shows the defect, or else the second
pub found_first : (b : List ℕ) (xs ys : List Rule) (d : Defect) → Some d ≡ first_defect b xs → Some d ≡ first_defect b (xs ++ ys)
found_first b xs ys d e = sym (first_defect_append b xs ys ∙ ap (λ x. first_or x (first_defect b ys)) (sym e))

pub found_next : (b : List ℕ) (xs ys : List Rule) (r : Option Defect) → None ≡ first_defect b xs → r ≡ first_defect b ys → r ≡ first_defect b (xs ++ ys)
found_next b xs ys r n e = e ∙ sym (first_defect_append b xs ys ∙ ap (λ x. first_or x (first_defect b ys)) (sym n))

-- a list of one rule
pub alone : (b : List ℕ) (r : Rule) (o : Option ℕ) → o ≡ breach b r → blamed r o ≡ first_defect b (r ∷ [])
alone b r o e = or_none (blamed r o) ∙ ap (λ x. first_or (blamed r x) None) e
  where
    or_none : {A : Type 0} (x : Option A) → x ≡ first_or x None
    or_none None = refl
    or_none (Some x) = refl

-- the four lists after one another; h is the same bundle, as the check of its header gives it back
module _ (b h : List ℕ) (same : h ≡ b) where
  pub in_header : (d : Defect) → Some d ≡ first_defect b header_rules → Some d ≡ defect b
  unfolding defect
  in_header d e = found_first b header_rules body_rules d e

  module _ (no_header : None ≡ first_defect b header_rules) where
    pub in_references : (d : Defect) → Some d ≡ first_defect h reference_rules → Some d ≡ defect b
    unfolding defect
    in_references d e =
        found_next b header_rules body_rules (Some d) no_header
        (found_first b reference_rules (field_rules ++ name_rules) d (e ∙ ap (λ x. first_defect x reference_rules) same))

    module _ (no_reference : None ≡ first_defect h reference_rules) where
      no_reference_here : None ≡ first_defect b reference_rules
      no_reference_here = no_reference ∙ ap (λ x. first_defect x reference_rules) same

      pub in_fields : (d : Defect) → Some d ≡ first_defect b field_rules → Some d ≡ defect b
      unfolding defect
      in_fields d e =
          found_next b header_rules body_rules (Some d) no_header
          (found_next b reference_rules (field_rules ++ name_rules) (Some d) no_reference_here (found_first b field_rules name_rules d e))

      pub in_names : (r : Option Defect) → None ≡ first_defect b field_rules → r ≡ first_defect b name_rules → r ≡ defect b
      unfolding defect
      in_names r n e =
          found_next b header_rules body_rules r no_header
          (found_next b reference_rules (field_rules ++ name_rules) r no_reference_here (found_next b field_rules name_rules r n e))
