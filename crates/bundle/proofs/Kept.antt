-- What the absence of a cause says of the rules.
use Rattle.std.proofs.Common.{◌≡◌, ℕ, zero, suc, ◌<◌, Bool, true, false, cond, List, [], ◌∷◌, length, get_or, refl, ⊎_elim, arith}
use Rattle.std.proofs.lemmas.Bool.{cases_Bool, and_parts}
use Rattle.layout.proofs.EachBelow.{each_at}
use Rattle.rules.specs.Rules.{keeps, scope}
use Rattle.rules.specs.declared.Rule.{Rule}
use Rattle.causes.specs.Causes.{header_rules, reference_rules, field_rules, name_rules, kept, all_kept, cause}

pub header_kept : (b : List ℕ) → (cause b ≡ 1 → ⊥) → all_kept b header_rules ≡ true
unfolding cause
header_kept b h =
    ⊎_elim
    (λ (t : all_kept b header_rules ≡ true). t)
    (λ (f : all_kept b header_rules ≡ false). absurd (h (simp f)))
    (cases_Bool (all_kept b header_rules))

-- the four lists of rules, where there is no cause
pub record Clean (b : List ℕ) : Type 0 where
  pub headers : all_kept b header_rules ≡ true
  pub references : all_kept b reference_rules ≡ true
  pub fields : all_kept b field_rules ≡ true
  pub names : all_kept b name_rules ≡ true

lowest_of : Bool → Bool → Bool → Bool → ℕ
lowest_of p q r s = cond p (cond q (cond r (cond s 0 4) 3) 2) 1

chosen : (p q r s : Bool) → lowest_of p q r s ≡ 0 → (p ≡ true) × (q ≡ true) × (r ≡ true) × (s ≡ true)
unfolding lowest_of
chosen true true true true h = (refl, refl, refl, refl)
chosen true true true false h = absurd (omega arith)
chosen true true false s h = absurd (omega arith)
chosen true false r s h = absurd (omega arith)
chosen false q r s h = absurd (omega arith)

pub clean : (b : List ℕ) → cause b ≡ 0 → Clean b
unfolding cause lowest_of
clean b h =
    let w = chosen (all_kept b header_rules) (all_kept b reference_rules) (all_kept b field_rules) (all_kept b name_rules) h in
    record { headers = w.0; references = w.1; fields = w.2; names = w.3 }

-- one rule of a list, by its place
pub kept_at : (b : List ℕ) (rs : List Rule) (k : ℕ) (d : Rule) → all_kept b rs ≡ true → k < length rs → kept b (get_or rs k d) ≡ true
kept_at b [] k d h l = absurd (omega arith)
kept_at b (r ∷ rs) zero d h l = (and_parts (kept b r) (all_kept b rs) h).0
kept_at b (r ∷ rs) (suc k) d h l = kept_at b rs k d (and_parts (kept b r) (all_kept b rs) h).1 (omega arith)

pub keeps_at : (b : List ℕ) (r : Rule) (i : ℕ) → kept b r ≡ true → i < scope b r → keeps b r i ≡ true
keeps_at b r i h l = each_at (keeps b r) (scope b r) i h l
