-- From the answers of the two checks to the lowest cause.
use Rattle.std.proofs.Common.{◌≡◌, ℕ, ◌<◌, ◌≤◌, List, ◌++◌, length, Some, None, Ok, Err, Option, Result, sym, refl, ap, ◌∙◌, subst, arith}
use Rattle.layout.specs.Layout.{records}
use Rattle.layout.specs.Bounded.{first_or}
use Rattle.layout.specs.declared.section.Section.TheVariants.{Codes}
use Rattle.standing.specs.declared.entry.Entry.{Entry}
use Rattle.standing.specs.declared.shape.Broken.{Broken}
use Rattle.standing.specs.declared.shape.Shape.{Shape}
use Rattle.standing.specs.Paths.{Stands}
use Rattle.standing.specs.Search.{Judged}
use Rattle.causes.specs.Causes.{cause, defect, first_defect, header_rules, reference_rules, field_rules, name_rules, body_rules}
use Rattle.causes.specs.declared.defect.Defect.{Defect}
use Rattle.causes.proofs.Search.{first_defect_append, kept_none}
use Rattle.bundle.proofs.Kept.{clean}
use Rattle.causes.specs.Causes as causes
use Rattle.opening.specs.Opening.{code_shapes, AllStand, IsBrokenCode, Opens, Lowest, empty_bundle}
use Rattle.opening.proofs.Empty.{empty_format, empty_stands}
use Rattle.opening.specs.Refusals.{Shows}
use Rattle.opening.specs.declared.refusal.Refusal.{Refusal}
use Rattle.opening.specs.declared.refusal.Refusal.TheVariants.{Format, Standing}
use Rattle.opening.specs.Opening.Lowest.{none, format, standing}
use Rattle.opening.proofs.Reading.{code_short, shapes_long}

-- a bundle without causes 1 to 4 has no broken rule
pub no_defect : (b : List ℕ) → cause b ≡ 0 → defect b ≡ None
unfolding defect
no_defect b h =
    let w = clean b h in
    first_defect_append b header_rules body_rules
    ∙ ap (λ x. first_or x (first_defect b body_rules)) (kept_none b header_rules w.headers)
    ∙ first_defect_append b reference_rules (field_rules ++ name_rules)
    ∙ ap (λ x. first_or x (first_defect b (field_rules ++ name_rules))) (kept_none b reference_rules w.references)
    ∙ first_defect_append b field_rules name_rules
    ∙ ap (λ x. first_or x (first_defect b name_rules)) (kept_none b field_rules w.fields)
    ∙ kept_none b name_rules w.names

pub some_defect : (b : List ℕ) (d : Defect) → Some d ≡ defect b → cause b ≡ 0 → ⊥
some_defect b d e h = let n = no_defect b h in let z : ◌≡◌ {A = ℕ} 0 1 = cc in omega arith

-- What the check of a code tells of a code of this bundle: c is its bytes, and k its number, as the code has them.
module _ (b c : List ℕ) (n k : ℕ) (bytes : c ≡ b) (number : k ≡ n) where
  as_told : (P : List Shape → Type 0) → P (code_shapes c k) → P (code_shapes b n)
  as_told P t = subst (λ m. P (code_shapes b m)) number (subst (λ (x : List ℕ). P (code_shapes x k)) bytes t)

  -- a code that was judged to stand does
  pub judged_stands : (U : List Shape → List (Option Entry)) (r : Result (Unit {0}) Broken) → Judged (code_shapes c k) (U (code_shapes c k)) r
      → ((x : Broken) → r ≡ Err x → ⊥) → Stands (code_shapes b n)
  judged_stands U (Ok x) t never = (as_told (λ xs. Judged xs (U xs) (Ok x)) t).stands
  judged_stands U (Err x) t never = absurd (never x refl)

  -- one that was judged not to stand does not
  pub judged_broken : cause b ≡ 0 → n < records b Codes → (length (code_shapes c k) ≤ 1024 → Stands (code_shapes c k) → ⊥) → IsBrokenCode b n
  judged_broken clean placed t =
      (placed, as_told (λ xs. length xs ≤ 1024 → Stands xs → ⊥) t (omega (arith, code_short b n clean placed, shapes_long b n)))

-- and keeps the bundle from opening
pub broken_keeps : (b : List ℕ) (c : ℕ) → IsBrokenCode b c → AllStand b → ⊥
broken_keeps b c w all = w.1 (all c w.0)

-- the answer of the two checks
pub by_format : (b : List ℕ) (d : Defect) → Some d ≡ defect b → causes.number d.rule ≡ cause b → Lowest b (causes.number d.rule)
by_format b d e n = subst (Lowest b) (sym n) (format (some_defect b d e))

pub by_standing : (b p : List ℕ) (c : ℕ) → p ≡ b → cause b ≡ 0 → IsBrokenCode p c → IsBrokenCode b c × Lowest b 5
by_standing b p c e h w =
    let v = subst (λ (x : List ℕ). IsBrokenCode x c) e w in
    (v, standing h (broken_keeps b c v))

pub by_none : (b p : List ℕ) → p ≡ b → cause b ≡ 0 → AllStand p → Lowest b 0
by_none b p e h all = none (record { format = h; standing = subst AllStand e all })

-- a bundle that opens is not refused
pub opens_or_refused : (b : List ℕ) (r : Refusal) → Opens b → Shows b r → ⊥
opens_or_refused b (Format d) o s = some_defect b d s o.format
opens_or_refused b (Standing x) o w = w.1 (o.standing x.code w.0)

pub empty_opens : (r : Refusal) → Shows empty_bundle r → ⊥
empty_opens r s = opens_or_refused empty_bundle r (record { format = empty_format; standing = empty_stands }) s
