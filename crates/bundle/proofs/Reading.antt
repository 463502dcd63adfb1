-- What is read through records stands in the program, and what records of a bundle without causes 1 to 4 name is there.
use Rattle.std.proofs.Common.{◌≡◌, cond, ltb, ⊎_elim, ℕ, ◌+◌, ◌<◌, ◌≤◌, List, Some, None, Option, sym, ap, ◌∙◌, arith}
use Rattle.std.specs.List.{slice_get}
use Rattle.std.proofs.lemmas.Bool.{cases_lt, lt-ltb, le-ltb, cond-true, cond-false}
use Rattle.layout.specs.Bounded.{listed}
use Rattle.layout.specs.Layout as layout
use Rattle.layout.specs.declared.section.Section.TheVariants.{Templates}
use Rattle.layout.specs.declared.records.TemplateRecord.{TemplateRecord}
use Rattle.layout.proofs.Listed.{nth_listed, nth_past_listed}
use Rattle.instruction.specs.Program.{Template}
use Rattle.bundle.specs.Decoded.{code, block, template, program}

module _ (b : List ℕ) where
  pub template_read : (t : ℕ) (r : TemplateRecord) → r ≡ layout.template b t → t < layout.records b Templates
      → ◌≡◌ {A = Option Template} (Some (record {
        name = layout.text b r.name;
        main = code b r.main;
        blocks = listed r.blocks.count (λ k. block b (r.blocks.first + k));
      })) (slice_get (program b) t)
  template_read t r is l =
      ap (λ (x : TemplateRecord). Some (record {
        name = layout.text b x.name;
        main = code b x.main;
        blocks = listed x.blocks.count (λ k. block b (x.blocks.first + k));
      })) is
      ∙ sym (nth_listed (template b) (layout.records b Templates) t l)

  pub template_past : (t n : ℕ) → n ≡ layout.records b Templates → n ≤ t → None ≡ slice_get (program b) t
  template_past t n e l = sym (nth_past_listed (template b) (layout.records b Templates) t (omega arith))

  -- a list made from a function of the place, read at a place
  pub block_there : (first count k : ℕ)
      → cond (ltb k count) (Some (block b (first + k))) None ≡ slice_get (listed count (λ k. block b (first + k))) k
  block_there first count k =
      ⊎_elim
      (λ (m : k < count). cond-true (ltb k count) _ _ (lt-ltb k count m) ∙ sym (nth_listed (λ k. block b (first + k)) count k m))
      (λ (m : count ≤ k). cond-false (ltb k count) _ _ (le-ltb k count m) ∙ sym (nth_past_listed (λ k. block b (first + k)) count k m))
      (cases_lt k count)
