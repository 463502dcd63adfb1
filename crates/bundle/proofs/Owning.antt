-- Every block, code and instruction of a bundle without causes 1 to 4 belongs to exactly one owner.
use Rattle.std.proofs.Common.{◌≡◌, ℕ, ◌+◌, ◌-◌, ◌<◌, ◌≤◌, true, ltb, leb, List, sym, refl, ap, ◌∙◌, ⊎_elim, arith}
use Rattle.std.proofs.lemmas.Bool.{cases_lt, and_parts, and_from, leb-true, ltb-true, le-leb, lt-ltb, eqb-true, cond-true, cond-false, le-ltb}
use Rattle.layout.specs.Layout.{records, template, block}
use Rattle.layout.specs.declared.section.Section.TheVariants.{Templates, Blocks}
use Rattle.layout.proofs.CountBelow.{OnlyOne, only_one}
use Rattle.rules.specs.Rules.{names, owners, namers, owned_in, run_start, run_end, code_named_by}
use Rattle.rules.specs.declared.Owned.{Owned}
use Rattle.rules.specs.declared.Owned.TheVariants.{Block, Code, Instruction}
use Rattle.rules.specs.declared.Rule.TheVariants.{Owner}
use Rattle.causes.specs.Causes.{reference_rules, kept}
use Rattle.bundle.specs.Owners.{ExactlyOne, OwnsBlock, CodeOwner, OwnsCode, OwnsInstruction, RecordsHaveOneOwner}
use Rattle.bundle.specs.Owners.CodeOwner.{of_template, of_block}
use Rattle.bundle.proofs.Kept.{clean, kept_at, keeps_at}

-- the test for a run, as what it says
module _ (b : List ℕ) (o : Owned) (i j : ℕ) where
  named_from : names b o i j ≡ true → (run_start b o j ≤ i) × (i < run_end b o j)
  named_from h =
      let a = and_parts (leb (run_start b o j) i) (ltb i (run_end b o j)) h in
      (leb-true (run_start b o j) i a.0, ltb-true i (run_end b o j) a.1)

  named_so : run_start b o j ≤ i → i < run_end b o j → names b o i j ≡ true
  named_so p q = and_from (leb (run_start b o j) i) (ltb i (run_end b o j)) (le-leb _ i p) (lt-ltb i _ q)

-- the rule that each record is named exactly once
only_owner : (b : List ℕ) (o : Owned) (i : ℕ) → kept b (Owner o) ≡ true → i < owned_in b o → OnlyOne (names b o i) (namers b o)
only_owner b o i h l = only_one (names b o i) (namers b o) (eqb-true (owners b o i) 1 (keeps_at b (Owner o) i h l))

block_owner : (b : List ℕ) (i : ℕ) → OnlyOne (names b Block i) (namers b Block) → ExactlyOne (OwnsBlock b i)
block_owner b i w =
    let n = named_from b Block i w.one w.passes in
    record {
      one = w.one;
      holds = (w.below, (n.0, n.1));
      only = λ t h. w.only t h.0 (named_so b Block i t h.1.0 h.1.1);
    }

instruction_owner : (b : List ℕ) (i : ℕ) → OnlyOne (names b Instruction i) (namers b Instruction) → ExactlyOne (OwnsInstruction b i)
instruction_owner b i w =
    let n = named_from b Instruction i w.one w.passes in
    record {
      one = w.one;
      holds = (w.below, (n.0, n.1));
      only = λ t h. w.only t h.0 (named_so b Instruction i t h.1.0 h.1.1);
    }

-- a code is named as one record, by a template or by a block that is counted after the templates
module _ (b : List ℕ) (c : ℕ) where
  by_template : (t : ℕ) → t < records b Templates → code_named_by b t ≡ (template b t).main
  by_template t l = cond-true (ltb t (records b Templates)) _ _ (lt-ltb t (records b Templates) l)

  by_block : (i : ℕ) → code_named_by b (records b Templates + i) ≡ (block b i).code
  by_block i =
      let e : (records b Templates + i) - records b Templates ≡ i = omega arith in
      cond-false (ltb (records b Templates + i) (records b Templates)) _ _ (le-ltb (records b Templates + i) (records b Templates) (omega arith))
      ∙ ap (λ k. (block b k).code) e

  -- which namer an owner is
  abbrev place : CodeOwner → ℕ
  place (of_template t) = t
  place (of_block i) = records b Templates + i

  abbrev Placed : CodeOwner → Type 0
  Placed (of_template t) = t < records b Templates
  Placed (of_block i) = i < records b Blocks

  placed : (x : CodeOwner) → OwnsCode b c x → Placed x
  placed (of_template t) h = h.0
  placed (of_block i) h = h.0

  place_below : (x : CodeOwner) → Placed x → place x < namers b Code
  place_below (of_template t) h = omega arith
  place_below (of_block i) h = omega arith

  place_names : (x : CodeOwner) → OwnsCode b c x → names b Code c (place x) ≡ true
  place_names (of_template t) h =
      let e : code_named_by b t ≡ c = by_template t h.0 ∙ h.1 in named_so b Code c t (omega arith) (omega arith)
  place_names (of_block i) h =
      let e : code_named_by b (records b Templates + i) ≡ c = by_block i ∙ h.1 in
      named_so b Code c (records b Templates + i) (omega arith) (omega arith)

  one_place : (x y : CodeOwner) → Placed x → Placed y → place x ≡ place y → x ≡ y
  one_place (of_template t) (of_template u) p q e = ap of_template e
  one_place (of_template t) (of_block j) p q e = absurd (omega arith)
  one_place (of_block i) (of_template u) p q e = absurd (omega arith)
  one_place (of_block i) (of_block j) p q e = let d : i ≡ j = omega arith in ap of_block d

  owner_from : (w : OnlyOne (names b Code c) (namers b Code)) (o : CodeOwner) → place o ≡ w.one → OwnsCode b c o → ExactlyOne (OwnsCode b c)
  owner_from w o e h = record {
    one = o;
    holds = h;
    only = λ x k. one_place x o (placed x k) (placed o h)
        (w.only (place x) (place_below x (placed x k)) (place_names x k) ∙ sym e);
  }

  code_owner : OnlyOne (names b Code c) (namers b Code) → ExactlyOne (OwnsCode b c)
  code_owner w =
      let n = named_from b Code c w.one w.passes in
      let here : code_named_by b w.one ≡ c = omega (arith, n.0, n.1) in
      ⊎_elim
      (λ (l : w.one < records b Templates). owner_from w (of_template w.one) refl (l, sym (by_template w.one l) ∙ here))
      (λ (l : records b Templates ≤ w.one).
      let i : ℕ = w.one - records b Templates in
      let e : records b Templates + i ≡ w.one = omega arith in
      owner_from w (of_block i) e (omega (arith, w.below), sym (by_block i) ∙ ap (code_named_by b) e ∙ here))
      (cases_lt w.one (records b Templates))

pub records_have_one_owner : (b : List ℕ) → RecordsHaveOneOwner b
records_have_one_owner b h =
    let r = (clean b h).references in
    record {
      blocks = λ i l. block_owner b i (only_owner b Block i (kept_at b reference_rules 9 (Owner Block) r (omega arith)) l);
      codes = λ c l. code_owner b c (only_owner b Code c (kept_at b reference_rules 10 (Owner Block) r (omega arith)) l);
      instructions = λ i l.
          instruction_owner b i (only_owner b Instruction i (kept_at b reference_rules 11 (Owner Block) r (omega arith)) l);
    }
