-- The shapes of a code, read one by one.
use Rattle.std.proofs.Common.{◌≡◌, ℕ, zero, suc, ◌+◌, ◌<◌, ◌≤◌, List, [], ◌∷◌, ◌++◌, map, length, get_or, take, Some, None, sym, ap, ◌∙◌, arith}
use Rattle.std.specs.List.{slice_get}
use Rattle.std.specs.Option.{option_map}
use Rattle.std.proofs.lemmas.List.{length-map, take_more}
use Rattle.std.proofs.lemmas.Bool.{leb-true}
use Rattle.layout.specs.Layout as layout
use Rattle.layout.specs.declared.section.Section.TheVariants.{Codes}
use Rattle.layout.proofs.Listed.{length_listed}
use Rattle.instruction.specs.Program.{Instr, Step}
use Rattle.standing.specs.declared.shape.Shape.{Shape}
use Rattle.standing.specs.declared.shape.Shape.TheVariants.{Plain}
use Rattle.rules.specs.declared.RecordRule.TheVariants.{CodeLength}
use Rattle.rules.specs.declared.Rule.TheVariants.{Record}
use Rattle.causes.specs.Causes.{cause, field_rules}
use Rattle.bundle.specs.Decoded.{code, step}
use Rattle.bundle.proofs.Kept.{clean, kept_at, keeps_at}
use Rattle.opening.specs.Shapes.{shape}
use Rattle.opening.specs.Opening.{code_shapes}

-- the instruction at a place gives the shape there
pub shape_of_nth : (xs : List Step) (k : ℕ) (y : Instr) (d : Shape) → Some y ≡ option_map (λ s. s.instruction) (slice_get xs k)
    → get_or (map (λ s. shape s.instruction) xs) k d ≡ shape y
shape_of_nth [] k y d e = let z : ◌≡◌ {A = ℕ} 0 1 = cc in absurd (omega arith)
shape_of_nth (x ∷ xs) zero y d e = ap shape (values x.instruction y (sym e))
  where
    values : (a b : Instr) → Some a ≡ Some b → a ≡ b
    values a b e = cc
shape_of_nth (x ∷ xs) (suc k) y d e = shape_of_nth xs k y d e

pub some_nth : (xs : List Step) (k : ℕ) → k < length xs → None ≡ option_map (λ s. s.instruction) (slice_get xs k) → ⊥
some_nth [] k l e = absurd (omega arith)
some_nth (x ∷ xs) zero l e = let z : ◌≡◌ {A = ℕ} 0 1 = cc in omega arith
some_nth (x ∷ xs) (suc k) l e = some_nth xs k (omega arith) e

-- a code of a bundle without causes 1 to 4 has at most 1,024 instructions
pub code_short : (b : List ℕ) (c : ℕ) → cause b ≡ 0 → c < layout.records b Codes → length (code b c).steps ≤ 1024
code_short b c h l =
    let few : (layout.code b c).instructions.count ≤ 1024 =
    leb-true _ 1024 (keeps_at b (Record CodeLength) c (kept_at b field_rules 0 (Record CodeLength) (clean b h).fields (omega arith)) l) in
    omega (arith, length_listed (λ k. step b ((layout.code b c).instructions.first + k)) (layout.code b c).instructions.count)

pub shapes_long : (b : List ℕ) (c : ℕ) → length (code_shapes b c) ≡ length (code b c).steps
shapes_long b c = length-map (code b c).steps (λ s. shape s.instruction)

-- one more shape after the first k
pub one_more : (b : List ℕ) (c k : ℕ) (y : Instr) (xs : List Shape) → k < length (code b c).steps
    → Some y ≡ option_map (λ s. s.instruction) (slice_get (code b c).steps k) → xs ≡ take k (code_shapes b c)
    → xs ++ shape y ∷ [] ≡ take (k + 1) (code_shapes b c)
one_more b c k y xs l e h =
    ap (λ (ys : List Shape). ys ++ shape y ∷ []) h
    ∙ sym (take_more (code_shapes b c) k (Plain 0 0) (omega (arith, shapes_long b c))
    ∙ ap (λ (s : Shape). take k (code_shapes b c) ++ s ∷ []) (shape_of_nth (code b c).steps k y (Plain 0 0) e))
