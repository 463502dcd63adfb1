-- A bundle whose header is right holds few records, since it has at most 65,536 bytes.
use Rattle.std.proofs.Common.{◌≡◌, ℕ, ◌+◌, ◌*◌, ◌≤◌, Bool, true, ◌&&◌, leb, List, length, arith}
use Rattle.std.proofs.lemmas.Bool.{and_parts, leb-true, eqb-true}
use Rattle.layout.specs.Layout.{records, start}
use Rattle.layout.specs.declared.section.Section.TheVariants.{Templates, Blocks, Codes, Instructions, Constants, Text}
use Rattle.rules.specs.Rules.{namers, owned_in}
use Rattle.rules.specs.declared.Owned.{Owned}
use Rattle.rules.specs.declared.Owned.TheVariants.{Block, Code, Instruction}
use Rattle.causes.specs.Causes.{header_rules, all_kept}

-- what the rules on the header say, as equations
pub record Headed (b : List ℕ) : Type 0 where
  pub least : 48 ≤ length b
  pub most : length b ≤ 65536
  pub few : records b Templates ≤ 64
  pub templates : start b Templates ≡ 48
  pub blocks : start b Blocks ≡ start b Templates + 20 * records b Templates
  pub codes : start b Codes ≡ start b Blocks + 12 * records b Blocks
  pub instructions : start b Instructions ≡ start b Codes + 12 * records b Codes
  pub constants : start b Constants ≡ start b Instructions + 16 * records b Instructions
  pub text : start b Text ≡ start b Constants + 12 * records b Constants
  pub end : start b Text + 1 * records b Text ≡ length b

-- a rule on the header has one record
one_kept : (x rest : Bool) → ((x && true) && rest) ≡ true → (x ≡ true) × (rest ≡ true)
one_kept x rest h =
    let a = and_parts (x && true) rest h in
    ((and_parts x true a.0).0, a.1)

pub headed : (b : List ℕ) → all_kept b header_rules ≡ true → Headed b
headed b h =
    let r₀ = one_kept _ _ h in
    let r₁ = one_kept _ _ r₀.1 in
    let r₂ = one_kept _ _ r₁.1 in
    let r₃ = one_kept _ _ r₂.1 in
    let r₄ = one_kept _ _ r₃.1 in
    let r₅ = one_kept _ _ r₄.1 in
    let r₆ = one_kept _ _ r₅.1 in
    let r₇ = one_kept _ _ r₆.1 in
    let r₈ = one_kept _ _ r₇.1 in
    let sizes = and_parts (leb 48 (length b)) (leb (length b) 65536) r₀.0 in
    record {
      least = leb-true 48 (length b) sizes.0;
      most = leb-true (length b) 65536 sizes.1;
      few = leb-true (records b Templates) 64 r₁.0;
      templates = eqb-true _ _ r₂.0;
      blocks = eqb-true _ _ r₃.0;
      codes = eqb-true _ _ r₄.0;
      instructions = eqb-true _ _ r₅.0;
      constants = eqb-true _ _ r₆.0;
      text = eqb-true _ _ r₇.0;
      end = eqb-true _ _ r₈.0;
    }

pub few_named : (b : List ℕ) (o : Owned) → all_kept b header_rules ≡ true → owned_in b o ≤ 5457
few_named b Block h = let e = headed b h in omega arith
few_named b Code h = let e = headed b h in omega arith
few_named b Instruction h = let e = headed b h in omega arith

pub few_namers : (b : List ℕ) (o : Owned) → all_kept b header_rules ≡ true → namers b o ≤ 6000
few_namers b Block h = let e = headed b h in omega arith
few_namers b Code h = let e = headed b h in omega arith
few_namers b Instruction h = let e = headed b h in omega arith
