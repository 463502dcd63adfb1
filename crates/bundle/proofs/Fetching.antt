-- What stands at a place of a code.
use Rattle.std.proofs.Common.{◌≡◌, ℕ, ◌+◌, ◌<◌, ◌≤◌, Bool, true, false, cond, not, eqb, ltb, List, [], is_some, Some, None, Option, unwrap_or, sym, refl, ap, ◌∙◌, ⊎_elim, arith}
use Rattle.std.specs.List.{slice_get}
use Rattle.std.specs.Option.{option_map}
use Rattle.std.proofs.lemmas.Bool.{cases_lt, leb-true, eqb-false, lt-ltb, le-ltb, both_ways, or_cases, not-true, cond-true, cond-false}
use Rattle.layout.specs.Layout as layout
use Rattle.layout.specs.declared.section.Section.TheVariants.{Codes, Instructions, Constants}
use Rattle.layout.specs.declared.records.InstructionRecord.{InstructionRecord}
use Rattle.layout.specs.declared.records.ConstantRecord.{ConstantRecord}
use Rattle.layout.proofs.Listed.{nth_listed, nth_past_listed}
use Rattle.instruction.specs.Program.{Step}
use Rattle.instruction.specs.Program.Instr.{emit_raw}
use Rattle.instruction.specs.Kinds.{Operands, operands, fields_of, fields, constant_as, constant_of, decoded_as, decoded}
use Rattle.instruction.specs.Kinds.Operands.{plain, text, counted, named, cached, constant, target, flags, mode, left_out}
use Rattle.instruction.specs.Allowed.{uses}
use Rattle.rules.specs.Rules.{inside}
use Rattle.rules.specs.declared.RecordRule.TheVariants.{CodeInstructions, InstructionConstant, InstructionKind, ConstantKind}
use Rattle.rules.specs.declared.Rule.TheVariants.{Record}
use Rattle.causes.specs.Causes.{cause, reference_rules, field_rules}
use Rattle.bundle.specs.Decoded.{instruction, step, code, fetched, record_at, line_of}
use Rattle.bundle.proofs.Kept.{Clean, clean, kept_at, keeps_at}

some_value : {A : Type 0} (x : Option A) (d : A) → is_some x ≡ true → x ≡ Some (unwrap_or x d)
some_value None d h = absurd (both_ways false refl h)
some_value (Some x) d h = refl

-- a constant of a known kind is something
some_or : {A : Type 0} (t : Bool) (v : A) (rest : Option A) → (t ≡ false → is_some rest ≡ true) → is_some (cond t (Some v) rest) ≡ true
some_or true v rest h = refl
some_or false v rest h = h refl

constant_some : (b : List ℕ) (r : ConstantRecord) → r.kind ≤ 4 → is_some (constant_as b r) ≡ true
constant_some b r l =
    some_or (eqb r.kind 0) _ _ (λ n₀. some_or (eqb r.kind 1) _ _ (λ n₁. some_or (eqb r.kind 2) _ _ (λ n₂.
    some_or (eqb r.kind 3) _ _ (λ n₃. some_or (eqb r.kind 4) _ _ (λ n₄.
    absurd (omega (
      arith,
      eqb-false r.kind 0 n₀,
      eqb-false r.kind 1 n₁,
      eqb-false r.kind 2 n₂,
      eqb-false r.kind 3 n₃,
      eqb-false r.kind 4 n₄,
    )))))))

mapped_some : {A B : Type 0} (f : A → B) (x : Option A) → is_some x ≡ true → is_some (option_map f x) ≡ true
mapped_some f None h = absurd (both_ways false refl h)
mapped_some f (Some x) h = refl

-- an instruction of a kind that is allowed, with a constant of a known kind if it takes one, is something
operands_some : (b : List ℕ) (r : InstructionRecord) (o : Operands) → (uses (fields_of o)).allowed ≡ true
    → ((uses (fields_of o)).constant ≡ true → is_some (constant_of b r.a) ≡ true) → is_some (decoded_as b r o) ≡ true
operands_some b r (plain i) h k = refl
operands_some b r (text i) h k = refl
operands_some b r (counted i) h k = refl
operands_some b r (named i) h k = refl
operands_some b r (cached i) h k = refl
operands_some b r (constant i) h k = mapped_some i (constant_of b r.a) (k refl)
operands_some b r (target i) h k = refl
operands_some b r (flags i) h k = refl
operands_some b r (mode i) h k = refl
operands_some b r left_out h k = absurd (both_ways false refl h)

module _ (b : List ℕ) (h : Clean b) where
  constant_known : (k : ℕ) → k < layout.records b Constants → is_some (constant_of b k) ≡ true
  constant_known k l =
      constant_some b (layout.constant b k)
      (leb-true _ 4 (keeps_at b (Record ConstantKind) k (kept_at b field_rules 5 (Record ConstantKind) h.fields (omega arith)) l))

  constant_inside : (i : ℕ) → i < layout.records b Instructions → (uses (fields (layout.instruction b i).kind)).constant ≡ true
      → (layout.instruction b i).a < layout.records b Constants
  constant_inside i l t =
      ⊎_elim
      (λ (n : not (uses (fields (layout.instruction b i).kind)).constant ≡ true).
      absurd (both_ways (uses (fields (layout.instruction b i).kind)).constant (not-true (uses (fields (layout.instruction b i).kind)).constant n) t))
      (λ (n : inside b Constants (layout.span (layout.instruction b i).a 1) ≡ true).
      omega (arith, leb-true ((layout.instruction b i).a + 1) (layout.records b Constants) n))
      (or_cases (not (uses (fields (layout.instruction b i).kind)).constant) (inside b Constants (layout.span (layout.instruction b i).a 1))
      (keeps_at b (Record InstructionConstant) i
      (kept_at b reference_rules 7 (Record InstructionConstant) h.references (omega arith)) l))

  instruction_known : (i : ℕ) → i < layout.records b Instructions
      → decoded b (layout.instruction b i) ≡ Some (instruction b i)
  instruction_known i l =
      some_value (decoded b (layout.instruction b i)) (emit_raw [])
      (operands_some b (layout.instruction b i) (operands (layout.instruction b i).kind)
      (keeps_at b (Record InstructionKind) i (kept_at b field_rules 3 (Record InstructionKind) h.fields (omega arith)) l)
      (λ t. constant_known (layout.instruction b i).a (constant_inside i l t)))

  code_inside : (c : ℕ) → c < layout.records b Codes
      → (layout.code b c).instructions.first + (layout.code b c).instructions.count ≤ layout.records b Instructions
  code_inside c l =
      leb-true _ (layout.records b Instructions)
      (keeps_at b (Record CodeInstructions) c (kept_at b reference_rules 5 (Record CodeInstructions) h.references (omega arith)) l)

steps_of : List ℕ → ℕ → ℕ → Step
steps_of b c k = step b ((layout.code b c).instructions.first + k)

-- in a bundle without causes 1 to 4, what is fetched is the step of the program
pub fetched_is_step : (b : List ℕ) (c k : ℕ) → cause b ≡ 0 → c < layout.records b Codes
    → fetched b c k ≡ option_map (λ s. s.instruction) (slice_get (code b c).steps k)
unfolding steps_of
fetched_is_step b c k e l =
    ⊎_elim
    (λ (m : k < (layout.code b c).instructions.count).
    let h = clean b e in
    let i = (layout.code b c).instructions.first + k in
    cond-true (ltb k (layout.code b c).instructions.count) _ _ (lt-ltb k _ m)
    ∙ instruction_known b h i (omega (arith, code_inside b h c l))
    ∙ sym (ap (option_map (λ s. s.instruction)) (nth_listed (steps_of b c) (layout.code b c).instructions.count k m)))
    (λ (m : (layout.code b c).instructions.count ≤ k).
    cond-false (ltb k (layout.code b c).instructions.count) _ _ (le-ltb k _ m)
    ∙ sym (ap (option_map (λ s. s.instruction)) (nth_past_listed (steps_of b c) (layout.code b c).instructions.count k m)))
    (cases_lt k (layout.code b c).instructions.count)

-- the line that a record holds, where it is known
abbrev pub line_in : Option InstructionRecord → Option ℕ
line_in None = None
line_in (Some r) = cond (eqb r.line 0) None (Some r.line)

-- the line of a step is that of its record
pub line_is : (b : List ℕ) (c k : ℕ) → line_in (record_at b c k) ≡ line_of (slice_get (code b c).steps k)
unfolding steps_of
line_is b c k =
    ⊎_elim
    (λ (m : k < (layout.code b c).instructions.count).
    ap line_in (cond-true (ltb k (layout.code b c).instructions.count) _ _ (lt-ltb k _ m))
    ∙ sym (ap line_of (nth_listed (steps_of b c) (layout.code b c).instructions.count k m)))
    (λ (m : (layout.code b c).instructions.count ≤ k).
    ap line_in (cond-false (ltb k (layout.code b c).instructions.count) _ _ (le-ltb k _ m))
    ∙ sym (ap line_of (nth_past_listed (steps_of b c) (layout.code b c).instructions.count k m)))
    (cases_lt k (layout.code b c).instructions.count)
