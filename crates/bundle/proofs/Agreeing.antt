-- Bundles whose records agree, read through numbers and offsets, hold the same program.
use Rattle.std.proofs.Common.{◌≡◌, ℕ, ◌+◌, Bool, true, false, cond, eqb, List, [], Some, None, unwrap_or, refl, ap, ◌∙◌, subst}
use Rattle.std.specs.Option.{option_map}
use Rattle.std.proofs.lemmas.Bool.{eqb-true}
use Rattle.layout.specs.Layout as layout
use Rattle.layout.specs.declared.section.Section.TheVariants.{Templates}
use Rattle.layout.specs.declared.records.InstructionRecord.{InstructionRecord}
use Rattle.layout.specs.declared.records.ConstantRecord.{ConstantRecord}
use Rattle.layout.proofs.Listed.{listed_same}
use Rattle.instruction.specs.Program.{Instr, Step, Code, Block, Template}
use Rattle.instruction.specs.Program.Const.{undefined, boolean, integer, string}
use Rattle.instruction.specs.Program.Instr.{emit_raw}
use Rattle.instruction.specs.Kinds.{Operands, operands, fields_of, signed, constant_as, mode_of, decoded_as, decoded}
use Rattle.instruction.specs.Kinds.Operands.{plain, text, counted, named, cached, constant, target, flags, mode, left_out}
use Rattle.instruction.specs.Allowed.{uses}
use Rattle.rules.specs.Rules.{template_name, block_name}
use Rattle.bundle.specs.Decoded.{instruction, step, code, block, template}
use Rattle.bundle.specs.Agreement.{SameConstant, SameInstruction, SameCode, SameBlock, SameTemplate, AgreeingBundlesHoldOneProgram}

-- a choice by a test, where each way is the same on both sides
choose : {A : Type 0} (t : Bool) (x x' y y' : A) → (t ≡ true → x ≡ x') → y ≡ y' → cond t x y ≡ cond t x' y'
choose true x x' y y' f e = f refl
choose false x x' y y' f e = e

constant_same : (b c : List ℕ) (r s : ConstantRecord) → SameConstant b c r s → constant_as b r ≡ constant_as c s
constant_same b c r s h =
    subst (λ (k : ℕ). constant_as b r ≡
    cond (eqb k 0) (Some undefined) (cond (eqb k 1) (Some (boolean false)) (cond (eqb k 2) (Some (boolean true))
    (cond (eqb k 3) (Some (integer (signed s.a))) (cond (eqb k 4) (Some (string (layout.text c (layout.span s.a s.b)))) None)))))
    h.kind
    (choose (eqb r.kind 0) _ _ _ _ (λ _. refl)
    (choose (eqb r.kind 1) _ _ _ _ (λ _. refl)
    (choose (eqb r.kind 2) _ _ _ _ (λ _. refl)
    (choose (eqb r.kind 3) _ _ _ _ (λ t. ap (λ n. Some (integer (signed n))) (h.integer (eqb-true r.kind 3 t)))
    (choose (eqb r.kind 4) _ _ _ _ (λ t. ap (λ x. Some (string x)) (h.string (eqb-true r.kind 4 t))) refl)))))

operands_same : (b c : List ℕ) (r s : InstructionRecord) (o : Operands)
    → r.small ≡ s.small → r.argc ≡ s.argc
    → ((uses (fields_of o)).text ≡ true → layout.text b (layout.span r.a r.b) ≡ layout.text c (layout.span s.a s.b))
    → ((uses (fields_of o)).constant ≡ true → SameConstant b c (layout.constant b r.a) (layout.constant c s.a))
    → ((uses (fields_of o)).target ≡ true → r.a ≡ s.a)
    → decoded_as b r o ≡ decoded_as c s o
operands_same b c r s (plain i) small argc words constants goal = refl
operands_same b c r s (text i) small argc words constants goal = ap (λ x. Some (i x)) (words refl)
operands_same b c r s (counted i) small argc words constants goal = ap (λ n. Some (i n)) argc
operands_same b c r s (named i) small argc words constants goal =
    ap (λ x. Some (i x r.argc)) (words refl) ∙ ap (λ n. Some (i (layout.text c (layout.span s.a s.b)) n)) argc
operands_same b c r s (cached i) small argc words constants goal =
    ap (λ x. Some (i x r.argc r.small)) (words refl)
    ∙ ap (λ n. Some (i (layout.text c (layout.span s.a s.b)) n r.small)) argc
    ∙ ap (λ n. Some (i (layout.text c (layout.span s.a s.b)) s.argc n)) small
operands_same b c r s (constant i) small argc words constants goal =
    ap (option_map i) (constant_same b c (layout.constant b r.a) (layout.constant c s.a) (constants refl))
operands_same b c r s (target i) small argc words constants goal = ap (λ n. Some (i n)) (goal refl)
operands_same b c r s (flags i) small argc words constants goal = ap (λ n. Some (i n)) small
operands_same b c r s (mode i) small argc words constants goal = ap (λ n. Some (i (mode_of n))) small
operands_same b c r s left_out small argc words constants goal = refl

decoded_same : (b c : List ℕ) (r s : InstructionRecord) → SameInstruction b c r s → decoded b r ≡ decoded c s
decoded_same b c r s h =
    operands_same b c r s (operands r.kind) h.small h.argc h.words h.constants h.target
    ∙ ap (λ k. decoded_as c s (operands k)) h.kind

step_same : (b c : List ℕ) (i j : ℕ) → SameInstruction b c (layout.instruction b i) (layout.instruction c j) → step b i ≡ step c j
step_same b c i j h =
    let e : instruction b i ≡ instruction c j = ap (λ x. unwrap_or x (emit_raw [])) (decoded_same b c _ _ h) in
    let Made : Instr → ℕ → Step = λ x n. record { instruction = x; line = n } in
    ap (λ x. Made x (layout.instruction b i).line) e ∙ ap (Made (instruction c j)) h.line

code_same : (b c : List ℕ) (i j : ℕ) → SameCode b c i j → code b i ≡ code c j
code_same b c i j h =
    let steps = listed_same (λ k. step b ((layout.code b i).instructions.first + k)) (λ k. step c ((layout.code c j).instructions.first + k))
    (layout.code b i).instructions.count (layout.code c j).instructions.count h.number
    (λ k l. step_same b c _ _ (h.steps k l)) in
    let Made : Bool → List Step → Code = λ t xs. record { required = t; steps = xs } in
    ap (λ n. Made (eqb n 1) (code b i).steps) h.flag ∙ ap (Made (eqb (layout.code c j).flag 1)) steps

block_same : (b c : List ℕ) (i j : ℕ) → SameBlock b c i j → block b i ≡ block c j
block_same b c i j h =
    let Made : List ℕ → Code → Block = λ n x. record { name = n; code = x } in
    ap (λ n. Made n (block b i).code) h.name ∙ ap (Made (block_name c j)) (code_same b c _ _ h.body)

template_same : (b c : List ℕ) (t : ℕ) → SameTemplate b c t → template b t ≡ template c t
template_same b c t h =
    let blocks = listed_same (λ k. block b ((layout.template b t).blocks.first + k)) (λ k. block c ((layout.template c t).blocks.first + k))
    (layout.template b t).blocks.count (layout.template c t).blocks.count h.number
    (λ k l. block_same b c _ _ (h.blocks k l)) in
    let Made : List ℕ → Code → List Block → Template = λ n x xs. record { name = n; main = x; blocks = xs } in
    ap (λ n. Made n (template b t).main (template b t).blocks) h.name
    ∙ ap (λ x. Made (template_name c t) x (template b t).blocks) (code_same b c _ _ h.main)
    ∙ ap (Made (template_name c t) (template c t).main) blocks

pub agreeing_hold_one_program : (b : List ℕ) → AgreeingBundlesHoldOneProgram b
agreeing_hold_one_program b c h =
    listed_same (template b) (template c) (layout.records b Templates) (layout.records c Templates) h.number
    (λ t l. template_same b c t (h.templates t l))
