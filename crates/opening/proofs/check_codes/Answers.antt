use Rattle.std.proofs.Common.{◌≡◌, ℕ, ◌+◌, ◌<◌, List, ltb, length, take, sym, refl, ap, ◌∙◌, arith, below_more}
use Rattle.std.specs.Option.{option_map}
use Rattle.std.proofs.lemmas.Bool.{cond-true, lt-ltb}
use Rattle.layout.specs.Layout.{records}
use Rattle.layout.specs.declared.section.Header.{Header}
use Rattle.layout.specs.declared.section.Section.TheVariants.{Codes}
use Rattle.standing.specs.Paths.{Stands}
use Rattle.bundle.specs.Decoded.{code}
use Rattle.bundle.specs.View.{code_view}
use Rattle.opening.specs.Opening.{code_shapes}
use Rattle.standing.proofs.Represents.{none_some}
use Rattle.opening.proofs.Verdict.{judged_stands, judged_broken}
use Rattle.opening.proofs.check_codes.Goals as goal
use Rattle.opening.proofs.check_codes.Goals.{in-Some+in_default-check_with, in_default}

-- the code that was read has the number that was asked for
named : {b c : List ℕ} {n k : ℕ} → c ≡ b → k ≡ n → n < records b Codes → k < records c Codes
named bytes number l = omega (arith, number, ap (λ x. records x Codes) bytes)

pub returns-in-Err : goal.returns-in-Err
returns-in-Err c =
    let l : c.loop-number.number < records c.args.bundle.layout.bytes.now Codes =
    omega (arith, ap (λ (h : Header). h.codes.count) c.header-number-end.ensures) in
    let p = c.in-Some.ensures.place in
    judged_broken c.args.bundle.layout.bytes.now c.in-Some.code.layout.bytes.now c.loop-number.number c.in-Some.code.number
    p.0 p.1 c.args.bundle.clean l (c.in-Err.ensures (named p.0 p.1 l))

pub loop-number-preserved : goal.loop-number-preserved
loop-number-preserved c =
    let l : c.loop-number.number < records c.args.bundle.layout.bytes.now Codes =
    omega (arith, ap (λ (h : Header). h.codes.count) c.header-number-end.ensures) in
    below_more (λ k. Stands (code_shapes c.args.bundle.layout.bytes.now k)) c.loop-number.number c.loop-number.invariant
    (elim c.match-code.branch [
      | in-Some+in_default-check_with w ↦
          let p = w.in-Some.ensures.place in
          judged_stands c.args.bundle.layout.bytes.now w.in-Some.code.layout.bytes.now c.loop-number.number w.in-Some.code.number
          p.0 p.1 (λ xs. take (length xs + 1) w.check_with.new.table.entries) w.check_with.result
          (w.check_with.ensures (named p.0 p.1 l)) w.in_default-check_with.not-Err
      | in_default w ↦
          let e = sym (cond-true (ltb c.loop-number.number (records c.args.bundle.layout.bytes.now Codes)) _ _ (lt-ltb _ _ l)) in
          absurd (none_some (code c.args.bundle.layout.bytes.now c.loop-number.number) refl
          (ap (option_map code_view) (sym w.in_default.is) ∙ c.code.ensures.value ∙ sym e))
    ])
