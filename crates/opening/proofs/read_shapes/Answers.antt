use Rattle.std.proofs.Common.{[], ◌∷◌, ◌++◌, length, sym, ap, ◌∙◌, arith}
use Rattle.std.specs.Option.{option_map}
use Rattle.std.proofs.lemmas.List.{take_all, length-append}
use Rattle.arrayvec.specs.ArrayVec.{ArrayVec}
use Rattle.instruction.specs.Seen.{instruction_seen}
use Rattle.standing.specs.declared.shape.Shape.{Shape}
use Rattle.bundle.specs.Decoded.{code}
use Rattle.opening.specs.Opening.{code_shapes}
use Rattle.opening.proofs.Reading.{some_nth, shapes_long, one_more}
use Rattle.opening.proofs.read_shapes.Goals as goal
use Rattle.opening.proofs.read_shapes.Goals.{in-Some, in_default}

pub push-requires : goal.push-requires
push-requires c = (omega arith, omega (arith, c.loop-place.invariant.0, c.len-place-end.ensures, c.requires))

pub loop-place-preserved : goal.loop-place-preserved
loop-place-preserved c =
    let b = c.args.code.layout.bytes.now in
    let n = c.args.code.number in
    elim c.match-get.branch [
      | in-Some w ↦
          let new = ap (λ (v : ArrayVec Shape). v.items) w.shapes-is ∙ w.push.ensures.items in (
            omega (arith, ap length new ∙ length-append c.loop-place.shapes.items (w.shape_of.result ∷ []), c.loop-place.invariant.0),
            λ inside. new
                ∙ ap (λ (s : Shape). c.loop-place.shapes.items ++ s ∷ []) w.shape_of.ensures
                ∙ one_more b n c.loop-place.place (instruction_seen w.in-Some.instruction) c.loop-place.shapes.items
                (omega (arith, c.len-place-end.ensures))
                (ap (option_map instruction_seen) (sym w.in-Some.is) ∙ c.get.ensures.step inside) (c.loop-place.invariant.1 inside),
          )
      | in_default w ↦ (
        omega (arith, ap (λ (v : ArrayVec Shape). length v.items) w.shapes-is, c.loop-place.invariant.0),
        λ inside. absurd (some_nth (code b n).steps c.loop-place.place (omega (arith, c.len-place-end.ensures))
            (ap (option_map instruction_seen) (sym w.in_default.is) ∙ c.get.ensures.step inside)),
      )
    ]

pub returns : goal.returns
returns c = λ inside.
    let b = c.args.code.layout.bytes.now in
    let n = c.args.code.number in
    c.loop-place.invariant.1 inside
    ∙ take_all c.loop-place.place (code_shapes b n)
    (omega (arith, shapes_long b n, c.len-place-end.ensures))
