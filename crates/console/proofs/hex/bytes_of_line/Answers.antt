use Rattle.std.proofs.Common.{◌≤◌, length, vec_items, sym, ◌∙◌, rules}
use Rattle.std.proofs.lemmas.List.{take_rest}
use Rattle.console.specs.Hex.{line_bytes}
use Rattle.console.proofs.Lines.{preceded, line_bytes_more}
use Rattle.console.proofs.hex.bytes_of_line.Goals as goal

pub loop-rest-preserved : goal.loop-rest-preserved
loop-rest-preserved c =
    let rest = c.loop-rest.rest.now in
    let long : 2 ≤ length rest = search rules in
    let more = line_bytes_more rest (vec_items c.loop-rest.bytes) c.in-Some.byte long (sym c.in-Some.ensures) in
    let items = c.in_ok-push-in-Some.ensures.items in
    c.loop-rest.invariant ∙ more ∙ (λ i. preceded (sym items i) (line_bytes (sym (take_rest rest 2) i)))
