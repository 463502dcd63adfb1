use Rattle.std.proofs.Common.{ℕ, ◌+◌, ◌==◌, length, take, drop, sym, ap, ◌∙◌, arith, rules}
use Rattle.std.proofs.lemmas.List.Sums.{position_or_len_is}
use Rattle.std.proofs.lemmas.List.{take_rest}
use Rattle.facts.proofs.cut.Goals as goal

pub returns-in-Some : goal.returns-in-Some
returns-in-Some c =
    let text = c.args.text.now in
    let found = position_or_len_is (λ (b : ℕ). b == c.args.byte) text c.in-Some.place 0 (search rules) (search rules) (search rules) in
    (rw found (search rules), ap (λ n. take n text) (sym found), take_rest text _ ∙ ap (λ n. drop (n + 1) text) (sym found))

pub returns-in-None : goal.returns-in-None
returns-in-None c =
    let text = c.args.text.now in
    omega (arith, position_or_len_is (λ (b : ℕ). b == c.args.byte) text (length text) 0 (omega arith) (search rules) (search rules))
