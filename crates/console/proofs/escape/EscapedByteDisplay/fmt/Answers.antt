use Rattle.std.proofs.Common.{◌≡◌, false, ◌/◌, ◌%◌, [], ◌∷◌, sym, ap, ◌∙◌, arith}
use Rattle.std.proofs.Output.{has_written_of_eq}
use Rattle.std.proofs.lemmas.Fmt.{hex_byte}
use Rattle.std.proofs.lemmas.Str.Ascii.{encode_ascii}
use Rattle.std.proofs.lemmas.Bool.Decides.{nat_tests}
use Rattle.console.specs.Escape.{hex_digit, escaped_byte}
use Rattle.console.proofs.escape.EscapedByteDisplay.fmt.Goals as goal

pub returns-in-32-to-126-clause-writes : goal.returns-in-32-to-126-clause-writes
returns-in-32-to-126-clause-writes g c p ok =
    let b = c.args.self.now.0 in
    let e : escaped_byte b ≡ b ∷ [] = grind (arith, nat_tests) in
    has_written_of_eq g.W.Write.write_str_gives _ _ _ _ (encode_ascii b (omega arith) ∙ sym e) (c.write_char.ensures.writes p ok)

pub returns-in_default-clause-writes : goal.returns-in_default-clause-writes
returns-in_default-clause-writes g c p ok =
    let b = c.args.self.now.0 in
    let e : escaped_byte b ≡ 92 ∷ 120 ∷ hex_digit (b / 16) ∷ hex_digit (b % 16) ∷ [] = grind (arith, nat_tests) in
    let written = rw (c.laid_out.ensures, c.in_radix.ensures) at c.write.ensures.writes in
    has_written_of_eq g.W.Write.write_str_gives _ _ _ _ (ap (λ digits. 92 ∷ 120 ∷ digits) (hex_byte false b (omega arith)) ∙ sym e) (written p ok)
