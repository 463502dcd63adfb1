-- How bytes are written as printable text.
use Rattle.std.specs.Prelude.{ℕ, ◌+◌, ◌/◌, ◌%◌, cond, ◌&&◌, List, [], ◌∷◌, ◌==◌, nat_le, nat_lt}
use Rattle.std.specs.List.{flat_map}

-- the digit of a value below 16
abbrev pub hex_digit : ℕ → ℕ
hex_digit v = cond (nat_lt v 10) (48 + v) (87 + v)

-- a line feed, a tab, a backslash and a quote have names of two characters, printable bytes stand for themselves,
-- and the others are a backslash, an x and two digits
abbrev pub escaped_byte : ℕ → List ℕ
escaped_byte b =
    cond (b == 10) (92 ∷ 110 ∷ [])
    (cond (b == 9) (92 ∷ 116 ∷ [])
    (cond (b == 92) (92 ∷ 92 ∷ [])
    (cond (b == 34) (92 ∷ 34 ∷ [])
    (cond (nat_le 32 b && nat_le b 126) (b ∷ []) (92 ∷ 120 ∷ hex_digit (b / 16) ∷ hex_digit (b % 16) ∷ [])))))

abbrev pub escaped : List ℕ → List ℕ
escaped bs = flat_map escaped_byte bs
