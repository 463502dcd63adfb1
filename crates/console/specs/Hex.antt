-- What a line of hex digits writes.
use Rattle.std.specs.Prelude.{ℕ, ◌+◌, ◌-◌, ◌*◌, cond, ◌&&◌, List, [], ◌∷◌, Some, None, Option, nat_le}

-- the value of a digit: '0' to '9', 'a' to 'f', 'A' to 'F'
abbrev pub digit_value : ℕ → Option ℕ
digit_value d =
    cond (nat_le 48 d && nat_le d 57) (Some (d - 48))
    (cond (nat_le 97 d && nat_le d 102) (Some (d - 87))
    (cond (nat_le 65 d && nat_le d 70) (Some (d - 55)) None))

-- two digits write a byte
abbrev pub byte_from : Option ℕ → Option ℕ → Option ℕ
byte_from None low = None
byte_from (Some h) None = None
byte_from (Some h) (Some l) = Some (16 * h + l)

abbrev pub byte_of : ℕ → ℕ → Option ℕ
byte_of high low = byte_from (digit_value high) (digit_value low)

abbrev pub before : Option ℕ → Option (List ℕ) → Option (List ℕ)
before None rest = None
before (Some b) None = None
before (Some b) (Some bs) = Some (b ∷ bs)

-- the bytes that a line writes; an odd number of digits, or anything else than digits, writes none
abbrev pub line_bytes : List ℕ → Option (List ℕ)
line_bytes [] = Some []
line_bytes (high ∷ []) = None
line_bytes (high ∷ low ∷ rest) = before (byte_of high low) (line_bytes rest)
