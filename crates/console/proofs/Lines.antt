-- Bytes that are read one after another.
use Rattle.std.proofs.Common.{◌≡◌, ℕ, ◌≤◌, List, [], ◌∷◌, ◌++◌, length, get_or, drop, Some, None, Option, sym, refl, ap, ◌∙◌, append_assoc, arith}
use Rattle.console.specs.Hex.{before, byte_of, line_bytes}

-- these bytes, and then those that are still to come, if they can be read
abbrev pub preceded : List ℕ → Option (List ℕ) → Option (List ℕ)
preceded xs None = None
preceded xs (Some ys) = Some (xs ++ ys)

pub preceded_none : (o : Option (List ℕ)) → preceded [] o ≡ o
preceded_none None = refl
preceded_none (Some ys) = refl

pub preceded_more : (xs : List ℕ) (b : ℕ) (o : Option (List ℕ)) → preceded xs (before (Some b) o) ≡ preceded (xs ++ b ∷ []) o
preceded_more xs b None = refl
preceded_more xs b (Some ys) = ap (λ (l : List ℕ). Some l) (sym (append_assoc xs (b ∷ []) ys))

-- one turn: the first two digits are read
pub line_bytes_more : (rest xs : List ℕ) (b : ℕ) → 2 ≤ length rest → byte_of (get_or rest 0 0) (get_or rest 1 0) ≡ Some b
    → preceded xs (line_bytes rest) ≡ preceded (xs ++ b ∷ []) (line_bytes (drop 2 rest))
line_bytes_more [] xs b h e = absurd (omega arith)
line_bytes_more (x ∷ []) xs b h e = absurd (omega arith)
line_bytes_more (x ∷ y ∷ rest) xs b h e =
    ap (λ (o : Option ℕ). preceded xs (before o (line_bytes rest))) e ∙ preceded_more xs b (line_bytes rest)
