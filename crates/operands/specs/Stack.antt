-- Operands as a list, the top first.
use Rattle.std.specs.Prelude.{ℕ, zero, suc, cond, List, [], ◌∷◌, ◌++◌, length, drop, Some, None, Option, ◌==◌, nat_lt}
use Rattle.operands.specs.declared.operand.Operand.{Operand}
use Rattle.operands.specs.declared.operand.Operand.TheVariants.{Value, Loop, Ended}

abbrev pub most : ℕ
most = 256

abbrev pub head : {A : Type 0} → List A → Option A
head [] = None
head (x ∷ xs) = Some x

-- A code takes only what lies above its base.
abbrev pub own_first : ℕ → List Operand → Option Operand
own_first base vs = cond (nat_lt base (length vs)) (head vs) None

abbrev pub own_rest : ℕ → List Operand → List Operand
own_rest base vs = cond (nat_lt base (length vs)) (drop 1 vs) vs

-- the code of a value
abbrev pub code_of : Operand → Option ℕ
code_of (Value k) = Some k
code_of (Loop n) = None
code_of Ended = None

abbrev pub and_code : Option (List ℕ) → Option ℕ → Option (List ℕ)
and_code None k = None
and_code (Some ks) None = None
and_code (Some ks) (Some k) = Some (ks ++ (k ∷ []))

-- The codes of so many operands from the top, the top one last; none if there are fewer, or one of them is no value.
abbrev pub top_codes : ℕ → List Operand → Option (List ℕ)
top_codes zero vs = Some []
top_codes (suc n) [] = None
top_codes (suc n) (v ∷ vs) = and_code (top_codes n vs) (code_of v)

-- the codes that were written, if all of them could be
abbrev pub codes_if : Option (Unit {0}) → List ℕ → Option (List ℕ)
codes_if None ks = None
codes_if (Some x) ks = Some ks

-- an operand after the loop of this frame has ended
abbrev pub forgotten : ℕ → Operand → Operand
forgotten n (Value k) = Value k
forgotten n (Loop m) = cond (m == n) Ended (Loop m)
forgotten n Ended = Ended
