-- What is said of every number below a bound. It assumes nothing.
use Rattle.std.specs.Prelude.{ℕ, zero, suc, ◌+◌, Bool, true, cond, ◌&&◌, List, map, Some, None, Option}
use Rattle.std.specs.List.{range_with_len}

-- `p` is true of each number below the bound
abbrev pub each : ℕ → (ℕ → Bool) → Bool
each zero p = true
each (suc n) p = p n && each n p

abbrev pub bit : Bool → ℕ
bit t = cond t 1 0

-- of how many numbers below the bound `p` is true
abbrev pub count : ℕ → (ℕ → Bool) → ℕ
count zero p = 0
count (suc n) p = bit (p n) + count n p

-- f 0, f 1, .. up to the bound
abbrev pub listed : {A : Type 0} → ℕ → (ℕ → A) → List A
listed n f = map f (range_with_len 0 n)

abbrev pub first_or : {A : Type 0} → Option A → Option A → Option A
first_or None y = y
first_or (Some x) y = Some x

-- the first number below the bound of which p is not true
abbrev pub first_not : ℕ → (ℕ → Bool) → Option ℕ
first_not zero p = None
first_not (suc n) p = first_or (first_not n p) (cond (p n) None (Some n))
