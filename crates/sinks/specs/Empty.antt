-- The empty piece is accepted by both rules.
use Rattle.std.specs.Prelude.{◌≡◌, ℕ, true, List, [], length, take, refl}
use Rattle.std.proofs.Common.{arith, le-leb, length-take}
use Rattle.sinks.specs.Taking.{fits, continues}

pub fits_empty : (buffer : List ℕ) (n : ℕ) → fits (length buffer) (take n buffer) [] ≡ true
fits_empty buffer n = rw length-take (le-leb _ _ (omega arith))

pub continues_empty : (expected text : List ℕ) → continues expected text [] ≡ true
continues_empty expected text = refl
