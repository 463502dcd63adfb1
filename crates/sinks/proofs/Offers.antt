-- What an accepted piece leaves of an expected text.
use Rattle.std.proofs.Common.{◌≡◌, ℕ, ◌+◌, ◌≤◌, true, nat_eq, List, ◌++◌, length, take, drop, ap, ◌∙◌, refl, take-add, sym, length-take-le}
use Rattle.std.specs.List.{starts_with}
use Rattle.std.proofs.lemmas.Bool.Decides.{Decides-eqb}
use Rattle.std.proofs.lemmas.List.{take_at}
use Rattle.std.proofs.lemmas.Slice.Eq.{starts_is}
use Rattle.sinks.specs.Taking.{continues, matching, offered}

continued : (n : ℕ) (xs ys : List ℕ) → starts_with nat_eq (drop n xs) ys ≡ true → take (n + length ys) xs ≡ take n xs ++ ys
continued n xs ys h =
    let whole = (starts_is Decides-eqb (drop n xs) ys true (sym h)).0 refl in
    take-add n (length ys) xs ∙ ap (λ zs. take n xs ++ take (length ys) zs) whole ∙ ap (λ zs. take n xs ++ zs) (take_at ys _ (length ys) refl)

pub matched : (n : ℕ) (xs ys : List ℕ) → n ≤ length xs → continues xs (take n xs) ys ≡ true → matching (n + length ys) xs ≡ offered (matching n xs) ys
matched n xs ys h e = let w = rw (length-take-le n xs h) at e in rw (e, continued n xs ys w)
