-- A list made from a function of the place.
use Rattle.std.proofs.Common.{◌≡◌, ℕ, ◌<◌, ◌≤◌, length, get_or, Some, None, sym, ap, ◌∙◌, arith}
use Rattle.std.specs.List.{slice_get}
use Rattle.std.proofs.lemmas.List.FromFn.{length-map-range_with_len, get_or-map-range_with_len}
use Rattle.std.proofs.lemmas.List.{same_lists}
use Rattle.std.proofs.lemmas.Option.{slice_get-get_or, slice_get_past}
use Rattle.layout.specs.Bounded.{listed}

pub length_listed : {A : Type 0} (f : ℕ → A) (n : ℕ) → length (listed n f) ≡ n
length_listed f n = length-map-range_with_len f 0 n

at_place : {A : Type 0} (f : ℕ → A) (n i : ℕ) (d : A) → i < n → get_or (listed n f) i d ≡ f i
at_place f n i d l = get_or-map-range_with_len f 0 n i i d l (omega arith)

pub nth_listed : {A : Type 0} (f : ℕ → A) (n i : ℕ) → i < n → slice_get (listed n f) i ≡ Some (f i)
nth_listed f n i l =
    let long : length (listed n f) ≡ n = length_listed f n in
    slice_get-get_or (listed n f) i (f i) (omega arith) ∙ ap Some (at_place f n i (f i) l)

pub nth_past_listed : {A : Type 0} (f : ℕ → A) (n i : ℕ) → n ≤ i → slice_get (listed n f) i ≡ None
nth_past_listed f n i l =
    let long : length (listed n f) ≡ n = length_listed f n in
    slice_get_past (listed n f) i (omega arith)

pub listed_same : {A : Type 0} (f g : ℕ → A) (n m : ℕ) → n ≡ m → ((k : ℕ) → k < n → f k ≡ g k) → listed n f ≡ listed m g
listed_same f g n m e h =
    let p : length (listed n f) ≡ n = length_listed f n in
    let q : length (listed m g) ≡ m = length_listed g m in
    same_lists (listed n f) (listed m g) (p ∙ e ∙ sym q)
    (λ k d l. let w : k < n = omega arith in at_place f n k d w ∙ h k w ∙ sym (at_place g m k d (omega arith)))
