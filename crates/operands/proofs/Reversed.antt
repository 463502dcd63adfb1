-- A list that is shown in reverse.
use Rattle.std.proofs.Common.{◌≡◌, ℕ, zero, suc, ◌+◌, ◌-◌, ◌≤◌, List, [], ◌∷◌, ◌++◌, map, reverse, length, take, drop, sym, refl, ap, ◌∙◌, arith, length-drop}
use Rattle.std.proofs.Math.Seq.{take-add}
use Rattle.std.proofs.lemmas.List.{take-append-drop, reverse-append, length-reverse, length-take-le, length-map, take_at, drop_at, drop_all, map-append}

module _ {A : Type 0} where
  pub reverse-split : (k : ℕ) (xs : List A) → reverse xs ≡ reverse (drop k xs) ++ reverse (take k xs)
  reverse-split k xs = ap reverse (sym (take-append-drop k xs)) ∙ reverse-append (take k xs) (drop k xs)

  reverse-map : (f : A → A) (xs : List A) → reverse (map f xs) ≡ map f (reverse xs)
  reverse-map f [] = refl
  reverse-map f (x ∷ xs) =
      reverse-append (f x ∷ []) (map f xs) ∙ ap (λ ys. ys ++ (f x ∷ [])) (reverse-map f xs)
      ∙ sym (map-append f (reverse xs) (x ∷ [])) ∙ ap (map f) (sym (reverse-append (x ∷ []) xs))

  pub length-shown : (n : ℕ) (xs : List A) → n ≤ length xs → length (reverse (take n xs)) ≡ n
  length-shown n xs h = length-reverse (take n xs) ∙ length-take-le n xs h

  drop-shown-by : (m k n : ℕ) (xs : List A) → m ≡ n - k → n ≤ length xs → drop k (reverse (take n xs)) ≡ reverse (take m xs)
  drop-shown-by zero k n xs e h = drop_all k (reverse (take n xs)) (omega (arith, length-shown n xs h))
  drop-shown-by (suc m) k n xs e h =
      let above = take k (drop (suc m) xs) in
      let all : suc m + k ≡ n = omega arith in
      ap (λ i. drop k (reverse (take i xs))) (sym all)
      ∙ ap (λ ys. drop k (reverse ys)) (take-add (suc m) k xs)
      ∙ ap (drop k) (reverse-append (take (suc m) xs) above)
      ∙ drop_at (reverse above) _ k (length-shown k (drop (suc m) xs) (omega (arith, length-drop (suc m) xs)))

  pub drop-shown : (k n : ℕ) (xs : List A) → n ≤ length xs → drop k (reverse (take n xs)) ≡ reverse (take (n - k) xs)
  drop-shown k n xs h = drop-shown-by (n - k) k n xs refl h

  pub map-shown : (f : A → A) (n : ℕ) (xs zs : List A) → n ≤ length xs → reverse (take n (map f (take n xs) ++ zs)) ≡ map f (reverse (take n xs))
  map-shown f n xs zs h =
      let shown = take n xs in
      ap reverse (take_at (map f shown) zs n (length-map shown f ∙ length-take-le n xs h)) ∙ reverse-map f shown

pub ruleset reversed = (length-shown, drop-shown, map-shown)
