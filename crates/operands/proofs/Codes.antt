-- The codes on top of a stack, of which the array has the bottom first.
use Rattle.std.proofs.Common.{◌≡◌, ℕ, zero, suc, ◌+◌, ◌-◌, ◌<◌, ◌≤◌, List, [], ◌∷◌, ◌++◌, reverse, length, get_or, take, drop, None, Some, Option, sym, refl, ap, ◌∙◌, add-one, arith, length-drop}
use Rattle.std.proofs.lemmas.List.{take_more, reverse-append, length-reverse, length-take-le, drop-take}
use Rattle.operands.specs.declared.operand.Operand.{Operand}
use Rattle.operands.specs.Stack.{code_of, and_code, top_codes}
use Rattle.operands.proofs.Reversed.{reverse-split, length-shown}

pub too_few : (n : ℕ) (vs : List Operand) → length vs < n → top_codes n vs ≡ None
too_few zero vs h = absurd (omega arith)
too_few (suc n) [] h = refl
too_few (suc n) (v ∷ vs) h = ap (λ o. and_code o (code_of v)) (too_few n vs (omega arith))

and_none : (o : Option (List ℕ)) → and_code o None ≡ None
and_none None = refl
and_none (Some ks) = refl

-- one that is no value, at any depth
stays_none : (vs ws : List Operand) (n m : ℕ) → n ≡ length vs + m → top_codes m ws ≡ None → top_codes n (vs ++ ws) ≡ None
stays_none [] ws n m h e = let same : n ≡ m = omega arith in ap (λ k. top_codes k ws) same ∙ e
stays_none (v ∷ vs) ws zero m h e = absurd (omega arith)
stays_none (v ∷ vs) ws (suc n) m h e = ap (λ o. and_code o (code_of v)) (stays_none vs ws n m (omega arith) e)

-- those of the top only
front : (vs ws : List Operand) (n : ℕ) → n ≤ length vs → top_codes n (vs ++ ws) ≡ top_codes n vs
front vs ws zero h = refl
front [] ws (suc n) h = absurd (omega arith)
front (v ∷ vs) ws (suc n) h = ap (λ o. and_code o (code_of v)) (front vs ws n (omega arith))

-- the last of those that there are, from the array
pub top_codes-tail : (n k h : ℕ) (vs : List Operand) → n + k ≡ h → h ≤ length vs → top_codes n (reverse (take (h - k) (drop k vs))) ≡ top_codes n (reverse (take h vs))
top_codes-tail n k h vs e l =
    let all : k + (h - k) ≡ h = omega arith in
    let below = take h vs in
    let long = length-take-le h vs l in
    ap (λ ws. top_codes n (reverse ws)) (sym (drop-take k (h - k) vs) ∙ ap (λ i. drop k (take i vs)) all)
    ∙ sym (ap (top_codes n) (reverse-split k below) ∙ front _ _ n (omega (arith, length-reverse (drop k below), length-drop k below)))

module _ (vs : List Operand) (i : ℕ) (d : Operand) (h : i < length vs) where
  reverse_more : reverse (take (i + 1) vs) ≡ get_or vs i d ∷ reverse (take i vs)
  reverse_more = ap reverse (take_more vs i d h) ∙ reverse-append (take i vs) (get_or vs i d ∷ [])

  pub next_codes : top_codes (i + 1) (reverse (take (i + 1) vs)) ≡ and_code (top_codes i (reverse (take i vs))) (code_of (get_or vs i d))
  next_codes = ap (top_codes (i + 1)) reverse_more ∙ ap (λ n. top_codes n (get_or vs i d ∷ reverse (take i vs))) (add-one i)

  pub none_at : code_of (get_or vs i d) ≡ None → top_codes (length vs) (reverse vs) ≡ None
  none_at e =
      let below = drop (i + 1) vs in
      ap (top_codes (length vs)) (reverse-split (i + 1) vs)
      ∙ stays_none (reverse below) (reverse (take (i + 1) vs)) (length vs) (i + 1) (omega (arith, length-reverse below, length-drop (i + 1) vs))
      (next_codes ∙ ap (and_code (top_codes i (reverse (take i vs)))) e ∙ and_none (top_codes i (reverse (take i vs))))

pub ruleset tops = (length-shown, too_few, top_codes-tail)
