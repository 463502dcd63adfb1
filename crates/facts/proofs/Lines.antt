-- The lines of a text, one after the other.
use Rattle.std.proofs.Common.{◌≡◌, ◌≢◌, ℕ, suc, ◌+◌, true, false, ◌||◌, List, [], ◌∷◌, Some, sym, refl, ap, ◌∙◌, subst, ⊎_elim, arith}
use Rattle.std.specs.Option.{option_map}
use Rattle.std.specs.List.{list_any, find, position_or_len, before_first, after_first, join_with_byte}
use Rattle.std.proofs.Common.{one-add}
use Rattle.std.proofs.lemmas.Bool.{cond-true, cond-false, cases_eq, ne_eqb}
use Rattle.facts.specs.Facts.{is_feed, is_equals, onto_first, lines, has_key, value_of}

before_feed : (b : ℕ) (bs : List ℕ) → b ≢ 10 → before_first is_feed (b ∷ bs) ≡ b ∷ before_first is_feed bs
before_feed b bs other = rw (ne_eqb b 10 other, one-add)

after_feed : (b : ℕ) (bs : List ℕ) → b ≢ 10 → after_first is_feed (b ∷ bs) ≡ after_first is_feed bs
after_feed b bs other =
    let shifted : 1 + position_or_len is_feed bs + 1 ≡ suc (position_or_len is_feed bs + 1) = omega arith in
    rw (ne_eqb b 10 other, shifted)

-- the first line is what stands before the first line feed, and no key is found elsewhere but in what stands after it
abbrev First : List ℕ → List ℕ → Type 0
First name text =
    (later : List (List ℕ)) × (lines text ≡ before_first is_feed text ∷ later)
    × (find (has_key name) later ≡ find (has_key name) (lines (after_first is_feed text)))

first : (name text : List ℕ) → First name text
first name [] = ([], refl, refl)
first name (b ∷ bs) =
    let next = first name bs in
    ⊎_elim
    (λ same. subst (λ x. First name (x ∷ bs)) (sym same) (lines bs, refl, refl))
    (λ other. (
      next.0,
      cond-false _ _ _ (ne_eqb b 10 other) ∙ ap (onto_first b) next.1 ∙ ap (λ l. l ∷ next.0) (sym (before_feed b bs other)),
      next.2 ∙ ap (λ t. find (has_key name) (lines t)) (sym (after_feed b bs other)),
    ))
    (cases_eq b 10)

-- where the first line has the key, its value is the answer, and else that of what stands after it
pub value_here : (name text : List ℕ) → has_key name (before_first is_feed text) ≡ true
    → value_of text name ≡ Some (after_first is_equals (before_first is_feed text))
value_here name text h =
    let f = first name text in
    ap (λ ls. option_map (after_first is_equals) (find (has_key name) ls)) f.1
    ∙ ap (option_map (after_first is_equals)) (cond-true _ _ _ h)

pub value_later : (name text : List ℕ) → has_key name (before_first is_feed text) ≡ false
    → value_of text name ≡ value_of (after_first is_feed text) name
value_later name text h =
    let f = first name text in
    ap (λ ls. option_map (after_first is_equals) (find (has_key name) ls)) f.1
    ∙ ap (option_map (after_first is_equals)) (cond-false _ _ _ h ∙ f.2)

joined_onto : (b : ℕ) (ls : List (List ℕ)) → join_with_byte 10 (onto_first b ls) ≡ b ∷ join_with_byte 10 ls
joined_onto b [] = refl
joined_onto b (l ∷ []) = refl
joined_onto b (l ∷ m ∷ ls) = refl

pub lines_joined : (text : List ℕ) → join_with_byte 10 (lines text) ≡ text
lines_joined [] = refl
lines_joined (b ∷ text) =
    ⊎_elim
    (λ same. subst (λ x. join_with_byte 10 (lines (x ∷ text)) ≡ x ∷ text) (sym same)
    (ap (λ ls. join_with_byte 10 ([] ∷ ls)) ((first [] text).1) ∙ ap (λ t. 10 ∷ t) (sym (ap (join_with_byte 10) ((first [] text).1)) ∙ lines_joined text)))
    (λ other. ap (join_with_byte 10) (cond-false _ _ _ (ne_eqb b 10 other)) ∙ joined_onto b (lines text) ∙ ap (λ t. b ∷ t) (lines_joined text))
    (cases_eq b 10)

no_feed_onto : (b : ℕ) (ls : List (List ℕ)) → is_feed b ≡ false → list_any (list_any is_feed) (onto_first b ls) ≡ list_any (list_any is_feed) ls
no_feed_onto b [] e = ap (λ t. (t || false) || false) e
no_feed_onto b (l ∷ ls) e = ap (λ t. (t || list_any is_feed l) || list_any (list_any is_feed) ls) e

pub no_line_has_a_feed : (text : List ℕ) → list_any (list_any is_feed) (lines text) ≡ false
no_line_has_a_feed [] = refl
no_line_has_a_feed (b ∷ text) =
    ⊎_elim
    (λ same. subst (λ x. list_any (list_any is_feed) (lines (x ∷ text)) ≡ false) (sym same) (no_line_has_a_feed text))
    (λ other. ap (list_any (list_any is_feed)) (cond-false _ _ _ (ne_eqb b 10 other)) ∙ no_feed_onto b (lines text) (ne_eqb b 10 other) ∙ no_line_has_a_feed text)
    (cases_eq b 10)
