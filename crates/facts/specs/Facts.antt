-- What a text of facts says. A fact is a line `key=value`: a line feed ends a line, and the first `=` the key.
use Rattle.std.specs.Prelude.{◌≡◌, ℕ, Bool, false, cond, ◌&&◌, ◌==◌, List, [], ◌∷◌, length, nat_lt, bytes_eq, Option}
use Rattle.std.specs.Option.{option_map}
use Rattle.std.specs.List.{list_any, find, position_or_len, before_first, after_first, join_with_byte}

abbrev pub is_feed : ℕ → Bool
is_feed b = b == 10

abbrev pub is_equals : ℕ → Bool
is_equals b = b == 61

-- the byte joins the first line
abbrev pub onto_first : ℕ → List (List ℕ) → List (List ℕ)
onto_first b [] = (b ∷ []) ∷ []
onto_first b (line ∷ later) = (b ∷ line) ∷ later

-- the lines of a text, without their line feeds
abbrev pub lines : List ℕ → List (List ℕ)
lines [] = [] ∷ []
lines (b ∷ text) = cond (is_feed b) ([] ∷ lines text) (onto_first b (lines text))

-- whether the line has this key: a line without `=` has none
abbrev pub has_key : List ℕ → List ℕ → Bool
has_key name line =
    nat_lt (position_or_len is_equals line) (length line) && bytes_eq (before_first is_equals line) name

-- the value of the first line with this key
abbrev pub value_of : List ℕ → List ℕ → Option (List ℕ)
value_of text name = option_map (after_first is_equals) (find (has_key name) (lines text))

-- the lines, with a line feed between each two, are the text, and none of them has a line feed
abbrev pub LinesAreTheText : List ℕ → Type 0
LinesAreTheText text = (join_with_byte 10 (lines text) ≡ text) × (list_any (list_any is_feed) (lines text) ≡ false)
