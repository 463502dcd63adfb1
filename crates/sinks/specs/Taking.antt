use Rattle.std.specs.Prelude.{ℕ, ◌+◌, Bool, cond, List, ◌++◌, length, take, drop, nat_eq, nat_le}
use Rattle.std.specs.List.{starts_with}

-- The meaning of a sink. Its rule never changes, and tells from the text so far and a piece whether that piece may
-- come next.
pub record Taking : Type 0 where
  pub text : List ℕ
  pub rule : List ℕ → List ℕ → Bool

abbrev pub accepts : Taking → List ℕ → Bool
accepts t piece = t.rule t.text piece

-- After a piece was offered: an accepted one is taken whole, any other leaves no trace.
abbrev pub offered : Taking → List ℕ → Taking
offered t piece = record { text = cond (accepts t piece) (t.text ++ piece) t.text; rule = t.rule }

-- The rule of a buffer of `size` bytes: it accepts what fits.
abbrev pub fits : ℕ → List ℕ → List ℕ → Bool
fits size text piece = nat_le (length text + length piece) size

-- What a buffer means whose first `len` bytes are the text.
abbrev pub buffering : ℕ → List ℕ → Taking
buffering len buffer = record { text = take len buffer; rule = fits (length buffer) }

-- The rule of a comparison with an expected text: it accepts what continues it.
abbrev pub continues : List ℕ → List ℕ → List ℕ → Bool
continues expected text piece = starts_with nat_eq (drop (length text) expected) piece

-- What a comparison means that has seen the first `seen` bytes of the expected text.
abbrev pub matching : ℕ → List ℕ → Taking
matching seen expected = record { text = take seen expected; rule = continues expected }
