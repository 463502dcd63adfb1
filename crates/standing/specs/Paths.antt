-- Paths through a code, the standings that they bring, and when a code stands.
use Rattle.std.specs.Prelude.{◌≡◌, ℕ, ◌<◌, ◌≤◌, List, [], length, None, slice_index_or}
use Rattle.standing.specs.Standing.{Standing, stand, broken, next, other, next_place, other_place}
use Rattle.standing.specs.declared.shape.Shape.{Shape}
use Rattle.standing.specs.declared.shape.Shape.TheVariants.{Plain}

-- the shape of the instruction at a place of the code
abbrev pub shape_at : List Shape → ℕ → Shape
shape_at code i = slice_index_or code i (Plain 0 0)

-- some path brings this standing to this place, which is an instruction or the end; a recursion is no path
pub data Reach (code : List Shape) : ℕ → Standing → Type 0 where
  begin : Reach code 0 (stand 0 [])
  on : {i : ℕ} {s : Standing} → Reach code i s → i < length code → broken (shape_at code i) s ≡ None
      → Reach code (next_place (shape_at code i) i) (next (shape_at code i) i s)
  off : {i : ℕ} {s : Standing} → Reach code i s → i < length code → broken (shape_at code i) s ≡ None
      → Reach code (other_place (shape_at code i) i) (other (shape_at code i) i s)

pub record Stands (code : List Shape) : Type 0 where
  -- all paths to one place bring one standing
  pub same : (i : ℕ) (s t : Standing) → Reach code i s → Reach code i t → s ≡ t
  -- no instruction on a path is broken
  pub fine : (i : ℕ) (s : Standing) → Reach code i s → i < length code → broken (shape_at code i) s ≡ None
  -- no path leaves the code
  pub inside : (i : ℕ) (s : Standing) → Reach code i s → i ≤ length code
  -- at most 64 operands and 16 marks
  pub small : (i : ℕ) (s : Standing) → Reach code i s → (s.height ≤ 64) × (length s.marks ≤ 16)
  -- the end is reached with nothing
  pub ended : (s : Standing) → Reach code (length code) s → s ≡ stand 0 []
