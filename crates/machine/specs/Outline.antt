-- How a run speaks of the codes of a program: by the number of the template and of the block in it, never by what stands
-- there. It assumes nothing.
use Rattle.std.specs.Prelude.{ℕ, zero, suc, Bool, false, cond, ◌&&◌, List, [], ◌∷◌, ◌++◌, map, Some, None, Option, ◌==◌}
use Rattle.std.specs.Str.{bytes_eq}
use Rattle.instruction.specs.Program.{Step, Block, Template, Program}

-- what is known of a block and of a template without the codes of blocks
pub record Head : Type 0 where
  pub name : List ℕ
  pub required : Bool

pub record Shape : Type 0 where
  pub name : List ℕ
  pub main : List Step
  pub heads : List Head

abbrev pub head_of : Block → Head
head_of b = record { name = b.name; required = b.code.required }

abbrev pub shape_of : Template → Shape
shape_of t = record { name = t.name; main = t.main.steps; heads = map head_of t.blocks }

abbrev pub shapes : Program → List Shape
shapes p = map shape_of p

-- a definition of a block: its template, and its number there
pub record Ref : Type 0 where
  pub template : ℕ
  pub block : ℕ

-- a code: the main code of a template, or that of a definition
pub data Place : Type 0 where
  main : ℕ → Place
  block : Ref → Place

abbrev pub template_of : Place → ℕ
template_of (main n) = n
template_of (block d) = d.template

abbrev pub same_place : Place → Place → Bool
same_place (main n) (main m) = n == m
same_place (main n) (block e) = false
same_place (block d) (main m) = false
same_place (block d) (block e) = d.template == e.template && d.block == e.block

abbrev pub block_steps : List Block → ℕ → List Step
block_steps [] j = []
block_steps (b ∷ bs) zero = b.code.steps
block_steps (b ∷ bs) (suc j) = block_steps bs j

abbrev pub definition_steps : Program → ℕ → ℕ → List Step
definition_steps [] n j = []
definition_steps (t ∷ ts) zero j = block_steps t.blocks j
definition_steps (t ∷ ts) (suc n) j = definition_steps ts n j

abbrev pub main_of : List Shape → ℕ → List Step
main_of [] n = []
main_of (t ∷ ts) zero = t.main
main_of (t ∷ ts) (suc n) = main_of ts n

abbrev pub code_at : Program → Place → List Step
code_at p (main n) = main_of (shapes p) n
code_at p (block d) = definition_steps p d.template d.block

-- the instruction at a place of a code
abbrev pub step_at : List Step → ℕ → Option Step
step_at [] k = None
step_at (i ∷ is) zero = Some i
step_at (i ∷ is) (suc k) = step_at is k

abbrev pub line_of : Option Step → ℕ
line_of None = 0
line_of (Some i) = i.line

abbrev pub later : Option ℕ → Option ℕ
later None = None
later (Some n) = Some (suc n)

-- the number of the template that has this name
abbrev pub template : List Shape → List ℕ → Option ℕ
template [] x = None
template (t ∷ ts) x = cond (bytes_eq t.name x) (Some 0) (later (template ts x))

abbrev pub heads_of : List Shape → ℕ → List Head
heads_of [] n = []
heads_of (t ∷ ts) zero = t.heads
heads_of (t ∷ ts) (suc n) = heads_of ts n

abbrev pub required_among : List Head → ℕ → Bool
required_among [] j = false
required_among (h ∷ hs) zero = h.required
required_among (h ∷ hs) (suc j) = required_among hs j

abbrev pub required_at : List Shape → Ref → Bool
required_at o d = required_among (heads_of o d.template) d.block

-- A row: the definitions of one block name, the most derived first.
pub record Row : Type 0 where
  pub name : List ℕ
  pub defs : List Ref

abbrev pub ref : ℕ → ℕ → Ref
ref n j = record { template = n; block = j }

abbrev pub add_block : ℕ → ℕ → Head → List Row → List Row
add_block n j h [] = record { name = h.name; defs = ref n j ∷ [] } ∷ []
add_block n j h (r ∷ rs) = cond (bytes_eq r.name h.name) (record { name = r.name; defs = r.defs ++ (ref n j ∷ []) } ∷ rs) (r ∷ add_block n j h rs)

abbrev pub add_blocks : ℕ → ℕ → List Head → List Row → List Row
add_blocks n j [] rs = rs
add_blocks n j (h ∷ hs) rs = add_blocks n (suc j) hs (add_block n j h rs)

-- the blocks of a template go to the ends of their rows
abbrev pub with_blocks : List Shape → ℕ → List Row → List Row
with_blocks o n rs = add_blocks n 0 (heads_of o n) rs

-- the number of the row of a name; past all rows where there is none
abbrev pub row_number : List ℕ → List Row → ℕ
row_number x [] = 0
row_number x (r ∷ rs) = cond (bytes_eq r.name x) 0 (suc (row_number x rs))

abbrev pub defs_at : List Row → ℕ → List Ref
defs_at [] n = []
defs_at (r ∷ rs) zero = r.defs
defs_at (r ∷ rs) (suc n) = defs_at rs n

abbrev pub def_at : List Ref → ℕ → Option Ref
def_at [] k = None
def_at (d ∷ ds) zero = Some d
def_at (d ∷ ds) (suc k) = def_at ds k
