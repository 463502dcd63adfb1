-- The state of a run. Operands, frames and captures are lists whose first element is the innermost. It assumes nothing.
use Rattle.std.specs.Prelude.{ℕ, suc, Bool, List, replicate, None, Option}
use Rattle.hosts.specs.Meaning.{Meaning}
use Rattle.sinks.specs.Taking.{Taking}
use Rattle.machine.specs.Outline.{Place, Row}
use Rattle.machine.specs.declared.fault.Fault.{Fault}
use Rattle.operands.specs.Stack.{most}
use Rattle.operands.specs.declared.operand.Operand.{Operand}

-- where a recursion returns to, and whether a capture ends then
pub record Back : Type 0 where
  pub place : ℕ
  pub captured : Bool

-- a recursion that was called: the loop that it begins has this depth
pub record Recursion : Type 0 where
  pub back : Back
  pub depth : ℕ

-- What instructions change of the code that runs: the next instruction, the recursion that was called, and the names of
-- the filters and tests that fill its slots.
pub record Slots : Type 0 where
  pub next : ℕ
  pub recursion : Option Recursion
  pub filters : List (Option (List ℕ))
  pub tests : List (Option (List ℕ))

-- A code that runs, or that waits for one that it called: its operands lie above the base; in a block, its row.
pub record Act : Type 0 where
  pub at : Place
  pub base : ℕ
  pub row : Option ℕ
  pub slots : Slots

-- what the return from a block puts back: the caller, the depth of the row; a capture may end then
pub record Caller : Type 0 where
  pub act : Act
  pub captured : Bool
  pub depth : ℕ

-- what does not change of a loop while it runs: its code and its PushLoop there, what it goes over
pub record Loop : Type 0 where
  pub at : Place
  pub origin : ℕ
  pub recursive : Bool
  pub visible : Bool
  pub back : Option Back
  pub depth : ℕ
  pub iterable : ℕ
  pub length : ℕ

-- what does not change of a frame
pub data Bone : Type 0 where
  base : Bone
  scope : Bone
  block : Caller → Bone
  loop : Loop → Bone

pub record Local : Type 0 where
  pub name : List ℕ
  pub held : Operand

-- `turns` counts how often Iterate came to the loop of the frame
pub record Frame : Type 0 where
  pub bone : Bone
  pub locals : List Local
  pub turns : ℕ

-- output that is captured: dropped, or kept as text
pub data Capture : Type 0 where
  dropped : Capture
  kept : List ℕ → Capture

pub record World : Type 0 where
  pub host : Meaning
  pub sink : Taking

pub record Body : Type 0 where
  pub operands : List Operand
  pub frames : List Frame
  pub captures : List Capture
  pub world : World

-- `depths` has the depth of each row, `loaded` the names of the templates that were loaded, `parent` the number of the
-- template that runs after the main code
pub record Control : Type 0 where
  pub act : Act
  pub rows : List Row
  pub depths : List ℕ
  pub loaded : List (List ℕ)
  pub parent : Option ℕ

-- the place of a fault: the template that holds the instruction, and its line, 0 where that is missing
pub record Failure : Type 0 where
  pub fault : Fault
  pub template : ℕ
  pub line : ℕ

pub data Outcome : Type 0 where
  done : Outcome
  failed : Failure → Outcome

-- `stuck` is where no rule applies; a bundle that opens never comes there
pub data Progress : Type 0 where
  running : Control → Body → Progress
  finished : Outcome → World → Progress
  stuck : Progress

abbrev pub most_operands : ℕ
most_operands = most

abbrev pub most_locals : ℕ
most_locals = 256

abbrev pub most_captures : ℕ
most_captures = 16

abbrev pub scratch_size : ℕ
scratch_size = 16384

abbrev pub most_loads : ℕ
most_loads = 7

abbrev pub most_rows : ℕ
most_rows = 32

-- slots of a code for filters, and as many for tests
abbrev pub most_slots : ℕ
most_slots = 50

-- states that differ in one part
abbrev pub with_operands : Body → List Operand → Body
with_operands b o = record { operands = o; frames = b.frames; captures = b.captures; world = b.world }

abbrev pub with_frames : Body → List Frame → Body
with_frames b f = record { operands = b.operands; frames = f; captures = b.captures; world = b.world }

abbrev pub with_captures : Body → List Capture → Body
with_captures b c = record { operands = b.operands; frames = b.frames; captures = c; world = b.world }

abbrev pub with_host : Body → Meaning → Body
with_host b m = record { operands = b.operands; frames = b.frames; captures = b.captures; world = record { host = m; sink = b.world.sink } }

abbrev pub with_sink : Body → Taking → Body
with_sink b t = record { operands = b.operands; frames = b.frames; captures = b.captures; world = record { host = b.world.host; sink = t } }

abbrev pub with_slots : Control → Slots → Control
with_slots c s = record { act = record { at = c.act.at; base = c.act.base; row = c.act.row; slots = s }; rows = c.rows; depths = c.depths; loaded = c.loaded; parent = c.parent }

abbrev pub to : ℕ → Slots → Slots
to k s = record { next = k; recursion = s.recursion; filters = s.filters; tests = s.tests }

abbrev pub past : Slots → Slots
past s = to (suc s.next) s

abbrev pub first_slots : Slots
first_slots = record { next = 0; recursion = None; filters = replicate most_slots None; tests = replicate most_slots None }
