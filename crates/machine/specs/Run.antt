-- Runs: where codes end, one step, many steps, what is charged. It assumes nothing.
use Rattle.std.specs.Prelude.{ℕ, zero, suc, ◌+◌, ◌-◌, Bool, cond, ◌&&◌, List, [], ◌∷◌, ◌++◌, length, replicate, Some, None, Option, ◌==◌, nat_le, slice_set}
use Rattle.instruction.specs.Program.{Instr, Step, Program}
use Rattle.machine.specs.declared.fault.Fault.{Fault}
use Rattle.machine.specs.declared.fault.Fault.TheVariants.{OutOfFuel}
use Rattle.machine.specs.Outline.{Place, main, template_of, shapes, main_of, code_at, step_at, line_of, with_blocks}
use Rattle.machine.specs.State.{Act, Caller, Bone, base, scope, block, loop, Frame, Capture, World, Body, Control, done, failed, Progress, running, finished, stuck, most_rows, with_frames, with_captures, first_slots}
use Rattle.machine.specs.Parts.{Part, does, bad, stuck as no_rule}
use Rattle.machine.specs.Loops.{frame}
use Rattle.machine.specs.Instructions.{capture_ends_if}
use Rattle.machine.specs.Inheritance.{execute}

-- A fault ends the run. Its place is the template that holds an instruction, and the line of that instruction.
abbrev pub fault_at : Place → ℕ → Fault → World → Progress
fault_at at line f w = finished (failed (record { fault = f; template = template_of at; line = line })) w

-- The end of a code. Nothing of its own is left among the operands.

abbrev pub depth_put : Option ℕ → ℕ → List ℕ → List ℕ
depth_put None d ds = ds
depth_put (Some r) d ds = slice_set ds r d

-- back to the caller, whose row has its depth again
abbrev pub returned : Control → Caller → Control
returned c k = record { act = k.act; rows = c.rows; depths = depth_put c.act.row k.depth c.depths; loaded = c.loaded; parent = c.parent }

-- the instruction that called, which stands before the next one
abbrev pub call_line : Program → Act → ℕ
call_line p a = line_of (step_at (code_at p a.at) (a.slots.next - 1))

abbrev pub main_act : ℕ → Act
main_act n = record { at = main n; base = 0; row = None; slots = first_slots }

abbrev pub is_over : List Step → Body → Control → Progress
is_over [] b c = finished done b.world
is_over (i ∷ is) b c = running c b

-- the parent runs in the same frames, once the capture has ended that its load began
abbrev pub run_parent : Program → ℕ → List Capture → Control → Body → Progress
run_parent p n [] c b = stuck
run_parent p n (x ∷ cs) c b =
    is_over (main_of (shapes p) n) (with_captures b cs)
    (record { act = main_act n; rows = c.rows; depths = c.depths; loaded = c.loaded; parent = None })

abbrev pub over_in : List Frame → List Capture → Body → Progress
over_in [] [] b = finished done b.world
over_in [] (x ∷ cs) b = stuck
over_in (f ∷ fs) cs b = stuck

abbrev pub main_ends : Program → Option ℕ → List Frame → Control → Body → Progress
main_ends p None fs c b = over_in fs b.captures b
main_ends p (Some n) fs c b = run_parent p n b.captures c b

abbrev pub by_part : {A : Type 0} → Part A → (A → Body → Progress) → (Fault → World → Progress) → Progress
by_part (does x b) f g = f x b
by_part (bad n w) f g = g n w
by_part no_rule f g = stuck

abbrev pub by_step : Option Step → Progress → Progress → Progress
by_step None x y = x
by_step (Some i) x y = y

-- the step that the running code is at
abbrev pub current : Program → Control → Option Step
current p c = step_at (code_at p c.act.at) c.act.slots.next

-- the end of the code that a frame belongs to; `on` goes on below it
abbrev pub end_of : Program → Bone → List Frame → (Control → Body → Progress) → Control → Body → Progress
end_of p base fs on c b = main_ends p c.parent fs c b
end_of p scope fs on c b = stuck
end_of p (block k) fs on c b =
    by_part (capture_ends_if k.captured (with_frames b fs)) (λ x b. on (returned c k) b)
    (fault_at k.act.at (call_line p k.act))
end_of p (loop l) fs on c b = stuck

-- Ends of code are followed at once, one frame after the other.
abbrev pub follow : Program → List Frame → Control → Body → Progress
follow p [] c b = by_step (current p c) stuck (running c b)
follow p (f ∷ fs) c b =
    by_step (current p c)
    (cond (length b.operands == c.act.base) (end_of p f.bone fs (follow p fs) c b) stuck)
    (running c b)

unfoldable pub settle : Program → Control → Body → Progress
settle p c b = follow p b.frames c b

-- The beginning: the base frame, and the blocks of the entry in their rows.

abbrev pub first_control : Program → ℕ → Control
first_control p n = record { act = main_act n; rows = with_blocks (shapes p) n []; depths = replicate most_rows 0; loaded = []; parent = None }

abbrev pub first_body : World → Body
first_body w = record { operands = []; frames = frame base ∷ []; captures = []; world = w }

unfoldable pub begin : Program → ℕ → World → Progress
begin p n w = settle p (first_control p n) (first_body w)

-- One instruction, charges left aside.

unfoldable pub perform : Program → ℕ → Step → Control → Body → Progress
perform p limit i c b =
    by_part (execute (shapes p) limit i.instruction c b) (λ d b. settle p d b) (fault_at c.act.at i.line)

-- What an instruction is charged.
abbrev pub charge : Instr → ℕ
charge (Instr.emit_raw t) = 1
charge (Instr.store_local x) = 1
charge (Instr.lookup x) = 1
charge (Instr.get_attr x) = 1
charge Instr.get_item = 1
charge (Instr.load_const k) = 1
charge (Instr.build_list n) = 1
charge Instr.add = 1
charge Instr.sub = 1
charge Instr.mul = 1
charge Instr.div = 1
charge Instr.int_div = 1
charge Instr.rem = 1
charge Instr.pow = 1
charge Instr.neg = 1
charge Instr.eq = 1
charge Instr.ne = 1
charge Instr.gt = 1
charge Instr.gte = 1
charge Instr.lt = 1
charge Instr.lte = 1
charge Instr.not = 1
charge Instr.string_concat = 1
charge Instr.«in» = 1
charge (Instr.apply_filter x n i) = 1
charge (Instr.perform_test x n i) = 1
charge Instr.emit = 1
charge (Instr.push_loop f) = 0
charge Instr.push_with = 0
charge (Instr.iterate t) = 1
charge Instr.push_did_not_iterate = 0
charge Instr.pop_frame = 0
charge Instr.pop_loop_frame = 0
charge (Instr.jump t) = 1
charge (Instr.jump_if_false t) = 1
charge (Instr.jump_if_false_or_pop t) = 1
charge (Instr.jump_if_true_or_pop t) = 1
charge (Instr.begin_capture m) = 0
charge Instr.end_capture = 1
charge (Instr.call_function x n) = 1
charge Instr.dup_top = 0
charge Instr.discard_top = 0
charge Instr.fast_super = 1
charge Instr.fast_recurse = 1
charge Instr.swap = 1
charge (Instr.call_block x) = 1
charge Instr.load_blocks = 0

-- What a start fixes besides the entry and the world.
pub record Limits : Type 0 where
  pub fuel : ℕ
  pub frames : ℕ

-- a charge that leaves no fuel
abbrev pub is_out : Limits → ℕ → Instr → Bool
is_out l charged i = charge i == 1 && nat_le l.fuel (charged + 1)

-- A run: where it is, and the sum of what it was charged.
pub record Run : Type 0 where
  pub progress : Progress
  pub charged : ℕ

abbrev pub run : Progress → ℕ → Run
run x n = record { progress = x; charged = n }

-- The charge is taken before the instruction, and counts also where it is the last.
abbrev pub charged_step : Program → Limits → Option Step → Control → Body → ℕ → Run
charged_step p l None c b n = run stuck n
charged_step p l (Some i) c b n =
    run (cond (is_out l n i.instruction) (fault_at c.act.at i.line OutOfFuel b.world) (perform p l.frames i c b))
    (n + charge i.instruction)

abbrev pub step_by : Program → Limits → Progress → ℕ → Run
step_by p l (running c b) n = charged_step p l (current p c) c b n
step_by p l (finished x w) n = run (finished x w) n
step_by p l stuck n = run stuck n

unfoldable pub step : Program → Limits → Run → Run
step p l r = step_by p l r.progress r.charged

unfoldable pub steps : Program → Limits → ℕ → Run → Run
steps p l zero r = r
steps p l (suc n) r = steps p l n (step p l r)

-- The instructions that so many steps execute, in their order. A run that has ended executes none.

abbrev pub instruction_of : Option Step → List Instr
instruction_of None = []
instruction_of (Some i) = i.instruction ∷ []

abbrev pub next_of : Program → Progress → List Instr
next_of p (running c b) = instruction_of (current p c)
next_of p (finished x w) = []
next_of p stuck = []

unfoldable pub executed : Program → Limits → ℕ → Run → List Instr
executed p l zero r = []
executed p l (suc n) r = next_of p r.progress ++ executed p l n (step p l r)

abbrev pub charges : List Instr → ℕ
charges [] = 0
charges (i ∷ is) = charge i + charges is
