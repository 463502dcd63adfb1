-- Each step, and so every run, only adds to the world, and a fault writes nothing.
use Rattle.std.proofs.Common.{◌≡◌, ℕ, zero, suc, ◌+◌, Bool, true, false, cond, eqb, leb, ◌⊎◌, List, [], ◌∷◌, length, Some, None, codes, Option, sym, refl, subst, inl, inr, ⊎_elim}
use Rattle.std.specs.Str.{bytes_eq}
use Rattle.hosts.specs.declared.Unary.{Unary}
use Rattle.hosts.specs.declared.Binary.{Binary}
use Rattle.sinks.specs.Taking.{Taking, accepts, offered}
use Rattle.instruction.specs.Program.{Instr, Step, Program}
use Rattle.machine.specs.declared.fault.Fault.{Fault}
use Rattle.machine.specs.declared.fault.Fault.TheVariants.{WriteFailure}
use Rattle.machine.specs.Outline.{Shape, shapes, main_of}
use Rattle.operands.specs.declared.operand.Operand.TheVariants.{Value as value}
use Rattle.machine.specs.State.{Slots, Act, Bone, base, scope, block, loop, Frame, Capture, dropped, kept, World, Body, Control, done, failed, Progress, running, finished, stuck, scratch_size, with_frames, with_captures, with_sink, with_slots}
use Rattle.machine.specs.Parts.{Part, does, bad, stuck as no_rule, bind, fails, pop_plain, push, end_first, spell, write_to, write, scratch}
use Rattle.machine.specs.Instructions as by
use Rattle.machine.specs.Inheritance.{execute, stays, perform_super, call_block, load_blocks}
use Rattle.machine.specs.Run.{Limits, Run, run, step, steps, charged_step, current, is_out, is_over, run_parent, over_in, main_ends, by_part, by_step, end_of, follow, settle, perform, returned}
use Rattle.machine.specs.Laws.{Taken, nothing, a_piece, Onward, To, From, WorldOnlyGrows, FaultsWriteNothing}
use Rattle.machine.proofs.Steps.{stuck_stays}
use Rattle.machine.proofs.World.{grown_same, grown_on, Quietly, quietly_same, Silent, pop_plain_silent, spell_silent, push_captured_silent}
use Rattle.machine.proofs.Quiet.{quiet}

pub taken_on : (t u w : Taking) → Taken t u → Taken u w → Taken t w
taken_on t u w p nothing = p
taken_on t u w p (a_piece q piece e) = a_piece (taken_on t u _ p q) piece e

onward_same : (w : World) → Onward w w
onward_same w = record { host = grown_same w.host; sink = nothing }

onward_on : (u v w : World) → Onward u v → Onward v w → Onward u w
onward_on u v w p q = record { host = grown_on _ _ _ p.host q.host; sink = taken_on _ _ _ p.sink q.sink }

quietly_onward : (v w : World) → Quietly v w → Onward v w
quietly_onward v w q = record { host = q.host; sink = subst (Taken v.sink) (sym q.sink) nothing }

-- Only one write, as the last thing that an instruction does; where it reaches the sink, no capture is open.
abbrev Calm : World → Body → Type 0
Calm v b = (b.world.sink ≡ v.sink) ⊎ (b.captures ≡ [])

abbrev Fair : {A : Type 0} → World → Part A → Type 0
Fair v (does x b) = Onward v b.world × Calm v b
Fair v (bad f w) = Quietly v w
Fair v no_rule = Unit {0}

silent_fair : {A : Type 0} (v : World) (x : Part A) → Silent v x → Fair v x
silent_fair v (does a b) q = (quietly_onward v b.world q, inl q.sink)
silent_fair v (bad f w) q = q
silent_fair v no_rule q = tt

bind_fair : {A B : Type 0} (v : World) (x : Part A) (f : A → Body → Part B) → Silent v x → ((a : A) (b : Body) → Quietly v b.world → Fair v (f a b)) → Fair v (bind x f)
bind_fair v (does a b) f q h = h a b q
bind_fair v (bad n w) f q h = q
bind_fair v no_rule f q h = tt

last_fair : {A B : Type 0} (v : World) (x : Part A) (f : A → B) → Fair v x → Fair v (bind x (λ a b. does (f a) b))
last_fair v (does a b) f q = q
last_fair v (bad n w) f q = q
last_fair v no_rule f q = tt

either_fair : {A : Type 0} (v : World) (t : Bool) (x y : Part A) → Fair v x → Fair v y → Fair v (cond t x y)
either_fair v true x y p q = p
either_fair v false x y p q = q

-- one piece offered to the sink
offered_fair : (v : World) (b : Body) (t : List ℕ) (r : Bool) → accepts b.world.sink t ≡ r → Quietly v b.world → b.captures ≡ [] → Fair v (cond r (does tt (with_sink b (offered b.world.sink t))) (fails {A = Unit {0}} WriteFailure b))
offered_fair v b t true e q n = (record { host = q.host; sink = taken_on _ _ _ (quietly_onward v b.world q).sink (a_piece nothing t e) }, inr n)
offered_fair v b t false e q n = q

write_fair : (v : World) (cs : List Capture) (t : List ℕ) (b : Body) → b.captures ≡ cs → Quietly v b.world → Fair v (write_to cs t b)
write_fair v [] t b e q = offered_fair v b t (accepts b.world.sink t) refl q e
write_fair v (dropped ∷ cs) t b e q = (quietly_onward v b.world q, inl q.sink)
write_fair v (kept s ∷ cs) t b e q = either_fair v (leb (scratch (kept s ∷ cs) + length t) scratch_size) _ _ (quietly_onward v b.world q, inl q.sink) q

emit_raw_fair : (v : World) (t : List ℕ) (a : Act) (b : Body) → Quietly v b.world → Fair v (by.emit_raw t a b)
unfolding by.emit_raw
emit_raw_fair v t a b q = last_fair v (write t b) _ (write_fair v b.captures t b refl q)

emit_fair : (v : World) (a : Act) (b : Body) → Quietly v b.world → Fair v (by.emit a b)
unfolding by.emit
emit_fair v a b q =
    bind_fair v (pop_plain a.base b) _ (pop_plain_silent v a.base b q) (λ k c r. bind_fair v (spell k c) _ (spell_silent v k c r) (λ t d s.
    last_fair v (write t d) _ (write_fair v d.captures t d refl s)))

module _ (o : List Shape) (l : ℕ) (b : Body) (c : Control) where
  stays_silent : (f : Act → Body → Part Slots) → Silent b.world (f c.act b) → Fair b.world (stays f c b)
  stays_silent f q = last_fair b.world (f c.act b) (with_slots c) (silent_fair b.world (f c.act b) q)

  stays_fair : (f : Act → Body → Part Slots) → Fair b.world (f c.act b) → Fair b.world (stays f c b)
  stays_fair f q = last_fair b.world (f c.act b) (with_slots c) q

  still : Quietly b.world b.world
  still = quietly_same b.world

  execute_fair : (i : Instr) → Fair b.world (execute o l i c b)
  unfolding execute by.store_local by.lookup by.get_attr by.get_item by.load_const by.build_list by.operate by.operate_on_one by.apply_filter
      by.perform_test by.push_loop by.push_with by.iterate by.push_did_not_iterate by.pop_frame by.pop_loop_frame by.jump by.jump_if_false
      by.jump_or_pop by.start_capture by.finish_capture by.call_function by.dup_top by.discard_top by.fast_recurse by.swap call_block perform_super
      load_blocks
  execute_fair (Instr.emit_raw t) = stays_fair (by.emit_raw t) (emit_raw_fair b.world t c.act b still)
  execute_fair (Instr.store_local x) = stays_silent (by.store_local x) (search quiet)
  execute_fair (Instr.lookup x) = stays_silent (by.lookup x) (search quiet)
  execute_fair (Instr.get_attr x) = stays_silent (by.get_attr x) (search quiet)
  execute_fair Instr.get_item = stays_silent by.get_item (search quiet)
  execute_fair (Instr.load_const k) = stays_silent (by.load_const k) (search quiet)
  execute_fair (Instr.build_list n) = stays_silent (by.build_list n) (search quiet)
  execute_fair Instr.add = stays_silent (by.operate Binary.Add) (search quiet)
  execute_fair Instr.sub = stays_silent (by.operate Binary.Sub) (search quiet)
  execute_fair Instr.mul = stays_silent (by.operate Binary.Mul) (search quiet)
  execute_fair Instr.div = stays_silent (by.operate Binary.Div) (search quiet)
  execute_fair Instr.int_div = stays_silent (by.operate Binary.IntDiv) (search quiet)
  execute_fair Instr.rem = stays_silent (by.operate Binary.Rem) (search quiet)
  execute_fair Instr.pow = stays_silent (by.operate Binary.Pow) (search quiet)
  execute_fair Instr.neg = stays_silent (by.operate_on_one Unary.Neg) (search quiet)
  execute_fair Instr.eq = stays_silent (by.operate Binary.Eq) (search quiet)
  execute_fair Instr.ne = stays_silent (by.operate Binary.Ne) (search quiet)
  execute_fair Instr.gt = stays_silent (by.operate Binary.Gt) (search quiet)
  execute_fair Instr.gte = stays_silent (by.operate Binary.Gte) (search quiet)
  execute_fair Instr.lt = stays_silent (by.operate Binary.Lt) (search quiet)
  execute_fair Instr.lte = stays_silent (by.operate Binary.Lte) (search quiet)
  execute_fair Instr.not = stays_silent (by.operate_on_one Unary.Not) (search quiet)
  execute_fair Instr.string_concat = stays_silent (by.operate Binary.StringConcat) (search quiet)
  execute_fair Instr.«in» = stays_silent (by.operate Binary.In) (search quiet)
  execute_fair (Instr.apply_filter x n i) = stays_silent (by.apply_filter x n i) (search quiet)
  execute_fair (Instr.perform_test x n i) = stays_silent (by.perform_test x n i) (search quiet)
  execute_fair Instr.emit = stays_fair by.emit (emit_fair b.world c.act b still)
  execute_fair (Instr.push_loop f) = stays_silent (by.push_loop l f) (search quiet)
  execute_fair Instr.push_with = stays_silent (by.push_with l) (search quiet)
  execute_fair (Instr.iterate t) = stays_silent (by.iterate t) (search quiet)
  execute_fair Instr.push_did_not_iterate = stays_silent by.push_did_not_iterate (search quiet)
  execute_fair Instr.pop_frame = stays_silent by.pop_frame (search quiet)
  execute_fair Instr.pop_loop_frame = stays_silent by.pop_loop_frame (search quiet)
  execute_fair (Instr.jump t) = stays_silent (by.jump t) (search quiet)
  execute_fair (Instr.jump_if_false t) = stays_silent (by.jump_if_false t) (search quiet)
  execute_fair (Instr.jump_if_false_or_pop t) = stays_silent (by.jump_or_pop false t) (search quiet)
  execute_fair (Instr.jump_if_true_or_pop t) = stays_silent (by.jump_or_pop true t) (search quiet)
  execute_fair (Instr.begin_capture m) = stays_silent (by.start_capture m) (search quiet)
  execute_fair Instr.end_capture = stays_silent by.finish_capture (search quiet)
  execute_fair (Instr.call_function x n) =
      either_fair b.world (bytes_eq x (codes "super")) _ _
      (either_fair b.world (eqb n 0) _ _ (silent_fair b.world (perform_super l true c b) (search quiet)) still)
      (stays_silent (by.call_function x n) (search quiet))
  execute_fair Instr.dup_top = stays_silent by.dup_top (search quiet)
  execute_fair Instr.discard_top = stays_silent by.discard_top (search quiet)
  execute_fair Instr.fast_super = silent_fair b.world (perform_super l false c b) (search quiet)
  execute_fair Instr.fast_recurse = stays_silent by.fast_recurse (search quiet)
  execute_fair Instr.swap = stays_silent by.swap (search quiet)
  execute_fair (Instr.call_block x) = silent_fair b.world (call_block o l x c b) (search quiet)
  execute_fair Instr.load_blocks = silent_fair b.world (load_blocks o c b) (search quiet)

-- Ends of code.

-- a fault leaves the sink s
abbrev Ends : Taking → Progress → Type 0
Ends s (running c b) = Unit {0}
Ends s (finished done w) = Unit {0}
Ends s (finished (failed f) w) = w.sink ≡ s
Ends s stuck = Unit {0}

module _ (p : Program) (v : World) where
  -- what has come of a world: it was only added to, and a fault writes nothing
  abbrev Comes : Progress → Type 0
  Comes x = To v x × Ends v.sink x

  by_step_comes : (i : Option Step) (x y : Progress) → Comes x → Comes y → Comes (by_step i x y)
  by_step_comes None x y h k = h
  by_step_comes (Some i) x y h k = k

  either_comes : (t : Bool) (x y : Progress) → Comes x → Comes y → Comes (cond t x y)
  either_comes true x y h k = h
  either_comes false x y h k = k

  over_comes : (is : List Step) (b : Body) (c : Control) → Onward v b.world → Comes (is_over is b c)
  over_comes [] b c h = (h, tt)
  over_comes (i ∷ is) b c h = (h, tt)

  parent_comes : (n : ℕ) (cs : List Capture) (c : Control) (b : Body) → Onward v b.world → Comes (run_parent p n cs c b)
  parent_comes n [] c b h = (tt, tt)
  parent_comes n (x ∷ cs) c b h = over_comes (main_of (shapes p) n) (with_captures b cs) _ h

  over_in_comes : (fs : List Frame) (cs : List Capture) (b : Body) → Onward v b.world → Comes (over_in fs cs b)
  over_in_comes [] [] b h = (h, tt)
  over_in_comes [] (x ∷ cs) b h = (tt, tt)
  over_in_comes (f ∷ fs) cs b h = (tt, tt)

  main_comes : (o : Option ℕ) (fs : List Frame) (c : Control) (b : Body) → Onward v b.world → Comes (main_ends p o fs c b)
  main_comes None fs c b h = over_in_comes fs b.captures b h
  main_comes (Some n) fs c b h = parent_comes n b.captures c b h

  -- a part after which the run goes on by f, or ends by g
  part_comes : {A : Type 0} (x : Part A) (f : A → Body → Progress) (g : Fault → World → Progress) → Fair v x → ((a : A) (b : Body) → Onward v b.world → Calm v b → Comes (f a b)) → ((n : Fault) (w : World) → Quietly v w → Comes (g n w)) → Comes (by_part x f g)
  part_comes (does a b) f g q h k = h a b q.0 q.1
  part_comes (bad n w) f g q h k = k n w q
  part_comes no_rule f g q h k = (tt, tt)

  -- the end of a block's capture, at a sink that is as it was
  captured_fair : (t : Bool) (b : Body) → Onward v b.world → Calm v b → Fair v (by.capture_ends_if t b)
  captured_fair false b h m = (h, m)
  captured_fair true b h m = ⊎_elim (λ (e : b.world.sink ≡ v.sink). silent_fair v _ (push_captured_silent v b (record { host = h.host; sink = e }))) (λ (e : b.captures ≡ []). subst (λ cs. Fair v (bind (end_first cs b) (λ k b. push (value k) b))) (sym e) tt) m

  end_comes : (k : Bone) (fs : List Frame) (on : Control → Body → Progress) → ((c : Control) (b : Body) → Onward v b.world → Calm v b → Comes (on c b)) → (c : Control) (b : Body) → Onward v b.world → Calm v b → Comes (end_of p k fs on c b)
  end_comes base fs on r c b h m = main_comes c.parent fs c b h
  end_comes scope fs on r c b h m = (tt, tt)
  end_comes (block k) fs on r c b h m =
      part_comes (by.capture_ends_if k.captured (with_frames b fs)) _ _ (captured_fair k.captured (with_frames b fs) h m)
      (λ x d i n. r (returned c k) d i n) (λ n w q. (quietly_onward v w q, q.sink))
  end_comes (loop l) fs on r c b h m = (tt, tt)

  follow_comes : (fs : List Frame) (c : Control) (b : Body) → Onward v b.world → Calm v b → Comes (follow p fs c b)
  follow_comes [] c b h m = by_step_comes (current p c) stuck (running c b) (tt, tt) (h, tt)
  follow_comes (f ∷ fs) c b h m =
      by_step_comes (current p c) _ _
      (either_comes (eqb (length b.operands) c.act.base) _ _ (end_comes f.bone fs (follow p fs) (follow_comes fs) c b h m) (tt, tt))
      (h, tt)

  settle_comes : (c : Control) (b : Body) → Onward v b.world → Calm v b → Comes (settle p c b)
  unfolding settle
  settle_comes c b h m = follow_comes b.frames c b h m

perform_comes : (p : Program) (l : ℕ) (i : Step) (c : Control) (b : Body) → Comes p b.world (perform p l i c b)
unfolding perform
perform_comes p l i c b =
    part_comes p b.world (execute (shapes p) l i.instruction c b) _ _ (execute_fair (shapes p) l b c i.instruction)
    (λ d e h m. settle_comes p b.world d e h m) (λ n w q. (quietly_onward b.world w q, q.sink))

fetch_comes : (p : Program) (l : Limits) (i : Option Step) (c : Control) (b : Body) (n : ℕ) → Comes p b.world (charged_step p l i c b n).progress
fetch_comes p l None c b n = (tt, tt)
fetch_comes p l (Some i) c b n =
    either_comes p b.world (is_out l n i.instruction) _ _ (onward_same b.world, refl) (perform_comes p l.frames i c b)

pub faults_write_nothing : (p : Program) (l : Limits) → FaultsWriteNothing p l
unfolding step
faults_write_nothing p l c b k f w e = subst (Ends b.world.sink) e (fetch_comes p l (current p c) c b k).1

-- Many steps.

to_on : (v w : World) (x : Progress) → Onward v w → To w x → To v x
to_on v w (running c b) h k = onward_on v w b.world h k
to_on v w (finished x u) h k = onward_on v w u h k
to_on v w stuck h k = tt

step_to : (p : Program) (l : Limits) (x : Progress) (n : ℕ) → From x (step p l (run x n)).progress
unfolding step
step_to p l (running c b) n = (fetch_comes p l (current p c) c b n).0
step_to p l (finished x w) n = onward_same w
step_to p l stuck n = tt

to_steps : (p : Program) (l : Limits) (n : ℕ) (v : World) (y : Progress) (k : ℕ) → To v y → From y (steps p l n (run y k)).progress → To v (steps p l n (run y k)).progress
to_steps p l n v (running c b) k h i = to_on v b.world _ h i
to_steps p l n v (finished x w) k h i = to_on v w _ h i
to_steps p l n v stuck k h i = subst (λ r. To v r.progress) (sym (stuck_stays p l n k)) tt

from_steps : (p : Program) (l : Limits) (n : ℕ) (x : Progress) (k : ℕ) → From x (steps p l n (run x k)).progress
unfolding steps
from_steps p l zero (running c b) k = onward_same b.world
from_steps p l zero (finished x w) k = onward_same w
from_steps p l zero stuck k = tt
from_steps p l (suc n) (running c b) k =
    let r = step p l (run (running c b) k) in
    to_steps p l n b.world r.progress r.charged (step_to p l (running c b) k) (from_steps p l n r.progress r.charged)
from_steps p l (suc n) (finished x w) k =
    let r = step p l (run (finished x w) k) in
    to_steps p l n w r.progress r.charged (step_to p l (finished x w) k) (from_steps p l n r.progress r.charged)
from_steps p l (suc n) stuck k = tt

pub world_only_grows : (p : Program) (l : Limits) (n : ℕ) (r : Run) → WorldOnlyGrows p l n r
world_only_grows p l n r = from_steps p l n r.progress r.charged
