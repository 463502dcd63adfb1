-- No instruction but EmitRaw and Emit reaches the sink.
use Rattle.std.proofs.Common.{ℕ, Bool, true, false, List, [], ◌∷◌, Some, None, Ok, Err, Option, Result}
use Rattle.hosts.specs.Meaning.{Meaning}
use Rattle.hosts.specs.declared.Refusal.{Refusal}
use Rattle.instruction.specs.Program.{Const, undefined, boolean, integer, string}
use Rattle.machine.specs.Outline.{Place, Shape, Ref}
use Rattle.operands.specs.declared.operand.Operand.{Operand}
use Rattle.operands.specs.declared.operand.Operand.TheVariants.{Value as value, Loop as a_loop, Ended as ended}
use Rattle.machine.specs.State.{Back, Slots, Act, Loop, Bone, base, scope, block, loop, Frame, World, Body, Control}
use Rattle.machine.specs.Loops.{store_in, Lap, from_host, look_on, find, Attribute, index, length', first, last, depth, no_other, tell, tell_of, capture_if, recurse}
use Rattle.machine.specs.Instructions as by
use Rattle.machine.specs.Inheritance as up
use Rattle.machine.specs.Laws.{Grown}
use Rattle.machine.proofs.World.{Quietly, Silent, quietly_same, quietly_on, refused_silent, silences}

module _ (v : World) where
  -- loops and names

  pub store_in_silent : (fs : List Frame) (x : List ℕ) (o : Operand) (b : Body) → Quietly v b.world → Silent v (store_in fs x o b)
  store_in_silent [] x o b q = tt
  store_in_silent (f ∷ fs) x o b q = search silences

  pub from_host_silent : (r : Result (Option ℕ) Refusal) (m : Meaning) (b : Body) → Quietly v b.world → Grown b.world.host m → Silent v (from_host r m b)
  from_host_silent (Ok None) m b q g = quietly_on v b.world m q g
  from_host_silent (Ok (Some k)) m b q g = quietly_on v b.world m q g
  from_host_silent (Err r) m b q g = search (silences, refused_silent)

  pub look_on_silent : (o : Option Operand) (x : List ℕ) (b : Body) → Quietly v b.world → Silent v (look_on o x b)
  look_on_silent (Some u) x b q = q
  look_on_silent None x b q = search (silences, from_host_silent)

  pub find_silent : (x : List ℕ) (b : Body) → Quietly v b.world → Silent v (find x b)
  find_silent x b q = search (silences, look_on_silent)

  pub tell_silent : (a : Attribute) (l : Lap) (b : Body) → Quietly v b.world → Silent v (tell a l b)
  tell_silent index l b q = search silences
  tell_silent length' l b q = search silences
  tell_silent first l b q = search silences
  tell_silent last l b q = search silences
  tell_silent depth l b q = search silences
  tell_silent no_other l b q = q

  pub tell_of_silent : (o : Option Lap) (a : Attribute) (b : Body) → Quietly v b.world → Silent v (tell_of o a b)
  tell_of_silent None a b q = tt
  tell_of_silent (Some l) a b q = search (silences, tell_silent)

  pub capture_if_silent : (t : Bool) (b : Body) → Quietly v b.world → Silent v (capture_if t b)
  capture_if_silent false b q = q
  capture_if_silent true b q = search silences

  pub recurse_silent : (t : Bool) (at : Place) (l : Loop) (s : Slots) (b : Body) → Quietly v b.world → Silent v (recurse t at l s b)
  recurse_silent t at l s b q = search (silences, capture_if_silent)

  pub attr_of_silent : (o : Operand) (x : List ℕ) (b : Body) → Quietly v b.world → Silent v (by.attr_of o x b)
  attr_of_silent (value k) x b q = search silences
  attr_of_silent (a_loop n) x b q = search (silences, tell_of_silent)
  attr_of_silent ended x b q = q

  pub push_const_silent : (k : Const) (b : Body) → Quietly v b.world → Silent v (by.push_const k b)
  push_const_silent undefined b q = search silences
  push_const_silent (boolean t) b q = search silences
  push_const_silent (integer z) b q = search silences
  push_const_silent (string t) b q = search silences

  pub filter_by_silent : (o : Option by.Meant) (n : ℕ) (a : Act) (b : Body) → Quietly v b.world → Silent v (by.filter_by o n a b)
  filter_by_silent None n a b q = q
  filter_by_silent (Some f) n a b q = search silences

  pub test_by_silent : (o : Option by.Meant) (n : ℕ) (a : Act) (b : Body) → Quietly v b.world → Silent v (by.test_by o n a b)
  test_by_silent None n a b q = q
  test_by_silent (Some f) n a b q = search silences

  pub iterate_by_silent : (o : Option Lap) (t : ℕ) (a : Act) (b : Body) → Quietly v b.world → Silent v (by.iterate_by o t a b)
  iterate_by_silent None t a b q = tt
  iterate_by_silent (Some l) t a b q = search silences

  pub did_not_by_silent : (o : Option Lap) (a : Act) (b : Body) → Quietly v b.world → Silent v (by.did_not_by o a b)
  did_not_by_silent None a b q = tt
  did_not_by_silent (Some l) a b q = search silences

  pub pop_scope_silent : (k : Bone) (fs : List Frame) (a : Act) (b : Body) → Quietly v b.world → Silent v (by.pop_scope k fs a b)
  pop_scope_silent base fs a b q = tt
  pop_scope_silent scope fs a b q = q
  pop_scope_silent (block c) fs a b q = tt
  pop_scope_silent (loop l) fs a b q = tt

  pub pop_frame_from_silent : (fs : List Frame) (a : Act) (b : Body) → Quietly v b.world → Silent v (by.pop_frame_from fs a b)
  pop_frame_from_silent [] a b q = tt
  pop_frame_from_silent (f ∷ fs) a b q = search (silences, pop_scope_silent)

  pub capture_ends_silent : (t : Bool) (b : Body) → Quietly v b.world → Silent v (by.capture_ends_if t b)
  capture_ends_silent false b q = q
  capture_ends_silent true b q = search silences

  pub leave_loop_silent : (o : Option Back) (a : Act) (b : Body) → Quietly v b.world → Silent v (by.leave_loop o a b)
  leave_loop_silent None a b q = q
  leave_loop_silent (Some k) a b q = search (silences, capture_ends_silent)

  pub pop_loop_silent : (k : Bone) (fs : List Frame) (a : Act) (b : Body) → Quietly v b.world → Silent v (by.pop_loop k fs a b)
  pop_loop_silent base fs a b q = tt
  pop_loop_silent scope fs a b q = tt
  pop_loop_silent (block c) fs a b q = tt
  pop_loop_silent (loop l) fs a b q = search (silences, leave_loop_silent)

  pub pop_loop_from_silent : (fs : List Frame) (a : Act) (b : Body) → Quietly v b.world → Silent v (by.pop_loop_from fs a b)
  pop_loop_from_silent [] a b q = tt
  pop_loop_from_silent (f ∷ fs) a b q = search (silences, pop_loop_silent)

  pub recurse_at_silent : (o : Option Lap) (a : Act) (b : Body) → Quietly v b.world → Silent v (by.recurse_at o a b)
  recurse_at_silent None a b q = tt
  recurse_at_silent (Some l) a b q = search (silences, recurse_silent)

  pub call_by_silent : (o : Option Operand) (n : ℕ) (a : Act) (b : Body) → Quietly v b.world → Silent v (by.call_by o n a b)
  call_by_silent None n a b q = q
  call_by_silent (Some (value k)) n a b q = search silences
  call_by_silent (Some (a_loop d)) n a b q = search (silences, recurse_at_silent)
  call_by_silent (Some ended) n a b q = q

  pub fast_by_silent : (o : Option Lap) (a : Act) (b : Body) → Quietly v b.world → Silent v (by.fast_by o a b)
  fast_by_silent None a b q = q
  fast_by_silent (Some l) a b q = search (silences, recurse_silent)

  -- inheritance

  pub enter_silent : (l : ℕ) (t : Bool) (r k : ℕ) (d : Ref) (c : Control) (b : Body) → Quietly v b.world → Silent v (up.enter l t r k d c b)
  enter_silent l t r k d c b q = search (silences, capture_if_silent)

  pub call_first_silent : (o : List Shape) (l : ℕ) (ds : List Ref) (r : ℕ) (c : Control) (b : Body) → Quietly v b.world → Silent v (up.call_first o l ds r c b)
  call_first_silent o l [] r c b q = q
  call_first_silent o l (d ∷ []) r c b q = search (silences, enter_silent)
  call_first_silent o l (d ∷ e ∷ ds) r c b q = search (silences, enter_silent)

  pub call_block_in_silent : (h : up.Phase) (o : List Shape) (l : ℕ) (x : List ℕ) (c : Control) (b : Body) → Quietly v b.world → Silent v (up.call_block_in h o l x c b)
  call_block_in_silent up.Phase.plain o l x c b q = search (silences, call_first_silent)
  call_block_in_silent up.Phase.pending o l x c b q = q
  call_block_in_silent up.Phase.discarding o l x c b q = q

  pub super_by_silent : (d : Option Ref) (l : ℕ) (t : Bool) (r k : ℕ) (c : Control) (b : Body) → Quietly v b.world → Silent v (up.super_by d l t r k c b)
  super_by_silent None l t r k c b q = q
  super_by_silent (Some d) l t r k c b q = search (silences, enter_silent)

  pub super_in_silent : (o : Option ℕ) (l : ℕ) (t : Bool) (c : Control) (b : Body) → Quietly v b.world → Silent v (up.super_in o l t c b)
  super_in_silent None l t c b q = q
  super_in_silent (Some r) l t c b q = search (silences, super_by_silent)

  pub load_found_silent : (o : List Shape) (n : Option ℕ) (x : List ℕ) (c : Control) (b : Body) → Quietly v b.world → Silent v (up.load_found o n x c b)
  load_found_silent o None x c b q = q
  load_found_silent o (Some n) x c b q = search silences

  pub load_name_silent : (o : List Shape) (x : List ℕ) (c : Control) (b : Body) → Quietly v b.world → Silent v (up.load_name o x c b)
  load_name_silent o x c b q = search (silences, load_found_silent)

  pub load_text_silent : (o : List Shape) (k : ℕ) (t : Bool) (c : Control) (b : Body) → Quietly v b.world → Silent v (up.load_text o k t c b)
  load_text_silent o k false c b q = q
  load_text_silent o k true c b q = search (silences, load_name_silent)

  pub load_in_silent : (h : up.Phase) (o : List Shape) (k : ℕ) (c : Control) (b : Body) → Quietly v b.world → Silent v (up.load_in h o k c b)
  load_in_silent up.Phase.pending o k c b q = q
  load_in_silent up.Phase.plain o k c b q = search (silences, load_text_silent)
  load_in_silent up.Phase.discarding o k c b q = search (silences, load_text_silent)

-- what instructions are made of, but for writes
pub ruleset quiet = (silences, quietly_same, refused_silent, store_in_silent, from_host_silent, look_on_silent, find_silent, tell_silent, tell_of_silent, capture_if_silent, recurse_silent, attr_of_silent, push_const_silent, filter_by_silent, test_by_silent, iterate_by_silent, did_not_by_silent, pop_scope_silent, pop_frame_from_silent, capture_ends_silent, leave_loop_silent, pop_loop_silent, pop_loop_from_silent, recurse_at_silent, call_by_silent, fast_by_silent, enter_silent, call_first_silent, call_block_in_silent, super_by_silent, super_in_silent, load_found_silent, load_name_silent, load_text_silent, load_in_silent)
