-- The instructions that stay in their code and neither see nor change the rows of blocks, in the order of their kinds.
-- Each takes the code that runs and gives what is new of it. It assumes nothing.
use Rattle.std.specs.Prelude.{ℕ, ◌%◌, Bool, true, false, cond, ◌||◌, List, [], ◌∷◌, length, Some, None, Option, ◌==◌, nat_le, nat_lt, slice_index_or, slice_set}
use Rattle.instruction.specs.Program.{Const, undefined, boolean, integer, string, Mode, keep, discard}
use Rattle.hosts.specs.Answers.{gets_attr, gets_item, counts, iterates, truth, makes_integer, makes_text, makes_list, unary_gives, binary_gives, filters as filter_gives, tests as test_gives, calls}
use Rattle.hosts.specs.declared.Unary.{Unary}
use Rattle.hosts.specs.declared.Binary.{Binary}
use Rattle.machine.specs.declared.fault.Fault.TheVariants.{BadLoop, Unknown}
use Rattle.operands.specs.declared.operand.Operand.{Operand}
use Rattle.operands.specs.declared.operand.Operand.TheVariants.{Value as value, Loop as a_loop, Ended as ended}
use Rattle.machine.specs.State.{Back, Recursion, Slots, Act, Loop, Bone, base as the_base, scope, block, loop, Frame, Capture, dropped, kept, Body, with_operands, with_frames, to, past}
use Rattle.machine.specs.Parts.{Part, does, stuck, bind, fails, pop, pop_all, push, live, plain_all, pop_plain, ask, read, push_asked, truth_code, write, spell, begin_capture, push_captured, push_frame}
use Rattle.machine.specs.Loops.{frame, store, Lap, innermost, lap_at, find, or_undefined, tells, attribute, tell_of, turn, did_not_iterate, swept, recurse}

-- on to the next instruction
abbrev pub goes : Act → Unit {0} → Body → Part Slots
goes a x b = does (past a.slots) b

unfoldable pub emit_raw : List ℕ → Act → Body → Part Slots
emit_raw t a b = bind (write t b) (goes a)

unfoldable pub store_local : List ℕ → Act → Body → Part Slots
store_local x a b = bind (pop a.base b) (λ v b. bind (live v b) (λ v b. bind (store x v b) (goes a)))

unfoldable pub lookup : List ℕ → Act → Body → Part Slots
lookup x a b = bind (find x b) (λ v b. bind (push (or_undefined v) b) (goes a))

abbrev pub attr_of : Operand → List ℕ → Body → Part (Unit {0})
attr_of (value k) x b = push_asked (λ m. gets_attr m k x) b
attr_of (a_loop n) x b = tell_of (lap_at n b.frames) (attribute x) b
attr_of ended x b = fails BadLoop b

unfoldable pub get_attr : List ℕ → Act → Body → Part Slots
get_attr x a b = bind (pop a.base b) (λ v b. bind (attr_of v x b) (goes a))

unfoldable pub get_item : Act → Body → Part Slots
get_item a b =
    bind (pop_plain a.base b) (λ key b. bind (pop_plain a.base b) (λ k b. bind (push_asked (λ m. gets_item m k key) b) (goes a)))

abbrev pub push_const : Const → Body → Part (Unit {0})
push_const undefined b = push (value 0) b
push_const (boolean t) b = push (value (truth_code t)) b
push_const (integer z) b = push_asked (λ m. makes_integer m z) b
push_const (string t) b = push_asked (λ m. makes_text m t) b

unfoldable pub load_const : Const → Act → Body → Part Slots
load_const c a b = bind (push_const c b) (goes a)

unfoldable pub build_list : ℕ → Act → Body → Part Slots
build_list n a b =
    bind (pop_all a.base n b) (λ vs b. bind (plain_all vs b) (λ ks b. bind (push_asked (λ m. makes_list m ks) b) (goes a)))

-- the right operand is on top
unfoldable pub operate : Binary → Act → Body → Part Slots
operate op a b =
    bind (pop_plain a.base b) (λ right b. bind (pop_plain a.base b) (λ left b. bind (push_asked (λ m. binary_gives m op left right) b) (goes a)))

unfoldable pub operate_on_one : Unary → Act → Body → Part Slots
operate_on_one op a b = bind (pop_plain a.base b) (λ k b. bind (push_asked (λ m. unary_gives m op k) b) (goes a))

-- Filters and tests. White space in a name does not count; a filled slot wins over the name.

abbrev pub is_white : ℕ → Bool
is_white c = c == 32 || (c == 9 || (c == 10 || (c == 12 || c == 13)))

abbrev pub normalized : List ℕ → List ℕ
normalized [] = []
normalized (c ∷ cs) = cond (is_white c) (normalized cs) (c ∷ normalized cs)

-- the filter or test that is meant, and the slots after it was looked up
pub record Meant : Type 0 where
  pub name : List ℕ
  pub slots : List (Option (List ℕ))

abbrev pub meant_by : Option (List ℕ) → Bool → List ℕ → ℕ → List (Option (List ℕ)) → Option Meant
meant_by (Some y) known x i fs = Some (record { name = y; slots = fs })
meant_by None known x i fs = cond known (Some (record { name = x; slots = slice_set fs i (Some x) })) None

-- a slot number past the slots has none
abbrev pub meant : (List ℕ → Bool) → List ℕ → ℕ → List (Option (List ℕ)) → Option Meant
meant known x i fs = meant_by (slice_index_or fs i None) (known (normalized x)) (normalized x) i fs

abbrev pub with_filters : Slots → List (Option (List ℕ)) → Slots
with_filters s fs = record { next = s.next; recursion = s.recursion; filters = fs; tests = s.tests }

abbrev pub with_tests : Slots → List (Option (List ℕ)) → Slots
with_tests s fs = record { next = s.next; recursion = s.recursion; filters = s.filters; tests = fs }

abbrev pub filter_by : Option Meant → ℕ → Act → Body → Part Slots
filter_by None n a b = fails Unknown b
filter_by (Some f) n a b =
    bind (pop_all a.base n b) (λ vs b. bind (plain_all vs b) (λ ks b. bind (push_asked (λ m. filter_gives m f.name ks) b)
    (λ x b. does (past (with_filters a.slots f.slots)) b)))

unfoldable pub apply_filter : List ℕ → ℕ → ℕ → Act → Body → Part Slots
apply_filter x n i a b = filter_by (meant b.world.host.rules.has_filter x i a.slots.filters) n a b

abbrev pub test_by : Option Meant → ℕ → Act → Body → Part Slots
test_by None n a b = fails Unknown b
test_by (Some f) n a b =
    bind (pop_all a.base n b) (λ vs b. bind (plain_all vs b) (λ ks b. bind (read (λ m. test_gives m f.name ks) b) (λ t b. bind (tells t b)
    (λ x b. does (past (with_tests a.slots f.slots)) b))))

unfoldable pub perform_test : List ℕ → ℕ → ℕ → Act → Body → Part Slots
perform_test x n i a b = test_by (meant b.world.host.rules.has_test x i a.slots.tests) n a b

unfoldable pub emit : Act → Body → Part Slots
emit a b = bind (pop_plain a.base b) (λ k b. bind (spell k b) (λ t b. bind (write t b) (goes a)))

-- Loops.

abbrev pub depth_by : Option Recursion → ℕ
depth_by None = 1
depth_by (Some r) = r.depth

abbrev pub back_by : Option Recursion → Option Back
back_by None = None
back_by (Some r) = Some r.back

-- flag 1 shows the loop to its body, flag 2 lets it recurse
abbrev pub loop_over : ℕ → ℕ → ℕ → Act → Loop
loop_over flags k n a = record {
  at = a.at;
  origin = a.slots.next;
  recursive = nat_le 2 flags;
  visible = (flags % 2 == 1);
  back = back_by a.slots.recursion;
  depth = depth_by a.slots.recursion;
  iterable = k;
  length = n;
}

abbrev pub no_recursion : Slots → Slots
no_recursion s = record { next = s.next; recursion = None; filters = s.filters; tests = s.tests }

unfoldable pub push_loop : ℕ → ℕ → Act → Body → Part Slots
push_loop limit flags a b =
    bind (pop_plain a.base b) (λ k b. bind (read (λ m. counts m k) b) (λ n b. bind (push_frame limit (frame (loop (loop_over flags k n a))) b)
    (λ x b. does (past (no_recursion a.slots)) b)))

unfoldable pub push_with : ℕ → Act → Body → Part Slots
push_with limit a b = bind (push_frame limit (frame scope) b) (goes a)

abbrev pub iterate_by : Option Lap → ℕ → Act → Body → Part Slots
iterate_by None t a b = stuck
iterate_by (Some l) t a b =
    cond (nat_lt l.turns l.loop.length)
    (bind (ask (λ m. iterates m l.loop.iterable l.turns) b) (λ k b. bind (push (value k) (with_frames b (turn true b.frames))) (goes a)))
    (does (to t a.slots) (with_frames b (turn false b.frames)))

unfoldable pub iterate : ℕ → Act → Body → Part Slots
iterate t a b = iterate_by (innermost b.frames) t a b

abbrev pub did_not_by : Option Lap → Act → Body → Part Slots
did_not_by None a b = stuck
did_not_by (Some l) a b = bind (tells (did_not_iterate l) b) (goes a)

unfoldable pub push_did_not_iterate : Act → Body → Part Slots
push_did_not_iterate a b = did_not_by (innermost b.frames) a b

abbrev pub pop_scope : Bone → List Frame → Act → Body → Part Slots
pop_scope the_base fs a b = stuck
pop_scope scope fs a b = goes a tt (with_frames b fs)
pop_scope (block c) fs a b = stuck
pop_scope (loop l) fs a b = stuck

abbrev pub pop_frame_from : List Frame → Act → Body → Part Slots
pop_frame_from [] a b = stuck
pop_frame_from (f ∷ fs) a b = pop_scope f.bone fs a b

unfoldable pub pop_frame : Act → Body → Part Slots
pop_frame a b = pop_frame_from b.frames a b

abbrev pub capture_ends_if : Bool → Body → Part (Unit {0})
capture_ends_if false b = does tt b
capture_ends_if true b = push_captured b

-- on, or back to where the recursion was called
abbrev pub leave_loop : Option Back → Act → Body → Part Slots
leave_loop None a b = goes a tt b
leave_loop (Some k) a b = bind (capture_ends_if k.captured b) (λ x b. does (to k.place a.slots) b)

abbrev pub pop_loop : Bone → List Frame → Act → Body → Part Slots
pop_loop the_base fs a b = stuck
pop_loop scope fs a b = stuck
pop_loop (block c) fs a b = stuck
pop_loop (loop l) fs a b = leave_loop l.back a (swept (length fs) (with_frames b fs))

abbrev pub pop_loop_from : List Frame → Act → Body → Part Slots
pop_loop_from [] a b = stuck
pop_loop_from (f ∷ fs) a b = pop_loop f.bone fs a b

unfoldable pub pop_loop_frame : Act → Body → Part Slots
pop_loop_frame a b = pop_loop_from b.frames a b

-- Jumps.

unfoldable pub jump : ℕ → Act → Body → Part Slots
jump t a b = does (to t a.slots) b

unfoldable pub jump_if_false : ℕ → Act → Body → Part Slots
jump_if_false t a b =
    bind (pop_plain a.base b) (λ k b. bind (read (λ m. truth m k) b) (λ r b. does (cond r (past a.slots) (to t a.slots)) b))

-- what was tested stays an operand where the jump is taken
unfoldable pub jump_or_pop : Bool → ℕ → Act → Body → Part Slots
jump_or_pop on t a b =
    bind (pop_plain a.base b) (λ k c. bind (read (λ m. truth m k) c) (λ r c. cond (cond on r (cond r false true)) (does (to t a.slots) b) (does (past a.slots) c)))

-- Captures.

abbrev pub capture_by : Mode → Capture
capture_by keep = kept []
capture_by discard = dropped

unfoldable pub start_capture : Mode → Act → Body → Part Slots
start_capture m a b = bind (begin_capture (capture_by m) b) (goes a)

unfoldable pub finish_capture : Act → Body → Part Slots
finish_capture a b = bind (push_captured b) (goes a)

-- Functions: the name of a loop recurses, that of any other value is called by the host, and a name without a value is unknown.

abbrev pub recurse_at : Option Lap → Act → Body → Part Slots
recurse_at None a b = stuck
recurse_at (Some l) a b = recurse true a.at l.loop a.slots b

abbrev pub call_by : Option Operand → ℕ → Act → Body → Part Slots
call_by None n a b = fails Unknown b
call_by (Some (value k)) n a b =
    bind (pop_all a.base n b) (λ vs b. bind (plain_all vs b) (λ ks b. bind (push_asked (λ m. calls m k ks) b) (goes a)))
call_by (Some (a_loop d)) n a b = cond (n == 1) (recurse_at (lap_at d b.frames) a b) (fails BadLoop b)
call_by (Some ended) n a b = fails BadLoop b

unfoldable pub call_function : List ℕ → ℕ → Act → Body → Part Slots
call_function x n a b = bind (find x b) (λ v b. call_by v n a b)

-- Operands.

unfoldable pub dup_top : Act → Body → Part Slots
dup_top a b = bind (pop a.base b) (λ v c. bind (live v c) (λ v c. bind (push v b) (goes a)))

unfoldable pub discard_top : Act → Body → Part Slots
discard_top a b = bind (pop a.base b) (λ v b. bind (live v b) (λ v b. goes a tt b))

abbrev pub fast_by : Option Lap → Act → Body → Part Slots
fast_by None a b = fails Unknown b
fast_by (Some l) a b = recurse false a.at l.loop a.slots b

-- the operand stays for the loop's own PushLoop
unfoldable pub fast_recurse : Act → Body → Part Slots
fast_recurse a b = bind (pop a.base b) (λ v c. fast_by (innermost b.frames) a b)

unfoldable pub swap : Act → Body → Part Slots
swap a b =
    bind (pop a.base b) (λ v b. bind (live v b) (λ v b. bind (pop a.base b) (λ w b. bind (live w b) (λ w b.
    goes a tt (with_operands b (w ∷ v ∷ b.operands))))))
