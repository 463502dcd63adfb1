-- Frames, names and loops. It assumes nothing.
use Rattle.std.specs.Prelude.{ℕ, suc, ◌+◌, min, Bool, true, false, cond, ◌&&◌, ◌||◌, List, [], ◌∷◌, map, length, pos, Some, None, Ok, Err, codes, Option, Result, ◌==◌, nat_lt}
use Rattle.std.specs.Option.{option_or}
use Rattle.std.specs.Str.{bytes_eq}
use Rattle.hosts.specs.Meaning.{Meaning}
use Rattle.hosts.specs.Answers.{found, after_found, looks_up, makes_integer}
use Rattle.hosts.specs.declared.Refusal.{Refusal}
use Rattle.machine.specs.declared.fault.Fault.TheVariants.{Full, BadLoop}
use Rattle.machine.specs.Outline.{Place, same_place}
use Rattle.operands.specs.Stack.{forgotten}
use Rattle.operands.specs.declared.operand.Operand.{Operand}
use Rattle.operands.specs.declared.operand.Operand.TheVariants.{Value as value, Loop as a_loop}
use Rattle.machine.specs.State.{Slots, Loop, Bone, base, scope, block, loop, Local, Frame, kept, Body, most_locals, with_operands, with_frames, with_host}
use Rattle.machine.specs.Parts.{Part, does, stuck, bind, fails, push, push_asked, refused, begin_capture, truth_code}

abbrev pub frame : Bone → Frame
frame b = record { bone = b; locals = []; turns = 0 }

-- Locals. A frame has one for each name.

abbrev pub locals_of : List Frame → ℕ
locals_of [] = 0
locals_of (f ∷ fs) = length f.locals + locals_of fs

abbrev pub local_in : List ℕ → List Local → Option Operand
local_in x [] = None
local_in x (l ∷ ls) = cond (bytes_eq l.name x) (Some l.held) (local_in x ls)

abbrev pub has_local : List ℕ → List Local → Bool
has_local x [] = false
has_local x (l ∷ ls) = bytes_eq l.name x || has_local x ls

-- in the place of the local of that name, or behind the others
abbrev pub put_local : List ℕ → Operand → List Local → List Local
put_local x v [] = record { name = x; held = v } ∷ []
put_local x v (l ∷ ls) = cond (bytes_eq l.name x) (record { name = x; held = v } ∷ ls) (l ∷ put_local x v ls)

abbrev pub store_in : List Frame → List ℕ → Operand → Body → Part (Unit {0})
store_in [] x v b = stuck
store_in (f ∷ fs) x v b =
    cond (has_local x f.locals || nat_lt (locals_of (f ∷ fs)) most_locals)
    (does tt (with_frames b (record { bone = f.bone; locals = put_local x v f.locals; turns = f.turns } ∷ fs)))
    (fails Full b)

-- into the innermost frame
abbrev pub store : List ℕ → Operand → Body → Part (Unit {0})
store x v b = store_in b.frames x v b

-- A loop with the number of turns that it has begun.
pub record Lap : Type 0 where
  pub loop : Loop
  pub turns : ℕ

abbrev pub lap_by : Bone → ℕ → Option Lap
lap_by base n = None
lap_by scope n = None
lap_by (block c) n = None
lap_by (loop l) n = Some (record { loop = l; turns = n })

abbrev pub lap_of : Frame → Option Lap
lap_of f = lap_by f.bone f.turns

abbrev pub innermost : List Frame → Option Lap
innermost [] = None
innermost (f ∷ fs) = option_or (lap_of f) (innermost fs)

-- the loop whose frame has so many frames below it
abbrev pub lap_at : ℕ → List Frame → Option Lap
lap_at n [] = None
lap_at n (f ∷ fs) = cond (n == length fs) (lap_of f) (lap_at n fs)

-- Names. Lookup goes outward from the innermost frame: the locals of each, then `loop` where the frame is that of a loop
-- that shows itself; then the host.

abbrev pub shows_loop : Bone → Bool
shows_loop base = false
shows_loop scope = false
shows_loop (block c) = false
shows_loop (loop l) = l.visible

abbrev pub own_loop : List ℕ → Bone → ℕ → Option Operand
own_loop x b n = cond (shows_loop b && bytes_eq x (codes "loop")) (Some (a_loop n)) None

abbrev pub look : List ℕ → List Frame → Option Operand
look x [] = None
look x (f ∷ fs) = option_or (option_or (local_in x f.locals) (own_loop x f.bone (length fs))) (look x fs)

abbrev pub from_host : Result (Option ℕ) Refusal → Meaning → Body → Part (Option Operand)
from_host (Ok None) m b = does None (with_host b m)
from_host (Ok (Some k)) m b = does (Some (value k)) (with_host b m)
from_host (Err r) m b = refused r b

abbrev pub look_on : Option Operand → List ℕ → Body → Part (Option Operand)
look_on (Some v) x b = does (Some v) b
look_on None x b = from_host (found b.world.host (looks_up b.world.host x)) (after_found b.world.host (looks_up b.world.host x)) b

abbrev pub find : List ℕ → Body → Part (Option Operand)
find x b = look_on (look x b.frames) x b

abbrev pub or_undefined : Option Operand → Operand
or_undefined None = value 0
or_undefined (Some v) = v

-- What a loop tells of itself: nothing before its first turn. The index counts every turn, the one past the last item too.

abbrev pub is_last : Lap → Bool
is_last l = l.loop.length == 0 || l.turns == l.loop.length

abbrev pub count_of : ℕ → Body → Part (Unit {0})
count_of n b = push_asked (λ m. makes_integer m (pos n)) b

abbrev pub tells : Bool → Body → Part (Unit {0})
tells t b = push (value (truth_code t)) b

-- the attributes by name
pub data Attribute : Type 0 where
  index : Attribute
  length' : Attribute
  first : Attribute
  last : Attribute
  depth : Attribute
  no_other : Attribute

abbrev pub attribute : List ℕ → Attribute
attribute x =
    cond (bytes_eq x (codes "index")) index
    (cond (bytes_eq x (codes "length")) length'
    (cond (bytes_eq x (codes "first")) first
    (cond (bytes_eq x (codes "last")) last
    (cond (bytes_eq x (codes "depth")) depth no_other))))

abbrev pub tell : Attribute → Lap → Body → Part (Unit {0})
tell index l b = count_of l.turns b
tell length' l b = count_of l.loop.length b
tell first l b = tells (l.turns == 1) b
tell last l b = tells (is_last l) b
tell depth l b = count_of l.loop.depth b
tell no_other l b = fails BadLoop b

abbrev pub is_known : Attribute → Bool
is_known index = true
is_known length' = true
is_known first = true
is_known last = true
is_known depth = true
is_known no_other = false

abbrev pub tell_of : Option Lap → Attribute → Body → Part (Unit {0})
tell_of None a b = stuck
tell_of (Some l) a b = cond (is_known a && l.turns == 0) (push (value 0) b) (tell a l b)

-- Iterating.

abbrev pub by_lap : {A : Type 0} → Option Lap → A → A → A
by_lap None x y = y
by_lap (Some l) x y = x

-- the innermost loop begins a turn; where it gives an item, the locals of its frame are new
abbrev pub turn : Bool → List Frame → List Frame
turn fresh [] = []
turn fresh (f ∷ fs) =
    by_lap (lap_of f)
    (record { bone = f.bone; locals = cond fresh [] f.locals; turns = suc f.turns } ∷ fs)
    (f ∷ turn fresh fs)

-- a loop that has given no item
abbrev pub did_not_iterate : Lap → Bool
did_not_iterate l = min l.turns l.loop.length == 0

-- The values of a loop that ends.

abbrev pub swept : ℕ → Body → Body
swept n b = with_operands b (map (forgotten n) b.operands)

-- Recursion goes to the PushLoop of the loop, and only from the loop's own code.

abbrev pub recursing : Bool → Loop → Slots → Slots
recursing captured l s = record {
  next = l.origin;
  recursion = Some (record { back = record { place = suc s.next; captured = captured }; depth = suc l.depth });
  filters = s.filters;
  tests = s.tests;
}

abbrev pub capture_if : Bool → Body → Part (Unit {0})
capture_if false b = does tt b
capture_if true b = begin_capture (kept []) b

abbrev pub recurse : Bool → Place → Loop → Slots → Body → Part Slots
recurse captured at l s b =
    cond (l.recursive && same_place l.at at)
    (bind (capture_if captured b) (λ x b. does (recursing captured l s) b))
    (fails BadLoop b)
