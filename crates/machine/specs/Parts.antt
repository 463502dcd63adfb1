-- The parts that instructions are made of. Each has at most one fault of its own. It assumes nothing.
use Rattle.std.specs.Prelude.{ℕ, ◌+◌, ◌-◌, Bool, true, false, cond, List, [], ◌∷◌, ◌++◌, reverse, length, take, drop, Ok, Err, Result, nat_le, nat_lt}
use Rattle.hosts.specs.Meaning.{Meaning, Given}
use Rattle.hosts.specs.Answers.{answer, after, shows, makes_text}
use Rattle.hosts.specs.declared.Refusal.{Refusal}
use Rattle.hosts.specs.declared.Refusal.TheVariants.{Fault as Faulty, Full as HostIsFull}
use Rattle.sinks.specs.Taking.{accepts, offered}
use Rattle.machine.specs.declared.fault.Fault.{Fault}
use Rattle.machine.specs.declared.fault.Fault.TheVariants.{WriteFailure, FrameLimit, Full, BadLoop, Host, HostFull}
use Rattle.operands.specs.declared.operand.Operand.{Operand}
use Rattle.operands.specs.declared.operand.Operand.TheVariants.{Value as value, Loop as a_loop, Ended as ended}
use Rattle.machine.specs.State.{Frame, Capture, dropped, kept, World, Body, most_operands, most_captures, scratch_size, with_operands, with_frames, with_captures, with_host, with_sink}

-- a part is done, with an answer; or it is a fault, of which only the world outside stays; or no rule applies
pub data Part (A : Type 0) : Type 0 where
  does : A → Body → Part A
  bad : Fault → World → Part A
  stuck : Part A

abbrev pub bind : {A B : Type 0} → Part A → (A → Body → Part B) → Part B
bind (does x b) f = f x b
bind (bad n w) f = bad n w
bind stuck f = stuck

abbrev pub fails : {A : Type 0} → Fault → Body → Part A
fails n b = bad n b.world

-- Operands. A code takes only its own, which lie above its base.

abbrev pub pop_from : List Operand → ℕ → Body → Part Operand
pop_from [] base b = stuck
pop_from (v ∷ vs) base b = cond (nat_lt base (length (v ∷ vs))) (does v (with_operands b vs)) stuck

abbrev pub pop : ℕ → Body → Part Operand
pop base b = pop_from b.operands base b

-- so many at once, in the order in which they were pushed
abbrev pub pop_all : ℕ → ℕ → Body → Part (List Operand)
pop_all base n b =
    cond (nat_le (base + n) (length b.operands))
    (does (reverse (take n b.operands)) (with_operands b (drop n b.operands)))
    stuck

abbrev pub push : Operand → Body → Part (Unit {0})
push v b = cond (nat_lt (length b.operands) most_operands) (does tt (with_operands b (v ∷ b.operands))) (fails Full b)

-- a loop that has ended is of no use
abbrev pub live : Operand → Body → Part Operand
live (value k) b = does (value k) b
live (a_loop n) b = does (a_loop n) b
live ended b = fails BadLoop b

-- where a value of the host is wanted, a loop is misused
abbrev pub plain : Operand → Body → Part ℕ
plain (value k) b = does k b
plain (a_loop n) b = fails BadLoop b
plain ended b = fails BadLoop b

abbrev pub plain_all : List Operand → Body → Part (List ℕ)
plain_all [] b = does [] b
plain_all (v ∷ vs) b = bind (plain v b) (λ k b. bind (plain_all vs b) (λ ks b. does (k ∷ ks) b))

abbrev pub pop_plain : ℕ → Body → Part ℕ
pop_plain base b = bind (pop base b) plain

-- The host.

abbrev pub refused : {A : Type 0} → Refusal → Body → Part A
refused (Faulty n) b = fails (Host n) b
refused HostIsFull b = fails HostFull b

abbrev pub answered : Result ℕ Refusal → Meaning → Body → Part ℕ
answered (Ok k) m b = does k (with_host b m)
answered (Err r) m b = refused r b

-- what a rule gives, with its additions
abbrev pub ask : (Meaning → Given) → Body → Part ℕ
ask f b = answered (answer b.world.host (f b.world.host)) (after b.world.host (f b.world.host)) b

abbrev pub told : {A : Type 0} → Result A ℕ → Body → Part A
told (Ok x) b = does x b
told (Err n) b = fails (Host n) b

-- what a rule tells that adds nothing
abbrev pub read : {A : Type 0} → (Meaning → Result A ℕ) → Body → Part A
read f b = told (f b.world.host) b

-- the answer of a rule becomes an operand
abbrev pub push_asked : (Meaning → Given) → Body → Part (Unit {0})
push_asked f b = bind (ask f b) (λ k b. push (value k) b)

abbrev pub truth_code : Bool → ℕ
truth_code true = 2
truth_code false = 1

-- Captures and output.

-- the bytes of scratch that captures take
abbrev pub scratch : List Capture → ℕ
scratch [] = 0
scratch (dropped ∷ cs) = scratch cs
scratch (kept t ∷ cs) = length t + scratch cs

abbrev pub write_to : List Capture → List ℕ → Body → Part (Unit {0})
write_to [] t b = cond (accepts b.world.sink t) (does tt (with_sink b (offered b.world.sink t))) (fails WriteFailure b)
write_to (dropped ∷ cs) t b = does tt b
write_to (kept s ∷ cs) t b =
    cond (nat_le (scratch (kept s ∷ cs) + length t) scratch_size)
    (does tt (with_captures b (kept (s ++ t) ∷ cs)))
    (fails Full b)

-- a piece goes to the innermost capture, or else to the sink
abbrev pub write : List ℕ → Body → Part (Unit {0})
write t b = write_to b.captures t b

-- the text of a value is written into the unused part of scratch
abbrev pub spell : ℕ → Body → Part (List ℕ)
spell k b = bind (read (λ m. shows m k) b) (λ t b. cond (nat_le (length t) (scratch_size - scratch b.captures)) (does t b) (fails Full b))

abbrev pub begin_capture : Capture → Body → Part (Unit {0})
begin_capture c b = cond (nat_lt (length b.captures) most_captures) (does tt (with_captures b (c ∷ b.captures))) (fails Full b)

abbrev pub end_first : List Capture → Body → Part ℕ
end_first [] b = stuck
end_first (dropped ∷ cs) b = does 0 (with_captures b cs)
end_first (kept t ∷ cs) b = ask (λ m. makes_text m t) (with_captures b cs)

-- the innermost capture ends: its text is made, or undefined if it was dropped
abbrev pub end_capture : Body → Part ℕ
end_capture b = end_first b.captures b

abbrev pub push_captured : Body → Part (Unit {0})
push_captured b = bind (end_capture b) (λ k b. push (value k) b)

-- Frames.

abbrev pub push_frame : ℕ → Frame → Body → Part (Unit {0})
push_frame limit f b = cond (nat_lt (length b.frames) limit) (does tt (with_frames b (f ∷ b.frames))) (fails FrameLimit b)
