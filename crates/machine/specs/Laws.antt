-- What holds of every run of every program, whatever its host and its sink.
use Rattle.std.specs.Prelude.{◌≡◌, ℕ, ◌+◌, true, ◌⊎◌, List, ◌++◌}
use Rattle.hosts.specs.Values.{Value}
use Rattle.hosts.specs.Meaning.{Meaning, grown}
use Rattle.sinks.specs.Taking.{Taking, accepts, offered}
use Rattle.instruction.specs.Program.{Program}
use Rattle.machine.specs.declared.fault.Fault.TheVariants.{OutOfFuel}
use Rattle.machine.specs.State.{World, Body, Control, Failure, Outcome, failed, Progress, running, finished, stuck}
use Rattle.machine.specs.Run.{Limits, Run, run, step, steps, executed, charges}

-- Steps can be taken in parts, and what they execute comes in the same order.
pub record StepsSplit (p : Program) (l : Limits) (m n : ℕ) (r : Run) : Type 0 where
  pub runs : steps p l (m + n) r ≡ steps p l n (steps p l m r)
  pub instructions : executed p l (m + n) r ≡ executed p l m r ++ executed p l n (steps p l m r)

-- What a run was charged is the sum over the instructions that it executed.
abbrev pub FuelIsTheSumOfCharges : Program → Limits → ℕ → Run → Type 0
FuelIsTheSumOfCharges p l n r = (steps p l n r).charged ≡ r.charged + charges (executed p l n r)

abbrev pub EndedRunsStay : Program → Limits → ℕ → Type 0
EndedRunsStay p l n = (x : Outcome) (w : World) (k : ℕ) → steps p l n (run (finished x w) k) ≡ run (finished x w) k

-- A step that ends in a fault has written nothing.
abbrev pub FaultsWriteNothing : Program → Limits → Type 0
FaultsWriteNothing p l =
    (c : Control) (b : Body) (k : ℕ) (f : Failure) (w : World) → (step p l (run (running c b) k)).progress ≡ finished (failed f) w → w.sink ≡ b.world.sink

-- The run ended since no fuel was left.
abbrev pub RanOutOfFuel : Run → Type 0
RanOutOfFuel r = (f : Failure) × (w : World) × (r.progress ≡ finished (failed f) w) × (f.fault ≡ OutOfFuel)

-- Two amounts of fuel make no difference until one of them is used up.
abbrev pub FuelDoesNotShow : Program → Limits → Limits → ℕ → Run → Type 0
FuelDoesNotShow p l k n r = l.frames ≡ k.frames → (steps p l n r ≡ steps p k n r) ⊎ (RanOutOfFuel (steps p l n r) ⊎ RanOutOfFuel (steps p k n r))

-- A host whose list has grown at its end; limits and rules are the same.
pub record Grown (m n : Meaning) : Type 0 where
  pub added : List Value
  pub is : n ≡ grown m added

-- A sink that has taken whole pieces, each accepted by its rule when it came.
pub data Taken (t : Taking) : Taking → Type 0 where
  nothing : Taken t t
  a_piece : {u : Taking} → Taken t u → (piece : List ℕ) → accepts u piece ≡ true → Taken t (offered u piece)

pub record Onward (v w : World) : Type 0 where
  pub host : Grown v.host w.host
  pub sink : Taken v.sink w.sink

abbrev pub To : World → Progress → Type 0
To v (running c b) = Onward v b.world
To v (finished x w) = Onward v w
To v stuck = Unit {0}

abbrev pub From : Progress → Progress → Type 0
From (running c b) y = To b.world y
From (finished x w) y = To w y
From stuck y = Unit {0}

-- Host and sink only grow.
abbrev pub WorldOnlyGrows : Program → Limits → ℕ → Run → Type 0
WorldOnlyGrows p l n r = From r.progress (steps p l n r).progress

pub record LawsOfRuns : Type 0 where
  pub split : (p : Program) (l : Limits) (m n : ℕ) (r : Run) → StepsSplit p l m n r
  pub fuel : (p : Program) (l : Limits) (n : ℕ) (r : Run) → FuelIsTheSumOfCharges p l n r
  pub ended : (p : Program) (l : Limits) (n : ℕ) → EndedRunsStay p l n
  pub quiet : (p : Program) (l : Limits) → FaultsWriteNothing p l
  pub enough : (p : Program) (l k : Limits) (n : ℕ) (r : Run) → FuelDoesNotShow p l k n r
  pub world : (p : Program) (l : Limits) (n : ℕ) (r : Run) → WorldOnlyGrows p l n r
