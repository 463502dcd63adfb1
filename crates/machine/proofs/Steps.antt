-- Steps in parts, charges, ended runs, and runs on two amounts of fuel.
use Rattle.std.proofs.Common.{◌≡◌, ℕ, zero, suc, ◌+◌, Bool, true, false, cond, ◌⊎◌, List, [], ◌∷◌, ◌++◌, Some, None, Option, sym, refl, ap, ◌∙◌, subst, inl, inr, ⊎_elim, append_assoc, add-zero, suc-add, zero-add, arith}
use Rattle.instruction.specs.Program.{Instr, Step, Program}
use Rattle.machine.specs.declared.fault.Fault.TheVariants.{OutOfFuel}
use Rattle.machine.specs.State.{World, Body, Control, Failure, failed, Progress, running, finished, stuck}
use Rattle.machine.specs.Run.{Limits, Run, run, step, steps, executed, charges, charge, charged_step, current, next_of, instruction_of, is_out, perform}
use Rattle.machine.specs.Laws.{StepsSplit, RanOutOfFuel, EndedRunsStay, FuelDoesNotShow, FuelIsTheSumOfCharges}

pub steps_more : (p : Program) (l : Limits) (m n : ℕ) (r : Run) → steps p l (m + n) r ≡ steps p l n (steps p l m r)
unfolding steps
steps_more p l zero n r = ap (λ k. steps p l k r) (zero-add n)
steps_more p l (suc m) n r = ap (λ k. steps p l k r) (suc-add m n) ∙ steps_more p l m n (step p l r)

pub executed_more : (p : Program) (l : Limits) (m n : ℕ) (r : Run) → executed p l (m + n) r ≡ executed p l m r ++ executed p l n (steps p l m r)
unfolding steps executed
executed_more p l zero n r = ap (λ k. executed p l k r) (zero-add n)
executed_more p l (suc m) n r =
    ap (λ k. executed p l k r) (suc-add m n)
    ∙ ap (λ is. next_of p r.progress ++ is) (executed_more p l m n (step p l r))
    ∙ sym (append_assoc (next_of p r.progress) (executed p l m (step p l r)) (executed p l n (steps p l m (step p l r))))

pub split : (p : Program) (l : Limits) (m n : ℕ) (r : Run) → StepsSplit p l m n r
split p l m n r = record { runs = steps_more p l m n r; instructions = executed_more p l m n r }

pub charges_more : (is js : List Instr) → charges (is ++ js) ≡ charges is + charges js
charges_more [] js = sym (zero-add (charges js))
charges_more (i ∷ is) js = let e = charges_more is js in omega arith

charged_fetch : (p : Program) (l : Limits) (i : Option Step) (c : Control) (b : Body) (n : ℕ) → (charged_step p l i c b n).charged ≡ n + charges (instruction_of i)
charged_fetch p l None c b n = sym (add-zero n)
charged_fetch p l (Some i) c b n = omega arith

charged_by : (p : Program) (l : Limits) (x : Progress) (n : ℕ) → (step p l (run x n)).charged ≡ n + charges (next_of p x)
unfolding step
charged_by p l (running c b) n = charged_fetch p l (current p c) c b n
charged_by p l (finished x w) n = sym (add-zero n)
charged_by p l stuck n = sym (add-zero n)

pub fuel_sum : (p : Program) (l : Limits) (n : ℕ) (r : Run) → FuelIsTheSumOfCharges p l n r
unfolding steps executed
fuel_sum p l zero r = sym (add-zero r.charged)
fuel_sum p l (suc n) r =
    let e = fuel_sum p l n (step p l r) in
    let f : (step p l r).charged ≡ r.charged + charges (next_of p r.progress) = charged_by p l r.progress r.charged in
    let g = charges_more (next_of p r.progress) (executed p l n (step p l r)) in
    omega arith

pub ended_stays : (p : Program) (l : Limits) (n : ℕ) → EndedRunsStay p l n
unfolding step steps
ended_stays p l zero x w k = refl
ended_stays p l (suc n) x w k = ended_stays p l n x w k

pub stuck_stays : (p : Program) (l : Limits) (n k : ℕ) → steps p l n (run stuck k) ≡ run stuck k
unfolding step steps
stuck_stays p l zero k = refl
stuck_stays p l (suc n) k = stuck_stays p l n k

-- One step on two amounts of fuel.

abbrev Alike : Run → Run → Type 0
Alike r s = (r ≡ s) ⊎ (RanOutOfFuel r ⊎ RanOutOfFuel s)

chosen_alike : (x y : Bool) (f : Failure) (w : World) (u v : Progress) (n : ℕ) → f.fault ≡ OutOfFuel → u ≡ v → Alike (run (cond x (finished (failed f) w) u) n) (run (cond y (finished (failed f) w) v) n)
chosen_alike true y f w u v n e h = inr (inl (f, w, refl, e))
chosen_alike false true f w u v n e h = inr (inr (f, w, refl, e))
chosen_alike false false f w u v n e h = inl (ap (λ z. run z n) h)

current_alike : (p : Program) (l k : Limits) → l.frames ≡ k.frames → (i : Option Step) (c : Control) (b : Body) (n : ℕ) → Alike (charged_step p l i c b n) (charged_step p k i c b n)
current_alike p l k e None c b n = inl refl
current_alike p l k e (Some i) c b n =
    chosen_alike (is_out l n i.instruction) (is_out k n i.instruction) _ b.world (perform p l.frames i c b) (perform p k.frames i c b) (n + charge i.instruction) refl
    (ap (λ m. perform p m i c b) e)

step_alike : (p : Program) (l k : Limits) → l.frames ≡ k.frames → (x : Progress) (n : ℕ) → Alike (step p l (run x n)) (step p k (run x n))
unfolding step
step_alike p l k e (running c b) n = current_alike p l k e (current p c) c b n
step_alike p l k e (finished x w) n = inl refl
step_alike p l k e stuck n = inl refl

out_by : (p : Program) (l : Limits) (n k : ℕ) (x : Progress) (f : Failure) (w : World) → x ≡ finished (failed f) w → f.fault ≡ OutOfFuel → RanOutOfFuel (steps p l n (run x k))
out_by p l n k x f w e h = (f, w, ap (λ y. (steps p l n (run y k)).progress) e ∙ ap (λ r. r.progress) (ended_stays p l n (failed f) w k), h)

out_stays : (p : Program) (l : Limits) (n : ℕ) (r : Run) → RanOutOfFuel r → RanOutOfFuel (steps p l n r)
out_stays p l n r o = out_by p l n r.charged r.progress o.0 o.1 o.2 o.3

pub fuel_does_not_show : (p : Program) (l k : Limits) (n : ℕ) (r : Run) → FuelDoesNotShow p l k n r
unfolding steps
fuel_does_not_show p l k zero r e = inl refl
fuel_does_not_show p l k (suc n) r e =
    ⊎_elim
    (λ (h : step p l r ≡ step p k r). ⊎_elim (λ (q : steps p l n (step p l r) ≡ steps p k n (step p l r)). inl (q ∙ ap (steps p k n) h))
    (λ (q : RanOutOfFuel (steps p l n (step p l r)) ⊎ RanOutOfFuel (steps p k n (step p l r))). inr (⊎_elim (λ o. inl o) (λ o. inr (subst (λ s. RanOutOfFuel (steps p k n s)) h o)) q))
    (fuel_does_not_show p l k n (step p l r) e))
    (λ (o : RanOutOfFuel (step p l r) ⊎ RanOutOfFuel (step p k r)). inr (⊎_elim (λ u. inl (out_stays p l n (step p l r) u)) (λ u. inr (out_stays p k n (step p k r) u)) o))
    (step_alike p l k e r.progress r.charged)
