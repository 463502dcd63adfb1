-- What parts and instructions do to the world: the host grows, and only `write` reaches the sink.
use Rattle.std.proofs.Common.{◌≡◌, ℕ, ◌+◌, ◌-◌, Bool, true, false, cond, ltb, leb, List, [], ◌∷◌, ◌++◌, length, Some, None, Ok, Err, Option, Result, sym, refl, ap, ◌∙◌, append_assoc, append-nil, rules}
use Rattle.hosts.specs.Values.{Value}
use Rattle.hosts.specs.Meaning.{Meaning, Given, fault, given, room, grown}
use Rattle.hosts.specs.Answers.{after, after_found}
use Rattle.hosts.specs.declared.Refusal.{Refusal}
use Rattle.hosts.specs.declared.Refusal.TheVariants.{Fault as Faulty, Full as HostIsFull}
use Rattle.operands.specs.declared.operand.Operand.{Operand}
use Rattle.operands.specs.declared.operand.Operand.TheVariants.{Value as value, Loop as a_loop, Ended as ended}
use Rattle.machine.specs.State.{Frame, Capture, dropped, kept, World, Body}
use Rattle.machine.specs.Parts.{Part, does, bad, stuck, bind, pop_from, pop, pop_all, push, live, plain, plain_all, pop_plain, refused, answered, ask, told, read, push_asked, spell, begin_capture, end_first, push_captured, push_frame}
use Rattle.machine.specs.Laws.{Grown}

pub grown_none : (m : Meaning) → m ≡ grown m []
grown_none m = ap (λ (vs : List Value). record { values = vs; most_values = m.most_values; most_bytes = m.most_bytes; rules = m.rules }) (sym (append-nil m.values))

pub grown_same : (m : Meaning) → Grown m m
grown_same m = record { added = []; is = grown_none m }

grown_twice : (m : Meaning) (vs ws : List Value) → grown (grown m vs) ws ≡ grown m (vs ++ ws)
grown_twice m vs ws = ap (λ (us : List Value). record { values = us; most_values = m.most_values; most_bytes = m.most_bytes; rules = m.rules }) (append_assoc m.values vs ws)

pub grown_on : (l m n : Meaning) → Grown l m → Grown m n → Grown l n
grown_on l m n g h = record { added = g.added ++ h.added; is = h.is ∙ ap (λ x. grown x h.added) g.is ∙ grown_twice l g.added h.added }

after_by : (b : Bool) (m : Meaning) (vs : List Value) → Grown m (cond b (grown m vs) m)
after_by true m vs = record { added = vs; is = refl }
after_by false m vs = grown_same m

pub after_grown : (m : Meaning) (g : Given) → Grown m (after m g)
after_grown m (fault n) = grown_same m
after_grown m (given vs k) = after_by (room m vs) m vs

pub after_found_grown : (m : Meaning) (o : Option Given) → Grown m (after_found m o)
after_found_grown m None = grown_same m
after_found_grown m (Some g) = after_grown m g

-- the host has grown, the sink is as it was
pub record Quietly (v w : World) : Type 0 where
  pub host : Grown v.host w.host
  pub sink : w.sink ≡ v.sink

pub quietly_same : (w : World) → Quietly w w
quietly_same w = record { host = grown_same w.host; sink = refl }

abbrev pub Silent : {A : Type 0} → World → Part A → Type 0
Silent v (does x b) = Quietly v b.world
Silent v (bad f w) = Quietly v w
Silent v stuck = Unit {0}

pub bind_silent : {A B : Type 0} (v : World) (x : Part A) (f : A → Body → Part B) → Silent v x → ((a : A) (b : Body) → Quietly v b.world → Silent v (f a b)) → Silent v (bind x f)
bind_silent v (does a b) f q h = h a b q
bind_silent v (bad n w) f q h = q
bind_silent v stuck f q h = tt

pub either_silent : {A : Type 0} (v : World) (t : Bool) (x y : Part A) → Silent v x → Silent v y → Silent v (cond t x y)
either_silent v true x y p q = p
either_silent v false x y p q = q

module _ (v : World) where
  from_silent : (vs : List Operand) (n : ℕ) (b : Body) → Quietly v b.world → Silent v (pop_from vs n b)
  from_silent [] n b q = tt
  from_silent (x ∷ vs) n b q = search (rules, either_silent)

  pub pop_silent : (n : ℕ) (b : Body) → Quietly v b.world → Silent v (pop n b)
  pop_silent n b q = search (rules, from_silent)

  pub pop_all_silent : (n k : ℕ) (b : Body) → Quietly v b.world → Silent v (pop_all n k b)
  pop_all_silent n k b q = search (rules, either_silent)

  pub push_silent : (x : Operand) (b : Body) → Quietly v b.world → Silent v (push x b)
  push_silent x b q = search (rules, either_silent)

  pub live_silent : (x : Operand) (b : Body) → Quietly v b.world → Silent v (live x b)
  live_silent (value k) b q = q
  live_silent (a_loop n) b q = q
  live_silent ended b q = q

  pub plain_silent : (x : Operand) (b : Body) → Quietly v b.world → Silent v (plain x b)
  plain_silent (value k) b q = q
  plain_silent (a_loop n) b q = q
  plain_silent ended b q = q

  pub plain_all_silent : (vs : List Operand) (b : Body) → Quietly v b.world → Silent v (plain_all vs b)
  plain_all_silent [] b q = q
  plain_all_silent (x ∷ vs) b q = search (rules, bind_silent, plain_silent, plain_all_silent vs)

  pub pop_plain_silent : (n : ℕ) (b : Body) → Quietly v b.world → Silent v (pop_plain n b)
  pop_plain_silent n b q = search (rules, bind_silent, pop_silent, plain_silent)

  pub refused_silent : (A : Type 0) (r : Refusal) (b : Body) → Quietly v b.world → Silent {A = A} v (refused r b)
  refused_silent A (Faulty n) b q = q
  refused_silent A HostIsFull b q = q

  pub quietly_on : (w : World) (m : Meaning) → Quietly v w → Grown w.host m → Quietly v (record { host = m; sink = w.sink })
  quietly_on w m q g = record { host = grown_on _ _ _ q.host g; sink = q.sink }

  answered_silent : (r : Result ℕ Refusal) (m : Meaning) (b : Body) → Quietly v b.world → Grown b.world.host m → Silent v (answered r m b)
  answered_silent (Ok k) m b q g = quietly_on b.world m q g
  answered_silent (Err r) m b q g = search (rules, refused_silent)

  pub ask_silent : (f : Meaning → Given) (b : Body) → Quietly v b.world → Silent v (ask f b)
  ask_silent f b q = search (rules, answered_silent, after_grown)

  told_silent : {A : Type 0} (r : Result A ℕ) (b : Body) → Quietly v b.world → Silent v (told r b)
  told_silent (Ok x) b q = q
  told_silent (Err n) b q = q

  pub read_silent : {A : Type 0} (f : Meaning → Result A ℕ) (b : Body) → Quietly v b.world → Silent v (read f b)
  read_silent f b q = search (rules, told_silent)

  pub push_asked_silent : (f : Meaning → Given) (b : Body) → Quietly v b.world → Silent v (push_asked f b)
  push_asked_silent f b q = search (rules, bind_silent, ask_silent, push_silent)

  pub spell_silent : (k : ℕ) (b : Body) → Quietly v b.world → Silent v (spell k b)
  spell_silent k b q = search (rules, bind_silent, read_silent, either_silent)

  pub begin_capture_silent : (x : Capture) (b : Body) → Quietly v b.world → Silent v (begin_capture x b)
  begin_capture_silent x b q = search (rules, either_silent)

  end_first_silent : (cs : List Capture) (b : Body) → Quietly v b.world → Silent v (end_first cs b)
  end_first_silent [] b q = tt
  end_first_silent (dropped ∷ cs) b q = q
  end_first_silent (kept t ∷ cs) b q = search (rules, ask_silent)

  pub push_captured_silent : (b : Body) → Quietly v b.world → Silent v (push_captured b)
  push_captured_silent b q = search (rules, bind_silent, end_first_silent, push_silent)

  pub push_frame_silent : (n : ℕ) (f : Frame) (b : Body) → Quietly v b.world → Silent v (push_frame n f b)
  push_frame_silent n f b q = search (rules, either_silent)

-- the parts that do not reach the sink
pub ruleset silences = (rules, bind_silent, either_silent, pop_silent, pop_all_silent, push_silent, live_silent, plain_silent, plain_all_silent, pop_plain_silent, ask_silent, read_silent, push_asked_silent, spell_silent, begin_capture_silent, push_captured_silent, push_frame_silent)
