-- The standing of an instruction: how many operands there are, and which marks are open. It assumes nothing.
use Rattle.std.specs.Prelude.{ℕ, ◌+◌, ◌-◌, Bool, true, false, cond, List, [], ◌∷◌, Some, None, Option, ◌==◌, nat_le}
use Rattle.layout.specs.Bounded.{first_or}
use Rattle.standing.specs.declared.shape.MarkKind.{MarkKind}
use Rattle.standing.specs.declared.shape.MarkKind.TheVariants.{Scope, Capture, Loop}
use Rattle.standing.specs.declared.shape.Mark.{Mark}
use Rattle.standing.specs.declared.shape.Shape.{Shape}
use Rattle.standing.specs.declared.shape.Shape.TheVariants.{Plain, Inside, Turn, Goto, Branch, Opens, EndsScope, EndsCapture, EndsLoop, Load}
use Rattle.standing.specs.declared.shape.Reason.{Reason}
use Rattle.standing.specs.declared.shape.Reason.TheVariants.{TakesBelow, NoLoop, WrongPartner, ClosesHigher, OpenCapture}

-- the innermost mark is the first
pub record Standing : Type 0 where
  pub height : ℕ
  pub marks : List Mark

abbrev pub stand : ℕ → List Mark → Standing
stand h m = record { height = h; marks = m }

abbrev pub mark : ℕ → MarkKind → ℕ → Mark
mark i k h = record { place = i; kind = k; height = h }

-- operands below this are out of reach: it is where the innermost mark opened
abbrev pub floor : List Mark → ℕ
floor [] = 0
floor (x ∷ m) = x.height

abbrev pub outer : List Mark → List Mark
outer [] = []
outer (x ∷ m) = m

abbrev pub is_scope : MarkKind → Bool
is_scope Scope = true
is_scope Capture = false
is_scope (Loop r) = false

abbrev pub is_capture : MarkKind → Bool
is_capture Scope = false
is_capture Capture = true
is_capture (Loop r) = false

abbrev pub is_loop : MarkKind → Bool
is_loop Scope = false
is_loop Capture = false
is_loop (Loop r) = true

abbrev pub in_loop : List Mark → Bool
in_loop [] = false
in_loop (x ∷ m) = cond (is_loop x.kind) true (in_loop m)

abbrev pub no_capture : List Mark → Bool
no_capture [] = true
no_capture (x ∷ m) = cond (is_capture x.kind) false (no_capture m)

abbrev pub unless : Bool → Reason → Option Reason
unless t r = cond t None (Some r)

-- there are n operands above the innermost mark's height
abbrev pub takes : ℕ → ℕ → ℕ → Option Reason
takes below n height = unless (nat_le (below + n) height) TakesBelow

-- the innermost mark is one that this partner closes; a recursive loop only at the height at which it opened
abbrev pub closes_loop : ℕ → MarkKind → ℕ → Option Reason
closes_loop height Scope opened = Some WrongPartner
closes_loop height Capture opened = Some WrongPartner
closes_loop height (Loop true) opened = unless (height == opened) ClosesHigher
closes_loop height (Loop false) opened = None

abbrev pub closes : (Mark → Option Reason) → List Mark → Option Reason
closes f [] = Some WrongPartner
closes f (x ∷ m) = f x

-- why an instruction cannot stand there, if it cannot
abbrev pub broken : Shape → Standing → Option Reason
broken (Plain n g) s = takes (floor s.marks) n s.height
broken Inside s = unless (in_loop s.marks) NoLoop
broken (Turn t) s = unless (in_loop s.marks) NoLoop
broken (Goto t) s = None
broken (Branch t g) s = takes (floor s.marks) 1 s.height
broken (Opens k n) s = takes (floor s.marks) n s.height
broken EndsScope s = closes (λ x. unless (is_scope x.kind) WrongPartner) s.marks
broken EndsCapture s = closes (λ x. unless (is_capture x.kind) WrongPartner) s.marks
broken EndsLoop s = closes (λ x. closes_loop s.height x.kind x.height) s.marks
broken Load s = first_or (takes (floor s.marks) 1 s.height) (unless (no_capture s.marks) OpenCapture)

abbrev pub leaves : ℕ → ℕ → Standing → Standing
leaves n g s = stand (s.height - n + g) s.marks

-- what the instruction at i leaves where it goes on
abbrev pub next : Shape → ℕ → Standing → Standing
next (Plain n g) i s = leaves n g s
next Inside i s = leaves 0 1 s
next (Turn t) i s = leaves 0 1 s
next (Goto t) i s = s
next (Branch t g) i s = leaves 1 0 s
next (Opens k n) i s = stand (s.height - n) (mark i k (s.height - n) ∷ s.marks)
next EndsScope i s = stand s.height (outer s.marks)
next EndsCapture i s = stand (s.height + 1) (outer s.marks)
next EndsLoop i s = stand s.height (outer s.marks)
next Load i s = leaves 1 0 s

-- what it leaves on its other way, where it has one; else the same
abbrev pub other : Shape → ℕ → Standing → Standing
other (Plain n g) i s = next (Plain n g) i s
other Inside i s = next Inside i s
other (Turn t) i s = s
other (Goto t) i s = s
other (Branch t g) i s = leaves 1 g s
other (Opens k n) i s = next (Opens k n) i s
other EndsScope i s = next EndsScope i s
other EndsCapture i s = next EndsCapture i s
other EndsLoop i s = next EndsLoop i s
other Load i s = next Load i s

-- the two places where it goes on; mostly they are one
abbrev pub next_place : Shape → ℕ → ℕ
next_place (Plain n g) i = i + 1
next_place Inside i = i + 1
next_place (Turn t) i = i + 1
next_place (Goto t) i = t
next_place (Branch t g) i = i + 1
next_place (Opens k n) i = i + 1
next_place EndsScope i = i + 1
next_place EndsCapture i = i + 1
next_place EndsLoop i = i + 1
next_place Load i = i + 1

abbrev pub other_place : Shape → ℕ → ℕ
other_place (Plain n g) i = i + 1
other_place Inside i = i + 1
other_place (Turn t) i = t
other_place (Goto t) i = t
other_place (Branch t g) i = t
other_place (Opens k n) i = i + 1
other_place EndsScope i = i + 1
other_place EndsCapture i = i + 1
other_place EndsLoop i = i + 1
other_place Load i = i + 1
