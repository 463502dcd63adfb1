-- No two kinds have one number, and no kind's number is left out.
use Rattle.std.proofs.Common.{◌≡◌, ℕ, true, false, eqb, List, [], ◌∷◌, slice_index_or, ⊎_elim, sym, refl, ap, ◌∙◌}
use Rattle.std.proofs.lemmas.Bool.{eq-eqb, ne_eqb, cases_eq, both_ways}
use denote.Enum.Bare.{sameb, true_same, false_same}
use Rattle.instruction.specs.contracts.kind.Kind.{the_type}
use Rattle.instruction.specs.Kinds.{kind_number, operands, fields_of}
use Rattle.instruction.specs.Kinds.Operands.{left_out}
use Rattle.instruction.specs.Allowed.{uses}
use Rattle.instruction.specs.declared.kind.Kind.{Kind}
use Rattle.instruction.specs.declared.kind.Kind.TheVariants.{EmitRaw, StoreLocal, Lookup, GetAttr, GetItem, LoadConst, BuildList, Add, Sub, Mul, Div, IntDiv, Rem, Pow, Neg, Eq, Ne, Gt, Gte, Lt, Lte, Not, StringConcat, In, ApplyFilter, PerformTest, Emit, PushLoop, PushWith, Iterate, PushDidNotIterate, PopFrame, PopLoopFrame, Jump, JumpIfFalse, JumpIfFalseOrPop, JumpIfTrueOrPop, BeginCapture, EndCapture, CallFunction, DupTop, DiscardTop, FastSuper, FastRecurse, Swap, CallBlock, LoadBlocks}

-- the kinds by their numbers; EmitRaw fills the gaps
abbrev row : List Kind
row = EmitRaw ∷ StoreLocal ∷ Lookup ∷ GetAttr ∷ EmitRaw ∷ GetItem ∷ EmitRaw ∷ LoadConst ∷ EmitRaw ∷ EmitRaw ∷ EmitRaw ∷ BuildList ∷ EmitRaw ∷ EmitRaw ∷ EmitRaw ∷ Add ∷ Sub ∷ Mul ∷ Div ∷ IntDiv ∷ Rem ∷ Pow ∷ Neg ∷ Eq ∷ Ne ∷ Gt ∷ Gte ∷ Lt ∷ Lte ∷ Not ∷ StringConcat ∷ In ∷ EmitRaw ∷ ApplyFilter ∷ PerformTest ∷ Emit ∷ PushLoop ∷ PushWith ∷ Iterate ∷ PushDidNotIterate ∷ PopFrame ∷ PopLoopFrame ∷ Jump ∷ JumpIfFalse ∷ JumpIfFalseOrPop ∷ JumpIfTrueOrPop ∷ EmitRaw ∷ EmitRaw ∷ BeginCapture ∷ EndCapture ∷ CallFunction ∷ EmitRaw ∷ EmitRaw ∷ DupTop ∷ DiscardTop ∷ FastSuper ∷ FastRecurse ∷ Swap ∷ CallBlock ∷ LoadBlocks ∷ []

known : (k : Kind) → (slice_index_or row (kind_number k) EmitRaw ≡ k) × ((uses (fields_of (operands (kind_number k)))).allowed ≡ true)
known EmitRaw = (refl, refl)
known StoreLocal = (refl, refl)
known Lookup = (refl, refl)
known GetAttr = (refl, refl)
known GetItem = (refl, refl)
known LoadConst = (refl, refl)
known BuildList = (refl, refl)
known Add = (refl, refl)
known Sub = (refl, refl)
known Mul = (refl, refl)
known Div = (refl, refl)
known IntDiv = (refl, refl)
known Rem = (refl, refl)
known Pow = (refl, refl)
known Neg = (refl, refl)
known Eq = (refl, refl)
known Ne = (refl, refl)
known Gt = (refl, refl)
known Gte = (refl, refl)
known Lt = (refl, refl)
known Lte = (refl, refl)
known Not = (refl, refl)
known StringConcat = (refl, refl)
known In = (refl, refl)
known ApplyFilter = (refl, refl)
known PerformTest = (refl, refl)
known Emit = (refl, refl)
known PushLoop = (refl, refl)
known PushWith = (refl, refl)
known Iterate = (refl, refl)
known PushDidNotIterate = (refl, refl)
known PopFrame = (refl, refl)
known PopLoopFrame = (refl, refl)
known Jump = (refl, refl)
known JumpIfFalse = (refl, refl)
known JumpIfFalseOrPop = (refl, refl)
known JumpIfTrueOrPop = (refl, refl)
known BeginCapture = (refl, refl)
known EndCapture = (refl, refl)
known CallFunction = (refl, refl)
known DupTop = (refl, refl)
known DiscardTop = (refl, refl)
known FastSuper = (refl, refl)
known FastRecurse = (refl, refl)
known Swap = (refl, refl)
known CallBlock = (refl, refl)
known LoadBlocks = (refl, refl)

same_number : (j k : Kind) → kind_number j ≡ kind_number k → j ≡ k
same_number j k e = sym (known j).0 ∙ ap (λ n. slice_index_or row n EmitRaw) e ∙ (known k).0

pub allowed_number : (n : ℕ) (k : Kind) → operands n ≡ left_out → eqb n (kind_number k) ≡ false
allowed_number n k o =
    ne_eqb n (kind_number k)
    (λ (e : n ≡ kind_number k). both_ways (uses (fields_of (operands (kind_number k)))).allowed
    (ap (λ m. (uses (fields_of (operands m))).allowed) (sym e) ∙ ap (λ p. (uses (fields_of p)).allowed) o) (known k).1)

-- the kind that a number has, compared with one
pub same_kind : (n : ℕ) (j k : Kind) → kind_number j ≡ n → sameb the_type j k ≡ eqb n (kind_number k)
same_kind n j k e =
    ⊎_elim
    (λ (s : n ≡ kind_number k). true_same the_type j k (same_number j k (e ∙ s)) ∙ sym (eq-eqb n (kind_number k) s))
    (λ (d : n ≡ kind_number k → ⊥). false_same the_type tt j k (λ (s : j ≡ k). d (sym e ∙ ap kind_number s)) ∙ sym (ne_eqb n (kind_number k) d))
    (cases_eq n (kind_number k))
