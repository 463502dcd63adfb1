-- What a host answers to each call, and what it means after it.
use Rattle.std.specs.Prelude.{◌≡◌, ℕ, Bool, true, cond, ◌&&◌, List, [], ◌∷◌, length, take, ℤ, Some, None, Ok, Err, Option, Result, nat_le, nat_lt}
use Rattle.hosts.specs.Meaning.{Given, fault, given, Meaning, room, grown}
use Rattle.hosts.specs.declared.Refusal.{Refusal}
use Rattle.hosts.specs.declared.Refusal.TheVariants.{Fault, Full}
use Rattle.hosts.specs.declared.Unary.{Unary}
use Rattle.hosts.specs.declared.Binary.{Binary}

-- A fault comes before a limit; either leaves the host as it was.
abbrev pub answer : Meaning → Given → Result ℕ Refusal
answer m (fault n) = Err (Fault n)
answer m (given vs k) = cond (room m vs) (Ok k) (Err Full)

abbrev pub after : Meaning → Given → Meaning
after m (fault n) = m
after m (given vs k) = cond (room m vs) (grown m vs) m

-- A call for which the rules give this: what it answers, and what the host means after it.
pub record Gives (old new : Meaning) (g : Given) (result : Result ℕ Refusal) : Type 0 where
  pub answers : result ≡ answer old g
  pub leaves : new ≡ after old g

-- whether all these codes are places in the list
abbrev pub inside : Meaning → List ℕ → Bool
inside m [] = true
inside m (k ∷ ks) = nat_lt k (length m.values) && inside m ks

-- a rule that is asked with a code outside the list is a fault
abbrev pub asked : Meaning → List ℕ → Given → Given
asked m ks g = cond (inside m ks) g (fault m.rules.outside)

abbrev pub read : {A : Type 0} → Meaning → List ℕ → Result A ℕ → Result A ℕ
read m ks r = cond (inside m ks) r (Err m.rules.outside)

-- the answer of a rule that adds nothing
abbrev pub plainly : {A : Type 0} → Result A ℕ → Result A Refusal
plainly (Ok x) = Ok x
plainly (Err n) = Err (Fault n)

-- a name that nothing was stored under finds nothing
abbrev pub found : Meaning → Option Given → Result (Option ℕ) Refusal
found m None = Ok None
found m (Some (fault n)) = Err (Fault n)
found m (Some (given vs k)) = cond (room m vs) (Ok (Some k)) (Err Full)

abbrev pub after_found : Meaning → Option Given → Meaning
after_found m None = m
after_found m (Some g) = after m g

-- What each call asks of the rules.
abbrev pub looks_up : Meaning → List ℕ → Option Given
looks_up m name = m.rules.lookup m.values name

abbrev pub gets_attr : Meaning → ℕ → List ℕ → Given
gets_attr m k name = asked m (k ∷ []) (m.rules.get_attr m.values k name)

abbrev pub gets_item : Meaning → ℕ → ℕ → Given
gets_item m k key = asked m (k ∷ key ∷ []) (m.rules.get_item m.values k key)

abbrev pub counts : Meaning → ℕ → Result ℕ ℕ
counts m k = read m (k ∷ []) (m.rules.count m.values k)

abbrev pub iterates : Meaning → ℕ → ℕ → Given
iterates m k i = asked m (k ∷ []) (m.rules.item m.values k i)

abbrev pub truth : Meaning → ℕ → Result Bool ℕ
truth m k = read m (k ∷ []) (m.rules.is_true m.values k)

abbrev pub shows : Meaning → ℕ → Result (List ℕ) ℕ
shows m k = read m (k ∷ []) (m.rules.show m.values k)

abbrev pub text_test : Meaning → ℕ → Result Bool ℕ
text_test m k = read m (k ∷ []) (Ok (m.rules.is_text m.values k))

abbrev pub makes_integer : Meaning → ℤ → Given
makes_integer m z = m.rules.make_integer m.values z

abbrev pub makes_text : Meaning → List ℕ → Given
makes_text m t = m.rules.make_text m.values t

abbrev pub makes_list : Meaning → List ℕ → Given
makes_list m ks = asked m ks (m.rules.make_list m.values ks)

abbrev pub unary_gives : Meaning → Unary → ℕ → Given
unary_gives m op k = asked m (k ∷ []) (m.rules.unary op m.values k)

abbrev pub binary_gives : Meaning → Binary → ℕ → ℕ → Given
binary_gives m op j k = asked m (j ∷ k ∷ []) (m.rules.binary op m.values j k)

abbrev pub filters : Meaning → List ℕ → List ℕ → Given
filters m name ks = asked m ks (m.rules.filter name m.values ks)

abbrev pub tests : Meaning → List ℕ → List ℕ → Result Bool ℕ
tests m name ks = read m ks (m.rules.test name m.values ks)

abbrev pub calls : Meaning → ℕ → List ℕ → Given
calls m k ks = asked m (k ∷ ks) (m.rules.call m.values k ks)

-- A text as it was written to the beginning of what was lent: how many bytes, and which. What lies behind them is any
-- bytes, and so is all of it where the text is longer or there is none.
pub data Shown : Type 0 where
  written : ℕ → List ℕ → Shown
  longer : Shown
  refused : Refusal → Shown

abbrev pub shown : Result (Option ℕ) Refusal → List ℕ → Shown
shown (Ok (Some n)) out = written n (take n out)
shown (Ok None) out = longer
shown (Err f) out = refused f

-- a text that is to be written into so many bytes
abbrev pub fitted : ℕ → Result (List ℕ) ℕ → Shown
fitted space (Ok t) = cond (nat_le (length t) space) (written (length t) t) longer
fitted space (Err n) = refused (Fault n)
