use Rattle.std.proofs.Common.{◌≡◌, ℕ, List, sym, refl, ap, ◌∙◌, arith}
use Rattle.std.proofs.lemmas.Bool.{eq-eqb, ne_eqb}
use Rattle.layout.specs.Layout.{records}
use Rattle.layout.specs.declared.section.Section.{Section}
use Rattle.layout.proofs.EachBelow.{each_more, stops_at, runs_out}
use Rattle.rules.specs.Rules.{keeps, owned_in, section_owned}
use Rattle.rules.specs.declared.Owned.{Owned}
use Rattle.rules.specs.declared.Rule.TheVariants.{Owner}
use Rattle.causes.proofs.Tallies.{scan_none, turn}
use Rattle.causes.proofs.headed.Headed.first_not_owned_once.Goals as goal

count_is : (b : List ℕ) (o : Owned) (s : Section) (n : ℕ) → s ≡ section_owned o → n ≡ records b s → n ≡ owned_in b o
count_is b o s n e h = h ∙ ap (records b) e

pub loop-number-init : goal.loop-number-init
loop-number-init c = record { owned_once = refl; scanned = scan_none c.args.self.layout.bytes.now c.args.owned }

pub overflow_add-owners : goal.overflow_add-owners
overflow_add-owners c =
    let t =
    turn c.args.self.layout.bytes.now c.args.owned c.loop-number.number c.count-number-end.result c.loop-number.owners c.tally-tally.result _
    c.args.self.right (count_is _ _ _ _ c.section.ensures c.count-number-end.ensures) c.loop-number-test.true refl c.loop-number.invariant.scanned
    c.tally-tally.ensures.starts c.tally-tally.ensures.ends in
    omega (arith, t.fits)

pub overflow_sub-owners : goal.overflow_sub-owners
overflow_sub-owners c =
    let t =
    turn c.args.self.layout.bytes.now c.args.owned c.loop-number.number c.count-number-end.result c.loop-number.owners c.tally-tally.result _
    c.args.self.right (count_is _ _ _ _ c.section.ensures c.count-number-end.ensures) c.loop-number-test.true refl c.loop-number.invariant.scanned
    c.tally-tally.ensures.starts c.tally-tally.ensures.ends in
    t.covers

pub returns-then-owners-ne1 : goal.returns-then-owners-ne1
returns-then-owners-ne1 c =
    let t =
    turn c.args.self.layout.bytes.now c.args.owned c.loop-number.number c.count-number-end.result c.loop-number.owners c.tally-tally.result _
    c.args.self.right (count_is _ _ _ _ c.section.ensures c.count-number-end.ensures) c.loop-number-test.true refl c.loop-number.invariant.scanned
    c.tally-tally.ensures.starts c.tally-tally.ensures.ends in
    stops_at (keeps c.args.self.layout.bytes.now (Owner c.args.owned)) c.count-number-end.result _ c.loop-number.number
    (count_is _ _ _ _ c.section.ensures c.count-number-end.ensures) c.loop-number-test.true c.loop-number.invariant.owned_once
    (ne_eqb _ 1 (λ e. c.if-owners-ne1.true (t.is ∙ e)))

pub loop-number-preserved : goal.loop-number-preserved
loop-number-preserved c =
    let t =
    turn c.args.self.layout.bytes.now c.args.owned c.loop-number.number c.count-number-end.result c.loop-number.owners c.tally-tally.result _
    c.args.self.right (count_is _ _ _ _ c.section.ensures c.count-number-end.ensures) c.loop-number-test.true refl c.loop-number.invariant.scanned
    c.tally-tally.ensures.starts c.tally-tally.ensures.ends in
    record {
      owned_once = each_more (keeps c.args.self.layout.bytes.now (Owner c.args.owned)) c.loop-number.number
          c.loop-number.invariant.owned_once (eq-eqb _ 1 (sym t.is ∙ c.if-owners-ne1.false));
      scanned = t.next;
    }

pub returns : goal.returns
returns c =
    runs_out (keeps c.args.self.layout.bytes.now (Owner c.args.owned)) c.count-number-end.result _ c.loop-number.number
    (count_is _ _ _ _ c.section.ensures c.count-number-end.ensures) c.loop-number-test.false c.loop-number.invariant.owned_once
