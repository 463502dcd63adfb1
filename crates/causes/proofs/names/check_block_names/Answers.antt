use Rattle.std.proofs.Common.{◌≡◌, ℕ, ◌+◌, ◌<◌, Bool, true, false, List, length, Some, None, refl, sym, ap, ◌∙◌, subst, arith, rules}
use Rattle.arrayvec.specs.ArrayVec.{ArrayVec}
use Rattle.std.proofs.lemmas.Bool.{eqb-false}
use Rattle.layout.proofs.EachBelow.{each_more, stops_at, runs_out}
use Rattle.rules.specs.Rules.{keeps}
use Rattle.rules.specs.declared.Rule.TheVariants.{BlockNameLimit}
use Rattle.causes.specs.Tally.{new_among}
use Rattle.causes.proofs.Firsts.{Firsts, firsts_none, limit_passed, limit_kept, limit_still_kept, firsts_more, firsts_same}
use Rattle.causes.proofs.Search.{alone}
use Rattle.causes.proofs.names.check_block_names.Goals as goal
use Rattle.causes.proofs.names.check_block_names.Goals.{then-is_new_among+else-is_full, else-is_new_among}

-- the list as the slice has it
told : (b xs ys : List ℕ) (i : ℕ) (t v : Bool) → xs ≡ ys → t ≡ new_among b xs i → t ≡ v → new_among b ys i ≡ v
told b xs ys i t v e h k = ap (λ zs. new_among b zs i) (sym e) ∙ sym h ∙ k

pub loop-number-init : goal.loop-number-init
loop-number-init c = record { within = refl; firsts = firsts_none c.args.layout.bytes.now _ c.new-firsts.ensures }

pub returns-then-is_full : goal.returns-then-is_full
returns-then-is_full c =
    alone c.args.layout.bytes.now BlockNameLimit (Some c.loop-number.number)
    (stops_at (keeps c.args.layout.bytes.now BlockNameLimit) c.count-number-end.result _ c.loop-number.number
    c.count-number-end.ensures c.loop-number-test.true c.loop-number.invariant.within
    (limit_passed c.args.layout.bytes.now c.loop-number.number c.loop-number.firsts.items c.loop-number.invariant.firsts
    (told c.args.layout.bytes.now _ _ _ c.is_new_among.result true c.as_slice.ensures.value c.is_new_among.ensures c.if-is_new_among.true)
    (search rules)))

pub loop-number-preserved : goal.loop-number-preserved
loop-number-preserved c =
    elim c.if-is_new_among.branch [
      | then-is_new_among+else-is_full w ↦
          let new = told c.args.layout.bytes.now _ _ _ c.is_new_among.result true c.as_slice.ensures.value c.is_new_among.ensures w.if-is_new_among.true in
          let room : length c.loop-number.firsts.items < 32 =
          omega (arith, eqb-false _ 32 (sym w.is_full.ensures.value ∙ w.if-is_full.false), c.loop-number.invariant.firsts.few) in
          record {
            within = each_more (keeps c.args.layout.bytes.now BlockNameLimit) c.loop-number.number c.loop-number.invariant.within
                (limit_kept c.args.layout.bytes.now c.loop-number.number c.loop-number.firsts.items c.loop-number.invariant.firsts new room);
            firsts = subst (Firsts c.args.layout.bytes.now (c.loop-number.number + 1)) (sym (ap (λ (v : ArrayVec ℕ). v.items) w.firsts-is ∙ w.push.ensures.items))
                (firsts_more c.args.layout.bytes.now c.loop-number.number c.loop-number.firsts.items c.loop-number.invariant.firsts new room);
          }
      | else-is_new_among w ↦
          let old = told c.args.layout.bytes.now _ _ _ c.is_new_among.result false c.as_slice.ensures.value c.is_new_among.ensures w.if-is_new_among.false in
          record {
            within = each_more (keeps c.args.layout.bytes.now BlockNameLimit) c.loop-number.number c.loop-number.invariant.within
                (limit_still_kept c.args.layout.bytes.now c.loop-number.number c.loop-number.firsts.items c.loop-number.invariant.firsts old);
            firsts = subst (Firsts c.args.layout.bytes.now (c.loop-number.number + 1)) (sym (ap (λ (v : ArrayVec ℕ). v.items) w.firsts-is))
                (firsts_same c.args.layout.bytes.now c.loop-number.number c.loop-number.firsts.items c.loop-number.invariant.firsts old);
          }
    ]

pub returns : goal.returns
returns c =
    alone c.args.layout.bytes.now BlockNameLimit None
    (runs_out (keeps c.args.layout.bytes.now BlockNameLimit) c.count-number-end.result _ c.loop-number.number
    c.count-number-end.ensures c.loop-number-test.false c.loop-number.invariant.within)
