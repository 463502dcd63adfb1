-- Instructions that no path reaches have no part in whether a code stands.
use Rattle.std.proofs.Common.{◌≡◌, ℕ, ◌<◌, List, length, None, sym, subst, arith}
use Rattle.layout.specs.Layout.{records}
use Rattle.layout.specs.declared.section.Section.TheVariants.{Codes}
use Rattle.standing.specs.declared.shape.Shape.{Shape}
use Rattle.standing.specs.Standing.{Standing, broken, next, other, next_place, other_place}
use Rattle.standing.specs.Paths.{shape_at, Reach, Stands}
use Rattle.standing.specs.Paths.Reach.{begin, on, off}
use Rattle.opening.specs.Opening.{code_shapes, UnreachedInstructionsDoNotMatter}

-- two codes that are alike wherever a path of the first reaches have the same paths
module _ (c d : List Shape) (long : length c ≡ length d) (alike : (k : ℕ) (s : Standing) → Reach c k s → shape_at c k ≡ shape_at d k) where
  there : {k : ℕ} {s : Standing} → Reach c k s → Reach d k s
  there begin = begin
  there (on {i} {s} r l m) =
      let e : shape_at c i ≡ shape_at d i = alike i s r in
      subst (λ (x : Shape). Reach d (next_place x i) (next x i s)) (sym e)
      (on (there r) (omega (arith, long)) (subst (λ (x : Shape). broken x s ≡ None) e m))
  there (off {i} {s} r l m) =
      let e : shape_at c i ≡ shape_at d i = alike i s r in
      subst (λ (x : Shape). Reach d (other_place x i) (other x i s)) (sym e)
      (off (there r) (omega (arith, long)) (subst (λ (x : Shape). broken x s ≡ None) e m))

  back : {k : ℕ} {s : Standing} → Reach d k s → Reach c k s
  back begin = begin
  back (on {i} {s} r l m) =
      let q = back r in
      let e : shape_at c i ≡ shape_at d i = alike i s q in
      subst (λ (x : Shape). Reach c (next_place x i) (next x i s)) e
      (on q (omega (arith, long)) (subst (λ (x : Shape). broken x s ≡ None) (sym e) m))
  back (off {i} {s} r l m) =
      let q = back r in
      let e : shape_at c i ≡ shape_at d i = alike i s q in
      subst (λ (x : Shape). Reach c (other_place x i) (other x i s)) e
      (off q (omega (arith, long)) (subst (λ (x : Shape). broken x s ≡ None) (sym e) m))

  forward : Stands c → Stands d
  forward h = record {
    same = λ i s t r q. h.same i s t (back r) (back q);
    fine = λ i s r l. subst (λ (x : Shape). broken x s ≡ None) (alike i s (back r)) (h.fine i s (back r) (omega (arith, long)));
    inside = λ i s r. omega (arith, h.inside i s (back r), long);
    small = λ i s r. h.small i s (back r);
    ended = λ s r. h.ended s (subst (λ n. Reach c n s) (sym long) (back r));
  }

  backward : Stands d → Stands c
  backward h = record {
    same = λ i s t r q. h.same i s t (there r) (there q);
    fine = λ i s r l. subst (λ (x : Shape). broken x s ≡ None) (sym (alike i s r)) (h.fine i s (there r) (omega (arith, long)));
    inside = λ i s r. omega (arith, h.inside i s (there r), long);
    small = λ i s r. h.small i s (there r);
    ended = λ s r. h.ended s (subst (λ n. Reach d n s) long (there r));
  }

pub unreached : (b : List ℕ) → UnreachedInstructionsDoNotMatter b
unreached b c h = (
  λ all i l.
      let m : i < records b Codes = omega (arith, h.number) in
      forward (code_shapes b i) (code_shapes c i) (h.long i m) (h.alike i m) (all i m),
  λ all i l. backward (code_shapes b i) (code_shapes c i) (h.long i l) (h.alike i l) (all i (omega (arith, h.number))),
)
