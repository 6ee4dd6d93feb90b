-- `pairing::lay_link` meets its contract. The loop's invariant: the first i ends of the link are laid, and no other. Assumes nothing.
use mathlib.Core.Path.{◌≡◌, refl, ap, subst, ◌∙◌}
use Prim.Native.Nat.{ℕ, ◌+◌}
use native.Mathlib.Omega.{arith}
use native.Mathlib.Numerals.{add-one}
use lib.ListN.{length-set}
use Rattle.sums.specs.Counting.{sum}
use Rattle.pairing.specs.Answer.{lanes}
use Rattle.pairing.specs.Slots.{start, start-later}
use Rattle.pairing.specs.Sequence.{Laid, link-end, lay-more}
use Rattle.pairing.proofs.lay_link.Goals as goal

pub loop-i-init : goal.loop-i-init
loop-i-init c =
    let a = c.args in
    let e : a.from ≡ a.from + 0 = omega arith in
    (refl, subst (λ (k : ℕ). Laid (lanes a.around.now.arrive) (lanes a.around.now.depart) k a.ends.now) e c.requires.depart_bound.1)

pub overflow_add-ends : goal.overflow_add-ends
overflow_add-ends c =
    omega (arith, start-later (lanes c.args.around.now.arrive) (lanes c.args.around.now.depart) c.args.slot 5 (omega arith))

pub offset_bounds-ends-from : goal.offset_bounds-ends-from
offset_bounds-ends-from c =
    omega (arith, start-later (lanes c.args.around.now.arrive) (lanes c.args.around.now.depart) c.args.slot 5 (omega arith))

pub bounds-ends-from : goal.bounds-ends-from
bounds-ends-from c =
    omega (arith, start-later (lanes c.args.around.now.arrive) (lanes c.args.around.now.depart) c.args.slot 5 (omega arith))

pub loop-i-preserved : goal.loop-i-preserved
loop-i-preserved c =
    let l = c.loop-i in
    let a = lanes c.args.around.now.arrive in
    let d = lanes c.args.around.now.depart in
    let k = c.args.slot in (
      length-set l.ends (c.args.from + l.i) _ ∙ l.invariant.0,
      lay-more a d (c.args.from + l.i) _ _ l.ends (omega arith) (omega (arith, start-later a d k 5 (omega arith))) l.invariant.1
          (link-end a d k c.args.from c.lanes_at-come.result l.i _ (omega arith) (omega arith) (omega arith) (omega arith) (omega arith) (omega arith)
          c.link_end.ensures),
    )

pub returns : goal.returns
unfolding sum
returns c =
    let l = c.loop-i in
    let a = lanes c.args.around.now.arrive in
    let d = lanes c.args.around.now.depart in
    let e : c.args.from + l.i ≡ c.args.from + (c.lanes_at-come.result + c.lanes_at.result) = omega arith in record {
      value = omega (arith, ap (start a d) (add-one c.args.slot));
      laid = subst (λ (k : ℕ). Laid a d k l.ends) e l.invariant.1;
    }
