-- `takeout::mark_place` meets its contract. The loop's invariant: the pins of the wires that come by the slots before the k-th are marked. The five slots are
use mathlib.Core.Path.{◌∙◌}
use native.Mathlib.Omega.{arith}
use Rattle.takeout.specs.Marks.{slots-more, slots-all}
use Rattle.takeout.proofs.mark_place.Goals as goal

pub loop-k-preserved : goal.loop-k-preserved
loop-k-preserved c =
    let l = c.loop-k in (
      c.mark_slot.auto.taken ∙ l.invariant.0,
      slots-more c.args.was.now c.requires.0 c.args.u l.k _ _ _ l.invariant.1 c.mark_slot.ensures,
    )

pub returns : goal.returns
returns c =
    let l = c.loop-k in
    slots-all c.args.was.now c.requires.0 c.args.u l.k _ _ (omega arith) l.invariant.1
