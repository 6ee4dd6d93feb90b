-- `count_groups` adds up the groups: at the loop's head the number is the length of the groups passed. Assumes nothing.
use mathlib.Core.Path.{refl, ap}
use native.Mathlib.Omega.{arith}
use Prim.Native.Nat.{◌+◌}
use lib.ListN.{length}
use Rattle.sums.specs.Counting.{each}
use Rattle.model.specs.Record.{job_of}
use Rattle.model.specs.Text.{Group, group_text, group_of}
use Rattle.writing.specs.Writer.{groups_text}
use Rattle.writing.proofs.Counted.{each-length, in-order}
use Rattle.writing.proofs.count.count_groups.Goals as goal

pub loop-group-init : goal.loop-group-init
unfolding groups_text each
loop-group-init c = (omega arith, refl, omega arith)

pub loop-group-preserved : goal.loop-group-preserved
unfolding groups_text
loop-group-preserved c =
    let l = c.loop-group in
    let J = job_of c.args.rec.now in (
      omega arith,
      omega (
        arith,
        l.invariant.1,
        c.count_group-n.ensures.0,
        ap (λ (g : Group). length (group_text J g)) (in-order l.group-index (omega arith)),
        each-length l.group-index (λ k. group_text J (group_of (2 + k))),
      ),
      omega (arith, c.count_group-n.ensures.1),
    )
