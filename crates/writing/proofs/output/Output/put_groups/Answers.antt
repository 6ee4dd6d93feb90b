-- `put_groups` puts the groups: at the loop's head those passed are put. Assumes nothing.
use mathlib.Core.Path.{ap}
use Prim.Native.Nat.{◌+◌}
use native.Mathlib.Omega.{arith}
use Rattle.sums.specs.Counting.{each}
use Rattle.model.specs.Record.{job_of}
use Rattle.model.specs.Text.{group_text, group_of}
use Rattle.writing.specs.Writer.{groups_text}
use Rattle.writing.proofs.Counted.{in-order}
use Rattle.writing.proofs.Placed.{appends_none, appends-as, appends-each, room_as, fits-each}
use Rattle.writing.proofs.output.Output.put_groups.Goals as goal

pub put_group-requires-clause-room : goal.put_group-requires-clause-room
unfolding groups_text
put_group-requires-clause-room c =
    let l = c.loop-group in
    let J = job_of c.args.rec.now in
    room_as (ap (group_text J) (in-order l.group-index c.loop-group-test.true))
    (fits-each 5 l.group-index (λ k. group_text J (group_of (2 + k))) c.loop-group-test.true l.invariant.1 c.requires.room)

pub loop-group-init : goal.loop-group-init
unfolding groups_text each
loop-group-init c = (omega arith, appends_none)

pub loop-group-preserved : goal.loop-group-preserved
unfolding groups_text
loop-group-preserved c =
    let l = c.loop-group in
    let J = job_of c.args.rec.now in (
      omega arith,
      appends-each l.group-index (λ k. group_text J (group_of (2 + k))) l.invariant.1
          (appends-as c.put_group.ensures (ap (group_text J) (in-order l.group-index c.loop-group-test.true))),
    )
