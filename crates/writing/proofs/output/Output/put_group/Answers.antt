-- `put_group` puts the rows: at the loop's head those passed are put. Assumes nothing.
use mathlib.Core.Path.{◌≡◌, ap, ◌∙◌}
use Prim.Native.Nat.{ℕ, ◌<◌}
use native.Mathlib.Omega.{arith}
use Rattle.sums.specs.Counting.{each}
use Rattle.model.specs.Record.{job_of}
use Rattle.line.specs.Groups.{text_group}
use Rattle.writing.specs.Writer.{row_text}
use Rattle.writing.proofs.Counted.{group-rows}
use Rattle.writing.proofs.Placed.{appends_none, appends-as, appends-each, room_as, fits-each}
use Rattle.writing.proofs.output.Output.put_group.Goals as goal

pub loop-row-init : goal.loop-row-init
unfolding each
loop-row-init c = (omega arith, appends_none)

pub put_row-requires-clause-room : goal.put_row-requires-clause-room
put_row-requires-clause-room c =
    let l = c.loop-row in
    let J = job_of c.args.rec.now in
    let m : l.row < J.rows = omega (arith, c.loop-row-test.true, c.rows-row-end.ensures.0) in
    fits-each J.rows l.row (row_text J (text_group c.args.group)) m l.invariant.1
    (room_as (group-rows J (text_group c.args.group)) c.requires.room)

pub loop-row-preserved : goal.loop-row-preserved
loop-row-preserved c =
    let a = c.args in
    (omega arith, appends-each c.loop-row.row (row_text (job_of a.rec.now) (text_group a.group)) c.loop-row.invariant.1 c.put_row.ensures)

pub returns : goal.returns
returns c =
    let l = c.loop-row in
    let a = c.args in
    let e : l.row ≡ c.rows-row-end.result = omega arith in
    appends-as l.invariant.1 (ap (λ (n : ℕ). each n (row_text (job_of a.rec.now) (text_group a.group))) (e ∙ c.rows-row-end.ensures.0)
    ∙ group-rows (job_of a.rec.now) (text_group a.group))
