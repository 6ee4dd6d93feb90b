-- `put_cell` puts the sides of a cell: at the loop's head those passed are put. Assumes nothing.
use mathlib.Core.Path.{◌≡◌, ap}
use Prim.Native.Nat.{ℕ}
use native.Mathlib.Omega.{arith}
use Rattle.sums.specs.Counting.{each}
use Rattle.model.specs.Record.{job_of}
use Rattle.line.specs.Groups.{text_group}
use Rattle.writing.specs.Writer.{side_text, cell_text}
use Rattle.writing.proofs.Placed.{appends_none, appends-as, appends-each, fits-each}
use Rattle.writing.proofs.output.Output.put_cell.Goals as goal

pub loop-side-init : goal.loop-side-init
unfolding each
loop-side-init c = (omega arith, appends_none)

pub put_value-requires-clause-room : goal.put_value-requires-clause-room
unfolding cell_text
put_value-requires-clause-room c =
    let l = c.loop-side in
    let a = c.args in
    let p = c.requires.sized in
    fits-each 4 l.side (side_text (job_of a.rec.now) (text_group a.group) a.row a.column) c.loop-side-test.true l.invariant.1 c.requires.room

pub loop-side-preserved : goal.loop-side-preserved
loop-side-preserved c =
    let l = c.loop-side in
    let a = c.args in
    (omega arith, appends-each l.side (side_text (job_of a.rec.now) (text_group a.group) a.row a.column) l.invariant.1 c.put_value.ensures)

pub returns : goal.returns
unfolding cell_text
returns c =
    let l = c.loop-side in
    let a = c.args in
    let e : l.side ≡ 4 = omega arith in
    appends-as l.invariant.1 (ap (λ (n : ℕ). each n (side_text (job_of a.rec.now) (text_group a.group) a.row a.column)) e)
