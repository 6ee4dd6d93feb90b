-- `put_row` puts the cells of a row: at the loop's head those passed are put. Assumes nothing.
use mathlib.Core.Path.{◌≡◌, ap, ◌∙◌}
use Prim.Native.Nat.{ℕ, ◌<◌}
use native.Mathlib.Omega.{arith}
use Rattle.sums.specs.Counting.{each}
use Rattle.model.specs.Record.{job_of}
use Rattle.line.specs.Groups.{text_group}
use Rattle.writing.specs.Writer.{cell_text, row_text}
use Rattle.writing.proofs.Placed.{appends_none, appends-as, appends-each, fits-each}
use Rattle.writing.proofs.output.Output.put_row.Goals as goal

pub loop-column-init : goal.loop-column-init
unfolding each
loop-column-init c = (omega arith, appends_none)

pub put_cell-requires-clause-room : goal.put_cell-requires-clause-room
unfolding row_text
put_cell-requires-clause-room c =
    let l = c.loop-column in
    let J = job_of c.args.rec.now in
    let m : l.column < J.columns = omega (arith, c.loop-column-test.true, c.columns-column-end.ensures.0) in
    fits-each J.columns l.column (cell_text J (text_group c.args.group) c.args.row) m l.invariant.1 c.requires.room

pub loop-column-preserved : goal.loop-column-preserved
loop-column-preserved c =
    let a = c.args in
    (omega arith, appends-each c.loop-column.column (cell_text (job_of a.rec.now) (text_group a.group) a.row) c.loop-column.invariant.1 c.put_cell.ensures)

pub returns : goal.returns
unfolding row_text
returns c =
    let l = c.loop-column in
    let a = c.args in
    let e : l.column ≡ c.columns-column-end.result = omega arith in
    appends-as l.invariant.1 (ap (λ (n : ℕ). each n (cell_text (job_of a.rec.now) (text_group a.group) a.row)) (e ∙ c.columns-column-end.ensures.0))
