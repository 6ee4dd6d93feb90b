-- `count_row` adds up the cells of a row: at the loop's head the number is the length of the cells passed. Assumes nothing.
use mathlib.Core.Path.{◌≡◌, refl, ap, ◌∙◌}
use Prim.Native.Nat.{ℕ}
use native.Mathlib.Omega.{arith}
use lib.ListN.{length}
use Rattle.sums.specs.Counting.{each}
use Rattle.model.specs.Record.{job_of}
use Rattle.line.specs.Groups.{text_group}
use Rattle.writing.specs.Writer.{cell_text, row_text}
use Rattle.writing.proofs.Counted.{each-length}
use Rattle.writing.proofs.count.count_row.Goals as goal

pub loop-column-init : goal.loop-column-init
unfolding each
loop-column-init c = (omega arith, refl, omega arith)

pub loop-column-preserved : goal.loop-column-preserved
loop-column-preserved c =
    let l = c.loop-column in
    let a = c.args in (
      omega arith,
      omega (arith, l.invariant.1, c.count_cell-n.ensures.0, each-length l.column (cell_text (job_of a.rec.now) (text_group a.group) a.row)),
      omega (arith, c.count_cell-n.ensures.1),
    )

pub returns : goal.returns
unfolding row_text
returns c =
    let l = c.loop-column in
    let a = c.args in
    let e : l.column ≡ c.columns-columns.result = omega arith in (
      l.invariant.1 ∙ ap (λ (n : ℕ). length (each n (cell_text (job_of a.rec.now) (text_group a.group) a.row))) (e ∙ c.columns-columns.ensures.0),
      omega (arith, c.columns-columns.ensures.1),
    )
