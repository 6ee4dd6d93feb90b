-- `count_group` adds up the rows: at the loop's head the number is the length of the rows passed. Assumes nothing.
use mathlib.Core.Path.{◌≡◌, refl, ap, ◌∙◌}
use Prim.Native.Nat.{ℕ}
use native.Mathlib.Omega.{arith}
use lib.ListN.{length}
use Rattle.sums.specs.Counting.{each}
use Rattle.model.specs.Record.{job_of}
use Rattle.line.specs.Groups.{text_group}
use Rattle.writing.specs.Writer.{row_text}
use Rattle.writing.proofs.Counted.{each-length, group-rows}
use Rattle.writing.proofs.count.count_group.Goals as goal

pub loop-row-init : goal.loop-row-init
unfolding each
loop-row-init c = (omega arith, refl, omega arith)

pub loop-row-preserved : goal.loop-row-preserved
loop-row-preserved c =
    let l = c.loop-row in
    let a = c.args in (
      omega arith,
      omega (arith, l.invariant.1, c.count_row-n.ensures.0, each-length l.row (row_text (job_of a.rec.now) (text_group a.group))),
      omega (arith, c.count_row-n.ensures.1),
    )

pub returns : goal.returns
returns c =
    let l = c.loop-row in
    let a = c.args in
    let e : l.row ≡ c.rows-rows.result = omega arith in (
      l.invariant.1 ∙ (ap (λ (n : ℕ). length (each n (row_text (job_of a.rec.now) (text_group a.group)))) (e ∙ c.rows-rows.ensures.0)
          ∙ ap length (group-rows (job_of a.rec.now) (text_group a.group))),
      omega (arith, c.rows-rows.ensures.1),
    )
