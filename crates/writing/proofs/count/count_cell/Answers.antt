-- `count_cell` adds up the sides of a cell: at the loop's head the number is the length of the sides passed. Assumes nothing.
use mathlib.Core.Path.{◌≡◌, refl, ap, ◌∙◌}
use Prim.Native.Nat.{ℕ}
use native.Mathlib.Omega.{arith}
use lib.ListN.{length}
use Rattle.sums.specs.Counting.{each}
use Rattle.model.specs.Record.{job_of}
use Rattle.line.specs.Groups.{text_group}
use Rattle.writing.specs.Writer.{side_text, cell_text}
use Rattle.writing.proofs.Counted.{each-length}
use Rattle.writing.proofs.count.count_cell.Goals as goal

pub loop-side-init : goal.loop-side-init
unfolding each
loop-side-init c = (omega arith, refl, omega arith)

pub loop-side-preserved : goal.loop-side-preserved
loop-side-preserved c =
    let l = c.loop-side in
    let a = c.args in (
      omega arith,
      omega (arith, l.invariant.1, c.count_side-n.ensures.0, each-length l.side (side_text (job_of a.rec.now) (text_group a.group) a.row a.column)),
      omega (arith, c.count_side-n.ensures.1),
    )

pub returns : goal.returns
unfolding cell_text
returns c =
    let l = c.loop-side in
    let a = c.args in
    let e : l.side ≡ 4 = omega arith in
    (l.invariant.1 ∙ ap (λ (n : ℕ). length (each n (side_text (job_of a.rec.now) (text_group a.group) a.row a.column))) e, omega arith)
