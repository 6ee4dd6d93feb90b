-- `count_side` counts the line, if the side of the cell has a value in the group. Assumes nothing.
use mathlib.Core.Path.{sym, ap, ◌∙◌}
use native.Mathlib.Omega.{arith}
use lib.ListN.{length}
use Rattle.model.specs.Record.{job_of}
use Rattle.line.specs.Groups.{text_group}
use Rattle.writing.proofs.Counted.{side-some, side-none}
use Rattle.writing.proofs.count.count_side.Goals as goal

pub returns-then-value-gt0 : goal.returns-then-value-gt0
returns-then-value-gt0 c =
    let a = c.args in (
      c.count_line.ensures.0 a.side
          ∙ sym (ap length (side-some (job_of a.rec.now) (text_group a.group) a.row a.column a.side _ c.value_in-value.ensures c.if-value-gt0.true)),
      c.count_line.ensures.1,
    )

pub returns-else-value-gt0 : goal.returns-else-value-gt0
returns-else-value-gt0 c =
    let a = c.args in (
      sym (ap length (side-none (job_of a.rec.now) (text_group a.group) a.row a.column a.side _ c.value_in-value.ensures c.if-value-gt0.false)),
      omega arith,
    )
