-- The two numbers, the tail and the end of a group's line in turn. Assumes nothing.
use Rattle.line.proofs.Lined.{rest-no-tail, rest-wrong}
use Rattle.line.proofs.lines.rest_at.Goals as goal

pub returns-in_err-tail : goal.returns-in_err-tail
returns-in_err-tail c =
    let a = c.args in
    rw c.from_residual-in_err-tail.ensures
    (rest-no-tail a.text.now a.at a.group c.in_ok-cell.cell (rw c.stop.ensures at c.in_ok-cell.ensures) c.in_err-tail.ensures)

pub returns-in_err-next : goal.returns-in_err-next
returns-in_err-next c =
    let a = c.args in
    rw c.from_residual-in_err-next.ensures
    (rest-wrong a.text.now a.at a.group c.in_ok-cell.cell (rw c.stop.ensures at c.in_ok-cell.ensures) c.in_ok-tail.tail c.in_ok-tail.ensures
    c.in_err-next.ensures)
