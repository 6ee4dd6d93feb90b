-- The array line part by part. Assumes nothing.
use Rattle.line.proofs.Lined.{array-no-word, array-no-pins, array-no-caps, array-no-o, array-no-others, array-no-end, array-is}
use Rattle.line.proofs.lines.array_at.Goals as goal

pub returns-in_err-pins : goal.returns-in_err-pins
returns-in_err-pins c = rw c.from_residual.ensures (array-no-word c.args.text.now c.in_err-pins.ensures)

pub returns-in_err-size : goal.returns-in_err-size
returns-in_err-size c =
    rw c.from_residual-in_err-size.ensures (array-no-pins c.args.text.now _ c.in_ok-pins.ensures c.in_err-size.ensures)

pub returns-in_err-caps : goal.returns-in_err-caps
returns-in_err-caps c =
    rw c.from_residual-in_err-caps.ensures
    (array-no-caps c.args.text.now _ c.in_ok-pins.ensures _ c.in_ok-size.ensures c.in_err-caps.ensures)

pub returns-in_err-orthogonal : goal.returns-in_err-orthogonal
returns-in_err-orthogonal c =
    rw c.from_residual-in_err-orthogonal.ensures
    (array-no-o c.args.text.now _ c.in_ok-pins.ensures _ c.in_ok-size.ensures _ c.in_ok-caps.ensures c.in_err-orthogonal.ensures)

pub returns-in_err-others : goal.returns-in_err-others
returns-in_err-others c =
    rw c.from_residual-in_err-others.ensures
    (array-no-others c.args.text.now _ c.in_ok-pins.ensures _ c.in_ok-size.ensures _ c.in_ok-caps.ensures _ c.in_ok-orthogonal.ensures
    c.in_err-others.ensures)

pub returns-in_err-next : goal.returns-in_err-next
returns-in_err-next c =
    rw c.from_residual-in_err-next.ensures
    (array-no-end c.args.text.now _ c.in_ok-pins.ensures _ c.in_ok-size.ensures _ c.in_ok-caps.ensures _ c.in_ok-orthogonal.ensures _
    c.in_ok-others.ensures c.in_err-next.ensures)

pub returns : goal.returns
returns c =
    array-is c.args.text.now _ c.in_ok-pins.ensures c.in_ok-size.size c.in_ok-size.ensures _ c.in_ok-caps.ensures c.in_ok-orthogonal.orthogonal
    c.in_ok-orthogonal.ensures c.in_ok-others.others c.in_ok-others.ensures _ c.in_ok-next.ensures
