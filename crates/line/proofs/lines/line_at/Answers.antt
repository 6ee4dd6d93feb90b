-- The line of the group whose opening stands there, the end line where none does, or none. Assumes nothing.
use Rattle.std.proofs.Common.{sym, ap, ◌∙◌, List, ◌++◌, ℕ, drop, below_more, arith}
use Rattle.line.proofs.Lined.{line-group, line-group-none, line-end, line-none}
use Rattle.line.proofs.lines.line_at.Goals as goal

pub returns-in_err-rest : goal.returns-in_err-rest
returns-in_err-rest c =
    let a = c.args in
    let n = c.in-Some.behind in
    rw c.from_residual.ensures
    (line-group-none a.text.now a.at _ n
    (c.in-Some.ensures.1 ∙ ap (λ (w : List ℕ). w ++ drop n a.text.now) c.opening.ensures) c.in_err-rest.ensures)

pub returns-in-Some : goal.returns-in-Some
returns-in-Some c =
    let a = c.args in
    let n = c.in-Some.behind in
    line-group a.text.now a.at _ n
    (c.in-Some.ensures.1 ∙ ap (λ (w : List ℕ). w ++ drop n a.text.now) c.opening.ensures) c.in_ok-rest.rest c.in_ok-rest.ensures

pub loop-group-preserved : goal.loop-group-preserved
loop-group-preserved c =
    below_more _ _ c.loop-group.invariant (λ Z q. c.in_default.ensures Z (q ∙ ap (λ (w : List ℕ). w ++ Z) (sym c.opening.ensures)))

pub returns-in_err-next : goal.returns-in_err-next
returns-in_err-next c =
    let a = c.args in
    rw c.from_residual-in_err-next.ensures (line-none a.text.now a.at (λ i l. c.loop-group.invariant i (omega arith)) c.in_err-next.ensures)

pub returns : goal.returns
returns c = (c.in_ok-next.ensures.0, line-end c.args.text.now c.args.at c.in_ok-next.next c.in_ok-next.ensures.1)
