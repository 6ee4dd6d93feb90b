-- `opened` reads the array line and makes the tests of `admit`. Assumes nothing.
use mathlib.Core.Path.{sym, ap, ◌∙◌}
use mathlib.Core.Bool.{Bool, ◌&&◌}
use lib.ListN.{drop}
use Rattle.model.specs.Job.{array_fits, caps_admitted}
use Rattle.text.proofs.Standing.{open-wrong, open-refused, and-false}
use Rattle.text.proofs.reader.opened.Goals as goal

pub returns-in_err-opening : goal.returns-in_err-opening
returns-in_err-opening c = rw c.from_residual.ensures (open-wrong c.args.text.now c.in_err-opening.ensures)

pub returns-then-not-fits : goal.returns-then-not-fits
returns-then-not-fits c =
    let t = c.args.text.now in
    let p = c.in_ok-opening.opening in
    let a = p.value.array in
    let k = p.value.capacities in
    open-refused t a.rows a.columns k.orthogonal k.diagonal k.extra (drop p.next t) c.in_ok-opening.ensures.2
    (ap (λ (b : Bool). b && caps_admitted k.orthogonal k.diagonal k.extra) (sym c.fits.ensures ∙ c.if-not-fits.true))

pub returns-then-not-admitted : goal.returns-then-not-admitted
returns-then-not-admitted c =
    let t = c.args.text.now in
    let p = c.in_ok-opening.opening in
    let a = p.value.array in
    let k = p.value.capacities in
    open-refused t a.rows a.columns k.orthogonal k.diagonal k.extra (drop p.next t) c.in_ok-opening.ensures.2
    (ap (λ (b : Bool). array_fits a.rows a.columns && b) (sym c.admitted.ensures ∙ c.if-not-admitted.true) ∙ and-false (array_fits a.rows a.columns))
