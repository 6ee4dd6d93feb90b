-- `fits::fits` meets its contract: the test of each row. Assumes nothing.
use Rattle.std.specs.Prelude.{Bool, ◌&&◌, ℕ, length}
use Rattle.std.proofs.Common.{refl, sym, ap, ◌∙◌, rules, tests, eq-eqb}
use Rattle.sums.specs.Tests.{below}
use Rattle.model.specs.Record.{job_of}
use Rattle.model.specs.Sheet.{everywhere, sheet_cell_fits}
use Rattle.sheets.proofs.Below.{all-below}
use Rattle.sheets.proofs.fits.fits.Goals as goal

pub returns : goal.returns
returns c =
    let J = job_of c.args.rec.now in
    let e = all-below (λ (i : ℕ). below 40 (sheet_cell_fits J c.args.sheet.now i)) 40 refl _ _ c.all.result c.all.ensures.ran (λ x b q k. search (rules, tests)) in
    e ∙ sym (ap (λ (b : Bool). b && everywhere (sheet_cell_fits J c.args.sheet.now)) (eq-eqb (length c.args.sheet.now) 9600 c.if-sheet-ne9600.false))
