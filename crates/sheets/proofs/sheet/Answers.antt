-- `sheet` meets its contract: refused by the first test that fails, else the verdict of the first tile that does not pass. Assumes nothing.
use Rattle.std.specs.Prelude.{refl}
use Rattle.std.proofs.Common.{sym, ap, ◌∙◌}
use Rattle.model.specs.Calls.{sheet_is}
use Rattle.sums.specs.Tests.{so}
use Rattle.answers.specs.Outcomes.{on-legal}
use Rattle.sheets.specs.Tests.{ready_of}
use Rattle.sheets.specs.First.{verdict-some}
use Rattle.sheets.specs.Answered.{job-two, not-the-job, not-the-sheet, first-answered}
use Rattle.sheets.proofs.sheet.Goals as goal

pub job_fits-requires : goal.job_fits-requires
job_fits-requires c = c.in_ok-undamaged.ensures.long

pub returns-then-not-job_fits : goal.returns-then-not-job_fits
returns-then-not-job_fits c =
    on-legal c.in_ok-undamaged.ensures (not-the-job c.args.rec.now c.args.loads.now (sym c.job_fits.ensures ∙ c.if-not-job_fits.true))

pub fits-requires : goal.fits-requires
fits-requires c = (c.in_ok-undamaged.ensures.long, job-two _ (so (sym c.job_fits.ensures ∙ c.if-not-job_fits.false)))

pub returns-then-not-fits : goal.returns-then-not-fits
returns-then-not-fits c =
    on-legal c.in_ok-undamaged.ensures
    (not-the-sheet c.args.rec.now c.args.loads.now (sym c.job_fits.ensures ∙ c.if-not-job_fits.false) (sym c.fits.ensures ∙ c.if-not-fits.true))

pub first_failing-requires : goal.first_failing-requires
first_failing-requires c =
    let g = c.in_ok-undamaged.ensures in
    (g.long, ready_of c.args.rec.now c.args.loads.now g (so (sym c.job_fits.ensures ∙ c.if-not-job_fits.false)) (so (sym c.fits.ensures ∙ c.if-not-fits.false)))

pub returns-in-None : goal.returns-in-None
returns-in-None c =
    let g = c.in_ok-undamaged.ensures in
    on-legal g
    (first-answered c.args.rec.now c.args.loads.now g (sym c.job_fits.ensures ∙ c.if-not-job_fits.false) (sym c.fits.ensures ∙ c.if-not-fits.false) 1600
    c.in-None.ensures _ refl)

pub returns-in-Some : goal.returns-in-Some
returns-in-Some c =
    let g = c.in_ok-undamaged.ensures in
    let (l, f) = c.in-Some.ensures in
    on-legal g
    (first-answered c.args.rec.now c.args.loads.now g (sym c.job_fits.ensures ∙ c.if-not-job_fits.false) (sym c.fits.ensures ∙ c.if-not-fits.false) _ f _
    (ap sheet_is (verdict-some _ l)))
