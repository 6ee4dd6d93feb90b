-- `fits::job_fits` meets its contract: the test of each row. Assumes nothing.
use Rattle.std.specs.Prelude.{Bool, not, ◌&&◌, ℕ, eqb}
use Rattle.std.proofs.Common.{refl, ap, ap₂, rules, tests}
use Rattle.sums.specs.Tests.{below}
use Rattle.model.specs.Job.{is_missing}
use Rattle.model.specs.Record.{job_of}
use Rattle.sheets.proofs.Below.{all-below}
use Rattle.sheets.proofs.fits.job_fits.Goals as goal

pub returns : goal.returns
returns c =
    let J = job_of c.args.rec.now in
    let e = all-below (λ (i : ℕ). below 40 (λ j. not (is_missing J i j))) 40 refl _ _ c.all.result c.all.ensures.ran (λ x b q k. search (rules, tests)) in
    ap₂ (λ (a b : Bool). a && b) (ap (λ (o : ℕ). eqb o 2) c.orthogonal.ensures.0) e
