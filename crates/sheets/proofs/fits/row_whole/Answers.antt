-- `fits::row_whole` meets its contract: the test of each column. Assumes nothing.
use Rattle.std.specs.Prelude.{not, ℕ}
use Rattle.std.proofs.Common.{refl, rules, tests}
use Rattle.model.specs.Job.{is_missing}
use Rattle.model.specs.Record.{job_of}
use Rattle.sheets.proofs.Below.{all-below}
use Rattle.sheets.proofs.fits.row_whole.Goals as goal

pub returns : goal.returns
returns c = all-below (λ (i : ℕ). not (is_missing (job_of c.args.rec.now) c.args.r i)) 40 refl _ _ _ c.all.ensures.ran (λ x b q k. search (rules, tests))
