-- `fits::row_fits` meets its contract: the test of each column. Assumes nothing.
use Rattle.std.proofs.Common.{refl, rules, tests}
use Rattle.model.specs.Record.{job_of}
use Rattle.model.specs.Sheet.{sheet_cell_fits}
use Rattle.sheets.proofs.Below.{all-below}
use Rattle.sheets.proofs.fits.row_fits.Goals as goal

pub returns : goal.returns
returns c = all-below (sheet_cell_fits (job_of c.args.rec.now) c.args.sheet.now c.args.r) 40 refl _ _ _ c.all.ensures.ran (λ x b q k. search (rules, tests))
