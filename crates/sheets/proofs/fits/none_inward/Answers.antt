-- `fits::none_inward` meets its contract. Assumes nothing.
use Rattle.model.specs.Record.{job_of}
use Rattle.sheets.specs.Tests.{inward-is}
use Rattle.sheets.proofs.fits.none_inward.Goals as goal

pub returns : goal.returns
returns c = let a = c.args in cc (inward-is (job_of a.rec.now) a.sheet.now a.r a.c)
