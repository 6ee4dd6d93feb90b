-- `fits::marks_within` meets its contract. Assumes nothing.
use Rattle.model.specs.Record.{job_of}
use Rattle.sheets.specs.Tests.{marks-read}
use Rattle.sheets.proofs.fits.marks_within.Goals as goal

pub returns : goal.returns
returns c =
    let a = c.args in
    marks-read (job_of a.rec.now) a.sheet.now a.r a.c c.is_chosen-chosen.ensures c.rows-h.ensures.0 c.columns-v.ensures.0
    c.byte.ensures.0 c.held.ensures.0 c.byte-2.ensures.0 c.held-2.ensures.0
    c.byte-3.ensures.0 c.held-3.ensures.0 c.byte-4.ensures.0 c.held-4.ensures.0
