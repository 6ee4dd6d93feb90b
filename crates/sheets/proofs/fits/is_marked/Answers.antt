-- `fits::is_marked` meets its contract. Assumes nothing.
use native.Mathlib.Omega.{arith}
use mathlib.Core.Path.{◌≡◌}
use Prim.Native.Nat.{suc, ◌+◌}
use Rattle.model.specs.Record.{job_of}
use Rattle.sheets.specs.Tests.{marks-of}
use Rattle.sheets.proofs.fits.is_marked.Goals as goal

pub returns : goal.returns
returns c =
    let a = c.args in
    let er : a.r + 1 ≡ suc a.r = omega arith in
    let ec : a.c + 1 ≡ suc a.c = omega arith in
    cc (marks-of (job_of a.rec.now) a.sheet.now a.r a.c)
