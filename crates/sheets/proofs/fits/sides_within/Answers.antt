-- `fits::sides_within` meets its contract: the limits are those of the two sides. Assumes nothing.
use native.Mathlib.Omega.{arith}
use mathlib.Core.Path.{◌≡◌}
use Prim.Native.Nat.{suc, ◌+◌}
use Rattle.model.specs.Record.{job_of}
use Rattle.sheets.specs.Tests.{north-most, west-most}
use Rattle.sheets.proofs.fits.sides_within.Goals as goal

pub load_within-requires : goal.load_within-requires
load_within-requires c =
    let s = c in
    omega (
      arith,
      c.held-north.ensures.1,
      c.side_most.ensures.0,
      north-most (job_of s.args.rec.now) s.args.r s.args.c s.requires.3,
      s.requires.4,
    )

pub load_within-requires-2 : goal.load_within-requires-2
load_within-requires-2 c =
    let s = c in
    omega (
      arith,
      c.held-west.ensures.1,
      c.side_most-2.ensures.0,
      west-most (job_of s.args.rec.now) s.args.r s.args.c s.requires.3,
      s.requires.4,
    )

pub returns : goal.returns
returns c =
    let s = c in
    let a = s.args in
    let er : a.r + 1 ≡ suc a.r = omega arith in
    let ec : a.c + 1 ≡ suc a.c = omega arith in
    cc (north-most (job_of a.rec.now) a.r a.c s.requires.3, west-most (job_of a.rec.now) a.r a.c s.requires.3)
