-- `tile::open_carries` meets its contract: the amounts are those of the tile, and the entry is the least D that carries them. Assumes nothing.
use native.Mathlib.Omega.{arith}
use Prim.Native.Nat.{◌+◌}
use Rattle.model.specs.Links.{north, east, south, west}
use Rattle.model.specs.Record.{job_of}
use Rattle.sheets.specs.Bytes.{north-few, west-few, mark-few}
use Rattle.sheets.specs.Tests.{read-bytes, open-read}
use Rattle.sheets.proofs.tile.open_carries.Goals as goal

pub by_out-n-requires : goal.by_out-n-requires
by_out-n-requires c =
    let s = c in
    let a = s.args in
    let J = job_of a.rec.now in
    read-bytes _ _ _ _ c.byte.ensures.0 c.byte-2.ensures.0 (north-few J a.sheet.now s.requires.ready.two s.requires.ready.fits a.r a.c)
    (mark-few J a.sheet.now s.requires.ready.two s.requires.ready.fits east a.r a.c)

pub by_out-e-requires : goal.by_out-e-requires
by_out-e-requires c =
    let s = c in
    let a = s.args in
    let J = job_of a.rec.now in
    read-bytes _ _ _ _ c.byte-3.ensures.0 c.byte-4.ensures.0 (west-few J a.sheet.now s.requires.ready.two s.requires.ready.fits a.r (a.c + 1))
    (mark-few J a.sheet.now s.requires.ready.two s.requires.ready.fits south a.r (a.c + 1))

pub by_in-s-requires : goal.by_in-s-requires
by_in-s-requires c =
    let s = c in
    let a = s.args in
    let J = job_of a.rec.now in
    read-bytes _ _ _ _ c.byte-5.ensures.0 c.byte-6.ensures.0 (north-few J a.sheet.now s.requires.ready.two s.requires.ready.fits (a.r + 1) a.c)
    (mark-few J a.sheet.now s.requires.ready.two s.requires.ready.fits west (a.r + 1) (a.c + 1))

pub by_in-w-requires : goal.by_in-w-requires
by_in-w-requires c =
    let s = c in
    let a = s.args in
    let J = job_of a.rec.now in
    read-bytes _ _ _ _ c.byte-7.ensures.0 c.byte-8.ensures.0 (west-few J a.sheet.now s.requires.ready.two s.requires.ready.fits a.r a.c)
    (mark-few J a.sheet.now s.requires.ready.two s.requires.ready.fits north (a.r + 1) a.c)

pub returns : goal.returns
returns c =
    let s = c in
    let a = s.args in
    open-read (job_of a.rec.now) a.sheet.now a.r a.c (omega (arith, s.requires.in_bounds.3))
    c.byte.ensures.0 c.byte-2.ensures.0 c.by_out-n.ensures.0
    c.byte-3.ensures.0 c.byte-4.ensures.0 c.by_out-e.ensures.0
    c.byte-5.ensures.0 c.byte-6.ensures.0 c.by_in-s.ensures.0
    c.byte-7.ensures.0 c.byte-8.ensures.0 c.by_in-w.ensures.0
    c.entry.ensures.value c.wide-least.ensures.0 c.centre_most.ensures.0
