-- `put_links` meets its contract: sides, corners and spokes of the row lead outward. Assumes nothing.
use mathlib.Core.Path.{refl}
use Rattle.outward.specs.Outward.{parts, parts_at, north-outward, east-outward}
use Rattle.outward.proofs.put_links.Goals as goal

pub returns : goal.returns
returns c o =
    let n = c.args.rows in
    let m = c.args.columns in
    let r = c.args.r in
    let (_, l, _, _, _, e) = c.requires in
    let (u, d) = c.pick.ensures in
    let (x, y, z) = parts_at n m r c.inset_of-left.ensures.0 c.east_begin-right.ensures.0 u d in
    let line = c.row_sectors-line.ensures (parts n m) r x y z in
    c.put_spokes.ensures (parts n m) line
    (c.put_corners.ensures (parts n m) line
    (east-outward n m r l c.args.east.now c.put_row.ensures e (north-outward n m r l c.put.ensures refl o)))
