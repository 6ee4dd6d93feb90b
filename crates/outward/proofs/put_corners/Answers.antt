-- `put_corners` meets its contract: each row of corners leads outward. Assumes nothing.
use Rattle.outward.specs.Outward.{turning, tiles-outward}
use Rattle.outward.proofs.put_corners.Goals as goal

pub returns : goal.returns
returns c P e o =
    let line = c.args.line.now in
    let r = c.args.r in
    let l = c.requires.1 in
    tiles-outward P line 3 r 0 1 turning.3 l c.put_row-4.ensures e (tiles-outward P line 2 r 3 0 turning.2 l c.put_row-3.ensures e (tiles-outward P line 1 r 2 3 turning.1 l c.put_row-2.ensures e (tiles-outward P line 0 r 1 2 turning.0 l c.put_row.ensures e o)))
