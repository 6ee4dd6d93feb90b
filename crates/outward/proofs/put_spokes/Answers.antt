-- `put_spokes` meets its contract: each row of spokes leads outward. Assumes nothing.
use Rattle.outward.specs.Outward.{turning, tiles-outward}
use Rattle.outward.proofs.put_spokes.Goals as goal

pub returns : goal.returns
returns c P e o =
    let line = c.args.line.now in
    let r = c.args.r in
    let l = c.requires.1 in
    tiles-outward P line 7 r 3 3 turning.7 l c.put_row-4.ensures e (tiles-outward P line 6 r 2 2 turning.6 l c.put_row-3.ensures e (tiles-outward P line 5 r 1 1 turning.5 l c.put_row-2.ensures e (tiles-outward P line 4 r 0 0 turning.4 l c.put_row.ensures e o)))
