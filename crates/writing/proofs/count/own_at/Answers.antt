-- `own_at` reads the byte of a tile's own D, if the tile is there. Assumes nothing.
use mathlib.Core.Path.{sym, ap, ◌∙◌}
use mathlib.Core.Bool.{Bool}
use Rattle.sums.specs.Counting.{when}
use Rattle.model.specs.Record.{added_of, job_of}
use Rattle.writing.proofs.count.own_at.Goals as goal

pub returns : goal.returns
unfolding job_of added_of
returns c =
    let J = job_of c.args.rec.now in
    c.byte.ensures.0
    ∙ sym (ap (λ (b : Bool). when b (J.added.own_d c.args.row c.args.column)) (sym c.is_tile.ensures ∙ c.if-not-is_tile.false))
