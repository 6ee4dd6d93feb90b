-- A closed tile is a tile whose state is closed. Assumes nothing.
use mathlib.Core.Path.{◌∙◌}
use mathlib.Core.Bool.{◌&&◌}
use lib.Dec.{eqb}
use Rattle.sums.specs.Counting.{when}
use Rattle.model.specs.Job.{is_closed}
use Rattle.writing.proofs.count.value_in.Goals as goal

pub returns-in-Closed : goal.returns-in-Closed
unfolding is_closed
returns-in-Closed c =
    rw c.in-Closed.is
    (c.number_if-in-Closed.ensures ∙ (λ i. when (eqb c.args.side 0 && (c.is_tile.ensures i && eqb (c.state_of.ensures i) 1)) 1))
