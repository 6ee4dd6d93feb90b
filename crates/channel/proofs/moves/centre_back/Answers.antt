-- `moves::centre_back` meets its contract. Assumes nothing.
use mathlib.Core.Path.{sym, ◌∙◌}
use native.Mathlib.Omega.{arith}
use Prim.Native.Nat.{◌/◌}
use Rattle.sums.specs.Tests.{so}
use Rattle.channel.specs.Map.Grid.{grid-bounds}
use Rattle.channel.specs.Map.Moving.{centre-some, centre-off}
use Rattle.channel.proofs.moves.centre_back.Goals as goal

pub through_centre-requires : goal.through_centre-requires
through_centre-requires c =
    omega (arith, grid-bounds (c.args.d / 64) (so (sym c.in_grid.ensures ∙ c.if-in_grid.true)))

pub returns-then-in_grid : goal.returns-then-in_grid
returns-then-in_grid c =
    centre-some c.args.loads.now (c.args.d / 64) (sym c.in_grid.ensures ∙ c.if-in_grid.true) _ c.through_centre.ensures.0

pub returns : goal.returns
returns c =
    centre-off c.args.loads.now (c.args.d / 64) (sym c.in_grid.ensures ∙ c.if-in_grid.false)
