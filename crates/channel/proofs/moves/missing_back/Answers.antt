-- `moves::missing_back` meets its contract. Assumes nothing.
use mathlib.Core.Path.{sym, ◌∙◌}
use native.Mathlib.Omega.{arith}
use Prim.Native.Nat.{◌/◌}
use Rattle.sums.specs.Tests.{so}
use Rattle.channel.specs.Map.Grid.{grid-bounds}
use Rattle.channel.specs.Map.Moving.{missing-some, missing-off}
use Rattle.channel.proofs.moves.missing_back.Goals as goal

pub through_missing-requires : goal.through_missing-requires
through_missing-requires c =
    omega (arith, grid-bounds (c.args.d / 64) (so (sym c.in_grid.ensures ∙ c.if-in_grid.true)))

pub returns-then-in_grid : goal.returns-then-in_grid
returns-then-in_grid c =
    missing-some c.args.loads.now (c.args.d / 64) (sym c.in_grid.ensures ∙ c.if-in_grid.true) _ c.through_missing.ensures.0

pub returns : goal.returns
returns c =
    missing-off c.args.loads.now (c.args.d / 64) (sym c.in_grid.ensures ∙ c.if-in_grid.false)
