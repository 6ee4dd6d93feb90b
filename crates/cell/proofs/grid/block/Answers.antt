-- `grid::block` meets its contract. The loop's invariant: every number passed, and every one in front of the grid, has its test. The measure is what is left of the grid. Assumes nothing.
use mathlib.Core.Path.{refl, ◌∙◌}
use mathlib.Core.Bool.{false, ◌&&◌}
use Prim.Native.Nat.{◌<◌}
use native.Mathlib.Omega.{arith}
use lib.Dec.{ltb}
use lib.ListN.{length, length-set, get_or-replicate}
use Rattle.sums.specs.Stores.{set_reads}
use Rattle.channel.specs.Map.{in_grid, row_of, column_of}
use Rattle.cell.specs.Cell.Grid.{block_at, block_none}
use Rattle.cell.proofs.grid.block.Goals as goal

pub loop-x-init : goal.loop-x-init
loop-x-init c = (omega arith, omega arith, refl, λ i l. get_or-replicate 1641 i false false (omega arith) ∙ block_none i _ l)

pub loop-x-preserved : goal.loop-x-preserved
loop-x-preserved c =
    let l = c.loop-x in
    let s = c.args in
    let k : l.x < length l.map = omega arith in (
      omega arith,
      omega arith,
      simp length-set l.invariant.2,
      λ i h. set_reads l.map l.x _ false (λ j. in_grid j && (ltb (row_of j) s.n && ltb (column_of j) s.m)) k
          (c.in_block.ensures ∙ block_at l.x s.n s.m (omega arith) (omega arith)) i (λ n. l.invariant.3 i (omega arith)),
    )
