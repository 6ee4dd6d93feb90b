-- `table::reverse` meets its contract: the three ways out are the three cases of `rev`. Assumes nothing.
use Prim.Native.Nat.{◌%◌}
use native.Mathlib.Omega.{arith}
use Rattle.channel.specs.Map.Bounds.{turn-bound}
use Rattle.channel.specs.Map.Turning.{rev-low, rev-mid, rev-high}
use Rattle.channel.proofs.table.reverse.Goals as goal

pub overflow_add-t : goal.overflow_add-t
overflow_add-t c = omega (arith, turn-bound (c.args.d % 64) (omega arith), c.turn_of.ensures)

pub returns-then-t-lt2688 : goal.returns-then-t-lt2688
returns-then-t-lt2688 c = (rev-low _ _ c.turn_of.ensures c.if-t-lt2688.true, omega arith)

pub returns-then-t-lt107712 : goal.returns-then-t-lt107712
returns-then-t-lt107712 c = (rev-mid _ _ c.turn_of.ensures (omega arith) (omega arith), omega arith)

pub returns : goal.returns
returns c = (rev-high _ _ c.turn_of.ensures (omega arith), omega arith)
