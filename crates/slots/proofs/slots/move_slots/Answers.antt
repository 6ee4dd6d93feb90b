-- `slots::move_slots` meets its contract, kind by kind. Assumes nothing.
use mathlib.Core.Path.{refl, ap₂}
use Prim.Native.Nat.{ℕ, min, ◌%◌}
use native.Mathlib.Omega.{arith}
use Rattle.sums.specs.Counting.{when}
use Rattle.model.specs.Record.{job_of}
use Rattle.channel.specs.Map.{moves}
use Rattle.slots.specs.Ahead.{eight-bits, high_bits}
use Rattle.slots.proofs.slots.move_slots.Goals as goal

pub returns-then-x-k : goal.returns-then-x-k
returns-then-x-k c =
    let s = c.args in
    eight-bits c.four_moves-low.ensures c.four_moves-high.ensures (λ j l. refl)
    (λ j l. ap₂ (λ (w d : ℕ). min (w % 2) (when (moves (job_of s.job.now) s.loads.now d) 1)) (high_bits s.wanted j) (omega arith))
