-- `slots::four_moves` meets its contract: the bits are the four answers. Assumes nothing.
use mathlib.Core.Path.{ap₂, ◌∙◌}
use Prim.Native.Nat.{ℕ, min, ◌%◌}
use native.Mathlib.Omega.{arith}
use Rattle.sums.specs.Counting.{when}
use Rattle.model.specs.Record.{job_of}
use Rattle.channel.specs.Map.{moves}
use Rattle.slots.specs.Ahead.{four-bits}
use Rattle.slots.proofs.slots.four_moves.Goals as goal

pub returns : goal.returns
returns c =
    let s = c.args in
    four-bits
    (c.wanted_move-a.ensures.0 ∙ ap₂ (λ (w d : ℕ). min (w % 2) (when (moves (job_of s.job.now) s.loads.now d) 1)) (omega arith) (omega arith))
    c.wanted_move-b.ensures.0 c.wanted_move-c.ensures.0 c.wanted_move-e.ensures.0
    c.wanted_move-a.ensures.1 c.wanted_move-b.ensures.1 c.wanted_move-c.ensures.1 c.wanted_move-e.ensures.1
