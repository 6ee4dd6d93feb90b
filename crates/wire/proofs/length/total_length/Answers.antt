-- `length::total_length` meets its contract: the length of the wires is that of the bytes (`held_bytes`). Assumes nothing.
use native.Mathlib.Omega.{arith}
use Rattle.wire.specs.Total.{held_bytes, held-most}
use Rattle.wire.proofs.length.total_length.Goals as goal

pub returns : goal.returns
returns c =
    (omega (arith, held_bytes _ c.requires), omega (arith, held_bytes _ c.requires, held-most _ c.requires))
