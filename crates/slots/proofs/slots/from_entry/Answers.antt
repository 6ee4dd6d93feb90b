-- `slots::from_entry` meets its contract, slot by slot. Assumes nothing.
use Prim.Native.Nat.{◌+◌, ◌*◌}
use native.Mathlib.Omega.{arith}
use Rattle.model.specs.Record.{job_of}
use Rattle.channel.specs.Map.Kinds.{centre-code}
use Rattle.slots.specs.Slots.{entry-bits}
use Rattle.slots.proofs.slots.from_entry.Goals as goal

pub centre_move-requires : goal.centre_move-requires
centre_move-requires c =
    (c.requires.0, c.requires.1, omega arith, centre-code (64 * c.args.x + 48 + 4) 4 (omega arith) (omega arith))

pub returns : goal.returns
returns c =
    entry-bits (job_of c.args.job.now) c.args.loads.now c.args.wanted (64 * c.args.x + 48) (omega arith) (omega arith) c.load_against.ensures.0
    c.load_against-2.ensures.0 c.load_against-3.ensures.0 c.load_against-4.ensures.0 c.centre_move.ensures c.bit-n.ensures
    c.bit-e.ensures c.bit-s.ensures c.bit-w.ensures c.bit-pass.ensures
