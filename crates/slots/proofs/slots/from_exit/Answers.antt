-- `slots::from_exit` meets its contract, slot by slot. Assumes nothing.
use Prim.Native.Nat.{◌+◌, ◌*◌}
use native.Mathlib.Omega.{arith}
use Rattle.model.specs.Record.{job_of}
use Rattle.channel.specs.Map.Kinds.{centre-code}
use Rattle.slots.specs.Slots.{spoke-code, exit-bits}
use Rattle.slots.proofs.slots.from_exit.Goals as goal

pub spoke_move-requires : goal.spoke_move-requires
spoke_move-requires c =
    (c.requires.0, c.requires.1, omega arith, spoke-code (centre-code (64 * c.args.x + 56) 8 (omega arith) (omega arith)))

pub spoke_move-requires-2 : goal.spoke_move-requires-2
spoke_move-requires-2 c =
    (c.requires.0, c.requires.1, omega arith, spoke-code (centre-code (64 * c.args.x + 56 + 1) 9 (omega arith) (omega arith)))

pub spoke_move-requires-3 : goal.spoke_move-requires-3
spoke_move-requires-3 c =
    (c.requires.0, c.requires.1, omega arith, spoke-code (centre-code (64 * c.args.x + 56 + 2) 10 (omega arith) (omega arith)))

pub spoke_move-requires-4 : goal.spoke_move-requires-4
spoke_move-requires-4 c =
    (c.requires.0, c.requires.1, omega arith, spoke-code (centre-code (64 * c.args.x + 56 + 3) 11 (omega arith) (omega arith)))

pub returns : goal.returns
returns c =
    exit-bits (job_of c.args.job.now) c.args.loads.now c.args.wanted (64 * c.args.x + 56) (omega arith) (omega arith) c.spoke_move.ensures
    c.spoke_move-2.ensures c.spoke_move-3.ensures c.spoke_move-4.ensures c.centre_back.ensures c.bit-n.ensures c.bit-e.ensures
    c.bit-s.ensures c.bit-w.ensures c.bit-pass.ensures
