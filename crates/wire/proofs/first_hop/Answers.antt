-- `wire::first_hop` meets its contract: each slot is that of a link, loaded or not. Assumes nothing.
use native.Mathlib.Omega.{arith}
use Rattle.wire.specs.Walks.{pin-near, first_found, first_on, first-none}
use Rattle.wire.proofs.first_hop.Goals as goal

pub pin_exit-first-requires : goal.pin_exit-first-requires
pin_exit-first-requires c = pin-near c.args.rec.now c.requires.0 c.args.row c.args.column c.requires.1

pub returns-then-wires_out-gt0 : goal.returns-then-wires_out-gt0
returns-then-wires_out-gt0 c =
    first_found c.args.rec.now c.requires.0 c.args.row c.args.column c.requires.1 _ c.loop-k.k _ (omega arith)
    c.pin_exit-first.ensures.0 c.wires_out.ensures c.loop-k.invariant c.if-wires_out-gt0.true

pub loop-k-preserved : goal.loop-k-preserved
loop-k-preserved c =
    first_on c.args.rec.now c.requires.0 c.args.row c.args.column c.requires.1 _ c.loop-k.k _ (omega arith)
    c.pin_exit-first.ensures.0 c.wires_out.ensures c.loop-k.invariant c.if-wires_out-gt0.false

pub returns : goal.returns
returns c =
    first-none c.args.rec.now c.requires.0 c.args.row c.args.column c.requires.1 c.loop-k.k (omega arith) c.loop-k.invariant
