-- What each turn of `first_hop` keeps: no link before the k-th is loaded. Assumes nothing.
use Rattle.std.specs.Prelude.{◌≡◌, drop}
use Rattle.model.specs.Links.{pin, at, around}
use Rattle.model.specs.Record.{load}
use Rattle.model.specs.Wires.{first_loaded}
use Rattle.wire.proofs.first_hop.Given as goal

abbrev pub invariant-loop-k : goal.invariant-loop-k
invariant-loop-k l = first_loaded (load l.rec) (around (at pin l.row l.column)) ≡ first_loaded (load l.rec) (drop l.k (around (at pin l.row l.column)))
