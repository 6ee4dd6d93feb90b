-- What each turn of `part_at` keeps: the hop is the wire's, by the number of turns, and carries a wire. Assumes nothing.
use Rattle.std.specs.Prelude.{◌≡◌, ◌≤◌}
use Rattle.std.proofs.Math.Option.{some}
use Rattle.model.specs.Record.{job_of, load}
use Rattle.model.specs.Wires.{hop_at, part_of, part_at}
use Rattle.wire.specs.Hops.{hop_of, Runs}
use Rattle.wire.proofs.part_at.Given as goal

abbrev pub invariant-loop : goal.invariant-loop
invariant-loop l =
    (l.counter ≤ l.index) × Runs l.rec l.hop.dart l.hop.lane × (hop_at (job_of l.rec) (load l.rec) l.row l.column l.counter ≡ some (hop_of l.hop))
    × (part_of (job_of l.rec) (load l.rec) (hop_at (job_of l.rec) (load l.rec) l.row l.column l.index) ≡ part_at (job_of l.rec) (load l.rec) l.row l.column l.index)
