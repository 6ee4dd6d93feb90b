-- What each turn of `take_out` keeps: the last hop taken out is the wire's n-th, and those before it are taken out too. Assumes nothing.
use Rattle.std.specs.Prelude.{◌≡◌, ◌+◌, ◌-◌, ◌≤◌}
use Rattle.std.proofs.Math.Option.{some}
use Rattle.model.specs.Record.{job_of, load}
use Rattle.model.specs.Wires.{hop_at}
use Rattle.wire.specs.Hops.{hop_of, Runs}
use Rattle.takeout.specs.Taken.{Walked}
use Rattle.takeout.proofs.take_out.Given as goal

abbrev pub invariant-loop-hop : goal.invariant-loop-hop
invariant-loop-hop l =
    (l.n ≤ 11200) × Runs l.was l.last.dart l.last.lane × (hop_at (job_of l.was) (load l.was) l.row l.column l.n ≡ some (hop_of l.last))
    × Walked l.was l.row l.column l.fn.rec l.rec (l.n + 1)

abbrev pub decreases-loop-hop : goal.decreases-loop-hop
decreases-loop-hop l = 11201 - l.n
