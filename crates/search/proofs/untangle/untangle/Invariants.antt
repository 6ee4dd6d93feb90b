-- What each turn of `untangle::untangle` keeps. Assumes nothing.
use mathlib.Core.Path.{◌≡◌}
use lib.ListN.{length}
use Rattle.model.specs.Job.{Job}
use Rattle.search.specs.Unlooped.{total_load}
use Rattle.audit.specs.Loops.Dfs.{Dfs}
use Rattle.augment.specs.Pins.{Held}
use Rattle.search.specs.Loose.{Loosened}
use Rattle.search.proofs.untangle.untangle.Given as goal

abbrev pub invariant-loop-ring : goal.invariant-loop-ring
invariant-loop-ring l = record {
  loads : length l.loads ≡ length l.initial.loads;
  marks : length l.fin ≡ length l.initial.fin;
  stack : length l.st ≡ length l.initial.st;
  slots : length l.sl ≡ length l.initial.sl;
  loose : (J : Job) → Held J l.initial.loads → Loosened J l.initial.loads l.loads;
  state : Dfs l.loads l.fin l.st l.sl 0 l.done;
}

abbrev pub decreases-loop-ring : goal.decreases-loop-ring
decreases-loop-ring l = total_load l.loads
