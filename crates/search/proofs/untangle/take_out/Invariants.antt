-- What each turn of `untangle::take_out` keeps. Assumes nothing.
use mathlib.Core.List.{map}
use mathlib.Core.Path.{◌≡◌}
use Prim.Native.Nat.{◌-◌}
use lib.ListN.{length}
use Rattle.channel.specs.Map.{rev}
use Rattle.augment.specs.Laid.{laid_all}
use Rattle.audit.specs.Loops.{ring_darts}
use Rattle.search.proofs.untangle.take_out.Given as goal

abbrev pub invariant-loop-i : goal.invariant-loop-i
invariant-loop-i l = record {
  size : length l.loads ≡ length l.initial.loads;
  out : l.loads ≡ laid_all l.initial.loads (map rev (ring_darts l.st l.sl l.fn.ring.from (l.i - l.fn.ring.from)));
}
