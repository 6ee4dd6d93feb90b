-- k passes and `over` does not, and `over` is at most where it began; what lies between the two falls. Assumes nothing.
use Rattle.std.proofs.Common.{◌-◌, ◌*◌, ◌≤◌, ◌<◌}
use Rattle.rules.specs.Rules.{across, Passes}
use Rattle.rules.proofs.Across.{bound}
use Rattle.rules.proofs.diagonal.largest.Given as goal

abbrev pub invariant-loop-k : goal.invariant-loop-k
invariant-loop-k l =
    (l.k < l.over) × (l.over ≤ bound l.p l.w l.s) × Passes l.p l.d l.w l.s l.k
    × (2 * l.p * l.p < across l.d l.w l.s l.over * across l.d l.w l.s l.over)

abbrev pub decreases-loop-k : goal.decreases-loop-k
decreases-loop-k l = l.over - l.k
