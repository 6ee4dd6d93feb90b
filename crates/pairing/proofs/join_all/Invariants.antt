-- What each turn of `join_all` keeps: the pairs joined so far, and then those of the rounds on what is left, are all pairs. Assumes nothing.
use Rattle.std.specs.Prelude.{◌≡◌, ◌+◌, ◌*◌, ◌-◌, ◌≤◌, length, take}
use Rattle.std.proofs.Math.Option.{none}
use Rattle.model.specs.Pairing.{strike}
use Rattle.pairing.specs.Sequence.{arriving}
use Rattle.pairing.specs.Struck.{remaining, Below, Midway}
use Rattle.pairing.proofs.join_all.Given as goal

abbrev pub invariant-loop-next : goal.invariant-loop-next
invariant-loop-next l =
    (length l.left ≡ 155) × (length l.pairs ≡ length l.initial.pairs) × (l.passed + 2 * l.m ≡ l.next) × (l.next ≤ l.n) × Below l.n l.left l.passed
    × (strike (arriving l.ends) (take l.passed l.left) ≡ none) × Midway (arriving l.ends) l.n l.pairs l.m (remaining l.n l.left l.passed l.next)

abbrev pub decreases-loop-next : goal.decreases-loop-next
decreases-loop-next l = l.n - l.next
