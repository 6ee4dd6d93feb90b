-- What each turn of `round` keeps: what is left is what was left at first, and no arrival and departure are neighbours among those passed. Assumes nothing.
use Rattle.std.specs.Prelude.{◌≡◌, ◌+◌, ◌≤◌, length, take}
use Rattle.std.proofs.Math.Option.{none}
use Rattle.model.specs.Pairing.{strike}
use Rattle.pairing.specs.Sequence.{arriving}
use Rattle.pairing.specs.Struck.{remaining, Below}
use Rattle.pairing.proofs.round.Given as goal

abbrev pub invariant-loop-p : goal.invariant-loop-p
invariant-loop-p l =
    (l.i ≤ l.p) × (l.i + l.next ≡ l.passed + l.p) × (length l.left ≡ length l.initial.left) × Below l.n l.left l.i
    × (strike (arriving l.ends) (take l.i l.left) ≡ none) × (remaining l.n l.left l.i l.p ≡ remaining l.n l.initial.left l.passed l.next)
