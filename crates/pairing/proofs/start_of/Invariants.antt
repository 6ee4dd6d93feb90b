-- What each turn of `start_of` keeps: the number is the sum over the slots passed. Assumes nothing.
use Rattle.std.specs.Prelude.{◌≡◌, ◌*◌, ◌≤◌}
use Rattle.pairing.specs.Slots.{start}
use Rattle.pairing.specs.Answer.{lanes}
use Rattle.pairing.proofs.start_of.Given as goal

abbrev pub invariant-loop-j : goal.invariant-loop-j
invariant-loop-j l = (l.n ≡ start (lanes l.around.arrive) (lanes l.around.depart) l.j) × (l.n ≤ 510 * l.j)
