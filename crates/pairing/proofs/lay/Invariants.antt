-- What each turn of `lay` keeps: the ends of the links before slot k are laid, and no other. Assumes nothing.
use Rattle.std.specs.Prelude.{◌≡◌, length}
use Rattle.pairing.specs.Answer.{lanes}
use Rattle.pairing.specs.Slots.{start}
use Rattle.pairing.specs.Sequence.{Laid}
use Rattle.pairing.proofs.lay.Given as goal

abbrev pub invariant-loop-k : goal.invariant-loop-k
invariant-loop-k l =
    (length l.ends ≡ length l.initial.ends) × (l.n ≡ start (lanes l.around.arrive) (lanes l.around.depart) l.k)
    × Laid (lanes l.around.arrive) (lanes l.around.depart) l.n l.ends
