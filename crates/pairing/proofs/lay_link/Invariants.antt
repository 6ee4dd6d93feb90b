-- What each turn of `lay_link` keeps: the first i ends of the link are laid, and no other. Assumes nothing.
use Rattle.std.specs.Prelude.{◌≡◌, ◌+◌, length}
use Rattle.pairing.specs.Answer.{lanes}
use Rattle.pairing.specs.Sequence.{Laid}
use Rattle.pairing.proofs.lay_link.Given as goal

abbrev pub invariant-loop-i : goal.invariant-loop-i
invariant-loop-i l = (length l.ends ≡ length l.initial.ends) × Laid (lanes l.around.arrive) (lanes l.around.depart) (l.from + l.i) l.ends
