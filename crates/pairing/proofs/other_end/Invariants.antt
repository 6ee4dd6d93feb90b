-- What each turn of `other_end` keeps: no pair so far has p. Assumes nothing.
use Rattle.std.specs.Prelude.{◌≡◌, drop}
use Rattle.model.specs.Pairing.{partner_in}
use Rattle.pairing.specs.Sequence.{as_pairs}
use Rattle.pairing.proofs.other_end.Given as goal

abbrev pub invariant-loop-pair : goal.invariant-loop-pair
invariant-loop-pair l = partner_in (as_pairs l.pairs) l.p ≡ partner_in (as_pairs (drop l.pair-index l.pairs)) l.p
