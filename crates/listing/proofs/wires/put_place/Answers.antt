-- `put_place` meets its contract: the letter, the lane, the parenthesis. Assumes nothing.
use Rattle.std.proofs.Common.{[], ◌∷◌, ◌++◌, ℕ, ap, arith}
use Rattle.model.specs.Listing.{spaced}
use Rattle.listing.specs.Puts.{puts_then, puts-as}
use Rattle.listing.proofs.wires.put_place.Goals as goal

pub returns : goal.returns
returns c = (
  puts-as (ap (λ (x : ℕ). x ∷ spaced c.args.lane ++ (41 ∷ [])) c.letter.ensures)
      (puts_then c.put_byte.ensures (puts_then c.put_spaced.ensures.0 c.put_byte-2.ensures)),
  omega (arith, c.put_byte.ensures.next, c.put_byte-2.ensures.next),
)
