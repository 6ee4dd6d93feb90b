-- `chosen_line` meets its contract. Assumes nothing.
use Rattle.std.proofs.Common.{sym, ◌∙◌, arith}
use Rattle.model.specs.Listing.{close}
use Rattle.listing.specs.Near.{pin_word, near_line, chosen_line}
use Rattle.listing.specs.Puts.{puts-if, puts-not}
use Rattle.listing.proofs.near.chosen_line.Goals as goal

pub returns-then-not-is_chosen : goal.returns-then-not-is_chosen
unfolding chosen_line
returns-then-not-is_chosen c =
    (puts-not (near_line c.args.near.now 1 pin_word close c.args.cell) (sym c.is_chosen.ensures ∙ c.if-not-is_chosen.true), omega arith)

pub returns : goal.returns
unfolding chosen_line
returns c = (puts-if (sym c.is_chosen.ensures ∙ c.if-not-is_chosen.false) c.near_line.ensures.0, omega arith)
