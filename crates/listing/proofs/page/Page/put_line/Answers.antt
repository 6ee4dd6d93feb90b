-- `put_line` meets its contract: the words and the number one after another. Assumes nothing.
use Rattle.std.proofs.Common.{arith}
use Rattle.listing.specs.Puts.{puts_then}
use Rattle.listing.proofs.page.Page.put_line.Goals as goal

pub returns : goal.returns
returns c = (
  puts_then c.put_word.ensures (puts_then c.put_spaced.ensures.0 c.put_word-2.ensures),
  omega (arith, c.put_word.ensures.next, c.put_word-2.ensures.next),
)
