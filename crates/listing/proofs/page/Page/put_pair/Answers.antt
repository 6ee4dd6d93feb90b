-- `put_pair` meets its contract: the words and the numbers one after another. Assumes nothing.
use Rattle.std.proofs.Common.{arith}
use Rattle.listing.specs.Puts.{puts_then}
use Rattle.listing.proofs.page.Page.put_pair.Goals as goal

pub returns : goal.returns
returns c = (
  puts_then c.put_word.ensures (puts_then c.put_spaced.ensures.0 (puts_then c.put_spaced-2.ensures.0 c.put_word-2.ensures)),
  omega (arith, c.put_word.ensures.next, c.put_word-2.ensures.next),
)
