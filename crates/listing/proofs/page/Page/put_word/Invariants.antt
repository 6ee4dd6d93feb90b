-- The bytes passed stand on the page. Assumes nothing.
use Rattle.std.proofs.Common.{take}
use Rattle.listing.specs.Puts.{Puts}
use Rattle.listing.proofs.page.Page.put_word.Given as goal

abbrev pub invariant-loop-byte : goal.invariant-loop-byte
invariant-loop-byte l = Puts (take l.byte-index l.w) l.initial.self.length l.initial.self.bytes l.self.bytes l.self.length
