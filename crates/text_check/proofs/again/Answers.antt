-- A record that a text that reads has left is legal. Assumes nothing.
use Rattle.std.proofs.Common.{replicate}
use Rattle.text.proofs.RoundTrip.{code-round-trip}
use Rattle.text_check.proofs.again.Goals as goal

pub write_text-requires : goal.write_text-requires
write_text-requires c = code-round-trip.read-legal c.args.text.now (replicate 32768 0) c.read_into.new.rec c.in_default.ensures
