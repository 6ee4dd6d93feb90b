-- `put_part` meets its contract, variant by variant. Assumes nothing.
use Rattle.std.proofs.Common.{sym, ap, arith}
use Rattle.wire.specs.declared.Part.{Part}
use Rattle.wire.specs.Hops.{as_part}
use Rattle.model.specs.Listing.{part_bytes}
use Rattle.listing.specs.Puts.{puts_then, puts-as}
use Rattle.listing.proofs.wires.put_part.Goals as goal

pub returns-in-To : goal.returns-in-To
returns-in-To c = (
  puts-as (ap (λ (p : Part). part_bytes (as_part p)) (sym c.in-To.is)) (puts_then c.put_pair.ensures.0 c.put_place.ensures.0),
  omega arith,
)
