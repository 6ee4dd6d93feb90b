-- What document 01 says of a text; the record of one that reads is legal. Assumes nothing.
use Rattle.std.proofs.Common.{refl, List, ℕ, replicate}
use Rattle.text.proofs.RoundTrip.{code-round-trip}
use Rattle.listing.specs.Near.{refused_listing}
use Rattle.escape.specs.Prints.{refused, prints-routed}
use Rattle.escape.proofs.show_text.Goals as goal

-- the record that the text is read into
abbrev zeros : List ℕ
zeros = replicate 32768 0

pub show_routed-requires : goal.show_routed-requires
show_routed-requires g c = code-round-trip.read-legal c.args.text.now zeros c.read_into.new.rec c.in-Ok.ensures

pub returns-in-Ok : goal.returns-in-Ok
returns-in-Ok g c =
    let (bytes, l, h, d) = c.show_routed.ensures in
    (bytes, prints-routed c.args.text.now c.read_into.new.rec zeros bytes c.in-Ok.ensures l, h, d)

pub returns-in-Err : goal.returns-in-Err
returns-in-Err g c =
    let o = c.in-Err.wrong.offset in
    (refused_listing o, refused o c.in-Err.ensures.0 refl, c.show_refused.ensures.handed, c.show_refused.ensures.held)
