-- `slots::by_words` meets its contract: each word names the byte of its slot's link. Assumes nothing.
use mathlib.Core.Path.{refl, ◌∙◌}
use Prim.Native.Nat.{◌+◌, ◌*◌}
use native.Mathlib.Omega.{arith}
use Rattle.slots.specs.Slots.{first_word, last_word, first-row, last_row, side-bits}
use Rattle.slots.proofs.slots.by_words.Goals as goal

pub room-side-requires : goal.room-side-requires
room-side-requires c =
    let (z, l, m, g, h, w) = c.requires in
    let (a, b) = first_word c.args.u g h w 0 (omega arith) in
    (z, omega arith, omega arith, l, m)

pub room-right-requires : goal.room-right-requires
room-right-requires c =
    let (z, l, m, g, h, w) = c.requires in
    let (a, b) = first_word c.args.u g h w 1 (omega arith) in
    (z, a, b, l, m)

pub against-spoke-requires : goal.against-spoke-requires
against-spoke-requires c =
    let (z, l, m, g, h, w) = c.requires in
    let (a, b) = first_word c.args.u g h w 2 (omega arith) in
    (z, a, b, l, m)

pub room-left-requires : goal.room-left-requires
room-left-requires c =
    let (z, l, m, g, h, w) = c.requires in
    let (a, b) = first_word c.args.u g h w 3 (omega arith) in
    (z, a, b, l, m)

pub against-leg-requires : goal.against-leg-requires
against-leg-requires c =
    let (z, l, m, g, h, w) = c.requires in
    let (a, b) = last_word c.args.u g h w in
    (z, a, b, l, m)

pub returns : goal.returns
returns c J v ea eh ec ep =
    let (z, l, m, g, h, w) = c.requires in
    let u = c.args.u in
    side-bits u g h J c.args.loads.now v (omega arith) ea eh ec ep
    (c.against-spoke.ensures (8 * u + 2) (omega arith) (first-row u g h w (8 * u + 2) 2 (omega arith) refl))
    (c.against-leg.ensures (8 * u + 4) (omega arith) (last_row u g h w))
    (c.room-side.ensures.0 (8 * u) (omega arith) (first-row u g h w (8 * u) 0 (omega arith) (omega arith) ∙ omega arith), c.room-side.ensures.1)
    (c.room-right.ensures.0 (8 * u + 1) (omega arith) (first-row u g h w (8 * u + 1) 1 (omega arith) refl), c.room-right.ensures.1) c.bit-into.ensures
    (c.room-left.ensures.0 (8 * u + 3) (omega arith) (first-row u g h w (8 * u + 3) 3 (omega arith) refl), c.room-left.ensures.1) c.bit-to.ensures
    c.bit.ensures c.bit-2.ensures
