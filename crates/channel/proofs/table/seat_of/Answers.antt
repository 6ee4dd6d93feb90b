-- `table::seat_of` meets its contract: the row is a part of its word. Assumes nothing.
use mathlib.Core.Path.{◌≡◌, sym, ap₂, ◌∙◌}
use Prim.Native.Nat.{◌+◌, ◌*◌, ◌/◌, ◌%◌}
use native.Mathlib.Omega.{arith}
use borrow.Author.Tests.{lt-ltb, le-ltb}
use Rattle.channel.specs.Map.{seat_of}
use Rattle.channel.specs.Map.Packed.{seat-small}
use Rattle.channel.proofs.table.seat_of.Goals as goal

pub returns-then-forth : goal.returns-then-forth
returns-then-forth c =
    let k = c.args.k in
    let q : 8 * (k / 8 % 2) + k % 8 ≡ k = omega (arith, c.requires) in
    let e = c.seat_word.ensures (k % 8) (omega arith) ∙ ap₂ seat_of q (lt-ltb (k / 8) 2 (omega arith) ∙ sym c.if-forth.true) in
    (e, omega (arith, e, seat-small k c.requires c.args.forth))

pub returns : goal.returns
returns c =
    let k = c.args.k in
    let q : 8 * ((2 + k / 8) % 2) + k % 8 ≡ k = omega (arith, c.requires) in
    let e = c.seat_word-2.ensures (k % 8) (omega arith) ∙ ap₂ seat_of q (le-ltb (2 + k / 8) 2 (omega arith) ∙ sym c.if-forth.false) in
    (e, omega (arith, e, seat-small k c.requires c.args.forth))
