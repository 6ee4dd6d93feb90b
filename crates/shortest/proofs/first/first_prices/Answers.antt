-- `first::first_prices` meets its contract: the entries passed are first prices. Assumes nothing.
use mathlib.Core.Path.{◌≡◌, sym}
use native.Mathlib.Omega.{arith}
use Rattle.std.proofs.lemmas.List.{length-take-le}
use Rattle.channel.specs.Map.{spots}
use Rattle.channel.specs.Map.Numbers.{spots-is}
use Rattle.shortest.specs.FirstRow.{row_part}
use Rattle.shortest.proofs.first.first_prices.Goals as goal

pub slice_bounds-price-items-end : goal.slice_bounds-price-items-end
slice_bounds-price-items-end c = omega (arith, spots-is, c.requires.1)

pub slice_bounds-price-items-end-2 : goal.slice_bounds-price-items-end-2
slice_bounds-price-items-end-2 c = sym (length-take-le 13128 c.args.prices.now (omega (arith, spots-is, c.requires.1)))

pub offset_bounds-price-items-u : goal.offset_bounds-price-items-u
offset_bounds-price-items-u c = omega (arith, length-take-le 13128 c.args.prices.now (omega (arith, spots-is, c.requires.1)))

pub first_price-requires : goal.first_price-requires
first_price-requires c = (c.requires.0, omega (arith, length-take-le 13128 c.args.prices.now (omega (arith, spots-is, c.requires.1)), c.loop-u-test.true))

pub returns : goal.returns
returns c =
    let l = c.loop-u in
    let m = length-take-le 13128 c.args.prices.now (omega (arith, spots-is, c.requires.1)) in
    let e : l.u ≡ 13128 = omega (arith, m, l.auto.u-end, c.loop-u-test.false) in
    let n : spots ≡ 13128 = omega (arith, spots-is) in
    rw n (row_part (omega (arith, spots-is, c.requires.1)) (rw e at l.invariant))
