-- `ways::unmark` meets its contract: the spots passed are not marked. Assumes nothing.
use mathlib.Core.Path.{◌≡◌}
use native.Mathlib.Omega.{arith}
use Rattle.std.proofs.lemmas.List.{length-take-le}
use Rattle.augment.proofs.ways.unmark.Goals as goal

pub returns : goal.returns
returns c =
    let e : c.loop-u.u-index ≡ c.args.n = omega (arith, length-take-le c.args.n c.args.queue.now c.requires.count) in
    rw e at c.loop-u.invariant.gone
