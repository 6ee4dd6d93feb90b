-- `raise` meets its contract: the prices of the spots passed are raised. Assumes nothing.
use mathlib.Core.Path.{◌≡◌}
use Prim.Native.Nat.{◌<◌}
use native.Mathlib.Omega.{arith}
use lib.ListN.{get_or}
use Rattle.std.proofs.lemmas.List.{length-take-le, get_or-take}
use Rattle.shortest.proofs.expand.Search.raise.Goals as goal

pub higher-requires : goal.higher-requires
higher-requires c =
    let l = c.loop-u in
    let p = c.requires in
    let m : l.u-index < c.args.self.now.growth.n = omega (arith, length-take-le c.args.self.now.growth.n c.args.self.now.queue.now p.count) in
    let e = get_or-take c.args.self.now.growth.n c.args.self.now.queue.now l.u-index 0 m in
    rw e
    (omega (
      arith,
      l.invariant.raised.same (get_or c.args.self.now.queue.now l.u-index 0) (λ j h. p.apart j l.u-index h m),
      p.fits (get_or c.args.self.now.queue.now l.u-index 0),
    ))

pub returns : goal.returns
returns c =
    let e : c.loop-u.u-index ≡ c.args.self.now.growth.n = omega (arith, length-take-le c.args.self.now.growth.n c.args.self.now.queue.now c.requires.count) in
    rw e at c.loop-u.invariant.raised
