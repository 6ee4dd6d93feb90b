-- `ways::lay_way` meets its contract: the darts from the i-th spot on are laid. Assumes nothing.
use mathlib.Core.Path.{◌≡◌, ◌∙◌}
use native.Mathlib.Omega.{arith}
use lib.ListN.{get_or}
use Rattle.channel.specs.Map.Numbers.{spots-is}
use Rattle.augment.specs.Ways.{laid-first, laid-back}
use Rattle.augment.proofs.ways.lay_way.Goals as goal

pub lay-requires : goal.lay-requires
lay-requires c =
    omega (arith, spots-is, c.requires.spot c.args.j (omega arith), c.requires.slot, c.requires.whole)

pub lay-requires-in-loop-i : goal.lay-requires-in-loop-i
lay-requires-in-loop-i c =
    let f = c.requires.falls c.loop-i.i c.loop-i-test.true c.loop-i.invariant.0 in
    omega (arith, spots-is, c.requires.spot (get_or c.args.parent.now c.loop-i.i 0) (omega (arith, f, c.loop-i.invariant.0)), c.requires.slots< c.loop-i.i c.loop-i-test.true c.loop-i.invariant.0, c.loop-i.invariant.1, c.lay.auto.loads, c.requires.whole)

pub loop-i-preserved : goal.loop-i-preserved
loop-i-preserved c =
    let l = c.loop-i in
    let f = c.requires.falls c.loop-i.i c.loop-i-test.true c.loop-i.invariant.0 in (
      omega (arith, f, l.invariant.0),
      c.lay-in-loop-i.auto.loads ∙ l.invariant.1,
      λ rec r. laid-back c.loop-i-test.true (l.invariant.2 rec r) c.lay-in-loop-i.ensures,
    )

pub returns : goal.returns
returns c = let e : c.loop-i.i ≡ 0 = omega arith in rw e at (c.loop-i.invariant.2 _ (laid-first c.lay.ensures))
