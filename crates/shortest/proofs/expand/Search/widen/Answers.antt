-- `widen` meets its contract: the price of the start rises with each round, and a complete wiring bounds it. Assumes nothing.
use mathlib.Core.Path.{refl, ◌∙◌}
use native.Mathlib.Omega.{arith}
use Rattle.augment.specs.Queue.{alike_refl}
use Rattle.shortest.specs.Growths.{growing-first}
use Rattle.shortest.specs.Rounds.{lifted-refl, lifted-then, lifted-most, start-most, start-spot, growing-most}
use Rattle.shortest.specs.Search.{lent-then}
use Rattle.shortest.proofs.expand.Search.widen.Goals as goal

pub loop-way-init : goal.loop-way-init
loop-way-init c =
    record {
      lent = record { marks = refl; queue = refl; parent = refl; slot = refl; stack = refl; rim = refl; alike = alike_refl _ _ _ _; stacks = refl; rims = refl };
      prices = refl;
      first = refl;
      growing = c.requires.growing;
      priced = c.requires.arranged.0.priced;
      lifted = lifted-refl _ _;
    }

pub round-requires : goal.round-requires
round-requires c =
    let p = c.requires in
    let A = p.arranged.0 in
    let s = c.loop-way.invariant in
    let most = start-most c.loop-way.prices A.held p.wireable.0 s.priced (start-spot p.growing) p.wireable.1 in
    record {
      whole = p.whole;
      arranged = (record { held = A.held; priced = s.priced }, λ u. omega (arith, lifted-most s.lifted most p.arranged.1 u));
      growing = s.growing;
    }

pub returns-in-Err-clause-lent : goal.returns-in-Err-clause-lent
returns-in-Err-clause-lent c = lent-then c.loop-way.invariant.lent c.round.ensures.lent

pub returns-in-Err-clause-opened : goal.returns-in-Err-clause-opened
returns-in-Err-clause-opened c =
    let s = c.loop-way.invariant in
    let (e, F) = c.in-Err.ensures.rounded in
    rw e (record { out = rw (← s.first) F; priced = s.priced; lifted = s.lifted })

pub loop-way-smaller : goal.loop-way-smaller
loop-way-smaller c =
    let p = c.requires in
    let s = c.loop-way.invariant in
    let R = rw (c.in_default.is, s.first) at c.round.ensures.rounded in
    omega (arith, R.rose, growing-most R.growing p.arranged.0.held p.wireable.0 R.priced p.wireable.1)

pub loop-way-preserved : goal.loop-way-preserved
loop-way-preserved c =
    let s = c.loop-way.invariant in
    let R = rw (c.in_default.is, s.first) at c.round.ensures.rounded in
    record {
      lent = lent-then s.lent c.round.ensures.lent;
      prices = c.round.auto.prices ∙ s.prices;
      first = R.growing.kept.spread.first;
      growing = growing-first R.growing;
      priced = R.priced;
      lifted = lifted-then s.lifted R.lifted;
    }
