-- `untangle::untangle` meets its contract: each ring that is taken out leaves less load in all, and where none is found behind the fresh links, none is new.
use mathlib.Core.Path.{refl, ◌∙◌}
use native.Mathlib.Omega.{arith}
use Rattle.audit.specs.Loops.Stack.{dfs-start, dfs-lighter}
use Rattle.search.specs.Rings.{ring_out, loose_none, loose-held, loose-more, settled-freed}
use Rattle.search.proofs.untangle.untangle.Goals as goal

pub loop-ring-init : goal.loop-ring-init
loop-ring-init c =
    let r = c.requires.room in
    let k = c.clear in
    record {
      loads = refl;
      marks = refl;
      stack = refl;
      slots = refl;
      loose = λ J H. loose_none H;
      state = dfs-start (record { whole = r.whole; marks = omega (arith, k.auto.fin, r.marks); stack = r.stack; slots = r.slots }) k.ensures;
    }

pub returns : goal.returns
returns c = settled-freed c.loop-ring.invariant.loose (rw c.in_default.is at c.find.ensures)

pub take_out-requires : goal.take_out-requires
take_out-requires c =
    let (C, D) = c.in-Some.ensures in
    let l = c.loop-ring.invariant in
    let k = c.find.auto in
    let r = c.requires.room in (
      record {
        whole = omega (arith, l.loads, r.whole);
        stack = omega (arith, C.within, k.st, l.stack, r.stack);
        slots = omega (arith, C.within, k.sl, l.slots, r.slots);
        darts< = C.darts<;
      },
      omega (arith, C.any),
    )

pub loop-ring-smaller : goal.loop-ring-smaller
loop-ring-smaller c =
    let p = c.requires in
    let (C, D) = c.in-Some.ensures in
    (ring_out (loose-held p.held (c.loop-ring.invariant.loose p.job p.held)) C c.take_out.ensures).falls

pub loop-ring-preserved : goal.loop-ring-preserved
loop-ring-preserved c =
    let p = c.requires in
    let l = c.loop-ring.invariant in
    let k = c.find.auto in
    let t = c.take_out in
    let (C, D) = c.in-Some.ensures in
    let M = ring_out (loose-held p.held (l.loose p.job p.held)) C t.ensures in
    record {
      loads = t.auto.loads ∙ l.loads;
      marks = k.fin ∙ l.marks;
      stack = k.st ∙ l.stack;
      slots = k.sl ∙ l.slots;
      loose = λ J H. let L = l.loose J H in loose-more L (ring_out (loose-held H L) C t.ensures);
      state = dfs-lighter D (omega (arith, t.auto.loads, l.loads, p.room.whole)) M.less;
    }
