-- `loads::origin` meets its contract: the byte's link and way name the row of the dart, and the owner its cell. Assumes nothing.
use mathlib.Core.Path.{sym, ap, ◌∙◌}
use Prim.Native.Nat.{ℕ, ◌/◌}
use native.Mathlib.Omega.{arith}
use lib.Dec.{ltb}
use Rattle.channel.specs.Map.Bounds.{owner-bound}
use Rattle.channel.specs.Map.{seat_of}
use Rattle.channel.specs.Map.Origins.{origin-none, origin-at}
use Rattle.channel.proofs.loads.origin.Goals as goal

pub returns-then-b-eq0 : goal.returns-then-b-eq0
returns-then-b-eq0 c = origin-none _ _ (sym c.wide-b.ensures.0 ∙ c.if-b-eq0.true)

pub overflow_sub-result : goal.overflow_sub-result
overflow_sub-result c = omega (arith, owner-bound c.seat_of-j.result c.seat_of-j.ensures.1, c.owner_of.ensures)

pub returns : goal.returns
returns c =
    let s = c.args in
    let w = c.wide-b.ensures.0 in
    origin-at s.rec.now s.i (λ e. c.if-b-eq0.false (w ∙ e)) _ _
    (c.seat_of-j.ensures.0 ∙ ap (λ (b : ℕ). seat_of (s.i / 1600) (ltb b 32)) w) c.owner_of.ensures
