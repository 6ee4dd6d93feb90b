-- `count_wires` meets its contract. The loop's invariant: n wires start at the pins of the cells before x, at most one at each. Assumes nothing.
use mathlib.Core.Path.{◌≡◌, refl, sym, ap, ◌∙◌}
use Prim.Native.Nat.{ℕ, ◌+◌, ◌*◌, ◌<◌}
use native.Mathlib.Omega.{arith}
use Rattle.sums.specs.Counting.{sum}
use Rattle.model.specs.Record.{job_of}
use Rattle.channel.specs.Map.{starts}
use Rattle.channel.specs.Map.Laying.{not_start, starts_none}
use Rattle.channel.specs.Map.PinSums.{sum-pins}
use Rattle.channel.specs.Map.Network.Flows.{starts-count}
use Rattle.listing.specs.Counts.{starts-one, starts_more}
use Rattle.listing.proofs.wires.count_wires.Goals as goal

pin-spot : (x : ℕ) → x < 1641 → 8 * x + 1 < 13128
pin-spot x l = omega arith

pub overflow_add-n : goal.overflow_add-n
overflow_add-n c =
    omega (arith, c.wire_starts-n.ensures, starts-one c.args.rec.now c.requires (8 * c.loop-x.x + 1) (pin-spot _ c.loop-x-test.true))

pub loop-x-init : goal.loop-x-init
unfolding sum
loop-x-init c = (omega arith, omega arith, refl)

pub loop-x-preserved : goal.loop-x-preserved
loop-x-preserved c =
    let rec = c.args.rec.now in
    let l = c.loop-x in
    let e = c.wire_starts-n.ensures in (
      omega arith,
      omega (arith, e, starts-one rec c.requires (8 * l.x + 1) (pin-spot _ c.loop-x-test.true)),
      starts_more (λ x. starts (job_of rec) rec (8 * x + 1)) l.n l.x _ l.invariant.2 e,
    )

pub returns : goal.returns
returns c =
    let rec = c.args.rec.now in
    let J = job_of rec in
    let l = c.loop-x in
    let e : l.x ≡ 1641 = omega arith in
    l.invariant.2 ∙ ap (λ (k : ℕ). sum k (λ x. starts J rec (8 * x + 1))) e
    ∙ sym (sum-pins (starts J rec) (λ u n. sym (starts_none J u rec (sym (not_start J u n)))))
    ∙ starts-count J c.requires.values.array rec c.requires.sound.feasible
