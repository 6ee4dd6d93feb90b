-- `first::first_total` meets its contract: n is the sum over the spots passed. Assumes nothing.
use mathlib.Core.Path.{◌≡◌, refl, sym, ap, ◌∙◌}
use Prim.Native.Nat.{ℕ, ◌+◌, ◌*◌}
use native.Mathlib.Omega.{arith}
use Rattle.sums.specs.Counting.{sum}
use Rattle.model.specs.Record.{job_of}
use Rattle.channel.specs.Map.{spots, want}
use Rattle.channel.specs.Map.Numbers.{spots-is}
use Rattle.search.specs.Routing.{sum-next}
use Rattle.shortest.specs.FirstPrices.{first_price}
use Rattle.shortest.proofs.first.first_total.Goals as goal

pub overflow_add-n : goal.overflow_add-n
overflow_add-n c = omega (arith, spots-is, c.first_due-n.ensures.1)

pub loop-u-init : goal.loop-u-init
unfolding sum
loop-u-init c = (omega arith, omega arith, refl)

pub loop-u-preserved : goal.loop-u-preserved
loop-u-preserved c =
    let l = c.loop-u in
    let r = c.first_due-n.ensures in
    let J = job_of c.args.job.now in
    let f : ℕ → ℕ = λ x. first_price J x * want J x in
    (omega (arith, spots-is), omega (arith, r.1), (λ i. l.invariant.2 i + r.0 i) ∙ sym (sum-next l.u f))

pub returns : goal.returns
returns c =
    let l = c.loop-u in
    let J = job_of c.args.job.now in
    let f : ℕ → ℕ = λ x. first_price J x * want J x in
    let e : l.u ≡ spots = omega (arith, spots-is) in
    l.invariant.2 ∙ ap (λ (m : ℕ). sum m f) e
