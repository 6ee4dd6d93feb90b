-- `route::unwired` meets its contract: n counts the spots passed at which a wire is wanted and none starts. Assumes nothing.
use mathlib.Core.Path.{◌≡◌, refl, sym, ap, ◌∙◌}
use Prim.Native.Nat.{ℕ, ◌+◌, ◌-◌}
use native.Mathlib.Omega.{arith}
use Rattle.sums.specs.Counting.{sum}
use Rattle.model.specs.Record.{job_of}
use Rattle.channel.specs.Map.Numbers.{spots-is}
use Rattle.channel.specs.Map.{spots, want, starts}
use Rattle.search.specs.Routing.{sum-next}
use Rattle.search.proofs.route.unwired.Goals as goal

pub lacks-n-requires : goal.lacks-n-requires
lacks-n-requires c =
    let p = c.requires in
    (record { asked = p.asked; loads = omega arith }, omega (arith, spots-is))

pub loop-u-init : goal.loop-u-init
unfolding sum
loop-u-init c = (omega arith, omega arith, refl)

pub loop-u-preserved : goal.loop-u-preserved
loop-u-preserved c =
    let l = c.loop-u in
    let r = c.lacks-n.ensures in
    let J = job_of c.args.job.now in
    let f : ℕ → ℕ = λ x. want J x - starts J c.args.loads.now x in
    (omega (arith, spots-is), omega (arith, r.1), (λ i. l.invariant.2 i + r.0 i) ∙ sym (sum-next l.u f))

pub returns : goal.returns
returns c =
    let l = c.loop-u in
    let J = job_of c.args.job.now in
    let f : ℕ → ℕ = λ x. want J x - starts J c.args.loads.now x in
    let e : l.u ≡ spots = omega (arith, spots-is) in
    l.invariant.2 ∙ ap (λ (m : ℕ). sum m f) e
