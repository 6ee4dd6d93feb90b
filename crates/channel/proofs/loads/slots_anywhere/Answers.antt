-- `loads::slots_anywhere` meets its contract: from the last slot down to the first, by what each carries. Assumes nothing.
use mathlib.Core.Path.{sym, ap, ◌∙◌}
use Prim.Native.Nat.{ℕ, ◌+◌, ◌*◌}
use native.Mathlib.Omega.{arith}
use lib.Dec.{ltb}
use Rattle.channel.specs.Map.Laden.{load-test}
use Rattle.channel.specs.Map.LoadedSlots.{from_end, from-small, from-before}
use Rattle.channel.proofs.loads.slots_anywhere.Goals as goal

pub loop-k-init : goal.loop-k-init
loop-k-init c = (omega arith, sym (from_end _ _ 5 (omega arith)))

pub overflow_mul-r : goal.overflow_mul-r
overflow_mul-r c =
    let s = c.args in
    omega (arith, c.loop-k.invariant.1, from-small s.rec.now s.u c.loop-k.k)

pub overflow_add-r : goal.overflow_add-r
overflow_add-r c =
    let l = c.loop-k in
    let s = c.args in
    omega (arith, l.invariant.1, from-small s.rec.now s.u l.k, c.bit.ensures.1)

pub loop-k-preserved : goal.loop-k-preserved
loop-k-preserved c =
    let l = c.loop-k in
    let s = c.args in
    let t = c.loop-k-test.true in (
      omega (arith, l.invariant.0),
      ap (λ (x : ℕ). 2 * l.r + x) c.bit.ensures.0
          ∙ from-before s.rec.now s.u l.k l.r _ t l.invariant.0 l.invariant.1 (load-test c.carried.result ∙ ap (ltb 0) c.carried.ensures.0),
    )
