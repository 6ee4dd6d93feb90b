-- `first::ring` meets its contract. Assumes nothing.
use mathlib.Core.Path.{◌∙◌, ap}
use Prim.Native.Nat.{ℕ, ◌+◌, ◌-◌, min}
use native.Mathlib.Omega.{arith}
use Rattle.shortest.specs.Rings.{least4-is}
use Rattle.shortest.proofs.first.ring.Goals as goal

pub returns : goal.returns
returns c =
    let s = c.args in
    let r = s.r in
    let k = s.k in
    let south = c.beyond-south.ensures ∙ ap (λ (x : ℕ). x - (k + r)) c.rows.ensures.0 in
    let east = c.beyond-east.ensures ∙ ap (λ (x : ℕ). x - (k + s.c)) c.columns.ensures.0 in (
      c.min-3.ensures
          ∙ (λ i. min (c.min.ensures i) (c.min-2.ensures i))
          ∙ (λ i. min (min r s.c) (min (south i) (east i)))
          ∙ least4-is r s.c _ _,
      omega (arith, c.min-3.ensures, c.min.ensures, c.requires.1),
    )
