-- The quotient and the remainder by the law of division, the diagonal count and the smaller number by what the callees say. Assumes nothing.
use Rattle.std.proofs.Common.{◌≡◌, sym, subst, ◌∙◌, ℕ, ◌+◌, ◌-◌, ◌*◌, T, arith}
use Rattle.sums.specs.Tests.{so}
use Rattle.rules.specs.Rules.{across, outside, given}
use Rattle.rules.proofs.Quotient.{divided}
use Rattle.rules.proofs.spaced.Goals as goal

pub returns : goal.returns
returns c =
    let a = c.args in
    let k = c.largest-count.ensures.0 in
    let x : ℕ = across a.d a.w a.s c.largest-count.result in
    let l : x * x + (2 * a.p * a.p - c.square.result) ≡ 2 * a.p * a.p = omega (arith, c.square.ensures, k.passes) in
    given _ c.requires.0 c.requires.2 (so (sym c.in_range.ensures ∙ c.if-not-in_range.false))
    (record {
      orthogonal = divided (a.p - a.d - a.s) (a.w + a.s) (omega arith);
      count = k;
      left = l;
      diagonal = c.min-diagonal.ensures;
    })

pub returns-then-not-in_range : goal.returns-then-not-in_range
returns-then-not-in_range c =
    let a = c.args in
    outside _ _ c.requires.0 c.requires.2 (divided (a.p - a.d - a.s) (a.w + a.s) (omega arith)) (λ t. subst T (sym c.in_range.ensures ∙ c.if-not-in_range.true) t)
