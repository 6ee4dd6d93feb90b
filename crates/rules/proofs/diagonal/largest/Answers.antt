-- Where the bisection begins, and where it ends: k passes and the next number does not, so k is the largest. Assumes nothing.
use Rattle.std.proofs.Common.{◌≡◌, ◌+◌, ◌-◌, ◌≤◌, arith}
use Rattle.rules.proofs.Across.{passes-less, largest_step, none_passes, bound-within, bound-fails}
use Rattle.rules.proofs.diagonal.largest.Goals as goal

pub loop-k-init : goal.loop-k-init
loop-k-init c =
    let a = c.args in
    (omega arith, omega arith, none_passes a.p a.d a.w a.s c.requires.1, bound-fails a.p a.d a.w a.s c.requires.0)

pub returns : goal.returns
returns c =
    let a = c.args in
    let l = c.loop-k in
    let e : l.k ≡ l.over - 1 = omega arith in
    let n : l.over ≤ l.over - 1 + 1 = omega arith in (
      largest_step a.p a.d a.w a.s (l.over - 1) (rw e at l.invariant.2) (λ h. omega (arith, passes-less a.p a.d a.w a.s n h)),
      bound-within a.p a.d a.w a.s c.requires.0 (l.over - 1) (omega arith),
    )
