-- `header::diagonal_at` meets its contract: the byte of the tile's own D, or the job's where that is 0. Assumes nothing.
use mathlib.Core.Path.{sym, ◌∙◌}
use native.Mathlib.Omega.{arith}
use Rattle.channel.specs.Own.{tile-none, tile-own}
use Rattle.channel.proofs.header.diagonal_at.Goals as goal

pub returns-then-own-eq0 : goal.returns-then-own-eq0
returns-then-own-eq0 c =
    let z = sym c.wide-own.ensures.0 ∙ c.if-own-eq0.true in (
      c.diagonal.ensures.0 ∙ tile-none c.args.rec.now c.args.x (omega arith) (omega arith) z,
      c.diagonal.ensures.1,
    )

pub returns-else-own-eq0 : goal.returns-else-own-eq0
returns-else-own-eq0 c =
    let s = c in (
      c.wide-own.ensures.0
          ∙ tile-own s.args.rec.now s.args.x (omega arith) (omega arith) (λ z. c.if-own-eq0.false (c.wide-own.ensures.0 ∙ z)),
      c.wide-own.ensures.1,
    )
