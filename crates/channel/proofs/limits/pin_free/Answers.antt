-- `limits::pin_free` meets its contract: the pin is missing, and the leg leads into an open tile. Assumes nothing.
use mathlib.Core.Path.{◌≡◌, sym, ◌∙◌}
use mathlib.Core.Bool.{true, false}
use Prim.Native.Nat.{◌%◌}
use native.Mathlib.Omega.{arith}
use borrow.Author.Tests.{eq-eqb, ne_eqb}
use lib.Dec.{eqb}
use Rattle.model.specs.Record.{job_of}
use Rattle.channel.specs.Map.{owner_mark}
use Rattle.channel.specs.Map.Codes.{leg-kind, six-seven}
use Rattle.channel.specs.Map.Caps.{free-pin}
use Rattle.channel.proofs.limits.pin_free.Goals as goal

pub returns-then-leg_mark-ne2 : goal.returns-then-leg_mark-ne2
returns-then-leg_mark-ne2 c =
    let s = c in
    let n : eqb (owner_mark (job_of s.args.job.now) s.args.d) 2 ≡ false = ne_eqb _ _ (λ q. c.if-leg_mark-ne2.true (c.leg_mark.ensures ∙ q)) in
    rw (free-pin (job_of s.args.job.now) s.args.d (six-seven _ s.requires.2), n)

pub leg_way-requires : goal.leg_way-requires
leg_way-requires c =
    omega (arith, leg-kind (c.args.d % 64) (omega arith) c.requires.2)

pub returns : goal.returns
returns c =
    let s = c in
    let n : eqb (owner_mark (job_of s.args.job.now) s.args.d) 2 ≡ true = eq-eqb _ _
    (sym c.leg_mark.ensures ∙ c.if-leg_mark-ne2.false) in
    rw (free-pin (job_of s.args.job.now) s.args.d (six-seven _ s.requires.2), n) c.leg_way.ensures
