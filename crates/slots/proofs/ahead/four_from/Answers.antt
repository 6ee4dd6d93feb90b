-- `ahead::four_from` meets its contract: the bits are the four answers. Assumes nothing.
use mathlib.Core.Path.{ap, ◌∙◌}
use Prim.Native.Nat.{ℕ, ◌/◌}
use native.Mathlib.Omega.{arith}
use Rattle.channel.specs.Map.{rev}
use Rattle.slots.specs.Ahead.{unset, four-bits}
use Rattle.slots.proofs.ahead.four_from.Goals as goal

pub returns : goal.returns
returns c =
    let m = c.args.marks.now in
    four-bits (c.bare-a.ensures.0 ∙ ap (unset m) (c.head_of.ensures.0 ∙ ap (λ (d : ℕ). rev d / 8) (omega arith)))
    (c.bare-b.ensures.0 ∙ ap (unset m) c.head_of-2.ensures.0) (c.bare-c.ensures.0 ∙ ap (unset m) c.head_of-3.ensures.0)
    (c.bare-e.ensures.0 ∙ ap (unset m) c.head_of-4.ensures.0) c.bare-a.ensures.1 c.bare-b.ensures.1 c.bare-c.ensures.1
    c.bare-e.ensures.1
