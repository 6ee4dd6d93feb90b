-- `places::wires_in` meets its contract: a dart whose code carries a load has its link's, another none. Assumes nothing.
use mathlib.Core.Path.{sym, ap, ◌∙◌}
use Prim.Native.Nat.{◌%◌}
use native.Mathlib.Omega.{arith}
use Rattle.channel.specs.Map.{carries}
use Rattle.channel.specs.Map.Bounds.{code-bound}
use Rattle.channel.specs.Map.Entered.{against-wires, no-wires}
use Rattle.channel.proofs.places.wires_in.Goals as goal

pub carries_load-requires : goal.carries_load-requires
carries_load-requires c = omega (arith, code-bound (c.args.d % 64) (omega arith), c.code_of.ensures)

pub returns-then-carries_load : goal.returns-then-carries_load
returns-then-carries_load c =
    against-wires c.args.rec.now c.args.d _
    (ap carries (sym c.code_of.ensures) ∙ sym c.carries_load.ensures ∙ c.if-carries_load.true)
    c.load_against.ensures.0

pub returns : goal.returns
returns c =
    no-wires c.args.d 0 _ (ap carries (sym c.code_of.ensures) ∙ sym c.carries_load.ensures ∙ c.if-carries_load.false)
