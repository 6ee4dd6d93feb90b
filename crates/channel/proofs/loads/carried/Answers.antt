-- `loads::carried` meets its contract: a dart carries the load of its step, or what passes its place, or nothing. Assumes nothing.
use mathlib.Core.Path.{sym, ◌∙◌, ap}
use Prim.Native.Nat.{◌%◌}
use native.Mathlib.Omega.{arith}
use Rattle.channel.specs.Map.{carries}
use Rattle.channel.specs.Map.Bounds.{code-bound}
use Rattle.channel.specs.Map.Bytes.{view-link, view-pass, view-none}
use Rattle.channel.proofs.loads.carried.Goals as goal

pub carries_load-requires : goal.carries_load-requires
carries_load-requires c = omega (arith, code-bound (c.args.d % 64) (omega arith), c.code_of.ensures)

pub returns-then-carries_load : goal.returns-then-carries_load
returns-then-carries_load c =
    let s = c in (
      c.load_along.ensures.0
          ∙ view-link s.args.rec.now s.args.d
          (ap carries (sym c.code_of.ensures) ∙ sym c.carries_load.ensures ∙ c.if-carries_load.true),
      omega arith,
    )

pub returns-then-is_pass_dart : goal.returns-then-is_pass_dart
returns-then-is_pass_dart c =
    let k = c in (
      c.passing.ensures.0
          ∙ view-pass c.args.rec.now c.args.d
          (ap carries (sym k.code_of.ensures) ∙ sym c.carries_load.ensures ∙ c.if-carries_load.false)
          (sym c.is_pass_dart.ensures ∙ c.if-is_pass_dart.true),
      omega arith,
    )

pub returns : goal.returns
returns c =
    let k = c in (
      view-none c.args.rec.now c.args.d
          (ap carries (sym k.code_of.ensures) ∙ sym c.carries_load.ensures ∙ c.if-carries_load.false)
          (sym c.is_pass_dart.ensures ∙ c.if-is_pass_dart.false),
      omega arith,
    )
