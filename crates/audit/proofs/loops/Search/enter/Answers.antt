-- `enter` meets its contract. Assumes nothing.
use lib.ListN.{set}
use mathlib.Core.Path.{refl, ap}
use Prim.Native.Nat.{ℕ, ◌*◌}
use native.Mathlib.Omega.{arith}
use Rattle.channel.specs.Map.LoadedSlots.{from-small}
use Rattle.channel.specs.Map.Numbers.{spots-is}
use Rattle.audit.specs.Loops.Turns.{aimed-space, entered}
use Rattle.audit.proofs.loops.Search.enter.Goals as goal

pub overflow_cast-self : goal.overflow_cast-self
overflow_cast-self c = omega (arith, spots-is, c.requires.spot)

pub bounds-self-n : goal.bounds-self-n
bounds-self-n c = omega (arith, aimed-space c.requires, c.requires.state.room.stack)

pub loaded_slots-requires : goal.loaded_slots-requires
loaded_slots-requires c = (c.requires.state.room.whole, omega (arith, spots-is, c.requires.spot))

pub overflow_mul-self : goal.overflow_mul-self
overflow_mul-self c = omega (arith, c.loaded_slots.ensures, from-small c.args.rec.now c.args.v 0)

pub overflow_cast-self-2 : goal.overflow_cast-self-2
overflow_cast-self-2 c = omega (arith, c.loaded_slots.ensures, from-small c.args.rec.now c.args.v 0)

pub bounds-self-n-2 : goal.bounds-self-n-2
bounds-self-n-2 c = omega (arith, aimed-space c.requires, c.requires.state.room.slots)

pub returns-clause-standing : goal.returns-clause-standing
returns-clause-standing c = entered c.requires _ c.loaded_slots.ensures

pub returns-clause-entered : goal.returns-clause-entered
returns-clause-entered c =
    record {
      marks = refl;
      stack = refl;
      slots = ap (λ (x : ℕ). set c.args.self.now.sl.now c.args.self.now.height (8 * x)) c.loaded_slots.ensures;
    }
