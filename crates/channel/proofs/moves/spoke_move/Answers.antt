-- `moves::spoke_move` meets its contract: the dart is free, and no wire goes the other way. Assumes nothing.
use mathlib.Core.Path.{sym, ap₂, ◌∙◌}
use mathlib.Core.Bool.{Bool, ◌&&◌}
use Prim.Native.Nat.{ℕ}
use lib.Dec.{eqb}
use Rattle.model.specs.Record.{job_of}
use Rattle.channel.specs.Map.Numbers.{is-dart}
use Rattle.channel.specs.Map.Codes.{three-four}
use Rattle.channel.specs.Map.Moving.{spoke-moves}
use Rattle.channel.proofs.moves.spoke_move.Goals as goal

pub returns : goal.returns
returns c =
    ap₂ (λ (b : Bool) (n : ℕ). b && eqb n 0) c.centre_free.ensures c.load_against.ensures.0
    ∙ sym (spoke-moves (job_of c.args.job.now) c.args.loads.now c.args.d (is-dart c.requires.2) (three-four _ c.requires.3))
