-- A record is legal exactly where it is feasible and no loop stands. Assumes nothing.
use Rattle.std.specs.Prelude.{Bool, not, List, ℕ}
use Rattle.std.proofs.lemmas.Bool.{not-true, not-false}
use Rattle.model.specs.Record.{job_of, Legal}
use Rattle.audit.specs.Feasible.{FeasibleRecord, Decides}
use Rattle.audit.specs.Loops.{LoopStands}

module _ (rec : List ℕ) where
  pub legal-feasible : Legal rec → FeasibleRecord rec
  legal-feasible g = record { long = g.long; values = g.values; feasible = g.sound.feasible; unused = g.unused }

  -- of a feasible record, the loops decide
  pub loops-decide : (b : Bool) → FeasibleRecord rec → LoopStands rec b → Decides (Legal rec) (not b)
  loops-decide b g l =
      record {
        yes = λ e.
            record {
              long = g.long;
              values = g.values;
              sound = record { feasible = g.feasible; loops = l.no (not-true b e) (job_of rec) g.values.array g.feasible };
              unused = g.unused;
            };
        no = λ e h.
            let (x, s, ss, t) = l.yes (not-false b e) (job_of rec) g.values.array g.feasible in
            h.sound.loops x s ss t;
      }
