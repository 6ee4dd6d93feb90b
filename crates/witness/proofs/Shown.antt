-- The near side that a shortfall leaves in the output. Assumes nothing.
use Rattle.std.specs.Prelude.{refl, List, ℕ, ◌<◌}
use Rattle.std.proofs.Common.{arith}
use Rattle.std.proofs.Math.Decide.{dec_lt}
use Rattle.model.specs.Route.{chosen_count}
use Rattle.model.specs.Record.{job_of, over}
use Rattle.model.specs.Calls.{near_bytes, Shown, none-short, side}
use Rattle.witness.specs.Most.{Most}

module _ (rec : List ℕ) where
  pub shown : (output : List ℕ) (M : Most (job_of rec)) → (output' : List ℕ) × Shown (job_of rec) M.g output output'
  shown output M = by (dec_lt M.g (chosen_count (job_of rec)))
    where
      by : Dec (M.g < chosen_count (job_of rec)) → (output' : List ℕ) × Shown (job_of rec) M.g output output'
      by (yes l) = (over (near_bytes M.near) output, side l M.near M.smallest refl)
      by (no n) = (output, none-short (omega (arith, M.le)) refl)
