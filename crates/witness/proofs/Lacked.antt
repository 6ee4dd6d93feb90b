-- The shortfall of a legal record, by the greatest number. Assumes nothing.
use Rattle.std.specs.Prelude.{refl, List, ℕ, ◌-◌, ◌≤◌, length}
use Rattle.std.proofs.Common.{arith}
use Rattle.std.proofs.Math.Decide.{dec_le}
use Rattle.model.specs.Route.{chosen_count}
use Rattle.model.specs.Record.{record_size, scratch_size, job_of, Legal}
use Rattle.model.specs.Calls.{refused, lacks, After, after, cleared, Shown, Lacks}
use Rattle.witness.specs.Most.{Most, most}
use Rattle.witness.proofs.Shown.{shown}

module _ (rec : List ℕ) where
  pub lacked : (scratch output : List ℕ) → Legal rec → (a : After) × Lacks scratch output rec a
  lacked scratch output g = by (dec_le scratch_size (length scratch)) (dec_le record_size (length output)) (shown rec output M)
    where
      M : Most (job_of rec)
      M = most rec g

      by : Dec (scratch_size ≤ length scratch) → Dec (record_size ≤ length output) → (output' : List ℕ) × Shown (job_of rec) M.g output output'
          → (a : After) × Lacks scratch output rec a
      by (no n) d s = (
        after (refused 8) rec scratch output,
        record { small = λ h. refl; narrow = λ h. absurd (n h); enough = λ h. absurd (n h) },
      )
      by (yes l) (no n) s = (
        after (refused 7) rec scratch output,
        record { small = λ h. absurd (omega arith); narrow = λ h o. refl; enough = λ h o. absurd (n o) },
      )
      by (yes l) (yes m) (output', s) = (
        after (lacks (chosen_count (job_of rec) - M.g)) rec (cleared scratch) output',
        record {
          small = λ h. absurd (omega arith);
          narrow = λ h o. absurd (omega arith);
          enough = λ h o. (M.g, M.greatest, refl, s, refl, refl);
        },
      )
