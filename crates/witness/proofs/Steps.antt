-- The step, with its scratch. Assumes nothing.
use Rattle.std.specs.Prelude.{refl, List, [], ℕ, ◌≤◌, length}
use Rattle.std.proofs.Common.{arith}
use Rattle.std.proofs.Math.Decide.{dec_le}
use Rattle.model.specs.Record.{scratch_size, Legal}
use Rattle.model.specs.Calls.{Answer, refused, After, after, cleared, Stepped, Steps}
use Rattle.witness.proofs.Stepped.{stepped}

module _ (rec : List ℕ) where
  pub steps : (scratch : List ℕ) → Legal rec → (a : After) × Steps scratch rec a
  steps scratch g = by (dec_le scratch_size (length scratch)) (stepped rec g)
    where
      by : Dec (scratch_size ≤ length scratch) → (w : Answer) × (rec' : List ℕ) × Stepped rec w rec' → (a : After) × Steps scratch rec a
      by (no n) s = (after (refused 8) rec scratch [], record { small = λ h. refl; enough = λ h. absurd (n h) })
      by (yes l) (w, rec', s) = (after w rec' (cleared scratch) [], record { small = λ h. absurd (omega arith); enough = λ h. (s, refl, refl) })
