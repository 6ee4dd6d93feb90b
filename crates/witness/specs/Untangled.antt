-- Loops are taken out one after the other until none stands: the total load falls each time. Assumes nothing.
use Rattle.std.specs.Prelude.{refl, ◌⊎◌, List, ◌∷◌, map, ℕ, zero, suc, ◌≤◌}
use Rattle.std.proofs.Common.{inl, inr, le_refl, arith}
use Rattle.model.specs.Job.{Job}
use Rattle.channel.specs.Map.{rev}
use Rattle.augment.specs.Laid.{laid_all}
use Rattle.search.specs.Unlooped.{total_load, Lighter, takes_out}
use Rattle.augment.specs.Pins.{Held}
use Rattle.search.specs.Loose.{Loosened}
use Rattle.search.specs.Rings.{loose_none, loose-held, loose-more}
use Rattle.witness.specs.Damage.{LoopFree, LoadedRing, loops?}

module _ (J : Job) (rec : List ℕ) (H : Held J rec) where
  -- the wires of rec's pins, and no loop
  pub record Loopless : Type 0 where
    pub loads : List ℕ
    pub loose : Loosened J rec loads
    pub free : LoopFree J loads

  -- no loop stands, or there are loads with less
  untie : (now : List ℕ) → Loosened J rec now → ((less : List ℕ) → Lighter J now less → Loopless) → Loopless
  untie now L more = by (loops? J now H.fits L.feasible)
    where
      by : LoopFree J now ⊎ LoadedRing J now → Loopless
      by (inl f) = record { loads = now; loose = L; free = f }
      by (inr (u, d, ds, p)) =
          let K : Held J now = loose-held H L in
          more (laid_all now (map rev (d ∷ ds)))
          (takes_out J K.fits now K.feasible K.caps K.long K.bytes u d ds p (map rev (d ∷ ds)) (λ x. refl))

  unties : (k : ℕ) (now : List ℕ) → Loosened J rec now → total_load now ≤ k → Loopless
  unties zero now L h = untie now L (λ less M. absurd (omega (arith, M.falls)))
  unties (suc k) now L h = untie now L (λ less M. unties k less (loose-more L M) (omega (arith, M.falls)))

  pub loopless : Loopless
  loopless = unties (total_load rec) rec (loose_none H) (le_refl (total_load rec))
