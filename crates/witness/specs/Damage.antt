-- Every record is legal or it is not: the tests of its bytes are decided one by one, and then either an order of the spots excludes loops or a closed path
-- of loaded darts is one. Assumes nothing.
use Rattle.std.specs.Prelude.{refl, ◌⊎◌, Bool, true, false, List, ◌∷◌, ℕ, ◌≤◌, ◌<◌, T, ltb, length}
use Rattle.std.proofs.Common.{ap, inl, inr, arith, ltb→lt, lt→ltb}
use Rattle.std.proofs.Math.Decide.{map_dec, dec_le}
use Rattle.flow.specs.Network.{head, Path, path-map}
use Rattle.flow.specs.Cancel.{Loaded}
use Rattle.model.specs.Job.{Job, array_fits}
use Rattle.model.specs.Links.{Place, Step}
use Rattle.model.specs.Loads.{Feasible, Trail}
use Rattle.model.specs.Record.{record_size, job_of, load, Legal}
use Rattle.channel.specs.Map.{view}
use Rattle.channel.specs.Map.Network.{net, net-tail, net-head, dart-net}
use Rattle.channel.specs.Map.Network.Loops.{ranked-loops, path-loop}
use Rattle.cell.specs.Unused.{unused_clear}
use Rattle.audit.specs.Feasible.{FeasibleRecord, decides-yes, decides-no}
use Rattle.audit.specs.Laws.{numbers_fit, cell_fits, numbers_fit_lem, unused-clear, cells-decide}
use Rattle.audit.specs.Legal.{legal-feasible}
use Rattle.witness.specs.Decide.{all?, test?}
use Rattle.witness.specs.Rings.{reach_count, Ring, order-or-ring}

-- ---- loops

module _ (J : Job) (rec : List ℕ) where
  -- no closed chain of loaded links
  abbrev pub LoopFree : Type 0
  LoopFree = (x : Place) (s : Step) (ss : List Step) → Trail J (load rec) x (s ∷ ss) x → ⊥

  -- a closed path of loaded darts
  abbrev pub LoadedRing : Type 0
  LoadedRing = (u : ℕ) × (d : ℕ) × (ds : List ℕ) × Path (net J) (Loaded (view rec)) (d ∷ ds) u u

  pub loops? : T (array_fits J.rows J.columns) → Feasible J (load rec) → LoopFree ⊎ LoadedRing
  loops? fits feasible = by (order-or-ring (net J) loaded)
    where
      loaded : ℕ → Bool
      loaded d = ltb 0 (view rec d)

      by : ((d : ℕ) → d < (net J).darts → T (loaded d) → reach_count (net J) loaded (head (net J) d) < reach_count (net J) loaded ((net J).tail d))
          ⊎ Ring (net J) loaded
          → LoopFree ⊎ LoadedRing
      by (inl f) =
          inl (ranked-loops J fits rec feasible (reach_count (net J) loaded)
          (λ d l h.
          omega (
            arith,
            f d (dart-net J l) (lt→ltb 0 (view rec d) h),
            ap (reach_count (net J) loaded) (net-head J d),
            ap (reach_count (net J) loaded) (net-tail J d),
          )))
      by (inr (u, d, ds, p)) = inr (u, d, ds, path-map (λ x l m t. ltb→lt 0 (view rec x) t) p)

-- ---- the tests

module _ (rec : List ℕ) where
  feasible? : Dec (FeasibleRecord rec)
  feasible? = by (dec_le record_size (length rec)) (test? (numbers_fit rec)) (test? (unused_clear rec)) cells?
    where
      Cells : Type 0
      Cells = (r c : ℕ) → r < 40 → c < 40 → T (cell_fits rec r c)

      cells? : Dec Cells
      cells? =
          map_dec (λ f r c l m. f r l c m) (λ f r l c m. f r c l m)
          (all? (λ r. (c : ℕ) → c < 40 → T (cell_fits rec r c)) (λ r. all? (λ c. T (cell_fits rec r c)) (λ c. test? (cell_fits rec r c)) 40) 40)

      by : Dec (record_size ≤ length rec) → Dec (T (numbers_fit rec)) → Dec (T (unused_clear rec)) → Dec Cells → Dec (FeasibleRecord rec)
      by (no h) n u f = no (λ g. h g.long)
      by (yes l) (no h) u f = no (λ g. h (numbers_fit_lem rec g))
      by (yes l) (yes n) (no h) f = no (λ g. h (unused-clear rec g))
      by (yes l) (yes n) (yes u) (no h) = no ((cells-decide rec false l n u (decides-no h)).no refl)
      by (yes l) (yes n) (yes u) (yes f) = yes ((cells-decide rec true l n u (decides-yes f)).yes refl)

  pub legal? : Dec (Legal rec)
  legal? = by feasible?
    where
      looped : (g : FeasibleRecord rec) → LoopFree (job_of rec) rec ⊎ LoadedRing (job_of rec) rec → Dec (Legal rec)
      looped g (inl f) =
          yes (record { long = g.long; values = g.values; sound = record { feasible = g.feasible; loops = f }; unused = g.unused })
      looped g (inr (u, d, ds, p)) =
          no (λ h. let (x, s, ss, t) = path-loop (job_of rec) g.values.array rec g.feasible u d ds p in h.sound.loops x s ss t)

      by : Dec (FeasibleRecord rec) → Dec (Legal rec)
      by (no h) = no (λ g. h (legal-feasible rec g))
      by (yes g) = looped g (loops? (job_of rec) rec g.values.array g.feasible)
