-- Document 01, "The listing": what the program prints for a text: the refusal, or of the job with every wire that fits the wires or the near side.
-- Assumes nothing.
use Rattle.std.specs.Prelude.{◌≡◌, refl, ◌≢◌, List, ℕ, ◌-◌, ◌<◌}
use Rattle.std.proofs.Common.{ap₂, subst, arith}
use Rattle.model.specs.Job.{Job}
use Rattle.model.specs.Route.{Greatest, chosen_count}
use Rattle.model.specs.Record.{job_of, load, Legal, over, unwired_record}
use Rattle.model.specs.Text.{reads, wrong_at, Reading}
use Rattle.model.specs.Length.{LeastLength, held_length}
use Rattle.model.specs.Listing.{wires_listing}
use Rattle.model.specs.Calls.{wires_in, Shown}
use Rattle.model.proofs.Empty.{greatest-le-chosen}
use Rattle.model.proofs.Over.{anew-job}
use Rattle.model.proofs.TextProper.{reading-proper}
use Rattle.search.specs.Outcome.{RoutedAll}
use Rattle.shortest.specs.Wiring.{RoutedLeast}
use Rattle.listing.specs.Near.{short_listing, refused_listing}

-- "steps to the end": the wires of a record in which all chosen pins are wired, with the least total length (K8), or the near side and how many cannot be
pub data Lists (J : Job) (bytes : List ℕ) : Type 0 where
  wires : (rec : List ℕ) → Legal rec → job_of rec ≡ J → wires_in rec ≡ chosen_count J → LeastLength J (held_length J (load rec))
      → bytes ≡ wires_listing (job_of rec) (load rec) → Lists J bytes
  lacks : (g : ℕ) (near near' : List ℕ) → Greatest J g → g < chosen_count J → Shown J g near near' → bytes ≡ short_listing J near' (chosen_count J - g)
      → Lists J bytes

pub data Prints (text bytes : List ℕ) : Type 0 where
  refused : (o : ℕ) → Reading text (wrong_at o) → bytes ≡ refused_listing o → Prints text bytes
  routed : (J : Job) → Reading text (reads J) → Lists J bytes → Prints text bytes

module _ {rec rec' near near' : List ℕ} {k : ℕ} (L : RoutedLeast rec rec' near near' k) where
  abbrev R : RoutedAll rec rec' near near' k
  R = L.routed

  pub lists-wires : k ≡ 0 → Lists (job_of rec) (wires_listing (job_of rec') (load rec'))
  lists-wires z =
      wires rec' R.legal R.job (omega (arith, R.lacks, greatest-le-chosen (job_of rec) (wires_in rec') R.greatest)) (L.least z) refl

  pub lists-lacks : k ≢ 0 → Lists (job_of rec) (short_listing (job_of rec') near' k)
  lists-lacks n =
      lacks (wires_in rec') near near' R.greatest (omega (arith, R.lacks)) R.shown (ap₂ (λ (J : Job) (m : ℕ). short_listing J near' m) R.job R.lacks)

-- the record that a text is read into has its job
pub prints-routed : (text rec old bytes : List ℕ) → (K : Job) × Reading text (reads K) × (rec ≡ over (unwired_record K) old) → Lists (job_of rec) bytes
    → Prints text bytes
prints-routed text rec old bytes (K, r, e) l =
    routed K r
    (subst (λ (J : Job). Lists J bytes) (anew-job K (reading-proper text K r) old)
    (subst (λ (x : List ℕ). Lists (job_of x) bytes) e l))
