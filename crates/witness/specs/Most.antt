-- Document 01, "Shortfall": wires are added until no more fits. Each is a chosen pin's, so there is an end, and there stand the greatest number and the
-- smallest near side of the job. Assumes nothing.
use Rattle.std.proofs.Common.{ap, subst, inl, inr, arith}
use Rattle.std.specs.Prelude.{◌⊎◌, Bool, ◌&&◌, List, ℕ, zero, suc, ◌+◌, ◌≤◌}
use Rattle.sums.specs.Tests.{and_left}
use Rattle.sums.specs.Sums.{when-implies}
use Rattle.sums.specs.Totals.{total-le}
use Rattle.model.specs.Job.{Job}
use Rattle.model.specs.Links.{Step, places, is_pin_kind}
use Rattle.model.specs.Near.{Smallest}
use Rattle.model.specs.Route.{Greatest, chosen_count}
use Rattle.model.specs.Record.{job_of, load, Legal}
use Rattle.model.specs.Wires.{is_wired, wire_count}
use Rattle.model.specs.Calls.{OneMore, wires_in}
use Rattle.witness.specs.Added.{Full, add-or-full}

-- no more wires than chosen pins
pub wires-chosen : (J : Job) (f : Step → ℕ) → wire_count J f ≤ chosen_count J
unfolding wire_count
wires-chosen J f = total-le (places J) _ _ (λ x. when-implies (is_pin_kind x && is_wired J f x.row x.column) (is_pin_kind x) 1 (and_left (is_pin_kind x) _))

pub record Most (J : Job) : Type 0 where
  pub g : ℕ
  pub near : ℕ → Bool
  pub greatest : Greatest J g
  pub smallest : Smallest J near g
  pub le : g ≤ chosen_count J

-- none more fits, or a record with one more decides
fit : (rec : List ℕ) (g : Legal rec) → ((rec' : List ℕ) → OneMore rec rec' → Most (job_of rec')) → Most (job_of rec)
fit rec g more = by (add-or-full rec g)
  where
    by : ((rec' : List ℕ) × OneMore rec rec') ⊎ Full rec g → Most (job_of rec)
    by (inl (rec', A)) = subst Most A.job (more rec' A)
    by (inr F) =
        record { g = wires_in rec; near = F.near; greatest = F.greatest; smallest = F.smallest; le = wires-chosen (job_of rec) (load rec) }

fits : (k : ℕ) (rec : List ℕ) → Legal rec → chosen_count (job_of rec) ≤ k + wires_in rec → Most (job_of rec)
fits zero rec g l =
    fit rec g (λ rec' A. absurd (omega (arith, A.number, wires-chosen (job_of rec') (load rec'), ap chosen_count A.job)))
fits (suc k) rec g l = fit rec g (λ rec' A. fits k rec' A.legal (omega (arith, A.number, ap chosen_count A.job)))

pub most : (rec : List ℕ) → Legal rec → Most (job_of rec)
most rec g = fits (chosen_count (job_of rec)) rec g (omega arith)
