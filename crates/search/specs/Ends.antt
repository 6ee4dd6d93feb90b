-- Where stepping ends: with the greatest number of wires, which is the job's alone, whatever loads it began with. And laying all wires in one call ends
-- there too, with the same near side. Assumes nothing.
use Rattle.std.specs.Prelude.{◌≡◌, refl, Bool, List, ℕ, suc, ◌+◌, ◌<◌}
use Rattle.std.proofs.Common.{sym, ap, subst, ◌∙◌, arith}
use Rattle.sums.specs.Counting.{when}
use Rattle.model.specs.Job.{Job}
use Rattle.model.specs.Route.{chosen_count, Greatest}
use Rattle.model.specs.Near.{Smallest}
use Rattle.model.specs.Record.{record_size, job_of, Legal, bytes, over}
use Rattle.model.specs.Calls.{wires_in, near_bytes, Shown, none-short, side}
use Rattle.model.proofs.Unique.{greatest-unique, smallest-unique}
use Rattle.search.specs.Outcome.{StepDid, more, full, RoutedAll}
use Rattle.search.specs.declared.step.Progress.TheVariants.{Added, Full}

-- "Stepping on is a row of accepted steps that ends with the first not saying added": n of them say it.
pub data SteppedOn : ℕ → List ℕ → List ℕ → Type 0 where
  stop : {rec rec' : List ℕ} → StepDid rec rec' Full → SteppedOn 0 rec rec'
  on : {n : ℕ} {rec rec₁ rec' : List ℕ} → StepDid rec rec₁ Added → SteppedOn n rec₁ rec' → SteppedOn (suc n) rec rec'

-- a record that takes no wire more has the greatest number
full-greatest : {rec rec' : List ℕ} → StepDid rec rec' Full → (rec' ≡ rec) × Greatest (job_of rec) (wires_in rec)
full-greatest (full e g) = (e, g)

-- Two records of one job that take no wire more have equally many.
pub full-once : {rec rec' q q' : List ℕ} → StepDid rec rec' Full → StepDid q q' Full → job_of q ≡ job_of rec → wires_in q ≡ wires_in rec
full-once {rec} {rec'} {q} s t e =
    greatest-unique (job_of rec) (wires_in q) (wires_in rec) (subst (λ (J : Job). Greatest J (wires_in q)) e (full-greatest t).1) (full-greatest s).1

-- ---- stepping on

-- a legal record of the same job, with a wire more for each step that says added, and the greatest number of them
pub record Ended (n : ℕ) (rec rec' : List ℕ) : Type 0 where
  pub legal : Legal rec'
  pub job : job_of rec' ≡ job_of rec
  pub wires : wires_in rec' ≡ n + wires_in rec
  pub greatest : Greatest (job_of rec) (wires_in rec')

pub stepped-end : {n : ℕ} {rec rec' : List ℕ} → Legal rec → SteppedOn n rec rec' → Ended n rec rec'
stepped-end {rec = rec} legal (stop (full e g)) =
    subst (λ (x : List ℕ). Ended 0 rec x) (sym e) (record { legal = legal; job = refl; wires = omega arith; greatest = g })
stepped-end legal (on {rec = rec} {rec' = rec'} (more M) s) =
    let E = stepped-end M.legal s in
    record {
      legal = E.legal;
      job = E.job ∙ M.job;
      wires = omega (arith, E.wires, M.number);
      greatest = subst (λ (J : Job). Greatest J (wires_in rec')) M.job E.greatest;
    }

-- The number of wires at the end is the job's alone.
pub ended-once : {n m : ℕ} {rec rec' q q' : List ℕ} → Ended n rec rec' → Ended m q q' → job_of q ≡ job_of rec → wires_in q' ≡ wires_in rec'
ended-once {rec = rec} {rec' = rec'} {q' = q'} E D e =
    greatest-unique (job_of rec) (wires_in q') (wires_in rec') (subst (λ (J : Job). Greatest J (wires_in q')) e D.greatest) E.greatest

-- ---- all wires in one call

-- the bytes of a near side depend on what is near alone
near_same : (S R : ℕ → Bool) → ((i : ℕ) → S i ≡ R i) → near_bytes S ≡ near_bytes R
near_same S R e = λ j. bytes record_size (λ i. when (e i j) 1)

shown-side : {J : Job} {g : ℕ} {near near' : List ℕ} → Shown J g near near' → g < chosen_count J → (S : ℕ → Bool) → Smallest J S g
    → near' ≡ over (near_bytes S) near
shown-side (none-short e q) l S s = absurd (omega arith)
shown-side {J} {g} {near} (side h R r q) l S s = q ∙ ap (λ (x : List ℕ). over x near) (near_same R S (smallest-unique J g R S r s))

module _ {rec rec' near near' : List ℕ} {k : ℕ} (A : RoutedAll rec rec' near near' k) {n : ℕ} {q q' : List ℕ} (E : Ended n q q') (e : job_of q ≡ job_of rec)
  where
    -- Laying all wires ends where stepping ends.
    pub routed-wires : wires_in rec' ≡ wires_in q'
    routed-wires =
        greatest-unique (job_of rec) (wires_in rec') (wires_in q') A.greatest (subst (λ (J : Job). Greatest J (wires_in q')) e E.greatest)

    -- the near side is the one of the number of wires at which stepping ends
    pub routed-near : wires_in q' < chosen_count (job_of rec) → (S : ℕ → Bool) → Smallest (job_of rec) S (wires_in q') → near' ≡ over (near_bytes S) near
    routed-near l S s =
        shown-side (subst (λ (g : ℕ). Shown (job_of rec) g near near') routed-wires A.shown) l S s
