-- Document 02, K6: the job of a trial is in range, with nothing outside its array. Assumes nothing.
use mathlib.Core.Bool.{Bool, true, false}
use Prim.Native.Nat.{ℕ, ◌+◌, ◌-◌, ◌*◌}
use lib.Dec.{T, leb, ltb}
use Rattle.sums.specs.Counting.{when}
use Rattle.model.specs.Job.{Job, array_fits, caps_fit, fresh, is_pin, is_tile, Proper}
use Rattle.model.specs.Trial.{Trial, drawn_at, turn, mark_drawn, trial_mark, state_drawn, trial_state, trial_job}
use Rattle.model.proofs.Added.{fresh-fits, fits_kept}

mark-fits : (t : Trial) (n : ℕ) → T (leb (mark_drawn t n) 2)
mark-fits t n = by (ltb n t.chosen) (ltb n (t.chosen + t.missing))
  where
    by : (b d : Bool) → T (leb (elim b as (λ x. ℕ) [ true ↦ 1 | false ↦ elim d as (λ x. ℕ) [ true ↦ 2 | false ↦ 0 ] ]) 2)
    by true d = tt
    by false true = tt
    by false false = tt

state-fits : (t : Trial) (n : ℕ) → T (leb (state_drawn t n) 1)
state-fits t n = by (ltb n t.closed)
  where
    by : (b : Bool) → T (leb (when b 1) 1)
    by true = tt
    by false = tt

-- 0 outside
within-fits : (b : Bool) (x most : ℕ) → T (leb x most) → T (leb (when b x) (when b most))
within-fits true x most t = t
within-fits false x most t = tt

pub trial-proper : (t : Trial) → T (array_fits t.rows t.columns) → T (caps_fit t.O t.D t.E) → Proper (trial_job t)
trial-proper t a b =
    let J : Job = fresh t.rows t.columns t.O t.D t.E in
    record {
      array = a;
      caps = b;
      marks = λ r c. within-fits (is_pin J r c) (trial_mark t r c) 2 (mark-fits t (drawn_at t (turn 0 t.columns r c)));
      states = λ r c. within-fits (is_tile J r c) (trial_state t r c) 1 (state-fits t (drawn_at t (turn (t.columns * t.rows) (t.columns - 1) r c)));
      added = fits_kept J (λ r c. when (is_pin J r c) (trial_mark t r c)) (λ r c. when (is_tile J r c) (trial_state t r c))
          (fresh-fits t.rows t.columns t.O t.D t.E);
    }
