-- Cells that pass the test of their values have marks and states in range, and 0 where there is no pin or tile, and the other way round. Assumes nothing.
use Rattle.std.specs.Prelude.{◌≡◌, Bool, true, false, not, ◌&&◌, List, ℕ, ◌≤◌, ◌<◌}
use Rattle.std.proofs.Math.Path.{refl}
use Rattle.std.proofs.Common.{arith, le→leb}
use Rattle.std.proofs.Math.Dec.{T, leb, leb→le}
use Rattle.sums.specs.Counting.{when}
use Rattle.sums.specs.Tests.{and_left, and_right, and_both}
use Rattle.model.specs.Job.{Job, is_pin, is_tile}
use Rattle.model.specs.Record.{cell, job_of}
use Rattle.cell.specs.Cell.{values_fit}
use Rattle.cell.specs.Cell.Tests.{on-grid, off-grid}

within-bound : (b : Bool) (m n : ℕ) → m ≤ when b n → m ≤ n
within-bound true m n l = l
within-bound false m n l = omega arith

outside-bound : (b : Bool) (m n : ℕ) → T (not b) → m ≤ when b n → m ≡ 0
outside-bound true m n u l = absurd u
outside-bound false m n u l = omega arith

bounded : (b : Bool) (m n : ℕ) → m ≤ n → (T (not b) → m ≡ 0) → T (leb m (when b n))
bounded true m n l f = le→leb m n l
bounded false m n l f = le→leb m 0 (omega (arith, f tt))

module _ (rec : List ℕ) where
  abbrev J : Job
  J = job_of rec

  -- the values of a cell
  pub record Values (r c : ℕ) : Type 0 where
    pub mark : J.mark r c ≤ 2
    pub state : J.state r c ≤ 1
    pub no_pin : T (not (is_pin J r c)) → J.mark r c ≡ 0
    pub no_tile : T (not (is_tile J r c)) → J.state r c ≡ 0

  -- as a program reads them
  pub values-read : (r c m s a b : ℕ) (p t : Bool) → m ≡ cell rec 0 r c → s ≡ cell rec 1 r c → p ≡ is_pin J r c → t ≡ is_tile J r c → a ≡ when p 2 → b ≡ when t 1
      → (leb m a && leb s b) ≡ values_fit rec r c
  unfolding values_fit job_of
  values-read r c m s a b p t e f g h i j = rw (e, f, i, j, g, h) refl

  pub values-pass : (r c : ℕ) → Values r c → T (values_fit rec r c)
  unfolding values_fit
  values-pass r c v =
      and_both (leb (J.mark r c) (when (is_pin J r c) 2)) (leb (J.state r c) (when (is_tile J r c) 1))
      (bounded (is_pin J r c) (J.mark r c) 2 v.mark v.no_pin) (bounded (is_tile J r c) (J.state r c) 1 v.state v.no_tile)

  module _ (t : (r c : ℕ) → r < 40 → c < 40 → T (values_fit rec r c)) where
    tested : (r c : ℕ) → r < 40 → c < 40 → (J.mark r c ≤ when (is_pin J r c) 2) × (J.state r c ≤ when (is_tile J r c) 1)
    unfolding values_fit
    tested r c a b =
        let v : T (leb (J.mark r c) (when (is_pin J r c) 2) && leb (J.state r c) (when (is_tile J r c) 1)) = t r c a b in
        (leb→le _ _ (and_left (leb (J.mark r c) (when (is_pin J r c) 2)) _ v), leb→le _ _ (and_right (leb (J.mark r c) (when (is_pin J r c) 2)) _ v))

    mark-bound : (r c : ℕ) → J.mark r c ≤ when (is_pin J r c) 2
    unfolding job_of
    mark-bound = on-grid (λ r c. J.mark r c ≤ when (is_pin J r c) 2) (λ r c a b. (tested r c a b).0) (λ r c e. rw (off-grid rec 0 r c e) (omega arith))

    state-bound : (r c : ℕ) → J.state r c ≤ when (is_tile J r c) 1
    unfolding job_of
    state-bound = on-grid (λ r c. J.state r c ≤ when (is_tile J r c) 1) (λ r c a b. (tested r c a b).1) (λ r c e. rw (off-grid rec 1 r c e) (omega arith))

    -- what holds of the cells of the grid holds of every cell
    pub values-all : (r c : ℕ) → Values r c
    values-all r c =
        record {
          mark = within-bound (is_pin J r c) _ 2 (mark-bound r c);
          state = within-bound (is_tile J r c) _ 1 (state-bound r c);
          no_pin = λ n. outside-bound (is_pin J r c) _ 2 n (mark-bound r c);
          no_tile = λ n. outside-bound (is_tile J r c) _ 1 n (state-bound r c);
        }
