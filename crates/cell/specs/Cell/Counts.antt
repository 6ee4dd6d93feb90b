-- Cells that pass the test of their counts have none above O, and none where there is no side, and the other way round. Assumes nothing.
use Rattle.std.specs.Prelude.{◌≡◌, Bool, ◌&&◌, List, ℕ, ◌<◌, leb}
use Rattle.std.proofs.Math.Path.{refl}
use Rattle.std.proofs.Common.{arith, le→leb}
use Rattle.std.proofs.Math.Dec.{T}
use Rattle.sums.specs.Counting.{when}
use Rattle.sums.specs.Tests.{and_left, and_right, and_both}
use Rattle.model.specs.Job.{Job, has_north, has_west, laid_most, AddedFits}
use Rattle.model.specs.Record.{cell, added_of, job_of}
use Rattle.cell.specs.Cell.{counts_fit}
use Rattle.cell.specs.Cell.Tests.{on-grid, off-grid}

module _ (rec : List ℕ) where
  abbrev J : Job
  J = job_of rec

  abbrev NorthFits : ℕ → ℕ → Bool
  NorthFits r c = leb (J.added.laid_north r c) (when (has_north J r c) (laid_most J))

  abbrev WestFits : ℕ → ℕ → Bool
  WestFits r c = leb (J.added.laid_west r c) (when (has_west J r c) (laid_most J))

  -- as a program reads them
  pub counts-read : (r c n w a b o : ℕ) (p q : Bool) → n ≡ cell rec 17 r c → w ≡ cell rec 18 r c → p ≡ has_north J r c → q ≡ has_west J r c → o ≡ J.O
      → a ≡ when p o → b ≡ when q o → (leb n a && leb w b) ≡ counts_fit rec r c
  unfolding counts_fit job_of added_of
  counts-read r c n w a b o p q e f g h k i j = rw (e, f, i, j, g, h, k) refl

  pub counts-pass : AddedFits J → (r c : ℕ) → T (counts_fit rec r c)
  unfolding counts_fit
  counts-pass f r c = and_both (NorthFits r c) (WestFits r c) (f.laid_north r c) (f.laid_west r c)

  module _ (t : (r c : ℕ) → r < 40 → c < 40 → T (counts_fit rec r c)) where
    -- nothing stands beyond the grid
    none-fits : (m n : ℕ) → m ≡ 0 → T (leb m n)
    none-fits m n e = le→leb m n (omega arith)

    pub norths-all : (r c : ℕ) → T (NorthFits r c)
    unfolding counts_fit job_of added_of
    norths-all =
        on-grid (λ r c. T (NorthFits r c)) (λ r c a b. and_left (NorthFits r c) (WestFits r c) (t r c a b))
        (λ r c e. none-fits (cell rec 17 r c) _ (off-grid rec 17 r c e))

    pub wests-all : (r c : ℕ) → T (WestFits r c)
    unfolding counts_fit job_of added_of
    wests-all =
        on-grid (λ r c. T (WestFits r c)) (λ r c a b. and_right (NorthFits r c) (WestFits r c) (t r c a b))
        (λ r c e. none-fits (cell rec 18 r c) _ (off-grid rec 18 r c e))
