-- The job of a record is in its header and in the planes that are not of loads: records with the same bytes there have the same job. Assumes nothing.
use mathlib.Core.Path.{◌≡◌, ap, ◌∙◌}
use mathlib.Core.Bool.{◌&&◌}
use mathlib.Core.List.{List}
use Prim.Native.Nat.{ℕ, ◌+◌, ◌*◌, ◌/◌, ◌%◌, ◌≤◌, ◌<◌}
use native.Mathlib.Omega.{arith}
use lib.Dec.{ltb, ltb→lt, lt→ltb}
use lib.ListN.{get_or}
use Rattle.sums.specs.Counting.{when}
use Rattle.sums.specs.Sums.{when-so, when-cong}
use Rattle.sums.specs.Tests.{and_left, and_right, and_both}
use Rattle.model.specs.Record.{record_size, offset, cell, added_of, job_of}
use Rattle.model.proofs.RecordOf.{in_cells, cells-row, cells-column, cells-have}

-- ---- a byte as what it is of the job

module _ (rec : List ℕ) where
  pub cell-get : (j : ℕ) → j < 32000 → cell rec (j / 1600) (j % 1600 / 40) (j % 40) ≡ get_or rec (768 + j) 0
  unfolding cell
  cell-get j l =
      when-so (in_cells (j % 1600 / 40) (j % 40)) _ (cells-have (j % 1600 / 40) (j % 40) (omega arith) (omega arith))
      ∙ ap (λ (n : ℕ). get_or rec n 0) (omega arith)

  pub seen-get : (j : ℕ) → j < 16 → (job_of rec).added.seen (j / 4) (j % 4) ≡ get_or rec (6 + j) 0
  unfolding job_of added_of
  seen-get j l =
      when-so (ltb (j / 4) 4 && ltb (j % 4) 4) _
      (and_both (ltb (j / 4) 4) (ltb (j % 4) 4) (lt→ltb (j / 4) 4 (omega arith)) (lt→ltb (j % 4) 4 (omega arith)))
      ∙ ap (λ (n : ℕ). get_or rec n 0) (omega arith)

-- ---- records of one job

module _ (a b : List ℕ) (before : (i : ℕ) → i < offset 2 0 0 → get_or a i 0 ≡ get_or b i 0)
    (behind : (i : ℕ) → offset 17 0 0 ≤ i → i < record_size → get_or a i 0 ≡ get_or b i 0) where
  low_same : (p r c : ℕ) → p < 2 → cell a p r c ≡ cell b p r c
  unfolding cell
  low_same p r c l = when-cong (in_cells r c) _ _ (λ t. before (offset p r c) (omega (arith, cells-row r c t, cells-column r c t)))

  high_same : (p r c : ℕ) → 17 ≤ p → p < 20 → cell a p r c ≡ cell b p r c
  unfolding cell
  high_same p r c l h =
      when-cong (in_cells r c) _ _ (λ t. behind (offset p r c) (omega arith) (omega (arith, cells-row r c t, cells-column r c t)))

  seen_same : (p k : ℕ) → when (ltb p 4 && ltb k 4) (get_or a (6 + 4 * p + k) 0) ≡ when (ltb p 4 && ltb k 4) (get_or b (6 + 4 * p + k) 0)
  seen_same p k =
      when-cong (ltb p 4 && ltb k 4) _ _
      (λ t. before (6 + 4 * p + k) (omega (arith, ltb→lt p 4 (and_left (ltb p 4) (ltb k 4) t), ltb→lt k 4 (and_right (ltb p 4) (ltb k 4) t))))

  added-same : added_of a ≡ added_of b
  unfolding added_of
  added-same =
      λ i. record {
        laid_north = λ r c. high_same 17 r c (omega arith) (omega arith) i;
        laid_west = λ r c. high_same 18 r c (omega arith) (omega arith) i;
        own_d = λ r c. high_same 19 r c (omega arith) (omega arith) i;
        upward = before 5 (omega arith) i;
        seen = λ p k. seen_same p k i;
      }

  pub job-same : job_of a ≡ job_of b
  unfolding job_of
  job-same =
      λ i. record {
        rows = before 0 (omega arith) i;
        columns = before 1 (omega arith) i;
        O = before 2 (omega arith) i;
        D = before 3 (omega arith) i;
        E = before 4 (omega arith) i;
        mark = λ r c. low_same 0 r c (omega arith) i;
        state = λ r c. low_same 1 r c (omega arith) i;
        added = added-same i;
      }
