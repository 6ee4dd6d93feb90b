-- Only the first 32,768 bytes of a buffer matter: its job, its loads and whether it is legal are those of these bytes, since every byte that is read has
-- an offset below 32,768. So what New and Read text leave is legal and holds the new job. Assumes nothing.
use mathlib.Core.Path.{◌≡◌, sym, ap, subst, ◌∙◌}
use mathlib.Core.Logic.{◌≢◌}
use mathlib.Core.Bool.{Bool, true, false, not}
use mathlib.Core.List.{List, ◌++◌}
use Prim.Native.Nat.{ℕ, ◌≤◌, ◌<◌}
use native.Mathlib.Omega.{arith}
use lib.Dec.{T, leb, le→leb}
use lib.ListN.{length, get_or, drop, length-append, get_or-append}
use Rattle.sums.specs.Counting.{when}
use Rattle.sums.specs.Sums.{when-cong}
use Rattle.model.specs.Job.{Job, array_fits, caps_fit, is_pin, is_tile, AddedFits, Proper}
use Rattle.model.specs.Links.{Link, Step}
use Rattle.model.specs.Loads.{Sound}
use Rattle.model.specs.Record.{record_size, offset, load_plane, cell, job_of, forth_part, back_part, load, Legal, no_loads, unwired_record, over}
use Rattle.model.proofs.RecordOf.{in_cells, cells-row, cells-column, plane-below, length-record, job-back}
use Rattle.model.proofs.JobBytes.{job-same}
use Rattle.model.proofs.Unwired.{unwired-legal}

-- ---- the rest of a longer buffer

module _ (new rest : List ℕ) (e : length new ≡ record_size) where
  pub get-over : (i : ℕ) → i < record_size → get_or (new ++ rest) i 0 ≡ get_or new i 0
  get-over i l = get_or-append new rest 0 i (omega arith)

  cell-over : (p r c : ℕ) → p < 20 → cell (new ++ rest) p r c ≡ cell new p r c
  unfolding cell
  cell-over p r c l = when-cong (in_cells r c) _ _ (λ t. get-over (offset p r c) (omega (arith, cells-row r c t, cells-column r c t)))

  pub job-over : job_of (new ++ rest) ≡ job_of new
  job-over = job-same (new ++ rest) new (λ i l. get-over i (omega arith)) (λ i l h. get-over i h)

  way-over : (l : Link) (b : Bool) → load (new ++ rest) (record { link = l; forth = b }) ≡ load new (record { link = l; forth = b })
  unfolding load
  way-over l true = ap forth_part (cell-over (load_plane l.kind) l.row l.column (omega (arith, plane-below l.kind)))
  way-over l false = ap back_part (cell-over (load_plane l.kind) l.row l.column (omega (arith, plane-below l.kind)))

  pub load-over : load (new ++ rest) ≡ load new
  load-over = λ i s. way-over s.link s.forth i

  pub legal-over : Legal new → Legal (new ++ rest)
  legal-over g =
      record {
        long = omega (arith, length-append new rest);
        values = record {
          array = to (λ K. T (array_fits K.rows K.columns)) g.values.array;
          caps = to (λ K. T (caps_fit K.O K.D K.E)) g.values.caps;
          marks = to (λ K. (r c : ℕ) → K.mark r c ≤ 2) g.values.marks;
          states = to (λ K. (r c : ℕ) → K.state r c ≤ 1) g.values.states;
          added = to AddedFits g.values.added;
          loads = λ k r c.
              subst (λ (b : ℕ). (b < 64) × (b ≢ 32)) (sym (cell-over (load_plane k) r c (omega (arith, plane-below k)))) (g.values.loads k r c);
        };
        sound = subst (λ (f : Step → ℕ). Sound (job_of (new ++ rest)) f) (sym load-over) (to (λ K. Sound K (load new)) g.sound);
        unused = record {
          header = λ i a b. get-over i (omega arith) ∙ g.unused.header i a b;
          marks = to (λ K. (r c : ℕ) → T (not (is_pin K r c)) → K.mark r c ≡ 0) g.unused.marks;
          states = to (λ K. (r c : ℕ) → T (not (is_tile K r c)) → K.state r c ≡ 0) g.unused.states;
        };
      }
    where
      to : (P : Job → Type 0) → P (job_of new) → P (job_of (new ++ rest))
      to P p = subst P (sym job-over) p

-- ---- the record that New and Read text leave

module _ (K : Job) (proper : Proper K) (rec : List ℕ) where
  abbrev rest : List ℕ
  rest = drop (length (unwired_record K)) rec

  pub anew-legal : Legal (over (unwired_record K) rec)
  anew-legal = legal-over (unwired_record K) rest (length-record K no_loads) (unwired-legal K proper)

  pub anew-job : job_of (over (unwired_record K) rec) ≡ K
  anew-job = job-over (unwired_record K) rest (length-record K no_loads) ∙ job-back K no_loads proper

-- ---- the job of a legal record

bounded : (b : Bool) (m n : ℕ) → m ≤ n → (T (not b) → m ≡ 0) → T (leb m (when b n))
bounded true m n l f = le→leb m n l
bounded false m n l f = le→leb m 0 (omega (arith, f tt))

pub legal-proper : (rec : List ℕ) → Legal rec → Proper (job_of rec)
legal-proper rec g =
    record {
      array = g.values.array;
      caps = g.values.caps;
      marks = λ r c. bounded (is_pin (job_of rec) r c) ((job_of rec).mark r c) 2 (g.values.marks r c) (g.unused.marks r c);
      states = λ r c. bounded (is_tile (job_of rec) r c) ((job_of rec).state r c) 1 (g.values.states r c) (g.unused.states r c);
      added = g.values.added;
    }
