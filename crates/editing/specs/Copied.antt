-- A copy of a legal record, made in a local array: the same first bytes, so legal, of the same job and with the same loads; what an edit leaves of
-- them is what it leaves of the record's. Assumes nothing.
use Rattle.std.specs.Prelude.{◌≡◌, true, false, List, ℕ, length, get_or, replicate}
use Rattle.std.proofs.Common.{sym, ap, ◌∙◌, arith, get_or-take}
use Rattle.std.proofs.lemmas.List.{length-replicate}
use Rattle.model.specs.Job.{Job, marked, closed, side_of, laid_by, with_own_d, with_extra}
use Rattle.model.specs.Links.{Step}
use Rattle.model.specs.Record.{record_size, job_of, load, Legal, record_of, over}
use Rattle.model.specs.Left.{mark_left, close_left, laid_left, centre_left, extra_left}
use Rattle.channel.specs.Copies.{front, over-whole, front_length}
use Rattle.takeout.specs.LeftRecord.{SameRecord, copy-job, copy-loads, copy-legal}
use Rattle.editing.specs.Edits.{set_in}
use Rattle.editing.specs.Laying.{count_in}
use Rattle.editing.specs.Diagonals.{own_in}
use Rattle.editing.specs.Lowering.{lowered_to}

-- over zeros
module _ {rec was : List ℕ} (g : Legal rec) (e : was ≡ over (front rec) (replicate record_size 0)) where
  is_front : was ≡ front rec
  is_front = e ∙ over-whole (front rec) (replicate record_size 0) (front_length rec g.long) (length-replicate {A = ℕ} record_size 0)

  same_bytes : SameRecord rec was
  same_bytes i l = ap (λ (x : List ℕ). get_or x i 0) is_front ∙ get_or-take record_size rec i 0 l

  pub copied-same : SameRecord was rec
  copied-same i l = sym (same_bytes i l)

  pub copied-legal : Legal was
  copied-legal = copy-legal rec was g same_bytes (omega (arith, ap length is_front, front_length rec g.long))

  pub copied-job : job_of was ≡ job_of rec
  copied-job = copy-job rec was g same_bytes

  -- what is said of the copy's job and loads holds of the record's
  as-copied : (P : Job → (Step → ℕ) → List ℕ) → P (job_of was) (load was) ≡ P (job_of rec) (load rec)
  as-copied P = λ i. P (copied-job i) (copy-loads rec was g same_bytes i)

  -- what any edit leaves of the copy's job and loads it leaves of the record's
  pub edit-copied : (K : Job → Job) (left : Job → (Step → ℕ) → Step → ℕ)
      → over (record_of (K (job_of was)) (left (job_of was) (load was))) rec ≡ over (record_of (K (job_of rec)) (left (job_of rec) (load rec))) rec
  edit-copied K left = as-copied (λ J f. over (record_of (K J) (left J f)) rec)

  pub mark-copied : (r c m : ℕ) → over (record_of (marked (job_of was) r c m) (mark_left (job_of was) (load was) r c)) rec ≡ set_in false r c m rec
  mark-copied r c m = edit-copied (λ J. marked J r c m) (λ J f. mark_left J f r c)

  pub close-copied : (r c v : ℕ) → over (record_of (closed (job_of was) r c v) (close_left (job_of was) (load was) r c)) rec ≡ set_in true r c v rec
  close-copied r c v = edit-copied (λ J. closed J r c v) (λ J f. close_left J f r c)

  pub lay-copied : (r c d n : ℕ)
      → over (record_of (laid_by (job_of was) (side_of r c d) n) (laid_left (job_of was) (load was) (side_of r c d) n)) rec ≡ count_in r c d n rec
  lay-copied r c d n = edit-copied (λ J. laid_by J (side_of r c d) n) (λ J f. laid_left J f (side_of r c d) n)

  pub own-copied : (r c d : ℕ) → over (record_of (with_own_d (job_of was) r c d) (centre_left (job_of was) (load was) r c)) rec ≡ own_in r c d rec
  own-copied r c d = edit-copied (λ J. with_own_d J r c d) (λ J f. centre_left J f r c)

  pub lower-copied : (x : ℕ) → over (record_of (with_extra (job_of was) x) (extra_left (job_of was) (load was))) rec ≡ lowered_to x rec
  lower-copied x = edit-copied (λ J. with_extra J x) extra_left
