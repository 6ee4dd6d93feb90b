-- The first 32,768 bytes of a buffer are all that a record is read from: its job and its loads are theirs. And what a loop stores from the front on.
-- Assumes nothing.
use Rattle.std.specs.Prelude.{◌≡◌, List, [], ◌∷◌, ◌++◌, ℕ, ◌+◌, ◌≤◌, ◌<◌, length, get_or, set, take, drop}
use Rattle.std.proofs.Common.{sym, ap, ◌∙◌, append-nil, add-one, arith, take-append-drop, drop_of_length-le, length-take-le, take_all, drop-cons}
use Rattle.std.proofs.Math.Seq.{append_snoc}
use Rattle.std.proofs.lemmas.List.{set_at}
use Rattle.model.specs.Record.{record_size, job_of, load, over}
use Rattle.model.proofs.Over.{job-over, load-over}

-- ---- a loop that stores from the front

-- p is stored, and v goes behind it
pub store-more : (p d : List ℕ) (n v : ℕ) → length p ≡ n → n < length d → set (p ++ drop n d) n v ≡ (p ++ (v ∷ [])) ++ drop (n + 1) d
store-more p d n v e l =
    ap (λ (r : List ℕ). set (p ++ r) n v) (drop-cons d n 0 l) ∙ set_at p (get_or d n 0) _ v n e ∙ sym (append_snoc p v _)
    ∙ ap (λ (k : ℕ). (p ++ (v ∷ [])) ++ drop k d) (sym (add-one n))

-- ---- the first bytes of a buffer

abbrev pub front : List ℕ → List ℕ
front rec = take record_size rec

-- over a buffer of this length nothing of it is left
pub over-whole : (new old : List ℕ) → length new ≡ record_size → length old ≡ record_size → over new old ≡ new
over-whole new old e q = ap (λ (r : List ℕ). new ++ r) (drop_of_length-le old {i = length new} (omega arith)) ∙ append-nil new

pub front-whole : (new : List ℕ) → length new ≡ record_size → front new ≡ new
front-whole new e = take_all record_size new (omega arith)

module _ (rec : List ℕ) (long : record_size ≤ length rec) where
  pub front_length : length (front rec) ≡ record_size
  front_length = length-take-le record_size rec long

  pub front-job : job_of (front rec) ≡ job_of rec
  front-job = sym (job-over (front rec) (drop record_size rec) front_length) ∙ ap job_of (take-append-drop record_size rec)

  pub front-load : load (front rec) ≡ load rec
  front-load = sym (load-over (front rec) (drop record_size rec) front_length) ∙ ap load (take-append-drop record_size rec)
