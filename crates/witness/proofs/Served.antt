-- Document 01, "Record and operations": a service, by mathematics alone. Each call is answered by decisions: whether the record is legal, what the verdict
-- of a text is, whether one wire more fits, and what the greatest number and the smallest near side are. Nothing of it is ever run; it shows that the
-- promises of the operations can be kept together, so that a theorem about every service has something to speak of. Assumes nothing.
use Rattle.std.specs.Prelude.{◌≡◌, refl, Bool, true, false, List, [], ℕ, ◌≤◌, T, length}
use Rattle.std.proofs.Common.{arith}
use Rattle.std.proofs.Math.Decide.{dec_le}
use Rattle.model.specs.Record.{record_size, job_of, Legal}
use Rattle.model.specs.Text.{Verdict, Reading}
use Rattle.model.specs.Calls.{Call, new, mark, close, lay, diagonal, step, shortfall, part, read_text, write_text, listing, trial, extra, sheet}
use Rattle.model.specs.Calls.{refused, After, after}
use Rattle.model.specs.Calls.{newly, tried_on, marked_by, closed_by, laid_in, diagonal_in, listed, read_in, written, listed_out, extra_in, sheet_left}
use Rattle.model.specs.Calls.{On, Steps, Lacks, ReadIn, Did, OnSheet}
use Rattle.model.specs.Sheet.{sheet_job, sheet_fits, SheetVerdict, carried, Judged}
use Rattle.model.specs.Run.{Service}
use Rattle.sheets.specs.Tests.{ready_of}
use Rattle.sheets.specs.First.{judged-some}
use Rattle.witness.specs.Damage.{legal?}
use Rattle.witness.specs.Verdicts.{reading}
use Rattle.witness.proofs.Steps.{steps}
use Rattle.witness.proofs.Lacked.{lacked}

-- a call on a record is refused by 1 where it is damaged
on : (rec scratch output : List ℕ) (Accepts : After → Type 0) → (Legal rec → (a : After) × Accepts a) → (a : After) × On rec scratch output a (Accepts a)
on rec scratch output Accepts f = by (legal? rec)
  where
    by : Dec (Legal rec) → (a : After) × On rec scratch output a (Accepts a)
    by (yes g) = let (a, p) = f g in (a, record { damaged = λ n. absurd (n g); legal = λ h. p })
    by (no n) = (after (refused 1) rec scratch output, record { damaged = λ h. refl; legal = λ g. absurd (n g) })

module _ (rec : List ℕ) where
  -- ---- read text

  read-in : (text : List ℕ) → (a : After) × ReadIn text rec a
  read-in text = by (dec_le record_size (length rec)) (reading text)
    where
      by : Dec (record_size ≤ length rec) → (v : Verdict) × Reading text v → (a : After) × ReadIn text rec a
      by (no n) r = (after (refused 1) rec [] [], record { brief = λ h. refl; long = λ h. absurd (n h) })
      by (yes l) (v, r) = (read_in v rec, record { brief = λ h. absurd (omega arith); long = λ h. (v, r, refl) })

  -- ---- sheet

  -- a verdict, whatever it is where the job or the sheet is turned away
  judged : (loads : List ℕ) → Legal rec → (v : SheetVerdict) × (T (sheet_job (job_of rec)) → T (sheet_fits (job_of rec) loads) → Judged (job_of rec) loads v)
  judged loads g = by (sheet_job (job_of rec)) (sheet_fits (job_of rec) loads) (λ t u. judged-some (job_of rec) loads (ready_of rec loads g t u))
    where
      by : (a b : Bool) → (T a → T b → (v : SheetVerdict) × Judged (job_of rec) loads v) → (v : SheetVerdict) × (T a → T b → Judged (job_of rec) loads v)
      by true true f = let (v, j) = f tt tt in (v, λ t u. j)
      by true false f = (carried, λ t u. absurd u)
      by false b f = (carried, λ t. absurd t)

  sheet-is : (loads : List ℕ) → Legal rec → (a : After) × OnSheet loads rec a
  sheet-is loads g = let (v, j) = judged loads g in (sheet_left loads v rec, record { verdict = v; judged = j; left = refl })

-- ---- the operations

serve : (c : Call) (rec : List ℕ) → (a : After) × Did c rec a
serve (new rows columns O D E) rec = (newly rows columns O D E rec, refl)
serve (mark r c m) rec = on rec [] [] (λ a. a ≡ marked_by r c m rec) (λ g. (marked_by r c m rec, refl))
serve (close r c v) rec = on rec [] [] (λ a. a ≡ closed_by r c v rec) (λ g. (closed_by r c v rec, refl))
serve (lay r c d n) rec = on rec [] [] (λ a. a ≡ laid_in r c d n rec) (λ g. (laid_in r c d n rec, refl))
serve (diagonal r c d) rec = on rec [] [] (λ a. a ≡ diagonal_in r c d rec) (λ g. (diagonal_in r c d rec, refl))
serve (step scratch) rec = on rec scratch [] (Steps scratch rec) (steps rec scratch)
serve (shortfall scratch output) rec = on rec scratch output (Lacks scratch output rec) (lacked rec scratch output)
serve (part r c i) rec = on rec [] [] (λ a. a ≡ listed r c i rec) (λ g. (listed r c i rec, refl))
serve (read_text text) rec = read-in rec text
serve (write_text output) rec = on rec [] output (λ a. a ≡ written output rec) (λ g. (written output rec, refl))
serve (listing output) rec = on rec [] output (λ a. a ≡ listed_out output rec) (λ g. (listed_out output rec, refl))
serve (trial t) rec = (tried_on t rec, refl)
serve (extra e) rec = on rec [] [] (λ a. a ≡ extra_in e rec) (λ g. (extra_in e rec, refl))
serve (sheet loads) rec = on rec [] [] (OnSheet loads rec) (sheet-is rec loads)

pub service : Service
service = record { does = λ c rec. (serve c rec).0; did = λ c rec lent buffer. (serve c rec).1 }
