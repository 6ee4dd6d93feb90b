-- Runs to which demand 3 applies, whatever the service: any list of calls after a start; New on 32,768 zero bytes, an edit and a step. The starred jobs of
-- document 01, "Settled by hand", are reached by such runs (the 64-byte text by Read text too), so every service wires them whole, as document 02 says; and
-- a short job is.
-- Assumes a service; crates/witness has one.
use Rattle.std.specs.Prelude.{◌≡◌, refl, T, length, get_or, replicate}
use Rattle.std.proofs.Math.Bool.{false}
use mathlib.Core.List.Memᴰ
use mathlib.Core.List.{List, [], ◌∷◌}
use Prim.Native.Nat.{ℕ, zero, suc, ◌≤◌, ◌<◌}
use native.Mathlib.Omega.{arith}
use Rattle.std.proofs.Math.Dec.{ltb, ltb→lt}
use Rattle.std.proofs.lemmas.List.{length-replicate}
use Rattle.sums.specs.Tests.{and_left, and_right, every}
use Rattle.model.specs.Job.{Job, fresh, marked, is_pin, is_chosen}
use Rattle.model.specs.Record.{record_size, unwired_record, over}
use Rattle.model.specs.Examples.{job64, job33, job_shut, short_shut, job_laid, short_laid, job_own, short_own}
use Rattle.model.specs.Trial.{Trial, trial_of, trial_job}
use Rattle.model.specs.Calls.{Call, new, mark, close, lay, diagonal, step, read_text, trial, Answer, all_wired, Accepted}
use Rattle.model.specs.Run.{Buffer, Service, Starts, Follows, NeverOne, Stepping, Demand}
use Rattle.model.proofs.TextProper.{fresh-proper}
use Rattle.model.proofs.TextExamples.{text64, reads64}
use Rattle.run.specs.Buffers.{zeros-buffer, zero_scratch, scratch-buffer, scratch-long}
use Rattle.run.specs.Runs.{becomes_set, start-kept, AllLent, rec_after, follows-all}
use Rattle.run.specs.Says.{enough-accepted}
use Rattle.run.specs.Demand3.{demand3}
use Rattle.run.specs.Blank.{Blank, new-begins, text-begins, trial-begins, old-begins}
use Rattle.run.specs.Edits.{Edits, end, marks, closes, lays, gives, edits-blank, edits-follow}
use Rattle.run.specs.Settled.{Answers, shorts-answers, WholeAnswers, wireds-answers, none_answers}

-- ---- a record of zeros

unfoldable pub zero_record : List ℕ
zero_record = replicate record_size 0

pub zero-buffer : Buffer zero_record
unfolding zero_record
zero-buffer = zeros-buffer record_size (omega arith)

pub zero-long : record_size ≤ length zero_record
unfolding zero_record
zero-long = omega (arith, length-replicate {A = ℕ} record_size 0)

module _ (S : Service) where
  pub demand-all : (first : List ℕ) (I : Job) → Starts S first I → (calls : List Call) → AllLent S calls
      → (J : Job) × Follows S first I calls (rec_after S calls first) J × NeverOne S first calls × Demand S (rec_after S calls first) J
  demand-all first I s calls l =
      let (J, f) = follows-all S calls first I (start-kept S s) l in
      let (n, d) = demand3 S first I s calls (rec_after S calls first) J f in
      (J, f, n, d)

  -- ---- New 2 2 1 2 0, then Mark 0 0 1 and a step

  abbrev pub plain : Job
  plain = fresh 2 2 1 2 0

  abbrev pub begun : List ℕ
  begun = (S.does (new 2 2 1 2 0) zero_record).rec

  begun-blank : Starts S begun plain × Blank begun plain
  begun-blank = new-begins S zero_record zero-buffer zero-long 2 2 1 2 0 (omega arith) tt tt

  abbrev pub mark_and_step : List Call
  mark_and_step = mark 0 0 1 ∷ step zero_scratch ∷ []

  one-mark : Edits plain (mark 0 0 1 ∷ []) (marked plain 0 0 1)
  one-mark = marks 0 0 1 (omega arith) tt tt end

  pub starts-new : Starts S begun plain
  starts-new = begun-blank.0

  pub follows-step : Follows S begun plain mark_and_step (rec_after S mark_and_step begun) (marked plain 0 0 1)
  follows-step =
      let rec : List ℕ = (S.does (mark 0 0 1) begun).rec in
      let J : Job = marked plain 0 0 1 in
      let k : Blank rec J = edits-blank S one-mark begun begun-blank.1 in
      let x : Accepted (S.does (step zero_scratch) rec).answer =
      enough-accepted S rec zero_scratch J (S.does (step zero_scratch) rec) k.kept
      ((S.did (step zero_scratch) rec scratch-buffer k.kept.buffer).legal k.kept.legal) scratch-long in
      edits-follow S one-mark begun begun-blank.1 (step zero_scratch ∷ []) (rec_after S mark_and_step begun) J
      (scratch-buffer, (J, becomes_set S (step zero_scratch) J J (S.does (step zero_scratch) rec).answer x refl, (refl, refl)))

  pub demand-step : NeverOne S begun mark_and_step × Demand S (rec_after S mark_and_step begun) (marked plain 0 0 1)
  demand-step = demand3 S begun plain starts-new mark_and_step (rec_after S mark_and_step begun) (marked plain 0 0 1) follows-step

  -- ---- K9: a record as New 2 2 1 1 2 gave it before the request, and any list of calls on it

  abbrev pub old_job : Job
  old_job = fresh 2 2 1 1 2

  abbrev pub old_record : List ℕ
  old_record = over (unwired_record old_job) zero_record

  pub starts-old : Starts S old_record old_job
  starts-old = (old-begins S zero_record zero-buffer zero-long old_job (fresh-proper 2 2 1 1 2 tt tt) (omega arith)).0

  pub demand-old : (calls : List Call) → AllLent S calls
      → (J : Job) × Follows S old_record old_job calls (rec_after S calls old_record) J × NeverOne S old_record calls × Demand S (rec_after S calls old_record) J
  demand-old = demand-all old_record old_job starts-old

  -- ---- nothing chosen: "all wired", never "added"

  pub none-chosen : (n : ℕ) (w : Answer) (rec : List ℕ) → Stepping S begun n w rec → (n ≡ 0) × (w ≡ all_wired)
  unfolding is_chosen
  none-chosen = none_answers S begun plain starts-new [] begun plain (refl, refl) (λ r c t. and_right (is_pin plain r c) false t)

  -- ---- the job of the 64-byte text, by edits and by Read text

  abbrev pub edits64 : List Call
  edits64 = mark 0 0 1 ∷ close 0 0 1 ∷ []

  to64 : Edits plain edits64 job64
  to64 = marks 0 0 1 (omega arith) tt tt (closes 0 0 1 (omega arith) tt tt end)

  pub answers64 : WholeAnswers S (rec_after S edits64 begun) job64
  answers64 =
      wireds-answers job64 (Memᴰ.head refl) S begun plain starts-new edits64 (rec_after S edits64 begun)
      (edits-follow S to64 begun begun-blank.1 [] (rec_after S edits64 begun) job64 (refl, refl))
      (edits-blank S to64 begun begun-blank.1).unwired

  byte-by-test : (l : List ℕ) → T (every l (λ b. ltb b 256)) → (i : ℕ) → get_or l i 0 < 256
  unfolding every
  byte-by-test [] t i = omega arith
  byte-by-test (b ∷ l) t zero = ltb→lt b 256 (and_left (ltb b 256) (every l (λ b. ltb b 256)) t)
  byte-by-test (b ∷ l) t (suc i) = byte-by-test l (and_right (ltb b 256) (every l (λ b. ltb b 256)) t) i

  text-buffer : Buffer text64
  unfolding every
  text-buffer = record { byte = byte-by-test text64 tt; few = omega arith }

  pub text-answers64 : WholeAnswers S (S.does (read_text text64) zero_record).rec job64
  text-answers64 =
      let (s, b) = text-begins S zero_record zero-buffer zero-long text64 job64 text-buffer reads64 in
      let rec : List ℕ = (S.does (read_text text64) zero_record).rec in
      wireds-answers job64 (Memᴰ.head refl) S rec job64 s [] rec (refl, refl) b.unwired

  -- ---- 3 by 3, one tile open, three pins chosen

  abbrev pub begun33 : List ℕ
  begun33 = (S.does (new 3 3 1 1 0) zero_record).rec

  abbrev pub edits33 : List Call
  edits33 = mark 0 0 1 ∷ mark 1 0 1 ∷ mark 1 1 1 ∷ close 0 1 1 ∷ close 1 0 1 ∷ close 1 1 1 ∷ []

  to33 : Edits (fresh 3 3 1 1 0) edits33 job33
  to33 =
      marks 0 0 1 (omega arith) tt tt
      (marks 1 0 1 (omega arith) tt tt
      (marks 1 1 1 (omega arith) tt tt
      (closes 0 1 1 (omega arith) tt tt (closes 1 0 1 (omega arith) tt tt (closes 1 1 1 (omega arith) tt tt end)))))

  pub answers33 : WholeAnswers S (rec_after S edits33 begun33) job33
  answers33 =
      let (s, b) = new-begins S zero_record zero-buffer zero-long 3 3 1 1 0 (omega arith) tt tt in
      let rec : List ℕ = rec_after S edits33 begun33 in
      wireds-answers job33 (Memᴰ.tail (Memᴰ.head refl)) S begun33 (fresh 3 3 1 1 0) s edits33 rec
      (edits-follow S to33 begun33 b [] rec job33 (refl, refl)) (edits-blank S to33 begun33 b).unwired

  -- ---- 3 by 3, every tile closed, the inner pin chosen

  abbrev pub begun_shut : List ℕ
  begun_shut = (S.does (new 3 3 1 2 0) zero_record).rec

  abbrev pub edits_shut : List Call
  edits_shut = mark 1 1 1 ∷ close 0 0 1 ∷ close 0 1 1 ∷ close 1 0 1 ∷ close 1 1 1 ∷ []

  to_shut : Edits (fresh 3 3 1 2 0) edits_shut job_shut
  to_shut =
      marks 1 1 1 (omega arith) tt tt
      (closes 0 0 1 (omega arith) tt tt
      (closes 0 1 1 (omega arith) tt tt (closes 1 0 1 (omega arith) tt tt (closes 1 1 1 (omega arith) tt tt end))))

  pub answers_shut : Answers S (rec_after S edits_shut begun_shut) short_shut
  answers_shut =
      let (s, b) = new-begins S zero_record zero-buffer zero-long 3 3 1 2 0 (omega arith) tt tt in
      let rec : List ℕ = rec_after S edits_shut begun_shut in
      shorts-answers short_shut (Memᴰ.head refl) S begun_shut (fresh 3 3 1 2 0) s edits_shut rec
      (edits-follow S to_shut begun_shut b [] rec job_shut (refl, refl)) (edits-blank S to_shut begun_shut b).unwired

  -- ---- 3 by 4, one tile open, both inner pins chosen, and a wire already laid on the rim side

  abbrev pub begun_laid : List ℕ
  begun_laid = (S.does (new 3 4 2 2 0) zero_record).rec

  abbrev pub edits_laid : List Call
  edits_laid = mark 1 1 1 ∷ mark 1 2 1 ∷ close 0 0 1 ∷ close 0 2 1 ∷ close 1 0 1 ∷ close 1 1 1 ∷ close 1 2 1 ∷ lay 0 1 0 1 ∷ []

  to_laid : Edits (fresh 3 4 2 2 0) edits_laid job_laid
  to_laid =
      marks 1 1 1 (omega arith) tt tt
      (marks 1 2 1 (omega arith) tt tt
      (closes 0 0 1 (omega arith) tt tt
      (closes 0 2 1 (omega arith) tt tt
      (closes 1 0 1 (omega arith) tt tt
      (closes 1 1 1 (omega arith) tt tt (closes 1 2 1 (omega arith) tt tt (lays 0 1 0 1 (omega arith) tt tt tt end)))))))

  pub answers_laid : Answers S (rec_after S edits_laid begun_laid) short_laid
  answers_laid =
      let (s, b) = new-begins S zero_record zero-buffer zero-long 3 4 2 2 0 (omega arith) tt tt in
      let rec : List ℕ = rec_after S edits_laid begun_laid in
      shorts-answers short_laid
      (Memᴰ.tail (Memᴰ.tail (Memᴰ.tail (Memᴰ.tail (Memᴰ.tail (Memᴰ.head refl)))))) S begun_laid (fresh 3 4 2 2 0) s edits_laid
      rec (edits-follow S to_laid begun_laid b [] rec job_laid (refl, refl)) (edits-blank S to_laid begun_laid b).unwired

  -- ---- the same with caps 1 1 0 and the D of the open tile raised to 2

  abbrev pub begun_own : List ℕ
  begun_own = (S.does (new 3 4 1 1 0) zero_record).rec

  abbrev pub edits_own : List Call
  edits_own = mark 1 1 1 ∷ mark 1 2 1 ∷ close 0 0 1 ∷ close 0 2 1 ∷ close 1 0 1 ∷ close 1 1 1 ∷ close 1 2 1 ∷ diagonal 0 1 2 ∷ []

  to_own : Edits (fresh 3 4 1 1 0) edits_own job_own
  to_own =
      marks 1 1 1 (omega arith) tt tt
      (marks 1 2 1 (omega arith) tt tt
      (closes 0 0 1 (omega arith) tt tt
      (closes 0 2 1 (omega arith) tt tt
      (closes 1 0 1 (omega arith) tt tt
      (closes 1 1 1 (omega arith) tt tt (closes 1 2 1 (omega arith) tt tt (gives 0 1 2 (omega arith) tt tt end)))))))

  pub answers_own : Answers S (rec_after S edits_own begun_own) short_own
  answers_own =
      let (s, b) = new-begins S zero_record zero-buffer zero-long 3 4 1 1 0 (omega arith) tt tt in
      let rec : List ℕ = rec_after S edits_own begun_own in
      shorts-answers short_own
      (Memᴰ.tail (Memᴰ.tail (Memᴰ.tail (Memᴰ.tail (Memᴰ.tail (Memᴰ.tail (Memᴰ.head refl))))))) S begun_own (fresh 3 4 1 1 0) s edits_own
      rec (edits-follow S to_own begun_own b [] rec job_own (refl, refl)) (edits-blank S to_own begun_own b).unwired

  -- ---- a run that a trial starts

  abbrev pub tried : Trial
  tried = trial_of 2 2 1 2 0 1 50 10 25

  abbrev pub begun_trial : List ℕ
  begun_trial = (S.does (trial tried) zero_record).rec

  pub demand-trial : NeverOne S begun_trial [] × Demand S begun_trial (trial_job tried)
  demand-trial =
      let (s, b) = trial-begins S zero_record zero-buffer zero-long tried (omega arith) tt tt tt tt in
      demand3 S begun_trial (trial_job tried) s [] begun_trial (trial_job tried) (refl, refl)
