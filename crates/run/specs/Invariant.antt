-- Document 01, "Runs": a call on a legal record that holds the job J either is accepted and leaves a legal record that holds the job which the call makes
-- of J, or is refused by another number than 1 and leaves the record. One lemma for each operation. Assumes nothing.
use Rattle.std.specs.Prelude.{◌≡◌, refl, ◌≢◌, Bool, true, false, not, ◌&&◌, List, [], ◌∷◌, ℕ, ◌*◌, ◌≤◌, ◌<◌, T, eqb, leb, length}
use Rattle.std.proofs.Common.{sym, ap, ap₂, subst, ◌∙◌, arith, le-leb, eqb→eq, leb→le}
use Rattle.std.proofs.Math.Option.{some}
use Rattle.std.proofs.Math.Dec.{nleb→lt}
use Rattle.sums.specs.Tests.{and_left, and_right}
use Rattle.model.specs.Job.{Job, array_fits, caps_admitted, fresh, put, with_added, marked, closed, Side, of_north, of_west, side_of, laid_on, laid_by, own_for, diagonal_by, tile_d, in_range, is_pin, is_tile, is_chosen, AddedFits, Proper, with_extra}
use Rattle.model.specs.Links.{Step}
use Rattle.model.specs.Record.{record_size, scratch_size, job_of, load, Legal, record_of, no_loads, unwired_record, over}
use Rattle.model.specs.Left.{mark_left, close_left, laid_left, centre_left, extra_left}
use Rattle.model.specs.Wires.{part_at}
use Rattle.model.specs.Text.{Verdict, reads, wrong_at, Reading, text_of}
use Rattle.model.specs.Listing.{wires_listing}
use Rattle.model.specs.Trial.{Trial, seed_fits, percents_fit, trial_job}
use Rattle.model.specs.Calls.{Call, new, mark, close, lay, diagonal, step, shortfall, part, read_text, write_text, listing, trial, extra, sheet, sheet_is, sheet_left}
use Rattle.model.specs.Sheet.{sheet_job, sheet_fits, SheetVerdict}
use Rattle.model.specs.Calls.{Answer, refused, done, lists, wrote, refusal, Accepted, After, after}
use Rattle.model.specs.Calls.{Test, test, asked, edited, newly, tried_on, marked_by, closed_by, laid_in, diagonal_in, listed, read_in, put_out, Stepped, adds, stays, lacking, Steps, Lacks, Did, extra_in}
use Rattle.model.specs.Run.{Buffer, Service, Sets}
use Rattle.model.proofs.RecordOf.{length-record}
use Rattle.model.proofs.Asked.{all_hold, numbered, both_hold, asked-holds, asked-either}
use Rattle.model.proofs.Admitted.{admitted-fit, extra-proper}
use Rattle.model.proofs.Unwired.{unwired-legal}
use Rattle.model.proofs.Over.{legal-proper}
use Rattle.model.proofs.Own.{own-kept, diagonal-proper}
use Rattle.model.proofs.Sides.{laid-proper}
use Rattle.model.proofs.TextProper.{fresh-proper, marked-proper, closed-proper, reading-proper}
use Rattle.model.proofs.TrialProper.{trial-proper}
use Rattle.keep.specs.Legality.{mark-legal, close-legal, laid-legal, diagonal-legal, extra-legal}
use Rattle.run.specs.Buffers.{over-buffer}
use Rattle.run.specs.OthersStay.{left-legal, left-job}

-- a buffer that is a legal record of the job
pub record Kept (rec : List ℕ) (J : Job) : Type 0 where
  pub buffer : Buffer rec
  pub legal : Legal rec
  pub job : job_of rec ≡ J

-- what the call c on the record rec with the job J leaves
pub data Leaves (S : Service) (c : Call) (rec : List ℕ) (J : Job) (a : After) : Type 0 where
  accepts : (K : Job) → Accepted a.answer → Sets S c J K → Kept a.rec K → Leaves S c rec J a
  refuses : (k : ℕ) → refusal a.answer ≡ some k → k ≢ 1 → a.rec ≡ rec → Leaves S c rec J a

-- a refusal by another number than 1
abbrev not_one : ℕ → Bool
not_one k = not (eqb k 1)

refused-leaves : (S : Service) (c : Call) (rec : List ℕ) (J : Job) (output : List ℕ) (k : ℕ) → T (not_one k) → Leaves S c rec J (after (refused k) rec [] output)
refused-leaves S c rec J output k t = refuses k refl (λ e. subst (λ (n : ℕ). T (not_one n)) e t) refl

-- ---- the calls that begin anew, on any buffer that is long enough

module _ (rec : List ℕ) (b : Buffer rec) (long : record_size ≤ length rec) where
  -- the record of a proper job over the buffer
  pub left-kept : (K : Job) (left : Step → ℕ) → Proper K → Legal (record_of K left) → Kept (over (record_of K left) rec) K
  left-kept K left p g =
      record {
        buffer = over-buffer (record_of K left) rec (length-record K left) long (left-legal rec K left p g) b;
        legal = left-legal rec K left p g;
        job = left-job rec K left p g;
      }

  pub anew : (K : Job) → Proper K → Kept (over (unwired_record K) rec) K
  anew K p = left-kept K no_loads p (unwired-legal K p)

module _ (S : Service) (rec : List ℕ) (J : Job) (b : Buffer rec) (long : record_size ≤ length rec) where
  pub new-leaves : (rows columns O D E : ℕ) → Leaves S (new rows columns O D E) rec J (newly rows columns O D E rec)
  new-leaves rows columns O D E =
      let K : Job = fresh rows columns O D E in
      let made : After = after done (over (unwired_record K) rec) [] [] in
      let ts : List Test = test (array_fits rows columns) 2 ∷ test (caps_admitted O D E) 3 ∷ [] in
      subst (Leaves S (new rows columns O D E) rec J) (sym (asked-holds rec [] made (leb record_size (length rec)) 1 ts (le-leb record_size (length rec) long)))
      (asked-either rec [] made (Leaves S (new rows columns O D E) rec J) not_one ts tt (refused-leaves S (new rows columns O D E) rec J [])
      (λ t.
      accepts K refl refl
      (anew rec b long K
      (fresh-proper rows columns O D E (and_left (array_fits rows columns) (caps_admitted O D E && true) t)
      (admitted-fit O D E (and_left (caps_admitted O D E) true (and_right (array_fits rows columns) (caps_admitted O D E && true) t)))))))

  pub read-leaves : (text : List ℕ) (v : Verdict) → Reading text v → Leaves S (read_text text) rec J (read_in v rec)
  read-leaves text (reads K) r = accepts K refl r (anew rec b long K (reading-proper text K r))
  read-leaves text (wrong_at o) r = refuses 6 refl (omega arith) refl

  pub trial-leaves : (t : Trial) → Leaves S (trial t) rec J (tried_on t rec)
  trial-leaves t =
      let K : Job = trial_job t in
      let made : After = after done (over (unwired_record K) rec) [] [] in
      let a : Bool = array_fits t.rows t.columns in
      let d : Bool = caps_admitted t.O t.D t.E in
      let rest : List Test = test (seed_fits t.seed) 12 ∷ test (percents_fit t.chosen t.missing t.closed) 13 ∷ [] in
      let ts : List Test = test a 2 ∷ test d 3 ∷ rest in
      subst (Leaves S (trial t) rec J) (sym (asked-holds rec [] made (leb record_size (length rec)) 1 ts (le-leb record_size (length rec) long)))
      (asked-either rec [] made (Leaves S (trial t) rec J) not_one ts tt (refused-leaves S (trial t) rec J [])
      (λ h.
      accepts K refl refl
      (anew rec b long K
      (trial-proper t (and_left a (d && all_hold rest) h)
      (admitted-fit t.O t.D t.E (and_left d (all_hold rest) (and_right a (d && all_hold rest) h)))))))

-- ---- the others, on a legal record

put_same : (f : ℕ → ℕ → ℕ) (r c v : ℕ) → f r c ≡ v → (i j : ℕ) → put f r c v i j ≡ f i j
put_same f r c v e i j =
    by (eqb i r && eqb j c) (λ t. (eqb→eq i r (and_left (eqb i r) (eqb j c) t), eqb→eq j c (and_right (eqb i r) (eqb j c) t)))
  where
    by : (b : Bool) → (T b → (i ≡ r) × (j ≡ c)) → elim b as (λ x. ℕ) [ true ↦ v | false ↦ f i j ] ≡ f i j
    by true h = sym e ∙ ap₂ f (sym (h tt).0) (sym (h tt).1)
    by false h = refl

marked-same : (J : Job) (r c m : ℕ) → J.mark r c ≡ m → marked J r c m ≡ J
marked-same J r c m e =
    λ i. record {
      rows = J.rows;
      columns = J.columns;
      O = J.O;
      D = J.D;
      E = J.E;
      mark = λ x y. put_same J.mark r c m e x y i;
      state = J.state;
      added = J.added;
    }

closed_same : (J : Job) (r c v : ℕ) → J.state r c ≡ v → closed J r c v ≡ J
closed_same J r c v e =
    λ i. record {
      rows = J.rows;
      columns = J.columns;
      O = J.O;
      D = J.D;
      E = J.E;
      mark = J.mark;
      state = λ x y. put_same J.state r c v e x y i;
      added = J.added;
    }

laid_same : (J : Job) (s : Side) (n : ℕ) → laid_on J s ≡ n → laid_by J s n ≡ J
laid_same J (of_north r c) n e =
    λ i. with_added J
    (record {
      laid_north = λ x y. put_same J.added.laid_north r c n e x y i;
      laid_west = J.added.laid_west;
      own_d = J.added.own_d;
      upward = J.added.upward;
      seen = J.added.seen;
    })
laid_same J (of_west r c) n e =
    λ i. with_added J
    (record {
      laid_north = J.added.laid_north;
      laid_west = λ x y. put_same J.added.laid_west r c n e x y i;
      own_d = J.added.own_d;
      upward = J.added.upward;
      seen = J.added.seen;
    })

diagonal-same : (J : Job) (r c d : ℕ) → AddedFits J → tile_d J r c ≡ d → diagonal_by J r c d ≡ J
diagonal-same J r c d f e =
    λ i. with_added J
    (record {
      laid_north = J.added.laid_north;
      laid_west = J.added.laid_west;
      own_d = λ x y. put_same J.added.own_d r c (own_for J d) (own-kept J r c d f e) x y i;
      upward = J.added.upward;
      seen = J.added.seen;
    })

module _ (S : Service) (rec : List ℕ) (J : Job) (k : Kept rec J) where
  -- K is the edited job, `left` the loads of the wires that stay
  edit-leaves : (c : Call) (ts : List Test) (already : Bool) (K : Job) (left : Step → ℕ) → T (numbered not_one ts)
      → (T (all_hold ts) → Proper K × Legal (record_of K left)) → (T already → K ≡ J) → Sets S c J K
      → Leaves S c rec J (asked ts rec [] (edited already K left rec))
  edit-leaves c ts already K left n p q s =
      asked-either rec [] (edited already K left rec) (Leaves S c rec J) not_one ts n (refused-leaves S c rec J []) (λ t. by already q (p t))
    where
      by : (b : Bool) → (T b → K ≡ J) → Proper K × Legal (record_of K left) → Leaves S c rec J (edited b K left rec)
      by true q p = accepts J refl (subst (Sets S c J) (q tt) s) k
      by false q p = accepts K refl s (left-kept rec k.buffer k.legal.long K left p.0 p.1)

  proper : Proper (job_of rec)
  proper = legal-proper rec k.legal

  mark-leaves : (r c m : ℕ) → Leaves S (mark r c m) rec J (marked_by r c m rec)
  mark-leaves r c m =
      let I : Job = job_of rec in
      edit-leaves (mark r c m) (test (is_pin I r c) 4 ∷ test (leb m 2) 5 ∷ []) (eqb (I.mark r c) m) (marked I r c m) (mark_left I (load rec) r c) tt
      (λ t. let (u, v) = both_hold (is_pin I r c) (leb m 2) t in (marked-proper I r c m proper u v, mark-legal rec k.legal proper r c m u v))
      (λ t. marked-same I r c m (eqb→eq (I.mark r c) m t) ∙ k.job)
      (ap (λ (X : Job). marked X r c m) k.job)

  close-leaves : (r c v : ℕ) → Leaves S (close r c v) rec J (closed_by r c v rec)
  close-leaves r c v =
      let I : Job = job_of rec in
      edit-leaves (close r c v) (test (is_tile I r c) 4 ∷ test (leb v 1) 5 ∷ []) (eqb (I.state r c) v) (closed I r c v) (close_left I (load rec) r c) tt
      (λ t. let (u, w) = both_hold (is_tile I r c) (leb v 1) t in (closed-proper I r c v proper u w, close-legal rec k.legal proper r c v u w))
      (λ t. closed_same I r c v (eqb→eq (I.state r c) v t) ∙ k.job)
      (ap (λ (X : Job). closed X r c v) k.job)

  lay-leaves : (r c d n : ℕ) → Leaves S (lay r c d n) rec J (laid_in r c d n rec)
  lay-leaves r c d n =
      let I : Job = job_of rec in
      let a : Bool = is_tile I r c in
      let b : Bool = leb d 3 in
      let l : Bool = leb n I.O in
      edit-leaves (lay r c d n) (test a 4 ∷ test b 5 ∷ test l 11 ∷ []) (eqb (laid_on I (side_of r c d)) n) (laid_by I (side_of r c d) n)
      (laid_left I (load rec) (side_of r c d) n) tt
      (λ t.
      let u : T a = and_left a (b && (l && true)) t in
      let w : T l = (both_hold b l (and_right a (b && (l && true)) t)).1 in
      (laid-proper I r c d n proper u w, laid-legal rec k.legal proper r c d n u w))
      (λ t. laid_same I (side_of r c d) n (eqb→eq (laid_on I (side_of r c d)) n t) ∙ k.job)
      (ap (λ (X : Job). laid_by X (side_of r c d) n) k.job)

  diagonal-leaves : (r c d : ℕ) → Leaves S (diagonal r c d) rec J (diagonal_in r c d rec)
  diagonal-leaves r c d =
      let I : Job = job_of rec in
      let b : Bool = in_range I.O (2 * I.O) d in
      edit-leaves (diagonal r c d) (test (is_tile I r c) 4 ∷ test b 3 ∷ []) (eqb (tile_d I r c) d) (diagonal_by I r c d) (centre_left I (load rec) r c) tt
      (λ t. let (u, v) = both_hold (is_tile I r c) b t in (diagonal-proper I r c d proper u v, diagonal-legal rec k.legal proper r c d u v))
      (λ t. diagonal-same I r c d k.legal.values.added (eqb→eq (tile_d I r c) d t) ∙ k.job)
      (ap (λ (X : Job). diagonal_by X r c d) k.job)

  extra-leaves : (e : ℕ) → Leaves S (extra e) rec J (extra_in e rec)
  extra-leaves e =
      let I : Job = job_of rec in
      let b : Bool = leb e I.E in
      edit-leaves (extra e) (test b 3 ∷ []) (eqb I.E e) (with_extra I e) (extra_left I (load rec)) tt
      (λ t. let u : T b = and_left b true t in (extra-proper I e proper u, extra-legal rec k.legal proper e u))
      (λ t. ap (with_extra I) (sym (eqb→eq I.E e t)) ∙ k.job)
      (ap (λ (X : Job). with_extra X e) k.job)

  part-leaves : (r c i : ℕ) → Leaves S (part r c i) rec J (listed r c i rec)
  part-leaves r c i =
      asked-either rec [] (after (lists (part_at (job_of rec) (load rec) r c i)) rec [] []) (Leaves S (part r c i) rec J) not_one
      (test (is_chosen (job_of rec) r c) 4 ∷ []) tt (refused-leaves S (part r c i) rec J []) (λ t. accepts J refl refl k)

  -- a text put out leaves the record
  put-leaves : (c : Call) → Sets S c J J → (text output : List ℕ) → Leaves S c rec J (put_out text output rec)
  put-leaves c s text output =
      asked-either rec output (after (wrote (length text)) rec [] (over text output)) (Leaves S c rec J) not_one
      (test (leb (length text) (length output)) 7 ∷ []) tt (refused-leaves S c rec J output) (λ t. accepts J refl s k)

  sheet-leaves : (loads : List ℕ) (v : SheetVerdict) → Leaves S (sheet loads) rec J (sheet_left loads v rec)
  sheet-leaves loads v =
      asked-either rec [] (after (sheet_is v) rec [] []) (Leaves S (sheet loads) rec J) not_one
      (test (sheet_job (job_of rec)) 14 ∷ test (sheet_fits (job_of rec) loads) 15 ∷ []) tt (refused-leaves S (sheet loads) rec J [])
      (λ t. accepts J refl refl k)

  -- an accepted call that leaves the record
  stays-kept : {rec' : List ℕ} → rec' ≡ rec → Kept rec' J
  stays-kept e = subst (λ (x : List ℕ). Kept x J) (sym e) k

  -- one whose record is legal, of the same job, with other bytes in its first 32,768
  moved-kept : {rec' : List ℕ} → Legal rec' → job_of rec' ≡ job_of rec → (new : List ℕ) × (length new ≡ record_size) × (rec' ≡ over new rec) → Kept rec' J
  moved-kept g j (bytes, size, e) =
      record {
        buffer = subst Buffer (sym e) (over-buffer bytes rec size k.legal.long (subst Legal e g) k.buffer);
        legal = g;
        job = j ∙ k.job;
      }

  pub stepped_kept : {x : Answer} {rec' : List ℕ} → Stepped rec x rec' → Accepted x × Kept rec' J
  stepped_kept (adds o) = (refl, moved-kept o.legal o.job o.rest)
  stepped_kept (stays w s) = (refl, moved-kept s.legal s.job s.rest)
  stepped_kept (lacking G l e) = (refl, stays-kept e)

  step-leaves : (scratch : List ℕ) (a : After) → Steps scratch rec a → Leaves S (step scratch) rec J a
  step-leaves scratch a d = by (leb scratch_size (length scratch)) (leb→le scratch_size (length scratch)) (nleb→lt scratch_size (length scratch))
    where
      by : (b : Bool) → (T b → scratch_size ≤ length scratch) → (T (not b) → length scratch < scratch_size) → Leaves S (step scratch) rec J a
      by true f h = let (x, y) = stepped_kept (d.enough (f tt)).0 in accepts J x refl y
      by false f h = subst (Leaves S (step scratch) rec J) (sym (d.small (h tt))) (refuses 8 refl (omega arith) refl)

  shortfall-leaves : (scratch output : List ℕ) (a : After) → Lacks scratch output rec a → Leaves S (shortfall scratch output) rec J a
  shortfall-leaves scratch output a d =
      by (leb scratch_size (length scratch)) (leb record_size (length output)) (leb→le scratch_size (length scratch)) (nleb→lt scratch_size (length scratch))
      (leb→le record_size (length output)) (nleb→lt record_size (length output))
    where
      by : (b c : Bool) → (T b → scratch_size ≤ length scratch) → (T (not b) → length scratch < scratch_size) → (T c → record_size ≤ length output)
          → (T (not c) → length output < record_size) → Leaves S (shortfall scratch output) rec J a
      by true true f h p q =
          let x = d.enough (f tt) (p tt) in
          accepts J (ap refusal x.2) refl (stays-kept x.4)
      by true false f h p q =
          subst (Leaves S (shortfall scratch output) rec J) (sym (d.narrow (f tt) (q tt))) (refuses 7 refl (omega arith) refl)
      by false c f h p q = subst (Leaves S (shortfall scratch output) rec J) (sym (d.small (h tt))) (refuses 8 refl (omega arith) refl)

  pub call-leaves : (c : Call) (a : After) → Did c rec a → Leaves S c rec J a
  call-leaves (new rows columns O D E) a d =
      subst (Leaves S (new rows columns O D E) rec J) (sym d) (new-leaves S rec J k.buffer k.legal.long rows columns O D E)
  call-leaves (mark r c m) a d = subst (Leaves S (mark r c m) rec J) (sym (d.legal k.legal)) (mark-leaves r c m)
  call-leaves (close r c v) a d = subst (Leaves S (close r c v) rec J) (sym (d.legal k.legal)) (close-leaves r c v)
  call-leaves (lay r c n m) a d = subst (Leaves S (lay r c n m) rec J) (sym (d.legal k.legal)) (lay-leaves r c n m)
  call-leaves (diagonal r c v) a d = subst (Leaves S (diagonal r c v) rec J) (sym (d.legal k.legal)) (diagonal-leaves r c v)
  call-leaves (step scratch) a d = step-leaves scratch a (d.legal k.legal)
  call-leaves (shortfall scratch output) a d = shortfall-leaves scratch output a (d.legal k.legal)
  call-leaves (part r c i) a d = subst (Leaves S (part r c i) rec J) (sym (d.legal k.legal)) (part-leaves r c i)
  call-leaves (read_text text) a d =
      let (v, r, e) = d.long k.legal.long in
      subst (Leaves S (read_text text) rec J) (sym e) (read-leaves S rec J k.buffer k.legal.long text v r)
  call-leaves (write_text output) a d = subst (Leaves S (write_text output) rec J) (sym (d.legal k.legal)) (put-leaves (write_text output) refl (text_of (job_of rec)) output)
  call-leaves (listing output) a d =
      subst (Leaves S (listing output) rec J) (sym (d.legal k.legal)) (put-leaves (listing output) refl (wires_listing (job_of rec) (load rec)) output)
  call-leaves (trial t) a d = subst (Leaves S (trial t) rec J) (sym d) (trial-leaves S rec J k.buffer k.legal.long t)
  call-leaves (extra e) a d = subst (Leaves S (extra e) rec J) (sym (d.legal k.legal)) (extra-leaves e)
  call-leaves (sheet loads) a d =
      let s = d.legal k.legal in subst (Leaves S (sheet loads) rec J) (sym s.left) (sheet-leaves loads s.verdict)
