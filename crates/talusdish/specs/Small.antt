-- Every answer of an operation is one of those that it can give, so that it fits a word and is read back from it. Whether a record is legal need not be
-- known: a test that can fail in neither case passes.
-- Assumes nothing.
use Rattle.std.specs.Prelude.{◌≡◌, Bool, true, false, not, List, [], ◌∷◌, ℕ, ◌-◌, ◌*◌, ◌^◌, ◌≤◌, ◌<◌, suc, T, eqb, leb, ltb, length}
use Rattle.std.proofs.Common.{sym, subst, arith, leb→le, ltb→lt, lt→ltb}
use Rattle.std.proofs.Math.Dec.{nleb→lt}
use Rattle.sums.specs.Counting.{when}
use Rattle.sums.specs.Tests.{and_left, and_right, and_both}
use Rattle.sums.specs.Totals.{total-le, length-total}
use Rattle.model.specs.Job.{Job, array_fits, caps_admitted, fresh, marked, closed, side_of, laid_on, laid_by, diagonal_by, tile_d, in_range, is_pin, is_tile, is_chosen, with_extra}
use Rattle.model.specs.Links.{places, is_pin_kind, Step}
use Rattle.model.specs.Route.{chosen_count}
use Rattle.model.specs.Record.{record_size, scratch_size, job_of, load, Legal, unwired_record, over}
use Rattle.model.specs.Wires.{part_at}
use Rattle.model.specs.Left.{mark_left, close_left, laid_left, centre_left, extra_left}
use Rattle.model.specs.Text.{Verdict, reads, wrong_at, Reading, text_of}
use Rattle.model.specs.Listing.{wires_listing}
use Rattle.model.specs.Trial.{Trial, seed_fits, percents_fit, trial_job}
use Rattle.model.specs.Calls.{Call, new, mark, close, lay, diagonal, step, shortfall, part, read_text, write_text, listing, trial, Answer, done, lacks, lists, wrote, extra, sheet, sheet_is}
use Rattle.model.specs.Calls.{After, after, Test, test, asked, edited, newly, tried_on, listed, read_in, put_out, Stepped, adds, stays, lacking, On, Steps, Lacks, ReadIn, Did, OnSheet}
use Rattle.model.proofs.Asked.{all_hold, numbered, asked-either, both_hold}
use Rattle.model.specs.Sheet.{sheet_job, sheet_fits, SheetVerdict, Judged, all-carried, first-fails}
use Rattle.model.proofs.Over.{legal-proper}
use Rattle.model.proofs.ListingLength.{listing-short}
use Rattle.wire.specs.Places.{when-drop}
use Rattle.wire.specs.Lengths.{places-few}
use Rattle.talusdish.specs.TextBound.{reading-within, text-short}
use Rattle.talusdish.specs.PartBound.{part-fits}
use Rattle.talusdish.specs.Words.{word, word_read, refusal_fits, verdict_fits, fits}
use Rattle.talusdish.specs.Decoded.{word_small, word_back}

abbrev Fits : Call → After → Type 0
Fits c a = T (fits c a.answer)

stable : (b : Bool) → ((T b → ⊥) → ⊥) → T b
stable true n = tt
stable false n = n (λ t. t)

as_fits : (c : Call) {a b : After} → a ≡ b → Fits c b → Fits c a
as_fits c e t = subst (Fits c) (sym e) t

-- ---- a damaged record, a legal one, and buffers that are too short

on_fits : (c : Call) {P : Type 0} (rec scratch output : List ℕ) (a : After) → On rec scratch output a P → (Legal rec → P → Fits c a) → Fits c a
on_fits c rec scratch output a d h = stable (fits c a.answer) (λ n. n (as_fits c (d.damaged (λ g. n (h g (d.legal g)))) tt))

-- a refusal, or what an accepted call leaves
asked-fits : (c : Call) (ts : List Test) (rec output : List ℕ) (a : After) → T (numbered refusal_fits ts) → (T (all_hold ts) → Fits c a)
    → Fits c (asked ts rec output a)
asked-fits c ts rec output a n f = asked-either rec output a (Fits c) refusal_fits ts n (λ k t. t) f

edited-fits : (c : Call) → T (fits c done) → (already : Bool) (K : Job) (left : Step → ℕ) (rec : List ℕ) → Fits c (edited already K left rec)
edited-fits c t true K left rec = t
edited-fits c t false K left rec = t

stepped-fits : (scratch : List ℕ) {rec rec' : List ℕ} {x : Answer} → Stepped rec x rec' → T (fits (step scratch) x)
stepped-fits scratch (adds o) = tt
stepped-fits scratch (stays w e) = tt
stepped-fits scratch (lacking G l e) = tt

-- at most m, or less than it
module _ (m n : ℕ) {P : Type 0} where
  by_size : (n < m → P) → (m ≤ n → P) → P
  by_size f h = by (leb m n) (leb→le m n) (nleb→lt m n)
    where
      by : (b : Bool) → (T b → m ≤ n) → (T (not b) → n < m) → P
      by true p q = h (p tt)
      by false p q = f (q tt)

step_fits : (scratch rec : List ℕ) (a : After) → Steps scratch rec a → Fits (step scratch) a
step_fits scratch rec a d =
    by_size scratch_size (length scratch) (λ l. as_fits (step scratch) (d.small l) tt) (λ l. stepped-fits scratch (d.enough l).0)

-- ---- the values

chosen-few : (rec : List ℕ) → Legal rec → chosen_count (job_of rec) ≤ 11200
chosen-few rec g =
    let J : Job = job_of rec in
    omega (
      arith,
      total-le (places J) (λ x. when (is_pin_kind x) 1) (λ x. 1) (λ x. when-drop (is_pin_kind x) 1),
      length-total (places J),
      places-few J g.values.array,
    )

lacks-fits : (scratch output rec : List ℕ) → Legal rec → (a : After) → Lacks scratch output rec a → Fits (shortfall scratch output) a
lacks-fits scratch output rec g a d =
    let c : Call = shortfall scratch output in
    by_size scratch_size (length scratch) (λ l. as_fits c (d.small l) tt)
    (λ l.
    by_size record_size (length output) (λ k. as_fits c (d.narrow l k) tt)
    (λ k. subst (λ x. T (fits c x)) (sym (d.enough l k).2) (number (d.enough l k).0)))
  where
    number : (n : ℕ) → T (fits (shortfall scratch output) (lacks (chosen_count (job_of rec) - n)))
    number n = lt→ltb (chosen_count (job_of rec) - n) (2 ^ 56) (omega (arith, chosen-few rec g))

listed-fits : (rec : List ℕ) → Legal rec → (r c i : ℕ) → Fits (part r c i) (listed r c i rec)
listed-fits rec g r c i =
    asked-fits (part r c i) (test (is_chosen (job_of rec) r c) 4 ∷ []) rec [] (after (lists (part_at (job_of rec) (load rec) r c i)) rec [] []) tt
    (λ t. part-fits rec g r c i)

read_fits : (text rec : List ℕ) (a : After) → ReadIn text rec a → Fits (read_text text) a
read_fits text rec a d =
    by_size record_size (length rec) (λ l. as_fits (read_text text) (d.brief l) tt)
    (λ l. let (v, r, e) = d.long l in as_fits (read_text text) e (by v r))
  where
    by : (v : Verdict) → Reading text v → Fits (read_text text) (read_in v rec)
    by (reads K) r = tt
    by (wrong_at o) r = lt→ltb o (2 ^ 56) (omega (arith, reading-within text (wrong_at o) r))

put-fits : (c : Call) (text output rec : List ℕ) → T (fits c (wrote (length text))) → Fits c (put_out text output rec)
put-fits c text output rec t =
    asked-fits c (test (leb (length text) (length output)) 7 ∷ []) rec output (after (wrote (length text)) rec [] (over text output)) tt (λ u. t)

written-fits : (output rec : List ℕ) → Legal rec → T (fits (write_text output) (wrote (length (text_of (job_of rec)))))
written-fits output rec g = lt→ltb (length (text_of (job_of rec))) (2 ^ 56) (omega (arith, text-short (job_of rec) (legal-proper rec g)))

listing-fits : (output rec : List ℕ) → T (fits (listing output) (wrote (length (wires_listing (job_of rec) (load rec)))))
listing-fits output rec = lt→ltb (length (wires_listing (job_of rec) (load rec))) (2 ^ 56) (omega (arith, listing-short (job_of rec) (load rec)))

newly-fits : (rows columns O D E : ℕ) (rec : List ℕ) → Fits (new rows columns O D E) (newly rows columns O D E rec)
newly-fits rows columns O D E rec =
    asked-fits (new rows columns O D E)
    (test (leb record_size (length rec)) 1 ∷ test (array_fits rows columns) 2 ∷ test (caps_admitted O D E) 3 ∷ []) rec []
    (after done (over (unwired_record (fresh rows columns O D E)) rec) [] []) tt (λ t. tt)

tried-fits : (t : Trial) (rec : List ℕ) → Fits (trial t) (tried_on t rec)
tried-fits t rec =
    asked-fits (trial t)
    (test (leb record_size (length rec)) 1
    ∷ test (array_fits t.rows t.columns) 2
    ∷ test (caps_admitted t.O t.D t.E) 3
    ∷ test (seed_fits t.seed) 12
    ∷ test (percents_fit t.chosen t.missing t.closed) 13
    ∷ []) rec [] (after done (over (unwired_record (trial_job t)) rec) [] []) tt (λ u. tt)

judged-fits : (rec loads : List ℕ) → Legal rec → (v : SheetVerdict) → Judged (job_of rec) loads v → T (verdict_fits v)
judged-fits rec loads g v (all-carried k) = tt
judged-fits rec loads g v (first-fails r c t n b) =
    let J : Job = job_of rec in
    let lr = ltb→lt (suc r) J.rows (and_left (ltb (suc r) J.rows) (ltb (suc c) J.columns) t) in
    let lc = ltb→lt (suc c) J.columns (and_right (ltb (suc r) J.rows) (ltb (suc c) J.columns) t) in
    let a = g.values.array in
    let mr = leb→le J.rows 40 (and_right (leb 2 J.rows) (leb J.rows 40) (and_left (in_range 2 40 J.rows) (in_range 2 40 J.columns) a)) in
    let mc = leb→le J.columns 40 (and_right (leb 2 J.columns) (leb J.columns 40) (and_right (in_range 2 40 J.rows) (in_range 2 40 J.columns) a)) in
    and_both (ltb r 64) (ltb c 64) (lt→ltb r 64 (omega arith)) (lt→ltb c 64 (omega arith))

sheet-fits : (loads rec : List ℕ) → Legal rec → (a : After) → OnSheet loads rec a → Fits (sheet loads) a
sheet-fits loads rec g a s =
    let j : Bool = sheet_job (job_of rec) in
    let f : Bool = sheet_fits (job_of rec) loads in
    as_fits (sheet loads) s.left
    (asked-fits (sheet loads) (test j 14 ∷ test f 15 ∷ []) rec [] (after (sheet_is s.verdict) rec [] []) tt
    (λ t. let (u, v) = both_hold j f t in judged-fits rec loads g s.verdict (s.judged u v)))

-- ---- every operation

pub did-fits : (c : Call) (rec : List ℕ) (a : After) → Did c rec a → Fits c a
did-fits (new rows columns O D E) rec a d = as_fits (new rows columns O D E) d (newly-fits rows columns O D E rec)
did-fits (mark r c m) rec a d =
    let J : Job = job_of rec in
    let left : Step → ℕ = mark_left J (load rec) r c in
    let leaves : After = edited (eqb (J.mark r c) m) (marked J r c m) left rec in
    on_fits (mark r c m) rec [] [] a d
    (λ g e.
    as_fits (mark r c m) e
    (asked-fits (mark r c m) (test (is_pin J r c) 4 ∷ test (leb m 2) 5 ∷ []) rec [] leaves tt
    (λ t. edited-fits (mark r c m) tt (eqb (J.mark r c) m) (marked J r c m) left rec)))
did-fits (close r c v) rec a d =
    let J : Job = job_of rec in
    let left : Step → ℕ = close_left J (load rec) r c in
    let leaves : After = edited (eqb (J.state r c) v) (closed J r c v) left rec in
    on_fits (close r c v) rec [] [] a d
    (λ g e.
    as_fits (close r c v) e
    (asked-fits (close r c v) (test (is_tile J r c) 4 ∷ test (leb v 1) 5 ∷ []) rec [] leaves tt
    (λ t. edited-fits (close r c v) tt (eqb (J.state r c) v) (closed J r c v) left rec)))
did-fits (lay r c n m) rec a d =
    let J : Job = job_of rec in
    let there : Bool = eqb (laid_on J (side_of r c n)) m in
    let left : Step → ℕ = laid_left J (load rec) (side_of r c n) m in
    let leaves : After = edited there (laid_by J (side_of r c n) m) left rec in
    on_fits (lay r c n m) rec [] [] a d
    (λ g e.
    as_fits (lay r c n m) e
    (asked-fits (lay r c n m) (test (is_tile J r c) 4 ∷ test (leb n 3) 5 ∷ test (leb m J.O) 11 ∷ []) rec [] leaves tt
    (λ t. edited-fits (lay r c n m) tt there (laid_by J (side_of r c n) m) left rec)))
did-fits (diagonal r c v) rec a d =
    let J : Job = job_of rec in
    let there : Bool = eqb (tile_d J r c) v in
    let left : Step → ℕ = centre_left J (load rec) r c in
    let leaves : After = edited there (diagonal_by J r c v) left rec in
    on_fits (diagonal r c v) rec [] [] a d
    (λ g e.
    as_fits (diagonal r c v) e
    (asked-fits (diagonal r c v) (test (is_tile J r c) 4 ∷ test (in_range J.O (2 * J.O) v) 3 ∷ []) rec [] leaves tt
    (λ t. edited-fits (diagonal r c v) tt there (diagonal_by J r c v) left rec)))
did-fits (step scratch) rec a d = on_fits (step scratch) rec scratch [] a d (λ g s. step_fits scratch rec a s)
did-fits (shortfall scratch output) rec a d = on_fits (shortfall scratch output) rec scratch output a d (λ g s. lacks-fits scratch output rec g a s)
did-fits (part r c i) rec a d = on_fits (part r c i) rec [] [] a d (λ g e. as_fits (part r c i) e (listed-fits rec g r c i))
did-fits (read_text text) rec a d = read_fits text rec a d
did-fits (write_text output) rec a d =
    on_fits (write_text output) rec [] output a d
    (λ g e. as_fits (write_text output) e (put-fits (write_text output) (text_of (job_of rec)) output rec (written-fits output rec g)))
did-fits (listing output) rec a d =
    on_fits (listing output) rec [] output a d
    (λ g e. as_fits (listing output) e (put-fits (listing output) (wires_listing (job_of rec) (load rec)) output rec (listing-fits output rec)))
did-fits (trial t) rec a d = as_fits (trial t) d (tried-fits t rec)
did-fits (extra e) rec a d =
    let J : Job = job_of rec in
    let left : Step → ℕ = extra_left J (load rec) in
    let leaves : After = edited (eqb J.E e) (with_extra J e) left rec in
    on_fits (extra e) rec [] [] a d
    (λ g h.
    as_fits (extra e) h
    (asked-fits (extra e) (test (leb e J.E) 3 ∷ []) rec [] leaves tt (λ t. edited-fits (extra e) tt (eqb J.E e) (with_extra J e) left rec)))
did-fits (sheet loads) rec a d = on_fits (sheet loads) rec [] [] a d (λ g s. sheet-fits loads rec g a s)

pub did-small : (c : Call) (rec : List ℕ) (a : After) → Did c rec a → word a.answer < 2 ^ 64
did-small c rec a d = word_small c a.answer (did-fits c rec a d)

-- the host reads every answer back from its word
pub did-back : (c : Call) (rec : List ℕ) (a : After) → Did c rec a → word_read c (word a.answer) ≡ a.answer
did-back c rec a d = word_back c a.answer (did-fits c rec a d)
