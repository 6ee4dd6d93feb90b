-- Document 01, "Runs": along a run the record stays a legal one, of the job that the calls alone give, and none of them is refused by 1. For the job that
-- a call makes of another is one only, so it is the one that the call leaves. And every list of calls after a start is a run. Assumes nothing.
use Rattle.std.specs.Prelude.{◌≡◌, refl, ◌≢◌, Bool, true, false, not, List, [], ◌∷◌, ℕ, ◌≤◌, ◌<◌, T, leb, length}
use Rattle.std.proofs.Common.{sym, ap, subst, ◌∙◌, leb→le}
use Rattle.std.proofs.Math.Option.{Option, none, some}
use Rattle.std.proofs.lemmas.Bool.{lt-leb}
use Rattle.std.proofs.Math.Dec.{nleb→lt}
use Rattle.sums.specs.Entries.{none-some, some_one}
use Rattle.model.specs.Job.{Job, array_fits, caps_admitted, fresh}
use Rattle.model.specs.Record.{record_size, unwired_record, over}
use Rattle.model.specs.Text.{reads, Reading}
use Rattle.model.specs.Trial.{Trial, seed_fits, percents_fit, trial_job}
use Rattle.model.specs.Calls.{Call, new, mark, close, lay, diagonal, step, shortfall, part, read_text, write_text, listing, trial, extra, sheet}
use Rattle.model.specs.Calls.{Answer, refused, done, refusal, Accepted, After, after, test, newly, tried_on, ReadIn}
use Rattle.model.specs.Run.{Buffer, Service, Sets, Becomes, Lent, Starts, by_new, by_text, by_trial, by_old, Follows, NeverOne}
use Rattle.model.proofs.Asked.{asked-fails}
use Rattle.model.proofs.TextUnique.{reads-unique}
use Rattle.run.specs.Invariant.{Kept, Leaves, accepts, refuses, anew, new-leaves, read-leaves, trial-leaves, call-leaves}

reads_same : (A B : Job) → reads A ≡ reads B → A ≡ B
reads_same A B e = cc

module _ (S : Service) where
  sets-one : (c : Call) (J K L : Job) → Sets S c J K → Sets S c J L → K ≡ L
  sets-one (new rows columns O D E) J K L a b = a ∙ sym b
  sets-one (mark r c m) J K L a b = a ∙ sym b
  sets-one (close r c v) J K L a b = a ∙ sym b
  sets-one (lay r c d n) J K L a b = a ∙ sym b
  sets-one (diagonal r c d) J K L a b = a ∙ sym b
  sets-one (step scratch) J K L a b = a ∙ sym b
  sets-one (shortfall scratch output) J K L a b = a ∙ sym b
  sets-one (part r c i) J K L a b = a ∙ sym b
  sets-one (read_text text) J K L a b = reads_same K L (reads-unique a b)
  sets-one (write_text output) J K L a b = a ∙ sym b
  sets-one (listing output) J K L a b = a ∙ sym b
  sets-one (trial t) J K L a b = a ∙ sym b
  sets-one (extra e) J K L a b = a ∙ sym b
  sets-one (sheet loads) J K L a b = a ∙ sym b

  -- the job after a call, by what it answered
  abbrev After? : Option ℕ → Call → Job → Job → Type 0
  After? o c J K = elim o as (λ x. Type 0) [ none ↦ Sets S c J K | some k ↦ K ≡ J ]

  next-kept : (c : Call) (rec : List ℕ) (J K : Job) (a : After) → Kept rec J → Leaves S c rec J a → Becomes S a.answer c J K
      → Kept a.rec K × (refusal a.answer ≢ some 1)
  next-kept c rec J K a k (accepts L e s l) b = (
    subst (Kept a.rec) (sets-one c J L K s (subst (λ (o : Option ℕ). After? o c J K) e b)) l,
    λ f. none-some 1 (sym e ∙ f),
  )
  next-kept c rec J K a k (refuses n e m q) b = (
    subst (λ (x : List ℕ). Kept x K) (sym q) (subst (Kept rec) (sym (subst (λ (o : Option ℕ). After? o c J K) e b)) k),
    λ f. m (some_one n 1 (sym e ∙ f)),
  )

  pub becomes_set : (c : Call) (J K : Job) (x : Answer) → Accepted x → Sets S c J K → Becomes S x c J K
  becomes_set c J K x e s = subst (λ (o : Option ℕ). After? o c J K) (sym e) s

  pub accepted-kept : (c : Call) (rec : List ℕ) (J K : Job) (a : After) → Leaves S c rec J a → Accepted a.answer → Sets S c J K → Kept a.rec K
  accepted-kept c rec J K a (accepts L e s l) x b = subst (Kept a.rec) (sets-one c J L K s b) l
  accepted-kept c rec J K a (refuses n e m q) x b = absurd (none-some n (sym x ∙ e))

  -- ---- the start

  -- an accepted New or Read text had a buffer that is long enough
  if-long : (rec : List ℕ) (a : After) → (length rec < record_size → a ≡ after (refused 1) rec [] []) → Accepted a.answer → record_size ≤ length rec
  if-long rec a brief x = by (leb record_size (length rec)) (leb→le record_size (length rec)) (nleb→lt record_size (length rec))
    where
      by : (b : Bool) → (T b → record_size ≤ length rec) → (T (not b) → length rec < record_size) → record_size ≤ length rec
      by true f h = f tt
      by false f h = absurd (none-some 1 (sym x ∙ ap (λ (y : After). refusal y.answer) (brief (h tt))))

  newly-brief : (rows columns O D E : ℕ) (rec : List ℕ) → length rec < record_size → newly rows columns O D E rec ≡ after (refused 1) rec [] []
  newly-brief rows columns O D E rec l =
      asked-fails rec [] (after done (over (unwired_record (fresh rows columns O D E)) rec) [] []) (leb record_size (length rec)) 1
      (test (array_fits rows columns) 2 ∷ test (caps_admitted O D E) 3 ∷ []) (lt-leb record_size (length rec) l)

  new-kept : (before : List ℕ) (rows columns O D E : ℕ) (a : After) → Buffer before → a ≡ newly rows columns O D E before → Accepted a.answer
      → Kept a.rec (fresh rows columns O D E)
  new-kept before rows columns O D E a b e x =
      let l : record_size ≤ length before = if-long before a (λ h. e ∙ newly-brief rows columns O D E before h) x in
      let J : Job = fresh rows columns O D E in
      accepted-kept (new rows columns O D E) before J J a
      (subst (Leaves S (new rows columns O D E) before J) (sym e) (new-leaves S before J b l rows columns O D E)) x refl

  text-kept : (before text : List ℕ) (J : Job) (a : After) → Buffer before → ReadIn text before a → Accepted a.answer → Reading text (reads J)
      → Kept a.rec J
  text-kept before text J a b d x r =
      let l : record_size ≤ length before = if-long before a d.brief x in
      let (v, s, e) = d.long l in
      accepted-kept (read_text text) before J J a (subst (Leaves S (read_text text) before J) (sym e) (read-leaves S before J b l text v s)) x r

  tried-brief : (t : Trial) (rec : List ℕ) → length rec < record_size → tried_on t rec ≡ after (refused 1) rec [] []
  tried-brief t rec l =
      asked-fails rec [] (after done (over (unwired_record (trial_job t)) rec) [] []) (leb record_size (length rec)) 1
      (test (array_fits t.rows t.columns) 2 ∷ test (caps_admitted t.O t.D t.E) 3 ∷ test (seed_fits t.seed) 12 ∷ test (percents_fit t.chosen t.missing t.closed) 13 ∷ [])
      (lt-leb record_size (length rec) l)

  trial-kept : (before : List ℕ) (t : Trial) (a : After) → Buffer before → a ≡ tried_on t before → Accepted a.answer → Kept a.rec (trial_job t)
  trial-kept before t a b e x =
      let l : record_size ≤ length before = if-long before a (λ h. e ∙ tried-brief t before h) x in
      let J : Job = trial_job t in
      accepted-kept (trial t) before J J a (subst (Leaves S (trial t) before J) (sym e) (trial-leaves S before J b l t)) x refl

  pub start-kept : {rec : List ℕ} {J : Job} → Starts S rec J → Kept rec J
  start-kept (by_new before rows columns O D E b w x e) =
      subst (λ (y : List ℕ). Kept y (fresh rows columns O D E)) (sym e)
      (new-kept before rows columns O D E (S.does (new rows columns O D E) before) b (S.did (new rows columns O D E) before w b) x)
  start-kept (by_text {J = J} before text b w x e r) =
      subst (λ (y : List ℕ). Kept y J) (sym e)
      (text-kept before text J (S.does (read_text text) before) b (S.did (read_text text) before w b) x r)
  start-kept (by_trial before t b w x e) =
      subst (λ (y : List ℕ). Kept y (trial_job t)) (sym e) (trial-kept before t (S.does (trial t) before) b (S.did (trial t) before w b) x)
  start-kept (by_old {J = J} before b l p d e) = subst (λ (y : List ℕ). Kept y J) (sym e) (anew before b l J p)

  pub run-kept : (calls : List Call) (begun rec : List ℕ) (K J : Job) → Kept begun K → Follows S begun K calls rec J → NeverOne S begun calls × Kept rec J
  run-kept [] begun rec K J k f = (tt, subst (Kept rec) (sym f.1) (subst (λ (x : List ℕ). Kept x K) (sym f.0) k))
  run-kept (c ∷ calls) begun rec K J k f =
      let (L, b, fs) = f.1 in
      let (k', n) = next-kept c begun K L (S.does c begun) k (call-leaves S begun K k c (S.does c begun) (S.did c begun f.0 k.buffer)) b in
      let (ns, e) = run-kept calls (S.does c begun).rec rec L J k' fs in
      ((n, ns), e)

  -- ---- every list of calls is a run

  abbrev pub AllLent : List Call → Type 0
  AllLent [] = Unit {0}
  AllLent (c ∷ calls) = Lent c × AllLent calls

  -- the record after the calls
  abbrev pub rec_after : List Call → List ℕ → List ℕ
  rec_after [] rec = rec
  rec_after (c ∷ calls) rec = rec_after calls (S.does c rec).rec

  leaves-becomes : (c : Call) (rec : List ℕ) (J : Job) (a : After) → Leaves S c rec J a → (K : Job) × Becomes S a.answer c J K
  leaves-becomes c rec J a (accepts K e s k) = (K, becomes_set c J K a.answer e s)
  leaves-becomes c rec J a (refuses n e m q) = (J, subst (λ (o : Option ℕ). After? o c J J) (sym e) refl)

  pub follows-all : (calls : List Call) (rec : List ℕ) (J : Job) → Kept rec J → AllLent calls → (K : Job) × Follows S rec J calls (rec_after calls rec) K
  follows-all [] rec J k t = (J, (refl, refl))
  follows-all (c ∷ calls) rec J k (l, ls) =
      let a : After = S.does c rec in
      let left : Leaves S c rec J a = call-leaves S rec J k c a (S.did c rec l k.buffer) in
      let (L, b) = leaves-becomes c rec J a left in
      let (K, f) = follows-all calls a.rec L (next-kept c rec J L a k left b).0 ls in
      (K, (l, (L, b, f)))
