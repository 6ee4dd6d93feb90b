-- Document 01, "Record and operations": New, Read text and a trial leave no wires, for the record that they write has no loads; and a buffer that is
-- long enough is accepted by New, Read text and a trial. So every service starts a run from every such job, with nothing wired. Assumes nothing.
use Rattle.std.specs.Prelude.{◌≡◌, refl, Bool, true, false, ◌&&◌, List, [], ◌∷◌, ℕ, ◌≤◌, ◌<◌, T, leb, length, drop}
use Rattle.std.proofs.Common.{ap, ◌∙◌, arith, le→leb}
use Rattle.sums.specs.Counting.{total}
use Rattle.sums.specs.Tests.{and_right, and_both}
use Rattle.sums.specs.Sums.{when-none}
use Rattle.sums.specs.Totals.{total-none}
use Rattle.model.specs.Job.{Job, array_fits, caps_admitted, fresh, is_chosen, Proper}
use Rattle.model.specs.Links.{places, is_pin_kind}
use Rattle.model.specs.Loads.{departures}
use Rattle.model.specs.Record.{record_size, job_of, load, no_loads, unwired_record, over}
use Rattle.model.specs.Wires.{is_wired, wire_count}
use Rattle.model.specs.Text.{Verdict, reads, Reading}
use Rattle.model.specs.Calls.{new, read_text, trial, refused, done, refusal, Accepted, After, after, test, newly, read_in, wires_in}
use Rattle.model.specs.Trial.{Trial, seed_fits, percents_fit, trial_job}
use Rattle.model.specs.Run.{Buffer, Lent, Service, Starts, by_new, by_text, by_trial, by_old}
use Rattle.model.proofs.Asked.{hold-both, asked-all}
use Rattle.model.proofs.RecordOf.{Storable, length-record, load-back}
use Rattle.model.proofs.Over.{load-over}
use Rattle.model.proofs.TextUnique.{reads-unique}
use Rattle.run.specs.Invariant.{Kept}
use Rattle.run.specs.Runs.{start-kept}

-- ---- no loads, no wires

none-wired : (J : Job) → wire_count J no_loads ≡ 0
unfolding wire_count is_wired departures total
none-wired J =
    total-none (places J) _
    (λ x.
    let chosen : Bool = is_chosen J x.row x.column in
    when-none (is_pin_kind x && (chosen && false)) 1 (λ t. absurd (and_right chosen false (and_right (is_pin_kind x) (chosen && false) t))))

anew-unwired : (K : Job) (rec : List ℕ) → wires_in (over (unwired_record K) rec) ≡ 0
anew-unwired K rec = ap (wire_count (job_of (over (unwired_record K) rec))) loads ∙ none-wired (job_of (over (unwired_record K) rec))
  where
    storable : Storable no_loads
    storable = record { small = λ s. omega arith; one_way = λ s l. refl; inside = λ s t. refl }

    loads : load (over (unwired_record K) rec) ≡ no_loads
    loads = load-over (unwired_record K) (drop (length (unwired_record K)) rec) (length-record K no_loads) ∙ (λ i s. load-back K no_loads storable s i)

-- ---- starts

-- a record of the job J, with nothing wired
pub record Blank (rec : List ℕ) (J : Job) : Type 0 where
  pub kept : Kept rec J
  pub unwired : wires_in rec ≡ 0

newly-done : (rows columns O D E : ℕ) (rec : List ℕ) → record_size ≤ length rec → T (array_fits rows columns) → T (caps_admitted O D E)
    → newly rows columns O D E rec ≡ after done (over (unwired_record (fresh rows columns O D E)) rec) [] []
newly-done rows columns O D E rec l = by (leb record_size (length rec)) (array_fits rows columns) (caps_admitted O D E) (le→leb record_size (length rec) l) _
  where
    by : (x y z : Bool) → T x → (made : After) → T y → T z
        → elim x as (λ w. After) [
          | false ↦ after (refused 1) rec [] []
          | true ↦ elim y as (λ w. After) [
            | false ↦ after (refused 2) rec [] []
            | true ↦ elim z as (λ w. After) [ false ↦ after (refused 3) rec [] [] | true ↦ made ]
          ]
        ]
        ≡ made
    by true true true t made a b = refl
    by true true false t made a b = absurd b
    by true false z t made a b = absurd a
    by false y z t made a b = absurd t

module _ (S : Service) (before : List ℕ) (b : Buffer before) (long : record_size ≤ length before) where
  -- Starts and its record is blank
  abbrev pub Begins : List ℕ → Job → Type 0
  Begins rec J = Starts S rec J × Blank rec J

  done-begins : (a : After) (K : Job) → a ≡ after done (over (unwired_record K) before) [] [] → (Accepted a.answer → Starts S a.rec K)
      → Begins a.rec K
  done-begins a K e f =
      let s : Starts S a.rec K = f (ap (λ (x : After). refusal x.answer) e) in
      (s, record { kept = start-kept S s; unwired = ap (λ (x : After). wires_in x.rec) e ∙ anew-unwired K before })

  pub new-begins : (rows columns O D E : ℕ) → Lent (new rows columns O D E) → T (array_fits rows columns) → T (caps_admitted O D E)
      → Begins (S.does (new rows columns O D E) before).rec (fresh rows columns O D E)
  new-begins rows columns O D E w s t =
      done-begins (S.does (new rows columns O D E) before) (fresh rows columns O D E)
      (S.did (new rows columns O D E) before w b ∙ newly-done rows columns O D E before long s t)
      (λ x. by_new before rows columns O D E b w x refl)

  pub text-begins : (text : List ℕ) (J : Job) → Buffer text → Reading text (reads J) → Begins (S.does (read_text text) before).rec J
  text-begins text J w r =
      let (v, q, e) = (S.did (read_text text) before w b).long long in
      done-begins (S.does (read_text text) before) J (e ∙ ap (λ (x : Verdict). read_in x before) (reads-unique q r))
      (λ x. by_text before text b w x refl r)

  pub trial-begins : (t : Trial) → Lent (trial t) → T (array_fits t.rows t.columns) → T (caps_admitted t.O t.D t.E) → T (seed_fits t.seed)
      → T (percents_fit t.chosen t.missing t.closed) → Begins (S.does (trial t) before).rec (trial_job t)
  trial-begins t w f g h k =
      let a : Bool = array_fits t.rows t.columns in
      let c : Bool = caps_admitted t.O t.D t.E in
      let d : Bool = seed_fits t.seed in
      let e : Bool = percents_fit t.chosen t.missing t.closed in
      let l : Bool = leb record_size (length before) in
      let made : After = after done (over (unwired_record (trial_job t)) before) [] [] in
      let all : T (l && (a && (c && (d && (e && true))))) =
      and_both l _ (le→leb record_size (length before) long) (and_both a _ f (and_both c _ g (hold-both d e h k))) in
      done-begins (S.does (trial t) before) (trial_job t)
      (S.did (trial t) before w b ∙ asked-all before [] made (test l 1 ∷ test a 2 ∷ test c 3 ∷ test d 12 ∷ test e 13 ∷ []) all)
      (λ x. by_trial before t b w x refl)

  pub old-begins : (J : Job) → Proper J → J.D < J.E → Begins (over (unwired_record J) before) J
  old-begins J p d =
      done-begins (after done (over (unwired_record J) before) [] []) J refl (λ x. by_old before b long p d refl)
