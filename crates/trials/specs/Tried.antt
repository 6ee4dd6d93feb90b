-- Document 02, K6: the answer of a trial by its tests in their order, and the record of its job once pins and tiles are filled. Assumes nothing.
use Rattle.std.specs.Prelude.{◌≡◌, refl, Bool, true, false, not, ◌&&◌, List, [], ◌∷◌, ℕ, zero, suc, ◌+◌, ◌-◌, ◌*◌, ◌%◌, ◌≤◌, ◌<◌, T, leb, ltb, length}
use Rattle.std.proofs.Common.{sym, ap, ◌∙◌, arith, leb→le, ltb→lt, lt→ltb, le-leb}
use Rattle.std.proofs.lemmas.Bool.{not-true, not-false, lt-leb}
use Rattle.sums.specs.Counting.{when}
use Rattle.sums.specs.Tests.{and_left, and_right, both_ways}
use Rattle.model.specs.Job.{Job, in_range, array_fits, caps_admitted, fresh, with_marks, with_states, is_pin, is_tile}
use Rattle.model.specs.Record.{record_size, unwired_record, over}
use Rattle.model.specs.Trial.{draw, number_after, Trial, seed_fits, percents_fit, drawn_at, turn, mark_drawn, trial_mark, trial_state, trial_job}
use Rattle.model.specs.Calls.{refused, done, After, after, Test, test, asked, tried_on}
use Rattle.model.proofs.Asked.{asked-fails, asked-holds}
use Rattle.model.proofs.RecordOf.{range-most}
use Rattle.trials.specs.Filling.{value_drawn, whole, Filled}

-- ---- the tests

module _ (t : Trial) (rec : List ℕ) where
  abbrev made : After
  made = after done (over (unwired_record (trial_job t)) rec) [] []

  -- those behind the first, behind the second ..
  abbrev pub last_one : List Test
  last_one = test (percents_fit t.chosen t.missing t.closed) 13 ∷ []

  abbrev pub last_two : List Test
  last_two = test (seed_fits t.seed) 12 ∷ last_one

  abbrev pub last_three : List Test
  last_three = test (caps_admitted t.O t.D t.E) 3 ∷ last_two

  abbrev pub last_four : List Test
  last_four = test (array_fits t.rows t.columns) 2 ∷ last_three

  -- the tests before have held
  abbrev pub Left : List Test → Type 0
  Left ts = tried_on t rec ≡ asked ts rec [] made

  pub tried-brief : length rec < record_size → after (refused 1) rec [] [] ≡ tried_on t rec
  tried-brief l = sym (asked-fails rec [] made (leb record_size (length rec)) 1 last_four (lt-leb record_size (length rec) l))

  pub tried-long : record_size ≤ length rec → Left last_four
  tried-long l = asked-holds rec [] made (leb record_size (length rec)) 1 last_four (le-leb record_size (length rec) l)

  module _ (b : Bool) (k : ℕ) (ts : List Test) (left : Left (test b k ∷ ts)) (u : Bool) (e : u ≡ b) where
    pub tried-fails : not u ≡ true → after (refused k) rec [] [] ≡ tried_on t rec
    tried-fails n = sym (left ∙ asked-fails rec [] made b k ts (sym e ∙ not-true u n))

    pub tried-holds : not u ≡ false → Left ts
    tried-holds n = left ∙ asked-holds rec [] made b k ts (sym e ∙ not-false u n)

  pub tried-done : Left [] → (rec' : List ℕ) → rec' ≡ over (unwired_record (trial_job t)) rec → after done rec' [] [] ≡ tried_on t rec
  tried-done left rec' e = ap (λ (l : List ℕ). after done l [] []) e ∙ sym left

-- ---- the job

-- more draws
pub after-after : (a b x : ℕ) → number_after a (number_after b x) ≡ number_after (b + a) x
unfolding number_after
after-after zero b x = let e : b ≡ b + 0 = omega arith in ap (λ (n : ℕ). number_after n x) e
after-after (suc a) b x =
    let e : suc (b + a) ≡ b + suc a = omega arith in
    ap draw (after-after a b x) ∙ ap (λ (n : ℕ). number_after n x) e

one-bound : (low n : ℕ) → value_drawn low low n ≡ when (ltb n low) 1
one-bound low n = by (ltb n low)
  where
    by : (b : Bool) → elim b as (λ x. ℕ) [ true ↦ 1 | false ↦ elim b as (λ x. ℕ) [ true ↦ 2 | false ↦ 0 ] ] ≡ when b 1
    by true = refl
    by false = refl

one_less : (i n : ℕ) → ltb i (n - 1) ≡ ltb (suc i) n
one_less i n =
    both_ways (ltb i (n - 1)) (ltb (suc i) n) (λ t. lt→ltb (suc i) n (omega (arith, ltb→lt i (n - 1) t))) (λ t. lt→ltb i (n - 1) (omega (arith, ltb→lt (suc i) n t)))

module _ (t : Trial) where
  abbrev J : Job
  J = fresh t.rows t.columns t.O t.D t.E

  abbrev pins : ℕ → ℕ → ℕ
  pins = whole t.rows t.columns t.seed t.chosen (t.chosen + t.missing)

  abbrev second : ℕ
  second = number_after (t.columns * t.rows) t.seed

  abbrev tiles : ℕ → ℕ → ℕ
  tiles = whole (t.rows - 1) (t.columns - 1) second t.closed t.closed

  pins-drawn : (r c : ℕ) → pins r c ≡ when (is_pin J r c) (trial_mark t r c)
  pins-drawn r c =
      let e : suc (t.columns * r + c) ≡ suc (turn 0 t.columns r c) = omega arith in
      ap (λ (n : ℕ). when (is_pin J r c) (mark_drawn t (number_after n t.seed % 100))) e

  tiles-drawn : (r c : ℕ) → tiles r c ≡ when (is_tile J r c) (trial_state t r c)
  tiles-drawn r c =
      let k : ℕ = suc ((t.columns - 1) * r + c) in
      let e : t.columns * t.rows + k ≡ suc (turn (t.columns * t.rows) (t.columns - 1) r c) = omega arith in
      ap (λ (b : Bool). when (b && ltb c (t.columns - 1)) (value_drawn t.closed t.closed (number_after k second % 100))) (one_less r t.rows)
      ∙ (ap (λ (b : Bool). when (ltb (suc r) t.rows && b) (value_drawn t.closed t.closed (number_after k second % 100))) (one_less c t.columns)
      ∙ (ap (λ (n : ℕ). when (is_tile J r c) (value_drawn t.closed t.closed (n % 100))) (after-after k (t.columns * t.rows) t.seed)
      ∙ (ap (λ (n : ℕ). when (is_tile J r c) (value_drawn t.closed t.closed (number_after n t.seed % 100))) e
      ∙ ap (λ (n : ℕ). when (is_tile J r c) n) (one-bound t.closed (drawn_at t (turn (t.columns * t.rows) (t.columns - 1) r c))))))

  -- a new job, then its pins, then its tiles
  pub trial-made : (rec new marked out : List ℕ) (number : ℕ) → record_size ≤ length rec → new ≡ over (unwired_record J) rec
      → Filled false t.rows t.columns t.seed t.chosen (t.chosen + t.missing) new marked → number ≡ second
      → Filled true (t.rows - 1) (t.columns - 1) number t.closed t.closed marked out → out ≡ over (unwired_record (trial_job t)) rec
  trial-made rec new marked out number long e f n g =
      g (with_marks J pins) rec long (f J rec long e)
      ∙ (ap (λ (x : ℕ). over (unwired_record (with_states (with_marks J pins) (whole (t.rows - 1) (t.columns - 1) x t.closed t.closed))) rec) n
      ∙ (λ k. over (unwired_record (with_states (with_marks J (λ r c. pins-drawn r c k)) (λ r c. tiles-drawn r c k))) rec))

-- ---- ranges

-- an array that fits has rows and columns, and tiles
pub array-range : (rows columns : ℕ) → T (array_fits rows columns) → (2 ≤ rows) × (rows ≤ 40) × (2 ≤ columns) × (columns ≤ 40)
array-range rows columns t =
    let r : T (in_range 2 40 rows) = and_left (in_range 2 40 rows) (in_range 2 40 columns) t in
    let c : T (in_range 2 40 columns) = and_right (in_range 2 40 rows) (in_range 2 40 columns) t in (
      leb→le 2 rows (and_left (leb 2 rows) (leb rows 40) r),
      range-most 2 40 rows r,
      leb→le 2 columns (and_left (leb 2 columns) (leb columns 40) c),
      range-most 2 40 columns c,
    )
