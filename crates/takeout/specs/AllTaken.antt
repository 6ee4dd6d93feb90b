-- All wires that pass a test taken out, pin by pin: after the pins before the i-th each step has as many wires less as those wires go by it. At the end that
-- is the loads of all wires that pass, so the record is that of the others. Assumes nothing.
use Rattle.std.specs.Prelude.{◌≡◌, refl, Bool, true, false, not, ◌&&◌, List, [], ◌∷◌, ℕ, ◌+◌, ◌*◌, ◌/◌, ◌%◌, ◌≤◌, ◌<◌, T, ltb, length}
use Rattle.std.proofs.Math.Path.{sym, ap}
use Rattle.std.proofs.Common.{ap₂, subst, ◌∙◌, add-one, zero-add}
use Rattle.std.proofs.Math.Option.{none}
use native.Mathlib.Omega.{arith}
use Rattle.std.proofs.Math.Dec.{ltb→lt}
use borrow.Author.Tests.{le-ltb, ltb-false}
use Rattle.sums.specs.Counting.{when, sum, total}
use Rattle.sums.specs.Sums.{sum-cong, sum-none, sum_rows, sum-widen, when-none, when-some, when-full}
use Rattle.sums.specs.Tests.{and_left, and_right, and_comm, both_ways}
use Rattle.model.specs.Job.{Job, in_range, array_fits, is_pin, is_open, is_chosen, is_missing}
use Rattle.model.specs.Links.{pin, at, is_pin_kind, is_place, places_at, Step, around}
use Rattle.model.specs.Loads.{departures}
use Rattle.model.specs.Record.{record_size, job_of, load, Legal, record_of, over}
use Rattle.model.specs.Wires.{first_loaded, hop_at, is_wired}
use Rattle.model.specs.Left.{hops_most, hop_count, wire_uses, left_loads}
use Rattle.model.proofs.RecordOf.{range-most}
use Rattle.wire.specs.Follow.{none-on}
use Rattle.wire.specs.Threads.{wired-chosen}
use Rattle.wire.specs.Places.{places-total}
use Rattle.keep.specs.Staying.{left-part}
use Rattle.takeout.specs.Lessened.{Lessened, lessened-as, Behind, behind-none, behind-two}
use Rattle.takeout.specs.Taken.{goes_by, TakesOut, sum-front}
use Rattle.takeout.specs.LeftRecord.{left-record, SameRecord, same-lessened}

-- ---- a sum over the wired pins is one over the cells

-- the uses of the wire of a pin, if it goes
abbrev pub uses_gone : Job → (Step → ℕ) → (ℕ → ℕ → Bool) → Step → ℕ → ℕ → ℕ
uses_gone J f gone s q d = when (is_wired J f q d && gone q d) (wire_uses J f q d s)

module _ (J : Job) (f : Step → ℕ) (fits : T (array_fits J.rows J.columns)) (gone : ℕ → ℕ → Bool) (s : Step) where
  abbrev gone_at : ℕ → ℕ → ℕ
  gone_at = uses_gone J f gone s

  nothing : (b : Bool) → when b 0 ≡ 0
  nothing true = refl
  nothing false = refl

  cell-gone : (q d : ℕ)
      → total (places_at q d) (λ y. when (is_place J y) (when (is_pin_kind y && (is_wired J f y.row y.column && gone y.row y.column)) (wire_uses J f y.row y.column s)))
      ≡ gone_at q d
  unfolding total
  cell-gone q d =
      omega (
        arith,
        nothing (is_missing J q d),
        nothing (is_open J q d),
        when-full (is_chosen J q d) (gone_at q d)
            (λ p. wired-chosen J f q d (and_left (is_wired J f q d) (gone q d) (when-some (is_wired J f q d && gone q d) (wire_uses J f q d s) p).0)),
      )

  -- outside the array there is none
  none-gone : (q d : ℕ) → (T (is_pin J q d) → ⊥) → gone_at q d ≡ 0
  unfolding is_chosen
  none-gone q d n =
      when-none (is_wired J f q d && gone q d) (wire_uses J f q d s)
      (λ t. absurd (n (and_left (is_pin J q d) _ (wired-chosen J f q d (and_left (is_wired J f q d) (gone q d) t)))))

  pub cells-gone : sum 1600 (λ j. uses_gone J f gone s (j / 40) (j % 40)) ≡ left_loads J f gone s
  unfolding left_loads
  cells-gone =
      sum_rows 40 40 (λ j. gone_at (j / 40) (j % 40))
      ∙ (sum-cong 40 _ (λ q. sum J.columns (λ d. gone_at q d)) (λ q l. row q)
      ∙ (sum-widen J.rows 40 (λ q. sum J.columns (λ d. gone_at q d)) (omega (arith, most.0))
      (λ q a b. sum-none J.columns (λ d. gone_at q d)
      (λ d k. none-gone q d (λ t. omega (arith, ltb→lt q J.rows (and_left (ltb q J.rows) (ltb d J.columns) t)))))
      ∙ sym (places-total J (λ x. when (is_pin_kind x && (is_wired J f x.row x.column && gone x.row x.column)) (wire_uses J f x.row x.column s))
      ∙ sum-cong J.rows _ _ (λ q l. sum-cong J.columns _ _ (λ d k. cell-gone q d)))))
    where
      most : (J.rows ≤ 40) × (J.columns ≤ 40)
      most = (
        range-most 2 40 J.rows (and_left (in_range 2 40 J.rows) (in_range 2 40 J.columns) fits),
        range-most 2 40 J.columns (and_right (in_range 2 40 J.rows) (in_range 2 40 J.columns) fits),
      )

      at-cell : (q d : ℕ) → d < 40 → gone_at ((q * 40 + d) / 40) ((q * 40 + d) % 40) ≡ gone_at q d
      at-cell q d l =
          let a : (q * 40 + d) / 40 ≡ q = omega arith in
          let b : (q * 40 + d) % 40 ≡ d = omega arith in
          ap₂ gone_at a b

      row : (q : ℕ) → sum 40 (λ d. gone_at ((q * 40 + d) / 40) ((q * 40 + d) % 40)) ≡ sum J.columns (λ d. gone_at q d)
      row q =
          sum-cong 40 _ (λ d. gone_at q d) (λ d l. at-cell q d l)
          ∙ sum-widen J.columns 40 (λ d. gone_at q d) (omega (arith, most.1))
          (λ d a b. none-gone q d (λ t. omega (arith, ltb→lt d J.columns (and_right (ltb q J.rows) (ltb d J.columns) t))))

-- ---- a pin with no wire

first-nothing : (f : Step → ℕ) (l : List Step) → total l f ≤ 0 → first_loaded f l ≡ none
unfolding first_loaded total
first-nothing f [] h = refl
first-nothing f (s ∷ l) h = rw (le-ltb 0 (f s) (omega arith), first_loaded) (first-nothing f l (omega arith))

and_second : (a b : Bool) → T a → (a && b) ≡ false → b ≡ false
and_second true b t e = e
and_second false b t e = absurd t

-- ---- what is taken out

-- `goes` says of each pin whether its wire goes
module _ (was : List ℕ) (goes : ℕ → ℕ → Bool) where
  abbrev J : Job
  J = job_of was

  abbrev f : Step → ℕ
  f = load was

  abbrev gone_from : ℕ → ℕ → Step → ℕ
  gone_from q d s = uses_gone J f goes s q d

  -- the wire of the pin (q, d), if it goes, is taken out of rec, which leaves rec'
  pub record TakesIf (q d : ℕ) (rec rec' : List ℕ) : Type 0 where
    pub behind : Behind rec rec'
    pub less : (out : Step → ℕ) → Lessened was rec out → ((s : Step) → out s + gone_from q d s ≤ f s) → Lessened was rec' (λ s. out s + gone_from q d s)

  abbrev gone_to : ℕ → Step → ℕ
  gone_to i s = sum i (λ j. uses_gone J f goes s (j / 40) (j % 40))

  -- the wires of the pins before the i-th that go are taken out of rec, which leaves rec'
  pub record TakenTo (rec rec' : List ℕ) (i : ℕ) : Type 0 where
    pub behind : Behind rec rec'
    pub less : Lessened was rec (λ s. 0) → Lessened was rec' (gone_to i)

  module _ (g : Legal was) where
    -- a chosen pin with no wire goes by nothing
    unwired-uses : (q d : ℕ) → T (is_chosen J q d) → is_wired J f q d ≡ false → (s : Step) → wire_uses J f q d s ≡ 0
    unfolding is_wired departures hop_at hop_count
    unwired-uses q d t w s =
        let m : total (around (at pin q d)) f ≤ 0 =
        ltb-false 0 (total (around (at pin q d)) f) (and_second (is_chosen J q d) (ltb 0 (total (around (at pin q d)) f)) t w) in
        let e : hop_at J f q d 0 ≡ none = first-nothing f (around (at pin q d)) m in
        sum-none (hops_most J f) (λ n. goes_by s (hop_at J f q d n))
        (λ n l. ap (goes_by s) (ap (hop_at J f q d) (sym (zero-add n)) ∙ none-on J f g.sound q d 0 n e))

    takes_none : (q d : ℕ) (rec : List ℕ) → (is_wired J f q d && goes q d) ≡ false → TakesIf q d rec rec
    takes_none q d rec e =
        record {
          behind = behind-none rec;
          less =
              λ out L m. lessened-as out (λ s. out s + gone_from q d s) (λ s. omega (arith, ap (λ (b : Bool). when b (wire_uses J f q d s)) e)) L;
        }

    pub takes-unchosen : (q d : ℕ) (rec : List ℕ) → is_chosen J q d ≡ false → TakesIf q d rec rec
    takes-unchosen q d rec e =
        takes_none q d rec
        (both_ways (is_wired J f q d && goes q d) false (λ t. subst T e (wired-chosen J f q d (and_left (is_wired J f q d) (goes q d) t))) absurd)

    pub takes-missed : (q d : ℕ) (rec : List ℕ) → goes q d ≡ false → TakesIf q d rec rec
    takes-missed q d rec e = takes_none q d rec (and_comm (is_wired J f q d) (goes q d) ∙ ap (λ (b : Bool). b && is_wired J f q d) e)

    pub takes-wire : (q d : ℕ) (rec rec' : List ℕ) → T (is_chosen J q d) → goes q d ≡ true → TakesOut was q d rec rec' → TakesIf q d rec rec'
    takes-wire q d rec rec' t e k =
        record {
          behind = k.behind;
          less =
              λ out L m. lessened-as (λ s. out s + wire_uses J f q d s) (λ s. out s + gone_from q d s) (λ s. omega (arith, whole s))
              (k.less out L (λ s. omega (arith, whole s, m s)));
        }
      where
        whole : (s : Step) → gone_from q d s ≡ wire_uses J f q d s
        whole s = by (is_wired J f q d) refl
          where
            by : (w : Bool) → is_wired J f q d ≡ w → gone_from q d s ≡ wire_uses J f q d s
            by true w = ap (λ (b : Bool). when b (wire_uses J f q d s)) (ap₂ ◌&&◌ w e)
            by false w = ap (λ (b : Bool). when (b && goes q d) (wire_uses J f q d s)) w ∙ sym (unwired-uses q d t w s)

    -- ---- pin after pin

    pub taken_none : (rec : List ℕ) → TakenTo rec rec 0
    unfolding sum
    taken_none rec = record { behind = behind-none rec; less = λ L. L }

    gone-next : (i : ℕ) (s : Step) → gone_to (i + 1) s ≡ gone_to i s + gone_from (i / 40) (i % 40) s
    unfolding sum
    gone-next i s = ap (λ (n : ℕ). gone_to n s) (add-one i)

    -- all together are within the loads
    gone-within : (i : ℕ) (s : Step) → i < 1600 → gone_to (i + 1) s ≤ f s
    gone-within i s l =
        omega (
          arith,
          sum-front (i + 1) 1600 (λ j. uses_gone J f goes s (j / 40) (j % 40)) (omega arith),
          cells-gone J f g.values.array goes s,
          left-part J f g.sound goes s,
        )

    pub taken_next : (rec rec' rec'' : List ℕ) (i : ℕ) → i < 1600 → TakenTo rec rec' i → TakesIf (i / 40) (i % 40) rec' rec'' → TakenTo rec rec'' (i + 1)
    taken_next rec rec' rec'' i l k m =
        record {
          behind = behind-two k.behind m.behind;
          less =
              λ L. lessened-as (λ s. gone_to i s + gone_from (i / 40) (i % 40) s) (gone_to (i + 1)) (λ s. sym (gone-next i s))
              (m.less (gone_to i) (k.less L) (λ s. omega (arith, gone-next i s, gone-within i s l)));
        }

    pub taken-all : (rec rec' : List ℕ) → SameRecord was rec → record_size ≤ length rec → (i : ℕ) → i ≡ 1600 → TakenTo rec rec' i
        → rec' ≡ over (record_of (job_of was) (left_loads (job_of was) (load was) (λ q d. not (goes q d)))) rec
    taken-all rec rec' e long i q k =
        left-record was rec rec' g long k.behind goes
        (lessened-as (gone_to i) (left_loads J f goes) (λ s. ap (λ (n : ℕ). gone_to n s) q ∙ cells-gone J f g.values.array goes s)
        (k.less (same-lessened was rec g e)))
