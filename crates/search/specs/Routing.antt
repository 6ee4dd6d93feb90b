-- What laying all wires did to a record, from what was done to the copy of its first bytes; and the counts and bytes that its loops store. Assumes nothing.
use Rattle.std.specs.Prelude.{◌≡◌, refl, ◌≢◌, Bool, true, false, List, [], ◌∷◌, ◌++◌, ℕ, ◌+◌, ◌-◌, ◌≤◌, ◌<◌, T, ltb, length, get_or}
use Rattle.std.proofs.Common.{sym, ap, subst, ◌∙◌, add-one, arith}
use Rattle.sums.specs.Counting.{when, sum, each}
use Rattle.sums.specs.Tests.{and_left}
use Rattle.sums.specs.Sums.{when-none, when-so, when-implies, sum-cong, sum-le, sum-add}
use Rattle.model.specs.Job.{Job, is_chosen}
use Rattle.model.specs.Links.{pin, at}
use Rattle.model.specs.Route.{chosen_count, Greatest}
use Rattle.model.specs.Loads.{departures, Sound}
use Rattle.model.specs.Record.{record_size, job_of, load, Legal, bytes, over}
use Rattle.model.specs.Wires.{is_wired, wire_count}
use Rattle.model.specs.Calls.{wired_in, wires_in, near_bytes, Shown, none-short, side}
use Rattle.wire.specs.Held.{sound-holds}
use Rattle.channel.specs.Map.{spots, is_start, want, starts}
use Rattle.channel.specs.Map.Starts.{pin-spot, want-start}
use Rattle.channel.specs.Map.Network.Flows.{pin-starts, starts-wanted, starts-count, want-count}
use Rattle.channel.specs.Copies.{front, over-whole, front-whole, front_length, front-load}
use Rattle.augment.specs.Marks.{marked, is-marked}
use Rattle.augment.specs.Pins.{Held}
use Rattle.search.specs.Loose.{Loosened, Unlooped}
use Rattle.search.specs.Rings.{loose-held, loose-wires}
use Rattle.search.specs.Fill.{More, Filled, unwired_count}
use Rattle.search.specs.Filling.{saturated-smallest, saturated-greatest}
use Rattle.search.specs.Copies.{front-held, new-length, put-job, put-wired, put-wires, put-legal}
use Rattle.search.specs.Outcome.{FilledCopy, RoutedAll}

-- ---- the bytes of a near side

pub byte-near : (t : List ℕ) (i : ℕ) → i < spots → get_or t i 0 ≡ 1 → 1 ≡ when (marked t i) 1
byte-near t i l e = sym (when-so (marked t i) 1 (is-marked t i l e))

pub byte-far : (t : List ℕ) (i : ℕ) → (T (marked t i) → ⊥) → 0 ≡ when (marked t i) 1
byte-far t i n = sym (when-none (marked t i) 1 (λ m. absurd (n m)))

-- ---- one turn more

pub sum-next : (n : ℕ) (f : ℕ → ℕ) → sum (n + 1) f ≡ sum n f + f n
unfolding sum
sum-next n f = rw add-one refl

pub bytes_next : (n : ℕ) (f : ℕ → ℕ) → bytes (n + 1) f ≡ bytes n f ++ (f n ∷ [])
unfolding each
bytes_next n f = rw add-one refl

-- ---- counting the unwired pins

module _ (J : Job) (rec : List ℕ) (u : ℕ) where
  pub lacks-no-pin : (T (is_start J u) → ⊥) → 0 ≡ want J u - starts J rec u
  lacks-no-pin n = omega (arith, want-start J u, when-none (is_start J u) 1 (λ t. absurd (n t)))

  pub lacks-no-wire : starts J rec u ≢ 0 → 0 ≡ want J u - starts J rec u
  lacks-no-wire n = omega (arith, want-start J u, when-implies (is_start J u) true 1 (λ t. tt))

  pub lacks-one : T (is_start J u) → starts J rec u ≡ 0 → 1 ≡ want J u - starts J rec u
  lacks-one t e = omega (arith, want-start J u, when-so (is_start J u) 1 t)

pub wires-few : {J : Job} {rec : List ℕ} → Held J rec → wire_count J (load rec) ≤ chosen_count J
wires-few {J} {rec} H =
    omega (
      arith,
      sum-le spots (starts J rec) (want J) (starts-wanted J H.fits rec H.feasible),
      want-count J H.fits,
      starts-count J H.fits rec H.feasible,
    )

-- a legal record holds its own loads
pub legal-held : {rec : List ℕ} → Legal rec → Held (job_of rec) rec
legal-held g =
    record {
      fits = g.values.array;
      caps = record { job = g.values.caps; tiles = g.values.added };
      long = g.long;
      bytes = λ k r c. g.values.loads k r c;
      feasible = g.sound.feasible;
    }

pub unwired-count : {J : Job} {rec : List ℕ} → Held J rec → unwired_count J rec ≡ chosen_count J - wire_count J (load rec)
unwired-count {J} {rec} H =
    omega (
      arith,
      sum-add spots (λ u. want J u - starts J rec u) (starts J rec),
      sum-cong spots (λ u. want J u - starts J rec u + starts J rec u) (want J)
          (λ u l. omega (arith, starts-wanted J H.fits rec H.feasible u l)),
      want-count J H.fits,
      starts-count J H.fits rec H.feasible,
    )

-- ---- the pins that were wired still are

more-loose : {J : Job} {rec rec' rec'' : List ℕ} → More J rec rec' → Loosened J rec' rec'' → More J rec rec''
more-loose M L =
    record {
      held = loose-held M.held L;
      begun = λ x l. omega (arith, M.begun x l, L.begun x l);
      kept = record {
        size = L.kept.size ∙ M.kept.size;
        job = L.kept.job ∙ M.kept.job;
        front = λ i l. L.kept.front i l ∙ M.kept.front i l;
        rest = λ i l. L.kept.rest i l ∙ M.kept.rest i l;
      };
    }

more-wired : {J : Job} {rec rec' : List ℕ} → Held J rec → More J rec rec' → (r c : ℕ) → T (is_wired J (load rec) r c) → T (is_wired J (load rec') r c)
unfolding is_wired
more-wired {J} {rec} {rec'} H M r c w =
    let t = and_left (is_chosen J r c) (ltb 0 (departures (load rec) (at pin r c))) w in
    by (is_wired J (load rec) r c) (is_wired J (load rec') r c)
    (omega (
      arith,
      pin-starts J H.fits rec H.feasible r c t,
      pin-starts J H.fits rec' M.held.feasible r c t,
      M.begun _ (pin-spot J H.fits r c t),
    ))
    w
  where
    by : (a b : Bool) → when a 1 ≤ when b 1 → T a → T b
    by true true l t = tt
    by true false l t = absurd (omega arith)
    by false b l t = absurd t

-- ---- all wires

-- a copy of the record has its bytes, and holds its loads
pub copied-front : {rec loads : List ℕ} → Legal rec → (old : List ℕ) → length old ≡ record_size → loads ≡ over (front rec) old → loads ≡ front rec
copied-front {rec} legal old l q = q ∙ over-whole (front rec) old (front_length rec legal.long) l

pub copy-held : {rec loads : List ℕ} → Legal rec → loads ≡ front rec → Held (job_of rec) loads
copy-held {rec} legal q = subst (λ (x : List ℕ). Held (job_of rec) x) (sym q) (front-held rec legal)

-- the copy is filled, and what is left unwired is counted
module _ (rec : List ℕ) {loads loads' t : List ℕ} (q : loads ≡ front rec) (F : Filled (job_of rec) loads loads' t) {k : ℕ}
    (n : k ≡ unwired_count (job_of rec) loads') where
  abbrev J : Job
  J = job_of rec

  lacking : k ≡ chosen_count J - wire_count J (load loads')
  lacking = n ∙ unwired-count F.more.held

  copy-filled : {near near' : List ℕ} → Shown J (wire_count J (load loads')) near near' → FilledCopy rec loads' near near' k
  copy-filled s = record { marks = t; filled = subst (λ (x : List ℕ). Filled J x loads' t) q F; lacks = lacking; shown = s }

  pub copy-whole : {near : List ℕ} → k ≡ 0 → FilledCopy rec loads' near near 0
  copy-whole {near} e =
      subst (λ (m : ℕ). FilledCopy rec loads' near near m) e (copy-filled (none-short (omega (arith, lacking, wires-few F.more.held)) refl))

  pub copy-short : {near near' : List ℕ} → k ≢ 0 → near' ≡ over (near_bytes (marked t)) near → FilledCopy rec loads' near near' k
  copy-short e s = copy-filled (side (omega (arith, lacking)) (marked t) (saturated-smallest F.more.held F.full) s)

-- as many wires, which keep the record's and have no loop, are copied back
module _ {rec : List ℕ} (legal : Legal rec) {loads near near' : List ℕ} {k : ℕ} (C : FilledCopy rec loads near near' k) where
  abbrev K : Job
  K = job_of rec

  module _ {loads' rec' : List ℕ} (M : More K (front rec) loads') (S : Sound K (load loads'))
      (same : wire_count K (load loads') ≡ wire_count K (load loads)) (back : rec' ≡ over (front loads') rec) where
    put : rec' ≡ over loads' rec
    put = back ∙ ap (λ (x : List ℕ). over x rec) (front-whole loads' (new-length rec legal loads' M.kept))

    wires : wire_count K (load loads) ≡ wires_in rec'
    wires = sym (ap wires_in put ∙ put-wires rec legal loads' M.kept ∙ same)

    greatest : Greatest K (wire_count K (load loads))
    greatest =
        let (rs, holds, together) = sound-holds K (load loads') S in
        saturated-greatest C.filled.more.held C.filled.full rs together (holds.number ∙ same)

    pub routed-as : RoutedAll rec rec' near near' k
    routed-as =
        record {
          legal = subst Legal (sym put) (put-legal rec legal loads' M.kept M.held.bytes S);
          job = ap job_of put ∙ put-job rec legal loads' M.kept;
          rest = (loads', new-length rec legal loads' M.kept, put);
          kept = λ r c w.
              subst T (sym (ap (λ (x : List ℕ). wired_in x r c) put ∙ put-wired rec legal loads' M.kept r c))
              (more-wired (front-held rec legal) M r c (subst (λ f. T (is_wired K f r c)) (sym (front-load rec legal.long)) w));
          greatest = subst (Greatest K) wires greatest;
          lacks = C.lacks ∙ ap (λ (g : ℕ). chosen_count K - g) wires;
          shown = subst (λ (g : ℕ). Shown K g near near') wires C.shown;
        }

  -- the filled wires themselves, without their loops
  pub routed-unlooped : {loads' rec' : List ℕ} → Unlooped loads loads' → rec' ≡ over (front loads') rec → RoutedAll rec rec' near near' k
  routed-unlooped U back =
      let H = C.filled.more.held in
      let L = U.loose K H in
      routed-as (more-loose C.filled.more L) (U.sound K H) (loose-wires H L) back
