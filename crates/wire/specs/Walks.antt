-- The hops that the code takes, of a legal record: the first loaded slot of a pin's exit; and where a wire comes along a dart, the slot and the lane that
-- `partner` answers for the numbers of lanes of the five slots of the exit there. Assumes nothing.
use Rattle.std.specs.Prelude.{◌≡◌, refl, Bool, not, ℕ, zero, suc, ◌+◌, ◌-◌, ◌*◌, ◌/◌, ◌%◌, ◌≤◌, ◌<◌, T, ltb, drop, Some, None}
use Rattle.std.proofs.Math.Path.{sym, ap, ap₂}
use Rattle.std.proofs.Common.{subst, ◌∙◌, arith, add-one, lt-ltb, le-ltb, ltb-true, ltb-false}
use Rattle.std.proofs.Math.Bool.{true, false, ◌&&◌}
use mathlib.Core.List.{List, [], ◌∷◌}
use Rattle.std.proofs.Math.Option.{Option, none, some}
use Rattle.std.proofs.Math.ListN.{get_or, get_elem?}
use Rattle.sums.specs.Counting.{when, sum, total}
use Rattle.sums.specs.Tests.{so, so-not, and_comm, both_ways}
use Rattle.sums.specs.Sums.{when-so, sum-le}
use Rattle.sums.specs.Entries.{none-some, entry-below, entry-there}
use Rattle.model.specs.Job.{Job, array_fits, is_chosen}
use Rattle.model.specs.Links.{PlaceKind, pin, missing, centre, nowhere, side, Place, at, the_outside, holds, is_place, Link, Step, head, tail, turn, may, around}
use Rattle.model.specs.Loads.{arrivals, departures}
use Rattle.model.specs.Near.{exit}
use Rattle.model.specs.Record.{cell, load_plane, forth_part, back_part, job_of, load, InRange, Legal}
use Rattle.model.specs.Wires.{Hop, first_loaded, onward, hop_at, is_wired, Part, unwired, to, out, part_for, part_of, part_at}
use Rattle.model.proofs.Listed.{around-five, may-enters}
use Rattle.channel.specs.Map.{darts, rev, row_of, column_of, step_of, is_link_dart, outside, dart_of}
use Rattle.channel.specs.Map.Steps.{slot_step}
use Rattle.channel.specs.Map.Places.{chosen-cell}
use Rattle.channel.specs.Map.Network.Pushed.{turn-turn}
use Rattle.channel.specs.Map.Entered.{kind_at, Named, slot-shut, comes-outside, comes-inside, head-slot, head-named, tail-named}
use Rattle.pairing.specs.Slots.{start}
use Rattle.pairing.specs.Answer.{lanes, lanes-in, Partner}
use Rattle.pairing.specs.Lanes.{load_of}
use Rattle.pairing.specs.Onward.{Counts, counts-even, onward-leaves}
use Rattle.wire.specs.Ways.{way}
use Rattle.wire.specs.Next.{hop-may, ends-outside}
use Rattle.wire.specs.Follow.{none-on}
use Rattle.wire.specs.Hops.{hop, hop_of, Runs, Takes, lanes_at, lanes_of, as_kind, as_part}
use Rattle.wire.specs.Five.{lanes-at}
use Rattle.wire.specs.declared.Hop.{Hop as Taken}
use Rattle.wire.specs.declared.Place.{Place as Kind}
use Rattle.wire.specs.declared.Part.TheVariants.{Unwired, To, Out, PastTheEnd}

-- ---- how many wires a link has, both ways together

byte-few : (b : ℕ) → b < 64 → forth_part b + back_part b ≤ 31
byte-few b h = omega arith

module _ (rec : List ℕ) (values : InRange rec) where
  way-few : (l : Link) (b : Bool) → load rec (way l b) + load rec (way l (not b)) ≤ 31
  unfolding load
  way-few l true = byte-few (cell rec (load_plane l.kind) l.row l.column) (values.loads l.kind l.row l.column).0
  way-few l false = omega (arith, byte-few (cell rec (load_plane l.kind) l.row l.column) (values.loads l.kind l.row l.column).0)

  slot-few : (d : ℕ) → lanes_at (λ s. load rec (turn s)) d + lanes_at (load rec) d ≤ 31
  slot-few d = by (is_link_dart d)
    where
      by : (b : Bool) → when b (load rec (turn (step_of d))) + when b (load rec (step_of d)) ≤ 31
      by true = omega (arith, way-few (step_of d).link (step_of d).forth)
      by false = omega arith

  -- so few that the ends round a place fit the rows of `partner`
  pub ends-few : (d : ℕ) (arrive depart : List ℕ) → arrive ≡ lanes_of (λ s. load rec (turn s)) d → depart ≡ lanes_of (load rec) d
      → start (lanes arrive) (lanes depart) 5 ≤ 155
  unfolding sum
  ends-few d arrive depart ins outs =
      sum-le 5 (λ k. lanes arrive k + lanes depart k) (λ k. 31) each
    where
      lanes-of : (h : Step → ℕ) (l : List ℕ) → l ≡ lanes_of h d → (k : ℕ) → k < 5 → lanes l k ≡ lanes_at h (d + k)
      lanes-of h l e k m = lanes-in l k m ∙ (ap (λ (w : List ℕ). get_or w k 0) e ∙ lanes-at h d k m)

      each : (k : ℕ) → k < 5 → lanes arrive k + lanes depart k ≤ 31
      each k m = omega (arith, lanes-of (λ s. load rec (turn s)) arrive ins k m, lanes-of (load rec) depart outs k m, slot-few (d + k))

-- ---- the first loaded step of a list

first-here : (f : Step → ℕ) (l : List Step) (k : ℕ) (s : Step) → get_elem? l k ≡ some s → 0 < f s
    → first_loaded f (drop k l) ≡ some (record { step = s; lane = 0 })
unfolding first_loaded
first-here f [] k s e h = absurd (none-some s e)
first-here f (t ∷ l) zero s e h =
    let q : t ≡ s = cc in
    rw (lt-ltb 0 (f t) (subst (λ (z : Step). 0 < f z) (sym q) h), first_loaded) (ap (λ (z : Step). some (record { step = z; lane = 0 })) q)
first-here f (t ∷ l) (suc k) s e h = first-here f l k s e h

first-after : (f : Step → ℕ) (l : List Step) (k : ℕ) (s : Step) → get_elem? l k ≡ some s → f s ≤ 0
    → first_loaded f (drop k l) ≡ first_loaded f (drop (suc k) l)
unfolding first_loaded
first-after f [] k s e h = absurd (none-some s e)
first-after f (t ∷ l) zero s e h = let q : t ≡ s = cc in rw (le-ltb 0 (f t) (omega (arith, ap f q)), first_loaded)
first-after f (t ∷ l) (suc k) s e h = first-after f l k s e h

first_some : (f : Step → ℕ) (l : List Step) (h : Hop) → first_loaded f l ≡ some h → 0 < total l f
unfolding first_loaded total
first_some f [] h e = absurd (none-some h e)
first_some f (s ∷ l) h e = by (ltb 0 (f s)) refl e (first_some f l h)
  where
    by : (b : Bool) → ltb 0 (f s) ≡ b → elim b [ true ↦ some (record { step = s; lane = 0 }) | false ↦ first_loaded f l ] ≡ some h
        → (first_loaded f l ≡ some h → 0 < total l f) → 0 < f s + total l f
    by true q e k = omega (arith, ltb-true 0 (f s) q)
    by false q e k = omega (arith, k e)

first-empty : (f : Step → ℕ) (l : List Step) → first_loaded f l ≡ none → total l f ≡ 0
unfolding first_loaded total
first-empty f [] e = refl
first-empty f (s ∷ l) e = by (ltb 0 (f s)) refl e (first-empty f l)
  where
    by : (b : Bool) → ltb 0 (f s) ≡ b → ◌≡◌ {A = Option Hop} (elim b [ true ↦ some (record { step = s; lane = 0 }) | false ↦ first_loaded f l ]) none
        → (first_loaded f l ≡ none → total l f ≡ 0) → f s + total l f ≡ 0
    by true q e k = absurd (none-some _ (sym e))
    by false q e k = omega (arith, ltb-false 0 (f s) q, k e)

-- ---- along the list of a pin's hops

module _ (rec : List ℕ) (r c : ℕ) where
  pub hop-after : (i d j : ℕ) (o : Option Hop) → hop_at (job_of rec) (load rec) r c i ≡ some (hop d j)
      → o ≡ onward (job_of rec) (load rec) (some (hop d j)) → hop_at (job_of rec) (load rec) r c (i + 1) ≡ o
  unfolding hop_at
  hop-after i d j o e q = ap (hop_at (job_of rec) (load rec) r c) (add-one i) ∙ (ap (onward (job_of rec) (load rec)) e ∙ sym q)

  pub part-here : (i n d j : ℕ) (p : Part) → i ≡ n → hop_at (job_of rec) (load rec) r c i ≡ some (hop d j)
      → p ≡ part_of (job_of rec) (load rec) (some (hop d j)) → p ≡ part_of (job_of rec) (load rec) (hop_at (job_of rec) (load rec) r c n)
  part-here i n d j p q e w = w ∙ ap (part_of (job_of rec) (load rec)) (sym e ∙ ap (hop_at (job_of rec) (load rec) r c) q)

module _ (rec : List ℕ) (g : Legal rec) where
  abbrev J : Job
  J = job_of rec

  abbrev f : Step → ℕ
  f = load rec

  abbrev fits : T (array_fits J.rows J.columns)
  fits = g.values.array

  pub run-may : {d i : ℕ} → Runs rec d i → T (may J (step_of d))
  run-may {d} {i} r = hop-may J f g.sound.feasible (hop d i) r.loaded

  -- nothing goes where a step may be taken neither way
  abbrev Idle : (Step → ℕ) → Type 0
  Idle h = (s : Step) → may J s ≡ false → may J (turn s) ≡ false → h s ≡ 0

  outs-idle : Idle f
  outs-idle s e b = g.sound.feasible.nowhere s (so-not e) (so-not b)

  ins-idle : Idle (λ s. f (turn s))
  ins-idle s e b = g.sound.feasible.nowhere (turn s) (so-not b) (so-not (ap (may J) (turn-turn s) ∙ e))

  -- what a slot has is the load of the step around the place
  slot-load : (h : Step → ℕ) → Idle h → (x : Place) → T (is_place J x) → (k : ℕ) → k < 8 → lanes_at h (8 * exit x + k) ≡ load_of h (get_elem? (around x) k)
  slot-load h idle x p k l = by (get_elem? (around x) k) refl
    where
      past : get_elem? (around x) k ≡ none → (b : Bool) → is_link_dart (8 * exit x + k) ≡ b → when b (h (step_of (8 * exit x + k))) ≡ 0
      past e true b = let (u, v) = slot-shut J fits x p k l (so b) e in idle (step_of (8 * exit x + k)) u v
      past e false b = refl

      by : (o : Option Step) → get_elem? (around x) k ≡ o → lanes_at h (8 * exit x + k) ≡ load_of h (get_elem? (around x) k)
      by none e = past e (is_link_dart (8 * exit x + k)) refl ∙ sym (ap (load_of h) e)
      by (some s) e =
          let (a, b, q) = slot_step J fits x p k s e in
          when-so (is_link_dart (8 * exit x + k)) (h (step_of (8 * exit x + k))) b ∙ (ap h q ∙ sym (ap (load_of h) e))

  -- the lanes of the five slots of a place's exit, whose darts begin with the m-th, are those of the links round the place
  module _ (x : Place) (p : T (is_place J x)) (m : ℕ) (spot : m ≡ 8 * exit x) where
    slots-loads : (h : Step → ℕ) → Idle h → (l : List ℕ) → l ≡ lanes_of h m → (k : ℕ) → k < 5 → lanes l k ≡ load_of h (get_elem? (around x) k)
    slots-loads h idle l e k b =
        lanes-in l k b
        ∙ (ap (λ (w : List ℕ). get_or w k 0) e
        ∙ (lanes-at h m k b ∙ (ap (λ (n : ℕ). lanes_at h (n + k)) spot ∙ slot-load h idle x p k (omega arith))))

    pub counts-at : (arrive depart : List ℕ) → arrive ≡ lanes_of (λ s. f (turn s)) m → depart ≡ lanes_of f m → Counts f x (lanes arrive) (lanes depart)
    counts-at arrive depart ins outs =
        record { ins = slots-loads (λ s. f (turn s)) ins-idle arrive ins; outs = slots-loads f outs-idle depart outs }

    -- the wires that come by a slot
    pub comes-at : (k : ℕ) → k < 5 → lanes_at (λ s. f (turn s)) (m + k) ≡ load_of (λ s. f (turn s)) (get_elem? (around x) k)
    comes-at k b = ap (λ (n : ℕ). lanes_at (λ s. f (turn s)) (n + k)) spot ∙ slot-load (λ s. f (turn s)) ins-idle x p k (omega arith)

  -- ---- the hop after a hop

  -- along the dart d, to the spot v
  module _ (d i : ℕ) (r : Runs rec d i) (v : ℕ) (lands : v ≡ rev d / 8) where
    ends_at : outside J v ≡ true → head J (step_of d) ≡ the_outside
    ends_at e = comes-outside J fits d r.range r.linked (run-may r) (ap (outside J) (sym lands) ∙ e)

    pub out-ends : outside J v ≡ true → Takes rec None (onward J f (some (hop d i)))
    out-ends e = record { hop = sym (ends-outside J f g.sound.feasible (hop d i) (ends_at e)); runs = tt }

    -- the wire comes to a place, along the step back of the dart b
    module _ (inside : outside J v ≡ false) (b : ℕ) (back : b ≡ dart_of (turn (step_of d))) where
      abbrev x : Place
      x = head J (step_of d)

      here : T (is_place J x)
      here = (comes-inside J fits d r.range r.linked (run-may r) (ap (outside J) (sym lands) ∙ inside)).0

      spot : b / 8 * 8 ≡ 8 * exit x
      spot = omega (arith, ap (λ (n : ℕ). n / 8) back, (head-slot J fits d r.range r.linked (run-may r) here).0)

      slot : get_elem? (around x) (b % 8) ≡ some (turn (step_of d))
      slot =
          ap (λ (n : ℕ). get_elem? (around x) (n % 8)) back ∙ (head-slot J fits d r.range r.linked (run-may r) here).1

      pub slot-five : b % 8 < 5
      slot-five = omega (arith, entry-below (around x) (b % 8) (turn (step_of d)) slot, around-five x)

      module _ (arrive depart : List ℕ) (ins : arrive ≡ lanes_of (λ s. f (turn s)) (b / 8 * 8)) (outs : depart ≡ lanes_of f (b / 8 * 8)) where
        counts : Counts f x (lanes arrive) (lanes depart)
        counts = counts-at x here (b / 8 * 8) spot arrive depart ins outs

        balance : arrivals f x ≡ departures f x
        balance = g.sound.feasible.balance x here (may-enters J (step_of d) (run-may r))

        came : i < f (turn (turn (step_of d)))
        came = subst (λ (s : Step). i < f s) (sym (turn-turn (step_of d))) r.loaded

        pub lane-comes : i < lanes arrive (b % 8)
        lane-comes =
            subst (λ (n : ℕ). i < n) (sym (counts.ins (b % 8) slot-five ∙ ap (load_of (λ s. f (turn s))) slot)) came

        -- what `partner` answers
        module _ (j q : ℕ) (answer : sum 5 (lanes arrive) ≡ sum 5 (lanes depart) → Partner (lanes arrive) (lanes depart) (b % 8) i j q) where
          found : Partner (lanes arrive) (lanes depart) (b % 8) i j q
          found = answer (counts-even f x (lanes arrive) (lanes depart) counts balance)

          pub answer-five : j < 5
          answer-five = found.slot

          pub goes-next : Takes rec (Some (record { dart = b / 8 * 8 + j; lane = q })) (onward J f (some (hop d i)))
          goes-next =
              let (t, there, on) =
              onward-leaves f x (lanes arrive) (lanes depart) counts balance (b % 8) i (turn (step_of d)) slot came j q answer in
              let e : b / 8 * 8 + j ≡ 8 * exit x + j = omega (arith, spot) in
              let (l, link, s) = slot_step J fits x here j t there in
              let w : step_of (b / 8 * 8 + j) ≡ t = ap step_of e ∙ s in
              let k : q < f t = subst (λ (n : ℕ). q < n) (counts.outs j found.slot ∙ ap (load_of f) there) found.lane in
              record {
                hop = ap (λ (s : Step). some (record { step = s; lane = q })) w ∙ sym on;
                runs =
                    record {
                      range = omega arith;
                      linked = subst (λ (n : ℕ). T (is_link_dart n)) (sym e) link;
                      loaded = subst (λ (s : Step). q < f s) (sym w) k;
                    };
              }

  -- ---- what a hop is listed as

  inside-to : (y : Place) (k : PlaceKind) (r c i : ℕ) → T (holds J k r c) → part_for y k r c i ≡ to r c k i
  inside-to y pin r c i p = refl
  inside-to y missing r c i p = refl
  inside-to y centre r c i p = refl
  inside-to y PlaceKind.outside r c i p = absurd p
  inside-to y nowhere r c i p = absurd p
  inside-to y (side d) r c i p = refl

  module _ (d i : ℕ) (r : Runs rec d i) (v : ℕ) (lands : v ≡ rev d / 8) where
    pub part_out : (k : Kind) → as_kind k ≡ kind_at (d / 8 % 8) → outside J v ≡ true → as_part (Out k i) ≡ part_of J f (some (hop d i))
    part_out k m e =
        let s = step_of d in
        let o = ends_at d i r v lands e in
        ap (λ (k : PlaceKind). out k i) (m ∙ tail-named J fits d r.range r.linked (run-may r) o)
        ∙ sym (ap (λ (y : Place). part_for (tail J s) y.kind y.row y.column i) o)

    module _ (inside : outside J v ≡ false) where
      named : Named v (head J (step_of d)).kind (head J (step_of d)).row (head J (step_of d)).column
      named =
          let x = head J (step_of d) in
          subst (λ (u : ℕ). Named u x.kind x.row x.column) (sym lands)
          (head-named J fits d r.range r.linked (run-may r) (ap (outside J) (sym lands) ∙ inside))

      pub place-grid : 41 ≤ v / 8
      place-grid = named.grid

      pub part-to : (p q : ℕ) (k : Kind) → p ≡ row_of (v / 8) → q ≡ column_of (v / 8) → as_kind k ≡ kind_at (v % 8) → as_part (To p q k i) ≡ part_of J f (some (hop d i))
      part-to p q k a b m =
          let x = head J (step_of d) in
          (λ j. to ((a ∙ named.row) j) ((b ∙ named.column) j) ((m ∙ named.kind) j) i)
          ∙ sym (inside-to (tail J (step_of d)) x.kind x.row x.column i
          (comes-inside J fits d r.range r.linked (run-may r) (ap (outside J) (sym lands) ∙ inside)).0)

  -- ---- the first hop

  module _ (r c : ℕ) (t : T (is_chosen J r c)) where
    pub pin-near : (r < 40) × (c < 40)
    pin-near = chosen-cell J fits r c t

    module _ (u k n : ℕ) (l : k < 5) (spot : u ≡ exit (at pin r c)) (wires : n ≡ lanes_at f (8 * u + k))
        (so_far : first_loaded f (around (at pin r c)) ≡ first_loaded f (drop k (around (at pin r c)))) where
      taken : (s : Step) × (get_elem? (around (at pin r c)) k ≡ some s) × (8 * u + k < darts) × T (is_link_dart (8 * u + k)) × (step_of (8 * u + k) ≡ s)
      taken =
          let (s, e) = entry-there (around (at pin r c)) k l in
          let v = slot_step J fits (at pin r c) t k s e in
          let (a, b, q) = subst (λ (n : ℕ). (8 * n + k < darts) × T (is_link_dart (8 * n + k)) × (step_of (8 * n + k) ≡ s)) (sym spot) v in
          (s, e, a, b, q)

      amount : n ≡ f taken.0
      amount = let (s, e, a, b, q) = taken in wires ∙ (when-so (is_link_dart (8 * u + k)) (f (step_of (8 * u + k))) b ∙ ap f q)

      pub first_found : 0 < n → Takes rec (Some (record { dart = 8 * u + k; lane = 0 })) (first_loaded f (around (at pin r c)))
      first_found h =
          let (s, e, a, b, q) = taken in
          record {
            hop =
                ap (λ (z : Step). some (record { step = z; lane = 0 })) q
                ∙ sym (so_far ∙ first-here f (around (at pin r c)) k s e (subst (λ (m : ℕ). 0 < m) amount h));
            runs = record { range = a; linked = b; loaded = subst (λ (z : Step). 0 < f z) (sym q) (subst (λ (m : ℕ). 0 < m) amount h) };
          }

      pub first_on : n ≤ 0 → first_loaded f (around (at pin r c)) ≡ first_loaded f (drop (k + 1) (around (at pin r c)))
      first_on h =
          let (s, e, a, b, q) = taken in
          so_far
          ∙ (first-after f (around (at pin r c)) k s e (omega (arith, amount))
          ∙ ap (λ (m : ℕ). first_loaded f (drop m (around (at pin r c)))) (sym (add-one k)))

    pub first-none : (k : ℕ) → k ≡ 5 → first_loaded f (around (at pin r c)) ≡ first_loaded f (drop k (around (at pin r c)))
        → Takes rec None (first_loaded f (around (at pin r c)))
    unfolding first_loaded
    first-none k e so_far = record { hop = sym (so_far ∙ ap (λ (m : ℕ). first_loaded f (drop m (around (at pin r c)))) e); runs = tt }

    -- ---- the parts

    -- a pin with no first hop is not wired, and one with a first hop is
    pub wired-none : Takes rec None (first_loaded f (around (at pin r c))) → is_wired J f r c ≡ false
    unfolding is_wired departures
    wired-none v =
        ap (λ (b : Bool). is_chosen J r c && b)
        (le-ltb 0 (total (around (at pin r c)) f) (omega (arith, first-empty f (around (at pin r c)) (sym v.hop))))
        ∙ and_comm (is_chosen J r c) false

    pub wired-some : (h : Taken) → Takes rec (Some h) (first_loaded f (around (at pin r c))) → is_wired J f r c ≡ true
    unfolding is_wired departures
    wired-some h v =
        ap₂ ◌&&◌ (both_ways (is_chosen J r c) true (λ u. tt) (λ u. t))
        (lt-ltb 0 (total (around (at pin r c)) f) (first_some f (around (at pin r c)) (hop_of h) (sym v.hop)))

    -- what Part gives of it
    abbrev part_if : ℕ → Bool → Part
    part_if i b = elim b as (λ z. Part) [ true ↦ part_of J f (hop_at J f r c i) | false ↦ unwired ]

    pub part-unwired : (i : ℕ) → Takes rec None (first_loaded f (around (at pin r c))) → as_part Unwired ≡ part_at J f r c i
    unfolding part_at
    part-unwired i v = ap (part_if i) (sym (wired-none v))

    pub part-wired : (i : ℕ) (h : Taken) → Takes rec (Some h) (first_loaded f (around (at pin r c))) → part_of J f (hop_at J f r c i) ≡ part_at J f r c i
    unfolding part_at
    part-wired i h v = ap (part_if i) (sym (wired-some h v))

    -- a wire that has ended lists nothing more
    pub part-past : (i n : ℕ) → hop_at J f r c (i + 1) ≡ none → i < n → as_part PastTheEnd ≡ part_of J f (hop_at J f r c n)
    part-past i n e l =
        let q : i + 1 + (n - (i + 1)) ≡ n = omega arith in
        ap (part_of J f) (sym (ap (hop_at J f r c) (sym q) ∙ none-on J f g.sound r c (i + 1) (n - (i + 1)) e))
