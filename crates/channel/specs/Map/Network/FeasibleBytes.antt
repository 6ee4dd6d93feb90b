-- Bytes that agree with a flow are feasible loads, with the flow's starts: on each link they carry at most what the flow does, and around each place they
-- differ by what the flow does. Assumes nothing.
use Rattle.std.specs.Prelude.{◌≡◌, ◌≢◌, ◌⊎◌, Bool, not, List, ℕ, ◌+◌, ◌*◌, ◌/◌, ◌%◌, ◌≤◌, ◌<◌, length}
use Rattle.std.proofs.Math.Path.{refl, ap}
use Rattle.std.proofs.Common.{sym, subst, ◌∙◌, inl, inr, eq-zero-or-pos}
use Rattle.std.proofs.Math.Bool.{true, false}
use Rattle.std.proofs.Math.Option.{Option, some}
use native.Mathlib.Omega.{arith}
use Rattle.std.proofs.Math.Dec.{T, not_T}
use Rattle.std.proofs.Math.ListN.{get_elem?}
use Rattle.sums.specs.Counting.{when, sum, total}
use Rattle.sums.specs.Sums.{sum-cong, sum-le, sum-add}
use Rattle.flow.specs.Balance.{back, out}
use Rattle.flow.specs.Flow.{Flow}
use Rattle.model.specs.Job.{Job, array_fits, is_open, is_chosen, is_missing}
use Rattle.model.specs.Links.{Compass, north, east, south, west, compass_code, PlaceKind, pin, missing, centre, nowhere, side, Place, at, is_place, LinkKind, leg, direct, link, Step, go, come, turn, is_entered, may, limit, pass, around}
use Rattle.model.specs.Near.{spot, entry_of, exit_of, entry, exit}
use Rattle.model.specs.Loads.{departures, arrivals, Feasible}
use Rattle.model.specs.Record.{load}
use Rattle.channel.specs.Map.{spots, darts, row_of, column_of, step_of, is_link_dart, is_none, is_start, want, outside, starts, dart_of}
use Rattle.channel.specs.Map.Back.{link-stored}
use Rattle.channel.specs.Map.Darts.{OnGrid, step-grid, dart-step, step-dart, out-dart, in-dart, out-back, in-back}
use Rattle.channel.specs.Map.Network.{net}
use Rattle.channel.specs.Map.Steps.{place-pass, slot_step}
use Rattle.channel.specs.Map.Passes.{pass-missing}
use Rattle.channel.specs.Map.Stores.{grid?}
use Rattle.channel.specs.Map.Carry.{Shut, shut, pass-shut, link-shut, link-limit, pass-limit}
use Rattle.channel.specs.Map.Network.Pushed.{grid-turn}
use Rattle.channel.specs.Map.Network.InOut.{Quiet, NoStraight, centre-straight, pin-out, pin-back, side-out, side-back, exit_out, exit-back, entry-out, entry-back}
use Rattle.channel.specs.Map.Places.{compass<, five, side-kind, side-cell, tile-cell, chosen-cell, missing-cell, open-tile, kind-inside, entry-inside, tile-inside, want-kind, start_cell, missing-want, missing-chosen, leg-shut, straight-shut, chosen-shut, slot-link, slots-total}
use Rattle.channel.specs.Map.Network.Agree.{Agrees, load_one, load-le}

module _ (J : Job) (fits : T (array_fits J.rows J.columns)) (g s : ℕ → ℕ) (rec : List ℕ) (F : Flow (net J) g s) (a : Agrees g rec) where
  abbrev f : Step → ℕ
  f = load rec

  -- ---- links

  none : (d : ℕ) → d < darts → Shut J d → g d ≡ 0
  unfolding net
  none d l z = omega (arith, F.load.within d l z.unfree, z.cap0)

  quiet : Quiet g
  quiet = record { none = λ d l m n. none d l (shut J d m n) }

  dart-none : (t : Step) → OnGrid t → T (not (may J t)) → g (dart_of t) ≡ 0
  dart-none t o n =
      let (l, q, e) = dart-step t o in none (dart_of t) l (link-shut J (dart_of t) q (subst (λ (x : Step). T (not (may J x))) (sym e) n))

  load-none : (t : Step) → T (not (may J t)) → f t ≡ 0
  load-none t n = by (grid? rec t)
    where
      by : OnGrid t ⊎ (f t ≡ 0) → f t ≡ 0
      by (inl o) = omega (arith, load-le a t o, dart-none t o n)
      by (inr z) = z

  load-limit : (t : Step) (k : ℕ) → limit J t.link ≡ some k → f t ≤ k
  unfolding net
  load-limit t k e = by (grid? rec t)
    where
      by : OnGrid t ⊎ (f t ≡ 0) → f t ≤ k
      by (inl o) =
          let (l, q, r) = dart-step t o in
          let m = link-limit J (dart_of t) q k (ap (λ (x : Step). limit J x.link) r ∙ e) in
          omega (arith, load-le a t o, F.load.within (dart_of t) l m.unfree, m.cap≤)
      by (inr z) = omega arith

  both-limit : (t : Step) (k : ℕ) → limit J t.link ≡ some k → f t + f (turn t) ≤ k
  both-limit t k e = by (eq-zero-or-pos (f t))
    where
      by : (f t ≡ 0) ⊎ (0 < f t) → f t + f (turn t) ≤ k
      by (inl z) = omega (arith, load-limit (turn t) k e)
      by (inr h) = omega (arith, load-limit t k e, load_one a t h)

  -- ---- places

  still : (u : ℕ) → u < spots → T (not (outside J u)) → want J u ≡ 0 → out (net J) g u ≡ out (net J) (back (net J) g) u
  unfolding net
  still u l i w = omega (arith, F.load.balanced u l i, F.load.wanted u l)

  module _ (x : Place) (t : T (is_place J x)) where
    abbrev n : ℕ
    n = length (around x)

    abbrev σ : ℕ → Step
    σ k = step_of (8 * exit x + k)

    on-grid : (k : ℕ) → k < n → OnGrid (σ k)
    on-grid k h = step-grid (8 * exit x + k) (link-stored (8 * exit x + k) (slot-link J fits x t k h).1).1

    -- what the bytes and the flow have on the links around the place
    link-sums : departures f x + sum n (λ k. g (dart_of (turn (σ k)))) ≡ arrivals f x + sum n (λ k. g (8 * exit x + k))
    unfolding departures arrivals
    link-sums =
        omega (
          arith,
          slots-total J fits x t f,
          slots-total J fits x t (λ y. f (turn y)),
          sum-add n (λ k. f (σ k)) (λ k. g (dart_of (turn (σ k)))),
          sum-add n (λ k. f (turn (σ k))) (λ k. g (8 * exit x + k)),
          sum-cong n (λ k. f (σ k) + g (dart_of (turn (σ k)))) (λ k. f (turn (σ k)) + g (8 * exit x + k)) each,
        )
      where
        each : (k : ℕ) → k < n → f (σ k) + g (dart_of (turn (σ k))) ≡ f (turn (σ k)) + g (8 * exit x + k)
        each k h =
            let (l, q) = slot-link J fits x t k h in
            omega (arith, a.same (σ k) (on-grid k h), ap g (step-dart (8 * exit x + k) l q))

    arrivals-le : arrivals f x ≤ sum n (λ k. g (dart_of (turn (σ k))))
    unfolding arrivals
    arrivals-le =
        omega (
          arith,
          slots-total J fits x t (λ y. f (turn y)),
          sum-le n (λ k. f (turn (σ k))) (λ k. g (dart_of (turn (σ k)))) (λ k h. load-le a (turn (σ k)) (grid-turn (on-grid k h))),
        )

  -- n, e, s, w
  side-even : (d : Compass) (r c : ℕ) → T (is_open J r c) → arrivals f (at (side d) r c) ≡ departures f (at (side d) r c)
  unfolding darts spots
  side-even d r c t =
      omega (
        arith,
        link-sums x t,
        ap (λ (m : ℕ). sum m (λ k. g (dart_of (turn (step_of (8 * u + k)))))) e,
        ap (λ (m : ℕ). sum m (λ k. g (8 * u + k))) e,
        side-out g quiet J u (compass_code d) (side-kind d r c) (compass< d) low slots,
        side-back g quiet J u (compass_code d) (side-kind d r c) (compass< d) low slots,
        still u low (tile-inside J fits u r c (side-cell d r c) (open-tile J fits r c t) (omega (arith, side-kind d r c))) (want-kind J fits u kind),
      )
    where
      x : Place
      x = at (side d) r c

      u : ℕ
      u = exit x

      e : length (around x) ≡ 5
      e = five d r c

      slots : (k : ℕ) → k < 5 → T (is_link_dart (8 * u + k))
      slots k h = (slot-link J fits x t k (omega (arith, e))).1

      low : u < spots
      low = omega (arith, (slot-link J fits x t 0 (omega (arith, e))).0)

      kind : u % 8 ≢ 1
      kind = omega (arith, side-kind d r c)

  -- a place whose exit is the spot behind u
  module _ (x : Place) (t : T (is_place J x)) (u j : ℕ) (m : u % 8 ≡ 6 * j) (b : j < 2) (e : exit x ≡ u + 1) (q : length (around x) ≡ 4)
      (inner : T (not (outside J u))) (straight : (low : u + 1 < spots) (slots : (k : ℕ) → k < 4 → T (is_link_dart (8 * (u + 1) + k))) → NoStraight g quiet J u j m b low slots) where
    slots : (k : ℕ) → k < 4 → T (is_link_dart (8 * (u + 1) + k))
    slots k h = subst (λ (v : ℕ). T (is_link_dart (8 * v + k))) e (slot-link J fits x t k (omega arith)).1

    low : u + 1 < spots
    unfolding darts spots
    low = omega (arith, (slot-link J fits x t 0 (omega arith)).0)

    -- what goes through it
    through : g (8 * u + 4) ≡ sum 4 (λ k. g (dart_of (turn (step_of (8 * (u + 1) + k)))))
    through =
        omega (
          arith,
          entry-out g quiet J u j m b low slots (straight low slots),
          entry-back g quiet J u j m b low slots (straight low slots),
          still u (omega (arith, low)) inner (want-kind J fits u (omega arith)),
        )

    onto : sum (length (around x)) (λ k. g (dart_of (turn (step_of (8 * exit x + k))))) ≡ g (8 * u + 4)
    onto =
        ap (λ (v : ℕ). sum v (λ k. g (dart_of (turn (step_of (8 * exit x + k)))))) q
        ∙ (ap (λ (v : ℕ). sum 4 (λ k. g (dart_of (turn (step_of (8 * v + k)))))) e ∙ sym through)

    off : sum (length (around x)) (λ k. g (8 * exit x + k)) ≡ g (8 * u + 4) + s (u + 1)
    unfolding net
    off =
        ap (λ (v : ℕ). sum v (λ k. g (8 * exit x + k))) q
        ∙ (ap (λ (v : ℕ). sum 4 (λ k. g (8 * v + k))) e
        ∙ omega (
          arith,
          exit_out g quiet J u j m b low slots (straight low slots),
          exit-back g quiet J u j m b low slots (straight low slots),
          F.load.balanced (u + 1) low (kind-inside J fits (u + 1) (λ h k. omega arith) (omega arith)),
        ))

    pair-even : departures f x ≡ arrivals f x + s (u + 1)
    pair-even = omega (arith, link-sums x t, onto, off)

    pair-limit : entry x ≡ u → (k : ℕ) → pass J x ≡ some k → arrivals f x ≤ k
    unfolding net
    pair-limit n k h =
        let (l, p, y) = place-pass J fits x t k h in
        let w = pass-limit J (8 * entry x + 4) p k (ap (pass J) y ∙ h) in
        omega (arith, arrivals-le x t, onto, ap (λ (v : ℕ). g (8 * v + 4)) n, F.load.within (8 * entry x + 4) l w.unfree, w.cap≤)

  -- nothing goes straight out of a missing pin
  missing-darts : (r c : ℕ) → T (is_missing J r c) → {m : spot 0 r c % 8 ≡ 6 * 0} {b : 0 < 2} (low : spot 0 r c + 1 < spots)
      (slots : (k : ℕ) → k < 4 → T (is_link_dart (8 * (spot 0 r c + 1) + k))) → NoStraight g quiet J (spot 0 r c) 0 m b low slots
  missing-darts r c t low slots =
      let (p, q) = missing-cell J fits r c t in
      let gone : g (dart_of (go direct r c)) ≡ 0 = dart-none (go direct r c) (record { row< = p; column< = q }) (chosen-shut J r c (missing-chosen J r c t)) in
      let come : g (dart_of (come direct r c)) ≡ 0 = dart-none (come direct r c) (record { row< = p; column< = q }) (straight-shut J r c) in
      record { gone = ap g (out-dart r c p q) ∙ gone; gone_back = ap g (out-back r c p q) ∙ come; come = ap g (in-dart r c p q) ∙ come; come_back = ap g (in-back r c p q) ∙ gone }

  centre-darts : (r c : ℕ) {m : spot 6 r c % 8 ≡ 6 * 1} {b : 1 < 2} (low : spot 6 r c + 1 < spots)
      (slots : (k : ℕ) → k < 4 → T (is_link_dart (8 * (spot 6 r c + 1) + k))) → NoStraight g quiet J (spot 6 r c) 1 m b low slots
  centre-darts r c {m} {b} low slots = centre-straight g quiet J (spot 6 r c) 1 m b low slots refl

  -- a chosen pin is never entered
  pin-entered : (r c : ℕ) → T (is_chosen J r c) → arrivals f (at pin r c) ≡ 0
  unfolding arrivals total
  pin-entered r c t =
      let n : T (not (is_missing J r c)) = not_T (is_missing J r c) (λ m. missing-chosen J r c m t) in
      omega (
        arith,
        load-none (come (leg north) r c) (leg-shut J north r c n),
        load-none (come (leg east) r c) (leg-shut J east r c n),
        load-none (come (leg south) r c) (leg-shut J south r c n),
        load-none (come (leg west) r c) (leg-shut J west r c n),
        load-none (come direct r c) (straight-shut J r c),
      )

  pin-starts : (r c : ℕ) → T (is_chosen J r c) → departures f (at pin r c) ≡ s (exit (at pin r c))
  unfolding net exit_of spots sum
  pin-starts r c t =
      let sums : departures f x + sum 5 (λ k. g (dart_of (turn (step_of (8 * exit x + k))))) ≡ arrivals f x + sum 5 (λ k. g (8 * exit x + k)) = link-sums x t in
      omega (
        arith,
        sums,
        pin-entered r c t,
        pin-out g quiet J u 0 (omega arith) (omega arith) low slots,
        pin-back g quiet J u 0 (omega arith) (omega arith) low slots,
        balance,
        through,
        ap g (out-back r c p q),
        dart-none (come direct r c) on (straight-shut J r c),
        none-enter,
        ap (λ (v : ℕ). sum 5 (λ k. g (8 * v + k))) at_exit,
        ap s at_exit,
      )
    where
      x : Place
      x = at pin r c

      u : ℕ
      u = spot 0 r c

      p : r < 40
      p = (chosen-cell J fits r c t).0

      q : c < 40
      q = (chosen-cell J fits r c t).1

      on : {k : LinkKind} {b : Bool} → OnGrid (record { link = link k r c; forth = b })
      on = record { row< = p; column< = q }

      at_exit : exit (at pin r c) ≡ u + 1
      at_exit = omega arith

      slots : (k : ℕ) → k < 4 → T (is_link_dart (8 * (u + 1) + k))
      slots k h = subst (λ (v : ℕ). T (is_link_dart (8 * v + k))) at_exit (slot-link J fits x t k (omega arith)).1

      low : u + 1 < spots
      low = omega (arith, p, q)

      balance : out (net J) g (u + 1) ≡ out (net J) (back (net J) g) (u + 1) + s (u + 1)
      balance = F.load.balanced (u + 1) low (kind-inside J fits (u + 1) (λ h k. omega arith) (omega arith))

      n : T (not (is_missing J r c))
      n = not_T (is_missing J r c) (λ m. missing-chosen J r c m t)

      through : g (8 * u + 4) ≡ 0
      through =
          let (l, d, e) = pass-missing r c p q in
          none (8 * u + 4) l (pass-shut J (8 * u + 4) d (subst (λ (y : Place). T (not (is_place J y))) (sym e) n))

      enter : (k : ℕ) (y : Step) → get_elem? (around x) k ≡ some y → OnGrid (turn y) → T (not (may J (turn y))) → g (dart_of (turn (step_of (8 * exit x + k)))) ≡ 0
      enter k y e o m = ap (λ (z : Step). g (dart_of (turn z))) (slot_step J fits x t k y e).2 ∙ dart-none (turn y) o m

      none-enter : sum 5 (λ k. g (dart_of (turn (step_of (8 * exit x + k))))) ≡ 0
      none-enter =
          omega (
            arith,
            enter 0 (go (leg north) r c) refl on (leg-shut J north r c n),
            enter 1 (go (leg east) r c) refl on (leg-shut J east r c n),
            enter 2 (go (leg south) r c) refl on (leg-shut J south r c n),
            enter 3 (go (leg west) r c) refl on (leg-shut J west r c n),
            enter 4 (go direct r c) refl on (straight-shut J r c),
          )

  -- what is wanted nowhere is started nowhere
  unstarted : (u : ℕ) → u < spots → want J u ≡ 0 → s u ≡ 0
  unfolding net
  unstarted u l w = omega (arith, F.load.wanted u l)

  even : (k : PlaceKind) (r c : ℕ) → T (is_place J (at k r c)) → T (is_entered J (at k r c)) → arrivals f (at k r c) ≡ departures f (at k r c)
  unfolding exit_of spots
  even pin r c t e = absurd e
  even missing r c t e =
      let (p, q) = missing-cell J fits r c t in
      let z : s (spot 0 r c + 1) ≡ 0 = unstarted (spot 0 r c + 1) (omega arith) (ap (want J) (omega arith) ∙ missing-want J fits r c t) in
      omega (arith, pair-even (at missing r c) t (spot 0 r c) 0 (omega arith) (omega arith) (omega arith) refl (entry-inside J fits r c t) (missing-darts r c t))
  even centre r c t e =
      let (p, q) = tile-cell J fits r c (open-tile J fits r c t) in
      let z : s (spot 6 r c + 1) ≡ 0 = unstarted (spot 6 r c + 1) (omega arith) (want-kind J fits (spot 6 r c + 1) (omega arith)) in
      omega (arith, pair-even (at centre r c) t (spot 6 r c) 1 (omega arith) (omega arith) (omega arith) refl (kind-inside J fits (spot 6 r c) (λ h k. omega arith) (omega arith)) (centre-darts r c))
  even PlaceKind.outside r c t e = absurd t
  even nowhere r c t e = absurd t
  even (side d) r c t e = side-even d r c t

  passes : (k : PlaceKind) (r c m : ℕ) → T (is_place J (at k r c)) → pass J (at k r c) ≡ some m → arrivals f (at k r c) ≤ m
  unfolding net exit_of entry_of is_none
  passes pin r c m t e = absurd (subst (λ (o : Option ℕ). T (is_none o)) e tt)
  passes missing r c m t e = pair-limit (at missing r c) t (spot 0 r c) 0 (omega arith) (omega arith) (omega arith) refl (entry-inside J fits r c t) (missing-darts r c t) refl m e
  passes centre r c m t e = pair-limit (at centre r c) t (spot 6 r c) 1 (omega arith) (omega arith) (omega arith) refl (kind-inside J fits (spot 6 r c) (λ h k. omega arith) (omega arith)) (centre-darts r c) refl m e
  passes PlaceKind.outside r c m t e = absurd t
  passes nowhere r c m t e = absurd t
  passes (side d) r c m t e = absurd (subst (λ (o : Option ℕ). T (is_none o)) e tt)

  pin-once : (r c : ℕ) → T (is_chosen J r c) → departures f (at pin r c) ≤ 1
  unfolding net exit_of want spots
  pin-once r c t =
      let (p, q) = chosen-cell J fits r c t in
      omega (arith, pin-starts r c t, F.load.wanted (exit (at pin r c)) (omega arith), one (is_start J (exit (at pin r c))))
    where
      one : (b : Bool) → when b 1 ≤ 1
      one true = omega arith
      one false = omega arith

module _ (J : Job) (fits : T (array_fits J.rows J.columns)) where
  -- Bytes that agree with a flow are feasible, and start what the flow starts.
  pub agrees-feasible : (g s : ℕ → ℕ) (rec : List ℕ) → Flow (net J) g s → Agrees g rec → Feasible J (load rec)
  agrees-feasible g s rec F a =
      record {
        one_way = load_one a;
        limits = both-limit J fits g s rec F a;
        against = λ t m n. load-none J fits g s rec F a t m;
        nowhere = λ t m n. load-none J fits g s rec F a t m;
        passing = λ x k t e. passes J fits g s rec F a x.kind x.row x.column k t e;
        starts = pin-once J fits g s rec F a;
        balance = λ x t e. even J fits g s rec F a x.kind x.row x.column t e;
      }

  pub agrees-starts : (g s : ℕ → ℕ) (rec : List ℕ) → Flow (net J) g s → Agrees g rec → (u : ℕ) → u < spots → starts J rec u ≡ s u
  unfolding net starts want
  agrees-starts g s rec F a u l = go (is_start J u) (λ t. t) (F.load.wanted u l)
    where
      go : (b : Bool) → (T b → T (is_start J u)) → s u ≤ when b 1 → when b (departures (load rec) (at pin (row_of (u / 8)) (column_of (u / 8)))) ≡ s u
      go true t w = let (c, e) = start_cell J fits u (t tt) in pin-starts J fits g s rec F a (row_of (u / 8)) (column_of (u / 8)) c ∙ ap s e
      go false t w = omega arith
