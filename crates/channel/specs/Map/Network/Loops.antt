-- A loop of document 01, a closed chain of loaded links, is a closed chain of loaded darts of the network: so an order along which every loaded dart falls
-- excludes loops, and a closed path of loaded darts is one. Assumes nothing.
use Rattle.std.specs.Prelude.{◌≡◌, ◌⊎◌, Bool, not, List, [], ◌∷◌, ℕ, ◌+◌, ◌*◌, ◌/◌, ◌%◌, ◌≤◌, ◌<◌, eqb, get_or}
use Rattle.std.proofs.Math.Path.{refl, ap, subst}
use Rattle.std.proofs.Common.{sym, subst₂, ◌∙◌, inl, inr}
use Rattle.std.proofs.Math.Bool.{true, false}
use Rattle.std.proofs.Math.Option.{some}
use native.Mathlib.Omega.{arith}
use Rattle.std.proofs.Math.Dec.{T, eqb→eq}
use Rattle.sums.specs.Counting.{when, total}
use Rattle.sums.specs.Entries.{entry-below}
use Rattle.sums.specs.Tests.{and_right}
use Rattle.sums.specs.Totals.{total-has}
use Rattle.flow.specs.Network.{Path, here, along}
use Rattle.flow.specs.Cancel.{Loaded}
use Rattle.model.specs.Job.{Job, array_fits, centre_limit, tile_d, extra_limit, is_pin, is_tile, is_open, is_chosen, is_missing}
use Rattle.model.specs.Links.{Compass, north, east, south, west, compass_code, PlaceKind, pin, missing, centre, nowhere, side, Place, at, the_outside, is_place, leg, spoke, pin_at, Step, come, head, tail, turn, may, pass, around}
use Rattle.model.specs.Near.{spot, entry_of, exit_of, entry, exit}
use Rattle.model.specs.Loads.{arrivals, Feasible, Trail}
use Rattle.model.specs.Record.{load}
use Rattle.model.proofs.Listed.{around-five, step-listed, may-leaves}
use Rattle.channel.specs.Map.{darts, row_of, column_of, rev, step_of, is_link_dart, is_pass_dart, passed_of, outside, view, code_of, dart_of}
use Rattle.channel.specs.Map.Darts.{OnGrid, dart-step, cell_row, cell-column}
use Rattle.channel.specs.Map.Network.{net}
use Rattle.channel.specs.Map.Steps.{link-tail, link-head, place-pass, pass-ends}
use Rattle.channel.specs.Map.Stores.{grid?}
use Rattle.channel.specs.Map.Carry.{view-link, view-pass}
use Rattle.channel.specs.Map.Network.Pushed.{turn-turn}
use Rattle.channel.specs.Map.Places.{compass<, tile-cell, chosen-cell, missing-cell, open-tile, kind-inside, entry-inside, tile-inside, pin-by, leg-shut, spoke-shut}

-- ---- the place of a spot

-- the places of the eight kinds at a cell
abbrev kind_place : Job → ℕ → ℕ → ℕ → Place
kind_place J r c m =
    get_or
    (at missing r c ∷ pin_at J r c ∷ at (side north) r c ∷ at (side east) r c ∷ at (side south) r c ∷ at (side west) r c ∷ at centre r c ∷ at centre r c ∷ [])
    m the_outside

-- the place with this number, or the outside
place_at : Job → ℕ → Place
place_at J u = elim (outside J u) [ true ↦ the_outside | false ↦ kind_place J (row_of (u / 8)) (column_of (u / 8)) (u % 8) ]

module _ (J : Job) (fits : T (array_fits J.rows J.columns)) where
  place-outside : (u : ℕ) → T (outside J u) → place_at J u ≡ the_outside
  unfolding place_at
  place-outside u t = by (outside J u) t
    where
      by : (b : Bool) → T b → elim b [ true ↦ the_outside | false ↦ kind_place J (row_of (u / 8)) (column_of (u / 8)) (u % 8) ] ≡ the_outside
      by true t = refl
      by false t = absurd t

  place_inside : (u r c : ℕ) → T (not (outside J u)) → u / 8 ≡ 41 + 40 * r + c → c < 40 → place_at J u ≡ kind_place J r c (u % 8)
  unfolding place_at
  place_inside u r c n e b = by (outside J u) n ∙ (λ i. kind_place J (cell_row (u / 8) r c e b i) (cell-column (u / 8) r c e b i) (u % 8))
    where
      by : (b : Bool) → T (not b)
          → elim b [ true ↦ the_outside | false ↦ kind_place J (row_of (u / 8)) (column_of (u / 8)) (u % 8) ]
          ≡ kind_place J (row_of (u / 8)) (column_of (u / 8)) (u % 8)
      by true n = absurd n
      by false n = refl

  -- a spot of the kind m at the cell of a pin or a tile
  spot-place : (m r c : ℕ) → m < 8 → c < 40 → T (not (outside J (spot m r c))) → place_at J (spot m r c) ≡ kind_place J r c m
  spot-place m r c l b n =
      let e : spot m r c % 8 ≡ m = omega arith in
      place_inside (spot m r c) r c n (omega arith) b ∙ ap (kind_place J r c) e

  -- its entry and its exit are of the place
  record Home (x : Place) : Type 0 where
    at_entry : place_at J (entry x) ≡ x
    at_exit : place_at J (exit x) ≡ x

  side-home : (d : Compass) (r c : ℕ) → kind_place J r c (2 + compass_code d) ≡ at (side d) r c
  side-home north r c = refl
  side-home east r c = refl
  side-home south r c = refl
  side-home west r c = refl

  kind-home : (k : PlaceKind) (r c : ℕ) → T (is_place J (at k r c)) → Home (at k r c)
  unfolding entry_of exit_of is_chosen is_missing
  kind-home pin r c t =
      let (p, q) = chosen-cell J fits r c t in
      let e : J.mark r c ≡ 1 = eqb→eq (J.mark r c) 1 (and_right (is_pin J r c) (eqb (J.mark r c) 1) t) in
      let h : place_at J (spot 1 r c) ≡ at pin r c =
      spot-place 1 r c (omega arith) q (kind-inside J fits (spot 1 r c) (λ a b. omega arith) (omega arith))
      ∙ pin-by J (λ x. x ≡ at pin r c) r c (λ z. absurd (omega arith)) (λ z. refl) in
      record { at_entry = h; at_exit = h }
  kind-home missing r c t =
      let (p, q) = missing-cell J fits r c t in
      let e : J.mark r c ≡ 2 = eqb→eq (J.mark r c) 2 (and_right (is_pin J r c) (eqb (J.mark r c) 2) t) in
      record {
        at_entry = spot-place 0 r c (omega arith) q (entry-inside J fits r c t);
        at_exit = spot-place 1 r c (omega arith) q (kind-inside J fits (spot 1 r c) (λ a b. omega arith) (omega arith))
            ∙ pin-by J (λ x. x ≡ at missing r c) r c (λ z. refl) (λ z. absurd (z e));
      }
  kind-home centre r c t =
      let (p, q) = tile-cell J fits r c (open-tile J fits r c t) in
      record {
        at_entry = spot-place 6 r c (omega arith) q (kind-inside J fits (spot 6 r c) (λ a b. omega arith) (omega arith));
        at_exit = spot-place 7 r c (omega arith) q (kind-inside J fits (spot 7 r c) (λ a b. omega arith) (omega arith));
      }
  kind-home PlaceKind.outside r c t = absurd t
  kind-home nowhere r c t = absurd t
  kind-home (side d) r c t =
      let u : T (is_tile J r c) = open-tile J fits r c t in
      let (p, q) = tile-cell J fits r c u in
      let h : place_at J (spot (2 + compass_code d) r c) ≡ at (side d) r c =
      spot-place (2 + compass_code d) r c (omega (arith, compass< d)) q
      (tile-inside J fits (spot (2 + compass_code d) r c) r c (omega (arith, compass< d)) u (omega (arith, compass< d))) ∙ side-home d r c in
      record { at_entry = h; at_exit = h }

  home : (x : Place) → T (is_place J x) → Home x
  home x t = kind-home x.kind x.row x.column t

-- the entry of what a dart passes has an even number, its exit the next one
pass-next : (d : ℕ) → (entry (passed_of d) % 2 ≡ 0) × (exit (passed_of d) ≡ entry (passed_of d) + 1)
unfolding passed_of entry_of exit_of
pass-next d = by (eqb (code_of (d % 64)) 5)
  where
    by : (b : Bool)
        → let x : Place = at (elim b [ true ↦ centre | false ↦ missing ]) (row_of (d / 64)) (column_of (d / 64)) in
        (entry x % 2 ≡ 0) × (exit x ≡ entry x + 1)
    by true = (omega arith, omega arith)
    by false = (omega arith, omega arith)

-- ---- loaded darts

-- Every loaded dart in one of the first five slots of a spot of this rank or more falls, to a spot of this rank or more. Feasible loads have no others.
pub record FallsFrom (least : ℕ) (rec : List ℕ) (rank : ℕ → ℕ) : Type 0 where
  pub fall : (d : ℕ) → d < darts → d % 8 < 5 → 0 < view rec d → least ≤ rank (d / 8) → (least ≤ rank (rev d / 8)) × (rank (rev d / 8) < rank (d / 8))

module _ (J : Job) (fits : T (array_fits J.rows J.columns)) (rec : List ℕ) (feasible : Feasible J (load rec)) where
  abbrev f : Step → ℕ
  f = load rec

  unloaded : (s : Step) → T (not (may J s)) → f s ≡ 0
  unloaded s n = by (may J (turn s)) (λ t. t) (λ t. t)
    where
      by : (b : Bool) → (T b → T (may J (turn s))) → (T (not b) → T (not (may J (turn s)))) → f s ≡ 0
      by true p q = feasible.against s n (p tt)
      by false p q = feasible.nowhere s n (q tt)

  pub loaded-may : (s : Step) → 0 < f s → T (may J s)
  loaded-may s h = by (may J s) (unloaded s)
    where
      by : (b : Bool) → (T (not b) → f s ≡ 0) → T b
      by true z = tt
      by false z = absurd (omega (arith, z tt))

  pub loaded-grid : (s : Step) → 0 < f s → OnGrid s
  loaded-grid s h = by (grid? rec s)
    where
      by : OnGrid s ⊎ (f s ≡ 0) → OnGrid s
      by (inl o) = o
      by (inr z) = absurd (omega arith)

  -- what comes along a loaded step arrives
  step-arrives : (s : Step) → T (is_place J (head J s)) → f s ≤ arrivals f (head J s)
  unfolding arrivals
  step-arrives s t =
      let e = turn-turn s in
      let m = step-listed J (turn s) (subst (λ (y : Step). T (is_place J (head J y))) (sym e) t) in
      let h : f (turn (turn s)) ≤ arrivals f (head J (turn (turn s))) = total-has (around (tail J (turn s))) (λ y. f (turn y)) m in
      subst (λ (y : Step). f y ≤ arrivals f (head J y)) e h

  -- what a loaded dart is
  data Sort (d : ℕ) : Type 0 where
    links : T (is_link_dart d) → 0 < f (step_of d) → Sort d
    passes : T (is_pass_dart d) → 0 < arrivals f (passed_of d) → Sort d

  sort : (d : ℕ) → 0 < view rec d → Sort d
  unfolding view
  sort d w = by (is_link_dart d) (λ t. t) (is_pass_dart d) (λ t. t) w
    where
      by : (a : Bool) → (T a → T (is_link_dart d)) → (b : Bool) → (T b → T (is_pass_dart d)) → 0 < when a (f (step_of d)) + when b (arrivals f (passed_of d)) → Sort d
      by true p b q h = links (p tt) (omega (arith, view-link rec d (p tt)))
      by false p true q h = passes (q tt) (omega arith)
      by false p false q h = absurd (omega arith)

  -- ---- an order along loaded darts

  module _ (least : ℕ) (rank : ℕ → ℕ) (falls : FallsFrom least rec rank) where
    -- from the spot u to the spot v it does not rise
    abbrev Lower : ℕ → ℕ → Type 0
    Lower u v = least ≤ rank u → (least ≤ rank v) × (rank v ≤ rank u)

    passed : (x : Place) (k : ℕ) → T (is_place J x) → pass J x ≡ some k → 0 < arrivals f x → Lower (entry x) (exit x)
    passed x k t e h b =
        let (l, q, p) = place-pass J fits x t k e in
        let (m, n) = pass-ends (8 * entry x + 4) l q in
        let w : 0 < view rec (8 * entry x + 4) = omega (arith, view-pass rec (8 * entry x + 4) q, ap (arrivals f) p) in
        let y : rank (entry x) ≡ rank ((8 * entry x + 4) / 8) = ap rank (sym (ap entry p) ∙ m) in
        omega (arith, falls.fall (8 * entry x + 4) l (omega arith) w (omega arith), ap rank (sym (ap exit p) ∙ n))

    -- it does not rise through a place that wires pass
    through : (k : PlaceKind) (r c : ℕ) → T (is_place J (at k r c)) → 0 < arrivals f (at k r c) → Lower (entry (at k r c)) (exit (at k r c))
    unfolding entry_of exit_of
    through pin r c t h b = omega arith
    through missing r c t h b = passed (at missing r c) (extra_limit J) t refl h b
    through centre r c t h b = passed (at centre r c) (centre_limit J.O (tile_d J r c)) t refl h b
    through PlaceKind.outside r c t h b = absurd t
    through nowhere r c t h b = absurd t
    through (side d) r c t h b = omega arith

    -- it falls from the exit of one place to the exit of another
    abbrev Falls : Place → Place → Type 0
    Falls x y = least ≤ rank (exit x) → (least ≤ rank (exit y)) × (rank (exit y) < rank (exit x))

    abbrev StepFalls : Step → Type 0
    StepFalls s = 0 < f s → T (is_place J (head J s)) → Falls (tail J s) (head J s)

    dart-falls : (d : ℕ) → d < darts → T (is_link_dart d) → StepFalls (step_of d)
    dart-falls d l t h p b = by (link-head J fits d l t (loaded-may (step_of d) h))
      where
        s : Step
        s = step_of d

        by : (T (is_place J (head J s)) × (entry (head J s) ≡ rev d / 8)) ⊎ ((head J s ≡ the_outside) × T (outside J (rev d / 8)))
            → (least ≤ rank (exit (head J s))) × (rank (exit (head J s)) < rank (exit (tail J s)))
        by (inr (q, o)) = absurd (subst (λ (x : Place). T (is_place J x)) q p)
        by (inl (q, e)) =
            let (u, v) = link-tail J fits d l t (loaded-may s h) in
            let z : rank (exit (tail J s)) ≡ rank (d / 8) = ap rank u in
            let k : d % 8 < 5 = omega (arith, entry-below (around (tail J s)) (d % 8) s v, around-five (tail J s)) in
            let y : rank (entry (head J s)) ≡ rank (rev d / 8) = ap rank e in
            let (g, r) = falls.fall d l k (omega (arith, view-link rec d t)) (omega arith) in
            omega (arith, through (head J s).kind (head J s).row (head J s).column p (omega (arith, step-arrives s p)) (omega arith))

    step_falls : (s : Step) → StepFalls s
    step_falls s h = let (l, t, e) = dart-step s (loaded-grid s h) in subst StepFalls e (dart-falls (dart_of s) l t) h

    pub trail_falls : (s : Step) (ss : List Step) (x y : Place) → Trail J f x (s ∷ ss) y → T (is_place J y) → Falls x y
    trail_falls s [] x y (e, h, q) p b = subst₂ Falls e q (step_falls s h (subst (λ (z : Place). T (is_place J z)) (sym q) p)) b
    trail_falls s (t ∷ ts) x y (e, h, r) p b =
        let q : T (is_place J (head J s)) = subst (λ (z : Place). T (is_place J z)) r.0 (may-leaves J t (loaded-may t r.1)) in
        let z : rank (exit (tail J s)) ≡ rank (exit x) = ap (λ (z : Place). rank (exit z)) e in
        let (g, m) = step_falls s h q (omega arith) in
        omega (arith, trail_falls t ts (head J s) y r p g)

  -- a trail begins at a place
  pub trail-place : (s : Step) (ss : List Step) (x y : Place) → Trail J f x (s ∷ ss) y → T (is_place J x)
  trail-place s ss x y t = subst (λ (z : Place). T (is_place J z)) t.0 (may-leaves J s (loaded-may s t.1))

  pub ranked-loops : (rank : ℕ → ℕ) → ((d : ℕ) → d < darts → 0 < view rec d → rank (rev d / 8) < rank (d / 8))
      → (x : Place) (s : Step) (ss : List Step) → Trail J (load rec) x (s ∷ ss) x → ⊥
  ranked-loops rank falls x s ss t =
      omega (arith, trail_falls 0 rank (record { fall = λ d l k w b. omega (arith, falls d l w) }) s ss x x t (trail-place s ss x x t) (omega arith))

  -- ---- a closed path

  -- wires pass only what is there
  centre-there : (r c : ℕ) → 0 < arrivals f (at centre r c) → T (is_open J r c)
  unfolding arrivals total
  centre-there r c h = by (is_open J r c) (λ t. t)
    where
      by : (b : Bool) → (T (not b) → T (not (is_open J r c))) → T b
      by true n = tt
      by false n =
          absurd (omega (
            arith,
            unloaded (come (spoke north) r c) (spoke-shut J north r c (n tt)),
            unloaded (come (spoke east) r c) (spoke-shut J east r c (n tt)),
            unloaded (come (spoke south) r c) (spoke-shut J south r c (n tt)),
            unloaded (come (spoke west) r c) (spoke-shut J west r c (n tt)),
          ))

  missing-there : (r c : ℕ) → 0 < arrivals f (at missing r c) → T (is_missing J r c)
  unfolding arrivals total
  missing-there r c h = by (is_missing J r c) (λ t. t)
    where
      by : (b : Bool) → (T (not b) → T (not (is_missing J r c))) → T b
      by true n = tt
      by false n =
          absurd (omega (
            arith,
            unloaded (come (leg north) r c) (leg-shut J north r c (n tt)),
            unloaded (come (leg east) r c) (leg-shut J east r c (n tt)),
            unloaded (come (leg south) r c) (leg-shut J south r c (n tt)),
            unloaded (come (leg west) r c) (leg-shut J west r c (n tt)),
          ))

  pass-place : (d : ℕ) → 0 < arrivals f (passed_of d) → T (is_place J (passed_of d))
  unfolding passed_of
  pass-place d h = by (eqb (code_of (d % 64)) 5) h
    where
      by : (b : Bool) → 0 < arrivals f (at (elim b [ true ↦ centre | false ↦ missing ]) (row_of (d / 64)) (column_of (d / 64)))
          → T (is_place J (at (elim b [ true ↦ centre | false ↦ missing ]) (row_of (d / 64)) (column_of (d / 64))))
      by true h = centre-there (row_of (d / 64)) (column_of (d / 64)) h
      by false h = missing-there (row_of (d / 64)) (column_of (d / 64)) h

  -- a loaded link dart takes its step from the place of its tail to the place of its head
  link-home : (d : ℕ) → d < darts → T (is_link_dart d) → 0 < f (step_of d)
      → (tail J (step_of d) ≡ place_at J (d / 8)) × (head J (step_of d) ≡ place_at J (rev d / 8))
  link-home d l t h = (
    sym (home J fits (tail J (step_of d)) (may-leaves J (step_of d) m)).at_exit ∙ ap (place_at J) (link-tail J fits d l t m).0,
    by (link-head J fits d l t m),
  )
    where
      m : T (may J (step_of d))
      m = loaded-may (step_of d) h

      by : (T (is_place J (head J (step_of d))) × (entry (head J (step_of d)) ≡ rev d / 8)) ⊎ ((head J (step_of d) ≡ the_outside) × T (outside J (rev d / 8)))
          → head J (step_of d) ≡ place_at J (rev d / 8)
      by (inl (p, e)) = sym (home J fits (head J (step_of d)) p).at_entry ∙ ap (place_at J) e
      by (inr (q, o)) = q ∙ sym (place-outside J fits (rev d / 8) o)

  -- a loaded dart from an entry to its exit stays at its place
  pass-home : (d : ℕ) → d < darts → T (is_pass_dart d) → 0 < arrivals f (passed_of d) → place_at J (rev d / 8) ≡ place_at J (d / 8)
  pass-home d l t h =
      let x = home J fits (passed_of d) (pass-place d h) in
      let (a, b) = pass-ends d l t in
      ap (place_at J) (sym b) ∙ (x.at_exit ∙ (sym x.at_entry ∙ ap (place_at J) a))

  abbrev Trails : Place → Place → Type 0
  Trails x y = (ss : List Step) × Trail J f x ss y

  -- a trail of one step at least
  abbrev Begins : Place → Place → Type 0
  Begins x y = (s : Step) × (ss : List Step) × Trail J f x (s ∷ ss) y

  link-begins : (d u : ℕ) (y : Place) → d < darts → d / 8 ≡ u → T (is_link_dart d) → 0 < f (step_of d) → Trails (place_at J (rev d / 8)) y
      → Begins (place_at J u) y
  link-begins d u y l e t h (ss, w) =
      let (a, b) = link-home d l t h in
      (step_of d, ss, (a ∙ ap (place_at J) e, h, subst (λ (x : Place). Trail J f x ss y) (sym b) w))

  path-trail : {ds : List ℕ} {u v : ℕ} → Path (net J) (Loaded (view rec)) ds u v → Trails (place_at J u) (place_at J v)
  unfolding net
  path-trail (here e) = ([], ap (place_at J) e)
  path-trail (along {d = d} {u = u} {v = v} l e p n r) = by (sort d p) (path-trail r)
    where
      by : Sort d → Trails (place_at J (rev d / 8)) (place_at J v) → Trails (place_at J u) (place_at J v)
      by (links t h) w = let (s, ss, z) = link-begins d u (place_at J v) l e t h w in (s ∷ ss, z)
      by (passes t h) (ss, w) = (ss, subst (λ (x : Place). Trail J f x ss (place_at J v)) (pass-home d l t h ∙ ap (place_at J) e) w)

  -- behind a dart that passes a place comes one along a link
  pass-begins : (d u : ℕ) {ds : List ℕ} → d < darts → d / 8 ≡ u → T (is_pass_dart d) → 0 < arrivals f (passed_of d)
      → Path (net J) (Loaded (view rec)) ds (rev d / 8) u → Begins (place_at J u) (place_at J u)
  unfolding net
  pass-begins d u l e t h (here q) = absurd (omega (arith, pass-next d, pass-ends d l t))
  pass-begins d u l e t h (along {d = c} k q p n r) = by (sort c p)
    where
      by : Sort c → Begins (place_at J u) (place_at J u)
      by (passes m z) =
          absurd (odd (entry (passed_of d)) (entry (passed_of c)) (omega (arith, pass-next d, pass-ends d l t, pass-ends c k m)) (pass-next d).0 (pass-next c).0)
        where
          odd : (x y : ℕ) → y ≡ x + 1 → x % 2 ≡ 0 → y % 2 ≡ 0 → ⊥
          odd x y a b c = omega arith
      by (links m z) =
          subst (λ (x : Place). Begins x (place_at J u)) (pass-home d l t h ∙ ap (place_at J) e) (link-begins c (rev d / 8) (place_at J u) k q m z (path-trail r))

  pub path-loop : (u d : ℕ) (ds : List ℕ) → Path (net J) (Loaded (view rec)) (d ∷ ds) u u
      → (x : Place) × (s : Step) × (ss : List Step) × Trail J (load rec) x (s ∷ ss) x
  unfolding net
  path-loop u d ds (along l e p n r) = let (s, ss, w) = by (sort d p) in (place_at J u, s, ss, w)
    where
      by : Sort d → Begins (place_at J u) (place_at J u)
      by (links t h) = link-begins d u (place_at J u) l e t h (path-trail r)
      by (passes t h) = pass-begins d u l e t h r
