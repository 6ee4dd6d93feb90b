-- A route of document 01 is a walk of the network that uses the same limits, so that families correspond: the walk takes the dart of each step, and the
-- passage of each centre or missing pin that a step comes to. Assumes nothing.
use Rattle.std.proofs.Math.Path.{◌≡◌, refl, subst}
use Rattle.std.proofs.Common.{sym, ap, ◌∙◌, inl, inr}
use Rattle.std.specs.Prelude.{◌⊎◌, Bool, not, ◌&&◌}
use Rattle.std.proofs.Math.Bool.{true, false}
use mathlib.Core.List.{List, [], ◌∷◌, ◌++◌, map}
use Rattle.std.proofs.Math.Option.{some}
use Prim.Native.Nat.{ℕ, ◌+◌, ◌*◌, ◌/◌, ◌%◌, ◌≤◌, ◌<◌}
use native.Mathlib.Omega.{arith}
use Rattle.std.proofs.Math.Dec.{T, eqb, eqb→eq}
use Rattle.sums.specs.Counting.{when, only, total, count}
use Rattle.sums.specs.Tests.{and_left, and_right, and_both, so, so-not}
use Rattle.sums.specs.Sums.{when-add, when-le, when-and, when-implies}
use Rattle.sums.specs.Totals.{total-add, total-le, total-append, total-when, total-map}
use Rattle.flow.specs.Network.{times, Chain as NetChain, stop, step}
use Rattle.flow.specs.Walk.{Walk, Fits, carried, started}
use Rattle.model.specs.Job.{Job, array_fits}
use Rattle.model.specs.Links.{north, east, south, west, PlaceKind, pin, missing, centre, nowhere, side, is_missing_kind, Place, at, the_outside, is_place, is_entered, same_place, same_link, Step, head, may, limit, pass}
use Rattle.model.specs.Length.{is_side, wire_length}
use Rattle.model.specs.Near.{spot, entry_of, exit_of, entry, exit, size}
use Rattle.model.specs.Route.{Chain, Route, uses, visits, Together}
use Rattle.model.proofs.Listed.{may-leaves, may-enters}
use Rattle.model.proofs.Same.{same_place_lem, same-link}
use Rattle.channel.specs.Map.{code_of, counts_twice, EndsAt}
use Rattle.channel.specs.Map.{spots, darts, row_of, column_of, rev, step_of, is_link_dart, is_pass_dart, passed_of, cap, free, is_start, want, outside}
use Rattle.channel.specs.Map.Darts.{cell_row, cell-column}
use Rattle.channel.specs.Map.Steps.{dart_of, place-pass, pass-ends}
use Rattle.channel.specs.Map.Lengths.{dart_length, link-length, pass-length}
use Rattle.channel.specs.Map.Network.{net}
use Rattle.channel.specs.Map.Limits.{not-free-limited}
use Rattle.channel.specs.Map.Taken.{may-dart, step-tail, step-head}
use Rattle.channel.specs.Map.Spots.{held-grid}
use Rattle.channel.specs.Map.Sums.{start-at}

-- the dart from a place's entry to its exit
abbrev passage_of : Place → ℕ
passage_of x = 8 * entry x + 4

-- a place that does not count twice has one spot
once-spot : (k : PlaceKind) (r c : ℕ) → T (not (counts_twice k)) → entry_of k r c ≡ exit_of k r c
unfolding entry_of exit_of counts_twice
once-spot pin r c t = refl
once-spot missing r c t = absurd t
once-spot centre r c t = absurd t
once-spot PlaceKind.outside r c t = refl
once-spot nowhere r c t = refl
once-spot (side d) r c t = refl

module _ (J : Job) where
  -- the passage of a place that counts twice
  abbrev passages : Place → List ℕ
  passages x = only (counts_twice x.kind) (passage_of x ∷ [])

  unfoldable route_darts : List Step → List ℕ
  route_darts [] = []
  route_darts (s ∷ ss) = dart_of s ∷ (passages (head J s) ++ route_darts ss)

  -- what counts twice has a passing limit
  twice-limit : (k : PlaceKind) (r c : ℕ) → T (counts_twice k) → (n : ℕ) × (pass J (at k r c) ≡ some n)
  unfolding counts_twice
  twice-limit pin r c t = absurd t
  twice-limit missing r c t = (_, refl)
  twice-limit centre r c t = (_, refl)
  twice-limit PlaceKind.outside r c t = absurd t
  twice-limit nowhere r c t = absurd t
  twice-limit (side d) r c t = absurd t

  -- what counts twice and may be entered is a place
  twice-place : (k : PlaceKind) (r c : ℕ) → T (counts_twice k) → T (is_entered J (at k r c)) → T (is_place J (at k r c))
  unfolding counts_twice
  twice-place pin r c t e = absurd t
  twice-place missing r c t e = e
  twice-place centre r c t e = e
  twice-place PlaceKind.outside r c t e = absurd t
  twice-place nowhere r c t e = absurd t
  twice-place (side d) r c t e = absurd t

  passed-limit : (d : ℕ) → (n : ℕ) × (pass J (passed_of d) ≡ some n)
  unfolding passed_of
  passed-limit d = by (eqb (code_of (d % 64)) 5)
    where
      by : (b : Bool) → (n : ℕ) × (pass J (at (elim b [ true ↦ centre | false ↦ missing ]) (row_of (d / 64)) (column_of (d / 64))) ≡ some n)
      by true = (_, refl)
      by false = (_, refl)

module _ (J : Job) (fits : T (array_fits J.rows J.columns)) where
  -- ---- the walk of a route

  -- the darts lead from u to the outside
  abbrev Leads : List ℕ → ℕ → Type 0
  Leads ds u = (v : ℕ) × NetChain (net J) ds u v × T (outside J v)

  -- u is where a route at the place x stands
  abbrev StandsAt : Place → ℕ → Type 0
  StandsAt x u = (T (is_place J x) × (exit x ≡ u)) ⊎ ((x ≡ the_outside) × T (outside J u))

  leads-step : {ds : List ℕ} {u : ℕ} (d : ℕ) → d < darts → d / 8 ≡ u → Leads ds (rev d / 8) → Leads (d ∷ ds) u
  unfolding net
  leads-step d l e (v, c, o) = (v, step l e c, o)

  -- on from the entry of a place, by its passage if it has one
  leads-on : (x : Place) (ds : List ℕ) (u : ℕ) → T (is_place J x) → entry x ≡ u → ((w : ℕ) → exit x ≡ w → Leads ds w) → Leads (passages J x ++ ds) u
  leads-on x ds u t e r = by (counts_twice x.kind) refl
    where
      by : (b : Bool) → counts_twice x.kind ≡ b → Leads (only b (passage_of x ∷ []) ++ ds) u
      by true q =
          let (n, p) = twice-limit J x.kind x.row x.column (so q) in
          let (l, v, f) = place-pass J fits x t n p in
          leads-step (passage_of x) l (omega arith) (r (rev (passage_of x) / 8) (ap exit (sym f) ∙ (pass-ends (passage_of x) l v).1))
      by false q = r u (sym (once-spot x.kind x.row x.column (so-not q)) ∙ e)

  chain-leads : (x : Place) (ss : List Step) (u : ℕ) → Chain J x ss → StandsAt x u → Leads (route_darts J ss) u
  unfolding route_darts counts_twice EndsAt
  chain-leads x [] u c (inl (t, e)) = absurd (subst (λ (y : Place). T (is_place J y)) c t)
  chain-leads x [] u c (inr (e, o)) = (u, stop refl, o)
  chain-leads x (s ∷ ss) u c (inr (e, o)) = absurd (subst (λ (y : Place). T (is_place J y)) (c.0 ∙ e) (may-leaves J s c.1))
  chain-leads x (s ∷ ss) u c (inl (t, e)) =
      leads-step (dart_of s) (may-dart J fits s c.1).0 (step-tail J fits s c.1 ∙ (ap exit c.0 ∙ e))
      (by (λ v. chain-leads (head J s) ss v c.2) (step-head J fits s c.1))
    where
      w : ℕ
      w = rev (dart_of s) / 8

      by : ((v : ℕ) → StandsAt (head J s) v → Leads (route_darts J ss) v)
          → EndsAt J (head J s) w → Leads (passages J (head J s) ++ route_darts J ss) w
      by r (inl (p, f)) = leads-on (head J s) (route_darts J ss) w p f (λ v g. r v (inl (p, g)))
      by r (inr (f, o)) =
          subst (λ (b : Bool). Leads (only b (passage_of (head J s) ∷ []) ++ route_darts J ss) w) (ap (λ (y : Place). counts_twice y.kind) (sym f))
          (r w (inr (f, o)))

  pub route-walk : Route J → Walk (net J)
  unfolding net exit_of spots
  route-walk p =
      let x = at pin p.row p.column in
      let (v, c, o) = chain-leads x p.steps (exit x) p.chain (inl (p.chosen, refl)) in
      record {
        from = exit x;
        to = v;
        darts = route_darts J p.steps;
        from< = omega (arith, held-grid J fits pin p.row p.column p.chosen);
        chain = c;
        ends = o;
      }

  pub route-from : (p : Route J) → (route-walk p).from ≡ exit (at pin p.row p.column)
  unfolding route-walk
  route-from p = refl

  -- ---- its limits

  -- the step of a link dart may be taken; a passage leads through a place
  abbrev takes : ℕ → Bool
  takes d = is_link_dart d && may J (step_of d)

  abbrev leads_through : ℕ → Bool
  leads_through d = is_pass_dart d && is_place J (passed_of d)

  step-uses : (s : Step) (d : ℕ) → T (may J s) → when (eqb (dart_of s) d) 1 ≤ when (takes d) (when (same_link (step_of d).link s.link) 1)
  step-uses s d m =
      omega (
        arith,
        when-and (takes d) (same_link (step_of d).link s.link) 1,
        when-implies (eqb (dart_of s) d) (takes d && same_link (step_of d).link s.link) 1
            (λ t. subst (λ (y : ℕ). T (takes y && same_link (step_of y).link s.link)) (eqb→eq (dart_of s) d t) same),
      )
    where
      same : T (takes (dart_of s) && same_link (step_of (dart_of s)).link s.link)
      same =
          let (l, k, q) = may-dart J fits s m in
          and_both (takes (dart_of s)) _ (and_both (is_link_dart (dart_of s)) _ k (rw q m)) (rw q (same-link s.link))

  step-visits : (s : Step) (d : ℕ) → T (may J s) → times (passages J (head J s)) d ≤ when (leads_through d) (when (same_place (passed_of d) (head J s)) 1)
  unfolding total
  step-visits s d m = by (counts_twice x.kind) refl
    where
      x : Place
      x = head J s

      through : T (counts_twice x.kind) → T (leads_through (passage_of x) && same_place (passed_of (passage_of x)) x)
      through t =
          let p : T (is_place J x) = twice-place J x.kind x.row x.column t (may-enters J s m) in
          let (n, z) = twice-limit J x.kind x.row x.column t in
          let (l, k, f) = place-pass J fits x p n z in
          and_both (leads_through (passage_of x)) _ (and_both (is_pass_dart (passage_of x)) _ k (rw f p)) (rw f (same_place_lem x))

      by : (b : Bool) → counts_twice x.kind ≡ b → times (only b (passage_of x ∷ [])) d ≤ when (leads_through d) (when (same_place (passed_of d) x) 1)
      by true q =
          omega (
            arith,
            when-and (leads_through d) (same_place (passed_of d) x) 1,
            when-implies (eqb (passage_of x) d) (leads_through d && same_place (passed_of d) x) 1
                (λ t. subst (λ (y : ℕ). T (leads_through y && same_place (passed_of y) x)) (eqb→eq (passage_of x) d t) (through (so q))),
          )
      by false q = omega arith

  chain-times : (x : Place) (ss : List Step) (d : ℕ) → Chain J x ss
      → times (route_darts J ss) d ≤ when (takes d) (uses (step_of d).link ss) + when (leads_through d) (visits J (passed_of d) ss)
  unfolding route_darts total
  chain-times x [] d c = omega arith
  chain-times x (s ∷ ss) d c =
      omega (
        arith,
        step-uses s d c.1,
        step-visits s d c.1,
        chain-times (head J s) ss d c.2,
        total-append (passages J (head J s)) (route_darts J ss) (λ e. when (eqb e d) 1),
        when-add (takes d) (when (same_link (step_of d).link s.link) 1) (uses (step_of d).link ss),
        when-add (leads_through d) (when (same_place (passed_of d) (head J s)) 1) (visits J (passed_of d) ss),
      )

  -- together they keep the limit of each dart
  module _ (rs : List (Route J)) (F : Together J rs) where
    used_le : (d : ℕ) → T (not (free J d)) → T (takes d) → total rs (λ p. uses (step_of d).link p.steps) ≤ size (limit J (step_of d).link)
    used_le d n t =
        let (k, e) = not-free-limited J d n (and_left (is_link_dart d) (may J (step_of d)) t) (and_right (is_link_dart d) (may J (step_of d)) t) in
        omega (arith, F.links (step_of d).link k e, ap size e)

    visited-le : (d : ℕ) → total rs (λ p. visits J (passed_of d) p.steps) ≤ size (pass J (passed_of d))
    visited-le d = let (k, e) = passed-limit J d in omega (arith, F.passing (passed_of d) k e, ap size e)

    walk-times : (d : ℕ) (p : Route J)
        → times (route-walk p).darts d ≤ when (takes d) (uses (step_of d).link p.steps) + when (leads_through d) (visits J (passed_of d) p.steps)
    unfolding route-walk
    walk-times d p = chain-times (at pin p.row p.column) p.steps d p.chain

    carried-le : (d : ℕ) → d < darts → T (not (free J d)) → carried (net J) (map route-walk rs) d ≤ cap J d
    unfolding cap
    carried-le d l n =
        omega (
          arith,
          total-map route-walk rs (λ w. times w.darts d),
          total-le rs _ _ (walk-times d),
          total-add rs (λ p. when (takes d) (uses (step_of d).link p.steps)) (λ p. when (leads_through d) (visits J (passed_of d) p.steps)),
          total-when (takes d) rs (λ p. uses (step_of d).link p.steps),
          total-when (leads_through d) rs (λ p. visits J (passed_of d) p.steps),
          when-le (takes d) _ (size (limit J (step_of d).link)) (used_le d n),
          when-le (leads_through d) _ (size (pass J (passed_of d))) (λ t. visited-le d),
        )

    -- and start once at a chosen pin
    abbrev begins : ℕ → Route J → Bool
    begins u p = same_place (at pin (row_of (u / 8)) (column_of (u / 8))) (at pin p.row p.column)

    walk-starts : (u : ℕ) (p : Route J) → when (eqb (route-walk p).from u) 1 ≤ when (is_start J u) (when (begins u p) 1)
    unfolding exit_of
    walk-starts u p =
        omega (
          arith,
          when-and (is_start J u) (begins u p) 1,
          when-implies (eqb (route-walk p).from u) (is_start J u && begins u p) 1
              (λ t. subst (λ (y : ℕ). T (is_start J y && begins y p)) (sym (route-from p) ∙ eqb→eq (route-walk p).from u t) begun-here),
        )
      where
        y : ℕ
        y = spot 1 p.row p.column

        begun-here : T (is_start J y && begins y p)
        begun-here =
            let (a, b) = held-grid J fits pin p.row p.column p.chosen in
            let e : y / 8 ≡ 41 + 40 * p.row + p.column = omega arith in
            and_both (is_start J y) (begins y p) (rw (start-at J fits p.row p.column a b) p.chosen)
            (rw (cell_row (y / 8) p.row p.column e b, cell-column (y / 8) p.row p.column e b) (same_place_lem (at pin p.row p.column)))

    started-le : (u : ℕ) → u < spots → started (net J) (map route-walk rs) u ≤ want J u
    unfolding want
    started-le u l =
        omega (
          arith,
          total-map route-walk rs (λ w. when (eqb w.from u) 1),
          total-le rs _ _ (walk-starts u),
          total-when (is_start J u) rs (λ p. when (begins u p) 1),
          when-le (is_start J u) _ 1 (λ t. F.pins (row_of (u / 8)) (column_of (u / 8))),
        )

  pub routes-fit : (rs : List (Route J)) → Together J rs → Fits (net J) (map route-walk rs)
  unfolding net
  routes-fit rs F = record { within = carried-le rs F; wanted = started-le rs F }

  -- ---- what it costs

  step-length : (s : Step) → T (may J s) → dart_length (dart_of s) ≡ 10 * when (is_side s.link) 1
  step-length s m =
      let (l, t, q) = may-dart J fits s m in
      link-length (dart_of s) t ∙ ap (λ (x : Step). 10 * when (is_side x.link) 1) q

  passage-length : (x : Place) → T (counts_twice x.kind) → T (is_place J x) → dart_length (passage_of x) ≡ 14 * when (is_missing_kind x) 1
  passage-length x t p =
      let (n, z) = twice-limit J x.kind x.row x.column t in
      let (l, u, q) = place-pass J fits x p n z in
      pass-length (passage_of x) u ∙ ap (λ (y : Place). 14 * when (is_missing_kind y) 1) q

  -- a missing pin counts twice
  missing-twice : (k : PlaceKind) (r c : ℕ) → counts_twice k ≡ false → when (is_missing_kind (at k r c)) 1 ≡ 0
  unfolding counts_twice
  missing-twice pin r c e = refl
  missing-twice missing r c e = let z : ◌≡◌ {A = Bool} true false = e in absurd (subst T z tt)
  missing-twice centre r c e = refl
  missing-twice PlaceKind.outside r c e = refl
  missing-twice nowhere r c e = refl
  missing-twice (side north) r c e = refl
  missing-twice (side east) r c e = refl
  missing-twice (side south) r c e = refl
  missing-twice (side west) r c e = refl

  passages-length : (s : Step) → T (may J s) → total (passages J (head J s)) dart_length ≡ 14 * when (is_missing_kind (head J s)) 1
  unfolding total
  passages-length s m = by (counts_twice x.kind) refl
    where
      x : Place
      x = head J s

      by : (b : Bool) → counts_twice x.kind ≡ b → total (only b (passage_of x ∷ [])) dart_length ≡ 14 * when (is_missing_kind x) 1
      by true q = omega (arith, passage-length x (so q) (twice-place J x.kind x.row x.column (so q) (may-enters J s m)))
      by false q = omega (arith, missing-twice x.kind x.row x.column q)

  chain_length : (x : Place) (ss : List Step) → Chain J x ss → total (route_darts J ss) dart_length ≡ wire_length J ss
  unfolding route_darts total
  chain_length x [] c = refl
  chain_length x (s ∷ ss) c =
      omega (
        arith,
        step-length s c.1,
        passages-length s c.1,
        chain_length (head J s) ss c.2,
        total-append (passages J (head J s)) (route_darts J ss) dart_length,
      )

  -- A walk costs the length of its route.
  pub route-length : (p : Route J) → total (route-walk p).darts dart_length ≡ wire_length J p.steps
  unfolding route-walk
  route-length p = chain_length (at pin p.row p.column) p.steps p.chain

  -- ---- what its darts carry

  step-takes : (s : Step) (d : ℕ) → T (may J s) → when (eqb (dart_of s) d) 1 ≤ when (is_link_dart d) (when (eqb (dart_of s) d) 1)
  step-takes s d m =
      omega (
        arith,
        when-and (is_link_dart d) (eqb (dart_of s) d) 1,
        when-implies (eqb (dart_of s) d) (is_link_dart d && eqb (dart_of s) d) 1
            (λ t. and_both (is_link_dart d) (eqb (dart_of s) d) (subst (λ (y : ℕ). T (is_link_dart y)) (eqb→eq (dart_of s) d t) (may-dart J fits s m).1) t),
      )

  chain-takes : (x : Place) (ss : List Step) (d : ℕ) → Chain J x ss
      → times (route_darts J ss) d ≤ when (is_link_dart d) (count ss (λ s. eqb (dart_of s) d)) + when (leads_through d) (visits J (passed_of d) ss)
  unfolding route_darts total
  chain-takes x [] d c = omega arith
  chain-takes x (s ∷ ss) d c =
      omega (
        arith,
        step-takes s d c.1,
        step-visits s d c.1,
        chain-takes (head J s) ss d c.2,
        total-append (passages J (head J s)) (route_darts J ss) (λ e. when (eqb e d) 1),
        when-add (is_link_dart d) (when (eqb (dart_of s) d) 1) (count ss (λ s. eqb (dart_of s) d)),
        when-add (leads_through d) (when (same_place (passed_of d) (head J s)) 1) (visits J (passed_of d) ss),
      )

  -- A walk takes a dart only as often as its route takes the dart's step, or comes to the place that it passes.
  pub route-takes : (p : Route J) (d : ℕ) → times (route-walk p).darts d
      ≤ when (is_link_dart d) (count p.steps (λ s. eqb (dart_of s) d)) + when (is_pass_dart d && is_place J (passed_of d)) (visits J (passed_of d) p.steps)
  unfolding route-walk
  route-takes p d = chain-takes (at pin p.row p.column) p.steps d p.chain
