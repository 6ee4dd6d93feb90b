-- Each move of the search is a residual move of the flow, and a set that is closed under the moves is closed under all residual moves: where a move into
-- an entry or out of an exit is held back, since wires go the other way on the link, two moves that take such a wire back lead to the same spot. A move
-- from a place leads to a place or outside. Assumes nothing.
use Rattle.std.specs.Prelude.{◌≡◌, ◌⊎◌, Bool, ◌&&◌, ◌||◌, List, eqb, ltb}
use Rattle.std.proofs.Math.Path.{refl, sym, ap}
use Rattle.std.proofs.Common.{subst, ◌∙◌, inr, eq-zero-or-pos, ltb→lt, lt→ltb}
use Rattle.std.proofs.Math.Logic.{inl}
use Rattle.std.proofs.Math.Bool.{true, false}
use Rattle.std.proofs.Math.Option.{none, some}
use Prim.Native.Nat.{ℕ, zero, suc, ◌+◌, ◌*◌, ◌/◌, ◌%◌, ◌<◌}
use native.Mathlib.Omega.{arith}
use Rattle.std.proofs.Math.Dec.{T}
use Rattle.sums.specs.Counting.{when, total}
use Rattle.sums.specs.Tests.{and_left, and_right, and_both, or-by}
use Rattle.sums.specs.Sums.{when-so, when-none, when-some}
use Rattle.sums.specs.Totals.{total-none, total-has}
use Rattle.flow.specs.Residual.{Residual, undo, room, unlimited, Closed}
use Rattle.model.specs.Job.{Job, array_fits, centre_limit, north_limit, west_limit, tile_d, extra_limit}
use Rattle.model.specs.Links.{Compass, north, east, south, west, pin, missing, Place, at, the_outside, is_place, LinkKind, north_side, west_side, corner, spoke, leg, direct, link, behind_of, ahead_of, limit_of, Step, turn, head, tail, may, limit, pass, around}
use Rattle.model.specs.Near.{size, entry_of, exit_of, entry, exit}
use Rattle.model.specs.Loads.{arrivals, departures, Feasible}
use Rattle.model.specs.Record.{load}
use Rattle.model.proofs.Listed.{step-listed, may-leaves, may-enters}
use Rattle.channel.specs.Map.{code_of}
use Rattle.channel.specs.Map.{darts, in_grid, row_of, column_of, owner_cell, rev, step_of, is_link_dart, is_pass_dart, passed_of, cap, free, opposed, moves, view, outside}
use Rattle.channel.specs.Map.Back.{rev<, rev-rev}
use Rattle.channel.specs.Map.Steps.{link-tail, link-head, place-pass, pass-ends, OnGrid, step-grid, dart_of, dart-step}
use Rattle.model.specs.Near.{IsSpot}
use Rattle.channel.specs.Map.Limits.{free-link, free-may, free-unlimited}
use Rattle.channel.specs.Map.Carried.{turn-turn, loaded-may, passed-le}
use Rattle.channel.specs.Map.Network.{net}

pub move-residual : (J : Job) (rec : List ℕ) (d : ℕ) → T (moves J rec d) → Residual (net J) (view rec) d
unfolding net moves
move-residual J rec d =
    or-by (ltb (view rec d) (cap J d)) _ (λ t. room (ltb→lt (view rec d) (cap J d) t))
    (or-by (ltb 0 (view rec (rev d))) _ (λ t. undo (ltb→lt 0 (view rec (rev d)) t))
    (λ t. unlimited (and_left (free J d) (eqb (opposed rec d) 0) t)))

or_left : (a b : Bool) → T a → T (a || b)
or_left true b t = tt
or_left false b t = absurd t

or_right : (a b : Bool) → T b → T (a || b)
or_right true b t = tt
or_right false b t = t

-- ---- links without limit

module _ (J : Job) where
  -- one end has a passing limit, and the other no entry apart from its exit
  data Ends (x y : Place) : Type 0 where
    ends : (k : ℕ) → pass J x ≡ some k → entry y ≡ exit y → Ends x y

  ahead-plain : (d : Compass) (r c : ℕ) → entry (ahead_of J (leg d) r c) ≡ exit (ahead_of J (leg d) r c)
  unfolding ahead_of entry_of exit_of
  ahead-plain north zero c = refl
  ahead-plain north (suc r) c = refl
  ahead-plain east r c = refl
  ahead-plain south r zero = refl
  ahead-plain south r (suc c) = refl
  ahead-plain west zero c = refl
  ahead-plain west (suc r) zero = refl
  ahead-plain west (suc r) (suc c) = refl

  -- so it is with a link without limit
  free-ends : (s : Step) → ((k : ℕ) → limit J s.link ≡ some k → ⊥) → Ends (head J s) (tail J s) ⊎ Ends (tail J s) (head J s)
  unfolding head behind_of ahead_of limit_of entry_of exit_of
  free-ends s = by s.link.kind s.link.row s.link.column s.forth
    where
      passed : (t : Bool) (r c : ℕ) → ((k : ℕ) → elim t [ true ↦ none | false ↦ some 1 ] ≡ some k → ⊥)
          → pass J (elim t [ true ↦ at missing r c | false ↦ at pin r c ]) ≡ some (extra_limit J)
      passed true r c n = refl
      passed false r c n = absurd (n 1 refl)

      by : (k : LinkKind) (r c : ℕ) (b : Bool) → ((m : ℕ) → limit_of J k r c ≡ some m → ⊥)
          → Ends (head J (record { link = link k r c; forth = b })) (tail J (record { link = link k r c; forth = b }))
          ⊎ Ends (tail J (record { link = link k r c; forth = b })) (head J (record { link = link k r c; forth = b }))
      by north_side r c b n = absurd (n (north_limit J r c) refl)
      by west_side r c b n = absurd (n (west_limit J r c) refl)
      by (corner d) r c b n = absurd (n (J.O / 2) refl)
      by (spoke d) r c true n = inr (ends (centre_limit J.O (tile_d J r c)) refl refl)
      by (spoke d) r c false n = inl (ends (centre_limit J.O (tile_d J r c)) refl refl)
      by (leg d) r c true n = inr (ends (extra_limit J) (passed (eqb (J.mark r c) 2) r c n) (ahead-plain d r c))
      by direct r c b n = absurd (n 1 refl)
      by (leg d) r c false n = inl (ends (extra_limit J) (passed (eqb (J.mark r c) 2) r c n) (ahead-plain d r c))

  -- ---- loaded darts

  -- a dart along a link that may be taken, or through a place
  pub data Leads (d : ℕ) : Type 0 where
    along : T (is_link_dart d) → T (may J (step_of d)) → Leads d
    through : T (is_pass_dart d) → T (is_place J (passed_of d)) → Leads d

  pub cap-leads : (d : ℕ) → 0 < cap J d → Leads d
  unfolding cap
  cap-leads d p = by (eq-zero-or-pos (when (is_link_dart d && may J (step_of d)) (size (limit J (step_of d).link))))
    where
      by : (when (is_link_dart d && may J (step_of d)) (size (limit J (step_of d).link)) ≡ 0)
          ⊎ (0 < when (is_link_dart d && may J (step_of d)) (size (limit J (step_of d).link))) → Leads d
      by (inl e) =
          let t = (when-some (is_pass_dart d && is_place J (passed_of d)) (size (pass J (passed_of d))) (omega arith)).0 in
          through (and_left (is_pass_dart d) (is_place J (passed_of d)) t) (and_right (is_pass_dart d) (is_place J (passed_of d)) t)
      by (inr q) =
          let t = (when-some (is_link_dart d && may J (step_of d)) (size (limit J (step_of d).link)) q).0 in
          along (and_left (is_link_dart d) (may J (step_of d)) t) (and_right (is_link_dart d) (may J (step_of d)) t)

-- two loaded darts; taken back one after the other they lead from the tail of d to its head
pub record Detour (rec : List ℕ) (d : ℕ) : Type 0 where
  pub first : ℕ
  pub second : ℕ
  pub first< : first < darts
  pub second< : second < darts
  pub first-loaded : 0 < view rec first
  pub second-loaded : 0 < view rec second
  pub starts : rev first / 8 ≡ d / 8
  pub meets : first / 8 ≡ rev second / 8
  pub leads : second / 8 ≡ rev d / 8

module _ (J : Job) (fits : T (array_fits J.rows J.columns)) (rec : List ℕ) (feasible : Feasible J (load rec)) where
  view-leads : (d : ℕ) → 0 < view rec d → Leads J d
  unfolding view passed_of
  view-leads d p = by (eq-zero-or-pos (when (is_link_dart d) (load rec (step_of d))))
    where
      by : (when (is_link_dart d) (load rec (step_of d)) ≡ 0) ⊎ (0 < when (is_link_dart d) (load rec (step_of d))) → Leads J d
      by (inl e) =
          let (t, q) = when-some (is_pass_dart d) (arrivals (load rec) (passed_of d)) (omega arith) in
          through t
          (when-some (is_place J (passed_of d)) (size (pass J (passed_of d)))
          (omega (arith, passed-le feasible (eqb (code_of (d % 64)) 5) (row_of (d / 64)) (column_of (d / 64))))).0
      by (inr q) = let (t, h) = when-some (is_link_dart d) (load rec (step_of d)) q in along t (loaded-may feasible (step_of d) h)

  -- ---- where darts lead

  -- a link dart to a place leads to its entry
  link-entry : (d : ℕ) → d < darts → T (is_link_dart d) → T (may J (step_of d)) → T (is_place J (head J (step_of d))) → rev d / 8 ≡ entry (head J (step_of d))
  link-entry d l t m h = by (link-head J fits d l t m)
    where
      by : (T (is_place J (head J (step_of d))) × (entry (head J (step_of d)) ≡ rev d / 8)) ⊎ ((head J (step_of d) ≡ the_outside) × T (outside J (rev d / 8)))
          → rev d / 8 ≡ entry (head J (step_of d))
      by (inl (p, e)) = sym e
      by (inr (e, o)) = absurd (subst (λ (x : Place). T (is_place J x)) e h)

  leads-to : (d : ℕ) → d < darts → Leads J d → IsSpot J (rev d / 8) ⊎ T (outside J (rev d / 8))
  leads-to d l (along t m) = by (link-head J fits d l t m)
    where
      by : (T (is_place J (head J (step_of d))) × (entry (head J (step_of d)) ≡ rev d / 8)) ⊎ ((head J (step_of d) ≡ the_outside) × T (outside J (rev d / 8)))
          → IsSpot J (rev d / 8) ⊎ T (outside J (rev d / 8))
      by (inl (p, e)) = inl (head J (step_of d), p, inl (sym e))
      by (inr (e, o)) = inr o
  leads-to d l (through t p) = inl (passed_of d, p, inr (sym (pass-ends d l t).1))

  leads-from : (d : ℕ) → d < darts → Leads J d → IsSpot J (d / 8)
  leads-from d l (along t m) = (tail J (step_of d), may-leaves J (step_of d) m, inr (sym (link-tail J fits d l t m).0))
  leads-from d l (through t p) = (passed_of d, p, inl (sym (pass-ends d l t).0))

  pub move-spot : (d : ℕ) → d < darts → IsSpot J (d / 8) → T (moves J rec d) → IsSpot J (rev d / 8) ⊎ T (outside J (rev d / 8))
  unfolding net
  move-spot d l x t = by (move-residual J rec d t)
    where
      by : Residual (net J) (view rec) d → IsSpot J (rev d / 8) ⊎ T (outside J (rev d / 8))
      by (undo p) = inl (leads-from (rev d) (rev< d l) (view-leads (rev d) p))
      by (room p) = leads-to d l (cap-leads J d (omega arith))
      by (unlimited f) = leads-to d l (along (free-link J d f) (free-may J d f))

  -- ---- the detours

  -- a loaded dart from the entry to the exit of a place that something comes to
  crossing : (x : Place) → T (is_place J x) → (k : ℕ) → pass J x ≡ some k → 0 < arrivals (load rec) x
      → (b : ℕ) × (b < darts) × (0 < view rec b) × (b / 8 ≡ entry x) × (rev b / 8 ≡ exit x)
  unfolding view
  crossing x h k e p =
      let (l, u, q) = place-pass J fits x h k e in
      let d = 8 * entry x + 4 in
      let (a, b) = pass-ends d l u in (
        d,
        l,
        omega (arith, when-so (is_pass_dart d) (arrivals (load rec) (passed_of d)) u, ap (arrivals (load rec)) q),
        sym a ∙ ap entry q,
        sym b ∙ ap exit q,
      )

  -- along a link on which wires go the other way
  module _ (d : ℕ) (l : d < darts) (t : T (is_link_dart d)) (m : T (may J (step_of d))) (g : T (in_grid (owner_cell d))) (p : 0 < load rec (turn (step_of d))) where
    abbrev s : Step
    s = step_of d

    abbrev e : ℕ
    e = dart_of (turn s)

    on : OnGrid (turn s)
    on = record { row< = (step-grid d g).row<; column< = (step-grid d g).column< }

    back-may : T (may J (turn s))
    back-may = loaded-may feasible (turn s) p

    tail-place : T (is_place J (tail J s))
    tail-place = may-leaves J s m

    head-place : T (is_place J (head J s))
    head-place = subst (λ (z : Step). T (is_place J (head J z))) (turn-turn s) (may-leaves J (turn s) back-may)

    -- the dart e carries them, from the exit of the head to the entry of the tail
    e-step : step_of e ≡ turn s
    e-step = (dart-step (turn s) on).2

    e< : e < darts
    e< = (dart-step (turn s) on).0

    e-link : T (is_link_dart e)
    e-link = (dart-step (turn s) on).1

    e-may : T (may J (step_of e))
    e-may = subst (λ (z : Step). T (may J z)) (sym e-step) back-may

    loaded : 0 < view rec e
    unfolding view
    loaded = omega (arith, when-so (is_link_dart e) (load rec (step_of e)) e-link, ap (load rec) e-step)

    e-from : e / 8 ≡ exit (head J s)
    e-from =
        sym (link-tail J fits e e< e-link e-may).0 ∙ (ap (λ (z : Step). exit (tail J z)) e-step ∙ ap (λ (z : Step). exit (head J z)) (turn-turn s))

    e-to : rev e / 8 ≡ entry (tail J s)
    e-to =
        link-entry e e< e-link e-may (subst (λ (z : Step). T (is_place J (head J z))) (sym e-step) tail-place)
        ∙ ap (λ (z : Step). entry (head J z)) e-step

    d-from : exit (tail J s) ≡ d / 8
    d-from = (link-tail J fits d l t m).0

    d-to : rev d / 8 ≡ entry (head J s)
    d-to = link-entry d l t m head-place

    -- so something comes to both ends
    tail-arrivals : 0 < arrivals (load rec) (tail J s)
    unfolding arrivals
    tail-arrivals = omega (arith, total-has (around (tail J s)) (λ z. load rec (turn z)) (step-listed J s tail-place))

    head-arrivals : 0 < arrivals (load rec) (head J s)
    unfolding departures
    head-arrivals =
        omega (
          arith,
          feasible.balance (head J s) head-place (may-enters J s m),
          total-has (around (tail J (turn s))) (load rec) (step-listed J (turn s) (may-leaves J (turn s) back-may)),
          ap (λ (z : Step). total (around (head J z)) (load rec)) (turn-turn s),
        )

    detoured : Ends J (head J s) (tail J s) ⊎ Ends J (tail J s) (head J s) → Detour rec d
    detoured (inl (ends k q plain)) =
        let (b, b<, v, x, y) = crossing (head J s) head-place k q head-arrivals in
        record {
          first = e;
          second = b;
          first< = e<;
          second< = b<;
          first-loaded = loaded;
          second-loaded = v;
          starts = e-to ∙ (plain ∙ d-from);
          meets = e-from ∙ sym y;
          leads = x ∙ sym d-to;
        }
    detoured (inr (ends k q plain)) =
        let (b, b<, v, x, y) = crossing (tail J s) tail-place k q tail-arrivals in
        record {
          first = b;
          second = e;
          first< = b<;
          second< = e<;
          first-loaded = v;
          second-loaded = loaded;
          starts = y ∙ d-from;
          meets = x ∙ sym e-to;
          leads = e-from ∙ (sym plain ∙ sym d-to);
        }

  -- Where a dart without limit is held back, since wires go the other way on its link, two moves that take such a wire back lead to the same spot.
  pub free-detour : (d : ℕ) → d < darts → T (free J d) → 0 < opposed rec d → Detour rec d
  free-detour d l f p =
      let (g, q) = when-some (in_grid (owner_cell d)) (load rec (turn (step_of d))) (unfold opposed in p) in
      detoured d l (free-link J d f) (free-may J d f) g q (free-ends J (step_of d) (free-unlimited J d f))

-- where no link has a load, no dart has one
pub view-none : (rec : List ℕ) → ((s : Step) → load rec s ≡ 0) → (d : ℕ) → view rec d ≡ 0
unfolding view arrivals
view-none rec z d =
    omega (
      arith,
      when-none (is_link_dart d) (load rec (step_of d)) (λ t. z (step_of d)),
      when-none (is_pass_dart d) (arrivals (load rec) (passed_of d)) (λ t. total-none (around (passed_of d)) (λ s. load rec (turn s)) (λ s. z (turn s))),
    )

-- what a move is
pub undo-moves : (J : Job) (rec : List ℕ) (d : ℕ) → 0 < view rec (rev d) → T (moves J rec d)
unfolding moves
undo-moves J rec d p = or_right (ltb (view rec d) (cap J d)) _ (or_left (ltb 0 (view rec (rev d))) _ (lt→ltb 0 (view rec (rev d)) p))

pub room-moves : (J : Job) (rec : List ℕ) (d : ℕ) → view rec d < cap J d → T (moves J rec d)
unfolding moves
room-moves J rec d p = or_left (ltb (view rec d) (cap J d)) _ (lt→ltb (view rec d) (cap J d) p)

pub free-moves : (J : Job) (rec : List ℕ) (d : ℕ) → T (free J d) → opposed rec d ≡ 0 → T (moves J rec d)
unfolding moves
free-moves J rec d f e =
    or_right (ltb (view rec d) (cap J d)) _ (or_right (ltb 0 (view rec (rev d))) _ (and_both (free J d) (eqb (opposed rec d) 0) f (rw e tt)))

-- ---- sets closed under moves

module _ (J : Job) (fits : T (array_fits J.rows J.columns)) (rec : List ℕ) (feasible : Feasible J (load rec)) (S : ℕ → Bool)
    (closed : (d : ℕ) → d < darts → T (S (d / 8)) → T (moves J rec d) → T (S (rev d / 8))) where
  abbrev In : ℕ → Type 0
  In u = T (S u)

  -- a wire that goes along the dart e is taken back
  taken : (e : ℕ) → e < darts → 0 < view rec e → In (rev e / 8) → In (e / 8)
  taken e l p t =
      let back : rev (rev e) ≡ e = rev-rev e l in
      subst (λ (z : ℕ). In (z / 8)) back
      (closed (rev e) (rev< e l) t (undo-moves J rec (rev e) (subst (λ (z : ℕ). 0 < view rec z) (sym back) p)))

  freed : (d : ℕ) → d < darts → In (d / 8) → T (free J d) → In (rev d / 8)
  freed d l i f = by (eq-zero-or-pos (opposed rec d))
    where
      by : (opposed rec d ≡ 0) ⊎ (0 < opposed rec d) → In (rev d / 8)
      by (inl e) = closed d l i (free-moves J rec d f e)
      by (inr p) =
          let D : Detour rec d = free-detour J fits rec feasible d l f p in
          subst In D.leads
          (taken D.second D.second< D.second-loaded
          (subst In D.meets (taken D.first D.first< D.first-loaded (subst In (sym D.starts) i))))

  residual : (d : ℕ) → d < darts → In (d / 8) → Residual (net J) (view rec) d → In (rev d / 8)
  unfolding net
  residual d l t (undo p) = closed d l t (undo-moves J rec d p)
  residual d l t (room p) = closed d l t (room-moves J rec d p)
  residual d l t (unlimited f) = freed d l t f

  pub closed-residual : Closed (net J) (view rec) S
  unfolding net
  closed-residual = record { moves = residual }
