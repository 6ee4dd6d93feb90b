-- The geometry of the map, once for each dart: the slots of a place are the steps around it, a dart's step leads from the dart's spot to the spot of its
-- way back, and every step on the grid has one dart. Everything above derives from these laws. Assumes nothing.
use Rattle.std.proofs.Math.Path.{◌≡◌, subst}
use Rattle.std.specs.Prelude.{◌⊎◌, ℕ, suc, ◌+◌, ◌*◌, ◌/◌, ◌%◌, ◌≤◌, ◌<◌, eqb, leb, ltb}
use Rattle.std.proofs.Math.Option.{some}
use Rattle.std.proofs.Common.{zero-add, arith, leb→le, ltb→lt}
use Rattle.std.proofs.Math.Dec.{T}
use Rattle.std.proofs.Math.ListN.{get_elem?}
use Rattle.sums.specs.Tests.{and_left, and_right}
use Rattle.model.specs.Job.{Job, array_fits, in_range, is_pin, is_tile, is_open, is_chosen, is_missing}
use Rattle.model.specs.Links.{north, east, south, west, PlaceKind, pin, missing, centre, nowhere, side, Place, at, the_outside, is_place, holds}
use Rattle.model.specs.Links.{Step, head, tail, may, is_entered, pass_of, pass, around, around_of}
use Rattle.model.specs.Near.{entry_of, exit_of, entry, exit}
use Rattle.channel.specs.Map.{darts, rev, step_of, is_link_dart, is_pass_dart, passed_of, outside, EndsAt}
pub use Rattle.channel.specs.Map.Back.{Turned, stored-turned, link-stored}
pub use Rattle.channel.specs.Map.Darts.{OnGrid, step-grid, dart-step, step-dart, plain_back}
pub use Rattle.channel.specs.Map.{dart_of}
use Rattle.channel.specs.Map.Ends.{Leaves, leaves, arrives}
use Rattle.channel.specs.Map.Around.{slots_at, Slots, Takes, takes-pin, takes-legs, takes-spokes, takes-north, takes-east, takes-south, takes-west}
pub use Rattle.channel.specs.Map.Passes.{pass-ends}
use Rattle.channel.specs.Map.Passes.{pass-missing, pass-centre}

module _ (J : Job) (fits : T (array_fits J.rows J.columns)) where
  rows≤ : J.rows ≤ 40
  rows≤ = leb→le _ _ (and_right (leb 2 J.rows) (leb J.rows 40) (and_left (in_range 2 40 J.rows) (in_range 2 40 J.columns) fits))

  columns≤ : J.columns ≤ 40
  columns≤ = leb→le _ _ (and_right (leb 2 J.columns) (leb J.columns 40) (and_right (in_range 2 40 J.rows) (in_range 2 40 J.columns) fits))

  pin-in : (r c : ℕ) → T (is_pin J r c) → (r < 40) × (c < 40)
  pin-in r c t = (
    omega (arith, rows≤, ltb→lt r J.rows (and_left (ltb r J.rows) (ltb c J.columns) t)),
    omega (arith, columns≤, ltb→lt c J.columns (and_right (ltb r J.rows) (ltb c J.columns) t)),
  )

  tile-in : (r c : ℕ) → T (is_tile J r c) → (suc r < 40) × (suc c < 40)
  tile-in r c t = (
    omega (arith, rows≤, ltb→lt (suc r) J.rows (and_left (ltb (suc r) J.rows) (ltb (suc c) J.columns) t)),
    omega (arith, columns≤, ltb→lt (suc c) J.columns (and_right (ltb (suc r) J.rows) (ltb (suc c) J.columns) t)),
  )

  chosen-in : (r c : ℕ) → T (is_chosen J r c) → (r < 40) × (c < 40)
  unfolding is_chosen
  chosen-in r c t = pin-in r c (and_left (is_pin J r c) (eqb (J.mark r c) 1) t)

  missing-in : (r c : ℕ) → T (is_missing J r c) → (r < 40) × (c < 40)
  unfolding is_missing
  missing-in r c t = pin-in r c (and_left (is_pin J r c) (eqb (J.mark r c) 2) t)

  open_in : (r c : ℕ) → T (is_open J r c) → (suc r < 40) × (suc c < 40)
  unfolding is_open
  open_in r c t = tile-in r c (and_left (is_tile J r c) (eqb (J.state r c) 0) t)

  -- the slots of a place's exit, in the clockwise order, are the steps around it
  pub slot_step : (x : Place) → T (is_place J x) → (k : ℕ) (s : Step) → get_elem? (around x) k ≡ some s
      → (8 * exit x + k < darts) × T (is_link_dart (8 * exit x + k)) × (step_of (8 * exit x + k) ≡ s)
  unfolding exit_of
  slot_step x t k s e =
      let d = subst (λ (j : ℕ). Takes (exit x) j s) (zero-add k) (slots_at (takes x.kind x.row x.column t) k s e) in
      (d.range, d.linked, d.step)
    where
      takes : (k : PlaceKind) (r c : ℕ) → T (holds J k r c) → Slots (Takes (exit_of k r c)) 0 (around_of k r c)
      takes pin r c t = takes-pin r c (chosen-in r c t).0 (chosen-in r c t).1
      takes missing r c t = takes-legs r c (missing-in r c t).0 (missing-in r c t).1
      takes centre r c t = takes-spokes r c (omega (arith, open_in r c t)) (omega (arith, open_in r c t))
      takes PlaceKind.outside r c t = absurd t
      takes nowhere r c t = absurd t
      takes (side north) r c t = takes-north r c (open_in r c t).0 (open_in r c t).1
      takes (side east) r c t = takes-east r c (open_in r c t).0 (open_in r c t).1
      takes (side south) r c t = takes-south r c (open_in r c t).0 (open_in r c t).1
      takes (side west) r c t = takes-west r c (open_in r c t).0 (open_in r c t).1

  -- a link dart whose step may be taken leaves from the exit of the step's tail, by the step's slot
  pub link-tail : (d : ℕ) → d < darts → T (is_link_dart d) → T (may J (step_of d))
      → (exit (tail J (step_of d)) ≡ d / 8) × (get_elem? (around (tail J (step_of d))) (d % 8) ≡ some (step_of d))
  unfolding may
  link-tail d l t m =
      let s = step_of d in
      let n : T (is_place J (tail J s)) = and_left (is_place J (tail J s)) (is_entered J (head J s)) m in
      let e = subst (λ (z : ℕ). Leaves z s (tail J s)) (step-dart d l t) (leaves J s.link.kind s.forth s.link.row s.link.column n) in
      (e.spot, e.slot)

  -- and leads to the entry of the step's head, or outside
  pub link-head : (d : ℕ) → d < darts → T (is_link_dart d) → T (may J (step_of d))
      → (T (is_place J (head J (step_of d))) × (entry (head J (step_of d)) ≡ rev d / 8)) ⊎ ((head J (step_of d) ≡ the_outside) × T (outside J (rev d / 8)))
  unfolding may EndsAt
  link-head d l t m =
      let s = step_of d in
      let n : T (is_entered J (head J s)) = and_right (is_place J (tail J s)) (is_entered J (head J s)) m in
      let g = step-grid d (link-stored d t).1 in
      subst (λ (z : ℕ). EndsAt J (head J s) (rev z / 8)) (step-dart d l t)
      (arrives J columns≤ s.link.kind s.forth s.link.row s.link.column g.row< g.column< n)

  -- a place with a passing limit has a dart from its entry to its exit
  pub place-pass : (x : Place) → T (is_place J x) → (k : ℕ) → pass J x ≡ some k
      → (8 * entry x + 4 < darts) × T (is_pass_dart (8 * entry x + 4)) × (passed_of (8 * entry x + 4) ≡ x)
  unfolding entry_of
  place-pass x t k e = by x.kind x.row x.column t e
    where
      by : (q : PlaceKind) (r c : ℕ) → T (holds J q r c) → pass_of J q r c ≡ some k
          → (8 * entry_of q r c + 4 < darts) × T (is_pass_dart (8 * entry_of q r c + 4)) × (passed_of (8 * entry_of q r c + 4) ≡ at q r c)
      by pin r c t e = let z : ◌≡◌ {A = ℕ} 0 1 = cc in absurd (omega arith)
      by missing r c t e = pass-missing r c (missing-in r c t).0 (missing-in r c t).1
      by centre r c t e = pass-centre r c (omega (arith, open_in r c t)) (omega (arith, open_in r c t))
      by PlaceKind.outside r c t e = absurd t
      by nowhere r c t e = absurd t
      by (side w) r c t e = let z : ◌≡◌ {A = ℕ} 0 1 = cc in absurd (omega arith)
