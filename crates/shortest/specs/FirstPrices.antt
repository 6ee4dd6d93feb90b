-- First prices: 10 for each ring, and 14 more for the entry of a missing pin. No step costs less than the rings that it leads nearer, so that these are prices
-- of a record without wires. Assumes nothing.
use Rattle.std.specs.Prelude.{◌≡◌, ◌⊎◌, Bool, not, List, map, eqb}
use Rattle.std.proofs.Math.Path.{refl, ap}
use Rattle.std.proofs.Common.{sym, subst, ◌∙◌}
use Rattle.std.proofs.Math.Logic.{inl, inr}
use Rattle.std.proofs.Math.Bool.{true, false}
use Prim.Native.Nat.{ℕ, suc, ◌+◌, ◌*◌, ◌/◌, ◌%◌, ◌≤◌, ◌<◌}
use native.Mathlib.Omega.{arith}
use Rattle.std.proofs.Math.Dec.{T}
use Rattle.std.proofs.lemmas.List.{length-map}
use Rattle.sums.specs.Counting.{when, sum}
use Rattle.sums.specs.Sums.{sum-cong}
use Rattle.flow.specs.Walk.{started, sum-started, family-load}
use Rattle.price.specs.Cost.{family-cost}
use Rattle.price.specs.Moves.{Open}
use Rattle.price.specs.Priced.{Priced, worth, all-started}
use Rattle.price.specs.Tight.{none-priced, none-worth}
use Rattle.model.specs.Job.{Job, array_fits}
use Rattle.model.specs.Links.{north, east, south, west, PlaceKind, pin, missing, centre, nowhere, side, is_missing_kind, Place, at, the_outside, holds, is_place, Step, head, tail}
use Rattle.model.specs.Near.{spot, entry_of, exit_of, entry, exit}
use Rattle.model.specs.Route.{Route, Family, chosen_count}
use Rattle.model.specs.Record.{job_of, load, Legal}
use Rattle.model.specs.Wires.{wire_count}
use Rattle.model.specs.Length.{routes_length, LeastLength, held_length}
use Rattle.model.proofs.Listed.{may-leaves}
use Rattle.channel.specs.Map.{spots, darts, row_of, column_of, rev, step_of, passed_of, free, want, view, outside}
use Rattle.channel.specs.Map.Darts.{cell_row, cell-column}
use Rattle.channel.specs.Map.Spots.{held-grid, spot-inside}
use Rattle.channel.specs.Map.Steps.{link-tail, link-head}
use Rattle.channel.specs.Map.Passes.{pass-ends}
use Rattle.channel.specs.Map.Limits.{free-link, free-may}
use Rattle.channel.specs.Map.Lengths.{dart_length, link-length, pass-length}
use Rattle.channel.specs.Map.Network.{net, net-dart, net-tail, net-head, net-cap, net-free, net-want, net-outside, sum-nodes}
use Rattle.channel.specs.Map.Network.Moves.{Leads, along, through, cap-leads, view-none}
use Rattle.channel.specs.Map.Network.Routes.{route-walk, routes-fit}
use Rattle.wire.specs.Held.{wire_routes, routes-length, routes-together, routes-held}
use Rattle.wire.specs.Families.{chosen-le-family, wires-family}
use Rattle.shortest.specs.Shortest.{routes-cost, wanted-is}
use Rattle.shortest.specs.Rings.{tile_ring, pin_ring, ring_at, ring-step}

module _ (J : Job) where
  -- of a spot of the kind k at the cell (r, c)
  abbrev pub kind_price : ℕ → ℕ → ℕ → ℕ
  kind_price k r c =
      elim (eqb k 0) [
        | true ↦ 10 * pin_ring J r c + 14
        | false ↦ elim (eqb k 1) [ true ↦ 10 * pin_ring J r c | false ↦ 10 * suc (tile_ring J r c) ]
      ]

  unfoldable pub first_price : ℕ → ℕ
  first_price u = when (not (outside J u)) (kind_price (u % 8) (row_of (u / 8)) (column_of (u / 8)))

  outside-price : (u : ℕ) → T (outside J u) → first_price u ≡ 0
  unfolding first_price
  outside-price u = by (outside J u) (kind_price (u % 8) (row_of (u / 8)) (column_of (u / 8)))
    where
      by : (b : Bool) (x : ℕ) → T b → when (not b) x ≡ 0
      by true x t = refl
      by false x t = absurd t

  price-at : (u k r c : ℕ) → u ≡ spot k r c → k < 8 → c < 40 → (T (outside J u) → ⊥) → first_price u ≡ kind_price k r c
  unfolding first_price
  price-at u k r c e l b = by (outside J u)
    where
      p : u % 8 ≡ k
      p = omega arith

      d : u / 8 ≡ 41 + 40 * r + c
      d = omega arith

      by : (o : Bool) → (T o → ⊥) → when (not o) (kind_price (u % 8) (row_of (u / 8)) (column_of (u / 8))) ≡ kind_price k r c
      by true n = absurd (n tt)
      by false n = rw (p, cell_row (u / 8) r c d b, cell-column (u / 8) r c d b) refl

module _ (J : Job) (fits : T (array_fits J.rows J.columns)) where
  -- ---- the prices of places

  exit-price : (x : Place) → T (is_place J x) → first_price J (exit x) ≡ 10 * ring_at J x
  unfolding exit_of
  exit-price x t = by x.kind x.row x.column t (spot-inside J fits (exit x) (x, t, inr refl))
    where
      by : (k : PlaceKind) (r c : ℕ) → T (holds J k r c) → (T (outside J (exit_of k r c)) → ⊥) → first_price J (exit_of k r c) ≡ 10 * ring_at J (at k r c)
      by pin r c h n = price-at J (spot 1 r c) 1 r c refl (omega arith) (held-grid J fits pin r c h).1 n
      by missing r c h n = price-at J (spot 1 r c) 1 r c refl (omega arith) (held-grid J fits missing r c h).1 n
      by centre r c h n = price-at J (spot 7 r c) 7 r c refl (omega arith) (held-grid J fits centre r c h).1 n
      by PlaceKind.outside r c h n = absurd h
      by nowhere r c h n = absurd h
      by (side north) r c h n = price-at J (spot 2 r c) 2 r c refl (omega arith) (held-grid J fits (side north) r c h).1 n
      by (side east) r c h n = price-at J (spot 3 r c) 3 r c refl (omega arith) (held-grid J fits (side east) r c h).1 n
      by (side south) r c h n = price-at J (spot 4 r c) 4 r c refl (omega arith) (held-grid J fits (side south) r c h).1 n
      by (side west) r c h n = price-at J (spot 5 r c) 5 r c refl (omega arith) (held-grid J fits (side west) r c h).1 n

  entry-price : (x : Place) → T (is_place J x) → first_price J (entry x) ≡ 10 * ring_at J x + 14 * when (is_missing_kind x) 1
  unfolding entry_of
  entry-price x t = by x.kind x.row x.column t (spot-inside J fits (entry x) (x, t, inl refl))
    where
      by : (k : PlaceKind) (r c : ℕ) → T (holds J k r c) → (T (outside J (entry_of k r c)) → ⊥)
          → first_price J (entry_of k r c) ≡ 10 * ring_at J (at k r c) + 14 * when (is_missing_kind (at k r c)) 1
      by pin r c h n = omega (arith, price-at J (spot 1 r c) 1 r c refl (omega arith) (held-grid J fits pin r c h).1 n)
      by missing r c h n = omega (arith, price-at J (spot 0 r c) 0 r c refl (omega arith) (held-grid J fits missing r c h).1 n)
      by centre r c h n = omega (arith, price-at J (spot 6 r c) 6 r c refl (omega arith) (held-grid J fits centre r c h).1 n)
      by PlaceKind.outside r c h n = absurd h
      by nowhere r c h n = absurd h
      by (side north) r c h n = omega (arith, price-at J (spot 2 r c) 2 r c refl (omega arith) (held-grid J fits (side north) r c h).1 n)
      by (side east) r c h n = omega (arith, price-at J (spot 3 r c) 3 r c refl (omega arith) (held-grid J fits (side east) r c h).1 n)
      by (side south) r c h n = omega (arith, price-at J (spot 4 r c) 4 r c refl (omega arith) (held-grid J fits (side south) r c h).1 n)
      by (side west) r c h n = omega (arith, price-at J (spot 5 r c) 5 r c refl (omega arith) (held-grid J fits (side west) r c h).1 n)

  -- ---- no dart undercuts them

  led : (d : ℕ) → d < darts → Leads J d → first_price J (d / 8) ≤ first_price J (rev d / 8) + dart_length d
  led d l (along t m) = by (link-head J fits d l t m)
    where
      s : Step
      s = step_of d

      from : first_price J (d / 8) ≡ 10 * ring_at J (tail J s)
      from = ap (first_price J) (sym (link-tail J fits d l t m).0) ∙ exit-price (tail J s) (may-leaves J s m)

      by : (T (is_place J (head J s)) × (entry (head J s) ≡ rev d / 8)) ⊎ ((head J s ≡ the_outside) × T (outside J (rev d / 8)))
          → first_price J (d / 8) ≤ first_price J (rev d / 8) + dart_length d
      by (inl (p, e)) = omega (arith, from, ring-step J s m, link-length d t, entry-price (head J s) p, ap (first_price J) e)
      by (inr (e, o)) =
          omega (
            arith,
            from,
            ring-step J s m,
            link-length d t,
            ap (ring_at J) e,
            ap (λ (y : Place). when (is_missing_kind y) 1) e,
          )
  led d l (through t p) =
      let (a, b) = pass-ends d l t in
      omega (arith, entry-price (passed_of d) p, exit-price (passed_of d) p, pass-length d t, ap (first_price J) a, ap (first_price J) b)

  opens : (d : ℕ) → Open (net J) (λ x. 0) d → Leads J d
  opens d (inl h) = cap-leads J d (subst (λ (c : ℕ → ℕ). 0 < c d) (net-cap J) h)
  opens d (inr f) =
      let g : T (free J d) = subst (λ (p : ℕ → Bool). T (p d)) (net-free J) f in
      along (free-link J d g) (free-may J d g)

  -- First prices are prices of the empty load,
  pub first-none : Priced (net J) dart_length (λ d. 0) (first_price J)
  first-none =
      none-priced (λ u l o. outside-price J u (subst (λ (p : ℕ → Bool). T (p u)) (net-outside J) o))
      (λ d l o. omega (arith, led d (net-dart J l) (opens d o), ap (first_price J) (net-tail J d), ap (first_price J) (net-head J d)))

  -- and so of a record without wires.
  pub first-priced : (rec : List ℕ) → ((s : Step) → load rec s ≡ 0) → Priced (net J) dart_length (view rec) (first_price J)
  first-priced rec none =
      record {
        adding = λ d l o. first-none.adding d l (emptied d o);
        taking = λ d l h. absurd (omega (arith, view-none rec none ((net J).rev d)));
        grounded = first-none.grounded;
      }
    where
      emptied : (d : ℕ) → Open (net J) (view rec) d → Open (net J) (λ x. 0) d
      emptied d (inl h) = inl (omega (arith, view-none rec none d))
      emptied d (inr f) = inr f

  -- ---- and no family of routes is shorter than the first prices of its pins

  -- what prices make of starts that are all that is wanted
  wanted-worth : (π s : ℕ → ℕ) → ((u : ℕ) → u < (net J).nodes → s u ≡ (net J).want u) → worth (net J) π s ≡ sum spots (λ u. π u * want J u)
  unfolding worth
  wanted-worth π s e =
      sum-cong (net J).nodes (λ u. π u * s u) (λ u. π u * (net J).want u) (λ u l. ap (λ (x : ℕ). π u * x) (e u l))
      ∙ (sum-nodes J (λ u. π u * (net J).want u) ∙ ap (λ (w : ℕ → ℕ). sum spots (λ u. π u * w u)) (net-want J))

  pub first-least : (rs : List (Route J)) → Family J rs → sum spots (λ u. first_price J u * want J u) ≤ routes_length J rs
  first-least rs F =
      let fit = routes-fit J fits rs F.together in
      let all : (u : ℕ) → u < (net J).nodes → started (net J) (map (route-walk J fits) rs) u ≡ (net J).want u =
      all-started (family-load fit)
      (omega (
        arith,
        sum-started (net J) (map (route-walk J fits) rs),
        length-map rs (route-walk J fits),
        wanted-is J fits,
        chosen-le-family J rs F,
      )) in
      omega (
        arith,
        routes-cost J fits rs,
        family-cost (net J) dart_length (map (route-walk J fits) rs),
        none-worth first-none (family-load fit),
        wanted-worth (first_price J) (started (net J) (map (route-walk J fits) rs)) all,
      )

-- So wires for every chosen pin that are together no longer than that have the least length.
pub first-shortest : (rec : List ℕ) → Legal rec → wire_count (job_of rec) (load rec) ≡ chosen_count (job_of rec)
    → held_length (job_of rec) (load rec) ≤ sum spots (λ u. first_price (job_of rec) u * want (job_of rec) u)
    → LeastLength (job_of rec) (held_length (job_of rec) (load rec))
first-shortest rec legal all h =
    let J : Job = job_of rec in
    let rs : List (Route J) = wire_routes J (load rec) legal.sound in
    record {
      routes = rs;
      family = wires-family J (load rec) rs (routes-held J (load rec) legal.sound) (routes-together J (load rec) legal.sound) all;
      meets = routes-length J (load rec) legal.sound;
      least = λ qs F. omega (arith, first-least J legal.values.array qs F);
    }
