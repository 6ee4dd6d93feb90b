-- Document 01, "Lanes and pairing", "Length" and "The array and its channels": what holds of the wires of every legal record, sentence by sentence, and
-- all of it on a record with wires. `wires` are the record's wires as routes; a lane is a hop, a step of a link's way with a lane's number.
-- Assumes nothing.
use Rattle.std.specs.Prelude.{◌≡◌, refl, ◌↔◌, List, ℕ, suc, ◌+◌, ◌≤◌, ◌<◌, T, length}
use Rattle.std.proofs.Common.{sym, subst, ◌∙◌, arith}
use Rattle.std.proofs.Math.Path.{ap}
use Rattle.std.proofs.Math.Option.{none, some}
use Rattle.sums.specs.Counting.{when, total}
use Rattle.sums.specs.Sums.{when-so}
use Rattle.sums.specs.Totals.{total-has}
use Rattle.model.specs.Job.{Job, tile_d}
use Rattle.model.specs.Links.{pin, Place, at, the_outside, same_place, is_place, LinkKind, north_side, west_side, link, Step, go, come, head}
use Rattle.model.specs.Route.{Route, uses, visits, begun, Together}
use Rattle.model.specs.Record.{load_plane, job_of, forth_part, back_part, load, Legal, plane_byte, record_of}
use Rattle.model.specs.Wires.{Hop, Uncrossed, onward, hop_at, is_wired, wire_count, Wire, Holds}
use Rattle.model.specs.Length.{wire_length, length_bound, Diagonal, crossings}
use Rattle.model.proofs.Own.{tile-range}
use Rattle.model.proofs.Same.{same_place_lem}
use Rattle.model.proofs.RecordOf.{in_cells, plane-below, cell-is}
use Rattle.model.proofs.FourPins.{job22, loads22, legal22}
use Rattle.wire.specs.Diagonals.{diagonal-bound}
use Rattle.wire.specs.LengthBound.{length-bound}
use Rattle.wire.specs.Next.{ends-outside}
use Rattle.wire.specs.Follow.{steps_of, goes-out}
use Rattle.wire.specs.Threads.{Thread, hops as thread_hops, thread, route_of, thread-wire, thread-once}
use Rattle.wire.specs.Apart.{wire-loaded, lane-one}
use Rattle.wire.specs.Filled.{OnWire, lane-wired}
use Rattle.wire.specs.Held.{wire_routes, routes-held, routes-together, routes-full}

module _ (rec : List ℕ) (legal : Legal rec) where
  abbrev J : Job
  J = job_of rec

  abbrev f : Step → ℕ
  f = load rec

  -- the record's wires as routes
  unfoldable pub wires : List (Route J)
  wires = wire_routes J f legal.sound

  -- "No two wires share a lane", and none has a lane twice.
  pub no-shared-lane : (r c m q d n : ℕ) (v : Hop) → T (is_wired J f r c) → T (is_wired J f q d) → hop_at J f r c m ≡ some v → hop_at J f q d n ≡ some v
      → (at pin r c ≡ at pin q d) × (m ≡ n)
  no-shared-lane = lane-one J f legal.sound

  -- "The lanes on a link are exactly those of its load": the lane i, the way of the step s, lies on a wire exactly where i is below the load that way.
  pub lanes-of-load : (s : Step) (i : ℕ) → (i < f s) ↔ OnWire J f (record { step = s; lane = i })
  lanes-of-load s i =
      let v : Hop = record { step = s; lane = i } in
      (lane-wired J f legal.sound v, λ W. wire-loaded J f legal.sound W.row W.column W.index v W.wired W.listed)

  -- So a link has as many wires as its load.
  pub wires-on-link : (k : LinkKind) (r c : ℕ) → total wires (λ p. uses (link k r c) p.steps) ≡ f (go k r c) + f (come k r c)
  unfolding wires
  wires-on-link k r c = routes-full J f legal.sound (link k r c)

  -- "Each wired pin's wire is a route of `model`, meets no place twice and ends outside."
  pub record RouteOut (r c : ℕ) : Type 0 where
    pub hops : List Hop
    pub wire : Wire J f r c hops
    pub route : Route J
    pub from : at pin route.row route.column ≡ at pin r c
    pub along : route.steps ≡ steps_of hops
    pub once : (x : Place) → visits J x route.steps ≤ 1
    pub last : ℕ
    pub last_hop : Hop
    pub last_listed : hop_at J f r c last ≡ some last_hop
    pub outside : head J last_hop.step ≡ the_outside
    pub ends : hop_at J f r c (suc last) ≡ none

  pub wire-route : (r c : ℕ) → T (is_wired J f r c) → RouteOut r c
  unfolding route_of hop_at
  wire-route r c w =
      let t : Thread J f r c = thread J f legal.sound r c w in
      let (n, k, e, o) = goes-out J f legal.sound t.first t.rest t.goes in
      let listed : hop_at J f r c n ≡ some k = thread-wire J f legal.sound r c t n ∙ e in
      record {
        hops = thread_hops t;
        wire = thread-wire J f legal.sound r c t;
        route = route_of J f legal.sound t;
        from = refl;
        along = refl;
        once = thread-once J f legal.sound r c t;
        last = n;
        last_hop = k;
        last_listed = listed;
        outside = o;
        ends = ap (onward J f) listed ∙ ends-outside J f legal.sound.feasible k o;
      }

  -- "The wires together are a family within every link and passing limit",
  pub wires-together : Together J wires
  unfolding wires
  wires-together = routes-together J f legal.sound

  pub wires-held : Holds J f wires
  unfolding wires
  wires-held = routes-held J f legal.sound

  -- "one for each started pin".
  pub one_each : (r c : ℕ) → T (is_wired J f r c) → begun J wires r c ≡ 1
  one_each r c w =
      let (p, m, a, b) = wires-held.wired r c w in
      let e : at pin r c ≡ at pin p.row p.column = λ i. at pin (sym a i) (sym b i) in
      omega (
        arith,
        wires-together.pins r c,
        total-has wires (λ p. when (same_place (at pin r c) (at pin p.row p.column)) 1) m,
        when-so (same_place (at pin r c) (at pin p.row p.column)) 1 (subst (λ (x : Place). T (same_place (at pin r c) x)) e (same_place_lem (at pin r c))),
      )

  pub as_many : length wires ≡ wire_count J f
  as_many = wires-held.number

  -- "Wires cross in no place."
  pub no-crossing : (x : Place) → T (is_place J x) → Uncrossed f x
  no-crossing = wires-held.uncrossed

  -- "The total length is at most 10 times the side limits added plus 14×E for each missing pin."
  pub length-within : total wires (λ p. wire_length J p.steps) ≤ length_bound J
  length-within = length-bound J wires wires-together

  -- "Each diagonal of a tile is crossed at most D times", "held to each tile's own figure".
  pub diagonals-within : (g : Diagonal) (r c : ℕ) → total wires (λ p. crossings J g r c p.steps) ≤ tile_d J r c
  diagonals-within g r c =
      diagonal-bound J wires wires-together g r c (tile-range J (record { job = legal.values.caps; tiles = legal.values.added }) r c).0

-- ---- a record with wires: the four-pin job of "The listing"

abbrev pub rec22 : List ℕ
rec22 = record_of job22 loads22

-- the load byte of a link there is that of the job's loads
load22 : (k : LinkKind) (r c : ℕ) (n : ℕ) → when (in_cells r c) (plane_byte job22 loads22 (load_plane k) r c) ≡ n
    → load rec22 (go k r c) + load rec22 (come k r c) ≡ forth_part n + back_part n
unfolding load
load22 k r c n e = ap (λ (b : ℕ). forth_part b + back_part b) (cell-is job22 loads22 (load_plane k) r c (omega (arith, plane-below k)) ∙ e)

-- Each of the four sides of its tile is crossed by one wire, and the wire of each wired pin is a route out.
pub four-held :
    (total (wires rec22 legal22) (λ p. uses (link north_side 0 0) p.steps) ≡ 1)
    × (total (wires rec22 legal22) (λ p. uses (link west_side 0 1) p.steps) ≡ 1)
    × (total (wires rec22 legal22) (λ p. uses (link north_side 1 0) p.steps) ≡ 1)
    × (total (wires rec22 legal22) (λ p. uses (link west_side 0 0) p.steps) ≡ 1)
    × ((r c : ℕ) → T (is_wired (job_of rec22) (load rec22) r c) → RouteOut rec22 legal22 r c)
unfolding total
four-held = (
  wires-on-link rec22 legal22 north_side 0 0 ∙ load22 north_side 0 0 1 refl,
  wires-on-link rec22 legal22 west_side 0 1 ∙ load22 west_side 0 1 1 refl,
  wires-on-link rec22 legal22 north_side 1 0 ∙ load22 north_side 1 0 33 refl,
  wires-on-link rec22 legal22 west_side 0 0 ∙ load22 west_side 0 0 33 refl,
  wire-route rec22 legal22,
)
