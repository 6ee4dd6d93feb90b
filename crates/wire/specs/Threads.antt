-- The wire of each wired pin, as a thread: its first hop, the hops after it, and that they go to the outside. A thread is a route of its pin, its hops are
-- what `hop_at` lists, and it meets no place twice. Assumes nothing.
use Rattle.std.specs.Prelude.{◌≡◌, refl, Bool, true, false, ℕ, ◌≤◌, ◌<◌, ltb}
use mathlib.Core.List.{List, [], ◌∷◌, Memᴰ}
use Rattle.std.proofs.Math.Option.{Option, some}
use Rattle.std.proofs.Common.{arith, ltb→lt, nltb→le}
use Rattle.std.proofs.Math.Dec.{T}
use Rattle.sums.specs.Counting.{total}
use Rattle.sums.specs.Tests.{so, so-not, and_left, and_right}
use Rattle.model.specs.Job.{Job, is_chosen}
use Rattle.model.specs.Links.{pin, Place, at, the_outside, Step, tail, around}
use Rattle.model.specs.Route.{Route, visits}
use Rattle.model.specs.Loads.{departures, Sound}
use Rattle.model.specs.Wires.{Hop, first_loaded, hop_at, is_wired, Wire}
use Rattle.wire.specs.Around.{around-leaves}
use Rattle.wire.specs.Next.{Loaded}
use Rattle.wire.specs.Trails.{visits-once}
use Rattle.wire.specs.Follow.{steps_of, Goes, comes-out, goes-chain, goes-trail, goes-listed}

-- the first loaded step of a list that carries something
record Begins (f : Step → ℕ) (l : List Step) (o : Option Hop) : Type 0 where
  hop : Hop
  is : o ≡ some hop
  listed : Memᴰ hop.step l
  loaded : Loaded f hop

first-loaded : (f : Step → ℕ) (l : List Step) → 0 < total l f → Begins f l (first_loaded f l)
unfolding total first_loaded
first-loaded f [] h = absurd (omega arith)
first-loaded f (s ∷ l) h = by (ltb 0 (f s)) refl (first-loaded f l)
  where
    by : (b : Bool) → ltb 0 (f s) ≡ b → (0 < total l f → Begins f l (first_loaded f l))
        → Begins f (s ∷ l) (elim b [ true ↦ some (record { step = s; lane = 0 }) | false ↦ first_loaded f l ])
    by true e r = record { hop = record { step = s; lane = 0 }; is = refl; listed = Memᴰ.head refl; loaded = ltb→lt 0 (f s) (so e) }
    by false e r =
        let B : Begins f l (first_loaded f l) = r (omega (arith, nltb→le 0 (f s) (so-not e))) in
        record { hop = B.hop; is = B.is; listed = Memᴰ.tail B.listed; loaded = B.loaded }

-- the wire of the pin (r, c)
pub record Thread (J : Job) (f : Step → ℕ) (r c : ℕ) : Type 0 where
  pub first : Hop
  pub rest : List Hop
  pub chosen : T (is_chosen J r c)
  pub begins : hop_at J f r c 0 ≡ some first
  pub from : tail J first.step ≡ at pin r c
  pub loaded : Loaded f first
  pub goes : Goes J f first rest

abbrev pub hops : {J : Job} {f : Step → ℕ} {r c : ℕ} → Thread J f r c → List Hop
hops t = t.first ∷ t.rest

pub wired-chosen : (J : Job) (f : Step → ℕ) (r c : ℕ) → T (is_wired J f r c) → T (is_chosen J r c)
unfolding is_wired
wired-chosen J f r c w = and_left (is_chosen J r c) (ltb 0 (departures f (at pin r c))) w

module _ (J : Job) (f : Step → ℕ) (S : Sound J f) where
  pub thread : (r c : ℕ) → T (is_wired J f r c) → Thread J f r c
  unfolding is_wired hop_at departures
  thread r c w =
      let x : Place = at pin r c in
      let p : T (is_chosen J r c) = wired-chosen J f r c w in
      let B : Begins f (around x) (first_loaded f (around x)) =
      first-loaded f (around x) (ltb→lt 0 (departures f x) (and_right (is_chosen J r c) (ltb 0 (departures f x)) w)) in
      let (hs, g) = comes-out J f S B.hop B.loaded in
      record {
        first = B.hop;
        rest = hs;
        chosen = p;
        begins = B.is;
        from = around-leaves J x p B.hop.step B.listed;
        loaded = B.loaded;
        goes = g;
      }

  unfoldable pub route_of : {r c : ℕ} → Thread J f r c → Route J
  route_of {r} {c} t =
      record {
        row = r;
        column = c;
        steps = steps_of (hops t);
        chosen = t.chosen;
        chain = goes-chain J f S (at pin r c) t.first t.rest t.from t.loaded t.goes;
      }

  pub thread-wire : (r c : ℕ) (t : Thread J f r c) → Wire J f r c (hops t)
  thread-wire r c t = goes-listed J f S r c t.first t.rest t.begins t.goes

  pub thread-once : (r c : ℕ) (t : Thread J f r c) (x : Place) → visits J x (steps_of (hops t)) ≤ 1
  thread-once r c t x =
      visits-once J f S x (at pin r c) the_outside (steps_of (hops t))
      (goes-trail J f S (at pin r c) t.first t.rest t.from t.loaded t.goes)
