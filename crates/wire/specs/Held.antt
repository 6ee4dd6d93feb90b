-- Document 01, "Runs" and "Lanes and pairing": the wires of sound loads are routes, one for each wired pin, that together exceed no limit, meet no place
-- twice and do not cross. For every loaded hop is taken once, so links and places have as many as the loads, which keep the limits. Assumes nothing.
use Rattle.std.specs.Prelude.{◌≡◌, refl, true, false, ℕ, ◌+◌, ◌≤◌, T, length}
use Rattle.std.proofs.Math.Path.{sym}
use Rattle.std.proofs.Common.{ap, subst, ◌∙◌}
use mathlib.Core.List.Memᴰ
use mathlib.Core.List.{List, [], ◌∷◌, map, Memᴰ}
use native.Mathlib.Omega.{arith}
use Rattle.std.proofs.Math.ListN.{length-map}
use Rattle.sums.specs.Counting.{when, total, count}
use Rattle.sums.specs.Totals.{total-cong, total-map}
use Rattle.model.specs.Job.{Job}
use Rattle.model.specs.Links.{pin, Place, at, is_place, places, same_place, Link, same_link, same_step, Step, head}
use Rattle.model.specs.Route.{Route, uses, visits, Together}
use Rattle.model.specs.Loads.{arrivals, Sound}
use Rattle.model.specs.Length.{wire_length, routes_length, length_from, held_length}
use Rattle.model.specs.Wires.{Hop, ends, arrives, Wire, wire_count, Holds}
use Rattle.model.proofs.Listed.{place-listed}
use Rattle.pairing.specs.Perfect.{pairs-nested}
use Rattle.wire.specs.Ways.{way}
use Rattle.wire.specs.Next.{Loaded}
use Rattle.wire.specs.Follow.{steps_of}
use Rattle.wire.specs.Counts.{same_hop, step-full, place-hops, link-full, link-hops, passing-hops}
use Rattle.wire.specs.Places.{places-once}
use Rattle.wire.specs.WireLength.{thread-length}
use Rattle.wire.specs.Threads.{wired-chosen, route_of, thread-wire, thread-once}
use Rattle.wire.specs.Bundle.{Strand, strand_hops, strands, strands-count, strands-total, strands-at, strands-has, hops_of, hops-total, hops-loaded, hops-all, hops-once}

-- an entry of a list of images is one
images : {A B : Type 0} (g : A → B) (P : B → Type 0) (l : List A) → ((a : A) → P (g a)) → (b : B) → Memᴰ b (map g l) → P b
images g P [] h b m = absurd (Memᴰ.not-nil m)
images g P (a ∷ l) h b (Memᴰ.head e) = subst P (sym e) (h a)
images g P (a ∷ l) h b (Memᴰ.tail m) = images g P l h b m

image-of : {A B : Type 0} {a : A} (g : A → B) (l : List A) → Memᴰ a l → Memᴰ (g a) (map g l)
image-of {A = A} {B = B} {a = a} g [] x' = elim x' [ ]
image-of g (x ∷ l) (Memᴰ.head e) = Memᴰ.head (ap g e)
image-of g (x ∷ l) (Memᴰ.tail m) = Memᴰ.tail (image-of g l m)

module _ (J : Job) (f : Step → ℕ) (S : Sound J f) where
  ts : List (Strand J f)
  ts = strands J f S (places J)

  abbrev route : Strand J f → Route J
  route t = route_of J f S t.thread

  -- the wires as routes
  pub wire_routes : List (Route J)
  wire_routes = map route ts

  -- a count over the steps of all routes is one over all hops
  steps-hops : (g : Step → ℕ) → total wire_routes (λ p. total p.steps g) ≡ total (hops_of J f S ts) (λ h. g h.step)
  unfolding wire_routes route_of
  steps-hops g =
      total-map route ts (λ p. total p.steps g)
      ∙ (total-cong ts (λ t. total (steps_of (strand_hops t)) g) (λ t. total (strand_hops t) (λ h. g h.step))
      (λ t. total-map (λ (h : Hop). h.step) (strand_hops t) g)
      ∙ sym (hops-total J f S ts (λ h. g h.step)))

  loaded : (h : Hop) → Memᴰ h (hops_of J f S ts) → Loaded f h
  loaded h m = hops-loaded J f S ts h m

  once : (h : Hop) → count (hops_of J f S ts) (same_hop h) ≤ 1
  unfolding ts
  once h = hops-once J f S h

  pub routes-together : Together J wire_routes
  unfolding wire_routes ts route_of
  routes-together =
      record {
        links =
            λ l k e. omega (arith, steps-hops (λ s. when (same_link l s.link) 1), link-hops f (hops_of J f S ts) loaded once J S.feasible l k e);
        passing =
            λ x k e. omega (arith, steps-hops (λ s. when (same_place x (head J s)) 1), passing-hops f (hops_of J f S ts) loaded once J S.feasible x k e);
        pins =
            λ r c. omega (
              arith,
              total-map route ts (λ p. when (same_place (at pin r c) (at pin p.row p.column)) 1),
              strands-at J f S (at pin r c) (places J),
              places-once J (at pin r c),
            );
      }

  -- the wires on a link are as many as its load
  pub routes-full : (l : Link) → total wire_routes (λ p. uses l p.steps) ≡ f (way l true) + f (way l false)
  unfolding ts
  routes-full l = steps-hops (λ s. when (same_link l s.link) 1) ∙ link-full f (hops_of J f S ts) loaded once (hops-all J f S) l

  -- a step is taken as often as its load says, and a place is come to at most as often as the loads do
  pub routes-steps : (s : Step) → total wire_routes (λ p. count p.steps (same_step s)) ≡ f s
  unfolding ts
  routes-steps s = steps-hops (λ t. when (same_step s t) 1) ∙ step-full f (hops_of J f S ts) loaded once (hops-all J f S) s

  pub routes-arrive : (x : Place) → T (is_place J x) → total wire_routes (λ p. visits J x p.steps) ≤ arrivals f x
  routes-arrive x t = omega (arith, steps-hops (λ s. when (same_place x (head J s)) 1), place-hops f (hops_of J f S ts) loaded once J S.feasible x t)

  -- the wires are together as long as the loads say
  pub routes-length : routes_length J wire_routes ≡ held_length J f
  unfolding wire_routes ts route_of held_length
  routes-length =
      total-map route ts (λ p. wire_length J p.steps)
      ∙ strands-total J f S (places J) (λ t. wire_length J (steps_of (strand_hops t))) (λ x. length_from J f x.row x.column)
      (λ t. thread-length J f S t.row t.column t.thread)

  pub routes-held : Holds J f wire_routes
  unfolding wire_routes ts route_of wire_count
  routes-held =
      record {
        wires =
            images route (λ p. (hs : List Hop) × Wire J f p.row p.column hs × (p.steps ≡ steps_of hs)) ts
            (λ t. (strand_hops t, thread-wire J f S t.row t.column t.thread, refl));
        wired =
            λ r c w.
            let (t, m, a, b) = strands-has J f S (at pin r c) (places J) w (place-listed J (at pin r c) (wired-chosen J f r c w)) in
            (route t, image-of route ts m, a, b);
        number = length-map ts route ∙ strands-count J f S (places J);
        once = images route (λ p. (x : Place) → visits J x p.steps ≤ 1) ts (λ t. thread-once J f S t.row t.column t.thread);
        uncrossed = λ x t p q. pairs-nested (arrives (ends f x)) (length (ends f x)) p q;
      }

pub sound-holds : (J : Job) (f : Step → ℕ) → Sound J f → (rs : List (Route J)) × Holds J f rs × Together J rs
sound-holds J f S = (wire_routes J f S, routes-held J f S, routes-together J f S)
