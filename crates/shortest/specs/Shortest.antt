-- Request K8, "the total length is exactly the least over all families of routes": the wires of a legal record in which every chosen pin is wired, and whose
-- loads have prices, are together no longer than any family of routes. A route is as long as its walk costs, the wires take no dart more often than the
-- record loads it, and a priced flow is the cheapest. So their length is the least. Assumes nothing.
use Rattle.std.specs.Prelude.{◌≡◌, refl, Bool, true, false, ◌&&◌, ℕ, ◌+◌, ◌≤◌, ◌<◌, eqb, length}
use Rattle.std.proofs.Common.{sym, ◌∙◌, T_not, eqb→eq}
use Rattle.std.proofs.Math.Path.{ap, subst}
use mathlib.Core.List.{List, [], ◌∷◌, map}
use native.Mathlib.Omega.{arith}
use Rattle.std.proofs.Math.Dec.{T}
use Rattle.std.proofs.lemmas.List.{length-map}
use Rattle.sums.specs.Counting.{when, sum, total, count}
use Rattle.sums.specs.Tests.{so, and_right}
use Rattle.sums.specs.Sums.{when-le, when-implies}
use Rattle.sums.specs.Totals.{total-add, total-le, total-cong, total-when, total-map}
use Rattle.flow.specs.Network.{times}
use Rattle.flow.specs.Walk.{carried}
use Rattle.price.specs.Cost.{cost, cost-le, walks_cost, family-cost}
use Rattle.price.specs.Priced.{Priced, wired_least}
use Rattle.model.specs.Job.{Job, array_fits}
use Rattle.model.specs.Links.{Place, is_place, same_step, Step, head}
use Rattle.model.specs.Route.{Chain, Route, visits, Together, chosen_count}
use Rattle.model.specs.Loads.{arrivals}
use Rattle.model.specs.Length.{routes_length, LeastLength, held_length}
use Rattle.model.specs.Record.{job_of, load, Legal}
use Rattle.model.specs.Wires.{wire_count}
use Rattle.channel.specs.Map.{spots, step_of, dart_of, is_link_dart, is_pass_dart, passed_of, view, starts}
use Rattle.channel.specs.Map.Taken.{may-dart}
use Rattle.channel.specs.Map.Carry.{link-passes, view-link, view-pass}
use Rattle.channel.specs.Map.Network.{net, net-want, sum-nodes}
use Rattle.channel.specs.Map.Lengths.{dart_length}
use Rattle.channel.specs.Map.Network.Routes.{route-walk, routes-fit, route-length, route-takes}
use Rattle.channel.specs.Map.Network.Flows.{feasible-flow, starts-count, want-count}
use Rattle.wire.specs.Counts.{same_step_lem}
use Rattle.wire.specs.Places.{when-drop}
use Rattle.wire.specs.Held.{wire_routes, routes-steps, routes-arrive, routes-length, routes-together, routes-held}
use Rattle.wire.specs.Families.{chosen-le-family, wires-family}

module _ (J : Job) (fits : T (array_fits J.rows J.columns)) where
  -- Routes are together as long as their walks cost.
  pub routes-cost : (rs : List (Route J)) → walks_cost (net J) dart_length (map (route-walk J fits) rs) ≡ routes_length J rs
  routes-cost rs = total-map (route-walk J fits) rs (λ w. total w.darts dart_length) ∙ total-cong rs _ _ (route-length J fits)

  pub wanted-is : sum (net J).nodes (net J).want ≡ chosen_count J
  wanted-is = sum-nodes J (net J).want ∙ (ap (λ (w : ℕ → ℕ). sum spots w) (net-want J) ∙ want-count J fits)

  -- a dart is that of one step alone
  steps-same : (x : Place) (ss : List Step) (d : ℕ) → Chain J x ss → count ss (λ s. eqb (dart_of s) d) ≤ count ss (same_step (step_of d))
  unfolding total
  steps-same x [] d c = omega arith
  steps-same x (s ∷ ss) d c =
      omega (
        arith,
        steps-same (head J s) ss d c.2,
        when-implies (eqb (dart_of s) d) (same_step (step_of d) s) 1
            (λ t. subst (λ (y : Step). T (same_step y s)) (sym (may-dart J fits s c.1).2 ∙ ap step_of (eqb→eq (dart_of s) d t)) (same_step_lem s)),
      )

module _ (rec : List ℕ) (legal : Legal rec) where
  abbrev J : Job
  J = job_of rec

  abbrev fits : T (array_fits J.rows J.columns)
  fits = legal.values.array

  abbrev wires : List (Route J)
  wires = wire_routes J (load rec) legal.sound

  wires-takes : (d : ℕ) → total wires (λ p. times (route-walk J fits p).darts d)
      ≤ when (is_link_dart d) (load rec (step_of d)) + when (is_pass_dart d && is_place J (passed_of d)) (arrivals (load rec) (passed_of d))
  wires-takes d =
      omega (
        arith,
        total-le wires _ _ (λ p. route-takes J fits p d),
        total-add wires (λ p. when (is_link_dart d) (count p.steps (λ s. eqb (dart_of s) d)))
            (λ p. when (is_pass_dart d && is_place J (passed_of d)) (visits J (passed_of d) p.steps)),
        total-when (is_link_dart d) wires (λ p. count p.steps (λ s. eqb (dart_of s) d)),
        total-when (is_pass_dart d && is_place J (passed_of d)) wires (λ p. visits J (passed_of d) p.steps),
        when-le (is_link_dart d) (total wires (λ p. count p.steps (λ s. eqb (dart_of s) d))) (load rec (step_of d)) (λ t. steps-le),
        when-le (is_pass_dart d && is_place J (passed_of d)) (total wires (λ p. visits J (passed_of d) p.steps)) (arrivals (load rec) (passed_of d))
            (λ t. routes-arrive J (load rec) legal.sound (passed_of d) (and_right (is_pass_dart d) (is_place J (passed_of d)) t)),
      )
    where
      steps-le : total wires (λ p. count p.steps (λ s. eqb (dart_of s) d)) ≤ load rec (step_of d)
      steps-le =
          omega (
            arith,
            total-le wires (λ p. count p.steps (λ s. eqb (dart_of s) d)) (λ p. count p.steps (same_step (step_of d)))
                (λ p. steps-same J fits _ p.steps d p.chain),
            routes-steps J (load rec) legal.sound (step_of d),
          )

  -- The wires take no dart more often than the record loads it,
  wires-carried : (d : ℕ) → d < (net J).darts → carried (net J) (map (route-walk J fits) wires) d ≤ view rec d
  wires-carried d l =
      omega (arith, total-map (route-walk J fits) wires (λ w. times w.darts d), wires-takes d, by (is_link_dart d) refl (is_pass_dart d) refl)
    where
      by : (a : Bool) → is_link_dart d ≡ a → (b : Bool) → is_pass_dart d ≡ b
          → when a (load rec (step_of d)) + when (b && is_place J (passed_of d)) (arrivals (load rec) (passed_of d)) ≤ view rec d
      by true p true q = absurd (T_not (is_pass_dart d) (link-passes d (so p)) (so q))
      by true p false q = omega (arith, view-link rec d (so p))
      by false p true q = omega (arith, view-pass rec d (so q), when-drop (is_place J (passed_of d)) (arrivals (load rec) (passed_of d)))
      by false p false q = omega arith

  -- so that they are no longer than its loads cost.
  length-le : routes_length J wires ≤ cost (net J) dart_length (view rec)
  length-le =
      omega (
        arith,
        routes-cost J fits wires,
        family-cost (net J) dart_length (map (route-walk J fits) wires),
        cost-le (net J) dart_length (carried (net J) (map (route-walk J fits) wires)) (view rec) wires-carried,
      )

  -- With prices, and every chosen pin wired,
  module _ {π : ℕ → ℕ} (P : Priced (net J) dart_length (view rec) π) (all : wire_count J (load rec) ≡ chosen_count J) where
    -- the loads cost at most the length of as many routes
    cost-least : (rs : List (Route J)) → Together J rs → chosen_count J ≤ length rs
        → cost (net J) dart_length (view rec) ≤ routes_length J rs
    cost-least rs F many =
        omega (
          arith,
          routes-cost J fits rs,
          wired_least P (feasible-flow J fits rec legal.sound.feasible)
              (omega (arith, wanted-is J fits, all, sum-nodes J (starts J rec), starts-count J fits rec legal.sound.feasible))
              (routes-fit J fits rs F) (omega (arith, wanted-is J fits, length-map rs (route-walk J fits))),
        )

    -- so that the wires are a family, and none is shorter.
    pub shortest : LeastLength J (held_length J (load rec))
    shortest =
        record {
          routes = wires;
          family = wires-family J (load rec) wires (routes-held J (load rec) legal.sound) (routes-together J (load rec) legal.sound) all;
          meets = routes-length J (load rec) legal.sound;
          least = λ rs F.
              omega (arith, length-le, routes-length J (load rec) legal.sound, cost-least rs F.together (chosen-le-family J rs F));
        }
