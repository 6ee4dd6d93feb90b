-- A length that no family of routes goes below, by computed tests. Each place has a price, 0 outside, and some links have tolls, a link as many as the list
-- names it. If no step's length and toll and the price of its head are less than the price of its tail, a route's length and tolls are at least the price of
-- its pin; and the limits bound how many tolls a family pays. Assumes nothing.
use mathlib.Core.Path.{◌≡◌, refl, ap, subst}
use mathlib.Core.Logic.{◌⊎◌, inl, inr}
use mathlib.Core.Bool.{Bool, true, false, not, ◌&&◌, ◌||◌}
use mathlib.Core.List.{List, [], ◌∷◌, Memᴰ}
use mathlib.Core.Option.{Option, none, some}
use Prim.Native.Nat.{ℕ, ◌+◌, ◌*◌, ◌≤◌}
use native.Mathlib.Omega.{arith}
use lib.Dec.{T, eqb, leb, eqb→eq, leb→le}
use Rattle.sums.specs.Counting.{when, total, count}
use Rattle.sums.specs.Tests.{so, and_left, and_right, every, every-at, count-some, if-so}
use Rattle.sums.specs.Sums.{when-so}
use Rattle.sums.specs.Totals.{total-add, total-le, total-le-in, total-has, total-swap, total-cong}
use Rattle.model.specs.Job.{Job}
use Rattle.model.specs.Links.{compass_code, PlaceKind, pin, missing, centre, outside, nowhere, side, Place, at, the_outside, is_place, is_pin_kind, is_missing_kind, places, same_place, Link, same_link, Step, head, tail, may, limit, around}
use Rattle.model.specs.Route.{Chain, Route, uses, begun, Together, Family}
use Rattle.model.specs.Near.{size}
use Rattle.model.specs.Length.{is_side, wire_length, routes_length, LeastLength}
use Rattle.model.proofs.Listed.{place-listed, step-listed, may-leaves}
use Rattle.model.proofs.Same.{same-place-eq}
use Rattle.model.proofs.ByTest.{is_limited, together_test, together-by-test}

-- ---- places that a list names once

module _ (price : Place → ℕ) (y : Place) where
  none-total : (l : List Place) → count l (λ x. same_place x y) ≡ 0 → total l (λ x. when (same_place x y) (price x)) ≡ 0
  unfolding total
  none-total [] z = refl
  none-total (x ∷ l) z = by (same_place x y) z (none-total l)
    where
      by : (b : Bool) → when b 1 + count l (λ x. same_place x y) ≡ 0
          → (count l (λ x. same_place x y) ≡ 0 → total l (λ x. when (same_place x y) (price x)) ≡ 0)
          → when b (price x) + total l (λ x. when (same_place x y) (price x)) ≡ 0
      by true z r = absurd (omega arith)
      by false z r = omega (arith, r (omega arith))

  once-total : (l : List Place) → count l (λ x. same_place x y) ≤ 1 → total l (λ x. when (same_place x y) (price x)) ≤ price y
  unfolding total
  once-total [] h = omega arith
  once-total (x ∷ l) h = by (same_place x y) refl h (once-total l)
    where
      by : (b : Bool) → same_place x y ≡ b → when b 1 + count l (λ x. same_place x y) ≤ 1
          → (count l (λ x. same_place x y) ≤ 1 → total l (λ x. when (same_place x y) (price x)) ≤ price y)
          → when b (price x) + total l (λ x. when (same_place x y) (price x)) ≤ price y
      by true e h r =
          let z : count l (λ x. same_place x y) ≡ 0 = omega arith in
          let q : price x ≡ price y = ap price (same-place-eq x y (so e)) in
          omega (arith, none-total l z)
      by false e h r = omega (arith, r (omega arith))

once-by-test : (l : List Place) → T (every l (λ x. leb (count l (λ z. same_place z x)) 1)) → (y : Place) → count l (λ x. same_place x y) ≤ 1
once-by-test l t y = by (count-some l (λ x. same_place x y))
  where
    by : (count l (λ x. same_place x y) ≡ 0) ⊎ ((x : Place) × Memᴰ x l × T (same_place x y)) → count l (λ x. same_place x y) ≤ 1
    by (inl z) = omega arith
    by (inr (x, m, s)) =
        subst (λ (z : Place). count l (λ x. same_place x z) ≤ 1) (same-place-eq x y s)
        (leb→le (count l (λ z. same_place z x)) 1 (every-at l (λ x. leb (count l (λ z. same_place z x)) 1) t m))

-- ---- prices and tolls

limited-size : (o : Option ℕ) (n : ℕ) → T (is_limited o) → ((k : ℕ) → o ≡ some k → n ≤ k) → n ≤ size o
limited-size none n t h = absurd t
limited-size (some k) n t h = h k refl

module _ (J : Job) (price : Place → ℕ) (tolls : List Link) where
  -- what a step counts, and its tolls
  abbrev pays : Step → ℕ
  pays s = (10 * when (is_side s.link) 1 + 14 * when (is_missing_kind (head J s)) 1) + count tolls (λ l. same_link l s.link)

  abbrev pub step_test : Step → Bool
  step_test s = not (may J s) || leb (price (tail J s)) (price (head J s) + pays s)

  abbrev pub steps_test : Bool
  steps_test = every (places J) (λ x. every (around x) step_test)

  abbrev pub limited_test : Bool
  limited_test = every tolls (λ l. is_limited (limit J l))

  module _ (t : T steps_test) (zero : price the_outside ≡ 0) where
    step-pays : (s : Step) → T (may J s) → price (tail J s) ≤ price (head J s) + pays s
    step-pays s m =
        let p : T (is_place J (tail J s)) = may-leaves J s m in
        leb→le (price (tail J s)) (price (head J s) + pays s)
        (if-so (may J s) (leb (price (tail J s)) (price (head J s) + pays s))
        (every-at (around (tail J s)) step_test (every-at (places J) (λ x. every (around x) step_test) t (place-listed J (tail J s) p)) (step-listed J s p)) m)

    chain-pays : (x : Place) (ss : List Step) → Chain J x ss → price x ≤ wire_length J ss + total ss (λ s. count tolls (λ l. same_link l s.link))
    unfolding total
    chain-pays x [] c = omega (arith, ap price c, zero)
    chain-pays x (s ∷ ss) c = omega (arith, ap price c.0, step-pays s c.1, chain-pays (head J s) ss c.2)

    -- the tolls of all routes, link by link
    module _ (limited : T limited_test) (rs : List (Route J)) (F : Together J rs) where
      tolls-swap : total rs (λ p. total p.steps (λ s. count tolls (λ l. same_link l s.link))) ≡ total tolls (λ l. total rs (λ p. uses l p.steps))
      tolls-swap =
          omega (
            arith,
            total-cong rs (λ p. total p.steps (λ s. count tolls (λ l. same_link l s.link))) (λ p. total tolls (λ l. uses l p.steps))
                (λ p. total-swap p.steps tolls (λ s l. when (same_link l s.link) 1)),
            total-swap rs tolls (λ p l. uses l p.steps),
          )

      tolls-le : total tolls (λ l. total rs (λ p. uses l p.steps)) ≤ total tolls (λ l. size (limit J l))
      tolls-le =
          total-le-in tolls _ _
          (λ l m. limited-size (limit J l) _ (every-at tolls (λ l. is_limited (limit J l)) limited m) (F.links l))

      routes-pay : total rs (λ p. price (at pin p.row p.column)) ≤ routes_length J rs + total tolls (λ l. size (limit J l))
      routes-pay =
          omega (
            arith,
            total-le rs (λ p. price (at pin p.row p.column))
                (λ p. wire_length J p.steps + total p.steps (λ s. count tolls (λ l. same_link l s.link)))
                (λ p. chain-pays (at pin p.row p.column) p.steps p.chain),
            total-add rs (λ p. wire_length J p.steps) (λ p. total p.steps (λ s. count tolls (λ l. same_link l s.link))),
            tolls-swap,
            tolls-le,
          )

  -- ---- the pins of a family

  abbrev pub pin_test : Place → Bool
  pin_test x = is_pin_kind x && is_place J x

  module _ (pins : List Place) (chosen : T (every pins pin_test)) (once : T (every pins (λ x. leb (count pins (λ z. same_place z x)) 1))) (rs : List (Route J))
      (F : Family J rs) where
    abbrev pin_of : Route J → Place
    pin_of p = at pin p.row p.column

    pin-begins : (k : PlaceKind) (r c : ℕ) → T (is_pin_kind (at k r c)) → T (is_place J (at k r c)) → count rs (λ p. same_place (at k r c) (pin_of p)) ≡ 1
    pin-begins pin r c a b = F.whole r c b
    pin-begins missing r c a b = absurd a
    pin-begins centre r c a b = absurd a
    pin-begins outside r c a b = absurd a
    pin-begins nowhere r c a b = absurd a
    pin-begins (side d) r c a b = absurd (omega (arith, eqb→eq (5 + compass_code d) 0 a))

    pin-paid : (x : Place) → Memᴰ x pins → price x ≤ total rs (λ p. when (same_place x (pin_of p)) (price x))
    pin-paid x m = by (count-some rs (λ p. same_place x (pin_of p)))
      where
        u : T (is_pin_kind x && is_place J x)
        u = every-at pins pin_test chosen m

        begins : count rs (λ p. same_place x (pin_of p)) ≡ 1
        begins = pin-begins x.kind x.row x.column (and_left (is_pin_kind x) (is_place J x) u) (and_right (is_pin_kind x) (is_place J x) u)

        by : (count rs (λ p. same_place x (pin_of p)) ≡ 0) ⊎ ((p : Route J) × Memᴰ p rs × T (same_place x (pin_of p)))
            → price x ≤ total rs (λ p. when (same_place x (pin_of p)) (price x))
        by (inl z) = absurd (omega (arith, begins))
        by (inr (p, n, s)) = omega (arith, total-has rs (λ p. when (same_place x (pin_of p)) (price x)) n, when-so (same_place x (pin_of p)) (price x) s)

    pins-paid : total pins price ≤ total rs (λ p. price (pin_of p))
    pins-paid =
        omega (
          arith,
          total-le-in pins price (λ x. total rs (λ p. when (same_place x (pin_of p)) (price x))) pin-paid,
          total-swap pins rs (λ x p. when (same_place x (pin_of p)) (price x)),
          total-le rs (λ p. total pins (λ x. when (same_place x (pin_of p)) (price x))) (λ p. price (pin_of p))
              (λ p. once-total price (pin_of p) pins (once-by-test pins once (pin_of p))),
        )

    -- No family of routes is shorter than the prices of its pins less the tolls.
    pub tolls-least : T steps_test → price the_outside ≡ 0 → T limited_test → total pins price ≤ routes_length J rs + total tolls (λ l. size (limit J l))
    tolls-least t z l = omega (arith, pins-paid, routes-pay t z l rs F.together)

-- ---- the least length

module _ (J : Job) (rs : List (Route J)) where
  abbrev pub whole_test : Bool
  whole_test = every (places J) (λ x. not (is_pin_kind x) || eqb (begun J rs x.row x.column) 1)

  pub family-by-test : T (together_test J rs) → T whole_test → Family J rs
  family-by-test t w =
      record {
        together = together-by-test J rs t;
        whole = λ r c h.
            eqb→eq (begun J rs r c) 1
            (every-at (places J) (λ x. not (is_pin_kind x) || eqb (begun J rs x.row x.column) 1) w (place-listed J (at pin r c) h));
      }

  -- what is tested: routes that are a family, and prices and tolls that no family goes below
  pub record LeastTests (n : ℕ) (price : Place → ℕ) (tolls : List Link) (pins : List Place) : Type 0 where
    pub together : T (together_test J rs)
    pub whole : T whole_test
    pub meets : routes_length J rs ≡ n
    pub steps : T (steps_test J price tolls)
    pub outside : price the_outside ≡ 0
    pub limited : T (limited_test J price tolls)
    pub chosen : T (every pins (pin_test J price tolls))
    pub once : T (every pins (λ x. leb (count pins (λ z. same_place z x)) 1))
    pub worth : total pins price ≡ n + total tolls (λ l. size (limit J l))

  pub least-by-test : {n : ℕ} (price : Place → ℕ) (tolls : List Link) (pins : List Place) → LeastTests n price tolls pins → LeastLength J n
  least-by-test price tolls pins t =
      record {
        routes = rs;
        family = family-by-test t.together t.whole;
        meets = t.meets;
        least = λ qs F. omega (arith, t.worth, tolls-least J price tolls pins t.chosen t.once qs F t.steps t.outside t.limited);
      }
