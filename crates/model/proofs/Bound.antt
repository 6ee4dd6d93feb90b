-- No routes that together exceed no limit are more than the sum of a near side: each route whose pin is near leaves the near side somewhere, along a
-- link with a limit or through a centre or missing pin; so the limits there bound them. Assumes nothing.
use mathlib.Core.Path.{◌≡◌, refl, sym, ap, subst}
use mathlib.Core.Logic.{◌⊎◌, inl, inr}
use mathlib.Core.Bool.{Bool, true, false, not, ◌&&◌}
use mathlib.Core.List.{List, [], ◌∷◌}
use mathlib.Core.Option.{some}
use Prim.Native.Nat.{ℕ, ◌+◌, ◌≤◌, ◌<◌}
use native.Mathlib.Omega.{arith}
use lib.Dec.{T}
use lib.ListN.{length}
use Rattle.sums.specs.Counting.{when, total}
use Rattle.sums.specs.Tests.{and_both, and-not, so, so-not}
use Rattle.sums.specs.Sums.{when-add, when-le, when-so}
use Rattle.sums.specs.Totals.{total-add, total-le, total-has}
use Rattle.model.specs.Job.{Job}
use Rattle.model.specs.Links.{compass_code, PlaceKind, pin, missing, centre, outside, nowhere, side, Place, at, holds, is_place, places, same_place, Link, same_link, Step, head, tail, enters, may, limit, pass, around}
use Rattle.model.specs.Route.{Chain, Route, uses, visits, begun, Together}
use Rattle.model.specs.Near.{spot, entry_of, exit_of, entry, exit, size, far_pin, leaves, splits, Near, near_sum}
use Rattle.model.proofs.Listed.{place-listed, step-listed, may-leaves, may-enters}
use Rattle.model.proofs.Same.{same_place_lem, same-link}

-- ---- no place has the number 0

entry-pos : (J : Job) (k : PlaceKind) (r c : ℕ) → T (holds J k r c) → 0 < entry_of k r c
unfolding entry_of
entry-pos J pin r c t = omega arith
entry-pos J missing r c t = omega arith
entry-pos J centre r c t = omega arith
entry-pos J outside r c t = absurd t
entry-pos J nowhere r c t = absurd t
entry-pos J (side d) r c t = omega arith

exit-pos : (J : Job) (k : PlaceKind) (r c : ℕ) → T (holds J k r c) → 0 < exit_of k r c
unfolding exit_of
exit-pos J pin r c t = omega arith
exit-pos J missing r c t = omega arith
exit-pos J centre r c t = omega arith
exit-pos J outside r c t = absurd t
exit-pos J nowhere r c t = absurd t
exit-pos J (side d) r c t = omega arith

module _ (J : Job) (S : ℕ → Bool) where
  -- ---- what is counted at the border of the near side

  abbrev far : (Place → ℕ) → ℕ
  far b = total (places J) (λ x. when (far_pin J S x) (b x))

  abbrev out : (Link → ℕ) → ℕ
  out u = total (places J) (λ x. total (around x) (λ s. when (leaves J S s) (u s.link)))

  abbrev through : (Place → ℕ) → ℕ
  through v = total (places J) (λ x. when (splits J S x) (v x))

  far-add : (a b : Place → ℕ) → far (λ x. a x + b x) ≡ far a + far b
  far-add a b = simp (when-add, total-add)

  out-add : (a b : Link → ℕ) → out (λ x. a x + b x) ≡ out a + out b
  out-add a b = simp (when-add, total-add)

  through-add : (a b : Place → ℕ) → through (λ x. a x + b x) ≡ through a + through b
  through-add a b = simp (when-add, total-add)

  far-le : (a b : Place → ℕ) → ((x : Place) → T (far_pin J S x) → a x ≤ b x) → far a ≤ far b
  far-le a b h = total-le (places J) _ _ (λ x. when-le (far_pin J S x) (a x) (b x) (h x))

  out-le : (a b : Link → ℕ) → ((s : Step) → T (leaves J S s) → a s.link ≤ b s.link) → out a ≤ out b
  out-le a b h = total-le (places J) _ _ (λ x. total-le (around x) _ _ (λ s. when-le (leaves J S s) (a s.link) (b s.link) (h s)))

  through-le : (a b : Place → ℕ) → ((x : Place) → T (splits J S x) → a x ≤ b x) → through a ≤ through b
  through-le a b h = total-le (places J) _ _ (λ x. when-le (splits J S x) (a x) (b x) (h x))

  -- only a centre or a missing pin has its entry near and its exit not
  pub split-limit : (k : PlaceKind) (r c : ℕ) → T (splits J S (at k r c)) → (m : ℕ) × (pass J (at k r c) ≡ some m)
  unfolding entry_of exit_of
  split-limit pin r c t = absurd (and-not (S (spot 1 r c)) t)
  split-limit missing r c t = (_, refl)
  split-limit centre r c t = (_, refl)
  split-limit outside r c t = absurd (and-not (S 0) t)
  split-limit nowhere r c t = absurd (and-not (S 0) t)
  split-limit (side d) r c t = absurd (and-not (S (spot (2 + compass_code d) r c)) t)

  -- ---- the steps of one route

  -- they are counted at the border
  abbrev Counted : List Step → Type 0
  Counted ss = 1 ≤ out (λ l. uses l ss) + through (λ x. visits J x ss)

  by-link : (s : Step) (ss : List Step) → T (may J s) → T (leaves J S s) → Counted (s ∷ ss)
  unfolding total
  by-link s ss m t =
      omega (
        arith,
        total-has (places J) (λ x. total (around x) (λ s'. when (leaves J S s') (uses s'.link (s ∷ ss)))) (place-listed J (tail J s) (may-leaves J s m)),
        total-has (around (tail J s)) (λ s'. when (leaves J S s') (uses s'.link (s ∷ ss))) (step-listed J s (may-leaves J s m)),
        when-so (leaves J S s) (uses s.link (s ∷ ss)) t,
        when-so (same_link s.link s.link) 1 (same-link s.link),
      )

  by_place : (s : Step) (ss : List Step) → T (is_place J (head J s)) → T (splits J S (head J s)) → Counted (s ∷ ss)
  unfolding total
  by_place s ss p t =
      let y : Place = head J s in
      omega (
        arith,
        total-has (places J) (λ x. when (splits J S x) (visits J x (s ∷ ss))) (place-listed J y p),
        when-so (splits J S y) (visits J y (s ∷ ss)) t,
        when-so (same_place y y) 1 (same_place_lem y),
      )

  by-rest : (s : Step) (ss : List Step) → Counted ss → Counted (s ∷ ss)
  unfolding total
  by-rest s ss h =
      omega (
        arith,
        out-add (λ l. when (same_link l s.link) 1) (λ l. uses l ss),
        through-add (λ x. when (same_place x (head J s)) 1) (λ x. visits J x ss),
      )

  -- ---- several routes

  abbrev used : List (Route J) → Link → ℕ
  used rs l = total rs (λ p. uses l p.steps)

  abbrev visited : List (Route J) → Place → ℕ
  visited rs x = total rs (λ p. visits J x p.steps)

  abbrev begun_at : List (Route J) → Place → ℕ
  begun_at rs x = begun J rs x.row x.column

  through-size : (rs : List (Route J)) → Together J rs → (x : Place) → T (splits J S x) → visited rs x ≤ size (pass J x)
  through-size rs F x t =
      let (k, e) = split-limit x.kind x.row x.column t in
      omega (arith, F.passing x k e, ap size e)

  module _ (near : Near J S) where
    pub far-outside : T (S 0) → ⊥
    far-outside t = by (near.within 0 t).0 (near.within 0 t).1 (near.within 0 t).2
      where
        by : (x : Place) → T (is_place J x) → (0 ≡ entry x) ⊎ (0 ≡ exit x) → ⊥
        by x p (inl e) = omega (arith, entry-pos J x.kind x.row x.column p)
        by x p (inr e) = omega (arith, exit-pos J x.kind x.row x.column p)

    -- what may be entered and is near is a place
    entered-held : (k : PlaceKind) (r c : ℕ) → T (enters J k r c) → T (S (entry_of k r c)) → T (holds J k r c)
    unfolding entry_of
    entered-held pin r c t u = absurd t
    entered-held missing r c t u = t
    entered-held centre r c t u = t
    entered-held outside r c t u = absurd (far-outside u)
    entered-held nowhere r c t u = absurd t
    entered-held (side d) r c t u = t

    chain-counted : (x : Place) (ss : List Step) → Chain J x ss → T (S (exit x)) → Counted ss
    unfolding exit_of
    chain-counted x [] c t = absurd (far-outside (subst (λ (y : Place). T (S (exit y))) c t))
    chain-counted x (s ∷ ss) c t = by (S (entry (head J s))) refl (S (exit (head J s))) refl (chain-counted (head J s) ss c.2)
      where
        from : T (S (exit (tail J s)))
        from = subst (λ (y : Place). T (S (exit y))) (sym c.0) t

        by : (a : Bool) → S (entry (head J s)) ≡ a → (b : Bool) → S (exit (head J s)) ≡ b → (T b → Counted ss) → Counted (s ∷ ss)
        by true e true f r = by-rest s ss (r tt)
        by true e false f r =
            by_place s ss
            (entered-held (head J s).kind (head J s).row (head J s).column (may-enters J s c.1) (so e))
            (and_both (S (entry (head J s))) (not (S (exit (head J s)))) (so e) (so-not f))
        by false e b f r =
            by-link s ss c.1
            (and_both (may J s) (S (exit (tail J s)) && not (S (entry (head J s)))) c.1
            (and_both (S (exit (tail J s))) (not (S (entry (head J s)))) from (so-not e)))

    route-counted : (p : Route J) → 1 ≤ far (λ x. when (same_place (at pin x.row x.column) (at pin p.row p.column)) 1)
        + (out (λ l. uses l p.steps) + through (λ x. visits J x p.steps))
    route-counted p = by (S (exit x)) refl
      where
        x : Place
        x = at pin p.row p.column

        by : (b : Bool) → S (exit x) ≡ b → 1 ≤ far (λ y. when (same_place (at pin y.row y.column) x) 1)
            + (out (λ l. uses l p.steps) + through (λ y. visits J y p.steps))
        by true e = omega (arith, chain-counted x p.steps p.chain (so e))
        by false e =
            omega (
              arith,
              total-has (places J) (λ y. when (far_pin J S y) (when (same_place (at pin y.row y.column) x) 1)) (place-listed J x p.chosen),
              when-so (far_pin J S x) (when (same_place x x) 1) (so-not e),
              when-so (same_place x x) 1 (same_place_lem x),
            )

    routes-counted : (rs : List (Route J)) → length rs ≤ far (begun_at rs) + (out (used rs) + through (visited rs))
    unfolding total
    routes-counted [] = omega arith
    routes-counted (p ∷ rs) =
        omega (
          arith,
          route-counted p,
          routes-counted rs,
          far-add (λ x. when (same_place (at pin x.row x.column) (at pin p.row p.column)) 1) (begun_at rs),
          out-add (λ l. uses l p.steps) (used rs),
          through-add (λ x. visits J x p.steps) (visited rs),
        )

    out-size : (rs : List (Route J)) → Together J rs → (s : Step) → T (leaves J S s) → used rs s.link ≤ size (limit J s.link)
    out-size rs F s t =
        let (k, e) = near.limited s t in
        omega (arith, F.links s.link k e, ap size e)

    -- weak duality
    pub routes-le-sum : (rs : List (Route J)) → Together J rs → length rs ≤ near_sum J S
    unfolding near_sum
    routes-le-sum rs F =
        omega (
          arith,
          routes-counted rs,
          far-le (begun_at rs) (λ x. 1) (λ x t. F.pins x.row x.column),
          out-le (used rs) (λ l. size (limit J l)) (out-size rs F),
          through-le (visited rs) (λ x. size (pass J x)) (through-size rs F),
        )
