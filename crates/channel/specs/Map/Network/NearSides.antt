-- A near side of document 01 is a near side of the network with the same sum, both ways: a dart leaves the set where its step does, and a passage where
-- the place is split. Assumes nothing.
use Rattle.std.specs.Prelude.{◌≡◌, refl, ◌⊎◌, Bool, true, false, ◌&&◌}
use Rattle.std.proofs.Math.Path.{sym, ap, ap₂}
use Rattle.std.proofs.Common.{◌∙◌, subst, inl, inr}
use Rattle.std.proofs.Math.Bool.{not}
use Rattle.std.proofs.Math.Option.{some}
use Prim.Native.Nat.{ℕ, ◌+◌, ◌/◌, ◌<◌}
use native.Mathlib.Omega.{arith}
use Rattle.std.proofs.Math.Dec.{T, not_T}
use Rattle.sums.specs.Counting.{when, count}
use Rattle.sums.specs.Tests.{and_left, and_right, and_both, both_ways}
use Rattle.sums.specs.Sums.{when-add, when-when, when-none, when-some, sum-cong, sum-add, when-and}
use Rattle.sums.specs.Totals.{total-cong}
use Rattle.flow.specs.Cut.{Near as NetNear, leaves as net_leaves, over, cut}
use Rattle.model.specs.Job.{Job, array_fits}
use Rattle.model.specs.Links.{Place, the_outside, is_place, is_pin_kind, places, Step, head, tail, may, limit, pass}
use Rattle.model.specs.Near.{entry_of, entry, exit, size, far_pin, leaves, splits, Near, near_sum}
use Rattle.channel.specs.Map.{spots, darts, rev, step_of, is_link_dart, is_pass_dart, passed_of, cap, free, is_start, want, outside}
use Rattle.channel.specs.Map.Steps.{link-tail, link-head, pass-ends, dart_of}
use Rattle.channel.specs.Map.Network.{net}
use Rattle.channel.specs.Map.Limits.{free-link, free-may, free-unlimited, not-free-limited}
use Rattle.channel.specs.Map.{EndsAt}
use Rattle.channel.specs.Map.Taken.{may-dart}
use Rattle.channel.specs.Map.Spots.{spot-front, spot-inside}
use Rattle.channel.specs.Map.Sums.{sum-links, sum-passes, sum-starts}

-- the set holds only entries and exits of places
abbrev OfPlaces : Job → (ℕ → Bool) → Type 0
OfPlaces J S = (i : ℕ) → T (S i) → (x : Place) × T (is_place J x) × ((i ≡ entry x) ⊎ (i ≡ exit x))

-- conditions taken in another order, one of them in other words
when-other-words : (a b c : Bool) (x : ℕ) → (T b → a ≡ c) → when a (when b x) ≡ when b (when c x)
when-other-words a true c x h = ap (λ (t : Bool). when t x) (h tt)
when-other-words a false c x h = when-none a 0 (λ t. refl)

module _ (J : Job) (fits : T (array_fits J.rows J.columns)) (S : ℕ → Bool) where
  -- ---- what leaves the set

  -- the step's tail is near, its head is not
  abbrev crosses : Step → Bool
  crosses s = S (exit (tail J s)) && not (S (entry (head J s)))

  module _ (of : OfPlaces J S) where
    -- no spot outside is near
    outside-far : (u : ℕ) → T (outside J u) → T (S u) → ⊥
    outside-far u o t = spot-inside J fits u (of u t) o

    -- nor is the number of the outside
    zero-far : T (S (entry the_outside)) → ⊥
    unfolding entry_of
    zero-far t = omega (arith, spot-front J 0 (of 0 t))

    link-leaves : (d : ℕ) → d < darts → T (is_link_dart d) → T (may J (step_of d)) → net_leaves (net J) S d ≡ crosses (step_of d)
    unfolding net EndsAt
    link-leaves d l t m =
        ap₂ (λ (a b : Bool). a && not b) (ap S (sym (link-tail J fits d l t m).0)) (by (link-head J fits d l t m))
      where
        s : Step
        s = step_of d

        by : EndsAt J (head J s) (rev d / 8) → S (rev d / 8) ≡ S (entry (head J s))
        by (inl (p, e)) = ap S (sym e)
        by (inr (e, o)) =
            both_ways (S (rev d / 8)) (S (entry (head J s))) (λ u. absurd (outside-far (rev d / 8) o u))
            (λ u. absurd (zero-far (subst (λ (x : Place). T (S (entry x))) e u)))

    pass-leaves : (d : ℕ) → d < darts → T (is_pass_dart d) → net_leaves (net J) S d ≡ splits J S (passed_of d)
    unfolding net
    pass-leaves d l t =
        let (e, f) = pass-ends d l t in
        ap₂ (λ (a b : Bool). a && not b) (ap S (sym e)) (ap S (sym f))

  -- ---- near sides

  pub near-net : Near J S → NetNear (net J) S
  unfolding net
  near-net near =
      record {
        inside = λ u l t. not_T (outside J u) (λ o. outside-far near.within u o t);
        limited = λ d l t. not_T (free J d) (kept d l t);
      }
    where
      kept : (d : ℕ) → d < darts → T (net_leaves (net J) S d) → T (free J d) → ⊥
      kept d l t f =
          let s = step_of d in
          let m : T (may J s) = free-may J d f in
          let (k, e) = near.limited s (and_both (may J s) (crosses s) m (subst T (link-leaves near.within d l (free-link J d f) m) t)) in
          free-unlimited J d f k e

  pub net-near : OfPlaces J S → NetNear (net J) S → Near J S
  unfolding net
  net-near of near = record { within = of; limited = kept }
    where
      kept : (s : Step) → T (leaves J S s) → (k : ℕ) × (limit J s.link ≡ some k)
      kept s t =
          let m : T (may J s) = and_left (may J s) (crosses s) t in
          let (l, u, q) = may-dart J fits s m in
          let d = dart_of s in
          let v : T (may J (step_of d)) = rw q m in
          let w : T (net_leaves (net J) S d) = rw (link-leaves of d l u v, q) (and_right (may J s) (crosses s) t) in
          let (k, e) = not-free-limited J d (near.limited d l w) u v in
          (k, ap (λ (y : Step). limit J y.link) (sym q) ∙ e)

  -- ---- their sums

  step_term : Step → ℕ
  step_term s = when (leaves J S s) (size (limit J s.link))

  place_term : Place → ℕ
  place_term x = when (splits J S x) (size (pass J x))

  far-sum : over (net J) (λ u. not (S u)) (want J) ≡ count (places J) (far_pin J S)
  unfolding net want
  far-sum =
      sum-cong spots _ _ (λ u l. when-when (not (S u)) (is_start J u) 1)
      ∙ sum-starts J fits (λ u. when (not (S u)) 1)
      ∙ total-cong (places J) _ _ (λ x. when-and (is_pin_kind x) (not (S (exit x))) 1)

  dart-term : OfPlaces J S → (d : ℕ) → d < darts → when (net_leaves (net J) S d) (cap J d)
      ≡ when (is_link_dart d) (step_term (step_of d)) + when (is_pass_dart d && is_place J (passed_of d)) (place_term (passed_of d))
  unfolding cap step_term place_term
  dart-term of d l =
      let s = step_of d in
      let x = passed_of d in
      when-add (net_leaves (net J) S d) (when (is_link_dart d && may J s) (size (limit J s.link))) (when (is_pass_dart d && is_place J x) (size (pass J x)))
      ∙ ap₂ ◌+◌
      (when-other-words (net_leaves (net J) S d) (is_link_dart d && may J s) (crosses s) (size (limit J s.link))
      (λ t. link-leaves of d l (and_left (is_link_dart d) (may J s) t) (and_right (is_link_dart d) (may J s) t))
      ∙ sym (when-and (is_link_dart d) (may J s) (when (crosses s) (size (limit J s.link))))
      ∙ ap (when (is_link_dart d)) (when-and (may J s) (crosses s) (size (limit J s.link))))
      (when-other-words (net_leaves (net J) S d) (is_pass_dart d && is_place J x) (splits J S x) (size (pass J x))
      (λ t. pass-leaves of d l (and_left (is_pass_dart d) (is_place J x) t)))

  pub near-cut : OfPlaces J S → near_sum J S ≡ cut (net J) S
  unfolding net near_sum step_term place_term
  near-cut of =
      omega (
        arith,
        far-sum,
        sum-cong darts _ _ (dart-term of),
        sum-add darts (λ d. when (is_link_dart d) (step_term (step_of d))) (λ d. when (is_pass_dart d && is_place J (passed_of d)) (place_term (passed_of d))),
        sum-links J fits step_term (λ s p. and_left (may J s) (crosses s) (when-some (leaves J S s) (size (limit J s.link)) p).0),
        sum-passes J fits place_term (λ x e. when-none (splits J S x) (size (pass J x)) (λ t. ap size e)),
      )
