-- Loaded hops, none of them twice: a step has at most as many of them as it has lanes, a link at most the load of both ways, and a place is come to at
-- most as often as wires arrive there. So they keep to the limits of the loads. Where all loaded hops are there, a link has exactly its load of them.
-- Assumes nothing.
use Rattle.std.specs.Prelude.{◌≡◌, refl, ◌⊎◌, Bool, true, false, ◌&&◌, ℕ, ◌+◌, ◌≤◌, ◌<◌, T, eqb}
use Rattle.std.proofs.Common.{sym, subst, ◌∙◌, inl, inr, eqb→eq}
use Rattle.std.specs.Bool.{beq}
use mathlib.Core.List.{List, Memᴰ}
use Rattle.std.proofs.Math.Option.{some}
use native.Mathlib.Omega.{arith}
use Rattle.std.proofs.Math.Dec.{eqb_refl}
use Rattle.sums.specs.Counting.{when, sum, count}
use Rattle.sums.specs.Tests.{so, and_left, and_right, and_both, count-some}
use Rattle.sums.specs.Sums.{when-so, sum-le, sum-none, sum-pick, sum_ones}
use Rattle.sums.specs.Totals.{total-add, total-le, total-cong, total-has, total-le-in, total-swap, total-sum}
use Rattle.sums.specs.Entries.{none-some}
use Rattle.model.specs.Job.{Job}
use Rattle.model.specs.Links.{PlaceKind, pin, missing, centre, outside, nowhere, side, Place, is_place, is_entered, same_place, holds, enters, Link, same_link, same_step, Step, head, turn, around, limit, pass_of, pass}
use Rattle.model.specs.Loads.{arrivals, Feasible}
use Rattle.model.specs.Wires.{Hop}
use Rattle.model.proofs.Listed.{may-enters}
use Rattle.model.proofs.Same.{same-link, same-link-eq, same-place-eq}
use Rattle.wire.specs.Ways.{way, turn-turn, turn-listed}
use Rattle.wire.specs.Next.{Loaded, hop-may}
use Rattle.wire.specs.Places.{sum_one}

-- ---- sameness of steps and hops

abbrev pub same_hop : Hop → Hop → Bool
same_hop h k = same_step h.step k.step && eqb k.lane h.lane

beq-refl : (b : Bool) → T (beq b b)
beq-refl true = tt
beq-refl false = tt

beq-eq : (a b : Bool) → T (beq a b) → a ≡ b
beq-eq true true t = refl
beq-eq true false t = absurd t
beq-eq false true t = absurd t
beq-eq false false t = refl

pub same_step_lem : (s : Step) → T (same_step s s)
same_step_lem s = and_both (same_link s.link s.link) (beq s.forth s.forth) (same-link s.link) (beq-refl s.forth)

pub same-step-eq : (s t : Step) → T (same_step s t) → s ≡ t
same-step-eq s t e =
    let l : s.link ≡ t.link = same-link-eq s.link t.link (and_left (same_link s.link t.link) (beq s.forth t.forth) e) in
    let w : s.forth ≡ t.forth = beq-eq s.forth t.forth (and_right (same_link s.link t.link) (beq s.forth t.forth) e) in
    λ i. record { link = l i; forth = w i }

pub same-hop-eq : (h k : Hop) → T (same_hop h k) → h ≡ k
same-hop-eq h k e =
    let s : h.step ≡ k.step = same-step-eq h.step k.step (and_left (same_step h.step k.step) (eqb k.lane h.lane) e) in
    let n : k.lane ≡ h.lane = eqb→eq k.lane h.lane (and_right (same_step h.step k.step) (eqb k.lane h.lane) e) in
    λ i. record { step = s i; lane = sym n i }

pub same-hop : (h : Hop) → T (same_hop h h)
same-hop h = and_both (same_step h.step h.step) (eqb h.lane h.lane) (same_step_lem h.step) (eqb_refl h.lane)

-- ---- hops

abbrev pub on : Step → ℕ → Hop
on s i = record { step = s; lane = i }

-- one test or the other
way-or : (a w : Bool) → when a 1 ≡ when (a && beq true w) 1 + when (a && beq false w) 1
way-or true true = refl
way-or true false = refl
way-or false w = refl

-- a hop by the step s has one of its lanes
pub one_lane : (f : Step → ℕ) (s : Step) (h : Hop) → Loaded f h → when (same_step s h.step) 1 ≤ sum (f s) (λ i. when (same_hop (on s i) h) 1)
one_lane f s h l = by (same_step s h.step) refl
  where
    by : (b : Bool) → same_step s h.step ≡ b → when b 1 ≤ sum (f s) (λ i. when (b && eqb h.lane i) 1)
    by true e = omega (arith, sum-pick (f s) h.lane (λ i. 1) (subst (λ (t : Step). h.lane < f t) (sym (same-step-eq s h.step (so e))) l))
    by false e = omega arith

-- and only one
pub lane-once : (f : Step → ℕ) (s : Step) (h : Hop) → sum (f s) (λ i. when (same_hop (on s i) h) 1) ≤ when (same_step s h.step) 1
lane-once f s h = by (same_step s h.step)
  where
    by : (b : Bool) → sum (f s) (λ i. when (b && eqb h.lane i) 1) ≤ when b 1
    by true = sum_one (f s) h.lane 1
    by false = omega (arith, sum-none (f s) (λ i. 0) (λ i k. refl))

-- a step to the place x is the turn of one around x
one-around : (J : Job) (x : Place) (s : Step) → T (is_place J x) → when (same_place x (head J s)) 1 ≤ count (around x) (λ t. same_step (turn t) s)
one-around J x s p = by (same_place x (head J s)) refl
  where
    by : (b : Bool) → same_place x (head J s) ≡ b → when b 1 ≤ count (around x) (λ t. same_step (turn t) s)
    by true e =
        omega (
          arith,
          total-has (around x) (λ t. when (same_step (turn t) s) 1) (turn-listed J s x (sym (same-place-eq x (head J s) (so e))) p),
          when-so (same_step (turn (turn s)) s) 1 (subst (λ (t : Step). T (same_step t s)) (sym (turn-turn s)) (same_step_lem s)),
        )
    by false e = omega arith

-- what may be entered and has a passing limit is a place
passing-place : (J : Job) (k : PlaceKind) (r c n : ℕ) → pass_of J k r c ≡ some n → T (enters J k r c) → T (holds J k r c)
passing-place J pin r c n e t = absurd t
passing-place J missing r c n e t = t
passing-place J centre r c n e t = t
passing-place J outside r c n e t = absurd (none-some n e)
passing-place J nowhere r c n e t = absurd t
passing-place J (side d) r c n e t = t

module _ (f : Step → ℕ) (hs : List Hop) (loaded : (h : Hop) → Memᴰ h hs → Loaded f h) (once : (h : Hop) → count hs (same_hop h) ≤ 1) where
  step-hops : (s : Step) → count hs (λ h. same_step s h.step) ≤ f s
  step-hops s =
      omega (
        arith,
        total-le-in hs (λ h. when (same_step s h.step) 1) (λ h. sum (f s) (λ i. when (same_hop (on s i) h) 1)) (λ h m. one_lane f s h (loaded h m)),
        total-sum hs (f s) (λ h i. when (same_hop (on s i) h) 1),
        sum-le (f s) (λ i. count hs (same_hop (on s i))) (λ i. 1) (λ i k. once (on s i)),
        sum_ones (f s),
      )

  -- a link is taken one way or the other
  link-ways : (l : Link) → count hs (λ h. same_link l h.step.link)
      ≡ count hs (λ h. same_step (way l true) h.step) + count hs (λ h. same_step (way l false) h.step)
  link-ways l =
      total-cong hs (λ h. when (same_link l h.step.link) 1) (λ h. when (same_step (way l true) h.step) 1 + when (same_step (way l false) h.step) 1)
      (λ h. way-or (same_link l h.step.link) h.step.forth)
      ∙ total-add hs (λ h. when (same_step (way l true) h.step) 1) (λ h. when (same_step (way l false) h.step) 1)

  module _ (all : (h : Hop) → Loaded f h → Memᴰ h hs) where
    lane-there : (s : Step) (i : ℕ) → i < f s → 1 ≤ count hs (same_hop (on s i))
    lane-there s i k =
        omega (
          arith,
          total-has hs (λ h. when (same_hop (on s i) h) 1) (all (on s i) k),
          when-so (same_hop (on s i) (on s i)) 1 (same-hop (on s i)),
        )

    pub step-full : (s : Step) → count hs (λ h. same_step s h.step) ≡ f s
    step-full s =
        omega (
          arith,
          step-hops s,
          sum_ones (f s),
          sum-le (f s) (λ i. 1) (λ i. count hs (same_hop (on s i))) (lane-there s),
          total-sum hs (f s) (λ h i. when (same_hop (on s i) h) 1),
          total-le hs (λ h. sum (f s) (λ i. when (same_hop (on s i) h) 1)) (λ h. when (same_step s h.step) 1) (lane-once f s),
        )

    pub link-full : (l : Link) → count hs (λ h. same_link l h.step.link) ≡ f (way l true) + f (way l false)
    link-full l = omega (arith, link-ways l, step-full (way l true), step-full (way l false))

  module _ (J : Job) (F : Feasible J f) where
    pub link-hops : (l : Link) (k : ℕ) → limit J l ≡ some k → count hs (λ h. same_link l h.step.link) ≤ k
    link-hops l k e =
        omega (arith, link-ways l, step-hops (way l true), step-hops (way l false), F.limits (way l true) k e)

    pub place-hops : (x : Place) → T (is_place J x) → count hs (λ h. same_place x (head J h.step)) ≤ arrivals f x
    unfolding arrivals
    place-hops x p =
        omega (
          arith,
          total-le hs (λ h. when (same_place x (head J h.step)) 1) (λ h. count (around x) (λ t. same_step (turn t) h.step))
              (λ h. one-around J x h.step p),
          total-swap hs (around x) (λ h t. when (same_step (turn t) h.step) 1),
          total-le (around x) (λ t. count hs (λ h. same_step (turn t) h.step)) (λ t. f (turn t)) (λ t. step-hops (turn t)),
        )

    pub passing-hops : (x : Place) (k : ℕ) → pass J x ≡ some k → count hs (λ h. same_place x (head J h.step)) ≤ k
    passing-hops x k e = by (count-some hs (λ h. same_place x (head J h.step)))
      where
        by : (count hs (λ h. same_place x (head J h.step)) ≡ 0) ⊎ ((h : Hop) × Memᴰ h hs × T (same_place x (head J h.step)))
            → count hs (λ h. same_place x (head J h.step)) ≤ k
        by (inl z) = omega arith
        by (inr (h, m, t)) =
            let q : T (is_entered J x) =
            subst (λ (y : Place). T (is_entered J y)) (sym (same-place-eq x (head J h.step) t)) (may-enters J h.step (hop-may J f F h (loaded h m))) in
            let p : T (is_place J x) = passing-place J x.kind x.row x.column k e q in
            omega (arith, place-hops x p, F.passing x k p e)
