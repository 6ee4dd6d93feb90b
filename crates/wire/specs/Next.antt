-- The hop that follows a hop: a loaded lane that comes to a place goes on there as the lane at its partner's position, which is loaded and leaves the
-- place, and two lanes never go on as one. For the pairing round the place is perfect, since as many wires come as leave. Assumes nothing.
use Rattle.std.specs.Prelude.{◌≡◌, refl, ◌⊎◌, Bool, true, false, ℕ, ◌<◌, T}
use Rattle.std.proofs.Common.{sym, ap₂, subst, ◌∙◌, inl, inr, arith}
use Rattle.std.proofs.Math.Path.{ap}
use Rattle.std.proofs.Math.Option.{none, some}
use Rattle.std.proofs.Math.ListN.{get_elem?}
use Rattle.sums.specs.Counting.{total}
use Rattle.sums.specs.Tests.{so, so-not}
use Rattle.sums.specs.Entries.{none-some, some_one, entry-member, has-entry}
use Rattle.model.specs.Job.{Job}
use Rattle.model.specs.Links.{Place, the_outside, is_place, is_entered, same_link, Step, head, tail, turn, may, around}
use Rattle.model.specs.Loads.{departures, arrivals, Feasible}
use Rattle.model.specs.Wires.{ends_on, Hop, leaving, onward}
use Rattle.model.proofs.Listed.{may-enters}
use Rattle.model.proofs.Same.{same-link}
use Rattle.pairing.specs.Slots.{arrival_pos, departure_pos, arrival-one}
use Rattle.pairing.specs.Lanes.{lanes_in, lanes_out, in-load}
use Rattle.pairing.specs.Leaving.{around-apart, partner_on, Departs, arrival-within, lanes-perfect, arrival-partner, leaving-lane}
use Rattle.wire.specs.Ways.{turn-turn, turn-listed}
use Rattle.wire.specs.Around.{around-leaves, step-lands}

-- the lane of the hop carries a wire
abbrev pub Loaded : (Step → ℕ) → Hop → Type 0
Loaded f h = h.lane < f h.step

module _ (J : Job) (f : Step → ℕ) (F : Feasible J f) where
  -- a step that may not be taken carries nothing
  pub loaded-may : (s : Step) → 0 < f s → T (may J s)
  loaded-may s h = by (may J s) refl (may J (turn s)) refl
    where
      by : (a : Bool) → may J s ≡ a → (b : Bool) → may J (turn s) ≡ b → T (may J s)
      by true e b g = so e
      by false e true g = absurd (omega (arith, F.against s (so-not e) (so g)))
      by false e false g = absurd (omega (arith, F.nowhere s (so-not e) (so-not g)))

  pub hop-may : (h : Hop) → Loaded f h → T (may J h.step)
  hop-may h l = loaded-may h.step (omega arith)

  -- ---- the lanes round a place

  -- the hop h comes to x by the link of a slot
  record Comes (x : Place) (h : Hop) : Type 0 where
    slot : ℕ
    there : get_elem? (around x) slot ≡ some (turn h.step)
    loaded : h.lane < f (turn (turn h.step))

  comes : (x : Place) (h : Hop) → Loaded f h → head J h.step ≡ x → T (is_place J x) → Comes x h
  comes x h l e p =
      let (k, g) = has-entry (turn-listed J h.step x e p) in
      record { slot = k; there = g; loaded = subst (λ (u : Step). h.lane < f u) (sym (turn-turn h.step)) l }

  -- where its lane stands in the sequence
  abbrev position : (x : Place) (h : Hop) → Comes x h → ℕ
  position x h C = arrival_pos (lanes_in f (around x)) (lanes_out f (around x)) C.slot h.lane

  pub even-at : (x : Place) → T (is_place J x) → T (is_entered J x) → total (around x) (λ s. f (turn s)) ≡ total (around x) f
  unfolding arrivals departures
  even-at = F.balance

  -- the lane that is its partner
  abbrev Joined : (x : Place) (h : Hop) → Comes x h → Type 0
  Joined x h C = Departs f (around x) (partner_on f (around x) (position x h C))

  joined : (x : Place) (h : Hop) → T (is_place J x) → T (is_entered J x) → (C : Comes x h) → Joined x h C
  joined x h p t C = arrival-partner f (around x) (even-at x p t) C.slot h.lane (turn h.step) C.there C.loaded

  joined-leaves : (x : Place) (h : Hop) (C : Comes x h) (A : Joined x h C)
      → leaving f x h.step.link h.lane ≡ some (record { step = A.step; lane = A.lane })
  joined-leaves x h C A =
      leaving-lane f x C.slot h.lane (turn h.step) C.there C.loaded A.slot A.lane A.step A.there A.loaded A.place

  -- the hop after h
  pub record After (h : Hop) : Type 0 where
    pub hop : Hop
    pub follows : onward J f (some h) ≡ some hop
    pub loaded : Loaded f hop
    pub leaves : tail J hop.step ≡ head J h.step

  pub goes_on_lem : (h : Hop) → Loaded f h → T (is_place J (head J h.step)) → After h
  goes_on_lem h l p =
      let x : Place = head J h.step in
      let C : Comes x h = comes x h l refl p in
      let A : Joined x h C = joined x h p (may-enters J h.step (hop-may h l)) C in
      record {
        hop = record { step = A.step; lane = A.lane };
        follows = joined-leaves x h C A;
        loaded = A.loaded;
        leaves = around-leaves J x p A.step (entry-member (around x) A.slot A.step A.there);
      }

  -- ---- nothing follows the hop to the outside

  pub ends-outside : (h : Hop) → head J h.step ≡ the_outside → onward J f (some h) ≡ none
  unfolding leaving ends_on
  ends-outside h e = ap (λ (y : Place). leaving f y h.step.link h.lane) e

  -- ---- no two hops go on as one

  place_of : (h v : Hop) → Loaded f h → onward J f (some h) ≡ some v → T (is_place J (head J h.step))
  place_of h v l e = by (step-lands J h.step (hop-may h l))
    where
      by : (head J h.step ≡ the_outside) ⊎ T (is_place J (head J h.step)) → T (is_place J (head J h.step))
      by (inl o) = absurd (none-some v (sym (ends-outside h o) ∙ e))
      by (inr p) = p

  -- a hop that follows is the one of `goes_on`
  pub follow-leaves : (h v : Hop) → Loaded f h → onward J f (some h) ≡ some v → tail J v.step ≡ head J h.step
  follow-leaves h v l e =
      let A : After h = goes_on_lem h l (place_of h v l e) in
      ap (λ (u : Hop). tail J u.step) (some_one v A.hop (sym e ∙ A.follows)) ∙ A.leaves

  -- partners that are one lane have one position
  one-position : (x : Place) (h k : Hop) (C : Comes x h) (D : Comes x k) → T (is_place J x) → T (is_entered J x) → (A : Joined x h C) (B : Joined x k D)
      → A.step ≡ B.step → A.lane ≡ B.lane → position x h C ≡ position x k D
  one-position x h k C D p t A B s i =
      let P = lanes-perfect f (around x) (even-at x p t) in
      let j : A.slot ≡ B.slot =
      around-apart x A.slot B.slot A.step B.step A.there B.there
      (subst (λ (u : Step). T (same_link A.step.link u.link)) s (same-link A.step.link)) in
      let e = A.place ∙ (ap₂ (departure_pos (lanes_in f (around x)) (lanes_out f (around x))) j i ∙ sym B.place) in
      sym (P.twice (position x h C) (arrival-within f (around x) C.slot h.lane (turn h.step) C.there C.loaded))
      ∙ (ap (partner_on f (around x)) e
      ∙ P.twice (position x k D) (arrival-within f (around x) D.slot k.lane (turn k.step) D.there D.loaded))

  one-arrival : (x : Place) (h k : Hop) (C : Comes x h) (D : Comes x k) → position x h C ≡ position x k D → h ≡ k
  one-arrival x h k C D e =
      let (j, i) =
      arrival-one (lanes_in f (around x)) (lanes_out f (around x)) C.slot h.lane D.slot k.lane
      (in-load f (around x) C.slot h.lane (turn h.step) C.there C.loaded)
      (in-load f (around x) D.slot k.lane (turn k.step) D.there D.loaded) e in
      let back : turn h.step ≡ turn k.step =
      some_one (turn h.step) (turn k.step) (sym C.there ∙ (ap (get_elem? (around x)) j ∙ D.there)) in
      let s : h.step ≡ k.step = sym (turn-turn h.step) ∙ (ap turn back ∙ turn-turn k.step) in
      λ n. record { step = s n; lane = i n }

  pub follow_one : (h k v : Hop) → Loaded f h → Loaded f k → onward J f (some h) ≡ some v → onward J f (some k) ≡ some v → h ≡ k
  follow_one h k v a b d e =
      let x : Place = head J h.step in
      let come : head J k.step ≡ x = sym (follow-leaves k v b e) ∙ follow-leaves h v a d in
      let p : T (is_place J x) = place_of h v a d in
      let t : T (is_entered J x) = may-enters J h.step (hop-may h a) in
      let C : Comes x h = comes x h a refl p in
      let D : Comes x k = comes x k b come p in
      let A : Joined x h C = joined x h p t C in
      let B : Joined x k D = joined x k p t D in
      let one = some_one (record { step = A.step; lane = A.lane }) (record { step = B.step; lane = B.lane })
      (sym (joined-leaves x h C A) ∙ (d ∙ (sym e ∙ (ap (λ (y : Place). leaving f y k.step.link k.lane) come ∙ joined-leaves x k D B)))) in
      one-arrival x h k C D (one-position x h k C D p t A B (ap (λ (u : Hop). u.step) one) (ap (λ (u : Hop). u.lane) one))
