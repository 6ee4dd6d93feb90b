-- Document 01, "Lanes and pairing": for as many arrivals as departures the partner of a lane that arrives is a lane that departs, and the other way round;
-- and a wire goes on by the partner of the lane on which it came. The links round a place are all different. Assumes nothing.
use Rattle.std.specs.Prelude.{◌≡◌, refl, Bool, true, false, not, ◌&&◌, List, [], ◌∷◌, ℕ, zero, suc, ◌+◌, ◌-◌, ◌≤◌, ◌<◌, T, eqb, length}
use Rattle.std.proofs.Common.{sym, ap₂, subst, ◌∙◌, arith, eqb→eq}
use Rattle.std.proofs.Math.Path.{ap, fun_ext}
use Rattle.std.proofs.Math.Option.{Option, none, some}
use Rattle.std.proofs.Math.Dec.{eqb_refl}
use Rattle.std.proofs.Math.ListN.{get_elem?}
use Rattle.sums.specs.Counting.{total}
use Rattle.sums.specs.Tests.{and_left, and_right, and_both, and-not, every, every-at}
use Rattle.sums.specs.Entries.{entry-below, entry-member}
use Rattle.model.specs.Links.{Place, Step, turn, around_of, around, link_code, same_link}
use Rattle.model.specs.Links.{north, east, south, west, PlaceKind, pin, missing, centre, outside, nowhere, side}
use Rattle.model.specs.Pairing.{pairs_of, partner_in}
use Rattle.model.specs.Wires.{End, ends_on, arrives, departing, leaving}
use Rattle.model.proofs.Listed.{around-five}
use Rattle.pairing.specs.Perfect.{Perfect, pairs-perfect}
use Rattle.pairing.specs.Slots.{start, arrival_pos, departure_pos, arrives_at, start-later, start-cong, arrives-cong}
use Rattle.pairing.specs.Lanes.{load_of, lanes_in, lanes_out, Apart, Entry, arrive, depart, done, entry, arrival-entry, departure-entry, ends-length}
use Rattle.pairing.specs.Lanes.{in-load, out-load, arrives-kind, arrival-found, ends-even}

-- ---- the links round a place

code_of : Step → ℕ
code_of s = link_code s.link.kind

-- no two steps are of links of one kind
codes_apart : List Step → Bool
codes_apart [] = true
codes_apart (s ∷ l) = every l (λ t. not (eqb (code_of s) (code_of t))) && codes_apart l

codes-differ : (a b : ℕ) → T (not (eqb a b)) → a ≡ b → ⊥
codes-differ a b t e = and-not (eqb a b) (and_both (eqb a b) (not (eqb a b)) (subst (λ (x : ℕ). T (eqb a x)) e (eqb_refl a)) t)

same_code : (s t : Step) → T (same_link s.link t.link) → code_of s ≡ code_of t
unfolding code_of
same_code s t h =
    eqb→eq (link_code s.link.kind) (link_code t.link.kind)
    (and_left (eqb (link_code s.link.kind) (link_code t.link.kind))
    (eqb s.link.row t.link.row && eqb s.link.column t.link.column) h)

codes-apart : (l : List Step) → T (codes_apart l) → Apart l
unfolding codes_apart
codes-apart [] h j k s t e g n = let z : ◌≡◌ {A = ℕ} 0 1 = cc in absurd (omega arith)
codes-apart (u ∷ l) h zero zero s t e g n = refl
codes-apart (u ∷ l) h zero (suc k) s t e g n =
    let q : u ≡ s = cc in
    absurd
    (codes-differ (code_of u) (code_of t)
    (every-at l (λ v. not (eqb (code_of u) (code_of v))) (and_left (every l (λ v. not (eqb (code_of u) (code_of v)))) (codes_apart l) h) (entry-member l k t g))
    (ap code_of q ∙ same_code s t n))
codes-apart (u ∷ l) h (suc j) zero s t e g n =
    let q : u ≡ t = cc in
    absurd
    (codes-differ (code_of u) (code_of s)
    (every-at l (λ v. not (eqb (code_of u) (code_of v))) (and_left (every l (λ v. not (eqb (code_of u) (code_of v)))) (codes_apart l) h) (entry-member l j s e))
    (ap code_of q ∙ sym (same_code s t n)))
codes-apart (u ∷ l) h (suc j) (suc k) s t e g n =
    ap suc (codes-apart l (and_right (every l (λ v. not (eqb (code_of u) (code_of v)))) (codes_apart l) h) j k s t e g n)

kinds-apart : (p : PlaceKind) (r c : ℕ) → T (codes_apart (around_of p r c))
unfolding codes_apart code_of every
kinds-apart pin r c = tt
kinds-apart missing r c = tt
kinds-apart centre r c = tt
kinds-apart outside r c = tt
kinds-apart nowhere r c = tt
kinds-apart (side north) r c = tt
kinds-apart (side east) r c = tt
kinds-apart (side south) r c = tt
kinds-apart (side west) r c = tt

pub around-apart : (x : Place) → Apart (around x)
around-apart x = codes-apart (around x) (kinds-apart x.kind x.row x.column)

-- ---- the partner of a lane

-- the partner of a position of a sequence round a place
abbrev pub partner_on : (Step → ℕ) → List Step → ℕ → ℕ
partner_on f l = partner_in (pairs_of (arrives (ends_on f l)) (length (ends_on f l)))

-- the position p is the departing lane q of the j-th step t
pub record Departs (f : Step → ℕ) (l : List Step) (p : ℕ) : Type 0 where
  pub slot : ℕ
  pub lane : ℕ
  pub step : Step
  pub there : get_elem? l slot ≡ some step
  pub loaded : lane < f step
  pub place : p ≡ departure_pos (lanes_in f l) (lanes_out f l) slot lane

-- .. the arriving lane
pub record Arrives (f : Step → ℕ) (l : List Step) (p : ℕ) : Type 0 where
  pub slot : ℕ
  pub lane : ℕ
  pub step : Step
  pub there : get_elem? l slot ≡ some step
  pub loaded : lane < f (turn step)
  pub place : p ≡ arrival_pos (lanes_in f l) (lanes_out f l) slot lane

module _ (f : Step → ℕ) (l : List Step) where
  kind_at : (k i : ℕ) (s : Step) → get_elem? l k ≡ some s → i < f (turn s)
      → arrives (ends_on f l) (arrival_pos (lanes_in f l) (lanes_out f l) k i) ≡ true
  kind_at k i s g h = ap (λ (o : Option End). elim o as (λ _. Bool) [ none ↦ false | some e ↦ e.arriving ]) (arrival-entry f l k i s g h)

  kind-out : (k i : ℕ) (s : Step) → get_elem? l k ≡ some s → i < f s
      → arrives (ends_on f l) (departure_pos (lanes_in f l) (lanes_out f l) k i) ≡ false
  kind-out k i s g h = ap (λ (o : Option End). elim o as (λ _. Bool) [ none ↦ false | some e ↦ e.arriving ]) (departure-entry f l k i s g h)

  -- a lane lies within the sequence
  pub arrival-within : (k i : ℕ) (s : Step) → get_elem? l k ≡ some s → i < f (turn s) → arrival_pos (lanes_in f l) (lanes_out f l) k i < length (ends_on f l)
  arrival-within k i s g h =
      omega
      (arith, ends-length f l (length l) (omega arith), in-load f l k i s g h, start-later (lanes_in f l) (lanes_out f l) k (length l) (entry-below l k s g))

  pub departure-within : (k i : ℕ) (s : Step) → get_elem? l k ≡ some s → i < f s → departure_pos (lanes_in f l) (lanes_out f l) k i < length (ends_on f l)
  departure-within k i s g h =
      omega
      (arith, ends-length f l (length l) (omega arith), out-load f l k i s g h, start-later (lanes_in f l) (lanes_out f l) k (length l) (entry-below l k s g))

  -- a position by its kind
  departs : (p : ℕ) → p < length (ends_on f l) → arrives (ends_on f l) p ≡ false → Departs f l p
  departs p h k = by (entry f l p)
    where
      by : Entry f l p → Departs f l p
      by (arrive j i s g b e) =
          let a = sym (kind_at j i s g b) ∙ (ap (arrives (ends_on f l)) (sym e) ∙ k) in
          let z : ◌≡◌ {A = ℕ} 0 1 = cc in
          absurd (omega arith)
      by (depart j i s g b e) = record { slot = j; lane = i; step = s; there = g; loaded = b; place = e }
      by (done b) = absurd (omega arith)

  comes : (p : ℕ) → p < length (ends_on f l) → arrives (ends_on f l) p ≡ true → Arrives f l p
  comes p h k = by (entry f l p)
    where
      by : Entry f l p → Arrives f l p
      by (arrive j i s g b e) = record { slot = j; lane = i; step = s; there = g; loaded = b; place = e }
      by (depart j i s g b e) =
          let a = sym (kind-out j i s g b) ∙ (ap (arrives (ends_on f l)) (sym e) ∙ k) in
          let z : ◌≡◌ {A = ℕ} 0 1 = cc in
          absurd (omega arith)
      by (done b) = absurd (omega arith)

  module _ (even : total l (λ s. f (turn s)) ≡ total l f) where
    pub lanes-perfect : Perfect (arrives (ends_on f l)) (length (ends_on f l)) (partner_on f l)
    lanes-perfect = pairs-perfect (arrives (ends_on f l)) (length (ends_on f l)) (ends-even f l even)

    -- the partner of a lane is again a lane
    pub arrival-partner : (k i : ℕ) (s : Step) → get_elem? l k ≡ some s → i < f (turn s)
        → Departs f l (partner_on f l (arrival_pos (lanes_in f l) (lanes_out f l) k i))
    arrival-partner k i s g h =
        let n = arrival-within k i s g h in
        departs (partner_on f l (arrival_pos (lanes_in f l) (lanes_out f l) k i)) (lanes-perfect.within _ n)
        (lanes-perfect.swaps _ n ∙ ap not (kind_at k i s g h))

    pub departure-partner : (k i : ℕ) (s : Step) → get_elem? l k ≡ some s → i < f s
        → Arrives f l (partner_on f l (departure_pos (lanes_in f l) (lanes_out f l) k i))
    departure-partner k i s g h =
        let n = departure-within k i s g h in
        comes (partner_on f l (departure_pos (lanes_in f l) (lanes_out f l) k i)) (lanes-perfect.within _ n)
        (lanes-perfect.swaps _ n ∙ ap not (kind-out k i s g h))

-- ---- how a wire goes on

module _ (f : Step → ℕ) (x : Place) (k i : ℕ) (s : Step) (there : get_elem? (around x) k ≡ some s) (loaded : i < f (turn s)) where
  pub leaving-lane : (j q : ℕ) (t : Step) → get_elem? (around x) j ≡ some t → q < f t
      → partner_on f (around x) (arrival_pos (lanes_in f (around x)) (lanes_out f (around x)) k i)
      ≡ departure_pos (lanes_in f (around x)) (lanes_out f (around x)) j q
      → leaving f x s.link i ≡ some (record { step = t; lane = q })
  unfolding leaving
  leaving-lane j q t g h e =
      ap (λ (p : ℕ). departing (get_elem? (ends_on f (around x)) (partner_on f (around x) p))) (arrival-found f (around x) (around-apart x) k i s there loaded)
      ∙ (ap (λ (p : ℕ). departing (get_elem? (ends_on f (around x)) p)) e
      ∙ ap departing (departure-entry f (around x) j q t g h))

  -- the same by the numbers of lanes of five slots
  module _ (a d : ℕ → ℕ) (ins : (j : ℕ) → j < 5 → a j ≡ lanes_in f (around x) j) (outs : (j : ℕ) → j < 5 → d j ≡ lanes_out f (around x) j) where
    pub leaving-slot : (j q : ℕ) → j < 5 → q < d j → partner_in (pairs_of (arrives_at a d 5) (start a d 5)) (arrival_pos a d k i) ≡ departure_pos a d j q
        → (t : Step) × (get_elem? (around x) j ≡ some t) × (leaving f x s.link i ≡ some (record { step = t; lane = q }))
    leaving-slot j q m h e = by (get_elem? (around x) j) refl (omega (arith, outs j m))
      where
        known : k < 5
        known = omega (arith, entry-below (around x) k s there, around-five x)

        begin : (n : ℕ) → n ≤ 5 → start a d n ≡ start (lanes_in f (around x)) (lanes_out f (around x)) n
        begin n b = start-cong a d (lanes_in f (around x)) (lanes_out f (around x)) n (λ j c. ins j (omega arith)) (λ j c. outs j (omega arith))

        sequence : pairs_of (arrives_at a d 5) (start a d 5) ≡ pairs_of (arrives (ends_on f (around x))) (length (ends_on f (around x)))
        sequence =
            ap₂ pairs_of
            (fun_ext (λ p. arrives-cong a d (lanes_in f (around x)) (lanes_out f (around x)) 5 ins outs p ∙ sym (arrives-kind f (around x) 5 (around-five x) p)))
            (begin 5 (omega arith) ∙ sym (ends-length f (around x) 5 (around-five x)))

        partner : partner_on f (around x) (arrival_pos (lanes_in f (around x)) (lanes_out f (around x)) k i)
            ≡ departure_pos (lanes_in f (around x)) (lanes_out f (around x)) j q
        partner =
            ap₂ partner_in (sym sequence) (sym (ap₂ (λ (u v : ℕ). u + (v - 1 - i)) (begin k (omega (arith, known))) (ins k known)))
            ∙ (e ∙ ap₂ (λ (u v : ℕ). u + (v + q)) (begin j (omega arith)) (ins j m))

        by : (o : Option Step) → get_elem? (around x) j ≡ o → q < lanes_out f (around x) j
            → (t : Step) × (get_elem? (around x) j ≡ some t) × (leaving f x s.link i ≡ some (record { step = t; lane = q }))
        by none g b = absurd (omega (arith, ap (load_of f) g))
        by (some t) g b = (t, g, leaving-lane j q t g (omega (arith, ap (load_of f) g)) partner)
