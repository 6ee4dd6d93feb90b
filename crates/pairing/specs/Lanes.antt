-- Document 01, "Lanes and pairing": which lane stands where in the sequence round a place. The k-th step s of a list has f (turn s) arriving and f s
-- departing lanes: slot k of `Slots`. So the position of a lane, and the lane at a position, are read off the loads; and the partner of a lane is a lane.
-- Assumes nothing.
use Rattle.std.proofs.Math.Path.{◌≡◌, refl, sym, ap, ap₂}
use Rattle.std.proofs.Common.{subst, ◌∙◌, not-suc-le-zero, le_of_suc-le-suc, arith, eqb→eq, length-append}
use Rattle.std.specs.Prelude.{Bool, true, false, not, ◌&&◌, T, eqb, length}
use mathlib.Core.List.{List, [], ◌∷◌}
use Rattle.std.proofs.Math.Option.{Option, none, some}
use Prim.Native.Nat.{ℕ, zero, suc, ◌+◌, ◌-◌, ◌≤◌, ◌<◌}
use Rattle.std.proofs.Math.Dec.{eqb_refl}
use Rattle.std.proofs.Math.ListN.{get_elem?}
use Rattle.sums.specs.Counting.{when, sum, total}
use Rattle.sums.specs.Sums.{sum-none, sum-cong, sum_first}
use Rattle.sums.specs.Tests.{and_left, and_right, and_both, so}
use Rattle.sums.specs.Entries.{entry_past, entry-below}
use Rattle.model.specs.Links.{Link, Step, turn, same_link}
use Rattle.model.specs.Wires.{End, arrival, departure, ends_on, arrives, arrival_at}
use Rattle.model.proofs.Same.{same-link}
use Rattle.model.proofs.LaneOrder.{length-falling, length-rising, lane-order}
use Rattle.pairing.specs.Perfect.{Even}
use Rattle.pairing.specs.Slots.{start, arrival_pos, departure_pos, arrives_at, Spot, arriving, departing, past, spot}
use Rattle.pairing.specs.Slots.{arrival-kind, departure-kind, past-kind, arrivals-number, departures-number}

-- how many lanes arrive and depart on the k-th step of a list
abbrev pub load_of : (Step → ℕ) → Option Step → ℕ
load_of f none = 0
load_of f (some s) = f s

abbrev pub lanes_out : (Step → ℕ) → List Step → ℕ → ℕ
lanes_out f l k = load_of f (get_elem? l k)

abbrev pub lanes_in : (Step → ℕ) → List Step → ℕ → ℕ
lanes_in f l k = load_of (λ s. f (turn s)) (get_elem? l k)

pub load-total : (f : Step → ℕ) (l : List Step) (m : ℕ) → length l ≤ m → sum m (lanes_out f l) ≡ total l f
unfolding total
load-total f [] m h = sum-none m (λ k. 0) (λ k g. refl)
load-total f (s ∷ l) zero h = absurd (not-suc-le-zero h)
load-total f (s ∷ l) (suc m) h = omega (arith, sum_first m (lanes_out f (s ∷ l)), load-total f l m (le_of_suc-le-suc h))

-- the steps are of different links
abbrev pub Apart : List Step → Type 0
Apart l = (j k : ℕ) (s t : Step) → get_elem? l j ≡ some s → get_elem? l k ≡ some t → T (same_link s.link t.link) → j ≡ k

-- what stands at the position p: a lane of a step, or nothing
pub data Entry (f : Step → ℕ) (l : List Step) (p : ℕ) : Type 0 where
  arrive : (k i : ℕ) (s : Step) → get_elem? l k ≡ some s → i < f (turn s) → p ≡ arrival_pos (lanes_in f l) (lanes_out f l) k i → Entry f l p
  depart : (k i : ℕ) (s : Step) → get_elem? l k ≡ some s → i < f s → p ≡ departure_pos (lanes_in f l) (lanes_out f l) k i → Entry f l p
  done : length (ends_on f l) ≤ p → Entry f l p

abbrev kind_of : Option End → Bool
kind_of o = elim o [ none ↦ false | some e ↦ e.arriving ]

abbrev matches : Link → ℕ → End → Bool
matches x i e = e.arriving && (same_link x e.step.link && eqb i e.lane)

-- `arrival_at` gives the first end that matches
arrival-first : (x : Link) (i : ℕ) (es : List End) (p : ℕ) (e : End) → get_elem? es p ≡ some e → T (matches x i e)
    → ((q : ℕ) (o : End) → q < p → get_elem? es q ≡ some o → T (matches x i o) → ⊥) → arrival_at x i es ≡ p
unfolding arrival_at
arrival-first x i [] p e g t n = let z : ◌≡◌ {A = ℕ} 0 1 = cc in absurd (omega arith)
arrival-first x i (o ∷ es) p e g t n = by (matches x i o) refl p g n (arrival-first x i es)
  where
    by : (b : Bool) → matches x i o ≡ b → (p : ℕ) → get_elem? (o ∷ es) p ≡ some e
        → ((q : ℕ) (r : End) → q < p → get_elem? (o ∷ es) q ≡ some r → T (matches x i r) → ⊥)
        → ((p : ℕ) (e : End) → get_elem? es p ≡ some e → T (matches x i e)
        → ((q : ℕ) (r : End) → q < p → get_elem? es q ≡ some r → T (matches x i r) → ⊥) → arrival_at x i es ≡ p)
        → arrival_at x i (o ∷ es) ≡ p
    by true m zero g n ih = rw (m, arrival_at)
    by true m (suc p) g n ih = absurd (n 0 o (omega arith) refl (so m))
    by false m zero g n ih =
        let q : o ≡ e = cc in
        absurd (subst T (ap (matches x i) (sym q) ∙ m) t)
    by false m (suc p) g n ih = rw (m, arrival_at) (ap suc (ih p e g t (λ q r l h. n (suc q) r (omega arith) h)))

module _ (f : Step → ℕ) where
  start-front : (s : Step) (l : List Step) (k : ℕ)
      → start (lanes_in f (s ∷ l)) (lanes_out f (s ∷ l)) (suc k) ≡ f (turn s) + (f s + start (lanes_in f l) (lanes_out f l) k)
  start-front s l k = omega (arith, sum_first k (λ t. lanes_in f (s ∷ l) t + lanes_out f (s ∷ l) t))

  -- ---- where a lane stands

  pub arrival-entry : (l : List Step) (k i : ℕ) (s : Step) → get_elem? l k ≡ some s → i < f (turn s)
      → get_elem? (ends_on f l) (arrival_pos (lanes_in f l) (lanes_out f l) k i) ≡ some (arrival s i)
  unfolding sum
  arrival-entry [] k i s e h = let z : ◌≡◌ {A = ℕ} 0 1 = cc in absurd (omega arith)
  arrival-entry (t ∷ l) zero i s e h =
      let q : t ≡ s = cc in
      let n = ap (λ (u : Step). f (turn u)) q in
      ap (get_elem? (ends_on f (t ∷ l))) (omega arith)
      ∙ ((lane-order f t l).0 (f (turn t) - 1 - i) (omega arith) ∙ ap₂ (λ (u : Step) (j : ℕ). some (arrival u j)) q (omega arith))
  arrival-entry (t ∷ l) (suc k) i s e h =
      ap (get_elem? (ends_on f (t ∷ l))) (omega (arith, start-front t l k))
      ∙ ((lane-order f t l).2 (arrival_pos (lanes_in f l) (lanes_out f l) k i) ∙ arrival-entry l k i s e h)

  pub departure-entry : (l : List Step) (k i : ℕ) (s : Step) → get_elem? l k ≡ some s → i < f s
      → get_elem? (ends_on f l) (departure_pos (lanes_in f l) (lanes_out f l) k i) ≡ some (departure s i)
  unfolding sum
  departure-entry [] k i s e h = let z : ◌≡◌ {A = ℕ} 0 1 = cc in absurd (omega arith)
  departure-entry (t ∷ l) zero i s e h =
      let q : t ≡ s = cc in
      let n = ap f q in
      ap (get_elem? (ends_on f (t ∷ l))) (omega arith)
      ∙ ((lane-order f t l).1 i (omega arith) ∙ ap (λ (u : Step). some (departure u i)) q)
  departure-entry (t ∷ l) (suc k) i s e h =
      ap (get_elem? (ends_on f (t ∷ l))) (omega (arith, start-front t l k))
      ∙ ((lane-order f t l).2 (departure_pos (lanes_in f l) (lanes_out f l) k i) ∙ departure-entry l k i s e h)

  -- ---- the length

  ends-front : (s : Step) (l : List Step) → length (ends_on f (s ∷ l)) ≡ f (turn s) + (f s + length (ends_on f l))
  unfolding ends_on
  ends-front s l =
      simp (length-append, length-falling, length-rising)

  pub ends-total : (l : List Step) → length (ends_on f l) ≡ total l (λ s. f s + f (turn s))
  unfolding ends_on total
  ends-total [] = refl
  ends-total (s ∷ l) = omega (arith, ends-front s l, ends-total l)

  pub ends-length : (l : List Step) (m : ℕ) → length l ≤ m → length (ends_on f l) ≡ start (lanes_in f l) (lanes_out f l) m
  unfolding ends_on
  ends-length [] m h = sym (sum-none m (λ t. 0 + 0) (λ i l. refl))
  ends-length (s ∷ l) zero h = absurd (not-suc-le-zero h)
  ends-length (s ∷ l) (suc m) h = omega (arith, ends-front s l, start-front s l m, ends-length l m (le_of_suc-le-suc h))

  -- ---- what stands at a position

  pub entry : (l : List Step) (p : ℕ) → Entry f l p
  entry l p = by (spot (lanes_in f l) (lanes_out f l) (length l) p)
    where
      into : (k i : ℕ) (o : Option Step) → get_elem? l k ≡ o → i < load_of (λ s. f (turn s)) o → p ≡ arrival_pos (lanes_in f l) (lanes_out f l) k i → Entry f l p
      into k i none g h e = absurd (not-suc-le-zero h)
      into k i (some s) g h e = arrive k i s g h e

      out : (k i : ℕ) (o : Option Step) → get_elem? l k ≡ o → i < load_of f o → p ≡ departure_pos (lanes_in f l) (lanes_out f l) k i → Entry f l p
      out k i none g h e = absurd (not-suc-le-zero h)
      out k i (some s) g h e = depart k i s g h e

      by : Spot (lanes_in f l) (lanes_out f l) (length l) p → Entry f l p
      by (arriving k i q h e) = into k i (get_elem? l k) refl h e
      by (departing k i q h e) = out k i (get_elem? l k) refl h e
      by (past h) = done (omega (arith, ends-length l (length l) (omega arith)))

  module _ (l : List Step) where
    -- the loads of a step
    pub in-load : (k i : ℕ) (s : Step) → get_elem? l k ≡ some s → i < f (turn s) → i < lanes_in f l k
    in-load k i s e h = omega (arith, ap (load_of (λ s. f (turn s))) e)

    pub out-load : (k i : ℕ) (s : Step) → get_elem? l k ≡ some s → i < f s → i < lanes_out f l k
    out-load k i s e h = omega (arith, ap (load_of f) e)

    module _ (m : ℕ) (fits : length l ≤ m) where
      pub arrives-kind : (p : ℕ) → arrives (ends_on f l) p ≡ arrives_at (lanes_in f l) (lanes_out f l) m p
      arrives-kind p = by (entry l p)
        where
          by : Entry f l p → arrives (ends_on f l) p ≡ arrives_at (lanes_in f l) (lanes_out f l) m p
          by (arrive k i s g h e) =
              ap (λ (q : ℕ). kind_of (get_elem? (ends_on f l) q)) e
              ∙ (ap kind_of (arrival-entry l k i s g h)
              ∙ (sym (arrival-kind (lanes_in f l) (lanes_out f l) k m (lanes_in f l k - 1 - i) (omega (arith, entry-below l k s g))
              (omega (arith, in-load k i s g h)))
              ∙ ap (arrives_at (lanes_in f l) (lanes_out f l) m) (sym e)))
          by (depart k i s g h e) =
              ap (λ (q : ℕ). kind_of (get_elem? (ends_on f l) q)) e
              ∙ (ap kind_of (departure-entry l k i s g h)
              ∙ (sym (departure-kind (lanes_in f l) (lanes_out f l) k m i (omega (arith, entry-below l k s g)) (out-load k i s g h))
              ∙ ap (arrives_at (lanes_in f l) (lanes_out f l) m) (sym e)))
          by (done h) =
              ap kind_of (entry_past (ends_on f l) p h)
              ∙ sym (past-kind (lanes_in f l) (lanes_out f l) m p (omega (arith, ends-length l m fits)))

    pub arrival-found : Apart l → (k i : ℕ) (s : Step) → get_elem? l k ≡ some s → i < f (turn s)
        → arrival_at s.link i (ends_on f l) ≡ arrival_pos (lanes_in f l) (lanes_out f l) k i
    arrival-found apart k i s g h =
        arrival-first s.link i (ends_on f l) (arrival_pos (lanes_in f l) (lanes_out f l) k i) (arrival s i) (arrival-entry l k i s g h)
        (and_both (same_link s.link s.link) (eqb i i) (same-link s.link) (eqb_refl i)) none_before
      where
        none_before : (q : ℕ) (o : End) → q < arrival_pos (lanes_in f l) (lanes_out f l) k i → get_elem? (ends_on f l) q ≡ some o → T (matches s.link i o) → ⊥
        none_before q o b e t = by (entry l q)
          where
            by : Entry f l q → ⊥
            by (arrive j x u v w y) =
                let a = sym e ∙ (ap (get_elem? (ends_on f l)) y ∙ arrival-entry l j x u v w) in
                let c : o ≡ arrival u x = cc in
                let m = subst (λ (r : End). T (matches s.link i r)) c t in
                let z = apart k j s u g v (and_left (same_link s.link u.link) (eqb i x) m) in
                let n = eqb→eq i x (and_right (same_link s.link u.link) (eqb i x) m) in
                omega (arith, ap₂ (arrival_pos (lanes_in f l) (lanes_out f l)) z n)
            by (depart j x u v w y) =
                let a = sym e ∙ (ap (get_elem? (ends_on f l)) y ∙ departure-entry l j x u v w) in
                let c : o ≡ departure u x = cc in
                subst (λ (r : End). T (matches s.link i r)) c t
            by (done z) = let a = sym e ∙ entry_past (ends_on f l) q z in let c : ◌≡◌ {A = ℕ} 0 1 = cc in omega arith

    -- ---- how many arrive and depart

    -- a count of kinds, in the slots
    number : (g : Bool → ℕ) → sum (length (ends_on f l)) (λ p. g (arrives (ends_on f l) p))
        ≡ sum (start (lanes_in f l) (lanes_out f l) (length l)) (λ p. g (arrives_at (lanes_in f l) (lanes_out f l) (length l) p))
    number g =
        sum-cong (length (ends_on f l)) _ _ (λ p h. ap g (arrives-kind (length l) (omega arith) p))
        ∙ ap (λ (n : ℕ). sum n (λ p. g (arrives_at (lanes_in f l) (lanes_out f l) (length l) p))) (ends-length l (length l) (omega arith))

    pub arriving-number : sum (length (ends_on f l)) (λ p. when (arrives (ends_on f l) p) 1) ≡ total l (λ s. f (turn s))
    arriving-number =
        number (λ b. when b 1)
        ∙ (arrivals-number (lanes_in f l) (lanes_out f l) (length l) ∙ load-total (λ s. f (turn s)) l (length l) (omega arith))

    pub departing-number : sum (length (ends_on f l)) (λ p. when (not (arrives (ends_on f l) p)) 1) ≡ total l f
    departing-number = number (λ b. when (not b) 1) ∙ (departures-number (lanes_in f l) (lanes_out f l) (length l) ∙ load-total f l (length l) (omega arith))

    pub ends-even : total l (λ s. f (turn s)) ≡ total l f → Even (arrives (ends_on f l)) (length (ends_on f l))
    ends-even e = arriving-number ∙ (e ∙ sym departing-number)
