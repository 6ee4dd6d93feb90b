-- The rounds of document 01 on the code's arrays: what is left of the positions, those passed and those to come, and the pairs in a row. Among the
-- positions passed no arrival and departure are neighbours, so that the first two that are stand at the seam. Assumes nothing.
use Rattle.std.specs.Prelude.{◌≡◌, refl, Bool, true, false, not, List, [], ◌∷◌, ◌++◌, ℕ, zero, suc, ◌+◌, ◌*◌, ◌-◌, ◌≤◌, ◌<◌, eqb, length, take, drop, get_or, set, Option as Maybe, Some, None}
use Rattle.std.proofs.Common.{sym, ap, ap₂, subst, ◌∙◌, append_assoc, arith, add-one, take-suc, length-take-le, get_or-set_same, get_or-set_other, take-suc-set, eqb-true, eq-eqb, ne_eqb}
use Rattle.std.specs.Bool.{beq}
use Rattle.std.proofs.Math.Option.{Option, none, some}
use Rattle.std.proofs.lemmas.List.{length-map, map-append, take_more_set}
use Rattle.std.proofs.lemmas.Bool.{eqb-false}
use Rattle.sums.specs.Counting.{sum}
use Rattle.model.specs.Pairing.{Pair, Struck, keep, strike, rounds, range, pairs_of, partner_in}
use Rattle.pairing.specs.Rounds.{strike-same, strike-differ, keep-none, rounds-none, rounds-some}
use Rattle.pairing.specs.Levels.{partner-fst, partner-snd, partner-next}
use Rattle.pairing.specs.Perfect.{Even, Perfect, pairs-all, pairs-perfect}
use Rattle.pairing.specs.Slots.{start, arrival_pos, departure_pos, arrives_at, start-later, arrival-kind, departure-kind, slots-even}
use Rattle.pairing.specs.Answer.{partner_of, LaneAt, comes, leaves, Partner, Arrival}
use Rattle.pairing.specs.Sequence.{slot_of, lane_of, arriving, as_pair, as_pairs, EndAt, arrives, departs, Laid, laid-kinds}
use Rattle.pairing.specs.declared.Pair.{Pair as Ends}
use Rattle.pairing.specs.declared.Join.{Join}

-- what is left of n positions: the first i entries of a list, and all positions from p on
abbrev pub remaining : ℕ → List ℕ → ℕ → ℕ → List ℕ
remaining n l i p = take i l ++ range p (n - p)

-- a round's answer with what it leaves
abbrev pub as_struck : ℕ → Maybe Join → List ℕ → Option Struck
as_struck n (Some j) l = some (record { pair = as_pair j.pair; rest = remaining n l j.before (j.pair.snd + 1) })
as_struck n None l = none

abbrev pub Below : ℕ → List ℕ → ℕ → Type 0
Below n l i = (j : ℕ) → j < i → get_or l j 0 < n

-- what a round leaves is two positions fewer, and the next round can begin after the pair
abbrev pub Resumes : (ℕ → Bool) → ℕ → ℕ → ℕ → Maybe Join → List ℕ → Type 0
Resumes w i p n (Some j) l =
    (p ≤ j.pair.snd) × (j.pair.snd < n) × (j.before + p + 1 ≡ i + j.pair.snd) × Below n l j.before × (strike w (take j.before l) ≡ none)
Resumes w i p n None l = Unit {0}

pub joined_as : (n : ℕ) (r : Maybe Join) (j : Join) (l : List ℕ) {o : Option Struck} → r ≡ Some j → as_struck n r l ≡ o
    → some (record { pair = as_pair j.pair; rest = remaining n l j.before (j.pair.snd + 1) }) ≡ o
joined_as n r j l e g = ap (λ (z : Maybe Join). as_struck n z l) (sym e) ∙ g

pub resumes-as : (w : ℕ → Bool) (i p n : ℕ) (r q : Maybe Join) (l : List ℕ) → r ≡ q → Resumes w i p n r l → Resumes w i p n q l
resumes-as w i p n r q l e = subst (λ (z : Maybe Join). Resumes w i p n z l) e

pub nothing-as : (n : ℕ) (r : Maybe Join) (l : List ℕ) {o : Option Struck} → r ≡ None → as_struck n r l ≡ o → none ≡ o
nothing-as n r l e g = ap (λ (z : Maybe Join). as_struck n z l) (sym e) ∙ g

-- ---- lists in which no arrival and departure are neighbours

abbrev kept : List ℕ → Option Struck → Option Struck
kept [] o = o
kept (x ∷ l) o = keep x (kept l o)

kept-none : (l : List ℕ) → kept l none ≡ none
kept-none [] = refl
kept-none (x ∷ l) = ap (keep x) (kept-none l)

kept-some : (l : List ℕ) (s : Struck) → kept l (some s) ≡ some (record { pair = s.pair; rest = l ++ s.rest })
kept-some [] s = refl
kept-some (x ∷ l) s = ap (keep x) (kept-some l s)

module _ (w : ℕ → Bool) where
  alike : (x y : ℕ) (l : List ℕ) → strike w (x ∷ y ∷ l) ≡ none → (beq (w x) (w y) ≡ true) × (strike w (y ∷ l) ≡ none)
  alike x y l e = by (beq (w x) (w y)) refl
    where
      by : (b : Bool) → beq (w x) (w y) ≡ b → (beq (w x) (w y) ≡ true) × (strike w (y ∷ l) ≡ none)
      by true q = (q, keep-none w x (strike w (y ∷ l)) (sym (strike-same w x y l q) ∙ e))
      by false q = let z = sym (strike-differ w x y l q) ∙ e in let u : ◌≡◌ {A = ℕ} 0 1 = cc in absurd (omega arith)

  -- a round keeps all of it but its last
  kept_on : (m : List ℕ) (y : ℕ) (r : List ℕ) → strike w (m ++ (y ∷ [])) ≡ none → strike w (m ++ (y ∷ r)) ≡ kept m (strike w (y ∷ r))
  kept_on [] y r e = refl
  kept_on (x ∷ []) y r e = strike-same w x y r (alike x y [] e).0
  kept_on (x ∷ z ∷ m) y r e =
      let (q, f) = alike x z (m ++ (y ∷ [])) e in
      strike-same w x z (m ++ (y ∷ r)) q ∙ ap (keep x) (kept_on (z ∷ m) y r f)

  -- so it is without its last
  none_before : (m : List ℕ) (y : ℕ) → strike w (m ++ (y ∷ [])) ≡ none → strike w m ≡ none
  none_before [] y e = refl
  none_before (x ∷ []) y e = refl
  none_before (x ∷ z ∷ m) y e =
      let (q, f) = alike x z (m ++ (y ∷ [])) e in
      strike-same w x z m q ∙ ap (keep x) (none_before (z ∷ m) y f)

-- ---- a round

range-next : (n p : ℕ) → p < n → range p (n - p) ≡ p ∷ range (p + 1) (n - (p + 1))
range-next n p h =
    let e : n - p ≡ suc (n - (p + 1)) = omega arith in
    ap (range p) e ∙ ap (λ (q : ℕ). p ∷ range q (n - (p + 1))) (sym (add-one p))

range-over : (n p : ℕ) → n ≤ p → range p (n - p) ≡ []
range-over n p h = let e : n - p ≡ 0 = omega arith in ap (range p) e

append-nil : (l : List ℕ) → l ++ [] ≡ l
append-nil [] = refl
append-nil (x ∷ l) = ap (λ (r : List ℕ). x ∷ r) (append-nil l)

pub below_more : (n : ℕ) (l : List ℕ) (i p : ℕ) → i < length l → p < n → Below n l i → Below n (set l i p) (i + 1)
below_more n l i p h g b j t = by (eqb j i) refl
  where
    by : (c : Bool) → eqb j i ≡ c → get_or (set l i p) j 0 < n
    by true q = omega (arith, ap (λ (k : ℕ). get_or (set l i p) k 0) (eqb-true j i q), get_or-set_same l i p 0 h)
    by false q = let s = eqb-false j i q in omega (arith, get_or-set_other l i j p 0 s, b j (omega arith))

module _ (w : ℕ → Bool) (n : ℕ) (l : List ℕ) (i p : ℕ) (plain : strike w (take i l) ≡ none) where
  -- the last position passed, and those before it
  last : 0 < i → i ≤ length l → take i l ≡ take (i - 1) l ++ (get_or l (i - 1) 0 ∷ [])
  last h g = let e : i ≡ suc (i - 1) = omega arith in ap (λ (k : ℕ). take k l) e ∙ take-suc l (i - 1) 0 (omega arith)

  plain-last : 0 < i → i ≤ length l → strike w (take (i - 1) l ++ (get_or l (i - 1) 0 ∷ [])) ≡ none
  plain-last h g = ap (strike w) (sym (last h g)) ∙ plain

  pub plain-before : 0 < i → i ≤ length l → strike w (take (i - 1) l) ≡ none
  plain-before h g = none_before w (take (i - 1) l) (get_or l (i - 1) 0) (plain-last h g)

  -- with the next positions
  seam : (r : List ℕ) → 0 < i → i ≤ length l → strike w (take i l ++ r) ≡ kept (take (i - 1) l) (strike w (get_or l (i - 1) 0 ∷ r))
  seam r h g =
      ap (λ (m : List ℕ). strike w (m ++ r)) (last h g)
      ∙ (ap (strike w) (append_assoc (take (i - 1) l) (get_or l (i - 1) 0 ∷ []) r) ∙ kept_on w (take (i - 1) l) (get_or l (i - 1) 0) r (plain-last h g))

  -- a neighbour of the other kind is joined
  pub round-joined : 0 < i → i ≤ length l → p < n → beq (w (get_or l (i - 1) 0)) (w p) ≡ false
      → some (record { pair = record { fst = get_or l (i - 1) 0; snd = p }; rest = remaining n l (i - 1) (p + 1) }) ≡ strike w (remaining n l i p)
  round-joined h g k d =
      sym (seam (range p (n - p)) h g
      ∙ (ap (λ (r : List ℕ). kept (take (i - 1) l) (strike w (get_or l (i - 1) 0 ∷ r))) (range-next n p k)
      ∙ (ap (kept (take (i - 1) l)) (strike-differ w (get_or l (i - 1) 0) p (range (p + 1) (n - (p + 1))) d) ∙ kept-some (take (i - 1) l) _)))

  -- one of the same kind is passed
  more : i < length l → take (i + 1) (set l i p) ≡ take i l ++ (p ∷ [])
  more h = ap (λ (k : ℕ). take k (set l i p)) (add-one i) ∙ take-suc-set l i p h

  pub plain_more : i < length l → (0 < i → beq (w (get_or l (i - 1) 0)) (w p) ≡ true) → strike w (take (i + 1) (set l i p)) ≡ none
  plain_more h d = ap (strike w) (more h) ∙ by (eqb i 0) refl
    where
      by : (b : Bool) → eqb i 0 ≡ b → strike w (take i l ++ (p ∷ [])) ≡ none
      by true q = ap (λ (k : ℕ). strike w (take k l ++ (p ∷ []))) (eqb-true i 0 q)
      by false q =
          let z = eqb-false i 0 q in
          let k : 0 < i = omega arith in
          seam (p ∷ []) k (omega arith)
          ∙ (ap (kept (take (i - 1) l)) (strike-same w (get_or l (i - 1) 0) p [] (d k)) ∙ kept-none (take (i - 1) l))

  pub remaining-more : i < length l → p < n → remaining n (set l i p) (i + 1) (p + 1) ≡ remaining n l i p
  remaining-more h k =
      ap (λ (m : List ℕ). m ++ range (p + 1) (n - (p + 1))) (more h)
      ∙ (append_assoc (take i l) (p ∷ []) (range (p + 1) (n - (p + 1))) ∙ ap (λ (r : List ℕ). take i l ++ r) (sym (range-next n p k)))

  -- nothing is to come
  pub round-over : n ≤ p → none ≡ strike w (remaining n l i p)
  round-over h = sym (ap (λ (r : List ℕ). strike w (take i l ++ r)) (range-over n p h) ∙ (ap (strike w) (append-nil (take i l)) ∙ plain))

-- ---- the pairs

module _ (z : List Ends) (p i : ℕ) (x : Ends) (here : drop i z ≡ x ∷ drop (suc i) z) where
  abbrev pub others : ℕ → ℕ
  others k = partner_in (as_pairs (drop k z)) p

  abbrev after : List Pair
  after = as_pairs (drop (suc i) z)

  next : as_pairs (drop i z) ≡ as_pair x ∷ after
  next = ap as_pairs here

  pub other-fst : p ≡ x.fst → others i ≡ x.snd
  other-fst e = ap (λ (l : List Pair). partner_in l p) next ∙ partner-fst (as_pair x) after p (eq-eqb p x.fst e)

  pub other-snd : ¬ (p ≡ x.fst) → p ≡ x.snd → others i ≡ x.fst
  other-snd n e = ap (λ (l : List Pair). partner_in l p) next ∙ partner-snd (as_pair x) after p (ne_eqb p x.fst n) (eq-eqb p x.snd e)

  pub other-next : ¬ (p ≡ x.fst) → ¬ (p ≡ x.snd) → others i ≡ others (i + 1)
  other-next n o =
      ap (λ (l : List Pair). partner_in l p) next
      ∙ (partner-next (as_pair x) after p (ne_eqb p x.fst n) (ne_eqb p x.snd o) ∙ ap others (sym (add-one i)))

-- ---- the rounds

module _ (w : ℕ → Bool) where
  -- m pairs are joined, and the rounds from l on give the others
  abbrev pub Midway : ℕ → List Ends → ℕ → List ℕ → Type 0
  Midway n z m l = as_pairs (take m z) ++ rounds w (n - m) l ≡ pairs_of w n

  pub joined-more : (n m : ℕ) (z : List Ends) (l r : List ℕ) (x : Ends) → m < n → m < length z
      → some (record { pair = as_pair x; rest = r }) ≡ strike w l → Midway n z m l → Midway n (set z m x) (m + 1) r
  joined-more n m z l r x h fits e g =
      let k : n - m ≡ suc (n - (m + 1)) = omega arith in
      ap (λ (a : List Ends). as_pairs a ++ rounds w (n - (m + 1)) r) (take_more_set z m x fits)
      ∙ (ap (λ (a : List Pair). a ++ rounds w (n - (m + 1)) r) (map-append as_pair (take m z) (x ∷ []))
      ∙ (append_assoc (as_pairs (take m z)) _ _
      ∙ (ap (λ (a : List Pair). as_pairs (take m z) ++ a)
      (sym (ap (λ (t : ℕ). rounds w t l) k ∙ rounds-some w (n - (m + 1)) l _ (sym e)))
      ∙ g)))

  pub midway_start : (n : ℕ) (z : List Ends) (l : List ℕ) → Midway n z 0 (remaining n l 0 0)
  midway_start n z l = let q : n - 0 ≡ n = omega arith in ap₂ (λ (k m : ℕ). rounds w k (range 0 m)) q q

  rounds-over : (n : ℕ) (l : List ℕ) → strike w l ≡ none → rounds w n l ≡ []
  rounds-over zero l e = refl
  rounds-over (suc n) l e = rounds-none w n l e

  append-none : (l : List Pair) → l ++ [] ≡ l
  append-none [] = refl
  append-none (p ∷ l) = ap (λ (r : List Pair). p ∷ r) (append-none l)

  pub joined-over : (n m : ℕ) (z : List Ends) (l : List ℕ) → none ≡ strike w l → Midway n z m l → as_pairs (take m z) ≡ pairs_of w n
  joined-over n m z l e g =
      sym (append-none (as_pairs (take m z))) ∙ (ap (λ (a : List Pair). as_pairs (take m z) ++ a) (sym (rounds-over (n - m) l (sym e))) ∙ g)

  -- two positions for each pair
  pub joined-all : (n m : ℕ) (z : List Ends) → m ≤ length z → as_pairs (take m z) ≡ pairs_of w n → Even w n → 2 * m ≡ n
  joined-all n m z fits e even =
      omega (arith, length-map (take m z) as_pair, length-take-le m z fits, ap length e, pairs-all w n even)

-- ---- the partner

-- the ends laid have the kinds of the sequence, so that the pairs joined are the rounds'
pub partner-joined : (a d : ℕ → ℕ) (n p q at : ℕ) (l : List ℕ) (z : List Pair) → n ≡ start a d 5 → Laid a d n l → z ≡ pairs_of (arriving l) n
    → p ≡ at → q ≡ partner_in z p → q ≡ partner_of a d 5 at
partner-joined a d n p q at l z e g j h o = o ∙ ap₂ partner_in (j ∙ ap₂ pairs_of (laid-kinds a d n l e g) e) h

-- the partner's end says its slot and lane
pub end-joined : (a d : ℕ → ℕ) (p n q j t : ℕ) (l : List ℕ) → p < start a d 5 → n ≡ start a d 5 → Laid a d n l → q ≡ partner_of a d 5 p
    → j ≡ slot_of (get_or l q 0) → t ≡ lane_of (get_or l q 0) → sum 5 a ≡ sum 5 d → LaneAt a d (partner_of a d 5 p) j t
end-joined a d p n q j t l inside size g e x y even =
    by (g.0 q (omega (arith, e, size, (pairs-perfect (arrives_at a d 5) (start a d 5) (slots-even a d 5 even)).within p inside)))
  where
    by : EndAt a d q (get_or l q 0) → LaneAt a d (partner_of a d 5 p) j t
    by (arrives v u h m s o b) =
        let f : v ≡ j = omega arith in
        let c : u ≡ t = omega arith in
        comes (omega arith) (omega (arith, ap a f)) (sym e ∙ (o ∙ ap₂ (arrival_pos a d) f c))
    by (departs v u h m s o b) =
        let f : v ≡ j = omega arith in
        let c : u ≡ t = omega arith in
        leaves (omega arith) (omega (arith, ap d f)) (sym e ∙ (o ∙ ap₂ (departure_pos a d) f c))

module _ (a d : ℕ → ℕ) (k i : ℕ) (here : k < 5) (even : sum 5 a ≡ sum 5 d) where
  all : Perfect (arrives_at a d 5) (start a d 5) (partner_of a d 5)
  all = pairs-perfect (arrives_at a d 5) (start a d 5) (slots-even a d 5 even)

  -- no lane of one kind stands where one of the other kind does
  one-kind : {A : Type 0} (p : ℕ) (b : Bool) → arrives_at a d 5 p ≡ b → arrives_at a d 5 p ≡ not b → A
  one-kind p true e g = let x = sym e ∙ g in let z : ◌≡◌ {A = ℕ} 0 1 = cc in absurd (omega arith)
  one-kind p false e g = let x = sym e ∙ g in let z : ◌≡◌ {A = ℕ} 0 1 = cc in absurd (omega arith)

  -- an arriving lane is joined with its partner
  pub arrival-joined : (p j t : ℕ) → p ≡ arrival_pos a d k i → i < a k → LaneAt a d (partner_of a d 5 p) j t → Partner a d k i j t
  arrival-joined p j t e lane (comes h m o) =
      let w = start-later a d k 5 here in
      one-kind (partner_of a d 5 p) true
      (ap (arrives_at a d 5) o ∙ arrival-kind a d j 5 (a j - 1 - t) h (omega arith))
      (all.swaps p (omega arith) ∙ ap not (ap (arrives_at a d 5) e ∙ arrival-kind a d k 5 (a k - 1 - i) here (omega arith)))
  arrival-joined p j t e lane (leaves h m o) = record { slot = h; lane = m; place = ap (partner_of a d 5) (sym e) ∙ o }

  -- a departing lane is joined with the one whose partner it is
  pub departure-joined : (p j t : ℕ) → p ≡ departure_pos a d k i → i < d k → LaneAt a d (partner_of a d 5 p) j t → Arrival a d k i j t
  departure-joined p j t e lane (leaves h m o) =
      let w = start-later a d k 5 here in
      one-kind (partner_of a d 5 p) false
      (ap (arrives_at a d 5) o ∙ departure-kind a d j 5 t h m)
      (all.swaps p (omega arith) ∙ ap not (ap (arrives_at a d 5) e ∙ departure-kind a d k 5 i here lane))
  departure-joined p j t e lane (comes h m o) =
      let w = start-later a d k 5 here in
      record {
        slot = h;
        lane = m;
        partner = record { slot = here; lane = lane; place = ap (partner_of a d 5) (sym o) ∙ (all.twice p (omega arith) ∙ e) };
      }
