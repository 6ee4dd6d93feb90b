-- What the rounds of document 01 give: for as many arrivals as departures every position has a partner of the other kind, and is its partner's partner;
-- a pair joins an arrival and a departure; no two pairs interleave. By the levels: a pair is two ends of a stretch that stays above its level. Assumes
-- nothing.
use Rattle.std.specs.Prelude.{◌≡◌, refl, Bool, true, false, not, ℕ, ◌*◌, ◌≤◌, ◌<◌, eqb, length}
use Rattle.std.proofs.Common.{sym, ap, subst, ◌∙◌, arith, eq-eqb}
use Rattle.std.specs.Bool.{beq}
use mathlib.Core.List.{List, [], ◌∷◌, Memᴰ}
use Rattle.sums.specs.Counting.{when, sum}
use Rattle.sums.specs.Sums.{sum-cong}
use Rattle.model.specs.Pairing.{Pair, range, pairs_of, partner_in, Crosses}
use Rattle.pairing.specs.Pass.{paired, passed}
use Rattle.pairing.specs.Rounds.{Each, one_more, length-range, nothing-left-at, rounds-length, pairs-each, pairs-no-other, pairs-differ}
use Rattle.pairing.specs.Levels.{pairs-joined, Partners, partners-sym, partners-one, partners-kind, no-interleave}
use Rattle.pairing.specs.Levels.{partner-fst, partner-snd, partner-next, partner-found}

-- as many of the first n positions arrive as depart
abbrev pub Even : (ℕ → Bool) → ℕ → Type 0
Even w n = sum n (λ i. when (w i) 1) ≡ sum n (λ i. when (not (w i)) 1)

-- p exchanges the first n positions in pairs of two kinds
pub record Perfect (w : ℕ → Bool) (n : ℕ) (p : ℕ → ℕ) : Type 0 where
  pub within : (i : ℕ) → i < n → p i < n
  pub twice : (i : ℕ) → i < n → p (p i) ≡ i
  pub swaps : (i : ℕ) → i < n → w (p i) ≡ not (w i)

-- a pair of the first n positions, an arrival and a departure
pub record Proper (w : ℕ → Bool) (n : ℕ) (p : Pair) : Type 0 where
  pub rises : p.fst < p.snd
  pub within : p.snd < n
  pub swaps : w p.snd ≡ not (w p.fst)

-- ---- entries of a list of pairs

each_at : {P : ℕ → ℕ → Type 0} {p : Pair} {l : List Pair} → Each P l → Memᴰ p l → P p.fst p.snd
each_at {P = P} {p = p} Rattle.pairing.specs.Rounds.no_more x3 = elim x3 [ ]
each_at {P} {p} (one_more h r) (Memᴰ.head e) = subst (λ (q : Pair). P q.fst q.snd) (sym e) h
each_at (one_more h r) (Memᴰ.tail m) = each_at r m

same_self : (i : ℕ) → when (eqb i i) 1 ≡ 1
same_self i = ap (λ (b : Bool). when b 1) (eq-eqb i i refl)

snd-paired : {p : Pair} {l : List Pair} → Memᴰ p l → 0 < paired p.snd l
snd-paired {p} (Memᴰ.head e) = omega (arith, ap (λ (b : Bool). when b 1) (eq-eqb p.snd _ (ap (λ (q : Pair). q.snd) e)))
snd-paired (Memᴰ.tail m) = omega (arith, snd-paired m)

partner-paired : (i : ℕ) (l : List Pair) → 0 < paired i l → 0 < paired (partner_in l i) l
partner-paired i [] h = h
partner-paired i (p ∷ l) h = by (eqb i p.fst) refl (eqb i p.snd) refl (partner-paired i l)
  where
    by : (a : Bool) → eqb i p.fst ≡ a → (b : Bool) → eqb i p.snd ≡ b → (0 < paired i l → 0 < paired (partner_in l i) l)
        → 0 < paired (partner_in (p ∷ l) i) (p ∷ l)
    by true e b g ih = rw (partner-fst p l i e) (omega (arith, same_self p.snd))
    by false e true g ih = rw (partner-snd p l i e g) (omega (arith, same_self p.fst))
    by false e false g ih =
        subst (λ (k : ℕ). 0 < paired k (p ∷ l)) (sym (partner-next p l i e g))
        (omega (arith, ih (omega (arith, ap (λ (b : Bool). when b 1) e, ap (λ (b : Bool). when b 1) g))))

module _ (w : ℕ → Bool) (n : ℕ) where
  -- ---- each pair

  pub pairs-ordered : (p : Pair) → Memᴰ p (pairs_of w n) → Proper w n p
  pairs-ordered p m =
      let j = each_at (pairs-joined w n) m in
      let h : ¬ (n ≤ p.snd) = λ k. omega (arith, snd-paired m, pairs-no-other w n p.snd k) in
      record { rises = j.1.lt; within = omega arith; swaps = each_at (pairs-differ w n) m }

  pub pairs-nested : (p q : Pair) → Memᴰ p (pairs_of w n) → Memᴰ q (pairs_of w n) → Crosses p q → ⊥
  pairs-nested p q mp mq c =
      let j = each_at (pairs-joined w n) mp in
      let k = each_at (pairs-joined w n) mq in
      no-interleave w j.0 k.0 p.fst q.fst p.snd q.snd c.first c.second c.third j.1 k.1

  -- ---- as many arrivals as departures

  pub passed-even : Even w n → passed w true n ≡ passed w false n
  passed-even e =
      sum-cong n _ _ (λ i l. arrive (w i)) ∙ (e ∙ sum-cong n _ _ (λ i l. depart (w i)))
    where
      arrive : (b : Bool) → when (beq b true) 1 ≡ when b 1
      arrive true = refl
      arrive false = refl

      depart : (b : Bool) → when (not b) 1 ≡ when (beq b false) 1
      depart true = refl
      depart false = refl

  -- nothing is left
  pub pairs-all : Even w n → 2 * length (pairs_of w n) ≡ n
  pairs-all e =
      omega (arith, rounds-length w n (range 0 n), ap length (nothing-left-at w n (passed-even e)), length-range 0 n)

  pub pairs-perfect : Even w n → Perfect w n (partner_in (pairs_of w n))
  pairs-perfect e = record { within = within; twice = twice; swaps = λ i l. partners-kind w i (p i) (found i l) }
    where
      p : ℕ → ℕ
      p = partner_in (pairs_of w n)

      one : (i : ℕ) → i < n → 0 < paired i (pairs_of w n)
      one i l = omega (arith, pairs-each w n (passed-even e) i l)

      found : (i : ℕ) → i < n → Partners w i (p i)
      found i l = partner-found w i (pairs_of w n) (pairs-joined w n) (one i l)

      within : (i : ℕ) → i < n → p i < n
      within i l =
          let h : ¬ (n ≤ p i) = λ k. omega (arith, partner-paired i (pairs_of w n) (one i l), pairs-no-other w n (p i) k) in
          omega arith

      twice : (i : ℕ) → i < n → p (p i) ≡ i
      twice i l = partners-one w (p i) (p (p i)) i (found (p i) (within i l)) (partners-sym w i (p i) (found i l))
