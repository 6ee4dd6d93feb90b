-- Document 01, "Lanes and pairing", where joined pairs are taken out of a sequence: the other pairs stay joined. `w` are the kinds of the positions, `k`
-- which of them stay, with every position its partner; `v` are the kinds of those that stay, by rank. In the pass with a stack the stack of what stays is
-- the old one without what goes: it is of one kind, so each position is pushed, or joined to the same one, as before. Assumes nothing.
use Rattle.std.specs.Prelude.{◌≡◌, ◌≢◌, Bool, eqb}
use Rattle.std.proofs.Math.Path.{refl, ap}
use Rattle.std.proofs.Common.{sym, ap₂, ◌∙◌, eq-eqb, ne_eqb}
use Rattle.std.proofs.Math.Bool.{true, false, beq}
use mathlib.Core.List.{List, [], ◌∷◌, Memᴰ}
use Prim.Native.Nat.{ℕ, zero, suc, ◌+◌, ◌≤◌, ◌<◌}
use native.Mathlib.Omega.{arith}
use Rattle.sums.specs.Counting.{when}
use Rattle.sums.specs.Tests.{Same, same, other, same?}
use Rattle.model.specs.Pairing.{Pair, pairs_of, partner_in}
use Rattle.pairing.specs.Pass.{run, paired}
use Rattle.pairing.specs.Rounds.{same_true, same_refl, Each, no_more, one_more, Uni, run-push, run-pop, pairs-run, pairs-each}
use Rattle.pairing.specs.Levels.{partner-fst, partner-snd, partner-next}
use Rattle.pairing.specs.Perfect.{Even, passed-even, pairs-ordered}
use Rattle.keep.specs.Ranks.{rank, rank-first, rank-stays, rank-goes, rank_rises, rank-one}

-- the pairs that stay, by rank
unfoldable pub staying_pairs : (ℕ → Bool) → List Pair → List Pair
staying_pairs k [] = []
staying_pairs k (p ∷ l) =
    elim (k p.fst) [ true ↦ record { fst = rank k p.fst; snd = rank k p.snd } ∷ staying_pairs k l | false ↦ staying_pairs k l ]

-- two positions stay or go together
abbrev pub Together : (ℕ → Bool) → ℕ → ℕ → Type 0
Together k a b = k a ≡ k b

module _ (k : ℕ → Bool) where
  pairs-in : (a b : ℕ) (l : List Pair) → k a ≡ true
      → staying_pairs k (record { fst = a; snd = b } ∷ l) ≡ record { fst = rank k a; snd = rank k b } ∷ staying_pairs k l
  unfolding staying_pairs
  pairs-in a b l e = rw (e, staying_pairs)

  pairs-out : (a b : ℕ) (l : List Pair) → k a ≡ false → staying_pairs k (record { fst = a; snd = b } ∷ l) ≡ staying_pairs k l
  unfolding staying_pairs
  pairs-out a b l e = rw (e, staying_pairs)

  -- what stays of a stack
  stack : List ℕ → List ℕ
  stack [] = []
  stack (a ∷ st) = elim (k a) [ true ↦ rank k a ∷ stack st | false ↦ stack st ]

  stack-in : (a : ℕ) (st : List ℕ) → k a ≡ true → stack (a ∷ st) ≡ rank k a ∷ stack st
  unfolding stack
  stack-in a st e = rw (e, stack)

  stack-out : (a : ℕ) (st : List ℕ) → k a ≡ false → stack (a ∷ st) ≡ stack st
  unfolding stack
  stack-out a st e = rw (e, stack)

  module _ (w v : ℕ → Bool) (kinds : (i : ℕ) → k i ≡ true → v (rank k i) ≡ w i) where
    -- it is of one kind
    stack-uni : (c : Bool) (st : List ℕ) → Uni w c st → Uni v c (stack st)
    unfolding stack
    stack-uni c [] u = tt
    stack-uni c (a ∷ st) u = by (k a) refl (stack-uni c st u.1)
      where
        by : (b : Bool) → k a ≡ b → Uni v c (stack st) → Uni v c (stack (a ∷ st))
        by true e r = rw (stack-in a st e) (kinds a e ∙ u.0, r)
        by false e r = rw (stack-out a st e) r

    -- a position of the stack's kind is pushed
    pushes : (c : Bool) (st : List ℕ) (p n : ℕ) → Uni v c st → v p ≡ c → run v st p (suc n) ≡ run v (p ∷ st) (suc p) n
    pushes c [] p n u e = refl
    pushes c (a ∷ st) p n u e = run-push v a st p n (ap₂ beq u.0 e ∙ same_refl c)

    -- what holds of the pass from the stack st, at p, with f positions to come
    abbrev Passes : List ℕ → ℕ → ℕ → Type 0
    Passes st p f = (q n : ℕ) → q ≡ rank k p → q + n ≡ rank k (p + f) → run v (stack st) q n ≡ staying_pairs k (run w st p f)

    -- p is the first of suc f positions to come
    come-next : (p f : ℕ) → p + suc f ≡ suc p + f
    come-next p f = omega arith

    pushed : (f : ℕ) (c : Bool) (st : List ℕ) (p : ℕ) → Uni w c (p ∷ st) → Passes (p ∷ st) (suc p) f
        → (q n : ℕ) → q ≡ rank k p → q + n ≡ rank k (p + suc f) → run v (stack st) q n ≡ staying_pairs k (run w (p ∷ st) (suc p) f)
    pushed f c st p u r q n e l = by (k p) refl n l
      where
        by : (b : Bool) → k p ≡ b → (n : ℕ) → q + n ≡ rank k (p + suc f) → run v (stack st) q n ≡ staying_pairs k (run w (p ∷ st) (suc p) f)
        by true h zero l = absurd (omega (arith, rank-stays k p h, rank_rises k (suc p) f, ap (rank k) (come-next p f)))
        by true h (suc n) l =
            pushes c (stack st) q n (stack-uni c st u.1) (ap v e ∙ (kinds p h ∙ u.0))
            ∙ (ap (λ (a : ℕ). run v (a ∷ stack st) (suc q) n) e
            ∙ (ap (λ (s : List ℕ). run v s (suc q) n) (sym (stack-in p st h))
            ∙ r (suc q) n (omega (arith, rank-stays k p h)) (omega (arith, ap (rank k) (come-next p f)))))
        by false h n l =
            ap (λ (s : List ℕ). run v s q n) (sym (stack-out p st h))
            ∙ r q n (omega (arith, rank-goes k p h)) (omega (arith, ap (rank k) (come-next p f)))

    popped : (f : ℕ) (st : List ℕ) (a p : ℕ) → beq (w a) (w p) ≡ false → k a ≡ k p → Passes st (suc p) f
        → (q n : ℕ) → q ≡ rank k p → q + n ≡ rank k (p + suc f)
        → run v (stack (a ∷ st)) q n ≡ staying_pairs k (record { fst = a; snd = p } ∷ run w st (suc p) f)
    popped f st a p d t r q n e l = by (k p) refl n l
      where
        by : (b : Bool) → k p ≡ b → (n : ℕ) → q + n ≡ rank k (p + suc f)
            → run v (stack (a ∷ st)) q n ≡ staying_pairs k (record { fst = a; snd = p } ∷ run w st (suc p) f)
        by true h zero l = absurd (omega (arith, rank-stays k p h, rank_rises k (suc p) f, ap (rank k) (come-next p f)))
        by true h (suc n) l =
            ap (λ (s : List ℕ). run v s q (suc n)) (stack-in a st (t ∙ h))
            ∙ (run-pop v (rank k a) (stack st) q n (ap₂ beq (kinds a (t ∙ h)) (ap v e ∙ kinds p h) ∙ d)
            ∙ (ap₂ (λ (i : ℕ) (m : List Pair). record { fst = rank k a; snd = i } ∷ m) e
            (r (suc q) n (omega (arith, rank-stays k p h)) (omega (arith, ap (rank k) (come-next p f))))
            ∙ sym (pairs-in a p (run w st (suc p) f) (t ∙ h))))
        by false h n l =
            ap (λ (s : List ℕ). run v s q n) (stack-out a st (t ∙ h))
            ∙ (r q n (omega (arith, rank-goes k p h)) (omega (arith, ap (rank k) (come-next p f)))
            ∙ sym (pairs-out a p (run w st (suc p) f) (t ∙ h)))

    each_first : (a b : ℕ) (l : List Pair) → Each (Together k) (record { fst = a; snd = b } ∷ l) → k a ≡ k b
    each_first a b l (one_more h r) = h

    each-rest : (p : Pair) (l : List Pair) → Each (Together k) (p ∷ l) → Each (Together k) l
    each-rest p l (one_more h r) = r

    run-thinned : (f : ℕ) (c : Bool) (st : List ℕ) (p : ℕ) → Uni w c st → Each (Together k) (run w st p f) → Passes st p f
    unfolding staying_pairs
    run-thinned zero c st p u t q zero e l = refl
    run-thinned zero c st p u t q (suc n) e l = let z : p + 0 ≡ p = omega arith in absurd (omega (arith, ap (rank k) z))
    run-thinned (suc f) c [] p u t q n e l = pushed f (w p) [] p (refl, tt) (run-thinned f (w p) (p ∷ []) (suc p) (refl, tt) t) q n e l
    run-thinned (suc f) c (a ∷ st) p u t q n e l =
        by (beq (w a) (w p)) refl (run-thinned f c (p ∷ a ∷ st) (suc p)) (run-thinned f c st (suc p))
      where
        by : (b : Bool) → beq (w a) (w p) ≡ b
            → (Uni w c (p ∷ a ∷ st) → Each (Together k) (run w (p ∷ a ∷ st) (suc p) f) → Passes (p ∷ a ∷ st) (suc p) f)
            → (Uni w c st → Each (Together k) (run w st (suc p) f) → Passes st (suc p) f)
            → run v (stack (a ∷ st)) q n ≡ staying_pairs k (run w (a ∷ st) p (suc f))
        by true d i j =
            let x : Uni w c (p ∷ a ∷ st) = (sym (same_true (w a) (w p) d) ∙ u.0, u) in
            pushed f c (a ∷ st) p x (i x (rw (run-push w a st p f d) at t)) q n e l ∙ ap (staying_pairs k) (sym (run-push w a st p f d))
        by false d i j =
            let y = rw (run-pop w a st p f d) at t in
            popped f st a p d (each_first a p (run w st (suc p) f) y) (j u.1 (each-rest _ (run w st (suc p) f) y)) q n e l
            ∙ ap (staying_pairs k) (sym (run-pop w a st p f d))

    pub pairs-thinned : (n : ℕ) → Each (Together k) (pairs_of w n) → pairs_of v (rank k n) ≡ staying_pairs k (pairs_of w n)
    unfolding stack
    pairs-thinned n t =
        let z : 0 + n ≡ n = omega arith in
        pairs-run v (rank k n)
        ∙ (run-thinned n true [] 0 tt (rw (pairs-run w n) at t) 0 (rank k n) (sym (rank-first k)) (omega (arith, ap (rank k) z))
        ∙ ap (staying_pairs k) (sym (pairs-run w n)))

  -- ---- the partner of a position that stays

  pub partner-thinned : (l : List Pair) → Each (Together k) l → (i : ℕ) → k i ≡ true → partner_in (staying_pairs k l) (rank k i) ≡ rank k (partner_in l i)
  unfolding staying_pairs
  partner-thinned [] t i h = refl
  partner-thinned (p ∷ l) (one_more e t) i h =
      by (k p.fst) refl (eqb i p.fst) (same? i p.fst) (eqb i p.snd) (same? i p.snd) (partner-thinned l t i h)
    where
      moved : Pair
      moved = record { fst = rank k p.fst; snd = rank k p.snd }

      first : k p.fst ≡ true → partner_in (staying_pairs k (p ∷ l)) (rank k i) ≡ partner_in (moved ∷ staying_pairs k l) (rank k i)
      first q = ap (λ (m : List Pair). partner_in m (rank k i)) (pairs-in p.fst p.snd l q)

      apart : (j : ℕ) → k j ≡ true → i ≢ j → eqb (rank k i) (rank k j) ≡ false
      apart j q n = ne_eqb (rank k i) (rank k j) (λ z. n (rank-one k i j h q z))

      gone : (j : ℕ) → k j ≡ false → eqb i j ≡ false
      gone j q = ne_eqb i j (λ z. let c : ◌≡◌ {A = ℕ} 0 1 = cc (ap k z) in omega arith)

      by : (b : Bool) → k p.fst ≡ b → (x : Bool) → Same i p.fst x → (y : Bool) → Same i p.snd y
          → partner_in (staying_pairs k l) (rank k i) ≡ rank k (partner_in l i) → partner_in (staying_pairs k (p ∷ l)) (rank k i) ≡ rank k (partner_in (p ∷ l) i)
      by true q true (same a) y z r =
          first q
          ∙ (partner-fst moved (staying_pairs k l) (rank k i) (eq-eqb (rank k i) (rank k p.fst) (ap (rank k) a))
          ∙ ap (rank k) (sym (partner-fst p l i (eq-eqb i p.fst a))))
      by true q false (other a) true (same z) r =
          first q
          ∙ (partner-snd moved (staying_pairs k l) (rank k i) (apart p.fst q a) (eq-eqb (rank k i) (rank k p.snd) (ap (rank k) z))
          ∙ ap (rank k) (sym (partner-snd p l i (ne_eqb i p.fst a) (eq-eqb i p.snd z))))
      by true q false (other a) false (other z) r =
          first q
          ∙ (partner-next moved (staying_pairs k l) (rank k i) (apart p.fst q a) (apart p.snd (sym e ∙ q) z)
          ∙ (r ∙ ap (rank k) (sym (partner-next p l i (ne_eqb i p.fst a) (ne_eqb i p.snd z)))))
      by false q x s y z r =
          ap (λ (m : List Pair). partner_in m (rank k i)) (pairs-out p.fst p.snd l q)
          ∙ (r ∙ ap (rank k) (sym (partner-next p l i (gone p.fst q) (gone p.snd (sym e ∙ q)))))

-- ---- which pairs stay or go together

each_of : (P : ℕ → ℕ → Type 0) (l : List Pair) → ((p : Pair) → Memᴰ p l → P p.fst p.snd) → Each P l
each_of P [] h = no_more
each_of P (p ∷ l) h = one_more (h p (Memᴰ.head refl)) (each_of P l (λ q m. h q (Memᴰ.tail m)))

fst-paired : {p : Pair} {l : List Pair} → Memᴰ p l → 0 < paired p.fst l
fst-paired {p} (Memᴰ.head e) = omega (arith, ap (λ (b : Bool). when b 1) (eq-eqb p.fst _ (ap (λ (q : Pair). q.fst) e)))
fst-paired (Memᴰ.tail m) = omega (arith, fst-paired m)

-- a position that stands in one pair only has the other of that pair as its partner
partner-of : (p : Pair) (l : List Pair) → Memᴰ p l → paired p.fst l ≤ 1 → partner_in l p.fst ≡ p.snd
partner-of p [] x'' h = elim x'' [ ]
partner-of p (q ∷ l) (Memᴰ.head e) h =
    partner-fst q l p.fst (eq-eqb p.fst q.fst (ap (λ (r : Pair). r.fst) e)) ∙ ap (λ (r : Pair). r.snd) (sym e)
partner-of p (q ∷ l) (Memᴰ.tail m) h =
    by (eqb p.fst q.fst) refl (eqb p.fst q.snd) refl (partner-of p l m)
  where
    by : (a : Bool) → eqb p.fst q.fst ≡ a → (b : Bool) → eqb p.fst q.snd ≡ b → (paired p.fst l ≤ 1 → partner_in l p.fst ≡ p.snd)
        → partner_in (q ∷ l) p.fst ≡ p.snd
    by true e b g r = absurd (omega (arith, fst-paired m, ap (λ (b : Bool). when b 1) e))
    by false e true g r = absurd (omega (arith, fst-paired m, ap (λ (b : Bool). when b 1) g))
    by false e false g r = partner-next q l p.fst e g ∙ r (omega arith)

-- a pair stays or goes together where each position stays as its partner does
pub pairs-together : (k w : ℕ → Bool) (n : ℕ) → Even w n → ((i : ℕ) → i < n → k (partner_in (pairs_of w n) i) ≡ k i) → Each (Together k) (pairs_of w n)
pairs-together k w n even h = each_of (Together k) (pairs_of w n) (λ p m. both p m)
  where
    both : (p : Pair) → Memᴰ p (pairs_of w n) → k p.fst ≡ k p.snd
    both p m =
        let o = pairs-ordered w n p m in
        let l : p.fst < n = omega (arith, o.rises, o.within) in
        sym (h p.fst l) ∙ ap k (partner-of p (pairs_of w n) m (omega (arith, pairs-each w n (passed-even w n even) p.fst l)))
