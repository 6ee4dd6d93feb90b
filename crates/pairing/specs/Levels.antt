-- The levels: with each position of kind k one up and each other one down, a pair joins a position with the first one that comes back to its level, from
-- the level 0 away. All that is used of the pairs follows: no two interleave, and a position has one partner. Assumes nothing.
use Prim.Native.Nat.{ℕ, zero, suc, ◌+◌, ◌*◌, ◌≤◌, ◌<◌}
use native.Mathlib.Omega.{arith}
use Rattle.std.specs.Prelude.{Bool, ◌⊎◌, ◌≡◌}
use Rattle.std.proofs.Math.Bool.{true, false, not, beq}
use mathlib.Core.List.{List, [], ◌∷◌}
use Rattle.std.proofs.Math.Logic.{inl, inr}
use Rattle.std.proofs.Math.Path.{refl, sym, ap}
use Rattle.std.proofs.Common.{◌∙◌, subst, eqb-true}
use Rattle.std.proofs.Math.Dec.{eqb}
use Rattle.std.proofs.Math.ListN.{length}
use Rattle.std.proofs.lemmas.Bool.{eqb-false}
use Rattle.sums.specs.Counting.{when, sum}
use Rattle.model.specs.Pairing.{Pair, pairs_of, partner_in}
use Rattle.pairing.specs.Pass.{run, paired, passed}
use Rattle.pairing.specs.Rounds.{same_true, same_false, same_refl, same_not, not-not, Each, no_more, one_more, run-push, run-pop, pairs-run}

-- the clauses of `partner_in`, by cases
pub partner-fst : (p : Pair) (l : List Pair) (i : ℕ) → eqb i p.fst ≡ true → partner_in (p ∷ l) i ≡ p.snd
partner-fst p l i e = rw (e, partner_in)

pub partner-snd : (p : Pair) (l : List Pair) (i : ℕ) → eqb i p.fst ≡ false → eqb i p.snd ≡ true → partner_in (p ∷ l) i ≡ p.fst
partner-snd p l i e g = rw (e, partner_in, g)

pub partner-next : (p : Pair) (l : List Pair) (i : ℕ) → eqb i p.fst ≡ false → eqb i p.snd ≡ false → partner_in (p ∷ l) i ≡ partner_in l i
partner-next p l i e g = rw (e, partner_in, g)

module _ (w : ℕ → Bool) where
  -- a < b are joined; k is the kind of a
  pub record Joins (k : Bool) (a b : ℕ) : Type 0 where
    pub lt : a < b
    pub ka : w a ≡ k
    pub kb : w b ≡ not k
    pub opens : a ≤ 2 * passed w k a
    pub level : 2 * passed w k a + suc b ≡ 2 * passed w k (suc b) + a
    pub above : (j : ℕ) → a < j → j ≤ b → 2 * passed w k a + j < 2 * passed w k j + a

  -- one position more
  kind-two : (x k : Bool) → when (beq x k) 1 + when (beq x (not k)) 1 ≡ 1
  kind-two true true = refl
  kind-two true false = refl
  kind-two false true = refl
  kind-two false false = refl

  pub passed-two : (k : Bool) (i : ℕ) → passed w k i + passed w (not k) i ≡ i
  unfolding sum
  passed-two k zero = omega arith
  passed-two k (suc i) = let r = passed-two k i in let t = kind-two (w i) k in omega arith

  pub passed-up : (k : Bool) (i : ℕ) → w i ≡ k → passed w k (suc i) ≡ suc (passed w k i)
  unfolding sum
  passed-up k i e = let z = ap (λ x. when (beq x k) 1) e ∙ ap (λ (b : Bool). when b 1) (same_refl k) in omega arith

  pub passed-down : (k : Bool) (i : ℕ) → w i ≡ not k → passed w k (suc i) ≡ passed w k i
  unfolding sum
  passed-down k i e = let z = ap (λ x. when (beq x k) 1) e ∙ ap (λ (b : Bool). when b 1) (same_not k) in omega arith

  -- two kinds: the same or opposite
  two : (k m : Bool) → (m ≡ k) ⊎ (m ≡ not k)
  two true true = inl refl
  two true false = inr refl
  two false true = inr refl
  two false false = inl refl

  -- no two interleave
  pub no-interleave : (k m : Bool) (a b c d : ℕ) → a < b → b < c → c < d → Joins k a c → Joins m b d → ⊥
  no-interleave k m a b c d ab bc cd p q = go (two k m)
    where
      same_kind_lem : Joins k b d → ⊥
      same_kind_lem q = omega (arith, p.above b ab (omega arith), q.above (suc c) (omega arith) cd)

      other-kind : Joins (not k) b d → ⊥
      other-kind q = omega (arith, p.above b ab (omega arith), passed-two k b)

      go : (m ≡ k) ⊎ (m ≡ not k) → ⊥
      go (inl e) = same_kind_lem (subst (λ m. Joins m b d) e q)
      go (inr e) = other-kind (subst (λ m. Joins m b d) e q)

  pub one_end : (k m : Bool) (a b c : ℕ) → Joins k a b → Joins m a c → b ≡ c
  one_end k m a b c p q' = let h₁ : ¬ (b < c) = lt₁ in let h₂ : ¬ (c < b) = lt₂ in omega arith
    where
      q : Joins k a c
      q = subst (λ m. Joins m a c) (sym q'.ka ∙ p.ka) q'

      lt₁ : ¬ (b < c)
      lt₁ h = omega (arith, q.above (suc b) (omega arith) h)

      lt₂ : ¬ (c < b)
      lt₂ h = omega (arith, p.above (suc c) (omega (arith, q.lt)) h, q.level)

  pub one-start : (k m : Bool) (a b c : ℕ) → Joins k a c → Joins m b c → a ≡ b
  one-start k m a b c p q' = let h₁ : ¬ (a < b) = lt₁ in let h₂ : ¬ (b < a) = lt₂ in omega arith
    where
      q : Joins k b c
      q = subst (λ m. Joins m b c) (sym (not-not m) ∙ ap not (sym q'.kb ∙ p.kb) ∙ not-not k) q'

      lt₁ : ¬ (a < b)
      lt₁ h = omega (arith, p.above b h (omega (arith, q.lt)), q.level)

      lt₂ : ¬ (b < a)
      lt₂ h = omega (arith, q.above a h (omega arith), q.level)

  -- no position both ends a pair and starts one
  pub not-both : (k m : Bool) (a b c : ℕ) → Joins k a b → Joins m b c → ⊥
  not-both k m a b c p q' = omega (arith, p.above b p.lt (omega arith), q.opens, passed-two k b)
    where
      q : Joins (not k) b c
      q = subst (λ m. Joins m b c) (sym q'.ka ∙ p.kb) q'

  more : (k : Bool) (a j : ℕ) → ((i : ℕ) → a < i → i ≤ j → 2 * passed w k a + i < 2 * passed w k i + a)
      → 2 * passed w k a + suc j < 2 * passed w k (suc j) + a
      → (i : ℕ) → a < i → i ≤ suc j → 2 * passed w k a + i < 2 * passed w k i + a
  more k a j ab h i lo hi = go (eqb i (suc j)) refl
    where
      go : (b : Bool) → eqb i (suc j) ≡ b → 2 * passed w k a + i < 2 * passed w k i + a
      go true e = let q = eqb-true i (suc j) e in omega (arith, ap (passed w k) q)
      go false e = let q : ¬ (i ≡ suc j) = eqb-false i (suc j) e in ab i lo (omega arith)

  -- i and m are joined, in either order
  pub Partners : ℕ → ℕ → Type 0
  Partners i m = ((k : Bool) × Joins k i m) ⊎ ((k : Bool) × Joins k m i)

  pub partners-sym : (i m : ℕ) → Partners i m → Partners m i
  unfolding Partners
  partners-sym i m (inl p) = inr p
  partners-sym i m (inr p) = inl p

  pub partners-one : (i a b : ℕ) → Partners i a → Partners i b → a ≡ b
  unfolding Partners
  partners-one i a b (inl p) (inl q) = one_end p.0 q.0 i a b p.1 q.1
  partners-one i a b (inl p) (inr q) = absurd (not-both q.0 p.0 b i a q.1 p.1)
  partners-one i a b (inr p) (inl q) = absurd (not-both p.0 q.0 a i b p.1 q.1)
  partners-one i a b (inr p) (inr q) = one-start p.0 q.0 a b i p.1 q.1

  pub partners-kind : (i m : ℕ) → Partners i m → w m ≡ not (w i)
  unfolding Partners
  partners-kind i m (inl p) = p.1.kb ∙ ap not (sym p.1.ka)
  partners-kind i m (inr p) = p.1.ka ∙ sym (ap not p.1.kb ∙ not-not p.0)

  -- the pass with a stack joins by levels: what holds of the stack before position p
  pub Stack : Bool → List ℕ → ℕ → Type 0
  Stack k [] p = Unit {0}
  Stack k (a ∷ st) p =
      (w a ≡ k) × (a < p) × (2 * passed w k a ≡ a + length st)
      × ((j : ℕ) → a < j → j ≤ p → 2 * passed w k a + j < 2 * passed w k j + a) × Stack k st p

  stack-keep : (k : Bool) (st : List ℕ) (p : ℕ) → suc p + length st ≤ 2 * passed w k (suc p) → Stack k st p → Stack k st (suc p)
  unfolding Stack
  stack-keep k [] p h s = tt
  stack-keep k (a ∷ st) p h s =
      (s.0, omega arith, s.2, more k a p s.3 (omega arith), stack-keep k st p (omega arith) s.4)

  abbrev pub Joined : ℕ → ℕ → Type 0
  Joined a b = (k : Bool) × Joins k a b

  pub run-joins : (f : ℕ) (k : Bool) (st : List ℕ) (p : ℕ) → Stack k st p → 2 * passed w k p ≡ p + length st → Each Joined (run w st p f)
  unfolding Stack
  run-joins zero k st p s e = no_more
  run-joins (suc f) k [] p s e =
      let t = passed-two k p in
      let h = here k (w p) (omega arith) in
      let c = passed-up (w p) p refl in
      run-joins f (w p) (p ∷ []) (suc p)
      (refl, omega arith, omega arith, more (w p) p p (λ j lo hi. absurd (omega arith)) (omega arith), tt) (omega arith)
    where
      here : (k m : Bool) → 2 * passed w k p ≡ p → 2 * passed w m p ≡ p
      here true true e = e
      here false false e = e
      here true false e = omega (arith, passed-two true p)
      here false true e = omega (arith, passed-two true p)
  run-joins (suc f) k (a ∷ st) p s e =
      go (beq (w a) (w p)) refl (run-joins f k (p ∷ a ∷ st) (suc p)) (run-joins f k st (suc p))
    where
      go : (b : Bool) → beq (w a) (w p) ≡ b
          → (Stack k (p ∷ a ∷ st) (suc p) → 2 * passed w k (suc p) ≡ suc p + length (p ∷ a ∷ st) → Each Joined (run w (p ∷ a ∷ st) (suc p) f))
          → (Stack k st (suc p) → 2 * passed w k (suc p) ≡ suc p + length st → Each Joined (run w st (suc p) f))
          → Each Joined (run w (a ∷ st) p (suc f))
      go true b i₁ i₂ =
          let kp = sym (same_true (w a) (w p) b) ∙ s.0 in
          let c = passed-up k p kp in
          rw (run-push w a st p f b)
          (i₁ (kp, omega arith, omega arith, more k p p (λ j lo hi. absurd (omega arith)) (omega arith), stack-keep k (a ∷ st) p (omega arith) s) (omega arith))
      go false b i₁ i₂ =
          let kp = same_false (w a) (w p) b ∙ ap not s.0 in
          let c = passed-down k p kp in
          rw (run-pop w a st p f b)
          (one_more (k, record { lt = s.1; ka = s.0; kb = kp; opens = omega arith; level = omega arith; above = s.3 })
          (i₂ (stack-keep k st p (omega arith) s.4) (omega arith)))

  -- every pair that the rounds join
  pub pairs-joined : (n : ℕ) → Each Joined (pairs_of w n)
  unfolding Stack sum
  pairs-joined n = rw (pairs-run w n) (run-joins n true [] 0 tt (omega arith))

  -- the partner in the pairs is joined
  pub partner-found : (i : ℕ) (l : List Pair) → Each Joined l → 0 < paired i l → Partners i (partner_in l i)
  unfolding Partners
  partner-found i [] no_more h = absurd (omega arith)
  partner-found i (p ∷ l) (one_more j r) h = go (eqb i p.fst) refl (eqb i p.snd) refl (partner-found i l r)
    where
      go : (a : Bool) → eqb i p.fst ≡ a → (b : Bool) → eqb i p.snd ≡ b → (0 < paired i l → Partners i (partner_in l i)) → Partners i (partner_in (p ∷ l) i)
      go true e b g ih = rw (partner-fst p l i e) (inl (subst (λ x. Joined x p.snd) (sym (eqb-true i p.fst e)) j))
      go false e true g ih = rw (partner-snd p l i e g) (inr (subst (λ x. Joined p.fst x) (sym (eqb-true i p.snd g)) j))
      go false e false g ih = rw (partner-next p l i e g) (ih (omega (arith, ap (λ (b : Bool). when b 1) e, ap (λ (b : Bool). when b 1) g)))
