-- What darts that pass a test reach from a set of nodes: as long as one leads out of the set, its head is taken in; each time fewer nodes are left, so that
-- at last none leads out. Assumes nothing.
use Rattle.std.specs.Prelude.{◌≡◌, ◌⊎◌, Bool, true, false, not, ◌||◌, ℕ, zero, suc, ◌+◌, ◌≤◌, ◌<◌, T, eqb}
use Rattle.std.proofs.Common.{subst, inl, inr, le_refl, arith, eqb→eq}
use Rattle.sums.specs.Counting.{when, sum}
use Rattle.sums.specs.Tests.{Same, same, other, same?, or-by}
use Rattle.sums.specs.Sums.{sum-cong, sum-add, sum-pick}
use Rattle.flow.specs.Network.{Net, head, head<}
use Rattle.witness.specs.Decide.{some-or-all}

-- a set with one node more
abbrev and_one : (ℕ → Bool) → ℕ → ℕ → Bool
and_one S v u = S u || eqb v u

or_left : (a b : Bool) → T a → T (a || b)
or_left true b t = tt
or_left false b t = absurd t

-- how many of n nodes are not in the set
abbrev left_out : ℕ → (ℕ → Bool) → ℕ
left_out n S = sum n (λ u. when (not (S u)) 1)

fewer : (n : ℕ) (S : ℕ → Bool) (v : ℕ) → v < n → T (not (S v)) → left_out n (and_one S v) + 1 ≡ left_out n S
fewer n S v l t =
    omega (
      arith,
      sum-cong n (λ u. when (not (S u)) 1) (λ u. when (not (and_one S v u)) 1 + when (eqb v u) 1) (λ u k. at u (S u) (eqb v u) (same? v u) (λ e. rest u e)),
      sum-add n (λ u. when (not (and_one S v u)) 1) (λ u. when (eqb v u) 1),
      sum-pick n v (λ u. 1) l,
    )
  where
    rest : (u : ℕ) → v ≡ u → T (not (S u))
    rest u e = subst (λ (x : ℕ). T (not (S x))) e t

    at : (u : ℕ) (a b : Bool) → Same v u b → (v ≡ u → T (not a)) → when (not a) 1 ≡ when (not (a || b)) 1 + when b 1
    at u true true (same e) f = absurd (f e)
    at u true false (other e) f = omega arith
    at u false true (same e) f = omega arith
    at u false false (other e) f = omega arith

module _ (G : Net) (E : ℕ → Bool) where
  -- no dart that passes the test leads out of S
  abbrev pub Shut : (ℕ → Bool) → Type 0
  Shut S = (d : ℕ) → d < G.darts → T (S (G.tail d)) → T (E d) → T (S (head G d))

  -- a set that holds S, out of which no dart leads, and whose nodes all have Q
  pub record Closure (S : ℕ → Bool) (Q : ℕ → Type 0) : Type 0 where
    pub set : ℕ → Bool
    pub holds : (u : ℕ) → T (S u) → T (set u)
    pub shut : Shut set
    pub only : (u : ℕ) → T (set u) → Q u

  -- a dart that leads out of S
  record Leaves (S : ℕ → Bool) (d : ℕ) : Type 0 where
    from : T (S (G.tail d))
    may : T (E d)
    to : T (not (S (head G d)))

  leaves? : (S : ℕ → Bool) (d : ℕ) → Leaves S d ⊎ (T (S (G.tail d)) → T (E d) → T (S (head G d)))
  leaves? S d = by (S (G.tail d)) (λ t. t) (E d) (λ t. t) (S (head G d)) (λ t. t) (λ t. t)
    where
      by : (a : Bool) → (T a → T (S (G.tail d))) → (b : Bool) → (T b → T (E d)) → (c : Bool) → (T (not c) → T (not (S (head G d)))) → (T c → T (S (head G d)))
          → Leaves S d ⊎ (T a → T b → T (S (head G d)))
      by false p b q c r s = inr (λ t. absurd t)
      by true p false q c r s = inr (λ t u. absurd u)
      by true p true q true r s = inr (λ t u. s tt)
      by true p true q false r s = inl (record { from = p tt; may = q tt; to = r tt })

  module _ (Q : ℕ → Type 0) (led : (d : ℕ) → d < G.darts → Q (G.tail d) → T (E d) → Q (head G d)) where
    -- none leads out, or one does and its head is taken in
    take_in : (S : ℕ → Bool) → ((u : ℕ) → T (S u) → Q u)
        → ((v : ℕ) → v < G.nodes → T (not (S v)) → ((u : ℕ) → T (and_one S v u) → Q u) → Closure (and_one S v) Q) → Closure S Q
    take_in S q more = by (some-or-all (Leaves S) (λ d. T (S (G.tail d)) → T (E d) → T (S (head G d))) (leaves? S) G.darts)
      where
        by : ((d : ℕ) × (d < G.darts) × Leaves S d) ⊎ ((d : ℕ) → d < G.darts → T (S (G.tail d)) → T (E d) → T (S (head G d))) → Closure S Q
        by (inr f) = record { set = S; holds = λ u t. t; shut = f; only = q }
        by (inl (d, l, w)) =
            let v : ℕ = head G d in
            let C : Closure (and_one S v) Q =
            more v (head< G d l) w.to
            (λ u. or-by (S u) (eqb v u) (q u) (λ t. subst Q (eqb→eq v u t) (led d l (q (G.tail d) w.from) w.may))) in
            record { set = C.set; holds = λ u t. C.holds u (or_left (S u) (eqb v u) t); shut = C.shut; only = C.only }

    grow : (k : ℕ) (S : ℕ → Bool) → left_out G.nodes S ≤ k → ((u : ℕ) → T (S u) → Q u) → Closure S Q
    grow zero S l q = take_in S q (λ v m t r. absurd (omega (arith, fewer G.nodes S v m t)))
    grow (suc k) S l q = take_in S q (λ v m t r. grow k (and_one S v) (omega (arith, fewer G.nodes S v m t)) r)

    pub closure : (S : ℕ → Bool) → ((u : ℕ) → T (S u) → Q u) → Closure S Q
    closure S q = grow (left_out G.nodes S) S (le_refl (left_out G.nodes S)) q
