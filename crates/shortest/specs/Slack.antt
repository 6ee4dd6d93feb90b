-- What a move of the search leaves: by how much the move and the price of its head cost more than the price of its tail. Moves that leave nothing are tight;
-- and where each move out of a set leaves so much or more, the prices of the set may be raised by that. A move between spots of the set leaves what it left.
-- Assumes nothing.
use Rattle.std.specs.Prelude.{◌≡◌, refl, Bool, true, false, List, ℕ, ◌+◌, ◌/◌, ◌≤◌, ◌<◌, T}
use Rattle.std.proofs.Common.{sym, ap, subst, ◌∙◌, inl, inr, arith}
use Rattle.sums.specs.Counting.{when}
use Rattle.sums.specs.Tests.{so}
use Rattle.sums.specs.Sums.{when-so}
use Rattle.flow.specs.Residual.{Residual, undo, room, unlimited}
use Rattle.price.specs.Moves.{Open, Tight, takes, adds}
use Rattle.price.specs.Priced.{Priced}
use Rattle.model.specs.Job.{Job, array_fits}
use Rattle.model.specs.Loads.{Feasible}
use Rattle.model.specs.Record.{load}
use Rattle.channel.specs.Map.{spots, darts, rev, moves, view, outside}
use Rattle.channel.specs.Map.Network.{net, dart-net, net-tail, net-head, net-rev, net-outside, net-nodes}
use Rattle.channel.specs.Map.Network.Moves.{move-residual}
use Rattle.shortest.specs.MovesPriced.{Kept, moves-priced}

-- the numbers of the two ends of the move along d, what it costs beside that of its head, and what it gives back beside that of its tail
pub data Slack (len π : ℕ → ℕ) (rec : List ℕ) (d x : ℕ) : Type 0 where
  taking : 0 < view rec (rev d) → π (d / 8) + len (rev d) + x ≡ π (rev d / 8) → Slack len π rec d x
  adding : view rec (rev d) ≡ 0 → π (d / 8) + x ≡ π (rev d / 8) + len d → Slack len π rec d x

-- the prices π, those of the spots of S raised by δ
abbrev pub raise : (ℕ → ℕ) → (ℕ → Bool) → ℕ → ℕ → ℕ
raise π S δ u = π u + when (S u) δ

-- between two spots of S
pub slack-inside : {len π : ℕ → ℕ} {rec : List ℕ} {d x : ℕ} (S : ℕ → Bool) (δ : ℕ) → T (S (d / 8)) → T (S (rev d / 8)) → Slack len π rec d x
    → Slack len (raise π S δ) rec d x
slack-inside {d = d} S δ s t (taking h e) = taking h (omega (arith, when-so (S (d / 8)) δ s, when-so (S (rev d / 8)) δ t))
slack-inside {d = d} S δ s t (adding z e) = adding z (omega (arith, when-so (S (d / 8)) δ s, when-so (S (rev d / 8)) δ t))

module _ (J : Job) (rec : List ℕ) where
  open-move : (d : ℕ) → T (moves J rec d) → view rec (rev d) ≡ 0 → Open (net J) (view rec) d
  open-move d t z = by (move-residual J rec d t)
    where
      by : Residual (net J) (view rec) d → Open (net J) (view rec) d
      by (undo h) = absurd (omega (arith, subst (λ (r : ℕ → ℕ). 0 < view rec (r d)) (net-rev J) h))
      by (room h) = inl h
      by (unlimited f) = inr f

module _ (J : Job) (rec : List ℕ) {len π : ℕ → ℕ} where
  -- A move that leaves nothing is tight.
  pub slack-tight : (d : ℕ) → T (moves J rec d) → Slack len π rec d 0 → Tight (net J) len (view rec) π d
  slack-tight d t (taking h e) =
      takes (subst (λ (r : ℕ → ℕ). 0 < view rec (r d)) (sym (net-rev J)) h)
      (omega (arith, ap π (net-tail J d), ap π (net-head J d), ap (λ (r : ℕ → ℕ). len (r d)) (net-rev J)))
  slack-tight d t (adding z e) =
      adds (ap (λ (r : ℕ → ℕ). view rec (r d)) (net-rev J) ∙ z) (open-move J rec d t z) (omega (arith, ap π (net-tail J d), ap π (net-head J d)))

  -- Prices are kept by every move,
  pub priced-kept : Priced (net J) len (view rec) π → (d : ℕ) → d < darts → T (moves J rec d) → Kept len π rec d
  priced-kept P d l t =
      record {
        taking = λ h.
            omega (
              arith,
              P.taking d (dart-net J l) (subst (λ (r : ℕ → ℕ). 0 < view rec (r d)) (sym (net-rev J)) h),
              ap π (net-tail J d),
              ap π (net-head J d),
              ap (λ (r : ℕ → ℕ). len (r d)) (net-rev J),
            );
        adding = λ z. omega (arith, P.adding d (dart-net J l) (open-move J rec d t z), ap π (net-tail J d), ap π (net-head J d));
      }

-- each move out of S leaves δ or more
pub record Leaves (J : Job) (rec : List ℕ) (len π : ℕ → ℕ) (S : ℕ → Bool) (δ : ℕ) : Type 0 where
  pub inside : (u : ℕ) → u < spots → T (S u) → T (outside J u) → ⊥
  pub least : (d : ℕ) → d < darts → T (moves J rec d) → T (S (d / 8)) → (T (S (rev d / 8)) → ⊥) → (x : ℕ) × Slack len π rec d x × (δ ≤ x)

module _ (J : Job) (fits : T (array_fits J.rows J.columns)) (rec : List ℕ) (feasible : Feasible J (load rec)) {len π : ℕ → ℕ} {S : ℕ → Bool} {δ : ℕ}
    (P : Priced (net J) len (view rec) π) (L : Leaves J rec len π S δ) where
  -- the four cases of a move and a set
  kept : (d : ℕ) → d < darts → T (moves J rec d) → Kept len (raise π S δ) rec d
  kept d l t = by (S (d / 8)) refl (S (rev d / 8)) refl (priced-kept J rec P d l t)
    where
      leaving : S (d / 8) ≡ true → S (rev d / 8) ≡ false → (x : ℕ) × Slack len π rec d x × (δ ≤ x)
      leaving a b = L.least d l t (so a) (λ s. subst T b s)

      leaving-taking : (x : ℕ) → Slack len π rec d x → δ ≤ x → 0 < view rec (rev d) → π (d / 8) + δ + len (rev d) ≤ π (rev d / 8)
      leaving-taking x (taking h e) m p = omega arith
      leaving-taking x (adding z e) m p = absurd (omega arith)

      leaving-adding : (x : ℕ) → Slack len π rec d x → δ ≤ x → view rec (rev d) ≡ 0 → π (d / 8) + δ ≤ π (rev d / 8) + len d
      leaving-adding x (taking h e) m p = absurd (omega arith)
      leaving-adding x (adding z e) m p = omega arith

      by : (a : Bool) → S (d / 8) ≡ a → (b : Bool) → S (rev d / 8) ≡ b → Kept len π rec d
          → Kept len (raise π S δ) rec d
      by true p true q K =
          record {
            taking = λ h. omega (arith, K.taking h, when-so (S (d / 8)) δ (so p), when-so (S (rev d / 8)) δ (so q));
            adding = λ z. omega (arith, K.adding z, when-so (S (d / 8)) δ (so p), when-so (S (rev d / 8)) δ (so q));
          }
      by true p false q K =
          let (x, s, m) = leaving p q in
          record {
            taking = λ h. omega (arith, leaving-taking x s m h, when-so (S (d / 8)) δ (so p));
            adding = λ z. omega (arith, leaving-adding x s m z, when-so (S (d / 8)) δ (so p));
          }
      by false p b q K =
          let n : when (S (d / 8)) δ ≡ 0 = ap (λ (c : Bool). when c δ) p in
          record { taking = λ h. omega (arith, n, K.taking h); adding = λ z. omega (arith, n, K.adding z) }

  -- and the raised ones are prices.
  pub raised-priced : Priced (net J) len (view rec) (raise π S δ)
  raised-priced = moves-priced J fits rec feasible floor kept
    where
      floor : (u : ℕ) → u < spots → T (outside J u) → raise π S δ u ≡ 0
      floor u l o = by (S u) refl
        where
          by : (b : Bool) → S u ≡ b → π u + when b δ ≡ 0
          by true e = absurd (L.inside u l (so e) o)
          by false e =
              omega (
                arith,
                P.grounded u (subst (λ (n : ℕ). u < n) (sym (net-nodes J)) l) (subst (λ (p : ℕ → Bool). T (p u)) (sym (net-outside J)) o),
              )
