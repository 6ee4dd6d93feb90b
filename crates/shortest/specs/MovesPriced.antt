-- Prices that no move of the search undercuts are prices of the record's loads: a dart without limit that is held back, since wires go the other way on its
-- link, leads where two moves lead that take such a wire back, and along these prices do not fall. Assumes nothing.
use Rattle.std.specs.Prelude.{◌≡◌, ◌⊎◌, Bool, List, ℕ, ◌+◌, ◌/◌, ◌≤◌, ◌<◌, T}
use Rattle.std.proofs.Common.{sym, ap, subst, inl, inr, eq-zero-or-pos, arith}
use Rattle.price.specs.Moves.{Open}
use Rattle.price.specs.Priced.{Priced}
use Rattle.model.specs.Job.{Job, array_fits}
use Rattle.model.specs.Loads.{Feasible}
use Rattle.model.specs.Record.{load}
use Rattle.channel.specs.Map.{spots, darts, rev, free, opposed, moves, view, outside}
use Rattle.channel.specs.Map.Back.{rev<, rev-rev}
use Rattle.channel.specs.Map.Network.{net, net-dart, node-spot, net-tail, net-head, net-rev, net-cap, net-free, net-outside}
use Rattle.channel.specs.Map.Network.Moves.{Detour, free-detour, undo-moves, room-moves, free-moves}

-- the move along d does not undercut the prices π: what it costs, or gives back
pub record Kept (len π : ℕ → ℕ) (rec : List ℕ) (d : ℕ) : Type 0 where
  pub taking : 0 < view rec (rev d) → π (d / 8) + len (rev d) ≤ π (rev d / 8)
  pub adding : view rec (rev d) ≡ 0 → π (d / 8) ≤ π (rev d / 8) + len d

module _ (J : Job) (fits : T (array_fits J.rows J.columns)) (rec : List ℕ) (feasible : Feasible J (load rec)) {len π : ℕ → ℕ}
    (floor : (u : ℕ) → u < spots → T (outside J u) → π u ≡ 0) (kept : (d : ℕ) → d < darts → T (moves J rec d) → Kept len π rec d) where
  taken : (d : ℕ) → d < darts → 0 < view rec (rev d) → π (d / 8) + len (rev d) ≤ π (rev d / 8)
  taken d l h = (kept d l (undo-moves J rec d h)).taking h

  -- along a loaded dart prices do not rise
  falls : (e : ℕ) → e < darts → 0 < view rec e → π (rev e / 8) ≤ π (e / 8)
  falls e l h =
      let back : rev (rev e) ≡ e = rev-rev e l in
      omega (arith, taken (rev e) (rev< e l) (subst (λ (z : ℕ). 0 < view rec z) (sym back) h), ap (λ (z : ℕ). π (z / 8)) back)

  moved : (d : ℕ) → d < darts → T (moves J rec d) → π (d / 8) ≤ π (rev d / 8) + len d
  moved d l t = by (eq-zero-or-pos (view rec (rev d)))
    where
      by : (view rec (rev d) ≡ 0) ⊎ (0 < view rec (rev d)) → π (d / 8) ≤ π (rev d / 8) + len d
      by (inl z) = (kept d l t).adding z
      by (inr h) = omega (arith, taken d l h)

  freed : (d : ℕ) → d < darts → T (free J d) → π (d / 8) ≤ π (rev d / 8) + len d
  freed d l f = by (eq-zero-or-pos (opposed rec d))
    where
      by : (opposed rec d ≡ 0) ⊎ (0 < opposed rec d) → π (d / 8) ≤ π (rev d / 8) + len d
      by (inl z) = moved d l (free-moves J rec d f z)
      by (inr h) =
          let D : Detour rec d = free-detour J fits rec feasible d l f h in
          omega (
            arith,
            falls D.first D.first< D.first-loaded,
            falls D.second D.second< D.second-loaded,
            ap π D.starts,
            ap π D.meets,
            ap π D.leads,
          )

  pub moves-priced : Priced (net J) len (view rec) π
  moves-priced =
      record {
        adding = λ d l o. omega (arith, added d (net-dart J l) o, ap π (net-tail J d), ap π (net-head J d));
        taking = λ d l h.
            omega (
              arith,
              taken d (net-dart J l) (subst (λ (r : ℕ → ℕ). 0 < view rec (r d)) (net-rev J) h),
              ap π (net-tail J d),
              ap π (net-head J d),
              ap (λ (r : ℕ → ℕ). len (r d)) (net-rev J),
            );
        grounded = λ u l o. floor u (node-spot J l) (subst (λ (p : ℕ → Bool). T (p u)) (net-outside J) o);
      }
    where
      added : (d : ℕ) → d < darts → Open (net J) (view rec) d → π (d / 8) ≤ π (rev d / 8) + len d
      added d l (inl h) = moved d l (room-moves J rec d (subst (λ (c : ℕ → ℕ). view rec d < c d) (net-cap J) h))
      added d l (inr f) = freed d l (subst (λ (p : ℕ → Bool). T (p d)) (net-free J) f)
