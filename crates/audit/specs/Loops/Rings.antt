-- The loop finder's two ends. From a spot that is done loaded darts fall along the marks. With an edge from the top of the stack to a spot on it, the
-- stack from that spot on is a closed path: no spot stands on it twice, so no dart comes twice. Assumes nothing.
use Rattle.std.specs.Prelude.{◌≡◌, ◌⊎◌, List}
use Rattle.std.proofs.Math.Path.{refl}
use Rattle.std.proofs.Common.{sym, ap, subst, ⊎_elim, eq-or-lt_of_le}
use Prim.Native.Nat.{ℕ, zero, suc, ◌+◌, ◌-◌, ◌*◌, ◌/◌, ◌%◌, ◌<◌}
use Rattle.std.proofs.Math.Numerals.{add-one}
use native.Mathlib.Omega.{arith}
use Rattle.std.proofs.Math.ListN.{get_or}
use Rattle.sums.specs.Counting.{total}
use Rattle.sums.specs.Sums.{when-other}
use Rattle.flow.specs.Network.{times, Path, here}
use Rattle.flow.specs.Cancel.{Loaded}
use Rattle.model.specs.Job.{Job}
use Rattle.channel.specs.Map.{darts, rev, view}
use Rattle.channel.specs.Map.Numbers.{slot-dart, tail-spot}
use Rattle.channel.specs.Map.Network.{net, path-along}
use Rattle.channel.specs.Map.Network.Loops.{FallsFrom}
use Rattle.audit.specs.Loops.{ring_darts, Closed}
use Rattle.audit.specs.Loops.Dfs.{Edge, Dfs, Bared, Placed}
use Rattle.sums.specs.Tests.{below_or}
use Rattle.audit.specs.Loops.Stack.{edge-node}

-- a loaded dart in one of the first five slots is an edge of its spot
loaded-edge : (rec : List ℕ) (d : ℕ) → d < darts → d % 8 < 5 → 0 < view rec d → Edge rec (d / 8) (d % 8) (rev d / 8)
loaded-edge rec d ld k l =
    let e : d ≡ 8 * (d / 8) + d % 8 = omega arith in
    record {
      spot = tail-spot d ld;
      slot = k;
      laden = subst (λ (x : ℕ). 0 < view rec x) e l;
      leads = ap (λ (x : ℕ). rev x / 8) (sym e);
    }

-- from a spot that is done loaded darts fall
pub done-falls : {rec fin st sl : List ℕ} {n m : ℕ} → Dfs rec fin st sl n m → FallsFrom 2 rec (λ u. get_or fin u 0)
done-falls {rec} s = record { fall = λ d ld k l b. s.falls (d / 8) (tail-spot d ld) b (d % 8) (rev d / 8) (loaded-edge rec d ld k l) }

-- sl has the slots alone
module _ {rec fin st sl₀ sl : List ℕ} {n m : ℕ} (s : Dfs rec fin st sl₀ n m) (b : Bared sl₀ n sl) {x : ℕ} (back : Edge rec (get_or st (n - 1) 0) (get_or sl₀ (n - 1) 0 % 8) x) where
  link : (i : ℕ) → i + 1 < n → Edge rec (get_or st i 0) (get_or sl i 0) (get_or st (i + 1) 0)
  link i l = rw (b.slot i (omega arith)) (s.link i l)

  last : (i : ℕ) → i + 1 ≡ n → Edge rec (get_or st i 0) (get_or sl i 0) x
  last i e = let p : n - 1 ≡ i = omega arith in rw (b.slot i (omega arith)) (subst (λ (y : ℕ). Edge rec (get_or st y 0) (get_or sl₀ y 0 % 8) x) p back)

  -- the edge at each spot of the stack
  edge_at : (i : ℕ) → i < n → (v : ℕ) × Edge rec (get_or st i 0) (get_or sl i 0) v
  edge_at i l = ⊎_elim (λ e. (x, last i e)) (λ h. (get_or st (i + 1) 0, link i h)) (next i l)
    where
      next : (i : ℕ) → i < n → (i + 1 ≡ n) ⊎ (i + 1 < n)
      next i h = eq-or-lt_of_le (omega arith)

  -- a dart does not come again further up
  not-again : (c i j : ℕ) → j < i → c + i ≡ n → times (ring_darts st sl i c) (8 * get_or st j 0 + get_or sl j 0) ≡ 0
  unfolding ring_darts total
  not-again zero i j l e = refl
  not-again (suc c) i j l e =
      let (v, a) = edge_at i (omega arith) in
      let (w, b) = edge_at j (omega arith) in
      omega (
        arith,
        when-other (8 * get_or st i 0 + get_or sl i 0) (8 * get_or st j 0 + get_or sl j 0) 1
            (λ q. s.apart j i l (omega arith) (spot_of (get_or st j 0) (get_or sl j 0) (get_or st i 0) (get_or sl i 0) (sym q) b.slot a.slot)),
        not-again c (suc i) j (omega arith) (omega arith),
      )
    where
      spot_of : (u k v j : ℕ) → 8 * u + k ≡ 8 * v + j → k < 5 → j < 5 → u ≡ v
      spot_of u k v j e a b = omega arith

  -- from the j-th spot up to the top, and back to x
  climb : (J : Job) (c j u : ℕ) → c + j ≡ n → (j < n → u ≡ get_or st j 0) → (j ≡ n → u ≡ x) → Path (net J) (Loaded (view rec)) (ring_darts st sl j c) u x
  unfolding ring_darts
  climb J zero j u e a b = here (b (omega arith))
  climb J (suc c) j u e a b =
      let (v, g) = edge_at j (omega arith) in
      let p : u ≡ get_or st j 0 = a (omega arith) in
      path-along J {d = 8 * get_or st j 0 + get_or sl j 0} {u = u} (slot-dart _ _ g.spot (omega (arith, g.slot))) (omega (arith, g.slot)) g.laden
      (not-again c (suc j) j (omega arith) (omega arith))
      (climb J c (suc j) (rev (8 * get_or st j 0 + get_or sl j 0) / 8) (omega arith)
      (λ l. rw add-one at (link j (omega arith)).leads) (λ l. (last j (omega arith)).leads))

  closed : (j : ℕ) → j < n → get_or st j 0 ≡ x → Closed rec st sl j n
  closed j l e =
      record {
        any = l;
        within = omega (arith, s.count);
        darts< = λ i li. let (v, g) = edge_at i li in slot-dart _ _ g.spot (omega (arith, g.slot));
        path = λ J. subst (λ (y : ℕ). Path (net J) (Loaded (view rec)) (ring_darts st sl j (n - j)) (get_or st j 0) y) (sym e)
            (climb J (n - j) j (get_or st j 0) (omega arith) (λ q. refl) (λ q. absurd (omega arith)));
      }

  -- the spot that is met stands on the stack
  pub hit-closed : (j : ℕ) → get_or fin x 0 ≡ 1 → Placed st n x j → Closed rec st sl j n
  hit-closed j e p =
      let (i, li, q) = s.off x (edge-node back) e in
      let l : j < n = ⊎_elim (λ h. h) (λ h. absurd (p.before i (omega (arith, li)) q)) (below_or j n) in
      closed j l (p.here l)
