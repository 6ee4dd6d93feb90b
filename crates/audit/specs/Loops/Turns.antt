-- What one turn of the loop finder does, and what was seen before it and after. Assumes nothing.
use Rattle.std.specs.Prelude.{◌≡◌, refl, ◌≢◌, List, ℕ, suc, ◌+◌, ◌-◌, ◌*◌, ◌/◌, ◌%◌, ◌≤◌, ◌<◌, length, get_or, set}
use Rattle.std.proofs.Common.{sym, ap, subst, ◌∙◌, ⊎_elim, arith, below_more, get_or-set_same}
use Rattle.std.proofs.Math.Numerals.{add-two}
use Rattle.channel.specs.Map.{spots, rev}
use Rattle.channel.specs.Map.LoadedSlots.{loaded_from, from-half}
use Rattle.audit.specs.Loops.Dfs.{Edge, Rest, Picked, unseen, Dfs, Kept, Still, Aimed, Entered}
use Rattle.sums.specs.Tests.{below_or}
use Rattle.audit.specs.Loops.Marks.{after, unseen-less, unseen_same, kept_set}
use Rattle.audit.specs.Loops.Stack.{edge-node, Below, dfs-slot, dfs-push, dfs-pop}

-- at slot 0 all are left
all_left : (rec : List ℕ) (u r : ℕ) → r ≡ loaded_from rec u 0 → Rest rec u (8 * r)
all_left rec u r e = let z : 0 ≡ 8 * r % 8 = omega arith in let q : 8 * r / 8 ≡ r = omega arith in q ∙ (e ∙ ap (loaded_from rec u) z)

-- ---- what was seen

pub still-refl : (fin : List ℕ) → Still fin fin
still-refl fin = record { kept = λ u h. h; count = refl }

pub still-then : {a b c : List ℕ} → Still a b → Still b c → Still a c
still-then p q = record { kept = λ u h. q.kept u (p.kept u h); count = q.count ∙ p.count }

-- ---- a spot goes on the stack

module _ {rec fin st sl : List ℕ} {n m v : ℕ} (a : Aimed rec fin st sl n m v) where
  marked : v < length fin
  marked = omega (arith, a.spot, a.state.room.marks)

  less : unseen (set fin v 1) + 1 ≡ unseen fin
  less = unseen-less fin v a.spot marked 0 a.blank

  -- there is room for it
  pub aimed-space : n < spots
  aimed-space = omega (arith, a.state.count, less)

  pub aimed-kept : Kept fin (set fin v 1)
  aimed-kept = kept_set fin v 0 marked

  -- at its first slot
  pub entered : (r : ℕ) → r ≡ loaded_from rec v 0 → Dfs rec (set fin v 1) (set st n v) (set sl n (8 * r)) (n + 1) m
  entered r e = dfs-push a.state v (8 * r) a.spot a.blank a.edge (λ j x h. absurd (omega arith)) (all_left rec v r e)

  pub entered-dfs : {fin' st' sl' : List ℕ} → Entered rec fin st sl n v fin' st' sl' → Dfs rec fin' st' sl' (n + 1) m
  entered-dfs e = rw (e.marks, e.stack, e.slots) (entered (loaded_from rec v 0) refl)

  pub entered-less : {fin' : List ℕ} → fin' ≡ set fin v 1 → unseen fin' + 1 ≡ unseen fin
  entered-less e = rw e less

  -- what is seen with the mark stays seen
  pub entered-kept : {fin' : List ℕ} → fin' ≡ set fin v 1 → Kept (set fin v 1) fin'
  entered-kept e = subst (Kept (set fin v 1)) (sym e) (λ u h. h)

-- ---- a turn, after the slots of the top were scanned

module _ {rec fin st sl : List ℕ} {n m s : ℕ} (d : Dfs rec fin st sl n m) (l0 : 0 < n) (p : Picked rec fin (get_or st (n - 1) 0) (get_or sl (n - 1) 0) s) where
  past : Below rec fin (get_or st (n - 1) 0) (s % 8)
  past j v l e = ⊎_elim (λ h. d.past (n - 1) (omega arith) j v h e) (λ h. p.found.past j v h l e) (below_or j (get_or sl (n - 1) 0 % 8))

  -- the top is done, and the stack is less high
  pub turn-pop : 5 ≤ s % 8
      → Dfs rec (set fin (get_or st (n - 1) 0) (m + 2)) st sl (n - 1) (m + 1) × Still fin (set fin (get_or st (n - 1) 0) (m + 2)) × (n - 1 < n)
  turn-pop l =
      let u = get_or st (n - 1) 0 in
      let (lu, eu) = d.on (n - 1) (omega arith) in
      let lf : u < length fin = omega (arith, d.room.marks) in
      let z : unseen (set fin u (m + 2)) ≡ unseen fin = rw add-two (unseen_same fin u lu lf (suc m) eu) in
      let kept : Kept fin (set fin u (m + 2)) = rw add-two (kept_set fin u (suc m) lf) in
      (dfs-pop d (n - 1) (omega arith) (λ j v e. past j v (omega (arith, e.slot)) e), record { kept = kept; count = z }, omega arith)

  -- the spot below has this one behind it, and stands at its next slot
  pub turn-next : 5 ≤ s % 8 → (i : ℕ) → n ≡ i + 2
      → Dfs rec (set fin (get_or st (n - 1) 0) (m + 2)) st (set sl i (get_or sl i 0 % 8 + 1 + 8 * (get_or sl i 0 / 16))) (n - 1) (m + 1)
      × Still fin (set fin (get_or st (n - 1) 0) (m + 2)) × (n - 1 < n)
  turn-next l i e =
      let (popped, still, less) = turn-pop l in
      (dfs-slot d' i (get_or sl i 0 % 8 + 1 + 8 * (get_or sl i 0 / 16)) (omega arith) (rw (← slot) below) rest, still, less)
    where
      d' : Dfs rec (set fin (get_or st (n - 1) 0) (m + 2)) st sl (n - 1) (m + 1)
      d' = (turn-pop l).0

      edge : Edge rec (get_or st i 0) (get_or sl i 0 % 8) (get_or st (i + 1) 0)
      edge = d.link i (omega arith)

      slot : get_or sl i 0 % 8 + 1 ≡ (get_or sl i 0 % 8 + 1 + 8 * (get_or sl i 0 / 16)) % 8
      slot = omega (arith, edge.slot)

      rest : Rest rec (get_or st i 0) (get_or sl i 0 % 8 + 1 + 8 * (get_or sl i 0 / 16))
      rest = rw (← slot)
          (omega (arith, edge.slot, d.rest i (omega arith), from-half rec (get_or st i 0) (get_or sl i 0 % 8) edge.slot))

      done : (v : ℕ) → Edge rec (get_or st i 0) (get_or sl i 0 % 8) v → 2 ≤ get_or (set fin (get_or st (n - 1) 0) (m + 2)) v 0
      done v g =
          let p : n - 1 ≡ i + 1 = omega arith in
          let lf : get_or st (n - 1) 0 < length fin = omega (arith, (d.on (n - 1) (omega arith)).0, d.room.marks) in
          let q : get_or st (n - 1) 0 ≡ v = ap (λ (x : ℕ). get_or st x 0) p ∙ (sym edge.leads ∙ g.leads) in
          subst (λ (x : ℕ). 2 ≤ get_or (set fin (get_or st (n - 1) 0) (m + 2)) x 0) q (omega (arith, get_or-set_same fin (get_or st (n - 1) 0) (m + 2) 0 lf))

      below : Below rec (set fin (get_or st (n - 1) 0) (m + 2)) (get_or st i 0) (get_or sl i 0 % 8 + 1)
      below j v lj = below_more (λ j. Edge rec (get_or st i 0) j v → 2 ≤ get_or (set fin (get_or st (n - 1) 0) (m + 2)) v 0) (get_or sl i 0 % 8)
          (λ j h g. d'.past i (omega arith) j v h g) (done v) j lj

  module _ {v : ℕ} (l5 : s % 8 < 5) (ev : v ≡ rev (8 * get_or st (n - 1) 0 + s % 8) / 8) where
    -- the slot is stored, and the edge of the top stands on the stack
    aim : Dfs rec fin st (set sl (n - 1) s) n m
    aim = dfs-slot d (n - 1) s (omega arith) past p.rest

    aimed : Edge rec (get_or st (n - 1) 0) (get_or (set sl (n - 1) s) (n - 1) 0 % 8) v
    aimed =
        let lk : n - 1 < length sl = omega (arith, d.count, d.room.slots) in
        rw (get_or-set_same sl (n - 1) s 0 lk, ev) (p.found.edge l5)

    pub turn-hit : Dfs rec fin st (set sl (n - 1) s) n m × Edge rec (get_or st (n - 1) 0) (get_or (set sl (n - 1) s) (n - 1) 0 % 8) v
    turn-hit = (aim, aimed)

    pub turn-new : get_or fin v 0 ≢ 1 → Aimed rec fin st (set sl (n - 1) s) n m v
    turn-new ne =
        let w : get_or fin v 0 < 2 = rw ev (p.found.live l5) in
        record {
          state = aim;
          spot = edge-node aimed;
          blank = omega (arith, ne);
          edge = λ i e. let p : n - 1 ≡ i = omega arith in subst (λ (y : ℕ). Edge rec (get_or st y 0) (get_or (set sl (n - 1) s) y 0 % 8) v) p aimed;
        }

-- ---- the search from one spot

-- what is seen is so after a mark
pub seen-kept : (fin : List ℕ) (r : ℕ) → r < length fin → get_or fin r 0 ≢ 0 → Kept (set fin r 1) fin
seen-kept fin r lf s u n = ⊎_elim (λ w. rw w.0 s) (λ w e. n (w.1 ∙ e)) (after fin r 1 u lf)

-- what the search from a spot keeps was seen before it, and the spot is seen
pub marked-kept : (fin : List ℕ) (r : ℕ) (fin' : List ℕ) → r < length fin → Kept (set fin r 1) fin' → Kept fin fin' × (get_or fin' r 0 ≢ 0)
marked-kept fin r fin' lf k = (λ u n. k u (kept_set fin r 0 lf u n), k r (λ z. omega (arith, get_or-set_same fin r 1 0 lf)))
