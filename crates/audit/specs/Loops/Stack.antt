-- What the loop finder's state keeps: the slot of the top moves on, a spot goes on the stack, and a spot is done that leads only to spots that are done.
-- Assumes nothing.
use Rattle.std.specs.Prelude.{◌≡◌, ◌≢◌, ◌⊎◌, List, ℕ, suc, ◌+◌, ◌*◌, ◌%◌, ◌≤◌, ◌<◌, length, get_or, set}
use Rattle.std.proofs.Common.{sym, ap, subst, ◌∙◌, ⊎_elim, eq-or-lt_of_le, arith, below_more, length-set, get_or-set_same, get_or-set_other}
use Rattle.std.proofs.Math.Numerals.{add-two}
use Rattle.channel.specs.Map.{spots, darts, view}
use Rattle.channel.specs.Map.Numbers.{slot-dart, head-spot}
use Rattle.audit.specs.Loops.{Room}
use Rattle.audit.specs.Loops.Dfs.{Edge, Cleared, Rest, unseen, Forgotten, Dfs}
use Rattle.audit.specs.Loops.Marks.{same_or, after, blanks-le, unseen-less, unseen_same}

-- an edge leads to a spot
pub edge-node : {rec : List ℕ} {u k v : ℕ} → Edge rec u k v → v < spots
edge-node {u = u} {k = k} e = subst (λ (x : ℕ). x < spots) e.leads (head-spot (8 * u + k) (slot-dart u k e.spot (omega (arith, e.slot))))

-- every edge of u leads to a spot that is done
abbrev pub Out : List ℕ → List ℕ → ℕ → Type 0
Out rec fin u = (k v : ℕ) → Edge rec u k v → 2 ≤ get_or fin v 0

-- so does every edge at a slot below k
abbrev pub Below : List ℕ → List ℕ → ℕ → ℕ → Type 0
Below rec fin u k = (j v : ℕ) → j < k → Edge rec u j v → 2 ≤ get_or fin v 0

-- nothing is seen
pub dfs-start : {rec fin st sl : List ℕ} → Room rec fin st sl → Cleared fin → Dfs rec fin st sl 0 0
dfs-start {fin = fin} r c =
    record {
      room = r;
      count = omega (arith, blanks-le spots fin);
      small = λ u l. omega (arith, c.all u l);
      on = λ i l. absurd (omega arith);
      off = λ u l e. absurd (omega (arith, c.all u l));
      apart = λ i j a b. absurd (omega arith);
      link = λ i l. absurd (omega arith);
      past = λ i l. absurd (omega arith);
      rest = λ i l. absurd (omega arith);
      falls = λ u l h. absurd (omega (arith, c.all u l));
    }

module _ {rec fin st sl : List ℕ} {n m : ℕ} (d : Dfs rec fin st sl n m) where
  -- what is seen with nothing on the stack is done
  pub seen_done : n ≡ 0 → (u : ℕ) → u < spots → get_or fin u 0 ≢ 0 → 2 ≤ get_or fin u 0
  seen_done e u l s = ⊎_elim
      (λ o. let (i, li, p) = d.off u l o in absurd (omega (arith, li)))
      (λ o. omega (arith, s, o))
      (same_or (get_or fin u 0) 1)

  pub dfs-empty : n ≤ 0 → Dfs rec fin st sl 0 m
  dfs-empty l = let e : n ≡ 0 = omega arith in subst (λ (x : ℕ). Dfs rec fin st sl x m) e d

  -- what is on the stack is forgotten: what is done leads to what is done
  pub dfs-forget : {fin' sl' : List ℕ} → length fin' ≡ length fin → length sl' ≡ length sl → Forgotten st n fin fin' → Dfs rec fin' st sl' 0 m
  dfs-forget {fin'} {sl'} ef es f =
      record {
        room = record { whole = d.room.whole; marks = omega (arith, d.room.marks, ef); stack = d.room.stack; slots = omega (arith, d.room.slots, es) };
        count = omega (arith, d.count, f.count);
        small = λ u l. ⊎_elim (λ e. omega (arith, e)) (λ e. omega (arith, e, d.small u l)) (f.each u);
        on = λ i l. absurd (omega arith);
        off = λ u l e. absurd (none u l e);
        apart = λ i j a b. absurd (omega arith);
        link = λ i l. absurd (omega arith);
        past = λ i l. absurd (omega arith);
        rest = λ i l. absurd (omega arith);
        falls = λ u l h k v g.
            let eu : get_or fin' u 0 ≡ get_or fin u 0 = ⊎_elim (λ e. absurd (omega (arith, h, e))) (λ e. e) (f.each u) in
            let (a, b) = d.falls u l (omega (arith, h, eu)) k v g in
            (omega (arith, a, still v a), omega (arith, b, eu, still v a));
      }
    where
      still : (v : ℕ) → 2 ≤ get_or fin v 0 → get_or fin' v 0 ≡ get_or fin v 0
      still v h = f.same v (λ i l e. omega (arith, h, (d.on i l).1, ap (λ (x : ℕ). get_or fin x 0) e))

      none : (u : ℕ) → u < spots → get_or fin' u 0 ≡ 1 → ⊥
      none u l e = ⊎_elim
          (λ z. omega (arith, e, z))
          (λ s. let (i, li, q) = d.off u l (sym s ∙ e) in omega (arith, f.gone i li, ap (λ (x : ℕ). get_or fin' x 0) q, e))
          (f.each u)

  -- the slot of the top moves on
  pub dfs-slot : (i s : ℕ) → n ≡ i + 1 → Below rec fin (get_or st i 0) (s % 8) → Rest rec (get_or st i 0) s → Dfs rec fin st (set sl i s) n m
  dfs-slot i s e p r =
      let li : i < length sl = omega (arith, d.count, d.room.slots) in
      record {
        room = record { whole = d.room.whole; marks = d.room.marks; stack = d.room.stack; slots = simp length-set d.room.slots };
        count = d.count;
        small = d.small;
        on = d.on;
        off = d.off;
        apart = d.apart;
        link = λ x lx. rw (get_or-set_other sl i x s 0 (λ q. omega arith)) (d.link x lx);
        past = λ x lx j v. ⊎_elim (λ w. rw (w.1, w.0) (p j v)) (λ w. rw w.1 (d.past x lx j v)) (after sl i s x li);
        rest = λ x lx. ⊎_elim (λ w. rw (w.1, w.0) r) (λ w. rw w.1 (d.rest x lx)) (after sl i s x li);
        falls = d.falls;
      }

  -- a spot that was not seen goes on the stack, at the slot of s
  pub dfs-push : (v s : ℕ) → v < spots → get_or fin v 0 ≡ 0 → ((i : ℕ) → n ≡ i + 1 → Edge rec (get_or st i 0) (get_or sl i 0 % 8) v) → Below rec fin v (s % 8)
      → Rest rec v s → Dfs rec (set fin v 1) (set st n v) (set sl n s) (n + 1) m
  dfs-push v s lv ev edge below r =
      let lf : v < length fin = omega (arith, d.room.marks) in
      let z : unseen (set fin v 1) + 1 ≡ unseen fin = unseen-less fin v lv lf 0 ev in
      let ls : n < length st = omega (arith, d.count, d.room.stack) in
      let lk : n < length sl = omega (arith, d.count, d.room.slots) in
      let same : (x : ℕ) → 1 ≤ get_or fin x 0 → get_or (set fin v 1) x 0 ≡ get_or fin x 0 =
      λ x h. get_or-set_other fin v x 1 0 (λ e. omega (arith, ap (λ (y : ℕ). get_or fin y 0) e)) in
      let low : (i : ℕ) → i < n → get_or (set st n v) i 0 ≡ get_or st i 0 = λ i h. get_or-set_other st n i v 0 (λ e. omega arith) in
      let still : (i : ℕ) → i < n → get_or (set fin v 1) (get_or st i 0) 0 ≡ 1 =
      λ i h. same (get_or st i 0) (omega (arith, (d.on i h).1)) ∙ (d.on i h).1 in
      let top : get_or (set st n v) n 0 ≡ v = get_or-set_same st n v 0 ls in
      let lowk : (i : ℕ) → i < n → get_or (set sl n s) i 0 ≡ get_or sl i 0 = λ i h. get_or-set_other sl n i s 0 (λ e. omega arith) in
      let two : (x : ℕ) → 2 ≤ get_or fin x 0 → 2 ≤ get_or (set fin v 1) x 0 = λ x h. rw (same x (omega arith)) h in
      let done : (x : ℕ) → 2 ≤ get_or (set fin v 1) x 0 → get_or (set fin v 1) x 0 ≡ get_or fin x 0 =
      λ x h. ⊎_elim (λ w. absurd (omega (arith, w.1))) (λ w. w.1) (after fin v 1 x lf) in
      record {
        room = record {
          whole = d.room.whole;
          marks = simp length-set d.room.marks;
          stack = simp length-set d.room.stack;
          slots = simp length-set d.room.slots;
        };
        count = omega (arith, d.count);
        small = λ x lx. ⊎_elim (λ w. rw w.1 (omega arith)) (λ w. rw w.1 (d.small x lx)) (after fin v 1 x lf);
        on = below_more (λ i. (get_or (set st n v) i 0 < spots) × (get_or (set fin v 1) (get_or (set st n v) i 0) 0 ≡ 1)) n
            (λ i h. rw (low i h) ((d.on i h).0, still i h))
            (rw top (lv, get_or-set_same fin v 1 0 lf));
        off = λ x lx h. ⊎_elim
            (λ w. (n, omega arith, top ∙ sym w.0))
            (λ w. let (i, li, e) = d.off x lx (sym w.1 ∙ h) in (i, omega (arith, li), rw (low i li) e))
            (after fin v 1 x lf);
        apart = λ i j ij lj. below_more (λ j. i < j → get_or (set st n v) i 0 ≡ get_or (set st n v) j 0 → ⊥) n
            (λ j lj ij. rw (low i (omega arith), low j lj) (d.apart i j ij lj))
            (λ li e. let b : get_or st i 0 ≡ v = rw (low i li, top) at e in omega (arith, (d.on i li).1, ap (λ (y : ℕ). get_or fin y 0) b)) j lj ij;
        link = λ i li. ⊎_elim
            (λ e. rw (low i (omega arith), lowk i (omega arith), e, top) (edge i (sym e)))
            (λ h. rw (low i (omega arith), lowk i (omega arith), low (i + 1) h) (d.link i h))
            (last i li);
        past = λ i li j x. ⊎_elim
            (λ w. rw (w.1, w.0, top) (λ h e. two x (below j x h e)))
            (λ w. rw (w.1, low i (omega (arith, w.0))) (λ h e. two x (d.past i (omega (arith, w.0)) j x h e)))
            (after sl n s i lk);
        rest = λ i li. ⊎_elim
            (λ w. rw (w.1, w.0, top) r)
            (λ w. rw (w.1, low i (omega (arith, w.0))) (d.rest i (omega (arith, w.0))))
            (after sl n s i lk);
        falls = λ x lx h j y e.
            let hx : get_or (set fin v 1) x 0 ≡ get_or fin x 0 = done x h in
            let (a, b) = d.falls x lx (omega arith) j y e in
            (two y a, omega (arith, same y (omega (arith, a)), b));
      }
    where
      last : (i : ℕ) → i + 1 < n + 1 → (i + 1 ≡ n) ⊎ (i + 1 < n)
      last i h = eq-or-lt_of_le (omega arith)

  -- a spot that leads only to spots that are done is done, and the stack is h spots high, those that it is not
  dfs-done : (u h : ℕ) → u < spots → get_or fin u 0 < 2 → h ≤ n → ((j : ℕ) → j < h → get_or st j 0 ≢ u) → ((j : ℕ) → j < n → get_or st j 0 ≢ u → j < h)
      → unseen (set fin u (m + 2)) + h + 1 ≤ unseen fin + n → Out rec fin u → Dfs rec (set fin u (m + 2)) st sl h (m + 1)
  dfs-done u h lu eu hn not rest less out =
      let lf : u < length fin = omega (arith, d.room.marks) in
      let same : (x : ℕ) → x ≢ u → get_or (set fin u (m + 2)) x 0 ≡ get_or fin x 0 = λ x q. get_or-set_other fin u x (m + 2) 0 q in
      let two : (x : ℕ) → 2 ≤ get_or fin x 0 → get_or (set fin u (m + 2)) x 0 ≡ get_or fin x 0 =
      λ x q. same x (λ e. omega (arith, ap (λ (y : ℕ). get_or fin y 0) e)) in
      record {
        room = record { whole = d.room.whole; marks = simp length-set d.room.marks; stack = d.room.stack; slots = d.room.slots };
        count = omega (arith, d.count);
        small = λ x lx. ⊎_elim (λ w. rw w.1 (omega arith)) (λ w. rw w.1 (omega (arith, d.small x lx))) (after fin u (m + 2) x lf);
        on = λ j lj. ((d.on j (omega arith)).0, same (get_or st j 0) (not j lj) ∙ (d.on j (omega arith)).1);
        off = λ x lx q. ⊎_elim
            (λ w. absurd (omega (arith, w.1)))
            (λ w. let (j, lj, e) = d.off x lx (sym w.1 ∙ q) in (j, rest j lj (λ p. w.0 (sym e ∙ p)), e))
            (after fin u (m + 2) x lf);
        apart = λ a b ab lb. d.apart a b ab (omega arith);
        link = λ j lj. d.link j (omega arith);
        past = λ j lj k v q e. let b : 2 ≤ get_or fin v 0 = d.past j (omega arith) k v q e in omega (arith, two v b);
        rest = λ j lj. d.rest j (omega arith);
        falls = λ x lx q k v e. ⊎_elim
            (λ w.
            let b : 2 ≤ get_or fin v 0 = out k v (subst (λ (y : ℕ). Edge rec y k v) w.0 e) in
            (omega (arith, two v b), omega (arith, two v b, w.1, d.small v (edge-node e))))
            (λ w.
            let (a, b) = d.falls x lx (omega (arith, w.1)) k v e in
            (omega (arith, two v a), omega (arith, two v a, w.1, b)))
            (after fin u (m + 2) x lf);
      }

  -- the top of the stack is done
  pub dfs-pop : (i : ℕ) → n ≡ i + 1 → Out rec fin (get_or st i 0) → Dfs rec (set fin (get_or st i 0) (m + 2)) st sl i (m + 1)
  dfs-pop i e out =
      let (lu, eu) = d.on i (omega arith) in
      let s : unseen (set fin (get_or st i 0) (m + 2)) ≡ unseen fin =
      rw add-two (unseen_same fin (get_or st i 0) lu (omega (arith, d.room.marks)) (suc m) eu) in
      dfs-done (get_or st i 0) i lu (omega arith) (omega arith) (λ j l. d.apart j i l (omega arith)) below (omega arith) out
    where
      below : (j : ℕ) → j < n → get_or st j 0 ≢ get_or st i 0 → j < i
      below j l ne = ⊎_elim (λ q. absurd (ne (ap (λ (y : ℕ). get_or st y 0) q))) (λ h. h) (eq-or-lt_of_le (omega arith))

-- what is done stays so as loads are taken out
pub dfs-lighter : {rec rec' fin st sl : List ℕ} {m : ℕ} → Dfs rec fin st sl 0 m → 32768 ≤ length rec' → ((d : ℕ) → d < darts → view rec' d ≤ view rec d)
    → Dfs rec' fin st sl 0 m
dfs-lighter {rec} {rec'} s w less =
    record {
      room = record { whole = w; marks = s.room.marks; stack = s.room.stack; slots = s.room.slots };
      count = s.count;
      small = s.small;
      on = s.on;
      off = s.off;
      apart = s.apart;
      link = λ i l. absurd (omega arith);
      past = λ i l. absurd (omega arith);
      rest = λ i l. absurd (omega arith);
      falls = λ u l h k v g. s.falls u l h k v (heavier u k v g);
    }
  where
    heavier : (u k v : ℕ) → Edge rec' u k v → Edge rec u k v
    heavier u k v g =
        let l = less (8 * u + k) (slot-dart u k g.spot (omega (arith, g.slot))) in
        record { spot = g.spot; slot = g.slot; laden = omega (arith, l, g.laden); leads = g.leads }
