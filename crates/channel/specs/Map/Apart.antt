-- A move along a dart changes no move of a dart in another pair of spots than the two where it starts and ends: it bumps the byte of one link, whose
-- darts are all of these two pairs, and the moves of a dart read the byte of its own link and, from an entry to its exit or back, the bytes of the links
-- around that place, which have darts of the same pair. And slot 6 of a spot is no dart. Assumes nothing.
use Rattle.std.proofs.Math.Path.{◌≡◌, refl, sym, ap, ap₂, subst}
use Rattle.std.proofs.Common.{◌∙◌, arith, eq-eqb}
use Rattle.std.specs.Prelude.{◌≢◌, Bool, not, ◌&&◌, length, get_or, set}
use Rattle.std.proofs.Math.Bool.{true, false, ◌||◌}
use mathlib.Core.List.{List, [], ◌∷◌}
use Prim.Native.Nat.{ℕ, suc, ◌+◌, ◌*◌, ◌/◌, ◌%◌, ◌≤◌, ◌<◌}
use Rattle.std.proofs.Math.Dec.{T, eqb, eqb→eq, ltb}
use Rattle.sums.specs.Counting.{total}
use Rattle.sums.specs.Tests.{if-so, and_left, and_right, and_both, or-by, so, below, below_at}
use Rattle.sums.specs.Sums.{when-cong}
use Rattle.model.specs.Job.{Job}
use Rattle.model.specs.Links.{missing, centre, Place, at, around, Link, Step, turn}
use Rattle.model.specs.Near.{spot}
use Rattle.model.specs.Loads.{arrivals}
use Rattle.model.specs.Record.{offset, load_plane, load}
use Rattle.channel.specs.Map.{spots, darts, in_grid, row_of, column_of, ahead, rev, owner_cell, step_of, is_stored, is_passage, is_link_dart, is_pass_dart, passed_of, idle, carries, cap, free, view, opposed, moves, bump, address, laid}
use Rattle.channel.specs.Map.{turns, links, owners, codes, turn_of, kind_of, owner_of, sign_of, code_of, back_row}
use Rattle.channel.specs.Map.Bools.{is-off}
use Rattle.channel.specs.Map.Grid.{grid-bounds}
use Rattle.channel.specs.Map.Back.{owner-law, rev<, rev-rev, rev-over, over-row, Turned, stored-turned, link-stored}
use Rattle.channel.specs.Map.Darts.{grid-cell}
use Rattle.channel.specs.Map.Around.{Slots, done, ◌then◌, Takes, takes-legs, takes-spokes}
use Rattle.channel.specs.Map.Passes.{passage-row}
use Rattle.channel.specs.Map.Bytes.{passed-centre, passed-missing}
use Rattle.channel.specs.Map.Carry.{idle-link, idle-pass, shut}
use Rattle.channel.specs.Map.Numbers.{slot-dart}
use Rattle.channel.specs.Map.Stores.{Lay, nothing, bumps, lay?, address-spot, load-other}

-- ---- the darts of one link

-- Two spots make a pair: the entry and the exit of a pin or a centre, n and e, or s and w. The darts of a pair have the same d / 16.

-- the rows i and j, in the cells from where one cell owns both links, are of one pair
abbrev together : ℕ → ℕ → Bool
together i j = eqb (j / 16 + 4 * owner_of i) (i / 16 + 4 * owner_of j)

-- both have a stored byte, of links of one kind
abbrev same_kind : ℕ → ℕ → Bool
same_kind i j = is_stored (code_of i) && (is_stored (code_of j) && eqb (kind_of i) (kind_of j))

-- a row of the same link is of the row's pair, or of that of its way back
row-pairs : (i j : ℕ) → i < 64 → j < 64 → T (same_kind i j) → T (together i j || together (back_row i) j)
unfolding below back_row turn_of turns kind_of links owner_of owners code_of codes is_stored
row-pairs i j l m =
    if-so (same_kind i j) (together i j || together (back_row i) j)
    (below_at 64 (λ j. not (same_kind i j) || (together i j || together (back_row i) j))
    (below_at 64 (λ i. below 64 (λ j. not (same_kind i j) || (together i j || together (back_row i) j))) tt i l) j m)

-- two darts of such rows, where one cell owns both links
pair_of : (d e : ℕ) → owner_cell d ≡ owner_cell e → T (together (d % 64) (e % 64)) → e / 16 ≡ d / 16
pair_of d e q t = by d e (owner_of (d % 64)) (owner_of (e % 64)) (omega (arith, owner-law d, owner-law e)) (eqb→eq _ _ t)
  where
    by : (d e o p : ℕ) → d / 64 + o ≡ e / 64 + p → e % 64 / 16 + 4 * o ≡ d % 64 / 16 + 4 * p → e / 16 ≡ d / 16
    by d e o p a b = omega arith

-- a byte's address tells the kind and the owner
address-one : (k x m y : ℕ) → 41 ≤ x → x < 1641 → 41 ≤ y → y < 1641 → 3927 + 1600 * k + x ≡ 3927 + 1600 * m + y → (k ≡ m) × (x ≡ y)
address-one k x m y a b c d e = (omega arith, omega arith)

module _ (d : ℕ) (l : d < darts) (s : T (is_stored (code_of (d % 64)))) (g : T (in_grid (owner_cell d))) where
  -- every dart of d's link is of the pair where d starts, or of that where it ends
  link-pairs : {A : Type 0} (e : ℕ) → T (is_stored (code_of (e % 64))) → T (in_grid (owner_cell e)) → (step_of e).link ≡ (step_of d).link
      → (e / 16 ≡ d / 16 → A) → (e / 16 ≡ rev d / 16 → A) → A
  unfolding address
  link-pairs e t h q near far =
      let b = stored-turned d l s g in
      let (p, r) = grid-bounds (owner_cell d) g in
      let (v, w) = grid-bounds (owner_cell e) h in
      let z : address d ≡ address e =
      address-spot d g ∙ (ap (λ (x : Link). offset (load_plane x.kind) x.row x.column) (sym q) ∙ sym (address-spot e h)) in
      let (k, o) = address-one (kind_of (d % 64)) (owner_cell d) (kind_of (e % 64)) (owner_cell e) p r v w z in
      or-by (together (d % 64) (e % 64)) (together (back_row (d % 64)) (e % 64)) (λ u. near (pair_of d e o u))
      (λ u. far (pair_of (rev d) e (b.owner ∙ o) (rw (over-row d (rev d) b.over) u)))
      (row-pairs (d % 64) (e % 64) (omega arith) (omega arith) (alike k))
    where
      alike : kind_of (d % 64) ≡ kind_of (e % 64) → T (same_kind (d % 64) (e % 64))
      alike k =
          and_both (is_stored (code_of (d % 64))) (is_stored (code_of (e % 64)) && eqb (kind_of (d % 64)) (kind_of (e % 64))) s
          (and_both (is_stored (code_of (e % 64))) (eqb (kind_of (d % 64)) (kind_of (e % 64))) t (so (eq-eqb _ _ k)))

-- a dart from an entry to its exit and its way back are of one pair
pass-pair : (y : ℕ) → y < darts → T (is_pass_dart y) → rev y / 16 ≡ y / 16
unfolding is_pass_dart darts
pass-pair y l t =
    or-by (eqb (y % 64) 4) (eqb (y % 64) 52) (λ u. by 4 (eqb→eq _ _ u) refl (unfold turn_of turns in refl))
    (λ u. by 52 (eqb→eq _ _ u) refl (unfold turn_of turns in refl))
    (passage-row (y % 64) (omega arith) (and_left (is_passage (code_of (y % 64))) (in_grid (y / 64)) t))
  where
    by : (i : ℕ) → y % 64 ≡ i → i % 16 ≡ 4 → turn_of i ≡ 2697 → rev y / 16 ≡ y / 16
    by i e h q = omega (arith, rev-over y (y + 9) (unfold ahead in omega (arith, ap turn_of e)) (omega arith))

-- ---- what a far dart reads

module _ (rec : List ℕ) (d : ℕ) (l : d < darts) (s : T (is_stored (code_of (d % 64)))) (g : T (in_grid (owner_cell d))) where
  abbrev after : List ℕ
  after = set rec (address d) (bump (sign_of (d % 64)) (get_or rec (address d) 0))

  abbrev Kept : Place → Type 0
  Kept x = arrivals (load after) x ≡ arrivals (load rec) x

  module _ (e : ℕ) (n : e / 16 ≢ d / 16) (m : e / 16 ≢ rev d / 16) where
    -- the load of the link of a dart of e's pair
    load_kept : (y : ℕ) → y / 16 ≡ e / 16 → T (is_stored (code_of (y % 64))) → T (in_grid (owner_cell y)) → (σ : Step) → σ.link ≡ (step_of y).link
        → load after σ ≡ load rec σ
    load_kept y p t h σ q =
        load-other rec d s g σ (λ z. link-pairs d l s g y t h (sym q ∙ z) (λ v. n (sym p ∙ v)) (λ v. m (sym p ∙ v)))

    -- the loads of the links around a place whose exit is of the pair
    round-kept : (u j : ℕ) (σs : List Step) → ((k : ℕ) → k < 8 → (8 * u + k) / 16 ≡ e / 16) → Slots (Takes u) j σs → j + length σs ≤ 8
        → total σs (λ σ. load after (turn σ)) ≡ total σs (λ σ. load rec (turn σ))
    unfolding total
    round-kept u j [] p done h = refl
    round-kept u j (σ ∷ σs) p (t then ts) h =
        let (c, o) = link-stored (8 * u + j) t.linked in
        ap₂ ◌+◌ (load_kept (8 * u + j) (p j (omega arith)) c o (turn σ) (ap (λ (x : Step). x.link) (sym t.step)))
        (round-kept u (suc j) σs p ts (omega arith))

    -- what goes from an entry to its exit, where they are the pair
    module _ (y : ℕ) (p : y / 16 ≡ e / 16) (h : T (in_grid (y / 64))) where
      cell< : (row_of (y / 64) < 40) × (column_of (y / 64) < 40)
      unfolding row_of column_of
      cell< = (omega (arith, grid-bounds (y / 64) h), omega arith)

      legs-kept : y % 64 ≡ 4 → Kept (at missing (row_of (y / 64)) (column_of (y / 64)))
      unfolding arrivals
      legs-kept q =
          let o = grid-cell (y / 64) h in
          round-kept (spot 1 (row_of (y / 64)) (column_of (y / 64))) 0 (around (at missing (row_of (y / 64)) (column_of (y / 64)))) (λ k k<. omega arith)
          (takes-legs (row_of (y / 64)) (column_of (y / 64)) cell<.0 cell<.1) (omega arith)

      spokes-kept : y % 64 ≡ 52 → Kept (at centre (row_of (y / 64)) (column_of (y / 64)))
      unfolding arrivals
      spokes-kept q =
          let o = grid-cell (y / 64) h in
          round-kept (spot 7 (row_of (y / 64)) (column_of (y / 64))) 0 (around (at centre (row_of (y / 64)) (column_of (y / 64)))) (λ k k<. omega arith)
          (takes-spokes (row_of (y / 64)) (column_of (y / 64)) cell<.0 cell<.1) (omega arith)

    pass_kept : (y : ℕ) → y / 16 ≡ e / 16 → T (is_pass_dart y) → Kept (passed_of y)
    unfolding is_pass_dart code_of codes
    pass_kept y p t =
        let h : T (in_grid (y / 64)) = and_right (is_passage (code_of (y % 64))) (in_grid (y / 64)) t in
        or-by (eqb (y % 64) 4) (eqb (y % 64) 52)
        (λ u.
        let q : y % 64 ≡ 4 = eqb→eq (y % 64) 4 u in
        subst Kept (passed-missing y (λ z. let w : ◌≡◌ {A = ℕ} 8 5 = sym (ap code_of q) ∙ z in omega arith)) (legs-kept y p h q))
        (λ u.
        let q : y % 64 ≡ 52 = eqb→eq (y % 64) 52 u in
        subst Kept (passed-centre y (ap code_of q)) (spokes-kept y p h q))
        (passage-row (y % 64) (omega arith) (and_left (is_passage (code_of (y % 64))) (in_grid (y / 64)) t))

    view-kept : (y : ℕ) → (T (is_link_dart y) → load after (step_of y) ≡ load rec (step_of y)) → (T (is_pass_dart y) → y / 16 ≡ e / 16) → view after y ≡ view rec y
    unfolding view
    view-kept y p q = ap₂ ◌+◌ (when-cong (is_link_dart y) _ _ p) (when-cong (is_pass_dart y) _ _ (λ t. pass_kept y (q t) t))

    step_kept : T (is_link_dart e) → (σ : Step) → σ.link ≡ (step_of e).link → load after σ ≡ load rec σ
    step_kept t = let (c, o) = link-stored e t in load_kept e refl c o

    there-kept : view after e ≡ view rec e
    there-kept = view-kept e (λ t. step_kept t (step_of e) refl) (λ t. refl)

    back-kept : e < darts → view after (rev e) ≡ view rec (rev e)
    back-kept k = view-kept (rev e) link (λ t. omega (arith, pass-pair (rev e) (rev< e k) t, rev-rev e k))
      where
        link : T (is_link_dart (rev e)) → load after (step_of (rev e)) ≡ load rec (step_of (rev e))
        link t =
            let (c, o) = link-stored (rev e) t in
            let b : Turned (rev e) = stored-turned (rev e) (rev< e k) c o in
            let q : rev (rev e) ≡ e = rev-rev e k in
            load_kept e refl (subst (λ (y : ℕ). T (is_stored (code_of (y % 64)))) q b.stored) (subst (λ (y : ℕ). T (in_grid (owner_cell y))) q (rw b.owner o))
            (step_of (rev e)) (ap (λ (σ : Step). σ.link) (sym b.step ∙ ap step_of q))

    opposed-kept : T (is_link_dart e) → opposed after e ≡ opposed rec e
    unfolding opposed
    opposed-kept t = when-cong (in_grid (owner_cell e)) _ _ (λ o. step_kept t (turn (step_of e)) refl)

    moves-kept : (J : Job) → e < darts → moves J after e ≡ moves J rec e
    unfolding moves free
    moves-kept J k =
        ap₂ ◌||◌ (ap (λ (x : ℕ). ltb x (cap J e)) there-kept)
        (ap₂ ◌||◌ (ap (ltb 0) (back-kept k)) (by (is_link_dart e) _ _ _ (λ t. ap (λ (x : ℕ). eqb x 0) (opposed-kept t))))
      where
        by : (a b p q : Bool) → (T a → p ≡ q) → ((a && b) && p) ≡ ((a && b) && q)
        by true true p q f = f tt
        by true false p q f = refl
        by false b p q f = refl

-- a move along d changes no move of a dart whose pair of spots has neither end of d
pub moves-apart : (J : Job) (rec : List ℕ) (d e : ℕ) → d < darts → e < darts → e / 16 ≢ d / 16 → e / 16 ≢ rev d / 16
    → moves J (laid rec d) e ≡ moves J rec e
moves-apart J rec d e l k n m = by (laid rec d) (lay? rec d)
  where
    by : (r : List ℕ) → Lay rec d r → moves J r e ≡ moves J rec e
    by r (nothing z) = refl
    by r (bumps s g) = moves-kept rec d l s g e n m J k

-- ---- no dart

-- slot 6 of every kind of spot
module _ (k : ℕ) (l : k < 8) where
  none-idle : T (idle (8 * k + 6))
  unfolding below idle carries is_passage code_of codes
  none-idle = below_at 8 (λ k. idle (8 * k + 6)) tt k l

  none-turn : turn_of (8 * k + 6) ≡ 2688
  unfolding below turn_of turns
  none-turn = eqb→eq _ _ (below_at 8 (λ k. eqb (turn_of (8 * k + 6)) 2688) tt k l)

view-idle : (rec : List ℕ) (d : ℕ) → T (idle (d % 64)) → view rec d ≡ 0
unfolding view
view-idle rec d t = rw (is-off (is_link_dart d) (idle-link d t), is-off (is_pass_dart d) (idle-pass d t)) refl

-- slot 6 of a spot leads nowhere
pub slot-none : (J : Job) (rec : List ℕ) (u : ℕ) → u < spots → moves J rec (8 * u + 6) ≡ false
unfolding moves ahead
slot-none J rec u l =
    let d = 8 * u + 6 in
    let i : d % 64 ≡ 8 * (u % 8) + 6 = omega arith in
    let t : T (idle (d % 64)) = rw i (none-idle (u % 8) (omega arith)) in
    let z = shut J d (idle-link d t) (idle-pass d t) in
    let r : rev d ≡ d = rev-over d d (omega (arith, ap turn_of i, none-turn (u % 8) (omega arith))) (slot-dart u 6 l (omega arith)) in
    let v : view rec d ≡ 0 = view-idle rec d t in
    rw (z.cap0, r, v, is-off (free J d) z.unfree) refl
