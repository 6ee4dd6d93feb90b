-- What a dart carries, and what its way back carries, by its row of the table and its cell. Both are one amount over the marks of the rows; it is
-- nothing off the grid, and on the grid the tests of the grid fall away. Assumes nothing.
use Rattle.std.specs.Prelude.{◌≡◌, Bool, ◌&&◌, ◌||◌, List, eqb, leb, get_or}
use Rattle.std.proofs.Math.Path.{refl, sym, ap, ap₂, subst}
use Rattle.std.proofs.Common.{◌∙◌, leb→le}
use Rattle.std.proofs.Math.Bool.{true, false, not}
use Prim.Native.Nat.{ℕ, zero, suc, ◌+◌, ◌-◌, ◌*◌, ◌/◌, ◌%◌, ◌≤◌, ◌<◌, min}
use native.Mathlib.Omega.{arith}
use Rattle.std.proofs.Math.Dec.{T, eqb→eq}
use Rattle.sums.specs.Counting.{when}
use Rattle.sums.specs.Tests.{and_left, and_right, and_both, or-by, if-so, below, below_at, eqb-iff}
use Rattle.model.specs.Links.{missing, centre, Place, at, north_side, link, Step, turn}
use Rattle.model.specs.Loads.{arrivals}
use Rattle.model.specs.Record.{kinds, load}
use Rattle.channel.specs.Map.{turns, codes, turn_of, kind_of, owner_of, sign_of, code_of, back_row}
use Rattle.channel.specs.Map.{darts, in_grid, row_of, column_of, ahead, rev, owner_cell, step_of, carries, returns, is_stored, is_passage, is_return, is_link_dart, is_pass_dart, passed_of, view}
use Rattle.channel.specs.Map.Back.{rev<, rev-rev, rev-over, over-row}
use Rattle.channel.specs.Map.Darts.{cell_row, cell-column, cell-grid}
use Rattle.channel.specs.Map.Steps.{link-stored, stored-turned}
use Rattle.channel.specs.Map.Carried.{when-at-most, turn-turn}

-- ---- the rows

-- a row through a place carries no link, nor does its way back
abbrev alone : Bool → Bool → Bool → Bool → Bool
alone a b p q = not (b && (a || (p || q))) && not (q && (a || (p || b)))

module _ (i : ℕ) (l : i < 64) where
  carries-returns : T (carries (code_of i)) → T (returns (code_of (back_row i)))
  unfolding below back_row turn_of turns code_of codes carries returns
  carries-returns = if-so (carries (code_of i)) _ (below_at 64 (λ i. not (carries (code_of i)) || returns (code_of (back_row i))) tt i l)

  returns-carries : T (returns (code_of i)) → T (carries (code_of (back_row i)))
  unfolding below back_row turn_of turns code_of codes carries returns
  returns-carries = if-so (returns (code_of i)) _ (below_at 64 (λ i. not (returns (code_of i)) || carries (code_of (back_row i))) tt i l)

  returns-stored : T (returns (code_of i)) → T (is_stored (code_of i))
  unfolding below code_of codes is_stored returns
  returns-stored = if-so (returns (code_of i)) _ (below_at 64 (λ i. not (returns (code_of i)) || is_stored (code_of i)) tt i l)

  row-alone : T (alone (carries (code_of i)) (is_passage (code_of i)) (returns (code_of i)) (is_return (code_of i)))
  unfolding below code_of codes carries is_passage returns is_return
  row-alone = below_at 64 (λ i. alone (carries (code_of i)) (is_passage (code_of i)) (returns (code_of i)) (is_return (code_of i))) tt i l

  -- from an entry to its exit, and back
  abbrev pass_row : ℕ → Bool
  pass_row i = eqb (turn_of i) 2697 && (eqb (code_of (i + 9)) (code_of i + 6) && leb i 52)

  pass-row : T (is_passage (code_of i)) → T (pass_row i)
  unfolding below turn_of turns code_of codes is_passage
  pass-row = if-so (is_passage (code_of i)) _ (below_at 64 (λ i. not (is_passage (code_of i)) || pass_row i) tt i l)

  abbrev return_row : ℕ → Bool
  return_row i = eqb (turn_of i) 2679 && (is_passage (code_of (i - 9)) && leb 9 i)

  return-row : T (is_return (code_of i)) → T (return_row i)
  unfolding below turn_of turns code_of codes is_passage is_return
  return-row = if-so (is_return (code_of i)) _ (below_at 64 (λ i. not (is_return (code_of i)) || return_row i) tt i l)

-- ---- what a dart carries, by its row and its cell

-- the step of a row whose link is owned by the cell (r, c)
abbrev step_on : ℕ → ℕ → ℕ → Step
step_on i r c = record { link = link (get_or kinds (kind_of i) north_side) r c; forth = eqb (sign_of i) 0 }

-- the place that is passed there: a centre or a missing pin
abbrev passed : Bool → ℕ → ℕ → Place
passed b r c = at (elim b [ true ↦ centre | false ↦ missing ]) r c

-- n further on than r
abbrev beyond : ℕ → ℕ → ℕ
beyond zero r = r
beyond (suc n) r = suc (beyond n r)

beyond-adds : (n r : ℕ) → beyond n r ≡ n + r
beyond-adds zero r = omega arith
beyond-adds (suc n) r = omega (arith, beyond-adds n r)

at-cell : (s : Bool) (h : ℕ → ℕ → ℕ) (x r c : ℕ) → x ≡ 41 + 40 * r + c → r < 40 → c < 40
    → when (s && in_grid x) (h (row_of x) (column_of x)) ≡ when s (h r c)
at-cell s h x r c e a b = by s (in_grid x) _ (cell-grid x r c e b a) ∙ ap₂ (λ (r c : ℕ). when s (h r c)) (cell_row x r c e b) (cell-column x r c e b)
  where
    by : (s g : Bool) (y : ℕ) → T g → when (s && g) y ≡ when s y
    by true true y t = refl
    by true false y t = absurd t
    by false g y t = refl

-- f of the step on the rows that a marks, and g of the place on those that b marks, a centre where the code is n
module _ (a b : ℕ → Bool) (n : ℕ) (f : Step → ℕ) (g : Place → ℕ) (i x : ℕ) where
  amount : ℕ
  amount =
      when (a (code_of i) && in_grid (x + owner_of i)) (f (step_on i (row_of (x + owner_of i)) (column_of (x + owner_of i))))
      + when (b (code_of i) && in_grid x) (g (passed (eqb (code_of i) n) (row_of x) (column_of x)))

  -- at the cell (r, c), where the link's owner is on the grid too
  amount-at : (r c : ℕ) → x ≡ 41 + 40 * r + c → owner_of i / 40 + r < 40 → owner_of i % 40 + c < 40
      → amount
      ≡ when (a (code_of i)) (f (step_on i (beyond (owner_of i / 40) r) (beyond (owner_of i % 40) c))) + when (b (code_of i)) (g (passed (eqb (code_of i) n) r c))
  unfolding amount
  amount-at r c e u v =
      let p = beyond-adds (owner_of i / 40) r in
      let q = beyond-adds (owner_of i % 40) c in
      ap₂ ◌+◌ (at-cell (a (code_of i)) (λ r c. f (step_on i r c)) (x + owner_of i) _ _ (omega (arith, p, q)) (omega (arith, p)) (omega (arith, q)))
      (at-cell (b (code_of i)) (λ r c. g (passed (eqb (code_of i) n) r c)) x r c e (omega arith) (omega arith))

  amount-off : T (not (in_grid x)) → owner_of i ≡ 0 → amount ≡ 0
  unfolding amount
  amount-off t e =
      let p : x + owner_of i ≡ x = omega arith in
      rw p (off (in_grid x) t (a (code_of i)) (b (code_of i)) _ _)
    where
      off : (h : Bool) → T (not h) → (p q : Bool) (y z : ℕ) → when (p && h) y + when (q && h) z ≡ 0
      off true t p q y z = absurd t
      off false t true true y z = refl
      off false t true false y z = refl
      off false t false true y z = refl
      off false t false false y z = refl

pub goes : List ℕ → ℕ → ℕ → ℕ
goes rec = amount carries is_passage 5 (load rec) (arrivals (load rec))

pub comes : List ℕ → ℕ → ℕ → ℕ
comes rec = amount returns is_return 11 (λ s. load rec (turn s)) (arrivals (load rec))

pub view-goes : (rec : List ℕ) (d : ℕ) → view rec d ≡ goes rec (d % 64) (d / 64)
unfolding view goes amount is_link_dart is_pass_dart step_of owner_cell passed_of
view-goes rec d = refl

when-iff : (a b : Bool) (x y : ℕ) → (T a → T b) → (T b → T a) → (T a → x ≡ y) → when a x ≡ when b y
when-iff true true x y f g e = e tt
when-iff true false x y f g e = absurd (f tt)
when-iff false true x y f g e = absurd (g tt)
when-iff false false x y f g e = refl

row< : (d : ℕ) → d % 64 < 64
row< d = omega arith

-- ---- the way back along a link

module _ (d : ℕ) (l : d < darts) where
  link-back : T (is_link_dart (rev d)) → T (returns (code_of (d % 64)) && in_grid (owner_cell d)) × (step_of (rev d) ≡ turn (step_of d))
  unfolding is_link_dart
  link-back t =
      let (s, g) = link-stored (rev d) t in
      let b = stored-turned (rev d) (rev< d l) s g in
      let e : rev (rev d) ≡ d = rev-rev d l in
      let i : back_row (rev d % 64) ≡ d % 64 = sym (over-row (rev d) (rev (rev d)) b.over) ∙ ap (λ (x : ℕ). x % 64) e in (
        and_both (returns (code_of (d % 64))) (in_grid (owner_cell d))
            (subst (λ (j : ℕ). T (returns (code_of j))) i
            (carries-returns (rev d % 64) (row< (rev d)) (and_left (carries (code_of (rev d % 64))) (in_grid (owner_cell (rev d))) t)))
            (subst (λ (x : ℕ). T (in_grid x)) (sym b.owner ∙ ap owner_cell e) g),
        sym (turn-turn (step_of (rev d))) ∙ ap turn (sym b.step ∙ ap step_of e),
      )

  back-link : T (returns (code_of (d % 64)) && in_grid (owner_cell d)) → T (is_link_dart (rev d))
  unfolding is_link_dart
  back-link t =
      let r : T (returns (code_of (d % 64))) = and_left (returns (code_of (d % 64))) (in_grid (owner_cell d)) t in
      let g : T (in_grid (owner_cell d)) = and_right (returns (code_of (d % 64))) (in_grid (owner_cell d)) t in
      let b = stored-turned d l (returns-stored (d % 64) (row< d) r) g in
      and_both (carries (code_of (rev d % 64))) (in_grid (owner_cell (rev d)))
      (rw (over-row d (rev d) b.over) (returns-carries (d % 64) (row< d) r)) (rw b.owner g)

-- ---- the way back through a place

-- from an entry to its exit
record Passes (e d : ℕ) : Type 0 where
  cell : e / 64 ≡ d / 64
  code : code_of (d % 64) ≡ code_of (e % 64) + 6

three : (a b c : Bool) → T (a && (b && c)) → T a × T b × T c
three a b c t = let u : T (b && c) = and_right a (b && c) t in (and_left a (b && c) t, and_left b c u, and_right b c u)

pass_on : (e : ℕ) → e < darts → T (is_passage (code_of (e % 64))) → Passes e (rev e)
unfolding darts
pass_on e l t =
    let i = e % 64 in
    let (a, b, c) = three (eqb (turn_of i) 2697) (eqb (code_of (i + 9)) (code_of i + 6)) (leb i 52) (pass-row i (row< e) t) in
    let k : i ≤ 52 = leb→le i 52 c in
    let r : rev e ≡ e + 9 = rev-over e (e + 9) (unfold ahead in omega (arith, eqb→eq (turn_of i) 2697 a)) (omega arith) in
    record { cell = omega arith; code = ap code_of (row e (rev e) r k) ∙ eqb→eq (code_of (i + 9)) (code_of i + 6) b }
  where
    row : (e d : ℕ) → d ≡ e + 9 → e % 64 ≤ 52 → d % 64 ≡ e % 64 + 9
    row e d p k = omega arith

pass-back : (d : ℕ) → d < darts → T (is_return (code_of (d % 64))) → T (is_passage (code_of (rev d % 64)))
pass-back d l t =
    let i = d % 64 in
    let (a, b, c) = three (eqb (turn_of i) 2679) (is_passage (code_of (i - 9))) (leb 9 i) (return-row i (row< d) t) in
    let k : 9 ≤ i = leb→le 9 i c in
    let r : rev d ≡ d - 9 = rev-over d (d - 9) (unfold ahead in omega (arith, eqb→eq (turn_of i) 2679 a)) (omega arith) in
    subst (λ (j : ℕ). T (is_passage (code_of j))) (row d (rev d) r k) b
  where
    row : (d e : ℕ) → e ≡ d - 9 → 9 ≤ d % 64 → d % 64 - 9 ≡ e % 64
    row d e p k = omega arith

passage-return : (c : ℕ) → T (is_passage c) → T (is_return (c + 6))
unfolding is_passage is_return
passage-return c =
    or-by (eqb c 5) (eqb c 8) (λ t. subst (λ (x : ℕ). T (is_return (x + 6))) (sym (eqb→eq c 5 t)) tt)
    (λ t. subst (λ (x : ℕ). T (is_return (x + 6))) (sym (eqb→eq c 8 t)) tt)

module _ (d : ℕ) (l : d < darts) where
  through : T (is_passage (code_of (rev d % 64))) → Passes (rev d) d
  through t = subst (Passes (rev d)) (rev-rev d l) (pass_on (rev d) (rev< d l) t)

  pass-part : (h : Bool → ℕ → ℕ)
      → when (is_passage (code_of (rev d % 64)) && in_grid (rev d / 64)) (h (eqb (code_of (rev d % 64)) 5) (rev d / 64))
      ≡ when (is_return (code_of (d % 64)) && in_grid (d / 64)) (h (eqb (code_of (d % 64)) 11) (d / 64))
  pass-part h =
      when-iff (is_passage a && in_grid (rev d / 64)) (is_return b && in_grid (d / 64)) (h (eqb a 5) (rev d / 64)) (h (eqb b 11) (d / 64))
      (λ t.
      let p : T (is_passage a) = and_left (is_passage a) (in_grid (rev d / 64)) t in
      and_both (is_return b) (in_grid (d / 64)) (rw (through p).code (passage-return a p))
      (subst (λ (x : ℕ). T (in_grid x)) (through p).cell (and_right (is_passage a) (in_grid (rev d / 64)) t)))
      (λ t.
      let p : T (is_passage a) = pass-back d l (and_left (is_return b) (in_grid (d / 64)) t) in
      and_both (is_passage a) (in_grid (rev d / 64)) p
      (subst (λ (x : ℕ). T (in_grid x)) (sym (through p).cell) (and_right (is_return b) (in_grid (d / 64)) t)))
      (λ t.
      let q = through (and_left (is_passage a) (in_grid (rev d / 64)) t) in
      ap₂ h (eqb-iff a 5 b 11 (λ e. omega (arith, q.code)) (λ e. omega (arith, q.code))) q.cell)
    where
      a : ℕ
      a = code_of (rev d % 64)

      b : ℕ
      b = code_of (d % 64)

  -- what comes back along a dart
  pub view-comes : (rec : List ℕ) → view rec (rev d) ≡ comes rec (d % 64) (d / 64)
  unfolding view comes amount is_link_dart is_pass_dart step_of owner_cell passed_of
  view-comes rec =
      ap₂ ◌+◌
      (when-iff (is_link_dart (rev d)) (returns (code_of (d % 64)) && in_grid (owner_cell d)) (load rec (step_of (rev d))) (load rec (turn (step_of d)))
      (λ t. (link-back d l t).0) (back-link d l) (λ t. ap (load rec) (link-back d l t).1))
      (pass-part (λ b x. arrivals (load rec) (passed b (row_of x) (column_of x))))

-- ---- on the grid, and off it

module _ (rec : List ℕ) (x r c : ℕ) (e : x ≡ 41 + 40 * r + c) (i : ℕ) (u : owner_of i / 40 + r < 40) (v : owner_of i % 40 + c < 40) where
  pub goes_at : goes rec i x
      ≡ when (carries (code_of i)) (load rec (step_on i (beyond (owner_of i / 40) r) (beyond (owner_of i % 40) c)))
      + when (is_passage (code_of i)) (arrivals (load rec) (passed (eqb (code_of i) 5) r c))
  unfolding goes
  goes_at = amount-at carries is_passage 5 _ _ i x r c e u v

  pub comes-at : comes rec i x
      ≡ when (returns (code_of i)) (load rec (turn (step_on i (beyond (owner_of i / 40) r) (beyond (owner_of i % 40) c))))
      + when (is_return (code_of i)) (arrivals (load rec) (passed (eqb (code_of i) 11) r c))
  unfolding comes
  comes-at = amount-at returns is_return 11 _ _ i x r c e u v

module _ (rec : List ℕ) (x : ℕ) (t : T (not (in_grid x))) (i : ℕ) (e : owner_of i ≡ 0) where
  pub goes-off : goes rec i x ≡ 0
  unfolding goes
  goes-off = amount-off carries is_passage 5 _ _ i x t e

  pub comes-off : comes rec i x ≡ 0
  unfolding comes
  comes-off = amount-off returns is_return 11 _ _ i x t e

-- ---- there or back

one_way_lem : (a b p q g h : Bool) (x y z w : ℕ) → min x z ≡ 0 → T (alone a b p q) → min (when (a && g) x + when (b && h) y) (when (p && g) z + when (q && h) w) ≡ 0
one_way_lem a false p false g h x y z w e t = omega (arith, when-at-most (a && g) x, when-at-most (p && g) z)
one_way_lem false true false false g h x y z w e t = omega arith
one_way_lem true true p q g h x y z w e t = absurd t
one_way_lem false true true q g h x y z w e t = absurd t
one_way_lem false true false true g h x y z w e t = absurd t
one_way_lem false false false true g h x y z w e t = omega arith
one_way_lem true false p true g h x y z w e t = absurd t
one_way_lem false false true true g h x y z w e t = absurd t

-- no dart carries wires both ways where no link does
pub rows_apart : (rec : List ℕ) → ((s : Step) → min (load rec s) (load rec (turn s)) ≡ 0) → (i x : ℕ) → i < 64 → min (goes rec i x) (comes rec i x) ≡ 0
unfolding goes comes amount
rows_apart rec e i x l =
    one_way_lem (carries (code_of i)) (is_passage (code_of i)) (returns (code_of i)) (is_return (code_of i)) (in_grid (x + owner_of i)) (in_grid x) _ _ _ _
    (e (step_on i (row_of (x + owner_of i)) (column_of (x + owner_of i)))) (row-alone i l)

-- no dart goes along a link and through a place
pub link-or-pass : (d : ℕ) → T (is_link_dart d) → T (is_pass_dart d) → ⊥
unfolding is_link_dart is_pass_dart
link-or-pass d t u =
    by (carries (code_of (d % 64))) (is_passage (code_of (d % 64))) (returns (code_of (d % 64))) (is_return (code_of (d % 64))) (row-alone (d % 64) (row< d))
    (and_left (carries (code_of (d % 64))) (in_grid (owner_cell d)) t) (and_left (is_passage (code_of (d % 64))) (in_grid (d / 64)) u)
  where
    by : (a b p q : Bool) → T (alone a b p q) → T a → T b → ⊥
    by true true p q n t u = n
    by true false p q n t u = u
    by false b p q n t u = t
