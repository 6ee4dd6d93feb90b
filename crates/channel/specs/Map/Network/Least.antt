-- Of the flows that a record's bytes agree with, the record's own view is the least: no dart carries more in it than in any of them. On a link the bytes
-- have what the flow has left when both ways are set off; and through a place goes what comes to its entry. Assumes nothing.
use Rattle.std.specs.Prelude.{◌≡◌, refl, ◌⊎◌, Bool, not, ◌&&◌, ◌||◌, List, T, eqb, ltb}
use Rattle.std.proofs.Common.{sym, subst, ◌∙◌, inl, inr, eq-zero-or-pos, eqb→eq, ltb→lt}
use Rattle.std.proofs.Math.Path.{ap}
use Rattle.std.proofs.Math.Bool.{true, false}
use Prim.Native.Nat.{ℕ, ◌+◌, ◌/◌, ◌%◌, ◌≤◌, ◌<◌}
use native.Mathlib.Omega.{arith}
use Rattle.std.proofs.Math.Dec.{not_T, T_not}
use Rattle.sums.specs.Counting.{when}
use Rattle.sums.specs.Tests.{Same, same, other, same?, and_left, and_right, if-so, or-by, so, so-not, below, below_at}
use Rattle.sums.specs.Sums.{when-same, when-le, when-none, sum-le, sum-pick}
use Rattle.flow.specs.Balance.{out}
use Rattle.flow.specs.Flow.{Flow}
use Rattle.model.specs.Job.{Job, array_fits}
use Rattle.model.specs.Links.{missing, centre, Place, at, is_place, may, limit, pass}
use Rattle.model.specs.Near.{size, entry_of, exit_of, entry, exit}
use Rattle.model.specs.Loads.{arrivals, Feasible}
use Rattle.model.specs.Record.{load}
use Rattle.channel.specs.Map.{codes, code_of}
use Rattle.channel.specs.Map.{spots, darts, in_grid, row_of, column_of, owner_cell, rev, step_of, carries, is_passage, is_link_dart, is_pass_dart, passed_of}
use Rattle.channel.specs.Map.{cap, free, outside, view, starts}
use Rattle.channel.specs.Map.Back.{rev<, rev-rev, link-stored}
use Rattle.channel.specs.Map.Darts.{step-grid, step-dart}
use Rattle.channel.specs.Map.Passes.{passage-row, pass-ends}
use Rattle.channel.specs.Map.Limits.{free-link, free-may}
use Rattle.channel.specs.Map.Network.{net}
use Rattle.channel.specs.Map.Network.Flows.{feasible-flow}
use Rattle.channel.specs.Map.Carry.{view-pass}
use Rattle.channel.specs.Map.Carried.{passed-le}
use Rattle.channel.specs.Map.Places.{kind-inside, entry-inside, in-shut}
use Rattle.channel.specs.Map.Network.Agree.{Agrees}
use Rattle.channel.specs.Map.Network.FeasibleBytes.{agrees-feasible, agrees-starts}

-- ---- the darts of an entry

-- a dart through a place is in slot 4 of a spot of kind 0 or 6
pass-slot : (d : ℕ) → T (is_pass_dart d) → (d % 64 ≡ 4) ⊎ (d % 64 ≡ 52)
unfolding is_pass_dart
pass-slot d t = by (eqb (d % 64) 4) (same? (d % 64) 4) (passage-row (d % 64) (omega arith) (and_left (is_passage (code_of (d % 64))) (in_grid (d / 64)) t))
  where
    by : (b : Bool) → Same (d % 64) 4 b → T (b || eqb (d % 64) 52) → (d % 64 ≡ 4) ⊎ (d % 64 ≡ 52)
    by true (same e) u = inl e
    by false (other n) u = inr (eqb→eq (d % 64) 52 u)

-- no link dart starts at such a spot
link_row : (i : ℕ) → i < 64 → T (carries (code_of i)) → T (eqb i 5 || (ltb 7 i && (ltb i 48 || ltb 55 i)))
unfolding below carries code_of codes
link_row i l =
    if-so (carries (code_of i)) (eqb i 5 || (ltb 7 i && (ltb i 48 || ltb 55 i)))
    (below_at 64 (λ i. not (carries (code_of i)) || (eqb i 5 || (ltb 7 i && (ltb i 48 || ltb 55 i)))) tt i l)

link-slot : (d : ℕ) → T (is_link_dart d) → (d % 64 ≡ 5) ⊎ ((7 < d % 64) × ((d % 64 < 48) ⊎ (55 < d % 64)))
unfolding is_link_dart
link-slot d t =
    let i = d % 64 in
    let r = link_row i (omega arith) (and_left (carries (code_of i)) (in_grid (owner_cell d)) t) in
    or-by (eqb i 5) (ltb 7 i && (ltb i 48 || ltb 55 i)) (λ e. inl (eqb→eq i 5 e))
    (λ r. inr (ltb→lt 7 i (and_left (ltb 7 i) (ltb i 48 || ltb 55 i) r), or-by (ltb i 48) (ltb 55 i) (λ u. inl (ltb→lt i 48 u)) (λ u. inr (ltb→lt 55 i u)) (and_right (ltb 7 i) (ltb i 48 || ltb 55 i) r))) r

-- a dart through a place leads to a spot of odd number
exit-odd : (d : ℕ) → exit (passed_of d) % 2 ≡ 1
unfolding passed_of exit_of
exit-odd d = by (eqb (code_of (d % 64)) 5)
  where
    by : (b : Bool) → exit (at (elim b [ true ↦ centre | false ↦ missing ]) (row_of (d / 64)) (column_of (d / 64))) % 2 ≡ 1
    by true = omega arith
    by false = omega arith

module _ (d : ℕ) (l : d < darts) (t : T (is_pass_dart d)) where
  -- its spot is of kind 0 or 6
  kind : ((d / 8) % 8 ≡ 0) ⊎ ((d / 8) % 8 ≡ 6)
  kind = by (pass-slot d t)
    where
      by : (d % 64 ≡ 4) ⊎ (d % 64 ≡ 52) → ((d / 8) % 8 ≡ 0) ⊎ ((d / 8) % 8 ≡ 6)
      by (inl e) = inl (omega arith)
      by (inr e) = inr (omega arith)

  -- the other darts of its spot are neither along a link nor through a place
  alone-link : (x : ℕ) → x / 8 ≡ d / 8 → T (is_link_dart x) → x % 64 ≡ 5
  alone-link x e u = by kind (link-slot x u)
    where
      by : ((d / 8) % 8 ≡ 0) ⊎ ((d / 8) % 8 ≡ 6) → (x % 64 ≡ 5) ⊎ ((7 < x % 64) × ((x % 64 < 48) ⊎ (55 < x % 64))) → x % 64 ≡ 5
      by k (inl q) = q
      by (inl k) (inr (a, b)) = absurd (omega arith)
      by (inr k) (inr (a, inl b)) = absurd (omega arith)
      by (inr k) (inr (a, inr b)) = absurd (omega arith)

  alone-pass : (x : ℕ) → x / 8 ≡ d / 8 → T (is_pass_dart x) → x ≡ d
  alone-pass x e u = by (pass-slot x u) (pass-slot d t)
    where
      by : (x % 64 ≡ 4) ⊎ (x % 64 ≡ 52) → (d % 64 ≡ 4) ⊎ (d % 64 ≡ 52) → x ≡ d
      by (inl a) (inl b) = omega arith
      by (inl a) (inr b) = omega arith
      by (inr a) (inl b) = omega arith
      by (inr a) (inr b) = omega arith

  -- and none of them is the way back of a dart through a place
  back-pass : (x : ℕ) → x < darts → x / 8 ≡ d / 8 → T (is_pass_dart (rev x)) → ⊥
  back-pass x k e u = by kind
    where
      odd : x / 8 % 2 ≡ 1
      odd = ap (λ (y : ℕ). y / 8 % 2) (sym (rev-rev x k)) ∙ (ap (λ (y : ℕ). y % 2) (sym (pass-ends (rev x) (rev< x k) u).1) ∙ exit-odd (rev x))

      by : ((d / 8) % 8 ≡ 0) ⊎ ((d / 8) % 8 ≡ 6) → ⊥
      by (inl q) = omega (arith, odd)
      by (inr q) = omega (arith, odd)

  entry_here : (J : Job) → T (array_fits J.rows J.columns) → T (is_place J (passed_of d)) → T (not (outside J (d / 8)))
  unfolding passed_of entry_of code_of codes
  entry_here J fits p = by (pass-slot d t)
    where
      at-missing : d % 64 ≡ 4 → passed_of d ≡ at missing (row_of (d / 64)) (column_of (d / 64))
      at-missing e = ap (λ (i : ℕ). at (elim (eqb (code_of i) 5) [ true ↦ centre | false ↦ missing ]) (row_of (d / 64)) (column_of (d / 64))) e

      by : (d % 64 ≡ 4) ⊎ (d % 64 ≡ 52) → T (not (outside J (d / 8)))
      by (inl q) =
          subst (λ (u : ℕ). T (not (outside J u))) (sym (ap entry (at-missing q)) ∙ (pass-ends d l t).0)
          (entry-inside J fits (row_of (d / 64)) (column_of (d / 64)) (subst (λ (x : Place). T (is_place J x)) (at-missing q) p))
      by (inr q) = kind-inside J fits (d / 8) (λ h k. omega arith) (omega arith)

-- ---- what a record's bytes have of a flow

module _ (J : Job) (fits : T (array_fits J.rows J.columns)) (g s : ℕ → ℕ) (rec : List ℕ) (F : Flow (net J) g s) (a : Agrees g rec) where
  feasible : Feasible J (load rec)
  feasible = agrees-feasible J fits g s rec F a

  own : Flow (net J) (view rec) (starts J rec)
  own = feasible-flow J fits rec feasible

  link-least : (d : ℕ) → d < darts → T (is_link_dart d) → load rec (step_of d) ≤ g d
  link-least d l t = by (eq-zero-or-pos (load rec (step_of d)))
    where
      by : (load rec (step_of d) ≡ 0) ⊎ (0 < load rec (step_of d)) → load rec (step_of d) ≤ g d
      by (inl e) = omega arith
      by (inr h) =
          omega (arith, a.same (step_of d) (step-grid d (link-stored d t).1), feasible.one_way (step_of d) h, ap g (step-dart d l t))

  -- a dart that passes no place
  plain-least : (d : ℕ) → d < darts → (T (is_pass_dart d) → ⊥) → view rec d ≤ g d
  unfolding view
  plain-least d l n = by (is_link_dart d) (link-least d l) (is_pass_dart d) n
    where
      by : (b : Bool) → (T b → load rec (step_of d) ≤ g d) → (c : Bool) → (T c → ⊥)
          → when b (load rec (step_of d)) + when c (arrivals (load rec) (passed_of d)) ≤ g d
      by b h true n = absurd (n tt)
      by true h false n = omega (arith, h tt)
      by false h false n = omega arith

  -- a dart along no link that may be taken, nor through a place
  shut : (x : ℕ) → x < darts → (T (is_link_dart x) → x % 64 ≡ 5) → (T (is_pass_dart x) → ⊥) → g x ≡ 0
  unfolding net cap
  shut x l m n =
      omega (
        arith,
        F.load.within x l (not_T (free J x) (λ f. T_not (may J (step_of x)) (in-shut J fits x (m (free-link J x f))) (free-may J x f))),
        when-none (is_link_dart x && may J (step_of x)) (size (limit J (step_of x).link))
            (λ t. absurd (T_not (may J (step_of x)) (in-shut J fits x (m (and_left (is_link_dart x) (may J (step_of x)) t))) (and_right (is_link_dart x) (may J (step_of x)) t))),
        when-none (is_pass_dart x && is_place J (passed_of x)) (size (pass J (passed_of x))) (λ t. absurd (n (and_left (is_pass_dart x) (is_place J (passed_of x)) t))),
      )

  -- a dart through a place: what comes to the entry goes along it
  pass-least : (d : ℕ) → d < darts → (t : T (is_pass_dart d)) → T (is_place J (passed_of d)) → view rec d ≤ g d
  unfolding net out darts spots
  pass-least d l t here =
      omega (
        arith,
        own.load.balanced u (omega arith) (entry_here d l t J fits here),
        F.load.balanced u (omega arith) (entry_here d l t J fits here),
        agrees-starts J fits g s rec F a u (omega arith),
        sum-pick darts d (view rec) l,
        sum-pick darts d g l,
        sum-le darts (λ x. when (eqb d x) (view rec x)) (λ x. when (eqb (x / 8) u) (view rec x)) (λ x k. one x (same? d x)),
        sum-le darts (λ x. when (eqb (x / 8) u) (g x)) (λ x. when (eqb d x) (g x)) (λ x k. only x k (same? d x)),
        sum-le darts (λ x. when (eqb (x / 8) u) (view rec (rev x))) (λ x. when (eqb (x / 8) u) (g (rev x)))
            (λ x k. when-le (eqb (x / 8) u) (view rec (rev x)) (g (rev x)) (λ e. plain-least (rev x) (rev< x k) (back-pass d l t x k (eqb→eq (x / 8) u e)))),
      )
    where
      u : ℕ
      u = d / 8

      one : (x : ℕ) {b : Bool} → Same d x b → when b (view rec x) ≤ when (eqb (x / 8) u) (view rec x)
      one x (same e) = omega (arith, when-same (x / 8) u (view rec x) (ap (λ (y : ℕ). y / 8) (sym e)))
      one x (other n) = omega arith

      only : (x : ℕ) → x < darts → {b : Bool} → Same d x b → when (eqb (x / 8) u) (g x) ≤ when b (g x)
      only x k (same e) = omega (arith, when-same (x / 8) u (g x) (ap (λ (y : ℕ). y / 8) (sym e)))
      only x k (other n) =
          omega (
            arith,
            when-none (eqb (x / 8) u) (g x)
                (λ e. let q = eqb→eq (x / 8) u e in shut x k (alone-link d l t x q) (λ p. n (sym (alone-pass d l t x q p)))),
          )

  -- nothing passes a place that is not there
  pass-none : (d : ℕ) → T (is_pass_dart d) → is_place J (passed_of d) ≡ false → view rec d ≡ 0
  unfolding passed_of
  pass-none d t p =
      omega (
        arith,
        view-pass rec d t,
        passed-le feasible (eqb (code_of (d % 64)) 5) (row_of (d / 64)) (column_of (d / 64)),
        ap (λ (b : Bool). when b (size (pass J (passed_of d)))) p,
      )

  pub view-least : (d : ℕ) → d < darts → view rec d ≤ g d
  view-least d l = by (is_pass_dart d) refl
    where
      by : (b : Bool) → is_pass_dart d ≡ b → view rec d ≤ g d
      by true e = place-by (is_place J (passed_of d)) refl
        where
          place-by : (b : Bool) → is_place J (passed_of d) ≡ b → view rec d ≤ g d
          place-by true p = pass-least d l (so e) (so p)
          place-by false p = omega (arith, pass-none d (so e) p)
      by false e = plain-least d l (T_not (is_pass_dart d) (so-not e))
