-- Sums over all darts. Where a dart's term is that of its step, and 0 where the step may not be taken, the sum is one over the steps around the places;
-- where it is that of the place passed, the sum is one over the places. A sum over the starts is one over the chosen pins. Assumes nothing.
use Rattle.std.specs.Prelude.{◌≡◌, refl, ◌≢◌, ◌⊎◌, Bool, true, false, not, ◌&&◌, ◌||◌, eqb, ltb, length}
use Rattle.std.proofs.Common.{sym, ◌∙◌, inl, eq-zero-or-pos, ne_eqb, T_not, ltb→lt, lit<, lit≤}
use Rattle.std.proofs.Math.Path.{ap, subst}
use Rattle.std.proofs.Math.Logic.{inr}
use Rattle.std.proofs.Math.Option.{none, some}
use Prim.Native.Nat.{ℕ, ◌+◌, ◌*◌, ◌/◌, ◌%◌, ◌≤◌, ◌<◌}
use native.Mathlib.Omega.{arith}
use Rattle.std.proofs.Math.Dec.{T, eqb→eq}
use Rattle.sums.specs.Counting.{when, sum, total}
use Rattle.sums.specs.Tests.{Same, same, other, so-not, same?, below, below_at, and_left, and_right, and_both, both_ways, if-so}
use Rattle.sums.specs.Sums.{when-none, when-so, when-some, sum-cong, sum-none, sum-some, sum-pick, sum_rows}
use Rattle.sums.specs.Totals.{sum-entries}
use Rattle.model.specs.Job.{Job, array_fits, is_chosen}
use Rattle.model.specs.Links.{north, east, south, west, PlaceKind, pin, missing, centre, nowhere, side, Place, at, holds, is_place, places, is_pin_kind, Step, tail, may, pass, around, around_of}
use Rattle.model.specs.Near.{spot, entry_of, exit_of, entry, exit, IsSpot}
use Rattle.model.proofs.Listed.{may-leaves}
use Rattle.channel.specs.Map.{spots, darts, in_grid, row_of, column_of, is_start, owner_cell, step_of, carries, is_passage, is_link_dart, is_pass_dart, passed_of, codes, code_of, counts_twice}
use Rattle.channel.specs.Map.Darts.{cell_row, cell-column, cell-grid, grid-cell}
use Rattle.channel.specs.Map.Steps.{slot_step, link-tail, place-pass, pass-ends}
use Rattle.channel.specs.Map.Places.{in-shut, out-shut}
use Rattle.channel.specs.Map.Spots.{missing-or-chosen, held-grid, places-cong, sum-spots}

-- ---- rows without a dart of a kind

link_row : (d : ℕ) → T (is_link_dart d) → T (carries (code_of (d % 64)))
unfolding is_link_dart
link_row d t = and_left (carries (code_of (d % 64))) (in_grid (owner_cell d)) t

pass-row : (d : ℕ) → T (is_pass_dart d) → T (is_passage (code_of (d % 64)))
unfolding is_pass_dart
pass-row d t = and_left (is_passage (code_of (d % 64))) (in_grid (d / 64)) t

-- a test of the table's rows of the spots of kind k fails from some slot on
module _ (test : ℕ → Bool) (k from : ℕ) (fails : T (below 8 (λ i. ltb i from || not (test (8 * k + i))))) where
  slot-fails : (u i : ℕ) → u % 8 ≡ k → from ≤ i → i < 8 → T (test ((8 * u + i) % 64)) → ⊥
  slot-fails u i e l m t =
      by (test (8 * k + i)) (subst (λ (x : ℕ). T (test x)) (row u i k e m) t) (ltb i from) (λ p. omega (arith, ltb→lt i from p)) (below_at 8 _ fails i m)
    where
      row : (u i k : ℕ) → u % 8 ≡ k → i < 8 → (8 * u + i) % 64 ≡ 8 * k + i
      row u i k e m = omega arith

      by : (b : Bool) → T b → (a : Bool) → (T a → ⊥) → T (a || not b) → ⊥
      by true t true n f = n tt
      by true t false n f = f
      by false t a n f = t

-- no dart of a link leaves an exit behind the steps around the place
exit-links : (J : Job) → T (array_fits J.rows J.columns) → (k : PlaceKind) (r c i : ℕ) → T (holds J k r c) → length (around_of k r c) ≤ i → i < 8
    → T (is_link_dart (8 * exit_of k r c + i)) → T (may J (step_of (8 * exit_of k r c + i))) → ⊥
unfolding exit_of below carries code_of codes
exit-links J fits k r c i h l m t y = by k h l y (link_row (8 * exit_of k r c + i) t)
  where
    test : ℕ → Bool
    test i = carries (code_of i)

    by : (k : PlaceKind) → T (holds J k r c) → length (around_of k r c) ≤ i → T (may J (step_of (8 * exit_of k r c + i))) → T (test ((8 * exit_of k r c + i) % 64)) → ⊥
    by pin h l y = slot-fails test 1 5 tt (spot 1 r c) i (omega arith) l m
    by missing h l y = after (eqb i 4) (same? i 4)
      where
        after : (b : Bool) → Same i 4 b → T (test ((8 * spot 1 r c + i) % 64)) → ⊥
        after true (same e) u =
            T_not (may J (step_of (8 * spot 1 r c + i)))
            (out-shut J fits (8 * spot 1 r c + i) r c (omega arith) (held-grid J fits missing r c h).1 (missing-or-chosen J r c h)) y
        after false (other n) u = slot-fails test 1 5 tt (spot 1 r c) i (omega arith) (omega arith) m u
    by centre h l y = slot-fails test 7 4 tt (spot 7 r c) i (omega arith) l m
    by PlaceKind.outside h l y = absurd h
    by nowhere h l y = absurd h
    by (side north) h l y = slot-fails test 2 5 tt (spot 2 r c) i (omega arith) l m
    by (side east) h l y = slot-fails test 3 5 tt (spot 3 r c) i (omega arith) l m
    by (side south) h l y = slot-fails test 4 5 tt (spot 4 r c) i (omega arith) l m
    by (side west) h l y = slot-fails test 5 5 tt (spot 5 r c) i (omega arith) l m

-- nor the entry of a place that counts twice
entry-links : (J : Job) → T (array_fits J.rows J.columns) → (k : PlaceKind) (r c i : ℕ) → T (counts_twice k) → i < 8 → T (is_link_dart (8 * entry_of k r c + i))
    → T (may J (step_of (8 * entry_of k r c + i))) → ⊥
unfolding entry_of below carries code_of codes counts_twice
entry-links J fits k r c i d m t y = by k d y (link_row (8 * entry_of k r c + i) t)
  where
    test : ℕ → Bool
    test i = carries (code_of i)

    by : (k : PlaceKind) → T (counts_twice k) → T (may J (step_of (8 * entry_of k r c + i))) → T (test ((8 * entry_of k r c + i) % 64)) → ⊥
    by pin d y = absurd d
    by missing d y = after (eqb i 5) (same? i 5)
      where
        after : (b : Bool) → Same i 5 b → T (test ((8 * spot 0 r c + i) % 64)) → ⊥
        after true (same e) u = T_not (may J (step_of (8 * spot 0 r c + i))) (in-shut J fits (8 * spot 0 r c + i) (omega arith)) y
        after false (other n) u = slot-fails (λ j. test j && not (eqb j 5)) 0 0 tt (spot 0 r c) i (omega arith) (omega arith) m
            (and_both (test ((8 * spot 0 r c + i) % 64)) (not (eqb ((8 * spot 0 r c + i) % 64) 5)) u (so-not (ne_eqb ((8 * spot 0 r c + i) % 64) 5 (omega arith))))
    by centre d y = slot-fails test 6 0 tt (spot 6 r c) i (omega arith) (omega arith) m
    by PlaceKind.outside d y = absurd d
    by nowhere d y = absurd d
    by (side e) d y = absurd d

-- no passage leaves an exit
exit-passes : (J : Job) (k : PlaceKind) (r c i : ℕ) → T (holds J k r c) → i < 8 → T (is_pass_dart (8 * exit_of k r c + i)) → ⊥
unfolding exit_of below is_passage code_of codes
exit-passes J k r c i h m t = by k h (pass-row (8 * exit_of k r c + i) t)
  where
    test : ℕ → Bool
    test i = is_passage (code_of i)

    by : (k : PlaceKind) → T (holds J k r c) → T (test ((8 * exit_of k r c + i) % 64)) → ⊥
    by pin h = slot-fails test 1 0 tt (spot 1 r c) i (omega arith) (omega arith) m
    by missing h = slot-fails test 1 0 tt (spot 1 r c) i (omega arith) (omega arith) m
    by centre h = slot-fails test 7 0 tt (spot 7 r c) i (omega arith) (omega arith) m
    by PlaceKind.outside h = absurd h
    by nowhere h = absurd h
    by (side north) h = slot-fails test 2 0 tt (spot 2 r c) i (omega arith) (omega arith) m
    by (side east) h = slot-fails test 3 0 tt (spot 3 r c) i (omega arith) (omega arith) m
    by (side south) h = slot-fails test 4 0 tt (spot 4 r c) i (omega arith) (omega arith) m
    by (side west) h = slot-fails test 5 0 tt (spot 5 r c) i (omega arith) (omega arith) m

-- a passage leaves by slot 4
pass-slot : (d : ℕ) → T (is_pass_dart d) → d % 8 ≡ 4
unfolding below is_passage code_of codes
pass-slot d t =
    omega (
      arith,
      eqb→eq (d % 64 % 8) 4
          (if-so (is_passage (code_of (d % 64))) (eqb (d % 64 % 8) 4) (below_at 64 (λ i. not (is_passage (code_of i)) || eqb (i % 8) 4) tt (d % 64) (omega arith))
          (pass-row d t)),
    )

around-le : (k : PlaceKind) (r c : ℕ) → length (around_of k r c) ≤ 8
around-le pin r c = lit≤ tt
around-le missing r c = lit≤ tt
around-le centre r c = lit≤ tt
around-le PlaceKind.outside r c = lit≤ tt
around-le nowhere r c = lit≤ tt
around-le (side north) r c = lit≤ tt
around-le (side east) r c = lit≤ tt
around-le (side south) r c = lit≤ tt
around-le (side west) r c = lit≤ tt

none-by : (n : ℕ) → (0 < n → ⊥) → n ≡ 0
none-by n h = by (eq-zero-or-pos n)
  where
    by : (n ≡ 0) ⊎ (0 < n) → n ≡ 0
    by (inl e) = e
    by (inr p) = absurd (h p)

-- ---- the sums

module _ (J : Job) (fits : T (array_fits J.rows J.columns)) where
  -- only the darts that leave the spot of a place count
  sum-darts : (F : ℕ → ℕ) → ((d : ℕ) → d < darts → 0 < F d → IsSpot J (d / 8))
      → sum darts F
      ≡ total (places J) (λ x. sum 8 (λ i. F (8 * exit x + i)) + when (counts_twice x.kind) (sum 8 (λ i. F (8 * entry x + i))))
  unfolding darts spots
  sum-darts F only =
      sum_rows 13128 8 F
      ∙ sum-cong 13128 _ _ (λ u l. sum-cong 8 _ _ (λ i m. ap F (omega arith)))
      ∙ sum-spots J fits (λ u. sum 8 (λ i. F (8 * u + i))) found
    where
      found : (u : ℕ) → u < spots → 0 < sum 8 (λ i. F (8 * u + i)) → IsSpot J u
      found u l p =
          let (i, m, q) = sum-some 8 (λ i. F (8 * u + i)) p in
          let e : (8 * u + i) / 8 ≡ u = omega arith in
          subst (IsSpot J) e (only (8 * u + i) (omega arith) q)

  -- what each link dart has by its step
  module _ (f : Step → ℕ) (only : (s : Step) → 0 < f s → T (may J s)) where
    abbrev on_link : ℕ → ℕ
    on_link d = when (is_link_dart d) (f (step_of d))

    pub sum-links : sum darts on_link ≡ total (places J) (λ x. total (around x) f)
    sum-links =
        sum-darts on_link found
        ∙ places-cong J _ (λ x. total (around x) f)
        (λ x t. omega (arith, exits x t, when-none (counts_twice x.kind) (sum 8 (λ i. on_link (8 * entry x + i))) (entries x)))
      where
        found : (d : ℕ) → d < darts → 0 < on_link d → IsSpot J (d / 8)
        found d l p =
            let (t, q) = when-some (is_link_dart d) (f (step_of d)) p in
            let m = only (step_of d) q in
            (tail J (step_of d), may-leaves J (step_of d) m, inr (sym (link-tail J fits d l t m).0))

        exits : (x : Place) → T (is_place J x) → sum 8 (λ i. on_link (8 * exit x + i)) ≡ total (around x) f
        exits x t =
            sum-entries (around x) 8 (λ i. on_link (8 * exit x + i)) f (around-le x.kind x.row x.column)
            (λ i s e. let (l, u, q) = slot_step J fits x t i s e in when-so (is_link_dart (8 * exit x + i)) _ u ∙ ap f q)
            (λ i l m. when-none (is_link_dart (8 * exit x + i)) _ (λ u. none-by (f (step_of (8 * exit x + i))) (λ p. exit-links J fits x.kind x.row x.column i t l m u (only _ p))))

        entries : (x : Place) → T (counts_twice x.kind) → sum 8 (λ i. on_link (8 * entry x + i)) ≡ 0
        entries x d =
            sum-none 8 (λ i. on_link (8 * entry x + i))
            (λ i m. when-none (is_link_dart (8 * entry x + i)) _ (λ u. none-by (f (step_of (8 * entry x + i))) (λ p. entry-links J fits x.kind x.row x.column i d m u (only _ p))))

  -- what each passage has by the place passed
  module _ (f : Place → ℕ) (only : (x : Place) → pass J x ≡ none → f x ≡ 0) where
    abbrev on_pass : ℕ → ℕ
    on_pass d = when (is_pass_dart d && is_place J (passed_of d)) (f (passed_of d))

    pub sum-passes : sum darts on_pass ≡ total (places J) f
    unfolding counts_twice
    sum-passes =
        sum-darts on_pass found
        ∙ places-cong J _ f (λ x t. omega (arith, exits x t, entries x.kind x.row x.column t))
      where
        is-pass : (d : ℕ) → T (is_pass_dart d && is_place J (passed_of d)) → T (is_pass_dart d)
        is-pass d t = and_left (is_pass_dart d) (is_place J (passed_of d)) t

        found : (d : ℕ) → d < darts → 0 < on_pass d → IsSpot J (d / 8)
        found d l p =
            let (t, q) = when-some (is_pass_dart d && is_place J (passed_of d)) (f (passed_of d)) p in
            (passed_of d, and_right (is_pass_dart d) (is_place J (passed_of d)) t, inl (sym (pass-ends d l (is-pass d t)).0))

        exits : (x : Place) → T (is_place J x) → sum 8 (λ i. on_pass (8 * exit x + i)) ≡ 0
        exits x h =
            sum-none 8 (λ i. on_pass (8 * exit x + i))
            (λ i m. when-none (is_pass_dart (8 * exit x + i) && is_place J (passed_of (8 * exit x + i))) _
            (λ t. absurd (exit-passes J x.kind x.row x.column i h m (is-pass (8 * exit x + i) t))))

        fourth : (u i : ℕ) → i < 8 → on_pass (8 * u + i) ≡ when (eqb 4 i) (on_pass (8 * u + i))
        fourth u i m = by (eqb 4 i) (same? 4 i)
          where
            by : (b : Bool) → Same 4 i b → on_pass (8 * u + i) ≡ when b (on_pass (8 * u + i))
            by true e = refl
            by false (other n) =
                when-none (is_pass_dart (8 * u + i) && is_place J (passed_of (8 * u + i))) _
                (λ t. absurd (n (omega (arith, pass-slot (8 * u + i) (is-pass (8 * u + i) t)))))

        passed : (x : Place) (k : ℕ) → T (is_place J x) → pass J x ≡ some k → sum 8 (λ i. on_pass (8 * entry x + i)) ≡ f x
        passed x k t e =
            let (l, u, q) = place-pass J fits x t k e in
            sum-cong 8 _ _ (λ i m. fourth (entry x) i m)
            ∙ sum-pick 8 4 (λ i. on_pass (8 * entry x + i)) (lit< tt)
            ∙ when-so (is_pass_dart (8 * entry x + 4) && is_place J (passed_of (8 * entry x + 4))) _ (and_both (is_pass_dart (8 * entry x + 4)) _ u (rw q t))
            ∙ ap f q

        entries : (k : PlaceKind) (r c : ℕ) → T (holds J k r c) → when (counts_twice k) (sum 8 (λ i. on_pass (8 * entry_of k r c + i))) ≡ f (at k r c)
        entries pin r c t = sym (only (at pin r c) refl)
        entries missing r c t = passed (at missing r c) _ t refl
        entries centre r c t = passed (at centre r c) _ t refl
        entries PlaceKind.outside r c t = absurd t
        entries nowhere r c t = absurd t
        entries (side d) r c t = sym (only (at (side d) r c) refl)

  -- the starts are the spots of the chosen pins
  pub start-at : (r c : ℕ) → r < 40 → c < 40 → is_start J (spot 1 r c) ≡ is_chosen J r c
  unfolding is_start
  start-at r c a b =
      both_ways _ (is_chosen J r c)
      (λ t. rw (row, column) at (and_right (in_grid x) chosen (and_right (eqb (spot 1 r c % 8) 1) (in_grid x && chosen) t)))
      (λ t. and_both (eqb (spot 1 r c % 8) 1) (in_grid x && chosen) (subst (λ (i : ℕ). T (eqb i 1)) at-kind tt)
      (and_both (in_grid x) chosen (cell-grid x r c at-cell b a) (rw (row, column) t)))
    where
      x : ℕ
      x = spot 1 r c / 8

      chosen : Bool
      chosen = is_chosen J (row_of x) (column_of x)

      at-cell : x ≡ 41 + 40 * r + c
      at-cell = omega arith

      at-kind : 1 ≡ spot 1 r c % 8
      at-kind = omega arith

      row : row_of x ≡ r
      row = cell_row x r c at-cell b

      column : column_of x ≡ c
      column = cell-column x r c at-cell b

  start-spot : (u : ℕ) → T (is_start J u) → T (is_chosen J (row_of (u / 8)) (column_of (u / 8))) × (u ≡ spot 1 (row_of (u / 8)) (column_of (u / 8)))
  unfolding is_start
  start-spot u t =
      let x = u / 8 in
      let chosen = is_chosen J (row_of x) (column_of x) in
      let v : T (in_grid x && chosen) = and_right (eqb (u % 8) 1) (in_grid x && chosen) t in (
        and_right (in_grid x) chosen v,
        omega (arith, grid-cell x (and_left (in_grid x) chosen v), eqb→eq (u % 8) 1 (and_left (eqb (u % 8) 1) (in_grid x && chosen) t)),
      )

  -- what each chosen pin has by its spot
  module _ (f : ℕ → ℕ) where
    abbrev on_start : ℕ → ℕ
    on_start u = when (is_start J u) (f u)

    pub sum-starts : sum spots on_start ≡ total (places J) (λ x. when (is_pin_kind x) (f (exit x)))
    unfolding entry_of exit_of counts_twice
    sum-starts =
        sum-spots J fits on_start found
        ∙ places-cong J _ (λ x. when (is_pin_kind x) (f (exit x))) (λ x t. by x.kind x.row x.column t)
      where
        found : (u : ℕ) → u < spots → 0 < on_start u → IsSpot J u
        found u l p =
            let (t, e) = start-spot u (when-some (is_start J u) (f u) p).0 in
            (at pin (row_of (u / 8)) (column_of (u / 8)), t, inr e)

        none-at : (u : ℕ) → u % 8 ≢ 1 → on_start u ≡ 0
        none-at u n = when-none (is_start J u) (f u) (λ t. absurd (n (omega (arith, (start-spot u t).1))))

        by : (k : PlaceKind) (r c : ℕ) → T (holds J k r c)
            → on_start (exit_of k r c) + when (counts_twice k) (on_start (entry_of k r c)) ≡ when (is_pin_kind (at k r c)) (f (exit_of k r c))
        by pin r c t =
            let (a, b) = held-grid J fits pin r c t in
            omega (arith, when-so (is_start J (spot 1 r c)) (f (spot 1 r c)) (rw (start-at r c a b) t))
        by missing r c t =
            let (a, b) = held-grid J fits missing r c t in
            omega (
              arith,
              when-none (is_start J (spot 1 r c)) (f (spot 1 r c)) (λ u. absurd (missing-or-chosen J r c t (rw (start-at r c a b) at u))),
              none-at (spot 0 r c) (omega arith),
            )
        by centre r c t = omega (arith, none-at (spot 7 r c) (omega arith), none-at (spot 6 r c) (omega arith))
        by PlaceKind.outside r c t = absurd t
        by nowhere r c t = absurd t
        by (side north) r c t = omega (arith, none-at (spot 2 r c) (omega arith))
        by (side east) r c t = omega (arith, none-at (spot 3 r c) (omega arith))
        by (side south) r c t = omega (arith, none-at (spot 4 r c) (omega arith))
        by (side west) r c t = omega (arith, none-at (spot 5 r c) (omega arith))
