-- What goes out of a spot and comes into it, slot by slot. Round n, e, s, w the five links carry all of it; a missing pin and a centre have what comes on
-- their entry, what leaves on their exit, and the dart between. All of it follows from the rows of the table. Assumes nothing.
use Rattle.std.specs.Prelude.{◌≡◌, Bool, not, ◌&&◌, ℕ, ◌+◌, ◌*◌, ◌/◌, ◌%◌, ◌<◌, get_or}
use Rattle.std.proofs.Common.{sym, ◌∙◌}
use Rattle.std.proofs.Math.Path.{ap, subst}
use native.Mathlib.Omega.{arith}
use Rattle.std.proofs.Math.Dec.{T, eqb, eqb→eq}
use Rattle.sums.specs.Counting.{sum}
use Rattle.sums.specs.Tests.{and_left, and_right}
use Rattle.sums.specs.Sums.{sum-cong}
use Rattle.flow.specs.Balance.{back, out}
use Rattle.flow.specs.Slots.{out-slots}
use Rattle.model.specs.Job.{Job}
use Rattle.model.specs.Links.{north_side, link, Step, turn}
use Rattle.model.specs.Record.{kinds}
use Rattle.channel.specs.Map.{turns, links, owners, signs, codes, turn_of, kind_of, owner_of, sign_of, code_of, back_row, dart_of, idle}
use Rattle.channel.specs.Map.{spots, darts, in_grid, row_of, column_of, ahead, rev, owner_cell, step_of, carries, is_stored, is_passage, is_link_dart, is_pass_dart}
use Rattle.sums.specs.Tests.{below, below_at}
use Rattle.channel.specs.Map.Back.{rev<, rev-over, link-stored}
use Rattle.channel.specs.Map.Network.{net}
use Rattle.channel.specs.Map.Carry.{idle-link, idle-pass, back-link, back-idle}

-- ---- rows

-- two rows with the same link in the same direction
twin : ℕ → ℕ → Bool
twin i j = eqb (kind_of i) (kind_of j) && (eqb (owner_of i) (owner_of j) && eqb (sign_of i) (sign_of j))

-- a row whose link is that of the row j, and whose way back carries the link's load
mirrors : ℕ → ℕ → Bool
mirrors i j = twin i j && (is_stored (code_of i) && carries (code_of (back_row i)))

-- a row whose darts are their own ways back
still : ℕ → Bool
still i = idle i && eqb (turn_of i) 2688

module _ (d e : ℕ) (q : e / 64 ≡ d / 64) (t : T (twin (e % 64) (d % 64))) where
  abbrev kinds? : Bool
  kinds? = eqb (kind_of (e % 64)) (kind_of (d % 64))

  abbrev owners? : Bool
  owners? = eqb (owner_of (e % 64)) (owner_of (d % 64))

  abbrev signs? : Bool
  signs? = eqb (sign_of (e % 64)) (sign_of (d % 64))

  twin-kind : kind_of (e % 64) ≡ kind_of (d % 64)
  unfolding twin
  twin-kind = eqb→eq _ _ (and_left kinds? (owners? && signs?) t)

  twin-sign : sign_of (e % 64) ≡ sign_of (d % 64)
  unfolding twin
  twin-sign = eqb→eq _ _ (and_right owners? signs? (and_right kinds? (owners? && signs?) t))

  twin-owner : owner_cell e ≡ owner_cell d
  unfolding twin owner_cell
  twin-owner =
      omega (arith, eqb→eq (owner_of (e % 64)) (owner_of (d % 64)) (and_left owners? signs? (and_right kinds? (owners? && signs?) t)))

  twin-step : step_of e ≡ step_of d
  unfolding step_of
  twin-step =
      λ i. record {
        link = link (get_or kinds (twin-kind i) north_side) (row_of (twin-owner i)) (column_of (twin-owner i));
        forth = eqb (twin-sign i) 0;
      }

-- ---- loads that are only where something may be

pub record Quiet (g : ℕ → ℕ) : Type 0 where
  pub none : (d : ℕ) → d < darts → T (not (is_link_dart d)) → T (not (is_pass_dart d)) → g d ≡ 0

module _ (g : ℕ → ℕ) (quiet : Quiet g) where
  idle-none : (d : ℕ) → d < darts → T (idle (d % 64)) → g d ≡ 0
  idle-none d l t = quiet.none d l (idle-link d t) (idle-pass d t)

  idle-at : (d i : ℕ) → d % 64 ≡ i → T (idle i) → d < darts → g d ≡ 0
  idle-at d i e t l = idle-none d l (subst (λ (x : ℕ). T (idle x)) (sym e) t)

  -- a dart that is its own way back
  still-at : (d i : ℕ) → d % 64 ≡ i → T (still i) → d < darts → g (rev d) ≡ 0
  unfolding still ahead
  still-at d i e t l =
      let q : rev d ≡ d =
      rev-over d d (omega (arith, ap turn_of e, eqb→eq (turn_of i) 2688 (and_right (idle i) (eqb (turn_of i) 2688) t))) l in
      ap g q ∙ idle-at d i e (and_left (idle i) (eqb (turn_of i) 2688) t) l

  -- a way back that carries nothing
  quiet_at : (d i : ℕ) → d % 64 ≡ i → T (idle (back_row i)) → d < darts → T (is_link_dart d) → g (rev d) ≡ 0
  quiet_at d i e t l k =
      let (s, o) = link-stored d k in
      idle-none (rev d) (rev< d l) (back-idle d l s o (subst (λ (x : ℕ). T (idle (back_row x))) (sym e) t))

  -- a way back that is the dart of the step turned round
  mirror-at : (d e i j : ℕ) → e % 64 ≡ i → d % 64 ≡ j → e / 64 ≡ d / 64 → T (mirrors i j) → e < darts → T (is_link_dart d)
      → g (rev e) ≡ g (dart_of (turn (step_of d)))
  unfolding mirrors
  mirror-at d e i j p q r t l k =
      let u : T (twin (e % 64) (d % 64)) =
      subst (λ (x : ℕ). T (twin x (d % 64))) (sym p)
      (subst (λ (x : ℕ). T (twin i x)) (sym q) (and_left (twin i j) (is_stored (code_of i) && carries (code_of (back_row i))) t)) in
      let v : T (is_stored (code_of i) && carries (code_of (back_row i))) = and_right (twin i j) (is_stored (code_of i) && carries (code_of (back_row i))) t in
      let s : T (is_stored (code_of (e % 64))) =
      subst (λ (x : ℕ). T (is_stored (code_of x))) (sym p) (and_left (is_stored (code_of i)) (carries (code_of (back_row i))) v) in
      let c : T (carries (code_of (back_row (e % 64)))) =
      subst (λ (x : ℕ). T (carries (code_of (back_row x)))) (sym p) (and_right (is_stored (code_of i)) (carries (code_of (back_row i))) v) in
      let o : T (in_grid (owner_cell e)) = subst (λ (x : ℕ). T (in_grid x)) (sym (twin-owner d e r u)) (link-stored d k).1 in
      ap g ((back-link e l s o c).1 ∙ ap (λ (x : Step). dart_of (turn x)) (twin-step d e r u))

  -- ---- spots

  module _ (J : Job) where
    out-eight : (f : ℕ → ℕ) (u : ℕ) → u < spots → out (net J) f u ≡ sum 8 (λ k. f (8 * u + k))
    unfolding net darts spots
    out-eight f u l = out-slots (net J) 8 (λ i. 105024) (λ d i. d / 8) f u l ∙ sum-cong 8 _ _ (λ k h. ap f (omega arith))

    -- n, e, s, w: the kind is 2 + j
    module _ (u j : ℕ) (m : u % 8 ≡ 2 + j) (b : j < 4) (low : u < spots) (slots : (k : ℕ) → k < 5 → T (is_link_dart (8 * u + k))) where
      row : (k : ℕ) → k < 8 → (8 * u + k) % 64 ≡ 16 + 8 * j + k
      row k l = omega arith

      test : (k : ℕ) (p : ℕ → Bool) → T (below 4 (λ i. p (16 + 8 * i + k))) → T (p (16 + 8 * j + k))
      test k p t = below_at 4 (λ i. p (16 + 8 * i + k)) t j b

      pub side-out : out (net J) g u ≡ sum 5 (λ k. g (8 * u + k))
      unfolding sum below code_of codes carries is_passage idle darts spots
      side-out =
          omega (
            arith,
            out-eight g u low,
            idle-at (8 * u + 5) _ (row 5 (omega arith)) (test 5 idle tt) (omega arith),
            idle-at (8 * u + 6) _ (row 6 (omega arith)) (test 6 idle tt) (omega arith),
            idle-at (8 * u + 7) _ (row 7 (omega arith)) (test 7 idle tt) (omega arith),
          )

      mirror : (k h : ℕ) → k < 8 → h < 5 → T (below 4 (λ i. mirrors (16 + 8 * i + k) (16 + 8 * i + h)))
          → g (rev (8 * u + k)) ≡ g (dart_of (turn (step_of (8 * u + h))))
      unfolding darts spots
      mirror k h l n t =
          mirror-at (8 * u + h) (8 * u + k) _ _ (row k l) (row h (omega arith)) (omega arith) (below_at 4 (λ i. mirrors (16 + 8 * i + k) (16 + 8 * i + h)) t j b)
          (omega arith) (slots h n)

      pub side-back : out (net J) (back (net J) g) u ≡ sum 5 (λ k. g (dart_of (turn (step_of (8 * u + k)))))
      unfolding net sum below mirrors twin still back_row turn_of turns kind_of links owner_of owners sign_of signs code_of codes carries is_stored is_passage idle darts spots
      side-back =
          omega (
            arith,
            out-eight (back (net J) g) u low,
            mirror 0 0 (omega arith) (omega arith) tt,
            mirror 1 1 (omega arith) (omega arith) tt,
            mirror 3 3 (omega arith) (omega arith) tt,
            mirror 5 2 (omega arith) (omega arith) tt,
            mirror 7 4 (omega arith) (omega arith) tt,
            quiet_at (8 * u + 2) _ (row 2 (omega arith)) (test 2 (λ i. idle (back_row i)) tt) (omega arith) (slots 2 (omega arith)),
            quiet_at (8 * u + 4) _ (row 4 (omega arith)) (test 4 (λ i. idle (back_row i)) tt) (omega arith) (slots 4 (omega arith)),
            still-at (8 * u + 6) _ (row 6 (omega arith)) (test 6 still tt) (omega arith),
          )

    -- a missing pin or a centre, of the kinds 6 j and 6 j + 1: u is its entry and u + 1 its exit
    module _ (u j : ℕ) (m : u % 8 ≡ 6 * j) (b : j < 2) (low : u + 1 < spots) (slots : (k : ℕ) → k < 4 → T (is_link_dart (8 * (u + 1) + k))) where
      entry_row : (k : ℕ) → k < 8 → (8 * u + k) % 64 ≡ 48 * j + k
      entry_row k l = omega arith

      exit-row : (k : ℕ) → k < 8 → (8 * (u + 1) + k) % 64 ≡ 48 * j + (8 + k)
      exit-row k l = omega arith

      pair-test : (k : ℕ) (p : ℕ → Bool) → T (below 2 (λ i. p (48 * i + k))) → T (p (48 * j + k))
      pair-test k p t = below_at 2 (λ i. p (48 * i + k)) t j b

      entry-idle : (k : ℕ) → k < 8 → T (below 2 (λ i. idle (48 * i + k))) → g (8 * u + k) ≡ 0
      unfolding darts spots
      entry-idle k l t = idle-at (8 * u + k) _ (entry_row k l) (pair-test k idle t) (omega arith)

      exit-idle : (k : ℕ) → k < 8 → T (below 2 (λ i. idle (48 * i + (8 + k)))) → g (8 * (u + 1) + k) ≡ 0
      unfolding darts spots
      exit-idle k l t = idle-at (8 * (u + 1) + k) _ (exit-row k l) (pair-test (8 + k) idle t) (omega arith)

      entry-still : (k : ℕ) → k < 8 → T (below 2 (λ i. still (48 * i + k))) → g (rev (8 * u + k)) ≡ 0
      unfolding darts spots
      entry-still k l t = still-at (8 * u + k) _ (entry_row k l) (pair-test k still t) (omega arith)

      exit-still : (k : ℕ) → k < 8 → T (below 2 (λ i. still (48 * i + (8 + k)))) → g (rev (8 * (u + 1) + k)) ≡ 0
      unfolding darts spots
      exit-still k l t = still-at (8 * (u + 1) + k) _ (exit-row k l) (pair-test (8 + k) still t) (omega arith)

      -- nothing goes straight out of the exit, nor straight in
      pub record NoStraight : Type 0 where
        pub gone : g (8 * (u + 1) + 4) ≡ 0
        pub gone_back : g (rev (8 * (u + 1) + 4)) ≡ 0
        pub come : g (8 * u + 5) ≡ 0
        pub come_back : g (rev (8 * u + 5)) ≡ 0

      -- a centre has no such darts
      pub centre-straight : j ≡ 1 → NoStraight
      unfolding code_of codes carries is_passage idle still turn_of turns darts spots
      centre-straight e =
          record {
            gone = idle-at (8 * (u + 1) + 4) 60 (exit-row 4 (omega arith) ∙ omega arith) tt (omega arith);
            gone_back = still-at (8 * (u + 1) + 4) 60 (exit-row 4 (omega arith) ∙ omega arith) tt (omega arith);
            come = idle-at (8 * u + 5) 53 (entry_row 5 (omega arith) ∙ omega arith) tt (omega arith);
            come_back = still-at (8 * u + 5) 53 (entry_row 5 (omega arith) ∙ omega arith) tt (omega arith);
          }

      pub exit_out : NoStraight → out (net J) g (u + 1) ≡ sum 4 (λ k. g (8 * (u + 1) + k))
      unfolding sum below code_of codes carries is_passage idle
      exit_out z =
          omega (
            arith,
            out-eight g (u + 1) low,
            z.gone,
            exit-idle 5 (omega arith) tt,
            exit-idle 6 (omega arith) tt,
            exit-idle 7 (omega arith) tt,
          )

      -- the five slots of a pin
      pub pin-out : out (net J) g (u + 1) ≡ sum 5 (λ k. g (8 * (u + 1) + k))
      unfolding sum below code_of codes carries is_passage idle
      pin-out =
          omega (
            arith,
            out-eight g (u + 1) low,
            exit-idle 5 (omega arith) tt,
            exit-idle 6 (omega arith) tt,
            exit-idle 7 (omega arith) tt,
          )

      pub entry-out : NoStraight → out (net J) g u ≡ g (8 * u + 4)
      unfolding sum below code_of codes carries is_passage idle
      entry-out z =
          omega (
            arith,
            out-eight g u (omega arith),
            entry-idle 0 (omega arith) tt,
            entry-idle 1 (omega arith) tt,
            entry-idle 2 (omega arith) tt,
            entry-idle 3 (omega arith) tt,
            z.come,
            entry-idle 6 (omega arith) tt,
            entry-idle 7 (omega arith) tt,
          )

      -- the dart between the two, and its way back
      between : rev (8 * u + 4) ≡ 8 * (u + 1) + 5
      unfolding below ahead turn_of turns darts spots
      between =
          rev-over (8 * u + 4) (8 * (u + 1) + 5)
          (omega (arith, ap turn_of (entry_row 4 (omega arith)), eqb→eq (turn_of (48 * j + 4)) 2697 (pair-test 4 (λ i. eqb (turn_of i) 2697) tt))) (omega arith)

      between-back : rev (8 * (u + 1) + 5) ≡ 8 * u + 4
      unfolding below ahead turn_of turns darts spots
      between-back =
          rev-over (8 * (u + 1) + 5) (8 * u + 4)
          (omega (arith, ap turn_of (exit-row 5 (omega arith)), eqb→eq (turn_of (48 * j + 13)) 2679 (pair-test 13 (λ i. eqb (turn_of i) 2679) tt))) (omega arith)

      exit-quiet : (k : ℕ) → k < 4 → T (below 2 (λ i. idle (back_row (48 * i + (8 + k))))) → g (rev (8 * (u + 1) + k)) ≡ 0
      unfolding darts spots
      exit-quiet k l t =
          quiet_at (8 * (u + 1) + k) _ (exit-row k (omega arith)) (pair-test (8 + k) (λ i. idle (back_row i)) t) (omega arith) (slots k l)

      entry-mirror : (k : ℕ) → k < 4 → T (below 2 (λ i. mirrors (48 * i + k) (48 * i + (8 + k))))
          → g (rev (8 * u + k)) ≡ g (dart_of (turn (step_of (8 * (u + 1) + k))))
      unfolding darts spots
      entry-mirror k l t =
          mirror-at (8 * (u + 1) + k) (8 * u + k) _ _ (entry_row k (omega arith)) (exit-row k (omega arith)) (omega arith)
          (below_at 2 (λ i. mirrors (48 * i + k) (48 * i + (8 + k))) t j b) (omega arith) (slots k l)

      pub pin-back : out (net J) (back (net J) g) (u + 1) ≡ g (8 * u + 4) + g (rev (8 * (u + 1) + 4))
      unfolding net sum below still back_row turn_of turns code_of codes carries is_passage idle
      pin-back =
          omega (
            arith,
            out-eight (back (net J) g) (u + 1) low,
            exit-quiet 0 (omega arith) tt,
            exit-quiet 1 (omega arith) tt,
            exit-quiet 2 (omega arith) tt,
            exit-quiet 3 (omega arith) tt,
            ap g between-back,
            exit-still 6 (omega arith) tt,
            exit-still 7 (omega arith) tt,
          )

      pub exit-back : NoStraight → out (net J) (back (net J) g) (u + 1) ≡ g (8 * u + 4)
      exit-back z = omega (arith, pin-back, z.gone_back)

      pub entry-back : NoStraight → out (net J) (back (net J) g) u ≡ sum 4 (λ k. g (dart_of (turn (step_of (8 * (u + 1) + k)))))
      unfolding net sum below mirrors twin still back_row turn_of turns kind_of links owner_of owners sign_of signs code_of codes carries is_stored is_passage idle
      entry-back z =
          omega (
            arith,
            out-eight (back (net J) g) u (omega arith),
            entry-mirror 0 (omega arith) tt,
            entry-mirror 1 (omega arith) tt,
            entry-mirror 2 (omega arith) tt,
            entry-mirror 3 (omega arith) tt,
            ap g between,
            exit-idle 5 (omega arith) tt,
            z.come_back,
            entry-still 6 (omega arith) tt,
            entry-still 7 (omega arith) tt,
          )
