-- The moves of the search, by code: what `moves` comes to for each kind of dart, stated over the tests that the code makes. What goes along the way back
-- is what goes against the dart's link, or what passes its place, or nothing. Assumes nothing.
use Rattle.std.specs.Prelude.{◌≡◌, ◌≢◌, ◌⊎◌, Bool, ◌&&◌, ◌||◌, List, ℕ, ◌+◌, ◌/◌, ◌%◌, ◌≤◌, ◌<◌}
use Rattle.std.proofs.Math.Path.{refl, sym, ap, ap₂}
use Rattle.std.proofs.Common.{subst, ◌∙◌, inl, inr, zero-le, eq-eqb, ne_eqb, lt-ltb, le-ltb, ltb→lt, lt→ltb}
use Rattle.std.proofs.Math.Bool.{true, false, not}
use native.Mathlib.Omega.{arith}
use Rattle.std.proofs.Math.Dec.{T, eqb, eqb→eq, ltb}
use Rattle.sums.specs.Counting.{when}
use Rattle.sums.specs.Tests.{so, so-not, both_ways, and_left, and_both, below, below_at}
use Rattle.model.specs.Job.{Job, is_open, is_missing, centre_limit, tile_d, extra_limit}
use Rattle.model.specs.Links.{missing, centre, at, Step, turn}
use Rattle.model.specs.Loads.{arrivals}
use Rattle.model.specs.Record.{load}
use Rattle.channel.specs.Map.{turns, owners, codes, turn_of, kind_of, owner_of, sign_of, code_of, back_row, back_cell, back_code, reaches, owner_mark}
use Rattle.channel.specs.Map.{darts, in_grid, row_of, column_of, rev, owner_cell, step_of, carries, is_passage, is_link_dart, is_pass_dart, cap, free, view, opposed, moves}
use Rattle.channel.specs.Map.Bools.{if-so, is-on, is-left, and-true, and-false, and-swap, or-true, or-false}
use Rattle.channel.specs.Map.Packed.{not_least}
use Rattle.channel.specs.Map.Grid.{grid-bounds}
use Rattle.channel.specs.Map.Turning.{back-kind, back-code, back-owner, back-sign, Turn, over, stays, turn?}
use Rattle.channel.specs.Map.Bytes.{view-link, passed-centre, passed-missing}
use Rattle.channel.specs.Map.Codes.{own-cell}
use Rattle.channel.specs.Map.Caps.{cap-none, free-none, cap-centre, cap-missing, cap-pin, free-pin, cap-into, other-free}

-- ---- along the way back

module _ (rec : List ℕ) where
  -- a dart whose link has no owner on the grid carries nothing
  passage-owner : (i : ℕ) → i < 64 → T (is_passage (code_of i)) → owner_of i ≡ 0
  unfolding below is_passage code_of codes owner_of owners
  passage-owner i l t =
      eqb→eq _ _ (if-so (is_passage (code_of i)) (eqb (owner_of i) 0) (below_at 64 (λ i. not (is_passage (code_of i)) || eqb (owner_of i) 0) tt i l) t)

  off-pass : (d : ℕ) → in_grid (owner_cell d) ≡ false → is_pass_dart d ≡ false
  unfolding is_pass_dart owner_cell
  off-pass d e = by (is_passage (code_of (d % 64))) (passage-owner (d % 64) (omega arith))
    where
      by : (b : Bool) → (T b → owner_of (d % 64) ≡ 0) → (b && in_grid (d / 64)) ≡ false
      by true f = let q : d / 64 + owner_of (d % 64) ≡ d / 64 = omega (arith, f tt) in sym (ap in_grid q) ∙ e
      by false f = refl

  off-view : (d : ℕ) → in_grid (owner_cell d) ≡ false → view rec d ≡ 0
  unfolding view is_link_dart
  off-view d e = rw (off-pass d e, e) (by (carries (code_of (d % 64))))
    where
      by : (b : Bool) → when (b && false) (load rec (step_of d)) + 0 ≡ 0
      by true = refl
      by false = refl

  owner-back : (d r : ℕ) → r % 64 ≡ back_row (d % 64) → r / 64 + 42 ≡ d / 64 + back_cell (d % 64) → owner_cell r ≡ owner_cell d
  unfolding owner_cell
  owner-back d r e f = omega (arith, ap owner_of e, back-owner (d % 64) (omega arith))

  step_back : (d r : ℕ) → r % 64 ≡ back_row (d % 64) → r / 64 + 42 ≡ d / 64 + back_cell (d % 64) → T (not (eqb (code_of (d % 64)) 0)) → step_of r ≡ turn (step_of d)
  unfolding step_of
  step_back d r e f n =
      let k : kind_of (r % 64) ≡ kind_of (d % 64) = ap kind_of e ∙ back-kind (d % 64) (omega arith) in
      let o : owner_cell r ≡ owner_cell d = owner-back d r e f in
      let s : eqb (sign_of (r % 64)) 0 ≡ not (eqb (sign_of (d % 64)) 0) = ap (λ (x : ℕ). eqb (sign_of x) 0) e ∙ back-sign (d % 64) (omega arith) n in
      rw (k, o, s)

  code-back : (d r : ℕ) → r % 64 ≡ back_row (d % 64) → code_of (r % 64) ≡ back_code (code_of (d % 64))
  code-back d r e = ap code_of e ∙ back-code (d % 64) (omega arith)

  -- a way back that carries the load of its step
  back-link : (d c : ℕ) → d < darts → code_of (d % 64) ≡ c → T (not (eqb c 0)) → carries (back_code c) ≡ true → view rec (rev d) ≡ opposed rec d
  unfolding opposed
  back-link d c l e n t = by (rev d) (turn? d l)
    where
      by : (r : ℕ) → Turn d r → view rec r ≡ when (in_grid (owner_cell d)) (load rec (turn (step_of d)))
      by r (over f g) =
          sym (view-link rec r (ap carries (code-back d r f ∙ ap back_code e) ∙ t))
          ∙ ap₂ (λ (o : ℕ) (s : Step). when (in_grid o) (load rec s)) (owner-back d r f g) (step_back d r f g (subst (λ (x : ℕ). T (not (eqb x 0))) (sym e) n))
      by r (stays f) = off-view d f ∙ ap (λ (b : Bool). when b (load rec (turn (step_of d)))) (sym f)

  -- one that carries nothing
  none-carried : (r : ℕ) → carries (code_of (r % 64)) ≡ false → is_passage (code_of (r % 64)) ≡ false → view rec r ≡ 0
  unfolding view is_link_dart is_pass_dart
  none-carried r t p = rw (t, p)

  back_none : (d c : ℕ) → d < darts → code_of (d % 64) ≡ c → carries (back_code c) ≡ false → is_passage (back_code c) ≡ false → view rec (rev d) ≡ 0
  back_none d c l e t p = by (rev d) (turn? d l)
    where
      by : (r : ℕ) → Turn d r → view rec r ≡ 0
      by r (over f g) =
          let q : code_of (r % 64) ≡ back_code c = code-back d r f ∙ ap back_code e in
          none-carried r (ap carries q ∙ t) (ap is_passage q ∙ p)
      by r (stays f) = off-view d f

  -- ---- through a place

  pub through_centre_load : ℕ → ℕ
  through_centre_load x = when (in_grid x) (arrivals (load rec) (at centre (row_of x) (column_of x)))

  pub through_missing_load : ℕ → ℕ
  through_missing_load x = when (in_grid x) (arrivals (load rec) (at missing (row_of x) (column_of x)))

  centre-view : (d : ℕ) → code_of (d % 64) ≡ 5 → view rec d ≡ through_centre_load (d / 64)
  unfolding view is_link_dart is_pass_dart carries is_passage through_centre_load
  centre-view d e = rw (e, sym (passed-centre d e)) (omega arith)

  missing-view : (d : ℕ) → code_of (d % 64) ≡ 8 → view rec d ≡ through_missing_load (d / 64)
  unfolding view is_link_dart is_pass_dart carries is_passage through_missing_load
  missing-view d e = rw (e, sym (passed-missing d (λ q. absurd (omega arith)))) (omega arith)

  within-cell : (i : ℕ) → i < 64 → T (eqb (code_of i) 11 || eqb (code_of i) 14) → back_cell i ≡ 42
  unfolding below back_cell turn_of turns code_of codes
  within-cell i l t =
      eqb→eq _ _
      (if-so (eqb (code_of i) 11 || eqb (code_of i) 14) (eqb (back_cell i) 42)
      (below_at 64 (λ i. not (eqb (code_of i) 11 || eqb (code_of i) 14) || eqb (back_cell i) 42) tt i l) t)

  centre-back : (d : ℕ) → d < darts → code_of (d % 64) ≡ 11 → view rec (rev d) ≡ through_centre_load (d / 64)
  unfolding through_centre_load back_code
  centre-back d l e = by (rev d) (turn? d l)
    where
      by : (r : ℕ) → Turn d r → view rec r ≡ through_centre_load (d / 64)
      by r (over f g) =
          let q : code_of (r % 64) ≡ 5 = code-back d r f ∙ ap back_code e in
          let k : back_cell (d % 64) ≡ 42 = within-cell (d % 64) (omega arith) (subst (λ (x : ℕ). T (eqb x 11 || eqb x 14)) (sym e) tt) in
          let s : r / 64 ≡ d / 64 = omega arith in
          centre-view r q ∙ ap through_centre_load s
      by r (stays f) =
          off-view d f ∙ sym (ap (λ (b : Bool). when b (arrivals (load rec) (at centre (row_of (d / 64)) (column_of (d / 64)))))
          (sym (ap in_grid (own-cell d 11 e tt)) ∙ f))

  missing-back : (d : ℕ) → d < darts → code_of (d % 64) ≡ 14 → view rec (rev d) ≡ through_missing_load (d / 64)
  unfolding through_missing_load back_code
  missing-back d l e = by (rev d) (turn? d l)
    where
      by : (r : ℕ) → Turn d r → view rec r ≡ through_missing_load (d / 64)
      by r (over f g) =
          let q : code_of (r % 64) ≡ 8 = code-back d r f ∙ ap back_code e in
          let k : back_cell (d % 64) ≡ 42 = within-cell (d % 64) (omega arith) (subst (λ (x : ℕ). T (eqb x 11 || eqb x 14)) (sym e) tt) in
          let s : r / 64 ≡ d / 64 = omega arith in
          missing-view r q ∙ ap through_missing_load s
      by r (stays f) =
          off-view d f ∙ sym (ap (λ (b : Bool). when b (arrivals (load rec) (at missing (row_of (d / 64)) (column_of (d / 64)))))
          (sym (ap in_grid (own-cell d 14 e tt)) ∙ f))

  -- whether any wire passes
  pub through_centre : ℕ → Bool
  through_centre x = ltb 0 (through_centre_load x)

  pub through_missing : ℕ → Bool
  through_missing x = ltb 0 (through_missing_load x)

-- ---- moves

none_below : (n : ℕ) → ltb n 0 ≡ false
none_below n = le-ltb n 0 (omega arith)

module _ (J : Job) (rec : List ℕ) (d : ℕ) where
  room-moves : free J d ≡ false → view rec (rev d) ≡ opposed rec d → carries (code_of (d % 64)) ≡ true
      → moves J rec d ≡ (ltb (when (in_grid (owner_cell d)) (load rec (step_of d))) (cap J d) || ltb 0 (opposed rec d))
  unfolding moves
  room-moves f v t = rw (f, v, sym (view-link rec d t))
      (ap (λ (b : Bool). ltb (when (in_grid (owner_cell d)) (load rec (step_of d))) (cap J d) || b) (or-false (ltb 0 (opposed rec d))))

  free-moves : cap J d ≡ 0 → view rec (rev d) ≡ 0 → moves J rec d ≡ (free J d && eqb (opposed rec d) 0)
  unfolding moves
  free-moves e v = rw (e, v, none_below (view rec d))

  back-moves : cap J d ≡ 0 → free J d ≡ false → moves J rec d ≡ ltb 0 (view rec (rev d))
  unfolding moves
  back-moves e f = rw (e, f, none_below (view rec d)) (or-false (ltb 0 (view rec (rev d))))

  pass-moves : view rec (rev d) ≡ 0 → free J d ≡ false → moves J rec d ≡ ltb (view rec d) (cap J d)
  unfolding moves
  pass-moves v f = rw (v, f) (or-false (ltb (view rec d) (cap J d)))

  pin-moves : view rec (rev d) ≡ 0 → carries (code_of (d % 64)) ≡ true
      → moves J rec d ≡ (ltb (when (in_grid (owner_cell d)) (load rec (step_of d))) (cap J d) || (free J d && eqb (opposed rec d) 0))
  unfolding moves
  pin-moves v t = rw (v, sym (view-link rec d t))

-- ---- the answers of a program

-- a wire on one-wire links
under_one : (n : ℕ) → ltb n 1 ≡ eqb n 0
under_one n = both_ways (ltb n 1) (eqb n 0) (λ t. so (eq-eqb n 0 (omega (arith, ltb→lt n 1 t)))) (λ t. lt→ltb n 1 (omega (arith, eqb→eq n 0 t)))

module _ (J : Job) (rec : List ℕ) (d : ℕ) (l : d < darts) where
  -- sides, corners and direct exits
  abbrev Plain : Type 0
  Plain = (code_of (d % 64) ≡ 1) ⊎ ((code_of (d % 64) ≡ 2) ⊎ (code_of (d % 64) ≡ 15))

  pub plain-moves : Plain
      → moves J rec d ≡ (ltb (when (in_grid (owner_cell d)) (load rec (step_of d))) (cap J d) || ltb 0 (opposed rec d))
  unfolding carries back_code
  plain-moves (inl e) =
      room-moves J rec d (free-none J d (omega arith) (omega arith) (omega arith) (omega arith)) (back-link rec d 1 l e tt refl) (ap carries e)
  plain-moves (inr (inl e)) =
      room-moves J rec d (free-none J d (omega arith) (omega arith) (omega arith) (omega arith)) (back-link rec d 2 l e tt refl) (ap carries e)
  plain-moves (inr (inr e)) =
      room-moves J rec d (free-none J d (omega arith) (omega arith) (omega arith) (omega arith)) (back-link rec d 15 l e tt refl) (ap carries e)

  pub plain_back : Plain → (a : ℕ) → a ≡ opposed rec d → 0 < a → true ≡ moves J rec d
  plain_back w a e p =
      let q : ltb 0 (opposed rec d) ≡ true = lt-ltb 0 (opposed rec d) (omega (arith, e)) in
      rw (plain-moves w, q) (sym (or-true (ltb (when (in_grid (owner_cell d)) (load rec (step_of d))) (cap J d))))

  pub plain-room : Plain → (a n m : ℕ) → a ≡ opposed rec d → a ≤ 0
      → n ≡ when (in_grid (owner_cell d)) (load rec (step_of d)) → m ≡ cap J d → ltb n m ≡ moves J rec d
  plain-room w a n m e p f g =
      let q : ltb 0 (opposed rec d) ≡ false = le-ltb 0 (opposed rec d) (omega (arith, e)) in
      rw (plain-moves w, q, f, g) (sym (or-false (ltb (when (in_grid (owner_cell d)) (load rec (step_of d))) (cap J d))))

  -- to and from a centre, and to a missing pin
  pub spoke-moves : (code_of (d % 64) ≡ 3) ⊎ (code_of (d % 64) ≡ 4) → moves J rec d ≡ (free J d && eqb (opposed rec d) 0)
  unfolding carries is_passage back_code
  spoke-moves (inl e) =
      free-moves J rec d (cap-none J d (omega arith) (omega arith) (omega arith) (omega arith) (omega arith) (omega arith)) (back_none rec d 3 l e refl refl)
  spoke-moves (inr e) =
      free-moves J rec d (cap-none J d (omega arith) (omega arith) (omega arith) (omega arith) (omega arith) (omega arith)) (back_none rec d 4 l e refl refl)

  pub into-moves : code_of (d % 64) ≡ 6 → moves J rec d ≡ (free J d && eqb (opposed rec d) 0)
  unfolding carries is_passage back_code
  into-moves e = free-moves J rec d (cap-into J d e) (back_none rec d 6 l e refl refl)

  pub into-shut : code_of (d % 64) ≡ 6 → (b : Bool) → b ≡ free J d → b ≡ false → false ≡ moves J rec d
  into-shut e b f p = rw (into-moves e, sym f ∙ p)

  pub into-open : code_of (d % 64) ≡ 6 → (b : Bool) (a : ℕ) → b ≡ free J d → b ≡ true → a ≡ opposed rec d → eqb a 0 ≡ moves J rec d
  into-open e b a f p q = rw (into-moves e, sym f ∙ p, q)

  -- from a pin
  from-pin : code_of (d % 64) ≡ 7
      → moves J rec d
      ≡ (ltb (when (in_grid (owner_cell d)) (load rec (step_of d))) (when (eqb (owner_mark J d) 1 && reaches J d) 1)
      || ((eqb (owner_mark J d) 2 && reaches J d) && eqb (opposed rec d) 0))
  unfolding carries is_passage back_code
  from-pin e =
      pin-moves J rec d (back_none rec d 7 l e refl refl) (ap carries e)
      ∙ ap₂ (λ (n : ℕ) (b : Bool). ltb (when (in_grid (owner_cell d)) (load rec (step_of d))) n || (b && eqb (opposed rec d) 0)) (cap-pin J d e)
      (free-pin J d (inr e))

  pub chosen-moves : code_of (d % 64) ≡ 7 → (m n : ℕ) (w : Bool) → m ≡ owner_mark J d → m ≡ 1 → n ≡ when (in_grid (owner_cell d)) (load rec (step_of d))
      → w ≡ reaches J d
      → (eqb n 0 && w) ≡ moves J rec d
  chosen-moves e m n w f p g h =
      let k : owner_mark J d ≡ 1 = sym f ∙ p in
      sym (from-pin e ∙ ap (λ (x : ℕ). ltb (when (in_grid (owner_cell d)) (load rec (step_of d))) (when (eqb x 1 && reaches J d) 1) ||
      ((eqb x 2 && reaches J d) && eqb (opposed rec d) 0)) k
      ∙ ap₂ (λ (x : ℕ) (b : Bool). ltb x (when b 1) || false) (sym g) (sym h) ∙ by w)
    where
      by : (b : Bool) → (ltb n (when b 1) || false) ≡ (eqb n 0 && b)
      by true = or-false (ltb n 1) ∙ under_one n ∙ sym (and-true (eqb n 0))
      by false = or-false (ltb n 0) ∙ none_below n ∙ sym (and-false (eqb n 0))

  pub missing-moves : code_of (d % 64) ≡ 7 → (m a : ℕ) (w : Bool) → m ≡ owner_mark J d → m ≡ 2 → a ≡ opposed rec d → w ≡ reaches J d
      → (eqb a 0 && w) ≡ moves J rec d
  missing-moves e m a w f p g h =
      let k : owner_mark J d ≡ 2 = sym f ∙ p in
      sym (from-pin e ∙ ap (λ (x : ℕ). ltb (when (in_grid (owner_cell d)) (load rec (step_of d))) (when (eqb x 1 && reaches J d) 1) ||
      ((eqb x 2 && reaches J d) && eqb (opposed rec d) 0)) k
      ∙ ap (λ (b : Bool). b || (reaches J d && eqb (opposed rec d) 0)) (none_below (when (in_grid (owner_cell d)) (load rec (step_of d))))
      ∙ ap₂ (λ (b : Bool) (x : ℕ). b && eqb x 0) (sym h) (sym g) ∙ and-swap w (eqb a 0))

  pub idle-moves : code_of (d % 64) ≡ 7 → (m : ℕ) → m ≡ owner_mark J d → m ≢ 1 → m ≢ 2 → false ≡ moves J rec d
  idle-moves e m f p q =
      let a : eqb (owner_mark J d) 1 ≡ false = ne_eqb _ 1 (λ z. p (f ∙ z)) in
      let b : eqb (owner_mark J d) 2 ≡ false = ne_eqb _ 2 (λ z. q (f ∙ z)) in
      rw (from-pin e, a, b, none_below (when (in_grid (owner_cell d)) (load rec (step_of d))))

  -- through a centre and through a missing pin
  centre-pass : code_of (d % 64) ≡ 5
      → moves J rec d ≡ ltb (through_centre_load rec (d / 64))
      (when (in_grid (d / 64) && is_open J (row_of (d / 64)) (column_of (d / 64))) (centre_limit J.O (tile_d J (row_of (d / 64)) (column_of (d / 64)))))
  unfolding carries is_passage back_code
  centre-pass e =
      pass-moves J rec d (back_none rec d 5 l e refl refl) (other-free J d (ap carries e)) ∙ ap₂ ltb (centre-view rec d e) (cap-centre J d e)

  missing-pass : code_of (d % 64) ≡ 8
      → moves J rec d ≡ ltb (through_missing_load rec (d / 64)) (when (in_grid (d / 64) && is_missing J (row_of (d / 64)) (column_of (d / 64))) (extra_limit J))
  unfolding carries is_passage back_code
  missing-pass e =
      pass-moves J rec d (back_none rec d 8 l e refl refl) (other-free J d (ap carries e)) ∙ ap₂ ltb (missing-view rec d e) (cap-missing J d e)

  pub centre-shut : code_of (d % 64) ≡ 5 → (in_grid (d / 64) && is_open J (row_of (d / 64)) (column_of (d / 64))) ≡ false → false ≡ moves J rec d
  centre-shut e f = rw (centre-pass e, f) (sym (none_below (through_centre_load rec (d / 64))))

  pub centre-open : code_of (d % 64) ≡ 5 → (in_grid (d / 64) && is_open J (row_of (d / 64)) (column_of (d / 64))) ≡ true → (n m : ℕ)
      → n ≡ arrivals (load rec) (at centre (row_of (d / 64)) (column_of (d / 64))) → m ≡ centre_limit J.O (tile_d J (row_of (d / 64)) (column_of (d / 64))) → ltb n m ≡ moves J rec d
  unfolding through_centre_load
  centre-open e f n m p q =
      let g : in_grid (d / 64) ≡ true = is-left (in_grid (d / 64)) _ f in
      sym (centre-pass e
      ∙ ap₂ (λ (a b : Bool). ltb (when a (arrivals (load rec) (at centre (row_of (d / 64)) (column_of (d / 64))))) (when b (centre_limit J.O (tile_d J (row_of (d / 64)) (column_of (d / 64)))))) g f
      ∙ ap₂ ltb (sym p) (sym q))

  pub missing-shut : code_of (d % 64) ≡ 8 → (in_grid (d / 64) && is_missing J (row_of (d / 64)) (column_of (d / 64))) ≡ false → false ≡ moves J rec d
  missing-shut e f = rw (missing-pass e, f) (sym (none_below (through_missing_load rec (d / 64))))

  pub missing-open : code_of (d % 64) ≡ 8 → (in_grid (d / 64) && is_missing J (row_of (d / 64)) (column_of (d / 64))) ≡ true → (n m : ℕ)
      → n ≡ arrivals (load rec) (at missing (row_of (d / 64)) (column_of (d / 64))) → m ≡ extra_limit J → ltb n m ≡ moves J rec d
  unfolding through_missing_load
  missing-open e f n m p q =
      let g : in_grid (d / 64) ≡ true = is-left (in_grid (d / 64)) _ f in
      sym (missing-pass e
      ∙ ap₂ (λ (a b : Bool). ltb (when a (arrivals (load rec) (at missing (row_of (d / 64)) (column_of (d / 64))))) (when b (extra_limit J))) g f
      ∙ ap₂ ltb (sym p) (sym q))

  -- ways back
  high-moves : 8 < code_of (d % 64) → code_of (d % 64) < 15 → moves J rec d ≡ ltb 0 (view rec (rev d))
  high-moves m h =
      back-moves J rec d (cap-none J d (omega arith) (omega arith) (omega arith) (omega arith) (omega arith) (omega arith))
      (free-none J d (omega arith) (omega arith) (omega arith) (omega arith))

  pub centre-back-moves : code_of (d % 64) ≡ 11 → (b : Bool) → b ≡ through_centre rec (d / 64) → b ≡ moves J rec d
  unfolding through_centre
  centre-back-moves e b f = f ∙ sym (high-moves (omega arith) (omega arith) ∙ ap (ltb 0) (centre-back rec d l e))

  pub missing-back-moves : code_of (d % 64) ≡ 14 → (b : Bool) → b ≡ through_missing rec (d / 64) → b ≡ moves J rec d
  unfolding through_missing
  missing-back-moves e b f = f ∙ sym (high-moves (omega arith) (omega arith) ∙ ap (ltb 0) (missing-back rec d l e))

  back-carries : (c : ℕ) → c < 15 → T (ltb 8 c && (not (eqb c 11) && not (eqb c 14))) → carries (back_code c) ≡ true
  unfolding below carries back_code
  back-carries c m t =
      is-on (carries (back_code c))
      (if-so (ltb 8 c && (not (eqb c 11) && not (eqb c 14))) (carries (back_code c))
      (below_at 15 (λ c. not (ltb 8 c && (not (eqb c 11) && not (eqb c 14))) || carries (back_code c)) tt c m) t)

  pub link-back-moves : 8 < code_of (d % 64) → code_of (d % 64) < 15 → code_of (d % 64) ≢ 11 → code_of (d % 64) ≢ 14 → (a : ℕ) → a ≡ opposed rec d → ltb 0 a ≡ moves J rec d
  link-back-moves m h n p a e =
      let t : T (ltb 8 (code_of (d % 64)) && (not (eqb (code_of (d % 64)) 11) && not (eqb (code_of (d % 64)) 14))) =
      and_both (ltb 8 (code_of (d % 64))) _ (lt→ltb 8 _ m)
      (and_both (not (eqb (code_of (d % 64)) 11)) (not (eqb (code_of (d % 64)) 14)) (so-not (ne_eqb (code_of (d % 64)) 11 n))
      (so-not (ne_eqb (code_of (d % 64)) 14 p))) in
      ap (ltb 0) e
      ∙ sym (high-moves m h ∙ ap (ltb 0) (back-link rec d (code_of (d % 64)) l refl (so-not (ne_eqb (code_of (d % 64)) 0 (omega arith)))
      (back-carries (code_of (d % 64)) h t)))

  pub none_moves : code_of (d % 64) ≡ 0 → false ≡ moves J rec d
  unfolding carries is_passage back_code
  none_moves e =
      sym (back-moves J rec d (cap-none J d (omega arith) (omega arith) (omega arith) (omega arith) (omega arith) (omega arith))
      (free-none J d (omega arith) (omega arith) (omega arith) (omega arith))
      ∙ ap (ltb 0) (back_none rec d 0 l e refl refl))

-- whether any wire passes
module _ (rec : List ℕ) (x : ℕ) where
  pub centre-some : in_grid x ≡ true → (n : ℕ) → n ≡ arrivals (load rec) (at centre (row_of x) (column_of x)) → ltb 0 n ≡ through_centre rec x
  unfolding through_centre through_centre_load
  centre-some e n f = rw (e, f)

  pub centre-off : in_grid x ≡ false → false ≡ through_centre rec x
  unfolding through_centre through_centre_load
  centre-off e = rw e

  pub missing-some : in_grid x ≡ true → (n : ℕ) → n ≡ arrivals (load rec) (at missing (row_of x) (column_of x)) → ltb 0 n ≡ through_missing rec x
  unfolding through_missing through_missing_load
  missing-some e n f = rw (e, f)

  pub missing-off : in_grid x ≡ false → false ≡ through_missing rec x
  unfolding through_missing through_missing_load
  missing-off e = rw e

pub grid-of : (x : ℕ) (a b : Bool) → b ≡ (in_grid x && a) → b ≡ true → (41 ≤ x) × (x < 1641)
grid-of x a b e f = grid-bounds x (and_left (in_grid x) a (so (sym e ∙ f)))

pub high-code : (n : ℕ) → n ≢ 0 → n ≢ 1 → n ≢ 2 → n ≢ 3 → n ≢ 4 → n ≢ 5 → n ≢ 6 → n ≢ 7 → n ≢ 8 → 8 < n
high-code n a b c d e f g h i =
    not_least n 8 (not_least n 7 (not_least n 6 (not_least n 5
    (not_least n 4 (not_least n 3 (not_least n 2 (not_least n 1 (not_least n 0 zero-le a) b) c) d) e) f) g) h) i
