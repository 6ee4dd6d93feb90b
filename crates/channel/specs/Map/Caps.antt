-- The limits of darts, by code: what `cap` and `free` come to for each kind of link, stated over the tests that the code makes. Assumes nothing.
use Rattle.std.specs.Prelude.{◌≡◌, ◌≢◌, ◌⊎◌, ◌&&◌, ◌||◌, List, [], ◌∷◌, ltb}
use Rattle.std.proofs.Math.Path.{refl, sym, ap, ap₂, subst}
use Rattle.std.proofs.Common.{◌∙◌, inl, inr, arith, eq-eqb, ne_eqb, eqb-true, ltb→lt}
use Rattle.std.proofs.Math.Bool.{Bool, true, false, not}
use Rattle.std.proofs.Math.Option.{Option, none, some}
use Prim.Native.Nat.{ℕ, ◌+◌, ◌-◌, ◌/◌, ◌%◌, ◌≤◌, ◌<◌}
use Rattle.std.proofs.Math.Dec.{T, eqb, eqb→eq}
use Rattle.std.proofs.Math.ListN.{get_or}
use Rattle.sums.specs.Counting.{when}
use Rattle.sums.specs.Tests.{so, so-not, and_left, and_both, if-so, below, below_at}
use Rattle.model.specs.Job.{Job, is_open, is_missing, centre_limit, tile_d, extra_limit}
use Rattle.model.specs.Links.{Place, is_place, LinkKind, north_side, west_side, corner, spoke, leg, direct, link, go, ahead_of, limit_of, limit, pass, may}
use Rattle.model.specs.Near.{size}
use Rattle.model.specs.Record.{kinds}
use Rattle.channel.specs.Map.{links, signs, codes, kind_of, owner_of, sign_of, code_of, may_take, reaches, owner_mark}
use Rattle.channel.specs.Map.{in_grid, row_of, column_of, owner_cell, step_of, carries, is_passage, is_link_dart, is_pass_dart, passed_of, is_none, cap, free}
use Rattle.channel.specs.Map.Bools.{and-true, and-false}
use Rattle.channel.specs.Map.Bounds.{code-bound}
use Rattle.channel.specs.Map.Grid.{none-at, test_at, grid-bounds}
use Rattle.channel.specs.Map.Bytes.{owner-is, carries-no-pass, passed-centre, passed-missing}
use Rattle.channel.specs.Map.Codes.{own-cell, leg-sign, Which, one, two, three, four, five, six, seven, eight, fifteen, rest, which}
use Rattle.channel.specs.Map.Ways.{Within, by-corner, by-spoke, within-may, leg-come, leg-go, direct-come}

-- ---- sorts of links

-- 1 a side, 2 a corner, 3 a spoke, 4 a leg, 5 a direct exit
abbrev sort : LinkKind → ℕ
sort north_side = 1
sort west_side = 1
sort (corner d) = 2
sort (spoke d) = 3
sort (leg d) = 4
sort direct = 5

abbrev sorts : List ℕ
sorts = 1 ∷ 1 ∷ 2 ∷ 3 ∷ 3 ∷ 1 ∷ 4 ∷ 4 ∷ 1 ∷ 3 ∷ 3 ∷ 1 ∷ 4 ∷ 4 ∷ 1 ∷ 5 ∷ []

abbrev kind_at : ℕ → LinkKind
kind_at i = get_or kinds (kind_of i) north_side

row-sort : (i : ℕ) → i < 64 → sort (kind_at i) ≡ get_or sorts (code_of i) 0
unfolding below kind_of links code_of codes
row-sort i l = eqb→eq _ _ (below_at 64 (λ i. eqb (sort (kind_at i)) (get_or sorts (code_of i) 0)) tt i l)

dart-sort : (d c : ℕ) → code_of (d % 64) ≡ c → sort (kind_at (d % 64)) ≡ get_or sorts c 0
dart-sort d c e = row-sort (d % 64) (omega arith) ∙ ap (λ (x : ℕ). get_or sorts x 0) e

-- a link within a tile
within : (k : LinkKind) (s : ℕ) → sort k ≡ s → T (eqb s 2 || eqb s 3) → Within k
within k s e t = by k (subst (λ (x : ℕ). T (eqb x 2 || eqb x 3)) (sym e) t)
  where
    by : (k : LinkKind) → T (eqb (sort k) 2 || eqb (sort k) 3) → Within k
    by north_side t = absurd t
    by west_side t = absurd t
    by (corner d) t = by-corner
    by (spoke d) t = by-spoke
    by (leg d) t = absurd t
    by direct t = absurd t

-- the kinds of sides come first
pub side-kind : (i : ℕ) → i < 64 → code_of i ≡ 1 → kind_of i < 2
unfolding below kind_of links code_of codes
side-kind i l e =
    ltb→lt _ _
    (if-so (eqb (code_of i) 1) (ltb (kind_of i) 2) (below_at 64 (λ i. not (eqb (code_of i) 1) || ltb (kind_of i) 2) tt i l) (so (eq-eqb _ _ e)))

module _ (J : Job) where
  -- the limits of the sorts, where the side takes n wires and the pin has the mark m
  abbrev limits : ℕ → ℕ → List (Option ℕ)
  limits n m = none ∷ some n ∷ some (J.O / 2) ∷ none ∷ elim (eqb m 2) [ true ↦ none | false ↦ some 1 ] ∷ some 1 ∷ []

  sort-limit : (k : LinkKind) (r c : ℕ) → limit_of J k r c ≡ get_or (limits (size (limit_of J k r c)) (J.mark r c)) (sort k) none
  unfolding limit_of
  sort-limit north_side r c = refl
  sort-limit west_side r c = refl
  sort-limit (corner d) r c = refl
  sort-limit (spoke d) r c = refl
  sort-limit (leg d) r c = refl
  sort-limit direct r c = refl

  -- the marks of a pin whose legs may be taken, out of it or into it
  abbrev joins : Bool → ℕ → Bool
  joins f m = elim f [ true ↦ eqb m 1 || eqb m 2 | false ↦ eqb m 2 ]

  leg-may : (k : LinkKind) (f : Bool) (r c : ℕ) → sort k ≡ 4
      → may J (record { link = link k r c; forth = f }) ≡ (joins f (J.mark r c) && is_place J (ahead_of J k r c))
  leg-may north_side f r c e = absurd (omega arith)
  leg-may west_side f r c e = absurd (omega arith)
  leg-may (corner d) f r c e = absurd (omega arith)
  leg-may (spoke d) f r c e = absurd (omega arith)
  leg-may (leg d) true r c e = leg-go J d r c
  leg-may (leg d) false r c e = leg-come J d r c
  leg-may direct f r c e = absurd (omega arith)

  -- ---- darts along links

  mark_of : ℕ → ℕ
  mark_of d = J.mark (row_of (owner_cell d)) (column_of (owner_cell d))

  led : ℕ → Bool
  led d = is_place J (ahead_of J (kind_at (d % 64)) (row_of (owner_cell d)) (column_of (owner_cell d)))

  abbrev limits_of : ℕ → List (Option ℕ)
  limits_of d = limits (size (limit J (step_of d).link)) (mark_of d)

  module _ (d c : ℕ) (e : code_of (d % 64) ≡ c) where
    code-limit : limit J (step_of d).link ≡ get_or (limits_of d) (get_or sorts c 0) none
    unfolding step_of mark_of
    code-limit =
        sort-limit (kind_at (d % 64)) (row_of (owner_cell d)) (column_of (owner_cell d))
        ∙ ap (λ (s : ℕ). get_or (limits_of d) s none) (dart-sort d c e)

    code-cap : carries c ≡ true → cap J d ≡ when (may_take J d) (size (get_or (limits_of d) (get_or sorts c 0) none))
    unfolding cap is_link_dart is_pass_dart may_take
    code-cap t =
        let p : carries (code_of (d % 64)) ≡ true = ap carries e ∙ t in
        rw (p, carries-no-pass (code_of (d % 64)) (code-bound (d % 64) (omega arith)) (so p), sym code-limit) (omega arith)

    code_free : carries c ≡ true → free J d ≡ (may_take J d && is_none (get_or (limits_of d) (get_or sorts c 0) none))
    unfolding free is_link_dart may_take
    code_free t =
        let p : carries (code_of (d % 64)) ≡ true = ap carries e ∙ t in
        rw (p, sym code-limit) (by (in_grid (owner_cell d)) (may J (step_of d)) (is_none (limit J (step_of d).link)))
      where
        by : (a b n : Bool) → (a && (b && n)) ≡ ((a && b) && n)
        by true b n = refl
        by false b n = refl

    -- a corner or a spoke may be taken where its tile is open
    within-take : T (eqb (get_or sorts c 0) 2 || eqb (get_or sorts c 0) 3) → owner_cell d ≡ d / 64
        → may_take J d ≡ (in_grid (d / 64) && is_open J (row_of (d / 64)) (column_of (d / 64)))
    unfolding may_take step_of
    within-take t o =
        ap (λ (b : Bool). in_grid (owner_cell d) && b)
        (within-may J (within (kind_at (d % 64)) _ (dart-sort d c e) t) (eqb (sign_of (d % 64)) 0) (row_of (owner_cell d)) (column_of (owner_cell d)))
        ∙ ap (λ (x : ℕ). in_grid x && is_open J (row_of x) (column_of x)) o

    -- a leg may be taken where its pin's mark and the tile that it leads into allow it
    leg-take : T (eqb c 6 || eqb c 7) → get_or sorts c 0 ≡ 4 → may_take J d ≡ (in_grid (owner_cell d) && (joins (eqb (7 - c) 0) (mark_of d) && led d))
    unfolding may_take step_of mark_of led
    leg-take t s =
        let p : sign_of (d % 64) ≡ 7 - c = omega (arith, leg-sign (d % 64) (omega arith) (subst (λ (x : ℕ). T (eqb x 6 || eqb x 7)) (sym e) t)) in
        ap (λ (n : ℕ). in_grid (owner_cell d) && by n) p
        ∙ ap (λ (b : Bool). in_grid (owner_cell d) && b)
        (leg-may (kind_at (d % 64)) (eqb (7 - c) 0) (row_of (owner_cell d)) (column_of (owner_cell d)) (dart-sort d c e ∙ s))
      where
        by : ℕ → Bool
        by n = may J (record { link = link (kind_at (d % 64)) (row_of (owner_cell d)) (column_of (owner_cell d)); forth = eqb n 0 })

  nothing : (b : Bool) → when b 0 ≡ 0
  nothing true = refl
  nothing false = refl

  -- ---- sides, corners and spokes

  -- what the side of a kind takes that a cell owns
  abbrev takes : ℕ → ℕ → ℕ
  takes k x = size (limit_of J (get_or kinds k north_side) (row_of x) (column_of x))

  pub cap-side : (d : ℕ) → code_of (d % 64) ≡ 1 → cap J d ≡ when (may_take J d) (takes (kind_of (d % 64)) (owner_cell d))
  unfolding carries step_of
  cap-side d e = code-cap d 1 e refl

  -- read by the numbers of its kind and its owner, where it may be crossed
  module _ (d o : ℕ) (e : o ≡ owner_of (d % 64)) (t : may_take J d ≡ true) where
    pub crossed-grid : (41 ≤ d / 64 + o) × (d / 64 + o < 1641)
    unfolding may_take
    crossed-grid =
        subst (λ (x : ℕ). (41 ≤ x) × (x < 1641)) (sym (owner-is d o e))
        (grid-bounds (owner_cell d) (and_left (in_grid (owner_cell d)) (may J (step_of d)) (so t)))

    pub cap-crossed : (k n : ℕ) → code_of (d % 64) ≡ 1 → k ≡ kind_of (d % 64) → n ≡ takes k (d / 64 + o) → n ≡ cap J d
    cap-crossed k n c p q =
        q
        ∙ (ap₂ takes p (owner-is d o e) ∙ sym (cap-side d c ∙ ap (λ (b : Bool). when b (takes (kind_of (d % 64)) (owner_cell d))) t))

  pub cap-corner : (d : ℕ) → code_of (d % 64) ≡ 2 → cap J d ≡ when (in_grid (d / 64) && is_open J (row_of (d / 64)) (column_of (d / 64))) (J.O / 2)
  unfolding carries
  cap-corner d e = code-cap d 2 e refl ∙ ap (λ (b : Bool). when b (J.O / 2)) (within-take d 2 e tt (own-cell d 2 e tt))

  pub free-centre : (d : ℕ) → (code_of (d % 64) ≡ 3) ⊎ (code_of (d % 64) ≡ 4) → free J d ≡ (in_grid (d / 64) && is_open J (row_of (d / 64)) (column_of (d / 64)))
  unfolding carries is_none
  free-centre d (inl e) = code_free d 3 e refl ∙ and-true (may_take J d) ∙ within-take d 3 e tt (own-cell d 3 e tt)
  free-centre d (inr e) = code_free d 4 e refl ∙ and-true (may_take J d) ∙ within-take d 4 e tt (own-cell d 4 e tt)

  -- ---- direct exits

  cap-direct : (d : ℕ) → code_of (d % 64) ≡ 15 → (s : ℕ) → kind_of (d % 64) ≡ 14 → sign_of (d % 64) ≡ s
      → cap J d ≡ when (in_grid (d / 64) && may J (record { link = link direct (row_of (d / 64)) (column_of (d / 64)); forth = eqb s 0 })) 1
  unfolding carries may_take step_of
  cap-direct d e s k g = code-cap d 15 e refl ∙ rw (own-cell d 15 e tt, k, g)

  -- along one, where its cell is on the grid and where not
  module _ (d : ℕ) (e : d % 64 ≡ 12) where
    cap-along : cap J d ≡ when (in_grid (d / 64) && may J (go direct (row_of (d / 64)) (column_of (d / 64)))) 1
    unfolding code_of codes kind_of links sign_of signs
    cap-along = cap-direct d (ap code_of e) 0 (ap kind_of e) (ap sign_of e)

    pub cap-out : 41 ≤ d / 64 → d / 64 < 1641 → (b : Bool) → b ≡ may J (go direct ((d / 64 - 41) / 40) ((d / 64 - 41) % 40)) → when b 1 ≡ cap J d
    cap-out l m b f = sym (cap-along ∙ ap (λ (b : Bool). when b 1) (sym (test_at (d / 64) (λ r c. may J (go direct r c)) b l m f)))

    pub cap-off : d / 64 < 41 → 0 ≡ cap J d
    cap-off l = sym (cap-along ∙ ap (λ (b : Bool). when b 1) (sym (none-at (d / 64) (λ r c. may J (go direct r c)) l)))

  -- against one
  against-row : (i : ℕ) → i < 64 → code_of i ≡ 15 → i ≢ 12 → i ≡ 5
  unfolding below code_of codes
  against-row i l e n =
      eqb→eq i 5
      (if-so (eqb (code_of i) 15 && not (eqb i 12)) (eqb i 5) (below_at 64 (λ i. not (eqb (code_of i) 15 && not (eqb i 12)) || eqb i 5) tt i l)
      (and_both (eqb (code_of i) 15) (not (eqb i 12)) (so (eq-eqb (code_of i) 15 e)) (so-not (ne_eqb i 12 n))))

  pub cap-against : (d : ℕ) → code_of (d % 64) ≡ 15 → d % 64 ≢ 12 → 0 ≡ cap J d
  unfolding kind_of links sign_of signs
  cap-against d e n =
      let q : d % 64 ≡ 5 = against-row (d % 64) (omega arith) e n in
      sym (cap-direct d e 1 (ap kind_of q) (ap sign_of q)
      ∙ ap (λ (b : Bool). when (in_grid (d / 64) && b) 1) (direct-come J (row_of (d / 64)) (column_of (d / 64)))
      ∙ ap (λ (b : Bool). when b 1) (and-false (in_grid (d / 64))))

  -- ---- legs

  -- the tests of the code
  owner-test : (d m : ℕ) → m ≢ 0 → (eqb (owner_mark J d) m && reaches J d) ≡ (in_grid (owner_cell d) && (eqb (mark_of d) m && led d))
  unfolding owner_mark reaches mark_of led step_of
  owner-test d m n = by (in_grid (owner_cell d)) (mark_of d) (led d)
    where
      by : (g : Bool) (k : ℕ) (p : Bool) → (eqb (when g k) m && (g && p)) ≡ (g && (eqb k m && p))
      by true k p = refl
      by false k p = ap (λ (b : Bool). b && false) (ne_eqb 0 m (λ q. n (sym q)))

  pub cap-into : (d : ℕ) → code_of (d % 64) ≡ 6 → cap J d ≡ 0
  unfolding carries
  cap-into d e =
      code-cap d 6 e refl
      ∙ ap (λ (b : Bool). when b (size (elim (eqb (mark_of d) 2) [ true ↦ none | false ↦ some 1 ]))) (leg-take d 6 e tt refl)
      ∙ by (in_grid (owner_cell d)) (eqb (mark_of d) 2) (led d)
    where
      by : (g m p : Bool) → when (g && (m && p)) (size (elim m [ true ↦ none | false ↦ some 1 ])) ≡ 0
      by true true true = refl
      by true true false = refl
      by true false p = refl
      by false m p = refl

  one-two : (n : ℕ) → eqb n 2 ≡ true → eqb n 1 ≡ false
  one-two n e = ne_eqb n 1 (λ q. absurd (omega (arith, eqb-true n 2 e)))

  pub cap-pin : (d : ℕ) → code_of (d % 64) ≡ 7 → cap J d ≡ when (eqb (owner_mark J d) 1 && reaches J d) 1
  unfolding carries
  cap-pin d e =
      code-cap d 7 e refl
      ∙ ap (λ (b : Bool). when b (size (elim (eqb (mark_of d) 2) [ true ↦ none | false ↦ some 1 ]))) (leg-take d 7 e tt refl)
      ∙ by (in_grid (owner_cell d)) (eqb (mark_of d) 1) (eqb (mark_of d) 2) (led d) (one-two (mark_of d))
      ∙ sym (ap (λ (b : Bool). when b 1) (owner-test d 1 (λ q. absurd (omega arith))))
    where
      by : (g a b p : Bool) → (b ≡ true → a ≡ false) → when (g && ((a || b) && p)) (size (elim b [ true ↦ none | false ↦ some 1 ])) ≡ when (g && (a && p)) 1
      by true true true p h = absurd (subst T (h refl) tt)
      by true true false p h = refl
      by true false true true h = refl
      by true false true false h = refl
      by true false false p h = refl
      by false a b p h = refl

  leg-free : (d c : ℕ) → code_of (d % 64) ≡ c → carries c ≡ true → T (eqb c 6 || eqb c 7) → get_or sorts c 0 ≡ 4
      → free J d ≡ (eqb (owner_mark J d) 2 && reaches J d)
  unfolding is_none
  leg-free d c e t u s =
      code_free d c e t
      ∙ ap₂ (λ (b : Bool) (k : ℕ). b && is_none (get_or (limits_of d) k none)) (leg-take d c e u s) s
      ∙ by (eqb (7 - c) 0) (in_grid (owner_cell d)) (eqb (mark_of d) 1) (eqb (mark_of d) 2) (led d)
      ∙ sym (owner-test d 2 (λ q. absurd (omega arith)))
    where
      by : (f g a m p : Bool) → ((g && (elim f [ true ↦ a || m | false ↦ m ] && p)) && is_none (elim m [ true ↦ none | false ↦ some 1 ])) ≡ (g && (m && p))
      by true g true true p = and-true _
      by true g false true p = and-true _
      by false g a true p = and-true _
      by f g a false p = and-false (g && (elim f [ true ↦ a || false | false ↦ false ] && p)) ∙ sym (and-false g)

  pub free-pin : (d : ℕ) → (code_of (d % 64) ≡ 6) ⊎ (code_of (d % 64) ≡ 7) → free J d ≡ (eqb (owner_mark J d) 2 && reaches J d)
  unfolding carries
  free-pin d (inl e) = leg-free d 6 e refl tt refl
  free-pin d (inr e) = leg-free d 7 e refl tt refl

  -- ---- passages

  pass-cap : (d : ℕ) → carries (code_of (d % 64)) ≡ false → cap J d ≡ when (is_pass_dart d && is_place J (passed_of d)) (size (pass J (passed_of d)))
  unfolding cap is_link_dart
  pass-cap d e = rw e (omega arith)

  pub cap-centre : (d : ℕ) → code_of (d % 64) ≡ 5
      → cap J d ≡ when (in_grid (d / 64) && is_open J (row_of (d / 64)) (column_of (d / 64))) (centre_limit J.O (tile_d J (row_of (d / 64)) (column_of (d / 64))))
  unfolding carries is_pass_dart is_passage
  cap-centre d e =
      pass-cap d (ap carries e)
      ∙ ap₂ (λ (c : ℕ) (x : Place). when (((eqb c 5 || eqb c 8) && in_grid (d / 64)) && is_place J x) (size (pass J x))) e (sym (passed-centre d e))

  pub cap-missing : (d : ℕ) → code_of (d % 64) ≡ 8 → cap J d ≡ when (in_grid (d / 64) && is_missing J (row_of (d / 64)) (column_of (d / 64))) (extra_limit J)
  unfolding carries is_pass_dart is_passage
  cap-missing d e =
      pass-cap d (ap carries e)
      ∙ ap₂ (λ (c : ℕ) (x : Place). when (((eqb c 5 || eqb c 8) && in_grid (d / 64)) && is_place J x) (size (pass J x))) e
      (sym (passed-missing d (λ q. absurd (omega arith))))

  -- ---- no limit, and no freedom

  pub other-free : (d : ℕ) → carries (code_of (d % 64)) ≡ false → free J d ≡ false
  unfolding free is_link_dart
  other-free d e = rw e

  no-passage : (d : ℕ) → carries (code_of (d % 64)) ≡ false → is_passage (code_of (d % 64)) ≡ false → cap J d ≡ 0
  unfolding is_pass_dart
  no-passage d e f = pass-cap d e ∙ ap (λ (b : Bool). when ((b && in_grid (d / 64)) && is_place J (passed_of d)) (size (pass J (passed_of d)))) f

  pub cap-none : (d : ℕ) → code_of (d % 64) ≢ 1 → code_of (d % 64) ≢ 2 → code_of (d % 64) ≢ 5 → code_of (d % 64) ≢ 7 → code_of (d % 64) ≢ 8 → code_of (d % 64) ≢ 15 → cap J d ≡ 0
  unfolding carries
  cap-none d n1 n2 n5 n7 n8 n15 = by (which (code_of (d % 64)))
    where
      by : Which (code_of (d % 64)) → cap J d ≡ 0
      by (one e) = absurd (n1 e)
      by (two e) = absurd (n2 e)
      by (five e) = absurd (n5 e)
      by (seven e) = absurd (n7 e)
      by (eight e) = absurd (n8 e)
      by (fifteen e) = absurd (n15 e)
      by (three e) = code-cap d 3 e refl ∙ nothing (may_take J d)
      by (four e) = code-cap d 4 e refl ∙ nothing (may_take J d)
      by (six e) = cap-into d e
      by (rest e f) = no-passage d e f

  pub free-none : (d : ℕ) → code_of (d % 64) ≢ 3 → code_of (d % 64) ≢ 4 → code_of (d % 64) ≢ 6 → code_of (d % 64) ≢ 7 → free J d ≡ false
  unfolding carries is_none
  free-none d n3 n4 n6 n7 = by (which (code_of (d % 64)))
    where
      by : Which (code_of (d % 64)) → free J d ≡ false
      by (one e) = code_free d 1 e refl ∙ and-false (may_take J d)
      by (two e) = code_free d 2 e refl ∙ and-false (may_take J d)
      by (three e) = absurd (n3 e)
      by (four e) = absurd (n4 e)
      by (five e) = other-free d (ap carries e)
      by (six e) = absurd (n6 e)
      by (seven e) = absurd (n7 e)
      by (eight e) = other-free d (ap carries e)
      by (fifteen e) = code_free d 15 e refl ∙ and-false (may_take J d)
      by (rest e f) = other-free d e
