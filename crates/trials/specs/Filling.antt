-- An array of cells filled by row and column, each by one draw: after the cells before (r, c) the record is that of the job with those cells' values, and after
-- all of them that of the job with the whole table. Assumes nothing.
use Rattle.std.specs.Prelude.{◌≡◌, refl, ◌⊎◌, Bool, true, false, ◌&&◌, ◌||◌, List, ℕ, suc, ◌+◌, ◌*◌, ◌%◌, ◌≤◌, ◌<◌, T, eqb, ltb, length, set}
use Rattle.std.proofs.Common.{sym, ap, subst, ◌∙◌, inl, inr, ⊎_elim, arith, mul-suc, eqb→eq, ltb→lt, lt→ltb, lt-ltb, le-ltb}
use Rattle.std.proofs.Math.Dec.{eqb_refl}
use Rattle.sums.specs.Counting.{when}
use Rattle.sums.specs.Tests.{below_or, and_left, and_right, and_both, or-by, both_ways}
use Rattle.model.specs.Job.{Job, put, with_marks, with_states}
use Rattle.model.specs.Record.{record_size, mark_plane, state_plane, offset, unwired_record, over}
use Rattle.model.specs.Trial.{draw, number_after}
use Rattle.model.proofs.Sides.{put-at, put-else}
use Rattle.channel.specs.Written.{marked-over, closed-over}

-- ---- what is filled

-- what a draw modulo 100 makes of a cell
abbrev pub value_drawn : (low high n : ℕ) → ℕ
value_drawn low high n = elim (ltb n low) [ true ↦ 1 | false ↦ elim (ltb n high) [ true ↦ 2 | false ↦ 0 ] ]

pub value_low : (low high n : ℕ) → n < low → 1 ≡ value_drawn low high n
value_low low high n l = sym (ap (λ (b : Bool). elim b as (λ x. ℕ) [ true ↦ 1 | false ↦ elim (ltb n high) [ true ↦ 2 | false ↦ 0 ] ]) (lt-ltb n low l))

not_low : (low high n : ℕ) → low ≤ n → value_drawn low high n ≡ elim (ltb n high) as (λ x. ℕ) [ true ↦ 2 | false ↦ 0 ]
not_low low high n l = ap (λ (b : Bool). elim b as (λ x. ℕ) [ true ↦ 1 | false ↦ elim (ltb n high) [ true ↦ 2 | false ↦ 0 ] ]) (le-ltb n low l)

pub value-high : (low high n : ℕ) → low ≤ n → n < high → 2 ≡ value_drawn low high n
value-high low high n l h = sym (not_low low high n l ∙ ap (λ (b : Bool). elim b as (λ x. ℕ) [ true ↦ 2 | false ↦ 0 ]) (lt-ltb n high h))

pub value_none : (low high n : ℕ) → low ≤ n → high ≤ n → 0 ≡ value_drawn low high n
value_none low high n l h = sym (not_low low high n l ∙ ap (λ (b : Bool). elim b as (λ x. ℕ) [ true ↦ 2 | false ↦ 0 ]) (le-ltb n high h))

-- states of tiles, or marks of pins
abbrev pub plane_of : Bool → ℕ
plane_of true = state_plane
plane_of false = mark_plane

abbrev pub with_plane : Bool → Job → (ℕ → ℕ → ℕ) → Job
with_plane true J f = with_states J f
with_plane false J f = with_marks J f

abbrev pub nothing : ℕ → ℕ → ℕ
nothing r c = 0

-- by row and column
abbrev before : (r c i j : ℕ) → Bool
before r c i j = ltb i r || (eqb i r && ltb j c)

module _ (height width seed low high : ℕ) where
  abbrev in_grid : ℕ → ℕ → Bool
  in_grid i j = ltb i height && ltb j width

  abbrev value_at : ℕ → ℕ → ℕ
  value_at i j = value_drawn low high (number_after (suc (width * i + j)) seed % 100)

  abbrev pub whole : ℕ → ℕ → ℕ
  whole i j = when (in_grid i j) (value_at i j)

  -- only the cells before (r, c)
  abbrev pub up_to : ℕ → ℕ → ℕ → ℕ → ℕ
  up_to r c i j = when (in_grid i j && before r c i j) (value_at i j)

-- whatever job without values in the plane `rec` are the bytes of, `out` are those of the job with the table f there
abbrev Puts : Bool → (ℕ → ℕ → ℕ) → List ℕ → List ℕ → Type 0
Puts tiles f rec out =
    (J : Job) (under : List ℕ) → record_size ≤ length under → rec ≡ over (unwired_record (with_plane tiles J nothing)) under
    → out ≡ over (unwired_record (with_plane tiles J f)) under

abbrev pub Filled : Bool → (height width seed low high : ℕ) → List ℕ → List ℕ → Type 0
Filled tiles height width seed low high rec out = Puts tiles (whole height width seed low high) rec out

abbrev pub Filling : Bool → (height width seed low high r c : ℕ) → List ℕ → List ℕ → Type 0
Filling tiles height width seed low high r c rec out = Puts tiles (up_to height width seed low high r c) rec out

-- ---- cells before a cell

before-cases : (r c i j : ℕ) → T (before r c i j) → (i < r) ⊎ ((i ≡ r) × (j < c))
before-cases r c i j t =
    or-by (ltb i r) (eqb i r && ltb j c) (λ u. inl (ltb→lt i r u))
    (λ u. inr (eqb→eq i r (and_left (eqb i r) (ltb j c) u), ltb→lt j c (and_right (eqb i r) (ltb j c) u))) t

is-before : (r c i j : ℕ) → (i < r) ⊎ ((i ≡ r) × (j < c)) → T (before r c i j)
is-before r c i j (inl l) = subst (λ (b : Bool). T (b || (eqb i r && ltb j c))) (sym (yes l)) tt
  where
    yes : i < r → ltb i r ≡ true
    yes l = both_ways (ltb i r) true (λ t. tt) (λ t. lt→ltb i r l)
is-before r c i j (inr (e, l)) = later (ltb i r) (and_both (eqb i r) (ltb j c) (subst (λ (n : ℕ). T (eqb i n)) e (eqb_refl i)) (lt→ltb j c l))
  where
    later : (b : Bool) → T (eqb i r && ltb j c) → T (b || (eqb i r && ltb j c))
    later true t = tt
    later false t = t

when-same : (a b : Bool) (x : ℕ) → (T a → T b) → (T b → T a) → when a x ≡ when b x
when-same a b x f g = ap (λ (y : Bool). when y x) (both_ways a b f g)

when-not : (a : Bool) (x : ℕ) → (T a → ⊥) → when a x ≡ 0
when-not true x f = absurd (f tt)
when-not false x f = refl

when-yes : (a : Bool) (x : ℕ) → T a → when a x ≡ x
when-yes true x t = refl
when-yes false x t = absurd t

module _ (height width seed low high : ℕ) where
  abbrev has : ℕ → ℕ → Bool
  has = in_grid height width seed low high

  abbrev value : ℕ → ℕ → ℕ
  value = value_at height width seed low high

  abbrev to : ℕ → ℕ → ℕ → ℕ → ℕ
  to = up_to height width seed low high

  none_before : (i j : ℕ) → nothing i j ≡ to 0 0 i j
  none_before i j =
      sym (when-not (has i j && before 0 0 i j) (value i j)
      (λ t. ⊎_elim (λ l. omega arith) (λ (e, l). omega arith) (before-cases 0 0 i j (and_right (has i j) (before 0 0 i j) t))))

  all-before : (i j : ℕ) → to height 0 i j ≡ whole height width seed low high i j
  all-before i j =
      when-same (has i j && before height 0 i j) (has i j) (value i j) (λ t. and_left (has i j) (before height 0 i j) t)
      (λ t. and_both (has i j) (before height 0 i j) t (is-before height 0 i j (inl (ltb→lt i height (and_left (ltb i height) (ltb j width) t)))))

  next_row : (r : ℕ) (i j : ℕ) → to r width i j ≡ to (suc r) 0 i j
  next_row r i j =
      when-same (has i j && before r width i j) (has i j && before (suc r) 0 i j) (value i j)
      (λ t.
      let h : T (has i j) = and_left (has i j) (before r width i j) t in
      and_both (has i j) (before (suc r) 0 i j) h
      (is-before (suc r) 0 i j (⊎_elim (λ l. inl (omega arith)) (λ (e, l). inl (omega arith)) (before-cases r width i j (and_right (has i j) (before r width i j) t)))))
      (λ t.
      let h : T (has i j) = and_left (has i j) (before (suc r) 0 i j) t in
      let w : j < width = ltb→lt j width (and_right (ltb i height) (ltb j width) h) in
      and_both (has i j) (before r width i j) h
      (is-before r width i j
      (⊎_elim (λ l. ⊎_elim (λ k. inl k) (λ k. inr (omega arith, w)) (below_or i r)) (λ (e, l). absurd (omega arith))
      (before-cases (suc r) 0 i j (and_right (has i j) (before (suc r) 0 i j) t)))))

  next-cell : (r c : ℕ) → r < height → c < width → (i j : ℕ) → put (to r c) r c (value r c) i j ≡ to r (suc c) i j
  next-cell r c lr lc i j = by (below_or i r) (below_or r i) (below_or j c) (below_or c j)
    where
      elsewhere : (i ≡ r → j ≡ c → ⊥) → put (to r c) r c (value r c) i j ≡ to r (suc c) i j
      elsewhere n =
          put-else (to r c) r c (value r c) i j n
          ∙ when-same (has i j && before r c i j) (has i j && before r (suc c) i j) (value i j)
          (λ t.
          and_both (has i j) (before r (suc c) i j) (and_left (has i j) (before r c i j) t)
          (is-before r (suc c) i j (⊎_elim (λ l. inl l) (λ (e, l). inr (e, omega arith)) (before-cases r c i j (and_right (has i j) (before r c i j) t)))))
          (λ t.
          and_both (has i j) (before r c i j) (and_left (has i j) (before r (suc c) i j) t)
          (is-before r c i j
          (⊎_elim (λ l. inl l) (λ (e, l). inr (e, ⊎_elim (λ k. k) (λ k. absurd (n e (omega arith))) (below_or j c)))
          (before-cases r (suc c) i j (and_right (has i j) (before r (suc c) i j) t)))))

      here : i ≡ r → j ≡ c → put (to r c) r c (value r c) i j ≡ to r (suc c) i j
      here x y =
          (λ k. put (to r c) r c (value r c) (x k) (y k))
          ∙ (put-at (to r c) r c (value r c)
          ∙ (sym (when-yes (has r c && before r (suc c) r c) (value r c)
          (and_both (has r c) (before r (suc c) r c) (and_both (ltb r height) (ltb c width) (lt→ltb r height lr) (lt→ltb c width lc))
          (is-before r (suc c) r c (inr (refl, omega arith)))))
          ∙ (λ k. to r (suc c) (sym x k) (sym y k))))

      by : (i < r) ⊎ (r ≤ i) → (r < i) ⊎ (i ≤ r) → (j < c) ⊎ (c ≤ j) → (c < j) ⊎ (j ≤ c) → put (to r c) r c (value r c) i j ≡ to r (suc c) i j
      by (inl a) b d e = elsewhere (λ x y. omega arith)
      by (inr a) (inl b) d e = elsewhere (λ x y. omega arith)
      by (inr a) (inr b) (inl d) e = elsewhere (λ x y. omega arith)
      by (inr a) (inr b) (inr d) (inl e) = elsewhere (λ x y. omega arith)
      by (inr a) (inr b) (inr d) (inr e) = here (omega arith) (omega arith)

-- ---- in a record

-- the same table
retable : (tiles : Bool) (J : Job) (under : List ℕ) (f g : ℕ → ℕ → ℕ) → ((i j : ℕ) → f i j ≡ g i j)
    → over (unwired_record (with_plane tiles J f)) under ≡ over (unwired_record (with_plane tiles J g)) under
retable tiles J under f g e = λ k. over (unwired_record (with_plane tiles J (λ i j. e i j k))) under

put-over : (tiles : Bool) (J : Job) (f : ℕ → ℕ → ℕ) (under : List ℕ) (r c v : ℕ) → record_size ≤ length under → r < 40 → c < 40
    → set (over (unwired_record (with_plane tiles J f)) under) (offset (plane_of tiles) r c) v ≡ over (unwired_record (with_plane tiles J (put f r c v))) under
put-over true J f under r c v long lr lc = closed-over (with_states J f) under r c v long lr lc
put-over false J f under r c v long lr lc = marked-over (with_marks J f) under r c v long lr lc

module _ (tiles : Bool) (height width seed low high : ℕ) where
  pub filling-none : (rec : List ℕ) → Filling tiles height width seed low high 0 0 rec rec
  filling-none rec J under long e = e ∙ retable tiles J under nothing (up_to height width seed low high 0 0) (none_before height width seed low high)

  pub filling-all : (rec out : List ℕ) → Filling tiles height width seed low high height 0 rec out → Filled tiles height width seed low high rec out
  filling-all rec out f J under long e =
      f J under long e ∙ retable tiles J under (up_to height width seed low high height 0) (whole height width seed low high) (all-before height width seed low high)

  -- behind a whole row
  pub filling-turn : (r : ℕ) (rec out : List ℕ) → Filling tiles height width seed low high r width rec out → Filling tiles height width seed low high (r + 1) 0 rec out
  filling-turn r rec out f =
      let k : suc r ≡ r + 1 = omega arith in
      let turned : Filling tiles height width seed low high (suc r) 0 rec out =
      λ J under long z.
      f J under long z
      ∙ retable tiles J under (up_to height width seed low high r width) (up_to height width seed low high (suc r) 0) (next_row height width seed low high r) in
      subst (λ (n : ℕ). Filling tiles height width seed low high n 0 rec out) k turned

  module _ (r c : ℕ) (lr : r < height) (lc : c < width) (high-enough : height ≤ 40) (wide_enough : width ≤ 40) (rec out out' : List ℕ) (v : ℕ)
      (f : Filling tiles height width seed low high r c rec out) (is : v ≡ value_at height width seed low high r c)
      (e : out' ≡ set out (offset (plane_of tiles) r c) v) where
    cell-filled : Filling tiles height width seed low high r (suc c) rec out'
    cell-filled J under long z =
        e
        ∙ (ap (λ (l : List ℕ). set l (offset (plane_of tiles) r c) v) (f J under long z)
        ∙ (put-over tiles J (up_to height width seed low high r c) under r c v long (omega arith) (omega arith)
        ∙ (ap (λ (n : ℕ). over (unwired_record (with_plane tiles J (put (up_to height width seed low high r c) r c n))) under) is
        ∙ retable tiles J under (put (up_to height width seed low high r c) r c (value_at height width seed low high r c))
        (up_to height width seed low high r (suc c)) (next-cell height width seed low high r c lr lc))))

    pub filling-cell : Filling tiles height width seed low high r (c + 1) rec out'
    filling-cell = let k : suc c ≡ c + 1 = omega arith in subst (λ (n : ℕ). Filling tiles height width seed low high r n rec out') k cell-filled

    row-filled : suc c ≡ width → Filling tiles height width seed low high (suc r) 0 rec out'
    row-filled w J under long z =
        cell-filled J under long z
        ∙ (ap (λ (n : ℕ). over (unwired_record (with_plane tiles J (up_to height width seed low high r n))) under) w
        ∙ retable tiles J under (up_to height width seed low high r width) (up_to height width seed low high (suc r) 0) (next_row height width seed low high r))

    pub filling-row : suc c ≡ width → Filling tiles height width seed low high (r + 1) 0 rec out'
    filling-row w = let k : suc r ≡ r + 1 = omega arith in subst (λ (n : ℕ). Filling tiles height width seed low high n 0 rec out') k (row-filled w)

-- ---- the number

pub none_after : (width seed : ℕ) → seed ≡ number_after (width * 0 + 0) seed
unfolding number_after
none_after width seed = let e : 0 ≡ width * 0 + 0 = omega arith in ap (λ (n : ℕ). number_after n seed) e

pub after-cell : (width seed r c number next : ℕ) → number ≡ number_after (width * r + c) seed → next ≡ draw number
    → next ≡ number_after (suc (width * r + c)) seed
unfolding number_after
after-cell width seed r c number next e f = f ∙ ap draw e

-- in the same row, and in the next
pub same_row : (width seed r c : ℕ) → number_after (suc (width * r + c)) seed ≡ number_after (width * r + (c + 1)) seed
same_row width seed r c = let f : suc (width * r + c) ≡ width * r + (c + 1) = omega arith in ap (λ (n : ℕ). number_after n seed) f

pub after-row : (width seed r c : ℕ) → suc c ≡ width → number_after (suc (width * r + c)) seed ≡ number_after (width * (r + 1) + 0) seed
after-row width seed r c e =
    let k : r + 1 ≡ suc r = omega arith in
    let f : suc (width * r + c) ≡ width * (r + 1) + 0 = omega (arith, mul-suc width r, ap (λ (x : ℕ). width * x) k) in
    ap (λ (n : ℕ). number_after n seed) f

-- after the last row
pub all-filled : (tiles : Bool) (height width seed low high r c number : ℕ) (rec out : List ℕ) → r ≡ height → c ≡ 0
    → number ≡ number_after (width * r + c) seed → Filling tiles height width seed low high r c rec out
    → (number ≡ number_after (width * height) seed) × Filled tiles height width seed low high rec out
all-filled tiles height width seed low high r c number rec out e z n f =
    let i : width * r + c ≡ width * height = omega (arith, ap (λ (x : ℕ). width * x) e) in (
      n ∙ ap (λ (x : ℕ). number_after x seed) i,
      filling-all tiles height width seed low high rec out
          (subst (λ (x : ℕ). Filling tiles height width seed low high height x rec out) z
          (subst (λ (x : ℕ). Filling tiles height width seed low high x c rec out) e f)),
    )
