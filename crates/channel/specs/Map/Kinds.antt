-- The slots of a spot by its kind: what the darts of n, e, s and w are and which of them share a link, and what those of a centre's entry and exit are. Each
-- is one computed test over the rows. Assumes nothing.
use Rattle.std.specs.Prelude.{◌≡◌, Bool, not, ◌&&◌, ◌||◌, List, [], ◌∷◌, ℕ, ◌+◌, ◌*◌, ◌/◌, ◌%◌, ◌≤◌, ◌<◌, T, eqb, leb, ltb, get_or}
use Rattle.std.proofs.Common.{sym, ap, subst, ◌∙◌, arith, eqb→eq, le→leb, ltb→lt, lt→ltb}
use Rattle.sums.specs.Tests.{and_left, and_right, and_both, below, below_at}
use Rattle.channel.specs.Map.{links, owners, signs, codes, kind_of, owner_of, sign_of, code_of, carries, is_passage, place_of, owner_cell, step_of, opposed}
use Rattle.channel.specs.Map.Bools.{if-so}

-- ---- a centre

-- the codes of its entry, then those of its exit
abbrev centre_codes : List ℕ
centre_codes = 9 ∷ 9 ∷ 9 ∷ 9 ∷ 5 ∷ 0 ∷ 0 ∷ 0 ∷ 4 ∷ 4 ∷ 4 ∷ 4 ∷ 0 ∷ 11 ∷ 0 ∷ 0 ∷ []

pub centre-code : (d j : ℕ) → j < 16 → d % 64 ≡ 48 + j → code_of (d % 64) ≡ get_or centre_codes j 0
unfolding below code_of codes
centre-code d j l e = ap code_of e ∙ eqb→eq _ _ (below_at 16 (λ j. eqb (code_of (48 + j)) (get_or centre_codes j 0)) tt j l)

-- ---- n, e, s and w

-- their rows
abbrev on_side : ℕ → Bool
on_side i = leb 2 (i / 8) && ltb (i / 8) 6

abbrev side_codes : List ℕ
side_codes = 1 ∷ 2 ∷ 3 ∷ 2 ∷ 6 ∷ 10 ∷ 0 ∷ 13 ∷ []

row-code : (i : ℕ) → i < 64 → T (on_side i) → code_of i ≡ get_or side_codes (i % 8) 0
unfolding below code_of codes
row-code i l t =
    eqb→eq _ _
    (if-so (on_side i) (eqb (code_of i) (get_or side_codes (i % 8) 0)) (below_at 64 (λ i. not (on_side i) || eqb (code_of i) (get_or side_codes (i % 8) 0)) tt i l) t)

-- slots 0 to 4 have links
row-place : (i : ℕ) → i < 64 → T (on_side i && ltb (i % 8) 5) → 1 < place_of i
unfolding below place_of carries is_passage codes code_of links kind_of owners owner_of signs sign_of
row-place i l t =
    ltb→lt _ _
    (if-so (on_side i && ltb (i % 8) 5) (ltb 1 (place_of i)) (below_at 64 (λ i. not (on_side i && ltb (i % 8) 5) || ltb 1 (place_of i)) tt i l) t)

-- slots 5 and 7 have the links of slots 2 and 4
abbrev shares : ℕ → Bool
shares i = on_side i && (eqb (i % 8) 2 || eqb (i % 8) 4)

abbrev same_link : ℕ → Bool
same_link i = eqb (kind_of i) (kind_of (i + 3)) && (eqb (owner_of i) (owner_of (i + 3)) && eqb (sign_of i) (sign_of (i + 3)))

row_same : (i : ℕ) → i < 64 → T (shares i) → T (same_link i)
unfolding below links kind_of owners owner_of signs sign_of
row_same i l t = if-so (shares i) (same_link i) (below_at 64 (λ i. not (shares i) || same_link i) tt i l) t

opposed-same : (rec : List ℕ) (d e : ℕ) → e ≡ d + 3 → d % 64 + 3 < 64 → T (shares (d % 64)) → opposed rec d ≡ opposed rec e
unfolding opposed owner_cell step_of
opposed-same rec d e q h t =
    let i = row_same (d % 64) (omega arith) t in
    let r : d % 64 + 3 ≡ e % 64 = omega arith in
    let x : d / 64 ≡ e / 64 = omega arith in
    let k : kind_of (d % 64) ≡ kind_of (e % 64) = eqb→eq _ _ (and_left (eqb (kind_of (d % 64)) (kind_of (d % 64 + 3))) _ i) ∙ ap kind_of r in
    let j = and_right (eqb (kind_of (d % 64)) (kind_of (d % 64 + 3))) _ i in
    let o : owner_of (d % 64) ≡ owner_of (e % 64) = eqb→eq _ _ (and_left (eqb (owner_of (d % 64)) (owner_of (d % 64 + 3))) _ j) ∙ ap owner_of r in
    let s : sign_of (d % 64) ≡ sign_of (e % 64) =
    eqb→eq _ _ (and_right (eqb (owner_of (d % 64)) (owner_of (d % 64 + 3))) (eqb (sign_of (d % 64)) (sign_of (d % 64 + 3))) j) ∙ ap sign_of r in
    rw (k, o, s, x)

module _ (u : ℕ) (m : 2 ≤ u % 8) (n : u % 8 < 6) where
  on-side : (i j : ℕ) → j < 8 → i ≡ 8 * (u % 8) + j → T (on_side i)
  on-side i j l e = and_both (leb 2 (i / 8)) (ltb (i / 8) 6) (le→leb 2 (i / 8) (omega arith)) (lt→ltb (i / 8) 6 (omega arith))

  -- the code of slot j
  pub slot-code : (d j : ℕ) → j < 8 → d ≡ 8 * u + j → code_of (d % 64) ≡ get_or side_codes j 0
  slot-code d j l e =
      let r : d % 64 ≡ 8 * (u % 8) + j = omega arith in
      let k : d % 64 % 8 ≡ j = omega arith in
      row-code (d % 64) (omega arith) (on-side (d % 64) j l r) ∙ ap (λ (x : ℕ). get_or side_codes x 0) k

  pub link-place : (i j : ℕ) → j < 5 → i ≡ 8 * (u % 8) + j → 1 < place_of i
  link-place i j l e =
      row-place i (omega arith) (and_both (on_side i) (ltb (i % 8) 5) (on-side i j (omega arith) e) (lt→ltb (i % 8) 5 (omega arith)))

  -- what goes against slots 5 and 7
  pub back-load : (rec : List ℕ) (j : ℕ) → j < 5 → T (eqb j 2 || eqb j 4) → opposed rec (8 * u + j) ≡ opposed rec (8 * u + (j + 3))
  back-load rec j h t =
      let i : (8 * u + j) % 64 ≡ 8 * (u % 8) + j = omega arith in
      let k : (8 * u + j) % 64 % 8 ≡ j = omega arith in
      opposed-same rec (8 * u + j) (8 * u + (j + 3)) (omega arith) (omega arith)
      (and_both (on_side ((8 * u + j) % 64)) _ (on-side ((8 * u + j) % 64) j (omega arith) i) (subst (λ (x : ℕ). T (eqb x 2 || eqb x 4)) (sym k) t))
