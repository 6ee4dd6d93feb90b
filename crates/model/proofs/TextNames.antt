-- Document 01, "Job text": the values that a job has in its groups. Every line of a group has its turn, a number that rises along the text; a value given
-- at one turn changes none at another; and a proper job is known by its five numbers and its values. Assumes nothing.
use mathlib.Core.Path.{◌≡◌, refl, sym, ap, ap₂, subst, ◌∙◌}
use mathlib.Core.Logic.{◌≢◌}
use mathlib.Core.Bool.{Bool, true, false, not, ◌&&◌}
use mathlib.Core.List.{List, [], ◌∷◌}
use Prim.Native.Nat.{ℕ, zero, suc, ◌+◌, ◌*◌, ◌≤◌, ◌<◌}
use native.Mathlib.Omega.{arith}
use lib.Dec.{T, T_not, eqb, leb, ltb, eqb→eq, leb→le, ltb→lt, lt→ltb}
use Rattle.sums.specs.Counting.{when, only}
use Rattle.sums.specs.Tests.{Same, same, other, same?, and_left, and_right, and_both}
use Rattle.sums.specs.Sums.{when-cong, when-none}
use Rattle.model.specs.Job.{Job, in_range, fresh, marked, closed, put, Side, of_north, of_west, side_of, laid_on, laid_by, is_pin, is_tile, is_chosen, is_missing, is_closed, Proper}
use Rattle.model.specs.Text.{Group, chosen_pins, missing_pins, closed_tiles, own_ds, laid_sides, groups, group_line, says, line_bytes, within, rank, group_of, key_of}
use Rattle.model.specs.Text.{Reader, writes_side, names, named, value_at, value_line}
use Rattle.model.proofs.Added.{added-known}
use Rattle.model.proofs.Own.{counts-own, own-laid, own-written, owns-known}
use Rattle.model.proofs.Sides.{put-at, put-else, count-here, count-other, counts_same, one_writer, norths-known, wests-known}
use Rattle.model.proofs.TextProper.{by_word, names-says, names-own, names-laid}

-- ---- turns

-- the turn of a line: the groups in their order, each by row, then column, then side
abbrev pub turn : Group → ℕ → ℕ → ℕ → ℕ
turn g r c d = 6400 * rank (within g) + key_of r c d

-- the least turn that a line of a group may still have
abbrev pub due : Reader → ℕ
due R = 6400 * rank R.stage + R.from

pub rank-group : (g : Group) → (2 ≤ rank (within g)) × (rank (within g) ≤ 6)
rank-group chosen_pins = omega arith
rank-group missing_pins = omega arith
rank-group closed_tiles = omega arith
rank-group own_ds = omega arith
rank-group laid_sides = omega arith

pub of-rank : (g : Group) → group_of (rank (within g)) ≡ g
unfolding group_of
of-rank chosen_pins = refl
of-rank missing_pins = refl
of-rank closed_tiles = refl
of-rank own_ds = refl
of-rank laid_sides = refl

pub rank_same : (g h : Group) → rank (within g) ≡ rank (within h) → g ≡ h
rank_same g h e = sym (of-rank g) ∙ (ap group_of e ∙ of-rank h)

-- groups in the order of their ranks, from n on
abbrev pub Ranked : ℕ → List Group → Type 0
Ranked n [] = Unit {0}
Ranked n (g ∷ l) = (rank (within g) ≡ n) × Ranked (suc n) l

pub groups-ranked : Ranked 2 groups
groups-ranked = (refl, (refl, (refl, (refl, (refl, tt)))))

pub turn-same : (g h : Group) (r c d i j e : ℕ) → (r < 40) × (c < 40) × (d < 4) → (i < 40) × (j < 40) × (e < 4) → turn g r c d ≡ turn h i j e
    → (g ≡ h) × (r ≡ i) × (c ≡ j) × (d ≡ e)
turn-same g h r c d i j e (lr, lc, ld) (li, lj, le) q =
    let x : rank (within g) ≡ rank (within h) = omega arith in
    let y : r ≡ i = omega arith in
    let z : c ≡ j = omega arith in
    (rank_same g h x, y, z, omega arith)

-- ---- numbers under a condition

pub when-so : (b : Bool) (n : ℕ) → T b → when b n ≡ n
when-so true n t = refl
when-so false n t = absurd t

pub when-not : (b : Bool) (n : ℕ) → (T b → ⊥) → when b n ≡ 0
when-not true n f = absurd (f tt)
when-not false n f = refl

pub when-some : (b : Bool) (n : ℕ) → 0 < when b n → T b
when-some true n l = tt
when-some false n l = absurd (omega arith)

pub zero-so : (n : ℕ) → (0 < n → ⊥) → n ≡ 0
zero-so zero f = refl
zero-so (suc n) f = absurd (f (omega arith))

pub value_line_lem : (g : Group) (r c d v : ℕ) → 0 < v → value_line g r c d v ≡ line_bytes (group_line g r c d v)
value_line_lem g r c d v l = by (ltb 0 v) (lt→ltb 0 v l)
  where
    by : (b : Bool) → T b → only b (line_bytes (group_line g r c d v)) ≡ line_bytes (group_line g r c d v)
    by true t = refl
    by false t = absurd t

-- ---- what is named

pin-inside : (K : Job) (r c : ℕ) → T (is_pin K r c) → (r < K.rows) × (c < K.columns)
pin-inside K r c t =
    let a : Bool = ltb r K.rows in
    let b : Bool = ltb c K.columns in
    (ltb→lt r K.rows (and_left a b t), ltb→lt c K.columns (and_right a b t))

tile-inside : (K : Job) (r c : ℕ) → T (is_tile K r c) → (r < K.rows) × (c < K.columns)
tile-inside K r c t = let (x, y) = pin-inside K (suc r) (suc c) t in omega arith

pub says_some : (g : Group) (d v : ℕ) → T (says g d v) → (d < 4) × (0 < v)
says_some chosen_pins d v t = let (x, y) = by_word d v 1 t in omega arith
says_some missing_pins d v t = let (x, y) = by_word d v 2 t in omega arith
says_some closed_tiles d v t = let (x, y) = by_word d v 1 t in omega arith
says_some own_ds d v t = (omega (arith, eqb→eq d 0 (and_left (eqb d 0) (ltb 0 v) t)), ltb→lt 0 v (and_right (eqb d 0) (ltb 0 v) t))
says_some laid_sides d v t = (ltb→lt d 4 (and_left (ltb d 4) (ltb 0 v) t), ltb→lt 0 v (and_right (ltb d 4) (ltb 0 v) t))

names-cell : (K : Job) (g : Group) (r c d v : ℕ) → T (names K g r c d v) → (r < K.rows) × (c < K.columns)
names-cell K chosen_pins r c d v t = pin-inside K r c (and_left (is_pin K r c) (says chosen_pins d v) t)
names-cell K missing_pins r c d v t =
    let unchosen : Bool = not (eqb (K.mark r c) 1) in
    pin-inside K r c (and_left (is_pin K r c) unchosen (and_left (is_pin K r c && unchosen) (says missing_pins d v) t))
names-cell K closed_tiles r c d v t = tile-inside K r c (and_left (is_tile K r c) (says closed_tiles d v) t)
names-cell K own_ds r c d v t = tile-inside K r c (names-own K r c d v t).0
names-cell K laid_sides r c d v t = tile-inside K r c (names-laid K r c d v t).0

pub names-inside : (K : Job) (g : Group) (r c d v : ℕ) → T (names K g r c d v) → (r < K.rows) × (c < K.columns) × (d < 4)
names-inside K g r c d v t =
    let (x, y) = names-cell K g r c d v t in
    (x, y, (says_some g d v (names-says K g r c d v t)).0)

-- a value that the word says, by its test
word_value : (d n : ℕ) (b : Bool) → 0 < when (eqb d 0 && b) n → (d < 4) × T b
word_value d n b l =
    let t : T (eqb d 0 && b) = when-some (eqb d 0 && b) n l in
    (omega (arith, eqb→eq d 0 (and_left (eqb d 0) b t)), and_right (eqb d 0) b t)

-- a count that is written, by its test
pub side-written : (K : Job) (r c d : ℕ) → 0 < value_at K laid_sides r c d → (d < 4) × T (is_tile K r c) × T (writes_side r c d)
side-written K r c d l =
    let a : Bool = ltb d 4 in
    let b : Bool = is_tile K r c in
    let w : Bool = writes_side r c d in
    let t : T (a && (b && w)) = when-some (a && (b && w)) (laid_on K (side_of r c d)) l in
    (ltb→lt d 4 (and_left a (b && w) t), and_left b w (and_right a (b && w) t), and_right b w (and_right a (b && w) t))

pub value-inside : (K : Job) (g : Group) (r c d : ℕ) → 0 < value_at K g r c d → (r < K.rows) × (c < K.columns) × (d < 4)
unfolding is_chosen is_missing is_closed
value-inside K chosen_pins r c d l =
    let (x, t) = word_value d 1 (is_chosen K r c) l in
    let (y, z) = pin-inside K r c (and_left (is_pin K r c) (eqb (K.mark r c) 1) t) in
    (y, z, x)
value-inside K missing_pins r c d l =
    let (x, t) = word_value d 2 (is_missing K r c) l in
    let (y, z) = pin-inside K r c (and_left (is_pin K r c) (eqb (K.mark r c) 2) t) in
    (y, z, x)
value-inside K closed_tiles r c d l =
    let (x, t) = word_value d 1 (is_closed K r c) l in
    let (y, z) = tile-inside K r c (and_left (is_tile K r c) (eqb (K.state r c) 1) t) in
    (y, z, x)
value-inside K own_ds r c d l =
    let (z, t) = own-written K r c d l in
    let (x, y) = tile-inside K r c t in
    (x, y, omega (arith, eqb→eq d 0 z))
value-inside K laid_sides r c d l =
    let (x, t, u) = side-written K r c d l in
    let (y, z) = tile-inside K r c t in
    (y, z, x)

pub proper-size : (K : Job) → Proper K → (K.rows ≤ 40) × (K.columns ≤ 40)
proper-size K p =
    let a : Bool = in_range 2 40 K.rows in
    let b : Bool = in_range 2 40 K.columns in
    let most : (n : ℕ) → T (in_range 2 40 n) → n ≤ 40 = λ n t. leb→le n 40 (and_right (leb 2 n) (leb n 40) t) in
    (most K.rows (and_left a b p.array), most K.columns (and_right a b p.array))

-- where no test of an entry is met
untold : (a b : Bool) (n : ℕ) → when (a && (b && false)) n ≡ 0
untold a b n = when-not (a && (b && false)) n (λ t. and_right b false (and_right a (b && false) t))

pub fresh-none : (rows columns O D E : ℕ) (g : Group) (r c d : ℕ) → value_at (fresh rows columns O D E) g r c d ≡ 0
unfolding is_chosen is_missing is_closed
fresh-none rows columns O D E chosen_pins r c d = untold (eqb d 0) (is_pin (fresh rows columns O D E) r c) 1
fresh-none rows columns O D E missing_pins r c d = untold (eqb d 0) (is_pin (fresh rows columns O D E) r c) 2
fresh-none rows columns O D E closed_tiles r c d = untold (eqb d 0) (is_tile (fresh rows columns O D E) r c) 1
fresh-none rows columns O D E own_ds r c d = when-none (eqb d 0 && is_tile (fresh rows columns O D E) r c) 0 (λ t. refl)
fresh-none rows columns O D E laid_sides r c d =
    let J : Job = fresh rows columns O D E in
    none-laid (ltb d 4 && (is_tile J r c && writes_side r c d)) (side_of r c d)
  where
    none-laid : (b : Bool) (s : Side) → when b (laid_on (fresh rows columns O D E) s) ≡ 0
    none-laid true (of_north i j) = refl
    none-laid true (of_west i j) = refl
    none-laid false s = refl

-- a test of an entry is as before, if it is so at the entry changed
put-test : (f : ℕ → ℕ → ℕ) (r c v w i j : ℕ) → (i ≡ r → j ≡ c → eqb v w ≡ eqb (f r c) w) → eqb (put f r c v i j) w ≡ eqb (f i j) w
put-test f r c v w i j h =
    by (eqb i r && eqb j c) here
  where
    here : T (eqb i r && eqb j c) → eqb v w ≡ eqb (f i j) w
    here t =
        let x : i ≡ r = eqb→eq i r (and_left (eqb i r) (eqb j c) t) in
        let y : j ≡ c = eqb→eq j c (and_right (eqb i r) (eqb j c) t) in
        h x y ∙ ap₂ (λ (k l : ℕ). eqb (f k l) w) (sym x) (sym y)

    by : (b : Bool) → (T b → eqb v w ≡ eqb (f i j) w) → eqb (elim b as (λ y. ℕ) [ true ↦ v | false ↦ f i j ]) w ≡ eqb (f i j) w
    by true k = k tt
    by false k = refl

fails : (b : Bool) → (T b → ⊥) → false ≡ b
fails true n = absurd (n tt)
fails false n = refl

-- the value that a word says of a pin or tile, at the entry changed
put-value : (f : ℕ → ℕ → ℕ) (b : Bool) (r c d v n : ℕ) → T (eqb d 0 && eqb v n) → T b → when (eqb d 0 && (b && eqb (put f r c v r c) n)) n ≡ v
put-value f b r c d v n t u =
    let (x, y) = by_word d v n t in
    let w : Bool = eqb (put f r c v r c) n in
    let here : T w = subst (λ (m : ℕ). T (eqb m n)) (sym (put-at f r c v)) (and_right (eqb d 0) (eqb v n) t) in
    when-so (eqb d 0 && (b && w)) n (and_both (eqb d 0) (b && w) (and_left (eqb d 0) (eqb v n) t) (and_both b w u here)) ∙ sym y

pub named_here : (K : Job) (g : Group) (r c d v : ℕ) → T (names K g r c d v) → value_at (named K g r c d v) g r c d ≡ v
unfolding is_chosen is_missing is_closed
named_here K chosen_pins r c d v t =
    put-value K.mark (is_pin K r c) r c d v 1 (names-says K chosen_pins r c d v t) (and_left (is_pin K r c) (says chosen_pins d v) t)
named_here K missing_pins r c d v t =
    let unchosen : Bool = not (eqb (K.mark r c) 1) in
    put-value K.mark (is_pin K r c) r c d v 2 (names-says K missing_pins r c d v t)
    (and_left (is_pin K r c) unchosen (and_left (is_pin K r c && unchosen) (says missing_pins d v) t))
named_here K closed_tiles r c d v t =
    put-value K.state (is_tile K r c) r c d v 1 (names-says K closed_tiles r c d v t) (and_left (is_tile K r c) (says closed_tiles d v) t)
named_here K own_ds r c d v t =
    let z : T (eqb d 0) = and_left (eqb d 0) (ltb 0 v) (names-says K own_ds r c d v t) in
    when-so (eqb d 0 && is_tile K r c) (put K.added.own_d r c v r c) (and_both (eqb d 0) (is_tile K r c) z (names-own K r c d v t).0)
    ∙ put-at K.added.own_d r c v
named_here K laid_sides r c d v t =
    let (a, w, l) = names-laid K r c d v t in
    let (ld, some-v) = says_some laid_sides d v (names-says K laid_sides r c d v t) in
    let b : Bool = ltb d 4 in
    let x : Bool = is_tile K r c in
    let y : Bool = writes_side r c d in
    when-so (b && (x && y)) (laid_on (laid_by K (side_of r c d) v) (side_of r c d)) (and_both b (x && y) (lt→ltb d 4 ld) (and_both x y a w))
    ∙ count-here K (side_of r c d) v

-- a value that a word says is as before, if its test is so at the entry changed
put_keeps : (f : ℕ → ℕ → ℕ) (b : Bool) (r c v n i j e : ℕ) → (e ≡ 0 → i ≡ r → j ≡ c → eqb v n ≡ eqb (f r c) n)
    → when (eqb e 0 && (b && eqb (put f r c v i j) n)) n ≡ when (eqb e 0 && (b && eqb (f i j) n)) n
put_keeps f b r c v n i j e h = by (eqb e 0) (same? e 0)
  where
    by : (x : Bool) → Same e 0 x → when (x && (b && eqb (put f r c v i j) n)) n ≡ when (x && (b && eqb (f i j) n)) n
    by true (same z) = ap (λ (y : Bool). when (b && y) n) (put-test f r c v n i j (h z))
    by false (other z) = refl

-- where no later group has the pin
pub named-else : (K : Job) (g : Group) (r c d v : ℕ) → T (names K g r c d v)
    → ((h : Group) (e : ℕ) → rank (within g) < rank (within h) → 0 < value_at K h r c e → ⊥)
    → (h : Group) (i j e : ℕ) → turn h i j e ≢ turn g r c d → value_at (named K g r c d v) h i j e ≡ value_at K h i j e
unfolding is_chosen is_missing is_closed
named-else K chosen_pins r c d v t f chosen_pins i j e n =
    let (p, q) = by_word d v 1 (names-says K chosen_pins r c d v t) in
    put_keeps K.mark (is_pin K i j) r c v 1 i j e (λ z x y. absurd (n (omega arith)))
named-else K chosen_pins r c d v t f missing_pins i j e n =
    let (p, q) = by_word d v 1 (names-says K chosen_pins r c d v t) in
    let none-missing : T (eqb (K.mark r c) 2) → ⊥ =
    λ u. f missing_pins 0 (omega arith) (omega (arith, when-so (is_pin K r c && eqb (K.mark r c) 2) 2 (and_both (is_pin K r c) _ (and_left (is_pin K r c) (says chosen_pins d v) t) u))) in
    put_keeps K.mark (is_pin K i j) r c v 2 i j e (λ z x y. ap (λ (m : ℕ). eqb m 2) q ∙ fails (eqb (K.mark r c) 2) none-missing)
named-else K chosen_pins r c d v t f closed_tiles i j e n = refl
named-else K chosen_pins r c d v t f own_ds i j e n = refl
named-else K chosen_pins r c d v t f laid_sides i j e n =
    ap (when (ltb e 4 && (is_tile K i j && writes_side i j e))) (counts_same (marked K r c v) K refl (side_of i j e))
named-else K missing_pins r c d v t f chosen_pins i j e n =
    let unchosen : Bool = not (eqb (K.mark r c) 1) in
    let (p, q) = by_word d v 2 (names-says K missing_pins r c d v t) in
    let u : T unchosen = and_right (is_pin K r c) unchosen (and_left (is_pin K r c && unchosen) (says missing_pins d v) t) in
    put_keeps K.mark (is_pin K i j) r c v 1 i j e
    (λ z x y. ap (λ (m : ℕ). eqb m 1) q ∙ fails (eqb (K.mark r c) 1) (T_not (eqb (K.mark r c) 1) u))
named-else K missing_pins r c d v t f missing_pins i j e n =
    let (p, q) = by_word d v 2 (names-says K missing_pins r c d v t) in
    put_keeps K.mark (is_pin K i j) r c v 2 i j e (λ z x y. absurd (n (omega arith)))
named-else K missing_pins r c d v t f closed_tiles i j e n = refl
named-else K missing_pins r c d v t f own_ds i j e n = refl
named-else K missing_pins r c d v t f laid_sides i j e n =
    ap (when (ltb e 4 && (is_tile K i j && writes_side i j e))) (counts_same (marked K r c v) K refl (side_of i j e))
named-else K closed_tiles r c d v t f chosen_pins i j e n = refl
named-else K closed_tiles r c d v t f missing_pins i j e n = refl
named-else K closed_tiles r c d v t f closed_tiles i j e n =
    let (p, q) = by_word d v 1 (names-says K closed_tiles r c d v t) in
    put_keeps K.state (is_tile K i j) r c v 1 i j e (λ z x y. absurd (n (omega arith)))
named-else K closed_tiles r c d v t f own_ds i j e n = refl
named-else K closed_tiles r c d v t f laid_sides i j e n =
    ap (when (ltb e 4 && (is_tile K i j && writes_side i j e))) (counts_same (closed K r c v) K refl (side_of i j e))
named-else K own_ds r c d v t f chosen_pins i j e n = refl
named-else K own_ds r c d v t f missing_pins i j e n = refl
named-else K own_ds r c d v t f closed_tiles i j e n = refl
named-else K own_ds r c d v t f own_ds i j e n =
    let z : d ≡ 0 = eqb→eq d 0 (and_left (eqb d 0) (ltb 0 v) (names-says K own_ds r c d v t)) in
    when-cong (eqb e 0 && is_tile K i j) _ _
    (λ u. let y : e ≡ 0 = eqb→eq e 0 (and_left (eqb e 0) (is_tile K i j) u) in
    put-else K.added.own_d r c v i j (λ p q. n (omega arith)))
named-else K own_ds r c d v t f laid_sides i j e n =
    ap (when (ltb e 4 && (is_tile K i j && writes_side i j e))) (counts-own K r c v (side_of i j e))
named-else K laid_sides r c d v t f chosen_pins i j e n = refl
named-else K laid_sides r c d v t f missing_pins i j e n = refl
named-else K laid_sides r c d v t f closed_tiles i j e n = refl
named-else K laid_sides r c d v t f own_ds i j e n = ap (when (eqb e 0 && is_tile K i j)) (own-laid K (side_of r c d) v i j)
named-else K laid_sides r c d v t f laid_sides i j e n =
    when-cong (ltb e 4 && (is_tile K i j && writes_side i j e)) _ _
    (λ u. let (le, k) = written u in count-other K (side_of r c d) (side_of i j e) v (λ q. n (same_turn le k q)))
  where
    written : T (ltb e 4 && (is_tile K i j && writes_side i j e)) → (e < 4) × T (writes_side i j e)
    written u =
        let a : Bool = ltb e 4 in
        let b : Bool = is_tile K i j in
        let w : Bool = writes_side i j e in
        (ltb→lt e 4 (and_left a (b && w) u), and_right b w (and_right a (b && w) u))

    same_turn : e < 4 → T (writes_side i j e) → side_of i j e ≡ side_of r c d → turn laid_sides i j e ≡ turn laid_sides r c d
    same_turn le k q =
        let ld : d < 4 = (says_some laid_sides d v (names-says K laid_sides r c d v t)).0 in
        let (x, y, z) = one_writer i j e r c d le ld k (names-laid K r c d v t).1 q in
        omega arith

-- ---- a job by what it names

-- the same five numbers
pub record Alike (K J : Job) : Type 0 where
  pub rows : K.rows ≡ J.rows
  pub columns : K.columns ≡ J.columns
  pub O : K.O ≡ J.O
  pub D : K.D ≡ J.D
  pub E : K.E ≡ J.E

pub named-alike : (K J : Job) (g : Group) (r c d v : ℕ) → Alike K J → Alike (named K g r c d v) J
named-alike K J chosen_pins r c d v a = record { rows = a.rows; columns = a.columns; O = a.O; D = a.D; E = a.E }
named-alike K J missing_pins r c d v a = record { rows = a.rows; columns = a.columns; O = a.O; D = a.D; E = a.E }
named-alike K J closed_tiles r c d v a = record { rows = a.rows; columns = a.columns; O = a.O; D = a.D; E = a.E }
named-alike K J own_ds r c d v a = record { rows = a.rows; columns = a.columns; O = a.O; D = a.D; E = a.E }
named-alike K J laid_sides r c d v a = record { rows = a.rows; columns = a.columns; O = a.O; D = a.D; E = a.E }

-- an entry by its tests
by_tests : (b : Bool) (m : ℕ) → T (leb m (when b 2)) → m ≡ when (b && eqb m 1) 1 + when (b && eqb m 2) 2
by_tests false m t = omega (arith, leb→le m 0 t)
by_tests true zero t = refl
by_tests true (suc zero) t = refl
by_tests true (suc (suc zero)) t = refl
by_tests true (suc (suc (suc m))) t = absurd (omega (arith, leb→le (suc (suc (suc m))) 2 t))

by-test : (b : Bool) (m : ℕ) → T (leb m (when b 1)) → m ≡ when (b && eqb m 1) 1
by-test false m t = omega (arith, leb→le m 0 t)
by-test true zero t = refl
by-test true (suc zero) t = refl
by-test true (suc (suc m)) t = absurd (omega (arith, leb→le (suc (suc m)) 1 t))

mark-value : (K : Job) (r c : ℕ) → Proper K → K.mark r c ≡ value_at K chosen_pins r c 0 + value_at K missing_pins r c 0
unfolding is_chosen is_missing
mark-value K r c p = by_tests (is_pin K r c) (K.mark r c) (p.marks r c)

state-value : (K : Job) (r c : ℕ) → Proper K → K.state r c ≡ value_at K closed_tiles r c 0
unfolding is_closed
state-value K r c p = by-test (is_tile K r c) (K.state r c) (p.states r c)

pub job-known : (K J : Job) → Proper K → Proper J → Alike K J → ((g : Group) (r c d : ℕ) → value_at K g r c d ≡ value_at J g r c d) → K ≡ J
job-known K J p q a e =
    λ t. record {
      rows = a.rows t;
      columns = a.columns t;
      O = a.O t;
      D = a.D t;
      E = a.E t;
      mark = λ r c. marks r c t;
      state = λ r c. states r c t;
      added =
          added-known K J p.added q.added (norths-known K J p q (e laid_sides)) (wests-known K J p q (e laid_sides)) (owns-known K J p q (e own_ds)) t;
    }
  where
    marks : (r c : ℕ) → K.mark r c ≡ J.mark r c
    marks r c = mark-value K r c p ∙ (ap₂ ◌+◌ (e chosen_pins r c 0) (e missing_pins r c 0) ∙ sym (mark-value J r c q))

    states : (r c : ℕ) → K.state r c ≡ J.state r c
    states r c = state-value K r c p ∙ (e closed_tiles r c 0 ∙ sym (state-value J r c q))
