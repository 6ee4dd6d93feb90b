-- The steps of the load bytes: every step on the grid has its own byte, so that the steps along sides are those of the first two planes of loads, and the
-- steps to a missing pin those against the positive way of the legs, four planes: no pin but a missing one is come to. Assumes nothing.
use Rattle.std.specs.Prelude.{◌≡◌, refl, ◌⊎◌, Bool, true, false, not, ◌&&◌, List, ℕ, ◌+◌, ◌-◌, ◌*◌, ◌/◌, ◌%◌, ◌≤◌, ◌<◌, eqb, ltb, get_or}
use Rattle.std.proofs.Common.{sym, ap, subst, ◌∙◌, inl, inr, arith, eq-eqb, ne_eqb, leb-false, leb→le, ltb→lt}
use Rattle.std.specs.Bool.{beq}
use Rattle.std.proofs.Math.Dec.{T, leb, eqb→eq}
use Rattle.sums.specs.Counting.{when, sum}
use Rattle.sums.specs.Tests.{below_or, eqb-iff, so, and_left, and_right, and_both, both_ways, below, below_at, every, every-at}
use Rattle.sums.specs.Sums.{when-and, sum-cong, sum-none, sum-pick}
use Rattle.model.specs.Job.{Job}
use Rattle.model.specs.Links.{Compass, north, east, south, west, compass_code, PlaceKind, pin, missing, centre, outside, nowhere, side, at, is_entered, is_missing_kind, LinkKind, north_side, west_side, corner, spoke, leg, direct, Link, link, link_code, same_link, same_step, behind_of, Step, head, may, around}
use Rattle.model.specs.Length.{is_side}
use Rattle.model.specs.Record.{kinds, load_plane, forth_part, back_part, load}
use Rattle.model.proofs.Listed.{may-enters}
use Rattle.model.proofs.Same.{same-link-eq}
use Rattle.channel.specs.Map.Bools.{is-off}
use Rattle.channel.specs.Map.Grid.{cell-on}
use Rattle.channel.specs.Map.Steps.{OnGrid}
use Rattle.wire.specs.Ways.{way, turn-listed, pin-by}

-- ---- the steps of the load bytes

-- the step of the i-th load byte, one way or the other
abbrev pub byte_step : ℕ → Bool → Step
byte_step i b = way (link (get_or kinds (i / 1600) north_side) (i % 1600 / 40) (i % 40)) b

-- which load byte a step's link has
abbrev byte_of : Step → ℕ
byte_of s = 1600 * link_code s.link.kind + (40 * s.link.row + s.link.column)

code-kind : (n : ℕ) → n < 15 → link_code (get_or kinds n north_side) ≡ n
unfolding below
code-kind n l = eqb→eq _ _ (below_at 15 (λ n. eqb (link_code (get_or kinds n north_side)) n) tt n l)

byte-back : (i : ℕ) → i < 24000 → (b : Bool) → byte_of (byte_step i b) ≡ i
byte-back i l b = omega (arith, code-kind (i / 1600) (omega arith))

-- what a byte has that way
abbrev pub part : Bool → ℕ → ℕ
part b x = elim b [ true ↦ forth_part x | false ↦ back_part x ]

pub byte-load : (rec : List ℕ) (i : ℕ) → i < 24000 → (b : Bool) → load rec (byte_step i b) ≡ part b (get_or rec (3968 + i) 0)
unfolding load
byte-load rec i l b =
    let p = load_plane (get_or kinds (i / 1600) north_side) in
    let e : 768 + 1600 * p + 40 * (i % 1600 / 40) + i % 40 ≡ 3968 + i = omega (arith, code-kind (i / 1600) (omega arith)) in
    ap (part b) (sym (cell-on rec p (i % 1600 / 40) (i % 40) (omega arith) (omega arith)) ∙ ap (λ (a : ℕ). get_or rec a 0) e)

-- a step on the grid is that of its byte alone
byte-same : (i : ℕ) → i < 24000 → (b : Bool) (s : Step) → OnGrid s → same_step (byte_step i b) s ≡ (eqb (byte_of s) i && beq b s.forth)
byte-same i l b s g = ap (λ (t : Bool). t && beq b s.forth) (both_ways (same_link (byte_step i b).link s.link) (eqb (byte_of s) i) to from)
  where
    to : T (same_link (byte_step i b).link s.link) → T (eqb (byte_of s) i)
    to t =
        so (eq-eqb (byte_of s) i
        (ap (λ (y : Link). byte_of (way y b)) (sym (same-link-eq (byte_step i b).link s.link t)) ∙ byte-back i l b))

    from : T (eqb (byte_of s) i) → T (same_link (byte_step i b).link s.link)
    from t =
        let n = link_code s.link.kind in
        let e : byte_of s ≡ i = eqb→eq (byte_of s) i t in
        let k : link_code (byte_step i b).link.kind ≡ n = omega (arith, code-kind (i / 1600) (omega arith), g.row<, g.column<) in
        let r : i % 1600 / 40 ≡ s.link.row = omega (arith, g.row<, g.column<) in
        let c : i % 40 ≡ s.link.column = omega (arith, g.row<, g.column<) in
        and_both (eqb (link_code (byte_step i b).link.kind) n) _ (so (eq-eqb _ n k))
        (and_both (eqb (i % 1600 / 40) s.link.row) _ (so (eq-eqb _ s.link.row r)) (so (eq-eqb _ s.link.column c)))

-- among n load bytes from lo on: it is there once, one way, or not there
module _ (lo n : ℕ) (fits : lo + n ≤ 24000) (b : Bool) (s : Step) (g : OnGrid s) where
  bytes_same : sum n (λ i. when (same_step (byte_step (lo + i) b) s) 1) ≡ sum n (λ i. when (eqb (byte_of s) (lo + i)) (when (beq b s.forth) 1))
  bytes_same =
      sum-cong n _ _
      (λ i l. ap (λ (t : Bool). when t 1) (byte-same (lo + i) (omega arith) b s g) ∙ sym (when-and (eqb (byte_of s) (lo + i)) (beq b s.forth) 1))

  byte-among : lo ≤ byte_of s → byte_of s < lo + n → sum n (λ i. when (same_step (byte_step (lo + i) b) s) 1) ≡ when (beq b s.forth) 1
  byte-among p q =
      bytes_same
      ∙ (sum-cong n _ _ (λ i l. ap (λ (t : Bool). when t (when (beq b s.forth) 1))
      (eqb-iff (byte_of s) (lo + i) (byte_of s - lo) i (λ e. omega arith) (λ e. omega arith)))
      ∙ sum-pick n (byte_of s - lo) (λ i. when (beq b s.forth) 1) (omega arith))

  byte-apart : (byte_of s < lo) ⊎ (lo + n ≤ byte_of s) → sum n (λ i. when (same_step (byte_step (lo + i) b) s) 1) ≡ 0
  byte-apart o =
      bytes_same
      ∙ sum-none n _ (λ i l. ap (λ (t : Bool). when t (when (beq b s.forth) 1)) (ne_eqb (byte_of s) (lo + i) (other i l o)))
    where
      other : (i : ℕ) → i < n → (byte_of s < lo) ⊎ (lo + n ≤ byte_of s) → byte_of s ≡ lo + i → ⊥
      other i l (inl p) e = omega arith
      other i l (inr p) e = omega arith

-- ---- sides

-- along a side one way or the other
abbrev pub side_way : Bool → Step → ℕ
side_way b s = when (is_side s.link && beq b s.forth) 1

pub side-ways : (s : Step) → when (is_side s.link) 1 ≡ side_way true s + side_way false s
side-ways s = by (is_side s.link) s.forth
  where
    by : (a w : Bool) → when a 1 ≡ when (a && beq true w) 1 + when (a && beq false w) 1
    by true true = refl
    by true false = refl
    by false w = refl

pub side-bytes : (b : Bool) (s : Step) → OnGrid s → side_way b s ≡ sum 3200 (λ i. when (same_step (byte_step (0 + i) b) s) 1)
side-bytes b s g = by (is_side s.link) refl
  where
    by : (a : Bool) → is_side s.link ≡ a → when (a && beq b s.forth) 1 ≡ sum 3200 (λ i. when (same_step (byte_step (0 + i) b) s) 1)
    by true e =
        sym (byte-among 0 3200 (omega arith) b s g (omega arith) (omega (arith, leb→le (link_code s.link.kind) 1 (so e), g.row<, g.column<)))
    by false e = sym (byte-apart 0 3200 (omega arith) b s g (inr (omega (arith, leb-false (link_code s.link.kind) 1 e))))

-- ---- missing pins

compass< : (d : Compass) → compass_code d < 4
compass< north = omega arith
compass< east = omega arith
compass< south = omega arith
compass< west = omega arith

-- a step to a pin by one of its legs
abbrev is_inward : Step → Bool
is_inward s = leb 10 (link_code s.link.kind) && (ltb (link_code s.link.kind) 14 && not s.forth)

inward-leg : (s : Step) → T (is_inward s) → (10 ≤ link_code s.link.kind) × (link_code s.link.kind < 14) × (s.forth ≡ false)
inward-leg s t =
    let n = link_code s.link.kind in
    let u : T (ltb n 14 && not s.forth) = and_right (leb 10 n) (ltb n 14 && not s.forth) t in (
      leb→le 10 n (and_left (leb 10 n) (ltb n 14 && not s.forth) t),
      ltb→lt n 14 (and_left (ltb n 14) (not s.forth) u),
      is-off s.forth (and_right (ltb n 14) (not s.forth) u),
    )

module _ (J : Job) where
  -- a missing pin is come to by its legs
  missing-legs : (k : PlaceKind) (r c : ℕ) (s : Step) → head J s ≡ at k r c → T (is_missing_kind (at k r c)) → T (is_entered J (at k r c)) → T (is_inward s)
  unfolding every
  missing-legs pin r c s e t p = absurd t
  missing-legs missing r c s e t p =
      every-at (around (at missing r c)) (λ y. leb 10 (link_code y.link.kind) && (ltb (link_code y.link.kind) 14 && y.forth)) tt
      (turn-listed J s (at missing r c) e p)
  missing-legs centre r c s e t p = absurd t
  missing-legs outside r c s e t p = absurd t
  missing-legs nowhere r c s e t p = absurd t
  missing-legs (side d) r c s e t p = absurd (omega (arith, eqb→eq (5 + compass_code d) 1 t))

  -- and by a leg nothing comes but to a missing pin
  legs-missing : (k : LinkKind) (r c : ℕ) → 10 ≤ link_code k → link_code k < 14 → T (may J (way (link k r c) false))
      → T (is_missing_kind (head J (way (link k r c) false)))
  unfolding head behind_of
  legs-missing north_side r c p q m = absurd (omega arith)
  legs-missing west_side r c p q m = absurd (omega arith)
  legs-missing (corner d) r c p q m = absurd (omega (arith, compass< d))
  legs-missing (spoke d) r c p q m = absurd (omega (arith, compass< d))
  legs-missing (leg d) r c p q m = pin-by J r c (λ x. T (is_entered J x) → T (is_missing_kind x)) (λ t. tt) absurd (may-enters J (way (link (leg d) r c) false) m)
  legs-missing direct r c p q m = absurd (omega arith)

  pub missing-bytes : (s : Step) → OnGrid s → T (may J s)
      → when (is_missing_kind (head J s)) 1 ≡ sum 6400 (λ i. when (same_step (byte_step (16000 + i) false) s) 1)
  missing-bytes s g m = by (is_missing_kind (head J s)) refl
    where
      none : is_missing_kind (head J s) ≡ false → (byte_of s < 16000) ⊎ (16000 ≤ byte_of s) → (byte_of s < 22400) ⊎ (22400 ≤ byte_of s)
          → (w : Bool) → s.forth ≡ w → sum 6400 (λ i. when (same_step (byte_step (16000 + i) false) s) 1) ≡ 0
      none e (inl p) o w v = byte-apart 16000 6400 (omega arith) false s g (inl p)
      none e (inr p) (inr q) w v = byte-apart 16000 6400 (omega arith) false s g (inr q)
      none e (inr p) (inl q) true v = byte-among 16000 6400 (omega arith) false s g p q ∙ ap (λ (b : Bool). when (beq false b) 1) v
      none e (inr p) (inl q) false v =
          absurd (subst T e
          (subst (λ (w : Bool). T (may J (way s.link w)) → T (is_missing_kind (head J (way s.link w)))) (sym v)
          (legs-missing s.link.kind s.link.row s.link.column (omega (arith, g.row<, g.column<)) (omega (arith, g.row<, g.column<))) m))

      by : (a : Bool) → is_missing_kind (head J s) ≡ a → when a 1 ≡ sum 6400 (λ i. when (same_step (byte_step (16000 + i) false) s) 1)
      by true e =
          let (p, q, v) = inward-leg s (missing-legs (head J s).kind (head J s).row (head J s).column s refl (so e) (may-enters J s m)) in
          sym (byte-among 16000 6400 (omega arith) false s g (omega arith) (omega (arith, g.row<, g.column<))
          ∙ ap (λ (b : Bool). when (beq false b) 1) v)
      by false e = sym (none e (below_or (byte_of s) 16000) (below_or (byte_of s) 22400) s.forth refl)
