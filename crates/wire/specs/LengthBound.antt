-- Document 01, "Length": routes that together exceed no limit have a total length of at most 10 times the side limits added plus 14×E for each missing
-- pin. Each side that a route crosses stands in `sides` and each missing pin that it passes in `places`; there the limits bound how often. Assumes nothing.
use Rattle.std.specs.Prelude.{◌≡◌, refl, Bool, ◌||◌, eqb, leb, ltb}
use Rattle.std.proofs.Math.Bool.{true, false}
use mathlib.Core.List.{List, [], ◌∷◌, Memᴰ}
use Prim.Native.Nat.{ℕ, zero, suc, ◌+◌, ◌*◌, ◌≤◌, ◌<◌}
use native.Mathlib.Omega.{arith}
use Rattle.std.proofs.Math.Dec.{T, ltb→lt}
use Rattle.std.proofs.Common.{eqb→eq, leb→le}
use Rattle.sums.specs.Counting.{when, sum, total, count}
use Rattle.sums.specs.Tests.{so, and_left, and_right, each-has, those-has}
use Rattle.sums.specs.Sums.{when-add, when-so, when-le, sum-le}
use Rattle.sums.specs.Totals.{total-add, total-le, total-has, total-each, total-those}
use Rattle.model.specs.Job.{Job, north_limit, west_limit, extra_limit, is_tile, is_open}
use Rattle.model.specs.Links.{Compass, north, west, compass_code, PlaceKind, pin, missing, centre, outside, nowhere, side, Place, at, is_place, places, is_missing_kind, same_place, LinkKind, north_side, west_side, corner, spoke, leg, direct, Link, link, same_link, behind_of, ahead_of, limit_of, limit, pass, Step, head, is_entered, may}
use Rattle.model.specs.Route.{Chain, Route, uses, visits, Together}
use Rattle.model.specs.Near.{size}
use Rattle.model.specs.Length.{is_side, wire_length, is_link, sides, length_bound}
use Rattle.model.proofs.Listed.{place-listed, may-leaves, may-enters}
use Rattle.model.proofs.Same.{same-link, same_place_lem}
use Rattle.wire.specs.Ways.{way, beside-by}

or_left : (a b : Bool) → T a → T (a || b)
or_left true b t = tt
or_left false b t = absurd t

or_right : (a b : Bool) → T b → T (a || b)
or_right true b t = tt
or_right false b t = t

no-side : (a n : ℕ) → 2 ≤ a → T (leb (a + n) 1) → ⊥
no-side a n h t = omega (arith, leb→le (a + n) 1 t)

no-missing : (d : Compass) → T (eqb (5 + compass_code d) 1) → ⊥
no-missing d t = omega (arith, eqb→eq (5 + compass_code d) 1 t)

module _ (J : Job) where
  -- ---- the sides that are crossed

  unfoldable pub pair : ℕ → ℕ → List Link
  pair r c = link north_side r c ∷ link west_side r c ∷ []

  in-sides : (k : LinkKind) (r c : ℕ) → r < J.rows → c < J.columns → T (is_side (link k r c)) → T (is_link J (link k r c)) → Memᴰ (link k r c) (sides J)
  unfolding sides pair
  in-sides north_side r c p q t u = each-has J.rows r _ p (each-has J.columns c _ q (those-has (is_link J) (pair r c) u (Memᴰ.head refl)))
  in-sides west_side r c p q t u =
      each-has J.rows r _ p (each-has J.columns c _ q (those-has (is_link J) (pair r c) u (Memᴰ.tail (Memᴰ.head refl))))
  in-sides (corner d) r c p q t u = absurd (no-side 2 (compass_code d) (omega arith) t)
  in-sides (spoke d) r c p q t u = absurd (no-side 6 (compass_code d) (omega arith) t)
  in-sides (leg d) r c p q t u = absurd (no-side 10 (compass_code d) (omega arith) t)
  in-sides direct r c p q t u = absurd t

  abbrev In : ℕ → ℕ → Type 0
  In r c = (r < J.rows) × (c < J.columns)

  open_in : (r c : ℕ) → T (is_open J r c) → In (suc r) (suc c)
  unfolding is_open
  open_in r c t =
      let u : T (is_tile J r c) = and_left (is_tile J r c) (eqb (J.state r c) 0) t in (
        ltb→lt (suc r) J.rows (and_left (ltb (suc r) J.rows) (ltb (suc c) J.columns) u),
        ltb→lt (suc c) J.columns (and_right (ltb (suc r) J.rows) (ltb (suc c) J.columns) u),
      )

  open-below : (r c i j : ℕ) → i ≤ suc r → j ≤ suc c → T (is_open J r c) → In i j
  open-below r c i j a b t = let (p, q) = open_in r c t in (omega arith, omega arith)

  side-forth : (k : LinkKind) (r c : ℕ) → T (is_side (link k r c)) → T (is_place J (behind_of J k r c)) → In r c
  unfolding behind_of
  side-forth north_side r c t = beside-by J north r c (λ x. T (is_place J x) → In r c) (open-below r c r c (omega arith) (omega arith)) absurd
  side-forth west_side r zero t = absurd
  side-forth west_side r (suc c) t = open-below r c r (suc c) (omega arith) (omega arith)
  side-forth (corner d) r c t = absurd (no-side 2 (compass_code d) (omega arith) t)
  side-forth (spoke d) r c t = absurd (no-side 6 (compass_code d) (omega arith) t)
  side-forth (leg d) r c t = absurd (no-side 10 (compass_code d) (omega arith) t)
  side-forth direct r c t = absurd t

  side-back : (k : LinkKind) (r c : ℕ) → T (is_side (link k r c)) → T (is_place J (ahead_of J k r c)) → In r c
  unfolding ahead_of
  side-back north_side zero c t = absurd
  side-back north_side (suc r) c t = open-below r c (suc r) c (omega arith) (omega arith)
  side-back west_side r c t = beside-by J west r c (λ x. T (is_place J x) → In r c) (open-below r c r c (omega arith) (omega arith)) absurd
  side-back (corner d) r c t = absurd (no-side 2 (compass_code d) (omega arith) t)
  side-back (spoke d) r c t = absurd (no-side 6 (compass_code d) (omega arith) t)
  side-back (leg d) r c t = absurd (no-side 10 (compass_code d) (omega arith) t)
  side-back direct r c t = absurd t

  side-listed : (l : Link) (b : Bool) → T (may J (way l b)) → T (is_side l) → Memᴰ l (sides J)
  unfolding head
  side-listed l true m t =
      let (p, q) = side-forth l.kind l.row l.column t (may-leaves J (way l true) m) in
      in-sides l.kind l.row l.column p q t (or_left (may J (way l true)) (may J (way l false)) m)
  side-listed l false m t =
      let (p, q) = side-back l.kind l.row l.column t (may-leaves J (way l false) m) in
      in-sides l.kind l.row l.column p q t (or_right (may J (way l true)) (may J (way l false)) m)

  one_side : (s : Step) → T (may J s) → when (is_side s.link) 1 ≤ total (sides J) (λ l. when (same_link l s.link) 1)
  one_side s m = by (is_side s.link) (side-listed s.link s.forth m)
    where
      by : (b : Bool) → (T b → Memᴰ s.link (sides J)) → when b 1 ≤ total (sides J) (λ l. when (same_link l s.link) 1)
      by true f =
          omega (arith, total-has (sides J) (λ l. when (same_link l s.link) 1) (f tt), when-so (same_link s.link s.link) 1 (same-link s.link))
      by false f = omega arith

  sides-le : (x : Place) (ss : List Step) → Chain J x ss → count ss (λ s. is_side s.link) ≤ total (sides J) (λ l. uses l ss)
  unfolding total
  sides-le x [] c = omega arith
  sides-le x (s ∷ ss) c =
      omega (arith, one_side s c.1, sides-le (head J s) ss c.2, total-add (sides J) (λ l. when (same_link l s.link) 1) (λ l. uses l ss))

  -- ---- the missing pins that are passed

  missing-place : (k : PlaceKind) (r c : ℕ) → T (is_missing_kind (at k r c)) → T (is_entered J (at k r c)) → T (is_place J (at k r c))
  missing-place pin r c t u = absurd t
  missing-place missing r c t u = u
  missing-place centre r c t u = absurd t
  missing-place outside r c t u = absurd t
  missing-place nowhere r c t u = absurd t
  missing-place (side d) r c t u = absurd (no-missing d t)

  one-missing : (s : Step) → T (may J s)
      → when (is_missing_kind (head J s)) 1 ≤ total (places J) (λ x. when (is_missing_kind x) (when (same_place x (head J s)) 1))
  one-missing s m =
      by (is_missing_kind (head J s)) refl (λ t. missing-place (head J s).kind (head J s).row (head J s).column t (may-enters J s m))
    where
      by : (b : Bool) → is_missing_kind (head J s) ≡ b → (T b → T (is_place J (head J s)))
          → when b 1 ≤ total (places J) (λ x. when (is_missing_kind x) (when (same_place x (head J s)) 1))
      by true e f =
          omega (
            arith,
            total-has (places J) (λ x. when (is_missing_kind x) (when (same_place x (head J s)) 1)) (place-listed J (head J s) (f tt)),
            when-so (is_missing_kind (head J s)) (when (same_place (head J s) (head J s)) 1) (so e),
            when-so (same_place (head J s) (head J s)) 1 (same_place_lem (head J s)),
          )
      by false e f = omega arith

  missed-add : (a b : Place → ℕ) → total (places J) (λ x. when (is_missing_kind x) (a x + b x))
      ≡ total (places J) (λ x. when (is_missing_kind x) (a x)) + total (places J) (λ x. when (is_missing_kind x) (b x))
  missed-add a b = simp (when-add, total-add)

  missing-le : (x : Place) (ss : List Step) → Chain J x ss
      → count ss (λ s. is_missing_kind (head J s)) ≤ total (places J) (λ x. when (is_missing_kind x) (visits J x ss))
  unfolding total
  missing-le x [] c = omega arith
  missing-le x (s ∷ ss) c =
      omega (arith, one-missing s c.1, missing-le (head J s) ss c.2, missed-add (λ x. when (same_place x (head J s)) 1) (λ x. visits J x ss))

  -- ---- all together

  all-le : (rs : List (Route J)) → total rs (λ p. wire_length J p.steps) ≤ 10 * total (sides J) (λ l. total rs (λ p. uses l p.steps))
      + 14 * total (places J) (λ x. when (is_missing_kind x) (total rs (λ p. visits J x p.steps)))
  unfolding total
  all-le [] = omega arith
  all-le (p ∷ rs) =
      omega (
        arith,
        all-le rs,
        sides-le (at pin p.row p.column) p.steps p.chain,
        missing-le (at pin p.row p.column) p.steps p.chain,
        total-add (sides J) (λ l. uses l p.steps) (λ l. total rs (λ p. uses l p.steps)),
        missed-add (λ x. visits J x p.steps) (λ x. total rs (λ p. visits J x p.steps)),
      )

  pub sides_total : (f : Link → ℕ) → total (sides J) f ≡ sum J.rows (λ r. sum J.columns (λ c. total (pair r c) (λ l. when (is_link J l) (f l))))
  unfolding sides pair
  sides_total f = simp (total-each, total-those)

  module _ (rs : List (Route J)) (F : Together J rs) where
    pair_fits : (r c : ℕ)
        → total (pair r c) (λ l. when (is_link J l) (total rs (λ p. uses l p.steps))) ≤ total (pair r c) (λ l. when (is_link J l) (size (limit J l)))
    unfolding pair total limit_of
    pair_fits r c =
        omega (
          arith,
          when-le (is_link J (link north_side r c)) _ _ (λ t. F.links (link north_side r c) (north_limit J r c) refl),
          when-le (is_link J (link west_side r c)) _ _ (λ t. F.links (link west_side r c) (west_limit J r c) refl),
        )

    sides-fit : total (sides J) (λ l. total rs (λ p. uses l p.steps)) ≤ total (sides J) (λ l. size (limit J l))
    sides-fit =
        rw (sides_total (λ l. total rs (λ p. uses l p.steps)), sides_total (λ l. size (limit J l)))
        (sum-le J.rows _ _ (λ r l. sum-le J.columns _ _ (λ c k. pair_fits r c)))

    missing-fits : (k : PlaceKind) (r c : ℕ) → T (is_missing_kind (at k r c)) → total rs (λ p. visits J (at k r c) p.steps) ≤ size (pass J (at k r c))
    missing-fits pin r c t = absurd t
    missing-fits missing r c t = F.passing (at missing r c) (extra_limit J) refl
    missing-fits centre r c t = absurd t
    missing-fits outside r c t = absurd t
    missing-fits nowhere r c t = absurd t
    missing-fits (side d) r c t = absurd (no-missing d t)

    pub length-bound : total rs (λ p. wire_length J p.steps) ≤ length_bound J
    length-bound =
        omega (
          arith,
          all-le rs,
          sides-fit,
          total-le (places J) (λ x. when (is_missing_kind x) (total rs (λ p. visits J x p.steps))) (λ x. when (is_missing_kind x) (size (pass J x)))
              (λ x. when-le (is_missing_kind x) _ _ (missing-fits x.kind x.row x.column)),
        )
