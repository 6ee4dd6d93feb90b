-- `least_d` is exact: a tile where O is 2 carries amounts at D exactly if their least D is at most D, and so it is the entry that the rule asks for.
-- Assumes nothing.
use Rattle.std.specs.Prelude.{◌≡◌, Bool, true, false, ℕ, ◌+◌, ◌-◌, ◌/◌, ◌≤◌, ◌<◌, min, eqb}
use Rattle.std.proofs.Math.Path.{refl, ap}
use Rattle.std.proofs.Common.{sym, ◌∙◌, ⊎_elim, arith, eqb-true, ne_eqb}
use Rattle.std.proofs.Math.Option.{none, some}
use Rattle.std.proofs.lemmas.Bool.{eqb-false}
use Rattle.sums.specs.Tests.{below_or}
use Rattle.model.specs.Job.{Job}
use Rattle.model.specs.Links.{Compass, centre, at, corner, spoke, limit_of, pass, Step}
use Rattle.model.specs.Sheet.{Inside, amounts, one_tile, Carries, Entry}
use Rattle.sheets.specs.Loading.{Loading, loads, inside-loading, loading-inside}
use Rattle.sheets.specs.Passage.{least3, least_passage, pick, least_d}
use Rattle.sheets.specs.Corners.{loading-balanced, loading-passage, passage-loading}

-- the least D says at which D of 2, 3, 4 there is a loading

least_d-least : (D n e s w : ℕ) → 2 ≤ D → Loading (D - 2) n e s w → least_d n e s w ≤ D
unfolding least_d pick
least_d-least D n e s w low l = go (eqb (n + e + s + w) 8) refl
  where
    go : (b : Bool) → eqb (n + e + s + w) 8 ≡ b → pick b (min (2 + least_passage n e s w) 5) 5 ≤ D
    go true t = omega (arith, loading-passage l)
    go false t = absurd (eqb-false _ _ t (loading-balanced l))

least_d-loading : (D n e s w : ℕ) → D ≤ 4 → least_d n e s w ≤ D → Loading (D - 2) n e s w
unfolding least_d pick
least_d-loading D n e s w high = go (eqb (n + e + s + w) 8) refl
  where
    go : (b : Bool) → eqb (n + e + s + w) 8 ≡ b → pick b (min (2 + least_passage n e s w) 5) 5 ≤ D → Loading (D - 2) n e s w
    go true t le = passage-loading (D - 2) n e s w (eqb-true _ _ t) (omega arith)
    go false t le = absurd (omega arith)

-- a tile of any job where O is 2, whose centre passes what D leaves, carries the amounts exactly if their entry is at most D

module _ (J : Job) (r c D : ℕ) (two : J.O ≡ 2) (passes : pass J (at centre r c) ≡ some (D - 2)) where
  corners-one : (d : Compass) → limit_of J (corner d) r c ≡ some 1
  unfolding limit_of
  corners-one d = ap (λ (o : ℕ). some (o / 2)) two

  spokes-free : (d : Compass) → limit_of J (spoke d) r c ≡ none
  unfolding limit_of
  spokes-free d = refl

  pub carried-entry : (f : Step → ℕ) (n e s w : ℕ) → 2 ≤ D → Inside J r c f (amounts n e s w) (λ d. 2) → least_d n e s w ≤ D
  carried-entry f n e s w low i = least_d-least D n e s w low (inside-loading J r c (D - 2) corners-one spokes-free passes f n e s w i)

  pub entry-carried : (n e s w : ℕ) → D ≤ 4 → least_d n e s w ≤ D → (f : Step → ℕ) × Inside J r c f (amounts n e s w) (λ d. 2)
  entry-carried n e s w high le =
      let l = least_d-loading D n e s w high le in
      (loads l, loading-inside J r c (D - 2) corners-one spokes-free passes l)

carries-entry : (D n e s w : ℕ) → 2 ≤ D → Carries D n e s w → least_d n e s w ≤ D
carries-entry D n e s w low l = carried-entry (one_tile D) 0 0 D refl refl l.0 n e s w low l.1

entry-carries : (D n e s w : ℕ) → D ≤ 4 → least_d n e s w ≤ D → Carries D n e s w
entry-carries D n e s w high le = entry-carried (one_tile D) 0 0 D refl refl n e s w high le

pub least_d-range : (n e s w : ℕ) → (2 ≤ least_d n e s w) × (least_d n e s w ≤ 5)
unfolding least_d pick
least_d-range n e s w = go (eqb (n + e + s + w) 8)
  where
    go : (b : Bool) → (2 ≤ pick b (min (2 + least_passage n e s w) 5) 5) × (pick b (min (2 + least_passage n e s w) 5) 5 ≤ 5)
    go true = omega arith
    go false = omega arith

-- a number from 2 to 5 that is at most D exactly if D carries, for D of 2, 3, 4, is the entry
module _ {n e s w x : ℕ} (low : 2 ≤ x) (high : x ≤ 5)
    (least : (D : ℕ) → 2 ≤ D → Carries D n e s w → x ≤ D) (carries : (D : ℕ) → D ≤ 4 → x ≤ D → Carries D n e s w) where
  above : (D : ℕ) → D ≤ 4 → (Carries D n e s w → ⊥) → D < x
  above D h fails-at = ⊎_elim (λ lt. lt) (λ le. absurd (fails-at (carries D h le))) (below_or D x)

  fails : (D : ℕ) → 2 ≤ D → D < x → Carries D n e s w → ⊥
  fails D h lt l = omega (arith, least D h l)

  entry_of : Entry n e s w x
  entry_of =
      record {
        two = (λ p. carries 2 (omega arith) (omega arith), λ l. omega (arith, least 2 (omega arith) l));
        three = (
          λ p. (carries 3 (omega arith) (omega arith), fails 2 (omega arith) (omega arith)),
          λ t. omega (arith, least 3 (omega arith) t.0, above 2 (omega arith) t.1),
        );
        four = (
          λ p. (carries 4 (omega arith) (omega arith), fails 2 (omega arith) (omega arith), fails 3 (omega arith) (omega arith)),
          λ t. omega (arith, least 4 (omega arith) t.0, above 3 (omega arith) t.2),
        );
        five = (
          λ p. (fails 2 (omega arith) (omega arith), fails 3 (omega arith) (omega arith), fails 4 (omega arith) (omega arith)),
          λ t. omega (arith, above 4 (omega arith) t.2),
        );
      }

pub least_d-exact : (n e s w : ℕ) → Entry n e s w (least_d n e s w)
least_d-exact n e s w =
    entry_of (least_d-range n e s w).0 (least_d-range n e s w).1 (λ D low l. carries-entry D n e s w low l) (λ D high le. entry-carries D n e s w high le)

-- no other number is an entry
pub entry-settled : (n e s w x : ℕ) → Entry n e s w x → x ≡ least_d n e s w
entry-settled n e s w x p = go (least_d n e s w) (least_d-exact n e s w) (least_d-range n e s w)
  where
    go : (y : ℕ) → Entry n e s w y → (2 ≤ y) × (y ≤ 5) → x ≡ y
    go y q range =
        ⊎_elim (λ h. let f : y ≡ 2 = omega (arith, range) in p.two.1 (q.two.0 f) ∙ sym f)
        (λ h. ⊎_elim (λ i. let f : y ≡ 3 = omega (arith, range) in p.three.1 (q.three.0 f) ∙ sym f)
        (λ i. ⊎_elim (λ j. let f : y ≡ 4 = omega (arith, range) in p.four.1 (q.four.0 f) ∙ sym f)
        (λ j. let f : y ≡ 5 = omega (arith, range) in p.five.1 (q.five.0 f) ∙ sym f) (below_or y 5)) (below_or y 4)) (below_or y 3)

-- amounts that do not add to zero have the entry 5
pub unbalanced-five : (n e s w : ℕ) → (n + e + s + w ≡ 8 → ⊥) → least_d n e s w ≡ 5
unfolding least_d pick
unbalanced-five n e s w off = rw (ne_eqb (n + e + s + w) 8 off)

-- two in at w and e, two out at n and s: 2; two in at n and w, two out at e and s: 4

pub across-two : least_d 0 4 0 4 ≡ 2
unfolding least_d least_passage least3 pick
across-two = refl

pub around-four : least_d 4 0 0 4 ≡ 4
unfolding least_d least_passage least3 pick
around-four = refl
