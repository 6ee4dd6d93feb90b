-- The steps around a place are steps that leave it; and a step that may be taken comes to a place or to the outside. Both are read
-- off the tables of the two ends of a link. Assumes nothing.
use Rattle.std.specs.Prelude.{◌≡◌, ◌⊎◌, Bool, ◌&&◌, eqb}
use Rattle.std.proofs.Math.Path.{refl, ap}
use Rattle.std.proofs.Common.{◌∙◌, eqb→eq}
use Rattle.std.proofs.Math.Logic.{inl, inr}
use Rattle.std.proofs.Math.Bool.{true, false}
use mathlib.Core.List.{List, [], ◌∷◌, Memᴰ}
use Prim.Native.Nat.{ℕ, zero, suc}
use Rattle.std.proofs.Math.Dec.{T}
use Rattle.sums.specs.Tests.{and_left, and_right}
use Rattle.model.specs.Job.{Job, is_pin, is_tile, is_open, is_chosen, is_missing, on_rim}
use Rattle.model.specs.Links.{Compass, north, east, south, west, PlaceKind, pin, missing, centre, outside, nowhere, side, Place, at, the_outside, holds, is_place, beside, pin_at, LinkKind, north_side, west_side, corner, spoke, leg, direct, Link, behind_of, ahead_of, Step, head, tail, is_entered, may, around, around_of}
use Rattle.model.proofs.Listed.{may-enters}
use Rattle.wire.specs.Ways.{way, beside-by, pin-by}

module _ (J : Job) where
  -- ---- the steps around a place leave it

  Leave : Place → List Step → Type 0
  Leave x [] = Unit {0}
  Leave x (s ∷ l) = (tail J s ≡ x) × Leave x l

  leave-at : (x : Place) (l : List Step) (s : Step) → Leave x l → Memᴰ s l → tail J s ≡ x
  unfolding Leave
  leave-at x [] s v x3 = elim x3 [ ]
  leave-at x (t ∷ l) s v (Memᴰ.head e) = ap (tail J) e ∙ v.0
  leave-at x (t ∷ l) s v (Memᴰ.tail m) = leave-at x l s v.1 m

  open-beside : (d : Compass) (r c : ℕ) → T (is_open J r c) → beside J d r c ≡ at (side d) r c
  unfolding is_open
  open-beside d r c t = by (is_tile J r c) (and_left (is_tile J r c) (eqb (J.state r c) 0) t)
    where
      by : (b : Bool) → T b → elim b as (λ x. Place) [ true ↦ at (side d) r c | false ↦ the_outside ] ≡ at (side d) r c
      by true u = refl
      by false u = absurd u

  marked-pin : (r c m : ℕ) (x : Place) → T (is_pin J r c && eqb (J.mark r c) m)
      → elim (eqb m 2) as (λ x. Place) [ true ↦ at missing r c | false ↦ at pin r c ] ≡ x → pin_at J r c ≡ x
  marked-pin r c m x t e =
      let f : J.mark r c ≡ m = eqb→eq (J.mark r c) m (and_right (is_pin J r c) (eqb (J.mark r c) m) t) in
      ap (λ (n : ℕ). elim (eqb n 2) as (λ x. Place) [ true ↦ at missing r c | false ↦ at pin r c ]) f ∙ e

  kind-leaves : (k : PlaceKind) (r c : ℕ) → T (holds J k r c) → Leave (at k r c) (around_of k r c)
  unfolding Leave head behind_of ahead_of is_chosen is_missing
  kind-leaves pin r c t = let e : pin_at J r c ≡ at pin r c = marked-pin r c 1 (at pin r c) t refl in (e, (e, (e, (e, (refl, tt)))))
  kind-leaves missing r c t = let e : pin_at J r c ≡ at missing r c = marked-pin r c 2 (at missing r c) t refl in (e, (e, (e, (e, tt))))
  kind-leaves centre r c t = (refl, (refl, (refl, (refl, tt))))
  kind-leaves outside r c t = absurd t
  kind-leaves nowhere r c t = absurd t
  kind-leaves (side north) r c t = (open-beside north r c t, (refl, (refl, (refl, (refl, tt)))))
  kind-leaves (side east) r c t = (refl, (refl, (refl, (refl, (refl, tt)))))
  kind-leaves (side south) r c t = (refl, (refl, (refl, (refl, (refl, tt)))))
  kind-leaves (side west) r c t = (open-beside west r c t, (refl, (refl, (refl, (refl, tt)))))

  pub around-leaves : (x : Place) → T (is_place J x) → (s : Step) → Memᴰ s (around x) → tail J s ≡ x
  around-leaves x t s m = leave-at x (around x) s (kind-leaves x.kind x.row x.column t) m

  -- ---- where a step that may be taken comes to

  abbrev Lands : Place → Type 0
  Lands x = T (is_entered J x) → (x ≡ the_outside) ⊎ T (is_place J x)

  ahead-lands : (k : LinkKind) (r c : ℕ) → Lands (ahead_of J k r c)
  unfolding ahead_of
  ahead-lands north_side zero c = λ t. inl refl
  ahead-lands north_side (suc r) c = inr
  ahead-lands west_side r c = beside-by J west r c Lands inr (λ t. inl refl)
  ahead-lands (corner d) r c = inr
  ahead-lands (spoke d) r c = inr
  ahead-lands (leg north) zero c = absurd
  ahead-lands (leg north) (suc r) c = inr
  ahead-lands (leg east) r c = inr
  ahead-lands (leg south) r zero = absurd
  ahead-lands (leg south) r (suc c) = inr
  ahead-lands (leg west) zero c = absurd
  ahead-lands (leg west) (suc r) zero = absurd
  ahead-lands (leg west) (suc r) (suc c) = inr
  ahead-lands direct r c = by (is_chosen J r c && on_rim J r c)
    where
      by : (b : Bool) → Lands (elim b [ true ↦ the_outside | false ↦ at nowhere 0 0 ])
      by true = λ t. inl refl
      by false = absurd

  behind-lands : (k : LinkKind) (r c : ℕ) → Lands (behind_of J k r c)
  unfolding behind_of
  behind-lands north_side r c = beside-by J north r c Lands inr (λ t. inl refl)
  behind-lands west_side r zero = λ t. inl refl
  behind-lands west_side r (suc c) = inr
  behind-lands (corner d) r c = inr
  behind-lands (spoke d) r c = inr
  behind-lands (leg d) r c = pin-by J r c Lands inr absurd
  behind-lands direct r c = absurd

  way-lands : (l : Link) (b : Bool) → Lands (head J (way l b))
  unfolding head
  way-lands l true = ahead-lands l.kind l.row l.column
  way-lands l false = behind-lands l.kind l.row l.column

  pub step-lands : (s : Step) → T (may J s) → (head J s ≡ the_outside) ⊎ T (is_place J (head J s))
  step-lands s m = way-lands s.link s.forth (may-enters J s m)
