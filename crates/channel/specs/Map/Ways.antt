-- Which steps may be taken, by the kind of link: a side by the tiles at both sides of it, a corner and a spoke by their tile, a leg by its pin and the
-- tile that it leads into, a direct exit by its pin. Assumes nothing.
use Rattle.std.specs.Prelude.{◌≡◌, Bool, not, ◌&&◌, ◌||◌, ltb}
use Rattle.std.proofs.Math.Path.{refl, sym, ap, subst}
use Rattle.std.proofs.Common.{◌∙◌, add-one, arith, lt-ltb}
use Rattle.std.proofs.Math.Bool.{true, false}
use Prim.Native.Nat.{ℕ, zero, suc, ◌+◌, ◌<◌}
use Rattle.std.proofs.Math.Dec.{T, eqb, ltb→lt}
use Rattle.sums.specs.Tests.{and_left, and_right, so}
use Rattle.model.specs.Job.{Job, is_pin, is_tile, is_open, is_chosen, is_missing, on_rim}
use Rattle.model.specs.Links.{Compass, north, east, south, west, pin, missing, nowhere, side, at, the_outside, is_place, is_entered, beside, pin_at, LinkKind, north_side, west_side, corner, spoke, leg, direct, link, go, come, behind_of, ahead_of, head, may}
use Rattle.channel.specs.Map.Bools.{and_same, and-true, and-false, or-true, or-false}

-- a link within a tile: a corner or a spoke
pub data Within : LinkKind → Type 0 where
  by-corner : {d : Compass} → Within (corner d)
  by-spoke : {d : Compass} → Within (spoke d)

module _ (J : Job) where
  -- ---- beside a tile

  beside-place : (d : Compass) (r c : ℕ) → is_place J (beside J d r c) ≡ is_open J r c
  unfolding is_open
  beside-place d r c = by (is_tile J r c) refl
    where
      by : (b : Bool) → is_tile J r c ≡ b → is_place J (elim b [ true ↦ at (side d) r c | false ↦ the_outside ]) ≡ (is_tile J r c && eqb (J.state r c) 0)
      by true e = refl
      by false e = sym (ap (λ (t : Bool). t && eqb (J.state r c) 0) e)

  beside-entered : (d : Compass) (r c : ℕ) → is_entered J (beside J d r c) ≡ (not (is_tile J r c) || is_open J r c)
  beside-entered d r c = by (is_tile J r c) refl
    where
      by : (b : Bool) → is_tile J r c ≡ b → is_entered J (elim b [ true ↦ at (side d) r c | false ↦ the_outside ]) ≡ (not b || is_open J r c)
      by true e = refl
      by false e = refl

  -- ---- sides

  pub north-rim : (r c : ℕ) → r ≡ 0 → is_open J r c ≡ may J (go north_side r c)
  unfolding may head behind_of ahead_of
  north-rim r c e =
      subst (λ (x : ℕ). is_open J x c ≡ may J (go north_side x c)) (sym e) (sym (ap (λ (b : Bool). b && true) (beside-place north 0 c) ∙ and-true _))

  pub north-in : (r p c : ℕ) → r ≡ suc p → (is_open J r c && is_open J p c) ≡ may J (go north_side r c)
  unfolding may head behind_of ahead_of
  north-in r p c e =
      subst (λ (x : ℕ). (is_open J x c && is_open J p c) ≡ may J (go north_side x c)) (sym e)
      (sym (ap (λ (b : Bool). b && is_open J p c) (beside-place north (suc p) c)))

  pub south-rim : (r c : ℕ) → r ≡ 0 → false ≡ may J (come north_side r c)
  unfolding may head behind_of ahead_of
  south-rim r c e = subst (λ (x : ℕ). false ≡ may J (come north_side x c)) (sym e) refl

  pub south-in : (r p c : ℕ) → r ≡ suc p → (is_open J p c && (not (is_tile J r c) || is_open J r c)) ≡ may J (come north_side r c)
  unfolding may head behind_of ahead_of
  south-in r p c e =
      subst (λ (x : ℕ). (is_open J p c && (not (is_tile J x c) || is_open J x c)) ≡ may J (come north_side x c)) (sym e)
      (sym (ap (λ (b : Bool). is_open J p c && b) (beside-entered north (suc p) c)))

  pub east-rim : (r c : ℕ) → c ≡ 0 → false ≡ may J (go west_side r c)
  unfolding may head behind_of ahead_of
  east-rim r c e = subst (λ (x : ℕ). false ≡ may J (go west_side r x)) (sym e) refl

  pub east-in : (r c p : ℕ) → c ≡ suc p → (is_open J r p && (not (is_tile J r c) || is_open J r c)) ≡ may J (go west_side r c)
  unfolding may head behind_of ahead_of
  east-in r c p e =
      subst (λ (x : ℕ). (is_open J r p && (not (is_tile J r x) || is_open J r x)) ≡ may J (go west_side r x)) (sym e)
      (sym (ap (λ (b : Bool). is_open J r p && b) (beside-entered west r (suc p))))

  pub west-rim : (r c : ℕ) → c ≡ 0 → is_open J r c ≡ may J (come west_side r c)
  unfolding may head behind_of ahead_of
  west-rim r c e =
      subst (λ (x : ℕ). is_open J r x ≡ may J (come west_side r x)) (sym e) (sym (ap (λ (b : Bool). b && true) (beside-place west r 0) ∙ and-true _))

  pub west-in : (r c p : ℕ) → c ≡ suc p → (is_open J r c && is_open J r p) ≡ may J (come west_side r c)
  unfolding may head behind_of ahead_of
  west-in r c p e =
      subst (λ (x : ℕ). (is_open J r x && is_open J r p) ≡ may J (come west_side r x)) (sym e)
      (sym (ap (λ (b : Bool). b && is_open J r p) (beside-place west r (suc p))))

  -- ---- corners, spokes and legs

  pub within-may : {k : LinkKind} → Within k → (f : Bool) (r c : ℕ) → may J (record { link = link k r c; forth = f }) ≡ is_open J r c
  unfolding may head behind_of ahead_of
  within-may by-corner true r c = and_same _
  within-may by-corner false r c = and_same _
  within-may by-spoke true r c = and_same _
  within-may by-spoke false r c = and_same _

  -- what a leg leads to may be entered where it is a place
  leg-entered : (d : Compass) (r c : ℕ) → is_entered J (ahead_of J (leg d) r c) ≡ is_place J (ahead_of J (leg d) r c)
  unfolding ahead_of
  leg-entered north zero c = refl
  leg-entered north (suc r) c = refl
  leg-entered east r c = refl
  leg-entered south r zero = refl
  leg-entered south r (suc c) = refl
  leg-entered west zero c = refl
  leg-entered west (suc r) zero = refl
  leg-entered west (suc r) (suc c) = refl

  pub open-tile : (r c : ℕ) → T (is_open J r c) → (suc r < J.rows) × (suc c < J.columns)
  unfolding is_open
  open-tile r c t =
      let u : T (is_tile J r c) = and_left (is_tile J r c) (eqb (J.state r c) 0) t in
      (ltb→lt _ _ (and_left (ltb (suc r) J.rows) (ltb (suc c) J.columns) u), ltb→lt _ _ (and_right (ltb (suc r) J.rows) (ltb (suc c) J.columns) u))

  pin-within : (r c : ℕ) → r < J.rows → c < J.columns → is_pin J r c ≡ true
  pin-within r c l m = simp (lt-ltb _ _ l, lt-ltb _ _ m)

  -- a pin whose leg leads into a tile is one
  leg-pin : (d : Compass) (r c : ℕ) → T (is_place J (ahead_of J (leg d) r c)) → is_pin J r c ≡ true
  unfolding ahead_of
  leg-pin north zero c t = absurd t
  leg-pin north (suc r) c t = let (l, m) = open-tile r c t in pin-within (suc r) c l (omega arith)
  leg-pin east r c t = let (l, m) = open-tile r c t in pin-within r c (omega arith) (omega arith)
  leg-pin south r zero t = absurd t
  leg-pin south r (suc c) t = let (l, m) = open-tile r c t in pin-within r (suc c) (omega arith) m
  leg-pin west zero c t = absurd t
  leg-pin west (suc r) zero t = absurd t
  leg-pin west (suc r) (suc c) t = let (l, m) = open-tile r c t in pin-within (suc r) (suc c) l m

  -- from the place to the pin: a missing one
  pub leg-come : (d : Compass) (r c : ℕ) → may J (come (leg d) r c) ≡ (eqb (J.mark r c) 2 && is_place J (ahead_of J (leg d) r c))
  unfolding may head behind_of is_missing
  leg-come d r c = by (is_place J (ahead_of J (leg d) r c)) (eqb (J.mark r c) 2) refl refl
    where
      by : (p m : Bool) → is_place J (ahead_of J (leg d) r c) ≡ p → eqb (J.mark r c) 2 ≡ m
          → (p && is_entered J (elim m [ true ↦ at missing r c | false ↦ at pin r c ])) ≡ (m && p)
      by true true e f = ap (λ (b : Bool). b && eqb (J.mark r c) 2) (leg-pin d r c (so e)) ∙ f
      by true false e f = refl
      by false true e f = refl
      by false false e f = refl

  -- from the pin to the place: a chosen or a missing one
  pub leg-go : (d : Compass) (r c : ℕ) → may J (go (leg d) r c) ≡ ((eqb (J.mark r c) 1 || eqb (J.mark r c) 2) && is_place J (ahead_of J (leg d) r c))
  unfolding may head behind_of is_missing is_chosen
  leg-go d r c =
      ap (λ (b : Bool). is_place J (pin_at J r c) && b) (leg-entered d r c)
      ∙ by (is_place J (ahead_of J (leg d) r c)) (eqb (J.mark r c) 2) refl refl
    where
      by : (p m : Bool) → is_place J (ahead_of J (leg d) r c) ≡ p → eqb (J.mark r c) 2 ≡ m
          → (is_place J (elim m [ true ↦ at missing r c | false ↦ at pin r c ]) && p) ≡ ((eqb (J.mark r c) 1 || m) && p)
      by true true e f =
          ap (λ (b : Bool). (b && eqb (J.mark r c) 2) && true) (leg-pin d r c (so e)) ∙ ap (λ (b : Bool). b && true) (f ∙ sym (or-true (eqb (J.mark r c) 1)))
      by true false e f = ap (λ (b : Bool). (b && eqb (J.mark r c) 1) && true) (leg-pin d r c (so e))
          ∙ ap (λ (b : Bool). b && true) (sym (or-false (eqb (J.mark r c) 1)))
      by false m e f = and-false (is_place J (elim m [ true ↦ at missing r c | false ↦ at pin r c ])) ∙ sym (and-false (eqb (J.mark r c) 1 || m))

  -- ---- direct exits

  -- out of a chosen pin on the rim
  pub direct-go : (r c : ℕ) → may J (go direct r c) ≡ (is_chosen J r c && on_rim J r c)
  unfolding may head behind_of ahead_of
  direct-go r c = by (is_chosen J r c) (on_rim J r c)
    where
      by : (a b : Bool) → (a && is_entered J (elim (a && b) [ true ↦ the_outside | false ↦ at nowhere 0 0 ])) ≡ (a && b)
      by true true = refl
      by true false = refl
      by false b = refl

  -- as a program tests it, from the header's numbers
  pub direct-rim : (r c n m : ℕ) (b : Bool) → b ≡ is_chosen J r c → n ≡ J.rows → m ≡ J.columns
      → (b && (((eqb r 0 || eqb (r + 1) n) || eqb c 0) || eqb (c + 1) m)) ≡ may J (go direct r c)
  direct-rim r c n m b e f g =
      rw (e, f, g, add-one r, add-one c) (by (is_chosen J r c) (eqb r 0) (eqb (suc r) J.rows) (eqb c 0) (eqb (suc c) J.columns) ∙ sym (direct-go r c))
    where
      by : (a p q s t : Bool) → (a && (((p || q) || s) || t)) ≡ (a && (p || (q || (s || t))))
      by a true q s t = refl
      by a false true s t = refl
      by a false false s t = refl

  -- never into one
  pub direct-come : (r c : ℕ) → may J (come direct r c) ≡ false
  unfolding may head behind_of ahead_of
  direct-come r c = by (is_chosen J r c && on_rim J r c)
    where
      by : (b : Bool) → (is_place J (elim b [ true ↦ the_outside | false ↦ at nowhere 0 0 ]) && false) ≡ false
      by true = refl
      by false = refl
