-- Feasible loads at the places of a job: a step that may not be taken carries nothing, so nothing leaves or comes where no place is; and what comes to a
-- place leaves it again, but for the wires that a chosen pin starts. Assumes nothing.
use Rattle.std.specs.Prelude.{◌≡◌, ◌⊎◌, Bool, not, ◌&&◌, ℕ, ◌+◌, ◌*◌, ◌/◌, ◌≤◌, ◌<◌, min, leb}
use Rattle.std.proofs.Math.Path.{refl}
use Rattle.std.proofs.Common.{sym, ap, subst, ◌∙◌, inl, inr, le_refl, eq-zero-or-pos, leb→le}
use Rattle.std.proofs.Math.Bool.{true, false}
use mathlib.Core.List.{List, [], ◌∷◌}
use Rattle.std.proofs.Math.Option.{Option, none, some}
use native.Mathlib.Omega.{arith}
use Rattle.std.proofs.Math.Dec.{T, eqb, eqb→eq, not_T, T_not}
use Rattle.sums.specs.Counting.{when, total}
use Rattle.sums.specs.Tests.{and_left, and_right, so, so-not}
use Rattle.sums.specs.Sums.{when-none}
use Rattle.model.specs.Job.{Job, in_range, centre_limit, north_limit, west_limit, tile_d, extra_limit, is_pin, is_tile, is_open, is_chosen, is_missing, on_rim}
use Rattle.model.specs.Links.{Compass, north, east, south, west, pin, missing, centre, nowhere, side, Place, at, the_outside, is_place, beside, pin_at, behind_of, ahead_of, LinkKind, north_side, west_side, corner, spoke, leg, direct, link, limit_of, Step, go, come, turn, head, tail, is_entered, may, limit, pass, around}
use Rattle.model.specs.Near.{size}
use Rattle.model.specs.Loads.{departures, arrivals, Feasible}
use Rattle.channel.specs.Map.{is_none}
use Rattle.model.proofs.Listed.{may-leaves, may-enters}
use Rattle.model.proofs.Own.{Capped, tile-range}

pub when-at-most : (b : Bool) (x : ℕ) → when b x ≤ x
when-at-most true x = le_refl x
when-at-most false x = omega arith

pub turn-turn : (s : Step) → turn (turn s) ≡ s
turn-turn s = λ i. record { link = s.link; forth = twice s.forth i }
  where
    twice : (b : Bool) → not (not b) ≡ b
    twice true = refl
    twice false = refl

-- ---- the steps around a place leave it

module _ (J : Job) where
  abbrev From : Place → List Step → Type 0
  From x [] = Unit {0}
  From x (s ∷ l) = (tail J s ≡ x) × From x l

  beside-tile : (d : Compass) (r c : ℕ) → is_tile J r c ≡ true → beside J d r c ≡ at (side d) r c
  beside-tile d r c e = ap (λ (b : Bool). elim b [ true ↦ at (side d) r c | false ↦ the_outside ]) e

  pin-one : (r c : ℕ) (b : Bool) → eqb (J.mark r c) 2 ≡ b → pin_at J r c ≡ elim b [ true ↦ at missing r c | false ↦ at pin r c ]
  pin-one r c b e = ap (λ (t : Bool). elim t [ true ↦ at missing r c | false ↦ at pin r c ]) e

  pub from-side : (d : Compass) (r c : ℕ) → is_tile J r c ≡ true → From (at (side d) r c) (around (at (side d) r c))
  unfolding head behind_of ahead_of
  from-side north r c e = (beside-tile north r c e, (refl, (refl, (refl, (refl, tt)))))
  from-side east r c e = (refl, (refl, (refl, (refl, (refl, tt)))))
  from-side south r c e = (refl, (refl, (refl, (refl, (refl, tt)))))
  from-side west r c e = (beside-tile west r c e, (refl, (refl, (refl, (refl, tt)))))

  pub from-centre : (r c : ℕ) → From (at centre r c) (around (at centre r c))
  unfolding head behind_of
  from-centre r c = (refl, (refl, (refl, (refl, tt))))

  pub from-missing : (r c : ℕ) → eqb (J.mark r c) 2 ≡ true → From (at missing r c) (around (at missing r c))
  unfolding head behind_of
  from-missing r c e = (pin-one r c true e, (pin-one r c true e, (pin-one r c true e, (pin-one r c true e, tt))))

  pub from-pin : (r c : ℕ) → eqb (J.mark r c) 2 ≡ false → From (at pin r c) (around (at pin r c))
  unfolding head behind_of
  from-pin r c e = (pin-one r c false e, (pin-one r c false e, (pin-one r c false e, (pin-one r c false e, (refl, tt)))))

module _ {J : Job} {f : Step → ℕ} (feasible : Feasible J f) where
  -- ---- steps

  pub idle : (s : Step) → T (not (may J s)) → f s ≡ 0
  idle s n = by (may J (turn s)) refl
    where
      by : (b : Bool) → may J (turn s) ≡ b → f s ≡ 0
      by true e = feasible.against s n (so e)
      by false e = feasible.nowhere s n (so-not e)

  pub loaded-may : (s : Step) → 0 < f s → T (may J s)
  loaded-may s h = by (may J s) refl
    where
      by : (b : Bool) → may J s ≡ b → T (may J s)
      by true e = so e
      by false e = absurd (omega (arith, idle s (so-not e)))

  -- ---- where no place is

  none-leave : (x : Place) (l : List Step) → From J x l → T (not (is_place J x)) → total l f ≡ 0
  unfolding total
  none-leave x [] a n = refl
  none-leave x (s ∷ l) (e, a) n =
      omega (
        arith,
        idle s (not_T (may J s) (λ t. T_not (is_place J x) n (subst (λ (y : Place). T (is_place J y)) e (may-leaves J s t)))),
        none-leave x l a n,
      )

  none-come : (x : Place) (l : List Step) → From J x l → T (not (is_entered J x)) → total l (λ s. f (turn s)) ≡ 0
  unfolding total
  none-come x [] a n = refl
  none-come x (s ∷ l) (e, a) n =
      omega (
        arith,
        idle (turn s)
            (not_T (may J (turn s)) (λ t. T_not (is_entered J x) n (subst (λ (y : Place). T (is_entered J y)) e (may-enters J (turn s) t)))),
        none-come x l a n,
      )

  pub unleft : (x : Place) → From J x (around x) → T (not (is_place J x)) → departures f x ≡ 0
  unfolding departures
  unleft x = none-leave x (around x)

  pub unentered : (x : Place) → From J x (around x) → T (not (is_entered J x)) → arrivals f x ≡ 0
  unfolding arrivals
  unentered x = none-come x (around x)

  -- ---- what comes leaves

  even : (x : Place) → From J x (around x) → is_place J x ≡ is_entered J x → arrivals f x ≡ departures f x
  even x a e = by (is_place J x) refl
    where
      by : (b : Bool) → is_place J x ≡ b → arrivals f x ≡ departures f x
      by true p = feasible.balance x (so p) (so (sym e ∙ p))
      by false p = unentered x a (so-not (sym e ∙ p)) ∙ sym (unleft x a (so-not p))

  pub side-even : (d : Compass) (r c : ℕ) → is_tile J r c ≡ true → arrivals f (at (side d) r c) ≡ departures f (at (side d) r c)
  side-even d r c t = even (at (side d) r c) (from-side J d r c t) refl

  pub centre-even : (r c : ℕ) → arrivals f (at centre r c) ≡ departures f (at centre r c)
  centre-even r c = even (at centre r c) (from-centre J r c) refl

  -- nothing comes straight in
  pub straight_none : (r c : ℕ) → f (come direct r c) ≡ 0
  unfolding head ahead_of
  straight_none r c = idle (come direct r c) (not_T (may J (come direct r c)) (λ t. by (is_chosen J r c && on_rim J r c) (may-leaves J (come direct r c) t)))
    where
      by : (b : Bool) → T (is_place J (elim b [ true ↦ the_outside | false ↦ at nowhere 0 0 ])) → ⊥
      by true t = t
      by false t = t

  -- and nothing goes straight out of a pin that is missing
  pub missing-straight : (r c : ℕ) → (T (is_chosen J r c) → ⊥) → f (go direct r c) ≡ 0
  unfolding head behind_of
  missing-straight r c n = idle (go direct r c) (not_T (may J (go direct r c)) (λ t. n (may-leaves J (go direct r c) t)))

  -- a chosen pin starts what leaves it
  pub pin-even : (r c : ℕ) → departures f (at pin r c) ≡ arrivals f (at missing r c) + when (is_chosen J r c) (departures f (at pin r c))
  unfolding departures arrivals total
  pin-even r c = by (eqb (J.mark r c) 2) refl
    where
      unchosen : eqb (J.mark r c) 2 ≡ true → T (is_chosen J r c) → ⊥
      unchosen e t =
          unfold is_chosen in omega (arith, eqb→eq (J.mark r c) 2 (so e), eqb→eq (J.mark r c) 1 (and_right (is_pin J r c) (eqb (J.mark r c) 1) t))

      started : (b : Bool) → is_chosen J r c ≡ b → eqb (J.mark r c) 2 ≡ false
          → departures f (at pin r c) ≡ arrivals f (at missing r c) + when b (departures f (at pin r c))
      started true p e = omega (arith, unentered (at pin r c) (from-pin J r c e) tt)
      started false p e = omega (arith, unentered (at pin r c) (from-pin J r c e) tt, unleft (at pin r c) (from-pin J r c e) (so-not p))

      by : (b : Bool) → eqb (J.mark r c) 2 ≡ b
          → departures f (at pin r c) ≡ arrivals f (at missing r c) + when (is_chosen J r c) (departures f (at pin r c))
      by true e =
          omega (
            arith,
            even (at missing r c) (from-missing J r c e) refl,
            missing-straight r c (unchosen e),
            when-none (is_chosen J r c) (departures f (at pin r c)) (λ t. absurd (unchosen e t)),
          )
      by false e = started (is_chosen J r c) refl e

  pub centre-none : (r c : ℕ) → T (not (is_open J r c)) → arrivals f (at centre r c) ≡ 0
  centre-none r c = unentered (at centre r c) (from-centre J r c)

  pub missing-none : (r c : ℕ) → T (not (is_missing J r c)) → arrivals f (at missing r c) ≡ 0
  unfolding arrivals total
  missing-none r c n = by (eqb (J.mark r c) 2) refl
    where
      by : (b : Bool) → eqb (J.mark r c) 2 ≡ b → arrivals f (at missing r c) ≡ 0
      by true e = unentered (at missing r c) (from-missing J r c e) n
      by false e = omega (arith, unentered (at pin r c) (from-pin J r c e) tt)

  -- what comes to a centre or a missing pin is within its limit, and nothing where there is none
  pub passed-le : (b : Bool) (r c : ℕ)
      → arrivals f (at (elim b [ true ↦ centre | false ↦ missing ]) r c)
      ≤ when (is_place J (at (elim b [ true ↦ centre | false ↦ missing ]) r c)) (size (pass J (at (elim b [ true ↦ centre | false ↦ missing ]) r c)))
  passed-le true r c = by (is_open J r c) refl
    where
      by : (t : Bool) → is_open J r c ≡ t → arrivals f (at centre r c) ≤ when t (centre_limit J.O (tile_d J r c))
      by true e = feasible.passing (at centre r c) (centre_limit J.O (tile_d J r c)) (so e) refl
      by false e = omega (arith, centre-none r c (so-not e))
  passed-le false r c = by (is_missing J r c) refl
    where
      by : (t : Bool) → is_missing J r c ≡ t → arrivals f (at missing r c) ≤ when t (extra_limit J)
      by true e = feasible.passing (at missing r c) (extra_limit J) (so e) refl
      by false e = omega (arith, missing-none r c (so-not e))

  -- what a step carries is within its link's limit, and nothing where it may not be taken
  pub link-le : (s : Step) (k : Option ℕ) → limit J s.link ≡ k → T (not (may J s && is_none k)) → f s ≤ when (may J s) (size k)
  link-le s k e n = by (may J s) refl k e n
    where
      by : (t : Bool) → may J s ≡ t → (k : Option ℕ) → limit J s.link ≡ k → T (not (t && is_none k)) → f s ≤ when t (size k)
      by true p none e n = absurd (unfold is_none in n)
      by true p (some k) e n = omega (arith, feasible.limits s k e)
      by false p k e n = omega (arith, idle s (so-not p))

  pub step-apart : (s : Step) → min (f s) (f (turn s)) ≡ 0
  step-apart s = by (eq-zero-or-pos (f s))
    where
      by : (f s ≡ 0) ⊎ (0 < f s) → min (f s) (f (turn s)) ≡ 0
      by (inl e) = omega arith
      by (inr p) = omega (arith, feasible.one_way s p)

  -- ---- no more than 16

  spoke-le : (d : Compass) (r c : ℕ) → (f (go (spoke d) r c) ≤ departures f (at centre r c)) × (f (come (spoke d) r c) ≤ arrivals f (at centre r c))
  unfolding departures arrivals total
  spoke-le north r c = (omega arith, omega arith)
  spoke-le east r c = (omega arith, omega arith)
  spoke-le south r c = (omega arith, omega arith)
  spoke-le west r c = (omega arith, omega arith)

  leg-le : (d : Compass) (r c : ℕ) → (f (go (leg d) r c) ≤ departures f (at missing r c)) × (f (come (leg d) r c) ≤ arrivals f (at missing r c))
  unfolding departures arrivals total
  leg-le north r c = (omega arith, omega arith)
  leg-le east r c = (omega arith, omega arith)
  leg-le south r c = (omega arith, omega arith)
  leg-le west r c = (omega arith, omega arith)

  module _ (caps : Capped J) where
    rest : T (in_range J.O (2 * J.O) J.D && in_range 0 16 J.E)
    rest = and_right (in_range 1 8 J.O) (in_range J.O (2 * J.O) J.D && in_range 0 16 J.E) caps.job

    O≤ : J.O ≤ 8
    O≤ =
        leb→le J.O 8
        (and_right (leb 1 J.O) (leb J.O 8) (and_left (in_range 1 8 J.O) (in_range J.O (2 * J.O) J.D && in_range 0 16 J.E) caps.job))

    E≤ : J.E ≤ 16
    E≤ = leb→le J.E 16 (and_right (leb 0 J.E) (leb J.E 16) (and_right (in_range J.O (2 * J.O) J.D) (in_range 0 16 J.E) rest))

    pub passed-small : (b : Bool) (r c : ℕ) → arrivals f (at (elim b [ true ↦ centre | false ↦ missing ]) r c) ≤ 16
    passed-small true r c = omega (arith, passed-le true r c, when-at-most (is_open J r c) (centre_limit J.O (tile_d J r c)), O≤, (tile-range J caps r c).1)
    passed-small false r c = omega (arith, passed-le false r c, when-at-most (is_missing J r c) (extra_limit J), E≤)

    pub step_small : (s : Step) → f s ≤ 16
    unfolding limit_of
    step_small s = by s.link.kind s.link.row s.link.column s.forth
      where
        leg-small : (t : Bool) (d : Compass) (r c : ℕ) (b : Bool) → eqb (J.mark r c) 2 ≡ t → f (record { link = link (leg d) r c; forth = b }) ≤ 16
        leg-small true d r c true e = omega (arith, (leg-le d r c).0, even (at missing r c) (from-missing J r c e) refl, passed-small false r c)
        leg-small true d r c false e = omega (arith, (leg-le d r c).1, passed-small false r c)
        leg-small false d r c b e =
            omega (
              arith,
              feasible.limits (record { link = link (leg d) r c; forth = b }) 1 (ap (λ (t : Bool). elim t [ true ↦ none | false ↦ some 1 ]) e),
            )

        by : (k : LinkKind) (r c : ℕ) (b : Bool) → f (record { link = link k r c; forth = b }) ≤ 16
        by north_side r c b = omega (arith, feasible.limits (record { link = link north_side r c; forth = b }) (north_limit J r c) refl, O≤)
        by west_side r c b = omega (arith, feasible.limits (record { link = link west_side r c; forth = b }) (west_limit J r c) refl, O≤)
        by (corner d) r c b = omega (arith, feasible.limits (record { link = link (corner d) r c; forth = b }) (J.O / 2) refl, O≤)
        by (spoke d) r c true = omega (arith, (spoke-le d r c).0, centre-even r c, passed-small true r c)
        by (spoke d) r c false = omega (arith, (spoke-le d r c).1, passed-small true r c)
        by direct r c b = omega (arith, feasible.limits (record { link = link direct r c; forth = b }) 1 refl)
        by (leg d) r c b = leg-small (eqb (J.mark r c) 2) d r c b refl
