-- A step as a link with a way; the turn of a step that comes to a place is around it; and the ends of a link that depend on the array or on a mark, taken
-- apart. Assumes nothing.
use Rattle.std.specs.Prelude.{◌≡◌, refl, Bool, true, false, not, ℕ, T, eqb}
use Rattle.std.proofs.Common.{sym, ap, subst, ◌∙◌}
use mathlib.Core.List.{Memᴰ}
use Rattle.model.specs.Job.{Job, is_tile}
use Rattle.model.specs.Links.{Compass, pin, missing, side, Place, at, the_outside, is_place, beside, pin_at, Link, Step, head, tail, turn, around}
use Rattle.model.proofs.Listed.{step-listed}

abbrev pub way : Link → Bool → Step
way l b = record { link = l; forth = b }

pub turn-turn : (s : Step) → turn (turn s) ≡ s
turn-turn s = ap (way s.link) (twice s.forth)
  where
    twice : (b : Bool) → not (not b) ≡ b
    twice true = refl
    twice false = refl

pub turn-listed : (J : Job) (s : Step) (x : Place) → head J s ≡ x → T (is_place J x) → Memᴰ (turn s) (around x)
turn-listed J s x e p =
    let back : tail J (turn s) ≡ x = ap (head J) (turn-turn s) ∙ e in
    subst (λ (y : Place). Memᴰ (turn s) (around y)) back (step-listed J (turn s) (subst (λ (y : Place). T (is_place J y)) (sym back) p))

pub beside-by : (J : Job) (d : Compass) (r c : ℕ) (P : Place → Type 0) → P (at (side d) r c) → P the_outside → P (beside J d r c)
beside-by J d r c P a b = by (is_tile J r c)
  where
    by : (t : Bool) → P (elim t [ true ↦ at (side d) r c | false ↦ the_outside ])
    by true = a
    by false = b

pub pin-by : (J : Job) (r c : ℕ) (P : Place → Type 0) → P (at missing r c) → P (at pin r c) → P (pin_at J r c)
pin-by J r c P a b = by (eqb (J.mark r c) 2)
  where
    by : (t : Bool) → P (elim t [ true ↦ at missing r c | false ↦ at pin r c ])
    by true = a
    by false = b
