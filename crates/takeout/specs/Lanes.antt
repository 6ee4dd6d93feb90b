-- The lanes of a side that an edit of its count takes out, by the two darts of the side's link: a hop by the link is along one of them. Assumes nothing.
use Rattle.std.specs.Prelude.{◌≡◌, refl, ◌⊎◌, Bool, true, false, not, ℕ, zero, suc, ◌+◌, ◌*◌, ◌≤◌, ◌<◌, T}
use Rattle.std.proofs.Common.{sym, ap, subst, ◌∙◌, inl, inr, arith}
use Rattle.model.specs.Job.{side_of}
use Rattle.model.specs.Links.{same_link, Step, turn}
use Rattle.model.specs.Left.{link_of}
use Rattle.model.specs.Near.{spot}
use Rattle.model.proofs.Same.{same-link, same-link-eq}
use Rattle.channel.specs.Map.{darts, step_of, is_link_dart}
use Rattle.channel.specs.Map.Around.{slots_at, Takes, takes-north, takes-east, takes-south, takes-west}

-- a link is taken one way or the other
pub link-ways : (s t : Step) → T (same_link s.link t.link) → (t ≡ s) ⊎ (t ≡ turn s)
link-ways s t same = by s.forth refl t.forth refl
  where
    by : (a : Bool) → s.forth ≡ a → (b : Bool) → t.forth ≡ b → (t ≡ s) ⊎ (t ≡ turn s)
    by true p true q = inl (λ i. record { link = sym (same-link-eq s.link t.link same) i; forth = (q ∙ sym p) i })
    by false p false q = inl (λ i. record { link = sym (same-link-eq s.link t.link same) i; forth = (q ∙ sym p) i })
    by true p false q = inr (λ i. record { link = sym (same-link-eq s.link t.link same) i; forth = (q ∙ sym (ap not p)) i })
    by false p true q = inr (λ i. record { link = sym (same-link-eq s.link t.link same) i; forth = (q ∙ sym (ap not p)) i })

pub link-way : (s t : Step) → t ≡ s → T (same_link s.link t.link)
link-way s t e = subst (λ (u : Step). T (same_link s.link u.link)) (sym e) (same-link s.link)

pub link-turned : (s t : Step) → t ≡ turn s → T (same_link s.link t.link)
link-turned s t e = subst (λ (u : Step). T (same_link s.link u.link)) (sym e) (same-link s.link)

-- the first dart of the place at a side takes the link of the side
pub side-dart : (r c d : ℕ) → r < 39 → c < 39 → d ≤ 3
    → (8 * (8 * (41 + 40 * r + c) + 2 + d) < darts) × T (is_link_dart (8 * (8 * (41 + 40 * r + c) + 2 + d)))
    × ((step_of (8 * (8 * (41 + 40 * r + c) + 2 + d))).link ≡ link_of (side_of r c d))
side-dart r c d lr lc l = by d l
  where
    taken : (k m : ℕ) (s : Step) → 8 * (8 * (41 + 40 * r + c) + 2 + m) ≡ 8 * spot k r c + 0 → Takes (spot k r c) 0 s
        → (8 * (8 * (41 + 40 * r + c) + 2 + m) < darts) × T (is_link_dart (8 * (8 * (41 + 40 * r + c) + 2 + m)))
        × ((step_of (8 * (8 * (41 + 40 * r + c) + 2 + m))).link ≡ s.link)
    taken k m s e t = (
      omega (arith, t.range),
      subst (λ (n : ℕ). T (is_link_dart n)) (sym e) t.linked,
      ap (λ (n : ℕ). (step_of n).link) e ∙ ap (λ (u : Step). u.link) t.step,
    )

    by : (d : ℕ) → d ≤ 3 → (8 * (8 * (41 + 40 * r + c) + 2 + d) < darts) × T (is_link_dart (8 * (8 * (41 + 40 * r + c) + 2 + d)))
        × ((step_of (8 * (8 * (41 + 40 * r + c) + 2 + d))).link ≡ link_of (side_of r c d))
    by zero h = taken 2 0 _ (omega arith) (slots_at (takes-north r c (omega arith) (omega arith)) 0 _ refl)
    by (suc zero) h = taken 3 1 _ (omega arith) (slots_at (takes-east r c (omega arith) (omega arith)) 0 _ refl)
    by (suc (suc zero)) h = taken 4 2 _ (omega arith) (slots_at (takes-south r c (omega arith) (omega arith)) 0 _ refl)
    by (suc (suc (suc zero))) h = taken 5 3 _ (omega arith) (slots_at (takes-west r c (omega arith) (omega arith)) 0 _ refl)
    by (suc (suc (suc (suc d)))) h = absurd (omega arith)
