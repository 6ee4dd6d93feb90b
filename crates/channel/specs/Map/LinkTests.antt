-- The tests of a dart's link, as a program makes them from the number of the cell that owns it: the step may be taken, the way ahead leads to a place, the
-- mark of the pin; and where each leg leads. Assumes nothing.
use Rattle.std.specs.Prelude.{◌≡◌, ◌≢◌, Bool, ◌&&◌, ℕ, suc, ◌+◌, ◌-◌, ◌/◌, ◌%◌, ◌≤◌, ◌<◌, eqb, get_or}
use Rattle.std.proofs.Math.Path.{refl, ap, subst}
use Rattle.std.proofs.Common.{sym, ◌∙◌, arith}
use Rattle.std.proofs.Math.Bool.{true, false}
use Rattle.sums.specs.Counting.{when}
use Rattle.sums.specs.Tests.{Same, same, other, same?}
use Rattle.model.specs.Job.{Job, is_open}
use Rattle.model.specs.Links.{is_place, north_side, link, Step, ahead_of, may}
use Rattle.model.specs.Record.{kinds}
use Rattle.channel.specs.Map.{kind_of, owner_of, sign_of, may_take, reaches, owner_mark, in_grid, row_of, column_of, owner_cell, step_of}
use Rattle.channel.specs.Map.Grid.{grid-low, grid-high, test_at}
use Rattle.channel.specs.Map.Bytes.{owner-is}

module _ (J : Job) (d o : ℕ) (e : o ≡ owner_of (d % 64)) where
  off-low : (b : Bool) → d / 64 + o < 41 → false ≡ (in_grid (owner_cell d) && b)
  off-low b l = rw (grid-low (owner_cell d) (subst (λ (x : ℕ). x < 41) (owner-is d o e) l))

  off-high : (b : Bool) → 1641 ≤ d / 64 + o → false ≡ (in_grid (owner_cell d) && b)
  off-high b l = rw (grid-high (owner_cell d) (subst (λ (x : ℕ). 1641 ≤ x) (owner-is d o e) l))

  on : (f : ℕ → ℕ → Bool) (b : Bool) → 41 ≤ d / 64 + o → d / 64 + o < 1641 → b ≡ f ((d / 64 + o - 41) / 40) ((d / 64 + o - 41) % 40)
      → b ≡ (in_grid (owner_cell d) && f (row_of (owner_cell d)) (column_of (owner_cell d)))
  on f b l m q = subst (λ (x : ℕ). b ≡ (in_grid x && f (row_of x) (column_of x))) (owner-is d o e) (test_at (d / 64 + o) f b l m q)

  pub take-low : d / 64 + o < 41 → false ≡ may_take J d
  unfolding may_take
  take-low l = off-low (may J (step_of d)) l

  pub take-high : 1641 ≤ d / 64 + o → false ≡ may_take J d
  unfolding may_take
  take-high l = off-high (may J (step_of d)) l

  -- the step of the link of kind number k at (r, c) in the direction of sign s
  abbrev step_at : ℕ → ℕ → ℕ → ℕ → Step
  step_at k s r c = record { link = link (get_or kinds k north_side) r c; forth = eqb s 0 }

  pub take_in : (k s : ℕ) → k ≡ kind_of (d % 64) → s ≡ sign_of (d % 64) → 41 ≤ d / 64 + o → d / 64 + o < 1641 → (b : Bool)
      → b ≡ may J (step_at k s ((d / 64 + o - 41) / 40) ((d / 64 + o - 41) % 40)) → b ≡ may_take J d
  unfolding may_take step_of
  take_in k s p q l m b f =
      on (λ r c. may J (step_at (kind_of (d % 64)) (sign_of (d % 64)) r c)) b l m
      (subst (λ (s : ℕ). b ≡ may J (step_at (kind_of (d % 64)) s ((d / 64 + o - 41) / 40) ((d / 64 + o - 41) % 40))) q
      (subst (λ (k : ℕ). b ≡ may J (step_at k s ((d / 64 + o - 41) / 40) ((d / 64 + o - 41) % 40))) p f))

  pub reach-low : d / 64 + o < 41 → false ≡ reaches J d
  unfolding reaches
  reach-low l = off-low _ l

  pub reach-high : 1641 ≤ d / 64 + o → false ≡ reaches J d
  unfolding reaches
  reach-high l = off-high _ l

  pub reach-in : (k : ℕ) → k ≡ kind_of (d % 64) → 41 ≤ d / 64 + o → d / 64 + o < 1641 → (b : Bool)
      → b ≡ is_place J (ahead_of J (get_or kinds k north_side) ((d / 64 + o - 41) / 40) ((d / 64 + o - 41) % 40)) → b ≡ reaches J d
  unfolding reaches step_of
  reach-in k p l m b f =
      on (λ r c. is_place J (ahead_of J (get_or kinds (kind_of (d % 64)) north_side) r c)) b l m
      (subst (λ (k : ℕ). b ≡ is_place J (ahead_of J (get_or kinds k north_side) ((d / 64 + o - 41) / 40) ((d / 64 + o - 41) % 40))) p f)

  pub owner-mark : (m : ℕ) → m ≡ when (in_grid (d / 64 + o)) (J.mark (row_of (d / 64 + o)) (column_of (d / 64 + o))) → m ≡ owner_mark J d
  unfolding owner_mark
  owner-mark m f = f ∙ ap (λ (x : ℕ). when (in_grid x) (J.mark (row_of x) (column_of x))) (owner-is d o e)

-- where a leg leads
module _ (J : Job) (k r : ℕ) where
  leads : (n x c : ℕ) (b : Bool) → k ≡ n → r ≡ x → b ≡ is_place J (ahead_of J (get_or kinds n north_side) x c)
      → b ≡ is_place J (ahead_of J (get_or kinds k north_side) r c)
  leads n x c b e f q =
      subst (λ (z : ℕ). b ≡ is_place J (ahead_of J (get_or kinds k north_side) z c)) (sym f)
      (subst (λ (z : ℕ). b ≡ is_place J (ahead_of J (get_or kinds z north_side) x c)) (sym e) q)

  pub east-leg : (c : ℕ) → k ≡ 11 → is_open J r c ≡ is_place J (ahead_of J (get_or kinds k north_side) r c)
  unfolding ahead_of
  east-leg c e = leads 11 r c _ e refl refl

  pub south-rim-leg : (c : ℕ) → k ≡ 12 → c ≡ 0 → false ≡ is_place J (ahead_of J (get_or kinds k north_side) r c)
  unfolding ahead_of
  south-rim-leg c e f = subst (λ (z : ℕ). false ≡ is_place J (ahead_of J (get_or kinds k north_side) r z)) (sym f) (leads 12 r 0 _ e refl refl)

  pub south-leg : (c p : ℕ) → k ≡ 12 → c ≡ suc p → is_open J r p ≡ is_place J (ahead_of J (get_or kinds k north_side) r c)
  unfolding ahead_of
  south-leg c p e f = subst (λ (z : ℕ). is_open J r p ≡ is_place J (ahead_of J (get_or kinds k north_side) r z)) (sym f) (leads 12 r (suc p) _ e refl refl)

  -- the legs 10 and 13
  pub north-rim-leg : (c : ℕ) → 10 ≤ k → k < 14 → k ≢ 11 → k ≢ 12 → r ≡ 0 → false ≡ is_place J (ahead_of J (get_or kinds k north_side) r c)
  unfolding ahead_of
  north-rim-leg c l m n p f = by (eqb k 10) (same? k 10)
    where
      by : (b : Bool) → Same k 10 b → false ≡ is_place J (ahead_of J (get_or kinds k north_side) r c)
      by true (same e) = leads 10 0 c _ e f refl
      by false (other e) = leads 13 0 c _ (omega arith) f refl

  pub north-leg : (p c : ℕ) → k ≡ 10 → r ≡ suc p → is_open J p c ≡ is_place J (ahead_of J (get_or kinds k north_side) r c)
  unfolding ahead_of
  north-leg p c e f = leads 10 (suc p) c _ e f refl

  pub west-rim-leg : (p c : ℕ) → k ≡ 13 → r ≡ suc p → c ≡ 0 → false ≡ is_place J (ahead_of J (get_or kinds k north_side) r c)
  unfolding ahead_of
  west-rim-leg p c e f g = subst (λ (z : ℕ). false ≡ is_place J (ahead_of J (get_or kinds k north_side) r z)) (sym g) (leads 13 (suc p) 0 _ e f refl)

  pub west-leg : (p c q : ℕ) → k ≡ 13 → r ≡ suc p → c ≡ suc q → is_open J p q ≡ is_place J (ahead_of J (get_or kinds k north_side) r c)
  unfolding ahead_of
  west-leg p c q e f g = subst (λ (z : ℕ). is_open J p q ≡ is_place J (ahead_of J (get_or kinds k north_side) r z)) (sym g) (leads 13 (suc p) (suc q) _ e f refl)
