-- The listing of a short job: its first line, and the entries of its three groups in one row. Assumes nothing.
use Rattle.std.specs.Prelude.{◌≡◌, ℕ, ◌+◌, ◌*◌, ◌/◌, ◌%◌, ◌<◌}
use Rattle.std.proofs.Common.{sym, ◌∙◌, arith}
use Rattle.std.proofs.Math.Path.{ap, ap₂}
use mathlib.Core.List.{List, ◌++◌}
use Rattle.model.specs.Job.{Job}
use Rattle.model.specs.Listing.{line, spread}
use Rattle.listing.specs.Near.{short_word, group_lines, short_listing, near_at, near_from}
use Rattle.listing.specs.Spread.{spread-split, spread-shift}

module _ (J : Job) (near : List ℕ) where
  -- a group in the row
  group-row : (g : ℕ) → spread (near_at J near) (1600 * g + 0) 1600 ≡ spread (group_lines J near g) 0 1600
  group-row g =
      spread-shift (near_at J near) (group_lines J near g) (1600 * g) 1600 0
      (λ q l.
      let few : q < 1600 = omega arith in
      let a : (1600 * g + q) / 1600 ≡ g = omega arith in
      let b : (1600 * g + q) % 1600 ≡ q = omega arith in
      ap₂ (λ (x y : ℕ). group_lines J near x y) a b)

  pub short_row : (k : ℕ) → short_listing J near k ≡ line short_word k ++ near_from J near 0
  unfolding short_listing
  short_row k =
      ap (λ (l : List ℕ). line short_word k ++ l)
      (sym
      (spread-split (near_at J near) 0 1600 3200
      ∙ ap₂ ◌++◌ (group-row 0) (spread-split (near_at J near) 1600 1600 1600 ∙ ap₂ ◌++◌ (group-row 1) (group-row 2))))
