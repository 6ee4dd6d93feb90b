-- Document 01, "Shortfall": near sides, their sum, and the smallest one. Assumes nothing.
use Rattle.std.specs.Prelude.{◌≡◌, ◌⊎◌, Bool, not, ◌&&◌, ℕ, ◌+◌, ◌*◌, ◌≤◌, T}
use Rattle.std.proofs.Math.Option.{Option, none, some}
use Rattle.sums.specs.Counting.{when, total, count}
use Rattle.model.specs.Job.{Job}
use Rattle.model.specs.Links.{compass_code, PlaceKind, pin, missing, centre, outside, nowhere, side, Place, is_place, is_pin_kind, places, Step, head, tail, may, limit, pass, around}

-- "The published order": eight numbers for each cell. Kind 0 is a missing pin's entry, 1 its exit or the chosen pin, 2 to 5 are n, e, s, w, 6 and 7 the
-- centre's entry and exit. 41 cells stand in front of cell (0, 0), so that none of a job's places has the number 0.
abbrev pub spot : ℕ → ℕ → ℕ → ℕ
spot k r c = 8 * (41 + 40 * r + c) + k

-- "A centre or a missing pin counts twice, as entry and exit."
unfoldable pub entry_of : PlaceKind → ℕ → ℕ → ℕ
entry_of pin r c = spot 1 r c
entry_of missing r c = spot 0 r c
entry_of centre r c = spot 6 r c
entry_of outside r c = 0
entry_of nowhere r c = 0
entry_of (side d) r c = spot (2 + compass_code d) r c

unfoldable pub exit_of : PlaceKind → ℕ → ℕ → ℕ
exit_of pin r c = spot 1 r c
exit_of missing r c = spot 1 r c
exit_of centre r c = spot 7 r c
exit_of outside r c = 0
exit_of nowhere r c = 0
exit_of (side d) r c = spot (2 + compass_code d) r c

abbrev pub entry : Place → ℕ
entry x = entry_of x.kind x.row x.column

abbrev pub exit : Place → ℕ
exit x = exit_of x.kind x.row x.column

-- a number of a place's entry or exit
abbrev pub IsSpot : Job → ℕ → Type 0
IsSpot J u = (x : Place) × T (is_place J x) × ((u ≡ entry x) ⊎ (u ≡ exit x))

-- the number of a limit; a link without one is never counted
abbrev pub size : Option ℕ → ℕ
size none = 0
size (some k) = k

module _ (J : Job) (S : ℕ → Bool) where
  -- a chosen pin outside the near side
  abbrev pub far_pin : Place → Bool
  far_pin x = is_pin_kind x && not (S (exit x))

  -- the step leads from near to not near
  abbrev pub leaves : Step → Bool
  leaves s = may J s && (S (exit (tail J s)) && not (S (entry (head J s))))

  -- the entry is near and the exit is not
  abbrev pub splits : Place → Bool
  splits x = S (entry x) && not (S (exit x))

  -- "The near side is a set of chosen pins and places. A link without limit never leads out of it." The outside is no place, so it is never near.
  pub record Near : Type 0 where
    pub within : (i : ℕ) → T (S i) → IsSpot J i
    pub limited : (s : Step) → T (leaves s) → (k : ℕ) × (limit J s.link ≡ some k)

  -- "Its sum is the chosen pins outside it, plus every limit on a link from near to not near, plus the passing limit where the entry is near and the
  -- exit is not."
  unfoldable pub near_sum : ℕ
  near_sum =
      count (places J) far_pin
      + total (places J) (λ x. total (around x) (λ s. when (leaves s) (size (limit J s.link))))
      + total (places J) (λ x. when (splits x) (size (pass J x)))

-- "The near side given has the greatest number as its sum; every other near side has at least that sum, and the one given lies inside every other near
-- side of equal sum."
pub record Smallest (J : Job) (S : ℕ → Bool) (g : ℕ) : Type 0 where
  pub near : Near J S
  pub meets : near_sum J S ≡ g
  pub lowest : (R : ℕ → Bool) → Near J R → g ≤ near_sum J R
  pub least : (R : ℕ → Bool) → Near J R → near_sum J R ≡ g → (i : ℕ) → T (S i) → T (R i)
