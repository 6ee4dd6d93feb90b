-- Document 02, K6, "Jobs for load trials": the numbers that are drawn, and the job that they give. Assumes nothing.
use Rattle.std.specs.Prelude.{Bool, true, false, ◌&&◌, ℕ, zero, suc, ◌+◌, ◌-◌, ◌*◌, ◌/◌, ◌%◌, ◌^◌, leb, ltb}
use Rattle.sums.specs.Counting.{when}
use Rattle.model.specs.Job.{Job, fresh, with_marks, with_states, is_pin, is_tile}

-- ---- the numbers

-- the exclusive-or of two numbers of n bits, from the lowest bit on: 1 where the two bits differ, else 0
unfoldable pub exclusive_or : ℕ → ℕ → ℕ → ℕ
exclusive_or zero a b = 0
exclusive_or (suc n) a b = (a + b) % 2 + 2 * exclusive_or n (a / 2) (b / 2)

-- 32 bits shifted left by k: what leaves the 32 bits is lost
abbrev pub left : ℕ → ℕ → ℕ
left k x = x * 2 ^ k % 2 ^ 32

-- shifted right by k
abbrev pub right : ℕ → ℕ → ℕ
right k x = x / 2 ^ k

unfoldable pub mix_left : ℕ → ℕ → ℕ
mix_left k x = exclusive_or 32 x (left k x)

unfoldable pub mix_right : ℕ → ℕ → ℕ
mix_right k x = exclusive_or 32 x (right k x)

-- "The number moves on with each draw by Marsaglia's xorshift: left 13, right 17, left 5, each exclusive-or, 32 bits." The number after x is also what is
-- drawn.
unfoldable pub draw : ℕ → ℕ
draw x = mix_left 5 (mix_right 17 (mix_left 13 x))

-- the number after k draws
unfoldable pub number_after : ℕ → ℕ → ℕ
number_after zero x = x
number_after (suc k) x = draw (number_after k x)

-- ---- the job

-- "A generator starts from a 32-bit number and three percentages: chosen, missing, closed."
pub record Trial : Type 0 where
  pub rows : ℕ
  pub columns : ℕ
  pub O : ℕ
  pub D : ℕ
  pub E : ℕ
  pub seed : ℕ
  pub chosen : ℕ
  pub missing : ℕ
  pub closed : ℕ

abbrev pub trial_of : (rows columns O D E seed chosen missing closed : ℕ) → Trial
trial_of rows columns O D E seed chosen missing closed =
    record { rows = rows; columns = columns; O = O; D = D; E = E; seed = seed; chosen = chosen; missing = missing; closed = closed }

-- "12 a starting number of zero", or one of more than 32 bits
abbrev pub seed_fits : ℕ → Bool
seed_fits seed = ltb 0 seed && ltb seed (2 ^ 32)

-- "13 chosen plus missing above 100, or closed above 100"
abbrev pub percents_fit : (chosen missing closed : ℕ) → Bool
percents_fit chosen missing closed = leb (chosen + missing) 100 && leb closed 100

-- of an array of cells by row and column, the cell (r, c) takes this draw, counted from 0, after `before` others
abbrev pub turn : (before width r c : ℕ) → ℕ
turn before width r c = before + (width * r + c)

abbrev pub drawn_at : Trial → ℕ → ℕ
drawn_at t k = number_after (suc k) t.seed % 100

-- "Each pin by row and column takes one draw modulo 100: below chosen it is chosen, below chosen plus missing it is missing, else idle."
abbrev pub mark_drawn : Trial → ℕ → ℕ
mark_drawn t n = elim (ltb n t.chosen) [ true ↦ 1 | false ↦ elim (ltb n (t.chosen + t.missing)) [ true ↦ 2 | false ↦ 0 ] ]

abbrev pub trial_mark : Trial → ℕ → ℕ → ℕ
trial_mark t r c = mark_drawn t (drawn_at t (turn 0 t.columns r c))

-- "Then each tile, in the same order, takes one draw: it is closed when that modulo 100 is below closed."
abbrev pub state_drawn : Trial → ℕ → ℕ
state_drawn t n = when (ltb n t.closed) 1

abbrev pub trial_state : Trial → ℕ → ℕ → ℕ
trial_state t r c = state_drawn t (drawn_at t (turn (t.columns * t.rows) (t.columns - 1) r c))

-- nothing that requests add is set
abbrev pub trial_job : Trial → Job
trial_job t =
    let J : Job = fresh t.rows t.columns t.O t.D t.E in
    with_states (with_marks J (λ r c. when (is_pin J r c) (trial_mark t r c))) (λ r c. when (is_tile J r c) (trial_state t r c))
