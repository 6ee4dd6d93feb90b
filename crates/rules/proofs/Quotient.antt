-- The quotient and the remainder that antt computes meet the law of division. Assumes nothing.
use Prim.Native.Nat.{ℕ, ◌/◌, ◌%◌, ◌<◌}
use native.Mathlib.Nat.{mod-lt, div-add-mod'}
use Rattle.rules.specs.Rules.{Divided}

pub divided : (n m : ℕ) → 0 < m → Divided n m (n / m) (n % m)
divided n m l = record { whole = div-add-mod' n m; below = mod-lt n l }
