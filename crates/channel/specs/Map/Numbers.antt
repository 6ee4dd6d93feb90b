-- The numbers of spots and of darts: eight darts to a spot, so that a dart starts and ends at a spot. Assumes nothing.
use Rattle.std.specs.Prelude.{◌≡◌, refl, ℕ, ◌+◌, ◌*◌, ◌/◌, ◌<◌}
use Rattle.std.proofs.Common.{arith}
use Rattle.channel.specs.Map.{spots, darts, rev}
use Rattle.channel.specs.Map.Back.{rev<}

pub spots-is : spots ≡ 13128
unfolding spots
spots-is = refl

pub darts-is : darts ≡ 105024
unfolding darts
darts-is = refl

pub is-spot : {u : ℕ} → u < 13128 → u < spots
unfolding spots
is-spot l = l

pub is-dart : {d : ℕ} → d < 105024 → d < darts
unfolding darts
is-dart l = l

pub dart-below : {d : ℕ} → d < darts → d < 105024
unfolding darts
dart-below l = l

pub slot-dart : (u k : ℕ) → u < spots → k < 8 → 8 * u + k < darts
slot-dart u k l h = omega (arith, spots-is, darts-is)

pub tail-spot : (d : ℕ) → d < darts → d / 8 < spots
tail-spot d l = omega (arith, spots-is, darts-is)

pub head-spot : (d : ℕ) → d < darts → rev d / 8 < spots
head-spot d l = tail-spot (rev d) (rev< d l)
