-- `stands` of an own D meets its contract: what the tile has is read by its cell. Assumes nothing.
use Rattle.std.specs.Prelude.{◌≡◌, refl, Bool, true, false, not, T, ◌<◌}
use Rattle.std.proofs.Common.{arith}
use Rattle.editing.specs.Diagonals.{diagonal-cell, given-as}
use Rattle.editing.proofs.capacities.OwnDiagonalEdit.stands.Goals as goal

not-so : (b : Bool) → T b → not b ≡ false
not-so true t = refl
not-so false t = absurd t

pub returns : goal.returns
returns c =
    let s = c.args.self.now in
    let (g, h) = c.requires in
    let (t, u) = h in
    let (lr, lc) = diagonal-cell c.args.rec.now s.row s.column s.d _ refl (not-so _ t) g in
    let few : s.column < 40 = omega (arith, lc) in
    given-as c.args.rec.now s.row s.column s.d _ refl (not-so _ t) _ refl _ refl (not-so _ u) c.diagonal_at.result few c.diagonal_at.ensures.0 _ refl
