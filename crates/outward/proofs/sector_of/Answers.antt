-- `sector_of` meets its contract. Assumes nothing.
use mathlib.Core.Path.{ap, ◌∙◌}
use Prim.Native.Nat.{ℕ}
use lib.Dec.{ltb}
use Rattle.outward.specs.Outward.{picked}
use Rattle.outward.proofs.sector_of.Goals as goal

pub returns : goal.returns
returns c P r e f m =
    let (a, b) = c.pick-2.ensures in
    let (x, y) = c.pick.ensures in
    let l = ap (λ (n : ℕ). ltb c.args.c n) e in
    let h = ap (λ (n : ℕ). ltb c.args.c n) f in
    picked P r c.args.c c.args.middle m (λ t. a (l ∙ t)) (λ t. b (l ∙ t)) (λ t. x (h ∙ t)) (λ t. y (h ∙ t))
