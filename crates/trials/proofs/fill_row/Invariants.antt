-- What each turn of `fill_row` keeps: the cells of the row before c are filled, and the number is the one after as many draws. Assumes nothing.
use Rattle.std.specs.Prelude.{◌≡◌, List, ℕ, ◌+◌, ◌*◌, ◌≤◌, ◌<◌, length}
use Rattle.model.specs.Trial.{number_after}
use Rattle.trials.specs.Filling.{Filling}
use Rattle.trials.proofs.fill_row.Given as goal

abbrev pub invariant-loop-c : goal.invariant-loop-c
invariant-loop-c g l =
    (length l.rec ≡ length l.initial.rec)
    × ((height first : ℕ) (start : List ℕ) → l.r < height → height ≤ 40 → l.initial.generator.number ≡ number_after (l.width * l.r) first
    → Filling g.P.Plane.tiles height l.width first l.bounds.low l.bounds.high l.r 0 start l.initial.rec
    → (l.generator.number ≡ number_after (l.width * l.r + l.c) first)
    × Filling g.P.Plane.tiles height l.width first l.bounds.low l.bounds.high l.r l.c start l.rec)
