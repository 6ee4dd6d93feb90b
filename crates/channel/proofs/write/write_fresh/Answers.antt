-- `write_fresh` leaves the record of a fresh job: the zeros of `clear`, and five stores at its head. Assumes nothing.
use mathlib.Core.Path.{◌≡◌, ap, ◌∙◌}
use mathlib.Core.List.{List, ◌++◌}
use Prim.Native.Nat.{ℕ}
use lib.ListN.{drop, set}
use lib.Seq.{length-take-le}
use Rattle.channel.specs.Written.{zeros, fresh-written}
use Rattle.channel.proofs.write.write_fresh.Goals as goal

pub returns : goal.returns
returns c =
    let a = c.args in
    let front : c.clear.new.part ≡ zeros 32768 = c.clear.ensures ∙ ap zeros
    (length-take-le 32768 a.rec.now c.requires.record_size_in_bounds) in
    ap (λ (l : List ℕ). set (set (set (set (set (l ++ drop 32768 a.rec.now) 0 a.rows) 1 a.columns) 2 a.o) 3 a.d) 4 a.e) front
    ∙ fresh-written a.rec.now a.rows a.columns a.o a.d a.e c.requires.record_size_in_bounds
