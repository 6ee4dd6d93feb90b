-- `fill_row` meets its contract: each turn fills a cell by the next draw, and behind the last cell the next row begins. Assumes nothing.
use Rattle.std.specs.Prelude.{◌≡◌, ℕ, ◌+◌, ◌*◌, ◌%◌}
use Rattle.std.proofs.Common.{ap, subst, ◌∙◌, arith}
use Rattle.model.specs.Trial.{number_after}
use Rattle.trials.specs.Filling.{value_drawn, Filling, filling-cell, filling-turn, after-cell, same_row}
use Rattle.trials.proofs.fill_row.Goals as goal

pub loop-c-preserved : goal.loop-c-preserved
loop-c-preserved g c =
    let a = c.args in
    let l = c.loop-c in (
      c.put.auto.rec ∙ l.invariant.0,
      λ height first start lr le e f.
          let (n, F) = l.invariant.1 height first start lr le e f in
          let m = after-cell a.width first a.r l.c l.generator.number c.next.result n c.next.ensures.0 in (
            c.next.ensures.1 ∙ (m ∙ same_row a.width first a.r l.c),
            filling-cell g.P.Plane.tiles height a.width first a.bounds.low a.bounds.high a.r l.c lr c.loop-c-test.true le c.requires.row.1 start l.rec _
                c.value_of.result F (c.value_of.ensures.0 ∙ ap (λ (x : ℕ). value_drawn a.bounds.low a.bounds.high (x % 100)) m) c.put.ensures,
          ),
    )

pub returns : goal.returns
returns g c =
    let a = c.args in
    let l = c.loop-c in
    let w : l.c ≡ a.width = omega arith in
    λ height first start lr le e f.
    let (n, F) = l.invariant.1 height first start lr le e f in
    let k : a.width * a.r + l.c ≡ a.width * (a.r + 1) = omega (arith, w) in (
      n ∙ ap (λ (x : ℕ). number_after x first) k,
      filling-turn g.P.Plane.tiles height a.width first a.bounds.low a.bounds.high a.r start l.rec
          (subst (λ (x : ℕ). Filling g.P.Plane.tiles height a.width first a.bounds.low a.bounds.high a.r x start l.rec) w F),
    )
