-- `places::step_back` meets its contract: the four ways out are the four cases of `from_exit`. Assumes nothing.
use mathlib.Core.Path.{◌≡◌, sym, ap, subst, ◌∙◌}
use Prim.Native.Nat.{ℕ, ◌<◌}
use lib.Dec.{T}
use Rattle.model.specs.Links.{turn}
use Rattle.channel.specs.Map.{rev, step_of, is_link_dart, dart_of}
use Rattle.channel.specs.Map.Numbers.{is-dart, dart-below}
use Rattle.channel.specs.Map.Entered.{from_exit, exit-straight, exit-entry, exit-twin, exit-same, back-exit, back-range}
use Rattle.channel.proofs.places.step_back.Goals as goal

back_to : (d b r : ℕ) → (d < 105024) × T (is_link_dart d) → b ≡ rev d → r ≡ from_exit b → (r ≡ dart_of (turn (step_of d))) × (r < 105024)
back_to d b r (l, t) e f =
    let q : r ≡ dart_of (turn (step_of d)) = f ∙ ap from_exit e ∙ back-exit d (is-dart l) t in
    (q, subst (λ (n : ℕ). n < 105024) (sym q) (dart-below (back-range d t)))

pub returns-then-entry : goal.returns-then-entry
returns-then-entry c =
    back_to c.args.d _ _ c.requires c.reverse-b.ensures.0
    (exit-straight _ c.if-entry.true c.if-b-ge5.true)

pub returns-then-b-ge5 : goal.returns-then-b-ge5
returns-then-b-ge5 c =
    back_to c.args.d _ _ c.requires c.reverse-b.ensures.0
    (exit-twin _ c.if-entry.false c.if-b-ge5.true)

pub returns-then-entry-2 : goal.returns-then-entry-2
returns-then-entry-2 c =
    back_to c.args.d _ _ c.requires c.reverse-b.ensures.0
    (exit-entry _ c.if-entry-2.true c.if-b-ge5.false)

pub returns : goal.returns
returns c =
    back_to c.args.d _ _ c.requires c.reverse-b.ensures.0
    (exit-same _ c.if-entry-2.false c.if-b-ge5.false)
