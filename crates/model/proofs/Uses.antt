-- "A limit counts wires in both directions together": a step and its reverse use one link twice. Assumes nothing.
use mathlib.Core.Path.{◌≡◌}
use mathlib.Core.List.{[], ◌∷◌}
use native.Mathlib.Omega.{arith}
use Rattle.sums.specs.Counting.{total}
use Rattle.sums.specs.Sums.{when-so}
use Rattle.model.specs.Links.{same_link, Step, turn}
use Rattle.model.specs.Route.{uses}
use Rattle.model.proofs.Same.{same-link}

pub uses-both-ways : (s : Step) → uses s.link (s ∷ turn s ∷ []) ≡ 2
unfolding total
uses-both-ways s = omega (arith, when-so (same_link s.link s.link) 1 (same-link s.link))
