-- `route::lacking` meets its contract: a legal record holds its own loads. Assumes nothing.
use mathlib.Core.Path.{◌∙◌}
use Rattle.search.specs.Routing.{unwired-count, legal-held}
use Rattle.search.proofs.route.lacking.Goals as goal

pub returns : goal.returns
returns c = c.unwired.ensures ∙ unwired-count (legal-held c.requires)
