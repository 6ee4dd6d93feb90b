-- `route::lacks` meets its contract. Assumes nothing.
use Rattle.std.proofs.Common.{not}
use Rattle.std.proofs.Common.{ap}
use borrow.Author.Rules.{rules}
use mathlib.Core.Path.{sym, ◌∙◌}
use native.Mathlib.Omega.{arith}
use Rattle.channel.specs.Map.Numbers.{spots-is}
use Rattle.augment.specs.Answers.{yes-not, no-not}
use Rattle.search.specs.Routing.{lacks-no-pin, lacks-no-wire, lacks-one}
use Rattle.search.proofs.route.lacks.Goals as goal

pub is_start-requires : goal.is_start-requires
is_start-requires c = search (rules, spots-is)

pub returns-then-not-is_start : goal.returns-then-not-is_start
returns-then-not-is_start c = (lacks-no-pin _ _ _ (no-not c.is_start.ensures (ap not c.if-not-is_start.true)), omega arith)

pub wire_starts-requires : goal.wire_starts-requires
wire_starts-requires c = search (rules, spots-is)

pub returns-then-wire_starts-ne0 : goal.returns-then-wire_starts-ne0
returns-then-wire_starts-ne0 c = (lacks-no-wire _ _ _ (λ z. c.if-wire_starts-ne0.true (c.wire_starts.ensures ∙ z)), omega arith)

pub returns : goal.returns
returns c = (lacks-one _ _ _ (yes-not c.is_start.ensures (ap not c.if-not-is_start.false)) (sym c.wire_starts.ensures ∙ c.if-wire_starts-ne0.false), omega arith)
