-- The wires where none is lacking, else the near side. Assumes nothing.
use Rattle.escape.specs.Prints.{lists-wires, lists-lacks}
use Rattle.escape.proofs.show_routed.Goals as goal

pub returns-then-short-eq0 : goal.returns-then-short-eq0
returns-then-short-eq0 g c =
    (_, lists-wires c.route_all-short.ensures c.if-short-eq0.true, c.show_wires.ensures.handed, c.show_wires.ensures.held)

pub returns : goal.returns
returns g c = (_, lists-lacks c.route_all-short.ensures c.if-short-eq0.false, c.show_near.ensures.handed, c.show_near.ensures.held)
