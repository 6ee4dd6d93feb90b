-- `close` meets its contract: the stack from the spot that is met is a closed path. Assumes nothing.
use Rattle.audit.specs.Loops.Rings.{hit-closed}
use Rattle.audit.specs.Loops.Stack.{dfs-forget}
use Rattle.audit.proofs.loops.Search.close.Goals as goal

pub returns-clause-ring : goal.returns-clause-ring
returns-clause-ring c =
    let p = c.requires in
    let f = c.forget.ensures in
    record {
      ring = rw (f.rest.stack, f.rest.slots) (hit-closed p.state c.bare.ensures p.edge _ p.on c.place-from.ensures);
      state = rw (f.rest.stack, f.rest.slots, f.rest.done) (dfs-forget p.state f.rest.marks c.bare.auto.sl f.gone);
    }
