-- `loops::stands` meets its contract: the order of the marks excludes a loop beside loads that lead outward, and a ring is one. Assumes nothing.
use borrow.Author.Rules.{rules}
use native.Mathlib.Omega.{arith}
use lib.ListN.{get_or-replicate}
use Rattle.channel.specs.Map.Numbers.{spots-is}
use Rattle.audit.specs.Loops.Stack.{dfs-start}
use Rattle.audit.specs.Loops.Stands.{loop-decided}
use Rattle.audit.proofs.loops.stands.Goals as goal

pub lead_outward-requires : goal.lead_outward-requires
lead_outward-requires c = (search rules, c.rows.ensures.1, c.columns.ensures.1, λ i l. get_or-replicate 32768 i 0 0 l)

pub find-requires : goal.find-requires
find-requires c = (dfs-start (search (rules, spots-is)) (record { all = λ u l. get_or-replicate 13128 u 0 0 (omega (arith, spots-is)) }), search rules)

pub returns : goal.returns
returns c = rw c.is_some.ensures (loop-decided _ _ _ _ _ _ c.lead_outward.ensures c.find.result c.find.ensures)
