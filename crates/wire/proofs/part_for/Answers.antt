-- `wire::part_for` meets its contract: the place or the rim side, by its spot. Assumes nothing.
use borrow.Author.Rules.{rules}
use mathlib.Core.Path.{sym, ◌∙◌}
use Rattle.channel.specs.Map.Numbers.{darts-is}
use Rattle.wire.specs.Walks.{part_out, place-grid, part-to}
use Rattle.wire.proofs.part_for.Goals as goal

pub head_of-v-requires : goal.head_of-v-requires
head_of-v-requires c = search (rules, darts-is)

pub returns-then-is_outside : goal.returns-then-is_outside
returns-then-is_outside c =
    part_out c.args.rec.now c.requires.0 c.args.hop.dart c.args.hop.lane c.requires.1 _ c.head_of-v.ensures.0
    _ c.place_of.ensures (sym c.is_outside.ensures ∙ c.if-is_outside.true)

pub row_of-requires : goal.row_of-requires
row_of-requires c =
    place-grid c.args.rec.now c.requires.0 c.args.hop.dart c.args.hop.lane c.requires.1 _ c.head_of-v.ensures.0
    (sym c.is_outside.ensures ∙ c.if-is_outside.false)

pub column_of-requires : goal.column_of-requires
column_of-requires c =
    place-grid c.args.rec.now c.requires.0 c.args.hop.dart c.args.hop.lane c.requires.1 _ c.head_of-v.ensures.0
    (sym c.is_outside.ensures ∙ c.if-is_outside.false)

pub returns : goal.returns
returns c =
    part-to c.args.rec.now c.requires.0 c.args.hop.dart c.args.hop.lane c.requires.1 _ c.head_of-v.ensures.0
    (sym c.is_outside.ensures ∙ c.if-is_outside.false) _ _ _ c.row_of.ensures c.column_of.ensures c.place_of-2.ensures
