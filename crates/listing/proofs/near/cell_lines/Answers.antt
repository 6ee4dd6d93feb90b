-- `cell_lines` meets its contract, group by group. Assumes nothing.
use Rattle.listing.specs.Near.{group_lines}
use Rattle.listing.proofs.near.cell_lines.Goals as goal

pub returns-in-Chosen : goal.returns-in-Chosen
unfolding group_lines
returns-in-Chosen c = rw c.in-Chosen.is c.chosen_line.ensures

pub returns-in-Missing : goal.returns-in-Missing
unfolding group_lines
returns-in-Missing c = rw c.in-Missing.is c.missing_lines.ensures

pub returns-in-Tiles : goal.returns-in-Tiles
unfolding group_lines
returns-in-Tiles c = rw c.in-Tiles.is c.tile_lines.ensures
