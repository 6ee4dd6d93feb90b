-- `cells::cell` meets its contract, from its five parts. Assumes nothing.
use Rattle.channel.specs.Map.{row_of, column_of}
use Rattle.audit.specs.Laws.{caps-fit, cell-is}
use Rattle.audit.proofs.cells.cell.Goals as goal

pub own_fits-requires : goal.own_fits-requires
own_fits-requires c = let s = c.requires in record {
  in_bounds = (c.requires.in_bounds.0, c.requires.in_bounds.1, c.requires.in_bounds.2, c.requires.in_bounds.4);
  t = caps-fit _ c.requires.t;
}

pub links_fit-requires : goal.links_fit-requires
links_fit-requires c = let s = c.requires in record {
  in_bounds = c.requires.in_bounds;
  t = caps-fit _ c.requires.t;
}

pub returns : goal.returns
returns c = let s = c.args in cc (cell-is s.rec.now (row_of s.x) (column_of s.x))
