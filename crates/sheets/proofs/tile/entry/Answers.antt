-- `tile::entry` meets its contract: the constant array is the table, which has the entry of each four amounts in its place.
use Rattle.sheets.specs.Table.{table}
use Rattle.sheets.proofs.TableExact.{table-value, table-exact}
use Rattle.sheets.proofs.tile.entry.Goals as goal

pub returns : goal.returns
unfolding table
returns c = record {
  value = table-value c.args.n c.args.e c.args.s c.args.w c.requires.0 c.requires.1 c.requires.2 c.requires.3;
  exact = table-exact c.args.n c.args.e c.args.s c.args.w c.requires.0 c.requires.1 c.requires.2 c.requires.3;
}
