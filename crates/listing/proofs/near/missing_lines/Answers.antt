-- `missing_lines` meets its contract. Assumes nothing.
use Rattle.std.proofs.Common.{◌++◌, sym, ◌∙◌, arith}
use Rattle.model.specs.Listing.{close}
use Rattle.listing.specs.Near.{entry_word, exit_word, near_line, missing_lines}
use Rattle.listing.specs.Puts.{puts_then, puts-if, puts-not}
use Rattle.listing.proofs.near.missing_lines.Goals as goal

pub returns-then-not-is_missing : goal.returns-then-not-is_missing
unfolding missing_lines
returns-then-not-is_missing c =
    let a = c.args in
    (puts-not (near_line a.near.now 0 entry_word close a.cell ++ near_line a.near.now 1 exit_word close a.cell) (sym c.is_missing.ensures ∙ c.if-not-is_missing.true), omega arith)

pub returns : goal.returns
unfolding missing_lines
returns c = (
  puts-if (sym c.is_missing.ensures ∙ c.if-not-is_missing.false) (puts_then c.near_line.ensures.0 c.near_line-2.ensures.0),
  omega arith,
)
