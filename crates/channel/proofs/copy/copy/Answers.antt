-- `copy::copy` meets its contract: as many bytes are written as are read. Assumes nothing.
use mathlib.Core.Path.{ap, sym, ◌∙◌}
use mathlib.Core.List.{◌++◌}
use lib.ListN.{take, drop}
use lib.Seq.{length-take-le}
use Rattle.channel.proofs.copy.copy.Goals as goal

pub copy_from_slice-requires : goal.copy_from_slice-requires
copy_from_slice-requires c =
    length-take-le 32768 c.args.to.now c.requires.1 ∙ sym (length-take-le 32768 c.args.from.now c.requires.0)

pub returns : goal.returns
returns c =
    let from = c.args.from.now in
    let to = c.args.to.now in
    ap (λ xs. xs ++ drop 32768 to) c.copy_from_slice.ensures.after
    ∙ ap (λ n. take 32768 from ++ drop n to) (sym (length-take-le 32768 from c.requires.0))
