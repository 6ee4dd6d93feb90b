-- `count_array` adds up the parts of the array line. Assumes nothing.
use mathlib.Core.Path.{◌≡◌, ap, ◌∙◌}
use Prim.Native.Nat.{ℕ}
use native.Mathlib.Omega.{arith}
use lib.ListN.{length}
use Rattle.model.specs.Record.{job_of}
use Rattle.model.specs.Text.{decimal}
use Rattle.writing.proofs.Counted.{array-counted}
use Rattle.writing.proofs.count.count_array.Goals as goal

size : {m n : ℕ} → m ≡ n → length (decimal m) ≡ length (decimal n)
size e = ap (λ (k : ℕ). length (decimal k)) e

pub returns : goal.returns
returns c =
    let J = job_of c.args.rec.now in (
      omega (
        arith,
        array-counted J,
        c.digits.ensures.0 ∙ size c.rows.ensures.0,
        c.digits-2.ensures.0 ∙ size c.columns.ensures.0,
        c.digits-3.ensures.0 ∙ size c.orthogonal.ensures.0,
        c.digits-4.ensures.0 ∙ size c.diagonal.ensures.0,
        c.digits-5.ensures.0 ∙ size c.extra.ensures.0,
      ),
      omega arith,
    )
