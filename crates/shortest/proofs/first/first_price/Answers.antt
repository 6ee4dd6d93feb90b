-- `first::first_price` meets its contract. Assumes nothing.
use mathlib.Core.Path.{sym, ap, ◌∙◌}
use Prim.Native.Nat.{ℕ, ◌/◌, ◌%◌}
use native.Mathlib.Omega.{arith}
use Rattle.model.specs.Record.{job_of}
use Rattle.shortest.specs.FirstPrices.{kind_price}
use Rattle.shortest.specs.FirstRow.{price-none, price-some}
use Rattle.shortest.proofs.first.first_price.Goals as goal

pub returns-then-is_outside : goal.returns-then-is_outside
returns-then-is_outside c = (price-none _ _ (sym c.if-is_outside.true ∙ c.is_outside.ensures), omega arith)

pub returns : goal.returns
returns c =
    let s = c.args in (
      price-some _ _ _ (sym c.if-is_outside.false ∙ c.is_outside.ensures)
          (c.kind_price.ensures.0 ∙ ap (λ (x : ℕ). kind_price (job_of s.job.now) (s.u % 8) (x / 40) (x % 40)) c.beyond-x.ensures),
      c.kind_price.ensures.1,
    )
