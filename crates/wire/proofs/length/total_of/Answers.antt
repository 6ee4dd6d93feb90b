-- `length::total_of` meets its contract: `n` is the sum of the bytes passed. Assumes nothing.
use Rattle.std.proofs.Common.{◌≡◌, ◌∙◌, length, get_or, arith, refl}
use Rattle.sums.specs.Counting.{sum}
use Rattle.wire.specs.Total.{sum-next}
use Rattle.wire.proofs.length.total_of.Goals as goal

pub loop-b-init : goal.loop-b-init
unfolding sum
loop-b-init g c = (omega arith, omega arith, c.requires.1, λ count h. refl)

pub loop-b-preserved : goal.loop-b-preserved
loop-b-preserved g c =
    let l = c.loop-b in
    let bytes = c.args.bytes.now in
    let x : c.from-n.result ≡ c.part.result = omega arith in (
      omega arith,
      omega arith,
      l.invariant.2,
      λ count h. sum-next l.b-index (λ i. count (get_or bytes i 0)) _ _ (l.invariant.3 count h) (x ∙ h _ _ c.part.ensures),
    )

pub returns-clause-total : goal.returns-clause-total
returns-clause-total g c =
    let l = c.loop-b in
    let e : l.b-index ≡ length c.args.bytes.now = omega arith in
    λ count h. rw e at (l.invariant.3 count h)
