-- `put_tens` meets its contract: digit after digit. Assumes nothing.
use Rattle.std.proofs.Common.{◌≡◌, ℕ, List, ◌++◌, ◌+◌, ◌-◌, ◌^◌, ◌/◌, ◌<◌, sym, ap, subst, ◌∙◌, append-nil, append_assoc, arith}
use Rattle.model.specs.Listing.{digit, tens}
use Rattle.listing.specs.Puts.{puts_then, puts-as}
use Rattle.listing.specs.Tens.{ten-positive, ten-less, tens-first}
use Rattle.listing.proofs.page.Page.put_tens.Goals as goal

pub put_digit-requires : goal.put_digit-requires
put_digit-requires c = let l = c.loop in (omega arith, subst (λ (p : ℕ). 0 < p) (sym l.invariant.0) (ten-positive (19 - l.counter)))

pub loop-preserved : goal.loop-preserved
loop-preserved c =
    let l = c.loop in
    let n = c.args.n in
    let k = 19 - l.counter in
    let up : 0 < k = omega arith in
    let next : k - 1 ≡ 19 - (l.counter + 1) = omega arith in
    let (bs, e, P) = l.invariant.2 in (
      ap (λ (p : ℕ). p / 10) l.invariant.0 ∙ (ten-less k up ∙ ap (λ (j : ℕ). 10 ^ j) next),
      omega arith,
      (
        bs ++ digit (10 ^ k) n,
        e
            ∙ (ap (λ (x : List ℕ). bs ++ x) (tens-first k n up)
            ∙ (sym (append_assoc bs (digit (10 ^ k) n) (tens (k - 1) n)) ∙ ap (λ (j : ℕ). (bs ++ digit (10 ^ k) n) ++ tens j n) next)),
        puts_then P (puts-as (ap (λ (p : ℕ). digit p n) l.invariant.0) c.put_digit.ensures.0),
      ),
    )

pub returns : goal.returns
unfolding tens
returns c =
    let l = c.loop in
    let (bs, e, P) = l.invariant.2 in
    let z : 19 - l.counter ≡ 0 = omega arith in
    (puts-as (sym (e ∙ (ap (λ (k : ℕ). bs ++ tens k c.args.n) z ∙ append-nil bs))) P, omega arith)
