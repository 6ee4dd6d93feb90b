-- `copy_page` meets its contract. Assumes nothing.
use Rattle.std.proofs.Common.{◌≡◌, ℕ, List, ◌++◌, ◌+◌, ◌-◌, drop, take, length, sym, ap, ◌∙◌, arith, rules, length-take-le}
use Rattle.listing.specs.Puts.{sets-part}
use Rattle.listing.proofs.whole.copy_page.Goals as goal

pub returns : goal.returns
returns c =
    let at = c.args.at in
    let xs = c.args.out.now in
    let page = c.args.page.now in
    let k : ℕ = at + page.length - at in
    let f : k ≡ page.length = omega arith in
    let e : k ≡ length (take page.length page.bytes) = sym (length-take-le page.length page.bytes (search rules) ∙ sym f) in
    record {
      bytes =
          ap (λ (ys : List ℕ). take at xs ++ (ys ++ drop k (drop at xs))) (c.copy_from_slice.ensures.after ∙ c.filled.ensures)
          ∙ sets-part at k xs (take page.length page.bytes) e (omega arith);
      next = omega arith;
    }
