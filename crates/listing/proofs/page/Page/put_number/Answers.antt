-- `put_number` meets its contract: the digits one after another; a number below 100 has two at most. Assumes nothing.
use Rattle.std.proofs.Common.{List, [], ◌∷◌, ◌++◌, ℕ, ◌+◌, ◌%◌, sym, ap, ◌∙◌, append-nil, arith}
use Rattle.model.specs.Listing.{digit, tens, decimal}
use Rattle.listing.specs.Puts.{puts_then, puts-as}
use Rattle.listing.specs.Tens.{tens-few}
use Rattle.listing.proofs.page.Page.put_number.Goals as goal

pub returns-then-n-lt100 : goal.returns-then-n-lt100
unfolding decimal tens
returns-then-n-lt100 c =
    let n = c.args.n in (
      puts-as (ap (λ (l : List ℕ). l ++ ((48 + n % 10) ∷ [])) (sym (tens-few 18 n c.if-n-lt100.true ∙ append-nil (digit 10 n))))
          (puts_then c.put_digit.ensures.0 c.put_byte.ensures),
      omega (arith, c.put_byte.ensures.next, c.put_digit.ensures.1),
    )

pub returns : goal.returns
unfolding decimal
returns c = (puts_then c.put_tens.ensures.0 c.put_byte-2.ensures, omega (arith, c.put_byte-2.ensures.next, c.put_tens.ensures.1))
