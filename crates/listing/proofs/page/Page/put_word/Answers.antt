-- `put_word` meets its contract: byte by byte. Assumes nothing.
use Rattle.std.proofs.Common.{◌≡◌, ℕ, List, take, length, sym, ap, ◌∙◌, take-suc, add-one, length-take-le, arith}
use lib.Seq.{take-length}
use Rattle.listing.specs.Puts.{puts_none, puts_then, puts-as}
use Rattle.listing.proofs.page.Page.put_word.Goals as goal

pub put_byte-requires : goal.put_byte-requires
put_byte-requires c =
    let l = c.loop-byte in
    omega (arith, l.invariant.next, length-take-le l.byte-index c.args.w.now l.auto.byte-index-end, c.loop-byte-test.true, c.requires)

pub loop-byte-init : goal.loop-byte-init
loop-byte-init c = puts_none

pub loop-byte-preserved : goal.loop-byte-preserved
loop-byte-preserved c =
    let w = c.args.w.now in
    let k = c.loop-byte.byte-index in
    puts-as (sym (take-suc w k 0 c.loop-byte-test.true) ∙ ap (λ (n : ℕ). take n w) (sym (add-one k))) (puts_then c.loop-byte.invariant c.put_byte.ensures)

pub returns : goal.returns
returns c =
    let w = c.args.w.now in
    let l = c.loop-byte in
    let e : l.byte-index ≡ length w = omega (arith, l.auto.byte-index-end, c.loop-byte-test.false) in
    puts-as (ap (λ (n : ℕ). take n w) e ∙ take-length w) l.invariant
