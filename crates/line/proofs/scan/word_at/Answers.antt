-- The word is compared byte by byte. Assumes nothing.
use Rattle.std.proofs.Common.{arith}
use Rattle.line.proofs.Scanned.{word-short, word_byte, word-whole}
use Rattle.line.proofs.scan.word_at.Goals as goal

pub returns-then-text-at : goal.returns-then-text-at
returns-then-text-at c =
    let a = c.args in
    word-short a.text.now a.at a.word.now c.requires c.if-text-at.true

pub returns-then-text-at-2 : goal.returns-then-text-at-2
returns-then-text-at-2 c =
    let a = c.args in
    word_byte a.text.now a.at a.word.now c.loop-i.i c.loop-i-test.true c.if-text-at-2.true

pub returns : goal.returns
returns c =
    let a = c.args in
    let l = c.loop-i in
    word-whole a.text.now a.at a.word.now l.invariant.0 (λ j h. l.invariant.1 j (omega (arith, h, l.auto.i-end, c.loop-i-test.false)))
