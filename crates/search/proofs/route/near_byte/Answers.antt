-- `route::near_byte` meets its contract: no spot at or past 13,128 is marked. Assumes nothing.
use borrow.Author.Rules.{rules}
use native.Mathlib.Omega.{arith}
use Rattle.channel.specs.Map.Numbers.{spots-is}
use Rattle.augment.specs.Marks.{marked-spot, marked-byte}
use Rattle.search.specs.Routing.{byte-near, byte-far}
use Rattle.search.proofs.route.near_byte.Goals as goal

pub returns-then-i-ge13128 : goal.returns-then-i-ge13128
returns-then-i-ge13128 c = byte-far _ _ (λ m. omega (arith, spots-is, marked-spot _ _ m, c.if-i-ge13128.true))

pub bounds-marks-i : goal.bounds-marks-i
bounds-marks-i c = search (rules, spots-is)

pub returns-then-marks-i-ne1 : goal.returns-then-marks-i-ne1
returns-then-marks-i-ne1 c = byte-far _ _ (λ m. c.if-marks-i-ne1.true (marked-byte _ _ m))

pub returns : goal.returns
returns c = byte-near _ _ (omega (arith, spots-is)) c.if-marks-i-ne1.false
