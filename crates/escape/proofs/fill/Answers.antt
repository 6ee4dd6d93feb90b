-- What is read stands behind what was read before, until the buffer is full or the reader ends. Assumes nothing.
use Rattle.std.proofs.Common.{◌≡◌, List, ℕ, ◌+◌, ◌-◌, ◌≤◌, sym, subst, length, take, length-take, length-take-le, arith, rules}
use borrow.Rule.Slice.PartMut.{put_mid}
use Rattle.std.specs.Io.KnownBytes.{Consumes}
use Rattle.escape.proofs.Reading.{consumes-none, consumes-more, filled, read-full, read-ended}
use Rattle.escape.proofs.fill.Goals as goal
use Rattle.escape.proofs.fill.Given.{Over}
use Rattle.escape.proofs.fill.Goals.{After-read}

pub loop-done-init : goal.loop-done-init
loop-done-init g c = (omega arith, consumes-none (g.R.Read.remaining c.args.from.now))

-- one read more
module _ (g : Over) (c : After-read g) where
  abbrev big : List ℕ
  big = put_mid c.loop-done.done (length c.loop-done.buf - c.loop-done.done) c.loop-done.buf c.read.new.buf

  more : (n : ℕ) → n ≤ length c.read.new.buf → Consumes (g.R.Read.remaining c.loop-done.from) (g.R.Read.remaining c.read.new.self) (take n c.read.new.buf)
      → Consumes (g.R.Read.remaining c.args.from.now) (g.R.Read.remaining c.read.new.self) (take (c.loop-done.done + n) big)
  more n l p =
      subst (Consumes (g.R.Read.remaining c.args.from.now) (g.R.Read.remaining c.read.new.self))
      (sym (filled c.loop-done.done (length c.loop-done.buf - c.loop-done.done) n c.loop-done.buf c.read.new.buf c.loop-done.invariant.0 l))
      (consumes-more (g.R.Read.remaining c.args.from.now) (g.R.Read.remaining c.loop-done.from) (g.R.Read.remaining c.read.new.self) (take c.loop-done.done c.loop-done.buf) (take n c.read.new.buf) c.loop-done.invariant.1 p)

pub loop-done-preserved : goal.loop-done-preserved
loop-done-preserved g c = (search rules, more g (goal.at.loop-done-preserved g c).After-read c.in_ok-n.n c.in_ok-n.ensures.bound.0 c.in_ok-n.ensures.bytes.0)

pub returns-clause-bytes : goal.returns-clause-bytes
returns-clause-bytes g c =
    let l = c.loop-done in
    read-full (g.R.Read.remaining c.args.from.now) (g.R.Read.remaining l.from) (take l.done l.buf) (length l.buf)
    (omega (arith, length-take-le l.done l.buf l.invariant.0)) l.invariant.1

pub returns-then-n-eq0-clause-bytes : goal.returns-then-n-eq0-clause-bytes
returns-then-n-eq0-clause-bytes g c =
    let l = c.loop-done in
    let b = big g (goal.at.returns-then-n-eq0-clause-bytes g c).After-read in
    let e : l.done + c.in_ok-n.n ≡ l.done = omega (arith, c.if-n-eq0.true) in
    let p = more g (goal.at.returns-then-n-eq0-clause-bytes g c).After-read c.in_ok-n.n c.in_ok-n.ensures.bound.0 c.in_ok-n.ensures.bytes.0 in
    read-ended (g.R.Read.remaining c.args.from.now) (g.R.Read.remaining c.read.new.self) (take l.done b) (length b)
    (omega (arith, length-take l.done b))
    (subst (λ (m : ℕ). Consumes (g.R.Read.remaining c.args.from.now) (g.R.Read.remaining c.read.new.self) (take m b)) e p)
    (c.in_ok-n.ensures.bytes.1 c.if-n-eq0.true (omega arith))
