-- The text is what was read, and its listing what is handed on. Assumes nothing.
use Rattle.std.proofs.Common.{◌≡◌, subst, ℕ, length, take, arith}
use Rattle.std.specs.Option.{IfSome}
use Rattle.escape.proofs.list.Goals as goal

pub returns : goal.returns
returns g c =
    let (bytes, p, h, d) = c.show_text.ensures in
    let whole : length c.fill.new.buf ≡ 65536 = omega arith in
    let read = subst (λ (m : ℕ). IfSome (g.R.Read.remaining c.args.from.now) (λ xs. take c.in_ok-n.n c.fill.new.buf ≡ take m xs)) whole c.in_ok-n.ensures.bytes in
    (take c.in_ok-n.n c.fill.new.buf, bytes, read, p, h, d)
