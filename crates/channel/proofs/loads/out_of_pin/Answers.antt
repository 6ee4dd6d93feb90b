-- `loads::out_of_pin` meets its contract: what the four legs and the direct exit carry away from the pin. Assumes nothing.
use mathlib.Core.Path.{◌≡◌, ap, ◌∙◌}
use Prim.Native.Nat.{◌+◌}
use native.Mathlib.Omega.{arith}
use lib.ListN.{get_or}
use Rattle.model.specs.Record.{forth_part}
use Rattle.channel.specs.Map.Bytes.{pin-departures}
use Rattle.channel.proofs.loads.out_of_pin.Goals as goal

pub returns : goal.returns
returns c =
    let s = c in
    let f : c.forth.result ≡ forth_part (get_or s.args.rec.now (26327 + s.args.x) 0) = c.forth.ensures.0 ∙ ap forth_part c.wide.ensures.0 in
    (rw (c.forth_sum.ensures.0, f) (pin-departures s.args.rec.now s.args.x (omega arith) (omega arith)), omega arith)
