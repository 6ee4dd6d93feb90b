-- Document 01, "Settled by hand": every row of `shorts` has the greatest number and the smallest near side that it states, for each row does. Assumes
-- nothing.
use mathlib.Core.Path.{sym, subst}
use mathlib.Core.List.{Memᴰ}
use Rattle.model.specs.Route.{Greatest}
use Rattle.model.specs.Near.{Smallest}
use Rattle.model.specs.Examples.{Short, among, shorts}
use Rattle.model.proofs.ShortByTest.{ShortHolds}
use Rattle.model.proofs.ShortShut.{short_shut-holds}
use Rattle.model.proofs.Short34.{short34-holds}
use Rattle.model.proofs.ShortRim.{short_rim-holds, short_missing-holds, short_entry-holds}
use Rattle.model.proofs.ShortLaid.{short_laid-holds}
use Rattle.model.proofs.ShortOwn.{short_own-holds}

pub shorts-hold : (x : Short) → Memᴰ x shorts → Greatest x.job x.greatest × Smallest x.job (among x.near) x.greatest
shorts-hold x (Memᴰ.head e) = subst ShortHolds (sym e) short_shut-holds
shorts-hold x (Memᴰ.tail (Memᴰ.head e)) = subst ShortHolds (sym e) short34-holds
shorts-hold x (Memᴰ.tail (Memᴰ.tail (Memᴰ.head e))) = subst ShortHolds (sym e) short_rim-holds
shorts-hold x (Memᴰ.tail (Memᴰ.tail (Memᴰ.tail (Memᴰ.head e)))) = subst ShortHolds (sym e) short_missing-holds
shorts-hold x (Memᴰ.tail (Memᴰ.tail (Memᴰ.tail (Memᴰ.tail (Memᴰ.head e))))) = subst ShortHolds (sym e) short_entry-holds
shorts-hold x (Memᴰ.tail (Memᴰ.tail (Memᴰ.tail (Memᴰ.tail (Memᴰ.tail (Memᴰ.head e)))))) = subst ShortHolds (sym e) short_laid-holds
shorts-hold x (mathlib.Core.List.Memᴰ.tail (mathlib.Core.List.Memᴰ.tail (mathlib.Core.List.Memᴰ.tail (mathlib.Core.List.Memᴰ.tail (mathlib.Core.List.Memᴰ.tail (mathlib.Core.List.Memᴰ.tail (mathlib.Core.List.Memᴰ.tail x29))))))) = elim x29 [ ]
shorts-hold x (Memᴰ.tail (Memᴰ.tail (Memᴰ.tail (Memᴰ.tail (Memᴰ.tail (Memᴰ.tail (Memᴰ.head e))))))) = subst ShortHolds (sym e) short_own-holds
