-- Document 02, K9: what New, Read text and the generator admit fits a record, and is small; a lower E fits where one does. Assumes nothing.
use mathlib.Core.Bool.{Bool, ◌&&◌}
use Prim.Native.Nat.{ℕ, ◌*◌, ◌≤◌}
use native.Mathlib.Omega.{arith}
use lib.Dec.{T, leb, leb→le, le→leb}
use Rattle.sums.specs.Tests.{and_left, and_right, and_both}
use Rattle.model.specs.Job.{Job, in_range, caps_fit, caps_admitted, with_extra, Proper}
use Rattle.model.proofs.RecordOf.{range-most}

pub admitted-fit : (O D E : ℕ) → T (caps_admitted O D E) → T (caps_fit O D E)
admitted-fit O D E = and_left (caps_fit O D E) (leb E D)

pub caps-small : (O D E : ℕ) → T (caps_admitted O D E) → (O ≤ 8) × (D ≤ 2 * O) × (E ≤ 16)
caps-small O D E t =
    let s : T (caps_fit O D E) = admitted-fit O D E t in
    let u : T (in_range O (2 * O) D && in_range 0 16 E) = and_right (in_range 1 8 O) (in_range O (2 * O) D && in_range 0 16 E) s in (
      range-most 1 8 O (and_left (in_range 1 8 O) (in_range O (2 * O) D && in_range 0 16 E) s),
      range-most O (2 * O) D (and_left (in_range O (2 * O) D) (in_range 0 16 E) u),
      range-most 0 16 E (and_right (in_range O (2 * O) D) (in_range 0 16 E) u),
    )

pub extra-proper : (J : Job) (e : ℕ) → Proper J → T (leb e J.E) → Proper (with_extra J e)
extra-proper J e p t =
    let o : Bool = in_range 1 8 J.O in
    let d : Bool = in_range J.O (2 * J.O) J.D in
    let u : T (d && in_range 0 16 J.E) = and_right o (d && in_range 0 16 J.E) p.caps in
    let most : J.E ≤ 16 = range-most 0 16 J.E (and_right d (in_range 0 16 J.E) u) in
    let low : e ≤ 16 = omega (arith, leb→le e J.E t) in
    record {
      array = p.array;
      caps =
          and_both o (d && in_range 0 16 e) (and_left o (d && in_range 0 16 J.E) p.caps)
          (and_both d (in_range 0 16 e) (and_left d (in_range 0 16 J.E) u) (and_both (leb 0 e) (leb e 16) (le→leb 0 e (omega arith)) (le→leb e 16 low)));
      marks = p.marks;
      states = p.states;
      added =
          record {
            laid_north = p.added.laid_north;
            laid_west = p.added.laid_west;
            own_d = p.added.own_d;
            upward = p.added.upward;
            seen = p.added.seen;
          };
    }
