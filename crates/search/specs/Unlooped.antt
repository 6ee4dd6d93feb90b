-- Taking a loop out: one move back along each dart of a closed path of loaded darts. The loads stay feasible, every pin is wired exactly if it was, only
-- load bytes change, and the total load falls. The moves may be laid in any order. Assumes nothing.
use Rattle.std.specs.Prelude.{◌≡◌, refl, ◌⊎◌, ℕ, ◌≤◌, ◌<◌, T, length}
use Rattle.std.proofs.Common.{sym, subst, inl, inr, eq-zero-or-pos, arith}
use mathlib.Core.List.{List, ◌∷◌, map, Memᴰ}
use Rattle.sums.specs.Counting.{sum}
use Rattle.sums.specs.Sums.{sum-le}
use Rattle.flow.specs.Network.{times, times-has, has-times, Path, path-chain, path-once, path-dart}
use Rattle.flow.specs.Flow.{Flow, flow-cong}
use Rattle.flow.specs.Residual.{Residual, undo}
use Rattle.flow.specs.Push.{push}
use Rattle.flow.specs.Cancel.{Loaded, cancel, times-rev, cancel-flow, cancel-total, cancel-push}
use Rattle.model.specs.Job.{Job, array_fits}
use Rattle.model.specs.Loads.{Feasible}
use Rattle.model.specs.Record.{record_size, load}
use Rattle.model.proofs.Own.{Capped}
use Rattle.channel.specs.Map.{spots, darts, rev, view, starts}
use Rattle.channel.specs.Map.Back.{rev<}
use Rattle.channel.specs.Map.Network.{net, net-darts, net-rev, net-dart, dart-net}
use Rattle.channel.specs.Map.Network.Flows.{feasible-flow}
use Rattle.channel.specs.Map.Network.Agree.{Agrees}
use Rattle.channel.specs.Map.Network.FeasibleBytes.{agrees-feasible, agrees-starts}
use Rattle.channel.specs.Map.Network.Least.{view-least}
use Rattle.augment.specs.Laid.{laid_all, BytesFit, Darts, SameButLoads, laid_kept, laid-agrees, same-darts}
use Rattle.augment.specs.OneMore.{path-darts}

-- how many wires go along all darts together
abbrev pub total_load : List ℕ → ℕ
total_load rec = sum darts (view rec)

-- rec' has the wires of rec's pins, and less load
pub record Lighter (J : Job) (rec rec' : List ℕ) : Type 0 where
  pub feasible : Feasible J (load rec')
  pub bytes : BytesFit rec'
  pub begun : (x : ℕ) → x < spots → starts J rec' x ≡ starts J rec x
  pub less : (d : ℕ) → d < darts → view rec' d ≤ view rec d
  pub falls : total_load rec' < total_load rec
  pub kept : SameButLoads rec rec'

reverse-darts : (ds : List ℕ) → Darts ds → Darts (map rev ds)
reverse-darts mathlib.Core.List.[] l x x3 = elim x3 [ ]
reverse-darts (d ∷ ds) l x (Memᴰ.head e) = subst (λ (y : ℕ). y < darts) (sym e) (rev< d (l d (Memᴰ.head refl)))
reverse-darts (d ∷ ds) l x (Memᴰ.tail m) = reverse-darts ds (λ y n. l y (Memᴰ.tail n)) x m

module _ (J : Job) (fits : T (array_fits J.rows J.columns)) (rec : List ℕ) (feasible : Feasible J (load rec)) where
  module _ (caps : Capped J) (long : record_size ≤ length rec) (bytes : BytesFit rec) (u d : ℕ) (ds : List ℕ)
      (p : Path (net J) (Loaded (view rec)) (d ∷ ds) u u) where
    abbrev loop : List ℕ
    loop = d ∷ ds

    F : Flow (net J) (view rec) (starts J rec)
    F = feasible-flow J fits rec feasible

    -- the reverses are darts, none comes twice, and each of them is residual
    backs-darts : Darts (map rev loop)
    backs-darts = reverse-darts loop (path-darts J p)

    backs-times : (x : ℕ) → x < darts → times (map rev loop) x ≡ times loop (rev x)
    backs-times x l = subst (λ (r : ℕ → ℕ). times (map r loop) x ≡ times loop (r x)) (net-rev J) (times-rev (path-chain p) x (dart-net J l))

    backs-once : (x : ℕ) → times (map rev loop) x ≤ 1
    backs-once x = by (eq-zero-or-pos (times (map rev loop) x))
      where
        by : (times (map rev loop) x ≡ 0) ⊎ (0 < times (map rev loop) x) → times (map rev loop) x ≤ 1
        by (inl e) = omega arith
        by (inr h) = omega (arith, backs-times x (backs-darts x (times-has (map rev loop) x h)), path-once p (rev x))

    backs-residual : (x : ℕ) → Memᴰ x (map rev loop) → Residual (net J) (view rec) x
    backs-residual x m =
        undo (rw (net-rev J) (path-dart p (times-has loop (rev x) (omega (arith, backs-times x (backs-darts x m), has-times (map rev loop) m)))))

    backs-push : (x : ℕ) → x < darts → cancel (view rec) loop x ≡ push (net J) (view rec) (map rev loop) x
    backs-push x l =
        subst (λ (r : ℕ → ℕ). cancel (view rec) loop x ≡ push (net J) (view rec) (map r loop) x) (net-rev J) (cancel-push F p x (dart-net J l))

    backs-flow : Flow (net J) (push (net J) (view rec) (map rev loop)) (starts J rec)
    backs-flow = flow-cong (λ x l. sym (backs-push x (net-dart J l))) (cancel-flow F p)

    module _ (es : List ℕ) (e : (x : ℕ) → times es x ≡ times (map rev loop) x) where
      backs-agree : Agrees (push (net J) (view rec) (map rev loop)) (laid_all rec es)
      backs-agree = laid-agrees J fits caps rec long bytes feasible (map rev loop) es backs-darts backs-once backs-residual e

      cancelled : (x : ℕ) → x < darts → view (laid_all rec es) x ≤ cancel (view rec) loop x
      cancelled x l = omega (arith, view-least J fits _ _ (laid_all rec es) backs-flow backs-agree x l, backs-push x l)

      pub takes_out : Lighter J rec (laid_all rec es)
      takes_out =
          record {
            feasible = agrees-feasible J fits _ _ (laid_all rec es) backs-flow backs-agree;
            bytes = backs-agree.bytes;
            begun = agrees-starts J fits _ _ (laid_all rec es) backs-flow backs-agree;
            less = λ x l. omega (arith, cancelled x l);
            falls = omega (arith, sum-le darts (view (laid_all rec es)) (cancel (view rec) loop) cancelled, rw (net-darts J) at (cancel-total F p));
            kept = laid_kept rec es (same-darts (map rev loop) es e backs-darts);
          }
