-- Laying a path of residual moves from an unwired chosen pin to the outside: the loads stay feasible, that pin is wired and was not, every other chosen pin
-- is wired exactly if it was, and only load bytes change. The moves may be laid in any order. Assumes nothing.
use Rattle.std.specs.Prelude.{◌≡◌, ◌≢◌, Bool, true, false, not, List, ℕ, suc, ◌+◌, ◌≤◌, ◌<◌, T, eqb, length}
use Rattle.std.proofs.Common.{arith}
use Rattle.sums.specs.Counting.{when}
use Rattle.sums.specs.Sums.{when-same, when-other, sum-cong}
use Rattle.flow.specs.Network.{times, Path, path-once, path-dart, path-map}
use Rattle.flow.specs.Flow.{Flow, Unstarted}
use Rattle.flow.specs.Residual.{Residual}
use Rattle.flow.specs.Push.{push, push-flow, more, sum_more}
use Rattle.model.specs.Job.{Job, array_fits, is_chosen}
use Rattle.model.specs.Links.{pin, at}
use Rattle.model.specs.Near.{exit}
use Rattle.model.specs.Loads.{Feasible}
use Rattle.model.specs.Record.{record_size, load}
use Rattle.model.specs.Wires.{is_wired, wire_count}
use Rattle.model.proofs.Own.{Capped}
use Rattle.channel.specs.Map.{spots, outside, view, starts, moves}
use Rattle.channel.specs.Map.Network.{net, net-outside, net-dart, unstarted-spot}
use Rattle.channel.specs.Map.Starts.{wanted-pin, pin-spot}
use Rattle.channel.specs.Map.Network.Flows.{feasible-flow, pin-starts, starts-count}
use Rattle.channel.specs.Map.Network.Moves.{move-residual}
use Rattle.channel.specs.Map.Network.Agree.{Agrees}
use Rattle.channel.specs.Map.Network.FeasibleBytes.{agrees-feasible, agrees-starts}
use Rattle.augment.specs.Wired.{same-wired}
use Rattle.augment.specs.Laid.{laid_all, BytesFit, Darts, SameButLoads, laid_kept, laid-agrees, same-darts}

-- rec' starts one wire more than rec, at the spot u
pub record OneMore (J : Job) (rec rec' : List ℕ) (u : ℕ) : Type 0 where
  pub feasible : Feasible J (load rec')
  pub bytes : BytesFit rec'
  pub begun : (x : ℕ) → x < spots → starts J rec' x ≡ starts J rec x + when (eqb u x) 1
  pub kept : SameButLoads rec rec'

-- the darts of a path are darts
pub path-darts : (J : Job) {P : ℕ → Type 0} {ds : List ℕ} {u v : ℕ} → Path (net J) P ds u v → Darts ds
path-darts J p d m = path-dart (path-map (λ x k n q. net-dart J k) p) m

-- a path of moves is a path of residual moves
pub moves-path : (J : Job) (rec : List ℕ) {ds : List ℕ} {u v : ℕ} → Path (net J) (λ d. T (moves J rec d)) ds u v
    → Path (net J) (Residual (net J) (view rec)) ds u v
moves-path J rec p = path-map (λ d l m t. move-residual J rec d t) p

module _ (J : Job) (fits : T (array_fits J.rows J.columns)) (rec : List ℕ) (feasible : Feasible J (load rec)) where
  module _ (caps : Capped J) (long : record_size ≤ length rec) (bytes : BytesFit rec) (u v : ℕ) (ds : List ℕ)
      (h : Unstarted (net J) (starts J rec) u) (p : Path (net J) (Residual (net J) (view rec)) ds u v) (o : T (outside J v)) where
    -- the flow that the bytes agree with
    pub path-flow : Flow (net J) (push (net J) (view rec) ds) (more (starts J rec) u)
    path-flow = push-flow (feasible-flow J fits rec feasible) h p (rw (net-outside J) o)

    module _ (es : List ℕ) (e : (x : ℕ) → times es x ≡ times ds x) where
      pub path-agrees : Agrees (push (net J) (view rec) ds) (laid_all rec es)
      path-agrees = laid-agrees J fits caps rec long bytes feasible ds es (path-darts J p) (path-once p) (λ d. path-dart p) e

      pub lays_one : OneMore J rec (laid_all rec es) u
      lays_one =
          record {
            feasible = agrees-feasible J fits _ _ (laid_all rec es) path-flow path-agrees;
            bytes = path-agrees.bytes;
            begun = agrees-starts J fits _ _ (laid_all rec es) path-flow path-agrees;
            kept = laid_kept rec es (same-darts ds es e (path-darts J p));
          }

  -- ---- in terms of wires

  -- the spot is that of a chosen pin
  pub unstarted-pin : (u : ℕ) → Unstarted (net J) (starts J rec) u → (r c : ℕ) × T (is_chosen J r c) × (u ≡ exit (at pin r c))
  unstarted-pin u h = wanted-pin J u (omega (arith, (unstarted-spot J h).1))

  module _ (rec' : List ℕ) (u : ℕ) (l : u < spots) (M : OneMore J rec rec' u) where
    pub wires-more : wire_count J (load rec') ≡ suc (wire_count J (load rec))
    wires-more =
        omega (
          arith,
          starts-count J fits rec feasible,
          starts-count J fits rec' M.feasible,
          sum-cong spots (starts J rec') (more (starts J rec) u) M.begun,
          sum_more spots u (starts J rec) l,
        )

    module _ (r c : ℕ) (t : T (is_chosen J r c)) where
      pub pin-gains : u ≡ exit (at pin r c) → T (not (is_wired J (load rec) r c)) × T (is_wired J (load rec') r c)
      pin-gains e =
          by (is_wired J (load rec') r c) (is_wired J (load rec) r c)
          (omega (
            arith,
            pin-starts J fits rec feasible r c t,
            pin-starts J fits rec' M.feasible r c t,
            M.begun (exit (at pin r c)) (pin-spot J fits r c t),
            when-same u (exit (at pin r c)) 1 e,
          ))
        where
          by : (a b : Bool) → when a 1 ≡ when b 1 + 1 → T (not b) × T a
          by true true q = absurd (omega arith)
          by true false q = (tt, tt)
          by false b q = absurd (omega arith)

      pub pin-keeps : u ≢ exit (at pin r c) → is_wired J (load rec') r c ≡ is_wired J (load rec) r c
      pin-keeps n =
          same-wired J fits rec rec' feasible M.feasible r c t
          (omega (arith, M.begun (exit (at pin r c)) (pin-spot J fits r c t), when-other u (exit (at pin r c)) 1 n))
