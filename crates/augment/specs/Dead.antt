-- A set of spots closed under the moves, none of them outside, stays closed: a path to the outside never meets it, so that laying the path changes nothing
-- that can be seen from it. Assumes nothing.
use Rattle.std.specs.Prelude.{◌≡◌, Bool, List, ℕ, ◌≤◌, ◌<◌, T, length}
use Rattle.std.proofs.Common.{subst}
use Rattle.std.proofs.Math.Dec.{not_T}
use Rattle.flow.specs.Network.{Net, head<, times, Path, here, along}
use Rattle.flow.specs.Flow.{Flow, Unstarted}
use Rattle.flow.specs.Cut.{Inside}
use Rattle.flow.specs.Residual.{Residual, Closed}
use Rattle.flow.specs.Push.{push, more}
use Rattle.flow.specs.Kept.{closed-kept, path-avoids}
use Rattle.flow.specs.Less.{less-closed}
use Rattle.model.specs.Job.{Job, array_fits}
use Rattle.model.specs.Loads.{Feasible}
use Rattle.model.specs.Record.{record_size, load}
use Rattle.model.proofs.Own.{Capped}
use Rattle.channel.specs.Map.{outside, view, starts}
use Rattle.channel.specs.Map.Network.{net, node-spot, net-dart, inside-net, closed-move}
use Rattle.channel.specs.Map.Network.Flows.{feasible-flow}
use Rattle.channel.specs.Map.Network.Moves.{move-residual, closed-residual}
use Rattle.channel.specs.Map.Network.Least.{view-least}
use Rattle.augment.specs.Laid.{laid_all, BytesFit}
use Rattle.augment.specs.OneMore.{OneMore, path-flow, path-agrees, lays_one}
use Rattle.augment.specs.NoMore.{ClosedUnderMoves, NoneOutside}

-- a path from a node ends at a node
path-end : {G : Net} {P : ℕ → Type 0} {ds : List ℕ} {u v : ℕ} → Path G P ds u v → u < G.nodes → v < G.nodes
path-end {G} (here e) l = subst (λ (x : ℕ). x < G.nodes) e l
path-end {G} (along {d = d} k e q n r) l = path-end r (head< G d k)

module _ (J : Job) (fits : T (array_fits J.rows J.columns)) (rec : List ℕ) (feasible : Feasible J (load rec)) (S : ℕ → Bool)
    (closed : ClosedUnderMoves J rec S) (none : NoneOutside J S) where
  C : Closed (net J) (view rec) S
  C = closed-residual J fits rec feasible S closed

  inside : Inside (net J) S
  inside = inside-net J S none

  -- What is closed stays closed when a path to the outside is laid.
  pub dead-laid : (caps : Capped J) → record_size ≤ length rec → BytesFit rec → (u v : ℕ) (ds : List ℕ)
      → Unstarted (net J) (starts J rec) u → Path (net J) (Residual (net J) (view rec)) ds u v → T (outside J v)
      → (es : List ℕ) → ((x : ℕ) → times es x ≡ times ds x) → ClosedUnderMoves J (laid_all rec es) S
  dead-laid caps long bytes u v ds h p o es e d l t m =
      closed-move J (less-closed (feasible-flow J fits (laid_all rec es) M.feasible).load.balanced G.load.balanced (λ x k. M.begun x (node-spot J k))
      (λ x k. view-least J fits _ _ (laid_all rec es) G (path-agrees J fits rec feasible caps long bytes u v ds h p o es e) x (net-dart J k)) inside
      (closed-kept ds C (path-avoids C p (not_T (S v) (λ s. none v (node-spot J (path-end p h.node)) s o))))) d l t (move-residual J (laid_all rec es) d m)
    where
      G : Flow (net J) (push (net J) (view rec) ds) (more (starts J rec) u)
      G = path-flow J fits rec feasible caps long bytes u v ds h p o

      M : OneMore J rec (laid_all rec es) u
      M = lays_one J fits rec feasible caps long bytes u v ds h p o es e
