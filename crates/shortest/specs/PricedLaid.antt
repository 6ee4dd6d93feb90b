-- A path of tight moves from an unwired chosen pin to the outside is laid, and the prices of the record's loads stay theirs: what the bytes hold is nowhere
-- more than the pushed flow, and has the same starts. So it is with loops taken out. Assumes nothing.
use Rattle.std.specs.Prelude.{◌≡◌, List, ℕ, ◌≤◌, ◌<◌, T}
use Rattle.flow.specs.Network.{times, Path, path-once, path-dart, path-map}
use Rattle.flow.specs.Flow.{Flow, Unstarted}
use Rattle.flow.specs.Residual.{Residual}
use Rattle.flow.specs.Push.{push, more}
use Rattle.price.specs.Moves.{Tight, tight-residual}
use Rattle.price.specs.Priced.{Priced}
use Rattle.price.specs.Tight.{tight-push}
use Rattle.price.specs.Less.{less-priced}
use Rattle.model.specs.Job.{Job}
use Rattle.model.specs.Loads.{Feasible}
use Rattle.model.specs.Record.{load}
use Rattle.channel.specs.Map.{spots, darts, outside, view, starts}
use Rattle.channel.specs.Map.Network.{net, net-dart, node-spot}
use Rattle.channel.specs.Map.Network.Flows.{feasible-flow}
use Rattle.channel.specs.Map.Network.Least.{view-least}
use Rattle.augment.specs.Laid.{laid_all}
use Rattle.augment.specs.OneMore.{OneMore, path-flow, path-agrees, lays_one}
use Rattle.augment.specs.Pins.{Held}

module _ {J : Job} {rec : List ℕ} (H : Held J rec) {len π : ℕ → ℕ} (P : Priced (net J) len (view rec) π) where
  module _ {u v : ℕ} {ds : List ℕ} (h : Unstarted (net J) (starts J rec) u) (p : Path (net J) (Tight (net J) len (view rec) π) ds u v) (o : T (outside J v))
      (es : List ℕ) (e : (x : ℕ) → times es x ≡ times ds x) where
    -- the same path, of residual moves
    q : Path (net J) (Residual (net J) (view rec)) ds u v
    q = path-map (λ d l m t. tight-residual t) p

    F : Flow (net J) (push (net J) (view rec) ds) (more (starts J rec) u)
    F = path-flow J H.fits rec H.feasible H.caps H.long H.bytes u v ds h q o

    -- One wire more starts, at u,
    pub laid_one : OneMore J rec (laid_all rec es) u
    laid_one = lays_one J H.fits rec H.feasible H.caps H.long H.bytes u v ds h q o es e

    least : (x : ℕ) → x < (net J).darts → view (laid_all rec es) x ≤ push (net J) (view rec) ds x
    least x k =
        view-least J H.fits _ _ (laid_all rec es) F (path-agrees J H.fits rec H.feasible H.caps H.long H.bytes u v ds h q o es e) x (net-dart J k)

    -- and the prices are kept.
    pub priced-laid : Priced (net J) len (view (laid_all rec es)) π
    priced-laid =
        less-priced (feasible-flow J H.fits (laid_all rec es) laid_one.feasible).load F.load (λ x k. laid_one.begun x (node-spot J k)) least
        (tight-push ds P (path-once p) (λ d. path-dart p))

  -- Prices are kept where loads are taken out and no start is.
  pub priced-less : (rec' : List ℕ) → Feasible J (load rec') → ((x : ℕ) → x < spots → starts J rec' x ≡ starts J rec x)
      → ((d : ℕ) → d < darts → view rec' d ≤ view rec d) → Priced (net J) len (view rec') π
  priced-less rec' feasible begun less =
      less-priced (feasible-flow J H.fits rec' feasible).load (feasible-flow J H.fits rec H.feasible).load (λ x k. begun x (node-spot J k))
      (λ d k. less d (net-dart J k)) P
