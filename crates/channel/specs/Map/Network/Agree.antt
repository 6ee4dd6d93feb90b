-- While a path is laid move by move, a record's bytes agree with a load of the network: on each link they carry the same net amount. One move is one push.
-- Assumes nothing.
use Rattle.std.specs.Prelude.{◌≡◌, ◌≢◌, ◌⊎◌, Bool, true, false, not, List, [], ◌∷◌, T, length}
use Rattle.std.proofs.Common.{sym, ap, subst, ◌∙◌, inl, inr, eq-zero-or-pos, arith}
use Prim.Native.Nat.{ℕ, ◌+◌, ◌≤◌, ◌<◌}
use Rattle.flow.specs.Flow.{Apart}
use Rattle.flow.specs.Push.{push}
use Rattle.flow.specs.Residual.{Residual}
use Rattle.model.specs.Job.{Job, array_fits}
use Rattle.model.specs.Links.{LinkKind, Link, link, same_link, Step, turn}
use Rattle.model.specs.Record.{record_size, load_plane, cell, load}
use Rattle.model.proofs.Same.{same-link, same-link-eq}
use Rattle.channel.specs.Map.{darts, step_of, view, laid, dart_of}
use Rattle.channel.specs.Map.Darts.{OnGrid, step-grid, dart-step}
use Rattle.channel.specs.Map.Network.{net}
use Rattle.channel.specs.Map.Stores.{one_way_lem, Lay, nothing, bumps, lay?, loads-bumped, byte-other, load-other}
use Rattle.channel.specs.Map.Carry.{view-link}
use Rattle.channel.specs.Map.Network.Pushed.{grid-turn, turn-turn, push-plain, push-apart, push-own}
pub use Rattle.channel.specs.Map.Stores.{laid-length, laid-other, laid-rest, laid-job}

-- what a link's byte may be
abbrev Fits : List ℕ → Link → Type 0
Fits rec l = (cell rec (load_plane l.kind) l.row l.column < 64) × (cell rec (load_plane l.kind) l.row l.column ≢ 32)

pub record Agrees (g : ℕ → ℕ) (rec : List ℕ) : Type 0 where
  pub bytes : (k : LinkKind) (r c : ℕ) → (cell rec (load_plane k) r c < 64) × (cell rec (load_plane k) r c ≢ 32)
  pub same : (s : Step) → OnGrid s → load rec s + g (dart_of (turn s)) ≡ load rec (turn s) + g (dart_of s)

-- a record agrees with its own view
pub view-agrees : (rec : List ℕ) → ((k : LinkKind) (r c : ℕ) → (cell rec (load_plane k) r c < 64) × (cell rec (load_plane k) r c ≢ 32)) → Agrees (view rec) rec
view-agrees rec b = record { bytes = b; same = λ s o. omega (arith, at s o, at (turn s) (grid-turn o)) }
  where
    at : (s : Step) → OnGrid s → view rec (dart_of s) ≡ load rec s
    at s o = let (l, t, e) = dart-step s o in view-link rec (dart_of s) t ∙ ap (load rec) e

-- only what the darts carry matters
pub agrees-cong : (g h : ℕ → ℕ) (rec : List ℕ) → ((d : ℕ) → d < darts → g d ≡ h d) → Agrees g rec → Agrees h rec
agrees-cong g h rec e a =
    record {
      bytes = a.bytes;
      same = λ s o. omega (arith, a.same s o, e (dart_of s) (dart-step s o).0, e (dart_of (turn s)) (dart-step (turn s) (grid-turn o)).0);
    }

-- ---- loads that agree

module _ {g : ℕ → ℕ} {rec : List ℕ} (a : Agrees g rec) where
  pub load_one : (s : Step) → 0 < load rec s → load rec (turn s) ≡ 0
  load_one s h = one_way_lem rec s (a.bytes s.link.kind s.link.row s.link.column).0 h

  pub load-le : (s : Step) → OnGrid s → load rec s ≤ g (dart_of s)
  load-le s o = go (eq-zero-or-pos (load rec s))
    where
      go : (load rec s ≡ 0) ⊎ (0 < load rec s) → load rec s ≤ g (dart_of s)
      go (inl e) = omega arith
      go (inr h) = omega (arith, a.same s o, load_one s h)

-- ---- one move

link? : (l m : Link) → (l ≡ m) ⊎ (l ≢ m)
link? l m = go (same_link l m) (same-link-eq l m) (λ e. subst (λ (x : Link). T (same_link l x)) e (same-link l))
  where
    go : (b : Bool) → (T b → l ≡ m) → (l ≡ m → T b) → (l ≡ m) ⊎ (l ≢ m)
    go true f h = inl (f tt)
    go false f h = inr h

-- a step along the link of another is that step, or goes against it
along? : (s t : Step) → s.link ≡ t.link → (s ≡ t) ⊎ (s ≡ turn t)
along? s t e = go s.forth t.forth
  where
    way : Link → Bool → Step
    way l b = record { link = l; forth = b }

    go : (b c : Bool) → (way s.link b ≡ way t.link c) ⊎ (way s.link b ≡ way t.link (not c))
    go true true = inl (λ i. record { link = e i; forth = true })
    go true false = inr (λ i. record { link = e i; forth = true })
    go false true = inr (λ i. record { link = e i; forth = false })
    go false false = inl (λ i. record { link = e i; forth = false })

module _ (J : Job) (fits : T (array_fits J.rows J.columns)) where
  -- One move stores one push.
  pub lay-agrees : (g : ℕ → ℕ) (rec : List ℕ) → record_size ≤ length rec → Agrees g rec → Apart (net J) g
      → ((d : ℕ) → d < (net J).darts → T (not ((net J).free d)) → g d ≤ (net J).cap d) → ((d : ℕ) → d < darts → g d < 30)
      → (d : ℕ) → d < darts → Residual (net J) g d → Agrees (push (net J) g (d ∷ [])) (laid rec d)
  unfolding net
  lay-agrees g rec long a p w small d l res = go (laid rec d) (lay? rec d)
    where
      h : ℕ → ℕ
      h = push (net J) g (d ∷ [])

      go : (r : List ℕ) → Lay rec d r → Agrees h r
      go r (nothing n) =
          record {
            bytes = a.bytes;
            same = λ s o. omega (arith, a.same s o, push-plain J g p d l n s o, push-plain J g p d l n (turn s) (grid-turn o));
          }
      go r (bumps t o) = record { bytes = λ k x y. byte k x y (link? (link k x y) (step_of d).link); same = λ s q. by s q (link? s.link (step_of d).link) }
        where
          σ : Step
          σ = step_of d

          -- what goes along σ is at most what goes along its dart
          change : Fits r σ.link × (load r σ + load rec (turn σ) ≡ load rec σ + load r (turn σ) + 1)
          change =
              loads-bumped rec d t o long (a.bytes σ.link.kind σ.link.row σ.link.column)
              (omega (arith, small (dart_of σ) (dart-step σ (step-grid d o)).0, load-le a σ (step-grid d o)))

          byte : (k : LinkKind) (x y : ℕ) → (link k x y ≡ σ.link) ⊎ (link k x y ≢ σ.link) → Fits r (link k x y)
          byte k x y (inl e) = subst (Fits r) (sym e) change.0
          byte k x y (inr n) = subst (λ (b : ℕ). (b < 64) × (b ≢ 32)) (sym (byte-other rec d t o (link k x y) n)) (a.bytes k x y)

          Same : Step → Type 0
          Same s = load r s + h (dart_of (turn s)) ≡ load r (turn s) + h (dart_of s)

          own : Same σ
          own = omega (arith, change.1, a.same σ (step-grid d o), push-own J g p d l w res t o)

          by : (s : Step) → OnGrid s → (s.link ≡ σ.link) ⊎ (s.link ≢ σ.link) → Same s
          by s q (inr n) =
              omega (
                arith,
                a.same s q,
                load-other rec d t o s n,
                load-other rec d t o (turn s) n,
                push-apart J g p d l w res t o s q n,
                push-apart J g p d l w res t o (turn s) (grid-turn q) n,
              )
          by s q (inl e) = either (along? s σ e)
            where
              either : (s ≡ σ) ⊎ (s ≡ turn σ) → Same s
              either (inl f) = subst Same (sym f) own
              either (inr f) =
                  subst Same (sym f)
                  (subst (λ (x : Step). load r (turn σ) + h (dart_of x) ≡ load r x + h (dart_of (turn σ))) (sym (turn-turn σ)) (sym own))
