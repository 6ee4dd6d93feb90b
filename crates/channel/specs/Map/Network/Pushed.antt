-- What one push does to the darts of links: along a dart with a stored byte, its link carries one more, net, in the direction of the dart's step, and every
-- other link carries what it did; along any other dart, all links do. Of the two ways of a link one or both carry its load; where one does not, nothing
-- is ever on it. Assumes nothing.
use Rattle.std.specs.Prelude.{◌≡◌, refl, ◌≢◌, Bool, true, false, not, ◌&&◌, [], ◌∷◌, T}
use Rattle.std.proofs.Common.{sym, subst, subst₂, ◌∙◌, arith, T_not}
use Rattle.std.proofs.Math.Path.{ap}
use Prim.Native.Nat.{ℕ, ◌+◌, ◌-◌, ◌%◌, ◌≤◌, ◌<◌, min}
use Rattle.sums.specs.Counting.{total}
use Rattle.sums.specs.Tests.{and_left, and_both}
use Rattle.sums.specs.Sums.{when-other}
use Rattle.flow.specs.Flow.{Apart}
use Rattle.flow.specs.Push.{push}
use Rattle.flow.specs.Residual.{Residual, undo, room, unlimited}
use Rattle.flow.specs.Store.{push-here, push-rev}
use Rattle.model.specs.Job.{Job}
use Rattle.model.specs.Links.{Step, turn}
use Rattle.channel.specs.Map.{code_of, back_row, dart_of, idle}
use Rattle.channel.specs.Map.{darts, in_grid, rev, owner_cell, step_of, carries, is_stored, is_link_dart, cap, free}
use Rattle.channel.specs.Map.Back.{rev<, rev-rev, over-row, stored-turned, link-stored}
use Rattle.channel.specs.Map.Darts.{OnGrid, step-grid, dart-step, step-dart}
use Rattle.channel.specs.Map.Network.{net}
use Rattle.channel.specs.Map.Carry.{stored-idle, back-carries, idle-link, idle-pass, Shut, shut, back-link}

-- ---- steps of the grid

pub grid-turn : {s : Step} → OnGrid s → OnGrid (turn s)
grid-turn o = record { row< = o.row<; column< = o.column< }

not_same : (b : Bool) → not b ≢ b
not_same true e = subst (λ (x : Bool). T (not x)) e tt
not_same false e = subst T e tt

turn-other : (s : Step) → turn s ≢ s
turn-other s e = not_same s.forth (ap (λ (x : Step). x.forth) e)

pub turn-turn : (s : Step) → turn (turn s) ≡ s
turn-turn s = λ i. record { link = s.link; forth = twice s.forth i }
  where
    twice : (b : Bool) → not (not b) ≡ b
    twice true = refl
    twice false = refl

dart-turn : (s : Step) → OnGrid s → dart_of (turn s) ≢ dart_of s
dart-turn s o e =
    turn-other s (sym (dart-step (turn s) (grid-turn o)).2 ∙ (ap step_of e ∙ (dart-step s o).2))

-- ---- one push

module _ (J : Job) (g : ℕ → ℕ) (p : Apart (net J) g) (d : ℕ) (l : d < darts) where
  -- the load after the push
  abbrev h : ℕ → ℕ
  h = push (net J) g (d ∷ [])

  push_else : (x : ℕ) → x < darts → x ≢ d → x ≢ rev d → h x ≡ g x
  unfolding net total
  push_else x k m n = omega (arith, p x k, when-other d x 1 (λ r. m (sym r)), when-other d (rev x) 1 (λ r. n (sym (rev-rev x k) ∙ ap rev (sym r))))

  -- a dart with no byte on the grid is no link dart, nor is its way back
  pub push-plain : T (not (is_stored (code_of (d % 64)) && in_grid (owner_cell d))) → (s : Step) → OnGrid s → h (dart_of s) ≡ g (dart_of s)
  push-plain n s o =
      let (k, t, e) = dart-step s o in
      push_else (dart_of s) k (λ q. ahead (subst (λ (x : ℕ). T (is_link_dart x)) q t)) (λ q. back (subst (λ (x : ℕ). T (is_link_dart x)) q t))
    where
      never : T (is_stored (code_of (d % 64))) → T (in_grid (owner_cell d)) → ⊥
      never u v = T_not (is_stored (code_of (d % 64)) && in_grid (owner_cell d)) n (and_both (is_stored (code_of (d % 64))) (in_grid (owner_cell d)) u v)

      ahead : T (is_link_dart d) → ⊥
      ahead t = let (u, v) = link-stored d t in never u v

      back : T (is_link_dart (rev d)) → ⊥
      back t =
          let (u, v) = link-stored (rev d) t in
          let r = stored-turned (rev d) (rev< d l) u v in
          never (subst (λ (x : ℕ). T (is_stored (code_of (x % 64)))) (rev-rev d l) r.stored)
          (subst (λ (x : ℕ). T (in_grid x)) (sym r.owner ∙ ap owner_cell (rev-rev d l)) v)

  module _ (w : (d : ℕ) → d < darts → T (not (free J d)) → g d ≤ cap J d) (res : Residual (net J) g d)
      (s : T (is_stored (code_of (d % 64)))) (o : T (in_grid (owner_cell d))) where
    abbrev σ : Step
    σ = step_of d

    on : OnGrid σ
    on = step-grid d o

    -- other links keep what they carry
    pub push-apart : (s : Step) → OnGrid s → s.link ≢ σ.link → h (dart_of s) ≡ g (dart_of s)
    push-apart x q n =
        let (k, t, e) = dart-step x q in
        push_else (dart_of x) k (λ r. n (ap (λ (y : Step). y.link) (sym e ∙ ap step_of r)))
        (λ r. n (ap (λ (y : Step). y.link) (sym e ∙ (ap step_of r ∙ (stored-turned d l s o).step))))

    abbrev Own : ℕ → ℕ → Type 0
    Own x y = h x + g y ≡ g x + h y + 1

    -- its own carries one more, net, along the dart's step
    pub push-own : Own (dart_of σ) (dart_of (turn σ))
    unfolding net
    push-own = go (carries (code_of (d % 64))) (λ t. t) (λ t. t) (carries (code_of (back_row (d % 64)))) (λ t. t) (λ t. t)
      where
        y : ℕ
        y = dart_of (turn σ)

        yl : y < darts
        yl = (dart-step (turn σ) (grid-turn on)).0

        yt : T (is_link_dart y)
        yt = (dart-step (turn σ) (grid-turn on)).1

        links : T (carries (code_of (d % 64))) → T (is_link_dart d)
        links c = unfold is_link_dart in and_both (carries (code_of (d % 64))) (in_grid (owner_cell d)) c o

        linked : T (is_link_dart d) → T (carries (code_of (d % 64)))
        linked c = unfold is_link_dart in and_left (carries (code_of (d % 64))) (in_grid (owner_cell d)) c

        twice : (x r u v : ℕ) → u ≡ x + (1 - r) → v ≡ r - 1 → min x r ≡ 0 → u + r ≡ x + v + 1
        twice x r u v e f m = omega arith

        -- both ways carry loads
        both : T (carries (code_of (d % 64))) → T (carries (code_of (back_row (d % 64)))) → Own (dart_of σ) y
        both c b =
            let e : dart_of σ ≡ d = step-dart d l (links c) in
            let f : rev d ≡ y = (back-link d l s o b).1 in
            let n : rev d ≢ d = λ q. dart-turn σ on (sym f ∙ (q ∙ sym e)) in
            subst₂ Own (sym e) f (twice (g d) (g (rev d)) (h d) (h (rev d)) (push-here (net J) g p d l n) (push-rev (net J) g p d l n) (p d l))

        -- the way back carries nothing
        ahead : T (carries (code_of (d % 64))) → T (not (carries (code_of (back_row (d % 64))))) → Own (dart_of σ) y
        ahead c b =
            let e : dart_of σ ≡ d = step-dart d l (links c) in
            let q : T (idle (rev d % 64)) = idle-back b in
            let u : T (not (is_link_dart (rev d))) = idle-link (rev d) q in
            let v : Shut J (rev d) = shut J (rev d) u (idle-pass (rev d) q) in
            let z : g (rev d) ≡ 0 = omega (arith, w (rev d) (rev< d l) v.unfree, v.cap0) in
            let n : rev d ≢ d = λ q. T_not (is_link_dart (rev d)) u (subst (λ (x : ℕ). T (is_link_dart x)) (sym q) (links c)) in
            let k : h y ≡ g y =
            push_else y yl (λ q. dart-turn σ on (q ∙ sym e)) (λ q. T_not (is_link_dart (rev d)) u (subst (λ (x : ℕ). T (is_link_dart x)) q yt)) in
            subst (λ (x : ℕ). Own x y) (sym e) (more (g d) (g (rev d)) (h d) (g y) (h y) (push-here (net J) g p d l n) z k)
          where
            idle-back : T (not (carries (code_of (back_row (d % 64))))) → T (idle (rev d % 64))
            idle-back b =
                let t = stored-turned d l s o in
                stored-idle (rev d % 64) (omega arith) t.stored (rw (over-row d (rev d) t.over) b)

            more : (x r u z v : ℕ) → u ≡ x + (1 - r) → r ≡ 0 → v ≡ z → u + z ≡ x + v + 1
            more x r u z v a b c = omega arith

        -- only the way back carries a load: the move takes one off it
        undone : T (not (carries (code_of (d % 64)))) → Own (dart_of σ) y
        undone c =
            let (t, f) = back-link d l s o (back-carries (d % 64) (omega arith) s c) in
            let n : rev d ≢ d = λ q. T_not (carries (code_of (d % 64))) c (linked (subst (λ (x : ℕ). T (is_link_dart x)) q t)) in
            let (k, u, e) = dart-step σ on in
            let j : h (dart_of σ) ≡ g (dart_of σ) =
            push_else (dart_of σ) k (λ q. T_not (carries (code_of (d % 64))) c (linked (subst (λ (x : ℕ). T (is_link_dart x)) q u)))
            (λ q. dart-turn σ on (sym f ∙ sym q)) in
            subst (λ (x : ℕ). Own (dart_of σ) x) f
            (less (g (dart_of σ)) (h (dart_of σ)) (g (rev d)) (h (rev d)) j (push-rev (net J) g p d l n) (loaded res))
          where
            q : T (idle (d % 64))
            q = stored-idle (d % 64) (omega arith) s c

            off : Shut J d
            off = shut J d (idle-link d q) (idle-pass d q)

            loaded : Residual (net J) g d → 0 < g (rev d)
            loaded (undo u) = u
            loaded (room u) = absurd (omega (arith, off.cap0))
            loaded (unlimited u) = absurd (T_not (free J d) off.unfree u)

            less : (x u z v : ℕ) → u ≡ x → v ≡ z - 1 → 0 < z → u + z ≡ x + v + 1
            less x u z v a b c = omega arith

        go : (b : Bool) → (T b → T (carries (code_of (d % 64)))) → (T (not b) → T (not (carries (code_of (d % 64)))))
            → (c : Bool) → (T c → T (carries (code_of (back_row (d % 64))))) → (T (not c) → T (not (carries (code_of (back_row (d % 64))))))
            → Own (dart_of σ) y
        go true f u true k v = both (f tt) (k tt)
        go true f u false k v = ahead (f tt) (v tt)
        go false f u c k v = undone (u tt)
