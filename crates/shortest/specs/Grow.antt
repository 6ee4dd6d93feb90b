-- A search that raises prices as it goes. It spreads along tight moves from an unwired pin; when no tight move leads on, the prices of all spots that it came to
-- are raised together by the least that the moves out of them leave. The ways in the queue stay tight, since both ends of each are raised. Assumes nothing.
use Rattle.std.specs.Prelude.{◌≡◌, refl, ◌≢◌, ◌⊎◌, Bool, true, false, ◌&&◌, List, ℕ, ◌+◌, ◌-◌, ◌*◌, ◌/◌, ◌%◌, ◌≤◌, ◌<◌, eqb, ltb, get_or}
use Rattle.std.proofs.Common.{sym, ⊎_elim, arith, ltb→lt, nltb→le}
use Rattle.std.proofs.Math.Path.{subst}
use Rattle.std.proofs.Math.Dec.{T, eqb→eq}
use Rattle.sums.specs.Tests.{so, so-not, and_left, and_right, and_both}
use Rattle.price.specs.Moves.{Tight}
use Rattle.price.specs.Priced.{Priced}
use Rattle.model.specs.Job.{Job}
use Rattle.channel.specs.Map.{spots, darts, rev, moves, view, outside}
use Rattle.channel.specs.Map.Numbers.{slot-dart, head-spot}
use Rattle.channel.specs.Map.Network.{net}
use Rattle.augment.specs.Marks.{marked, is-marked, marked-spot, marked-byte}
use Rattle.augment.specs.Spread.{dart_to, Came, Spread}
use Rattle.shortest.specs.MovesPriced.{Kept}
use Rattle.shortest.specs.Slack.{Slack, taking, adding, raise, slack-inside, slack-tight, priced-kept, Leaves}

-- what the move along d leaves, as a program finds it
abbrev pub slack_of : (len π : ℕ → ℕ) → List ℕ → ℕ → ℕ
slack_of len π rec d =
    elim (ltb 0 (view rec (rev d))) [
      | true ↦ π (rev d / 8) - (π (d / 8) + len (rev d))
      | false ↦ (π (rev d / 8) + len d) - π (d / 8)
    ]

-- the moves that leave nothing
unfoldable pub tight_moves : Job → (len π : ℕ → ℕ) → List ℕ → ℕ → Bool
tight_moves J len π rec d = moves J rec d && eqb (slack_of len π rec d) 0

module _ (rec : List ℕ) {len π : ℕ → ℕ} where
  pub slack-exact : (d : ℕ) → Kept len π rec d → Slack len π rec d (slack_of len π rec d)
  slack-exact d K = by (ltb 0 (view rec (rev d))) refl
    where
      by : (b : Bool) → ltb 0 (view rec (rev d)) ≡ b
          → Slack len π rec d (elim b [ true ↦ π (rev d / 8) - (π (d / 8) + len (rev d)) | false ↦ (π (rev d / 8) + len d) - π (d / 8) ])
      by true e = let h : 0 < view rec (rev d) = ltb→lt 0 (view rec (rev d)) (so e) in taking h (omega (arith, K.taking h))
      by false e =
          let z : view rec (rev d) ≡ 0 = omega (arith, nltb→le 0 (view rec (rev d)) (so-not e)) in
          adding z (omega (arith, K.adding z))

  -- what a move leaves is one number
  slack-is : (d x : ℕ) → Slack len π rec d x → slack_of len π rec d ≡ x
  slack-is d x s = by (ltb 0 (view rec (rev d))) refl s
    where
      by : (b : Bool) → ltb 0 (view rec (rev d)) ≡ b → Slack len π rec d x
          → ◌≡◌ {A = ℕ} (elim b [ true ↦ π (rev d / 8) - (π (d / 8) + len (rev d)) | false ↦ (π (rev d / 8) + len d) - π (d / 8) ]) x
      by true e (taking h q) = omega arith
      by true e (adding z q) = absurd (omega (arith, ltb→lt 0 (view rec (rev d)) (so e)))
      by false e (taking h q) = absurd (omega (arith, nltb→le 0 (view rec (rev d)) (so-not e)))
      by false e (adding z q) = omega arith

module _ (J : Job) (rec : List ℕ) {len π : ℕ → ℕ} (P : Priced (net J) len (view rec) π) where
  tight-slack : (d : ℕ) → d < darts → T (tight_moves J len π rec d) → T (moves J rec d) × Slack len π rec d 0
  unfolding tight_moves
  tight-slack d l t =
      let m : T (moves J rec d) = and_left (moves J rec d) (eqb (slack_of len π rec d) 0) t in
      let z : slack_of len π rec d ≡ 0 = eqb→eq (slack_of len π rec d) 0 (and_right (moves J rec d) (eqb (slack_of len π rec d) 0) t) in
      (m, subst (λ (x : ℕ). Slack len π rec d x) z (slack-exact rec d (priced-kept J rec P d l m)))

  pub tight-is : (d : ℕ) → d < darts → T (tight_moves J len π rec d) → Tight (net J) len (view rec) π d
  tight-is d l t = let (m, s) = tight-slack d l t in slack-tight J rec d m s

  -- A tight move between two spots of a set stays tight when the prices of the set are raised.
  tight-raised : (d : ℕ) → d < darts → (S : ℕ → Bool) (δ : ℕ) → T (S (d / 8)) → T (S (rev d / 8)) → T (tight_moves J len π rec d)
      → T (tight_moves J len (raise π S δ) rec d)
  unfolding tight_moves
  tight-raised d l S δ a b t =
      let (m, s) = tight-slack d l t in
      and_both (moves J rec d) (eqb (slack_of len (raise π S δ) rec d) 0) m
      (subst (λ (x : ℕ). T (eqb x 0)) (sym (slack-is rec d 0 (slack-inside S δ a b s))) tt)

  module _ {start : ℕ} {t₀ t q f w : List ℕ} {n : ℕ} (s : Spread J (tight_moves J len π rec) start t₀ t q f w n) where
    hit : (i : ℕ) → i < n → T (marked t (get_or q i 0))
    hit i l = is-marked t (get_or q i 0) (s.spot i l) (s.hit i l)

    -- The search stands as before when the prices of the spots that it came to are raised.
    pub spread-raised : (δ : ℕ) → Spread J (tight_moves J len (raise π (marked t) δ) rec) start t₀ t q f w n
    spread-raised δ =
        record {
          some = s.some;
          first = s.first;
          spot = s.spot;
          fresh = s.fresh;
          inside = s.inside;
          apart = s.apart;
          came = λ i p l. came i p l (s.came i p l);
          hit = s.hit;
          kept = s.kept;
          owed = s.owed;
          same = s.same;
        }
      where
        came : (i : ℕ) → 0 < i → i < n → Came (tight_moves J len π rec) q f w i → Came (tight_moves J len (raise π (marked t) δ) rec) q f w i
        came i p l c =
            let k : get_or f i 0 < n = omega (arith, c.falls) in
            let tail : dart_to q f w i / 8 ≡ get_or q (get_or f i 0) 0 = omega (arith, c.slot) in
            record {
              falls = c.falls;
              slot = c.slot;
              may = tight-raised (dart_to q f w i) (slot-dart (get_or q (get_or f i 0) 0) (get_or w i 0) (s.spot (get_or f i 0) k) c.slot) (marked t) δ
                  (subst (λ (x : ℕ). T (marked t x)) (sym tail) (hit (get_or f i 0) k)) (subst (λ (x : ℕ). T (marked t x)) (sym c.leads) (hit i l)) c.may;
              leads = c.leads;
            }

    -- each move of the i-th spot leads to a marked spot, or leaves `least` or more
    abbrev pub Looked : ℕ → ℕ → Type 0
    Looked least i = (k : ℕ) → k < 8 → T (moves J rec (8 * get_or q i 0 + k))
        → (get_or t (rev (8 * get_or q i 0 + k) / 8) 0 ≡ 1) ⊎ (least ≤ slack_of len π rec (8 * get_or q i 0 + k))

    module _ (blank : (x : ℕ) → x < spots → get_or t₀ x 0 ≢ 1) {least : ℕ} (looked : (i : ℕ) → i < n → Looked least i) where
      pub queued : (x : ℕ) → T (marked t x) → (i : ℕ) × (i < n) × (get_or q i 0 ≡ x)
      queued x m = ⊎_elim (λ e. absurd (blank x (marked-spot t x m) e)) (λ r. r) (s.owed x (marked-byte t x m))

      -- Once every spot in the queue is looked at, the moves out of them leave so much.
      pub looked-leaves : Leaves J rec len π (marked t) least
      looked-leaves =
          record {
            inside = λ u l m o. let (i, k, e) = queued u m in s.inside i k (subst (λ (x : ℕ). T (outside J x)) (sym e) o);
            least = leaves;
          }
        where
          leaves : (d : ℕ) → d < darts → T (moves J rec d) → T (marked t (d / 8)) → (T (marked t (rev d / 8)) → ⊥)
              → (x : ℕ) × Slack len π rec d x × (least ≤ x)
          leaves d l m a b =
              let (i, k, e) = queued (d / 8) a in
              let at : 8 * get_or q i 0 + d % 8 ≡ d = omega arith in
              let kept : Kept len π rec d = priced-kept J rec P d l m in
              ⊎_elim
              (λ h. absurd (b (is-marked t (rev d / 8) (head-spot d l) (subst (λ (x : ℕ). get_or t (rev x / 8) 0 ≡ 1) at h))))
              (λ h. (slack_of len π rec d, slack-exact rec d kept, subst (λ (x : ℕ). least ≤ slack_of len π rec x) at h))
              (looked i k (d % 8) (omega arith) (subst (λ (x : ℕ). T (moves J rec x)) (sym at) m))
