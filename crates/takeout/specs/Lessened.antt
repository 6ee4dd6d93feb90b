-- A record with fewer wires than another, and nothing else changed: so many less on each step. Bytes behind the record are no part of it. One move along
-- the step back of a dart takes one off the load of the dart's step. For a byte has its amount on one of the two ways of its link. Assumes nothing.
use Rattle.std.specs.Prelude.{◌≡◌, refl, ◌≢◌, Bool, true, false, not, ◌&&◌, List, ℕ, zero, suc, ◌+◌, ◌%◌, ◌≤◌, ◌<◌, T, length, get_or}
use Rattle.std.proofs.Common.{sym, ap, subst, ◌∙◌, arith}
use Rattle.std.specs.Bool.{beq}
use Rattle.sums.specs.Counting.{when}
use Rattle.sums.specs.Tests.{so, and_both, and-not}
use Rattle.model.specs.Links.{LinkKind, Link, link, same_link, same_step, Step, turn}
use Rattle.model.specs.Record.{record_size, offset, load_plane, cell, load}
use Rattle.model.proofs.Same.{same-link, same-link-eq}
use Rattle.channel.specs.Map.{darts, in_grid, owner_cell, step_of, is_link_dart, dart_of, is_stored, code_of, laid}
use Rattle.channel.specs.Map.Back.{link-stored}
use Rattle.channel.specs.Map.Darts.{OnGrid, step-grid, dart-step}
use Rattle.channel.specs.Map.Stores.{Lay, nothing, bumps, lay?, laid-length, laid-other, laid-rest, loads-bumped, load-other, byte-other, one_way_lem}
use Rattle.wire.specs.Ways.{turn-turn}

-- what a load byte may be
abbrev pub Fits : List ℕ → Link → Type 0
Fits rec l = (cell rec (load_plane l.kind) l.row l.column < 64) × (cell rec (load_plane l.kind) l.row l.column ≢ 32)

-- rec is `was` with out s wires less on each step s
pub record Lessened (was rec : List ℕ) (out : Step → ℕ) : Type 0 where
  pub head : (i : ℕ) → i < offset 2 0 0 → get_or rec i 0 ≡ get_or was i 0
  pub rest : (i : ℕ) → offset 17 0 0 ≤ i → i < record_size → get_or rec i 0 ≡ get_or was i 0
  pub bytes : (k : LinkKind) (r c : ℕ) → Fits rec (link k r c)
  pub loads : (s : Step) → load rec s + out s ≡ load was s

pub lessened-as : {was rec : List ℕ} (out less : Step → ℕ) → ((s : Step) → out s ≡ less s) → Lessened was rec out → Lessened was rec less
lessened-as out less e L =
    record { head = L.head; rest = L.rest; bytes = L.bytes; loads = λ s. omega (arith, e s, L.loads s) }

-- a record changed in its first 32,768 bytes only
pub record Behind (rec rec' : List ℕ) : Type 0 where
  pub size : length rec' ≡ length rec
  pub rest : (i : ℕ) → record_size ≤ i → get_or rec' i 0 ≡ get_or rec i 0

pub behind-none : (rec : List ℕ) → Behind rec rec
behind-none rec = record { size = refl; rest = λ i l. refl }

pub behind-two : {rec rec' rec'' : List ℕ} → Behind rec rec' → Behind rec' rec'' → Behind rec rec''
behind-two a b = record { size = b.size ∙ a.size; rest = λ i l. b.rest i l ∙ a.rest i l }

-- ---- steps along one link

-- two steps are one, or go along one link both ways, or along two links
data Beside (s t : Step) : Bool → Type 0 where
  same : s ≡ t → Beside s t true
  back : s ≡ turn t → Beside s t false
  apart : s.link ≢ t.link → Beside s t false

beside? : (s t : Step) → Beside s t (same_step s t)
beside? s t = by (same_link s.link t.link) refl
  where
    ways : s.link ≡ t.link → (b c : Bool) → s.forth ≡ b → t.forth ≡ c → Beside s t (true && beq b c)
    ways e true true p q = same (λ i. record { link = e i; forth = (p ∙ sym q) i })
    ways e true false p q = back (λ i. record { link = e i; forth = (p ∙ ap not (sym q)) i })
    ways e false true p q = back (λ i. record { link = e i; forth = (p ∙ ap not (sym q)) i })
    ways e false false p q = same (λ i. record { link = e i; forth = (p ∙ sym q) i })

    by : (b : Bool) → same_link s.link t.link ≡ b → Beside s t (b && beq s.forth t.forth)
    by true e = ways (same-link-eq s.link t.link (so e)) s.forth t.forth refl refl
    by false e = apart (λ z. subst T e (subst (λ (l : Link). T (same_link s.link l)) z (same-link s.link)))

-- ---- one move back

module _ {was rec : List ℕ} {out : Step → ℕ} (long : record_size ≤ length rec) (L : Lessened was rec out) (d : ℕ) (linked : T (is_link_dart d))
    (loaded : 0 < load rec (step_of d)) where
  abbrev σ : Step
  σ = step_of d

  abbrev b : ℕ
  b = dart_of (turn σ)

  grid : OnGrid (turn σ)
  grid = let o = step-grid d (link-stored d linked).1 in record { row< = o.row<; column< = o.column< }

  dart : (b < darts) × T (is_link_dart b) × (step_of b ≡ turn σ)
  dart = dart-step (turn σ) grid

  none-back : load rec (turn σ) ≡ 0
  none-back = one_way_lem rec σ (L.bytes σ.link.kind σ.link.row σ.link.column).0 loaded

  -- a byte that is bumped, where n wires go against the move: x stay of them, and y go the other way
  amounts : (n x y : ℕ) → 0 < n → y + n ≡ x + 1 → (0 < y → x ≡ 0) → (x + 1 ≡ n) × (y ≡ 0)
  amounts n x zero h e o = (omega arith, refl)
  amounts n x (suc y) h e o = absurd (omega (arith, o (omega arith)))

  Changed : List ℕ → Type 0
  Changed r = ((k : LinkKind) (i j : ℕ) → Fits r (link k i j)) × ((s : Step) → load r s + (out s + when (same_step s σ) 1) ≡ load was s)

  changed : (r : List ℕ) → Lay rec b r → Changed r
  unfolding Changed
  changed r (nothing n) =
      let (p, q) = link-stored b dart.1 in
      let stores = is_stored (code_of (b % 64)) && in_grid (owner_cell b) in
      absurd (and-not stores (and_both stores (not stores) (and_both (is_stored (code_of (b % 64))) (in_grid (owner_cell b)) p q) n))
  changed r (bumps t o) = (fits, loads)
    where
      e : step_of b ≡ turn σ
      e = dart.2

      bump : Fits r (step_of b).link × (load r (step_of b) + load rec (turn (step_of b)) ≡ load rec (step_of b) + load r (turn (step_of b)) + 1)
      bump =
          loads-bumped rec b t o long (L.bytes (step_of b).link.kind (step_of b).link.row (step_of b).link.column)
          (omega (arith, none-back, ap (load rec) e))

      own : Fits r σ.link
      own = subst (λ (u : Step). Fits r u.link) e bump.0

      less : (load r σ + 1 ≡ load rec σ) × (load r (turn σ) ≡ 0)
      less =
          amounts (load rec σ) (load r σ) (load r (turn σ)) loaded
          (omega (
            arith,
            bump.1,
            none-back,
            ap (load r) e,
            ap (load rec) e,
            ap (λ (u : Step). load rec (turn u)) e,
            ap (λ (u : Step). load r (turn u)) e,
            ap (load rec) (turn-turn σ),
            ap (load r) (turn-turn σ),
          ))
          (λ h. ap (load r) (sym (turn-turn σ)) ∙ one_way_lem r (turn σ) own.0 h)

      apart_from : (l : Link) → l ≢ σ.link → l ≢ (step_of b).link
      apart_from l n z = n (z ∙ ap (λ (u : Step). u.link) e)

      fits : (k : LinkKind) (i j : ℕ) → Fits r (link k i j)
      fits k i j = by (same_link (link k i j) σ.link) refl
        where
          by : (w : Bool) → same_link (link k i j) σ.link ≡ w → Fits r (link k i j)
          by true q = subst (λ (l : Link). Fits r l) (sym (same-link-eq (link k i j) σ.link (so q))) own
          by false q =
              subst (λ (m : ℕ). (m < 64) × (m ≢ 32))
              (sym (byte-other rec b t o (link k i j)
              (apart_from (link k i j) (λ z. subst T q (subst (λ (l : Link). T (same_link (link k i j) l)) z (same-link (link k i j))))))) (L.bytes k i j)

      loads : (s : Step) → load r s + (out s + when (same_step s σ) 1) ≡ load was s
      loads s = by (same_step s σ) (beside? s σ)
        where
          by : (w : Bool) → Beside s σ w → load r s + (out s + when w 1) ≡ load was s
          by true (same q) = omega (arith, less, L.loads s, ap (load r) q, ap (load rec) q)
          by false (back q) = omega (arith, less, none-back, L.loads s, ap (load r) q, ap (load rec) q)
          by false (apart n) = omega (arith, L.loads s, load-other rec b t o s (apart_from s.link n))

  pub lessens : Lessened was (laid rec (dart_of (turn (step_of d)))) (λ s. out s + when (same_step s (step_of d)) 1)
  unfolding Changed
  lessens =
      let c = changed (laid rec b) (lay? rec b) in
      record {
        head = λ i l. laid-other rec b i dart.0 l ∙ L.head i l;
        rest = λ i l k. laid-rest rec b i dart.0 l ∙ L.rest i l k;
        bytes = c.0;
        loads = c.1;
      }

-- and nothing behind the record
pub lessens-behind : (rec : List ℕ) (d : ℕ) → T (is_link_dart d) → Behind rec (laid rec (dart_of (turn (step_of d))))
lessens-behind rec d t =
    let o = step-grid d (link-stored d t).1 in
    let l : dart_of (turn (step_of d)) < darts = (dart-step (turn (step_of d)) (record { row< = o.row<; column< = o.column< })).0 in
    record { size = laid-length rec (dart_of (turn (step_of d))); rest = λ i k. laid-rest rec (dart_of (turn (step_of d))) i l (omega arith) }
