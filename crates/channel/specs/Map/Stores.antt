-- The bytes of loads: a byte has its amount on one of a link's two ways, and bumping it takes one off the other way or adds one to its own. One move bumps
-- the byte of the dart's link and no other: the bytes of two links stand at different addresses. Assumes nothing.
use Rattle.std.specs.Prelude.{◌≡◌, ◌≢◌, ◌⊎◌, Bool, not, ◌&&◌, List, ℕ, zero, suc, ◌+◌, ◌-◌, ◌*◌, ◌%◌, ◌≤◌, ◌<◌, eqb, ltb, length, get_or, set}
use Rattle.std.proofs.Math.Path.{refl}
use Rattle.std.proofs.Common.{sym, ap, subst₂, ◌∙◌, inl, inr, arith, eqb→eq, ltb→lt, length-set, get_or-set_same}
use Rattle.std.proofs.Math.Bool.{true, false}
use Rattle.std.proofs.Math.Dec.{T, eqb-suc-zero}
use Rattle.std.proofs.Math.Seq.{get_or-set_other}
use Rattle.sums.specs.Tests.{Same, same, other, same?, and_left, and_right, below, below_at}
use Rattle.sums.specs.Sums.{when-so, when-none, when-cong}
use Rattle.model.specs.Links.{north_side, Link, link_code, Step, turn}
use Rattle.model.specs.Record.{record_size, offset, load_plane, kinds, cell, job_of, forth_part, back_part, load}
use Rattle.model.proofs.RecordOf.{in_cells, cells-row, cells-column, cells-have}
use Rattle.model.proofs.JobBytes.{job-same}
use Rattle.channel.specs.Map.{darts, in_grid, owner_cell, step_of, is_stored, bump, address, laid, links, kind_of, sign_of, code_of}
use Rattle.channel.specs.Map.Grid.{grid-bounds}
use Rattle.channel.specs.Map.Back.{Less, less, most, less?}
use Rattle.channel.specs.Map.Darts.{grid-cell, kind-code, OnGrid, step-grid}

-- ---- one byte

-- what a load byte may be
abbrev Fits : ℕ → Type 0
Fits b = (b < 64) × (b ≢ 32)

-- what the byte has along the link's positive way, and what against it
abbrev amount : Bool → ℕ → ℕ
amount true b = forth_part b
amount false b = back_part b

-- at most one of the two is not 0
amount-one : (f : Bool) (b : ℕ) → b < 64 → 0 < amount f b → amount (not f) b ≡ 0
amount-one true b l h = omega arith
amount-one false b l h = omega arith

-- one more that way: one less the other way, or one more this way
abbrev Bumped : Bool → ℕ → ℕ → Type 0
Bumped f b b' = Fits b' × (amount f b' + amount (not f) b ≡ amount f b + amount (not f) b' + 1)

at-34 : (b : ℕ) → 32 ≤ b → b ≢ 32 → b ≢ 33 → 34 ≤ b
at-34 b p q r = omega arith

from-33 : (b : ℕ) → 32 ≤ b → b ≢ 32 → 33 ≤ b
from-33 b p q = omega arith

not_none : (b : ℕ) → b ≢ 0 → 0 < b
not_none b n = omega arith

forth-more : (b : ℕ) → b < 32 → forth_part b < 31 → Bumped true b (b + 1)
forth-more b l h = ((omega arith, omega arith), omega arith)

forth-last : (b : ℕ) → b ≡ 33 → Bumped true b 0
forth-last b e = ((omega arith, omega arith), omega arith)

forth-less : (b : ℕ) → 34 ≤ b → b < 64 → Bumped true b (b - 1)
forth-less b l m = ((omega arith, omega arith), omega arith)

back-first : (b : ℕ) → b ≡ 0 → Bumped false b 33
back-first b e = ((omega arith, omega arith), omega arith)

back-less : (b : ℕ) → b < 32 → 0 < b → Bumped false b (b - 1)
back-less b l m = ((omega arith, omega arith), omega arith)

back_more : (b : ℕ) → 33 ≤ b → back_part b < 31 → Bumped false b (b + 1)
back_more b l h = ((omega arith, omega arith), omega arith)

bumped : (n b : ℕ) → Fits b → amount (eqb n 0) b < 31 → Bumped (eqb n 0) b (bump n b)
unfolding bump
bumped zero b (l, n) h = go (ltb b 32) (less? b 32) (eqb b 33) (same? b 33)
  where
    go : (x : Bool) → Less b 32 x → (y : Bool) → Same b 33 y → Bumped true b (elim x [ true ↦ b + 1 | false ↦ elim y [ true ↦ 0 | false ↦ b - 1 ] ])
    go true (less p) y q = forth-more b p h
    go false (most p) true (same q) = forth-last b q
    go false (most p) false (other q) = forth-less b (at-34 b p n q) l
bumped (suc m) b (l, n) h =
    rw (eqb-suc-zero m) (go (eqb b 0) (same? b 0) (ltb b 32) (less? b 32) (ltb b 255) (less? b 255) (rw (eqb-suc-zero m) at h))
  where
    go : (y : Bool) → Same b 0 y → (x : Bool) → Less b 32 x → (z : Bool) → Less b 255 z → back_part b < 31
        → Bumped false b (elim y [ true ↦ 33 | false ↦ elim x [ true ↦ b - 1 | false ↦ elim z [ true ↦ b + 1 | false ↦ b ] ] ])
    go true (same q) x p z r k = back-first b q
    go false (other q) true (less p) z r k = back-less b p (not_none b q)
    go false (other q) false (most p) true r k = back_more b (from-33 b p n) k
    go false (other q) false (most p) false (most r) k = absurd (omega arith)

-- ---- the byte of a step

abbrev byte_of : List ℕ → Link → ℕ
byte_of rec l = cell rec (load_plane l.kind) l.row l.column

way-amount : (rec : List ℕ) (l : Link) (f : Bool) → load rec (record { link = l; forth = f }) ≡ amount f (byte_of rec l)
unfolding load
way-amount rec l true = refl
way-amount rec l false = refl

load-amount : (rec : List ℕ) (s : Step) → load rec s ≡ amount s.forth (byte_of rec s.link)
load-amount rec s = way-amount rec s.link s.forth

-- wires go along a link one way only
pub one_way_lem : (rec : List ℕ) (s : Step) → byte_of rec s.link < 64 → 0 < load rec s → load rec (turn s) ≡ 0
one_way_lem rec s l h = load-amount rec (turn s) ∙ amount-one s.forth (byte_of rec s.link) l (omega (arith, load-amount rec s))

-- ---- where the byte stands

-- a step off the grid has no byte
pub grid? : (rec : List ℕ) (s : Step) → OnGrid s ⊎ (load rec s ≡ 0)
unfolding cell
grid? rec s = go (in_cells s.link.row s.link.column) (λ t. t) (λ t. t)
  where
    none : (f : Bool) (b : ℕ) → b ≡ 0 → amount f b ≡ 0
    none true b e = omega arith
    none false b e = omega arith

    go : (i : Bool) → (T i → T (in_cells s.link.row s.link.column)) → (T (in_cells s.link.row s.link.column) → T i)
        → OnGrid s ⊎ (load rec s ≡ 0)
    go true f h = inl (record { row< = cells-row s.link.row s.link.column (f tt); column< = cells-column s.link.row s.link.column (f tt) })
    go false f h =
        inr (load-amount rec s ∙ none s.forth (byte_of rec s.link) (when-none (in_cells s.link.row s.link.column) _ (λ t. absurd (h t))))

row-kind< : (i : ℕ) → i < 64 → kind_of i < 15
unfolding below kind_of links
row-kind< i l = ltb→lt _ _ (below_at 64 (λ i. ltb (kind_of i) 15) tt i l)

code-kind : (n : ℕ) → n < 15 → link_code (get_or kinds n north_side) ≡ n
unfolding below
code-kind n l = eqb→eq _ _ (below_at 15 (λ n. eqb (link_code (get_or kinds n north_side)) n) tt n l)

abbrev spot_of : Link → ℕ
spot_of l = offset (load_plane l.kind) l.row l.column

offset-one : (a r c p q o : ℕ) → c < 40 → o < 40 → r < 40 → q < 40 → 1600 * a + 40 * r + c ≡ 1600 * p + 40 * q + o → (a ≡ p) × (r ≡ q) × (c ≡ o)
offset-one a r c p q o l m h k e = (omega arith, omega arith, omega arith)

-- two links of the grid at one address are the same
spot-one : (l m : Link) → l.row < 40 → l.column < 40 → m.row < 40 → m.column < 40 → spot_of l ≡ spot_of m → l ≡ m
spot-one l m a b c d e =
    let (p, q, r) = offset-one (link_code l.kind) l.row l.column (link_code m.kind) m.row m.column b d a c (omega arith) in
    let k : l.kind ≡ m.kind = sym (kind-code l.kind).1 ∙ ap (λ (n : ℕ). get_or kinds n north_side) p ∙ (kind-code m.kind).1 in
    λ i. record { kind = k i; row = q i; column = r i }

module _ (d : ℕ) (g : T (in_grid (owner_cell d))) where
  pub address-spot : address d ≡ spot_of (step_of d).link
  unfolding address step_of
  address-spot = omega (arith, code-kind (kind_of (d % 64)) (row-kind< (d % 64) (omega arith)), grid-cell (owner_cell d) g)

  pub address-range : (offset 2 0 0 ≤ address d) × (address d < offset 17 0 0)
  unfolding address
  address-range = (omega (arith, grid-bounds (owner_cell d) g), omega (arith, grid-bounds (owner_cell d) g, row-kind< (d % 64) (omega arith)))

-- ---- one move

module _ (rec : List ℕ) (d : ℕ) where
  abbrev stores : Bool
  stores = is_stored (code_of (d % 64)) && in_grid (owner_cell d)

  abbrev after : List ℕ
  after = set rec (address d) (bump (sign_of (d % 64)) (get_or rec (address d) 0))

  -- either it changes nothing, or it bumps the byte of a link on the grid
  pub data Lay : List ℕ → Type 0 where
    nothing : T (not stores) → Lay rec
    bumps : T (is_stored (code_of (d % 64))) → T (in_grid (owner_cell d)) → Lay after

  pub lay? : Lay (laid rec d)
  unfolding laid
  lay? = go stores (λ t. t) (λ t. t)
    where
      go : (b : Bool) → (T b → T stores) → (T (not b) → T (not stores)) → Lay (elim b [ true ↦ after | false ↦ rec ])
      go true f h =
          bumps (and_left (is_stored (code_of (d % 64))) (in_grid (owner_cell d)) (f tt)) (and_right (is_stored (code_of (d % 64))) (in_grid (owner_cell d)) (f tt))
      go false f h = nothing (h tt)

  -- A move changes load bytes only, and keeps the length.
  pub laid-length : length (laid rec d) ≡ length rec
  laid-length = go (laid rec d) lay?
    where
      go : (r : List ℕ) → Lay r → length r ≡ length rec
      go r (nothing n) = refl
      go r (bumps s g) = length-set rec (address d) _

  -- a byte out of the planes of loads stays
  laid_kept : (i : ℕ) → (offset 2 0 0 ≤ i → i < offset 17 0 0 → ⊥) → get_or (laid rec d) i 0 ≡ get_or rec i 0
  laid_kept i h = go (laid rec d) lay?
    where
      go : (r : List ℕ) → Lay r → get_or r i 0 ≡ get_or rec i 0
      go r (nothing n) = refl
      go r (bumps s g) =
          get_or-set_other rec (address d) i _ 0 (λ e. h (omega (arith, address-range d g)) (omega (arith, address-range d g)))

  pub laid-other : (i : ℕ) → d < darts → i < offset 2 0 0 → get_or (laid rec d) i 0 ≡ get_or rec i 0
  laid-other i l h = laid_kept i (λ a b. omega arith)

  pub laid-rest : (i : ℕ) → d < darts → offset 17 0 0 ≤ i → get_or (laid rec d) i 0 ≡ get_or rec i 0
  laid-rest i l h = laid_kept i (λ a b. omega arith)

  pub laid-job : d < darts → job_of (laid rec d) ≡ job_of rec
  laid-job l = job-same (laid rec d) rec (λ i h. laid-other i l h) (λ i h k. laid-rest i l (omega arith))

  module _ (s : T (is_stored (code_of (d % 64)))) (g : T (in_grid (owner_cell d))) where
    byte-in : (r : List ℕ) (l : Link) → l.row < 40 → l.column < 40 → byte_of r l ≡ get_or r (spot_of l) 0
    unfolding cell
    byte-in r l a b = when-so (in_cells l.row l.column) _ (cells-have l.row l.column a b)

    -- the byte of the dart's link
    byte-bumped : record_size ≤ length rec → byte_of after (step_of d).link ≡ bump (sign_of (d % 64)) (byte_of rec (step_of d).link)
    byte-bumped long =
        let o = step-grid d g in
        byte-in after (step_of d).link o.row< o.column<
        ∙ (ap (λ (i : ℕ). get_or after i 0) (sym (address-spot d g))
        ∙ (get_or-set_same rec (address d) _ 0 (omega (arith, address-range d g))
        ∙ ap (bump (sign_of (d % 64))) (ap (λ (i : ℕ). get_or rec i 0) (address-spot d g) ∙ sym (byte-in rec (step_of d).link o.row< o.column<))))

    -- what it has: one less against the step, or one more along it
    pub loads-bumped : record_size ≤ length rec → Fits (byte_of rec (step_of d).link) → load rec (step_of d) < 31
        → Fits (byte_of after (step_of d).link) × (load after (step_of d) + load rec (turn (step_of d)) ≡ load rec (step_of d) + load after (turn (step_of d)) + 1)
    loads-bumped long fits h =
        (change.0, omega (arith, change, load-amount after σ, load-amount rec σ, load-amount after (turn σ), load-amount rec (turn σ)))
      where
        σ : Step
        σ = step_of d

        b : ℕ
        b = byte_of rec σ.link

        forth : σ.forth ≡ eqb (sign_of (d % 64)) 0
        forth = unfold step_of in refl

        low : amount (eqb (sign_of (d % 64)) 0) b < 31
        low = omega (arith, h, load-amount rec σ, ap (λ (f : Bool). amount f b) forth)

        change : Bumped σ.forth b (byte_of after σ.link)
        change = subst₂ (λ (f : Bool) (x : ℕ). Bumped f b x) (sym forth) (sym (byte-bumped long)) (bumped (sign_of (d % 64)) b fits low)

    -- and every other
    pub byte-other : (l : Link) → l ≢ (step_of d).link → byte_of after l ≡ byte_of rec l
    unfolding cell
    byte-other l n =
        let o = step-grid d g in
        when-cong (in_cells l.row l.column) _ _
        (λ t. get_or-set_other rec (address d) (spot_of l) _ 0
        (λ e. n
        (spot-one l (step_of d).link (cells-row l.row l.column t) (cells-column l.row l.column t) o.row< o.column< (e ∙ address-spot d g))))

    pub load-other : (s : Step) → s.link ≢ (step_of d).link → load after s ≡ load rec s
    load-other s n = load-amount after s ∙ (ap (amount s.forth) (byte-other s.link n) ∙ sym (load-amount rec s))
