-- The lanes of the five slots of an exit: each by its number, by the word of its row, and a list that is filled slot by slot. Assumes nothing.
use Rattle.std.specs.Prelude.{◌≡◌, refl, ◌≢◌, Bool, true, false, not, List, ℕ, zero, suc, ◌+◌, ◌/◌, ◌%◌, ◌≤◌, ◌<◌, eqb, length, get_or, set}
use Rattle.std.proofs.Common.{sym, ap, ◌∙◌, arith, length-set, ext_get_or, get_or-set_same, get_or-set_other, eqb-true, eq-eqb, ne_eqb}
use Rattle.std.proofs.lemmas.Bool.{eqb-false}
use Rattle.model.specs.Links.{Step, turn}
use Rattle.model.specs.Record.{load}
use Rattle.channel.specs.Map.{place_of, way_part}
use Rattle.channel.specs.Map.Entered.{link-wires, no-wires, against-wires}
use Rattle.channel.specs.Map.Laden.{word-carries, word-along, word-against}
use Rattle.wire.specs.Hops.{lanes_at, lanes_of}

-- the k-th of them
pub lanes-at : (f : Step → ℕ) (d k : ℕ) → k < 5 → get_or (lanes_of f d) k 0 ≡ lanes_at f (d + k)
lanes-at f d zero h = let e : d ≡ d + 0 = omega arith in ap (lanes_at f) e
lanes-at f d (suc zero) h = refl
lanes-at f d (suc (suc zero)) h = refl
lanes-at f d (suc (suc (suc zero))) h = refl
lanes-at f d (suc (suc (suc (suc zero)))) h = refl
lanes-at f d (suc (suc (suc (suc (suc k))))) h = absurd (omega arith)

-- the first k of five entries are those of the slots
pub record Counted (f : Step → ℕ) (d : ℕ) (l : List ℕ) (k : ℕ) : Type 0 where
  pub size : length l ≡ 5
  pub each : (j : ℕ) → j < k → get_or l j 0 ≡ lanes_at f (d + j)

module _ (f : Step → ℕ) (d : ℕ) (l : List ℕ) (k : ℕ) where
  counted-more : (n : ℕ) → k < 5 → n ≡ lanes_at f (d + k) → Counted f d l k → Counted f d (set l k n) (k + 1)
  counted-more n h e c = record { size = length-set l k n ∙ c.size; each = λ j t. by j t (eqb j k) refl }
    where
      by : (j : ℕ) → j < k + 1 → (b : Bool) → eqb j k ≡ b → get_or (set l k n) j 0 ≡ lanes_at f (d + j)
      by j t true q =
          let z = eqb-true j k q in
          ap (λ (i : ℕ). get_or (set l k n) i 0) z ∙ (get_or-set_same l k n 0 (omega (arith, c.size)) ∙ (e ∙ ap (λ (i : ℕ). lanes_at f (d + i)) (sym z)))
      by j t false q = let z = eqb-false j k q in get_or-set_other l k j n 0 z ∙ c.each j (omega arith)

  counted-all : 5 ≤ k → Counted f d l k → l ≡ lanes_of f d
  counted-all h c = ext_get_or 0 l (lanes_of f d) c.size (λ j t. c.each j (omega (arith, c.size)) ∙ sym (lanes-at f d j (omega (arith, c.size))))

-- the lanes that come and those that leave
pub record Read (rec : List ℕ) (d : ℕ) (come leave : List ℕ) (k : ℕ) : Type 0 where
  pub within : k ≤ 5
  pub comes : Counted (λ s. load rec (turn s)) d come k
  pub leaves : Counted (load rec) d leave k

module _ (rec : List ℕ) (d : ℕ) (come leave : List ℕ) where
  pub read-start : length come ≡ 5 → length leave ≡ 5 → Read rec d come leave 0
  read-start e f =
      record {
        within = omega arith;
        comes = record { size = e; each = λ j h. absurd (omega arith) };
        leaves = record { size = f; each = λ j h. absurd (omega arith) };
      }

  module _ (k : ℕ) (r : Read rec d come leave k) where
    pub read_more : (m n : ℕ) → k < 5 → m ≡ lanes_at (λ s. load rec (turn s)) (d + k) → n ≡ lanes_at (load rec) (d + k)
        → Read rec d (set come k m) (set leave k n) (k + 1)
    read_more m n h e f =
        record {
          within = omega arith;
          comes = counted-more (λ s. load rec (turn s)) d come k m h e r.comes;
          leaves = counted-more (load rec) d leave k n h f r.leaves;
        }

    pub read_all : 5 ≤ k → (come ≡ lanes_of (λ s. load rec (turn s)) d) × (leave ≡ lanes_of (load rec) d)
    read_all h = (counted-all (λ s. load rec (turn s)) d come k h r.comes, counted-all (load rec) d leave k h r.leaves)

-- ---- by the word of a row

module _ (rec : List ℕ) (w : ℕ) (link : w ≢ 1) (d : ℕ) (row : place_of (d % 64) ≡ w) where
  pub word_none : w ≡ 0 → (0 ≡ lanes_at (λ s. load rec (turn s)) d) × (0 ≡ lanes_at (load rec) d)
  word_none z =
      let c = word-carries (d % 64) w row link ∙ ap not (eq-eqb w 0 z) in
      (no-wires d 0 _ c, no-wires d 0 _ c)

  pub word_lanes : (x : ℕ) → d / 64 ≡ x → w ≢ 0 → 41 ≤ x → x < 1600 → (b : ℕ) → b ≡ get_or rec (w / 2 + x) 0 → (m n : ℕ) → m ≡ way_part (not (eqb (w % 2) 0)) b
      → n ≡ way_part (eqb (w % 2) 0) b → (m ≡ lanes_at (λ s. load rec (turn s)) d) × (n ≡ lanes_at (load rec) d)
  word_lanes x h z l g b q m n e f =
      let c = word-carries (d % 64) w row link ∙ ap not (ne_eqb w 0 z) in
      (against-wires rec d m c (e ∙ word-against rec d w row x h z link l g b q), link-wires d n _ c (f ∙ word-along rec d w row x h z link l g b q))
