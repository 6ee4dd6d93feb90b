-- The sequence round a place as the code has it: for each position an end, which is the slot, the lane and the kind as one number. Assumes nothing.
use Rattle.std.specs.Prelude.{◌≡◌, refl, Bool, true, false, List, ℕ, zero, suc, ◌+◌, ◌*◌, ◌-◌, ◌/◌, ◌%◌, ◌≤◌, ◌<◌, eqb, ltb, length, map, get_or, set, replicate}
use Rattle.std.proofs.Common.{sym, ap, subst, ◌∙◌, arith, get_or-set_same, get_or-set_other, lt-ltb, le-ltb, ltb-true, ltb-false, eqb-true}
use Rattle.std.proofs.Math.Path.{fun_ext}
use Rattle.std.specs.Bool.{beq}
use Rattle.std.proofs.lemmas.Bool.{eqb-false}
use Rattle.model.specs.Pairing.{Pair}
use Rattle.pairing.specs.declared.Pair.{Pair as Ends}
use Rattle.pairing.specs.Slots.{start, arrival_pos, departure_pos, arrives_at, arrival-kind, departure-kind, past-kind}

-- the end of the lane i of slot k, which arrives where b is 1 and departs where it is 0
abbrev pub end_of : ℕ → ℕ → ℕ → ℕ
end_of k i b = 512 * k + 2 * i + b

-- the i-th end of the link of slot k on which m lanes arrive
abbrev pub link_end : ℕ → ℕ → ℕ → ℕ
link_end k m i = elim (ltb i m) [ true ↦ end_of k (m - 1 - i) 1 | false ↦ end_of k (i - m) 0 ]

abbrev pub slot_of : ℕ → ℕ
slot_of e = e / 512

abbrev pub lane_of : ℕ → ℕ
lane_of e = e % 512 / 2

-- whether a lane arrives at the position p
abbrev pub arriving : List ℕ → ℕ → Bool
arriving l p = eqb (get_or l p 0 % 2) 1

-- the pairs of the code
abbrev pub as_pair : Ends → Pair
as_pair e = record { fst = e.fst; snd = e.snd }

abbrev pub as_pairs : List Ends → List Pair
as_pairs = map as_pair

-- e is the end at the position p
pub data EndAt (a d : ℕ → ℕ) (p e : ℕ) : Type 0 where
  arrives : (k i : ℕ) → k < 5 → i < a k → i < 256 → p ≡ arrival_pos a d k i → e ≡ end_of k i 1 → EndAt a d p e
  departs : (k i : ℕ) → k < 5 → i < d k → i < 256 → p ≡ departure_pos a d k i → e ≡ end_of k i 0 → EndAt a d p e

abbrev pub Blank : List ℕ → Type 0
Blank l = (p : ℕ) → get_or l p 0 ≡ 0

-- the ends of the first n positions are laid, and no other
abbrev pub Laid : (ℕ → ℕ) → (ℕ → ℕ) → ℕ → List ℕ → Type 0
Laid a d n l = ((p : ℕ) → p < n → EndAt a d p (get_or l p 0)) × ((p : ℕ) → n ≤ p → get_or l p 0 ≡ 0)

-- r says whether the last of the first i entries of l and p differ in kind; it is false where there is none
pub record Differs (w : ℕ → Bool) (l : List ℕ) (i p : ℕ) (r : Bool) : Type 0 where
  pub yes : r ≡ true → (0 < i) × (beq (w (get_or l (i - 1) 0)) (w p) ≡ false)
  pub no : r ≡ false → 0 < i → beq (w (get_or l (i - 1) 0)) (w p) ≡ true

-- ---- the sequence

pub blank : (n p : ℕ) → ◌≡◌ {A = ℕ} (get_or (replicate n 0) p 0) 0
blank zero p = refl
blank (suc n) zero = refl
blank (suc n) (suc p) = blank n p

end-kind : (a d : ℕ → ℕ) (p e : ℕ) → EndAt a d p e → eqb (e % 2) 1 ≡ arrives_at a d 5 p
end-kind a d p e (arrives k i h l s q g) =
    let z : e % 2 ≡ 1 = omega arith in
    ap (λ (x : ℕ). eqb x 1) z ∙ sym (ap (arrives_at a d 5) q ∙ arrival-kind a d k 5 (a k - 1 - i) h (omega arith))
end-kind a d p e (departs k i h l s q g) =
    let z : e % 2 ≡ 0 = omega arith in
    ap (λ (x : ℕ). eqb x 1) z ∙ sym (ap (arrives_at a d 5) q ∙ departure-kind a d k 5 i h l)

module _ (k m i : ℕ) where
  abbrev either : Bool → ℕ
  either b = elim b [ true ↦ end_of k (m - 1 - i) 1 | false ↦ end_of k (i - m) 0 ]

  pub link-arrives : i < m → end_of k (m - 1 - i) 1 ≡ link_end k m i
  link-arrives h = ap either (sym (lt-ltb i m h))

  pub link-departs : m ≤ i → end_of k (i - m) 0 ≡ link_end k m i
  link-departs h = ap either (sym (le-ltb i m h))

-- the ends of a link stand from where it starts
pub link-end : (a d : ℕ → ℕ) (k p m i e : ℕ) → p ≡ start a d k → m ≡ a k → k < 5 → i < m + d k → m < 256 → d k < 256 → e ≡ link_end k m i → EndAt a d (p + i) e
link-end a d k p m i e s c h l g f q = by (ltb i m) refl q
  where
    by : (b : Bool) → ltb i m ≡ b → e ≡ either k m i b → EndAt a d (p + i) e
    by true t q = let u = ltb-true i m t in arrives k (m - 1 - i) h (omega arith) (omega arith) (omega arith) q
    by false t q = let u = ltb-false i m t in departs k (i - m) h (omega arith) (omega arith) (omega arith) q

-- one end more
pub lay-more : (a d : ℕ → ℕ) (n m e : ℕ) (l : List ℕ) → m ≡ n + 1 → n < length l → Laid a d n l → EndAt a d n e → Laid a d m (set l n e)
lay-more a d n m e l z h g x = (below, λ p t. get_or-set_other l n p e 0 (λ q. omega arith) ∙ g.1 p (omega arith))
  where
    below : (p : ℕ) → p < m → EndAt a d p (get_or (set l n e) p 0)
    below p t = by (eqb p n) refl
      where
        by : (b : Bool) → eqb p n ≡ b → EndAt a d p (get_or (set l n e) p 0)
        by true q =
            let s = sym (eqb-true p n q) in
            subst (λ (y : ℕ). EndAt a d y (get_or (set l n e) y 0)) s (subst (EndAt a d n) (sym (get_or-set_same l n e 0 h)) x)
        by false q =
            let s = eqb-false p n q in
            subst (EndAt a d p) (sym (get_or-set_other l n p e 0 s)) (g.0 p (omega arith))

-- the ends laid have the kinds of all positions
pub laid-kinds : (a d : ℕ → ℕ) (n : ℕ) (l : List ℕ) → n ≡ start a d 5 → Laid a d n l → arriving l ≡ arrives_at a d 5
laid-kinds a d n l e g = fun_ext (λ p. by p (ltb p n) refl)
  where
    by : (p : ℕ) (b : Bool) → ltb p n ≡ b → arriving l p ≡ arrives_at a d 5 p
    by p true q = end-kind a d p (get_or l p 0) (g.0 p (ltb-true p n q))
    by p false q =
        let h = ltb-false p n q in
        ap (λ (x : ℕ). eqb (x % 2) 1) (g.1 p h) ∙ sym (past-kind a d 5 p (omega arith))
