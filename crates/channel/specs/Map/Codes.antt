-- What the code of a row says of its link: who owns it, its kind and its sign; and the codes one by one. Assumes nothing.
use Rattle.std.specs.Prelude.{◌≡◌, refl, ◌≢◌, ◌⊎◌, Bool, true, false, not, ◌&&◌, ◌||◌, ℕ, zero, suc, ◌+◌, ◌/◌, ◌%◌, ◌≤◌, ◌<◌, T, eqb, leb, ltb}
use Rattle.std.proofs.Common.{sym, subst, ◌∙◌, inl, inr, arith, eq-eqb, ne_eqb, eqb→eq, leb→le, ltb→lt}
use Rattle.sums.specs.Tests.{Same, same, other, same?, so, and_left, and_right, below, below_at}
use Rattle.channel.specs.Map.{links, owners, signs, codes, kind_of, owner_of, sign_of, code_of, owner_cell, carries, is_passage}
use Rattle.channel.specs.Map.Bools.{if-so}
use Rattle.channel.specs.Map.Bytes.{owner-is}

-- ---- the rows of a code

-- the darts whose links their own cells own
abbrev own : ℕ → Bool
own c = not (eqb c 1 || (eqb c 6 || eqb c 13))

row-own : (i : ℕ) → i < 64 → T (own (code_of i)) → owner_of i ≡ 0
unfolding below owner_of owners code_of codes
row-own i l t = eqb→eq _ _ (if-so (own (code_of i)) (eqb (owner_of i) 0) (below_at 64 (λ i. not (own (code_of i)) || eqb (owner_of i) 0) tt i l) t)

pub own-cell : (d c : ℕ) → code_of (d % 64) ≡ c → T (own c) → owner_cell d ≡ d / 64
own-cell d c e t = sym (owner-is d 0 (sym (row-own (d % 64) (omega arith) (subst (λ (x : ℕ). T (own x)) (sym e) t)))) ∙ omega arith

-- codes 6 and 7
pub leg-kind : (i : ℕ) → i < 64 → T (eqb (code_of i) 6 || eqb (code_of i) 7) → (10 ≤ kind_of i) × (kind_of i < 14)
unfolding below kind_of links code_of codes
leg-kind i l t =
    let both : T (leb 10 (kind_of i) && ltb (kind_of i) 14) =
    if-so (eqb (code_of i) 6 || eqb (code_of i) 7) (leb 10 (kind_of i) && ltb (kind_of i) 14)
    (below_at 64 (λ i. not (eqb (code_of i) 6 || eqb (code_of i) 7) || (leb 10 (kind_of i) && ltb (kind_of i) 14)) tt i l) t in
    (leb→le _ _ (and_left (leb 10 (kind_of i)) (ltb (kind_of i) 14) both), ltb→lt _ _ (and_right (leb 10 (kind_of i)) (ltb (kind_of i) 14) both))

pub seven-kind : (i : ℕ) → i < 64 → code_of i ≡ 7 → (10 ≤ kind_of i) × (kind_of i < 14)
seven-kind i l e = leg-kind i l (subst (λ (x : ℕ). T (eqb x 6 || eqb x 7)) (sym e) tt)

pub leg-sign : (i : ℕ) → i < 64 → T (eqb (code_of i) 6 || eqb (code_of i) 7) → code_of i + sign_of i ≡ 7
unfolding below sign_of signs code_of codes
leg-sign i l t =
    eqb→eq _ _
    (if-so (eqb (code_of i) 6 || eqb (code_of i) 7) (eqb (code_of i + sign_of i) 7)
    (below_at 64 (λ i. not (eqb (code_of i) 6 || eqb (code_of i) 7) || eqb (code_of i + sign_of i) 7) tt i l) t)

-- ---- one of two codes

either-of : (n a b : ℕ) → T (eqb n a || eqb n b) → (n ≡ a) ⊎ (n ≡ b)
either-of n a b t = by (eqb n a) (eqb n b) (same? n a) (same? n b) t
  where
    by : (p q : Bool) → Same n a p → Same n b q → T (p || q) → (n ≡ a) ⊎ (n ≡ b)
    by true q (same e) s t = inl e
    by false true (other e) (same f) t = inr f
    by false false (other e) (other f) t = absurd t

pub three-four : (n : ℕ) → T (eqb n 3 || eqb n 4) → (n ≡ 3) ⊎ (n ≡ 4)
three-four n t = either-of n 3 4 t

pub six-seven : (n : ℕ) → T (eqb n 6 || eqb n 7) → (n ≡ 6) ⊎ (n ≡ 7)
six-seven n t = either-of n 6 7 t

one_of : (n a b : ℕ) → (n ≢ a → n ≡ b) → T (eqb n a || eqb n b)
one_of n a b f = by (eqb n a) (same? n a)
  where
    by : (p : Bool) → Same n a p → T (p || eqb n b)
    by true (same e) = tt
    by false (other e) = so (eq-eqb n b (f e))

pub from-three : (n : ℕ) → 3 ≤ n → n ≤ 4 → T (eqb n 3 || eqb n 4)
from-three n l m = one_of n 3 4 (λ q. omega arith)

pub from-six : (n : ℕ) → 6 ≤ n → n ≤ 7 → T (eqb n 6 || eqb n 7)
from-six n l m = one_of n 6 7 (λ q. omega arith)

-- ---- all codes

-- the codes with a limit, those without one, and the rest
pub data Which (c : ℕ) : Type 0 where
  one : c ≡ 1 → Which c
  two : c ≡ 2 → Which c
  three : c ≡ 3 → Which c
  four : c ≡ 4 → Which c
  five : c ≡ 5 → Which c
  six : c ≡ 6 → Which c
  seven : c ≡ 7 → Which c
  eight : c ≡ 8 → Which c
  fifteen : c ≡ 15 → Which c
  rest : carries c ≡ false → is_passage c ≡ false → Which c

high : (c : ℕ) → 8 < c → is_passage c ≡ false
unfolding is_passage
high c l =
    let p : eqb c 5 ≡ false = ne_eqb c 5 (λ q. absurd (omega arith)) in
    let q : eqb c 8 ≡ false = ne_eqb c 8 (λ q. absurd (omega arith)) in
    rw (p, q)

pub which : (c : ℕ) → Which c
unfolding carries is_passage
which zero = rest refl refl
which (suc zero) = one refl
which (suc (suc zero)) = two refl
which (suc (suc (suc zero))) = three refl
which (suc (suc (suc (suc zero)))) = four refl
which (suc (suc (suc (suc (suc zero))))) = five refl
which (suc (suc (suc (suc (suc (suc zero)))))) = six refl
which (suc (suc (suc (suc (suc (suc (suc zero))))))) = seven refl
which (suc (suc (suc (suc (suc (suc (suc (suc zero)))))))) = eight refl
which (suc (suc (suc (suc (suc (suc (suc (suc (suc zero))))))))) = rest refl refl
which (suc (suc (suc (suc (suc (suc (suc (suc (suc (suc zero)))))))))) = rest refl refl
which (suc (suc (suc (suc (suc (suc (suc (suc (suc (suc (suc zero))))))))))) = rest refl refl
which (suc (suc (suc (suc (suc (suc (suc (suc (suc (suc (suc (suc zero)))))))))))) = rest refl refl
which (suc (suc (suc (suc (suc (suc (suc (suc (suc (suc (suc (suc (suc zero))))))))))))) = rest refl refl
which (suc (suc (suc (suc (suc (suc (suc (suc (suc (suc (suc (suc (suc (suc zero)))))))))))))) = rest refl refl
which (suc (suc (suc (suc (suc (suc (suc (suc (suc (suc (suc (suc (suc (suc (suc zero))))))))))))))) = fifteen refl
which (suc (suc (suc (suc (suc (suc (suc (suc (suc (suc (suc (suc (suc (suc (suc (suc c)))))))))))))))) = rest refl (high (suc (suc (suc (suc (suc (suc (suc (suc (suc (suc (suc (suc (suc (suc (suc (suc c)))))))))))))))) (omega arith))
