-- Laws of bytes given entry by entry. Assumes nothing.
use Rattle.std.specs.Prelude.{◌≡◌, refl, List, [], ◌++◌, ℕ, zero, suc, ◌+◌, ◌-◌, ◌≤◌, ◌<◌}
use Rattle.std.proofs.Common.{sym, ap, ap₂, ◌∙◌, append-nil, append_assoc, zero-add, add-zero, add-suc, suc-add, add-one, arith}
use Rattle.sums.specs.Counting.{each}
use Rattle.model.specs.Listing.{spread}

-- the first entry of those from p to m
pub spread-first : (g : ℕ → List ℕ) (p m : ℕ) → p < m → spread g p (m - p) ≡ g p ++ spread g (p + 1) (m - (p + 1))
unfolding spread
spread-first g p m l =
    let more : m - p ≡ suc (m - (p + 1)) = omega arith in
    ap (spread g p) more ∙ ap (λ (q : ℕ). g p ++ spread g q (m - (p + 1))) (sym (add-one p))

pub spread_none : (g : ℕ → List ℕ) (n p : ℕ) → ((q : ℕ) → p ≤ q → g q ≡ []) → spread g p n ≡ []
unfolding spread
spread_none g zero p h = refl
spread_none g (suc n) p h = ap₂ ◌++◌ (h p (omega arith)) (spread_none g n (suc p) (λ q l. h q (omega (arith, l))))

pub spread-split : (g : ℕ → List ℕ) (p m n : ℕ) → spread g p (m + n) ≡ spread g p m ++ spread g (p + m) n
unfolding spread
spread-split g p zero n = ap₂ (λ (q k : ℕ). spread g q k) (sym (add-zero p)) (zero-add n)
spread-split g p (suc m) n =
    ap (spread g p) (suc-add m n)
    ∙ (ap (λ (l : List ℕ). g p ++ l) (spread-split g (suc p) m n ∙ ap (λ (q : ℕ). spread g (suc p) m ++ spread g q n) (suc-add p m ∙ sym (add-suc p m)))
    ∙ sym (append_assoc (g p) (spread g (suc p) m) (spread g (p + suc m) n)))

-- entries by another number
pub spread-shift : (g h : ℕ → List ℕ) (b n p : ℕ) → ((q : ℕ) → q < p + n → g (b + q) ≡ h q) → spread g (b + p) n ≡ spread h p n
unfolding spread
spread-shift g h b zero p e = refl
spread-shift g h b (suc n) p e =
    ap₂ ◌++◌ (e p (omega arith))
    (ap (λ (q : ℕ). spread g q n) (sym (add-suc b p)) ∙ spread-shift g h b n (suc p) (λ q l. e q (omega (arith, l))))

-- the entries from 0 on, one after the other
pub each-spread : (g : ℕ → List ℕ) (n : ℕ) → each n g ≡ spread g 0 n
unfolding each spread
each-spread g zero = refl
each-spread g (suc n) =
    ap (λ (l : List ℕ). l ++ g n) (each-spread g n)
    ∙ (ap (λ (l : List ℕ). spread g 0 n ++ l) (ap g (sym (zero-add n)) ∙ sym (append-nil (g (0 + n))))
    ∙ (sym (spread-split g 0 n 1) ∙ ap (spread g 0) (add-one n)))
