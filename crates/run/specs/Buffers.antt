-- A record stays a buffer: what is written over its first 32,768 bytes keeps its length and all bytes behind them, and the bytes of a legal record are
-- below 256. And the scratch of zeros that a step can always be lent. Assumes nothing.
use Rattle.std.specs.Prelude.{◌≡◌, Bool, true, false, not, List, ℕ, ◌+◌, ◌-◌, ◌^◌, ◌≤◌, ◌<◌, T, ltb, length, get_or, drop, replicate}
use Rattle.std.proofs.Common.{sym, ap, ◌∙◌, arith, ltb→lt, nltb→le, length-append, length-drop, get_or-append-add, get_or-drop}
use Rattle.std.proofs.lemmas.List.{length-replicate, get_or-replicate}
use Rattle.std.proofs.Math.ListN.{get_or-eq_default}
use Rattle.model.specs.Record.{record_size, scratch_size, Legal, over}
use Rattle.model.specs.Run.{Buffer}
use Rattle.model.proofs.LegalRecord.{legal-bytes}

module _ (new old : List ℕ) (e : length new ≡ record_size) (long : record_size ≤ length old) where
  over-length : length (over new old) ≡ length old
  over-length = omega (arith, length-append new (drop (length new) old), length-drop (length new) old)

  over-rest : (i : ℕ) → record_size ≤ i → get_or (over new old) i 0 ≡ get_or old i 0
  over-rest i l =
      let k : i ≡ length new + (i - record_size) = omega arith in
      ap (λ (n : ℕ). get_or (over new old) n 0) k
      ∙ (get_or-append-add new (drop (length new) old) (i - record_size) 0
      ∙ (get_or-drop (length new) old (i - record_size) 0 ∙ ap (λ (n : ℕ). get_or old n 0) (sym k)))

  pub over-buffer : Legal (over new old) → Buffer old → Buffer (over new old)
  over-buffer g b = record { byte = byte; few = omega (arith, over-length, b.few) }
    where
      byte : (i : ℕ) → get_or (over new old) i 0 < 256
      byte i = by (ltb i record_size) (ltb→lt i record_size) (nltb→le i record_size)
        where
          by : (w : Bool) → (T w → i < record_size) → (T (not w) → record_size ≤ i) → get_or (over new old) i 0 < 256
          by true p q = legal-bytes (over new old) g i (p tt)
          by false p q = omega (arith, over-rest i (q tt), b.byte i)

pub zeros-buffer : (n : ℕ) → n < 2 ^ 63 → Buffer (replicate n 0)
zeros-buffer n l = record { byte = byte; few = omega (arith, length-replicate {A = ℕ} n 0) }
  where
    byte : (i : ℕ) → get_or (replicate n 0) i 0 < 256
    byte i = by (ltb i n) (ltb→lt i n) (nltb→le i n)
      where
        by : (w : Bool) → (T w → i < n) → (T (not w) → n ≤ i) → get_or (replicate n 0) i 0 < 256
        by true p q = omega (arith, get_or-replicate {A = ℕ} n i 0 0 (p tt))
        by false p q = omega (arith, get_or-eq_default {A = ℕ} (replicate n 0) 0 {n = i} (omega (arith, q tt, length-replicate {A = ℕ} n 0)))

-- 65,536 zeros
unfoldable pub zero_scratch : List ℕ
zero_scratch = replicate scratch_size 0

pub scratch-buffer : Buffer zero_scratch
unfolding zero_scratch
scratch-buffer = zeros-buffer scratch_size (omega arith)

pub scratch-long : scratch_size ≤ length zero_scratch
unfolding zero_scratch
scratch-long = omega (arith, length-replicate {A = ℕ} scratch_size 0)
