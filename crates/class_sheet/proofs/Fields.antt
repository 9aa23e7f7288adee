-- Fields: which numbers a field holds, what is read of one, and the same of a line.
use mathlib.Core.Path.{◌≡◌, refl, sym, ◌∙◌, ap, ap₂}
use mathlib.Core.Logic.{◌↔◌}
use mathlib.Core.Bool.{Bool, cond}
use mathlib.Core.List.{List, [], ◌∷◌, ◌++◌}
use Prim.Native.Nat.{ℕ, zero, suc, ◌+◌, ◌*◌, ◌-◌, ◌^◌, ◌/◌, ◌%◌, ◌≤◌, ◌<◌}
use native.Mathlib.Omega.{arith}
use lib.Dec.{T, leb→le, le→leb}
use lib.IntN.{ℤ, pos, negsuc, neg_ℤ}
use lib.ListN.{length, replicate, length-append, length-replicate}
use lib.Seq.{take_at, drop_at}
use borrow.Author.Tests.{ne_eqb}
use Rattle.integer.proofs.Test.{and_l, and_r}
use Rattle.decimal.specs.Decimal.{decimal, signed_decimal}
use Rattle.decimal.proofs.Decimal.{one-digit, last-digit, by_tens, Digits, decimal-digits, digits-few}
use Rattle.class_sheet.specs.Sheet.{right, field_fits, line, line_fits}
use Rattle.class_sheet.specs.ReadSheet.{value, read_field, read_line}
use Rattle.class_sheet.specs.Code.SheetView.{total}

-- ---- which numbers a field holds
pub field_holds : (w n : ℕ) → T (field_fits (suc w) (pos n)) ↔ (n < 10 ^ suc w)
field_holds w n = (λ t. (digits-few w n).0 (leb→le (length (decimal n)) (suc w) t), λ h. le→leb (length (decimal n)) (suc w) ((digits-few w n).1 h))

-- one place less for the digits of a negative number, -(n + 1)
pub field-holds_negative : (w n : ℕ) → T (field_fits (suc (suc w)) (negsuc n)) ↔ (suc n < 10 ^ suc w)
field-holds_negative w n = (
  λ t. (digits-few w (suc n)).0 (let h = leb→le (suc (length (decimal (suc n)))) (suc (suc w)) t in omega arith),
  λ h. le→leb (suc (length (decimal (suc n)))) (suc (suc w)) (let k = (digits-few w (suc n)).1 h in omega arith),
)

-- ---- what is read of a field
value_last : (m : ℕ) (s : List ℕ) (c : ℕ) → value m (s ++ (c ∷ [])) ≡ 10 * value m s + (c - 48)
value_last m [] c = refl
value_last m (x ∷ s) c = value_last (10 * m + (x - 48)) s c

decimal-value : (n : ℕ) → value 0 (decimal n) ≡ n
decimal-value =
    by_tens (λ n. value 0 (decimal n) ≡ n) (λ n h. ap (value 0) (one-digit n h) ∙ omega arith)
    (λ n h e. ap (value 0) (last-digit n h) ∙ value_last 0 (decimal (n / 10)) (48 + n % 10) ∙ omega (arith, e))

read-blanks : (m : ℕ) (t : List ℕ) → read_field (replicate m 32 ++ t) ≡ read_field t
read-blanks zero t = refl
read-blanks (suc m) t = read-blanks m t

read-digits : (t : List ℕ) → Digits t → read_field t ≡ pos (value 0 t)
read-digits t d = ap read_field d.is ∙ plain d.first d.rest d.high ∙ ap (λ t. pos (value 0 t)) (sym d.is)
  where
    tested : ℕ → List ℕ → Bool → Bool → ℤ
    tested c t a b = cond a (read_field t) (cond b (neg_ℤ (pos (value 0 t))) (pos (value 0 (c ∷ t))))

    plain : (c : ℕ) (t : List ℕ) → 48 ≤ c → read_field (c ∷ t) ≡ pos (value 0 (c ∷ t))
    plain c t h = ap₂ (tested c t) (ne_eqb c 32 (λ e. omega arith)) (ne_eqb c 45 (λ e. omega arith))

read-number : (z : ℤ) → read_field (signed_decimal z) ≡ z
read-number (pos n) = read-digits (decimal n) (decimal-digits n) ∙ ap pos (decimal-value n)
read-number (negsuc n) = ap (λ n. neg_ℤ (pos n)) (decimal-value (suc n))

-- a right-adjusted field gives the number
pub read-field : (w : ℕ) (z : ℤ) → read_field (right w (signed_decimal z)) ≡ z
read-field w z = read-blanks (w - length (signed_decimal z)) (signed_decimal z) ∙ read-number z

pub length-right : (w : ℕ) (t : List ℕ) → length t ≤ w → length (right w t) ≡ w
length-right w t h = omega (arith, length-append (replicate (w - length t) 32) t, length-replicate {A = ℕ} (w - length t) 32)

length-field : (w : ℕ) (z : ℤ) → T (field_fits w z) → length (right w (signed_decimal z)) ≡ w
length-field w z t = length-right w (signed_decimal z) (leb→le (length (signed_decimal z)) w t)

-- ---- a line
pub length-line : (ws : List ℕ) (l : List ℤ) → length l ≡ length ws → T (line_fits ws l) → length (line ws l) ≡ total ws + 1
length-line [] [] e t = refl
length-line [] (z ∷ l) e t = absurd (omega arith)
length-line (w ∷ ws) [] e t = absurd (omega arith)
length-line (w ∷ ws) (z ∷ l) e t =
    let f = length-field w z (and_l (field_fits w z) (line_fits ws l) t) in
    let r = length-line ws l (omega arith) (and_r (field_fits w z) (line_fits ws l) t) in
    length-append (right w (signed_decimal z)) (line ws l) ∙ omega arith

pub read-line : (ws : List ℕ) (l : List ℤ) → length l ≡ length ws → T (line_fits ws l) → read_line ws (line ws l) ≡ l
read-line [] [] e t = refl
read-line [] (z ∷ l) e t = absurd (omega arith)
read-line (w ∷ ws) [] e t = absurd (omega arith)
read-line (w ∷ ws) (z ∷ l) e t =
    let f = length-field w z (and_l (field_fits w z) (line_fits ws l) t) in
    ap₂ (λ a b. read_field a ∷ read_line ws b) (take_at (right w (signed_decimal z)) (line ws l) w f) (drop_at (right w (signed_decimal z)) (line ws l) w f)
    ∙ ap₂ ◌∷◌ (read-field w z) (read-line ws l (omega arith) (and_r (field_fits w z) (line_fits ws l) t))
