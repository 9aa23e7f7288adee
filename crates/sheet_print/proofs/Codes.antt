-- The codes of a sheet are bytes.
use mathlib.Core.Bool.{Bool, true, false, cond}
use mathlib.Core.List.{List, [], ◌∷◌, ◌++◌}
use Prim.Native.Nat.{ℕ, zero, suc, ◌+◌, ◌*◌, ◌-◌, ◌/◌, ◌%◌, ◌<◌}
use native.Mathlib.Omega.{arith}
use lib.Dec.{eqb}
use lib.IntN.{ℤ, pos, negsuc, nat_abs}
use lib.ListN.{length, take, replicate}
use Rattle.std.specs.List.{All}
use Rattle.std.proofs.lemmas.List.Elements.{All-nil, All-cons, All-replicate, All-append, All-same}
use Rattle.common.specs.Array.{sides_of}
use Rattle.decimal.specs.Decimal.{decimal, signed_decimal}
use Rattle.decimal.proofs.Decimal.{one-digit, last-digit, by_tens}
use Rattle.grgrid.specs.Grid.{size}
use Rattle.class_sheet.specs.Sheet.{right, line, row_widths, page_widths, page_number, page_line, lined, text}
use Rattle.class_sheet.specs.ClassSheet.{row, class_count}
use Rattle.zone.specs.declared.Finished.{Finished}
use Rattle.sheet_print.specs.SheetText.{sheet_of}

abbrev pub Byte : ℕ → Type 0
Byte c = c < 256

abbrev Bytes : List ℕ → Type 0
Bytes = All Byte

single : (c : ℕ) → c < 256 → Bytes (c ∷ [])
single c h = All-cons Byte c [] h (All-nil Byte)

decimal-bytes : (n : ℕ) → Bytes (decimal n)
decimal-bytes =
    by_tens (λ n. Bytes (decimal n)) (λ n h. All-same Byte (decimal n) ((48 + n) ∷ []) (one-digit n h) (single (48 + n) (omega arith)))
    (λ n h b. All-same Byte (decimal n) (decimal (n / 10) ++ ((48 + n % 10) ∷ [])) (last-digit n h) (All-append Byte (decimal (n / 10)) ((48 + n % 10) ∷ []) b (single (48 + n % 10) (omega arith))))

number-bytes : (z : ℤ) → Bytes (signed_decimal z)
number-bytes (pos n) = decimal-bytes n
number-bytes (negsuc n) = All-cons Byte 45 (decimal (suc n)) (omega arith) (decimal-bytes (suc n))

line-bytes : (ws : List ℕ) (l : List ℤ) → Bytes (line ws l)
line-bytes [] l = single 10 (omega arith)
line-bytes (w ∷ ws) [] = single 10 (omega arith)
line-bytes (w ∷ ws) (z ∷ l) =
    let n = signed_decimal z in
    All-append Byte (right w n) (line ws l) (All-append Byte (replicate (w - length n) 32) n (All-replicate Byte (w - length n) 32 (omega arith)) (number-bytes z)) (line-bytes ws l)

module _ (row : ℕ → List ℤ) where
  row-bytes : (r : ℕ) → Bytes (lined row r)
  unfolding lined
  row-bytes r = All-append Byte (page_line r) (line row_widths (row r)) (page (eqb (r % 40) 0)) (line-bytes row_widths (row r))
    where
      page : (b : Bool) → Bytes (cond b (line page_widths (page_number r)) [])
      page true = line-bytes page_widths (page_number r)
      page false = All-nil Byte

  text-bytes : (n : ℕ) → Bytes (text row n)
  text-bytes zero = All-nil Byte
  text-bytes (suc n) = All-append Byte (text row n) (lined row n) (text-bytes n) (row-bytes n)

pub sheet-bytes : (f : Finished) (classes triplets : List ℤ) → All Byte (sheet_of f classes triplets)
unfolding sheet_of
sheet-bytes f classes triplets = let c = take (size (sides_of f.d)) classes in text-bytes (row c (take (nat_abs f.num_ir * 3) triplets)) (class_count c)
