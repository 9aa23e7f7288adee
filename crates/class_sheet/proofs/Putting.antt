-- Laws of a text put right into a slice, from its last code on, and of the fields of a line.
use mathlib.Core.Path.{◌≡◌, refl, sym, ◌∙◌, ap, ap₂, subst}
use mathlib.Core.Bool.{Bool, true, false, ◌&&◌}
use mathlib.Core.List.{List, [], ◌∷◌, ◌++◌, map, map-append, append_assoc, append-nil}
use Prim.Native.Nat.{ℕ, suc, ◌+◌, ◌-◌, ◌/◌, ◌%◌, ◌≤◌, ◌<◌, zero-le}
use native.Mathlib.Nat.{sub-zero}
use native.Mathlib.Omega.{arith}
use lib.Dec.{leb}
use lib.IntN.{ℤ, pos}
use lib.ListN.{length, get_or, replicate, set, take, drop, length-append, length-replicate}
use lib.Seq.{set_split}
use lib.LanesLaws.{map-replicate}
use borrow.Rule.Slice.PartMut.{mid_of, put_mid, mid_len}
use borrow.Author.Tests.{le-leb, lt-leb}
use Rattle.std.specs.Prelude.{Err}
use Rattle.std.proofs.lemmas.Slice.{take-put_mid}
use Rattle.std.proofs.lemmas.List.{drop_more, drop_all, take-replicate}
use Rattle.std.proofs.lemmas.Bool.Decides.{nat_tests}
use Rattle.common.specs.declared.Refusal.TheVariants.{OutsideLimits}
use Rattle.common.specs.Tested.{Tested, Accepted}
use Rattle.common.proofs.Tests.{not-accepted}
use Rattle.decimal.specs.Decimal.{decimal, signed_decimal}
use Rattle.decimal.proofs.Decimal.{one-digit, last-digit, some-digit}
use Rattle.class_sheet.specs.Sheet.{right, field_fits, line, line_fits}
use Rattle.class_sheet.specs.Code.SheetView.{sign, signed, fitting, total, PutRight, PutLine}

-- ---- one code after another
module _ (t : List ℕ) (w c : ℕ) where
  right-last : right (suc w) (t ++ (c ∷ [])) ≡ right w t ++ (c ∷ [])
  right-last =
      let e : suc w - length (t ++ (c ∷ [])) ≡ w - length t = omega (arith, length-append {A = ℕ}) in
      rw e (sym (append_assoc (replicate (w - length t) 32) t (c ∷ [])))

  fits-last : leb (length t) w ≡ leb (length (t ++ (c ∷ []))) (suc w)
  fits-last = grind (arith, nat_tests, length-append {A = ℕ})

-- x is the code c as an entry of a slice
pub put-last : (t : List ℕ) (c : ℕ) {x : ℤ} {text : List ℕ} {w m : ℕ} {told : Tested} {part : List ℤ} → x ≡ pos c → t ++ (c ∷ []) ≡ text → m ≡ suc w → PutRight t w told part
    → PutRight text m told (part ++ (x ∷ []))
put-last t c {w = w} q f e d = rw (q, ← f, e) (record {
  told-is = d.told-is ∙ ap fitting (fits-last t w c);
  stands = λ k. ap (λ l. l ++ (pos c ∷ [])) (d.stands k) ∙ sym (ap (map pos) (right-last t w c) ∙ map-append pos (right w t) (c ∷ []));
})

-- no place is left
pub no-room : (t : List ℕ) (l : List ℤ) → 0 < length t → PutRight t 0 (Err OutsideLimits) l
no-room t l h = record { told-is = sym (ap fitting (lt-leb (length t) 0 h)); stands = λ k. absurd (not-accepted k) }

-- ---- a sign
blank : (w : ℕ) → PutRight [] w Accepted (replicate w (pos 32))
blank w = record {
  told-is = sym (ap fitting (le-leb 0 w zero-le));
  stands = λ _. simp (sub-zero, append-nil, map-replicate);
}

set-last : (l : List ℤ) (n : ℕ) (x : ℤ) → length l ≡ suc n → set l n x ≡ take n l ++ (x ∷ [])
set-last l n x e = set_split l n x (omega arith) ∙ ap (λ r. take n l ++ x ∷ r) (drop_all (suc n) l (omega arith))

module _ {w : ℕ} {l : List ℤ} (e : l ≡ replicate w (pos 32)) (negative : Bool) where
  pub no-sign : negative ≡ false → PutRight (sign negative) w Accepted l
  no-sign n = rw (n, e) (blank w)

  pub minus-sign : {n : ℕ} → negative ≡ true → length l ≡ suc n → PutRight (sign negative) w Accepted (set l n (pos 45))
  minus-sign {n} k h =
      let size : w ≡ suc n = sym (ap length e ∙ length-replicate w (pos 32)) ∙ h in
      let put : set l n (pos 45) ≡ replicate n (pos 32) ++ (pos 45 ∷ []) = set-last l n (pos 45) h ∙ ap (λ t. t ++ (pos 45 ∷ [])) (ap (take n) e ∙ take-replicate n w (pos 32) (omega arith)) in
      rw (k, put) (put-last [] 45 refl refl size (blank n))

-- ---- digits
module _ (negative : Bool) (n : ℕ) where
  pub signed-one : n < 10 → sign negative ++ ((48 + n % 10) ∷ []) ≡ signed negative n
  signed-one h = let e : n % 10 ≡ n = omega arith in ap (λ d. sign negative ++ d) (ap (λ m. (48 + m) ∷ []) e ∙ sym (one-digit n h))

  pub signed-last : 10 ≤ n → signed negative (n / 10) ++ ((48 + n % 10) ∷ []) ≡ signed negative n
  signed-last h = append_assoc (sign negative) (decimal (n / 10)) ((48 + n % 10) ∷ []) ∙ ap (λ d. sign negative ++ d) (sym (last-digit n h))

  pub signed-some : 0 < length (signed negative n)
  signed-some = omega (arith, length-append (sign negative) (decimal n), some-digit n)

-- ---- a line, of which i fields that end at place `at` are put
pub record Begun (ws : List ℕ) (l out : List ℤ) (i at : ℕ) : Type 0 where
  pub room : at + total (drop i ws) ≡ total ws
  pub fits : line_fits ws l ≡ line_fits (drop i ws) (drop i l)
  pub stands : map pos (line ws l) ≡ take at out ++ map pos (line (drop i ws) (drop i l))

field-accepted : (b : Bool) → Accepted ≡ fitting b → b ≡ true
field-accepted true e = refl
field-accepted false e = absurd (not-accepted (sym e))

module _ {ws : List ℕ} {l out : List ℤ} {i at : ℕ} (d : Begun ws l out i at) (same : length l ≡ length ws) (h : i < length ws) where
  abbrev w : ℕ
  w = get_or ws i 0

  abbrev z : ℤ
  z = get_or l i (pos 0)

  width : drop i ws ≡ w ∷ drop (i + 1) ws
  width = drop_more ws i 0 h

  number-next : drop i l ≡ z ∷ drop (i + 1) l
  number-next = drop_more l i (pos 0) (omega arith)

  room-next : at + w + total (drop (i + 1) ws) ≡ total ws
  room-next = omega (arith, d.room, ap total width)

  fits-next : line_fits ws l ≡ field_fits w z && line_fits (drop (i + 1) ws) (drop (i + 1) l)
  fits-next = d.fits ∙ ap₂ line_fits width number-next

  module _ (size : length out ≡ total ws + 1) {y : ℤ} (q : y ≡ z) where
    abbrev field : List ℤ
    field = mid_of at (at + w - at) out

    field-size : length field ≡ w
    field-size = mid_len at (at + w) out (omega (arith, room-next, size)) ∙ omega arith

    as-number : {told : Tested} {part : List ℤ} → PutRight (signed_decimal y) (length field) told part → PutRight (signed_decimal z) w told part
    as-number {told} {part} p = subst (λ n. PutRight (signed_decimal z) n told part) field-size (subst (λ y. PutRight (signed_decimal y) (length field) told part) q p)

    pub field-put : {part : List ℤ} → length part ≡ length field → PutRight (signed_decimal y) (length field) Accepted part → Begun ws l (put_mid at (at + w - at) out part) (i + 1) (at + w)
    field-put {part} k p =
        let p = as-number p in
        let taken : take (at + w) (put_mid at (at + w - at) out part) ≡ take at out ++ map pos (right w (signed_decimal z)) =
        take-put_mid at (at + w - at) out part (at + w) (omega (arith, k, field-size)) (omega (arith, room-next, size)) ∙ ap (λ t. take at out ++ t) (p.stands refl) in
        record {
          room = room-next;
          fits = fits-next ∙ ap (λ b. b && line_fits (drop (i + 1) ws) (drop (i + 1) l)) (field-accepted (field_fits w z) p.told-is);
          stands = d.stands ∙ ap (λ t. take at out ++ map pos t) (ap₂ line width number-next) ∙ rw taken (simp (map-append, append_assoc));
        }

pub line-put : {ws : List ℕ} {l out : List ℤ} {i at : ℕ} → Begun ws l out i at → length ws ≤ i → length out ≡ total ws + 1 → PutLine ws l Accepted (set out at (pos 10))
line-put {ws} {l} {out} {i} {at} d h size =
    let e = drop_all i ws h in
    record {
      told-is = sym (ap fitting (d.fits ∙ ap (λ t. line_fits t (drop i l)) e));
      stands = λ _. set-last out at (pos 10) (omega (arith, d.room, ap total e, size)) ∙ sym (d.stands ∙ ap (λ t. take at out ++ map pos (line t (drop i l))) e);
    }
