-- Worked examples, which hold the definitions of specs/ fast: document 01's job and its listing, each reason for refusal 15, decimal numbers.
use mathlib.Core.Path.{◌≡◌, refl}
use mathlib.Core.Bool.{Bool, true, false}
use mathlib.Core.List.{List, [], ◌∷◌, ◌++◌}
use Prim.Native.Nat.{ℕ, ◌-◌, ◌/◌, ◌%◌}
use lib.Ieee.{Float, nan, inf, fin, binary64, of_bits}
use lib.IntN.{ℤ, pos, negsuc}
use lib.ListN.{replicate, take}
use Rattle.std.specs.Prelude.{Ok}
use Rattle.common.specs.declared.Refusal.TheVariants.{BadHeader}
use Rattle.job.specs.Job.{signed, float, Header, job_fits, job_of, rotations_of}
use Rattle.decimal.specs.Decimal.{decimal, signed_decimal}
use Rattle.job.specs.Listing.{listing, refusal}

-- ---- job files, by their header
abbrev four_bytes : ℕ → List ℕ
four_bytes w = w % 256 ∷ w / 256 % 256 ∷ w / 65536 % 256 ∷ w / 16777216 ∷ []

abbrev words : List ℕ → List ℕ
words [] = []
words (w ∷ l) = four_bytes w ++ words l

-- A of document 01, the identity, and the identity as a lattice, whose 1 is 0x3ff0000000000000
abbrev body : List ℕ
body =
    words (3 ∷ 0 ∷ 0 ∷ 0 ∷ 1 ∷ 0 ∷ 0 ∷ 0 ∷ 1 ∷ []) ++ words (1 ∷ 0 ∷ 0 ∷ 0 ∷ 1 ∷ 0 ∷ 0 ∷ 0 ∷ 1 ∷ [])
    ++ words (0 ∷ 1072693248 ∷ 0 ∷ 0 ∷ 0 ∷ 0 ∷ 0 ∷ 0 ∷ 0 ∷ 1072693248 ∷ 0 ∷ 0 ∷ 0 ∷ 0 ∷ 0 ∷ 0 ∷ 0 ∷ 1072693248 ∷ [])

abbrev file : Header → List ℕ
file h = words (h.total ∷ h.count ∷ h.a ∷ h.rotations ∷ h.lattice ∷ h.flags ∷ h.grid_type ∷ h.q0 ∷ []) ++ body

abbrev head : (total count a rotations lattice flags : ℕ) → Header
head total count a rotations lattice flags =
    record { total = total; count = count; a = a; rotations = rotations; lattice = lattice; flags = flags; grid_type = 2; q0 = 1 }

abbrev example : List ℕ
example = file (head 176 1 32 68 104 3)

abbrev one : Float
one = of_bits binary64 0x3ff0000000000000

abbrev nought : Float
nought = of_bits binary64 0

example-job : job_of example ≡ Ok (record {
  a = pos 3 ∷ pos 0 ∷ pos 0 ∷ pos 0 ∷ pos 1 ∷ pos 0 ∷ pos 0 ∷ pos 0 ∷ pos 1 ∷ [];
  lattice = one ∷ nought ∷ nought ∷ nought ∷ one ∷ nought ∷ nought ∷ nought ∷ one ∷ [];
  count = 1;
  time_reversal = true;
  swapping = true;
  grid_type = pos 2;
  q0 = pos 1;
})
unfolding job_of
example-job = refl

example-rotations : rotations_of example ≡ pos 1 ∷ pos 0 ∷ pos 0 ∷ pos 0 ∷ pos 1 ∷ pos 0 ∷ pos 0 ∷ pos 0 ∷ pos 1 ∷ []
unfolding rotations_of
example-rotations = refl

-- whether the header is right
pub record Row : Type 0 where
  pub bytes : List ℕ
  pub right : Bool

abbrev row : List ℕ → Bool → Row
row b r = record { bytes = b; right = r }

abbrev Right : List Row → Type 0
Right [] = Unit {0}
Right (r ∷ rows) = (job_fits r.bytes ≡ r.right) × Right rows

-- the longest file, and one byte more
abbrev long : ℕ → List ℕ
long n = file (head n 1 32 68 104 0) ++ replicate (n - 176) 0

abbrev table : List Row
table =
    row example true
    ∷ row (take 31 (file (head 31 0 0 0 0 0))) false
    ∷ row (long 8192) true
    ∷ row (long 8193) false
    ∷ row (file (head 175 1 32 68 104 3)) false
    ∷ row (file (head 176 193 32 68 104 3)) false
    ∷ row (file (head 176 1 32 68 104 4)) false
    -- sections: below byte 32, past the end, just inside, overlapping and not aligned
    ∷ row (file (head 176 1 31 68 104 3)) false
    ∷ row (file (head 176 1 141 68 104 3)) false
    ∷ row (file (head 176 1 140 68 104 3)) true
    ∷ row (file (head 176 1 32 31 104 3)) false
    ∷ row (file (head 176 3 32 69 104 3)) false
    ∷ row (file (head 176 1 32 68 105 3)) false
    ∷ row (file (head 176 1 32 68 31 3)) false
    ∷ row (file (head 176 3 33 33 33 0)) true
    -- an empty rotation section
    ∷ row (file (head 176 0 32 176 104 3)) true
    ∷ row (file (head 176 0 32 177 104 3)) false
    ∷ row (file (head 176 0 32 31 104 3)) false
    ∷ []

headers : Right table
unfolding job_fits
headers = (refl, (refl, (refl, (refl, (refl, (refl, (refl, (refl, (refl, (refl, (refl, (refl, (refl, (refl, (refl, (refl, (refl, (refl, tt))))))))))))))))))

-- the ends of a signed word
least : signed 0x80000000 ≡ negsuc 0x7fffffff
unfolding signed
least = refl

minus_one : signed 0xffffffff ≡ negsuc 0
unfolding signed
minus_one = refl

-- floats: the words in their order, a low word from 2^31 on, the least float, -0, an infinity, and a NaN by its low word alone
in-order : float (0x01 ∷ 0x23 ∷ 0x45 ∷ 0x67 ∷ 0x89 ∷ 0xab ∷ 0xcd ∷ 0x3f ∷ []) 0 ≡ of_bits binary64 0x3fcdab8967452301
unfolding float
in-order = refl

below-one : float (255 ∷ 255 ∷ 255 ∷ 255 ∷ 255 ∷ 255 ∷ 239 ∷ 63 ∷ []) 0 ≡ of_bits binary64 0x3fefffffffffffff
unfolding float
below-one = refl

least_float : float (1 ∷ 0 ∷ 0 ∷ 0 ∷ 0 ∷ 0 ∷ 0 ∷ 0 ∷ []) 0 ≡ fin false 1 (negsuc 1073)
unfolding float of_bits
least_float = refl

minus_nought : float (0 ∷ 0 ∷ 0 ∷ 0 ∷ 0 ∷ 0 ∷ 0 ∷ 128 ∷ []) 0 ≡ fin true 0 (pos 0)
unfolding float of_bits
minus_nought = refl

infinite : float (0 ∷ 0 ∷ 0 ∷ 0 ∷ 0 ∷ 0 ∷ 240 ∷ 127 ∷ []) 0 ≡ inf false
unfolding float of_bits
infinite = refl

no_number : float (1 ∷ 0 ∷ 0 ∷ 0 ∷ 0 ∷ 0 ∷ 240 ∷ 255 ∷ []) 0 ≡ nan
unfolding float of_bits
no_number = refl

-- ---- texts
example-listing : listing (pos 1 ∷ pos 1 ∷ pos 3 ∷ []) (pos 0 ∷ pos 1 ∷ pos 0 ∷ []) (pos 2) (pos 1 ∷ pos 0 ∷ pos 2 ∷ pos 1 ∷ pos 1 ∷ pos 1 ∷ []) ≡
    -- grid 1 1 3
    103 ∷ 114 ∷ 105 ∷ 100 ∷ 32 ∷ 49 ∷ 32 ∷ 49 ∷ 32 ∷ 51 ∷ 10
    -- map 0 1 0
    ∷ 109 ∷ 97 ∷ 112 ∷ 32 ∷ 48 ∷ 32 ∷ 49 ∷ 32 ∷ 48 ∷ 10
    -- ir 2
    ∷ 105 ∷ 114 ∷ 32 ∷ 50 ∷ 10
    -- triplet 1 0 2
    ∷ 116 ∷ 114 ∷ 105 ∷ 112 ∷ 108 ∷ 101 ∷ 116 ∷ 32 ∷ 49 ∷ 32 ∷ 48 ∷ 32 ∷ 50 ∷ 10
    -- triplet 1 1 1
    ∷ 116 ∷ 114 ∷ 105 ∷ 112 ∷ 108 ∷ 101 ∷ 116 ∷ 32 ∷ 49 ∷ 32 ∷ 49 ∷ 32 ∷ 49 ∷ 10
    ∷ []
unfolding listing
example-listing = refl

-- numbers: no leading zero, and a sign
pub record Text : Type 0 where
  pub of : ℤ
  pub codes : List ℕ

abbrev text : ℤ → List ℕ → Text
text z l = record { of = z; codes = l }

abbrev Written : List Text → Type 0
Written [] = Unit {0}
Written (t ∷ l) = (signed_decimal t.of ≡ t.codes) × Written l

abbrev texts : List Text
texts =
    text (pos 0) (48 ∷ [])
    ∷ text (pos 9) (57 ∷ [])
    ∷ text (pos 10) (49 ∷ 48 ∷ [])
    ∷ text (pos 65536) (54 ∷ 53 ∷ 53 ∷ 51 ∷ 54 ∷ [])
    ∷ text (pos 1000000007) (49 ∷ 48 ∷ 48 ∷ 48 ∷ 48 ∷ 48 ∷ 48 ∷ 48 ∷ 48 ∷ 55 ∷ [])
    ∷ text (negsuc 11) (45 ∷ 49 ∷ 50 ∷ [])
    ∷ []

numbers : Written texts
unfolding decimal
numbers = (refl, (refl, (refl, (refl, (refl, (refl, tt))))))

refused-15 : refusal BadHeader ≡ 114 ∷ 101 ∷ 102 ∷ 117 ∷ 115 ∷ 101 ∷ 100 ∷ 32 ∷ 49 ∷ 53 ∷ 10 ∷ []
unfolding refusal
refused-15 = refl
