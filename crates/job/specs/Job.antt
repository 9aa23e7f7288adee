-- The job file: little-endian 32-bit words, of which a header of eight says where A, the rotations and
-- the lattice stand. Sections may overlap and stand at any byte from 32 on.
use Rattle.std.specs.Prelude.{Bool, ◌&&◌, List, ◌++◌, ℕ, zero, suc, ◌+◌, ◌*◌, ◌-◌, ◌%◌, eqb, leb, ltb, Float, ℤ, pos}
use Rattle.std.specs.Prelude.{negsuc, ◌-ℤ◌, length, get_or, replicate, Result, Ok, Err, cond}
use Rattle.std.specs.Float.{binary64}
use Rattle.std.specs.Float.Ieee.{of_bits}
use Rattle.common.specs.declared.Refusal.{Refusal}
use Rattle.common.specs.declared.Refusal.TheVariants.{BadHeader}
use Rattle.grgrid.specs.Build.{build}
use Rattle.job.specs.declared.job.Job.{Job}

-- ---- numbers: n bytes from place `at` on, the lowest first
abbrev pub little_endian : List ℕ → ℕ → ℕ → ℕ
little_endian b at zero = 0
little_endian b at (suc n) = get_or b at 0 + 256 * little_endian b (suc at) n

unfoldable pub word : List ℕ → ℕ → ℕ
word b at = little_endian b at 4

-- the number of a signed word
unfoldable pub signed : ℕ → ℤ
signed w = cond (ltb w 0x80000000) (pos w) (pos w -ℤ pos 0x100000000)

-- two words, the low one first
unfoldable pub float : List ℕ → ℕ → Float
unfolding word
float b at = of_bits binary64 (word b at + 0x100000000 * word b (at + 4))

-- n signed words, and n floats, from place `at` on
unfoldable pub signed_words : List ℕ → ℕ → ℕ → List ℤ
unfolding word signed
signed_words b at n = build (λ k done. signed (word b (at + 4 * k))) n

unfoldable pub floats : List ℕ → ℕ → ℕ → List Float
unfolding float
floats b at n = build (λ k done. float b (at + 8 * k)) n

-- ---- the header
pub record Header : Type 0 where
  pub total : ℕ
  pub count : ℕ
  pub a : ℕ
  pub rotations : ℕ
  pub lattice : ℕ
  pub flags : ℕ
  pub grid_type : ℕ
  pub q0 : ℕ

abbrev pub header : List ℕ → Header
header b =
    record {
      total = word b 0;
      count = word b 4;
      a = word b 8;
      rotations = word b 12;
      lattice = word b 16;
      flags = word b 20;
      grid_type = word b 24;
      q0 = word b 28;
    }

-- a section of `size` bytes from place `at` on, in a file of n bytes
abbrev pub section_fits : ℕ → ℕ → ℕ → Bool
section_fits at size n = leb 32 at && leb (at + size) n

abbrev pub length_fits : ℕ → Bool
length_fits n = leb 32 n && leb n 8192

abbrev pub numbers_fit : Header → ℕ → Bool
numbers_fit h n = eqb h.total n && (leb h.count 192 && leb h.flags 3)

-- nine words, nine words a rotation, nine floats
abbrev pub sections_fit : Header → ℕ → Bool
sections_fit h n = section_fits h.a 36 n && (section_fits h.rotations (36 * h.count) n && section_fits h.lattice 72 n)

unfoldable pub job_fits : List ℕ → Bool
unfolding word
job_fits b = let n = length b in length_fits n && (numbers_fit (header b) n && sections_fit (header b) n)

-- ---- the job: what the reader answers, and the rotations, nine numbers each by rows
unfoldable pub accepted : List ℕ → Job
unfolding word signed_words floats
accepted b =
    let h = header b in
    record {
      a = signed_words b h.a 9;
      lattice = floats b h.lattice 9;
      count = h.count;
      time_reversal = eqb (h.flags % 2) 1;
      swapping = leb 2 h.flags;
      grid_type = pos h.grid_type;
      q0 = pos h.q0;
    }

unfoldable pub job_of : List ℕ → Result Job Refusal
unfolding job_fits accepted
job_of b = cond (job_fits b) (Ok (accepted b)) (Err BadHeader)

unfoldable pub rotations_of : List ℕ → List ℤ
unfolding word signed_words
rotations_of b = let h = header b in signed_words b h.rotations (9 * h.count)

-- as they stand in n places, -1 after them
unfoldable pub rotations_written : List ℕ → ℕ → List ℤ
unfolding job_fits rotations_of
rotations_written b n = cond (job_fits b) (rotations_of b ++ replicate (n - 9 * (header b).count) (negsuc 0)) (replicate n (negsuc 0))
