-- What an accepted header says: the sections lie in the file.
use mathlib.Core.Path.{◌≡◌}
use mathlib.Core.Bool.{true, ◌&&◌}
use mathlib.Core.List.{List}
use Prim.Native.Nat.{ℕ, ◌+◌, ◌*◌, ◌≤◌}
use lib.Dec.{T, eqb, leb, leb→le}
use lib.ListN.{length}
use Rattle.integer.proofs.Test.{and_l, and_r, holds}
use Rattle.job.specs.Job.{word, header, section_fits, length_fits, numbers_fit, sections_fit, job_fits}

pub record Sections (b : List ℕ) : Type 0 where
  pub long : 32 ≤ length b
  pub few : word b 4 ≤ 192
  pub a_in : word b 8 + 36 ≤ length b
  pub rotations-in : word b 12 + 36 * word b 4 ≤ length b
  pub lattice-in : word b 16 + 72 ≤ length b

inside : (at size n : ℕ) → T (section_fits at size n) → at + size ≤ n
inside at size n t = leb→le (at + size) n (and_r (leb 32 at) (leb (at + size) n) t)

pub sections : (b : List ℕ) → job_fits b ≡ true → Sections b
unfolding job_fits
sections b e =
    let n = length b in
    let h = header b in
    let t = holds e in
    let r = and_r (length_fits n) (numbers_fit h n && sections_fit h n) t in
    let k = and_r (eqb h.total n) (leb h.count 192 && leb h.flags 3) (and_l (numbers_fit h n) (sections_fit h n) r) in
    let s = and_r (numbers_fit h n) (sections_fit h n) r in
    let u = and_r (section_fits h.a 36 n) (section_fits h.rotations (36 * h.count) n && section_fits h.lattice 72 n) s in
    record {
      long = leb→le 32 n (and_l (leb 32 n) (leb n 8192) (and_l (length_fits n) (numbers_fit h n && sections_fit h n) t));
      few = leb→le h.count 192 (and_l (leb h.count 192) (leb h.flags 3) k);
      a_in = inside h.a 36 n (and_l (section_fits h.a 36 n) (section_fits h.rotations (36 * h.count) n && section_fits h.lattice 72 n) s);
      rotations-in = inside h.rotations (36 * h.count) n (and_l (section_fits h.rotations (36 * h.count) n) (section_fits h.lattice 72 n) u);
      lattice-in = inside h.lattice 72 n (and_r (section_fits h.rotations (36 * h.count) n) (section_fits h.lattice 72 n) u);
    }
