-- Sum, difference, product and quotient are roundings of the exact fraction; what that says of signs.
use Rattle.std.proofs.Common.{◌≡◌, ℕ, zero, suc, ◌+◌, ◌-◌, ◌*◌, ◌<◌, ◌≤◌, Bool, true, false, cond, not, T, ltb, ◌⊎◌, refl, inl, inr, lt_of_lt_of_le, lt_irrefl, mul-le-mul_right, zero-lt-suc, add_comm, mul-pos, arith, ltb→lt, nltb→le}
use lib.Dec.{eqb-suc-zero}
use lib.Ieee.{Float, nan, inf, fin, Format, up, down, round, neg, sum, add, sub, mul, div, le, lt, eq, fits, is_nan}
use lib.Ieee.Scale.{finite}
use lib.Ieee.Positive.{den, den_pos}
use Rattle.float.specs.Value.{plus, less, zero_f}
use Rattle.float.proofs.Sign.{neg-finite, plus-neg, less-neg, den-neg}
use Rattle.float.proofs.Order.{cross, le→cross}
use Rattle.float.proofs.Rounds.{Rounds, over, under, rounds-mono, self-rounds}

-- ±a / c + ±b / c
sum-rounds : (f : Format) (s t : Bool) (a b c : ℕ) {p n : ℕ} → p ≡ cond s 0 a + cond t 0 b → n ≡ cond s a 0 + cond t b 0 → Rounds f (sum f s a t b c) p n c
unfolding sum
sum-rounds f false false a b c u v = over (a + b) (omega arith) refl
sum-rounds f true true a b c u v = under (a + b) (omega arith) refl
sum-rounds f false true a b c {p} {n} u v = go (ltb a b) (ltb→lt a b) (nltb→le a b)
  where
    go : (t : Bool) → (T t → a < b) → (T (not t) → b ≤ a) → Rounds f (cond t (round f true (b - a) c) (round f false (a - b) c)) p n c
    go true h k = let g = h tt in under (b - a) (omega arith) refl
    go false h k = let g = k tt in over (a - b) (omega arith) refl
sum-rounds f true false a b c {p} {n} u v = go (ltb a b) (ltb b a) (ltb→lt a b) (nltb→le a b) (nltb→le b a)
  where
    go : (t s : Bool) → (T t → a < b) → (T (not t) → b ≤ a) → (T (not s) → a ≤ b) → Rounds f (cond t (round f false (b - a) c) (round f s (a - b) c)) p n c
    go true s h k l = let g = h tt in over (b - a) (omega arith) refl
    go false true h k l = let g = k tt in under (a - b) (omega arith) refl
    go false false h k l = let g = k tt in let g' = l tt in over (a - b) (omega arith) refl

pub add_rounds : (f : Format) (x y : Float) → T (finite x) → T (finite y) → Rounds f (add f x y) (plus x * den y + plus y * den x) (less x * den y + less y * den x) (den x * den y)
unfolding add
add_rounds f nan y p q = absurd p
add_rounds f (inf s) y p q = absurd p
add_rounds f (fin s m e) nan p q = absurd q
add_rounds f (fin s m e) (inf t) p q = absurd q
add_rounds f (fin false m e) (fin false n d) p q = sum-rounds f false false (m * up e * down d) (n * up d * down e) (down e * down d) (omega arith) (omega arith)
add_rounds f (fin true m e) (fin true n d) p q = sum-rounds f true true (m * up e * down d) (n * up d * down e) (down e * down d) (omega arith) (omega arith)
add_rounds f (fin false m e) (fin true n d) p q = sum-rounds f false true (m * up e * down d) (n * up d * down e) (down e * down d) (omega arith) (omega arith)
add_rounds f (fin true m e) (fin false n d) p q = sum-rounds f true false (m * up e * down d) (n * up d * down e) (down e * down d) (omega arith) (omega arith)

pub sub-rounds : (f : Format) (x y : Float) → T (finite x) → T (finite y) → Rounds f (sub f x y) (cross x y) (cross y x) (den x * den y)
unfolding sub
sub-rounds f x y p q = rw (add_comm (plus y * den x), ← plus-neg y, ← less-neg y, ← den-neg y) (add_rounds f x (neg y) p (neg-finite y q))

pub mul-rounds : (f : Format) (x y : Float) → T (finite x) → T (finite y) → Rounds f (mul f x y) (plus x * plus y + less x * less y) (plus x * less y + less x * plus y) (den x * den y)
unfolding mul
mul-rounds f nan y p q = absurd p
mul-rounds f (inf s) y p q = absurd p
mul-rounds f (fin s m e) nan p q = absurd q
mul-rounds f (fin s m e) (inf t) p q = absurd q
mul-rounds f (fin false m e) (fin false n d) p q = over (m * up e * (n * up d)) (omega arith) refl
mul-rounds f (fin true m e) (fin true n d) p q = over (m * up e * (n * up d)) (omega arith) refl
mul-rounds f (fin false m e) (fin true n d) p q = under (m * up e * (n * up d)) (omega arith) refl
mul-rounds f (fin true m e) (fin false n d) p q = under (m * up e * (n * up d)) (omega arith) refl

-- by a value above zero
pub div-rounds : (f : Format) (x y : Float) → T (finite x) → 0 < plus y → Rounds f (div f x y) (plus x * den y) (less x * den y) (plus y * den x)
unfolding div
div-rounds f nan y p q = absurd p
div-rounds f (inf s) y p q = absurd p
div-rounds f (fin s m e) nan p q = absurd (lt_irrefl 0 q)
div-rounds f (fin s m e) (inf t) p q = absurd (lt_irrefl 0 q)
div-rounds f (fin s m e) (fin true n d) p q = absurd (lt_irrefl 0 q)
div-rounds f (fin false m e) (fin false zero d) p q = absurd (lt_irrefl 0 (lt_of_lt_of_le q (omega arith)))
div-rounds f (fin true m e) (fin false zero d) p q = absurd (lt_irrefl 0 (lt_of_lt_of_le q (omega arith)))
div-rounds f (fin false m e) (fin false (suc n) d) p q = rw (eqb-suc-zero n) (over (m * up e * down d) (omega arith) refl)
div-rounds f (fin true m e) (fin false (suc n) d) p q = rw (eqb-suc-zero n) (under (m * up e * down d) (omega arith) refl)

-- ---- x - t is at most x where t is not below zero
pub sub-le : (f : Format) (x t : Float) → T (fits f x) → T (finite x) → T (le zero_f t) → T (le (sub f x t) x)
unfolding sub add neg le lt eq
sub-le f x nan fx p h = absurd h
sub-le f nan (inf s) fx p h = absurd p
sub-le f (inf r) (inf s) fx p h = absurd p
sub-le f (fin r m e) (inf true) fx p h = absurd h
sub-le f (fin r m e) (inf false) fx p h = tt
sub-le f x (fin s n d) fx p h = finite-case x (fin s n d) fx p tt (le→cross zero_f (fin s n d) tt tt h)
  where
    finite-case : (x t : Float) → T (fits f x) → T (finite x) → T (finite t) → cross zero_f t ≤ cross t zero_f → T (le (sub f x t) x)
    finite-case x t fx p q h =
        let g = mul-le-mul_right (den x * den x) h in
        rounds-mono (sub-rounds f x t p q) (self-rounds f x fx p) (mul-pos (den_pos x) (den_pos t)) (den_pos x) (omega arith)

-- ---- squares and their sums are not below zero
zero-rounds : (f : Format) → Rounds f zero_f 0 0 1
unfolding fits
zero-rounds f = self-rounds f zero_f tt tt

pub rounds-nonneg : {f : Format} {z : Float} {p n c : ℕ} → Rounds f z p n c → 0 < c → n ≤ p → T (le zero_f z)
rounds-nonneg {f} r C h = rounds-mono (zero-rounds f) r (zero-lt-suc 0) C (omega arith)

pub one-sided : (x : Float) → (plus x ≡ 0) ⊎ (less x ≡ 0)
one-sided nan = inl refl
one-sided (inf s) = inl refl
one-sided (fin true m e) = inl refl
one-sided (fin false m e) = inr refl

pub square-nonneg : (f : Format) (x : Float) → T (not (is_nan x)) → T (le zero_f (mul f x x))
unfolding is_nan mul le lt eq
square-nonneg f nan p = absurd p
square-nonneg f (inf true) p = tt
square-nonneg f (inf false) p = tt
square-nonneg f (fin s m e) p =
    let x = fin s m e in
    rounds-nonneg (mul-rounds f x x tt tt) (mul-pos (den_pos x) (den_pos x)) (square (plus x) (less x) (one-sided x))
  where
    square : (p l : ℕ) → (p ≡ 0) ⊎ (l ≡ 0) → p * l + l * p ≤ p * p + l * l
    square p l (inl e) = rw e (omega arith)
    square p l (inr e) = rw e (omega arith)

pub sum_nonneg : (f : Format) (x y : Float) → T (le zero_f x) → T (le zero_f y) → T (le zero_f (add f x y))
unfolding add le lt eq
sum_nonneg f nan y p q = absurd p
sum_nonneg f (inf true) y p q = absurd p
sum_nonneg f (inf false) nan p q = absurd q
sum_nonneg f (inf false) (inf true) p q = absurd q
sum_nonneg f (inf false) (inf false) p q = tt
sum_nonneg f (inf false) (fin t n d) p q = tt
sum_nonneg f (fin s m e) nan p q = absurd q
sum_nonneg f (fin s m e) (inf true) p q = absurd q
sum_nonneg f (fin s m e) (inf false) p q = tt
sum_nonneg f (fin s m e) (fin t n d) p q =
    let x = fin s m e in
    let y = fin t n d in
    let a = mul-le-mul_right (den y) (le→cross zero_f x tt tt p) in
    let b = mul-le-mul_right (den x) (le→cross zero_f y tt tt q) in
    rounds-nonneg (add_rounds f x y tt tt) (mul-pos (den_pos x) (den_pos y)) (omega arith)
