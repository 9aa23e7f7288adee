-- The order of floats. Between finite values it is the order of the fractions, multiplied out. Away from NaN, infinities included, it is total.
use Rattle.std.proofs.Common.{◌≡◌, ℕ, ◌+◌, ◌*◌, ◌<◌, ◌≤◌, Bool, true, false, not, ◌&&◌, T, eqb, leb, ◌⊎◌, inl, inr, le_of_eq, le_of_lt, mul-le-mul_right, le_of_mul-le-mul_right, arith, eqb→eq, ltb→lt, lt→ltb, leb→le, T_not}
use lib.Dec.{nleb→lt}
use lib.Ieee.{Float, nan, inf, fin, up, down, neg, lt, le, eq, is_nan}
use lib.Ieee.Fits.{eq→eqb}
use lib.Ieee.Scale.{finite}
use lib.Ieee.Positive.{den, den_pos}
use Rattle.integer.proofs.Test.{and_l, and_r, and_in, or_l, or_r, or-of}
use Rattle.float.specs.Value.{plus, less}
use Rattle.float.proofs.Sign.{neg-neg, plus-neg, less-neg, den-neg}

-- a test on natural numbers, as two cases
pub by-test : (a b : ℕ) → (a ≤ b) ⊎ (b < a)
by-test a b = go (leb a b) (leb→le a b) (nleb→lt a b)
  where
    go : (t : Bool) → (T t → a ≤ b) → (T (not t) → b < a) → (a ≤ b) ⊎ (b < a)
    go true h k = inl (h tt)
    go false h k = inr (k tt)

-- ---- finite values as fractions: x - y is (cross x y - cross y x) / (den x * den y)
abbrev pub cross : Float → Float → ℕ
cross x y = plus x * den y + less y * den x

pub lt→cross : (x y : Float) → T (finite x) → T (finite y) → T (lt x y) → cross x y < cross y x
unfolding lt
lt→cross nan y p q h = absurd p
lt→cross (inf s) y p q h = absurd p
lt→cross (fin s m e) nan p q h = absurd q
lt→cross (fin s m e) (inf t) p q h = absurd q
lt→cross (fin false m e) (fin false n d) p q h = let g = ltb→lt (m * up e * down d) (n * up d * down e) h in omega arith
lt→cross (fin true m e) (fin false n d) p q h = let g = ltb→lt 0 (m * up e * down d + n * up d * down e) h in omega arith
lt→cross (fin true m e) (fin true n d) p q h = let g = ltb→lt (n * up d * down e) (m * up e * down d) h in omega arith
lt→cross (fin false m e) (fin true n d) p q h = absurd h

pub cross→lt : (x y : Float) → T (finite x) → T (finite y) → cross x y < cross y x → T (lt x y)
unfolding lt
cross→lt nan y p q h = absurd p
cross→lt (inf s) y p q h = absurd p
cross→lt (fin s m e) nan p q h = absurd q
cross→lt (fin s m e) (inf t) p q h = absurd q
cross→lt (fin false m e) (fin false n d) p q h = lt→ltb (m * up e * down d) (n * up d * down e) (omega arith)
cross→lt (fin true m e) (fin false n d) p q h = lt→ltb 0 (m * up e * down d + n * up d * down e) (omega arith)
cross→lt (fin true m e) (fin true n d) p q h = lt→ltb (n * up d * down e) (m * up e * down d) (omega arith)
cross→lt (fin false m e) (fin true n d) p q h = absurd (never (m * up e * down d) (n * up d * down e) (omega arith))
  where
    never : (a b : ℕ) → a + b < 0 → ⊥
    never a b h = omega arith

-- the two halves of the test on equal sizes a and b: they are equal, and both are 0 where the signs differ
same : (a b : ℕ) (c : Bool) → T (eqb a b && c) → a ≡ b
same a b c h = eqb→eq a b (and_l (eqb a b) c h)

none : (a b : ℕ) → T (eqb a b && eqb a 0) → a ≡ 0
none a b h = eqb→eq a 0 (and_r (eqb a b) (eqb a 0) h)

pub eq→cross : (x y : Float) → T (finite x) → T (finite y) → T (eq x y) → cross x y ≡ cross y x
unfolding eq
eq→cross nan y p q h = absurd p
eq→cross (inf s) y p q h = absurd p
eq→cross (fin s m e) nan p q h = absurd q
eq→cross (fin s m e) (inf t) p q h = absurd q
eq→cross (fin false m e) (fin false n d) p q h = omega (arith, same (m * up e * down d) (n * up d * down e) true h)
eq→cross (fin true m e) (fin true n d) p q h = omega (arith, same (m * up e * down d) (n * up d * down e) true h)
eq→cross (fin true m e) (fin false n d) p q h =
    let a = m * up e * down d in
    let b = n * up d * down e in
    omega (arith, same a b (eqb a 0) h, none a b h)
eq→cross (fin false m e) (fin true n d) p q h =
    let a = m * up e * down d in
    let b = n * up d * down e in
    omega (arith, same a b (eqb a 0) h, none a b h)

level : (a b : ℕ) (c : Bool) → a ≡ b → T c → T (eqb a b && c)
level a b c e h = and_in (eqb a b) c (eq→eqb e) h

pub cross→eq : (x y : Float) → T (finite x) → T (finite y) → cross x y ≡ cross y x → T (eq x y)
unfolding eq
cross→eq nan y p q h = absurd p
cross→eq (inf s) y p q h = absurd p
cross→eq (fin s m e) nan p q h = absurd q
cross→eq (fin s m e) (inf t) p q h = absurd q
cross→eq (fin false m e) (fin false n d) p q h = level (m * up e * down d) (n * up d * down e) true (omega arith) tt
cross→eq (fin true m e) (fin true n d) p q h = level (m * up e * down d) (n * up d * down e) true (omega arith) tt
cross→eq (fin true m e) (fin false n d) p q h =
    let z : m * up e * down d ≡ 0 = omega arith in
    level (m * up e * down d) (n * up d * down e) (eqb (m * up e * down d) 0) (omega arith) (eq→eqb z)
cross→eq (fin false m e) (fin true n d) p q h =
    let z : m * up e * down d ≡ 0 = omega arith in
    level (m * up e * down d) (n * up d * down e) (eqb (m * up e * down d) 0) (omega arith) (eq→eqb z)

pub lt→le : (x y : Float) → T (lt x y) → T (le x y)
unfolding le
lt→le x y h = or_l (lt x y) (eq x y) h

pub le→cross : (x y : Float) → T (finite x) → T (finite y) → T (le x y) → cross x y ≤ cross y x
unfolding le
le→cross x y p q h = elim (or-of (lt x y) (eq x y) h) [ inl g ↦ le_of_lt (lt→cross x y p q g) | inr g ↦ le_of_eq (eq→cross x y p q g) ]

pub cross→le : (x y : Float) → T (finite x) → T (finite y) → cross x y ≤ cross y x → T (le x y)
unfolding le
cross→le x y p q h = elim (by-test (cross y x) (cross x y)) [
  | inl g ↦ or_r (lt x y) (eq x y) (cross→eq x y p q (omega arith))
  | inr g ↦ or_l (lt x y) (eq x y) (cross→lt x y p q g)
]

-- ---- the laws of the order, of every value but NaN
pub finite_number : (x : Float) → T (finite x) → T (not (is_nan x))
unfolding is_nan
finite_number nan p = p
finite_number (inf s) p = absurd p
finite_number (fin s m e) p = tt

least : (x : Float) → T (not (is_nan x)) → T (le (inf true) x)
unfolding le lt eq is_nan
least nan p = p
least (inf true) p = tt
least (inf false) p = tt
least (fin s m e) p = tt

-- what compares is no NaN
pub numbers : (x y : Float) → T (le x y) → T (not (is_nan x)) × T (not (is_nan y))
unfolding le lt eq is_nan
numbers nan y h = absurd h
numbers (inf s) nan h = absurd h
numbers (inf s) (inf t) h = (tt, tt)
numbers (inf s) (fin t n d) h = (tt, tt)
numbers (fin s m e) nan h = absurd h
numbers (fin s m e) (inf t) h = (tt, tt)
numbers (fin s m e) (fin t n d) h = (tt, tt)

pub le_refl : (x : Float) → T (not (is_nan x)) → T (le x x)
unfolding le lt eq is_nan
le_refl nan p = p
le_refl (inf true) p = tt
le_refl (inf false) p = tt
le_refl (fin s m e) p = cross→le (fin s m e) (fin s m e) tt tt (omega arith)

-- x / a ≤ y / b ≤ z / c, each a difference
chain : (px lx a py ly b pz lz c : ℕ) → 0 < b → px * b + ly * a ≤ py * a + lx * b → py * c + lz * b ≤ pz * b + ly * c → px * c + lz * a ≤ pz * a + lx * c
chain px lx a py ly b pz lz c B h k =
    let h' = mul-le-mul_right c h in
    let k' = mul-le-mul_right a k in
    let g : (px * c + lz * a) * b ≤ (pz * a + lx * c) * b = omega arith in
    le_of_mul-le-mul_right g B

pub le_trans : (x y z : Float) → T (le x y) → T (le y z) → T (le x z)
unfolding le lt eq
le_trans nan y z h k = absurd h
le_trans (inf true) y z h k = least z (numbers y z k).1
le_trans (inf false) nan z h k = absurd h
le_trans (inf false) (inf true) z h k = absurd h
le_trans (inf false) (inf false) z h k = k
le_trans (inf false) (fin t n d) z h k = absurd h
le_trans (fin s m e) nan z h k = absurd h
le_trans (fin s m e) (inf true) z h k = absurd h
le_trans (fin s m e) (inf false) nan h k = absurd k
le_trans (fin s m e) (inf false) (inf true) h k = absurd k
le_trans (fin s m e) (inf false) (inf false) h k = tt
le_trans (fin s m e) (inf false) (fin u w g) h k = absurd k
le_trans (fin s m e) (fin t n d) nan h k = absurd k
le_trans (fin s m e) (fin t n d) (inf true) h k = absurd k
le_trans (fin s m e) (fin t n d) (inf false) h k = tt
le_trans (fin s m e) (fin t n d) (fin u w g) h k =
    let x = fin s m e in
    let y = fin t n d in
    let z = fin u w g in
    cross→le x z tt tt (chain (plus x) (less x) (den x) (plus y) (less y) (den y) (plus z) (less z) (den z) (den_pos y) (le→cross x y tt tt h) (le→cross y z tt tt k))

-- what is below is not at least as large
pub lt→not : (x y : Float) → T (lt x y) → T (le y x) → ⊥
unfolding le lt eq
lt→not nan y h k = h
lt→not (inf true) nan h k = h
lt→not (inf true) (inf true) h k = h
lt→not (inf true) (inf false) h k = k
lt→not (inf true) (fin t n d) h k = k
lt→not (inf false) nan h k = h
lt→not (inf false) (inf t) h k = h
lt→not (inf false) (fin t n d) h k = h
lt→not (fin s m e) nan h k = h
lt→not (fin s m e) (inf true) h k = h
lt→not (fin s m e) (inf false) h k = k
lt→not (fin s m e) (fin t n d) h k =
    let x = fin s m e in
    let y = fin t n d in
    never (cross x y) (cross y x) (lt→cross x y tt tt h) (le→cross y x tt tt k)
  where
    never : (a b : ℕ) → a < b → b ≤ a → ⊥
    never a b h k = omega arith

pub total : (x y : Float) → T (not (is_nan x)) → T (not (is_nan y)) → T (le x y) ⊎ T (lt y x)
unfolding le lt eq is_nan
total nan y p q = absurd p
total (inf true) y p q = inl (least y q)
total (inf false) nan p q = absurd q
total (inf false) (inf true) p q = inr tt
total (inf false) (inf false) p q = inl tt
total (inf false) (fin t n d) p q = inr tt
total (fin s m e) nan p q = absurd q
total (fin s m e) (inf true) p q = inr tt
total (fin s m e) (inf false) p q = inl tt
total (fin s m e) (fin t n d) p q =
    let x = fin s m e in
    let y = fin t n d in
    elim (by-test (cross x y) (cross y x)) [ inl h ↦ inl (cross→le x y tt tt h) | inr h ↦ inr (cross→lt y x tt tt h) ]

-- ---- and what follows from them
pub lt_irrefl : (x : Float) → T (lt x x) → ⊥
lt_irrefl x h = lt→not x x h (lt→le x x h)

pub not-lt : (x y : Float) → T (not (is_nan x)) → T (not (is_nan y)) → T (not (lt x y)) → T (le y x)
not-lt x y p q h = elim (total y x q p) [ inl g ↦ g | inr g ↦ absurd (T_not (lt x y) h g) ]

pub not-le : (x y : Float) → T (not (is_nan x)) → T (not (is_nan y)) → T (not (le x y)) → T (lt y x)
not-le x y p q h = elim (total x y p q) [ inl g ↦ absurd (T_not (le x y) h g) | inr g ↦ g ]

pub le_lt_trans : (x y z : Float) → T (le x y) → T (lt y z) → T (lt x z)
le_lt_trans x y z h k =
    elim (total z x (numbers y z (lt→le y z k)).1 (numbers x y h).0) [ inl g ↦ absurd (lt→not y z k (le_trans z x y g h)) | inr g ↦ g ]

pub lt-le-trans : (x y z : Float) → T (lt x y) → T (le y z) → T (lt x z)
lt-le-trans x y z h k =
    elim (total z x (numbers y z k).1 (numbers x y (lt→le x y h)).0) [ inl g ↦ absurd (lt→not x y h (le_trans y z x k g)) | inr g ↦ g ]

pub lt_trans : (x y z : Float) → T (lt x y) → T (lt y z) → T (lt x z)
lt_trans x y z h k = lt-le-trans x y z h (lt→le y z k)

-- between two values that are apart a third one is apart from one of them
pub lt-cut : (x y z : Float) → T (not (is_nan y)) → T (lt x z) → T (lt x y) ⊎ T (lt y z)
lt-cut x y z q h = elim (total y x q (numbers x z (lt→le x z h)).0) [ inl g ↦ inr (le_lt_trans y x z g h) | inr g ↦ inl g ]

-- what lies between two finite values is finite
pub between : (x z y : Float) → T (finite x) → T (finite y) → T (le x z) → T (le z y) → T (finite z)
unfolding le lt eq
between nan z y p q h k = absurd p
between (inf s) z y p q h k = absurd p
between (fin s m e) nan y p q h k = absurd h
between (fin s m e) (inf true) y p q h k = absurd h
between (fin s m e) (inf false) nan p q h k = absurd q
between (fin s m e) (inf false) (inf t) p q h k = absurd q
between (fin s m e) (inf false) (fin t n d) p q h k = absurd k
between (fin s m e) (fin t n d) y p q h k = tt

-- negation turns the order round
pub neg-le : (x y : Float) → T (le x y) → T (le (neg y) (neg x))
unfolding le lt eq neg
neg-le nan y h = absurd h
neg-le (inf s) nan h = absurd h
neg-le (inf true) (inf true) h = tt
neg-le (inf true) (inf false) h = tt
neg-le (inf false) (inf true) h = absurd h
neg-le (inf false) (inf false) h = tt
neg-le (inf true) (fin t n d) h = tt
neg-le (inf false) (fin t n d) h = absurd h
neg-le (fin s m e) nan h = absurd h
neg-le (fin s m e) (inf true) h = absurd h
neg-le (fin s m e) (inf false) h = tt
neg-le (fin s m e) (fin t n d) h = cross→le (fin (not t) n d) (fin (not s) m e) tt tt (turned (fin s m e) (fin t n d) (le→cross (fin s m e) (fin t n d) tt tt h))
  where
    turned : (x y : Float) → cross x y ≤ cross y x → cross (neg y) (neg x) ≤ cross (neg x) (neg y)
    turned x y h = rw (plus-neg x, less-neg x, den-neg x, plus-neg y, less-neg y, den-neg y) (omega arith)

neg-number : (x : Float) → T (not (is_nan x)) → T (not (is_nan (neg x)))
unfolding is_nan neg
neg-number nan p = p
neg-number (inf s) p = tt
neg-number (fin s m e) p = tt

pub neg-lt : (x y : Float) → T (lt x y) → T (lt (neg y) (neg x))
neg-lt x y h =
    let n = numbers x y (lt→le x y h) in
    elim (total (neg x) (neg y) (neg-number x n.0) (neg-number y n.1)) [
      | inl g ↦ absurd (lt→not x y h (rw (neg-neg x, neg-neg y) at (neg-le (neg x) (neg y) g)))
      | inr g ↦ g
    ]
