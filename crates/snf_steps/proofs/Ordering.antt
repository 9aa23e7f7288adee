-- The numbers on the diagonal through the first steps of `finalize`: signs and order.
use mathlib.Core.Path.{◌≡◌, refl, sym, ◌∙◌, ap, subst}
use mathlib.Core.Bool.{Bool, true, false, not, cond}
use Prim.Native.Nat.{ℕ, zero, ◌≤◌, ◌<◌}
use native.Mathlib.Omega.{arith}
use lib.Dec.{T, ltb, ltb→lt, nltb→le}
use lib.IntN.{ℤ, pos, negsuc, neg_ℤ, nat_abs}
use lib.Signed.{lt_z}
use borrow.Author.Tests.{le-ltb}
use Rattle.std.specs.Prelude.{Option, Some}
use Rattle.common.specs.Matrix.{Vec, Mat, transpose, ◌·◌, diagonal}
use Rattle.common.specs.Array.{matrix_of}
use Rattle.snf_steps.specs.Then.{when}
use Rattle.snf_steps.specs.Elementary.{elementary_swap_rows, elementary_flip_sign_row}
use Rattle.snf_steps.specs.Columns.{Pair, multiply}
use Rattle.snf_steps.specs.Stages.{Triple, columns_of, with_columns, on_rows, on_columns}
use Rattle.snf_steps.specs.Finalize.{make_positive, make_diag_positive, swap_diag_elems, order01, order12, finalize_sort}
use Rattle.snf_steps.proofs.Accepted.{Accepted, accepted, accepted-bind, accepted-map, accepted-when}
use Rattle.snf_steps.proofs.FittingEntries.{Fits, transpose-fits}
use Rattle.snf_steps.proofs.Zeroing.{multiply-does}
use Rattle.snf_steps.proofs.Disturbance.{rows_are}
use Rattle.snf_steps.proofs.Ending.{flip-0, flip-1, flip-2, exchange-01, exchange-12}

-- a is the diagonal matrix of v
pub record Shows (v : Vec ℤ) (s : Triple) : Type 0 where
  pub is : s.a ≡ diagonal v
  pub fits : Fits s.a

abbrev pub naturals : (a b c : ℕ) → Vec ℤ
naturals a b c = record { x = pos a; y = pos b; z = pos c }

-- three naturals of which R holds stand there
pub record Numbers (R : (x y z : ℕ) → Type 0) (t : Triple) : Type 0 where
  pub x : ℕ
  pub y : ℕ
  pub z : ℕ
  pub so : R x y z
  pub shows : Shows (naturals x y z) t

-- ---- rows and columns by one matrix
rows-by : (l : Mat ℤ) (s : Triple) {v w : Vec ℤ} → l · diagonal v ≡ diagonal w → Shows v s → Accepted (Shows w) (on_rows (multiply l) s)
rows-by l s e k = accepted-map (rows_are l s) (λ t p. record { is = p.is ∙ ap (λ m. l · m) k.is ∙ e; fits = p.fits })

pub record ColumnsBy (l m : Mat ℤ) (t : Triple) : Type 0 where
  pub is : t.a ≡ transpose (l · transpose m)
  pub fits : Fits t.a

pub columns-by : (l : Mat ℤ) (s : Triple) → Accepted (ColumnsBy l s.a) (on_columns (multiply l) s)
columns-by l s =
    accepted-bind (λ u. Some (with_columns s u)) (multiply-does l (columns_of s)) (λ u p.
    accepted (record { is = ap (λ (t : Pair). transpose t.a) p.is; fits = transpose-fits p.fits }))

-- ---- signs
negative-size : (z : ℤ) → T (lt_z z (pos 0)) → neg_ℤ z ≡ pos (nat_abs z)
negative-size (pos n) t = absurd (never n (ltb→lt n 0 t))
  where
    never : (n : ℕ) → n < 0 → ⊥
    never n l = omega arith
negative-size (negsuc n) t = refl

positive-size : (z : ℤ) → T (not (lt_z z (pos 0))) → z ≡ pos (nat_abs z)
positive-size (pos n) t = refl
positive-size (negsuc n) t = absurd t

-- row i, where f says what stands on the diagonal with x in the place of row i
module _ (i : ℕ) (f : ℤ → Vec ℤ) (flip : (x : ℤ) → matrix_of (elementary_flip_sign_row i) · diagonal (f x) ≡ diagonal (f (neg_ℤ x))) where
  make-positive-shows : (x : ℤ) (s : Triple) → Shows (f x) s → Accepted (Shows (f (pos (nat_abs x)))) (make_positive i x s)
  make-positive-shows x s k =
      accepted-when (lt_z x (pos 0)) (on_rows (multiply (matrix_of (elementary_flip_sign_row i)))) s
      (λ t. rows-by (matrix_of (elementary_flip_sign_row i)) s (flip x ∙ ap (λ z. diagonal (f z)) (negative-size x t)) k)
      (λ t. record { is = k.is ∙ ap (λ z. diagonal (f z)) (positive-size x t); fits = k.fits })

-- each number becomes its size
pub make-diag-positive-shows : (v : Vec ℤ) (s : Triple) → Shows v s → Accepted (Shows (naturals (nat_abs v.x) (nat_abs v.y) (nat_abs v.z))) (make_diag_positive s)
unfolding make_diag_positive
make-diag-positive-shows v s k =
    let a = pos (nat_abs v.x) in
    let b = pos (nat_abs v.y) in
    accepted-bind _ (accepted-bind _
    (at 0 (λ x. record { x = x; y = v.y; z = v.z }) (λ x. flip-0 (record { x = x; y = v.y; z = v.z })) v.x s (ap (λ (m : Mat ℤ). m.a) k.is) k)
    (λ s k. at 1 (λ y. record { x = a; y = y; z = v.z }) (λ y. flip-1 (record { x = a; y = y; z = v.z })) v.y s (ap (λ (m : Mat ℤ). m.e) k.is) k))
    (λ s k. at 2 (λ z. record { x = a; y = b; z = z }) (λ z. flip-2 (record { x = a; y = b; z = z })) v.z s (ap (λ (m : Mat ℤ). m.i) k.is) k)
  where
    at : (i : ℕ) (f : ℤ → Vec ℤ) → ((x : ℤ) → matrix_of (elementary_flip_sign_row i) · diagonal (f x) ≡ diagonal (f (neg_ℤ x))) → (x : ℤ) {y : ℤ} (s : Triple) → y ≡ x
        → Shows (f x) s → Accepted (Shows (f (pos (nat_abs x)))) (make_positive i y s)
    at i f flip x s e k = subst (λ y. Accepted (Shows (f (pos (nat_abs x)))) (make_positive i y s)) (sym e) (make-positive-shows i f flip x s k)

-- ---- the lesser and the greater of two numbers
abbrev pub lesser : ℕ → ℕ → ℕ
lesser a b = cond (ltb b a) b a

abbrev pub greater : ℕ → ℕ → ℕ
greater a b = cond (ltb b a) a b

pub order-cases : (a b : ℕ) (P : ℕ → ℕ → Type 0) → (a ≤ b → P a b) → (b < a → P b a) → P (lesser a b) (greater a b)
order-cases a b P f g = go (ltb b a) (λ t. f (nltb→le b a t)) (λ t. g (ltb→lt b a t))
  where
    go : (t : Bool) → (T (not t) → P a b) → (T t → P b a) → P (cond t b a) (cond t a b)
    go true f g = g tt
    go false f g = f tt

pub already : {a b : ℕ} → a ≤ b → (lesser a b ≡ a) × (greater a b ≡ b)
already {a} {b} h = let e = le-ltb b a h in (ap (λ (t : Bool). cond t b a) e, ap (λ (t : Bool). cond t a b) e)

-- ---- order
module _ (a b : ℕ) where
  exchanged : (P : ℕ → ℕ → Triple → Type 0) (swap : Triple → Option Triple) (s : Triple) → P a b s → Accepted (P b a) (swap s) → Accepted (P (lesser a b) (greater a b)) (when (ltb b a) swap s)
  exchanged P swap s k e = go (ltb b a)
    where
      go : (t : Bool) → Accepted (P (cond t b a) (cond t a b)) (when t swap s)
      go true = e
      go false = accepted k

pub order-01-shows : (a b c : ℕ) (s : Triple) → Shows (naturals a b c) s → Accepted (Shows (naturals (lesser a b) (greater a b) c)) (order01 s)
order-01-shows a b c s k =
    let l = matrix_of (elementary_swap_rows 0 1) in
    subst (λ (m : Mat ℤ). Accepted (Shows (naturals (lesser a b) (greater a b) c)) (when (lt_z m.e m.a) (swap_diag_elems 0 1) s)) (sym k.is)
    (exchanged a b (λ a b. Shows (naturals a b c)) (swap_diag_elems 0 1) s k (accepted-bind (on_columns (multiply l)) (rows_are l s) (λ t p.
    accepted-map (columns-by l t) (λ u q. record { is = q.is ∙ ap (λ m. transpose (l · transpose m)) (p.is ∙ ap (λ m. l · m) k.is) ∙ exchange-01 (naturals a b c); fits = q.fits }))))

pub order-12-shows : (a b c : ℕ) (s : Triple) → Shows (naturals a b c) s → Accepted (Shows (naturals a (lesser b c) (greater b c))) (order12 s)
order-12-shows a b c s k =
    let l = matrix_of (elementary_swap_rows 1 2) in
    subst (λ (m : Mat ℤ). Accepted (Shows (naturals a (lesser b c) (greater b c))) (when (lt_z m.i m.e) (swap_diag_elems 1 2) s)) (sym k.is)
    (exchanged b c (λ b c. Shows (naturals a b c)) (swap_diag_elems 1 2) s k (accepted-bind (on_columns (multiply l)) (rows_are l s) (λ t p.
    accepted-map (columns-by l t) (λ u q. record { is = q.is ∙ ap (λ m. transpose (l · transpose m)) (p.is ∙ ap (λ m. l · m) k.is) ∙ exchange-12 (naturals a b c); fits = q.fits }))))

pub record Rising (x y z : ℕ) : Type 0 where
  pub positive : zero < x
  pub first : x ≤ y
  pub second : y ≤ z

module _ (s : Triple) where
  -- the middle and the greatest number are made first
  sort-shows : (a b c : ℕ) → Shows (naturals a b c) s
      → Accepted (Shows (naturals (lesser (lesser a b) (lesser (greater a b) c)) (greater (lesser a b) (lesser (greater a b) c)) (greater (greater a b) c))) (finalize_sort s)
  unfolding finalize_sort
  sort-shows a b c k =
      accepted-bind order01 (accepted-bind order12 (order-01-shows a b c s k) (λ t p. order-12-shows (lesser a b) (greater a b) c t p))
      (λ t p. order-01-shows (lesser a b) (lesser (greater a b) c) (greater (greater a b) c) t p)

  pub sort-rises : (a b c : ℕ) → zero < a → zero < b → zero < c → Shows (naturals a b c) s → Accepted (Numbers Rising) (finalize_sort s)
  sort-rises a b c ha hb hc k = accepted-map (sort-shows a b c k) (λ t p. order-cases a b (λ l g. At l g t) (λ h. below a b t ha h) (λ h. below b a t hb (omega arith)) p)
    where
      At : ℕ → ℕ → Triple → Type 0
      At l g t = Shows (naturals (lesser l (lesser g c)) (greater l (lesser g c)) (greater g c)) t → Numbers Rising t

      last : (l m n : ℕ) (t : Triple) → zero < l → zero < m → l ≤ n → m ≤ n → Shows (naturals (lesser l m) (greater l m) n) t → Numbers Rising t
      last l m n t hl hm h j =
          order-cases l m (λ x y. Shows (naturals x y n) t → Numbers Rising t)
          (λ e p. record { x = l; y = m; z = n; so = record { positive = hl; first = e; second = j }; shows = p })
          (λ e p. record { x = m; y = l; z = n; so = record { positive = hm; first = omega arith; second = h }; shows = p })

      below : (l g : ℕ) (t : Triple) → zero < l → l ≤ g → At l g t
      below l g t hl h =
          order-cases g c (λ m n. Shows (naturals (lesser l m) (greater l m) n) t → Numbers Rising t)
          (λ e. last l g c t hl (omega arith) (omega arith) e)
          (λ e. last l c g t hl hc h (omega arith))

  -- the least number first, or the greatest last
  pub least_first : (a b c : ℕ) → a ≤ b → a ≤ c → Shows (naturals a b c) s → Accepted (Shows (naturals a (lesser b c) (greater b c))) (finalize_sort s)
  least_first a b c h j k = accepted-map (sort-shows a b c k) (λ t p.
      subst (λ v. Shows v t)
      ((λ i. naturals (lesser ((already h).0 i) (lesser ((already h).1 i) c)) (greater ((already h).0 i) (lesser ((already h).1 i) c)) (greater ((already h).1 i) c))
      ∙ (λ i. naturals ((already low).0 i) ((already low).1 i) (greater b c))) p)
    where
      low : a ≤ lesser b c
      low = order-cases b c (λ l g. a ≤ l) (λ _. h) (λ _. j)

  pub greatest-last : (a b c : ℕ) → a ≤ c → b ≤ c → Shows (naturals a b c) s → Accepted (Shows (naturals (lesser a b) (greater a b) c)) (finalize_sort s)
  greatest-last a b c h j k = accepted-map (sort-shows a b c k) (λ t p.
      subst (λ v. Shows v t)
      ((λ i. naturals (lesser (lesser a b) ((already high).0 i)) (greater (lesser a b) ((already high).0 i)) ((already high).1 i))
      ∙ (λ i. naturals ((already apart).0 i) ((already apart).1 i) c)) p)
    where
      high : greater a b ≤ c
      high = order-cases a b (λ l g. g ≤ c) (λ _. j) (λ _. h)

      apart : lesser a b ≤ greater a b
      apart = order-cases a b (λ l g. l ≤ g) (λ e. e) (λ e. omega arith)

  pub sorted-stays : (a b c : ℕ) → a ≤ b → b ≤ c → Shows (naturals a b c) s → Accepted (Shows (naturals a b c)) (finalize_sort s)
  sorted-stays a b c h j k =
      accepted-map (greatest-last a b c (omega arith) j k) (λ t p. subst (λ v. Shows v t) (λ i. naturals ((already h).0 i) ((already h).1 i) c) p)
