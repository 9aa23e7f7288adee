-- The two layouts of an image table, from the list of images of each point, and how either is read.
use Rattle.std.specs.Prelude.{List, [], ◌∷◌, ◌++◌, map, ℕ, suc, ◌+◌, ◌*◌, ℤ, pos, length, set, replicate, take, drop}
use Rattle.common.specs.Matrix.{Vec, map_vec}
use Rattle.common.specs.Array.{items}
use Rattle.grgrid.specs.Grid.{size, index}
use Rattle.grgrid.specs.Build.{concat}
use Rattle.bzsearch.specs.Search.{Search, images, numbers_from}

pub record Image : Type 0 where
  pub address : Vec ℤ
  pub point : ℕ

abbrev pub image_of : ℕ → Vec ℤ → Image
image_of p a = record { address = a; point = p }

-- the images of each point, with that point
abbrev pub named : (ℕ → List (Vec ℤ)) → ℕ → List Image
named g p = map (image_of p) (g p)

unfoldable pub images_at : Search → ℕ → List Image
unfolding images
images_at s p = map (image_of p) (images s p)

-- ---- type 2, dense: the images of one point after those of another; the map holds the place of each point's first image, and at last their number
abbrev pub dense : (ℕ → List Image) → ℕ → List Image
dense g n = concat g n

-- g 0, .., g (n - 1)
abbrev pub listed : {A : Type 0} → (ℕ → A) → ℕ → List A
listed g n = numbers_from g 0 n

abbrev pub dense_map : (ℕ → List Image) → ℕ → List ℤ
dense_map g n = listed (λ i. pos (length (concat g i))) (n + 1)

-- ---- type 1, sparse: the first image of each point at its place, the others after them; the map over the doubled mesh holds the place of the last image
-- that falls there, 8 N where none does, and after it N + 1 counts of the others
abbrev pub first : (ℕ → List Image) → ℕ → List Image
first g i = take 1 (g i)

abbrev pub others : (ℕ → List Image) → ℕ → List Image
others g i = drop 1 (g i)

abbrev pub sparse : (ℕ → List Image) → ℕ → List Image
sparse g n = concat (first g) n ++ concat (others g) n

abbrev pub doubled : Vec ℕ → Vec ℕ
doubled d = map_vec (λ n. 2 * n) d

abbrev pub placed : Vec ℕ → ℕ → List Image → List ℤ → List ℤ
placed d at [] l = l
placed d at (x ∷ xs) l = placed d (suc at) xs (set l (index (doubled d) x.address) (pos at))

abbrev pub empty : Vec ℕ → ℕ
empty d = 8 * size d

abbrev pub sparse_map : Vec ℕ → (ℕ → List Image) → List ℤ
sparse_map d g =
    let n = size d in
    placed d 0 (sparse g n) (replicate (empty d) (pos (empty d))) ++ listed (λ i. pos (length (concat (others g) i))) (n + 1)

-- ---- as the outputs hold them
abbrev pub address_list : List Image → List ℤ
address_list [] = []
address_list (x ∷ xs) = items x.address ++ address_list xs

abbrev pub point_list : List Image → List ℤ
point_list xs = map (λ x. pos x.point) xs
