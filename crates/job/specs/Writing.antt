-- A text in a lent slice: what the call writes and answers, and how it writes, byte by byte.
use mathlib.Core.List.{List, ◌++◌, foldl}
use Rattle.std.specs.Prelude.{ℕ, ◌+◌, ◌-◌, leb, ltb, length, set, replicate, Option, Some, None, cond}

-- a slice, and how many bytes of it are written, or that there is no room
pub record Page : Type 0 where
  pub text : List ℕ
  pub so_far : Option ℕ

abbrev pub page : List ℕ → Option ℕ → Page
page l p = record { text = l; so_far = p }

-- ---- in n places: the text and 0 in every place after it; without room 0 everywhere
unfoldable pub printed : List ℕ → ℕ → Page
printed text n = cond (leb (length text) n) (page (text ++ replicate (n - length text) 0) (Some (length text))) (page (replicate n 0) None)

-- ---- byte by byte
abbrev pub next : List ℕ → Option ℕ → ℕ → Page
next l None b = page l None
next l (Some n) b = cond (ltb n (length l)) (page (set l n b) (Some (n + 1))) (page l None)

abbrev pub put : Page → ℕ → Page
put p b = next p.text p.so_far b

abbrev pub puts : Page → List ℕ → Page
puts p text = foldl put p text

-- what is left of it at the end
abbrev pub finished : List ℕ → Option ℕ → Page
finished l (Some n) = page l (Some n)
finished l None = page (replicate (length l) 0) None
