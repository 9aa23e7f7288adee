-- A line that is compared with what a call answered and wrote: what is left of it, or `None` once a number was another.
use Rattle.std.specs.Prelude.{List, [], ◌∷◌, cond, ℤ, pos, length, Float, Option, Some, None, option_map}
use Rattle.std.specs.Ordering.{int_eq}
use Rattle.vectors.specs.Words.{listed, words_of}
use Rattle.vectors.specs.declared.compared.Compared.{Compared}
use Rattle.vectors.specs.declared.Verdict.{Verdict}
use Rattle.vectors.specs.declared.Verdict.TheVariants.{Same, Differs}

abbrev pub left : Compared → Option (List ℤ)
left c = option_map (λ l. l.now) c.0

-- what is left of the line n after the numbers w
abbrev pub after : List ℤ → List ℤ → Option (List ℤ)
after [] n = Some n
after (x ∷ w) [] = None
after (x ∷ w) (y ∷ n) = cond (int_eq x y) (after w n) None

abbrev pub matched : Option (List ℤ) → List ℤ → Option (List ℤ)
matched None w = None
matched (Some n) w = after w n

-- with an output: its length, and its places or their sum
abbrev pub matched_output : Option (List ℤ) → List ℤ → Option (List ℤ)
matched_output c out = matched (matched c (pos (length out) ∷ [])) (listed out)

-- with the words of each float
abbrev pub matched_floats : Option (List ℤ) → List Float → Option (List ℤ)
matched_floats c [] = c
matched_floats c (x ∷ l) = matched_floats (matched c (words_of x)) l

-- to its end
abbrev pub verdict_of : Option (List ℤ) → Verdict
verdict_of None = Differs
verdict_of (Some []) = Same
verdict_of (Some (x ∷ n)) = Differs
