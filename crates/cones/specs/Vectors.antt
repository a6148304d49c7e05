-- Lists of whole numbers as vectors.
use Rattle.std.specs.Prelude.{ℤ, pos, ◌+ℤ◌, ◌*ℤ◌, neg_ℤ, int_div, List, [], ◌∷◌, map, ◌==◌, if◌then◌else◌}
use Rattle.whole_numbers.specs.Divisors.{gcd_of_all}

-- so many times one vector and so many times another
abbrev pub combination : ℤ → List ℤ → ℤ → List ℤ → List ℤ
combination a [] b ys = map (λ y. b *ℤ y) ys
combination a (x ∷ xs) b [] = map (λ z. a *ℤ z) (x ∷ xs)
combination a (x ∷ xs) b (y ∷ ys) = (a *ℤ x +ℤ b *ℤ y) ∷ combination a xs b ys

-- numbers without their common divisor
abbrev pub lowest : List ℤ → List ℤ
lowest numbers = if gcd_of_all numbers == 0 then numbers
    else map (λ z. int_div z (pos (gcd_of_all numbers))) numbers

-- each number with its sign turned
abbrev pub opposite : List ℤ → List ℤ
opposite numbers = map neg_ℤ numbers
