-- Numbers as texts: a text is read as a number exactly where it is the one that is written for it,
-- so that no number has two texts.
use Rattle.std.specs.Prelude.{ℕ, ℤ, pos, ◌&&◌, ◌==◌, Bool, not, Option, None, Some, option_map, option_and_then, List, position, if◌then◌else◌}
use Rattle.std.specs.Fmt.{signed_decimal}
use Rattle.std.specs.List.{before_first, after_first}
use Rattle.std.specs.Ordering.{int_eq}
use Rattle.std.specs.Str.{bytes_eq}
use Rattle.std.specs.Str.Parse.{signed_digits_value}
use Rattle.whole_numbers.specs.Fits.{fits}
use Rattle.farkas_check.specs.Ratios.{Fraction, is_lowest, whole as whole_ratio}
use Rattle.items.specs.Gives.{◌>>=◌}
use Rattle.wire.specs.Shapes.{Reading, or_wrong, text}

-- the number that this is the shortest decimal text of, where it fits 128 bits
abbrev pub number_of : List ℕ → Option ℤ
number_of t = let z = signed_digits_value 10 t in if fits z && bytes_eq (signed_decimal z) t
    then Some z else None

-- a whole number of 128 bits, which stands as its decimal text
abbrev pub whole : Reading ℤ
whole d = text d >>= λ t. or_wrong (number_of t)

-- ---- ratios: a numerator, and behind a slash the denominator, unless it is 1

-- the byte is a slash
abbrev pub is_slash : ℕ → Bool
is_slash b = b == 47

-- a numerator over a denominator in lowest terms, which is not 1
abbrev pub ratio_over : ℤ → ℤ → Option Fraction
ratio_over num den = if not (int_eq den (pos 1)) && is_lowest num den then Some record {
  num = num;
  den = den;
} else None

-- the ratio of the texts of its numerator and of its denominator; None where they write none
abbrev pub ratio_of_two : List ℕ → List ℕ → Option Fraction
ratio_of_two above below =
    option_and_then (λ num. option_and_then (ratio_over num) (number_of below)) (number_of above)

-- the ratio of a text whose first slash is at this place; without a slash, a whole number
abbrev pub ratio_cut : Option ℕ → List ℕ → Option Fraction
ratio_cut None t = option_map whole_ratio (number_of t)
ratio_cut (Some place) t = ratio_of_two (before_first is_slash t) (after_first is_slash t)

-- the ratio that this is the text of, where it is one
abbrev pub ratio_of : List ℕ → Option Fraction
ratio_of t = ratio_cut (position is_slash t) t

-- a ratio, which stands as its text
abbrev pub ratio : Reading Fraction
ratio d = text d >>= λ t. or_wrong (ratio_of t)
