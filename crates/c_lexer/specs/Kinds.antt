-- Which bytes spell a token, and of which kind (C11 6.4).
use Rattle.std.specs.Prelude.{◌≡◌, ◌≢◌, ℕ, pos, ◌+◌, ◌-◌, ◌*◌, ◌^◌, nat_le, List, [], ◌∷◌, fold, Bool, false, ◌&&◌, ◌||◌, ◌==◌, not, IsTrue, ◌⊎◌, Option, Some, None, if◌then◌else◌}
use Rattle.std.specs.List.{list_all}
use Rattle.std.specs.Option.{option_map}
use Rattle.std.specs.Char.{is_ascii_digit, is_ascii_hexdigit}
use Rattle.c_lexer.specs.declared.kind.TokenKind.{TokenKind}
use Rattle.c_lexer.specs.declared.kind.TokenKind.TheVariants as kind
use Rattle.c_lexer.specs.declared.keyword.Keyword.{Keyword}
use Rattle.c_lexer.specs.declared.mark.Mark.{Mark}
use Rattle.c_lexer.specs.Bytes.{is_word_start, is_word_byte, is_number_byte}
use Rattle.c_lexer.specs.Spellings.{mark_bytes, keyword_bytes}

-- ---- shapes: what a token looks like, before it is asked whether it is one of the profile

-- a letter or `_`, and then letters, digits and `_` (C11 6.4.2.1)
abbrev pub is_word_shape : List ℕ → Bool
is_word_shape [] = false
is_word_shape (b ∷ bytes) = is_word_start b && list_all is_word_byte bytes

-- a digit, and then letters, digits, `_` and `.` (C11 6.4.8, without signs)
abbrev pub is_number_shape : List ℕ → Bool
is_number_shape [] = false
is_number_shape (b ∷ bytes) = is_ascii_digit b && list_all is_number_byte bytes

-- the bytes have the shape of a word, of a number or of a mark
abbrev pub HasShape : List ℕ → Type 0
HasShape w = IsTrue (is_word_shape w)
    ⊎ (IsTrue (is_number_shape w) ⊎ ((m : Mark) × (w ≡ mark_bytes m)))

-- ---- numbers (C11 6.4.4.1, without octal numbers and suffixes)

-- the number that decimal digits spell
abbrev pub decimal_value : List ℕ → ℕ
decimal_value digits = fold (λ n d. 10 * n + (d - 48)) 0 digits

-- 0, or a digit from 1 to 9 and then digits
abbrev pub is_decimal : List ℕ → Bool
is_decimal [] = false
is_decimal (d ∷ []) = is_ascii_digit d
is_decimal (d ∷ digits) = is_ascii_digit d && not (d == 48) && list_all is_ascii_digit digits

-- the number that a hexadecimal digit spells, in either case
abbrev pub hex_digit_value : ℕ → ℕ
hex_digit_value d = if nat_le d 57 then d - 48 else (if nat_le d 70 then d - 55 else d - 87)

-- the number that hexadecimal digits spell, the highest of them first
abbrev pub hexadecimal_value : List ℕ → ℕ
hexadecimal_value digits = fold (λ n d. 16 * n + hex_digit_value d) 0 digits

-- what stands behind 0x or 0X, where it is one hexadecimal digit or more
abbrev pub hexadecimal_digits : List ℕ → Option (List ℕ)
hexadecimal_digits (z ∷ x ∷ d ∷ digits) =
    if z == 48 && (x == 120 || x == 88) && list_all is_ascii_hexdigit (d ∷ digits)
    then Some (d ∷ digits) else None
hexadecimal_digits _ = None

-- the number that the bytes spell, where they have one of the two forms
abbrev pub number_of : List ℕ → Option ℕ
number_of w = if is_decimal w then Some (decimal_value w)
    else option_map hexadecimal_value (hexadecimal_digits w)

-- a number of a text is at most 2 ^ 63 - 1
abbrev pub if_small : Option ℕ → Option ℕ
if_small None = None
if_small (Some n) = if nat_le n (2 ^ 63 - 1) then Some n else None

-- the number that the bytes spell, where they spell one that is at most 2 ^ 63 - 1
abbrev pub small_number : List ℕ → Option ℕ
small_number w = if_small (number_of w)

-- ---- kinds

-- The bytes spell a token of this kind. A word is no keyword, a number is at most 2 ^ 63 - 1, and
-- nothing spells the end.
abbrev pub Spells : TokenKind → List ℕ → Type 0
Spells (kind.Word name) w = (name ≡ w) × IsTrue (is_word_shape w)
    × ((k : Keyword) → keyword_bytes k ≢ w)
Spells (kind.Keyword k) w = w ≡ keyword_bytes k
Spells (kind.Number z) w = (n : ℕ) × (z ≡ pos n) × (small_number w ≡ Some n)
Spells (kind.Mark m) w = w ≡ mark_bytes m
Spells kind.End w = ⊥
