-- The classes of bytes of which tokens and the space between them are made (C11 5.2.1, 6.4).
use Rattle.std.specs.Prelude.{ℕ, Bool, false, ◌||◌, ◌==◌, List, [], ◌∷◌}
use Rattle.std.specs.Char.{is_ascii_alphabetic, is_ascii_alphanumeric}

-- space, tab, newline, vertical tab, form feed and carriage return
abbrev pub is_blank : ℕ → Bool
is_blank b = b == 32 || (b == 9 || (b == 10 || (b == 11 || (b == 12 || b == 13))))

-- the byte that ends a line
abbrev pub is_newline : ℕ → Bool
is_newline b = b == 10

-- what a word begins with: a letter or `_` (C11 6.4.2.1)
abbrev pub is_word_start : ℕ → Bool
is_word_start b = is_ascii_alphabetic b || b == 95

-- what a word goes on with: a letter, a digit or `_` (C11 6.4.2.1)
abbrev pub is_word_byte : ℕ → Bool
is_word_byte b = is_ascii_alphanumeric b || b == 95

-- what a number goes on with, once a digit began it (C11 6.4.8, without signs)
abbrev pub is_number_byte : ℕ → Bool
is_number_byte b = is_word_byte b || b == 46

-- whether the first byte, if there is one, passes
abbrev pub begins_with : (ℕ → Bool) → List ℕ → Bool
begins_with p [] = false
begins_with p (b ∷ bytes) = p b
