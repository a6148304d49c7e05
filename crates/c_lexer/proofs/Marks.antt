-- Marks begin neither words nor numbers, and have a byte at least.
use Rattle.std.proofs.Common.{◌≡◌, ℕ, ◌<◌, false, List, ◌∷◌, length, get_or, refl, lit<, sym, ap, ◌∙◌, true, Some, Option, find, slice_get}
use Rattle.std.specs.Str.{bytes_eq}
use Rattle.std.specs.Char.{is_ascii_digit}
use Rattle.c_lexer.specs.declared.mark.Mark.{Mark}
use Rattle.c_lexer.specs.declared.mark.Mark.TheVariants.{OpenRound, CloseRound, OpenBrace, CloseBrace, Semi, Comma, Assign, Same, Differ, Less, LessEqual, More, MoreEqual, Plus, Minus, Star, Slash, Percent, AndAnd, OrOr, Bang, PlusPlus, MinusMinus, PlusAssign, MinusAssign, StarAssign, SlashAssign, PercentAssign, OpenSquare, CloseSquare, Dot, Arrow, Amp, Bar, Caret, Tilde, ShiftLeft, ShiftRight, Question, Colon, Dots, ShiftLeftAssign, ShiftRightAssign, AmpAssign, CaretAssign, BarAssign}
use Rattle.std.specs.Prelude.{◌==◌}
use Rattle.c_lexer.specs.Bytes.{is_word_start, is_blank}
use Rattle.c_lexer.specs.declared.mark.TheConstants.{MARKS}
use Rattle.c_lexer.specs.Spellings.{mark_bytes}
use Rattle.c_lexer.proofs.Finds.{In, In-slice_get, descends}

record IsPunctuation (bytes : List ℕ) : Type 0 where
  pub some : 0 < length bytes
  pub no_word : is_word_start (get_or bytes 0 0) ≡ false
  pub no_digit : is_ascii_digit (get_or bytes 0 0) ≡ false
  pub no_blank : is_blank (get_or bytes 0 0) ≡ false
  pub no_hash : (get_or bytes 0 0 == 35) ≡ false

punctuation : (m : Mark) → IsPunctuation (mark_bytes m)
punctuation OpenRound = record { some = lit< tt; no_word = refl; no_digit = refl; no_blank = refl; no_hash = refl }
punctuation CloseRound = record { some = lit< tt; no_word = refl; no_digit = refl; no_blank = refl; no_hash = refl }
punctuation OpenBrace = record { some = lit< tt; no_word = refl; no_digit = refl; no_blank = refl; no_hash = refl }
punctuation CloseBrace = record { some = lit< tt; no_word = refl; no_digit = refl; no_blank = refl; no_hash = refl }
punctuation Semi = record { some = lit< tt; no_word = refl; no_digit = refl; no_blank = refl; no_hash = refl }
punctuation Comma = record { some = lit< tt; no_word = refl; no_digit = refl; no_blank = refl; no_hash = refl }
punctuation Assign = record { some = lit< tt; no_word = refl; no_digit = refl; no_blank = refl; no_hash = refl }
punctuation Same = record { some = lit< tt; no_word = refl; no_digit = refl; no_blank = refl; no_hash = refl }
punctuation Differ = record { some = lit< tt; no_word = refl; no_digit = refl; no_blank = refl; no_hash = refl }
punctuation Less = record { some = lit< tt; no_word = refl; no_digit = refl; no_blank = refl; no_hash = refl }
punctuation LessEqual = record { some = lit< tt; no_word = refl; no_digit = refl; no_blank = refl; no_hash = refl }
punctuation More = record { some = lit< tt; no_word = refl; no_digit = refl; no_blank = refl; no_hash = refl }
punctuation MoreEqual = record { some = lit< tt; no_word = refl; no_digit = refl; no_blank = refl; no_hash = refl }
punctuation Plus = record { some = lit< tt; no_word = refl; no_digit = refl; no_blank = refl; no_hash = refl }
punctuation Minus = record { some = lit< tt; no_word = refl; no_digit = refl; no_blank = refl; no_hash = refl }
punctuation Star = record { some = lit< tt; no_word = refl; no_digit = refl; no_blank = refl; no_hash = refl }
punctuation Slash = record { some = lit< tt; no_word = refl; no_digit = refl; no_blank = refl; no_hash = refl }
punctuation Percent = record { some = lit< tt; no_word = refl; no_digit = refl; no_blank = refl; no_hash = refl }
punctuation AndAnd = record { some = lit< tt; no_word = refl; no_digit = refl; no_blank = refl; no_hash = refl }
punctuation OrOr = record { some = lit< tt; no_word = refl; no_digit = refl; no_blank = refl; no_hash = refl }
punctuation Bang = record { some = lit< tt; no_word = refl; no_digit = refl; no_blank = refl; no_hash = refl }
punctuation PlusPlus = record { some = lit< tt; no_word = refl; no_digit = refl; no_blank = refl; no_hash = refl }
punctuation MinusMinus = record { some = lit< tt; no_word = refl; no_digit = refl; no_blank = refl; no_hash = refl }
punctuation PlusAssign = record { some = lit< tt; no_word = refl; no_digit = refl; no_blank = refl; no_hash = refl }
punctuation MinusAssign = record { some = lit< tt; no_word = refl; no_digit = refl; no_blank = refl; no_hash = refl }
punctuation StarAssign = record { some = lit< tt; no_word = refl; no_digit = refl; no_blank = refl; no_hash = refl }
punctuation SlashAssign = record { some = lit< tt; no_word = refl; no_digit = refl; no_blank = refl; no_hash = refl }
punctuation PercentAssign = record { some = lit< tt; no_word = refl; no_digit = refl; no_blank = refl; no_hash = refl }
punctuation OpenSquare = record { some = lit< tt; no_word = refl; no_digit = refl; no_blank = refl; no_hash = refl }
punctuation CloseSquare = record { some = lit< tt; no_word = refl; no_digit = refl; no_blank = refl; no_hash = refl }
punctuation Dot = record { some = lit< tt; no_word = refl; no_digit = refl; no_blank = refl; no_hash = refl }
punctuation Arrow = record { some = lit< tt; no_word = refl; no_digit = refl; no_blank = refl; no_hash = refl }
punctuation Amp = record { some = lit< tt; no_word = refl; no_digit = refl; no_blank = refl; no_hash = refl }
punctuation Bar = record { some = lit< tt; no_word = refl; no_digit = refl; no_blank = refl; no_hash = refl }
punctuation Caret = record { some = lit< tt; no_word = refl; no_digit = refl; no_blank = refl; no_hash = refl }
punctuation Tilde = record { some = lit< tt; no_word = refl; no_digit = refl; no_blank = refl; no_hash = refl }
punctuation ShiftLeft = record { some = lit< tt; no_word = refl; no_digit = refl; no_blank = refl; no_hash = refl }
punctuation ShiftRight = record { some = lit< tt; no_word = refl; no_digit = refl; no_blank = refl; no_hash = refl }
punctuation Question = record { some = lit< tt; no_word = refl; no_digit = refl; no_blank = refl; no_hash = refl }
punctuation Colon = record { some = lit< tt; no_word = refl; no_digit = refl; no_blank = refl; no_hash = refl }
punctuation Dots = record { some = lit< tt; no_word = refl; no_digit = refl; no_blank = refl; no_hash = refl }
punctuation ShiftLeftAssign = record { some = lit< tt; no_word = refl; no_digit = refl; no_blank = refl; no_hash = refl }
punctuation ShiftRightAssign = record { some = lit< tt; no_word = refl; no_digit = refl; no_blank = refl; no_hash = refl }
punctuation AmpAssign = record { some = lit< tt; no_word = refl; no_digit = refl; no_blank = refl; no_hash = refl }
punctuation CaretAssign = record { some = lit< tt; no_word = refl; no_digit = refl; no_blank = refl; no_hash = refl }
punctuation BarAssign = record { some = lit< tt; no_word = refl; no_digit = refl; no_blank = refl; no_hash = refl }

pub mark_bytes-some : (m : Mark) → 0 < length (mark_bytes m)
mark_bytes-some m = (punctuation m).some

pub mark_bytes-no_word : (m : Mark) (b : ℕ) (more : List ℕ) → b ∷ more ≡ mark_bytes m → is_word_start b ≡ false
mark_bytes-no_word m b more e = ap (λ bytes. is_word_start (get_or bytes 0 0)) e ∙ (punctuation m).no_word

pub mark_bytes-no_digit : (m : Mark) (b : ℕ) (more : List ℕ) → b ∷ more ≡ mark_bytes m → is_ascii_digit b ≡ false
mark_bytes-no_digit m b more e = ap (λ bytes. is_ascii_digit (get_or bytes 0 0)) e ∙ (punctuation m).no_digit

pub mark_bytes-no_blank : (m : Mark) (b : ℕ) (more : List ℕ) → b ∷ more ≡ mark_bytes m → is_blank b ≡ false
mark_bytes-no_blank m b more e = ap (λ bytes. is_blank (get_or bytes 0 0)) e ∙ (punctuation m).no_blank

pub mark_bytes-no_hash : (m : Mark) (b : ℕ) (more : List ℕ) → b ∷ more ≡ mark_bytes m → (b == 35) ≡ false
mark_bytes-no_hash m b more e = ap (λ bytes. get_or bytes 0 0 == 35) e ∙ (punctuation m).no_hash

-- the mark that is spelled so
mark_of : List ℕ → Option Mark
mark_of w = find (λ m. bytes_eq (mark_bytes m) w) MARKS

mark_of-mark_bytes : (m : Mark) → mark_of (mark_bytes m) ≡ Some m
unfolding mark_of
mark_of-mark_bytes OpenRound = refl
mark_of-mark_bytes CloseRound = refl
mark_of-mark_bytes OpenBrace = refl
mark_of-mark_bytes CloseBrace = refl
mark_of-mark_bytes Semi = refl
mark_of-mark_bytes Comma = refl
mark_of-mark_bytes Assign = refl
mark_of-mark_bytes Same = refl
mark_of-mark_bytes Differ = refl
mark_of-mark_bytes Less = refl
mark_of-mark_bytes LessEqual = refl
mark_of-mark_bytes More = refl
mark_of-mark_bytes MoreEqual = refl
mark_of-mark_bytes Plus = refl
mark_of-mark_bytes Minus = refl
mark_of-mark_bytes Star = refl
mark_of-mark_bytes Slash = refl
mark_of-mark_bytes Percent = refl
mark_of-mark_bytes AndAnd = refl
mark_of-mark_bytes OrOr = refl
mark_of-mark_bytes Bang = refl
mark_of-mark_bytes PlusPlus = refl
mark_of-mark_bytes MinusMinus = refl
mark_of-mark_bytes PlusAssign = refl
mark_of-mark_bytes MinusAssign = refl
mark_of-mark_bytes StarAssign = refl
mark_of-mark_bytes SlashAssign = refl
mark_of-mark_bytes PercentAssign = refl
mark_of-mark_bytes OpenSquare = refl
mark_of-mark_bytes CloseSquare = refl
mark_of-mark_bytes Dot = refl
mark_of-mark_bytes Arrow = refl
mark_of-mark_bytes Amp = refl
mark_of-mark_bytes Bar = refl
mark_of-mark_bytes Caret = refl
mark_of-mark_bytes Tilde = refl
mark_of-mark_bytes ShiftLeft = refl
mark_of-mark_bytes ShiftRight = refl
mark_of-mark_bytes Question = refl
mark_of-mark_bytes Colon = refl
mark_of-mark_bytes Dots = refl
mark_of-mark_bytes ShiftLeftAssign = refl
mark_of-mark_bytes ShiftRightAssign = refl
mark_of-mark_bytes AmpAssign = refl
mark_of-mark_bytes CaretAssign = refl
mark_of-mark_bytes BarAssign = refl

-- no two marks are spelled alike
pub mark_bytes-same : (m n : Mark) → mark_bytes m ≡ mark_bytes n → m ≡ n
mark_bytes-same m n e = let both : Some m ≡ Some n = sym (mark_of-mark_bytes m) ∙ ap mark_of e ∙ mark_of-mark_bytes n in cc

-- ---- the table of marks

-- where each mark stands in the table
place_of : (m : Mark) → (i : ℕ) × (slice_get MARKS i ≡ Some m)
place_of OpenRound = (22, refl)
place_of CloseRound = (23, refl)
place_of OpenBrace = (24, refl)
place_of CloseBrace = (25, refl)
place_of Semi = (26, refl)
place_of Comma = (27, refl)
place_of Assign = (28, refl)
place_of Same = (3, refl)
place_of Differ = (4, refl)
place_of Less = (29, refl)
place_of LessEqual = (5, refl)
place_of More = (30, refl)
place_of MoreEqual = (6, refl)
place_of Plus = (31, refl)
place_of Minus = (32, refl)
place_of Star = (33, refl)
place_of Slash = (34, refl)
place_of Percent = (35, refl)
place_of AndAnd = (7, refl)
place_of OrOr = (8, refl)
place_of Bang = (36, refl)
place_of PlusPlus = (9, refl)
place_of MinusMinus = (10, refl)
place_of PlusAssign = (11, refl)
place_of MinusAssign = (12, refl)
place_of StarAssign = (13, refl)
place_of SlashAssign = (14, refl)
place_of PercentAssign = (15, refl)
place_of OpenSquare = (37, refl)
place_of CloseSquare = (38, refl)
place_of Dot = (39, refl)
place_of Arrow = (16, refl)
place_of Amp = (40, refl)
place_of Bar = (41, refl)
place_of Caret = (42, refl)
place_of Tilde = (43, refl)
place_of ShiftLeft = (17, refl)
place_of ShiftRight = (18, refl)
place_of Question = (44, refl)
place_of Colon = (45, refl)
place_of Dots = (0, refl)
place_of ShiftLeftAssign = (1, refl)
place_of ShiftRightAssign = (2, refl)
place_of AmpAssign = (19, refl)
place_of CaretAssign = (20, refl)
place_of BarAssign = (21, refl)

-- each mark stands in the table
pub in_marks : (m : Mark) → In m MARKS
in_marks m = In-slice_get MARKS (place_of m).0 m (place_of m).1

-- the longer ones first
pub marks_descend : descends (λ m. length (mark_bytes m)) MARKS ≡ true
marks_descend = refl
