-- The table of keywords has each of them, and no two are spelled alike.
use Rattle.std.proofs.Common.{◌≡◌, ◌≢◌, ℕ, Bool, true, List, Option, Some, None, find, slice_get, refl, sym, ap, ◌∙◌}
use Rattle.std.specs.Str.{bytes_eq}
use Rattle.std.proofs.lemmas.Bool.{false≢true}
use Rattle.c_lexer.specs.declared.keyword.Keyword.{Keyword}
use Rattle.c_lexer.specs.declared.keyword.Keyword.TheVariants as keyword
use Rattle.c_lexer.specs.declared.keyword.TheConstants.{KEYWORDS}
use Rattle.c_lexer.specs.Spellings.{keyword_bytes}
use Rattle.c_lexer.specs.Kinds.{is_word_shape}
use Rattle.c_lexer.proofs.Finds.{In, In-slice_get, found_passes, missed_fails}
use Rattle.c_lexer.proofs.Slices.{bytes_eq-true, true-bytes_eq}

-- where each keyword stands in the table
place_of : (k : Keyword) → (i : ℕ) × (slice_get KEYWORDS i ≡ Some k)
place_of keyword.Int = (0, refl)
place_of keyword.Void = (1, refl)
place_of keyword.If = (2, refl)
place_of keyword.Else = (3, refl)
place_of keyword.While = (4, refl)
place_of keyword.Do = (5, refl)
place_of keyword.For = (6, refl)
place_of keyword.Break = (7, refl)
place_of keyword.Continue = (8, refl)
place_of keyword.Return = (9, refl)
place_of keyword.Extern = (10, refl)
place_of keyword.Auto = (11, refl)
place_of keyword.Case = (12, refl)
place_of keyword.Char = (13, refl)
place_of keyword.Const = (14, refl)
place_of keyword.Default = (15, refl)
place_of keyword.Double = (16, refl)
place_of keyword.Enum = (17, refl)
place_of keyword.Float = (18, refl)
place_of keyword.Goto = (19, refl)
place_of keyword.Inline = (20, refl)
place_of keyword.Long = (21, refl)
place_of keyword.Register = (22, refl)
place_of keyword.Restrict = (23, refl)
place_of keyword.Short = (24, refl)
place_of keyword.Signed = (25, refl)
place_of keyword.Sizeof = (26, refl)
place_of keyword.Static = (27, refl)
place_of keyword.Struct = (28, refl)
place_of keyword.Switch = (29, refl)
place_of keyword.Typedef = (30, refl)
place_of keyword.Union = (31, refl)
place_of keyword.Unsigned = (32, refl)
place_of keyword.Volatile = (33, refl)
place_of keyword.Alignas = (34, refl)
place_of keyword.Alignof = (35, refl)
place_of keyword.Atomic = (36, refl)
place_of keyword.Bool = (37, refl)
place_of keyword.Complex = (38, refl)
place_of keyword.Generic = (39, refl)
place_of keyword.Imaginary = (40, refl)
place_of keyword.Noreturn = (41, refl)
place_of keyword.Static_assert = (42, refl)
place_of keyword.Thread_local = (43, refl)

in_keywords : (k : Keyword) → In k KEYWORDS
in_keywords k = In-slice_get KEYWORDS (place_of k).0 k (place_of k).1

-- whether a keyword is spelled so
abbrev pub is_spelled : List ℕ → Keyword → Bool
is_spelled word k = bytes_eq (keyword_bytes k) word

pub keyword_found : (word : List ℕ) (k : Keyword) → find (is_spelled word) KEYWORDS ≡ Some k → word ≡ keyword_bytes k
keyword_found word k found = sym (bytes_eq-true (keyword_bytes k) word (found_passes (is_spelled word) KEYWORDS k found))

pub keyword_missed : (word : List ℕ) → find (is_spelled word) KEYWORDS ≡ None → (k : Keyword) → keyword_bytes k ≢ word
keyword_missed word missed k same =
    false≢true (sym (missed_fails (is_spelled word) KEYWORDS k missed (in_keywords k)) ∙ true-bytes_eq (keyword_bytes k) word same)

-- the keyword that is spelled so
keyword_spelled : List ℕ → Option Keyword
keyword_spelled w = find (is_spelled w) KEYWORDS

keyword_spelled-keyword_bytes : (k : Keyword) → keyword_spelled (keyword_bytes k) ≡ Some k
unfolding keyword_spelled
keyword_spelled-keyword_bytes keyword.Int = refl
keyword_spelled-keyword_bytes keyword.Void = refl
keyword_spelled-keyword_bytes keyword.If = refl
keyword_spelled-keyword_bytes keyword.Else = refl
keyword_spelled-keyword_bytes keyword.While = refl
keyword_spelled-keyword_bytes keyword.Do = refl
keyword_spelled-keyword_bytes keyword.For = refl
keyword_spelled-keyword_bytes keyword.Break = refl
keyword_spelled-keyword_bytes keyword.Continue = refl
keyword_spelled-keyword_bytes keyword.Return = refl
keyword_spelled-keyword_bytes keyword.Extern = refl
keyword_spelled-keyword_bytes keyword.Auto = refl
keyword_spelled-keyword_bytes keyword.Case = refl
keyword_spelled-keyword_bytes keyword.Char = refl
keyword_spelled-keyword_bytes keyword.Const = refl
keyword_spelled-keyword_bytes keyword.Default = refl
keyword_spelled-keyword_bytes keyword.Double = refl
keyword_spelled-keyword_bytes keyword.Enum = refl
keyword_spelled-keyword_bytes keyword.Float = refl
keyword_spelled-keyword_bytes keyword.Goto = refl
keyword_spelled-keyword_bytes keyword.Inline = refl
keyword_spelled-keyword_bytes keyword.Long = refl
keyword_spelled-keyword_bytes keyword.Register = refl
keyword_spelled-keyword_bytes keyword.Restrict = refl
keyword_spelled-keyword_bytes keyword.Short = refl
keyword_spelled-keyword_bytes keyword.Signed = refl
keyword_spelled-keyword_bytes keyword.Sizeof = refl
keyword_spelled-keyword_bytes keyword.Static = refl
keyword_spelled-keyword_bytes keyword.Struct = refl
keyword_spelled-keyword_bytes keyword.Switch = refl
keyword_spelled-keyword_bytes keyword.Typedef = refl
keyword_spelled-keyword_bytes keyword.Union = refl
keyword_spelled-keyword_bytes keyword.Unsigned = refl
keyword_spelled-keyword_bytes keyword.Volatile = refl
keyword_spelled-keyword_bytes keyword.Alignas = refl
keyword_spelled-keyword_bytes keyword.Alignof = refl
keyword_spelled-keyword_bytes keyword.Atomic = refl
keyword_spelled-keyword_bytes keyword.Bool = refl
keyword_spelled-keyword_bytes keyword.Complex = refl
keyword_spelled-keyword_bytes keyword.Generic = refl
keyword_spelled-keyword_bytes keyword.Imaginary = refl
keyword_spelled-keyword_bytes keyword.Noreturn = refl
keyword_spelled-keyword_bytes keyword.Static_assert = refl
keyword_spelled-keyword_bytes keyword.Thread_local = refl

-- no two keywords are spelled alike
pub keyword_bytes-same : (k l : Keyword) → keyword_bytes k ≡ keyword_bytes l → k ≡ l
keyword_bytes-same k l e = let both : Some k ≡ Some l = sym (keyword_spelled-keyword_bytes k) ∙ ap keyword_spelled e ∙ keyword_spelled-keyword_bytes l in cc

-- each keyword has the shape of a word
pub keyword_shape : (k : Keyword) → is_word_shape (keyword_bytes k) ≡ true
keyword_shape keyword.Int = refl
keyword_shape keyword.Void = refl
keyword_shape keyword.If = refl
keyword_shape keyword.Else = refl
keyword_shape keyword.While = refl
keyword_shape keyword.Do = refl
keyword_shape keyword.For = refl
keyword_shape keyword.Break = refl
keyword_shape keyword.Continue = refl
keyword_shape keyword.Return = refl
keyword_shape keyword.Extern = refl
keyword_shape keyword.Auto = refl
keyword_shape keyword.Case = refl
keyword_shape keyword.Char = refl
keyword_shape keyword.Const = refl
keyword_shape keyword.Default = refl
keyword_shape keyword.Double = refl
keyword_shape keyword.Enum = refl
keyword_shape keyword.Float = refl
keyword_shape keyword.Goto = refl
keyword_shape keyword.Inline = refl
keyword_shape keyword.Long = refl
keyword_shape keyword.Register = refl
keyword_shape keyword.Restrict = refl
keyword_shape keyword.Short = refl
keyword_shape keyword.Signed = refl
keyword_shape keyword.Sizeof = refl
keyword_shape keyword.Static = refl
keyword_shape keyword.Struct = refl
keyword_shape keyword.Switch = refl
keyword_shape keyword.Typedef = refl
keyword_shape keyword.Union = refl
keyword_shape keyword.Unsigned = refl
keyword_shape keyword.Volatile = refl
keyword_shape keyword.Alignas = refl
keyword_shape keyword.Alignof = refl
keyword_shape keyword.Atomic = refl
keyword_shape keyword.Bool = refl
keyword_shape keyword.Complex = refl
keyword_shape keyword.Generic = refl
keyword_shape keyword.Imaginary = refl
keyword_shape keyword.Noreturn = refl
keyword_shape keyword.Static_assert = refl
keyword_shape keyword.Thread_local = refl
