-- A newline behind a JSON text is read over: the lexer makes the same of it.
use Rattle.std.proofs.Common.{◌≡◌, ℕ, zero, suc, ◌+◌, ◌-◌, ◌*◌, ◌&&◌, ◌||◌, ◌==◌, Bool, true, false, List, [], ◌∷◌, ◌++◌, length, take, drop, Option, Some, refl, sym, ap, ◌∙◌, arith, cond, length-append}
use Rattle.std.specs.Prelude.{None, Ok, Err, if◌then◌else◌, nat_eq, nat_lt, option_map, option_and_then}
use Rattle.std.specs.List.{prefix_len, starts_with}
use Rattle.std.specs.Str.{IsAscii, is_utf8}
use Rattle.std.specs.Char.{digit_value, is_ascii_digit, is_digit, encode_utf8}
use Rattle.std.proofs.lemmas.List.{drop-append-le, take-append-le}
use Rattle.std.proofs.lemmas.Str.{IsUtf8-append, IsUtf8-from_ascii, IsUtf8-from_is_utf8, is_utf8-from_IsUtf8}
use Rattle.std.proofs.lemmas.List.Sums.{prefix_len-le-length}
use Rattle.json.specs.Ascii as ascii
use Rattle.json.specs.Json as json
use Rattle.json.specs.Lex.{Class, quote, backslash, operator, space, other, Mode, between, in_word, in_string, in_escape, class, lex, lex_byte, operator_lexeme, punctuate, fresh, string_token, token}
use Rattle.json.specs.Text.{Within, plain, after_backslash, after_u, after_high, code_unit, content, is_high_surrogate, is_low_surrogate, prepend, short_escape, surrogate_pair}
use Rattle.json.specs.Token.{Token, bad, boolean, null}
use Rattle.json.specs.Word.{after_digits, after_exponent, after_fraction, after_minus, after_number, after_sign, after_whole, ends_word, literal, number_before, word}
use Rattle.serde_json.specs.Data.{Data}
use Rattle.serde_json.specs.Read.{max_depth, of_json, read}
use Rattle.items.specs.Gives.{◌>>=◌}
use Rattle.wire.specs.declared.certificate.Certificate.{Certificate}
use Rattle.wire.specs.declared.error.WireError.TheVariants.{Json}
use Rattle.wire.specs.Files.{certificate_in, certificate_of, if_json, json_of}
use Rattle.wire.specs.Newlines.{NewlineIsReadOver}

abbrev with_newline : List ℕ → List ℕ
with_newline text = text ++ 10 ∷ []

abbrev all_with : Option (List ℕ) → Option (List ℕ)
all_with rest = option_map with_newline rest

cond-same : {A : Type 0} (b : Bool) (x : A) → cond b x x ≡ x
cond-same true x = refl
cond-same false x = refl

or-right : (a b : Bool) → (a || b) ≡ false → b ≡ false
or-right true b e = cc
or-right false b e = e

or-left : (a b : Bool) → (a || b) ≡ false → a ≡ false
or-left true b e = cc
or-left false b e = refl

and-left : (a b c d f : Bool) → (b && c) ≡ (d && f) → ((a && b) && c) ≡ ((a && d) && f)
and-left true b c d f e = e
and-left false b c d f e = refl

and-false : (a b c : Bool) → a ≡ false → ((a && b) && c) ≡ false
and-false true b c e = cc
and-false false b c e = refl

-- ---- strings

and-last : (a b c : Bool) → (a && b && c && false) ≡ false
and-last true true true = refl
and-last true true false = refl
and-last true false c = refl
and-last false b c = refl

-- a newline is no digit
no-unit : (a b c : ℕ) → code_unit a b c 10 ≡ None
unfolding code_unit
no-unit a b c = ap (λ ok. cond ok (Some (digit_value a * 4096 + digit_value b * 256 + digit_value c * 16 + digit_value 10)) None) (and-last (is_digit a 16) (is_digit b 16) (is_digit c 16))

content-newline : (w : Within) (text : List ℕ) → content w (with_newline text) ≡ content w text
unfolding content short_escape
content-newline plain [] = refl
content-newline plain (x ∷ xs) =
    ap (λ r. cond (x == ascii.quote) (Some []) (cond (x == ascii.backslash) r (cond (nat_lt x ascii.space) None (prepend (x ∷ []) (content plain (with_newline xs)))))) (content-newline after_backslash xs)
    ∙ ap (λ r. cond (x == ascii.quote) (Some []) (cond (x == ascii.backslash) (content after_backslash xs) (cond (nat_lt x ascii.space) None (prepend (x ∷ []) r)))) (content-newline plain xs)
content-newline after_backslash [] = refl
content-newline after_backslash (x ∷ xs) =
    ap (λ r. cond (x == ascii.lower_u) r (option_and_then (λ c. prepend (c ∷ []) (content plain (with_newline xs))) (short_escape x))) (content-newline after_u xs)
    ∙ ap (λ r. cond (x == ascii.lower_u) (content after_u xs) (option_and_then (λ c. prepend (c ∷ []) r) (short_escape x))) (content-newline plain xs)
content-newline after_u [] = refl
content-newline after_u (a ∷ []) = refl
content-newline after_u (a ∷ b ∷ []) = refl
content-newline after_u (a ∷ b ∷ c ∷ []) =
    ap (λ unit. option_and_then (λ u. cond (is_high_surrogate u) (content (after_high u) []) (cond (is_low_surrogate u) None (prepend (encode_utf8 u) (content plain [])))) unit) (no-unit a b c)
content-newline after_u (a ∷ b ∷ c ∷ d ∷ xs) =
    ap (λ (f : ℕ → Option (List ℕ)). option_and_then (λ u. cond (is_high_surrogate u) (f u) (cond (is_low_surrogate u) None (prepend (encode_utf8 u) (content plain (with_newline xs))))) (code_unit a b c d))
    (λ i u. content-newline (after_high u) xs i)
    ∙ ap (λ r. option_and_then (λ u. cond (is_high_surrogate u) (content (after_high u) xs) (cond (is_low_surrogate u) None (prepend (encode_utf8 u) r))) (code_unit a b c d)) (content-newline plain xs)
content-newline (after_high h) [] = refl
content-newline (after_high h) (s ∷ []) = refl
content-newline (after_high h) (s ∷ u ∷ []) = refl
content-newline (after_high h) (s ∷ u ∷ a ∷ []) = refl
content-newline (after_high h) (s ∷ u ∷ a ∷ b ∷ []) = refl
content-newline (after_high h) (s ∷ u ∷ a ∷ b ∷ c ∷ []) =
    ap (λ r. cond ((s == ascii.backslash) && (u == ascii.lower_u)) (option_and_then (λ l. cond (is_low_surrogate l) (prepend (encode_utf8 (surrogate_pair h l)) (content plain [])) None) r) None) (no-unit a b c)
    ∙ cond-same ((s == ascii.backslash) && (u == ascii.lower_u)) None
content-newline (after_high h) (s ∷ u ∷ a ∷ b ∷ c ∷ d ∷ xs) =
    ap (λ r. cond ((s == ascii.backslash) && (u == ascii.lower_u)) (option_and_then (λ l. cond (is_low_surrogate l) (prepend (encode_utf8 (surrogate_pair h l)) r) None) (code_unit a b c d)) None) (content-newline plain xs)

-- ---- words

cond-into : {A B : Type 0} (f : A → B) (b : Bool) (x y : A) → f (cond b x y) ≡ cond b (f x) (f y)
cond-into f true x y = refl
cond-into f false x y = refl

ends-newline : (t : List ℕ) → ends_word (with_newline t) ≡ ends_word t
ends-newline [] = refl
ends-newline (x ∷ xs) = refl

digits-newline : (t : List ℕ) → prefix_len is_ascii_digit (with_newline t) ≡ prefix_len is_ascii_digit t
digits-newline [] = refl
digits-newline (x ∷ xs) = ap (λ n. cond (is_ascii_digit x) (1 + n) 0) (digits-newline xs)

after_digits-newline : (t : List ℕ) → after_digits (with_newline t) ≡ all_with (after_digits t)
after_digits-newline t =
    ap (λ n. cond (n == 0) None (Some (drop n (with_newline t)))) (digits-newline t)
    ∙ ap (λ rest. cond (prefix_len is_ascii_digit t == 0) None (Some rest)) (drop-append-le (prefix_len is_ascii_digit t) t (10 ∷ []) (prefix_len-le-length is_ascii_digit t))
    ∙ sym (cond-into all_with (prefix_len is_ascii_digit t == 0) None (Some (drop (prefix_len is_ascii_digit t) t)))

after_minus-newline : (t : List ℕ) → after_minus (with_newline t) ≡ with_newline (after_minus t)
after_minus-newline [] = refl
after_minus-newline (x ∷ xs) = sym (cond-into with_newline _ xs (x ∷ xs))

after_sign-newline : (t : List ℕ) → after_sign (with_newline t) ≡ with_newline (after_sign t)
after_sign-newline [] = refl
after_sign-newline (x ∷ xs) = sym (cond-into with_newline _ xs (x ∷ xs))

after_whole-newline : (t : List ℕ) → after_whole (with_newline t) ≡ all_with (after_whole t)
after_whole-newline [] = refl
after_whole-newline (x ∷ xs) =
    ap (λ rest. cond (x == ascii.zero) (Some (with_newline xs)) rest) (after_digits-newline (x ∷ xs)) ∙ sym (cond-into all_with (x == ascii.zero) (Some xs) (after_digits (x ∷ xs)))

after_fraction-newline : (t : List ℕ) → after_fraction (with_newline t) ≡ all_with (after_fraction t)
after_fraction-newline [] = refl
after_fraction-newline (x ∷ xs) =
    ap (λ rest. cond (x == ascii.dot) rest (Some (with_newline (x ∷ xs)))) (after_digits-newline xs) ∙ sym (cond-into all_with (x == ascii.dot) (after_digits xs) (Some (x ∷ xs)))

after_exponent-newline : (t : List ℕ) → after_exponent (with_newline t) ≡ all_with (after_exponent t)
after_exponent-newline [] = refl
after_exponent-newline (x ∷ xs) =
    ap (λ rest. cond ((x == ascii.lower_e) || (x == ascii.upper_e)) (after_digits rest) (Some (with_newline (x ∷ xs)))) (after_sign-newline xs)
    ∙ ap (λ rest. cond ((x == ascii.lower_e) || (x == ascii.upper_e)) rest (Some (with_newline (x ∷ xs)))) (after_digits-newline (after_sign xs))
    ∙ sym (cond-into all_with ((x == ascii.lower_e) || (x == ascii.upper_e)) (after_digits (after_sign xs)) (Some (x ∷ xs)))

then-newline : (f : List ℕ → Option (List ℕ)) (rest : Option (List ℕ)) → ((t : List ℕ) → f (with_newline t) ≡ all_with (f t))
    → option_and_then f (all_with rest) ≡ all_with (option_and_then f rest)
then-newline f None h = refl
then-newline f (Some t) h = h t

after_number-newline : (t : List ℕ) → after_number (with_newline t) ≡ all_with (after_number t)
unfolding after_number
after_number-newline t =
    ap (λ t. option_and_then after_exponent (option_and_then after_fraction (after_whole t))) (after_minus-newline t)
    ∙ ap (λ r. option_and_then after_exponent (option_and_then after_fraction r)) (after_whole-newline (after_minus t))
    ∙ ap (λ r. option_and_then after_exponent r) (then-newline after_fraction (after_whole (after_minus t)) after_fraction-newline)
    ∙ then-newline after_exponent (option_and_then after_fraction (after_whole (after_minus t))) after_exponent-newline

front-newline : (t rest : List ℕ) → take (length (with_newline t) - length (with_newline rest)) (with_newline t) ≡ take (length t - length rest) t
front-newline t rest =
    let one = length-append t (10 ∷ []) in
    let other = length-append rest (10 ∷ []) in
    let same : length (with_newline t) - length (with_newline rest) ≡ length t - length rest = omega (arith, one, other) in
    ap (λ n. take n (with_newline t)) same ∙ take-append-le (length t - length rest) t (10 ∷ []) (omega arith)

number-newline : (t : List ℕ) (rest : Option (List ℕ)) → number_before (with_newline t) (all_with rest) ≡ number_before t rest
number-newline t None = refl
number-newline t (Some rest) =
    ap (λ b. cond b (Token.number (take (length (with_newline t) - length (with_newline rest)) (with_newline t))) bad) (ends-newline rest)
    ∙ ap (λ s. cond (ends_word rest) (Token.number s) bad) (front-newline t rest)

-- no byte of a name is a newline
abbrev has_newline : List ℕ → Bool
has_newline [] = false
has_newline (c ∷ name) = nat_eq c 10 || has_newline name

named-newline : (name t : List ℕ) → has_newline name ≡ false
    → (starts_with nat_eq (with_newline t) name && ends_word (drop (length name) (with_newline t))) ≡ (starts_with nat_eq t name && ends_word (drop (length name) t))
named-newline [] t none = ends-newline t
named-newline (c ∷ name) [] none = and-false (nat_eq c 10) _ _ (or-left (nat_eq c 10) (has_newline name) none)
named-newline (c ∷ name) (x ∷ t) none =
    and-left (nat_eq c x) _ _ _ _ (named-newline name t (or-right (nat_eq c 10) (has_newline name) none))

literal-newline : (name : List ℕ) (k : Token) (t : List ℕ) → has_newline name ≡ false → literal name k (with_newline t) ≡ literal name k t
literal-newline name k t none = ap (λ b. cond b k bad) (named-newline name t none)

word-newline : (x : ℕ) (xs : List ℕ) → word (with_newline (x ∷ xs)) ≡ word (x ∷ xs)
unfolding word
word-newline x xs =
    let t = x ∷ xs in
    ap (λ k. cond (x == ascii.lower_t) k (cond (x == ascii.lower_f) (literal ascii.false_text (boolean false) (with_newline t)) (cond (x == ascii.lower_n) (literal ascii.null_text null (with_newline t)) (number_before (with_newline t) (after_number (with_newline t)))))) (literal-newline ascii.true_text (boolean true) t refl)
    ∙ ap (λ k. cond (x == ascii.lower_t) (literal ascii.true_text (boolean true) t) (cond (x == ascii.lower_f) k (cond (x == ascii.lower_n) (literal ascii.null_text null (with_newline t)) (number_before (with_newline t) (after_number (with_newline t)))))) (literal-newline ascii.false_text (boolean false) t refl)
    ∙ ap (λ k. cond (x == ascii.lower_t) (literal ascii.true_text (boolean true) t) (cond (x == ascii.lower_f) (literal ascii.false_text (boolean false) t) (cond (x == ascii.lower_n) k (number_before (with_newline t) (after_number (with_newline t)))))) (literal-newline ascii.null_text null t refl)
    ∙ ap (λ k. cond (x == ascii.lower_t) (literal ascii.true_text (boolean true) t) (cond (x == ascii.lower_f) (literal ascii.false_text (boolean false) t) (cond (x == ascii.lower_n) (literal ascii.null_text null t) k))) (ap (number_before (with_newline t)) (after_number-newline t) ∙ number-newline t (after_number t))

-- ---- lexemes

byte-newline : (m : Mode) (c : Class) (x : ℕ) (xs : List ℕ) → ((n : Mode) → lex n (with_newline xs) ≡ lex n xs)
    → lex_byte m c x (with_newline xs) (λ n. lex n (with_newline xs)) ≡ lex_byte m c x xs (λ n. lex n xs)
byte-newline between quote x xs same = ap (λ s. token (string_token s) ∷ lex in_string (with_newline xs)) (content-newline plain xs) ∙ ap (λ ls. token (string_token (content plain xs)) ∷ ls) (same in_string)
byte-newline between backslash x xs same = ap (λ ls. token bad ∷ ls) (same in_word)
byte-newline between operator x xs same = ap (λ ls. operator_lexeme x ∷ ls) (same between)
byte-newline between space x xs same = same between
byte-newline between other x xs same = ap (λ k. token k ∷ lex in_word (with_newline xs)) (word-newline x xs) ∙ ap (λ ls. token (word (x ∷ xs)) ∷ ls) (same in_word)
byte-newline in_word quote x xs same = same in_word
byte-newline in_word backslash x xs same = same in_word
byte-newline in_word operator x xs same = ap (λ ls. operator_lexeme x ∷ ls) (same between)
byte-newline in_word space x xs same = same between
byte-newline in_word other x xs same = same in_word
byte-newline in_string quote x xs same = same between
byte-newline in_string backslash x xs same = same in_escape
byte-newline in_string operator x xs same = same in_string
byte-newline in_string space x xs same = same in_string
byte-newline in_string other x xs same = same in_string
byte-newline in_escape c x xs same = same in_string

lex-newline : (text : List ℕ) (m : Mode) → lex m (with_newline text) ≡ lex m text
unfolding lex
lex-newline [] between = refl
lex-newline [] in_word = refl
lex-newline [] in_string = refl
lex-newline [] in_escape = refl
lex-newline (x ∷ xs) m = byte-newline m (class x) x xs (lex-newline xs)

read-newline : (text : List ℕ) → read (with_newline text) ≡ read text
read-newline text = ap (λ lexemes. option_and_then of_json (option_and_then (λ p. json.if_last p.0 p.1) (json.value max_depth (punctuate fresh lexemes)))) (lex-newline text between)

-- ---- files

newline-ascii : IsAscii (10 ∷ [])
newline-ascii zero = omega arith
newline-ascii (suc i) = omega arith

utf8-newline : (text : List ℕ) → is_utf8 text ≡ true → is_utf8 (with_newline text) ≡ true
utf8-newline text is = is_utf8-from_IsUtf8 (with_newline text) (IsUtf8-append text (10 ∷ []) (IsUtf8-from_is_utf8 text is) (IsUtf8-from_ascii (10 ∷ []) newline-ascii))

alike : (one more : Bool) (d e : Option Data) → (one ≡ true → more ≡ true) → e ≡ d → one ≡ true
    → (if more then if_json e else Err Json) ≡ (if one then if_json d else Err Json)
alike true true d e valid same is = ap if_json same
alike true false d e valid same is = let no = valid refl in cc
alike false more d e valid same is = cc

-- what is read of a text that is UTF-8
json-newline : (text : List ℕ) → is_utf8 text ≡ true → json_of (with_newline text) ≡ json_of text
unfolding json_of
json-newline text is = alike (is_utf8 text) (is_utf8 (with_newline text)) (read text) (read (with_newline text)) (utf8-newline text) (read-newline text) is

not-utf8 : (valid : Bool) (d : Option Data) (file : Certificate) → ((if valid then if_json d else Err Json) >>= certificate_in) ≡ Ok file → valid ≡ true
not-utf8 true d file e = refl
not-utf8 false d file e = cc

valid-file : (text : List ℕ) (file : Certificate) → certificate_of text ≡ Ok file → is_utf8 text ≡ true
unfolding json_of
valid-file text file e = not-utf8 (is_utf8 text) (read text) file e

pub newline_is_read_over : NewlineIsReadOver
newline_is_read_over text file e = ap (λ d. d >>= certificate_in) (json-newline text (valid-file text file e)) ∙ e
