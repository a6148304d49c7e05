-- A text has one outcome.
use Rattle.std.proofs.Common.{◌≡◌, ◌≢◌, ℕ, ◌<◌, ◌≤◌, Bool, true, false, nat_lt, List, length, Result, Ok, Err, refl, sym, ap, subst, ◌∙◌, inl, inr, ⊎_elim, arith}
use Rattle.std.specs.Prelude.{IfOk, IfErr}
use Rattle.std.specs.Str.{IsUtf8, IsValidUpTo}
use Rattle.std.proofs.lemmas.List.{take_all}
use Rattle.std.proofs.lemmas.Bool.Decides.{nat_tests}
use Rattle.c_lexer.specs.declared.token.Token.{Token}
use Rattle.c_lexer.specs.declared.error.LexError.{LexError}
use Rattle.c_lexer.specs.declared.error.LexError.TheVariants as error
use Rattle.c_lexer.specs.Tokens.{Tokenizes, IsCut}
use Rattle.c_lexer.specs.Refusals.{IsRefused, Stops, place_of}
use Rattle.c_lexer.specs.Laws.{TokensAreOne, TokensAreNotRefused, RefusalIsOne}
use Rattle.c_lexer.proofs.Outcomes.{cut_is_one, cut_never_stops, stop_is_one}

-- a text that is UTF-8 does not stop being it
utf8_goes_on : (text : List ℕ) (at : ℕ) → IsUtf8 text → IsValidUpTo text at → ⊥
utf8_goes_on text at h valid = valid.longest (length text) valid.short (subst IsUtf8 (sym (take_all (length text) text (omega arith))) h)

-- a text stops being UTF-8 at one place
one_place : (text : List ℕ) (m n : ℕ) → IsValidUpTo text m → IsValidUpTo text n → m ≡ n
one_place text m n a b = at (nat_lt m n) refl (nat_lt n m) refl
  where
    less : (m n : ℕ) → nat_lt m n ≡ true → m < n
    less m n h = grind (arith, nat_tests)

    at : (p : Bool) → nat_lt m n ≡ p → (q : Bool) → nat_lt n m ≡ q → m ≡ n
    at true h q k = absurd (a.longest n (less m n h) b.front)
    at false h true k = absurd (b.longest m (less n m k) a.front)
    at false h false k = grind (arith, nat_tests)

pub tokens_are_one : TokensAreOne
tokens_are_one text one other a b = cut_is_one text one other a.cut b.cut

pub tokens_are_not_refused : TokensAreNotRefused
tokens_are_not_refused text tokens e tokenizes refused =
    ⊎_elim (λ stop. cut_never_stops text tokens e tokenizes.cut stop.0) (λ fault. utf8_goes_on text fault.0 tokenizes.utf8 fault.1) refused

pub refusal_is_one : RefusalIsOne
refusal_is_one text one other a b =
    ⊎_elim
    (λ stop. ⊎_elim (λ halt. stop_is_one text one other stop.0 halt.0)
    (λ fault. absurd (let h = stop.1 fault.0 fault.1 in let k = fault.3 one stop.0 in omega (arith, h, k))) b)
    (λ fault. ⊎_elim (λ halt. absurd (let h = halt.1 fault.0 fault.1 in let k = fault.3 other halt.0 in omega (arith, h, k)))
    (λ flaw. fault.2 ∙ ap error.Byte (one_place text fault.0 flaw.0 fault.1 flaw.1) ∙ sym flaw.2) b) a

-- ---- what is refused

-- the cut of a text that is UTF-8 stops
pub stop_in_utf8 : (text : List ℕ) (e : LexError) → IsUtf8 text → Stops text e → IsRefused text e
stop_in_utf8 text e h stops = inl (stops, λ at valid. absurd (utf8_goes_on text at h valid))

-- the cut stops before the text stops being UTF-8
pub stop_before : (text : List ℕ) (e : LexError) (at : ℕ) → Stops text e → IsValidUpTo text at → place_of e < at → IsRefused text e
stop_before text e at stops valid h = inl (stops, λ place other. subst (λ n. place_of e < n) (one_place text at place valid other) h)

-- the text stops being UTF-8, and its cut goes on
pub byte_in_cut : (text : List ℕ) (tokens : List Token) (at : ℕ) → IsCut text tokens → IsValidUpTo text at → IsRefused text (error.Byte at)
byte_in_cut text tokens at cut valid = inr (at, valid, refl, λ f stops. absurd (cut_never_stops text tokens f cut stops))

-- the text stops being UTF-8 where its cut stops, or before that
pub byte_before : (text : List ℕ) (e : LexError) (at : ℕ) → Stops text e → IsValidUpTo text at → at ≤ place_of e → IsRefused text (error.Byte at)
byte_before text e at stops valid h = inr (at, valid, refl, λ f other. subst (λ g. at ≤ place_of g) (stop_is_one text e f stops other) h)

-- ---- what is answered

-- what may be answered: the tokens of the text, or why it is refused
abbrev pub IsAnswer : List ℕ → Result (List Token) LexError → Type 0
IsAnswer text result = IfOk result (Tokenizes text) × IfErr result (λ e. e ≢ error.Memory → IsRefused text e)

pub tokens_answered : (text : List ℕ) (result : Result (List Token) LexError) → IsAnswer text result → (tokens : List Token) → Tokenizes text tokens
    → IfErr result (λ e. e ≡ error.Memory) × IfOk result (λ found. found ≡ tokens)
tokens_answered text (Ok found) answer tokens h = (tt, tokens_are_one text found tokens answer.0 h)
tokens_answered text (Err error.Memory) answer tokens h = (refl, tt)
tokens_answered text (Err (error.Byte at)) answer tokens h = absurd (tokens_are_not_refused text tokens (error.Byte at) h (answer.1 (λ e. cc)))
tokens_answered text (Err (error.Comment at)) answer tokens h = absurd (tokens_are_not_refused text tokens (error.Comment at) h (answer.1 (λ e. cc)))
tokens_answered text (Err (error.Literal at)) answer tokens h = absurd (tokens_are_not_refused text tokens (error.Literal at) h (answer.1 (λ e. cc)))
tokens_answered text (Err (error.TooManyTokens at)) answer tokens h = absurd (tokens_are_not_refused text tokens (error.TooManyTokens at) h (answer.1 (λ e. cc)))

pub refusal_answered : (text : List ℕ) (result : Result (List Token) LexError) → IsAnswer text result → (e : LexError) → IsRefused text e
    → IfErr result (λ told. told ≢ error.Memory → told ≡ e) × IfOk result (λ found. ⊥)
refusal_answered text (Ok found) answer e h = absurd (tokens_are_not_refused text found e answer.0 h)
refusal_answered text (Err told) answer e h = (λ some. refusal_is_one text told e (answer.1 some) h, tt)

-- ---- of two faults the first

-- what a cut may answer
abbrev pub IsScan : List ℕ → Result (List Token) LexError → Type 0
IsScan text scanned = IfOk scanned (IsCut text) × IfErr scanned (λ e. e ≢ error.Memory → Stops text e)

less : (m n : ℕ) → nat_lt m n ≡ true → m < n
less m n h = grind (arith, nat_tests)

not_less : (m n : ℕ) → nat_lt m n ≡ false → n ≤ m
not_less m n h = grind (arith, nat_tests)

pub scan_in_utf8 : (text : List ℕ) (scanned : Result (List Token) LexError) → IsUtf8 text → IsScan text scanned → IfErr scanned (λ e. e ≢ error.Memory → IsRefused text e)
scan_in_utf8 text (Ok tokens) h scan = tt
scan_in_utf8 text (Err e) h scan = λ some. stop_in_utf8 text e h (scan.1 some)

pub fault_before : (text : List ℕ) (scanned : Result (List Token) LexError) (e : LexError) (at : ℕ) → scanned ≡ Err e → IsScan text scanned → IsValidUpTo text at
    → e ≢ error.Memory → nat_lt (place_of e) at ≡ true → IsRefused text e
fault_before text scanned e at is scan valid some h =
    let told : e ≢ error.Memory → Stops text e = (subst (IsScan text) is scan).1 in
    stop_before text e at (told some) valid (less (place_of e) at h)

pub fault_after : (text : List ℕ) (scanned : Result (List Token) LexError) (e : LexError) (at : ℕ) → scanned ≡ Err e → IsScan text scanned → IsValidUpTo text at
    → e ≢ error.Memory → nat_lt (place_of e) at ≡ false → IsRefused text (error.Byte at)
fault_after text scanned e at is scan valid some h =
    let told : e ≢ error.Memory → Stops text e = (subst (IsScan text) is scan).1 in
    byte_before text e at (told some) valid (not_less (place_of e) at h)

pub fault_in_cut : (text : List ℕ) (scanned : Result (List Token) LexError) (tokens : List Token) (at : ℕ) → scanned ≡ Ok tokens → IsScan text scanned → IsValidUpTo text at
    → IsRefused text (error.Byte at)
fault_in_cut text scanned tokens at is scan valid =
    let cut : IsCut text tokens = (subst (IsScan text) is scan).0 in
    byte_in_cut text tokens at cut valid
