-- What the parser comes to, and which tree tokens read as.
use Rattle.std.proofs.Common.{◌≡◌, ℕ, ◌≤◌, Bool, true, false, List, [], ◌∷◌, ◌++◌, refl, sym, ap, ◌∙◌, arith}
use Rattle.std.specs.Prelude.{Result, Ok, not, max}
use Rattle.items.specs.Gives.{FailsBy}
use Rattle.c_lexer.specs.declared.kind.TokenKind.{TokenKind}
use Rattle.c_lexer.specs.declared.kind.TokenKind.TheVariants as kind
use Rattle.c_lexer.specs.declared.token.Token.{Token}
use Rattle.c_parser.specs.declared.error.ParseError.{ParseError}
use Rattle.c_parser.specs.declared.error.ParseError.TheVariants as error
use Rattle.c_parser.specs.Limits.{most_levels, most_binary_operators}
use Rattle.c_parser.specs.Declarations.{Declaration, text_spots, text_levels, text_operators}
use Rattle.c_parser.specs.Descent.{exact_error}
use Rattle.c_parser.specs.Reads.{IsReading, ReadsWithinLimits}
use Rattle.c_parser.specs.Laws.{ReadingIsOne}
use Rattle.c_parser.specs.SourceItem.{SourceItem}
use Rattle.c_parser.specs.Spots.{Spot, end, ends_once, is_end, spots_of}
use Rattle.c_parser.specs.Texts.{at_end, goes_on, items_left, one_declaration, text}
use Rattle.c_parser.proofs.CompleteTexts.{text_reads}
use Rattle.c_parser.proofs.FirstTokens.{both}
use Rattle.c_parser.proofs.Derivations.{ok_one}
use Rattle.c_parser.proofs.Repeats.{repeat-ends}
use Rattle.c_parser.proofs.SoundTexts.{text_found}

-- nothing stands behind the end
end-last : (front rest : List Spot) (at : ℕ) → ends_once (front ++ end at ∷ rest) ≡ true → rest ≡ []
end-last [] [] at e = refl
end-last [] (next ∷ rest) at e = cc
end-last (spot ∷ []) rest at e = end-last [] rest at (both (not (is_end spot.kind)) (ends_once (end at ∷ rest)) e).1
end-last (spot ∷ next ∷ front) rest at e = end-last (next ∷ front) rest at (both (not (is_end spot.kind)) (ends_once (next ∷ (front ++ end at ∷ rest))) e).1

is_end-kind : (k : TokenKind) → is_end k ≡ true → k ≡ kind.End
is_end-kind kind.End e = refl
is_end-kind (kind.Word name) e = cc
is_end-kind (kind.Keyword k) e = cc
is_end-kind (kind.Number value) e = cc
is_end-kind (kind.Mark m) e = cc

not_false : (b : Bool) → not b ≡ false → b ≡ true
not_false true e = refl
not_false false e = cc

-- what is left where the text ends
ended : (spots : List Spot) → at_end spots ≡ true → (at : ℕ) × (rest : List Spot) × (spots ≡ end at ∷ rest)
ended [] e = absurd (cc)
ended (spot ∷ rest) e = (spot.at, rest, (let same = is_end-kind spot.kind e in λ i. record { at = spot.at; kind = same i } ∷ rest))

pub read_is_reading : (tokens : List Token) (items : List SourceItem) (after : List Spot) → ends_once (spots_of tokens) ≡ true
    → text most_binary_operators most_levels ([], spots_of tokens) ≡ Ok (items, after) → ReadsWithinLimits tokens items
read_is_reading tokens items after once e =
    let has = text_found most_binary_operators most_levels (spots_of tokens) (items, after) e in
    let stops = repeat-ends items_left goes_on (one_declaration most_binary_operators most_levels) ([], spots_of tokens) (items, after) e in
    let last = ended after (not_false (at_end after) stops) in
    let whole : spots_of tokens ≡ text_spots has.text ++ end last.0 ∷ last.1 = has.spells ∙ ap (λ s. text_spots has.text ++ s) last.2 in
    let alone = end-last (text_spots has.text) last.1 last.0 (ap ends_once (sym whole) ∙ once) in (
      has.text,
      record { at = last.0; spells = whole ∙ ap (λ s. text_spots has.text ++ end last.0 ∷ s) alone; made = has.made; stands_for = has.stands_for },
      record { shallow = has.deep; short = has.few },
    )

reading_is_read : (tokens : List Token) (items : List SourceItem) (ds : List Declaration) (most lv : ℕ) → IsReading tokens items ds → text_levels ds ≤ lv → text_operators ds ≤ most
    → (after : List Spot) × (text most lv ([], spots_of tokens) ≡ Ok (items, after))
reading_is_read tokens items ds most lv reading deep few = (
  end reading.at ∷ [],
  ap (λ s. text most lv ([], s)) reading.spells ∙ text_reads ds most lv reading.at [] reading.made deep few ∙ ap (λ list. Ok (list, end reading.at ∷ [])) (sym reading.stands_for),
)

pub within_is_read : (tokens : List Token) (items : List SourceItem) → ReadsWithinLimits tokens items
    → (after : List Spot) × (text most_binary_operators most_levels ([], spots_of tokens) ≡ Ok (items, after))
within_is_read tokens items reads = reading_is_read tokens items reads.0 most_binary_operators most_levels reads.1 reads.2.shallow reads.2.short

-- where a tree is stated, no error is told but want of memory
pub no_other_error : {A : Type 0} (e : ParseError) (stated : Result A ParseError) (x : A) → stated ≡ Ok x → FailsBy (exact_error e) stated → e ≡ error.Memory
no_other_error (error.Syntax at) stated x is fails = cc
no_other_error (error.Unsupported at) stated x is fails = cc
no_other_error (error.Deep at) stated x is fails = cc
no_other_error error.Memory stated x is fails = refl

pub reading_is_one : ReadingIsOne
reading_is_one tokens one other (first, reading) (second, again) =
    let lv = max (text_levels first) (text_levels second) in
    let most = max (text_operators first) (text_operators second) in
    let a = reading_is_read tokens one first most lv reading (omega arith) (omega arith) in
    let b = reading_is_read tokens other second most lv again (omega arith) (omega arith) in
    ap (λ (r : List SourceItem × List Spot). r.0) (ok_one _ _ (sym a.1 ∙ b.1))
