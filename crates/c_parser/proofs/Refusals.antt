-- Which refusal tokens have.
use Rattle.std.proofs.Common.{◌≡◌, ◌≢◌, ℕ, ◌+◌, ◌≤◌, true, List, [], ◌∷◌, ◌++◌, refl, sym, ap, subst, ◌∙◌, arith, append_assoc, ◌⊎◌, inl, inr}
use Rattle.std.specs.Prelude.{Result, Ok, Err}
use Rattle.items.specs.Gives.{FailsBy}
use Rattle.c_lexer.specs.declared.token.Token.{Token}
use Rattle.c_parser.specs.declared.error.ParseError.{ParseError}
use Rattle.c_parser.specs.declared.error.ParseError.TheVariants as error
use Rattle.c_parser.specs.Declarations.{Declaration, text_levels, text_operators}
use Rattle.c_parser.specs.Descent.{refusal_of, exact_error}
use Rattle.c_parser.specs.Laws.{ReadingIsNotRefused, RefusalIsOne, TokensAreReadOrRefused}
use Rattle.c_parser.specs.Limits.{most_levels, most_binary_operators}
use Rattle.c_parser.specs.Reads.{ReadsWithinLimits}
use Rattle.c_parser.specs.Refusals.{BeginsWithin, GoesOn, IsRefused, IsTold}
use Rattle.c_parser.specs.SourceItem.{SourceItem}
use Rattle.c_parser.specs.Spots.{Spot, end, ends_once, spots_of}
use Rattle.c_parser.specs.Texts.{text}
use Rattle.c_parser.proofs.CompleteTexts.{text_reads}
use Rattle.c_parser.proofs.Readings.{read_is_reading}
use Rattle.c_parser.proofs.Runs.{Came, Finishes, Outcome, Refused, TooDeep, limit, limit-sum}
use Rattle.c_parser.proofs.RunsOfTexts.{AtEnd, items_shape, text-run}
use Rattle.c_parser.proofs.SoundTexts.{text_found}

-- ---- texts that begin with a front

-- such a text that keeps these limits
abbrev pub BeginsAt : ℕ → ℕ → List Spot → Type 0
BeginsAt most lv spots = (ds : List Declaration) × GoesOn spots ds × (text_levels ds ≤ lv) × (text_operators ds ≤ most)

read_begins : (most lv : ℕ) (front rest : List Spot) (items : List SourceItem) → text most lv ([], front ++ rest) ≡ Ok (items, end 0 ∷ []) → BeginsAt most lv front
read_begins most lv front rest items e =
    let has = text_found most lv (front ++ rest) (items, end 0 ∷ []) e in
    (has.text, record { at = 0; rest = rest; spells = sym has.spells; made = has.made }, has.deep, has.few)

finish_begins : (most lv : ℕ) (front : List Spot) → Finishes items_shape AtEnd (λ x. text most lv ([], x)) front → BeginsAt most lv front
finish_begins most lv [] fin = ([], record { at = 0; rest = end 0 ∷ []; spells = refl; made = refl }, omega arith, omega arith)
finish_begins most lv (s ∷ front) fin = let r = fin.1 (end 0 ∷ []) refl in read_begins most lv (s ∷ front) (fin.0 ++ end 0 ∷ []) r.0.0 r.1

-- an answer is no error
not_both : {A : Type 0} (r : Result A ParseError) (x : A) (e : ParseError) → r ≡ Ok x → r ≡ Err e → ⊥
not_both r x e came failed = let both : Ok x ≡ Err e = sym came ∙ failed in cc

behind_last : (front : List Spot) (look : Spot) (rest : List Spot) → (front ++ look ∷ []) ++ rest ≡ front ++ look ∷ rest
behind_last front look rest = append_assoc front (look ∷ []) rest

-- where all that begin so are refused, no text begins so
none_begins : (most lv : ℕ) (front : List Spot) (look : Spot) (e : ParseError) → ((x : List Spot) → text most lv ([], front ++ look ∷ x) ≡ Err e)
    → (ds : List Declaration) → GoesOn (front ++ look ∷ []) ds → text_levels ds ≤ lv → text_operators ds ≤ most → ⊥
none_begins most lv front look e fails ds goes deep few =
    not_both (text most lv ([], front ++ look ∷ goes.rest)) _ e
    (ap (λ s. text most lv ([], s)) (sym (goes.spells ∙ behind_last front look goes.rest)) ∙ text_reads ds most lv goes.at [] goes.made deep few) (fails goes.rest)

-- ---- what is told

-- tokens that are refused at these limits
pub record RefusedAt (most lv : ℕ) (spots : List Spot) (e : ParseError) : Type 0 where
  pub before : List Spot
  pub spot : Spot
  pub after : List Spot
  pub cut : spots ≡ before ++ spot ∷ after
  pub begun : BeginsAt most lv before
  pub stops : (ds : List Declaration) → GoesOn (before ++ spot ∷ []) ds → text_levels ds ≤ lv → text_operators ds ≤ most → ⊥
  pub told_so : IsTold before spot e

limit-none : (n : ℕ) → limit 0 n ≡ n
limit-none n = let sum = limit-sum 0 n in omega (arith, sum)

err_one : {A : Type 0} (d e : ParseError) → (let r : Result A ParseError = Err d in r) ≡ Err e → d ≡ e
err_one d e same = cc

module _ (most lv : ℕ) (spots : List Spot) (e : ParseError) (front : List Spot) (look : Spot) (rest : List Spot) (cut : spots ≡ front ++ look ∷ rest) (failed : text most lv ([], spots) ≡ Err e)
    (begun : BeginsAt most lv front) where
  plainly : (x : List Spot) → text (limit 0 most) (limit 0 lv) ([], x) ≡ text most lv ([], x)
  plainly x = λ i. text (limit-none most i) (limit-none lv i) ([], x)

  there : text most lv ([], front ++ look ∷ rest) ≡ Err e
  there = ap (λ s. text most lv ([], s)) (sym cut) ∙ failed

  refused_so : (d : ParseError) → ((x : List Spot) → text (limit 0 most) (limit 0 lv) ([], front ++ look ∷ x) ≡ Err d) → IsTold front look d → RefusedAt most lv spots e
  refused_so d is told_so =
      let same : d ≡ e = err_one _ _ (sym (is rest) ∙ plainly (front ++ look ∷ rest) ∙ there) in
      record {
        before = front;
        spot = look;
        after = rest;
        cut = cut;
        begun = begun;
        stops = none_begins most lv front look d (λ x. sym (plainly (front ++ look ∷ x)) ∙ is x);
        told_so = subst (IsTold front look) same told_so;
      }

  by_outcome : Outcome items_shape AtEnd (λ more x. text (limit more most) (limit more lv) ([], x)) front look → RefusedAt most lv spots e
  by_outcome (Came v is) =
      absurd (not_both (text most lv ([], front ++ look ∷ rest)) (v.0, look ∷ rest) e (sym (plainly (front ++ look ∷ rest)) ∙ is 0 rest) there)
  by_outcome (Refused is) =
      refused_so (refusal_of (look ∷ [])) (is 0)
      (inr (
        (λ begins.
            let ds = begins.0 in
            let more = text_levels ds + text_operators ds in
            let levels = limit-sum more lv in
            let operators = limit-sum more most in
            none_begins (limit more most) (limit more lv) front look (refusal_of (look ∷ [])) (is more) ds begins.1 (omega (arith, levels)) (omega (arith, operators))),
        refl,
      ))
  by_outcome (TooDeep is tail fin) =
      let r = fin (end 0 ∷ []) refl in
      let begins = read_begins (limit 1 most) (limit 1 lv) (front ++ look ∷ []) (tail ++ end 0 ∷ []) r.0.0
      (ap (λ s. text (limit 1 most) (limit 1 lv) ([], s)) (behind_last front look (tail ++ end 0 ∷ [])) ∙ r.1) in
      refused_so (error.Deep look.at) is (inl ((begins.0, begins.1), refl))

error_refused : (most lv : ℕ) (spots : List Spot) (e : ParseError) → ends_once spots ≡ true → text most lv ([], spots) ≡ Err e → RefusedAt most lv spots e
error_refused most lv spots e once failed =
    let run = text-run most lv spots once in
    let finish = subst (λ n. Finishes items_shape AtEnd (λ x. text n (limit 0 lv) ([], x)) run.front) (limit-none most) run.finish in
    let begun = finish_begins most lv run.front (subst (λ n. Finishes items_shape AtEnd (λ x. text most n ([], x)) run.front) (limit-none lv) finish) in
    by_outcome most lv spots e run.front run.look run.rest run.cut failed begun run.outcome

pub error_is_refused : (tokens : List Token) (e : ParseError) → ends_once (spots_of tokens) ≡ true
    → text most_binary_operators most_levels ([], spots_of tokens) ≡ Err e → IsRefused tokens e
error_is_refused tokens e once failed =
    let has = error_refused most_binary_operators most_levels (spots_of tokens) e once failed in (
      has.before,
      has.spot,
      has.after,
      record {
        cut = has.cut;
        begun = (has.begun.0, has.begun.1, record { shallow = has.begun.2; short = has.begun.3 });
        stops = λ begins. has.stops begins.0 begins.1 begins.2.shallow begins.2.short;
      },
      has.told_so,
    )

-- an error is what is stated, but for want of memory
pub error_stated : {A : Type 0} (e : ParseError) (stated : Result A ParseError) → FailsBy (exact_error e) stated → e ≢ error.Memory → stated ≡ Err e
error_stated (error.Syntax at) stated fails other = fails
error_stated (error.Unsupported at) stated fails other = fails
error_stated (error.Deep at) stated fails other = fails
error_stated error.Memory stated fails other = absurd (other refl)

-- ---- one refusal at most

-- a text that goes on from more goes on from less
shorter_begins : (front more : List Spot) → BeginsWithin (front ++ more) → BeginsWithin front
shorter_begins front more begins =
    let goes = begins.1 in
    (begins.0, record { at = goes.at; rest = more ++ goes.rest; spells = goes.spells ∙ append_assoc front more goes.rest; made = goes.made }, begins.2)

-- two fronts of one list, and the tokens behind them, are the same, or one front has the other
-- one's token too
two_fronts : {P : Type 0} (one other : List Spot) (s t : Spot) (x y : List Spot) → one ++ s ∷ x ≡ other ++ t ∷ y → (one ≡ other → s ≡ t → P)
    → ((z : List Spot) → other ≡ (one ++ s ∷ []) ++ z → P) → ((z : List Spot) → one ≡ (other ++ t ∷ []) ++ z → P) → P
two_fronts [] [] s t x y e same longer shorter = same refl (cc)
two_fronts [] (o ∷ other) s t x y e same longer shorter = let first : o ≡ s = cc in longer other (ap (λ l. l ∷ other) first)
two_fronts (b ∷ one) [] s t x y e same longer shorter = let first : b ≡ t = cc in shorter one (ap (λ l. l ∷ one) first)
two_fronts (b ∷ one) (o ∷ other) s t x y e same longer shorter =
    let first : b ≡ o = cc in
    let rest : one ++ s ∷ x ≡ other ++ t ∷ y = cc in
    two_fronts one other s t x y rest
    (λ fronts spots. same (λ i. first i ∷ fronts i) spots)
    (λ z more. longer z (λ i. sym first i ∷ more i))
    (λ z more. shorter z (λ i. first i ∷ more i))

told_one : (before : List Spot) (spot : Spot) (one other : ParseError) → IsTold before spot one → IsTold before spot other → one ≡ other
told_one before spot one other (inl a) (inl b) = a.1 ∙ sym b.1
told_one before spot one other (inl a) (inr b) = absurd (b.0 a.0)
told_one before spot one other (inr a) (inl b) = absurd (a.0 b.0)
told_one before spot one other (inr a) (inr b) = a.1 ∙ sym b.1

pub refusal_is_one : RefusalIsOne
refusal_is_one tokens one other first second =
    two_fronts first.0 second.0 first.1 second.1 first.2 second.2 (sym first.3.cut ∙ second.3.cut)
    (λ fronts spots. told_one second.0 second.1 one other (subst (λ s. IsTold second.0 s one) spots (subst (λ f. IsTold f first.1 one) fronts first.4)) second.4)
    (λ z more. absurd (first.3.stops (shorter_begins (first.0 ++ first.1 ∷ []) z (subst BeginsWithin more second.3.begun))))
    (λ z more. absurd (second.3.stops (shorter_begins (second.0 ++ second.1 ∷ []) z (subst BeginsWithin more first.3.begun))))

pub reading_is_not_refused : ReadingIsNotRefused
reading_is_not_refused tokens items e reads refusal =
    let reading = reads.1 in
    refusal.3.stops (
      reads.0,
      record {
        at = reading.at;
        rest = refusal.2;
        spells = sym reading.spells ∙ refusal.3.cut ∙ sym (behind_last refusal.0 refusal.1 refusal.2);
        made = reading.made;
      },
      reads.2,
    )

pub tokens_are_read_or_refused : TokensAreReadOrRefused
tokens_are_read_or_refused tokens once = by_answer (text most_binary_operators most_levels ([], spots_of tokens)) refl
  where
    by_answer : (r : Result (List SourceItem × List Spot) ParseError) → text most_binary_operators most_levels ([], spots_of tokens) ≡ r
        → ((items : List SourceItem) × ReadsWithinLimits tokens items) ⊎ ((e : ParseError) × IsRefused tokens e)
    by_answer (Ok read) e = inl (read.0, read_is_reading tokens read.0 read.1 once e)
    by_answer (Err fault) e = inr (fault, error_is_refused tokens fault once e)
