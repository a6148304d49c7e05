-- That answers give the limits that notes tell: whichever limits are counted, what is owed at first
-- and what the answers give is what the notes tell and what the value carries on.
--     count-append, told-append, given-append       limits of several lists
--     balances-done, balances-noted, balances-asked, balances-bind
--     balances-each, balances-down, balances-until  how computations that balance are put together
--     tells-...                                     the same where nothing is owed or carried on
use Rattle.std.proofs.Common.{◌≡◌, ℕ, zero, suc, ◌+◌, List, [], ◌∷◌, ◌++◌, Bool, true, false, refl, ap, ◌∙◌, arith}
use Rattle.std.specs.Prelude.{if◌then◌else◌}
use Rattle.farkas_check.specs.declared.answer.Answer.{Answer}
use Rattle.farkas_check.specs.declared.answer.Limit.{Limit}
use Rattle.farkas_check.specs.declared.question.Question.{Question}
use Rattle.posing.specs.declared.note.Note.{Note}
use Rattle.posing.specs.Posing.{Posing, Done, Noted, Asked, ◌>>=◌, each, until, down}
use Rattle.named_limits.specs.Limits.{limit_given, limits_given, limit_told, limits_told, count, AreSame}
use Rattle.named_limits.specs.Leading.{LeadsTo}
use Rattle.named_limits.proofs.Cuts.{from-Done, from-Noted, from-Asked, path-cut}

-- ---- several lists

pub count-append : (test : Limit → Bool) (xs ys : List Limit) → count test (xs ++ ys) ≡ count test xs + count test ys
count-append test [] ys = omega arith
count-append test (x ∷ xs) ys = let more = count-append test xs ys in omega (arith, more)

abbrev pub told : (Limit → Bool) → List Note → ℕ
told test notes = count test (limits_told notes)

abbrev pub given : (Limit → Bool) → List Answer → ℕ
given test answers = count test (limits_given answers)

pub told-append : (test : Limit → Bool) (notes more : List Note) → told test (notes ++ more) ≡ told test notes + told test more
told-append test [] more = omega arith
told-append test (note ∷ notes) more =
    let rest = told-append test notes more in
    let whole = count-append test (limit_told note) (limits_told (notes ++ more)) in
    let parts = count-append test (limit_told note) (limits_told notes) in
    omega (arith, rest, whole, parts)

pub given-append : (test : Limit → Bool) (answers more : List Answer) → given test (answers ++ more) ≡ given test answers + given test more
given-append test [] more = omega arith
given-append test (answer ∷ answers) more =
    let rest = given-append test answers more in
    let whole = count-append test (limit_given answer) (limits_given (answers ++ more)) in
    let parts = count-append test (limit_given answer) (limits_given answers) in
    omega (arith, rest, whole, parts)

-- ---- computations

pub record Balances {A : Type 0} (owed : List Limit) (carried : A → List Limit) (p : Posing A) : Type 0 where
  pub balance : (test : Limit → Bool) (notes : List Note) (answers : List Answer) (value : A) → LeadsTo p notes answers (Done value)
      → count test owed + given test answers ≡ told test notes + count test (carried value)

pub balances-done : {A : Type 0} (owed : List Limit) (carried : A → List Limit) (value : A) → AreSame owed (carried value) → Balances owed carried (Done value)
balances-done owed carried value e =
    record {
      balance = λ test notes answers last path.
          let end = from-Done value last notes answers path in
          let none = ap (told test) end.notes_are in
          let nothing = ap (given test) end.answers_are in
          let same = ap (λ x. count test (carried x)) end.same in
          let equal = e.same test in
          omega (arith, equal, none, nothing, same);
    }

pub balances-noted : {A : Type 0} (owed rest : List Limit) (carried : A → List Limit) (first : List Note) (p : Posing A)
    → ((test : Limit → Bool) → count test owed ≡ told test first + count test rest) → Balances rest carried p → Balances owed carried (Noted first p)
balances-noted owed rest carried first p e balances =
    record {
      balance = λ test notes answers last path.
          let step = from-Noted first notes p answers last path in
          let own = balances.balance test step.more answers last step.path in
          let split = ap (told test) step.notes_are ∙ told-append test first step.more in
          let equal = e test in
          omega (arith, equal, own, split);
    }

pub balances-asked : {A : Type 0} (owed : List Limit) (carried : A → List Limit) (question : Question) (next : Answer → Posing A)
    → ((answer : Answer) → Balances (owed ++ limit_given answer) carried (next answer)) → Balances owed carried (Asked question next)
balances-asked owed carried question next balances =
    record {
      balance = λ test notes answers last path.
          let step = from-Asked question next notes answers last path in
          let own = (balances step.answer).balance test notes step.others last step.path in
          let split = ap (given test) step.answers_are ∙ count-append test (limit_given step.answer) (limits_given step.others) in
          let both = count-append test owed (limit_given step.answer) in
          omega (arith, own, split, both);
    }

pub balances-bind : {A B : Type 0} (owed : List Limit) (between : A → List Limit) (carried : B → List Limit) (p : Posing A) (f : A → Posing B)
    → Balances owed between p → ((x : A) → Balances (between x) carried (f x)) → Balances owed carried (p >>= f)
balances-bind owed between carried p f first rest =
    record {
      balance = λ test notes answers last path.
          let cut = path-cut p f notes answers last path in
          let one = first.balance test cut.first cut.share cut.value cut.leads in
          let other = (rest cut.value).balance test cut.more cut.others last cut.rest in
          let in_notes = ap (told test) cut.notes_are ∙ told-append test cut.first cut.more in
          let in_answers = ap (given test) cut.answers_are ∙ given-append test cut.share cut.others in
          omega (arith, one, other, in_notes, in_answers);
    }

pub balances-same : {A : Type 0} (owed other : List Limit) (carried : A → List Limit) (p : Posing A) → AreSame other owed → Balances owed carried p → Balances other carried p
balances-same owed other carried p same balances =
    record {
      balance = λ test notes answers value path.
          let own = balances.balance test notes answers value path in
          let equal = same.same test in
          omega (arith, own, equal);
    }

pub same-refl : (limits : List Limit) → AreSame limits limits
same-refl limits = record { same = λ test. refl }

pub balances-each : {A B : Type 0} (carried : B → List Limit) (step : B → A → Posing B) (made : B) (xs : List A)
    → ((made : B) (x : A) → Balances (carried made) carried (step made x)) → Balances (carried made) carried (each step made xs)
balances-each carried step made [] balances = balances-done (carried made) carried made (same-refl (carried made))
balances-each carried step made (x ∷ xs) balances =
    balances-bind (carried made) carried carried (step made x) (λ next. each step next xs) (balances made x) (λ next. balances-each carried step next xs balances)

pub balances-down : {B : Type 0} (carried : B → List Limit) (step : B → ℕ → Posing B) (made : B) (n : ℕ)
    → ((made : B) (n : ℕ) → Balances (carried made) carried (step made n)) → Balances (carried made) carried (down step made n)
balances-down carried step made zero balances = balances-done (carried made) carried made (same-refl (carried made))
balances-down carried step made (suc n) balances =
    balances-bind (carried made) carried carried (step made n) (λ next. down step next n) (balances made n) (λ next. balances-down carried step next n balances)

pub balances-until : {B : Type 0} (carried : B → List Limit) (step : B → Posing (B × Bool)) (n : ℕ) (made : B)
    → ((made : B) → Balances (carried made) (λ next. carried next.0) (step made)) → Balances (carried made) carried (until step n made)
balances-until carried step zero made balances = balances-done (carried made) carried made (same-refl (carried made))
balances-until {B = B} carried step (suc n) made balances =
    balances-bind (carried made) (λ next. carried next.0) carried (step made) (λ next. if next.1 then until step n next.0 else Done next.0) (balances made)
    (λ next. go next.1 next.0 (balances-until carried step n next.0 balances))
  where
    go : (more : Bool) (next : B) → Balances (carried next) carried (until step n next) → Balances (carried next) carried (if more then until step n next else Done next)
    go true next later = later
    go false next later = balances-done (carried next) carried next (same-refl (carried next))

pub same-of : {limits others : List Limit} → limits ≡ others → AreSame limits others
same-of e = record { same = λ test. ap (count test) e }

-- more that is owed is carried on
pub balances-frame : {A : Type 0} (more : List Limit) (carried : A → List Limit) (p : Posing A) → Balances [] carried p → Balances more (λ x. more ++ carried x) p
balances-frame more carried p balances =
    record {
      balance = λ test notes answers value path.
          let own = balances.balance test notes answers value path in
          let both = count-append test more (carried value) in
          omega (arith, own, both);
    }

-- ---- where nothing is owed and nothing carried on

abbrev pub no_limit : {A : Type 0} → A → List Limit
no_limit value = []

-- a record, so that it shows its computation
pub record TellsAll {A : Type 0} (p : Posing A) : Type 0 where
  pub balances : Balances [] no_limit p

-- notes that tell no limit
pub record TellNone (notes : List Note) : Type 0 where
  pub none : limits_told notes ≡ []

-- notes without limits change nothing
pub balances-quiet : {A : Type 0} {owed : List Limit} {carried : A → List Limit} {first : List Note} {p : Posing A} → TellNone first → Balances owed carried p → Balances owed carried (Noted first p)
balances-quiet {owed = owed} {carried = carried} {first = first} {p = p} none balances =
    balances-noted owed owed carried first p (λ test. let e = ap (count test) none.none in omega (arith, e)) balances

pub tells-frame : {A : Type 0} {p : Posing A} (more : List Limit) → TellsAll p → Balances more (λ x. more) p
tells-frame more tells =
    record { balance = λ test notes answers value path. let own = tells.balances.balance test notes answers value path in omega (arith, own) }

pub tells-done : {A : Type 0} (value : A) → TellsAll (Done value)
tells-done value = record { balances = balances-done [] no_limit value (same-refl []) }

pub tells-noted : {A : Type 0} {first : List Note} {p : Posing A} → TellNone first → TellsAll p → TellsAll (Noted first p)
tells-noted {first = first} {p = p} none tells =
    record { balances = balances-noted [] [] no_limit first p (λ test. let e = ap (count test) none.none in omega (arith, e)) tells.balances }

pub tells-bind : {A B : Type 0} {p : Posing A} {f : A → Posing B} → TellsAll p → ((x : A) → TellsAll (f x)) → TellsAll (p >>= f)
tells-bind {p = p} {f = f} first rest = record { balances = balances-bind [] no_limit no_limit p f first.balances (λ x. (rest x).balances) }

-- a computation, and then a function of its value
pub tells-then : {A B : Type 0} {p : Posing A} (f : A → B) → TellsAll p → TellsAll (p >>= λ x. Done (f x))
tells-then f tells = tells-bind tells (λ x. tells-done (f x))

pub tells-each : {A B : Type 0} (step : B → A → Posing B) (made : B) (xs : List A) → ((made : B) (x : A) → TellsAll (step made x)) → TellsAll (each step made xs)
tells-each step made xs tells = record { balances = balances-each no_limit step made xs (λ made x. (tells made x).balances) }

pub tells-down : {B : Type 0} (step : B → ℕ → Posing B) (made : B) (n : ℕ) → ((made : B) (n : ℕ) → TellsAll (step made n)) → TellsAll (down step made n)
tells-down step made n tells = record { balances = balances-down no_limit step made n (λ made n. (tells made n).balances) }

pub tells-until : {B : Type 0} (step : B → Posing (B × Bool)) (n : ℕ) (made : B) → ((made : B) → TellsAll (step made)) → TellsAll (until step n made)
tells-until step n made tells = record { balances = balances-until no_limit step n made (λ made. (tells made).balances) }
