-- From the start of a program to where an assertion stands, and on to where its condition is false.
use Rattle.std.proofs.Common.{◌≡◌, inl, inr, ℕ, ◌+◌, ◌-◌, ◌<◌, ◌≤◌, ◌^◌, ℤ, length, List, [], ◌∷◌, ◌++◌, Option, Some, None, refl, sym, ap, subst, ◌∙◌, length-append, arith}
use Rattle.std.specs.Prelude.{IsTrue, All, IfOk, Result, Ok, Err}
use Rattle.std.specs.List.{AllByRecursion}
use Rattle.std.proofs.lemmas.List.Elements.{All-from_recursion}
use Rattle.items.proofs.Each.{each_from_test}
use Rattle.linear_terms.specs.declared.row.Case.{Case}
use Rattle.syntax_tree.specs.Term.{Term}
use Rattle.transition_formula.specs.Composition.{sequence_of}
use Rattle.transition_formula.specs.Meaning.{Holds, HoldsSome}
use Rattle.transition_formula.specs.Posts.{numbers_at, with_posts}
use Rattle.transition_formula.specs.Transition.{Transition, AreFew, AreSolvable, IsTransition, fits}
use Rattle.transition_formula.proofs.Fitting.{sequence_of-fits}
use Rattle.checked_tree.specs.Law.{IsBetweenEnds, IsFrom}
use Rattle.checked_tree.proofs.Between.{some-length}
use Rattle.posing.specs.declared.error.WorkError.{WorkError}
use Rattle.proc_summary.specs.Claims.{HoldsIf, IsBetweenStates}
use Rattle.report.specs.declared.verdict.Verdict.{Verdict}
use Rattle.report.specs.declared.verdict.Verdict.TheVariants.{Proved}
use Rattle.context.specs.declared.place.AssertionPlace.{AssertionPlace}
use Rattle.context.specs.Claims.{IsEntry, IsEntryIf}
use Rattle.context.specs.Ends.{HasFew, HoldsAfter, HoldsBegun, HoldsFailing, IsFromStart, IsPlace, NoneFails, NoneFailsAt}
use Rattle.context.specs.Entries.{stand_of}
use Rattle.context.specs.Judging.{IsDead, IsVerdictOnAll}
use Rattle.context.specs.Verdicts.{entry_from_start, extended_formula, falsity_of}
use Rattle.context.proofs.FurtherPosts.{extended-fits, extended-few, extended-holds}
use Rattle.context.proofs.Few.{few-below, few-pairs, few-solvable, fitted-few, posts-few, sequence-few}

pub if_ok-more : {A E : Type 0} (P Q : A → Type 0) (r : Result A E) → ((x : A) → P x → Q x) → IfOk r P → IfOk r Q
if_ok-more P Q (Ok x) more h = more x h
if_ok-more P Q (Err e) more h = tt

-- ---- the entry, with its other columns

pub entry-few : (columns : ℕ) (f : Transition) → IsEntry columns f → HasFew 64 f
entry-few columns f is = fitted-few f is.fitted

none-few : (n columns : ℕ) → HasFew n (extended_formula columns (record { from = 0; to = columns; cases = [] }))
none-few n columns = All-from_recursion (λ (case : Case). case.aux ≤ n) [] tt

pub begun-fits : (place : AssertionPlace) (entry : Option Transition) → IsPlace place → IsEntryIf place.entry entry → IsFromStart place.columns (entry_from_start place entry)
begun-fits place None at is = record { from = refl; to = refl; fits = refl }
begun-fits place (Some f) at is =
    let le = at.entry in
    let to = is.to in
    record { from = is.from; to = refl; fits = extended-fits place.columns f (omega (arith, le, to)) is.fits }

pub begun-few : (place : AssertionPlace) (entry : Option Transition) → IsPlace place → IsEntryIf place.entry entry → HasFew 127 (entry_from_start place entry)
begun-few place None at is = All-from_recursion (λ (case : Case). case.aux ≤ 127) [] tt
begun-few place (Some f) at is =
    let few = at.full.few in
    let same = at.full_columns in
    extended-few place.columns f (omega (arith, few, same)) (entry-few place.entry f is)

pub begun-holds : (place : AssertionPlace) (entry : Option Transition) → IsPlace place → IsEntryIf place.entry entry → HoldsBegun place.columns entry (entry_from_start place entry)
begun-holds place None at is begun others h long = absurd h
begun-holds place (Some f) at is begun others h long =
    let ends : length begun ≡ f.to = some-length f.from f.to f.cases is.fits [] begun h.some in
    let sum = length-append begun others in
    extended-holds place.columns f is.fits [] begun others (omega (arith, ends, sum, long)) h

-- for the code: what is asked of an entry, and what it makes of it
pub record IsBegun (place : AssertionPlace) (entry : Option Transition) (f : Transition) : Type 0 where
  pub fits : IsFromStart place.columns f
  pub few : HasFew 127 f
  pub holds : HoldsBegun place.columns entry f

pub begun-known : (place : AssertionPlace) (entry : Option Transition) (f : Transition) → IsPlace place → IsEntryIf place.entry entry → f ≡ entry_from_start place entry → IsBegun place entry f
begun-known place entry f at is e = record {
  fits = subst (IsFromStart place.columns) (sym e) (begun-fits place entry at is);
  few = subst (HasFew 127) (sym e) (begun-few place entry at is);
  holds = subst (HoldsBegun place.columns entry) (sym e) (begun-holds place entry at is);
}

pub record IsExtendable (place : AssertionPlace) (f : Transition) : Type 0 where
  pub more : f.to ≤ place.columns
  pub few : HasFew 64 f
  pub narrow : place.columns ≤ 1000

pub extendable : (place : AssertionPlace) (entry : Option Transition) (f : Transition) → IsPlace place → IsEntryIf place.entry entry → entry ≡ Some f → IsExtendable place f
extendable place entry f at is e =
    let own : IsEntry place.entry f = subst (IsEntryIf place.entry) e is in
    let le = at.entry in
    let to = own.to in
    let few = at.full.few in
    let same = at.full_columns in
    record { more = omega (arith, le, to); few = entry-few place.entry f own; narrow = omega (arith, few, same) }

-- ---- the way from there

pub sequence-meets : (columns : ℕ) (begun stand : Transition) → IsFromStart columns begun → IsBetweenStates columns stand → begun.to ≡ stand.from
sequence-meets columns begun stand h k = h.to ∙ sym k.from

pub sequence-pairs : (place : AssertionPlace) (begun stand : Transition) → IsPlace place → HasFew 127 begun → IsBetweenStates place.columns stand → AreFew begun stand
sequence-pairs place begun stand at few k =
    let narrow = at.full.few in
    let same = at.full_columns in
    let to = k.to in
    few-pairs 127 64 begun stand few (fitted-few stand k.fitted) (omega (arith, narrow, same, to))

pub sequence-from : (place : AssertionPlace) (begun stand f : Transition) → IsPlace place → IsFromStart place.columns begun → IsBetweenStates place.columns stand → f ≡ sequence_of begun stand → IsFrom place.start place.full f
sequence-from place begun stand f at h k e =
    subst (IsFrom place.start place.full) (sym e)
    (record {
      from_is = h.from ∙ sym at.start_columns;
      to_is = k.to ∙ sym at.full_columns;
      fits = sequence_of-fits begun stand (sequence-meets place.columns begun stand h k) h.fits k.fits;
    })

pub sequence-solvable : (place : AssertionPlace) (begun stand f : Transition) → IsPlace place → IsFromStart place.columns begun → HasFew 127 begun → IsBetweenStates place.columns stand → f ≡ sequence_of begun stand → AreSolvable f.cases
sequence-solvable place begun stand f at h few k e =
    let narrow = at.full.few in
    let same = at.full_columns in
    let to = k.to in
    let from = sequence-from place begun stand (sequence_of begun stand) at h k refl in
    subst (λ (g : Transition). AreSolvable g.cases) (sym e)
    (few-solvable (127 + 64 + stand.to) (sequence_of begun stand) from.fits (sequence-few 127 64 begun stand k.fits few (fitted-few stand k.fitted)) (omega (arith, narrow, same, to)))

pub ends-from_start : (place : AssertionPlace) (f : Transition) → IsPlace place → IsBetweenEnds place.start place.full f → IsFromStart place.columns f
ends-from_start place f at is =
    record {
      from = is.between.from_is ∙ at.start_columns;
      to = is.between.to_is ∙ at.full_columns;
      fits = is.between.fits;
    }

-- ---- where the condition is false

pub none-holds : (cases : List Case) → AllByRecursion IsDead cases → (before after : List ℤ) → HoldsSome cases before after → ⊥
none-holds [] dead before after h = h
none-holds (case ∷ cases) dead before after (inl h) = dead.0 before after h
none-holds (case ∷ cases) dead before after (inr h) = none-holds cases dead.1 before after h

pub none-fails-at : (shown : List ℕ) (cond : Term) (f g : Transition) → HoldsFailing shown cond f g → AllByRecursion IsDead g.cases → NoneFailsAt cond f
none-fails-at shown cond f g holds dead final h false = none-holds g.cases dead [] (numbers_at shown final) (holds final h false).some

stand-holds : (columns : ℕ) (stand : Option Transition) (before after : List ℤ) → HoldsIf stand before after → Holds (stand_of columns stand) before after
stand-holds columns None before after h = absurd h
stand-holds columns (Some f) before after h = h

pub none-fails : (place : AssertionPlace) (cond : Term) (entry stand : Option Transition) (begun led f : Transition) → HoldsBegun place.columns entry begun → led ≡ stand_of place.columns stand → HoldsAfter begun led f → NoneFailsAt cond f → NoneFails place cond entry stand
none-fails place cond entry stand begun led f enters is after none start others final h long k false =
    none final (after (start ++ others) final (enters start others h long) (subst (λ g. Holds g (start ++ others) final) (sym is) (stand-holds place.columns stand (start ++ others) final k))) false

-- ---- the formula of where the condition is false, as the code makes it

module _ (place : AssertionPlace) (cond : Term) (f falsity : Transition) (at : IsPlace place) (h : IsFromStart place.columns f) (few : HasFew 64 f) (is : falsity ≡ falsity_of place.columns cond) where
  falsity-to : falsity.to ≡ place.columns
  falsity-to = ap (λ (g : Transition). g.to) is

  pub falsity-meets : f.to ≡ falsity.from
  falsity-meets = h.to ∙ sym (ap (λ (g : Transition). g.from) is)

  module _ (most : All (λ (case : Case). case.aux < 2 ^ 31) falsity.cases) where
    falsity-few : HasFew (2 ^ 31 - 1) falsity
    falsity-few =
        let same : 2 ^ 31 ≡ 2 ^ 31 - 1 + 1 = omega arith in
        few-below (2 ^ 31 - 1) falsity (subst (λ n. All (λ (case : Case). case.aux < n) falsity.cases) same most)

    pub falsity-pairs : AreFew f falsity
    falsity-pairs =
        let narrow = at.full.few in
        let same = at.full_columns in
        let to = falsity-to in
        few-pairs 64 (2 ^ 31 - 1) f falsity few falsity-few (omega (arith, narrow, same, to))

    module _ (whole : Transition) (e : whole ≡ sequence_of f falsity) where
      pub shown-there : (places : List ℕ) → places ≡ place.shown → All (λ column. column < whole.to) places
      shown-there places same =
          subst (All (λ column. column < whole.to)) (sym same)
          (subst (λ n. All (λ column. column < n) place.shown) (sym (ap (λ (g : Transition). g.to) e ∙ falsity-to)) at.shown)

      pub shown-few : (places : List ℕ) → places ≡ place.shown → length places < 2 ^ 32
      shown-few places same = let few = at.few in let long = ap length same in omega (arith, few, long)

      module _ (fit : IsTransition falsity.from falsity.to falsity.cases) (told : Transition) (d : told ≡ with_posts place.shown whole) (told_fit : IsTransition told.from told.to told.cases) where
        told-from : told.from ≡ 0
        told-from = ap (λ (g : Transition). g.from) d ∙ ap (λ (g : Transition). g.from) e ∙ h.from

        told-to : told.to ≡ length place.shown
        told-to = ap (λ (g : Transition). g.to) d

        pub failing-from : IsFromStart (length place.shown) told
        failing-from = record { from = told-from; to = told-to; fits = told_fit }

        pub failing-solvable : AreSolvable told.cases
        failing-solvable =
            let narrow = at.full.few in
            let same = at.full_columns in
            let to = falsity-to in
            let last = told-to in
            let short = at.few in
            let all : HasFew (64 + (2 ^ 31 - 1) + falsity.to) told =
            subst (HasFew (64 + (2 ^ 31 - 1) + falsity.to)) (sym (d ∙ ap (with_posts place.shown) e))
            (posts-few (64 + (2 ^ 31 - 1) + falsity.to) place.shown (sequence_of f falsity) (sequence-few 64 (2 ^ 31 - 1) f falsity fit few falsity-few)) in
            few-solvable (64 + (2 ^ 31 - 1) + falsity.to) told told_fit all (omega (arith, narrow, same, to, last, short))

pub state-length : (columns : ℕ) (f : Transition) → IsFromStart columns f → (final : List ℤ) → Holds f [] final → length final ≡ columns
state-length columns f h final holds = some-length f.from f.to f.cases h.fits [] final holds.some ∙ h.to

-- ---- the verdict on the cases

pub dead-of : (cases : List Case) (r : Result Verdict WorkError) → IfOk r (IsVerdictOnAll cases) → r ≡ Ok Proved → AllByRecursion IsDead cases
dead-of cases (Ok verdict) h e = let same : verdict ≡ Proved = cc in h.dead same
dead-of cases (Err error) h e = absurd (cc)

pub cases-fit-shown : (shown : ℕ) (f : Transition) → IsFromStart shown f → AllByRecursion (λ case. IsTrue (fits 0 shown case)) f.cases
cases-fit-shown shown f h =
    each_from_test (fits 0 shown) (λ case. IsTrue (fits 0 shown case)) (λ case k. k) f.cases
    (subst (λ n. IsTransition n shown f.cases) h.from (subst (λ n. IsTransition f.from n f.cases) h.to h.fits))
