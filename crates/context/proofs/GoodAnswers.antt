-- An answer that was taken is good for its question.
use Rattle.std.specs.Prelude.{List}
use Rattle.std.proofs.Common.{◌≡◌, ◌≢◌, Ok, pos, ◌<ℤ◌, [], ◌∷◌, refl, sym, subst}
use Rattle.std.proofs.lemmas.List.Elements.{All-from_recursion}
use Rattle.linear_terms.specs.declared.row.Case.{Case}
use Rattle.linear_terms.specs.declared.row.Row.{Row}
use Rattle.linear_terms.specs.Polynomial.{IsCanonical}
use Rattle.farkas_check.specs.declared.answer.Answer.{Answer}
use Rattle.farkas_check.specs.declared.answer.Answer.TheVariants as answer
use Rattle.farkas_check.specs.declared.question.Question.{Question}
use Rattle.farkas_check.specs.declared.question.Question.TheVariants.{Infeasible}
use Rattle.farkas_check.specs.Meaning.{HasPoint, IsTrueAnswer}
use Rattle.farkas_check.specs.Ratios.{Fraction}
use Rattle.farkas_check.specs.Tested.{Passes}
use Rattle.farkas_check.proofs.Tight.{tight}
use Rattle.transition_formula.specs.Meaning.{numbers}
use Rattle.farkas_check.specs.Asking.{Asking}
use Rattle.posing.specs.declared.log.Log.{Log}
use Rattle.posing.specs.declared.note.Note.{Note}
use Rattle.posing.specs.Posing.{Posing, Done, Noted, Asked, Path, here, noted, asked, answer_to, ◌>>=◌}
use Rattle.posing.specs.Follows.{IsGood, Follows}
use Rattle.report.specs.declared.verdict.Verdict.TheVariants.{Proved, Unproved}
use Rattle.context.specs.Judging.{IsAnswered, IsVerdictOn}
use Rattle.context.specs.Verdicts.{verdict_at, verdict_by}

-- every end has the property, as long as the answers are good
abbrev Keeps : {A : Type 0} → (Question → Answer → Type 0) → (A → Type 0) → Posing A → Type 0
Keeps Good P (Done value) = P value
Keeps Good P (Noted notes next) = Keeps Good P next
Keeps Good P (Asked question next) = (answer : Answer) → Good question answer → Keeps Good P (next answer)

path-keeps : {A : Type 0} (Good : Question → Answer → Type 0) (P : A → Type 0) (p q : Posing A) (notes : List Note) (answers : List Answer) → Path Good p notes answers q → Keeps Good P p → Keeps Good P q
path-keeps Good P _ _ _ _ (here p) holds = holds
path-keeps Good P _ _ _ _ (noted first rest answers p q path) holds = path-keeps Good P p q rest answers path holds
path-keeps Good P _ _ _ _ (asked question answer next notes answers q good path) holds =
    path-keeps Good P (next answer) q notes answers path (holds answer good)

answer-good : {S : Type 0} {O : Asking S} {old new : S} {before after : Log} {question : Question} {answer : Answer} → Follows O old new before after (Ok answer) (answer_to question) → IsGood O.allows question answer
answer-good {S} {O} {old} {new} {before} {after} {question} {answer} follows =
    path-keeps (IsGood O.allows) (λ a. IsGood O.allows question a) (answer_to question) (Done answer) follows.comes.notes follows.comes.answers follows.comes.path (λ a good. good)

pub answered : {S : Type 0} {O : Asking S} {old new : S} {before after : Log} {question : Question} {a : Answer} (case : Case) → question ≡ Infeasible case.rows → Follows O old new before after (Ok a) (answer_to question) → IsAnswered case a
answered {S} {O} {old} {new} {before} {after} {question} {a} case is follows =
    let good : IsGood O.allows (Infeasible case.rows) a = subst (λ q. IsGood O.allows q a) is (answer-good follows) in
    record { passes = good.passes; is_true = good.is_true }

-- a case with rows is asked about
pub asked-of : (case : Case) (rows : List Row) → rows ≢ [] → (answer_to (Infeasible rows) >>= λ a. Done (verdict_by case a)) ≡ verdict_at case rows
asked-of case [] some = absurd (some refl)
asked-of case (row ∷ rows) some = refl

-- what an answer says of a case
pub yes-known : (case : Case) (a : Answer) (by : _) → IsAnswered case a → a ≡ answer.Yes by → IsVerdictOn case Proved
yes-known case a by h is =
    let is_true : IsTrueAnswer (Infeasible case.rows) (answer.Yes by) = subst (IsTrueAnswer (Infeasible case.rows)) is h.is_true in
    record { dead = λ e before after holds. is_true (numbers before holds.0) holds.1.rows; refuted = tt; fits = λ shown f. tt }

pub no-known : (case : Case) (a : Answer) (point : List Fraction) → IsAnswered case a → a ≡ answer.No point → IsVerdictOn case (Unproved case point)
no-known case a point h is =
    let p : Passes (Infeasible case.rows) (answer.No point) = subst (Passes (Infeasible case.rows)) is h.passes in
    record {
      dead = λ e. absurd (cc);
      refuted = tight (Infeasible case.rows) (answer.No point) p.canonical p.positive p.passed (λ l. l);
      fits = λ shown f. f;
    }

no-rows : HasPoint [] []
no-rows =
    tight (Infeasible []) (answer.No []) (All-from_recursion (λ (row : Row). IsCanonical row.poly.terms) [] tt)
    (All-from_recursion (λ (r : Fraction). pos 0 <ℤ r.den) [] tt) refl (λ l. l)

-- the empty point makes no rows true
pub empty-known : (case : Case) (point : List Fraction) → case.rows ≡ [] → point ≡ [] → IsVerdictOn case (Unproved case point)
empty-known case point none empty =
    record {
      dead = λ e. absurd (cc);
      refuted = subst (λ rows. HasPoint rows point) (sym none) (subst (HasPoint []) (sym empty) no-rows);
      fits = λ shown f. f;
    }
