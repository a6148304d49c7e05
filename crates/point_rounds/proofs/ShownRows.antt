-- A row whose contraries are all refuted is true of what the posts are, where what is given is true.
use Rattle.std.proofs.Common.{◌≡◌, ℤ, Bool, true, false, List, [], ◌∷◌, ◌++◌, map, Option, Some, None, inl, inr, refl}
use Rattle.std.specs.Prelude.{if◌then◌else◌}
use Rattle.std.proofs.lemmas.Bool.{false≢true}
use Rattle.items.proofs.Each.{each-append}
use Rattle.linear_terms.specs.declared.row.Row.{Row}
use Rattle.linear_terms.specs.Polynomial.{Polynomial}
use Rattle.linear_terms.specs.Row.{RowHolds, RowsHold}
use Rattle.linear_terms.specs.Value.{Valuation, value_of}
use Rattle.farkas_check.specs.declared.answer.Answer.{Answer}
use Rattle.farkas_check.specs.declared.answer.Answer.TheVariants as answer
use Rattle.farkas_check.specs.declared.question.Question.TheVariants.{Infeasible}
use Rattle.farkas_check.specs.Meaning.{IsTrueAnswer}
use Rattle.posing.specs.Posing.{Done, ◌>>=◌, AlwaysPassing, IsPassing}
use Rattle.posing.proofs.UnderAnswers.{under-bind, under-weaker}
use Rattle.polyhedra.specs.Infeasibility.{is_yes}
use Rattle.point_rows.specs.Laws.{ContrariesDecide, SomeRowHolds}
use Rattle.point_rows.specs.Reading.{AreTrueOf, contraries_of}
use Rattle.point_rounds.specs.Rounds.{all_refuted, none_possible, row_refuted, row_shown}

-- where what is given is true, the row is true of what the posts are
pub record IsShown (given : List Row) (posts : List Polynomial) (row : Row) : Type 0 where
  pub shown : (at : Valuation) (state : List ℤ) → map (value_of at) posts ≡ state → RowsHold at given → AreTrueOf (row ∷ []) state

-- where what is given is true, none of the rows is
abbrev NonePossible : List Row → List Row → Type 0
NonePossible given rows = (at : Valuation) → RowsHold at given → SomeRowHolds at rows → ⊥

abbrev Tells : List Row → List Row → Bool → Type 0
Tells given rows b = b ≡ true → NonePossible given rows

abbrev TellsRow : List Row → Row → Bool → Type 0
TellsRow given row b = b ≡ true → (at : Valuation) → RowsHold at given → RowHolds at row → ⊥

row_refuted-tells : (given : List Row) (row : Row) → AlwaysPassing (TellsRow given row) (row_refuted given row)
unfolding row_refuted ◌>>=◌
row_refuted-tells given row = λ a good. by a good.is_true
  where
    by : (a : Answer) → IsTrueAnswer (Infeasible (given ++ row ∷ [])) a → TellsRow given row (is_yes a)
    by (answer.Yes proof) never e at holds first = never at (each-append (RowHolds at) given (row ∷ []) holds (first, tt))
    by _ is_true e at holds first = absurd (false≢true e)

refuted-tells : (given rows : List Row) → AlwaysPassing (Tells given rows) (all_refuted given rows)
refuted-tells given [] = λ e at holds some. some
refuted-tells given (row ∷ rows) =
    under-bind IsPassing (TellsRow given row) (Tells given (row ∷ rows)) (row_refuted given row) (λ refuted. if refuted then all_refuted given rows else Done false) (row_refuted-tells given row)
    (λ refuted told. by refuted told (refuted-tells given rows))
  where
    by : (refuted : Bool) → TellsRow given row refuted → AlwaysPassing (Tells given rows) (all_refuted given rows) → AlwaysPassing (Tells given (row ∷ rows)) (if refuted then all_refuted given rows else Done false)
    by false told rest = λ e at holds some. absurd (false≢true e)
    by true told rest = under-weaker IsPassing (Tells given rows) (Tells given (row ∷ rows)) (all_refuted given rows) more rest
      where
        more : (b : Bool) → Tells given rows b → Tells given (row ∷ rows) b
        more b others e at holds (inl first) = told refl at holds first
        more b others e at holds (inr later) = others e at holds later

module _ (decide : ContrariesDecide) where
  possible-tells : (given : List Row) (posts : List Polynomial) (row : Row) (found : Option (List Row)) → contraries_of posts row ≡ found
      → AlwaysPassing (λ b. b ≡ true → IsShown given posts row) (none_possible given found)
  possible-tells given posts row None made = λ e. absurd (false≢true e)
  possible-tells given posts row (Some contraries) made =
      under-weaker IsPassing (Tells given contraries) (λ b. b ≡ true → IsShown given posts row) (all_refuted given contraries) more (refuted-tells given contraries)
    where
      more : (b : Bool) → Tells given contraries b → b ≡ true → IsShown given posts row
      more b told e =
          record {
            shown = λ at state posts_are holds.
                elim (decide at posts state posts_are row contraries made) [ inl shown ↦ shown | inr some ↦ absurd (told e at holds some) ];
          }

  -- a row that is found shown is so
  pub row_shown-tells : (given : List Row) (posts : List Polynomial) (row : Row) → AlwaysPassing (λ b. b ≡ true → IsShown given posts row) (row_shown given posts row)
  unfolding row_shown
  row_shown-tells given posts row = possible-tells given posts row (contraries_of posts row) refl
