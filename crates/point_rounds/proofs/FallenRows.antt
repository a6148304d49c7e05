-- What a round tells of each step: in each of its cases each row of its place is shown, or fell.
use Rattle.std.proofs.Common.{◌≡◌, ◌<◌, ℕ, ◌+◌, Bool, true, false, List, [], ◌∷◌, ◌++◌, Option, Some, None, inl, inr, refl, sym, ap, subst, ◌∙◌, arith, length, drop}
use Rattle.std.specs.Prelude.{◌⊎◌, ◌==◌, ◌&&◌, ◌||◌}
use Rattle.std.specs.List.{AllByRecursion}
use Rattle.std.proofs.lemmas.Bool.{eq-eqb, or_left, or_right}
use Rattle.std.proofs.lemmas.List.Folds.{list_any-append}
use Rattle.items.proofs.Each.{each-any, each-append, each-more}
use Rattle.linear_terms.specs.declared.row.Case.{Case}
use Rattle.linear_terms.specs.declared.row.Row.{Row}
use Rattle.linear_terms.specs.Polynomial.{Polynomial}
use Rattle.syntax_tree.specs.declared.program.Program.{Program}
use Rattle.posing.specs.Posing.{Posing, Done, each, AlwaysPassing, IsPassing}
use Rattle.posing.proofs.UnderAnswers.{under-bind, under-weaker}
use Rattle.leaf_cases.specs.Conditions.{columns_at}
use Rattle.point_rows.specs.Laws.{ContrariesDecide}
use Rattle.point_rows.specs.Reading.{given_rows}
use Rattle.point_rounds.specs.declared.round.FallenRow.{FallenRow}
use Rattle.point_rounds.specs.declared.round.RowPlace.{RowPlace}
use Rattle.point_rounds.specs.declared.round.RowPlace.TheVariants.{AtPoint, AtExit}
use Rattle.point_rounds.specs.declared.round.StepFrom.{StepFrom}
use Rattle.point_rounds.specs.declared.table.PointTable.{PointTable}
use Rattle.point_rounds.specs.Rounds.{fallen_rows, is_fallen, is_same_place, with_numbers_from, place_of, row_shown, rows_at_place, unless_shown, with_case, with_cases, with_place, with_row, with_rows, with_step}
use Rattle.point_rounds.specs.Table.{rows_at}
use Rattle.point_rounds.proofs.ShownRows.{IsShown, row_shown-tells}

same_place-self : (place : RowPlace) → is_same_place place place ≡ true
same_place-self (AtPoint proc node) = ap (λ b. b && node == node) (eq-eqb proc proc refl) ∙ eq-eqb node node refl
same_place-self (AtExit proc) = eq-eqb proc proc refl

-- a row that fell stays among those that fell
pub record Grows (made next : List FallenRow) : Type 0 where
  pub stays : (place : RowPlace) (number : ℕ) → is_fallen made place number ≡ true → is_fallen next place number ≡ true

grows-self : (made : List FallenRow) → Grows made made
grows-self made = record { stays = λ place number e. e }

grows-then : (made next last : List FallenRow) → Grows made next → Grows next last → Grows made last
grows-then made next last one other = record { stays = λ place number e. other.stays place number (one.stays place number e) }

grows-more : (made : List FallenRow) (row : FallenRow) → Grows made (made ++ row ∷ [])
grows-more made row =
    record {
      stays = λ place number e.
          list_any-append (λ (r : FallenRow). is_same_place r.place place && r.number == number) made (row ∷ [])
          ∙ or_left (is_fallen made place number) (is_fallen (row ∷ []) place number) e;
    }

fallen-last : (made : List FallenRow) (place : RowPlace) (number : ℕ) → is_fallen (made ++ record { place = place; number = number } ∷ []) place number ≡ true
fallen-last made place number =
    let row : FallenRow = record { place = place; number = number } in
    let here : is_fallen (row ∷ []) place number ≡ true =
    ap (λ b. b && number == number || false) (same_place-self place) ∙ ap (λ b. b || false) (eq-eqb number number refl) in
    list_any-append (λ (r : FallenRow). is_same_place r.place place && r.number == number) made (row ∷ [])
    ∙ or_right (is_fallen made place number) (is_fallen (row ∷ []) place number) here

-- the first row is among those that fell
pub fallen-first : (row : FallenRow) (fell : List FallenRow) → is_fallen (row ∷ fell) row.place row.number ≡ true
fallen-first row fell =
    ap (λ b. b && row.number == row.number || is_fallen fell row.place row.number) (same_place-self row.place) ∙ ap (λ b. b || is_fallen fell row.place row.number) (eq-eqb row.number row.number refl)

module _ (program : Program) (table : PointTable) where
  -- the row that fell is one of the table
  abbrev pub IsThere : FallenRow → Type 0
  IsThere row = row.number < length (rows_at_place program table row.place)

  -- what fell stays so, and is in the table
  pub record IsJudged (made next : List FallenRow) : Type 0 where
    pub grows : Grows made next
    pub there : AllByRecursion IsThere made → AllByRecursion IsThere next

  judged-self : (made : List FallenRow) → IsJudged made made
  judged-self made = record { grows = grows-self made; there = λ h. h }

  judged-then : (made next last : List FallenRow) → IsJudged made next → IsJudged next last → IsJudged made last
  judged-then made next last one other = record { grows = grows-then made next last one.grows other.grows; there = λ h. other.there (one.there h) }

  -- ---- loops: what is told of an element stays told

  module _ {A : Type 0} (Fits : A → Type 0) (Told : A → List FallenRow → Type 0) (stays : (x : A) (made next : List FallenRow) → Grows made next → Told x made → Told x next)
      (step : List FallenRow → A → Posing (List FallenRow)) (tells : (made : List FallenRow) (x : A) → Fits x → AlwaysPassing (λ next. IsJudged made next × Told x next) (step made x)) where
    each-told : (made : List FallenRow) (xs : List A) → AllByRecursion Fits xs → AlwaysPassing (λ next. IsJudged made next × AllByRecursion (λ x. Told x next) xs) (each step made xs)
    each-told made [] fit = (judged-self made, tt)
    each-told made (x ∷ xs) fit =
        under-bind IsPassing (λ next. IsJudged made next × Told x next) (λ next. IsJudged made next × AllByRecursion (λ y. Told y next) (x ∷ xs)) (step made x) (λ next. each step next xs) (tells made x fit.0)
        (λ next h. under-weaker IsPassing (λ last. IsJudged next last × AllByRecursion (λ y. Told y last) xs) (λ last. IsJudged made last × AllByRecursion (λ y. Told y last) (x ∷ xs)) (each step next xs)
        (λ last k. (judged-then made next last h.0 k.0, (stays x next last k.0.grows h.1, k.1))) (each-told next xs fit.1))

    each-stays : (made next : List FallenRow) → Grows made next → (xs : List A) → AllByRecursion (λ x. Told x made) xs → AllByRecursion (λ x. Told x next) xs
    each-stays made next grows xs h = each-more (λ x. Told x made) (λ x. Told x next) (λ x told. stays x made next grows told) xs h

  module _ (decide : ContrariesDecide) where
    -- ---- a row

    -- the row is shown, or fell
    abbrev pub RowTold : RowPlace → List Row → List Polynomial → ℕ × Row → List FallenRow → Type 0
    RowTold place given posts numbered fell = IsShown given posts numbered.1 ⊎ (is_fallen fell place numbered.0 ≡ true)

    row-stays : (place : RowPlace) (given : List Row) (posts : List Polynomial) (numbered : ℕ × Row) (made next : List FallenRow) → Grows made next
        → RowTold place given posts numbered made → RowTold place given posts numbered next
    row-stays place given posts numbered made next grows (inl shown) = inl shown
    row-stays place given posts numbered made next grows (inr fell) = inr (grows.stays place numbered.0 fell)

    abbrev RowFits : RowPlace → ℕ × Row → Type 0
    RowFits place numbered = numbered.0 < length (rows_at_place program table place)

    row-tells : (place : RowPlace) (given : List Row) (posts : List Polynomial) (made : List FallenRow) (numbered : ℕ × Row) → RowFits place numbered
        → AlwaysPassing (λ next. IsJudged made next × RowTold place given posts numbered next) (with_row place given posts made numbered)
    unfolding with_row
    row-tells place given posts made numbered fits =
        under-bind IsPassing (λ b. b ≡ true → IsShown given posts numbered.1) (λ next. IsJudged made next × RowTold place given posts numbered next)
        (row_shown given posts numbered.1) (λ shown. Done (unless_shown place numbered.0 made shown)) (row_shown-tells decide given posts numbered.1) by
      where
        by : (b : Bool) → (b ≡ true → IsShown given posts numbered.1)
            → IsJudged made (unless_shown place numbered.0 made b) × RowTold place given posts numbered (unless_shown place numbered.0 made b)
        by true told = (judged-self made, inl (told refl))
        by false told =
            let row : FallenRow = record { place = place; number = numbered.0 } in (
              record { grows = grows-more made row; there = λ h. each-append IsThere made (row ∷ []) h (fits, tt) },
              inr (fallen-last made place numbered.0),
            )

    -- ---- a case

    -- each row of the place is shown by what is given in the case, or fell
    abbrev pub CaseTold : ℕ → List Row → RowPlace → Case → List FallenRow → Type 0
    CaseTold columns source place case fell = (given : List Row) → given_rows case.post case.rows source ≡ Some given
        → AllByRecursion (λ numbered. RowTold place given (drop columns case.post) numbered fell) (with_numbers_from 0 (rows_at_place program table place))

    case-stays : (columns : ℕ) (source : List Row) (place : RowPlace) (case : Case) (made next : List FallenRow) → Grows made next
        → CaseTold columns source place case made → CaseTold columns source place case next
    case-stays columns source place case made next grows told given is =
        each-more (λ numbered. RowTold place given (drop columns case.post) numbered made) (λ numbered. RowTold place given (drop columns case.post) numbered next)
        (λ numbered h. row-stays place given (drop columns case.post) numbered made next grows h) (with_numbers_from 0 (rows_at_place program table place)) (told given is)

    numbered-fit : (n count : ℕ) (rows : List Row) → n + length rows ≡ count → AllByRecursion (λ (numbered : ℕ × Row). numbered.0 < count) (with_numbers_from n rows)
    numbered-fit n count [] e = tt
    numbered-fit n count (row ∷ rows) e = (omega (arith, e), numbered-fit (n + 1) count rows (omega (arith, e)))

    case-tells : (columns : ℕ) (source : List Row) (place : RowPlace) (made : List FallenRow) (case : Case)
        → AlwaysPassing (λ next. IsJudged made next × CaseTold columns source place case next) (with_case columns source place (rows_at_place program table place) made case)
    unfolding with_case
    case-tells columns source place made case = by (given_rows case.post case.rows source) refl
      where
        by : (o : Option (List Row)) → given_rows case.post case.rows source ≡ o
            → AlwaysPassing (λ next. IsJudged made next × CaseTold columns source place case next) (with_rows place (rows_at_place program table place) (drop columns case.post) made o)
        by None e = (judged-self made, λ given is. absurd (cc))
        by (Some own) e =
            let rows = rows_at_place program table place in
            let posts = drop columns case.post in
            under-weaker IsPassing (λ next. IsJudged made next × AllByRecursion (λ numbered. RowTold place own posts numbered next) (with_numbers_from 0 rows))
            (λ next. IsJudged made next × CaseTold columns source place case next) (each (with_row place own posts) made (with_numbers_from 0 rows))
            (λ next h. (
              h.0,
              λ given is.
                  let same : own ≡ given = cc in
                  subst (λ g. AllByRecursion (λ numbered. RowTold place g posts numbered next) (with_numbers_from 0 rows)) same h.1,
            ))
            (each-told (RowFits place) (RowTold place own posts) (row-stays place own posts) (with_row place own posts) (row-tells place own posts) made (with_numbers_from 0 rows)
            (numbered-fit 0 (length rows) rows (omega arith)))

    -- ---- a step

    -- the same in each case of the step, if it leads to a place
    abbrev pub StepTold : StepFrom → List FallenRow → Type 0
    StepTold from fell = (place : RowPlace) → place_of from.proc from.step.target ≡ Some place
        → AllByRecursion (λ case. CaseTold (columns_at program from.proc) (rows_at program table from.proc from.node) place case fell) from.step.formula.cases

    step-stays : (from : StepFrom) (made next : List FallenRow) → Grows made next → StepTold from made → StepTold from next
    step-stays from made next grows told place is =
        each-more (λ case. CaseTold (columns_at program from.proc) (rows_at program table from.proc from.node) place case made)
        (λ case. CaseTold (columns_at program from.proc) (rows_at program table from.proc from.node) place case next)
        (λ case h. case-stays (columns_at program from.proc) (rows_at program table from.proc from.node) place case made next grows h) from.step.formula.cases (told place is)

    cases-tell : (columns : ℕ) (source : List Row) (cases : List Case) (place : RowPlace) (made : List FallenRow)
        → AlwaysPassing (λ next. IsJudged made next × AllByRecursion (λ case. CaseTold columns source place case next) cases) (with_cases columns source cases place made (rows_at_place program table place))
    cases-tell columns source cases place made = by (rows_at_place program table place) refl
      where
        none : rows_at_place program table place ≡ [] → (cases : List Case) → AllByRecursion (λ case. CaseTold columns source place case made) cases
        none e [] = tt
        none e (case ∷ cases) =
            ((λ given is. subst (λ rows. AllByRecursion (λ numbered. RowTold place given (drop columns case.post) numbered made) (with_numbers_from 0 rows)) (sym e) tt), none e cases)

        by : (rows : List Row) → rows_at_place program table place ≡ rows
            → AlwaysPassing (λ next. IsJudged made next × AllByRecursion (λ case. CaseTold columns source place case next) cases) (with_cases columns source cases place made rows)
        by [] e = (judged-self made, none e cases)
        by (row ∷ rows) e =
            subst (λ rs. AlwaysPassing (λ next. IsJudged made next × AllByRecursion (λ case. CaseTold columns source place case next) cases) (each (with_case columns source place rs) made cases)) e
            (each-told (λ case. Unit {0}) (CaseTold columns source place) (case-stays columns source place) (with_case columns source place (rows_at_place program table place)) (λ made case fit. case-tells columns source place made case) made cases (each-any (λ case. Unit {0}) (λ case. tt) cases))

    step-tells : (made : List FallenRow) (from : StepFrom) → AlwaysPassing (λ next. IsJudged made next × StepTold from next) (with_step program table made from)
    unfolding with_step
    step-tells made from = by (place_of from.proc from.step.target) refl
      where
        by : (o : Option RowPlace) → place_of from.proc from.step.target ≡ o → AlwaysPassing (λ next. IsJudged made next × StepTold from next) (with_place program table from made o)
        by None e = (judged-self made, λ place is. absurd (cc))
        by (Some place) e =
            let columns = columns_at program from.proc in
            let source = rows_at program table from.proc from.node in
            let cases = from.step.formula.cases in
            under-weaker IsPassing (λ next. IsJudged made next × AllByRecursion (λ case. CaseTold columns source place case next) cases) (λ next. IsJudged made next × StepTold from next)
            (with_cases columns source cases place made (rows_at_place program table place))
            (λ next h. (
              h.0,
              λ other is.
                  let same : place ≡ other = cc in
                  subst (λ p. AllByRecursion (λ case. CaseTold columns source p case next) cases) same h.1,
            ))
            (cases-tell columns source cases place made)

    -- what is told of all steps, and that each row that fell is one of the table
    pub fallen-told : (steps : List StepFrom) → AlwaysPassing (λ fell. AllByRecursion IsThere fell × AllByRecursion (λ from. StepTold from fell) steps) (fallen_rows program table steps)
    fallen-told steps =
        under-weaker IsPassing (λ fell. IsJudged [] fell × AllByRecursion (λ from. StepTold from fell) steps) (λ fell. AllByRecursion IsThere fell × AllByRecursion (λ from. StepTold from fell) steps)
        (fallen_rows program table steps) (λ fell h. (h.0.there tt, h.1))
        (each-told (λ from. Unit {0}) StepTold step-stays (with_step program table) (λ made from fit. step-tells made from) [] steps (each-any (λ from. Unit {0}) (λ from. tt) steps))
