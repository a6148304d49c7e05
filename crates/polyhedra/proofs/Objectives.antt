-- The goals of an objective, and objectives alone, case by case.
use Rattle.std.proofs.Common.{◌≡◌, ℕ, ◌+◌, ◌<◌, List, [], ◌∷◌, ◌++◌, length, get_or, drop, Ok, Err, sym, ap, subst, ◌∙◌, append_assoc}
use Rattle.std.specs.Prelude.{Result, Option, None, Some}
use Rattle.std.proofs.lemmas.List.{drop_more}
use Rattle.items.specs.Gives.{◌>>=◌, FailsBy}
use Rattle.linear_terms.specs.declared.error.TermError.{TermError}
use Rattle.linear_terms.specs.declared.row.Case.{Case}
use Rattle.linear_terms.specs.Expressions.{Made}
use Rattle.linear_terms.specs.Polynomial.{Polynomial}
use Rattle.farkas_check.specs.declared.question.Goal.{Goal}
use Rattle.polyhedra.specs.Bounds.{goals_of, goals_behind}
use Rattle.polyhedra.specs.Kept.{objectives_of, objectives_behind}

module _ {B : Type 0} where
  -- what is made, and then what is stated of the rest
  abbrev behind : List B → Result (List B) TermError → Result (List B) TermError
  behind made more = more >>= λ rest. Ok (made ++ rest)

  one_more : (made : List B) (by : Polynomial → B) (p : Polynomial) (r : Result (List B) TermError) (m : Made) → m ≡ Ok p
      → behind made (m >>= (λ q. r >>= (λ rest. Ok (by q ∷ rest)))) ≡ behind (made ++ by p ∷ []) r
  one_more made by p (Ok rest) m e = ap (λ n. behind made (n >>= (λ q. Ok (by q ∷ rest)))) e ∙ ap (λ all. Ok all) (sym (append_assoc made (by p ∷ []) rest))
  one_more made by p (Err fault) m e = ap (λ n. behind made (n >>= (λ q. Err fault))) e

  failed : (made : List B) (cause : Option TermError) (next : Polynomial → Result (List B) TermError) (m : Made) → FailsBy cause m → FailsBy cause (behind made (m >>= next))
  failed made None next m fails = tt
  failed made (Some fault) next m fails = ap (λ n. behind made (n >>= next)) fails

module _ (objective : Case → Made) where
  here : (cases : List Case) (i : ℕ) (case : Case) → i < length cases → case ≡ get_or cases i case → drop i cases ≡ case ∷ drop (i + 1) cases
  here cases i case within is = drop_more cases i case within ∙ ap (λ c. c ∷ drop (i + 1) cases) (sym is)

  -- the objective of one more case can be made
  module _ (cases : List Case) (i : ℕ) (case : Case) (made : List Goal) (whole : Result (List Goal) TermError)
      (within : i < length cases) (is : case ≡ get_or cases i case) (so_far : goals_behind made (goals_of objective (drop i cases)) ≡ whole) where
    pub goals_of-next : (p : Polynomial) → objective case ≡ Ok p → goals_behind (made ++ record { rows = case.rows; objective = p } ∷ []) (goals_of objective (drop (i + 1) cases)) ≡ whole
    goals_of-next p e =
        sym (one_more made (λ q. record { rows = case.rows; objective = q }) p (goals_of objective (drop (i + 1) cases)) (objective case) e)
        ∙ sym (ap (λ cs. goals_behind made (goals_of objective cs)) (here cases i case within is)) ∙ so_far

  module _ (cases : List Case) (i : ℕ) (case : Case) (made : List Polynomial) (whole : Result (List Polynomial) TermError)
      (within : i < length cases) (is : case ≡ get_or cases i case) (so_far : objectives_behind made (objectives_of objective (drop i cases)) ≡ whole) where
    pub objectives_of-next : (p : Polynomial) → objective case ≡ Ok p → objectives_behind (made ++ p ∷ []) (objectives_of objective (drop (i + 1) cases)) ≡ whole
    objectives_of-next p e =
        sym (one_more made (λ q. q) p (objectives_of objective (drop (i + 1) cases)) (objective case) e)
        ∙ sym (ap (λ cs. objectives_behind made (objectives_of objective cs)) (here cases i case within is)) ∙ so_far

    -- it cannot
    pub objectives_of-fails : (cause : Option TermError) → FailsBy cause (objective case) → FailsBy cause whole
    objectives_of-fails cause fails =
        subst (FailsBy cause) (sym (ap (λ cs. objectives_behind made (objectives_of objective cs)) (here cases i case within is)) ∙ so_far)
        (failed made cause (λ q. objectives_of objective (drop (i + 1) cases) >>= (λ rest. Ok (q ∷ rest))) (objective case) fails)
