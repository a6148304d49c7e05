-- A case whose rows are canonical has canonical rows when it is put in order, settled, thinned or
-- cut.
use Rattle.std.proofs.Common.{◌≡◌, ℕ, zero, suc, Bool, true, false, cond, map, List, [], ◌∷◌, ◌++◌, length, take, Option, Some, None, Result, Ok, Err, refl, subst}
use Rattle.std.specs.Prelude.{IsTrue, slice_get, option_to_list}
use Rattle.std.specs.List.{AllByRecursion, remove, cons_option, list_any}
use Rattle.items.proofs.Each.{each-append}
use Rattle.linear_terms.specs.declared.error.TermError.{TermError}
use Rattle.linear_terms.specs.declared.row.Row.{Row}
use Rattle.linear_terms.specs.declared.row.Case.{Case}
use Rattle.linear_terms.specs.declared.row.Normal.TheVariants.{Kept}
use Rattle.linear_terms.specs.Auxiliaries.{occurs, put_for}
use Rattle.linear_terms.specs.Operations.{substituted_polynomial}
use Rattle.linear_terms.specs.Polynomial.{Polynomial, IsCanonical}
use Rattle.linear_terms.specs.Row.{normal_form}
use Rattle.linear_terms.proofs.Canonical.{IsCanonical-substituted}
use Rattle.linear_terms.proofs.Normals.{normal_form-HasCanonicalTerms}
use Rattle.linear_terms.proofs.Numbering.{IsCanonical-renumbered, Keeps, terms_occur}
use Rattle.transition_formula.specs.Composition.{Operation, rows_by, row_of}
use Rattle.transition_formula.specs.Order.{first_equation, solution, with_solution}
use Rattle.transition_formula.specs.Renumbering.{new_number, occurs_in, renumbered_case, renumbered_row}
use Rattle.transition_formula.specs.Rounds.{in_order, round, rounds, round_at, solved_first, with_rows, with_solved}
use Rattle.transition_formula.specs.Rows.{tidied_rows}
use Rattle.transition_formula.specs.Transition.{Transition}
use Rattle.transition_formula.proofs.Loops.{or_left, or_right}
use Rattle.transition_formula.proofs.Numbers.{count_below-keeps}
use Rattle.transition_formula.proofs.TidiedRows.{tidied-keeps}
use Rattle.posing.specs.Posing.{Done, ◌>>=◌, Always}
use Rattle.posing.proofs.Paths.{always_any, always_bind, always_each}
use Rattle.polyhedra.specs.Finish.{cut, finished_left}
use Rattle.polyhedra.specs.Finish as finish
use Rattle.polyhedra.specs.Infeasibility.{infeasible}
use Rattle.polyhedra.specs.Settle.{feasible, feasible_by, feasible_left, settled_formula, settled_case, settled_cases, unless, with_settled}
use Rattle.polyhedra.specs.Thin.{thinned_case, thinned_rows}
use Rattle.polyhedra.proofs.ThinLaws.{thinned_rows-keep}

-- each row has its monomials in print order, each once
abbrev pub IsCanonicalRow : Row → Type 0
IsCanonicalRow row = IsCanonical row.poly.terms

abbrev pub IsCanonicalCase : Case → Type 0
IsCanonicalCase case = AllByRecursion IsCanonicalRow case.rows

abbrev pub AreCanonicalCases : List Case → Type 0
AreCanonicalCases cases = AllByRecursion IsCanonicalCase cases

abbrev pub IsCanonicalIf : Option Case → Type 0
IsCanonicalIf None = Unit {0}
IsCanonicalIf (Some case) = IsCanonicalCase case

-- ---- operations on rows

pub removed-canonical : (rows : List Row) (place : ℕ) → AllByRecursion IsCanonicalRow rows → AllByRecursion IsCanonicalRow (remove rows place)
removed-canonical [] zero k = tt
removed-canonical [] (suc place) k = tt
removed-canonical (row ∷ rows) zero k = k.1
removed-canonical (row ∷ rows) (suc place) k = (k.0, removed-canonical rows place k.1)

-- an operation that makes canonical polynomials of such
abbrev pub KeepsCanonical : Operation → Type 0
KeepsCanonical op = (p r : Polynomial) → op p ≡ Ok r → IsCanonical p.terms → IsCanonical r.terms

pub rows_by-canonical : (op : Operation) → KeepsCanonical op → (rows : List Row) → AllByRecursion IsCanonicalRow rows → AllByRecursion IsCanonicalRow (rows_by op rows)
rows_by-canonical op keeps [] k = tt
rows_by-canonical op keeps (row ∷ rows) k = go (op row.poly) refl (rows_by-canonical op keeps rows k.1)
  where
    go : (r : Result Polynomial TermError) → op row.poly ≡ r → AllByRecursion IsCanonicalRow (rows_by op rows) → AllByRecursion IsCanonicalRow (cons_option (row_of row.kind r) (rows_by op rows))
    go (Ok p) e later = (keeps row.poly p e k.0, later)
    go (Err x) e later = later

-- ---- a case put in order

canonical-normal : (row r : Row) → normal_form row ≡ Ok (Kept r) → IsCanonical row.poly.terms → IsCanonical r.poly.terms
canonical-normal row r e k = normal_form-HasCanonicalTerms row (Kept r) k e

with_solution-canonical : (n : ℕ) (q : Polynomial) → KeepsCanonical (with_solution n q)
with_solution-canonical n q p r e k = go (occurs n p) e
  where
    go : (b : Bool) → cond b (substituted_polynomial (put_for n q) p) (Ok p) ≡ Ok r → IsCanonical r.terms
    go true f = IsCanonical-substituted (put_for n q) p r f
    go false f = let same : p ≡ r = cc in subst (λ s. IsCanonical s.terms) same k

solved-canonical : (r : Result Polynomial TermError) (n : ℕ) (case : Case) → IsCanonicalCase case → IsCanonicalCase (with_solved r n case)
solved-canonical (Ok q) n case k = rows_by-canonical (with_solution n q) (with_solution-canonical n q) case.rows k
solved-canonical (Err e) n case k = k

module _ (case : Case) where
  abbrev Occurs : ℕ → Type 0
  Occurs n = IsTrue (occurs_in case n)

  keeps-order : Keeps (new_number case) Occurs
  keeps-order = record { order = λ m n h k lt. count_below-keeps (occurs_in case) m n h lt }

  rows-renumbered : (rows : List Row) → ((n : ℕ) → IsTrue (list_any (λ row. occurs n row.poly) rows) → Occurs n) → AllByRecursion IsCanonicalRow rows
      → AllByRecursion IsCanonicalRow (map (renumbered_row (new_number case)) rows)
  rows-renumbered [] there k = tt
  rows-renumbered (row ∷ rows) there k = (
    IsCanonical-renumbered (new_number case) Occurs keeps-order row.poly.terms
        (terms_occur Occurs row.poly.terms (λ n h. there n (or_left (occurs n row.poly) (list_any (λ r. occurs n r.poly) rows) h))) k.0,
    rows-renumbered rows (λ n h. there n (or_right (occurs n row.poly) (list_any (λ r. occurs n r.poly) rows) h)) k.1,
  )

  pub renumbered-canonical : IsCanonicalCase case → IsCanonicalCase (renumbered_case case)
  renumbered-canonical k = rows-renumbered case.rows (λ n h. or_left (list_any (λ row. occurs n row.poly) case.rows) (list_any (occurs n) case.post) h) k

rounds-canonical : (n : ℕ) (case : Case) → IsCanonicalCase case → IsCanonicalIf (rounds n case).left
rounds-canonical zero case k = renumbered-canonical case k
rounds-canonical (suc n) case k = go (tidied_rows case.rows).rows refl (λ next l. rounds-canonical n next l)
  where
    at_equation : (left : Case) (m : ℕ) (o : Option Row) → IsCanonicalCase left → ((next : Case) → IsCanonicalCase next → IsCanonicalIf (rounds n next).left) → IsCanonicalIf (round_at (rounds n) left m o).left
    at_equation left m None l ih = renumbered-canonical left l
    at_equation left m (Some row) l ih = ih (with_solved (solution row.poly m) m left) (solved-canonical (solution row.poly m) m left l)

    first : (left : Case) (o : Option (ℕ × ℕ)) → IsCanonicalCase left → ((next : Case) → IsCanonicalCase next → IsCanonicalIf (rounds n next).left) → IsCanonicalIf (solved_first (rounds n) left o).left
    first left None l ih = renumbered-canonical left l
    first left (Some found) l ih = at_equation (with_rows left (remove left.rows found.0)) found.1 (slice_get left.rows found.0) (removed-canonical left.rows found.0 l) ih

    go : (o : Option (List Row)) → (tidied_rows case.rows).rows ≡ o → ((next : Case) → IsCanonicalCase next → IsCanonicalIf (rounds n next).left) → IsCanonicalIf (round (rounds n) case o).left
    go None e ih = tt
    go (Some rows) e ih = first (with_rows case rows) (first_equation rows) (tidied-keeps (λ p. IsCanonical p.terms) canonical-normal case.rows rows e k) ih

pub in_order-canonical : (case : Case) → IsCanonicalCase case → IsCanonicalIf (in_order case).left
in_order-canonical case k = rounds-canonical (length case.rows) case k

-- ---- settled

unless-canonical : (case : Case) (drops : Bool) → IsCanonicalCase case → IsCanonicalIf (unless drops case)
unless-canonical case true k = tt
unless-canonical case false k = k

feasible-canonical : (case : Case) → IsCanonicalCase case → Always IsCanonicalIf (feasible case)
unfolding feasible
feasible-canonical case k = go case.rows
  where
    go : (rows : List Row) → Always IsCanonicalIf (feasible_by case rows)
    go [] = k
    go (row ∷ rows) =
        always_bind (λ drops. Unit {0}) IsCanonicalIf (infeasible case.rows) (λ drops. Done (unless drops case)) (always_any (λ drops. Unit {0}) (infeasible case.rows) (λ drops. tt))
        (λ drops any. unless-canonical case drops k)

settled_case-canonical : (case : Case) → IsCanonicalCase case → Always IsCanonicalIf (settled_case case)
unfolding settled_case
settled_case-canonical case k = go (in_order case).left (in_order-canonical case k)
  where
    go : (o : Option Case) → IsCanonicalIf o → Always IsCanonicalIf (feasible_left o)
    go None h = tt
    go (Some left) h = feasible-canonical left h

abbrev AreLeft : List Case → List Case → Type 0
AreLeft rest made = AreCanonicalCases rest × AreCanonicalCases made

with_settled-canonical : (case : Case) (rest made : List Case) → AreLeft (case ∷ rest) made → Always (AreLeft rest) (with_settled made case)
unfolding with_settled
with_settled-canonical case rest made h =
    always_bind IsCanonicalIf (AreLeft rest) (settled_case case) (λ left. Done (made ++ option_to_list left)) (settled_case-canonical case h.0.0)
    (λ left k. (h.0.1, each-append IsCanonicalCase made (option_to_list left) h.1 (listed left k)))
  where
    listed : (left : Option Case) → IsCanonicalIf left → AreCanonicalCases (option_to_list left)
    listed None k = tt
    listed (Some left) k = (k, tt)

abbrev pub IsCanonicalFormula : Transition → Type 0
IsCanonicalFormula f = AreCanonicalCases f.cases

pub settled-canonical : (f : Transition) → IsCanonicalFormula f → Always IsCanonicalFormula (settled_formula f)
unfolding settled_formula
settled-canonical f h =
    always_bind (AreLeft []) IsCanonicalFormula (settled_cases f.cases) (λ cases. Done record { from = f.from; to = f.to; cases = cases })
    (always_each AreLeft with_settled [] f.cases (λ case rest made k. with_settled-canonical case rest made k) (h, tt)) (λ cases k. k.1)

-- ---- finished

first-canonical : (n : ℕ) (rows : List Row) → AllByRecursion IsCanonicalRow rows → AllByRecursion IsCanonicalRow (take n rows)
first-canonical zero rows h = tt
first-canonical (suc n) [] h = h
first-canonical (suc n) (row ∷ rows) h = (h.0, first-canonical n rows h.1)

thinned-canonical : (case : Case) → IsCanonicalCase case → Always IsCanonicalCase (thinned_case case)
unfolding thinned_case
thinned-canonical case k =
    always_bind (AllByRecursion IsCanonicalRow) IsCanonicalCase (thinned_rows case.rows) (λ rows. Done record { aux = case.aux; rows = rows; post = case.post })
    (thinned_rows-keep (AllByRecursion IsCanonicalRow) removed-canonical case.rows k) (λ rows h. h)

pub finished-canonical : (case : Case) → IsCanonicalCase case → Always IsCanonicalIf (finish.finish_of_case case)
unfolding finish.finish_of_case cut ◌>>=◌
finished-canonical case k = go (in_order case).left (in_order-canonical case k)
  where
    go : (o : Option Case) → IsCanonicalIf o → Always IsCanonicalIf (finished_left o)
    go None h = tt
    go (Some left) h =
        always_bind IsCanonicalCase IsCanonicalIf (thinned_case left) (λ thin. cut thin >>= λ kept. Done (Some kept)) (thinned-canonical left h)
        (λ thin l. first-canonical 64 thin.rows l)
