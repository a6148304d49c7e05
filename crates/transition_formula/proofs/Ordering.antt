-- What a case that is put in order holds of: all that it held of, and no more where nothing is
-- noted, if its rows are canonical and its auxiliaries numbered.
use Rattle.std.proofs.Common.{◌≡◌, ℕ, zero, suc, Bool, true, false, cond, ℤ, List, [], ◌∷◌, ◌++◌, length, Option, Some, None, Result, Ok, Err, refl, sym, subst, ◌∙◌}
use Rattle.std.specs.Prelude.{IsTrue, slice_get, IfOk, OnOk}
use Rattle.std.specs.List.{remove, cons_option}
use Rattle.std.proofs.lemmas.List.Elements.{recursion_from_All}
use Rattle.linear_terms.specs.declared.error.TermError.{TermError}
use Rattle.linear_terms.specs.declared.row.Row.{Row}
use Rattle.linear_terms.specs.declared.row.Case.{Case}
use Rattle.linear_terms.specs.declared.row.Normal.TheVariants.{Kept}
use Rattle.linear_terms.specs.Auxiliaries.{occurs, put_for}
use Rattle.linear_terms.specs.Operations.{substituted_polynomial}
use Rattle.linear_terms.specs.Polynomial.{Polynomial, IsCanonical}
use Rattle.linear_terms.specs.Row.{normal_form, AreCanonical}
use Rattle.linear_terms.proofs.Canonical.{IsCanonical-substituted}
use Rattle.linear_terms.proofs.Normals.{normal_form-HasCanonicalTerms}
use Rattle.transition_formula.specs.declared.loss.Loss.{Loss}
use Rattle.transition_formula.specs.declared.solving.Solved.{Solved}
use Rattle.transition_formula.specs.declared.error.FormulaError.{FormulaError}
use Rattle.transition_formula.specs.Transition.{fits}
use Rattle.transition_formula.proofs.KeptCases.{kept-fits}
use Rattle.transition_formula.specs.Composition.{rows_by, row_of}
use Rattle.transition_formula.specs.Meaning.{AreTrueLeft, numbers, HoldsCase, HoldsLeft, HoldsSolved}
use Rattle.transition_formula.specs.Order.{first_equation, solution, with_solution}
use Rattle.transition_formula.specs.Rows.{tidied_rows}
use Rattle.transition_formula.specs.Rounds.{with_rows, with_solved, losses_with_solved, round_at, solved_first, round, rounds, in_order, solved_answer, Stays}
use Rattle.transition_formula.proofs.NormalRows.{AreCanonicalEach, tidied-hold, tidied-held, nothing_new}
use Rattle.transition_formula.proofs.Numbers.{numbered}
use Rattle.transition_formula.proofs.RenumberedCases.{renumbered-hold, renumbered-held}
use Rattle.transition_formula.proofs.Rounding.{AllNumbered, found_at, first_equation-row, tidied-numbered, solved-numbered}
use Rattle.transition_formula.proofs.Solutions.{found-can_solve, solved-hold, solved-held}
use Rattle.transition_formula.proofs.TidiedRows.{tidied-keeps}
use Rattle.transition_formula.proofs.Values.{none-of}

-- ---- rows stay canonical

canonical_normal : (row r : Row) → normal_form row ≡ Ok (Kept r) → IsCanonical row.poly.terms → IsCanonical r.poly.terms
canonical_normal row r e k = normal_form-HasCanonicalTerms row (Kept r) k e

tidied-canonical : (rows made : List Row) → (tidied_rows rows).rows ≡ Some made → AreCanonicalEach rows → AreCanonicalEach made
tidied-canonical rows made e k = tidied-keeps (λ p. IsCanonical p.terms) canonical_normal rows made e k

removed-canonical : (rows : List Row) (place : ℕ) → AreCanonicalEach rows → AreCanonicalEach (remove rows place)
removed-canonical [] zero k = tt
removed-canonical [] (suc place) k = tt
removed-canonical (row ∷ rows) zero k = k.1
removed-canonical (row ∷ rows) (suc place) k = (k.0, removed-canonical rows place k.1)

with_solution-canonical : (n : ℕ) (q p r : Polynomial) → with_solution n q p ≡ Ok r → IsCanonical p.terms → IsCanonical r.terms
with_solution-canonical n q p r e k = go (occurs n p) e
  where
    go : (b : Bool) → cond b (substituted_polynomial (put_for n q) p) (Ok p) ≡ Ok r → IsCanonical r.terms
    go true f = IsCanonical-substituted (put_for n q) p r f
    go false f = let same : p ≡ r = cc in subst (λ s. IsCanonical s.terms) same k

rows_by-canonical : (n : ℕ) (q : Polynomial) (rows : List Row) → AreCanonicalEach rows → AreCanonicalEach (rows_by (with_solution n q) rows)
rows_by-canonical n q [] k = tt
rows_by-canonical n q (row ∷ rows) k = go (with_solution n q row.poly) refl (rows_by-canonical n q rows k.1)
  where
    go : (r : Result Polynomial TermError) → with_solution n q row.poly ≡ r → AreCanonicalEach (rows_by (with_solution n q) rows) → AreCanonicalEach (cons_option (row_of row.kind r) (rows_by (with_solution n q) rows))
    go (Ok p) e later = (with_solution-canonical n q row.poly p e k.0, later)
    go (Err x) e later = later

solved-canonical : (r : Result Polynomial TermError) (n : ℕ) (case : Case) → AreCanonicalEach case.rows → AreCanonicalEach (with_solved r n case).rows
solved-canonical (Ok q) n case k = rows_by-canonical n q case.rows k
solved-canonical (Err e) n case k = k

-- ---- a round

-- a case of which the law holds
record IsReady (case : Case) : Type 0 where
  canonical : AreCanonicalEach case.rows
  numbered_all : AllNumbered case

ready-tidied : (case : Case) (rows : List Row) → (tidied_rows case.rows).rows ≡ Some rows → IsReady case → IsReady (with_rows case rows)
ready-tidied case rows e ready = record {
  canonical = tidied-canonical case.rows rows e ready.canonical;
  numbered_all = tidied-numbered case (with_rows case rows) (record { rows = sym e; same = refl }) ready.numbered_all;
}

ready-solved : (case : Case) (place n : ℕ) (row : Row) → Some row ≡ slice_get case.rows place → IsReady case → IsReady (with_solved (solution row.poly n) n (with_rows case (remove case.rows place)))
ready-solved case place n row is ready = record {
  canonical = solved-canonical (solution row.poly n) n (with_rows case (remove case.rows place)) (removed-canonical case.rows place ready.canonical);
  numbered_all = solved-numbered case (with_solved (solution row.poly n) n (with_rows case (remove case.rows place))) place n row ready.numbered_all is refl;
}

-- the equation that is found stands there
none_there : {X : Type 0} (place n : ℕ) (rows : List Row) → found_at place n ≡ first_equation rows → None ≡ slice_get rows place → X
none_there place n rows found none = go (first_equation-row rows place n found).1.0 (first_equation-row rows place n found).1.1
  where
    go : {X : Type 0} (row : Row) → Some row ≡ slice_get rows place → X
    go row is = let both : Some row ≡ None = is ∙ sym none in cc

module _ (before after : List ℤ) where
  -- of all that the case held of
  rounds-hold : (n : ℕ) (case : Case) → IsReady case → HoldsCase case before after → HoldsLeft (rounds n case).left before after
  rounds-hold zero case ready h = renumbered-hold case (numbered case ready.numbered_all) before after h
  rounds-hold (suc n) case ready (aux, h) =
      go (tidied_rows case.rows).rows refl (tidied-hold (numbers before aux) case.rows ready.canonical h.rows) (λ next k. rounds-hold n next k)
    where
      at_equation : (left : Case) (place m : ℕ) (o : Option Row) → o ≡ slice_get left.rows place → found_at place m ≡ first_equation left.rows → IsReady left → HoldsCase left before after
          → ((next : Case) → IsReady next → HoldsCase next before after → HoldsLeft (rounds n next).left before after) → HoldsLeft (round_at (rounds n) (with_rows left (remove left.rows place)) m o).left before after
      at_equation left place m None e found k held ih = none_there place m left.rows found e
      at_equation left place m (Some row) e found k held ih =
          ih (with_solved (solution row.poly m) m (with_rows left (remove left.rows place))) (ready-solved left place m row e k)
          (solved-hold left place m row k.numbered_all (found-can_solve left.rows place m row found e) e before after held)

      first : (left : Case) (o : Option (ℕ × ℕ)) → o ≡ first_equation left.rows → IsReady left → HoldsCase left before after
          → ((next : Case) → IsReady next → HoldsCase next before after → HoldsLeft (rounds n next).left before after) → HoldsLeft (solved_first (rounds n) left o).left before after
      first left None e k held ih = renumbered-hold left (numbered left k.numbered_all) before after held
      first left (Some found) e k held ih = at_equation left found.0 found.1 (slice_get left.rows found.0) refl e k held ih

      go : (o : Option (List Row)) → (tidied_rows case.rows).rows ≡ o → AreTrueLeft (numbers before aux) o
          → ((next : Case) → IsReady next → HoldsCase next before after → HoldsLeft (rounds n next).left before after) → HoldsLeft (round (rounds n) case o).left before after
      go None e left ih = absurd left
      go (Some rows) e left ih = first (with_rows case rows) (first_equation rows) refl (ready-tidied case rows e ready) (aux, record { rows = left; posts = h.posts }) ih

  -- and of no more
  rounds-held : (n : ℕ) (case : Case) → IsReady case → (rounds n case).losses ≡ [] → HoldsLeft (rounds n case).left before after → HoldsCase case before after
  rounds-held zero case ready none h = renumbered-held case before after h
  rounds-held (suc n) case ready none h =
      let parts = none-of (tidied_rows case.rows).losses (round (rounds n) case (tidied_rows case.rows).rows).losses none in
      go (tidied_rows case.rows).rows refl parts.0 parts.1 h (λ next k m l. rounds-held n next k m l)
    where
      at_equation : (left : Case) (place m : ℕ) (o : Option Row) → o ≡ slice_get left.rows place → found_at place m ≡ first_equation left.rows → IsReady left
          → (round_at (rounds n) (with_rows left (remove left.rows place)) m o).losses ≡ [] → HoldsLeft (round_at (rounds n) (with_rows left (remove left.rows place)) m o).left before after
          → ((next : Case) → IsReady next → (rounds n next).losses ≡ [] → HoldsLeft (rounds n next).left before after → HoldsCase next before after) → HoldsCase left before after
      at_equation left place m None e found k lost held ih = none_there place m left.rows found e
      at_equation left place m (Some row) e found k lost held ih =
          let next = with_solved (solution row.poly m) m (with_rows left (remove left.rows place)) in
          let parts = none-of (losses_with_solved (solution row.poly m) m (with_rows left (remove left.rows place))) (rounds n next).losses lost in
          solved-held left place m row k.numbered_all (found-can_solve left.rows place m row found e) e before after parts.0 (ih next (ready-solved left place m row e k) parts.1 held)

      first : (left : Case) (o : Option (ℕ × ℕ)) → o ≡ first_equation left.rows → IsReady left → (solved_first (rounds n) left o).losses ≡ [] → HoldsLeft (solved_first (rounds n) left o).left before after
          → ((next : Case) → IsReady next → (rounds n next).losses ≡ [] → HoldsLeft (rounds n next).left before after → HoldsCase next before after) → HoldsCase left before after
      first left None e k lost held ih = renumbered-held left before after held
      first left (Some found) e k lost held ih = at_equation left found.0 found.1 (slice_get left.rows found.0) refl e k lost held ih

      back : (rows : List Row) → (tidied_rows case.rows).rows ≡ Some rows → (tidied_rows case.rows).losses ≡ [] → HoldsCase (with_rows case rows) before after → HoldsCase case before after
      back rows e lost (aux, k) = (
        aux,
        record {
          rows = tidied-held (numbers before aux) case.rows ready.canonical lost (subst (AreTrueLeft (numbers before aux)) (sym e) k.rows);
          posts = k.posts;
        },
      )

      go : (o : Option (List Row)) → (tidied_rows case.rows).rows ≡ o → (tidied_rows case.rows).losses ≡ [] → (round (rounds n) case o).losses ≡ [] → HoldsLeft (round (rounds n) case o).left before after
          → ((next : Case) → IsReady next → (rounds n next).losses ≡ [] → HoldsLeft (rounds n next).left before after → HoldsCase next before after) → HoldsCase case before after
      go None e lost more held ih = absurd held
      go (Some rows) e lost more held ih = back rows e lost (first (with_rows case rows) (first_equation rows) refl (ready-tidied case rows e ready) more held ih)

-- ---- the laws

ready : (case : Case) → AreCanonical case.rows → AllNumbered case → IsReady case
ready case k all = record { canonical = recursion_from_All (λ (row : Row). IsCanonical row.poly.terms) case.rows k; numbered_all = all }

-- a case put in order holds of all that it held of; so where none is left it held of nothing
pub in_order-holds : (case : Case) → AreCanonical case.rows → AllNumbered case → (before after : List ℤ) → HoldsCase case before after → HoldsLeft (in_order case).left before after
in_order-holds case k all before after h = rounds-hold before after (length case.rows) case (ready case k all) h

-- and of no more where nothing is noted
pub in_order-held : (case : Case) → AreCanonical case.rows → AllNumbered case → (in_order case).losses ≡ [] → (before after : List ℤ) → HoldsLeft (in_order case).left before after → HoldsCase case before after
in_order-held case k all none before after h = rounds-held before after (length case.rows) case (ready case k all) none h

-- ---- for the code: what an exact answer says

pub in_order-IfOk : (case : Case) (r : Result Solved FormulaError) → AreCanonical case.rows → AllNumbered case → IfOk r (λ made. made ≡ solved_answer (in_order case).left)
    → (before after : List ℤ) → IfOk r (λ made. HoldsCase case before after → HoldsSolved made before after)
in_order-IfOk case (Err e) k all exact before after = tt
in_order-IfOk case (Ok made) k all exact before after = λ h. subst (λ s. HoldsSolved s before after) (sym exact) (left_is (in_order case).left (in_order-holds case k all before after h))
  where
    left_is : (o : Option Case) → HoldsLeft o before after → HoldsSolved (solved_answer o) before after
    left_is None held = held
    left_is (Some left) held = held

pub in_order-IfOk-most : (case : Case) (r : Result Solved FormulaError) (old new : List Loss) → AreCanonical case.rows → AllNumbered case → IfOk r (λ made. made ≡ solved_answer (in_order case).left)
    → OnOk r (new ≡ old ++ (in_order case).losses) → (before after : List ℤ) → new ≡ old → IfOk r (λ made. HoldsSolved made before after → HoldsCase case before after)
in_order-IfOk-most case (Err e) old new k all exact noted before after same = tt
in_order-IfOk-most case (Ok made) old new k all exact noted before after same = λ h.
    in_order-held case k all (nothing_new old new (in_order case).losses noted same) before after (left_is (in_order case).left (subst (λ s. HoldsSolved s before after) exact h))
  where
    left_is : (o : Option Case) → HoldsSolved (solved_answer o) before after → HoldsLeft o before after
    left_is None held = held
    left_is (Some left) held = held

pub in_order-IfOk-fits : (case : Case) (r : Result Solved FormulaError) → IfOk r (λ made. made ≡ solved_answer (in_order case).left) → (from to : ℕ) → IsTrue (fits from to case) → IfOk r (Stays (λ c. IsTrue (fits from to c)))
in_order-IfOk-fits case (Err e) exact from to h = tt
in_order-IfOk-fits case (Ok made) exact from to h = kept-fits from to case made h exact
