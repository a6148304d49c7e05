-- Formulas that are fitted, or whose auxiliaries are few, can be put in order.
use Rattle.std.proofs.Common.{ℕ, ◌+◌, ◌<◌, ◌≤◌, ◌^◌, List, [], ◌∷◌, length, arith, refl}
use Rattle.std.specs.Prelude.{IsTrue, ◌&&◌, nat_le}
use Rattle.std.specs.List.{AllByRecursion, list_all}
use Rattle.std.proofs.lemmas.Bool.{leb-true}
use Rattle.std.proofs.lemmas.List.Elements.{All-from_recursion}
use Rattle.linear_terms.specs.declared.col.Col.{Col}
use Rattle.linear_terms.specs.declared.col.Col.TheVariants.{At, Aux}
use Rattle.linear_terms.specs.declared.row.Case.{Case}
use Rattle.linear_terms.specs.Auxiliaries.{is_numbered}
use Rattle.transition_formula.specs.Transition.{every_column, is_below, fits, IsFitted, IsSolvable, AreSolvable, IsTransition}
use Rattle.transition_formula.proofs.ColumnTests.{both, both_true, more_columns, more_columns_of, all_more}
use Rattle.transition_formula.proofs.Fitting.{fitting}

below-numbered : (from aux : ℕ) (c : Col) → IsTrue (is_below from aux c) → IsTrue (is_numbered aux c)
below-numbered from aux (At n) h = refl
below-numbered from aux (Aux n) h = h

-- a case that fits, with so few auxiliaries
pub fits-solvable : (from to : ℕ) (case : Case) → IsTrue (fits from to case) → case.aux + to < 2 ^ 32 → IsSolvable case
fits-solvable from to case h few =
    let f = fitting from to case h in
    record {
      numbered =
          both_true (list_all (λ row. every_column (is_numbered case.aux) row.poly) case.rows) (list_all (every_column (is_numbered case.aux)) case.post)
          (more_columns_of (is_below from case.aux) (is_numbered case.aux) (below-numbered from case.aux) case.rows f.rows_are)
          (all_more (every_column (is_below from case.aux)) (every_column (is_numbered case.aux)) (λ p. more_columns (is_below from case.aux) (is_numbered case.aux) (below-numbered from case.aux) p) case.post f.posts_are);
      few = let long = f.length_is in omega arith;
    }

le_true : (a b : ℕ) → IsTrue (nat_le a b) → a ≤ b
le_true a b h = leb-true a b h

-- a formula of which each case has few auxiliaries can be put in order
solvable_each : (from to : ℕ) (cases : List Case) → to < 2 ^ 31 → IsTransition from to cases → IsTrue (list_all (λ case. nat_le (length case.rows) 64 && nat_le case.aux 64) cases) → AllByRecursion IsSolvable cases
solvable_each from to [] small h few = tt
solvable_each from to (case ∷ cases) small h few =
    let parts = both (fits from to case) (list_all (fits from to) cases) h in
    let fews = both (nat_le (length case.rows) 64 && nat_le case.aux 64) (list_all (λ c. nat_le (length c.rows) 64 && nat_le c.aux 64) cases) few in
    let here = le_true case.aux 64 (both (nat_le (length case.rows) 64) (nat_le case.aux 64) fews.0).1 in
    (fits-solvable from to case parts.0 (omega arith), solvable_each from to cases small parts.1 fews.1)

pub fitted-solvable : (from to : ℕ) (cases : List Case) → to < 2 ^ 31 → IsTransition from to cases → IsFitted cases → AreSolvable cases
fitted-solvable from to cases small h fit =
    All-from_recursion IsSolvable cases (solvable_each from to cases small h (both (nat_le (length cases) 16) (list_all (λ case. nat_le (length case.rows) 64 && nat_le case.aux 64) cases) fit).1)
