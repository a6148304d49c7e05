-- Cases that exclude an inequality on their posts end where it is false.
use Rattle.std.proofs.Common.{◌≡◌, ℕ, zero, suc, ℤ, pos, Bool, true, false, List, [], ◌∷◌, ◌++◌, length, map, Option, Some, None, Ok, Err, refl, sym, ap, subst, ◌∙◌, inl, inr, arith, ◌≤ℤ◌}
use Rattle.std.specs.Prelude.{IsTrue, slice_get, unwrap_or, if◌then◌else◌}
use Rattle.std.specs.List.{AllByRecursion, list_all}
use Rattle.std.proofs.lemmas.List.Elements.{All-from_recursion}
use Rattle.std.proofs.lemmas.List.Folds.{list_all-append}
use Rattle.items.proofs.Each.{each-append}
use Rattle.linear_terms.specs.declared.col.Col.{Col}
use Rattle.linear_terms.specs.declared.col.Col.TheVariants.{At, Aux}
use Rattle.linear_terms.specs.declared.row.Row.{Row}
use Rattle.linear_terms.specs.declared.row.Case.{Case}
use Rattle.linear_terms.specs.Auxiliaries.{is_numbered}
use Rattle.linear_terms.specs.Expressions.{Made}
use Rattle.linear_terms.specs.Operations.{substituted_polynomial}
use Rattle.linear_terms.specs.Polynomial.{Polynomial, constant_of}
use Rattle.linear_terms.specs.Replacement.{put_in}
use Rattle.linear_terms.specs.Row.{RowHolds, AreCanonical}
use Rattle.linear_terms.specs.Value.{Valuation, value_of}
use Rattle.linear_terms.proofs.Canonical.{IsCanonical-substituted}
use Rattle.linear_terms.proofs.Values.{substituted-value}
use Rattle.transition_formula.specs.Meaning.{numbers, HoldsCase, HoldsLeft, HoldsSome}
use Rattle.transition_formula.specs.Rounds.{in_order}
use Rattle.transition_formula.specs.Transition.{every_column, is_below, IsSolvable}
use Rattle.transition_formula.proofs.ColumnTests.{both, both_true, substituted-carries}
use Rattle.transition_formula.proofs.Fitting.{test_of_get, true-below}
use Rattle.transition_formula.proofs.Ordering.{in_order-holds}
use Rattle.posing.specs.Posing.{Done, ◌>>=◌, Always}
use Rattle.posing.proofs.Paths.{always_bind, always_weaker}
use Rattle.polyhedra.specs.Infeasibility.{assent}
use Rattle.polyhedra.proofs.SettleLaws.{Excluded, infeasible-excludes}
use Rattle.phases.specs.Phases.{case_excludes, case_excludes_by, case_where, cases_exclude, left_excludes, rows_exclude}
use Rattle.phases.specs.Splits.{inequality}
use Rattle.phases.specs.Words.{AreExcludable, IsExcludable}
use Rattle.phases.proofs.BodiesWhere.{IsTrueAt}
use Rattle.recurrence.proofs.CanonicalOrder.{IsCanonicalCase, IsCanonicalRow}

-- ---- the inequality on the posts

got : (f : Polynomial → ℤ) (d : Polynomial) (ps : List Polynomial) (n : ℕ) → f d ≡ pos 0 → f (unwrap_or (slice_get ps n) d) ≡ unwrap_or (slice_get (map f ps) n) (pos 0)
got f d [] n e = e
got f d (p ∷ ps) zero e = refl
got f d (p ∷ ps) (suc n) e = got f d ps n e

-- the posts stand for the columns of the state after
module _ (case : Case) (at : Valuation) (after : List ℤ) (posts : map (value_of at) case.post ≡ after) where
  seen : (c : Col) → value_of at (put_in case.post [] c) ≡ numbers after (λ n. pos 0) c
  seen (At n) = got (value_of at) (constant_of (pos 0)) case.post n refl ∙ ap (λ xs. unwrap_or (slice_get xs n) (pos 0)) posts
  seen (Aux n) = refl

  after-value : (q r : Polynomial) → substituted_polynomial (put_in case.post []) q ≡ Ok r → value_of at r ≡ value_of (numbers after (λ n. pos 0)) q
  after-value q r e = substituted-value at (put_in case.post []) q r e ∙ (λ i. value_of (λ c. seen c i) q)

-- ---- the case with it can be put in order

module _ (q r : Polynomial) (case : Case) (made : substituted_polynomial (put_in case.post []) q ≡ Ok r) (is : IsExcludable q case) where
  abbrev AllPosts : Type 0
  AllPosts = IsTrue (list_all (every_column (is_numbered case.aux)) case.post)

  put-numbered : AllPosts → (c : Col) → IsTrue (is_below (length case.post) 0 c) → IsTrue (every_column (is_numbered case.aux) (put_in case.post [] c))
  put-numbered all (At n) h = test_of_get (every_column (is_numbered case.aux)) (constant_of (pos 0)) case.post n all (true-below n (length case.post) h)
  put-numbered all (Aux n) h = let lt = true-below n 0 h in absurd (omega (arith, lt))

  pub excluded-solvable : IsSolvable (case_where r case)
  excluded-solvable =
      let parts = both (list_all (λ (row : Row). every_column (is_numbered case.aux) row.poly) case.rows) (list_all (every_column (is_numbered case.aux)) case.post) is.solvable.numbered in
      record {
        numbered =
            both_true (list_all (λ (row : Row). every_column (is_numbered case.aux) row.poly) (case.rows ++ inequality r ∷ [])) (list_all (every_column (is_numbered case.aux)) case.post)
            (list_all-append (λ (row : Row). every_column (is_numbered case.aux) row.poly) case.rows (inequality r ∷ [])
            ∙ both_true (list_all (λ (row : Row). every_column (is_numbered case.aux) row.poly) case.rows) _ parts.0
            (both_true (every_column (is_numbered case.aux) r) true
            ((substituted-carries (put_in case.post []) (is_below (length case.post) 0) (is_numbered case.aux) (put-numbered parts.1)).to q r made is.over) refl))
            parts.1;
        few = is.solvable.few;
      }

-- ---- what the answers say

-- no state after is one where the inequality is true
abbrev pub Excludes : Polynomial → Case → Bool → Type 0
Excludes q case excluded = IsTrue excluded → (before after : List ℤ) → HoldsCase case before after → IsTrueAt q after → ⊥

-- nothing is left that holds
abbrev HoldsNothing : Option Case → Bool → Type 0
HoldsNothing left excluded = IsTrue excluded → (before after : List ℤ) → HoldsLeft left before after → ⊥

rows_exclude-all : (rows : List Row) → Always (Excluded rows) (rows_exclude rows)
unfolding assent ◌>>=◌
rows_exclude-all [] = λ told. cc
rows_exclude-all (row ∷ rows) = infeasible-excludes (row ∷ rows)

left-holds_nothing : (left : Option Case) → Always (HoldsNothing left) (left_excludes left)
left-holds_nothing None = λ told before after h. h
left-holds_nothing (Some case) =
    always_weaker (Excluded case.rows) (HoldsNothing (Some case)) (rows_exclude case.rows) (λ b excluded told before after h. excluded told (numbers before h.0) h.1.rows) (rows_exclude-all case.rows)

case_excludes-true : (q : Polynomial) (case : Case) → IsExcludable q case → IsCanonicalCase case → Always (Excludes q case) (case_excludes q case)
unfolding case_excludes
case_excludes-true q case is canonical = go (substituted_polynomial (put_in case.post []) q) refl
  where
    whole : (r : Polynomial) → substituted_polynomial (put_in case.post []) q ≡ Ok r → (before after : List ℤ) → HoldsCase case before after → IsTrueAt q after → HoldsCase (case_where r case) before after
    whole r e before after (aux, h) there =
        let true_here : RowHolds (numbers before aux) (inequality r) = subst (λ z. z ≤ℤ pos 0) (sym (after-value case (numbers before aux) after h.posts q r e)) there in
        (aux, record { rows = each-append (RowHolds (numbers before aux)) case.rows (inequality r ∷ []) h.rows (true_here, tt); posts = h.posts })

    rows : (r : Polynomial) → substituted_polynomial (put_in case.post []) q ≡ Ok r → AreCanonical (case_where r case).rows
    rows r e = All-from_recursion IsCanonicalRow (case_where r case).rows (each-append IsCanonicalRow case.rows (inequality r ∷ []) canonical (IsCanonical-substituted (put_in case.post []) q r e, tt))

    go : (m : Made) → substituted_polynomial (put_in case.post []) q ≡ m → Always (Excludes q case) (case_excludes_by case m)
    go (Ok r) e =
        always_weaker (HoldsNothing (in_order (case_where r case)).left) (Excludes q case) (left_excludes (in_order (case_where r case)).left)
        (λ b none told before after h there.
        none told before after (in_order-holds (case_where r case) (rows r e) (excluded-solvable q r case e is).numbered before after (whole r e before after h there)))
        (left-holds_nothing (in_order (case_where r case)).left)
    go (Err x) e = λ told. cc

-- all cases
abbrev pub ExcludesAll : Polynomial → List Case → Bool → Type 0
ExcludesAll q cases excluded = IsTrue excluded → (before after : List ℤ) → HoldsSome cases before after → IsTrueAt q after → ⊥

pub cases_exclude-true : (q : Polynomial) (cases : List Case) → AreExcludable q cases → AllByRecursion IsCanonicalCase cases → Always (ExcludesAll q cases) (cases_exclude q cases)
cases_exclude-true q [] is canonical = λ told before after h there. h
cases_exclude-true q (case ∷ cases) is canonical =
    always_bind (Excludes q case) (ExcludesAll q (case ∷ cases)) (case_excludes q case) (λ excluded. if excluded then cases_exclude q cases else Done false)
    (case_excludes-true q case is.0 canonical.0) (λ b one. go b one (cases_exclude-true q cases is.1 canonical.1))
  where
    joint : Excludes q case true → (b : Bool) → ExcludesAll q cases b → ExcludesAll q (case ∷ cases) b
    joint one b others told before after (inl h) there = one refl before after h there
    joint one b others told before after (inr h) there = others told before after h there

    go : (b : Bool) → Excludes q case b → Always (ExcludesAll q cases) (cases_exclude q cases) → Always (ExcludesAll q (case ∷ cases)) (if b then cases_exclude q cases else Done false)
    go true one others = always_weaker (ExcludesAll q cases) (ExcludesAll q (case ∷ cases)) (cases_exclude q cases) (joint one) others
    go false one others = λ told. cc
