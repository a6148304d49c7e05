-- Laws of settling: what is left holds of all that the formula holds of, and fits where it fits.
use Rattle.std.proofs.Common.{ℕ, ℤ, List, [], ◌∷◌, ◌++◌, Option, None, Some, Bool, true, false, refl, inl, inr, option_to_list}
use Rattle.std.specs.Prelude.{IsTrue, ◌⊎◌}
use Rattle.std.specs.List.{list_all, AllByRecursion}
use Rattle.std.proofs.lemmas.List.Elements.{recursion_from_All}
use Rattle.linear_terms.specs.Row.{RowsHold, AreCanonical}
use Rattle.linear_terms.specs.Value.{Valuation}
use Rattle.linear_terms.specs.declared.row.Row.{Row}
use Rattle.linear_terms.specs.declared.row.Case.{Case}
use Rattle.transition_formula.specs.Meaning.{numbers, HoldsCase, HoldsLeft, HoldsSome, Covers}
use Rattle.transition_formula.specs.Rounds.{in_order, solved_answer, Stays}
use Rattle.transition_formula.specs.Transition.{fits, IsTransition, IsSolvable}
use Rattle.transition_formula.proofs.ColumnTests.{both, both_true}
use Rattle.transition_formula.proofs.KeptCases.{kept-fits}
use Rattle.transition_formula.proofs.Ordering.{in_order-holds}
use Rattle.farkas_check.specs.declared.answer.Answer.{Answer}
use Rattle.farkas_check.specs.declared.answer.Answer.TheVariants as answer
use Rattle.farkas_check.specs.declared.question.Question.TheVariants.{Infeasible}
use Rattle.farkas_check.specs.Meaning.{IsTrueAnswer}
use Rattle.posing.specs.Posing.{Done, ◌>>=◌, Always}
use Rattle.posing.proofs.Paths.{always_bind, always_weaker, always_each}
use Rattle.polyhedra.specs.Infeasibility.{is_yes, assent, infeasible}
use Rattle.polyhedra.specs.Settle.{unless, feasible_by, feasible, feasible_left, settled_case, with_settled, settled_cases, settled_formula}
use Rattle.polyhedra.specs.Laws.{SettlingCovers}

-- rows that the answer calls infeasible hold under no numbers
abbrev pub Excluded : List Row → Bool → Type 0
Excluded rows drops = IsTrue drops → (at : Valuation) → RowsHold at rows → ⊥

yes_excludes : (rows : List Row) (a : Answer) → IsTrueAnswer (Infeasible rows) a → Excluded rows (is_yes a)
yes_excludes rows (answer.Yes by) is_true told = is_true
yes_excludes rows (answer.No point) is_true told = cc
yes_excludes rows (answer.Bound at certs case point) is_true told = cc
yes_excludes rows (answer.Unbounded case point ray) is_true told = cc
yes_excludes rows (answer.Basis relations spots free) is_true told = cc
yes_excludes rows (answer.Limit limit) is_true told = cc

pub infeasible-excludes : (rows : List Row) → Always (Excluded rows) (infeasible rows)
unfolding assent ◌>>=◌
infeasible-excludes rows = λ a is_true. yes_excludes rows a is_true

-- ---- what is left holds of all that the formula holds of

abbrev pub KeepsLeft : Case → Option Case → Type 0
KeepsLeft case left = (before after : List ℤ) → HoldsCase case before after → HoldsLeft left before after

unless-keeps : (case : Case) (drops : Bool) → Excluded case.rows drops → KeepsLeft case (unless drops case)
unless-keeps case true excluded before after (aux, h) = excluded refl (numbers before aux) h.rows
unless-keeps case false excluded before after h = h

feasible_by-keeps : (case : Case) (rows : List Row) → Always (KeepsLeft case) (feasible_by case rows)
feasible_by-keeps case [] = λ before after h. h
feasible_by-keeps case (row ∷ rows) =
    always_bind (Excluded case.rows) (KeepsLeft case) (infeasible case.rows) (λ drops. Done (unless drops case)) (infeasible-excludes case.rows) (unless-keeps case)

pub feasible-keeps : (case : Case) → Always (KeepsLeft case) (feasible case)
unfolding feasible
feasible-keeps case = feasible_by-keeps case case.rows

-- a case that can be put in order
record IsReady (case : Case) : Type 0 where
  canonical : AreCanonical case.rows
  solvable : IsSolvable case

settled_case-keeps : (case : Case) → IsReady case → Always (KeepsLeft case) (settled_case case)
unfolding settled_case
settled_case-keeps case ready = go (in_order case).left (in_order-holds case ready.canonical ready.solvable.numbered)
  where
    go : (o : Option Case) → KeepsLeft case o → Always (KeepsLeft case) (feasible_left o)
    go None keeps = keeps
    go (Some left) keeps = always_weaker (KeepsLeft left) (KeepsLeft case) (feasible left) (λ o further before after h. further before after (keeps before after h)) (feasible-keeps left)

some-left : (xs ys : List Case) (before after : List ℤ) → HoldsSome xs before after → HoldsSome (xs ++ ys) before after
some-left [] ys before after h = absurd h
some-left (x ∷ xs) ys before after h = elim h [ inl one ↦ inl one | inr others ↦ inr (some-left xs ys before after others) ]

some-right : (xs ys : List Case) (before after : List ℤ) → HoldsSome ys before after → HoldsSome (xs ++ ys) before after
some-right [] ys before after h = h
some-right (x ∷ xs) ys before after h = inr (some-right xs ys before after h)

pub of_left : (o : Option Case) (before after : List ℤ) → HoldsLeft o before after → HoldsSome (option_to_list o) before after
of_left None before after h = h
of_left (Some case) before after h = inl h

-- each of the cases that are left can be put in order, and what held of all holds of what is made
-- or of what is left
record Keeps (whole xs made : List Case) : Type 0 where
  ready : AllByRecursion IsReady xs
  holds : (before after : List ℤ) → HoldsSome whole before after → HoldsSome made before after ⊎ HoldsSome xs before after

added : (whole : List Case) (case : Case) (rest made : List Case) (left : Option Case) → Keeps whole (case ∷ rest) made → KeepsLeft case left → Keeps whole rest (made ++ option_to_list left)
added whole case rest made left kept keeps =
    record {
      ready = kept.ready.1;
      holds = λ before after h.
          elim (kept.holds before after h) [
            | inl first ↦ inl (some-left made (option_to_list left) before after first)
            | inr others ↦ elim others [
              | inl one ↦ inl (some-right made (option_to_list left) before after (of_left left before after (keeps before after one)))
              | inr more ↦ inr more
            ]
          ];
    }

with_settled-keeps : (whole : List Case) (case : Case) (rest made : List Case) → Keeps whole (case ∷ rest) made → Always (Keeps whole rest) (with_settled made case)
unfolding with_settled
with_settled-keeps whole case rest made kept =
    always_bind (KeepsLeft case) (Keeps whole rest) (settled_case case) (λ left. Done (made ++ option_to_list left)) (settled_case-keeps case kept.ready.0) (λ left keeps. added whole case rest made left kept keeps)

settled_cases-keeps : (cases : List Case) → AllByRecursion IsReady cases → Always (λ made. (before after : List ℤ) → HoldsSome cases before after → HoldsSome made before after) (settled_cases cases)
settled_cases-keeps cases ready =
    always_weaker (Keeps cases []) (λ made. (before after : List ℤ) → HoldsSome cases before after → HoldsSome made before after) (settled_cases cases)
    (λ made kept before after h. elim (kept.holds before after h) [ inl one ↦ one | inr none ↦ absurd none ])
    (always_each (Keeps cases) with_settled [] cases (λ case rest made kept. with_settled-keeps cases case rest made kept) (record { ready = ready; holds = λ before after h. inr h }))

all_ready : (cases : List Case) → AllByRecursion (λ (case : Case). AreCanonical case.rows) cases → AllByRecursion IsSolvable cases → AllByRecursion IsReady cases
all_ready [] h k = tt
all_ready (case ∷ cases) h k = (record { canonical = h.0; solvable = k.0 }, all_ready cases h.1 k.1)

pub settled-covers : SettlingCovers
unfolding settled_formula
settled-covers f canonical solvable =
    always_bind (λ made. (before after : List ℤ) → HoldsSome f.cases before after → HoldsSome made before after) (λ g. Covers g f)
    (settled_cases f.cases) (λ cases. Done record { from = f.from; to = f.to; cases = cases })
    (settled_cases-keeps f.cases (all_ready f.cases (recursion_from_All (λ (case : Case). AreCanonical case.rows) f.cases canonical) (recursion_from_All IsSolvable f.cases solvable)))
    (λ made keeps before after h. record { enters = h.enters; some = keeps before after h.some })

-- ---- what is left fits where the formula fits

module _ (from to : ℕ) where
  abbrev FitsLeft : Option Case → Type 0
  FitsLeft o = IsTransition from to (option_to_list o)

  unless-fits : (case : Case) (drops : Bool) → IsTrue (fits from to case) → FitsLeft (unless drops case)
  unless-fits case true h = refl
  unless-fits case false h = both_true (fits from to case) true h refl

  feasible_by-fits : (case : Case) (rows : List Row) → IsTrue (fits from to case) → Always FitsLeft (feasible_by case rows)
  feasible_by-fits case [] h = both_true (fits from to case) true h refl
  feasible_by-fits case (row ∷ rows) h =
      always_bind (Excluded case.rows) FitsLeft (infeasible case.rows) (λ drops. Done (unless drops case)) (infeasible-excludes case.rows) (λ drops excluded. unless-fits case drops h)

  feasible-fits : (case : Case) → IsTrue (fits from to case) → Always FitsLeft (feasible case)
  unfolding feasible
  feasible-fits case h = feasible_by-fits case case.rows h

  settled_case-fits : (case : Case) → IsTrue (fits from to case) → Always FitsLeft (settled_case case)
  unfolding settled_case
  settled_case-fits case h = go (in_order case).left (kept-fits from to case (solved_answer (in_order case).left) h refl)
    where
      go : (o : Option Case) → Stays (λ c. IsTrue (fits from to c)) (solved_answer o) → Always FitsLeft (feasible_left o)
      go None stays = refl
      go (Some left) stays = feasible-fits left stays

  all-append : (xs ys : List Case) → IsTransition from to xs → IsTransition from to ys → IsTransition from to (xs ++ ys)
  all-append [] ys h k = k
  all-append (x ∷ xs) ys h k = let parts = both (fits from to x) (list_all (fits from to) xs) h in both_true (fits from to x) (list_all (fits from to) (xs ++ ys)) parts.0 (all-append xs ys parts.1 k)

  record AllFit (xs made : List Case) : Type 0 where
    left : IsTransition from to xs
    done : IsTransition from to made

  with_settled-fits : (case : Case) (rest made : List Case) → AllFit (case ∷ rest) made → Always (AllFit rest) (with_settled made case)
  unfolding with_settled
  with_settled-fits case rest made all =
      let parts = both (fits from to case) (list_all (fits from to) rest) all.left in
      always_bind FitsLeft (AllFit rest) (settled_case case) (λ o. Done (made ++ option_to_list o)) (settled_case-fits case parts.0)
      (λ o fit. record { left = parts.1; done = all-append made (option_to_list o) all.done fit })

  pub settled_cases-fit : (cases : List Case) → IsTransition from to cases → Always (IsTransition from to) (settled_cases cases)
  settled_cases-fit cases h =
      always_weaker (AllFit []) (IsTransition from to) (settled_cases cases) (λ made all. all.done)
      (always_each AllFit with_settled [] cases (λ case rest made all. with_settled-fits case rest made all) (record { left = h; done = refl }))
