-- A row that nothing refutes is true of every pair of states of which the formula holds.
use Rattle.std.proofs.Common.{◌≡◌, ◌⊎◌, inl, inr, ℕ, zero, suc, ◌+◌, ℤ, pos, negsuc, List, [], ◌∷◌, ◌++◌, length, map, Option, Some, None, Result, Ok, Err, refl, sym, ap, subst, ◌∙◌, arith}
use Rattle.std.specs.Prelude.{IsTrue, ◌≤ℤ◌, option_to_list, slice_get, unwrap_or}
use Rattle.std.specs.List.{AllByRecursion}
use Rattle.std.proofs.lemmas.Int.{ints}
use Rattle.std.proofs.lemmas.List.{map-append}
use Rattle.std.proofs.lemmas.List.Elements.{All-from_recursion, recursion_from_All}
use Rattle.items.specs.Gives.{◌>>=◌ as ◌>>>=◌}
use Rattle.items.proofs.Gives.{on_ok}
use Rattle.items.proofs.Each.{each-append, each-both}
use Rattle.linear_terms.specs.declared.col.Col.{Col}
use Rattle.linear_terms.specs.declared.col.Col.TheVariants.{At, Aux}
use Rattle.linear_terms.specs.declared.error.TermError.{TermError}
use Rattle.linear_terms.specs.declared.row.Kind.TheVariants.{AtMost}
use Rattle.linear_terms.specs.declared.row.Row.{Row}
use Rattle.linear_terms.specs.declared.row.Case.{Case}
use Rattle.linear_terms.specs.Expressions.{◌⊞◌, negation, negative_of, whole}
use Rattle.linear_terms.specs.Operations.{substituted_polynomial}
use Rattle.linear_terms.specs.Polynomial.{Polynomial, constant_of}
use Rattle.linear_terms.specs.Replacement.{put_in}
use Rattle.linear_terms.specs.Row.{IsWithin, RowHolds, RowsHold}
use Rattle.linear_terms.specs.Value.{Valuation, value_of}
use Rattle.linear_terms.proofs.Canonical.{IsCanonical-substituted}
use Rattle.linear_terms.proofs.Values.{substituted-value}
use Rattle.linear_terms.proofs.Worth.{RowHolds-negation}
use Rattle.farkas_check.specs.declared.answer.Answer.{Answer}
use Rattle.farkas_check.specs.declared.answer.Answer.TheVariants as answer
use Rattle.farkas_check.specs.declared.answer.Limit.{Limit}
use Rattle.farkas_check.specs.declared.question.Question.TheVariants.{Infeasible}
use Rattle.farkas_check.specs.Columns.{columns}
use Rattle.posing.specs.declared.note.Witness.{Witness}
use Rattle.posing.specs.declared.note.Witness.TheVariants as witness
use Rattle.posing.specs.Posing.{◌>>=◌, each, AlwaysPassing, IsPassing}
use Rattle.transition_formula.specs.Hiding.{own_auxiliaries}
use Rattle.transition_formula.specs.Loss.{answer_of}
use Rattle.transition_formula.specs.Meaning.{Holds, HoldsAt, HoldsCase, HoldsLeft, HoldsSome, numbers}
use Rattle.transition_formula.specs.Rounds.{in_order}
use Rattle.transition_formula.specs.Transition.{Transition, is_below}
use Rattle.transition_formula.proofs.Ordering.{in_order-holds}
use Rattle.transition_formula.proofs.Fitting.{true-below}
use Rattle.transition_formula.proofs.Values.{value-agrees}
use Rattle.leaf_cases.specs.Guard.{columns_of}
use Rattle.leaf_cases.proofs.Guards.{columns-read}
use Rattle.newton_rounds.specs.declared.findings.Findings.{Findings}
use Rattle.newton_rounds.specs.Candidates.{against, contrary, findings_in, found_left, outcome, outcome_by, refutation, with_answer, with_case, with_point}
use Rattle.newton_rounds.specs.Shapes.{IsOverPairs, IsRefutable}
use Rattle.recurrence.proofs.CanonicalOrder.{IsCanonicalCase, IsCanonicalFormula, IsCanonicalRow}
use Rattle.newton_rounds.proofs.Opposite.{against-solvable, negation-covered}
use Rattle.posing.proofs.UnderAnswers.{under-bind, under-each, under-weaker}

-- the numbers of a pair; a row of a candidate has no auxiliaries
abbrev pub pair_numbers : List ℤ → Valuation
pair_numbers pair = numbers pair (λ n. pos 0)

-- the row is true of each pair of states of which the formula holds
abbrev pub Entails : Transition → Row → Type 0
Entails f row = (before after : List ℤ) → Holds f before after → RowHolds (pair_numbers (before ++ after)) row

decided : (z : ℤ) → ((z ≤ℤ pos 0 → ⊥) → ⊥) → z ≤ℤ pos 0
decided (pos zero) known = omega (arith, ints)
decided (pos (suc n)) known = absurd (known (λ h. omega (arith, ints, h)))
decided (negsuc n) known = omega (arith, ints)

negation-kind : (p : Polynomial) (r : Row) → negation p ≡ Ok r → r.kind ≡ AtMost
negation-kind p r e = on_ok (negative_of (Ok p) ⊞ whole (pos 1)) (λ q. Ok record { poly = q; kind = AtMost }) r e (λ q f g. let same : record { poly = q; kind = AtMost } ≡ r = cc in ap (λ (x : Row). x.kind) (sym same))

pub got : (f : Polynomial → ℤ) (d : Polynomial) (ps : List Polynomial) (n : ℕ) → f d ≡ pos 0 → f (unwrap_or (slice_get ps n) d) ≡ unwrap_or (slice_get (map f ps) n) (pos 0)
got f d [] n e = e
got f d (p ∷ ps) zero e = refl
got f d (p ∷ ps) (suc n) e = got f d ps n e

-- ---- one case

module _ (from : ℕ) (case : Case) (row : Row) (over : IsOverPairs from case row) (kind : row.kind ≡ AtMost) where
  abbrev pairs : List Polynomial
  pairs = columns_of from ++ case.post

  abbrev own : List Polynomial
  own = own_auxiliaries case.aux

  module _ (before after : List ℤ) (long : length before ≡ from) (aux : ℕ → ℤ) (h : HoldsAt (numbers before aux) case after) where
    abbrev at : Valuation
    at = numbers before aux

    pairs-read : map (value_of at) pairs ≡ before ++ after
    pairs-read = map-append (value_of at) (columns_of from) case.post ∙ (λ i. columns-read from before aux long i ++ h.posts i)

    seen : (c : Col) → IsTrue (is_below (from + length case.post) 0 c) → value_of at (put_in pairs own c) ≡ pair_numbers (before ++ after) c
    seen (At n) k = got (value_of at) (constant_of (pos 0)) pairs n refl ∙ ap (λ l. unwrap_or (slice_get l n) (pos 0)) pairs-read
    seen (Aux n) k = absurd (let lt = true-below n 0 k in omega (arith, lt))

    -- where the row is false the contrary row is true
    contrary-true : (made : Row) → contrary from case row ≡ Ok made → (RowHolds (pair_numbers (before ++ after)) row → ⊥) → RowHolds at made
    contrary-true made e not =
        on_ok (negation row.poly) (λ opposite. substituted_polynomial (put_in pairs own) opposite.poly >>>= λ p. Ok record { poly = p; kind = AtMost }) made e (λ opposite f g.
        on_ok (substituted_polynomial (put_in pairs own) opposite.poly) (λ p. Ok record { poly = p; kind = AtMost }) made g (λ p k l.
        let same : record { poly = p; kind = AtMost } ≡ made = cc in
        let false_there : value_of (pair_numbers (before ++ after)) row.poly ≤ℤ pos 0 → ⊥ = λ le. not (subst (λ kind. IsWithin kind (value_of (pair_numbers (before ++ after)) row.poly)) (sym kind) le) in
        let opposite_true : RowHolds (pair_numbers (before ++ after)) opposite = (RowHolds-negation (pair_numbers (before ++ after)) row.poly opposite f).1 false_there in
        let at_most : value_of (pair_numbers (before ++ after)) opposite.poly ≤ℤ pos 0 = subst (λ kind. IsWithin kind (value_of (pair_numbers (before ++ after)) opposite.poly)) (negation-kind row.poly opposite f) opposite_true in
        let value : value_of at p ≡ value_of (pair_numbers (before ++ after)) opposite.poly =
        substituted-value at (put_in pairs own) opposite.poly p k
        ∙ value-agrees (λ c. value_of at (put_in pairs own c)) (pair_numbers (before ++ after)) (is_below (from + length case.post) 0) seen opposite.poly (negation-covered (is_below (from + length case.post) 0) row.poly opposite f over.row_is) in
        subst (RowHolds at) same (subst (λ z. z ≤ℤ pos 0) (sym value) at_most)))

    against-true : (RowHolds (pair_numbers (before ++ after)) row → ⊥) → HoldsAt at (against from case row) after
    against-true not = record { rows = each-append (RowHolds at) case.rows (option_to_list (answer_of (contrary from case row))) h.rows (one (contrary from case row) refl); posts = h.posts }
      where
        one : (r : Result Row TermError) → contrary from case row ≡ r → RowsHold at (option_to_list (answer_of r))
        one (Ok made) e = (contrary-true made e not, tt)
        one (Err x) e = tt

  contrary-canonical : (made : Row) → contrary from case row ≡ Ok made → IsCanonicalRow made
  contrary-canonical made e =
      on_ok (negation row.poly) (λ opposite. substituted_polynomial (put_in pairs own) opposite.poly >>>= λ p. Ok record { poly = p; kind = AtMost }) made e (λ opposite f g.
      on_ok (substituted_polynomial (put_in pairs own) opposite.poly) (λ p. Ok record { poly = p; kind = AtMost }) made g (λ p k l.
      let same : record { poly = p; kind = AtMost } ≡ made = cc in subst IsCanonicalRow same (IsCanonical-substituted (put_in pairs own) opposite.poly p k)))

  against-canonical : IsCanonicalCase case → IsCanonicalCase (against from case row)
  against-canonical h = each-append IsCanonicalRow case.rows (option_to_list (answer_of (contrary from case row))) h (one (contrary from case row) refl)
    where
      one : (r : Result Row TermError) → contrary from case row ≡ r → AllByRecursion IsCanonicalRow (option_to_list (answer_of r))
      one (Ok made) e = (contrary-canonical made e, tt)
      one (Err x) e = tt

  -- the row is true of what the case holds of
  abbrev pub CaseTells : Type 0
  CaseTells = (before after : List ℤ) → length before ≡ from → HoldsCase case before after → RowHolds (pair_numbers (before ++ after)) row

  case-tells : ((before after : List ℤ) → HoldsCase (against from case row) before after → ⊥) → CaseTells
  case-tells none before after long (aux, h) =
      subst (λ kind. IsWithin kind (value_of (pair_numbers (before ++ after)) row.poly)) (sym kind)
      (decided (value_of (pair_numbers (before ++ after)) row.poly)
      (λ not. none before after (aux, against-true before after long aux h (λ holds. not (subst (λ kind. IsWithin kind (value_of (pair_numbers (before ++ after)) row.poly)) kind holds)))))

  -- ---- what is found

  abbrev pub IsClear : Findings → Type 0
  IsClear found = (found.point ≡ None) × (found.limits ≡ [])

  unclear : {X : Type 0} (found : Findings) (by : Witness) → IsClear (with_point found by) → X
  unclear found by clear = absurd (none (unwrap_or found.point by) clear.0)
    where
      none : (x : Witness) → Some x ≡ None → ⊥
      none x e = cc

  abbrev Tells : Findings → Findings → Type 0
  Tells found next = IsClear next → IsClear found × CaseTells

  found_in-tells : (found : Findings) (left : Case) (rows : List Row) → left.rows ≡ rows → ((before after : List ℤ) → HoldsCase (against from case row) before after → HoldsCase left before after)
      → AlwaysPassing (Tells found) (findings_in found rows)
  unfolding ◌>>=◌
  found_in-tells found left [] same leads = λ clear. unclear found (witness.Point [] []) clear
  found_in-tells found left (r ∷ rows) same leads = asked
    where
      asked : (a : Answer) → IsPassing (Infeasible (r ∷ rows)) a → Tells found (with_answer found (r ∷ rows) a)
      asked (answer.Yes by) passing = λ clear. (clear, case-tells (λ before after k. let there = leads before after k in passing.is_true (numbers before there.0) (subst (RowsHold (numbers before there.0)) same there.1.rows)))
      asked (answer.No point) passing = λ clear. unclear found (witness.Point (columns (r ∷ rows) []) point) clear
      asked (answer.Limit limit) passing = λ clear. absurd (none found.limits clear.1)
        where
          none : (ls : List Limit) → ls ++ limit ∷ [] ≡ [] → ⊥
          none [] e = cc
          none (l ∷ ls) e = cc
      asked (answer.Bound most certs place point) passing = absurd (let passed = passing.passes.passed in cc)
      asked (answer.Unbounded place point ray) passing = absurd (let passed = passing.passes.passed in cc)
      asked (answer.Basis relations spots free) passing = absurd (let passed = passing.passes.passed in cc)

  with_case-tells : IsCanonicalCase case → (found : Findings) → AlwaysPassing (Tells found) (with_case from row found case)
  unfolding with_case
  with_case-tells canonical found =
      go (in_order (against from case row)).left
      (in_order-holds (against from case row) (All-from_recursion IsCanonicalRow (against from case row).rows (against-canonical canonical)) (against-solvable from case row over).numbered)
    where
      go : (o : Option Case) → ((before after : List ℤ) → HoldsCase (against from case row) before after → HoldsLeft o before after) → AlwaysPassing (Tells found) (found_left found o)
      go None leads = λ clear. (clear, case-tells leads)
      go (Some left) leads = found_in-tells found left left.rows refl leads

-- ---- all cases

module _ (f : Transition) (row : Row) (kind : row.kind ≡ AtMost) where
  abbrev IsReady : Case → Type 0
  IsReady case = IsOverPairs f.from case row × IsCanonicalCase case

  abbrev IsFree : Findings → Type 0
  IsFree found = (found.point ≡ None) × (found.limits ≡ [])

  record Tells-so-far (all rest : List Case) (found : Findings) : Type 0 where
    ready : AllByRecursion IsReady rest
    tells : IsFree found → (before after : List ℤ) → length before ≡ f.from → HoldsSome all before after → RowHolds (pair_numbers (before ++ after)) row ⊎ HoldsSome rest before after

  one-more : (all rest : List Case) (case : Case) (found : Findings) → Tells-so-far all (case ∷ rest) found → AlwaysPassing (Tells-so-far all rest) (with_case f.from row found case)
  one-more all rest case found so_far =
      under-weaker IsPassing (λ next. IsFree next → IsFree found × CaseTells f.from case row so_far.ready.0.0 kind) (Tells-so-far all rest) (with_case f.from row found case)
      (λ next tells. record {
        ready = so_far.ready.1;
        tells = λ free before after long some. let both = tells free in either before after (both.1 before after long) (so_far.tells both.0 before after long some);
      }) (with_case-tells f.from case row so_far.ready.0.0 kind so_far.ready.0.1 found)
    where
      either : (before after : List ℤ) → (HoldsCase case before after → RowHolds (pair_numbers (before ++ after)) row) → RowHolds (pair_numbers (before ++ after)) row ⊎ (HoldsCase case before after ⊎ HoldsSome rest before after)
          → RowHolds (pair_numbers (before ++ after)) row ⊎ HoldsSome rest before after
      either before after tells (inl k) = inl k
      either before after tells (inr (inl k)) = inl (tells k)
      either before after tells (inr (inr k)) = inr k

  -- nothing refutes it: then it is true of each pair of which the formula holds
  pub refuted-entails : IsCanonicalFormula f → IsRefutable f row → AlwaysPassing (λ by. by ≡ None → Entails f row) (refutation f row)
  unfolding refutation
  refuted-entails canonical over =
      under-bind IsPassing (Tells-so-far f.cases []) (λ by. by ≡ None → Entails f row) (each (with_case f.from row) record { point = None; limits = [] } f.cases) (λ found. outcome found)
      (under-each IsPassing (Tells-so-far f.cases) (with_case f.from row) record { point = None; limits = [] } f.cases (λ case rest made k. one-more f.cases rest case made k)
      (record { ready = each-both (λ case. IsOverPairs f.from case row) IsCanonicalCase f.cases (recursion_from_All (λ case. IsOverPairs f.from case row) f.cases over) canonical; tells = λ free before after long some. inr some }))
      (λ found so_far. go found.point found.limits (λ free. so_far.tells free))
    where
      settled : (before after : List ℤ) → RowHolds (pair_numbers (before ++ after)) row ⊎ ⊥ → RowHolds (pair_numbers (before ++ after)) row
      settled before after (inl k) = k
      settled before after (inr k) = absurd k

      go : (point : Option Witness) (limits : List Limit) → ((point ≡ None) × (limits ≡ []) → (before after : List ℤ) → length before ≡ f.from → HoldsSome f.cases before after → RowHolds (pair_numbers (before ++ after)) row ⊎ ⊥)
          → AlwaysPassing (λ by. by ≡ None → Entails f row) (outcome_by point limits)
      go (Some point) limits tells = λ e. absurd (cc)
      go None [] tells = λ e before after h. settled before after (tells (refl, refl) before after h.enters h.some)
      go None (limit ∷ limits) tells = λ e. absurd (cc)
