-- The formula of a step fits, has few auxiliaries, and holds of where a state and then a way lead.
use Rattle.std.proofs.Common.{◌≡◌, ℕ, ◌+◌, ◌<◌, ◌≤◌, ◌^◌, true, ℤ, length, map, take, List, [], ◌++◌, refl, sym, ap, subst, ◌∙◌, append_assoc, append-nil, arith}
use Rattle.std.specs.Prelude.{All, IsTrue}
use Rattle.std.specs.List.{AllByRecursion}
use Rattle.std.proofs.lemmas.List.{length-take-le, take-append-le, take-map, take_all}
use Rattle.std.proofs.lemmas.List.Elements.{All-from_recursion, recursion_from_All}
use Rattle.items.proofs.Each.{each-both, each-more, each_from_test, test_from_each}
use Rattle.linear_terms.specs.declared.row.Case.{Case}
use Rattle.linear_terms.specs.Polynomial.{Polynomial}
use Rattle.linear_terms.specs.Value.{Valuation, value_of}
use Rattle.transition_formula.specs.Meaning.{Holds, HoldsAt, HoldsCase, numbers}
use Rattle.transition_formula.specs.Posts.{case_with_posts, numbers_at}
use Rattle.transition_formula.specs.Transition.{AreSolvable, IsSolvable, IsTransition, Transition, every_column, fits, is_below}
use Rattle.transition_formula.proofs.ColumnTests.{both}
use Rattle.transition_formula.proofs.FittedFormulas.{fits-solvable}
use Rattle.transition_formula.proofs.Fitting.{Fitting, fitting, from_fitting, sequence_of_cases-fits}
use Rattle.transition_formula.proofs.SomePosts.{values_there, with_posts-fits}
use Rattle.point_steps.specs.declared.target.Target.{Target}
use Rattle.point_steps.specs.declared.target.Target.TheVariants.{Head, Entry, Exit, Check}
use Rattle.point_steps.specs.Parts.{ArePlacesAt, IsOutFormula, IsStepOrigin, IsStateCase}
use Rattle.point_steps.specs.Steps.{passing_case, passing_formula, point_case, returning_case, returning_formula, step_formula, through_case}
use Rattle.point_steps.proofs.Carrying.{Carries, carried-below, carried-values, each-pair, sequence-aux, sequence-carries, some-pair, told-fitting, told-holds}
use Rattle.point_steps.proofs.StateFormulas.{alone, alone-fits, take-passes}

-- for the code: few auxiliaries in any sequence
pub second-few : (columns : ℕ) (way : Transition) → IsOutFormula columns way → (case : Case) → IsStateCase columns case → All (λ (second : Case). case.aux + second.aux + way.to < 2 ^ 32) way.cases
second-few columns way leads case h =
    let few = h.few in
    let to = leads.to in
    All-from_recursion (λ (second : Case). case.aux + second.aux + way.to < 2 ^ 32) way.cases
    (each-more (λ (second : Case). second.aux ≤ 2 ^ 31 + 1000) (λ (second : Case). case.aux + second.aux + way.to < 2 ^ 32) (λ second most. omega (arith, few, to, most)) way.cases
    (recursion_from_All (λ (second : Case). second.aux ≤ 2 ^ 31 + 1000) way.cases leads.few))

module _ (columns : ℕ) (places : List ℕ) (state : Transition) (known : IsStepOrigin columns places state) where
  -- ---- a case of the state

  abbrev IsWhole : Case → Type 0
  IsWhole case = (case.aux ≤ 88) × IsTrue (fits 0 state.to case)

  each-whole : AllByRecursion IsWhole state.cases
  each-whole =
      each-both (λ (case : Case). case.aux ≤ 88) (λ case. IsTrue (fits 0 state.to case)) state.cases
      (recursion_from_All (λ (case : Case). case.aux ≤ 88) state.cases known.few)
      (each_from_test (fits 0 state.to) (λ case. IsTrue (fits 0 state.to case)) (λ case h. h) state.cases (subst (λ n. IsTransition n state.to state.cases) known.from known.fits))

  whole-long : (case : Case) → IsWhole case → columns ≤ length case.post
  whole-long case h = let long = (fitting 0 state.to case h.1).length_is in let le = known.to in omega (arith, long, le)

  point-fitting : (case : Case) → IsWhole case → Fitting 0 columns (point_case columns case)
  point-fitting case h =
      let f = fitting 0 state.to case h.1 in
      record {
        length_is = length-take-le columns case.post (whole-long case h);
        rows_are = f.rows_are;
        posts_are = take-passes (every_column (is_below 0 case.aux)) columns case.post f.posts_are;
      }

  state-case : (case : Case) → IsWhole case → IsStateCase columns case
  state-case case h = record { long = whole-long case h; fits = from_fitting 0 columns (point_case columns case) (point-fitting case h); few = h.0 }

  -- for the loop over the cases
  pub each-state_case : AllByRecursion (IsStateCase columns) state.cases
  each-state_case = each-more IsWhole (IsStateCase columns) state-case state.cases each-whole

  point-holds : (case : Case) → IsWhole case → (before begun : List ℤ) → length before ≡ columns → (h : HoldsCase case [] (before ++ begun)) → map (value_of (numbers [] h.0)) (take columns case.post) ≡ before
  point-holds case w before begun long h =
      sym (take-map (value_of (numbers [] h.0)) columns case.post) ∙ ap (take columns) h.1.posts ∙ take-append-le columns before begun (omega (arith, long)) ∙ take_all columns before (omega (arith, long))

  -- ---- with a way

  module _ (way : Transition) (leads : IsOutFormula columns way) where
    abbrev IsWayCase : Case → Type 0
    IsWayCase case = (case.aux ≤ 2 ^ 31 + 1000) × IsTrue (fits columns way.to case)

    each-way : AllByRecursion IsWayCase way.cases
    each-way =
        each-both (λ (case : Case). case.aux ≤ 2 ^ 31 + 1000) (λ case. IsTrue (fits columns way.to case)) way.cases
        (recursion_from_All (λ (case : Case). case.aux ≤ 2 ^ 31 + 1000) way.cases leads.few)
        (each_from_test (fits columns way.to) (λ case. IsTrue (fits columns way.to case)) (λ case h. h) way.cases (subst (λ n. IsTransition n way.to way.cases) leads.from leads.fits))

    through-fitting : (a b : Case) → IsWhole a → IsWayCase b → Fitting 0 way.to (through_case columns a b)
    through-fitting a b h k =
        fitting 0 way.to (through_case columns a b) (sequence_of_cases-fits 0 columns way.to (point_case columns a) b (from_fitting 0 columns (point_case columns a) (point-fitting a h)) k.1)

    through-carries : (a b : Case) → IsWhole a → IsWayCase b → (before begun after : List ℤ) → length before ≡ columns → (h : HoldsCase a [] (before ++ begun)) → HoldsCase b before after → Carries (point_case columns a) b [] after h.0
    through-carries a b h k before begun after long first second =
        sequence-carries 0 columns way.to (point_case columns a) b (point-fitting a h) (fitting columns way.to b k.1) [] before after
        (first.0, record { rows = first.1.rows; posts = point-holds a h before begun long first }) second

    step-few : (a b : Case) → IsWhole a → IsWayCase b → (through_case columns a b).aux ≤ 2 ^ 31 + 3000
    step-few a b h k =
        let all = sequence-aux 88 (2 ^ 31 + 1000) way.to (point_case columns a) b h.0 k.0 (fitting columns way.to b k.1).length_is in
        let to = leads.to in omega (arith, all, to)

    -- ---- to a node or an entry

    passing-case-fits : (a b : Case) → IsWhole a → IsWayCase b → IsTrue (fits 0 (columns + way.to) (passing_case columns a b))
    passing-case-fits a b h k =
        let p = point-fitting a h in
        let front : List Polynomial = take columns a.post in
        let long : length front ≡ columns = p.length_is in
        let same : length front + (way.to + 0) ≡ columns + way.to = omega (arith, long) in
        subst (λ n. IsTrue (fits 0 n (passing_case columns a b))) same
        (from_fitting 0 (length front + (way.to + 0)) (passing_case columns a b)
        (told-fitting 0 way.to (through_case columns a b) front [] (through-fitting a b h k) (carried-below 0 (point_case columns a) b front p.posts_are) refl))

    pub passing-fits : IsTransition 0 (columns + way.to) (passing_formula columns state way).cases
    passing-fits =
        test_from_each (fits 0 (columns + way.to)) (λ case. IsTrue (fits 0 (columns + way.to) case)) (λ case h. h) (passing_formula columns state way).cases
        (each-pair (passing_case columns) IsWhole IsWayCase (λ case. IsTrue (fits 0 (columns + way.to) case)) passing-case-fits state.cases way.cases each-whole each-way)

    passing-solvable : AreSolvable (passing_formula columns state way).cases
    passing-solvable =
        let le = known.to in
        let few = known.few_columns in
        let to = leads.to in
        All-from_recursion IsSolvable (passing_formula columns state way).cases
        (each-pair (passing_case columns) IsWhole IsWayCase IsSolvable
        (λ a b h k. let most = step-few a b h k in fits-solvable 0 (columns + way.to) (passing_case columns a b) (passing-case-fits a b h k) (omega (arith, most, le, few, to))) state.cases way.cases each-whole each-way)

    passing-case-holds : (before begun after : List ℤ) → length before ≡ columns → (a b : Case) → IsWhole a → IsWayCase b → HoldsCase a [] (before ++ begun) → HoldsCase b before after → HoldsCase (passing_case columns a b) [] (before ++ after)
    passing-case-holds before begun after long a b h k first second =
        let front : List Polynomial = take columns a.post in
        let carries = through-carries a b h k before begun after long first second in
        let kept = carried-values 0 (point_case columns a) b [] after first.0 carries front (point-fitting a h).posts_are ∙ point-holds a h before begun long first in
        (carries.aux, subst (HoldsAt (numbers [] carries.aux) (passing_case columns a b)) (ap (λ l. before ++ l) (append-nil after)) (told-holds (numbers [] carries.aux) (through_case columns a b) front [] before after [] kept carries.holds refl))

    pub passing-holds : (before begun after : List ℤ) → length before ≡ columns → Holds state [] (before ++ begun) → Holds way before after → Holds (passing_formula columns state way) [] (before ++ after)
    passing-holds before begun after long first second = record {
      enters = refl;
      some = some-pair (passing_case columns) IsWhole IsWayCase
          (record { first_before = []; first_after = before ++ begun; second_before = before; second_after = after; before = []; after = before ++ after })
          (passing-case-holds before begun after long) state.cases way.cases each-whole each-way first.some second.some;
    }

    -- ---- to the exit

    module _ (there : All (λ place. place < way.to) places) where
      told-fitting-at : (a b : Case) → IsWhole a → IsWayCase b → Fitting 0 (length places) (case_with_posts places (through_case columns a b))
      told-fitting-at a b h k =
          fitting 0 (length places) (case_with_posts places (through_case columns a b))
          (both (fits 0 (length places) (case_with_posts places (through_case columns a b))) true
          (with_posts-fits places (alone 0 way.to (through_case columns a b)) there (alone-fits 0 way.to (through_case columns a b) (from_fitting 0 way.to (through_case columns a b) (through-fitting a b h k))))).0

      returning-case-fits : (a b : Case) → IsWhole a → IsWayCase b → IsTrue (fits 0 (state.to + length places) (returning_case columns places a b))
      returning-case-fits a b h k =
          let f = fitting 0 state.to a h.1 in
          let long = f.length_is in
          let same : length a.post + (length places + 0) ≡ state.to + length places = omega (arith, long) in
          subst (λ n. IsTrue (fits 0 n (returning_case columns places a b))) same
          (from_fitting 0 (length a.post + (length places + 0)) (returning_case columns places a b)
          (told-fitting 0 (length places) (case_with_posts places (through_case columns a b)) a.post [] (told-fitting-at a b h k) (carried-below 0 (point_case columns a) b a.post f.posts_are) refl))

      pub returning-fits : IsTransition 0 (state.to + length places) (returning_formula columns places state way).cases
      returning-fits =
          test_from_each (fits 0 (state.to + length places)) (λ case. IsTrue (fits 0 (state.to + length places) case)) (λ case h. h) (returning_formula columns places state way).cases
          (each-pair (returning_case columns places) IsWhole IsWayCase (λ case. IsTrue (fits 0 (state.to + length places) case)) returning-case-fits state.cases way.cases each-whole each-way)

      returning-solvable : AreSolvable (returning_formula columns places state way).cases
      returning-solvable =
          let few = known.few_columns in
          let short = known.few_places in
          All-from_recursion IsSolvable (returning_formula columns places state way).cases
          (each-pair (returning_case columns places) IsWhole IsWayCase IsSolvable
          (λ a b h k. let most = step-few a b h k in fits-solvable 0 (state.to + length places) (returning_case columns places a b) (returning-case-fits a b h k) (omega (arith, most, few, short))) state.cases way.cases each-whole each-way)

      returning-case-holds : (before begun after : List ℤ) → length before ≡ columns → (a b : Case) → IsWhole a → IsWayCase b → HoldsCase a [] (before ++ begun) → HoldsCase b before after
          → HoldsCase (returning_case columns places a b) [] (before ++ (begun ++ numbers_at places after))
      returning-case-holds before begun after long a b h k first second =
          let carries = through-carries a b h k before begun after long first second in
          let w : Valuation = numbers [] carries.aux in
          let kept = carried-values 0 (point_case columns a) b [] after first.0 carries a.post (fitting 0 state.to a h.1).posts_are ∙ first.1.posts in
          let told : HoldsAt w (case_with_posts places (through_case columns a b)) (numbers_at places after) =
          record { rows = carries.holds.rows; posts = values_there w places (through_case columns a b).post ∙ ap (numbers_at places) carries.holds.posts } in (
            carries.aux,
            subst (HoldsAt w (returning_case columns places a b)) (ap (λ l. (before ++ begun) ++ l) (append-nil (numbers_at places after)) ∙ append_assoc before begun (numbers_at places after))
                (told-holds w (case_with_posts places (through_case columns a b)) a.post [] (before ++ begun) (numbers_at places after) [] kept told refl),
          )

      pub returning-holds : (before begun after : List ℤ) → length before ≡ columns → Holds state [] (before ++ begun) → Holds way before after → Holds (returning_formula columns places state way) [] (before ++ (begun ++ numbers_at places after))
      returning-holds before begun after long first second = record {
        enters = refl;
        some = some-pair (returning_case columns places) IsWhole IsWayCase
            (record { first_before = []; first_after = before ++ begun; second_before = before; second_after = after; before = []; after = before ++ (begun ++ numbers_at places after) })
            (returning-case-holds before begun after long) state.cases way.cases each-whole each-way first.some second.some;
      }

    -- ---- by the target

    pub step-solvable : (target : Target) → ArePlacesAt places target way → AreSolvable (step_formula columns places target state way).cases
    step-solvable Exit there = returning-solvable there
    step-solvable (Head node) there = passing-solvable
    step-solvable (Entry callee) there = passing-solvable
    step-solvable (Check number) there = passing-solvable
