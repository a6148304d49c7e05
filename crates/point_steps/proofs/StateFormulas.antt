-- The formula of a state fits, has few auxiliaries, and holds of where an entry and then a formula
-- lead.
use Rattle.std.proofs.Common.{◌≡◌, inl, inr, ℕ, ◌+◌, ◌-◌, ◌<◌, ◌≤◌, ◌^◌, Bool, true, ℤ, length, map, take, drop, get_or, List, [], ◌∷◌, ◌++◌, refl, sym, ap, subst, ◌∙◌, append_assoc, length-append, arith}
use Rattle.std.specs.Prelude.{All, IsTrue}
use Rattle.std.specs.List.{AllByRecursion, list_all, range_with_len}
use Rattle.std.proofs.lemmas.List.{length-drop, length-map, length-take-le, map-append, take-append-drop, take-append-le, take-map}
use Rattle.std.proofs.lemmas.List.Elements.{All-from_recursion, recursion_from_All}
use Rattle.std.proofs.lemmas.List.Folds.{list_all-append}
use Rattle.items.proofs.Each.{each-both, each-map, each-more, each_from_test, test_from_each}
use Rattle.linear_terms.specs.declared.row.Case.{Case}
use Rattle.linear_terms.specs.declared.col.Col.TheVariants.{Aux}
use Rattle.linear_terms.specs.Polynomial.{Polynomial, column_of}
use Rattle.linear_terms.specs.Value.{Valuation, value_of}
use Rattle.transition_formula.specs.Composition.{sequence_of_cases}
use Rattle.transition_formula.specs.Meaning.{Covers, Holds, HoldsCase, HoldsSome, numbers}
use Rattle.transition_formula.specs.Transition.{AreSolvable, IsSolvable, IsTransition, Transition, every_column, fits, is_below}
use Rattle.transition_formula.proofs.ColumnTests.{all_more, both, both_true, more_columns}
use Rattle.transition_formula.proofs.FittedFormulas.{fits-solvable}
use Rattle.transition_formula.proofs.Fitting.{fitting, from_fitting, is_below-more, sequence_of_cases-fits}
use Rattle.checked_tree.specs.Law.{IsBetweenEnds, IsFrom}
use Rattle.checked_tree.proofs.Between.{some-length}
use Rattle.proc_summary.specs.Claims.{IsBetweenStates}
use Rattle.context.specs.Claims.{IsEntry}
use Rattle.context.specs.Verdicts.{extended_case, extended_formula}
use Rattle.context.proofs.Few.{fitted-few}
use Rattle.context.proofs.FurtherPosts.{extended-fits, extended-holds}
use Rattle.point_steps.specs.declared.ends.PointEnds.{PointEnds}
use Rattle.point_steps.specs.Claims.{IsState}
use Rattle.point_steps.specs.Parts.{ArePointEnds, HoldsAtPoint, IsEntryCase}
use Rattle.point_steps.specs.States.{begun_case, state_case, state_formula}
use Rattle.point_steps.proofs.Carrying.{carried-below, carried-values, each-at, each-pair, sequence-aux, sequence-carries, some-pair, told-fitting, told-holds}

-- the first of polynomials that pass pass too
pub take-passes : (test : Polynomial → Bool) (n : ℕ) (posts : List Polynomial) → IsTrue (list_all test posts) → IsTrue (list_all test (take n posts))
take-passes test n posts h =
    (both (list_all test (take n posts)) (list_all test (drop n posts)) (sym (list_all-append test (take n posts) (drop n posts)) ∙ ap (list_all test) (take-append-drop n posts) ∙ h)).0

-- a formula of one case
abbrev pub alone : (from to : ℕ) → Case → Transition
alone from to case = record { from = from; to = to; cases = case ∷ [] }

pub alone-fits : (from to : ℕ) (case : Case) → IsTrue (fits from to case) → IsTransition from to (alone from to case).cases
alone-fits from to case h = both_true (fits from to case) true h refl

-- ---- a case of the entry with any numbers in its further columns

module _ (ends : PointEnds) (known : ArePointEnds ends) where
  pub begun-fits : (case : Case) → IsTrue (fits 0 ends.entry case) → IsTrue (fits 0 ends.columns (begun_case ends case))
  begun-fits case h =
      (both (fits 0 ends.columns (begun_case ends case)) _ (extended-fits ends.columns (alone 0 ends.entry case) known.entry (alone-fits 0 ends.entry case h))).0

  begun-holds : (case : Case) → IsTrue (fits 0 ends.entry case) → (begun others : List ℤ) → length (begun ++ others) ≡ ends.columns → HoldsCase case [] begun → HoldsCase (begun_case ends case) [] (begun ++ others)
  begun-holds case h begun others long holds = only (extended-holds ends.columns (alone 0 ends.entry case) (alone-fits 0 ends.entry case h) [] begun others rest (record { enters = refl; some = inl holds })).some
    where
      own : length begun ≡ ends.entry
      own = some-length 0 ends.entry (case ∷ []) (alone-fits 0 ends.entry case h) [] begun (inl holds)

      rest : length others ≡ ends.columns - ends.entry
      rest = let all = length-append begun others in let front = own in omega (arith, all, front, long)

      only : HoldsSome (begun_case ends case ∷ []) [] (begun ++ others) → HoldsCase (begun_case ends case) [] (begun ++ others)
      only (inl k) = k
      only (inr k) = absurd k

  -- ---- and then one that leads on

  -- a case of a formula between states, with few auxiliaries
  abbrev IsReachCase : Case → Type 0
  IsReachCase case = (case.aux ≤ 64) × IsTrue (fits ends.columns ends.columns case)

  entry-case : (entry : Transition) → IsEntry ends.entry entry → AllByRecursion (IsEntryCase ends.entry) entry.cases
  entry-case entry is =
      each-more (λ (case : Case). (case.aux ≤ 64) × IsTrue (fits 0 ends.entry case)) (IsEntryCase ends.entry) (λ case h. record { fits = h.1; few = h.0 }) entry.cases
      (each-both (λ (case : Case). case.aux ≤ 64) (λ case. IsTrue (fits 0 ends.entry case)) entry.cases
      (recursion_from_All (λ (case : Case). case.aux ≤ 64) entry.cases (fitted-few entry is.fitted))
      (each_from_test (fits 0 ends.entry) (λ case. IsTrue (fits 0 ends.entry case)) (λ case h. h) entry.cases
      (subst (λ n. IsTransition n ends.entry entry.cases) is.from (subst (λ n. IsTransition entry.from n entry.cases) is.to is.fits))))

  reach-case : (reach : Transition) → IsBetweenStates ends.columns reach → AllByRecursion IsReachCase reach.cases
  reach-case reach is =
      each-both (λ (case : Case). case.aux ≤ 64) (λ case. IsTrue (fits ends.columns ends.columns case)) reach.cases
      (recursion_from_All (λ (case : Case). case.aux ≤ 64) reach.cases (fitted-few reach is.fitted))
      (each_from_test (fits ends.columns ends.columns) (λ case. IsTrue (fits ends.columns ends.columns case)) (λ case h. h) reach.cases
      (subst (λ n. IsTransition n ends.columns reach.cases) is.from (subst (λ n. IsTransition reach.from n reach.cases) is.to is.fits)))

  -- for the code
  pub entry-case-at : (entry : Transition) → IsEntry ends.entry entry → (cases : List Case) → cases ≡ entry.cases → (i : ℕ) (case : Case) → i < length cases → case ≡ get_or cases i case → IsEntryCase ends.entry case
  entry-case-at entry is cases same i case lt at = each-at (IsEntryCase ends.entry) cases entry.cases i case (entry-case entry is) same lt at

  pub entry-long : (case : Case) → IsEntryCase ends.entry case → ends.remembered ≤ length case.post
  entry-long case h = let long = (fitting 0 ends.entry case h.fits).length_is in let le = known.remembered in omega (arith, long, le)

  begun-aux : (case : Case) → IsEntryCase ends.entry case → (begun_case ends case).aux ≤ 127
  begun-aux case h = let few = h.few in let columns = known.few_columns in omega (arith, few, columns)

  pub begun-few : (case : Case) → IsEntryCase ends.entry case → (reach : Transition) → IsBetweenStates ends.columns reach → All (λ (second : Case). (begun_case ends case).aux + second.aux + reach.to < 2 ^ 32) reach.cases
  begun-few case h reach is =
      let own = begun-aux case h in
      let columns = known.few_columns in
      let to = is.to in
      All-from_recursion (λ (second : Case). (begun_case ends case).aux + second.aux + reach.to < 2 ^ 32) reach.cases
      (each-more IsReachCase (λ (second : Case). (begun_case ends case).aux + second.aux + reach.to < 2 ^ 32) (λ second k. let few = k.0 in omega (arith, own, few, columns, to)) reach.cases (reach-case reach is))

  remembered-long : (case : Case) → IsEntryCase ends.entry case → length (take ends.remembered case.post) ≡ ends.remembered
  remembered-long case h = let long = (fitting 0 ends.entry case h.fits).length_is in let le = known.remembered in length-take-le ends.remembered case.post (omega (arith, long, le))

  -- the entry's posts have no columns but those of the case with further columns
  remembered-below : (case : Case) → IsEntryCase ends.entry case → IsTrue (list_all (every_column (is_below 0 (begun_case ends case).aux)) (take ends.remembered case.post))
  remembered-below case h =
      take-passes (every_column (is_below 0 (begun_case ends case).aux)) ends.remembered case.post
      (all_more (every_column (is_below 0 case.aux)) (every_column (is_below 0 (begun_case ends case).aux))
      (more_columns (is_below 0 case.aux) (is_below 0 (begun_case ends case).aux) (is_below-more 0 case.aux (begun_case ends case).aux (omega arith))) case.post (fitting 0 ends.entry case h.fits).posts_are)

  state-case-fits : (a b : Case) → IsEntryCase ends.entry a → IsReachCase b → IsTrue (fits 0 (ends.columns + ends.remembered) (state_case ends a b))
  state-case-fits a b h k =
      let whole = sequence_of_cases-fits 0 ends.columns ends.columns (begun_case ends a) b (begun-fits a h.fits) k.1 in
      let same : 0 + (ends.columns + length (take ends.remembered a.post)) ≡ ends.columns + ends.remembered = let long = remembered-long a h in omega (arith, long) in
      subst (λ n. IsTrue (fits 0 n (state_case ends a b))) same
      (from_fitting 0 (0 + (ends.columns + length (take ends.remembered a.post))) (state_case ends a b)
      (told-fitting 0 ends.columns (sequence_of_cases (begun_case ends a) b) [] (take ends.remembered a.post) (fitting 0 ends.columns (sequence_of_cases (begun_case ends a) b) whole) refl
      (carried-below 0 (begun_case ends a) b (take ends.remembered a.post) (remembered-below a h))))

  state-case-few : (a b : Case) → IsEntryCase ends.entry a → IsReachCase b → (state_case ends a b).aux ≤ 1000
  state-case-few a b h k =
      let long = (fitting ends.columns ends.columns b k.1).length_is in
      let columns = known.few_columns in
      let all = sequence-aux 127 64 ends.columns (begun_case ends a) b (begun-aux a h) k.0 long in
      omega (arith, all, columns)

  state-case-holds : (begun others after : List ℤ) → length (begun ++ others) ≡ ends.columns → (a b : Case) → IsEntryCase ends.entry a → IsReachCase b → HoldsCase a [] begun → HoldsCase b (begun ++ others) after
      → HoldsCase (state_case ends a b) [] (after ++ take ends.remembered begun)
  state-case-holds begun others after long a b h k first second =
      let start = begun-holds a h.fits begun others long first in
      let fit = fitting 0 ends.columns (begun_case ends a) (begun-fits a h.fits) in
      let carries = sequence-carries 0 ends.columns ends.columns (begun_case ends a) b fit (fitting ends.columns ends.columns b k.1) [] (begun ++ others) after start second in
      let w : Valuation = numbers [] start.0 in
      let new : List Polynomial = map (λ n. column_of (Aux n)) (range_with_len a.aux (ends.columns - ends.entry)) in
      let values : map (value_of w) a.post ++ map (value_of w) new ≡ begun ++ others = sym (map-append (value_of w) a.post new) ∙ start.1.posts in
      let own = (fitting 0 ends.entry a h.fits).length_is in
      let begun-long : length begun ≡ ends.entry = some-length 0 ends.entry (a ∷ []) (alone-fits 0 ends.entry a h.fits) [] begun (inl first) in
      let le = known.remembered in
      let mapped = length-map a.post (value_of w) in
      let told : map (value_of w) (take ends.remembered a.post) ≡ take ends.remembered begun =
      sym (take-map (value_of w) ends.remembered a.post)
      ∙ sym (take-append-le ends.remembered (map (value_of w) a.post) (map (value_of w) new) (omega (arith, le, mapped, own)))
      ∙ ap (take ends.remembered) values
      ∙ take-append-le ends.remembered begun others (omega (arith, le, begun-long)) in
      let kept = carried-values 0 (begun_case ends a) b [] after start.0 carries (take ends.remembered a.post) (remembered-below a h) ∙ told in
      (carries.aux, told-holds (numbers [] carries.aux) (sequence_of_cases (begun_case ends a) b) [] (take ends.remembered a.post) [] after (take ends.remembered begun) refl carries.holds kept)

  -- ---- all cases

  module _ (entry reach : Transition) (begins : IsEntry ends.entry entry) (leads : IsBetweenStates ends.columns reach) where
    pub state-fits : IsTransition 0 (ends.columns + ends.remembered) (state_formula ends entry reach).cases
    state-fits =
        test_from_each (fits 0 (ends.columns + ends.remembered)) (λ case. IsTrue (fits 0 (ends.columns + ends.remembered) case)) (λ case h. h) (state_formula ends entry reach).cases
        (each-pair (state_case ends) (IsEntryCase ends.entry) IsReachCase (λ case. IsTrue (fits 0 (ends.columns + ends.remembered) case)) state-case-fits entry.cases reach.cases (entry-case entry begins) (reach-case reach leads))

    state-few : AllByRecursion (λ (case : Case). case.aux ≤ 1000) (state_formula ends entry reach).cases
    state-few = each-pair (state_case ends) (IsEntryCase ends.entry) IsReachCase (λ (case : Case). case.aux ≤ 1000) state-case-few entry.cases reach.cases (entry-case entry begins) (reach-case reach leads)

    pub state-solvable : AreSolvable (state_formula ends entry reach).cases
    state-solvable =
        All-from_recursion IsSolvable (state_formula ends entry reach).cases
        (each-more (λ (case : Case). (case.aux ≤ 1000) × IsTrue (fits 0 (ends.columns + ends.remembered) case)) IsSolvable
        (λ case h. let few = h.0 in let columns = known.few_columns in let kept = known.remembered in let le = known.few_entry in fits-solvable 0 (ends.columns + ends.remembered) case h.1 (omega (arith, few, columns, kept, le))) (state_formula ends entry reach).cases
        (each-both (λ (case : Case). case.aux ≤ 1000) (λ case. IsTrue (fits 0 (ends.columns + ends.remembered) case)) (state_formula ends entry reach).cases state-few
        (each_from_test (fits 0 (ends.columns + ends.remembered)) (λ case. IsTrue (fits 0 (ends.columns + ends.remembered) case)) (λ case h. h) (state_formula ends entry reach).cases state-fits)))

    pub state-from : (f : Transition) → f ≡ state_formula ends entry reach → IsFrom ends.start ends.point f
    state-from f e =
        subst (IsFrom ends.start ends.point) (sym e)
        (record { from_is = sym known.start_columns; to_is = sym known.point_columns; fits = state-fits })

    state-holds : (begun others after : List ℤ) → Holds entry [] begun → length (begun ++ others) ≡ ends.columns → Holds reach (begun ++ others) after → Holds (state_formula ends entry reach) [] (after ++ take ends.remembered begun)
    state-holds begun others after first long second =
        record {
          enters = refl;
          some = some-pair (state_case ends) (IsEntryCase ends.entry) IsReachCase
              (record { first_before = []; first_after = begun; second_before = begun ++ others; second_after = after; before = []; after = after ++ take ends.remembered begun })
              (state-case-holds begun others after long) entry.cases reach.cases (entry-case entry begins) (reach-case reach leads) first.some second.some;
        }

    -- ---- settled and fitted, and with the columns that are not remembered

    module _ (made : Transition) (is : IsBetweenEnds ends.start ends.point made) where
      made-to : made.to ≡ ends.columns + ends.remembered
      made-to = is.between.to_is ∙ known.point_columns

      pub made-more : made.to ≤ ends.columns + ends.entry
      made-more = let to = made-to in let le = known.remembered in omega (arith, to, le)

      pub whole-state : IsState (ends.columns + ends.entry) (extended_formula (ends.columns + ends.entry) made)
      whole-state = record {
        from = is.between.from_is ∙ known.start_columns;
        to = refl;
        fits = extended-fits (ends.columns + ends.entry) made made-more is.between.fits;
        few =
            All-from_recursion (λ (case : Case). case.aux ≤ 88) (extended_formula (ends.columns + ends.entry) made).cases
            (each-map (λ (case : Case). case.aux ≤ 64) (λ (case : Case). case.aux ≤ 88) (extended_case (ends.columns + ends.entry - made.to))
            (λ case few. let to = made-to in let le = known.few_entry in omega (arith, few, to, le)) made.cases
            (recursion_from_All (λ (case : Case). case.aux ≤ 64) made.cases (fitted-few made is.fitted)));
      }

      pub whole-holds : (f : Transition) → f ≡ state_formula ends entry reach → Covers made f → HoldsAtPoint ends.columns entry reach (extended_formula (ends.columns + ends.entry) made)
      whole-holds f e covers begun others after first long second =
          let r = ends.remembered in
          let own : length begun ≡ ends.entry = some-length entry.from entry.to entry.cases begins.fits [] begun first.some ∙ begins.to in
          let le = known.remembered in
          let to = made-to in
          let left = length-drop r begun in
          let there = covers [] (after ++ take r begun) (subst (λ g. Holds g [] (after ++ take r begun)) (sym e) (state-holds begun others after first long second)) in
          subst (Holds (extended_formula (ends.columns + ends.entry) made) []) (append_assoc after (take r begun) (drop r begun) ∙ ap (λ l. after ++ l) (take-append-drop r begun))
          (extended-holds (ends.columns + ends.entry) made is.between.fits [] (after ++ take r begun) (drop r begun) (omega (arith, left, own, to, le)) there)
