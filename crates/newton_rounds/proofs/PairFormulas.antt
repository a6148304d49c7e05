-- The formula of a call goes from the caller's pair to the callee's, by cases with few auxiliaries.
use Rattle.std.proofs.Common.{◌≡◌, ℕ, ◌+◌, ◌≤◌, length, length-append, map, List, ◌++◌, refl, subst, ◌∙◌, arith}
use Rattle.std.specs.List.{range_with_len}
use Rattle.std.proofs.lemmas.List.FromFn.{length-range_with_len}
use Rattle.items.proofs.Each.{each-map}
use Rattle.linear_terms.specs.declared.row.Case.{Case}
use Rattle.transition_formula.specs.Composition.{sequence_of}
use Rattle.transition_formula.specs.Equating.{equated_formula, equated_case}
use Rattle.transition_formula.specs.Posts.{case_with_posts}
use Rattle.transition_formula.specs.Transition.{Transition, IsTransition, every_column, is_below}
use Rattle.transition_formula.proofs.Fitting.{sequence-fits}
use Rattle.transition_formula.proofs.PostsAsEntries.{equated-fits}
use Rattle.transition_formula.proofs.SomePosts.{with_posts-fits}
use Rattle.leaf_cases.specs.Edges.{arguments_of}
use Rattle.leaf_cases.specs.Guard.{columns_of}
use Rattle.leaf_cases.proofs.Arguments.{arguments-fit, arguments-sit}
use Rattle.leaf_cases.proofs.EdgeFits.{few-sit}
use Rattle.proc_summary.specs.Claims.{IsBetweenStates}
use Rattle.proc_summary.specs.Summary.{exit_formula, exit_places}
use Rattle.newton_rounds.specs.Between.{GoesBetween}
use Rattle.newton_rounds.specs.Pairs.{PairEnds, Stretch, along, callee_width, columns_from, pair_formula, stations_of}
use Rattle.newton_rounds.specs.Shapes.{IsStretchBetween}
use Rattle.newton_rounds.proofs.PairNumbers.{HasFew, few-more, sequence-few, states-few, states-of}
use Rattle.newton_rounds.proofs.ExitColumns.{exit-few, pair-holds}
use Rattle.newton_rounds.proofs.PostFormulas.{appended, carrying-fits, columns-covered, columns-length, exit-fits, fronted-few, posted-fits}
use Rattle.newton_rounds.proofs.CallStations.{callee-along, enough, fewer, narrow, told-along}
use Rattle.newton_rounds.proofs.PairStates.{told-fits, told-has}

module _ (caller callee : PairEnds) (s : Stretch) (is : IsStretchBetween caller callee s) where
  abbrev columns : ℕ
  columns = caller.ends.full.columns

  abbrev globals : ℕ
  globals = caller.ends.globals

  abbrev entry : ℕ
  entry = globals + length s.call.args

  abbrev exit : ℕ
  exit = callee.ends.exit.columns

  abbrev width : ℕ
  width = callee_width caller.ends callee.ends s.call.args

  abbrev first : Transition
  first = (stations_of caller callee s).first

  abbrev second : Transition
  second = (stations_of caller callee s).second

  abbrev third : Transition
  third = (stations_of caller callee s).third

  abbrev fourth : Transition
  fourth = (stations_of caller callee s).fourth

  abbrev whole : Transition
  whole = along (stations_of caller callee s)

  -- ---- each station

  pub first-fits : IsTransition caller.pair.columns columns first.cases
  first-fits = told-fits caller is.caller_is s.before is.before

  args-few : HasFew 800000 (arguments_of s.call.args).cases
  args-few =
      let most = is.call.operators in
      few-more _ 800000 (arguments_of s.call.args).cases (omega (arith, most)) (few-sit columns _ (arguments_of s.call.args).cases (arguments-sit columns s.call.args is.call.below))

  pub second-fits : IsTransition columns (columns + entry) second.cases
  second-fits =
      posted-fits columns (length s.call.args) (columns + entry) (λ case. columns_of columns ++ (columns_of globals ++ case.post))
      (λ case f. record {
        length_is =
            length-append (columns_of columns) (columns_of globals ++ case.post)
            ∙ (λ i. columns-length 0 columns i + (length-append (columns_of globals) case.post ∙ (λ j. columns-length 0 globals j + f.length_is j)) i);
        rows_are = f.rows_are;
        posts_are =
            appended (every_column (is_below columns case.aux)) (columns_of columns) (columns_of globals ++ case.post) (columns-covered 0 columns columns case.aux (omega arith))
            (appended (every_column (is_below columns case.aux)) (columns_of globals) case.post (columns-covered 0 globals columns case.aux (let le = fewer caller callee s is in omega (arith, le))) f.posts_are);
      }) (arguments_of s.call.args).cases (arguments-fit columns s.call.args is.call.below)

  second-few : HasFew 800000 second.cases
  second-few = fronted-few (λ case. columns_of columns ++ (columns_of globals ++ case.post)) (λ n. n ≤ 800000) (arguments_of s.call.args).cases args-few

  pub third-fits : IsTransition (columns + entry) (columns + entry + exit) third.cases
  third-fits = exit-fits columns globals s.call.into entry exit (enough caller callee s is) (fewer caller callee s is)

  pub after : IsBetweenStates columns (exit_formula columns s.after)
  after = states-of columns s.after is.after

  pub fourth-fits : IsTransition (columns + width) (columns + width) fourth.cases
  fourth-fits =
      carrying-fits columns width (exit_formula columns s.after).cases
      (subst (λ from. IsTransition from columns (exit_formula columns s.after).cases) after.from
      (subst (λ to. IsTransition (exit_formula columns s.after).from to (exit_formula columns s.after).cases) after.to after.fits))

  fourth-few : HasFew 64 fourth.cases
  fourth-few = fronted-few (λ case. case.post ++ columns_from columns width) (λ n. n ≤ 64) (exit_formula columns s.after).cases (states-few columns (exit_formula columns s.after) after)

  -- ---- one after another

  same-width : columns + entry + exit ≡ columns + width
  same-width = omega arith

  pub entered-fits : IsTransition caller.pair.columns (columns + entry) (sequence_of first second).cases
  entered-fits = sequence-fits caller.pair.columns columns (columns + entry) first.cases second.cases first-fits second-fits

  pub returned-fits : IsTransition caller.pair.columns (columns + width) (sequence_of (sequence_of first second) third).cases
  returned-fits =
      subst (λ to. IsTransition caller.pair.columns to (sequence_of (sequence_of first second) third).cases) same-width
      (sequence-fits caller.pair.columns (columns + entry) (columns + entry + exit) (sequence_of first second).cases third.cases entered-fits third-fits)

  whole-fits : IsTransition caller.pair.columns (columns + width) whole.cases
  whole-fits = sequence-fits caller.pair.columns (columns + width) (columns + width) (sequence_of (sequence_of first second) third).cases fourth.cases returned-fits fourth-fits

  whole-few : HasFew 900000 whole.cases
  whole-few =
      few-more _ 900000 whole.cases (let n = narrow caller callee s is in let few = exit-few callee is.callee_is in omega (arith, n, few))
      (sequence-few _ 64 (columns + width) (columns + width) (sequence_of (sequence_of first second) third).cases fourth.cases fourth-fits
      (sequence-few _ 17 (columns + entry) (columns + entry + exit) (sequence_of first second).cases third.cases third-fits
      (sequence-few 190 800000 columns (columns + entry) first.cases second.cases second-fits (told-has caller is.caller_is s.before is.before) second-few)
      (exit-few callee is.callee_is, tt)) fourth-few)

  equal-fits : IsTransition caller.pair.columns (columns + width) (equated_formula caller.ends.entry.columns (exit_places caller.ends) whole).cases
  equal-fits = equated-fits caller.ends.entry.columns (exit_places caller.ends) whole (told-along caller callee s is) (pair-holds caller is.caller_is) whole-fits

  equal-few : (cases : List Case) → HasFew 900000 cases → HasFew 900000 (map (equated_case caller.ends.entry.columns (exit_places caller.ends)) cases)
  equal-few cases h = each-map (λ (case : Case). case.aux ≤ 900000) (λ (case : Case). case.aux ≤ 900000) (equated_case caller.ends.entry.columns (exit_places caller.ends)) (λ case k. k) cases h

  pub pair-goes : callee.ends.entry.columns ≡ entry → GoesBetween 900000 caller.pair.columns callee.pair.columns (pair_formula caller callee s)
  pair-goes enters =
      let places = range_with_len columns width in
      let equal = equated_formula caller.ends.entry.columns (exit_places caller.ends) whole in
      record {
        from_is = refl;
        to_is = length-range_with_len columns width ∙ (let pair = is.callee_is.pair in omega (arith, pair, enters));
        fits = with_posts-fits places equal (callee-along caller callee s is) equal-fits;
        few = each-map (λ (case : Case). case.aux ≤ 900000) (λ (case : Case). case.aux ≤ 900000) (case_with_posts places) (λ case k. k) equal.cases (equal-few whole.cases whole-few);
      }
