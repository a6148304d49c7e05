-- The stations of a call fit one after another, and their auxiliaries are few enough to be
-- numbered.
use Rattle.std.proofs.Common.{◌≡◌, ℕ, ◌+◌, ◌<◌, ◌≤◌, ◌^◌, List, [], ◌∷◌, ◌++◌, length, map, refl, subst, ◌∙◌, append_assoc, arith}
use Rattle.std.specs.Prelude.{All}
use Rattle.std.specs.List.{range_with_len}
use Rattle.std.proofs.lemmas.List.Elements.{All-from_recursion, recursion_from_All}
use Rattle.std.proofs.lemmas.List.FromFn.{length-range_with_len}
use Rattle.items.proofs.Each.{each-more}
use Rattle.linear_terms.specs.declared.row.Case.{Case}
use Rattle.transition_formula.specs.Composition.{sequence_of}
use Rattle.transition_formula.specs.Transition.{Transition, AreFew, IsTransition}
use Rattle.proc_summary.specs.Claims.{IsBetweenStates}
use Rattle.proc_summary.specs.Summary.{exit_formula, exit_places}
use Rattle.newton_rounds.specs.Pairs.{PairEnds, Stretch, along, callee_width, carrying_case, stations_of}
use Rattle.newton_rounds.specs.Shapes.{IsStretchBetween}
use Rattle.newton_rounds.proofs.PairNumbers.{HasFew, both-few, few-more, sequence-few, states-few, states-of}
use Rattle.newton_rounds.proofs.ExitColumns.{exit-few, places-below, range-below}
use Rattle.newton_rounds.proofs.PostFormulas.{carrying-fits, exit-fits}
use Rattle.newton_rounds.proofs.PairStates.{told-has, told-to}

carrying-few : (columns more : ℕ) (cases : List Case) → HasFew 64 cases → HasFew 64 (map (carrying_case columns more) cases)
carrying-few columns more [] h = tt
carrying-few columns more (case ∷ cases) h = (h.0, carrying-few columns more cases h.1)

module _ (caller callee : PairEnds) (s : Stretch) (is : IsStretchBetween caller callee s) where
  abbrev columns : ℕ
  columns = caller.ends.full.columns

  abbrev entry : ℕ
  entry = caller.ends.globals + length s.call.args

  abbrev exit : ℕ
  exit = callee.ends.exit.columns

  abbrev first : Transition
  first = (stations_of caller callee s).first

  abbrev second : Transition
  second = (stations_of caller callee s).second

  abbrev third : Transition
  third = (stations_of caller callee s).third

  abbrev fourth : Transition
  fourth = (stations_of caller callee s).fourth

  after : IsBetweenStates columns (exit_formula columns s.after)
  after = states-of columns s.after is.after

  pub narrow : columns + entry + exit ≤ 104
  narrow =
      let full = is.caller_is.full in let globals = is.caller_is.globals in let few = is.call.few in let one = exit-few callee is.callee_is in
      omega (arith, full, globals, few, one)

  pub first-to : first.to ≡ second.from
  first-to = told-to caller is.caller_is s.before is.before

  pub enough : caller.ends.globals ≤ exit
  enough = let exit_is = is.callee_is.exit in let same = is.globals in omega (arith, exit_is, same)

  pub fewer : caller.ends.globals ≤ columns
  fewer = let enter = is.caller_is.globals_enter in let entry_in = is.caller_is.entry in omega (arith, enter, entry_in)

  third-fits : IsTransition third.from third.to third.cases
  third-fits = exit-fits columns caller.ends.globals s.call.into entry exit enough fewer

  third-few : HasFew 17 third.cases
  third-few = (exit-few callee is.callee_is, tt)

  fourth-fits : IsTransition fourth.from fourth.to fourth.cases
  fourth-fits =
      carrying-fits columns (callee_width caller.ends callee.ends s.call.args) (exit_formula columns s.after).cases
      (subst (λ from. IsTransition from columns (exit_formula columns s.after).cases) after.from
      (subst (λ to. IsTransition (exit_formula columns s.after).from to (exit_formula columns s.after).cases) after.to after.fits))

  fourth-few : HasFew 64 fourth.cases
  fourth-few = carrying-few columns (callee_width caller.ends callee.ends s.call.args) (exit_formula columns s.after).cases (states-few columns (exit_formula columns s.after) after)

  -- the columns that are told at the caller's exit, and the callee's entry and exit, are among
  -- those at the end
  pub told-along : All (λ place. place < (along (stations_of caller callee s)).to) (exit_places caller.ends)
  told-along = λ i d within. let lt = places-below caller is.caller_is i d within in omega (arith, lt)

  pub callee-along : All (λ place. place < (along (stations_of caller callee s)).to) (range_with_len columns (callee_width caller.ends callee.ends s.call.args))
  callee-along =
      All-from_recursion (λ place. place < columns + callee_width caller.ends callee.ends s.call.args) (range_with_len columns (callee_width caller.ends callee.ends s.call.args))
      (range-below columns (callee_width caller.ends callee.ends s.call.args) (columns + callee_width caller.ends callee.ends s.call.args) (omega arith))

  pub few-along : length (range_with_len columns (callee_width caller.ends callee.ends s.call.args)) < 2 ^ 32
  few-along = let long = length-range_with_len columns (callee_width caller.ends callee.ends s.call.args) in let n = narrow in omega (arith, long, n)

  module _ (fits : IsTransition second.from second.to second.cases) (few : All (λ (case : Case). case.aux < 2 ^ 31) second.cases) where
    second-few : HasFew 2147483647 second.cases
    second-few = each-more (λ (case : Case). case.aux < 2 ^ 31) (λ (case : Case). case.aux ≤ 2147483647) (λ case lt. omega (arith, lt)) second.cases (recursion_from_All (λ (case : Case). case.aux < 2 ^ 31) second.cases few)

    pub first-few : AreFew first second
    first-few = both-few 190 2147483647 second.to first.cases second.cases (told-has caller is.caller_is s.before is.before) second-few (let n = narrow in omega (arith, n))

    entered-few : HasFew 2147484000 (sequence_of first second).cases
    entered-few =
        few-more (190 + 2147483647 + second.to) 2147484000 (sequence_of first second).cases (let n = narrow in omega (arith, n))
        (sequence-few 190 2147483647 second.from second.to first.cases second.cases fits (told-has caller is.caller_is s.before is.before) second-few)

    pub entered-third : AreFew (sequence_of first second) third
    entered-third = both-few 2147484000 17 third.to (sequence_of first second).cases third.cases entered-few third-few (let n = narrow in omega (arith, n))

    returned-few : HasFew 2147484200 (sequence_of (sequence_of first second) third).cases
    returned-few =
        few-more (2147484000 + 17 + third.to) 2147484200 (sequence_of (sequence_of first second) third).cases (let n = narrow in omega (arith, n))
        (sequence-few 2147484000 17 third.from third.to (sequence_of first second).cases third.cases third-fits entered-few third-few)

    pub returned-fourth : AreFew (sequence_of (sequence_of first second) third) fourth
    returned-fourth = both-few 2147484200 64 fourth.to (sequence_of (sequence_of first second) third).cases fourth.cases returned-few fourth-few (let n = narrow in omega (arith, n))

-- ---- what is lost, one after another

pub noted-along : {X : Type 0} (old a b c d last more second third fourth now : List X) → now ≡ old ++ a → second ≡ now ++ b → third ≡ second ++ c → fourth ≡ third ++ d → more ≡ last
    → fourth ++ more ≡ old ++ (a ++ (b ++ (c ++ (d ++ last))))
noted-along old a b c d last more second third fourth now one two three four same =
    (λ i. ((four ∙ (λ j. (three ∙ (λ k. (two ∙ (λ l. one l ++ b)) k ++ c)) j ++ d)) i) ++ same i)
    ∙ simp append_assoc refl
