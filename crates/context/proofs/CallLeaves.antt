-- The leaf of a call goes from its procedure's entry to the callee's, has few auxiliaries, and
-- holds of how both begin.
use Rattle.std.proofs.Common.{◌≡◌, ℕ, ◌+◌, ◌-◌, ◌<◌, ◌≤◌, ◌^◌, ℤ, length, map, take, List, ◌++◌, Option, None, Some, refl, sym, ap, subst, ◌∙◌, append_assoc, arith}
use Rattle.std.specs.Prelude.{All}
use Rattle.std.specs.Option.{is_none}
use Rattle.std.proofs.lemmas.List.{length-map}
use Rattle.std.proofs.lemmas.List.Elements.{All-from_recursion, recursion_from_All}
use Rattle.std.proofs.lemmas.List.Sums.{count_by-le-length}
use Rattle.items.proofs.Each.{each-both, each-map, each-more, each_from_test}
use Rattle.linear_terms.specs.declared.row.Case.{Case}
use Rattle.syntax_tree.specs.declared.core_expr.Core.{Core}
use Rattle.syntax_tree.specs.Term.{Term, term_of}
use Rattle.execution.specs.Step.{values_of}
use Rattle.transition_formula.specs.declared.loss.Loss.{Loss}
use Rattle.transition_formula.specs.Composition.{losses_in_sequence}
use Rattle.transition_formula.specs.Hiding.{hidden, hidden_case, hiding}
use Rattle.transition_formula.specs.Loss.{answer_of}
use Rattle.transition_formula.specs.Meaning.{Holds}
use Rattle.transition_formula.specs.Transition.{AreFew, AreSolvable, IsTransition, Transition, fits}
use Rattle.transition_formula.proofs.Fitting.{fitting, sequence_of-fits}
use Rattle.transition_formula.proofs.HiddenColumns.{hidden-fits, hidden-holds}
use Rattle.transition_formula.proofs.Meanings.{sequence-holds}
use Rattle.leaf_cases.specs.Edges.{arguments_of, entering}
use Rattle.leaf_cases.proofs.Arguments.{arguments-fit}
use Rattle.leaf_cases.proofs.EdgeFits.{entering_few, entering_fits}
use Rattle.leaf_cases.proofs.EdgeMeanings.{entering_holds}
use Rattle.checked_tree.proofs.Between.{some-length}
use Rattle.proc_summary.specs.Claims.{FitsIf, HoldsIf, IsBetweenStates}
use Rattle.context.specs.declared.stand.Widths.{Widths}
use Rattle.context.specs.Ends.{HasFew}
use Rattle.context.specs.Entries.{call_leaf, handing_of, stand_of, stand_from_entry}
use Rattle.context.specs.Made.{AreArguments, AreWidths}
use Rattle.context.proofs.Few.{few-below, few-pairs, few-solvable, fitted-few, sequence-few}

-- ---- where the call stands

pub stand-between : (columns : ℕ) (stand : Option Transition) → FitsIf columns stand → IsBetweenStates columns (stand_of columns stand)
stand-between columns None h = record { from = refl; to = refl; fits = refl; fitted = refl }
stand-between columns (Some f) h = h

stand-holds : (columns : ℕ) (stand : Option Transition) (before after : List ℤ) → HoldsIf stand before after → Holds (stand_of columns stand) before after
stand-holds columns None before after h = absurd h
stand-holds columns (Some f) before after h = h

-- hiding adds an auxiliary for each entry column that it hides, and for each post that is lost
hidden-few : (n : ℕ) (f : Transition) → f.from ≤ 63 → f.to ≤ 63 → IsTransition f.from f.to f.cases → HasFew 64 f → HasFew 190 (hidden n f)
hidden-few n f from to fit few =
    All-from_recursion (λ (case : Case). case.aux ≤ 190) (map (hidden_case n f.from) f.cases)
    (each-map (λ (case : Case). (case.aux ≤ 64) × (length case.post ≡ f.to)) (λ (case : Case). case.aux ≤ 190) (hidden_case n f.from)
    (λ case h. let lost = count_by-le-length (λ p. is_none (answer_of (hiding n f.from case p))) case.post in let one = h.0 in let long = h.1 in omega (arith, lost, one, long, from, to)) f.cases
    (each-both (λ (case : Case). case.aux ≤ 64) (λ (case : Case). length case.post ≡ f.to) f.cases (recursion_from_All (λ (case : Case). case.aux ≤ 64) f.cases few)
    (each_from_test (fits f.from f.to) (λ (case : Case). length case.post ≡ f.to) (λ case h. (fitting f.from f.to case h).length_is) f.cases fit)))

module _ (w : Widths) (wide : AreWidths w) (stand : Option Transition) (fit : FitsIf w.columns stand) where
  stands : IsBetweenStates w.columns (stand_of w.columns stand)
  stands = stand-between w.columns stand fit

  told-within : w.entry ≤ (stand_of w.columns stand).from
  told-within = let le = wide.entry in let from = stands.from in omega (arith, le, from)

  told-fits : IsTransition (stand_from_entry w stand).from (stand_from_entry w stand).to (stand_from_entry w stand).cases
  told-fits = hidden-fits w.entry (stand_of w.columns stand).from (stand_of w.columns stand).to (stand_of w.columns stand).cases told-within stands.fits

  told-few : HasFew 190 (stand_from_entry w stand)
  told-few =
      let few = wide.few in
      let from = stands.from in
      let to = stands.to in
      hidden-few w.entry (stand_of w.columns stand) (omega (arith, few, from)) (omega (arith, few, to)) stands.fits (fitted-few (stand_of w.columns stand) stands.fitted)

  -- for the code: few auxiliaries before anything is hidden
  pub hiding-few : All (λ (case : Case). case.aux + ((stand_of w.columns stand).from - w.entry) + (stand_of w.columns stand).to < 2 ^ 32) (stand_of w.columns stand).cases
  hiding-few =
      let few = wide.few in
      let from = stands.from in
      let to = stands.to in
      All-from_recursion (λ (case : Case). case.aux + ((stand_of w.columns stand).from - w.entry) + (stand_of w.columns stand).to < 2 ^ 32) (stand_of w.columns stand).cases
      (each-more (λ (case : Case). case.aux ≤ 64) (λ (case : Case). case.aux + ((stand_of w.columns stand).from - w.entry) + (stand_of w.columns stand).to < 2 ^ 32)
      (λ case h. omega (arith, few, from, to, h)) (stand_of w.columns stand).cases
      (recursion_from_All (λ (case : Case). case.aux ≤ 64) (stand_of w.columns stand).cases (fitted-few (stand_of w.columns stand) stands.fitted)))

  pub hiding-within : w.entry ≤ (stand_of w.columns stand).from
  hiding-within = told-within

  module _ (args : List Term) (are : AreArguments w.columns args) where
    handing-fits : IsTransition (handing_of w args).from (handing_of w args).to (handing_of w args).cases
    handing-fits = entering_fits w.columns w.globals (length args) (arguments_of args).cases (handing_of w args).cases wide.globals (arguments-fit w.columns args are.below) refl

    handing-few : HasFew (2 ^ 31 - 1) (handing_of w args)
    handing-few =
        let same : 2 ^ 31 ≡ 2 ^ 31 - 1 + 1 = omega arith in
        few-below (2 ^ 31 - 1) (handing_of w args)
        (subst (λ n. All (λ (case : Case). case.aux < n) (handing_of w args).cases) same (entering_few w.columns w.globals args (handing_of w args) are.below are.operators refl))

    pub meets : (stand_from_entry w stand).to ≡ (handing_of w args).from
    meets = stands.to

    pub pairs-few : AreFew (stand_from_entry w stand) (handing_of w args)
    pairs-few =
        let few = wide.few in
        let globals = wide.globals in
        let count = are.few in
        few-pairs 190 (2 ^ 31 - 1) (stand_from_entry w stand) (handing_of w args) told-few handing-few (omega (arith, few, globals, count))

    pub leaf-fits : IsTransition w.entry (w.globals + length args) (call_leaf w stand args).cases
    leaf-fits = sequence_of-fits (stand_from_entry w stand) (handing_of w args) meets told-fits handing-fits

    pub leaf-solvable : AreSolvable (call_leaf w stand args).cases
    leaf-solvable =
        let few = wide.few in
        let globals = wide.globals in
        let count = are.few in
        few-solvable (190 + (2 ^ 31 - 1) + (w.globals + length args)) (call_leaf w stand args) leaf-fits
        (sequence-few 190 (2 ^ 31 - 1) (stand_from_entry w stand) (handing_of w args) handing-fits told-few handing-few) (omega (arith, few, globals, count))

    -- from the first columns of a state that leads to the call, to the globals and the values of
    -- the arguments
    pub leaf-holds : (before final values : List ℤ) → HoldsIf stand before final → values_of args final ≡ Some values
        → Holds (call_leaf w stand args) (take w.entry before) (take w.globals final ++ values)
    leaf-holds before final values h values_are =
        let holds = stand-holds w.columns stand before final h in
        let long : length final ≡ w.columns = some-length (stand_of w.columns stand).from (stand_of w.columns stand).to (stand_of w.columns stand).cases stands.fits before final holds.some ∙ stands.to in
        sequence-holds (stand_from_entry w stand) (handing_of w args) meets told-fits handing-fits (take w.entry before) final (take w.globals final ++ values)
        (hidden-holds w.entry (stand_of w.columns stand) told-within stands.fits before final holds)
        (entering_holds w.columns w.globals args wide.globals are.below final values long values_are)

-- ---- for the code

pub handing-is : (w : Widths) (args : List Core) (f : Transition) → f ≡ entering w.columns w.globals (length args) (arguments_of (map term_of args)).cases → f ≡ handing_of w (map term_of args)
handing-is w args f is = is ∙ (λ i. entering w.columns w.globals (sym (length-map args term_of) i) (arguments_of (map term_of args)).cases)

-- losses noted one after the other
pub losses-join : (old first second third a b d : List Loss) → first ≡ old ++ a → second ≡ first ++ b → third ≡ second ++ d → third ≡ old ++ (a ++ (b ++ d))
losses-join old first second third a b d e f h =
    h ∙ ap (λ l. l ++ d) (f ∙ ap (λ l. l ++ b) e) ∙ append_assoc (old ++ a) b d ∙ append_assoc old a (b ++ d)

pub sequence-losses : (old : List Loss) (a b c d : Transition) → a ≡ c → b ≡ d → old ++ losses_in_sequence a b ≡ old ++ losses_in_sequence c d
sequence-losses old a b c d e f = λ i. old ++ losses_in_sequence (e i) (f i)
