-- Calls that return are known calls, where the known formulas are met.
use Rattle.std.proofs.Common.{◌≡◌, ℕ, ℤ, ◌+◌, Bool, true, false, List, [], ◌∷◌, ◌++◌, sym, ap, subst, ◌∙◌, arith, length, take, length-append}
use Rattle.std.specs.Prelude.{if◌then◌else◌}
use Rattle.std.proofs.lemmas.List.{take_all}
use Rattle.std.proofs.Math.Seq.{take-append_seam}
use Rattle.syntax_tree.specs.declared.program.Program.{Program}
use Rattle.syntax_tree.specs.Code.{Set, Any, Call, Guard, Check, If, Loop, Break, Continue, Return}
use Rattle.syntax_tree.specs.Value.{State}
use Rattle.execution.specs.Execution.{Returns}
use Rattle.execution.proofs.Widths.{globals_stay}
use Rattle.transition_formula.specs.Meaning.{Holds}
use Rattle.leaf_cases.specs.Conditions.{exits_of}
use Rattle.leaf_cases.specs.Summaries.{MetCallsAreKnown, MetEdgesAreKnown, if_returned}

-- a return keeps the number of globals
pub returns-globals : (program : Program) (proc : ℕ) (globals args after : State) (value : ℤ) → Returns program proc globals args after value → length after ≡ length globals
returns-globals program proc globals args after value r =
    globals_stay program r.first (record { globals = after; frames = r.frame ∷ [] }) r.steps r.runs ∙ ap (λ c. length c.globals) r.begins.first_is

pub exits_are : (returns : Bool) (globals : ℕ) (left : List ℤ) (value : ℤ) → length left ≡ globals
    → take (if returns then globals + 1 else globals) (left ++ value ∷ []) ≡ if_returned returns left value
exits_are true globals left value e = take_all (globals + 1) (left ++ value ∷ []) (let sum = length-append left (value ∷ []) in omega (arith, sum, e))
exits_are false globals left value e = subst (λ n. take n (left ++ value ∷ []) ≡ left) e (take-append_seam left (value ∷ []))

pub met_calls_are_known : MetCallsAreKnown
met_calls_are_known program known fit met proc formula is globals args after value r =
    let callee = r.begins.entered.callee in
    let there = r.begins.entered.is in
    let same = returns-globals program proc globals args after value r in
    let exits = exits_are callee.returns (length program.globals) after value (same ∙ r.begins.width) in
    let to : formula.to ≡ exits_of program callee = (fit.fit proc callee formula there is).leaves in record {
      formula = formula;
      is = is;
      same = same;
      holds = subst (λ left. Holds formula (globals ++ args) left) (sym (ap (λ n. take n (after ++ value ∷ [])) to ∙ exits)) (met proc formula is callee there globals args after value r);
    }

pub met_edges_are_known : MetEdgesAreKnown
met_edges_are_known program known fit met (Call proc args into) knows before after relates = record {
  values = relates.values;
  are = relates.are;
  left = relates.left;
  value = relates.value;
  returns = met_calls_are_known program known fit met proc knows.0 knows.1 _ relates.values relates.left relates.value relates.returns;
  after_is = relates.after_is;
}
met_edges_are_known program known fit met (Set col value) knows before after relates = relates
met_edges_are_known program known fit met (Any col) knows before after relates = relates
met_edges_are_known program known fit met (Guard cond) knows before after relates = relates
met_edges_are_known program known fit met (Check number cond) knows before after relates = relates
met_edges_are_known program known fit met (If cond on_true on_false) knows before after relates = relates
met_edges_are_known program known fit met (Loop pre cond body step first) knows before after relates = relates
met_edges_are_known program known fit met Break knows before after relates = relates
met_edges_are_known program known fit met Continue knows before after relates = relates
met_edges_are_known program known fit met Return knows before after relates = relates
