-- Stars, evaluations, flows and summaries tell each limit at once.
--     star-tells                          a star, and a repetition under a rule without phases
--     settled_and_fitted-tells            an operation
--     evaluated-tells                     all operations of a graph
--     cells-tell, flow-tells, summary-tells
-- Under a rule with phases a limit may let a split fall, and is then told nowhere.
use Rattle.std.proofs.Common.{ℕ, zero, suc, List, [], ◌∷◌, Bool, true, false, refl, sym, subst}
use Rattle.std.specs.Prelude.{Option, None, replicate}
use Rattle.std.specs.List.{AllByRecursion}
use Rattle.linear_terms.specs.declared.row.Case.{Case}
use Rattle.transition_formula.specs.Transition.{Transition}
use Rattle.path_expr.specs.PathExpr.{PathExpr, Zero, One, Edge, Seq, Join, Star}
use Rattle.polyhedra.specs.Vocabulary.{Vocabulary}
use Rattle.recurrence.specs.Star.{rows_of, star_by, star_of, turns}
use Rattle.recurrence.specs.Strata.{strata, stratum, stratum_if}
use Rattle.phases.specs.Repetition.{repetition}
use Rattle.phases.specs.Rules.{IsPlainRule}
use Rattle.phases.proofs.Repetitions.{repetition-plain}
use Rattle.syntax_tree.specs.declared.program.Proc.{Proc}
use Rattle.syntax_tree.specs.declared.program.Program.{Program}
use Rattle.vocabularies.specs.Ends.{full_of}
use Rattle.checked_tree.specs.Evaluation.{Made, evaluated_cells, evaluation, formula_at, join_formula, leaf_formula, own, sequence_formula, settled_and_fitted, with_made}
use Rattle.checked_tree.specs.Graph.{Graph, bare, start_of, start_vocabulary, vocabulary_at}
use Rattle.proc_summary.specs.Flow.{cells_from, flow_from}
use Rattle.proc_summary.specs.Subject.{Subject, graph_by, own_graph, subject_of}
use Rattle.proc_summary.specs.Summary.{Ends, summary_from}
use Rattle.named_limits.proofs.Balance.{TellsAll, tells-bind, tells-done, tells-each, tells-noted, tells-then}
use Rattle.named_limits.proofs.FittingLimits.{bounded-tells, finished-tells, fitted-tells, losses-tell_none, relations-tell, settled-tells, with_row-tells}

-- ---- stars

stratum-tells : (body : Transition) (lower : _) → TellsAll (stratum body lower)
unfolding stratum
stratum-tells body lower = tells-then _ (relations-tell _ _)

stratum_if-tells : (asked : Bool) (body : Transition) (lower : _) → TellsAll (stratum_if asked body lower)
stratum_if-tells true body lower = stratum-tells body lower
stratum_if-tells false body lower = tells-done None

strata-tell : (body : Transition) (products : _) → TellsAll (strata body products)
unfolding strata
strata-tell body products = tells-bind (stratum-tells body []) (λ v1. tells-bind (stratum_if-tells _ body _) (λ v2. tells-then _ (stratum_if-tells _ body _)))

rows-tell : (body : Transition) (voc : Vocabulary) (found : _) → TellsAll (rows_of body voc found)
unfolding rows_of
rows-tell body voc found =
    tells-bind (tells-each _ [] _ (λ rows t. with_row-tells rows _)) (λ equations.
    tells-bind (tells-each _ _ _ (λ rows d. bounded-tells _ _ _ rows)) (λ before.
    tells-bind (tells-each _ before _ (λ rows d. bounded-tells _ _ _ rows)) (λ both.
    tells-bind (tells-each _ both _ (λ rows d. bounded-tells _ _ _ rows)) (λ changes. tells-each _ changes _ (λ rows p. bounded-tells _ _ _ rows)))))

turns-tell : (body : Transition) (voc : Vocabulary) → TellsAll (turns body voc)
unfolding turns
turns-tell body voc = tells-bind (tells-noted (losses-tell_none _) (strata-tell body _)) (λ found. tells-then _ (rows-tell body voc found))

star_by-tells : (body : Transition) (voc : Vocabulary) (cases : List Case) → TellsAll (star_by body voc cases)
star_by-tells body voc [] = tells-done _
star_by-tells body voc (case ∷ cases) = tells-then _ (tells-bind (turns-tell body voc) (λ made. finished-tells made))

pub star-tells : (body : Transition) (voc : Vocabulary) → TellsAll (star_of body voc)
unfolding star_of
star-tells body voc = star_by-tells body voc body.cases

-- ---- rules without phases

-- the rule of a vocabulary has no phases
abbrev pub HasPlainRule : Vocabulary → Type 0
HasPlainRule voc = IsPlainRule voc.rule

-- nor has that of any node
abbrev pub HavePlainRules : Graph → Type 0
HavePlainRules g = (node : ℕ) → HasPlainRule (vocabulary_at g node)

bare-plain : (nodes : List Vocabulary) → AllByRecursion HasPlainRule nodes → HavePlainRules (bare nodes)
bare-plain [] all zero = record { no_phases = refl; no_facets = refl }
bare-plain [] all (suc n) = record { no_phases = refl; no_facets = refl }
bare-plain (voc ∷ nodes) all zero = all.0
bare-plain (voc ∷ nodes) all (suc n) = bare-plain nodes all.1 n

pub nodes-plain : (g : Graph) → AllByRecursion HasPlainRule g.nodes → HavePlainRules g
nodes-plain g all node = bare-plain g.nodes all node

copies-plain : (voc : Vocabulary) → HasPlainRule voc → (count : ℕ) → AllByRecursion HasPlainRule (replicate count voc)
copies-plain voc is_plain zero = tt
copies-plain voc is_plain (suc count) = (is_plain, copies-plain voc is_plain count)

full-plain : (program : Program) (p : Proc) → IsPlainRule program.rule → HasPlainRule (full_of program p)
unfolding full_of
full-plain program p is_plain = is_plain

pub subject-plain : (program : Program) (p : Proc) (known : List (Option Transition)) → IsPlainRule program.rule → HavePlainRules (graph_by (subject_of program p known))
subject-plain program p known is_plain =
    nodes-plain (graph_by (subject_of program p known)) (copies-plain (full_of program p) (full-plain program p is_plain) (own_graph p).nodes)

pub repetition-tells : (body : Transition) (voc : Vocabulary) → HasPlainRule voc → TellsAll (repetition body voc)
repetition-tells body voc is_plain = subst TellsAll (sym (repetition-plain body voc is_plain)) (star-tells body voc)

-- ---- evaluations

pub settled_and_fitted-tells : (f : Transition) (from to : Vocabulary) → TellsAll (settled_and_fitted f from to)
unfolding settled_and_fitted
settled_and_fitted-tells f from to = tells-bind (settled-tells f) (λ g. fitted-tells g from to)

leaf-tells : (f : Transition) (from to : Vocabulary) → TellsAll (leaf_formula f from to)
unfolding leaf_formula
leaf-tells f from to = settled_and_fitted-tells f from to

sequence-tells : (first second : Transition) (from to : Vocabulary) → TellsAll (sequence_formula first second from to)
unfolding sequence_formula
sequence-tells first second from to = tells-noted (losses-tell_none _) (settled_and_fitted-tells _ from to)

join-tells : (left right : Transition) (from to : Vocabulary) → TellsAll (join_formula left right from to)
unfolding join_formula
join-tells left right from to = fitted-tells _ from to

own-tells : (g : Graph) (made : Made) (path : PathExpr) → HavePlainRules g → TellsAll (own g made path)
own-tells g made Zero is_plain = tells-done _
own-tells g made One is_plain = tells-done _
own-tells g made (Edge number) is_plain = leaf-tells _ _ _
own-tells g made (Seq a b) is_plain = sequence-tells _ _ _ _
own-tells g made (Join a b) is_plain = join-tells _ _ _ _
own-tells g made (Star a) is_plain = repetition-tells (formula_at made a) (start_vocabulary g a) (is_plain (start_of g a))

with_made-tells : (g : Graph) (made : Made) (path : PathExpr) → HavePlainRules g → TellsAll (with_made g made path)
unfolding with_made
with_made-tells g made path is_plain = tells-then _ (own-tells g made path is_plain)

evaluation-tells : (g : Graph) (source : ℕ) → HavePlainRules g → TellsAll (evaluation g source)
unfolding evaluation
evaluation-tells g source is_plain = tells-each (with_made g) [] _ (λ made path. with_made-tells g made path is_plain)

pub evaluated-tells : (g : Graph) (source : ℕ) → HavePlainRules g → TellsAll (evaluated_cells g source)
unfolding evaluated_cells
evaluated-tells g source is_plain = tells-then _ (evaluation-tells g source is_plain)

-- ---- procedures

pub cells-tell : (s : Subject) (source : ℕ) → HavePlainRules (graph_by s) → TellsAll (cells_from s source)
unfolding cells_from
cells-tell s source is_plain = tells-noted (losses-tell_none _) (evaluated-tells (graph_by s) source is_plain)

pub flow-tells : (s : Subject) → HavePlainRules (graph_by s) → TellsAll (flow_from s)
unfolding flow_from
flow-tells s is_plain = tells-then _ (cells-tell s 0 is_plain)

pub summary-tells : (ends : Ends) (exit : Option Transition) → TellsAll (summary_from ends exit)
unfolding summary_from
summary-tells ends exit = tells-noted (losses-tell_none _) (settled_and_fitted-tells _ _ _)
