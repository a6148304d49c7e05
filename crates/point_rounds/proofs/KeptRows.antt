-- Rows that every step keeps are true in every execution from `main`.
use Rattle.std.proofs.Common.{◌≡◌, ◌<◌, ℕ, zero, suc, ◌+◌, ℤ, pos, List, [], ◌∷◌, ◌++◌, Option, Some, refl, sym, ap, subst, ◌∙◌, arith, append_assoc, length, take, length-append}
use Rattle.std.specs.Prelude.{Bool, true, false, IsTrue, ◌==◌, slice_get, unwrap_or}
use Rattle.std.proofs.lemmas.Bool.{eqb-true, eqb-false, ltb-true}
use Rattle.linear_terms.specs.declared.col.Col.{Col}
use Rattle.linear_terms.specs.declared.col.Col.TheVariants.{At, Aux}
use Rattle.linear_terms.specs.declared.row.Row.{Row}
use Rattle.transition_formula.specs.Meaning.{numbers}
use Rattle.transition_formula.specs.Transition.{is_below}
use Rattle.transition_formula.proofs.Values.{rows-agree}
use Rattle.syntax_tree.specs.declared.program.Program.{Program}
use Rattle.syntax_tree.specs.Code.{Call}
use Rattle.syntax_tree.specs.Term.{Term}
use Rattle.syntax_tree.specs.Value.{State}
use Rattle.vocabularies.specs.Ends.{entry_width}
use Rattle.execution.specs.Execution.{initial_globals}
use Rattle.execution.specs.Step.{values_of}
use Rattle.flow_graph.specs.FlowGraph.{Arc, body_of, exit_of}
use Rattle.flow_graph.specs.Laws.{last_of}
use Rattle.point_induction.specs.Induction.{AreKept, ArrivalSaid, IsFirstState, PassageSaid, Sayings, arcs_of}
use Rattle.point_induction.proofs.Truth.{kept_sayings_are_true}
use Rattle.point_rows.specs.Reading.{AreOverColumns, AreTrueOf}
use Rattle.point_rounds.specs.declared.table.PointTable.{PointTable}
use Rattle.point_rounds.specs.Sayings.{IsMetAt, sayings_of_table}
use Rattle.point_rounds.specs.Steps.{CoversPassages, IsAtPoint, KeepsRows, KeptRowsAreTrue, StepMeaning, ToEntry, ToExit, ToHead}
use Rattle.point_rounds.specs.Table.{IsTable, rows_at, rows_at_exit}
use Rattle.point_rounds.proofs.Tops.{called_stand_on_chains, main_stands_on_chain}
use Rattle.point_rounds.proofs.WalksOn.{walk-none, walk-on, walk-to_head}

-- ---- rows over the first columns of a longer state

pub get-front : {A : Type 0} (front more : List A) (n : ℕ) → n < length front → slice_get (front ++ more) n ≡ slice_get front n
get-front [] more n lt = absurd (omega (arith, lt))
get-front (x ∷ front) more zero lt = refl
get-front (x ∷ front) more (suc n) lt = get-front front more n (omega (arith, lt))

-- rows over columns that a state has are true of each longer one
pub true_of-longer : (rows : List Row) (front more : List ℤ) → AreOverColumns (length front) rows → AreTrueOf rows front → AreTrueOf rows (front ++ more)
true_of-longer rows front more over holds =
    rows-agree (numbers front (λ n. pos 0)) (numbers (front ++ more) (λ n. pos 0)) (is_below (length front) 0) agree rows over holds
  where
    agree : (c : Col) → IsTrue (is_below (length front) 0 c) → numbers front (λ n. pos 0) c ≡ numbers (front ++ more) (λ n. pos 0) c
    agree (At n) below = ap (λ o. unwrap_or o (pos 0)) (sym (get-front front more n (ltb-true n (length front) below)))
    agree (Aux n) below = refl

no_rows : (rows : List Row) (state : List ℤ) → rows ≡ [] → AreTrueOf rows state
no_rows rows state none = subst (λ r. AreTrueOf r state) (sym none) tt

module _ (program : Program) (table : PointTable) (steps : StepMeaning) (shape : IsTable program table) (covers : CoversPassages program table steps)
    (keeps : KeepsRows program table steps) where
  abbrev say : Sayings
  say = sayings_of_table program table

  -- the rows at an entry are true of each state in which the procedure begins
  begins-met : (proc : ℕ) (globals args first : State) → IsFirstState program proc globals args first → AreTrueOf (rows_at program table proc 0) (globals ++ args)
      → AreTrueOf (rows_at program table proc 0) first
  begins-met proc globals args first f holds =
      let rows = rows_at program table proc 0 in
      let wide : entry_width program f.callee ≡ length (globals ++ args) = sym (length-append globals args ∙ (λ i. f.width i + f.params i)) in
      let over : AreOverColumns (length (globals ++ args)) rows = subst (λ n. AreOverColumns n rows) wide (shape.at proc f.callee f.is 0).over in
      let longer = true_of-longer rows (globals ++ args) f.others over holds in
      subst (AreTrueOf rows) (append_assoc globals args f.others ∙ sym f.state_is) longer

  head-met : (proc head : ℕ) (globals args after : State) → ArrivalSaid program say proc globals args head after → IsMetAt program table proc head globals args after
  head-met proc head globals args after p =
      let at : IsAtPoint program proc p.point globals args p.before = record { is = p.is; stands = p.said.stands; walk = p.said.walk } in
      record {
        stands = p.said.stands;
        walk = walk-to_head program say proc globals args p.point p.before head after p.said.walk p.arrival;
        rows = keeps proc p.point (ToHead head) p.before after (covers.heads proc p.point head globals args p.before after at p.arrival) p.said.rows;
      }

  entry-met : (proc : ℕ) (globals args after : State) (edge : ℕ) (way : Arc) → slice_get (arcs_of program proc) edge ≡ Some way
      → PassageSaid program say proc globals args way.from after
      → (callee : ℕ) (terms : List Term) (into : Option ℕ) (values : State) → way.act ≡ Call callee terms into → values_of terms after ≡ Some values
      → (first : State) → IsFirstState program callee (take (length program.globals) after) values first
      → IsMetAt program table callee 0 (take (length program.globals) after) values first
  entry-met proc globals args after edge way is p callee terms into values act are first f =
      let at : IsAtPoint program proc p.point globals args p.before = record { is = p.is; stands = p.said.stands; walk = p.said.walk } in
      let entered : State = take (length program.globals) after in
      let walk = walk-on program say proc globals args p.point p.before way.from after p.said.walk p.passage in
      let step = covers.entries proc p.point globals args p.before after at edge way is p.passage callee terms into values act are in
      record {
        stands = called_stand_on_chains program (record { proc = proc; globals = globals; args = args }) after edge way callee terms into values first p.said.stands is act walk are f;
        walk = walk-none program say callee entered values first f;
        rows = begins-met callee entered values first f (keeps proc p.point (ToEntry callee) p.before (entered ++ values) step p.said.rows);
      }

  exit-met : (proc : ℕ) (globals args after : State) → PassageSaid program say proc globals args (exit_of (body_of (slice_get program.procs proc))) after
      → (b : Bool) → (proc == program.main) ≡ b → say.returned proc globals args (take (length program.globals) after) (last_of after)
  exit-met proc globals args after p true e =
      no_rows (rows_at_exit table proc) _ (subst (λ n. rows_at_exit table n ≡ []) (sym (eqb-true proc program.main e)) shape.main_exit)
  exit-met proc globals args after p false e =
      let at : IsAtPoint program proc p.point globals args p.before = record { is = p.is; stands = p.said.stands; walk = p.said.walk } in
      keeps proc p.point ToExit p.before _ (covers.exits proc p.point globals args p.before after (eqb-false proc program.main e) at p.passage) p.said.rows

  rows-kept : AreKept program say
  rows-kept =
      record {
        main = λ first f. record {
          stands = main_stands_on_chain program first f;
          walk = walk-none program say program.main (initial_globals program) [] first f;
          rows = no_rows (rows_at program table program.main 0) first shape.main_entry;
        };
        heads = head-met;
        entries = entry-met;
        exits = λ proc globals args after p. exit-met proc globals args after p (proc == program.main) refl;
      }

pub kept_rows_are_true : KeptRowsAreTrue
kept_rows_are_true program table steps shape covers keeps = kept_sayings_are_true program (sayings_of_table program table) (rows-kept program table steps shape covers keeps)
