-- A call that an edge makes, by what its code has read: what the edge comes to, and what the call
-- is given.
use Rattle.std.proofs.Common.{◌≡◌, ℕ, ◌<◌, ◌≤◌, List, length, map, get_or, Option, Some, refl, sym, ap, subst, ◌∙◌}
use Rattle.std.specs.Prelude.{slice_get}
use Rattle.std.proofs.lemmas.Option.{slice_get_read}
use Rattle.syntax_tree.specs.declared.core_expr.Core.{Core}
use Rattle.syntax_tree.specs.declared.program.Program.{Program}
use Rattle.syntax_tree.specs.Code.{Statement, Call}
use Rattle.syntax_tree.specs.Term.{term_of}
use Rattle.syntax_tree.specs.WellFormed.{IsWellFormed}
use Rattle.transition_formula.specs.Transition.{Transition}
use Rattle.leaf_cases.specs.Conditions.{AreKnown, IsActOf, columns_at}
use Rattle.leaf_cases.specs.Edges.{leaf_of, losses_in_leaf, known_call, losses_in_known_call}
use Rattle.leaf_cases.proofs.Graphs.{fit_as, globals_at, proc_within}
use Rattle.leaf_cases.proofs.Leaves.{CallReady, call_ready}

-- the formula and the losses of the edge by what is known of the callee
pub record IsReadyCall (program : Program) (known : List (Option Transition)) (at width globals : ℕ) (statement : Statement) (slice : List Core) (into : Option ℕ) (entry : Option Transition) : Type 0 where
  pub exact : known_call width globals (map term_of slice) into (Some entry) ≡ leaf_of (columns_at program at) (length program.globals) known statement
  pub lost : losses_in_known_call width globals (map term_of slice) into (Some entry) ≡ losses_in_leaf (columns_at program at) (length program.globals) known statement
  pub given : (callee : Transition) → entry ≡ Some callee → CallReady program width globals slice into callee

pub call-ready : {program : Program} {known : List (Option Transition)} {at width globals proc : ℕ} {statement : Statement} {slice : List Core} {into : Option ℕ} {found entry : Option Transition} (args : List Core) →
    IsWellFormed program → IsActOf program at statement → at < length program.procs → AreKnown program known → statement ≡ Call proc (map term_of args) into → width ≡ columns_at program at → globals ≡ length program.globals →
    found ≡ get_or known proc found → found ≡ entry → slice ≡ args → IsReadyCall program known at width globals statement slice into entry
call-ready {program} {known} {at} {width} {globals} {proc} {statement} {slice} {into} {found} {entry} args formed edge there are calls columns count read is same =
    let fit = fit_as formed there edge calls columns in
    let within = proc_within are fit in
    let entry_is : slice_get known proc ≡ Some entry = slice_get_read known (length known) proc found refl within read ∙ ap (λ o. Some o) is in
    let back : Some entry ≡ slice_get known proc = sym entry_is in
    let wide = subst (λ n. length program.globals ≤ n) (sym columns) (globals_at program at there) in
    record {
      exact = (λ i. known_call (columns i) (count i) (map term_of (same i)) into (back i)) ∙ sym (ap (leaf_of (columns_at program at) (length program.globals) known) calls);
      lost = (λ i. losses_in_known_call (columns i) (count i) (map term_of (same i)) into (back i)) ∙ sym (ap (losses_in_leaf (columns_at program at) (length program.globals) known) calls);
      given = λ callee e. call_ready program width globals known are wide proc args slice into callee fit (entry_is ∙ ap (λ o. Some o) e) same count;
    }
