-- Assertions that stand in no graph.
--     unreached-stand     exactly these lack what a verdict is found by
--     unreached-fail      and none of them fails
use Rattle.std.proofs.Common.{◌≡◌, ℕ, zero, suc, ◌+◌, Bool, true, false, cond, List, [], ◌∷◌, ◌++◌, sym, refl, subst, ◌∙◌, arith}
use Rattle.std.specs.Prelude.{◌↔◌, ◌==◌, Option, None, Some, slice_get}
use Rattle.std.specs.List.{find}
use Rattle.std.proofs.lemmas.Bool.{false≢true}
use Rattle.std.proofs.lemmas.Bool.Decides.{Decides-eqb}
use Rattle.std.proofs.lemmas.Option.{slice_get_within}
use Rattle.syntax_tree.specs.declared.program.Proc.{Proc}
use Rattle.syntax_tree.specs.declared.program.Program.{Program}
use Rattle.transition_formula.specs.Transition.{Transition}
use Rattle.flow_graph.specs.FlowGraph.{CheckPlace}
use Rattle.proc_summary.specs.declared.stop.Flow.{Flow}
use Rattle.proc_summary.specs.Subject.{own_graph}
use Rattle.proc_summary.proofs.CratesBelow.{some_at}
use Rattle.context.specs.Claims.{AreEntries, AreFlows}
use Rattle.analysis.specs.Judging.{Asserted, numbered_assertion, assertion_at, assertion_by, assertion_of, check_with, checks_from, checks_of}
use Rattle.analysis_laws.specs.Laws.{StandsInGraph, UnreachedNeverFail, UnreachedStandNowhere}
use Rattle.analysis.proofs.AssertionParts.{asserted-is, check-within}
use Rattle.analysis.proofs.ChecksStand.{check-is, check-none}

-- where an assertion stands, by the function that reads it
abbrev Domain : {A B : Type 0} → (A → B) → Type 0
Domain {A} {B} f = A

abbrev CheckAt : Program → Type 0
CheckAt program = Domain (assertion_by program [] [])

-- ---- what is found of a list

-- Where none is found behind two lists, none is found in either.
find-apart : {X : Type 0} (test : X → Bool) (cs ds : List X) → find test (cs ++ ds) ≡ None → (find test cs ≡ None) × (find test ds ≡ None)
find-apart test [] ds e = (refl, e)
find-apart {X = X} test (c ∷ cs) ds e = go (test c) e (find-apart test cs ds)
  where
    go : (b : Bool) → cond b (Some c) (find test (cs ++ ds)) ≡ None → (find test (cs ++ ds) ≡ None → (find test cs ≡ None) × (find test ds ≡ None)) → (cond b (Some c) (find test cs) ≡ None) × (find test ds ≡ None)
    go true here more = absurd (cc here)
    go false later more = more later

later-none : {X : Type 0} (b : Bool) (x : X) (rest : Option X) → cond b (Some x) rest ≡ None → (b ≡ false) × (rest ≡ None)
later-none true x rest e = absurd (cc e)
later-none false x rest e = (refl, e)

-- none of a graph has the number
none-from : (number proc check : ℕ) (checks : List CheckPlace) → check_with number (checks_from proc check checks) ≡ None → (k : ℕ) (at : CheckPlace) → slice_get checks k ≡ Some at → (at.number == number) ≡ false
none-from number proc check [] e k at is = absurd (cc is)
none-from number proc check (c ∷ checks) e zero at is =
    let first : c ≡ at = cc is in
    subst (λ (x : CheckPlace). (x.number == number) ≡ false) first (later-none (c.number == number) _ (check_with number (checks_from proc (check + 1) checks)) e).0
none-from number proc check (c ∷ checks) e (suc k) at is =
    none-from number proc (check + 1) checks (later-none (c.number == number) _ (check_with number (checks_from proc (check + 1) checks)) e).1 k at is

-- and none of several procedures'
none-of : (number proc : ℕ) (procs : List Proc) → check_with number (checks_of proc procs) ≡ None
    → (j : ℕ) (p : Proc) → slice_get procs j ≡ Some p → (k : ℕ) (at : CheckPlace) → slice_get (own_graph p).checks k ≡ Some at → (at.number == number) ≡ false
none-of number proc [] e j p is k at at_is = absurd (cc is)
none-of number proc (q ∷ procs) e zero p is k at at_is =
    let same : p ≡ q = cc is in
    none-from number proc 0 (own_graph q).checks (find-apart _ (checks_from proc 0 (own_graph q).checks) (checks_of (proc + 1) procs) e).0 k at
    (subst (λ (o : Proc). slice_get (own_graph o).checks k ≡ Some at) same at_is)
none-of number proc (q ∷ procs) e (suc j) p is k at at_is =
    none-of number (proc + 1) procs (find-apart _ (checks_from proc 0 (own_graph q).checks) (checks_of (proc + 1) procs) e).1 j p is k at at_is

-- ---- the assertion of a number

module _ (program : Program) (number : ℕ) where
  found-stands : (c : CheckAt program) → check_with number (checks_of 0 program.procs) ≡ Some c → StandsInGraph program number
  found-stands c e =
      let parts = check-is program number c e in
      let check = parts.0 in
      record { proc = c.proc; p = check.p; is = check.is; place = c.check; at = check.at; at_is = check.at_is; number_is = check.number ∙ parts.1 }

  none-stands : check_with number (checks_of 0 program.procs) ≡ None → StandsInGraph program number → ⊥
  none-stands e stands =
      let other : (stands.at.number == number) ≡ false =
      none-of number 0 program.procs e stands.proc stands.p stands.is stands.place stands.at stands.at_is in
      false≢true (sym other ∙ (Decides-eqb stands.at.number number).1 stands.number_is)

  module _ (entries : List (Option Transition)) (flows : List Flow) (are_entries : AreEntries program entries) (are_flows : AreFlows program flows) where
    found-asserted : (c : CheckAt program) → check_with number (checks_of 0 program.procs) ≡ Some c → (a : Asserted) × (assertion_by program entries flows c ≡ Some a)
    found-asserted c e =
        let check = (check-is program number c e).0 in
        let below = slice_get_within program.procs c.proc check.p check.is in
        let entries_long = are_entries.each in
        let flows_long = are_flows.each in
        let entry = some_at entries c.proc (omega (arith, below, entries_long)) in
        let flow = some_at flows c.proc (omega (arith, below, flows_long)) in
        let fit = are_flows.fit c.proc check.p flow.0 check.is flow.1 in
        let stop = some_at flow.0.checks c.check (check-within program c check flow.0 fit) in
        (assertion_at program check.p check.at entry.0 stop.0, asserted-is program c check entries flows entry.0 flow.0 stop.0 entry.1 flow.1 stop.1)

    stand : (numbered_assertion program entries flows number ≡ None) ↔ (StandsInGraph program number → ⊥)
    stand = go (check_with number (checks_of 0 program.procs)) refl
      where
        go : (o : Option (CheckAt program)) → check_with number (checks_of 0 program.procs) ≡ o → (assertion_of program entries flows o ≡ None) ↔ (StandsInGraph program number → ⊥)
        go None e = (λ none. none-stands e, λ nowhere. refl)
        go (Some c) e = (
          λ none stands. let a = found-asserted c e in absurd (cc (sym none ∙ a.1)),
          λ nowhere. absurd (nowhere (found-stands c e)),
        )

pub unreached-stand : UnreachedStandNowhere
unreached-stand program entries flows are_entries are_flows number = stand program number entries flows are_entries are_flows

pub unreached-fail : UnreachedNeverFail
unreached-fail program number nowhere fails = go (check_with number (checks_of 0 program.procs)) refl
  where
    go : (o : Option (CheckAt program)) → check_with number (checks_of 0 program.procs) ≡ o → ⊥
    go None e = check-none program number e fails
    go (Some c) e = nowhere (found-stands program number c e)
