-- Every end of the stated summaries of a recursive group is a table of one summary for each of its
-- procedures, which goes from its entry to its exit.
--     closure-summaries     the closure of a table
--     rounds-summaries      what the last round leaves
--     group-known           the stated summaries of a group
use Rattle.std.proofs.Common.{◌≡◌, ℕ, ◌<◌, ◌≤◌, Bool, true, false, List, [], ◌∷◌, length, map, Option, refl, sym, subst, arith}
use Rattle.std.specs.List.{AllByRecursion, AllZip, range_with_len}
use Rattle.std.proofs.lemmas.List.{length-map}
use Rattle.items.proofs.Each.{each-get}
use Rattle.posing.specs.Posing.{each, Always}
use Rattle.posing.proofs.Paths.{always_bind, always_weaker}
use Rattle.syntax_tree.specs.declared.program.Proc.{Proc}
use Rattle.syntax_tree.specs.declared.program.Program.{Program}
use Rattle.syntax_tree.specs.WellFormed.{IsWellFormed}
use Rattle.transition_formula.specs.Transition.{Transition}
use Rattle.leaf_cases.specs.Conditions.{AreKnown}
use Rattle.newton_rounds.specs.Between.{AreBases, AreCandidates, AreSummaries, FitTable}
use Rattle.newton_rounds.specs.Claims.{AreKnownMembers}
use Rattle.newton_rounds.specs.Close.{closure_by_rounds, closure_from, group_closure, pairs_of, with_candidate}
use Rattle.newton_rounds.specs.Closure.{bases_of, closure_of, ends_of_members, pair_ends, sides_of, stretches_with, with_closed}
use Rattle.newton_rounds.specs.Members.{GroupCall, calls_from, members_of, with_table}
use Rattle.newton_rounds.specs.Pairs.{PairEnds}
use Rattle.newton_rounds.specs.Shapes.{FitCalls, FitSides, IsCallIn}
use Rattle.newton_rounds.proofs.BasesMet.{IsBase}
use Rattle.newton_rounds.proofs.CratesBelow.{some_at}
use Rattle.newton_rounds.proofs.GroupCalls.{AreThere, calls-in, columns-at, ends-many, member-at}
use Rattle.newton_rounds.proofs.MemberLoops.{candidates-over, empty-fits}
use Rattle.newton_rounds.proofs.GroupMembers.{group-is}
use Rattle.newton_rounds.proofs.LinearMet.{bases-met}
use Rattle.newton_rounds.proofs.RoundFormulas.{rounds-fit}
use Rattle.newton_rounds.proofs.RoundRows.{summaries-fit, summaries-known}
use Rattle.newton_rounds.proofs.SidesMet.{IsSideOf, sides-true}
use Rattle.newton_rounds.proofs.ClosureSummaries.{closed-summaries, summaries-length}
use Rattle.newton_rounds.proofs.KnownTables.{tabled-known}

-- both sides of a call, by the function that reads them
abbrev Element : {A B : Type 0} → (List A → B) → Type 0
Element {A} {B} f = A

abbrev Sides : Type 0
Sides = Element (stretches_with [])

module _ (program : Program) (procs : List ℕ) (known : List (Option Transition)) (formed : IsWellFormed program) (there : AreThere program procs) (few : length procs ≤ length program.procs) (are : AreKnown program known) where
  abbrev ps : List Proc
  ps = members_of program procs

  abbrev members : List PairEnds
  members = ends_of_members program procs

  abbrev calls : List GroupCall
  calls = calls_from procs 0 ps

  many : length members ≡ length ps
  many = length-map ps (pair_ends program)

  -- ---- the bases

  bases-fit : (qs : List Proc) (bases : List Transition) → AllZip (IsBase program (with_table procs [] known)) qs bases → AreBases (map (pair_ends program) qs) bases
  bases-fit [] [] h = tt
  bases-fit [] (base ∷ bases) h = absurd h
  bases-fit (q ∷ qs) [] h = absurd h
  bases-fit (q ∷ qs) (base ∷ bases) h = (h.0.goes, bases-fit qs bases h.1)

  bases-are : Always (AreBases members) (bases_of program procs known)
  bases-are =
      always_weaker (AllZip (IsBase program (with_table procs [] known)) ps) (AreBases members) (bases_of program procs known) (bases-fit ps)
      (bases-met program procs known formed there few are)

  -- ---- both sides of the calls, by a table

  module _ (table : List Transition) (fits : FitTable program procs table) where
    tabled : AreKnown program (with_table procs table known)
    tabled = tabled-known program procs table known fits are

    abbrev IsOwnSide : GroupCall → Sides → Type 0
    IsOwnSide = IsSideOf program procs (with_table procs table known) formed tabled

    sides-fit : (cs : List GroupCall) (sides : List Sides) → AllByRecursion (IsCallIn members) cs → AllZip IsOwnSide cs sides → FitCalls members cs sides
    sides-fit [] [] h k = tt
    sides-fit [] (one ∷ sides) h k = absurd k
    sides-fit (call ∷ cs) [] h k = absurd k
    sides-fit (call ∷ cs) (one ∷ sides) h k =
        let all = ends-many program procs there in
        let within = h.0.caller in
        let number = some_at procs call.caller (omega (arith, within, all)) in
        let p = some_at program.procs number.0 (each-get (λ proc. proc < length program.procs) procs call.caller number.0 there number.1) in
        let side = k.0 p.0 (member-at program procs call.caller number.0 p.0 there number.1 p.1) in
        let same = columns-at program procs there call.caller number.0 p.0 number.1 p.1 in
        (subst (λ n. FitSides n one) (sym same) (record { before = side.fit_before; after = side.fit_after }), sides-fit cs sides h.1 k.1)

    -- ---- the closure of the table

    pub closure-summaries : (bases : List Transition) → AreBases members bases → Always (AreSummaries members) (closure_of program procs known bases table)
    unfolding closure_of
    closure-summaries bases based =
        always_bind (AllZip IsOwnSide calls) (AreSummaries members) (sides_of program procs (with_table procs table known))
        (λ sides. each (with_closed members (stretches_with calls sides) bases) [] (range_with_len 0 (length ps)))
        (sides-true program procs (with_table procs table known) formed tabled there)
        (λ sides held.
        let in_group = calls-in program procs there formed in
        let group = group-is program formed procs there few calls sides refl in_group (sides-fit calls sides in_group held) in
        subst (λ n. Always (AreSummaries members) (each (with_closed members (stretches_with calls sides) bases) [] (range_with_len 0 n))) many
        (closed-summaries members (stretches_with calls sides) group bases based))

  -- ---- what the last round leaves

  pub rounds-summaries : (bases : List Transition) → AreBases members bases → Always (AreSummaries members) (closure_by_rounds program procs known bases)
  unfolding closure_by_rounds
  rounds-summaries bases based =
      always_bind (AreSummaries members) (AreSummaries members) (closure_of program procs known bases []) _ (closure-summaries [] (empty-fits program procs) bases based) (λ first one.
      always_bind (AreSummaries members) (AreSummaries members) (closure_of program procs known bases first) _ (closure-summaries first (summaries-fit program procs there first one) bases based) (λ second two.
      always_bind (AreCandidates members) (AreSummaries members) (each with_candidate [] (pairs_of members second)) _ (candidates-over members second (summaries-length members second two))
      (λ candidates over. rounds-fit program procs known formed there few are candidates over)))

  -- ---- the stated summaries

  pub group-known : (linear : Bool) → Always (AreKnownMembers program procs) (group_closure linear program procs known)
  unfolding group_closure
  group-known linear =
      always_bind (AreBases members) (AreKnownMembers program procs) (bases_of program procs known) (λ bases. closure_from linear program procs known bases) bases-are
      (λ bases based. always_weaker (AreSummaries members) (AreKnownMembers program procs) (closure_from linear program procs known bases) (summaries-known program procs there) (go linear bases based))
    where
      go : (b : Bool) (bases : List Transition) → AreBases members bases → Always (AreSummaries members) (closure_from b program procs known bases)
      go true bases based = closure-summaries [] (empty-fits program procs) bases based
      go false bases based = rounds-summaries bases based
