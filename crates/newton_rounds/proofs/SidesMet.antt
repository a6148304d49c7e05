-- What stands at both sides of the group's calls holds of walks to where they begin and from where
-- they end.
use Rattle.std.proofs.Common.{◌≡◌, ℕ, ◌+◌, ◌<◌, List, [], ◌∷◌, ◌++◌, length, Option, None, Some, refl, sym, ap, subst, ◌∙◌, append_assoc, append-nil, length-append, arith}
use Rattle.std.specs.Prelude.{option_to_list, slice_get}
use Rattle.std.specs.List.{AllByRecursion, AllZip}
use Rattle.items.proofs.Each.{each-flat_map}
use Rattle.path_expr.specs.declared.cell.Cell.{Cell}
use Rattle.posing.specs.Posing.{Done, each, Always}
use Rattle.posing.proofs.Paths.{always_bind, always_weaker}
use Rattle.syntax_tree.specs.declared.program.Proc.{Proc}
use Rattle.syntax_tree.specs.declared.program.Program.{Program}
use Rattle.syntax_tree.specs.Code.{Statement, Set, Any, Call, Guard, Check, If, Loop, Break, Continue, Return, code_of}
use Rattle.syntax_tree.specs.Value.{State}
use Rattle.syntax_tree.specs.WellFormed.{IsWellFormed, width_of}
use Rattle.transition_formula.specs.Transition.{Transition}
use Rattle.vocabularies.specs.Procs.{IsProcOf}
use Rattle.flow_graph.specs.FlowGraph.{Arc, exit_of}
use Rattle.flow_graph.specs.Walks.{Stride, Walks}
use Rattle.flow_graph.proofs.Within.{arcs_within}
use Rattle.leaf_cases.specs.Conditions.{AreKnown, KnownCalls}
use Rattle.proc_summary.specs.Claims.{FitsIf, HoldsIf}
use Rattle.proc_summary.specs.Flow.{cells_from, columns_of, formula_at}
use Rattle.proc_summary.specs.Subject.{own_graph, subject_of}
use Rattle.newton_rounds.specs.declared.calls.Sides.{Sides}
use Rattle.newton_rounds.specs.Closure.{with_places_from, sides_from, sides_of, with_member, with_sides}
use Rattle.newton_rounds.specs.Members.{GroupCall, call_by, call_to, calls_from, calls_of, members_of, place_of}
use Rattle.newton_rounds.proofs.GroupCalls.{AreThere, calls-from, each-got, member-at}
use Rattle.newton_rounds.proofs.MatchLoops.{AreBehind, IsBehind, each-behind}
use Rattle.newton_rounds.proofs.CratesBelow.{some_at}
use Rattle.newton_rounds.proofs.Unfoldings.{AreTrueAt, IsCanonicalExit, cells-true}
use Rattle.newton_rounds.proofs.Widths.{columns-are, some-nodes}
use Rattle.newton_rounds.proofs.PairLists.{some-one}

-- a call between nodes of its caller's graph
abbrev pub IsBetweenNodes : Proc → GroupCall → Type 0
IsBetweenNodes p call = (call.from < (own_graph p).nodes) × (call.to < (own_graph p).nodes)

-- ---- the calls of a procedure lie between its nodes

module _ (procs : List ℕ) (caller : ℕ) (p : Proc) where
  call-between : (way : Arc) (s : Statement) → (way.from < (own_graph p).nodes) × (way.to < (own_graph p).nodes) → AllByRecursion (IsBetweenNodes p) (call_by procs caller way s)
  call-between way (Call proc args into) h = go (place_of proc procs)
    where
      go : (o : Option ℕ) → AllByRecursion (IsBetweenNodes p) (call_to caller way args into o)
      go None = tt
      go (Some callee) = (h, tt)
  call-between way (Set col value) h = tt
  call-between way (Any col) h = tt
  call-between way (Guard cond) h = tt
  call-between way (Check number cond) h = tt
  call-between way (If cond a b) h = tt
  call-between way (Loop pre cond body step first) h = tt
  call-between way Break h = tt
  call-between way Continue h = tt
  call-between way Return h = tt

  calls-between : AllByRecursion (IsBetweenNodes p) (calls_of procs caller p)
  calls-between =
      each-flat_map (λ (way : Arc). (way.from < (own_graph p).nodes) × (way.to < (own_graph p).nodes)) (IsBetweenNodes p) (λ (way : Arc). call_by procs caller way way.act)
      (λ way h. call-between way way.act h) (own_graph p).arcs
      (each-got (λ (way : Arc). (way.from < (own_graph p).nodes) × (way.to < (own_graph p).nodes)) (own_graph p).arcs (λ k way e. arcs_within (code_of p.body) k way e))

-- ---- one call

-- what stands at both sides of it goes between states, and holds of walks
pub record IsSide (program : Program) (p : Proc) (known : List (Option Transition)) (call : GroupCall) (one : Sides) : Type 0 where
  pub fit_before : FitsIf (width_of program p) one.before
  pub fit_after : FitsIf (width_of program p) one.after
  pub canonical : IsCanonicalExit one.before
  pub leads : (path : List Stride) (before there : State) → length before ≡ width_of program p →
      Walks (KnownCalls known) (length program.globals) (own_graph p).arcs 0 before path call.from there → HoldsIf one.before before there
  pub goes_on : (path : List Stride) (back final : State) → length back ≡ width_of program p →
      Walks (KnownCalls known) (length program.globals) (own_graph p).arcs call.to back path (exit_of (code_of p.body)) final → HoldsIf one.after back final

module _ (program : Program) (proc : ℕ) (p : Proc) (known : List (Option Transition)) (is : IsProcOf program proc p) (formed : IsWellFormed program) (are : AreKnown program known) where
  exit-there : exit_of (code_of p.body) < (own_graph p).nodes
  exit-there = omega arith

  side-true : (starts : List (Cell Transition)) → AreTrueAt program proc p known is formed are 0 starts → (call : GroupCall) → IsBetweenNodes p call → Always (IsSide program p known call) (sides_from (subject_of program p known) starts call)
  unfolding sides_from
  side-true starts first call within =
      let s = subject_of program p known in
      let same = columns-are program proc p formed is known are in
      always_bind (AreTrueAt program proc p known is formed are call.to) (IsSide program p known call) (cells_from s call.to)
      (λ ends. Done record { before = formula_at (columns_of s) starts call.from; after = formula_at (columns_of s) ends s.exit })
      (cells-true program proc p known is formed are call.to within.1)
      (λ ends last. subst (λ n. IsSide program p known call (record { before = formula_at n starts call.from; after = formula_at n ends s.exit })) (sym same)
      (record {
        fit_before = first.fit call.from;
        fit_after = last.fit (exit_of (code_of p.body));
        canonical = first.canonical call.from;
        leads = λ path before there long walk. first.hold call.from path before there within.0 long walk;
        goes_on = λ path back final long walk. last.hold (exit_of (code_of p.body)) path back final exit-there long walk;
      }))

  side-behind : (starts : List (Cell Transition)) → AreTrueAt program proc p known is formed are 0 starts → (made : List Sides) (call : GroupCall) → IsBetweenNodes p call
      → Always (IsBehind (IsSide program p known) made call) (with_sides (subject_of program p known) starts made call)
  unfolding with_sides
  side-behind starts first made call within =
      always_bind (IsSide program p known call) (IsBehind (IsSide program p known) made call) (sides_from (subject_of program p known) starts call) (λ sides. Done (made ++ sides ∷ []))
      (side-true starts first call within) (λ one h. record { value = one; is = refl; holds = h })

  -- those of one member
  member-sides : (procs : List ℕ) (place : ℕ) (made : List Sides) → Always (AreBehind (IsSide program p known) made (calls_of procs place p)) (with_member program procs known made (place, p))
  unfolding with_member
  member-sides procs place made =
      always_bind (AreTrueAt program proc p known is formed are 0) (AreBehind (IsSide program p known) made (calls_of procs place p)) (cells_from (subject_of program p known) 0)
      (λ starts. each (with_sides (subject_of program p known) starts) made (calls_of procs place p))
      (cells-true program proc p known is formed are 0 (some-nodes program proc p formed is))
      (λ starts first. each-behind (IsBetweenNodes p) (IsSide program p known) (with_sides (subject_of program p known) starts) (λ made call within. side-behind starts first made call within) made (calls_of procs place p) (calls-between procs place p))

-- ---- those of all members

match-more : {A B : Type 0} (P Q : A → B → Type 0) (Own : A → Type 0) → ((x : A) (y : B) → Own x → P x y → Q x y) → (xs : List A) (ys : List B) → AllByRecursion Own xs → AllZip P xs ys → AllZip Q xs ys
match-more P Q Own more [] [] own h = tt
match-more P Q Own more [] (y ∷ ys) own h = absurd h
match-more P Q Own more (x ∷ xs) [] own h = absurd h
match-more P Q Own more (x ∷ xs) (y ∷ ys) own h = (more x y own.0 h.0, match-more P Q Own more xs ys own.1 h.1)

match-both : {A B : Type 0} (P : A → B → Type 0) (xs more : List A) (ys others : List B) → AllZip P xs ys → AllZip P more others → AllZip P (xs ++ more) (ys ++ others)
match-both P [] more [] others h k = k
match-both P [] more (y ∷ ys) others h k = absurd h
match-both P (x ∷ xs) more [] others h k = absurd h
match-both P (x ∷ xs) more (y ∷ ys) others h k = (h.0, match-both P xs more ys others h.1 k)

module _ (program : Program) (procs : List ℕ) (known : List (Option Transition)) (formed : IsWellFormed program) (are : AreKnown program known) where
  -- both sides of a call, whose caller is this member
  abbrev pub IsSideOf : GroupCall → Sides → Type 0
  IsSideOf call one = (p : Proc) → slice_get (members_of program procs) call.caller ≡ Some p → IsSide program p known call one

  -- the members from a place on
  abbrev StandAt : ℕ → List Proc → Type 0
  StandAt place [] = Unit {0}
  StandAt place (p ∷ ps) = ((proc : ℕ) × (IsProcOf program proc p)) × (slice_get (members_of program procs) place ≡ Some p) × StandAt (place + 1) ps

  own-sides : (place : ℕ) (p : Proc) → slice_get (members_of program procs) place ≡ Some p → (call : GroupCall) (one : Sides) → call.caller ≡ place → IsSide program p known call one → IsSideOf call one
  own-sides place p at call one same h q e =
      let own : p ≡ q = some-one (ap (slice_get (members_of program procs)) same ∙ at) e in
      subst (λ r. IsSide program r known call one) own h

  from-place : (place : ℕ) (ps : List Proc) → StandAt place ps → (made : List Sides) → Always (AreBehind IsSideOf made (calls_from procs place ps)) (each (with_member program procs known) made (with_places_from place ps))
  from-place place [] stand made = record { values = []; is = sym (append-nil made); match = tt }
  from-place place (p ∷ ps) stand made =
      let number = stand.0 in
      always_bind (AreBehind (IsSide program p known) made (calls_of procs place p)) (AreBehind IsSideOf made (calls_from procs place (p ∷ ps))) (with_member program procs known made (place, p))
      (λ next. each (with_member program procs known) next (with_places_from (place + 1) ps)) (member-sides program number.0 p known number.1 formed are procs place made)
      (λ next first. always_weaker (AreBehind IsSideOf next (calls_from procs (place + 1) ps)) (AreBehind IsSideOf made (calls_from procs place (p ∷ ps))) (each (with_member program procs known) next (with_places_from (place + 1) ps))
      (λ all rest. record {
        values = first.values ++ rest.values;
        is = rest.is ∙ ap (λ u. u ++ rest.values) first.is ∙ append_assoc made first.values rest.values;
        match = match-both IsSideOf (calls_of procs place p) (calls_from procs (place + 1) ps) first.values rest.values
            (match-more (IsSide program p known) IsSideOf (λ (call : GroupCall). call.caller ≡ place) (own-sides place p stand.1) (calls_of procs place p) first.values (calls-from procs place p) first.match) rest.match;
      })
      (from-place (place + 1) ps stand.2 next))

  module _ (there : AreThere program procs) where
    stand-at : (front rest : List ℕ) → AreThere program rest → front ++ rest ≡ procs → StandAt (length front) (members_of program rest)
    stand-at front [] all same = tt
    stand-at front (q ∷ rest) all same =
        let one = some_at program.procs q all.0 in
        let at : slice_get procs (length front) ≡ Some q = subst (λ l. slice_get l (length front) ≡ Some q) same (behind front q rest) in
        let more = stand-at (front ++ q ∷ []) rest all.1 (append_assoc front (q ∷ []) rest ∙ same) in
        let long : length (front ++ q ∷ []) ≡ length front + 1 = length-append front (q ∷ []) in
        subst (StandAt (length front)) (sym (ap (λ o. option_to_list o ++ members_of program rest) one.1))
        ((q, one.1), member-at program procs (length front) q one.0 there at one.1, subst (λ n. StandAt n (members_of program rest)) long more)
      where
        behind : (front : List ℕ) (q : ℕ) (rest : List ℕ) → slice_get (front ++ q ∷ rest) (length front) ≡ Some q
        behind [] q rest = refl
        behind (x ∷ front) q rest = behind front q rest

    pub sides-true : Always (AllZip IsSideOf (calls_from procs 0 (members_of program procs))) (sides_of program procs known)
    unfolding sides_of
    sides-true =
        always_weaker (AreBehind IsSideOf [] (calls_from procs 0 (members_of program procs))) (AllZip IsSideOf (calls_from procs 0 (members_of program procs))) (each (with_member program procs known) [] (with_places_from 0 (members_of program procs)))
        (λ all h. subst (AllZip IsSideOf (calls_from procs 0 (members_of program procs))) (sym h.is) h.match)
        (from-place 0 (members_of program procs) (stand-at [] procs there refl) [])
