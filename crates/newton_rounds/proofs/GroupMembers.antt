-- The members of a group, its calls and both sides of them.
use Rattle.std.proofs.Common.{◌≡◌, ℕ, zero, suc, ◌+◌, ◌*◌, ◌<◌, ◌≤◌, ◌^◌, length, length-append, map, List, [], ◌∷◌, ◌++◌, refl, sym, ap, subst, ◌∙◌, arith}
use Rattle.std.specs.Prelude.{Option, None, Some, option_to_list}
use Rattle.std.specs.List.{AllByRecursion, flat_map}
use Rattle.syntax_tree.specs.declared.program.Proc.{Proc}
use Rattle.syntax_tree.specs.declared.program.Program.{Program}
use Rattle.syntax_tree.specs.Code.{Statement, Set, Any, Call, Guard, Check, If, Loop, Break, Continue, Return}
use Rattle.syntax_tree.specs.WellFormed.{IsWellFormed}
use Rattle.flow_graph.specs.FlowGraph.{Arc}
use Rattle.vocabularies.specs.Ends.{entry_of, entry_width, exit_width, pair_of}
use Rattle.vocabularies.specs.Ends as ends
use Rattle.vocabularies.proofs.Columns.{IsVocabulary-below}
use Rattle.vocabularies.specs.Procs.{IsProcOf}
use Rattle.proc_summary.specs.Subject.{own_graph}
use Rattle.proc_summary.proofs.Graphs.{few-arcs}
use Rattle.newton_rounds.specs.declared.calls.GroupCall as own
use Rattle.newton_rounds.specs.declared.calls.Sides.{Sides}
use Rattle.newton_rounds.specs.Between.{IsGroup, IsMember, IsStretchIn}
use Rattle.newton_rounds.specs.Closure.{ends_at, ends_of_members, pair_ends, stretches_with}
use Rattle.newton_rounds.specs.Members.{GroupCall, call_by, call_to, calls_from, calls_of, members_of, place_of}
use Rattle.newton_rounds.specs.Pairs.{PairEnds}
use Rattle.newton_rounds.specs.Shapes.{FitCalls, IsCallIn}
use Rattle.newton_rounds.proofs.CratesBelow.{proc-fit, some_at}
use Rattle.newton_rounds.proofs.GroupCalls.{AreThere, ends-many}
use Rattle.newton_rounds.proofs.ChainFormulas.{member-at}
use Rattle.newton_rounds.proofs.ExitColumns.{value-few}
use Rattle.newton_rounds.proofs.Widths.{ends-are}

-- ---- members

module _ (program : Program) (formed : IsWellFormed program) where
  pub member-is : (proc : ℕ) (p : Proc) → IsProcOf program proc p → IsMember (pair_ends program p)
  unfolding entry_of ends.exit_of pair_of
  member-is proc p is =
      let fit = proc-fit program proc p formed is in
      let params = fit.params in
      let globals = formed.globals in
      let one = value-few p.returns in
      record {
        ends = ends-are program proc p formed is;
        pair = record { is = IsVocabulary-below program p (entry_width program p) (entry_width program p + exit_width program p) fit (omega arith); few = omega (arith, params, globals, one) };
        entry = record { is = IsVocabulary-below program p (entry_width program p) (entry_width program p) fit (omega arith); few = omega (arith, params, globals) };
        exit = record { is = IsVocabulary-below program p (length program.globals) (exit_width program p) fit (omega arith); few = omega (arith, globals, one) };
      }

  -- what is so of each procedure's ends is so of the members'
  pub members-have : (P : PairEnds → Type 0) → ((proc : ℕ) (p : Proc) → IsProcOf program proc p → P (pair_ends program p)) → (procs : List ℕ) → AreThere program procs → AllByRecursion P (ends_of_members program procs)
  members-have P tells [] h = tt
  members-have P tells (proc ∷ procs) h =
      let there = some_at program.procs proc h.0 in
      subst (λ (o : Option Proc). AllByRecursion P (map (pair_ends program) (option_to_list o ++ members_of program procs))) (sym there.1)
      (tells proc there.0 there.1, members-have P tells procs h.1)

  -- ---- few calls

  call-few : (procs : List ℕ) (caller : ℕ) (way : Arc) (s : Statement) → length (call_by procs caller way s) ≤ 1
  call-few procs caller way (Call proc args into) = go (place_of proc procs)
    where
      go : (o : Option ℕ) → length (call_to caller way args into o) ≤ 1
      go None = omega arith
      go (Some callee) = omega arith
  call-few procs caller way (Set col value) = omega arith
  call-few procs caller way (Any col) = omega arith
  call-few procs caller way (Guard cond) = omega arith
  call-few procs caller way (Check number cond) = omega arith
  call-few procs caller way (If cond a b) = omega arith
  call-few procs caller way (Loop pre cond body step first) = omega arith
  call-few procs caller way Break = omega arith
  call-few procs caller way Continue = omega arith
  call-few procs caller way Return = omega arith

  calls-few : (procs : List ℕ) (caller : ℕ) (ways : List Arc) → length (flat_map (λ (way : Arc). call_by procs caller way way.act) ways) ≤ length ways
  calls-few procs caller [] = omega arith
  calls-few procs caller (way ∷ ways) =
      let one = call-few procs caller way way.act in
      let more = calls-few procs caller ways in
      let all = length-append (call_by procs caller way way.act) (flat_map (λ (w : Arc). call_by procs caller w w.act) ways) in
      omega (arith, one, more, all)

  pub all-calls-few : (procs : List ℕ) (caller : ℕ) (rest : List ℕ) → AreThere program rest → length (calls_from procs caller (members_of program rest)) ≤ 1024 * length rest
  all-calls-few procs caller [] h = omega arith
  all-calls-few procs caller (proc ∷ rest) h =
      let there = some_at program.procs proc h.0 in
      let p = there.0 in
      let few = few-arcs program p (proc-fit program proc p formed there.1) in
      let one = calls-few procs caller (own_graph p).arcs in
      let more = all-calls-few procs (caller + 1) rest h.1 in
      let all = length-append (calls_of procs caller p) (calls_from procs (caller + 1) (members_of program rest)) in
      subst (λ (o : Option Proc). length (calls_from procs caller (option_to_list o ++ members_of program rest)) ≤ 1024 * length (proc ∷ rest)) (sym there.1)
      (omega (arith, few, one, more, all))

-- ---- calls with their sides

pub sides-many : (members : List PairEnds) (calls : List GroupCall) (sides : List Sides) → FitCalls members calls sides → length calls ≡ length sides
sides-many members [] [] h = refl
sides-many members [] (one ∷ sides) h = absurd h
sides-many members (call ∷ calls) [] h = absurd h
sides-many members (call ∷ calls) (one ∷ sides) h = ap suc (sides-many members calls sides h.1)

stretches-many : (calls : List GroupCall) (sides : List Sides) → length calls ≡ length sides → length (stretches_with calls sides) ≡ length calls
stretches-many [] sides e = refl
stretches-many (call ∷ calls) [] e = absurd (omega (arith, e))
stretches-many (call ∷ calls) (one ∷ sides) e = ap suc (stretches-many calls sides (omega (arith, e)))

module _ (members : List PairEnds) (each : AllByRecursion IsMember members) (globals : ℕ) (all : AllByRecursion (λ (m : PairEnds). m.ends.globals ≡ globals) members) where
  globals-at : (n : ℕ) → n < length members → (ends_at members n).ends.globals ≡ globals
  globals-at n lt = go members n lt all
    where
      go : (ms : List PairEnds) (n : ℕ) → n < length ms → AllByRecursion (λ (m : PairEnds). m.ends.globals ≡ globals) ms → (ends_at ms n).ends.globals ≡ globals
      go [] n lt h = absurd (omega (arith, lt))
      go (m ∷ ms) zero lt h = h.0
      go (m ∷ ms) (suc n) lt h = go ms n (omega (arith, lt)) h.1

  stretches-in : (calls : List GroupCall) (sides : List Sides) → AllByRecursion (IsCallIn members) calls → FitCalls members calls sides → AllByRecursion (IsStretchIn members) (stretches_with calls sides)
  stretches-in [] sides h k = tt
  stretches-in (call ∷ calls) [] h k = absurd k
  stretches-in (call ∷ calls) (one ∷ sides) h k = (
    record {
      caller = h.0.caller;
      callee = h.0.callee;
      enters = h.0.enters;
      is = record {
        caller_is = (member-at members call.caller h.0.caller each).ends;
        callee_is = (member-at members call.callee h.0.callee each).ends;
        globals = globals-at call.callee h.0.callee ∙ sym (globals-at call.caller h.0.caller);
        call = h.0.is;
        before = k.0.before;
        after = k.0.after;
      };
    },
    stretches-in calls sides h.1 k.1,
  )

module _ (program : Program) (formed : IsWellFormed program) (procs : List ℕ) (there : AreThere program procs) (few : length procs ≤ length program.procs) where
  pub all-members : AllByRecursion IsMember (ends_of_members program procs)
  all-members = members-have program formed IsMember (member-is program formed) procs there

  pub few-procs : length procs ≤ 256
  few-procs = let most = formed.procedures in omega (arith, few, most)

  pub few-members : length (ends_of_members program procs) < 2 ^ 32
  few-members = let many = ends-many program procs there in let most = few-procs in omega (arith, many, most)

  pub group-is : (calls : List GroupCall) (sides : List Sides) → calls ≡ calls_from procs 0 (members_of program procs) → AllByRecursion (IsCallIn (ends_of_members program procs)) calls
      → FitCalls (ends_of_members program procs) calls sides → IsGroup (ends_of_members program procs) (stretches_with calls sides)
  group-is calls sides are calls_in fit = record {
    few = few-members;
    few_calls =
        let long = ap length are in let most = all-calls-few program formed procs 0 procs there in let many = stretches-many calls sides (sides-many (ends_of_members program procs) calls sides fit) in let top = few-procs in
        omega (arith, long, most, many, top);
    each_member = all-members;
    calls =
        stretches-in (ends_of_members program procs) all-members (length program.globals)
        (members-have program formed (λ (m : PairEnds). m.ends.globals ≡ length program.globals) (λ proc p is. refl) procs there) calls sides calls_in fit;
  }
