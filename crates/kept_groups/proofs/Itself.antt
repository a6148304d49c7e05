-- A group that comes next is alike to itself, where the same is known of what has come before it.
--     code-itself      statements are alike to themselves, where each procedure that is called is
--     group-itself     so is the group, in what is known before it and in what is known later
use Rattle.std.proofs.Common.{◌≡◌, ◌<◌, ◌⊎◌, inl, inr, ℕ, zero, suc, List, [], ◌∷◌, ◌++◌, length, Option, None, Some, refl, sym, ap, subst, ◌∙◌, arith}
use Rattle.std.specs.Prelude.{◌≤◌, slice_get}
use Rattle.std.specs.List.{AllZip, Contains}
use Rattle.std.proofs.lemmas.Bool.{cases_lt}
use Rattle.std.proofs.lemmas.Option.{slice_get-get_or, slice_get_past}
use Rattle.syntax_tree.specs.declared.program.Proc.{Proc}
use Rattle.syntax_tree.specs.declared.program.Program.{Program}
use Rattle.syntax_tree.specs.Code.{Statement, Set, Any, Call, Guard, Check, If, Loop, Break, Continue, Return, Code, End, Then, code_of}
use Rattle.transition_formula.specs.Transition.{Transition}
use Rattle.flow_graph.specs.declared.grouping.Group.{Group}
use Rattle.flow_graph.specs.FlowGraph.{body_of}
use Rattle.flow_graph.specs.Groups.{Calls, InOneGroup, IsAscending, IsNext, Reaches, called}
use Rattle.flow_graph.proofs.Reaching.{reaches_join}
use Rattle.proc_summary.specs.Alike.{AreAlike, AreAlikeStatements, alike_anys, alike_breaks, alike_calls, alike_checks, alike_continues, alike_ends, alike_guards, alike_ifs, alike_loops, alike_more, alike_returns, alike_sets}
use Rattle.proc_summary.proofs.CratesBelow.{some_at}
use Rattle.newton_rounds.specs.Alike.{AreAlikeCallees, AreAlikeGroups, AreAlikeMembers, StandOnce}
use Rattle.newton_rounds.specs.Members.{place_of}
use Rattle.newton_rounds.proofs.ApartWalks.{no-place}
use Rattle.alike_groups.proofs.CalledAlike.{code-by_calls, contains-at}

-- ---- lists

none-at : {X : Type 0} (k : ℕ) (x : X) → slice_get [] k ≡ Some x → ⊥
none-at k x e = cc

zipped-itself : {X : Type 0} (R : X → X → Type 0) (xs : List X) → ((place : ℕ) (x : X) → slice_get xs place ≡ Some x → R x x) → AllZip R xs xs
zipped-itself R [] each = tt
zipped-itself R (x ∷ xs) each = (each 0 x refl, zipped-itself R xs (λ place. each (suc place)))

ascending-once : (procs : List ℕ) → IsAscending procs → StandOnce procs
ascending-once [] ascends place next proc at other = absurd (none-at place proc at)
ascending-once (p ∷ procs) ascends zero zero proc at other = refl
ascending-once (p ∷ procs) ascends zero (suc next) proc at other =
    let later = ascends.0 proc (contains-at procs next proc other) in
    let same : p ≡ proc = cc in
    absurd (omega (arith, later, same))
ascending-once (p ∷ procs) ascends (suc place) zero proc at other =
    let later = ascends.0 proc (contains-at procs place proc at) in
    let same : p ≡ proc = cc in
    absurd (omega (arith, later, same))
ascending-once (p ∷ procs) ascends (suc place) (suc next) proc at other = ap suc (ascending-once procs ascends.1 place next proc at other)

-- ---- statements

module _ (same : ℕ → ℕ → Type 0) (itself : (n : ℕ) → same n n) where
  mutual
    statement-itself : (s : Statement) → AreAlikeStatements same s s
    statement-itself (Set col value) = alike_sets col value
    statement-itself (Any col) = alike_anys col
    statement-itself (Call proc args into) = alike_calls proc proc args into (itself proc)
    statement-itself (Guard cond) = alike_guards cond
    statement-itself (Check number cond) = alike_checks number number cond
    statement-itself (If cond on_true on_false) = alike_ifs cond on_true on_false on_true on_false (code-itself on_true) (code-itself on_false)
    statement-itself (Loop pre cond body step first) = alike_loops pre pre cond body step body step first (code-itself pre) (code-itself body) (code-itself step)
    statement-itself Break = alike_breaks
    statement-itself Continue = alike_continues
    statement-itself Return = alike_returns

    pub code-itself : (code : Code) → AreAlike same code code
    code-itself End = alike_ends
    code-itself (Then statement rest) = alike_more statement statement rest rest (statement-itself statement) (code-itself rest)

-- ---- a group

-- the same is known of each procedure that the group calls outside of it
pub record KnowSame (program : Program) (procs : List ℕ) (known other : List (Option Transition)) : Type 0 where
  pub each : (place proc callee : ℕ) → slice_get procs place ≡ Some proc → Contains (called (body_of (slice_get program.procs proc))) callee → place_of callee procs ≡ None
      → slice_get known callee ≡ slice_get other callee

module _ (program : Program) (procs : List ℕ) (known other : List (Option Transition)) (knows : KnowSame program procs known other) where
  abbrev Same : ℕ → ℕ → Type 0
  Same = AreAlikeCallees procs procs known other

  member-itself : (place proc : ℕ) → slice_get procs place ≡ Some proc → proc < length program.procs → AreAlikeMembers Same program program proc proc
  member-itself place proc at within =
      let found = some_at program.procs proc within in
      let body = code_of found.0.body in
      let calls_same : (callee next : ℕ) → Contains (called body) callee → callee ≡ next → Same callee next =
      λ callee next calls is. subst (Same callee) is record {
        place = refl;
        outside = λ out. knows.each place proc callee at (subst (λ (o : Option Proc). Contains (called (body_of o)) callee) (sym found.1) calls) out;
      } in record {
        p = found.0;
        q = found.0;
        is = found.1;
        other_is = found.1;
        alike = record {
          globals = refl;
          rule = refl;
          params = refl;
          returns = refl;
          named = refl;
          body = code-by_calls (λ n m. n ≡ m) Same body body (code-itself (λ n m. n ≡ m) (λ n. refl) body) calls_same;
        };
      }

  pub group-itself : IsAscending procs → ((proc : ℕ) → Contains procs proc → proc < length program.procs) → length known ≡ length program.procs → length other ≡ length program.procs
      → AreAlikeGroups program program procs procs known other
  group-itself ascends within long other_long = record {
    once = ascending-once procs ascends;
    other_once = ascending-once procs ascends;
    each = long;
    other_each = other_long;
    members = zipped-itself (AreAlikeMembers Same program program) procs (λ place proc at. member-itself place proc at (within proc (contains-at procs place proc at)));
  }

-- ---- what a group calls outside of it has come

module _ (program : Program) (come : List ℕ) (group : Group) (next : IsNext program come group) where
  onward : (proc callee : ℕ) → InOneGroup program next.first proc → Calls program proc callee → Reaches program next.first callee
  onward proc callee (inl same) calls = ([], subst (λ p. Calls program p callee) (sym same) calls)
  onward proc callee (inr both) calls = (both.0.0 ++ proc ∷ [], reaches_join program next.first proc both.0.0 callee [] both.0.1 calls)

  callee-come : (proc callee : ℕ) → Contains group.procs proc → Calls program proc callee → place_of callee group.procs ≡ None → Contains come callee
  callee-come proc callee own calls out = go (next.ready callee (onward proc callee ((next.members proc).0 own).1 calls))
    where
      go : Contains come callee ⊎ InOneGroup program next.first callee → Contains come callee
      go (inl came) = came
      go (inr one) =
          let at = (next.members callee).1 (calls.1, one) in
          absurd (no-place callee group.procs out at.0 (slice_get-get_or group.procs at.0 callee at.1 ∙ ap (λ n. Some n) at.2))

  pub know-same : (known other : List (Option Transition)) → length known ≡ length program.procs → length other ≡ length program.procs
      → ((proc : ℕ) → Contains come proc → slice_get known proc ≡ slice_get other proc) → KnowSame program group.procs known other
  know-same known other long other_long stays = record { each = λ place proc callee at calls out. go proc callee (contains-at group.procs place proc at) calls out (cases_lt callee (length program.procs)) }
    where
      go : (proc callee : ℕ) → Contains group.procs proc → Contains (called (body_of (slice_get program.procs proc))) callee → place_of callee group.procs ≡ None
          → (callee < length program.procs) ⊎ (length program.procs ≤ callee) → slice_get known callee ≡ slice_get other callee
      go proc callee own calls out (inl there) = stays callee (callee-come proc callee own (((next.members proc).0 own).0, there, calls) out)
      go proc callee own calls out (inr past) =
          slice_get_past known callee (omega (arith, past, long)) ∙ sym (slice_get_past other callee (omega (arith, past, other_long)))
