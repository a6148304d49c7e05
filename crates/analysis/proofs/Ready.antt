-- What a group's procedures call is known: before it is summed up, or with its own summaries.
--     ready-tabled      with a table for the group
--     tabled-are, tabled-met      such a table is known, and met
use Rattle.std.proofs.Common.{◌≡◌, ℕ, ◌<◌, ◌⊎◌, inl, inr, List, length, sym, ap, subst, ◌∙◌, arith}
use Rattle.std.specs.Prelude.{All, Option, Some, slice_get}
use Rattle.std.specs.List.{AllByRecursion}
use Rattle.std.proofs.lemmas.Option.{get_or_from_slice_get, slice_get-get_or, slice_get_within}
use Rattle.items.proofs.Each.{each-more}
use Rattle.syntax_tree.specs.declared.program.Program.{Program}
use Rattle.syntax_tree.specs.Code.{Statement, Set, Any, Call, Guard, Check, If, Loop, Break, Continue, Return}
use Rattle.transition_formula.specs.Transition.{Transition}
use Rattle.leaf_cases.specs.Conditions.{AreKnown}
use Rattle.leaf_cases.specs.Summaries.{AreMet, KnowsCallee, SummaryIsMet}
use Rattle.proc_summary.specs.Subject.{own_graph}
use Rattle.newton_rounds.specs.Claims.{AreKnownMembers, AreMetMembers}
use Rattle.newton_rounds.specs.Laws.{CallsMember, KnowsOthers}
use Rattle.newton_rounds.specs.Members.{with_table}
use Rattle.newton_rounds.proofs.KnownTables.{tabled-known}
use Rattle.analysis.specs.Claims.{KnowAllCallees}
use Rattle.analysis.specs.Found.{put_at}
use Rattle.analysis.proofs.Puts.{put-come, put-keeps, put-stays, tabled-put}

-- a call of a member, or a statement whose callee is known, where all members are known
callee-known : (procs : List ℕ) (known all : List (Option Transition)) → ((proc : ℕ) (f : Transition) → slice_get known proc ≡ Some (Some f) → (g : Transition) × (slice_get all proc ≡ Some (Some g)))
    → ((place proc : ℕ) → slice_get procs place ≡ Some proc → (g : Transition) × (slice_get all proc ≡ Some (Some g))) → (s : Statement) → CallsMember procs s ⊎ KnowsCallee known s → KnowsCallee all s
callee-known procs known all old new (Call proc args into) (inl member) = new member.0 proc member.1
callee-known procs known all old new (Call proc args into) (inr h) = old proc h.0 h.1
callee-known procs known all old new (Set col value) h = tt
callee-known procs known all old new (Any col) h = tt
callee-known procs known all old new (Guard cond) h = tt
callee-known procs known all old new (Check number cond) h = tt
callee-known procs known all old new (If cond on_true on_false) h = tt
callee-known procs known all old new (Loop pre cond body step first) h = tt
callee-known procs known all old new Break h = tt
callee-known procs known all old new Continue h = tt
callee-known procs known all old new Return h = tt

module _ (program : Program) (procs : List ℕ) (known : List (Option Transition)) (table : List Transition) (long : length table ≡ length procs) where
  same : with_table procs table known ≡ put_at procs table known
  same = tabled-put procs table known long

  pub ready-tabled : AreKnown program known → All (λ proc. proc < length program.procs) procs → KnowsOthers program procs known → KnowAllCallees program procs (with_table procs table known)
  ready-tabled are there ready proc p in_group is =
      subst (λ all. AllByRecursion (λ way. KnowsCallee all way.act) (own_graph p).arcs) (sym same)
      (each-more (λ way. CallsMember procs way.act ⊎ KnowsCallee known way.act) (λ way. KnowsCallee (put_at procs table known) way.act)
      (λ way h. callee-known procs known (put_at procs table known) (λ q f e. put-stays procs table known q f e) come way.act h) (own_graph p).arcs
      (ready in_group.0 proc p (slice_get-get_or procs in_group.0 proc in_group.1 ∙ ap (λ n. Some n) in_group.2) is))
    where
      come : (place q : ℕ) → slice_get procs place ≡ Some q → (g : Transition) × (slice_get (put_at procs table known) q ≡ Some (Some g))
      come place q at =
          let in_procs = slice_get_within procs place q at in
          let within : q < length program.procs = subst (λ n. n < length program.procs) (get_or_from_slice_get procs place q 0 at) (there place 0 in_procs) in
          let each = are.each in
          put-come procs table known place q at (omega (arith, in_procs, long)) (omega (arith, within, each))

  pub tabled-met : AreMet program known → AreMetMembers program procs table → AreMet program (with_table procs table known)
  tabled-met met own = subst (AreMet program) (sym same) (put-keeps (SummaryIsMet program) procs table known own met)

pub tabled-are : (program : Program) (procs : List ℕ) (known : List (Option Transition)) (table : List Transition) → AreKnown program known → AreKnownMembers program procs table → AreKnown program (with_table procs table known)
tabled-are program procs known table are own = tabled-known program procs table known own.fit are
