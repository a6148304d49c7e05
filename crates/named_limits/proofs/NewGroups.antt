-- The groups of a plan are apart: none of their procedures has come before.
use Rattle.std.proofs.Common.{◌≡◌, ℕ, ◌<◌, ◌⊎◌, inl, inr, List, [], ◌∷◌, ◌++◌, length, refl, sym, subst}
use Rattle.std.specs.List.{Contains}
use Rattle.std.proofs.lemmas.List.Elements.{Contains-append_cases, Contains-append_left, Contains-append_right}
use Rattle.syntax_tree.specs.declared.program.Program.{Program}
use Rattle.flow_graph.specs.declared.grouping.Group.{Group}
use Rattle.flow_graph.specs.Groups.{AreGroupsAfter, InOneGroup, IsAscending, IsNext, Reaches}
use Rattle.flow_graph.proofs.Members.{in_of}
use Rattle.flow_graph.proofs.Reaching.{reaches_join}
use Rattle.analysis.specs.declared.planning.Planned.{Planned}
use Rattle.analysis.specs.Plan.{ArePlannedOf, IsPlan}

-- procedures of the program, at least one, in order, of which none has come
pub record IsNew (program : Program) (come procs : List ℕ) : Type 0 where
  pub some : procs ≡ [] → ⊥
  pub within : (q : ℕ) → Contains procs q → q < length program.procs
  pub new : (q : ℕ) → Contains procs q → Contains come q → ⊥
  pub ascends : IsAscending procs

abbrev pub AreNew : Program → List ℕ → List Planned → Type 0
AreNew program come [] = Unit {0}
AreNew program come (planned ∷ plan) = IsNew program come planned.procs × AreNew program (come ++ planned.procs) plan

module _ (program : Program) where
  joined : (p k q : ℕ) → Reaches program p k → Reaches program k q → Reaches program p q
  joined p k q first second = (first.0 ++ k ∷ second.0, reaches_join program p k first.0 q second.0 first.1 second.1)

  one-then : (p k q : ℕ) → InOneGroup program p k → InOneGroup program k q → InOneGroup program p q
  one-then p k q (inl same) other = subst (λ n. InOneGroup program n q) (sym same) other
  one-then p k q (inr both) (inl same) = subst (λ n. InOneGroup program p n) same (inr both)
  one-then p k q (inr both) (inr more) = inr (joined p k q both.0 more.0, joined q k p more.1 both.1)

  one-back : (p q : ℕ) → InOneGroup program p q → InOneGroup program q p
  one-back p q (inl same) = inl (sym same)
  one-back p q (inr both) = inr (both.1, both.0)

  -- with a procedure its whole group has come
  abbrev IsClosed : List ℕ → Type 0
  IsClosed come = (p q : ℕ) → Contains come p → q < length program.procs → InOneGroup program p q → Contains come q

  closed-next : (come : List ℕ) (group : Group) → IsNext program come group → IsClosed come → IsClosed (come ++ group.procs)
  closed-next come group next closed p q there within one = go (Contains-append_cases come group.procs p there)
    where
      go : Contains come p ⊎ Contains group.procs p → Contains (come ++ group.procs) q
      go (inl came) = Contains-append_left come group.procs q (closed p q came within one)
      go (inr own) = Contains-append_right come group.procs q ((next.members q).1 (within, one-then next.first p q ((next.members p).0 own).1 one))

  new-group : (come : List ℕ) (group : Group) → IsNext program come group → IsClosed come → IsNew program come group.procs
  new-group come group next closed =
      record {
        some = λ none. in_of [] next.first (subst (λ procs. Contains procs next.first) none ((next.members next.first).1 (next.there, inl refl)));
        within = λ q there. ((next.members q).0 there).0;
        new = λ q there came. next.new (closed q next.first came next.there (one-back next.first q ((next.members q).0 there).1));
        ascends = next.in_order;
      }

  are-new : (come : List ℕ) (groups : List Group) (plan : List Planned) → AreGroupsAfter program come groups → ArePlannedOf program groups plan → IsClosed come → AreNew program come plan
  are-new come [] [] after planned closed = tt
  are-new come [] (one ∷ plan) after planned closed = absurd planned
  are-new come (group ∷ groups) [] after planned closed = absurd planned
  are-new come (group ∷ groups) (one ∷ plan) after planned closed =
      let same = sym planned.0.procs in (
        subst (IsNew program come) same (new-group come group after.0 closed),
        subst (λ procs. AreNew program (come ++ procs) plan) same (are-new (come ++ group.procs) groups plan after.1 planned.1 (closed-next come group after.0 closed)),
      )

  pub plan-new : (plan : List Planned) → IsPlan program plan → AreNew program [] plan
  plan-new plan is = are-new [] is.groups plan is.are is.planned (λ p q there. absurd (in_of [] p there))
