-- The ways out of a point are formulas that fit, and each passage and arrival has one.
use Rattle.std.proofs.Common.{◌≡◌, ℕ, zero, suc, ◌+◌, ◌-◌, Bool, true, false, List, [], ◌∷◌, Option, None, Some, refl, sym, ap, subst, ◌∙◌, arith}
use Rattle.std.specs.Prelude.{not, ◌==◌, ◌||◌, slice_get, if◌then◌else◌}
use Rattle.std.specs.List.{AllByRecursion, flat_map}
use Rattle.std.proofs.lemmas.Bool.Decides.{Decides-eqb}
use Rattle.items.proofs.Each.{each-append, each-back, each-front}
use Rattle.path_expr.specs.declared.cell.Cell.{Cell}
use Rattle.syntax_tree.specs.declared.program.Program.{Program}
use Rattle.syntax_tree.specs.Code.{Statement, Set, Any, Call, Guard, Check, If, Loop, Break, Continue, Return}
use Rattle.syntax_tree.specs.Term.{Term}
use Rattle.syntax_tree.specs.Value.{State}
use Rattle.transition_formula.specs.Transition.{Transition}
use Rattle.flow_graph.specs.FlowGraph.{Arc, CheckPlace}
use Rattle.flow_graph.specs.Walks.{CallMeaning}
use Rattle.leaf_cases.proofs.Graphs.{CallFits, EdgeFits}
use Rattle.proc_summary.specs.Flow.{formula_at}
use Rattle.point_induction.specs.Points.{Passage, is_head}
use Rattle.point_induction.proofs.Passages.{passage-to_point}
use Rattle.point_steps.specs.declared.outs.WayOut.{WayOut}
use Rattle.point_steps.specs.declared.target.Target.{Target}
use Rattle.point_steps.specs.declared.target.Target.TheVariants as targets
use Rattle.point_steps.specs.Outs.{act_outs, call_outs, check_outs, edge_outs, entry_out, entry_outs, exit_outs, head_outs, if_passed, is_passed, out_to}

-- ---- nodes that are passed

or-true : (b : Bool) → (b || true) ≡ true
or-true true = refl
or-true false = refl

passed-by : (arcs : List Arc) (point node : ℕ) (head : Bool) → is_head arcs node ≡ head → (head ≡ true → node ≡ point) → is_passed arcs point node ≡ true
passed-by arcs point node true e same = ap (λ b. b || not (is_head arcs node)) ((Decides-eqb node point).1 (same refl))
passed-by arcs point node false e same = ap (λ b. node == point || not b) e ∙ or-true (node == point)

-- a passage leads to a node that is passed
pub passage-passed : (calls : CallMeaning) (globals : ℕ) (arcs : List Arc) (point : ℕ) (before : State) (node : ℕ) (after : State) → Passage calls globals arcs point before node after → is_passed arcs point node ≡ true
passage-passed calls globals arcs point before node after passage =
    passed-by arcs point node (is_head arcs node) refl
    (λ e. sym (passage-to_point calls globals arcs point before node after passage (ap (λ b. node == 0 || b) e ∙ or-true (node == 0))).0)

-- ---- what each way out has, each of these has

each-within : {A B : Type 0} (P : B → Type 0) (f : A → List B) (xs : List A) (k : ℕ) (x : A) → AllByRecursion P (flat_map f xs) → slice_get xs k ≡ Some x → AllByRecursion P (f x)
each-within P f [] k x h e = absurd (cc)
each-within P f (y ∷ ys) zero x h e = let same : y ≡ x = cc in subst (λ z. AllByRecursion P (f z)) same (each-front P (f y) (flat_map f ys) h)
each-within P f (y ∷ ys) (suc k) x h e = each-within P f ys k x (each-back P (f y) (flat_map f ys) h) e

abbrev pub way_to : Target → Transition → WayOut
way_to target f = record { target = target; formula = f; lost = [] }

-- a target within the procedure
abbrev pub Stays : Target → Type 0
Stays (targets.Head node) = Unit {0}
Stays (targets.Entry callee) = ⊥
Stays targets.Exit = Unit {0}
Stays (targets.Check number) = Unit {0}

module _ (P : WayOut → Type 0) where
  only-out : (target : Target) (o : Option Transition) (f : Transition) → AllByRecursion P (out_to target o) → o ≡ Some f → P (way_to target f)
  only-out target o f h e = (subst (λ o. AllByRecursion P (out_to target o)) e h).0

  passed-out : (arcs : List Arc) (point node : ℕ) (outs : List WayOut) → is_passed arcs point node ≡ true → AllByRecursion P (if_passed arcs point node outs) → AllByRecursion P outs
  passed-out arcs point node outs e h = subst (λ b. AllByRecursion P (if b then outs else [])) e h

  pub head-out : (columns : ℕ) (cells : List (Cell Transition)) (arrival : ℕ) (heads : List ℕ) (n head : ℕ) (f : Transition) → slice_get heads n ≡ Some head → formula_at columns cells (arrival + n) ≡ Some f
      → AllByRecursion P (head_outs columns cells arrival heads) → P (way_to (targets.Head head) f)
  head-out columns cells arrival [] n head f is e h = absurd (cc)
  head-out columns cells arrival (x ∷ heads) zero head f is e h =
      let same : x ≡ head = cc in
      let here : arrival + 0 ≡ arrival = omega arith in
      subst (λ y. P (way_to (targets.Head y) f)) same
      (only-out (targets.Head x) (formula_at columns cells arrival) f (each-front P (out_to (targets.Head x) (formula_at columns cells arrival)) (head_outs columns cells (arrival + 1) heads) h) (ap (formula_at columns cells) (sym here) ∙ e))
  head-out columns cells arrival (x ∷ heads) (suc n) head f is e h =
      let there : arrival + suc n ≡ arrival + 1 + n = omega arith in
      head-out columns cells (arrival + 1) heads n head f is (ap (formula_at columns cells) (sym there) ∙ e) (each-back P (out_to (targets.Head x) (formula_at columns cells arrival)) (head_outs columns cells (arrival + 1) heads) h)

  pub call-out : (columns globals : ℕ) (cells : List (Cell Transition)) (arcs : List Arc) (point k : ℕ) (way : Arc) (callee : ℕ) (terms : List Term) (into : Option ℕ) (f : Transition)
      → slice_get arcs k ≡ Some way → way.act ≡ Call callee terms into → is_passed arcs point way.from ≡ true → formula_at columns cells way.from ≡ Some f
      → AllByRecursion P (call_outs columns globals cells arcs point) → P (entry_out columns globals f callee terms)
  call-out columns globals cells arcs point k way callee terms into f is act passed e h =
      let own = each-within P (edge_outs columns globals cells arcs point) arcs k way h is in
      let called = subst (λ a. AllByRecursion P (act_outs columns globals cells arcs point way.from a)) act own in
      let there = passed-out arcs point way.from (entry_outs columns globals callee terms (formula_at columns cells way.from)) passed called in
      (subst (λ o. AllByRecursion P (entry_outs columns globals callee terms o)) e there).0

  pub exit-out : (main proc columns : ℕ) (cells : List (Cell Transition)) (exit : ℕ) (f : Transition) → (proc ≡ main → ⊥) → formula_at columns cells exit ≡ Some f → AllByRecursion P (exit_outs main proc columns cells exit) → P (way_to targets.Exit f)
  exit-out main proc columns cells exit f other e h = go (proc == main) refl h
    where
      go : (b : Bool) → (proc == main) ≡ b → AllByRecursion P (if b then [] else out_to targets.Exit (formula_at columns cells exit)) → P (way_to targets.Exit f)
      go true same k = absurd (other ((Decides-eqb proc main).0 same))
      go false same k = only-out targets.Exit (formula_at columns cells exit) f k e

  pub check-out : (columns : ℕ) (cells : List (Cell Transition)) (arcs : List Arc) (point number : ℕ) (checks : List CheckPlace) (n : ℕ) (check : CheckPlace) (f : Transition) → slice_get checks n ≡ Some check → is_passed arcs point check.node ≡ true
      → formula_at columns cells check.node ≡ Some f → AllByRecursion P (check_outs columns cells arcs point number checks) → P (way_to (targets.Check (number + n)) f)
  check-out columns cells arcs point number [] n check f is passed e h = absurd (cc)
  check-out columns cells arcs point number (x ∷ checks) zero check f is passed e h =
      let same : x ≡ check = cc in
      let here : number ≡ number + 0 = omega arith in
      let own = each-front P (if_passed arcs point x.node (out_to (targets.Check number) (formula_at columns cells x.node))) (check_outs columns cells arcs point (number + 1) checks) h in
      let mine = subst (λ (y : CheckPlace). AllByRecursion P (if_passed arcs point y.node (out_to (targets.Check number) (formula_at columns cells y.node)))) same own in
      subst (λ m. P (way_to (targets.Check m) f)) here (only-out (targets.Check number) (formula_at columns cells check.node) f (passed-out arcs point check.node (out_to (targets.Check number) (formula_at columns cells check.node)) passed mine) e)
  check-out columns cells arcs point number (x ∷ checks) (suc n) check f is passed e h =
      let there : number + 1 + n ≡ number + suc n = omega arith in
      subst (λ m. P (way_to (targets.Check m) f)) there
      (check-out columns cells arcs point (number + 1) checks n check f is passed e (each-back P (if_passed arcs point x.node (out_to (targets.Check number) (formula_at columns cells x.node))) (check_outs columns cells arcs point (number + 1) checks) h))

  -- ---- and each way out has what these have

  all-out : (target : Target) (o : Option Transition) → ((f : Transition) → o ≡ Some f → P (way_to target f)) → AllByRecursion P (out_to target o)
  all-out target None h = tt
  all-out target (Some f) h = (h f refl, tt)

  all-passed : (arcs : List Arc) (point node : ℕ) (outs : List WayOut) → AllByRecursion P outs → AllByRecursion P (if_passed arcs point node outs)
  all-passed arcs point node outs h = go (is_passed arcs point node)
    where
      go : (b : Bool) → AllByRecursion P (if b then outs else [])
      go true = h
      go false = tt

  module _ (columns : ℕ) (cells : List (Cell Transition)) (own : (target : Target) (node : ℕ) (f : Transition) → Stays target → formula_at columns cells node ≡ Some f → P (way_to target f)) where
    pub all-heads : (arrival : ℕ) (heads : List ℕ) → AllByRecursion P (head_outs columns cells arrival heads)
    all-heads arrival [] = tt
    all-heads arrival (head ∷ heads) =
        each-append P (out_to (targets.Head head) (formula_at columns cells arrival)) (head_outs columns cells (arrival + 1) heads)
        (all-out (targets.Head head) (formula_at columns cells arrival) (λ f e. own (targets.Head head) arrival f tt e)) (all-heads (arrival + 1) heads)

    pub all-exits : (main proc exit : ℕ) → AllByRecursion P (exit_outs main proc columns cells exit)
    all-exits main proc exit = go (proc == main)
      where
        go : (b : Bool) → AllByRecursion P (if b then [] else out_to targets.Exit (formula_at columns cells exit))
        go true = tt
        go false = all-out targets.Exit (formula_at columns cells exit) (λ f e. own targets.Exit exit f tt e)

    pub all-checks : (arcs : List Arc) (point number : ℕ) (checks : List CheckPlace) → AllByRecursion P (check_outs columns cells arcs point number checks)
    all-checks arcs point number [] = tt
    all-checks arcs point number (check ∷ checks) =
        each-append P (if_passed arcs point check.node (out_to (targets.Check number) (formula_at columns cells check.node))) (check_outs columns cells arcs point (number + 1) checks)
        (all-passed arcs point check.node (out_to (targets.Check number) (formula_at columns cells check.node)) (all-out (targets.Check number) (formula_at columns cells check.node) (λ f e. own (targets.Check number) check.node f tt e)))
        (all-checks arcs point (number + 1) checks)

  module _ (program : Program) (columns globals : ℕ) (cells : List (Cell Transition)) (point : ℕ)
      (own : (callee : ℕ) (terms : List Term) (into : Option ℕ) (from : ℕ) (f : Transition) → CallFits program columns callee terms into → formula_at columns cells from ≡ Some f → P (entry_out columns globals f callee terms)) where
    all-entries : (callee : ℕ) (terms : List Term) (into : Option ℕ) (from : ℕ) (o : Option Transition) → CallFits program columns callee terms into → formula_at columns cells from ≡ o → AllByRecursion P (entry_outs columns globals callee terms o)
    all-entries callee terms into from None h e = tt
    all-entries callee terms into from (Some f) h e = (own callee terms into from f h e, tt)

    all-acts : (arcs : List Arc) (from : ℕ) (act : Statement) → EdgeFits program columns act → AllByRecursion P (act_outs columns globals cells arcs point from act)
    all-acts arcs from (Call callee terms into) h =
        all-passed arcs point from (entry_outs columns globals callee terms (formula_at columns cells from)) (all-entries callee terms into from (formula_at columns cells from) h refl)
    all-acts arcs from (Set col value) h = tt
    all-acts arcs from (Any col) h = tt
    all-acts arcs from (Guard cond) h = tt
    all-acts arcs from (Check number cond) h = tt
    all-acts arcs from (If cond a b) h = tt
    all-acts arcs from (Loop pre cond body step first) h = tt
    all-acts arcs from Break h = tt
    all-acts arcs from Continue h = tt
    all-acts arcs from Return h = tt

    pub all-calls : (arcs ways : List Arc) → AllByRecursion (λ (way : Arc). EdgeFits program columns way.act) ways → AllByRecursion P (flat_map (edge_outs columns globals cells arcs point) ways)
    all-calls arcs [] h = tt
    all-calls arcs (way ∷ ways) h = each-append P (edge_outs columns globals cells arcs point way) (flat_map (edge_outs columns globals cells arcs point) ways) (all-acts arcs way.from way.act h.0) (all-calls arcs ways h.1)
