use Rattle.std.proofs.Common.{rules, ◌≡◌, ◌<◌, ℕ, List, Bool, false, length, sym, subst, negsuc}
use Rattle.simplex.specs.History.{Raises, EndsAt}
use Rattle.simplex.specs.Raise.{Begins, keys_of}
use Rattle.simplex.specs.Search.{IsFlat}
use Rattle.simplex.specs.declared.raise.RaiseEnd.{RaiseEnd}
use Rattle.simplex.specs.declared.raise.RaiseEnd.TheVariants as raised
use Rattle.simplex.proofs.Settles.{begins_goal, topped, opened}
use Rattle.simplex.proofs.supremum.raised_objective.Goals as goal

pub raised_goal-requires : goal.raised_goal-requires
raised_goal-requires g c =
    let es : c.as_slice-3.result.now ≡ c.args.stage.enters = search rules in
    let ks : c.as_slice-4.result.now ≡ keys_of c.args.stage.enters c.args.constants c.args.stage.tableau = search rules in
    let is : c.args.goal ≡ g.case.over.rows = c.requires.1.0 in
    let here : g.case.over.rows < length c.args.stage.tableau.lines = subst (λ (n : ℕ). n < length c.args.stage.tableau.lines) is c.requires.1.1.0 in (
      subst (λ (enters : List Bool). Begins g.case.over enters c.args.constants c.as_slice-4.result.now c.args.goal c.args.stage.tableau) (sym es)
          (subst (λ (keys : List ℕ). Begins g.case.over c.args.stage.enters c.args.constants keys c.args.goal c.args.stage.tableau) (sym ks)
          (subst (λ (n : ℕ). Begins g.case.over c.args.stage.enters c.args.constants (keys_of c.args.stage.enters c.args.constants c.args.stage.tableau) n c.args.stage.tableau) (sym is)
          (begins_goal g.case.over c.args.constants g.case.kinds c.args.stage.enters c.args.stage.tableau c.requires.0.placed here))),
      c.requires.0.placed.marked.sized.primitive,
    )

pub returns-in-Best-clause-top : goal.returns-in-Best-clause-top
returns-in-Best-clause-top g c =
    let es : c.as_slice-3.result.now ≡ c.args.stage.enters = search rules in
    let ks : c.as_slice-4.result.now ≡ keys_of c.args.stage.enters c.args.constants c.args.stage.tableau = search rules in
    let is : c.args.goal ≡ g.case.over.rows = c.requires.1.0 in
    let here : g.case.over.rows < length c.args.stage.tableau.lines = subst (λ (n : ℕ). n < length c.args.stage.tableau.lines) is c.requires.1.1.0 in
    let r : Raises g.case.over c.args.stage.enters c.args.constants (keys_of c.args.stage.enters c.args.constants c.args.stage.tableau) g.case.over.rows (negsuc 0) c.args.stage.tableau c.in_ok-t.t c.in_ok-t.ensures.tableau.0 =
    subst (λ (n : ℕ). Raises g.case.over c.args.stage.enters c.args.constants (keys_of c.args.stage.enters c.args.constants c.args.stage.tableau) n (negsuc 0) c.args.stage.tableau c.in_ok-t.t c.in_ok-t.ensures.tableau.0) is
    (subst (λ (keys : List ℕ). Raises g.case.over c.args.stage.enters c.args.constants keys c.args.goal (negsuc 0) c.args.stage.tableau c.in_ok-t.t c.in_ok-t.ensures.tableau.0) ks
    (subst (λ (enters : List Bool). Raises g.case.over enters c.args.constants c.as_slice-4.result.now c.args.goal (negsuc 0) c.args.stage.tableau c.in_ok-t.t c.in_ok-t.ensures.tableau.0) es c.in_ok-t.ensures.tableau.1)) in
    let ends : EndsAt g.case.over c.args.stage.enters c.args.constants (negsuc 0) false g.case.over.rows c.args.budget c.in_ok-t.t raised.Best =
    subst (λ (n : ℕ). EndsAt g.case.over c.args.stage.enters c.args.constants (negsuc 0) false n c.args.budget c.in_ok-t.t raised.Best) is
    (subst (λ (enters : List Bool). EndsAt g.case.over enters c.args.constants (negsuc 0) false c.args.goal c.args.budget c.in_ok-t.t raised.Best) es
    (subst (λ (came : RaiseEnd). EndsAt g.case.over c.as_slice-3.result.now c.args.constants (negsuc 0) false c.args.goal c.args.budget c.in_ok-t.t came) c.in-Best.is c.in_ok-t.ensures.ends)) in
    topped g.case.over c.args.constants g.case.kinds c.args.stage.enters c.args.budget c.args.stage.tableau c.in_ok-t.t c.in_ok-t.ensures.tableau.0 c.requires.0 r here
    (subst (λ (n : ℕ). IsFlat c.args.constants c.args.stage.tableau n) is c.requires.1.1.1) ends.1

pub returns-in-Open-clause-top : goal.returns-in-Open-clause-top
returns-in-Open-clause-top g c =
    let es : c.as_slice-3.result.now ≡ c.args.stage.enters = search rules in
    let ks : c.as_slice-4.result.now ≡ keys_of c.args.stage.enters c.args.constants c.args.stage.tableau = search rules in
    let is : c.args.goal ≡ g.case.over.rows = c.requires.1.0 in
    let r : Raises g.case.over c.args.stage.enters c.args.constants (keys_of c.args.stage.enters c.args.constants c.args.stage.tableau) g.case.over.rows (negsuc 0) c.args.stage.tableau c.in_ok-t.t c.in_ok-t.ensures.tableau.0 =
    subst (λ (n : ℕ). Raises g.case.over c.args.stage.enters c.args.constants (keys_of c.args.stage.enters c.args.constants c.args.stage.tableau) n (negsuc 0) c.args.stage.tableau c.in_ok-t.t c.in_ok-t.ensures.tableau.0) is
    (subst (λ (keys : List ℕ). Raises g.case.over c.args.stage.enters c.args.constants keys c.args.goal (negsuc 0) c.args.stage.tableau c.in_ok-t.t c.in_ok-t.ensures.tableau.0) ks
    (subst (λ (enters : List Bool). Raises g.case.over enters c.args.constants c.as_slice-4.result.now c.args.goal (negsuc 0) c.args.stage.tableau c.in_ok-t.t c.in_ok-t.ensures.tableau.0) es c.in_ok-t.ensures.tableau.1)) in
    let ends : EndsAt g.case.over c.args.stage.enters c.args.constants (negsuc 0) false g.case.over.rows c.args.budget c.in_ok-t.t (raised.Open c.in-Open.column) =
    subst (λ (n : ℕ). EndsAt g.case.over c.args.stage.enters c.args.constants (negsuc 0) false n c.args.budget c.in_ok-t.t (raised.Open c.in-Open.column)) is
    (subst (λ (enters : List Bool). EndsAt g.case.over enters c.args.constants (negsuc 0) false c.args.goal c.args.budget c.in_ok-t.t (raised.Open c.in-Open.column)) es
    (subst (λ (came : RaiseEnd). EndsAt g.case.over c.as_slice-3.result.now c.args.constants (negsuc 0) false c.args.goal c.args.budget c.in_ok-t.t came) c.in-Open.is c.in_ok-t.ensures.ends)) in
    opened g.case.over c.args.constants g.case.kinds c.args.stage.enters c.args.stage.tableau c.in_ok-t.t c.in-Open.column c.in_ok-t.ensures.tableau.0 c.requires.0 r ends.1
