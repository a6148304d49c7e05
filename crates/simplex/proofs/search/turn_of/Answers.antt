use Rattle.std.proofs.Common.{◌≡◌, ◌∙◌, ◌+◌, ℕ, List, Bool, Ok, length, pos, true, sym, subst, rules}
use Rattle.std.specs.Prelude.{slice_set, IfErr}
use Rattle.items.specs.Gives.{Gives}
use Rattle.simplex.specs.Exchange.{cause, exchange}
use Rattle.simplex.specs.Refusal.{IsRefusalIn}
use Rattle.simplex.specs.declared.tableau.Tableau.{Tableau}
use Rattle.simplex.proofs.Overruns.{refused_exchange}
use Rattle.simplex.specs.History.{Raises, EndsAt}
use Rattle.simplex.specs.Raise.{Begins, keys_of}
use Rattle.simplex.specs.Search.{IsKept}
use Rattle.simplex.specs.declared.gauss.Stage.{Stage}
use Rattle.simplex.specs.declared.raise.RaiseEnd.{RaiseEnd}
use Rattle.simplex.specs.declared.raise.RaiseEnd.TheVariants as raised
use Rattle.simplex.proofs.Settles.{begins, kept-met, kept-open, refuted-best}
use Rattle.simplex.proofs.search.turn_of.Goals as goal

pub raised_goal-requires : goal.raised_goal-requires
raised_goal-requires g c =
    let es : c.as_slice-3.result.now ≡ c.args.stage.enters = search rules in
    let ks : c.as_slice-4.result.now ≡ keys_of c.args.stage.enters c.args.constants c.args.stage.tableau = search rules in (
      subst (λ (enters : List Bool). Begins g.over enters c.args.constants c.as_slice-4.result.now c.args.i c.args.stage.tableau) (sym es)
          (subst (λ (keys : List ℕ). Begins g.over c.args.stage.enters c.args.constants keys c.args.i c.args.stage.tableau) (sym ks)
          (begins g.over c.args.constants c.args.kinds.now c.args.stage.enters c.args.stage.tableau c.args.i c.requires.0 c.requires.1.0 c.requires.1.1.0 c.requires.1.1.1.0)),
      c.requires.0.marked.sized.primitive,
    )

pub returns-in-Met-clause-came : goal.returns-in-Met-clause-came
returns-in-Met-clause-came g c =
    let es : c.as_slice-3.result.now ≡ c.args.stage.enters = search rules in
    let ks : c.as_slice-4.result.now ≡ keys_of c.args.stage.enters c.args.constants c.args.stage.tableau = search rules in
    let r : Raises g.over c.args.stage.enters c.args.constants (keys_of c.args.stage.enters c.args.constants c.args.stage.tableau) c.args.i (pos 1) c.args.stage.tableau c.in_ok-raised.raised c.in_ok-raised.ensures.tableau.0 =
    subst (λ (keys : List ℕ). Raises g.over c.args.stage.enters c.args.constants keys c.args.i (pos 1) c.args.stage.tableau c.in_ok-raised.raised c.in_ok-raised.ensures.tableau.0) ks
    (subst (λ (enters : List Bool). Raises g.over enters c.args.constants c.as_slice-4.result.now c.args.i (pos 1) c.args.stage.tableau c.in_ok-raised.raised c.in_ok-raised.ensures.tableau.0) es c.in_ok-raised.ensures.tableau.1) in
    let ends : EndsAt g.over c.args.stage.enters c.args.constants (pos 1) true c.args.i c.args.budget c.in_ok-raised.raised raised.Met =
    subst (λ (enters : List Bool). EndsAt g.over enters c.args.constants (pos 1) true c.args.i c.args.budget c.in_ok-raised.raised raised.Met) es
    (subst (λ (came : RaiseEnd). EndsAt g.over c.as_slice-3.result.now c.args.constants (pos 1) true c.args.i c.args.budget c.in_ok-raised.raised came) c.in-Met.is c.in_ok-raised.ensures.ends) in
    let made : c.stage_with_row.result ≡ record { tableau = c.in_ok-raised.raised; enters = slice_set c.args.stage.enters (c.args.constants + 1 + c.args.i) true } = search rules in
    subst (λ (s : Stage). IsKept g.over c.args.constants c.args.kinds.now c.args.i c.args.stage.enters s.enters s.tableau) (sym made)
    (kept-met g.over c.args.constants c.args.kinds.now c.args.stage.enters (pos 1) c.args.stage.tableau c.in_ok-raised.raised c.args.i c.in_ok-raised.ensures.tableau.0 c.requires.0 r c.requires.1.1.1.1 c.requires.1.0 c.requires.1.1.0 c.requires.1.1.1.0 ends.1)

pub returns-in-Open-clause-came : goal.returns-in-Open-clause-came
returns-in-Open-clause-came g c =
    let es : c.as_slice-3.result.now ≡ c.args.stage.enters = search rules in
    let ks : c.as_slice-4.result.now ≡ keys_of c.args.stage.enters c.args.constants c.args.stage.tableau = search rules in
    let r : Raises g.over c.args.stage.enters c.args.constants (keys_of c.args.stage.enters c.args.constants c.args.stage.tableau) c.args.i (pos 1) c.args.stage.tableau c.in_ok-raised.raised c.in_ok-raised.ensures.tableau.0 =
    subst (λ (keys : List ℕ). Raises g.over c.args.stage.enters c.args.constants keys c.args.i (pos 1) c.args.stage.tableau c.in_ok-raised.raised c.in_ok-raised.ensures.tableau.0) ks
    (subst (λ (enters : List Bool). Raises g.over enters c.args.constants c.as_slice-4.result.now c.args.i (pos 1) c.args.stage.tableau c.in_ok-raised.raised c.in_ok-raised.ensures.tableau.0) es c.in_ok-raised.ensures.tableau.1) in
    let ends : EndsAt g.over c.args.stage.enters c.args.constants (pos 1) true c.args.i c.args.budget c.in_ok-raised.raised (raised.Open c.in-Open.column) =
    subst (λ (enters : List Bool). EndsAt g.over enters c.args.constants (pos 1) true c.args.i c.args.budget c.in_ok-raised.raised (raised.Open c.in-Open.column)) es
    (subst (λ (came : RaiseEnd). EndsAt g.over c.as_slice-3.result.now c.args.constants (pos 1) true c.args.i c.args.budget c.in_ok-raised.raised came) c.in-Open.is c.in_ok-raised.ensures.ends) in
    let exact : exchange c.in_ok-raised.raised c.args.i c.in-Open.column ≡ Ok c.in_ok-next-in-Open.next = search rules in
    let made : c.stage_with_row-in-Open.result ≡ record { tableau = c.in_ok-next-in-Open.next; enters = slice_set c.args.stage.enters (c.args.constants + 1 + c.args.i) true } = search rules in
    subst (λ (s : Stage). IsKept g.over c.args.constants c.args.kinds.now c.args.i c.args.stage.enters s.enters s.tableau) (sym made)
    (kept-open g.over c.args.constants c.args.kinds.now c.args.stage.enters c.args.stage.tableau c.in_ok-raised.raised c.in_ok-next-in-Open.next c.args.i c.in-Open.column c.in_ok-raised.ensures.tableau.0 c.requires.0 r c.requires.1.1.1.1 c.requires.1.0 c.requires.1.1.0 c.requires.1.1.1.0 ends.0 ends.1 exact)

pub returns-in-Best-clause-came : goal.returns-in-Best-clause-came
returns-in-Best-clause-came g c =
    let es : c.as_slice-3.result.now ≡ c.args.stage.enters = search rules in
    let ks : c.as_slice-4.result.now ≡ keys_of c.args.stage.enters c.args.constants c.args.stage.tableau = search rules in
    let r : Raises g.over c.args.stage.enters c.args.constants (keys_of c.args.stage.enters c.args.constants c.args.stage.tableau) c.args.i (pos 1) c.args.stage.tableau c.in_ok-raised.raised c.in_ok-raised.ensures.tableau.0 =
    subst (λ (keys : List ℕ). Raises g.over c.args.stage.enters c.args.constants keys c.args.i (pos 1) c.args.stage.tableau c.in_ok-raised.raised c.in_ok-raised.ensures.tableau.0) ks
    (subst (λ (enters : List Bool). Raises g.over enters c.args.constants c.as_slice-4.result.now c.args.i (pos 1) c.args.stage.tableau c.in_ok-raised.raised c.in_ok-raised.ensures.tableau.0) es c.in_ok-raised.ensures.tableau.1) in
    let ends : EndsAt g.over c.args.stage.enters c.args.constants (pos 1) true c.args.i c.args.budget c.in_ok-raised.raised raised.Best =
    subst (λ (enters : List Bool). EndsAt g.over enters c.args.constants (pos 1) true c.args.i c.args.budget c.in_ok-raised.raised raised.Best) es
    (subst (λ (came : RaiseEnd). EndsAt g.over c.as_slice-3.result.now c.args.constants (pos 1) true c.args.i c.args.budget c.in_ok-raised.raised came) c.in-Best.is c.in_ok-raised.ensures.ends) in
    refuted-best g.over c.args.constants c.args.kinds.now c.args.stage.enters c.args.stage.tableau c.in_ok-raised.raised c.args.i c.in_ok-raised.ensures.tableau.0 c.requires.0 r c.requires.1.1.1.1 c.requires.1.0 c.requires.1.1.0 c.requires.1.1.1.0 ends.0 ends.1

pub returns-in_err-next-in-Open-clause-refusal : goal.returns-in_err-next-in-Open-clause-refusal
returns-in_err-next-in-Open-clause-refusal g c =
    let sized = c.requires.0.marked.sized in
    let r = c.in_ok-raised.ensures.tableau.1 in
    let exact : Gives cause (λ (u : Tableau). u) c.exchange.result (exchange c.in_ok-raised.raised c.args.i c.in-Open.column) = search rules in
    let known : IfErr c.exchange.result (IsRefusalIn g.over (length c.args.kinds.now)) =
    refused_exchange g.over (length c.args.kinds.now) c.in_ok-raised.raised (record { many = r.many ∙ sym sized.many; tableau = r.tableau; primitive = r.primitive sized.primitive }) c.args.i c.in-Open.column c.exchange.result exact c.exchange.ensures.refusal c.exchange.ensures.calm in search rules
