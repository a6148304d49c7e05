-- States that are put behind others: those that were there stay, and so does what is told of them.
use Rattle.std.proofs.Common.{◌≡◌, ℕ, zero, suc, ◌+◌, List, [], ◌∷◌, ◌++◌, Some, refl, sym, ap, subst, ◌∙◌, arith, append_assoc, append-nil}
use Rattle.std.specs.Prelude.{Option, slice_get}
use Rattle.std.specs.List.{AllByRecursion, range_with_len}
use Rattle.items.proofs.Each.{each-append, each-more}
use Rattle.linear_terms.specs.declared.row.Case.{Case}
use Rattle.syntax_tree.specs.declared.program.Proc.{Proc}
use Rattle.syntax_tree.specs.declared.program.Program.{Program}
use Rattle.syntax_tree.specs.Value.{State}
use Rattle.syntax_tree.specs.WellFormed.{width_of}
use Rattle.transition_formula.specs.Meaning.{Holds, HoldsSome}
use Rattle.transition_formula.specs.Transition.{Transition}
use Rattle.vocabularies.specs.Ends.{entry_width}
use Rattle.vocabularies.specs.Procs.{IsProcOf}
use Rattle.proc_summary.specs.declared.stop.Flow.{Flow}
use Rattle.proc_summary.specs.declared.stop.NodeFormula.{NodeFormula}
use Rattle.proc_summary.specs.Claims.{StopHolds}
use Rattle.context.specs.Claims.{EntryHolds}
use Rattle.context.proofs.AssertionPlaces.{some-one}
use Rattle.point_steps.specs.Claims.{IsState, StateHolds}
use Rattle.point_rounds.specs.declared.round.PointState.{PointState}
use Rattle.point_rounds.specs.Closed.{ArePointStates, HasState, IsPointState}
use Rattle.point_states.specs.Additions.{AddsStates, IsPointStop, TellsProcedure, TellsStop}
use Rattle.point_states.specs.AllStates.{state_in}

-- ---- places in lists behind others

got-front : {A : Type 0} (xs ys : List A) (k : ℕ) (x : A) → slice_get xs k ≡ Some x → slice_get (xs ++ ys) k ≡ Some x
got-front [] ys k x e = absurd (cc)
got-front (z ∷ xs) ys zero x e = e
got-front (z ∷ xs) ys (suc k) x e = got-front xs ys k x e

got-back : {A : Type 0} (xs ys : List A) (k : ℕ) (x : A) → slice_get ys k ≡ Some x → (at : ℕ) × (slice_get (xs ++ ys) at ≡ Some x)
got-back [] ys k x e = (k, e)
got-back (z ∷ xs) ys k x e = let there = got-back xs ys k x e in (suc there.0, there.1)

range-more : (first count : ℕ) → range_with_len first (suc count) ≡ range_with_len first count ++ (first + count) ∷ []
range-more first zero = ap (λ n. n ∷ []) (omega arith)
range-more first (suc n) = ap (λ ns. first ∷ ns) (range-more (first + 1) n ∙ ap (λ k. range_with_len (first + 1) n ++ k ∷ []) (omega arith))

pub range-next : (n : ℕ) → range_with_len 0 (n + 1) ≡ range_with_len 0 n ++ n ∷ []
range-next n =
    let one : n + 1 ≡ suc n = omega arith in
    let same : 0 + n ≡ n = omega arith in
    ap (range_with_len 0) one ∙ range-more 0 n ∙ ap (λ k. range_with_len 0 n ++ k ∷ []) same

-- ---- what is told stays true where more states are there

front-state : {proc node : ℕ} {numbers : State} (xs ys : List PointState) → HasState xs proc node numbers → HasState (xs ++ ys) proc node numbers
front-state xs ys h = record { place = h.place; state = h.state; is = got-front xs ys h.place h.state h.is; proc_is = h.proc_is; node_is = h.node_is; holds = h.holds }

back-state : {proc node : ℕ} {numbers : State} (xs ys : List PointState) → HasState ys proc node numbers → HasState (xs ++ ys) proc node numbers
back-state xs ys h = let there = got-back xs ys h.place h.state h.is in record { place = there.0; state = h.state; is = there.1; proc_is = h.proc_is; node_is = h.node_is; holds = h.holds }

pub front-stop : (program : Program) (proc : ℕ) (begun : Option Transition) (xs ys : List PointState) (stop : NodeFormula) → TellsStop program proc begun xs stop → TellsStop program proc begun (xs ++ ys) stop
front-stop program proc begun xs ys stop h = record { holds = λ enter hold config chain e after walk. front-state xs ys (h.holds enter hold config chain e after walk) }

pub back-stop : (program : Program) (proc : ℕ) (begun : Option Transition) (xs ys : List PointState) (stop : NodeFormula) → TellsStop program proc begun ys stop → TellsStop program proc begun (xs ++ ys) stop
back-stop program proc begun xs ys stop h = record { holds = λ enter hold config chain e after walk. back-state xs ys (h.holds enter hold config chain e after walk) }

pub front-procedure : (program : Program) (entries : List (Option Transition)) (flows : List Flow) (xs ys : List PointState) (proc : ℕ) → TellsProcedure program entries flows xs proc → TellsProcedure program entries flows (xs ++ ys) proc
front-procedure program entries flows xs ys proc h = record {
  tells = λ begun flow e f. each-more (TellsStop program proc begun xs) (TellsStop program proc begun (xs ++ ys)) (front-stop program proc begun xs ys) flow.points (h.tells begun flow e f);
}

pub back-procedure : (program : Program) (entries : List (Option Transition)) (flows : List Flow) (xs ys : List PointState) (proc : ℕ) → TellsProcedure program entries flows ys proc → TellsProcedure program entries flows (xs ++ ys) proc
back-procedure program entries flows xs ys proc h = record {
  tells = λ begun flow e f. each-more (TellsStop program proc begun ys) (TellsStop program proc begun (xs ++ ys)) (back-stop program proc begun xs ys) flow.points (h.tells begun flow e f);
}

-- ---- nothing is added, and one addition after another

pub nothing-added : {A : Type 0} (program : Program) (Tells : List PointState → A → Type 0) (made : List PointState) → AddsStates program Tells [] made made
nothing-added program Tells made = record { more = []; is = sym (append-nil made); fits = tt; tells = tt }

module _ {A : Type 0} (program : Program) (Tells : List PointState → A → Type 0) (front : (xs ys : List PointState) (x : A) → Tells xs x → Tells (xs ++ ys) x) (back : (xs ys : List PointState) (x : A) → Tells ys x → Tells (xs ++ ys) x) where
  pub both-added : {first second : List A} {made next all : List PointState} → AddsStates program Tells first made next → AddsStates program Tells second next all → AddsStates program Tells (first ++ second) made all
  both-added {first} {second} {made} {next} {all} a b = record {
    more = a.more ++ b.more;
    is = b.is ∙ ap (λ states. states ++ b.more) a.is ∙ append_assoc made a.more b.more;
    fits = each-append (IsPointState program) a.more b.more a.fits b.fits;
    tells = each-append (Tells (a.more ++ b.more)) first second
        (each-more (Tells a.more) (Tells (a.more ++ b.more)) (front a.more b.more) first a.tells)
        (each-more (Tells b.more) (Tells (a.more ++ b.more)) (back a.more b.more) second b.tells);
  }

-- ---- the state of one point

pub one-added : (program : Program) (proc : ℕ) (begun : Option Transition) (stop : NodeFormula) (p : Proc) → IsProcOf program proc p → IsPointStop program p stop → (made all : List PointState) (f : Transition) → IsState (width_of program p + entry_width program p) f
    → (EntryHolds program proc begun → StopHolds program proc stop → StateHolds program proc stop.node f) → all ≡ made ++ state_in proc stop.node f f.cases → AddsStates program (TellsStop program proc begun) (stop ∷ []) made all
one-added program proc begun stop p is at made all f fits holds same = record {
  more = state_in proc stop.node f f.cases;
  is = same;
  fits = fit f.cases;
  tells = (record { holds = λ enter hold config chain e after walk. let held = holds enter hold config chain e after walk in there (after ++ (chain.top.globals ++ chain.top.args)) held f.cases held.some }, tt);
}
  where
    fit : (cases : List Case) → ArePointStates program (state_in proc stop.node f cases)
    fit [] = tt
    fit (case ∷ cases) = (record { p = p; is = is; node = at.node; point = at.point; fits = fits }, tt)

    there : (numbers : State) → Holds f [] numbers → (cases : List Case) → HoldsSome cases [] numbers → HasState (state_in proc stop.node f cases) proc stop.node numbers
    there numbers held [] some = absurd some
    there numbers held (case ∷ cases) some = record { place = 0; state = record { proc = proc; node = stop.node; formula = f }; is = refl; proc_is = refl; node_is = refl; holds = held }

-- ---- the states of the points of a procedure

pub procedure-added : (program : Program) (entries : List (Option Transition)) (flows : List Flow) (proc : ℕ) (begun : Option Transition) (flow : Flow) (made all : List PointState) → slice_get entries proc ≡ Some begun → slice_get flows proc ≡ Some flow
    → AddsStates program (TellsStop program proc begun) flow.points made all → AddsStates program (TellsProcedure program entries flows) (proc ∷ []) made all
procedure-added program entries flows proc begun flow made all entry_is flow_is h = record {
  more = h.more;
  is = h.is;
  fits = h.fits;
  tells = (
    record {
      tells = λ other own e f.
          subst (λ b. AllByRecursion (TellsStop program proc b h.more) own.points) (some-one (slice_get entries proc) begun other entry_is e)
          (subst (λ (one : Flow). AllByRecursion (TellsStop program proc begun h.more) one.points) (some-one (slice_get flows proc) flow own flow_is f) h.tells);
    },
    tt,
  );
}
