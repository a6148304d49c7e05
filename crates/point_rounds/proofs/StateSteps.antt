-- Steps from the points of states: what is made stays, and covers each state gone over.
use Rattle.std.proofs.Common.{◌≡◌, ℕ, zero, suc, ◌+◌, ◌<◌, ◌≤◌, length, take, get_or, List, [], ◌∷◌, ◌++◌, Option, Some, sym, ap, subst, ◌∙◌}
use Rattle.std.specs.Prelude.{slice_get}
use Rattle.std.specs.Option.{option_map}
use Rattle.std.specs.List.{AllByRecursion}
use Rattle.std.proofs.lemmas.List.{take_all, take_more}
use Rattle.std.proofs.lemmas.List.Elements.{recursion_from_All}
use Rattle.std.proofs.lemmas.Option.{slice_get-map}
use Rattle.items.proofs.Each.{each-append, each-map, each-more}
use Rattle.syntax_tree.specs.declared.program.Proc.{Proc}
use Rattle.syntax_tree.specs.declared.program.Program.{Program}
use Rattle.transition_formula.specs.Transition.{Transition}
use Rattle.vocabularies.specs.Procs.{IsProcOf}
use Rattle.point_steps.specs.declared.target.PointStep.{PointStep}
use Rattle.point_steps.specs.Claims.{ArePointSteps, IsPointStep, StepsCover}
use Rattle.point_rounds.specs.declared.round.PointState.{PointState}
use Rattle.point_rounds.specs.declared.round.StepFrom.{StepFrom}
use Rattle.point_rounds.specs.Closed.{AreStepsFrom, CoversState, IsPointState, IsStepOf}
use Rattle.point_rounds.specs.Parts.{AreMoreSteps}
use Rattle.point_rounds.specs.Rounds.{from_point}

got-front : {A : Type 0} (xs ys : List A) (k : ℕ) (x : A) → slice_get xs k ≡ Some x → slice_get (xs ++ ys) k ≡ Some x
got-front [] ys k x e = absurd (cc)
got-front (z ∷ xs) ys zero x e = e
got-front (z ∷ xs) ys (suc k) x e = got-front xs ys k x e

got-behind : {A : Type 0} (xs ys : List A) (k : ℕ) (x : A) → slice_get ys k ≡ Some x → (at : ℕ) × (slice_get (xs ++ ys) at ≡ Some x)
got-behind [] ys k x e = (k, e)
got-behind (z ∷ xs) ys k x e = let rest = got-behind xs ys k x e in (suc rest.0, rest.1)

module _ (program : Program) (known : List (Option Transition)) where
  -- ---- the steps from one point

  pub more-steps : (state : PointState) → IsPointState program state → (made all : List StepFrom) (steps : List PointStep) → all ≡ made ++ from_point state steps
      → ((p : Proc) → IsProcOf program state.proc p → ArePointSteps program p steps)
      → ((p : Proc) → IsProcOf program state.proc p → StepsCover program state.proc p known state.node state.formula steps) → AreMoreSteps program known state made all
  more-steps state ready made all steps is fit cover =
      let own : PointStep → StepFrom = λ step. record { proc = state.proc; node = state.node; step = step } in
      record {
        more = from_point state steps;
        is = is;
        fits =
            each-map (IsPointStep program ready.p) (IsStepOf program) own (λ step fits. record { p = ready.p; is = ready.is; node = ready.node; fits = fits }) steps
            (recursion_from_All (IsPointStep program ready.p) steps (fit ready.p ready.is));
        covers = record {
          p = ready.p;
          is = ready.is;
          own = steps;
          cover = cover ready.p ready.is;
          among = λ place step at. (place, slice_get-map own steps place ∙ ap (option_map own) at);
        };
      }

  -- ---- steps that are made stay

  covers-front : (made more : List StepFrom) (state : PointState) → CoversState program known made state → CoversState program known (made ++ more) state
  covers-front made more state h = record {
    p = h.p;
    is = h.is;
    own = h.own;
    cover = h.cover;
    among = λ place step at. let there = h.among place step at in (there.0, got-front made more there.0 _ there.1);
  }

  covers-behind : (made more : List StepFrom) (state : PointState) → CoversState program known more state → CoversState program known (made ++ more) state
  covers-behind made more state h = record {
    p = h.p;
    is = h.is;
    own = h.own;
    cover = h.cover;
    among = λ place step at. let there = h.among place step at in got-behind made more there.0 _ there.1;
  }

  -- ---- the loop over the states

  pub fits-next : (state : PointState) (made all : List StepFrom) → AreMoreSteps program known state made all → AreStepsFrom program made → AreStepsFrom program all
  fits-next state made all steps h = subst (AreStepsFrom program) (sym steps.is) (each-append (IsStepOf program) made steps.more h steps.fits)

  pub covers-next : (states : List PointState) (i : ℕ) (state : PointState) (made all : List StepFrom) → i < length states → state ≡ get_or states i state → AreMoreSteps program known state made all
      → AllByRecursion (CoversState program known made) (take i states) → AllByRecursion (CoversState program known all) (take (i + 1) states)
  covers-next states i state made all lt is steps h =
      subst (λ xs. AllByRecursion (CoversState program known all) xs) (sym (take_more states i state lt ∙ ap (λ x. take i states ++ x ∷ []) (sym is)))
      (subst (λ ys. AllByRecursion (CoversState program known ys) (take i states ++ state ∷ [])) (sym steps.is)
      (each-append (CoversState program known (made ++ steps.more)) (take i states) (state ∷ [])
      (each-more (CoversState program known made) (CoversState program known (made ++ steps.more)) (λ s k. covers-front made steps.more s k) (take i states) h)
      (covers-behind made steps.more state steps.covers, tt)))

  pub covers-all : (states : List PointState) (i : ℕ) (made : List StepFrom) → length states ≤ i → AllByRecursion (CoversState program known made) (take i states) → AllByRecursion (CoversState program known made) states
  covers-all states i made le h = subst (λ xs. AllByRecursion (CoversState program known made) xs) (take_all i states le) h
