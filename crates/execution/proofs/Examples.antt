-- The executions of `specs/Examples.antt`, step by step.
use Rattle.std.proofs.Common.{◌≡◌, ℕ, suc, List, [], ◌∷◌, refl, sym, ap, subst, ◌∙◌, pos, true, false, Some, None, inl, inr}
use Rattle.std.specs.Prelude.{◌≢◌}
use Rattle.syntax_tree.specs.declared.op.Op.TheVariants.{Sub}
use Rattle.syntax_tree.specs.declared.program.Program.{Program}
use Rattle.syntax_tree.specs.Term.{Lit, Col, Binary}
use Rattle.syntax_tree.specs.Code.{Set, Guard, Break, Continue, End, Then, code_of}
use Rattle.syntax_tree.specs.Value.{State}
use Rattle.execution.specs.Machine.{Item, Do, Head, Test, Tail, LoopParts, Config, Top, pending, state_of}
use Rattle.execution.specs.Step.{IsTrueIn, Steps, StepsBy}
use Rattle.execution.specs.Examples.{BreakInNestedLoop, CallThatNeverReturns, ContinueInDo, inner_loop, with_x}

nonzero : (n : ℕ) → pos (suc n) ≢ pos 0
nonzero n e = absurd (cc e)

parts_down : LoopParts
parts_down = record { pre = End; cond = Col 0; body = Then (Set 0 (Binary Sub (Col 0) (Lit (pos 1)))) (Then Continue End); step = End; first = true }

down : Item
down = Do (Set 0 (Binary Sub (Col 0) (Lit (pos 1))))

pub continue_in_do : ContinueInDo
unfolding parts_down down
continue_in_do program below = (
  with_x 2 (down ∷ Do Continue ∷ Tail parts_down ∷ []) below
      ∷ with_x 1 (Do Continue ∷ Tail parts_down ∷ []) below
      ∷ with_x 1 (Tail parts_down ∷ []) below
      ∷ with_x 1 (Test parts_down ∷ []) below
      ∷ with_x 1 (down ∷ Do Continue ∷ Tail parts_down ∷ []) below
      ∷ with_x 0 (Do Continue ∷ Tail parts_down ∷ []) below
      ∷ with_x 0 (Tail parts_down ∷ []) below
      ∷ with_x 0 (Test parts_down ∷ []) below
      ∷ with_x 0 [] below
      ∷ [],
  (
    refl,
    (
      record { after = pos 1 ∷ pos 0 ∷ []; changes = (pos 1, refl, refl); next_is = refl },
      (
        refl,
        (
          refl,
          (
            inl ((pos 1, refl, nonzero 0), refl),
            (
              record { after = pos 0 ∷ pos 0 ∷ []; changes = (pos 0, refl, refl); next_is = refl },
              (
                refl,
                (
                  refl,
                  (inr (refl, refl), refl),
                ),
              ),
            ),
          ),
        ),
      ),
    ),
  ),
)

parts_inner : LoopParts
parts_inner = record { pre = End; cond = Lit (pos 1); body = Then Break End; step = End; first = false }

parts_outer : LoopParts
parts_outer = record { pre = End; cond = Lit (pos 1); body = Then inner_loop (Then (Set 0 (Lit (pos 5))) (Then Break End)); step = End; first = false }

after_inner : List Item
after_inner = Do (Set 0 (Lit (pos 5))) ∷ Do Break ∷ Tail parts_outer ∷ []

pub break_in_nested_loop : BreakInNestedLoop
unfolding parts_inner parts_outer after_inner
break_in_nested_loop program below = (
  with_x 0 (Head parts_outer ∷ []) below
      ∷ with_x 0 (Test parts_outer ∷ []) below
      ∷ with_x 0 (Do inner_loop ∷ after_inner) below
      ∷ with_x 0 (Head parts_inner ∷ after_inner) below
      ∷ with_x 0 (Test parts_inner ∷ after_inner) below
      ∷ with_x 0 (Do Break ∷ Tail parts_inner ∷ after_inner) below
      ∷ with_x 0 after_inner below
      ∷ with_x 5 (Do Break ∷ Tail parts_outer ∷ []) below
      ∷ with_x 5 [] below
      ∷ [],
  (
    refl,
    (
      refl,
      (
        inl ((pos 1, refl, nonzero 0), refl),
        (
          refl,
          (
            refl,
            (
              inl ((pos 1, refl, nonzero 0), refl),
              (
                refl,
                (
                  record { after = pos 5 ∷ pos 0 ∷ []; changes = (pos 5, refl, refl); next_is = refl },
                  (refl, refl),
                ),
              ),
            ),
          ),
        ),
      ),
    ),
  ),
)

same_some : {X : Type 0} {v w : X} → Some v ≡ Some w → v ≡ w
same_some e = cc

false_never_true : (state : State) → IsTrueIn (Lit (pos 0)) state → ⊥
false_never_true state (v, is, differs) = differs (same_some (sym is))

-- `assume(0)` has no step
stuck : (program : Program) (top : Top) (rest : List Item) (next : Config) → StepsBy program top (Do (Guard (Lit (pos 0))) ∷ rest) next → ⊥
stuck program top rest next step = false_never_true (state_of top) step.changes.0

pub call_that_never_returns : CallThatNeverReturns
call_that_never_returns program callee below called next is body call step =
    let caller : Top = record { globals = pos 0 ∷ []; frame = call.frame; below = record { proc = 0; own = pos 0 ∷ []; items = []; into = None } ∷ below } in
    let entered = call.entered in
    let items : call.frame.items ≡ Do (Guard (Lit (pos 0))) ∷ [] =
    ap (λ f. f.items) entered.frame_is
    ∙ ap (λ p. pending (code_of p.body) []) (same_some (sym entered.is ∙ is))
    ∙ ap (λ c. pending c []) body in
    let there : StepsBy program caller call.frame.items next = subst (λ c. Steps program c next) call.next_is step in
    stuck program caller [] next (subst (λ pending. StepsBy program caller pending next) items there)
