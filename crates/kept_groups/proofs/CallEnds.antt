-- How calls end that ask.
--     error-ends     a call that hands on an error, after what was done before
--     ends-came      a call over all groups
use Rattle.std.proofs.Common.{◌≡◌, ◌∙◌, ℕ, List, Option, Result, Ok, Err, IsErrAnd, sym, subst}
use Rattle.farkas_check.specs.Asking.{Asking}
use Rattle.syntax_tree.specs.declared.program.Program.{Program}
use Rattle.posing.specs.declared.error.WorkError.{WorkError}
use Rattle.posing.specs.declared.error.WorkError.TheVariants.{Refused, Memory}
use Rattle.analysis.specs.declared.planning.Planned.{Planned}
use Rattle.kept_groups.specs.declared.kept.KeptGroups.{KeptGroups}
use Rattle.kept_groups.specs.declared.over.FoundParts.{FoundParts}
use Rattle.kept_groups.specs.OneGroup.{Ends, EndsIn}
use Rattle.kept_groups.specs.Outcomes.{FindsOver, IsDeclinedOver, IsFoundOver}

module _ {S A B : Type 0} (O : Asking S) (Made : A → Type 0) (Other : B → Type 0) (Declined Next : Type 0) (old now new : S) (counted : O.refusals now ≡ O.refusals old) (more : Declined → Next) where
  hands-on : (error : WorkError) → EndsIn {S = S} {A = A} O Made Declined now new (Err error) → EndsIn {S = S} {A = B} O Other Next old new (Err error)
  hands-on Refused declined = more declined
  hands-on Memory same = same ∙ counted

  ends-error : (error : WorkError) (result : Result B WorkError) → Ends {S = S} {A = A} O Made Declined now new (Err error) → IsErrAnd result (λ e. e ≡ error) → Ends O Other Next old new result
  ends-error error (Ok value) ends is = absurd is
  ends-error error (Err e) ends is = record { is = subst (λ d. EndsIn {S = S} {A = B} O Other Next old new (Err d)) (sym is) (hands-on error ends.is) }

pub error-ends : {S A B : Type 0} {O : Asking S} {Made : A → Type 0} {Other : B → Type 0} {Declined Next : Type 0} {old now new : S} {error : WorkError} {result : Result B WorkError}
    → O.refusals now ≡ O.refusals old → (Declined → Next) → Ends {S = S} {A = A} O Made Declined now new (Err error) → IsErrAnd result (λ e. e ≡ error) → Ends O Other Next old new result
error-ends counted more ends is = ends-error _ _ _ _ _ _ _ _ counted more _ _ ends is

came : {S : Type 0} (O : Asking S) (kept : Option KeptGroups) (program : Program) (plan : List Planned) (old new : S) (from to : ℕ) (result : Result FoundParts WorkError)
    → Ends O (IsFoundOver O kept program plan old new from to) (IsDeclinedOver O kept program plan old new) old new result → FindsOver O kept program plan old new from to result
came O kept program plan old new from to (Ok made) ends = record { came = ends.is }
came O kept program plan old new from to (Err Refused) ends = record { came = ends.is }
came O kept program plan old new from to (Err Memory) ends = record { came = ends.is }

pub ends-came : {S : Type 0} {O : Asking S} {kept : Option KeptGroups} {program : Program} {plan : List Planned} {old new : S} {from to : ℕ} {result : Result FoundParts WorkError}
    → Ends O (IsFoundOver O kept program plan old new from to) (IsDeclinedOver O kept program plan old new) old new result → FindsOver O kept program plan old new from to result
ends-came ends = came _ _ _ _ _ _ _ _ _ ends
