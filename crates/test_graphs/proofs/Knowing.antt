-- Formulas that are known ones at each place.
use Rattle.std.proofs.Common.{◌≡◌, ◌<◌, ◌≤◌, ℕ, ◌+◌, List, Option, Some, length, get_or, arith, ⊎_elim, subst, sym, ◌∙◌, ap}
use Rattle.std.specs.Prelude.{slice_get}
use Rattle.std.proofs.lemmas.Bool.{cases_lt}
use Rattle.std.proofs.lemmas.Option.{slice_get_within, slice_get-get_or}
use Rattle.syntax_tree.specs.declared.program.Proc.{Proc}
use Rattle.syntax_tree.specs.declared.program.Program.{Program}
use Rattle.transition_formula.specs.Transition.{Transition}
use Rattle.vocabularies.specs.Procs.{IsProcOf}
use Rattle.leaf_cases.specs.Conditions.{AreKnown, IsKnown}

abbrev pub KnownBelow : Program → List (Option Transition) → ℕ → Type 0
KnownBelow program known n =
    (proc : ℕ) (p : Proc) (f : Transition) → proc < n → IsProcOf program proc p → slice_get known proc ≡ Some (Some f) → IsKnown program p f

some_same : {X : Type 0} (x y : X) → Some x ≡ Some y → x ≡ y
some_same x y e = cc

pub at_place : {X : Type 0} (xs ys : List X) (k : ℕ) (x : X) → xs ≡ ys → k < length xs → x ≡ get_or xs k x → slice_get ys k ≡ Some x
at_place xs ys k x same lt is = subst (λ zs. slice_get zs k ≡ Some x) same (slice_get-get_or xs k x lt ∙ ap Some (sym is))

pub known_more : (program : Program) (known : List (Option Transition)) (n : ℕ) (p : Proc) (o : Option Transition) → IsProcOf program n p → slice_get known n ≡ Some o
    → ((f : Transition) → o ≡ Some f → IsKnown program p f) → KnownBelow program known n → KnownBelow program known (n + 1)
known_more program known n p o here there is below proc q f lt at its =
    ⊎_elim (λ less. below proc q f less at its)
    (λ most. let same : proc ≡ n = omega (arith, lt, most) in
    let proc_is : p ≡ q = some_same p q (sym here ∙ ap (slice_get program.procs) (sym same) ∙ at) in
    subst (λ r. IsKnown program r f) proc_is (is f (some_same o (Some f) (sym there ∙ ap (slice_get known) (sym same) ∙ its)))) (cases_lt proc n)

pub all_known : (program : Program) (known : List (Option Transition)) (n : ℕ) → length known ≡ length program.procs → length program.procs ≤ n → KnownBelow program known n → AreKnown program known
all_known program known n same most below = record {
  each = same;
  fit = λ proc p f at its. let within = slice_get_within program.procs proc p at in below proc p f (omega (arith, within, most)) at its;
}
