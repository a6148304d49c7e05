-- Known formulas with those of a table are known formulas.
use Rattle.std.proofs.Common.{◌≡◌, ℕ, zero, suc, ◌+◌, ◌<◌, ◌⊎◌, inl, inr, drop, List, [], ◌∷◌, length, refl, sym, ap, ◌∙◌, arith}
use Rattle.std.specs.Prelude.{Option, None, Some, slice_set, unwrap_or, is_some}
use Rattle.std.specs.List.{slice_get}
use Rattle.std.proofs.lemmas.Bool.{false≢true}
use Rattle.std.specs.Prelude.{get_or}
use Rattle.std.proofs.lemmas.List.{drop_more, length-set}
use Rattle.syntax_tree.specs.declared.program.Proc.{Proc}
use Rattle.syntax_tree.specs.declared.program.Program.{Program}
use Rattle.transition_formula.specs.Transition.{Transition}
use Rattle.vocabularies.specs.Procs.{IsProcOf}
use Rattle.leaf_cases.specs.Conditions.{AreKnown, IsKnown}
use Rattle.newton_rounds.specs.Members.{with_table}

pub set-get : {X : Type 0} (xs : List X) (i j : ℕ) (x y : X) → slice_get (slice_set xs i x) j ≡ Some y → ((i ≡ j) × (x ≡ y)) ⊎ (slice_get xs j ≡ Some y)
set-get [] i j x y e = inr e
set-get (z ∷ xs) zero zero x y e = inl (refl, ap (λ o. unwrap_or o x) e)
set-get (z ∷ xs) zero (suc j) x y e = inr e
set-get (z ∷ xs) (suc i) zero x y e = inr e
set-get (z ∷ xs) (suc i) (suc j) x y e = go (set-get xs i j x y e)
  where
    go : ((i ≡ j) × (x ≡ y)) ⊎ (slice_get xs j ≡ Some y) → ((suc i ≡ suc j) × (x ≡ y)) ⊎ (slice_get xs j ≡ Some y)
    go (inl same) = inl (ap suc same.0, same.1)
    go (inr other) = inr other

module _ (program : Program) where
  abbrev Fits : ℕ → Option Transition → Type 0
  Fits proc o = (p : Proc) (f : Transition) → IsProcOf program proc p → o ≡ Some f → IsKnown program p f

  with-one : (known : List (Option Transition)) (proc : ℕ) (o : Option Transition) → Fits proc o → AreKnown program known → AreKnown program (slice_set known proc o)
  with-one known proc o tells are = record {
    each = length-set known proc o ∙ are.each;
    fit = λ place p f there is. go place p f there (set-get known proc place o (Some f) is);
  }
    where
      go : (place : ℕ) (p : Proc) (f : Transition) → IsProcOf program place p → ((proc ≡ place) × (o ≡ Some f)) ⊎ (slice_get known place ≡ Some (Some f)) → IsKnown program p f
      go place p f there (inl same) = tells p f (ap (slice_get program.procs) same.0 ∙ there) same.1
      go place p f there (inr other) = are.fit place p f there other

  -- the formulas of a table fit the procedures of these numbers
  abbrev pub AreFor : List ℕ → List Transition → Type 0
  AreFor procs table =
      (place proc : ℕ) (p : Proc) (f : Transition) → slice_get procs place ≡ Some proc → IsProcOf program proc p → slice_get table place ≡ Some f → IsKnown program p f

  none-some : {f : Transition} → None ≡ Some f → ⊥
  none-some e = absurd (false≢true (ap is_some e))

  pub tabled-known : (procs : List ℕ) (table : List Transition) (known : List (Option Transition)) → AreFor procs table → AreKnown program known → AreKnown program (with_table procs table known)
  tabled-known [] table known fit are = are
  tabled-known (proc ∷ procs) [] known fit are =
      tabled-known procs [] (slice_set known proc None) (λ place proc p f a b c. fit (suc place) proc p f a b c) (with-one known proc None (λ p f there e. absurd (none-some e)) are)
  tabled-known (proc ∷ procs) (f ∷ table) known fit are =
      tabled-known procs table (slice_set known proc (Some f)) (λ place. fit (suc place))
      (with-one known proc (Some f) (λ p g there e. fit 0 proc p g refl there e) are)

  tabled-long : (procs : List ℕ) (table : List Transition) (known : List (Option Transition)) → length (with_table procs table known) ≡ length known
  tabled-long [] table known = refl
  tabled-long (proc ∷ procs) [] known = tabled-long procs [] (slice_set known proc None) ∙ length-set known proc None
  tabled-long (proc ∷ procs) (f ∷ table) known = tabled-long procs table (slice_set known proc (Some f)) ∙ length-set known proc (Some f)

  -- in a table without formulas none is known
  pub untabled-known : (procs : List ℕ) (known : List (Option Transition)) → AreKnown program known → AreKnown program (with_table procs [] known)
  untabled-known procs known are = tabled-known procs [] known (λ place proc p f a b c. absurd (nothing place f c)) are
    where
      nothing : (place : ℕ) (f : Transition) → slice_get [] place ≡ Some f → ⊥
      nothing zero f e = none-some e
      nothing (suc place) f e = none-some e

-- the formula at a place goes to its procedure, and then those behind it
placed : (i : ℕ) (table : List Transition) (proc : ℕ) (procs : List ℕ) (known : List (Option Transition)) → with_table procs (drop (suc i) table) (slice_set known proc (slice_get table i)) ≡ with_table (proc ∷ procs) (drop i table) known
placed zero [] proc procs known = refl
placed (suc i) [] proc procs known = refl
placed zero (f ∷ table) proc procs known = refl
placed (suc i) (f ∷ table) proc procs known = placed i table proc procs known

pub one-placed : (i proc : ℕ) (procs : List ℕ) (table : List Transition) (known next : List (Option Transition)) (f : Option Transition) → i < length procs → proc ≡ get_or procs i 0 → f ≡ slice_get table i → next ≡ slice_set known proc f
    → with_table (drop (i + 1) procs) (drop (i + 1) table) next ≡ with_table (drop i procs) (drop i table) known
one-placed i proc procs table known next f lt is same set =
    let more : i + 1 ≡ suc i = omega arith in
    (λ j. with_table (drop (i + 1) procs) (drop (more j) table) ((set ∙ ap (λ o. slice_set known proc o) same) j))
    ∙ placed i table proc (drop (i + 1) procs) known
    ∙ (λ j. with_table (is j ∷ drop (i + 1) procs) (drop i table) known)
    ∙ (λ j. with_table (sym (drop_more procs i 0 lt) j) (drop i table) known)
