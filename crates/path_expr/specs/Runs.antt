-- What an evaluation, or a part of it, does to its algebra.
use Rattle.std.specs.Prelude.{◌≡◌, ℕ, List, ◌∷◌, ◌++◌, Bool, false, Option, None, Some, Result, Ok, Err, IfOk}
use Rattle.path_expr.specs.declared.cell.ReachError.{ReachError}
use Rattle.path_expr.specs.declared.cell.ReachError.TheVariants.{Algebra, Memory}
use Rattle.path_expr.specs.PathExpr.{PathExpr}
use Rattle.whole_numbers.specs.Counters.{Rose}
use Rattle.path_expr.specs.Algebra.{Keeps}

-- the error of a call, if there is one
abbrev pub error_of : {X F : Type 0} → Result X (ReachError F) → Option (ReachError F)
error_of (Ok x) = None
error_of (Err e) = Some e

-- the operation that was refused is the first of those that are left; where memory is wanting,
-- nothing is said
abbrev pub Refuses : {A F : Type 0} → (F → Bool) → (A → PathExpr → Type 0) → A → List PathExpr
    → ReachError F → Type 0
Refuses is_memory stopped now rest Memory = Unit {0}
Refuses is_memory stopped now rest (Algebra fault) =
    is_memory fault ≡ false → (path : PathExpr) × (later : List PathExpr) × (rest ≡ path ∷ later)
    × stopped now path

-- an evaluation that failed: a front of its operations was answered, and the next one was refused
pub record StopsIn {A F : Type 0} (is_memory : F → Bool) (made : A → List PathExpr → Type 0)
    (stopped : A → PathExpr → Type 0)
    (now : A) (done operations : List PathExpr) (error : ReachError F) : Type 0 where
  pub front : List PathExpr
  pub rest : List PathExpr
  pub parts : operations ≡ front ++ rest
  pub answered : made now (done ++ front)
  pub refused : Refuses is_memory stopped now rest error

-- what was made of the operations, behind those that were done before
abbrev pub Answers : {A F : Type 0} → (F → Bool) → (A → List PathExpr → Type 0)
    → (A → PathExpr → Type 0) →
    A → List PathExpr → List PathExpr → Option (ReachError F) → Type 0
Answers is_memory made stopped now done operations None = made now (done ++ operations)
Answers is_memory made stopped now done operations (Some error) =
    StopsIn is_memory made stopped now done operations error

-- a fault of the algebra that is not want of memory comes only where its count of faults rose
abbrev pub HasCause : {A F : Type 0} → (F → Bool) → (A → ℕ) → A → A → Option (ReachError F) → Type 0
HasCause is_memory faults before now None = Unit {0}
HasCause is_memory faults before now (Some Memory) = Unit {0}
HasCause is_memory faults before now (Some (Algebra fault)) = is_memory fault ≡ false
    → Rose (faults before) (faults now)

-- an evaluation by these operations, which ended with this error or none
pub record Runs {A T F : Type 0} (fits : A → PathExpr → T → Type 0) (spans : A → T → ℕ → ℕ → Type 0)
    (ends : A → ℕ → ℕ → ℕ → Type 0)
    (is_memory : F → Bool) (faults : A → ℕ) (made : A → List PathExpr → Type 0)
    (stopped : A → PathExpr → Type 0)
    (before now : A) (operations : List PathExpr) (error : Option (ReachError F)) : Type 0 where
  pub keeps : Keeps fits spans ends faults before now
  pub answers : (done : List PathExpr) → made before done
      → Answers is_memory made stopped now done operations error
  pub cause : HasCause is_memory faults before now error

-- a call that is such an evaluation, and whose answer, where there is one, is good
pub record Makes {A T F X : Type 0} (fits : A → PathExpr → T → Type 0) (spans : A → T → ℕ → ℕ
    → Type 0) (ends : A → ℕ → ℕ → ℕ → Type 0)
    (is_memory : F → Bool) (faults : A → ℕ) (made : A → List PathExpr → Type 0)
    (stopped : A → PathExpr → Type 0)
    (before now : A) (operations : List PathExpr) (result : Result X (ReachError F))
    (IsGood : X → Type 0) : Type 0 where
  pub run : Runs fits spans ends is_memory faults made stopped before now operations
      (error_of result)
  pub good : IfOk result IsGood
