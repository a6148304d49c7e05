-- Losses: what is left out of a formula because a step leaves 128 bits or passes degree 4.
use Rattle.std.specs.Prelude.{List, [], ◌∷◌, Option, None, Some, Result, Ok, Err}
use Rattle.linear_terms.specs.declared.error.TermError.{TermError}
use Rattle.linear_terms.specs.declared.error.TermError.TheVariants.{Wide, Degree, Memory}
use Rattle.transition_formula.specs.declared.loss.Loss.{Loss}
use Rattle.transition_formula.specs.declared.loss.Loss.TheVariants as lost

-- the loss that an error of an operation is; want of memory is none, and no operation on plain
-- polynomials answers it
abbrev pub loss_of : TermError → Option Loss
loss_of (Wide left right times) = Some (lost.Wide left right times)
loss_of Degree = Some lost.Degree
loss_of Memory = None

-- what is noted of a step that has no answer
abbrev pub error_losses : TermError → List Loss
error_losses (Wide left right times) = lost.Wide left right times ∷ []
error_losses Degree = lost.Degree ∷ []
error_losses Memory = []

-- the answer of an operation, if it has one
abbrev pub answer_of : {A : Type 0} → Result A TermError → Option A
answer_of (Ok a) = Some a
answer_of (Err e) = None

-- what is noted of an operation
abbrev pub losses_of : {A : Type 0} → Result A TermError → List Loss
losses_of (Ok a) = []
losses_of (Err e) = error_losses e
