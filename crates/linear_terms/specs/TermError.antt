-- Errors of the operations on polynomials.
use Rattle.std.specs.Prelude.{ℤ, Option, Some, None, Result}
use Rattle.items.specs.Gives.{err_map}
use Rattle.whole_numbers.specs.declared.wide.Wide as Step
use Rattle.whole_numbers.specs.Fits.{sum_of, product_of}
use Rattle.linear_terms.specs.declared.error.TermError.{TermError}
use Rattle.linear_terms.specs.declared.error.TermError.TheVariants.{Wide, Degree, Memory}

-- the error of a step that leaves 128 bits
abbrev pub wide : Step.Wide → TermError
wide step = Wide step.left step.right step.times

-- a sum of two numbers of 128 bits, or the error that names them
abbrev pub plus : ℤ → ℤ → Result ℤ TermError
plus a b = err_map wide (sum_of a b)

-- a product of two numbers of 128 bits, or the error that names them
abbrev pub times : ℤ → ℤ → Result ℤ TermError
times a b = err_map wide (product_of a b)

-- what an error tells: want of memory tells nothing, and each other is a fault of the operation
-- itself
abbrev pub cause : TermError → Option TermError
cause (Wide left right times) = Some (Wide left right times)
cause Degree = Some Degree
cause Memory = None
