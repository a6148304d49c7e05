-- Entry columns that become auxiliaries, after those of the case.
use Rattle.std.specs.Prelude.{ℕ, ◌+◌, ◌-◌, List, ◌++◌, map}
use Rattle.std.specs.List.{flat_map, range_with_len}
use Rattle.linear_terms.specs.declared.col.Col.TheVariants.{At, Aux}
use Rattle.linear_terms.specs.declared.row.Case.{Case}
use Rattle.linear_terms.specs.Polynomial.{Polynomial, column_of}
use Rattle.linear_terms.specs.Operations.{substituted_polynomial}
use Rattle.linear_terms.specs.Replacement.{put_in}
use Rattle.transition_formula.specs.declared.loss.Loss.{Loss}
use Rattle.transition_formula.specs.Composition.{Operation, by, losses_by}
use Rattle.transition_formula.specs.Transition.{Transition}

-- what is put in for the entry columns: the first n stand for themselves, the others become
-- auxiliaries from `first` on
abbrev pub entries_hidden : (n from first : ℕ) → List Polynomial
entries_hidden n from first = map (λ k. column_of (At k)) (range_with_len 0 n)
    ++ map (λ k. column_of (Aux k)) (range_with_len first (from - n))

-- what is put in for the case's own auxiliaries: themselves
abbrev pub own_auxiliaries : ℕ → List Polynomial
own_auxiliaries count = map (λ k. column_of (Aux k)) (range_with_len 0 count)

-- the operation that puts auxiliaries in for the entry columns of a case from number n on
abbrev pub hiding : (n from : ℕ) → Case → Operation
hiding n from case =
    substituted_polynomial (put_in (entries_hidden n from case.aux) (own_auxiliaries case.aux))

-- the case with auxiliaries, behind its own, for its entry columns from number n on
abbrev pub hidden_case : (n from : ℕ) → Case → Case
hidden_case n from case = by (hiding n from case) record {
  aux = case.aux + (from - n);
  rows = case.rows;
  post = case.post;
}

-- the formula whose entry columns are the first n alone
abbrev pub hidden : ℕ → Transition → Transition
hidden n f = record { from = n; to = f.to; cases = map (hidden_case n f.from) f.cases }

-- the losses where entry columns are hidden, case by case
abbrev pub losses_in_hiding : ℕ → Transition → List Loss
losses_in_hiding n f = flat_map (λ case. losses_by (hiding n f.from case) case) f.cases
