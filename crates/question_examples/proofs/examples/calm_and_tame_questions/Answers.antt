use Rattle.std.proofs.Common.{ℕ, ◌*◌, ◌≤◌, ℤ, [], ◌∷◌, sym, subst, arith}
use Rattle.std.specs.Prelude.{unsigned_abs}
use Rattle.whole_numbers.specs.Divisors.{gcd_of_all}
use Rattle.whole_numbers.proofs.CommonDivisors.{gcd_of-zero}
use Rattle.question_examples.proofs.examples.calm_and_tame_questions.Goals as goal

-- one number is its own greatest common divisor
alone : (most : ℕ) (z : ℤ) → 1 ≤ most → unsigned_abs z ≤ most * gcd_of_all (z ∷ [])
alone most z some = subst (λ n. unsigned_abs z ≤ most * n) (sym (gcd_of-zero (unsigned_abs z))) (grow most (unsigned_abs z) some)
  where
    grow : (m n : ℕ) → 1 ≤ m → n ≤ m * n
    grow m n h = grind arith

pub returns-clause-calm : goal.returns-clause-calm
returns-clause-calm c =
    record {
      few_cases = omega arith;
      cases = record {
        few_rows = omega arith;
        few_columns = omega arith;
        calm = record {
          lines = λ chosen over multiple tableau k lt. absurd (omega arith);
          columns = λ chosen over multiple tableau column lt. (alone 1099511627776 over (omega arith), tt);
        };
      };
    }
