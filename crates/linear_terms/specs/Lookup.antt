-- Terms in print order as a map from monomials to coefficients.
use Rattle.std.specs.Prelude.{ℤ, pos, List, Option, Some, None, Result, Ok, if◌then◌else◌}
use Rattle.std.specs.BTreeMap.{insert_entry, is_at}
use Rattle.std.specs.Map as map
use Rattle.std.specs.Map.{remove_entry}
use Rattle.std.specs.Ordering.{int_eq}
use Rattle.linear_terms.specs.declared.col.Col.{Col}
use Rattle.items.specs.Gives.{◌>>=◌}
use Rattle.linear_terms.specs.declared.error.TermError.{TermError}
use Rattle.linear_terms.specs.TermError.{plus}
use Rattle.linear_terms.specs.Mono.{mono_cmp}
use Rattle.linear_terms.specs.Polynomial.{Terms}

-- the coefficient of m, if m is there
abbrev pub lookup : List Col → Terms → Option ℤ
lookup m ts = map.lookup (is_at (mono_cmp m)) ts

-- a term with what its monomial had before
abbrev pub summed_term : Option ℤ → List Col × ℤ → Result (List Col × ℤ) TermError
summed_term None t = Ok t
summed_term (Some had) t = plus had t.1 >>= λ s. Ok (t.0, s)

-- the terms with s as the coefficient of m, and without m where s is zero
abbrev pub with_coefficient : List Col → ℤ → Terms → Terms
with_coefficient m s ts = if int_eq s (pos 0) then remove_entry (is_at (mono_cmp m)) ts
    else insert_entry mono_cmp ts m s
