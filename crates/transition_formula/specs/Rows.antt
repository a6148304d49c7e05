-- Rows put in order: each in normal form, each once, and no two with opposite terms whose constants
-- sum to zero or more.
use Rattle.std.specs.Prelude.{pos, neg_ℤ, ◌+ℤ◌, List, [], ◌∷◌, ◌++◌, map, fold, Option, None, Some, Bool, true, false, ◌&&◌, not, int_lt, Result, Ok, Err, if◌then◌else◌}
use Rattle.std.specs.List.{list_any, find}
use Rattle.std.specs.Option.{option_map}
use Rattle.std.specs.Ordering.{int_eq}
use Rattle.std.specs.Cmp.Lexicographic.{pointwise}
use Rattle.linear_terms.specs.declared.error.TermError.{TermError}
use Rattle.linear_terms.specs.declared.row.Kind.{Kind}
use Rattle.linear_terms.specs.declared.row.Kind.TheVariants.{AtMost, Equal}
use Rattle.linear_terms.specs.declared.row.Row.{Row}
use Rattle.linear_terms.specs.declared.row.Normal.{Normal}
use Rattle.linear_terms.specs.declared.row.Normal.TheVariants.{Constant, Kept}
use Rattle.linear_terms.specs.Polynomial.{Terms}
use Rattle.linear_terms.specs.Equality.{term_eq, poly_eq}
use Rattle.linear_terms.specs.Row.{normal_form, starts_negative}
use Rattle.transition_formula.specs.declared.loss.Loss.{Loss}
use Rattle.transition_formula.specs.Loss.{error_losses}

-- rows that are left, or nothing where they can't all be true; and the losses on the way
pub record Tidied : Type 0 where
  pub rows : Option (List Row)
  pub losses : List Loss

-- ---- each row in normal form: those that always hold are left out, and one that never holds ends
-- it

-- the rest behind the normal form of a row, which is left out where it always holds, ends it where
-- it never does, and is a loss where it cannot be made
abbrev pub with_normal : Result Normal TermError → Tidied → Tidied
with_normal (Err e) rest = record { rows = rest.rows; losses = error_losses e ++ rest.losses }
with_normal (Ok (Constant true)) rest = rest
with_normal (Ok (Constant false)) rest = record { rows = None; losses = [] }
with_normal (Ok (Kept row)) rest = record {
  rows = option_map (λ rows. row ∷ rows) rest.rows;
  losses = rest.losses;
}

-- the normal forms of rows in their order, without those that always hold; nothing where one never
-- holds
abbrev pub normal_rows : List Row → Tidied
normal_rows [] = record { rows = Some []; losses = [] }
normal_rows (row ∷ rows) = with_normal (normal_form row) (normal_rows rows)

-- ---- each row once: of equal rows the first, of inequalities with the same terms the greatest
-- constant at the first one's place

-- two inequalities have the same terms, or two equations the same polynomial
abbrev pub alike_by : Kind → Kind → Row → Row → Bool
alike_by AtMost AtMost r s = pointwise term_eq r.poly.terms s.poly.terms
alike_by AtMost Equal r s = false
alike_by Equal AtMost r s = false
alike_by Equal Equal r s = poly_eq r.poly s.poly

-- two rows are one but for the constant of an inequality
abbrev pub alike : Row → Row → Bool
alike r s = alike_by r.kind s.kind r s

-- of two rows that are alike the one with the greater constant, and the first where they are equal
abbrev pub stronger : Row → Row → Row
stronger r s = if int_lt r.poly.rest s.poly.rest then s else r

-- the rows with one more
abbrev pub with_row : List Row → Row → List Row
with_row [] s = s ∷ []
with_row (r ∷ rows) s = if alike r s then stronger r s ∷ rows else r ∷ with_row rows s

-- the rows with one of those that are alike, the strongest, at the place of the first
abbrev pub each_once : List Row → List Row
each_once rows = fold with_row [] rows

-- ---- opposite inequalities

-- the kind is that of an inequality
abbrev pub is_at_most : Kind → Bool
is_at_most AtMost = true
is_at_most Equal = false

-- the terms with the sign of each coefficient turned
abbrev pub negated_terms : Terms → Terms
negated_terms ts = map (λ t. (t.0, neg_ℤ t.1)) ts

-- p + c <= 0 and -p + d <= 0
abbrev pub are_opposite : Row → Row → Bool
are_opposite r s = is_at_most r.kind && is_at_most s.kind
    && pointwise term_eq (negated_terms r.poly.terms) s.poly.terms

-- c + d > 0: no numbers make both true
abbrev pub exclude : Row → Row → Bool
exclude r s = are_opposite r s && int_lt (pos 0) (r.poly.rest +ℤ s.poly.rest)

-- no row excludes one behind it
abbrev pub can_agree : List Row → Bool
can_agree [] = true
can_agree (r ∷ rows) = not (list_any (exclude r) rows) && can_agree rows

-- c + d = 0: both together say p + c = 0
abbrev pub close : Row → Row → Bool
close r s = are_opposite r s && int_eq (r.poly.rest +ℤ s.poly.rest) (pos 0)

-- its normal form: of p + c and -p - c the one whose first coefficient is positive
abbrev pub equation_of : Row → Row → Row
equation_of r s = record {
  poly = if starts_negative r.poly.terms then s.poly else r.poly;
  kind = Equal;
}

-- a row by those before it and after it: the first of two becomes their equation, the second is
-- left out
abbrev pub with_met : Row → Bool → Option Row → List Row → List Row
with_met r true later rows = rows
with_met r false None rows = r ∷ rows
with_met r false (Some s) rows = equation_of r s ∷ rows

-- the rows with an equation for each two that are close, at the place of the first; `before` has
-- those ahead of them
abbrev pub met_rows : List Row → List Row → List Row
met_rows before [] = []
met_rows before (r ∷ rows) = with_met r (list_any (λ s. close s r) before) (find (close r) rows)
    (met_rows (before ++ r ∷ []) rows)

-- ---- together

-- the rows with opposite inequalities met; None where two exclude each other
abbrev pub opposites_met : Option (List Row) → Option (List Row)
opposites_met None = None
opposites_met (Some rows) = if can_agree rows then Some (met_rows [] rows) else None

-- the rows put in order, with the losses of those that have no normal form
abbrev pub tidied_rows : List Row → Tidied
tidied_rows rows = record {
  rows = opposites_met (option_map each_once (normal_rows rows).rows);
  losses = (normal_rows rows).losses;
}
