-- Monomials as lists of columns.
use Rattle.std.specs.Prelude.{List, [], ◌∷◌, length, fold, Bool, true, ◌&&◌, not, if◌then◌else◌}
use Rattle.std.specs.declared.cmp.Ordering.{Ordering}
use Rattle.std.specs.Ordering.{nat_cmp, ordering_then, is_lt, is_gt}
use Rattle.std.specs.Cmp.Lexicographic.{slice_cmp}
use Rattle.linear_terms.specs.declared.col.Col.{Col}
use Rattle.linear_terms.specs.Col.{col_cmp}

-- print order: the greater degree first, and of one degree by the columns, the smaller first
abbrev pub mono_cmp : List Col → List Col → Ordering
mono_cmp m n = ordering_then (nat_cmp (length n) (length m)) (slice_cmp col_cmp m n)

-- columns in order, with one more at its place
abbrev pub with_column : List Col → Col → List Col
with_column [] c = c ∷ []
with_column (d ∷ m) c = if is_lt (col_cmp c d) then c ∷ with_column m d else d ∷ with_column m c

-- the columns put in order, the smaller first: each in turn is put at its place among those before
-- it
abbrev pub in_order : List Col → List Col
in_order columns = fold with_column [] columns

-- no smaller column than this one stands at the head of the list; so it is of an empty list
abbrev pub starts_from : Col → List Col → Bool
starts_from c [] = true
starts_from c (d ∷ m) = not (is_gt (col_cmp c d))

-- whether no column stands before a smaller one
abbrev pub is_in_order : List Col → Bool
is_in_order [] = true
is_in_order (c ∷ m) = starts_from c m && is_in_order m
