use Rattle.std.proofs.Common.{◌≡◌, Bool, true, false, ℤ, pos, Some, List, [], ◌∷◌, Result, Ok, Err, sym, ap, ◌∙◌}
use Rattle.std.specs.Prelude.{◌&&◌}
use Rattle.std.specs.Ordering.{int_eq}
use Rattle.items.specs.Gives.{◌>>=◌}
use Rattle.whole_numbers.specs.declared.wide.Wide.{Wide}
use Rattle.linear_terms.specs.declared.col.Col.{Col}
use Rattle.linear_terms.specs.declared.row.Row.{Row}
use Rattle.farkas_check.specs.Listing.{columns_in}
use Rattle.farkas_check.specs.Multiples.{sum_from, number_at}
use Rattle.farkas_check.specs.Relations.{Side, sides, numbers_of, with_sides, coefficient_at}
use Rattle.farkas_check.specs.Steps.{scaled_number, are_multiples}
use Rattle.farkas_check.specs.Walk.{columns_after}
use Rattle.farkas_check.proofs.ties.are_multiples.Goals as goal
use Rattle.farkas_check.proofs.ties.are_multiples.Goals.{then-same, else-same}

-- one column, and then the others
are_multiples-next : (times : ℤ → Result ℤ Wide) (before multiple now : Bool) (rows : List Row) (by ns : List ℤ) (ss : List Side) (c : List Col) (cs : List (List Col))
    → Ok multiple ≡ are_multiples times true rows by ns ss (c ∷ []) → now ≡ before && multiple → are_multiples times now rows by ns ss cs ≡ are_multiples times before rows by ns ss (c ∷ cs)
are_multiples-next times before multiple now rows by ns ss c cs told same = first (sum_from (number_at c) (pos 0) rows by) told
  where
    third : (left : ℤ) (r : Result ℤ Wide) → Ok multiple ≡ (r >>= λ right. Ok (int_eq left right))
        → are_multiples times now rows by ns ss cs ≡ (r >>= λ right. are_multiples times (before && int_eq left right) rows by ns ss cs)
    third left (Ok right) e =
        let is : multiple ≡ int_eq left right = cc in
        ap (λ b. are_multiples times b rows by ns ss cs) (same ∙ ap (λ b. before && b) is)
    third left (Err w) e = cc

    second : (left : ℤ) (r : Result ℤ Wide) → Ok multiple ≡ (r >>= λ own. times own >>= λ right. Ok (int_eq left right))
        → are_multiples times now rows by ns ss cs ≡ (r >>= λ own. times own >>= λ right. are_multiples times (before && int_eq left right) rows by ns ss cs)
    second left (Ok own) e = third left (times own) e
    second left (Err w) e = cc

    first : (r : Result ℤ Wide) → Ok multiple ≡ (r >>= λ left. with_sides (coefficient_at c) false (pos 0) ns ss >>= λ own. times own >>= λ right. Ok (int_eq left right))
        → are_multiples times now rows by ns ss cs ≡ (r >>= λ left. with_sides (coefficient_at c) false (pos 0) ns ss >>= λ own. times own >>= λ right. are_multiples times (before && int_eq left right) rows by ns ss cs)
    first (Ok left) e = second left (with_sides (coefficient_at c) false (pos 0) ns ss) e
    first (Err w) e = cc

pub loop-column-preserved : goal.loop-column-preserved
loop-column-preserved c =
    let times = scaled_number c.args.multiples.now.half c.args.multiples.now.scale in
    let rows = c.args.case.now.rows in
    let by = c.args.multiples.now.by.now in
    let ns = numbers_of c.args.relation.now in
    let ss = sides c.args.case.now.terms c.args.lower.now in
    let multiple = c.in_ok-multiple.multiple in
    let same : c.if-same.same ≡ c.loop-column.same && multiple =
    elim c.if-same.branch [
      | then-same w ↦ w.same-is ∙ ap (λ b. b && multiple) (sym w.if-same.true)
      | else-same w ↦ w.same-is ∙ w.if-same.false ∙ ap (λ b. b && multiple) (sym w.if-same.false)
    ] in
    are_multiples-next times c.loop-column.same multiple c.if-same.same rows by ns ss c.in-Some.column (columns_after (Some c.in-Some.column) (columns_in c.args.columns.now))
    (sym c.in_ok-multiple.was ∙ c.is_multiple_at.ensures) same
    ∙ ap (λ cs. are_multiples times c.loop-column.same rows by ns ss cs) (sym c.in-Some.ensures)
    ∙ c.loop-column.invariant
