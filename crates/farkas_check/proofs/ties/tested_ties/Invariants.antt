use Rattle.std.proofs.Common.{◌≡◌, drop, length, true}
use Rattle.std.specs.List.{list_all, zip}
use Rattle.farkas_check.specs.Listing.{columns_in}
use Rattle.farkas_check.specs.Relations.{has_count, numbers_of}
use Rattle.farkas_check.specs.Stratum.{all_of, tested_tie}
use Rattle.farkas_check.proofs.ties.tested_ties.Given as goal

abbrev pub invariant-loop-i : goal.invariant-loop-i
invariant-loop-i l =
    (all_of (λ p. tested_tie (columns_in l.columns) l.lower (numbers_of l.relation) p.0 p.1) (zip (drop l.i l.cases) (drop l.i l.ties))
    ≡ all_of (λ p. tested_tie (columns_in l.columns) l.lower (numbers_of l.relation) p.0 p.1) (zip l.cases l.ties))
    × (list_all (has_count (length l.relation.a)) (drop l.i l.cases) ≡ true)
