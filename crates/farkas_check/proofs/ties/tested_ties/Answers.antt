use Rattle.std.proofs.Common.{◌≡◌, ℕ, ◌+◌, ◌<◌, length, get_or, drop, List, ◌∷◌, Bool, true, Result, Ok, sym, ap, ◌∙◌, arith}
use Rattle.std.specs.List.{list_all, zip}
use Rattle.std.proofs.lemmas.List.{drop_more}
use Rattle.whole_numbers.specs.declared.wide.Wide.{Wide}
use Rattle.farkas_check.specs.declared.stratum.Change.{Change}
use Rattle.farkas_check.specs.declared.stratum.Tie.{Tie}
use Rattle.farkas_check.specs.Listing.{columns_in}
use Rattle.farkas_check.specs.Parts.{and_then}
use Rattle.farkas_check.specs.Relations.{has_count, numbers_of}
use Rattle.farkas_check.specs.Stratum.{all_of, tested_tie}
use Rattle.farkas_check.proofs.Farkas.{both_true}
use Rattle.farkas_check.proofs.ties.tested_ties.Goals as goal

at_index : {X : Type 0} (xs : List X) (i : ℕ) (x : X) → i < length xs → x ≡ get_or xs i x → drop i xs ≡ x ∷ drop (i + 1) xs
at_index xs i x h e = drop_more xs i x h ∙ ap (λ u. u ∷ drop (i + 1) xs) (sym e)

all_of-next : {X Y : Type 0} (part : X × Y → Result Bool Wide) (xs : List X) (ys : List Y) (i : ℕ) (x : X) (y : Y) (holds : Bool) → i < length xs → i < length ys → x ≡ get_or xs i x → y ≡ get_or ys i y
    → Ok holds ≡ part (x, y) → holds ≡ true → all_of part (zip (drop (i + 1) xs) (drop (i + 1) ys)) ≡ all_of part (zip (drop i xs) (drop i ys))
all_of-next part xs ys i x y holds lt within e f told so =
    let first = at_index xs i x lt e in
    let second = at_index ys i y within f in
    sym (
    (λ j. all_of part (zip (first j) (second j)))
    ∙ ap (λ r. and_then r (all_of part (zip (drop (i + 1) xs) (drop (i + 1) ys)))) (sym told)
    ∙ ap (λ (b : Bool). and_then (Ok b) (all_of part (zip (drop (i + 1) xs) (drop (i + 1) ys)))) so
    )

list_all-next : {X : Type 0} (test : X → Bool) (xs : List X) (i : ℕ) (x : X) → i < length xs → x ≡ get_or xs i x → list_all test (drop i xs) ≡ true → list_all test (drop (i + 1) xs) ≡ true
list_all-next test xs i x lt e all = (both_true (test x) (list_all test (drop (i + 1) xs)) (sym (ap (list_all test) (at_index xs i x lt e)) ∙ all)).1

pub loop-i-preserved : goal.loop-i-preserved
loop-i-preserved c =
    let part : Change × Tie → Result Bool Wide = λ p. tested_tie (columns_in c.args.columns.now) c.args.lower.now (numbers_of c.args.relation.now) p.0 p.1 in
    let within : c.loop-i.i < length c.args.ties.now = omega (arith, c.requires.ties) in (
      all_of-next part c.args.cases.now c.args.ties.now c.loop-i.i c.index-cases-i.result c.index-ties-i.result c.in_ok-tested_tie.field-0 c.loop-i-test.true within c.index-cases-i.is c.index-ties-i.is
          c.in_ok-tested_tie.ensures c.if-not-branch.false
          ∙ c.loop-i.invariant.0,
      list_all-next (has_count (length c.args.relation.now.a)) c.args.cases.now c.loop-i.i c.index-cases-i.result c.loop-i-test.true c.index-cases-i.is c.loop-i.invariant.1,
    )
