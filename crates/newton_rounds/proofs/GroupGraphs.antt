-- The graph of a group can be evaluated.
use Rattle.std.proofs.Common.{◌≡◌, ℕ, zero, suc, ◌+◌, ◌<◌, ◌≤◌, length, map, drop, List, [], ◌∷◌, ◌++◌, append_assoc, refl, sym, ap, subst, ◌∙◌, arith}
use Rattle.std.specs.Prelude.{IsTrue, Some, get_or, slice_get}
use Rattle.std.specs.List.{AllByRecursion}
use Rattle.std.specs.Option.{option_map, unwrap_or}
use Rattle.std.proofs.lemmas.List.{drop_more, length-map}
use Rattle.std.proofs.lemmas.List.Elements.{All-from_recursion}
use Rattle.std.proofs.lemmas.Option.{slice_get-map}
use Rattle.items.proofs.Each.{each-both, each-get, each-map, each-more, each_from_test}
use Rattle.linear_terms.specs.declared.row.Case.{Case}
use Rattle.transition_formula.specs.Transition.{AreSolvable, IsSolvable, IsTransition, Transition, fits}
use Rattle.transition_formula.proofs.FittedFormulas.{fits-solvable}
use Rattle.path_expr.specs.declared.cell.Cell.TheVariants as known
use Rattle.path_expr.specs.declared.link.Link.{Link}
use Rattle.polyhedra.specs.Vocabulary.{Vocabulary}
use Rattle.checked_tree.specs.Graph.{leaf_at, link_at, nothing, vocabulary_at}
use Rattle.checked_tree.specs.Law.{IsEnd, IsEvaluated, IsLeaf}
use Rattle.newton_rounds.specs.declared.calls.GroupCall as own
use Rattle.newton_rounds.specs.declared.calls.Sides.{Sides}
use Rattle.newton_rounds.specs.Between.{GoesBetween, IsGroup, IsStretchIn}
use Rattle.newton_rounds.specs.Closure.{ends_at, group_graph, group_leaf, group_link, no_vocabulary, stretches_with}
use Rattle.newton_rounds.specs.Pairs.{PairEnds, Stretch}
use Rattle.newton_rounds.specs.Shapes.{plain_call, stretch_of}
use Rattle.newton_rounds.proofs.CratesBelow.{some_at}
use Rattle.newton_rounds.proofs.ChainFormulas.{member-at}
use Rattle.newton_rounds.proofs.PairFormulas.{pair-goes}

-- what is so of each element is so of the one that is read
pub each-read : {X : Type 0} (P : X → Type 0) (xs : List X) (i : ℕ) (x : X) → i < length xs → x ≡ get_or xs i x → AllByRecursion P xs → P x
each-read P xs i x lt is h = subst P (sym is) (All-from_recursion P xs h i x lt)

-- ---- calls with their sides

pub next-stretch : (calls : List own.GroupCall) (sides : List Sides) (i : ℕ) (call : own.GroupCall) (one : Sides) → i < length calls → length calls ≡ length sides → call ≡ get_or calls i call → one ≡ get_or sides i one
    → stretches_with (map plain_call (drop i calls)) (drop i sides) ≡ stretch_of call one ∷ stretches_with (map plain_call (drop (i + 1) calls)) (drop (i + 1) sides)
next-stretch calls sides i call one lt long e f =
    λ j. stretches_with (map plain_call ((drop_more calls i call lt ∙ ap (λ c. c ∷ drop (i + 1) calls) (sym e)) j))
    ((drop_more sides i one (omega (arith, lt, long)) ∙ ap (λ o. o ∷ drop (i + 1) sides) (sym f)) j)

pub stretch-at : (P : Stretch → Type 0) (calls : List own.GroupCall) (sides : List Sides) (i : ℕ) (call : own.GroupCall) (one : Sides) → i < length calls → length calls ≡ length sides → call ≡ get_or calls i call → one ≡ get_or sides i one
    → AllByRecursion P (stretches_with (map plain_call calls) sides) → P (stretch_of call one)
stretch-at P [] sides i call one lt long e f h = absurd (omega (arith, lt))
stretch-at P (c ∷ calls) [] i call one lt long e f h = absurd (omega (arith, long))
stretch-at P (c ∷ calls) (o ∷ sides) zero call one lt long e f h = subst P (λ j. stretch_of (sym e j) (sym f j)) h.0
stretch-at P (c ∷ calls) (o ∷ sides) (suc i) call one lt long e f h = stretch-at P calls sides i call one (omega (arith, lt)) (omega (arith, long)) e f h.1

pub call-at : (P : Stretch → Type 0) (Q : own.GroupCall → Type 0) → ((call : own.GroupCall) (one : Sides) → P (stretch_of call one) → Q call) → (calls : List own.GroupCall) (sides : List Sides) → length calls ≡ length sides
    → AllByRecursion P (stretches_with (map plain_call calls) sides) → AllByRecursion Q calls
call-at P Q tells [] sides long h = tt
call-at P Q tells (c ∷ calls) [] long h = absurd (omega (arith, long))
call-at P Q tells (c ∷ calls) (o ∷ sides) long h = (tells c o h.0, call-at P Q tells calls sides (omega (arith, long)) h.1)

pub links-are : (calls : List own.GroupCall) (sides : List Sides) → length calls ≡ length sides
    → map (λ (call : own.GroupCall). record { from = call.caller; to = call.callee }) calls ≡ map group_link (stretches_with (map plain_call calls) sides)
links-are [] sides long = refl
links-are (c ∷ calls) [] long = absurd (omega (arith, long))
links-are (c ∷ calls) (o ∷ sides) long = ap (λ links. record { from = c.caller; to = c.callee } ∷ links) (links-are calls sides (omega (arith, long)))

-- ---- lists that a loop makes

pub behind-more : {X : Type 0} (made next more rest whole : List X) → next ≡ made ++ more → made ++ (more ++ rest) ≡ whole → next ++ rest ≡ whole
behind-more made next more rest whole pushed left = ap (λ u. u ++ rest) pushed ∙ append_assoc made more rest ∙ left

-- ---- the graph

pair-at : (members : List PairEnds) (n : ℕ) → unwrap_or (slice_get (map (λ (m : PairEnds). m.pair) members) n) no_vocabulary ≡ (ends_at members n).pair
pair-at [] n = refl
pair-at (m ∷ members) zero = refl
pair-at (m ∷ members) (suc n) = pair-at members n

module _ (members : List PairEnds) (stretches : List Stretch) (group : IsGroup members stretches) where
  many : length (map (λ (m : PairEnds). m.pair) members) ≡ length members
  many = length-map members (λ (m : PairEnds). m.pair)

  pub vocabulary-is : (n : ℕ) → vocabulary_at (group_graph members stretches) n ≡ (ends_at members n).pair
  vocabulary-is n = pair-at members n

  module _ (number : ℕ) (s : Stretch) (is : slice_get stretches number ≡ Some s) where
    abbrev caller : PairEnds
    caller = ends_at members s.call.caller

    abbrev callee : PairEnds
    callee = ends_at members s.call.callee

    leaf-is : leaf_at (group_graph members stretches) number ≡ group_leaf members s
    leaf-is = ap (λ o. unwrap_or o nothing) (slice_get-map (group_leaf members) stretches number ∙ ap (option_map (group_leaf members)) is)

    link-is : link_at (group_graph members stretches) number ≡ group_link s
    link-is = ap (λ o. unwrap_or o (record { from = 0; to = 0 })) (slice_get-map group_link stretches number ∙ ap (option_map group_link) is)

    within : IsStretchIn members s
    within = each-get (IsStretchIn members) stretches number s group.calls is

    goes : GoesBetween 900000 caller.pair.columns callee.pair.columns (group_leaf members s)
    goes = pair-goes caller callee s within.is within.enters

    solvable : AreSolvable (group_leaf members s).cases
    solvable =
        All-from_recursion IsSolvable (group_leaf members s).cases
        (each-more (λ (case : Case). FitsPairs case × (case.aux ≤ 900000)) IsSolvable
        (λ case h. fits-solvable caller.pair.columns callee.pair.columns case h.0 (let few = h.1 in let end = (member-at members s.call.callee within.callee group.each_member).pair.few in omega (arith, few, end)))
        (group_leaf members s).cases
        (each-both FitsPairs (λ (case : Case). case.aux ≤ 900000) (group_leaf members s).cases
        (each_from_test (fits caller.pair.columns callee.pair.columns) FitsPairs (λ case h. h) (group_leaf members s).cases
        (subst (λ to. IsTransition caller.pair.columns to (group_leaf members s).cases) goes.to_is goes.fits)) goes.few))
      where
        FitsPairs : Case → Type 0
        FitsPairs case = IsTrue (fits caller.pair.columns callee.pair.columns case)

    leaf-fits : IsLeaf (group_graph members stretches) number
    leaf-fits =
        let from = ap (λ (l : Link). (vocabulary_at (group_graph members stretches) l.from).columns) link-is ∙ ap (λ (v : Vocabulary). v.columns) (vocabulary-is s.call.caller) in
        let to = ap (λ (l : Link). (vocabulary_at (group_graph members stretches) l.to).columns) link-is ∙ ap (λ (v : Vocabulary). v.columns) (vocabulary-is s.call.callee) in
        record {
          between = record {
            from_is = ap (λ (f : Transition). f.from) leaf-is ∙ goes.from_is ∙ sym from;
            to_is = ap (λ (f : Transition). f.to) leaf-is ∙ goes.to_is ∙ sym to;
            fits = subst (λ (f : Transition). IsTransition f.from f.to f.cases) (sym leaf-is) goes.fits;
          };
          solvable = subst (λ (f : Transition). AreSolvable f.cases) (sym leaf-is) solvable;
        }

  pub group-evaluated : (place : ℕ) → place < length members → IsEvaluated (group_graph members stretches) place
  group-evaluated place lt = record {
    graph =
        All-from_recursion (λ (link : Link). (link.from < length (map (λ (m : PairEnds). m.pair) members)) × (link.to < length (map (λ (m : PairEnds). m.pair) members))) (map group_link stretches)
        (each-map (IsStretchIn members) (λ (link : Link). (link.from < length (map (λ (m : PairEnds). m.pair) members)) × (link.to < length (map (λ (m : PairEnds). m.pair) members))) group_link
        (λ s h. (subst (λ n. s.call.caller < n) (sym many) h.caller, subst (λ n. s.call.callee < n) (sym many) h.callee)) stretches group.calls);
    one_each = length-map stretches (group_leaf members) ∙ sym (length-map stretches group_link);
    leaves = λ number short.
        let there = some_at stretches number (subst (λ n. number < n) (length-map stretches group_link) short) in leaf-fits number there.0 there.1;
    ends = λ node short.
        subst IsEnd (sym (vocabulary-is node)) (member-at members node (subst (λ n. node < n) many short) group.each_member).pair;
    source_is = subst (λ n. place < n) (sym many) lt;
  }
