use Rattle.std.proofs.Common.{◌≡◌, ◌<◌, ℕ, List, length, get_or, set, ap, sym, refl, arith, ◌∙◌}
use Rattle.std.proofs.lemmas.List.{get_or_default, length-map}
use Rattle.flow_graph.specs.declared.components.NumberMark.{NumberMark}
use Rattle.flow_graph.specs.declared.components.NumberMark.TheVariants.{Done}
use Rattle.flow_graph.specs.Search.{state_of, left_mark, on_path}
use Rattle.flow_graph.proofs.Leaving.{none_yet, one_more, place_within}
use Rattle.flow_graph.proofs.components.Search.leave.Goals as goal

pub loop-place-init : goal.loop-place-init
loop-place-init c = record {
  marks = sym (none_yet c.args.at c.args.self.now.groups c.args.self.now.marks.items);
  path = refl;
  starts = refl;
  groups = refl;
}

pub index_mut-requires : goal.index_mut-requires
index_mut-requires c =
    let s = state_of c.args.self.now in
    let k = c.loop-place.place in
    let here : k < length s.path = omega (arith, c.loop-place-test.true, c.len-place-end.ensures, c.args.self.now.path.ok.0) in
    let same : c.loop-place.self.path.items ≡ s.path = (λ i. (c.loop-place.invariant.path i).items) in
    let number : c.index.result.now ≡ on_path s k =
    c.index.ensures ∙ ap (λ (xs : List ℕ). get_or xs k c.index.result.now) same ∙ get_or_default s.path k c.index.result.now 0 here in
    let low = place_within s k c.requires.marked here in
    let long : length c.loop-place.self.marks.items ≡ length s.marks =
    ap (λ (xs : List NumberMark). length xs) c.loop-place.invariant.marks ∙ length-map s.marks (left_mark c.args.at k s.groups) in
    omega (arith, number, low, long, c.loop-place.self.marks.ok.0)

pub loop-place-preserved : goal.loop-place-preserved
loop-place-preserved c =
    let s = state_of c.args.self.now in
    let k = c.loop-place.place in
    let here : k < length s.path = omega (arith, c.loop-place-test.true, c.len-place-end.ensures, c.args.self.now.path.ok.0) in
    let same : c.loop-place.self.path.items ≡ s.path = (λ i. (c.loop-place.invariant.path i).items) in
    let number : c.index.result.now ≡ on_path s k =
    c.index.ensures ∙ ap (λ (xs : List ℕ). get_or xs k c.index.result.now) same ∙ get_or_default s.path k c.index.result.now 0 here in
    record {
      marks = (λ i. set (c.loop-place.invariant.marks i) (number i) (Done (c.loop-place.invariant.groups i)))
          ∙ one_more s c.args.at k c.requires.marked c.loop-place.auto.place here;
      path = c.loop-place.invariant.path;
      starts = c.loop-place.invariant.starts;
      groups = c.loop-place.invariant.groups;
    }
