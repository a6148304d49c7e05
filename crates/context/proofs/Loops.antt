-- One more step of the loops that make the entry graph.
use Rattle.std.proofs.Common.{◌≡◌, ℕ, zero, suc, ◌+◌, ◌<◌, ◌≤◌, length, map, get_or, drop, List, [], ◌∷◌, ◌++◌, Some, refl, sym, ap, ◌∙◌, append_assoc, append-nil, length-append, length-drop, arith}
use Rattle.std.specs.Prelude.{Bool, true, false, ◌==◌, slice_get}
use Rattle.std.specs.List.{flat_map, range_with_len}
use Rattle.std.proofs.lemmas.List.{map-append, drop_all}
use Rattle.std.proofs.lemmas.List.FromFn.{map-range_with_len_more}
use Rattle.transition_formula.proofs.Loops.{at_index}
use Rattle.flow_graph.specs.declared.parts.Edge.{Edge}
use Rattle.flow_graph.specs.Plain.{statement_of_act}
use Rattle.polyhedra.specs.Vocabulary.{Vocabulary}
use Rattle.syntax_tree.specs.declared.program.Proc.{Proc}
use Rattle.syntax_tree.specs.declared.program.Program.{Program}
use Rattle.vocabularies.specs.Ends.{entry_of}
use Rattle.vocabularies.specs.Procs.{IsProcOf}
use Rattle.proc_summary.specs.declared.stop.Flow.{Flow}
use Rattle.proc_summary.specs.declared.stop.NodeFormula.{NodeFormula}
use Rattle.proc_summary.specs.Subject.{own_graph}
use Rattle.context.specs.declared.edges.Edges.{Edges}
use Rattle.context.specs.declared.stand.Widths.{Widths}
use Rattle.context.specs.Entries.{Calling, Way, call_way, call_ways, calling_by, callings_in, others_from, unless_main, ways_from, widths_of}
use Rattle.context.specs.Made.{callings_on, with_ways}

-- ---- ways behind others

flat-both : {A B : Type 0} (f : A → List B) (xs ys : List A) → flat_map f (xs ++ ys) ≡ flat_map f xs ++ flat_map f ys
flat-both f [] ys = refl
flat-both f (x ∷ xs) ys = ap (λ l. f x ++ l) (flat-both f xs ys) ∙ sym (append_assoc (f x) (flat_map f xs) (flat_map f ys))

pub with_ways-both : (made : Edges) (first second : List Way) → with_ways (with_ways made first) second ≡ with_ways made (first ++ second)
with_ways-both made first second = λ i. record {
  links = (append_assoc made.links (map (λ (way : Way). way.link) first) (map (λ (way : Way). way.link) second) ∙ ap (λ l. made.links ++ l) (sym (map-append (λ (way : Way). way.link) first second))) i;
  leaves = (append_assoc made.leaves (map (λ (way : Way). way.leaf) first) (map (λ (way : Way). way.leaf) second) ∙ ap (λ l. made.leaves ++ l) (sym (map-append (λ (way : Way). way.leaf) first second))) i;
  losses = (append_assoc made.losses (flat_map (λ (way : Way). way.lost) first) (flat_map (λ (way : Way). way.lost) second) ∙ ap (λ l. made.losses ++ l) (sym (flat-both (λ (way : Way). way.lost) first second))) i;
}

pub with_ways-none : (made : Edges) → with_ways made [] ≡ made
with_ways-none made = λ i. record { links = append-nil made.links i; leaves = append-nil made.leaves i; losses = append-nil made.losses i }

-- ---- the calls of one procedure

module _ (main number : ℕ) (w : Widths) where
  ways-both : (first second : List Calling) (stops : List NodeFormula) → length first ≤ length stops → call_ways main number w (first ++ second) stops ≡ call_ways main number w first stops ++ call_ways main number w second (drop (length first) stops)
  ways-both [] second stops le = refl
  ways-both (calling ∷ first) second [] le = absurd (omega (arith, le))
  ways-both (calling ∷ first) second (stop ∷ stops) le = ap (λ l. call_way main number w calling stop ∷ l) (ways-both first second stops (omega (arith, le)))

  drop-none : (n k : ℕ) → (let xs : List NodeFormula = [] in drop n xs ≡ drop k xs)
  drop-none zero zero = refl
  drop-none zero (suc k) = refl
  drop-none (suc n) zero = refl
  drop-none (suc n) (suc k) = refl

  drop-both : (xs : List NodeFormula) (m n : ℕ) → drop n (drop m xs) ≡ drop (m + n) xs
  drop-both xs zero n = let e : 0 + n ≡ n = omega arith in ap (λ k. drop k xs) (sym e)
  drop-both [] (suc m) n = drop-none n (suc m + n)
  drop-both (x ∷ xs) (suc m) n = let e : suc m + n ≡ suc (m + n) = omega arith in drop-both xs m n ∙ ap (λ k. drop k (x ∷ xs)) (sym e)

  -- one more edge
  pub edge-next : (edges : List Edge) (i : ℕ) (edge : Edge) (stops : List NodeFormula) (place next : ℕ) (made more whole : Edges) → i < length edges → edge ≡ get_or edges i edge
      → with_ways made (call_ways main number w (callings_on (drop i edges)) (drop place stops)) ≡ whole → place + length (callings_on (drop i edges)) ≡ length stops
      → more ≡ with_ways made (call_ways main number w (calling_by (statement_of_act edge.act)) (drop place stops)) → next ≡ place + length (calling_by (statement_of_act edge.act))
      → (with_ways more (call_ways main number w (callings_on (drop (i + 1) edges)) (drop next stops)) ≡ whole) × (next + length (callings_on (drop (i + 1) edges)) ≡ length stops)
  edge-next edges i edge stops place next made more whole lt is so_far left pushed moved =
      let own : List Calling = calling_by (statement_of_act edge.act) in
      let rest : List Calling = callings_on (drop (i + 1) edges) in
      let split : callings_on (drop i edges) ≡ own ++ rest = ap callings_on (at_index edges i edge lt is) in
      let counts = ap length split ∙ length-append own rest in
      let long = length-drop place stops in
      let enough : length own ≤ length (drop place stops) = omega (arith, counts, left, long) in
      let later : drop (length own) (drop place stops) ≡ drop next stops = drop-both stops place (length own) ∙ ap (λ n. drop n stops) (sym moved) in (
        (λ j. with_ways (pushed j) (call_ways main number w rest (sym later j)))
            ∙ with_ways-both made (call_ways main number w own (drop place stops)) (call_ways main number w rest (drop (length own) (drop place stops)))
            ∙ ap (with_ways made) (sym (ways-both own rest (drop place stops) enough) ∙ ap (λ l. call_ways main number w l (drop place stops)) (sym split))
            ∙ so_far,
        omega (arith, counts, left, moved),
      )

  pub edge-there : (edges : List Edge) (i : ℕ) (edge : Edge) (stops : List NodeFormula) (place : ℕ) → i < length edges → edge ≡ get_or edges i edge → place + length (callings_on (drop i edges)) ≡ length stops
      → place + length (calling_by (statement_of_act edge.act)) ≤ length stops
  edge-there edges i edge stops place lt is left =
      let own : List Calling = calling_by (statement_of_act edge.act) in
      let rest : List Calling = callings_on (drop (i + 1) edges) in
      let counts = ap length (ap callings_on (at_index edges i edge lt is)) ∙ length-append own rest in omega (arith, counts, left)

  -- all edges
  pub edges-end : (edges : List Edge) (i : ℕ) (stops : List NodeFormula) (place : ℕ) (made whole : Edges) → length edges ≤ i → with_ways made (call_ways main number w (callings_on (drop i edges)) (drop place stops)) ≡ whole → made ≡ whole
  edges-end edges i stops place made whole le so_far =
      sym (with_ways-none made) ∙ ap (λ l. with_ways made (call_ways main number w (callings_on l) (drop place stops))) (sym (drop_all i edges le)) ∙ so_far

-- ---- all procedures

-- the list from a place on
from-there : {A : Type 0} (xs : List A) (i : ℕ) (x : A) → slice_get xs i ≡ Some x → drop i xs ≡ x ∷ drop (i + 1) xs
from-there [] i x e = absurd (cc)
from-there (y ∷ xs) zero x e = let same : y ≡ x = cc in ap (λ z. z ∷ xs) same
from-there (y ∷ xs) (suc i) x e = let n : suc i + 1 ≡ suc (i + 1) = omega arith in from-there xs i x e ∙ ap (λ k. x ∷ drop k (y ∷ xs)) (sym n)

module _ (program : Program) where
  pub proc-next : (flows : List Flow) (number : ℕ) (p : Proc) (flow : Flow) (made more whole : Edges) → IsProcOf program number p → slice_get flows number ≡ Some flow
      → with_ways made (ways_from program number (drop number program.procs) (drop number flows)) ≡ whole
      → more ≡ with_ways made (call_ways program.main number (widths_of program p) (callings_in (own_graph p).arcs) flow.calls)
      → with_ways more (ways_from program (number + 1) (drop (number + 1) program.procs) (drop (number + 1) flows)) ≡ whole
  proc-next flows number p flow made more whole is_p is_flow so_far pushed =
      let own : List Way = call_ways program.main number (widths_of program p) (callings_in (own_graph p).arcs) flow.calls in
      let rest : List Way = ways_from program (number + 1) (drop (number + 1) program.procs) (drop (number + 1) flows) in
      ap (λ m. with_ways m rest) pushed
      ∙ with_ways-both made own rest
      ∙ (λ i. with_ways made (ways_from program number (sym (from-there program.procs number p is_p) i) (sym (from-there flows number flow is_flow) i)))
      ∙ so_far

  pub procs-end : (flows : List Flow) (number : ℕ) (made whole : Edges) → length program.procs ≤ number → with_ways made (ways_from program number (drop number program.procs) (drop number flows)) ≡ whole → made ≡ whole
  procs-end flows number made whole le so_far =
      sym (with_ways-none made) ∙ ap (λ procs. with_ways made (ways_from program number procs (drop number flows))) (sym (drop_all number program.procs le)) ∙ so_far

  -- ---- the nodes

  pub node-next : (number : ℕ) (p : Proc) (made more whole : List Vocabulary) → IsProcOf program number p
      → made ++ others_from program number (drop number program.procs) ≡ whole → more ≡ made ++ unless_main (number == program.main) (entry_of program p) []
      → more ++ others_from program (number + 1) (drop (number + 1) program.procs) ≡ whole
  node-next number p made more whole is_p so_far pushed =
      let rest : List Vocabulary = others_from program (number + 1) (drop (number + 1) program.procs) in
      ap (λ l. l ++ rest) pushed
      ∙ append_assoc made (unless_main (number == program.main) (entry_of program p) []) rest
      ∙ ap (λ l. made ++ l) (before (number == program.main) rest ∙ ap (others_from program number) (sym (from-there program.procs number p is_p)))
      ∙ so_far
    where
      before : (b : Bool) (rest : List Vocabulary) → unless_main b (entry_of program p) [] ++ rest ≡ unless_main b (entry_of program p) rest
      before true rest = refl
      before false rest = refl

  pub nodes-end : (number : ℕ) (made whole : List Vocabulary) → length program.procs ≤ number → made ++ others_from program number (drop number program.procs) ≡ whole → made ≡ whole
  nodes-end number made whole le so_far = sym (append-nil made) ∙ ap (λ procs. made ++ others_from program number procs) (sym (drop_all number program.procs le)) ∙ so_far

-- ---- the entries

pub counted-next : {X : Type 0} (f : ℕ → X) (n : ℕ) (made next : List X) (x : X) → made ≡ map f (range_with_len 0 n) → x ≡ f n → next ≡ made ++ x ∷ [] → next ≡ map f (range_with_len 0 (n + 1))
counted-next f n made next x so_far same pushed = let first : 0 + n ≡ n = omega arith in pushed ∙ (λ i. so_far i ++ same i ∷ []) ∙ sym (map-range_with_len_more f 0 n n first)
