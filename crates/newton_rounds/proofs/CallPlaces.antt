-- Where a call of the group stands among all of them, and its stretch and its formula in the
-- group's graph.
use Rattle.std.proofs.Common.{◌≡◌, ℕ, zero, suc, ◌+◌, List, [], ◌∷◌, ◌++◌, map, Option, Some, refl, sym, ap, subst, ◌∙◌, arith}
use Rattle.std.specs.Prelude.{slice_get, unwrap_or}
use Rattle.std.specs.List.{AllZip, flat_map}
use Rattle.std.specs.Option.{option_map}
use Rattle.std.proofs.lemmas.Option.{slice_get-map}
use Rattle.syntax_tree.specs.declared.program.Proc.{Proc}
use Rattle.syntax_tree.specs.Code.{Call}
use Rattle.syntax_tree.specs.Term.{Term}
use Rattle.flow_graph.specs.FlowGraph.{Arc}
use Rattle.checked_tree.specs.Graph.{leaf_at, nothing}
use Rattle.proc_summary.specs.Subject.{own_graph}
use Rattle.newton_rounds.specs.declared.calls.Sides.{Sides}
use Rattle.newton_rounds.specs.Closure.{group_graph, group_leaf, group_link, stretches_with}
use Rattle.newton_rounds.specs.Members.{GroupCall, call_by, call_to, calls_from, calls_of, place_of}
use Rattle.newton_rounds.specs.Pairs.{PairEnds, Stretch}

-- ---- parts of lists

got-left : {X : Type 0} (xs ys : List X) (k : ℕ) (x : X) → slice_get xs k ≡ Some x → slice_get (xs ++ ys) k ≡ Some x
got-left [] ys k x e = absurd (none k e)
  where
    none : (n : ℕ) → slice_get [] n ≡ Some x → ⊥
    none zero e = cc
    none (suc n) e = cc
got-left (z ∷ xs) ys zero x e = e
got-left (z ∷ xs) ys (suc k) x e = got-left xs ys k x e

-- an element of a list, by its place
abbrev pub Found : {X : Type 0} → List X → X → Type 0
Found xs x = (k : ℕ) × (slice_get xs k ≡ Some x)

found-left : {X : Type 0} (xs ys : List X) (x : X) → Found xs x → Found (xs ++ ys) x
found-left xs ys x h = (h.0, got-left xs ys h.0 x h.1)

found-right : {X : Type 0} (xs ys : List X) (x : X) → Found ys x → Found (xs ++ ys) x
found-right [] ys x h = h
found-right (z ∷ xs) ys x h = let more = found-right xs ys x h in (suc more.0, more.1)

found-flat : {A X : Type 0} (F : A → List X) (xs : List A) (k : ℕ) (a : A) (x : X) → slice_get xs k ≡ Some a → Found (F a) x → Found (flat_map F xs) x
found-flat F [] k a x e h = absurd (none k e)
  where
    none : (n : ℕ) → slice_get [] n ≡ Some a → ⊥
    none zero e = cc
    none (suc n) e = cc
found-flat F (b ∷ xs) zero a x e h = let same : b ≡ a = cc in found-left (F b) (flat_map F xs) x (subst (λ c. Found (F c) x) (sym same) h)
found-flat F (b ∷ xs) (suc k) a x e h = found-right (F b) (flat_map F xs) x (found-flat F xs k a x e h)

-- ---- a call among all calls

abbrev pub the_call : ℕ → ℕ → Arc → List Term → Option ℕ → GroupCall
the_call caller callee way args into = record { caller = caller; callee = callee; from = way.from; to = way.to; args = args; into = into }

module _ (procs : List ℕ) (callee c : ℕ) (args : List Term) (into : Option ℕ) (way : Arc) (does : way.act ≡ Call c args into) (of_group : place_of c procs ≡ Some callee) where
  call-of : (caller k : ℕ) (p : Proc) → slice_get (own_graph p).arcs k ≡ Some way → Found (calls_of procs caller p) (the_call caller callee way args into)
  call-of caller k p e =
      found-flat (λ (w : Arc). call_by procs caller w w.act) (own_graph p).arcs k way (the_call caller callee way args into) e
      (subst (λ s. Found (call_by procs caller way s) (the_call caller callee way args into)) (sym does)
      (subst (λ o. Found (call_to caller way args into o) (the_call caller callee way args into)) (sym of_group) (0, refl)))

  -- of the member at a place behind the first
  pub call-found : (first j k : ℕ) (ps : List Proc) (p : Proc) → slice_get ps j ≡ Some p → slice_get (own_graph p).arcs k ≡ Some way → Found (calls_from procs first ps) (the_call (first + j) callee way args into)
  call-found first j k [] p e at = absurd (none j e)
    where
      none : (n : ℕ) → slice_get [] n ≡ Some p → ⊥
      none zero e = cc
      none (suc n) e = cc
  call-found first zero k (q ∷ ps) p e at =
      let same : q ≡ p = cc in
      let here : first + 0 ≡ first = omega arith in
      subst (λ n. Found (calls_from procs first (q ∷ ps)) (the_call n callee way args into)) (sym here)
      (found-left (calls_of procs first q) (calls_from procs (first + 1) ps) (the_call first callee way args into) (call-of first k q (subst (λ (r : Proc). slice_get (own_graph r).arcs k ≡ Some way) (sym same) at)))
  call-found first (suc j) k (q ∷ ps) p e at =
      let next : first + 1 + j ≡ first + suc j = omega arith in
      subst (λ n. Found (calls_from procs first (q ∷ ps)) (the_call n callee way args into)) next
      (found-right (calls_of procs first q) (calls_from procs (first + 1) ps) (the_call (first + 1 + j) callee way args into) (call-found (first + 1) j k ps p e at))

-- ---- its stretch

-- both sides of a call, by its place
pub record HasSides (P : GroupCall → Sides → Type 0) (calls : List GroupCall) (sides : List Sides) (k : ℕ) (call : GroupCall) : Type 0 where
  pub one : Sides
  pub fine : P call one
  pub stretch : slice_get (stretches_with calls sides) k ≡ Some record { call = call; before = one.before; after = one.after }

pub sides-found : (P : GroupCall → Sides → Type 0) (calls : List GroupCall) (sides : List Sides) → AllZip P calls sides → (k : ℕ) (call : GroupCall) → slice_get calls k ≡ Some call → HasSides P calls sides k call
sides-found P [] sides h k call e = absurd (none k e)
  where
    none : (n : ℕ) → slice_get [] n ≡ Some call → ⊥
    none zero e = cc
    none (suc n) e = cc
sides-found P (c ∷ calls) [] h k call e = absurd h
sides-found P (c ∷ calls) (one ∷ sides) h zero call e =
    let same : c ≡ call = cc in
    record { one = one; fine = subst (λ d. P d one) same h.0; stretch = ap (λ d. Some (record { call = d; before = one.before; after = one.after })) same }
sides-found P (c ∷ calls) (one ∷ sides) h (suc k) call e = let more = sides-found P calls sides h.1 k call e in record { one = more.one; fine = more.fine; stretch = more.stretch }

-- ---- its formula

pub leaf-found : (members : List PairEnds) (stretches : List Stretch) (k : ℕ) (s : Stretch) → slice_get stretches k ≡ Some s → leaf_at (group_graph members stretches) k ≡ group_leaf members s
leaf-found members stretches k s e = ap (λ o. unwrap_or o nothing) (slice_get-map (group_leaf members) stretches k ∙ ap (option_map (group_leaf members)) e)

pub link-found : (stretches : List Stretch) (k : ℕ) (s : Stretch) → slice_get stretches k ≡ Some s → slice_get (map group_link stretches) k ≡ Some (group_link s)
link-found stretches k s e = slice_get-map group_link stretches k ∙ ap (option_map group_link) e
