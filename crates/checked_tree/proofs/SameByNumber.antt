-- The evaluation of a plan is that of its graph.
use Rattle.std.proofs.Common.{◌≡◌, ◌+◌, ◌<◌, ℕ, zero, suc, true, false, List, [], ◌∷◌, ◌++◌, length, map, replicate, refl, sym, ◌∙◌, ap, subst, arith, Some, true≢false, eq-eqb, zero-add}
use Rattle.std.specs.Prelude.{slice_set}
use Rattle.std.specs.List.{slice_get, IsDistinct, range_with_len}
use Rattle.std.specs.Option.{unwrap_or}
use Rattle.std.proofs.lemmas.Bool.{and_from}
use Rattle.std.proofs.lemmas.List.{append-nil}
use Rattle.std.proofs.lemmas.Option.{slice_get_within}
use Rattle.items.proofs.Each.{each-get}
use Rattle.path_expr.specs.declared.cell.Cell.{Cell}
use Rattle.path_expr.specs.declared.cell.Cell.TheVariants as known
use Rattle.path_expr.specs.PathExpr.{PathExpr, Zero, One, Edge, Seq, Join, Star}
use Rattle.path_expr.specs.Elimination.{path_at}
use Rattle.path_expr.specs.Operations.{operations}
use Rattle.transition_formula.specs.Transition.{Transition}
use Rattle.posing.specs.Posing.{Posing, Done, ◌>>=◌, each}
use Rattle.posing.proofs.Paths.{bind-assoc}
use Rattle.phases.specs.Repetition.{repetition}
use Rattle.checked_tree.specs.declared.key.Key.{Key}
use Rattle.checked_tree.specs.declared.key.Key.TheVariants as key
use Rattle.checked_tree.specs.Graph.{Graph, start_of, end_of, vocabulary_at}
use Rattle.checked_tree.specs.Evaluation.{Made, formula_at, sequence_formula, join_formula, own, with_entry, with_made, evaluation, cell_of, cell_at, cells_of, evaluated_cells, paths_of}
use Rattle.checked_tree.specs.Law.{IsEvaluated}
use Rattle.checked_tree.specs.Ready.{IsAmong, IsReady, AreReady}
use Rattle.checked_tree.specs.Plan.{IsPathOf, ArePathsOf, AreDistinct, IsCellOf, IsPlanned}
use Rattle.checked_tree.specs.ByNumber.{Entry, Entries, blank, entry_at, key_at, formula_by, entry_of, with_number, entries_of, cell_by, evaluated_cells_by, PlansEvaluate}
use Rattle.checked_tree.specs.UnderWay.{entry_for, Agrees}
use Rattle.checked_tree.proofs.Entries.{paths-entry, known-more}
use Rattle.checked_tree.proofs.NumberedKeys.{key_eq}
use Rattle.checked_tree.proofs.Stands.{Stands}
use Rattle.checked_tree.proofs.EliminationSteps.{operations-ready, path_at-stands}

-- ---- one number for a path, and one path for a number

key_refl : (k : Key) → key_eq k k ≡ true
key_refl (key.Edge a) = eq-eqb a a refl
key_refl (key.Seq a b) = and_from _ _ (eq-eqb a a refl) (eq-eqb b b refl)
key_refl (key.Join a b) = and_from _ _ (eq-eqb a a refl) (eq-eqb b b refl)
key_refl (key.Star a) = eq-eqb a a refl

same_some : {X : Type 0} (x y : X) → Some x ≡ Some y → x ≡ y
same_some x y e = cc

pub distinct_places : (keys : List Key) → IsDistinct key_eq keys → AreDistinct keys
unfolding IsDistinct
distinct_places [] h m n k e d = absurd (none m e)
  where
    none : (m : ℕ) → slice_get [] m ≡ Some k → ⊥
    none m e = cc
distinct_places (x ∷ keys) h zero zero k e d = refl
distinct_places (x ∷ keys) h zero (suc n) k e d =
    absurd (true≢false (sym (key_refl k) ∙ subst (λ y. key_eq y k ≡ false) (same_some x k e) (each-get (λ y. key_eq x y ≡ false) keys n k h.0 d)))
distinct_places (x ∷ keys) h (suc m) zero k e d =
    absurd (true≢false (sym (key_refl k) ∙ subst (λ y. key_eq y k ≡ false) (same_some x k d) (each-get (λ y. key_eq x y ≡ false) keys m k h.0 e)))
distinct_places (x ∷ keys) h (suc m) (suc n) k e d = ap suc (distinct_places keys h.1 m n k e d)

module _ (keys : List Key) (distinct : AreDistinct keys) where
  pub one-number : (p : PathExpr) (m n : ℕ) → IsPathOf keys p m → IsPathOf keys p n → m ≡ n
  one-number Zero m n h k = absurd h
  one-number One m n h k = absurd h
  one-number (Edge e) m n h k = distinct m n (key.Edge e) h k
  one-number (Seq a b) m n h k =
      let first = one-number a k.0 h.0 k.3 h.3 in
      let second = one-number b k.1 h.1 k.4 h.4 in
      distinct m n (key.Seq h.0 h.1) h.2 (k.2 ∙ (λ i. Some (key.Seq (first i) (second i))))
  one-number (Join a b) m n h k =
      let first = one-number a k.0 h.0 k.3 h.3 in
      let second = one-number b k.1 h.1 k.4 h.4 in
      distinct m n (key.Join h.0 h.1) h.2 (k.2 ∙ (λ i. Some (key.Join (first i) (second i))))
  one-number (Star a) m n h k =
      let turn = one-number a k.0 h.0 k.2 h.2 in
      distinct m n (key.Star h.0) h.1 (k.1 ∙ (λ i. Some (key.Star (turn i))))

module _ (keys : List Key) where
  same_key : (n : ℕ) (k l : Key) → slice_get keys n ≡ Some k → slice_get keys n ≡ Some l → k ≡ l
  same_key n k l e d = same_some k l (sym e ∙ d)

  abbrev first_of : Key → ℕ
  first_of (key.Edge n) = n
  first_of (key.Seq i j) = i
  first_of (key.Join i j) = i
  first_of (key.Star i) = i

  abbrev second_of : Key → ℕ
  second_of (key.Edge n) = n
  second_of (key.Seq i j) = j
  second_of (key.Join i j) = j
  second_of (key.Star i) = i

  pub one-path : (p q : PathExpr) (n : ℕ) → IsPathOf keys p n → IsPathOf keys q n → p ≡ q
  one-path (Edge a) (Edge b) n h k = ap (λ m. Edge m) (ap first_of (same_key n (key.Edge a) (key.Edge b) h k))
  one-path (Seq a b) (Seq c d) n h k =
      let same = same_key n (key.Seq h.0 h.1) (key.Seq k.0 k.1) h.2 k.2 in
      let first = one-path a c h.0 h.3 (subst (IsPathOf keys c) (sym (ap first_of same)) k.3) in
      let second = one-path b d h.1 h.4 (subst (IsPathOf keys d) (sym (ap second_of same)) k.4) in
      λ i. Seq (first i) (second i)
  one-path (Join a b) (Join c d) n h k =
      let same = same_key n (key.Join h.0 h.1) (key.Join k.0 k.1) h.2 k.2 in
      let first = one-path a c h.0 h.3 (subst (IsPathOf keys c) (sym (ap first_of same)) k.3) in
      let second = one-path b d h.1 h.4 (subst (IsPathOf keys d) (sym (ap second_of same)) k.4) in
      λ i. Join (first i) (second i)
  one-path (Star a) (Star b) n h k =
      let same = same_key n (key.Star h.0) (key.Star k.0) h.1 k.1 in
      ap (λ p. Star p) (one-path a b h.0 h.2 (subst (IsPathOf keys b) (sym (ap first_of same)) k.2))
  one-path Zero q n h k = absurd h
  one-path One q n h k = absurd h
  one-path p Zero n h k = absurd k
  one-path p One n h k = absurd k
  one-path (Edge a) (Seq c d) n h k = absurd (let e = same_key n (key.Edge a) (key.Seq k.0 k.1) h k.2 in cc)
  one-path (Edge a) (Join c d) n h k = absurd (let e = same_key n (key.Edge a) (key.Join k.0 k.1) h k.2 in cc)
  one-path (Edge a) (Star c) n h k = absurd (let e = same_key n (key.Edge a) (key.Star k.0) h k.1 in cc)
  one-path (Seq a b) (Edge c) n h k = absurd (let e = same_key n (key.Seq h.0 h.1) (key.Edge c) h.2 k in cc)
  one-path (Seq a b) (Join c d) n h k = absurd (let e = same_key n (key.Seq h.0 h.1) (key.Join k.0 k.1) h.2 k.2 in cc)
  one-path (Seq a b) (Star c) n h k = absurd (let e = same_key n (key.Seq h.0 h.1) (key.Star k.0) h.2 k.1 in cc)
  one-path (Join a b) (Edge c) n h k = absurd (let e = same_key n (key.Join h.0 h.1) (key.Edge c) h.2 k in cc)
  one-path (Join a b) (Seq c d) n h k = absurd (let e = same_key n (key.Join h.0 h.1) (key.Seq k.0 k.1) h.2 k.2 in cc)
  one-path (Join a b) (Star c) n h k = absurd (let e = same_key n (key.Join h.0 h.1) (key.Star k.0) h.2 k.1 in cc)
  one-path (Star a) (Edge c) n h k = absurd (let e = same_key n (key.Star h.0) (key.Edge c) h.1 k in cc)
  one-path (Star a) (Seq c d) n h k = absurd (let e = same_key n (key.Star h.0) (key.Seq k.0 k.1) h.1 k.2 in cc)
  one-path (Star a) (Join c d) n h k = absurd (let e = same_key n (key.Star h.0) (key.Join k.0 k.1) h.1 k.2 in cc)

-- ---- entries

-- what stands at a place that was set, and at any other
pub read-same : {A : Type 0} (d : A) (xs : List A) (n : ℕ) (x : A) → n < length xs → unwrap_or (slice_get (slice_set xs n x) n) d ≡ x
read-same d [] n x h = absurd (omega arith)
read-same d (y ∷ xs) zero x h = refl
read-same d (y ∷ xs) (suc n) x h = read-same d xs n x (omega arith)

pub read-other : {A : Type 0} (d : A) (xs : List A) (m n : ℕ) (x : A) → (m ≡ n → ⊥) → unwrap_or (slice_get (slice_set xs n x) m) d ≡ unwrap_or (slice_get xs m) d
read-other d [] m n x h = refl
read-other d (y ∷ xs) zero zero x h = absurd (h refl)
read-other d (y ∷ xs) zero (suc n) x h = refl
read-other d (y ∷ xs) (suc m) zero x h = refl
read-other d (y ∷ xs) (suc m) (suc n) x h = read-other d xs m n x (λ e. h (ap suc e))

pub entry_at-same : (entries : Entries) (n : ℕ) (x : Entry) → n < length entries → entry_at (slice_set entries n x) n ≡ x
entry_at-same entries n x h = read-same blank entries n x h

pub entry_at-other : (entries : Entries) (m n : ℕ) (x : Entry) → (m ≡ n → ⊥) → entry_at (slice_set entries n x) m ≡ entry_at entries m
entry_at-other entries m n x h = read-other blank entries m n x h

pub length-set : {A : Type 0} (xs : List A) (n : ℕ) (x : A) → length (slice_set xs n x) ≡ length xs
length-set [] n x = refl
length-set (y ∷ xs) zero x = refl
length-set (y ∷ xs) (suc n) x = ap suc (length-set xs n x)

pub length-same : {A : Type 0} (x : A) (n : ℕ) → length (replicate n x) ≡ n
length-same x zero = refl
length-same x (suc n) = ap suc (length-same x n)

-- ---- both evaluations side by side

pub agrees-first : (g : Graph) (keys : List Key) → Agrees g keys [] (replicate (length keys) blank)
agrees-first g keys = record { long = length-same blank (length keys); same = λ p n is among. absurd among }

module _ (g : Graph) (keys : List Key) (distinct : AreDistinct keys) where
  pub found_key : (n : ℕ) (k : Key) → slice_get keys n ≡ Some k → key_at keys n ≡ k
  found_key n k e = ap (λ o. unwrap_or o (key.Edge 0)) e

  pub same-formula : (made : Made) (entries : Entries) (p : PathExpr) (n : ℕ) → Agrees g keys made entries → IsPathOf keys p n → IsReady g (paths_of made) p → own g made p ≡ formula_by g entries (key_at keys n)
  same-formula made entries Zero n agrees is ready = absurd ready
  same-formula made entries One n agrees is ready = absurd ready
  same-formula made entries (Edge e) n agrees is ready = sym (ap (formula_by g entries) (found_key n (key.Edge e) is))
  same-formula made entries (Seq a b) n agrees is ready =
      let first = agrees.same a is.0 is.3 ready.0 in
      let second = agrees.same b is.1 is.4 ready.1 in
      sym (ap (formula_by g entries) (found_key n (key.Seq is.0 is.1) is.2)
      ∙ (λ i. sequence_formula (first i).formula (second i).formula (vocabulary_at g (first i).from) (vocabulary_at g (second i).to)))
  same-formula made entries (Join a b) n agrees is ready =
      let first = agrees.same a is.0 is.3 ready.0 in
      let second = agrees.same b is.1 is.4 ready.1 in
      sym (ap (formula_by g entries) (found_key n (key.Join is.0 is.1) is.2)
      ∙ (λ i. join_formula (first i).formula (second i).formula (vocabulary_at g (first i).from) (vocabulary_at g (first i).to)))
  same-formula made entries (Star a) n agrees is ready =
      let turn = agrees.same a is.0 is.2 ready.0 in
      sym (ap (formula_by g entries) (found_key n (key.Star is.0) is.1)
      ∙ (λ i. repetition (turn i).formula (vocabulary_at g (turn i).from)))

  same-ends : (made : Made) (entries : Entries) (p : PathExpr) (n : ℕ) → Agrees g keys made entries → IsPathOf keys p n → IsReady g (paths_of made) p → (f : Transition) →
      entry_of g entries (key_at keys n) f ≡ record { from = start_of g p; to = end_of g p; formula = f }
  same-ends made entries Zero n agrees is ready f = absurd ready
  same-ends made entries One n agrees is ready f = absurd ready
  same-ends made entries (Edge e) n agrees is ready f = ap (λ k. entry_of g entries k f) (found_key n (key.Edge e) is)
  same-ends made entries (Seq a b) n agrees is ready f =
      let first = agrees.same a is.0 is.3 ready.0 in
      let second = agrees.same b is.1 is.4 ready.1 in
      ap (λ k. entry_of g entries k f) (found_key n (key.Seq is.0 is.1) is.2) ∙ (λ i. record { from = (first i).from; to = (second i).to; formula = f })
  same-ends made entries (Join a b) n agrees is ready f =
      let first = agrees.same a is.0 is.3 ready.0 in
      ap (λ k. entry_of g entries k f) (found_key n (key.Join is.0 is.1) is.2) ∙ (λ i. record { from = (first i).from; to = (first i).to; formula = f })
  same-ends made entries (Star a) n agrees is ready f =
      let turn = agrees.same a is.0 is.2 ready.0 in
      ap (λ k. entry_of g entries k f) (found_key n (key.Star is.0) is.1) ∙ (λ i. record { from = (turn i).from; to = (turn i).from; formula = f })

  pub path-within : (p : PathExpr) (n : ℕ) → IsPathOf keys p n → n < length keys
  path-within Zero n h = absurd h
  path-within One n h = absurd h
  path-within (Edge e) n h = slice_get_within keys n (key.Edge e) h
  path-within (Seq a b) n h = slice_get_within keys n (key.Seq h.0 h.1) h.2
  path-within (Join a b) n h = slice_get_within keys n (key.Join h.0 h.1) h.2
  path-within (Star a) n h = slice_get_within keys n (key.Star h.0) h.1

  -- with one path more they agree
  pub agrees-more : (made : Made) (entries : Entries) (p : PathExpr) (n : ℕ) → Agrees g keys made entries → IsPathOf keys p n → IsReady g (paths_of made) p → (f : Transition) →
      Agrees g keys (with_entry made p f) (slice_set entries n (entry_of g entries (key_at keys n) f))
  agrees-more made entries p n agrees is ready f = record { long = length-set entries n new ∙ agrees.long; same = λ q m here among. all q m here among }
    where
      new : Entry
      new = entry_of g entries (key_at keys n) f

      P : PathExpr → Transition → Type 0
      P q x = (m : ℕ) → IsPathOf keys q m → entry_at (slice_set entries n new) m ≡ record { from = start_of g q; to = end_of g q; formula = x }

      inside : n < length entries
      inside = subst (λ l. n < l) (sym agrees.long) (path-within p n is)

      now : P p f
      now m here = ap (entry_at (slice_set entries n new)) (one-number keys distinct p m n here is) ∙ entry_at-same entries n new inside ∙ same-ends made entries p n agrees is ready f

      before : (q : PathExpr) → IsAmong q (paths_of made) → (q ≡ p → ⊥) → P q (formula_at made q)
      before q among other m here =
          entry_at-other entries m n new (λ e. other (one-path keys q p n (subst (IsPathOf keys q) e here) is)) ∙ agrees.same q m here among

      all : (q : PathExpr) (m : ℕ) → IsPathOf keys q m → IsAmong q (paths_of (with_entry made p f)) → entry_at (slice_set entries n new) m ≡ entry_for g (with_entry made p f) q
      all q m here among = known-more P made p f before now q among m here

  module _ (B : Type 0) (end : Made → Posing B) (finish : Entries → Posing B) where
    -- from where both agree, what is left comes to the same
    same-rest : (paths : List PathExpr) (numbers : List ℕ) (made : Made) (entries : Entries) → Agrees g keys made entries → ArePathsOf keys paths numbers → AreReady g (paths_of made) paths →
        ((last : Made) (all : Entries) → Agrees g keys last all → paths_of last ≡ paths_of made ++ paths → end last ≡ finish all) →
        each (with_made g) made paths >>= end ≡ each (with_number g keys) entries numbers >>= finish
    unfolding with_made with_number ◌>>=◌
    same-rest [] [] made entries agrees are ready ends = ends made entries agrees (sym (append-nil (paths_of made)))
    same-rest (p ∷ paths) (n ∷ numbers) made entries agrees are ready ends =
        let entry : Transition → Entries = λ f. slice_set entries n (entry_of g entries (key_at keys n) f) in
        let rest : (f : Transition) → each (with_made g) (with_entry made p f) paths >>= end ≡ each (with_number g keys) (entry f) numbers >>= finish = λ f.
        same-rest paths numbers (with_entry made p f) (entry f) (agrees-more made entries p n agrees are.0 ready.0 f) are.1
        (subst (λ ps. AreReady g ps paths) (sym (paths-entry made p f)) ready.1)
        (λ last all agrees_all is. ends last all agrees_all (is ∙ ap (λ ps. ps ++ paths) (paths-entry made p f) ∙ append_one (paths_of made) p paths)) in
        bind-assoc (own g made p >>= λ f. Done (with_entry made p f)) (λ next. each (with_made g) next paths) end
        ∙ bind-assoc (own g made p) (λ f. Done (with_entry made p f)) (λ next. each (with_made g) next paths >>= end)
        ∙ (λ i. same-formula made entries p n agrees are.0 ready.0 i >>= λ f. rest f i)
        ∙ sym (bind-assoc (formula_by g entries (key_at keys n)) (λ f. Done (entry f)) (λ next. each (with_number g keys) next numbers >>= finish))
        ∙ sym (bind-assoc (formula_by g entries (key_at keys n) >>= λ f. Done (entry f)) (λ next. each (with_number g keys) next numbers) finish)
      where
        append_one : (ps : List PathExpr) (q : PathExpr) (qs : List PathExpr) → (ps ++ q ∷ []) ++ qs ≡ ps ++ q ∷ qs
        append_one [] q qs = refl
        append_one (x ∷ ps) q qs = ap (λ r. x ∷ r) (append_one ps q qs)
    same-rest [] (n ∷ numbers) made entries agrees are ready ends = absurd are
    same-rest (p ∷ paths) [] made entries agrees are ready ends = absurd are

-- ---- the whole

-- a path is made, if it is one
abbrev pub IsMade : Graph → ℕ → PathExpr → Type 0
IsMade g source Zero = Unit {0}
IsMade g source One = Unit {0}
IsMade g source (Edge e) = IsAmong (Edge e) (operations (length g.nodes) g.links source)
IsMade g source (Seq a b) = IsAmong (Seq a b) (operations (length g.nodes) g.links source)
IsMade g source (Join a b) = IsAmong (Join a b) (operations (length g.nodes) g.links source)
IsMade g source (Star a) = IsAmong (Star a) (operations (length g.nodes) g.links source)

-- so is the path at a node
abbrev pub CellIsMade : Graph → ℕ → ℕ → Type 0
CellIsMade g source node = IsMade g source (path_at (length g.nodes) g.links source node)

cells-same : (A : Type 0) (f : ℕ → A) (cells : List (Cell ℕ)) (tell : Cell ℕ → A) (from : ℕ) → ((k : ℕ) (cell : Cell ℕ) → slice_get cells k ≡ Some cell → f (from + k) ≡ tell cell) →
    map f (range_with_len from (length cells)) ≡ map tell cells
cells-same A f [] tell from same = refl
cells-same A f (cell ∷ cells) tell from same =
    let head : f from ≡ tell cell = ap f (let e : from ≡ from + 0 = omega arith in e) ∙ same 0 cell refl in
    let tail = cells-same A f cells tell (from + 1) (λ k c is. ap f (let e : (from + 1) + k ≡ from + suc k = omega arith in e) ∙ same (suc k) c is) in
    λ i. head i ∷ tail i

module _ (g : Graph) (source : ℕ) (keys : List Key) (distinct : AreDistinct keys) (order : List ℕ) (cells : List (Cell ℕ)) (planned : IsPlanned (length g.nodes) g.links source keys order cells)
    (ready : AreReady g [] (operations (length g.nodes) g.links source)) (items : (node : ℕ) → node < length g.nodes → CellIsMade g source node) where
  pub same-cell : (made : Made) (entries : Entries) → Agrees g keys made entries → paths_of made ≡ operations (length g.nodes) g.links source → (node : ℕ) (cell : Cell ℕ) →
      slice_get cells node ≡ Some cell → cell_at g source made node ≡ cell_by entries cell
  same-cell made entries agrees all node cell is = by_cell cell (planned.cells_are node cell is)
    where
      path : PathExpr
      path = path_at (length g.nodes) g.links source node

      lt : node < length g.nodes
      lt = subst (λ n. node < n) planned.one_each (slice_get_within cells node cell is)

      by_path : (p : PathExpr) (n : ℕ) → IsMade g source p → IsPathOf keys p n → cell_of made p ≡ known.Item (entry_at entries n).formula
      by_path Zero n h k = absurd k
      by_path One n h k = absurd k
      by_path p n h k = ap (λ (x : Entry). known.Item x.formula) (sym (agrees.same p n k (subst (IsAmong p) (sym all) h)))

      by_cell : (c : Cell ℕ) → IsCellOf keys path c → cell_of made path ≡ cell_by entries c
      by_cell known.Zero e = ap (cell_of made) e
      by_cell known.One e = ap (cell_of made) e
      by_cell (known.Item n) h = by_path path n (items node lt) h

  pub same-evaluation : evaluated_cells g source ≡ evaluated_cells_by g keys order cells
  unfolding evaluated_cells evaluation evaluated_cells_by entries_of
  same-evaluation =
      same-rest g keys distinct (List (Cell Transition)) (λ made. Done (cells_of g source made)) (λ entries. Done (map (cell_by entries) cells))
      (operations (length g.nodes) g.links source) order [] (replicate (length keys) blank)
      (record { long = length-same blank (length keys); same = λ p n is among. absurd among }) planned.order_is ready
      (λ last all agrees is. ap (λ cs. Done cs)
      (ap (λ n. map (cell_at g source last) (range_with_len 0 n)) (sym planned.one_each)
      ∙ cells-same (Cell Transition) (cell_at g source last) cells (cell_by all) 0 (λ node cell e. ap (cell_at g source last) (zero-add node) ∙ same-cell last all agrees is node cell e)))

pub cells-made : (g : Graph) (source : ℕ) → IsEvaluated g source → (node : ℕ) → node < length g.nodes → CellIsMade g source node
cells-made g source is node lt = by_path (path_at (length g.nodes) g.links source node) (path_at-stands g source is.graph is.source_is node lt)
  where
    by_path : (p : PathExpr) → Stands g (operations (length g.nodes) g.links source) p source node → IsMade g source p
    by_path Zero h = tt
    by_path One h = tt
    by_path p h = h.0

pub plans-evaluate : PlansEvaluate
plans-evaluate g source keys order cells is distinct planned =
    same-evaluation g source keys distinct order cells planned (operations-ready g source is.graph is.source_is) (cells-made g source is)
