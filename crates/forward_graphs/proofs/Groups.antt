-- Numbers in the order of nodes: what a loop over them makes, and that each of them stands there.
use Rattle.std.proofs.Common.{◌≡◌, ◌⊎◌, ℕ, zero, suc, ◌<◌, ◌≤◌, ◌+◌, cond, List, [], ◌∷◌, ◌++◌, map, length, take, drop, replicate, get_or, refl, sym, ◌∙◌, ap, subst, inl, inr, arith, Bool, true, false}
use Rattle.std.specs.Prelude.{slice_set, ◌==◌}
use Rattle.std.specs.List.{AllByRecursion, concat, filter, range_with_len}
use Rattle.std.proofs.lemmas.Bool.{cases_eq, cases_lt, eqb-true, eq-eqb, ne_eqb}
use Rattle.std.proofs.lemmas.List.{append-nil, append_assoc, drop_more, length-set, get_or-set_same, get_or-set_other}
use Rattle.std.proofs.lemmas.List.Elements.{filter_more}
use Rattle.std.proofs.lemmas.List.FromFn.{length-map-range_with_len, get_or-map-range_with_len, fill_by_all}
use Rattle.std.proofs.lemmas.Option.{slice_get-get_or, unwrap_or-slice_get}
use Rattle.items.proofs.Each.{each-append, each-get}
use Rattle.polyhedra.proofs.Lists.{each-filter, filter-passes}
use Rattle.forward_graphs.specs.declared.step.Step.{Step}
use Rattle.forward_graphs.specs.declared.order.StepEnd.{StepEnd}
use Rattle.forward_graphs.specs.declared.order.StepEnd.TheVariants.{Start, Target}
use Rattle.forward_graphs.specs.Order.{node_at, numbers_at, numbers_of, groups, numbers_by_node}
use Rattle.forward_graphs.specs.Placing.{ArePlaced, IsInside, IsPlaced}

-- ---- the numbers below one

range-last : (a n m : ℕ) → a + n ≡ m → range_with_len a n ++ m ∷ [] ≡ range_with_len a (suc n)
range-last a zero m e = let same : m ≡ a = omega (arith, e) in ap (λ k. k ∷ []) same
range-last a (suc n) m e = ap (λ r. a ∷ r) (range-last (a + 1) n m (omega (arith, e)))

pub range-next : (n : ℕ) (made next : List ℕ) → made ≡ range_with_len 0 n → next ≡ made ++ n ∷ [] → next ≡ range_with_len 0 (n + 1)
range-next n made next is pushed =
    let more : suc n ≡ n + 1 = omega arith in
    pushed ∙ ap (λ r. r ++ n ∷ []) is ∙ range-last 0 n n (omega arith) ∙ ap (range_with_len 0) more

-- ---- groups

module _ (nodes : ℕ) (steps : List Step) (end : StepEnd) where
  -- those of one number more
  group-more : (numbers : List ℕ) (i number node : ℕ) → i < length numbers → number ≡ get_or numbers i number →
      numbers_at steps end (take (i + 1) numbers) node ≡ numbers_at steps end (take i numbers) node ++ cond (node_at steps end number == node) (number ∷ []) []
  group-more numbers i number node lt is =
      filter_more (λ n. node_at steps end n == node) numbers i number lt
      ∙ ap (λ n. numbers_at steps end (take i numbers) node ++ cond (node_at steps end n == node) (n ∷ []) []) (sym is)

  pub groups-next : (numbers : List ℕ) (i number node : ℕ) (made next : List (List ℕ)) → i < length numbers → number ≡ get_or numbers i number →
      node ≡ node_at steps end number → node_at steps end number < nodes → made ≡ groups nodes steps end (take i numbers) →
      next ≡ slice_set made node (get_or made node [] ++ number ∷ []) → next ≡ groups nodes steps end (take (i + 1) numbers)
  groups-next numbers i number node made next lt is node_is within made_is put =
      fill_by_all (numbers_at steps end (take (i + 1) numbers)) next nodes [] long each
    where
      here : ℕ
      here = node_at steps end number

      set : next ≡ slice_set made here (get_or made here [] ++ number ∷ [])
      set = subst (λ k. next ≡ slice_set made k (get_or made k [] ++ number ∷ [])) node_is put

      before : length made ≡ nodes
      before = ap length made_is ∙ length-map-range_with_len (numbers_at steps end (take i numbers)) 0 nodes

      long : length next ≡ nodes
      long = ap length set ∙ length-set made here (get_or made here [] ++ number ∷ []) ∙ before

      old : (k : ℕ) → k < nodes → get_or made k [] ≡ numbers_at steps end (take i numbers) k
      old k less = ap (λ xs. get_or xs k []) made_is ∙ get_or-map-range_with_len (numbers_at steps end (take i numbers)) 0 nodes k k [] less (omega arith)

      at_here : (k : ℕ) → k < nodes → (k ≡ here) ⊎ (k ≡ here → ⊥) → get_or next k [] ≡ numbers_at steps end (take (i + 1) numbers) k
      at_here k less (inl e) =
          let inside : here < length made = subst (λ n. here < n) (sym before) within in
          ap (λ xs. get_or xs k []) set ∙ ap (λ n. get_or (slice_set made here (get_or made here [] ++ number ∷ [])) n []) e
          ∙ get_or-set_same made here (get_or made here [] ++ number ∷ []) [] inside
          ∙ ap (λ n. get_or made n [] ++ number ∷ []) (sym e)
          ∙ ap (λ xs. xs ++ number ∷ []) (old k less)
          ∙ ap (λ b. numbers_at steps end (take i numbers) k ++ cond b (number ∷ []) []) (sym (eq-eqb here k (sym e)))
          ∙ sym (group-more numbers i number k lt is)
      at_here k less (inr ne) =
          ap (λ xs. get_or xs k []) set ∙ get_or-set_other made here k (get_or made here [] ++ number ∷ []) [] ne
          ∙ old k less ∙ sym (append-nil (numbers_at steps end (take i numbers) k))
          ∙ ap (λ b. numbers_at steps end (take i numbers) k ++ cond b (number ∷ []) []) (sym (ne_eqb here k (λ e. ne (sym e))))
          ∙ sym (group-more numbers i number k lt is)

      each : (k : ℕ) → k < nodes → get_or next k [] ≡ numbers_at steps end (take (i + 1) numbers) k
      each k less = at_here k less (cases_eq k here)

-- no numbers yet
groups-from : (steps : List Step) (end : StepEnd) (a n : ℕ) → replicate n [] ≡ map (numbers_at steps end []) (range_with_len a n)
groups-from steps end a zero = refl
groups-from steps end a (suc n) = ap (λ rest. [] ∷ rest) (groups-from steps end (a + 1) n)

pub groups-begin : (steps : List Step) (end : StepEnd) (nodes : ℕ) (made : List (List ℕ)) → made ≡ replicate nodes [] → made ≡ groups nodes steps end []
groups-begin steps end nodes made is = is ∙ groups-from steps end 0 nodes

pub groups-length : (nodes : ℕ) (steps : List Step) (end : StepEnd) (numbers : List ℕ) (made : List (List ℕ)) → made ≡ groups nodes steps end numbers → length made ≡ nodes
groups-length nodes steps end numbers made is = ap length is ∙ length-map-range_with_len (numbers_at steps end numbers) 0 nodes

-- the numbers of one group more
pub concat-next : (groups : List (List ℕ)) (i : ℕ) (made next group : List ℕ) → i < length groups → group ≡ get_or groups i group → made ++ concat (drop i groups) ≡ concat groups → next ≡ made ++ group
    → next ++ concat (drop (i + 1) groups) ≡ concat groups
concat-next groups i made next group lt is before pushed =
    ap (λ r. r ++ concat (drop (i + 1) groups)) pushed ∙ append_assoc made group (concat (drop (i + 1) groups))
    ∙ ap (λ r. made ++ r) (ap (λ r. r ++ concat (drop (i + 1) groups)) is ∙ sym (ap concat (drop_more groups i group lt))) ∙ before

pub each-or : {A : Type 0} (P : A → Type 0) (xs : List A) (i : ℕ) (d : A) → AllByRecursion P xs → i < length xs → P (get_or xs i d)
each-or P xs i d all lt = each-get P xs i (get_or xs i d) all (slice_get-get_or xs i d lt)

-- ---- numbers of steps between nodes

pub placed-within : (nodes : ℕ) (steps : List Step) (end : StepEnd) (number : ℕ) → IsPlaced nodes steps number → node_at steps end number < nodes
placed-within nodes steps Start number is = is.inside.start
placed-within nodes steps Target number is = is.inside.target

-- ---- what each number is, each number in order is

each-concat : (P : ℕ → Type 0) (f : ℕ → List ℕ) → ((n : ℕ) → AllByRecursion P (f n)) → (ns : List ℕ) → AllByRecursion P (concat (map f ns))
each-concat P f all [] = tt
each-concat P f all (n ∷ ns) = each-append P (f n) (concat (map f ns)) (all n) (each-concat P f all ns)

pub each-ordered : (nodes : ℕ) (steps : List Step) (end : StepEnd) (P : ℕ → Type 0) (numbers : List ℕ) → AllByRecursion P numbers → AllByRecursion P (numbers_by_node nodes steps end numbers)
each-ordered nodes steps end P numbers all =
    each-concat P (numbers_at steps end numbers) (λ node. each-filter P (λ n. node_at steps end n == node) numbers all) (range_with_len 0 nodes)

-- the numbers of a node have it at that end
pub each-at : (steps : List Step) (end : StepEnd) (numbers : List ℕ) (node : ℕ) → AllByRecursion (λ n. node_at steps end n ≡ node) (numbers_at steps end numbers node)
each-at steps end numbers node = all_same (numbers_at steps end numbers node) (filter-passes (λ n. node_at steps end n == node) numbers)
  where
    all_same : (xs : List ℕ) → AllByRecursion (λ n. (node_at steps end n == node) ≡ true) xs → AllByRecursion (λ n. node_at steps end n ≡ node) xs
    all_same [] all = tt
    all_same (x ∷ xs) all = (eqb-true (node_at steps end x) node all.0, all_same xs all.1)

pub each-number : (steps : List Step) (end : StepEnd) (numbers : List ℕ) (node : ℕ) (P : ℕ → Type 0) → AllByRecursion P numbers → AllByRecursion P (numbers_at steps end numbers node)
each-number steps end numbers node P all = each-filter P (λ n. node_at steps end n == node) numbers all

pub each-below : (P : ℕ → Type 0) (a n : ℕ) → ((k : ℕ) → k < a + n → P k) → AllByRecursion P (range_with_len a n)
each-below P a zero all = tt
each-below P a (suc n) all = (all a (omega arith), each-below P (a + 1) n (λ k lt. all k (omega (arith, lt))))

-- ---- each number stands in order

abbrev pub IsIn : ℕ → List ℕ → Type 0
IsIn n [] = ⊥
IsIn n (x ∷ xs) = (n ≡ x) ⊎ IsIn n xs

in-front : (n : ℕ) (xs ys : List ℕ) → IsIn n xs → IsIn n (xs ++ ys)
in-front n [] ys h = absurd h
in-front n (x ∷ xs) ys (inl e) = inl e
in-front n (x ∷ xs) ys (inr h) = inr (in-front n xs ys h)

in-back : (n : ℕ) (xs ys : List ℕ) → IsIn n ys → IsIn n (xs ++ ys)
in-back n [] ys h = h
in-back n (x ∷ xs) ys h = inr (in-back n xs ys h)

in-filter : (test : ℕ → Bool) (n : ℕ) (xs : List ℕ) → test n ≡ true → IsIn n xs → IsIn n (filter test xs)
in-filter test n [] passes h = absurd h
in-filter test n (x ∷ xs) passes (inl e) = subst (λ b. IsIn n (cond b (x ∷ filter test xs) (filter test xs))) (sym passes ∙ ap test e) (inl e)
in-filter test n (x ∷ xs) passes (inr h) = by_test (test x) (in-filter test n xs passes h)
  where
    by_test : (b : Bool) → IsIn n (filter test xs) → IsIn n (cond b (x ∷ filter test xs) (filter test xs))
    by_test true k = inr k
    by_test false k = k

pub in-range : (a n k : ℕ) → a ≤ k → k < a + n → IsIn k (range_with_len a n)
in-range a zero k from below = absurd (omega (arith, from, below))
in-range a (suc n) k from below = by_case (cases_lt a k) (λ h. in-range (a + 1) n k (omega (arith, h)) (omega (arith, below)))
  where
    by_case : (a < k) ⊎ (k ≤ a) → (a < k → IsIn k (range_with_len (a + 1) n)) → IsIn k (range_with_len a (suc n))
    by_case (inl h) rest = inr (rest h)
    by_case (inr h) rest = inl (omega (arith, h, from))

in-concat : (f : ℕ → List ℕ) (n m : ℕ) (ns : List ℕ) → IsIn m ns → IsIn n (f m) → IsIn n (concat (map f ns))
in-concat f n m [] h k = absurd h
in-concat f n m (x ∷ ns) (inl e) k = in-front n (f x) (concat (map f ns)) (subst (λ y. IsIn n (f y)) e k)
in-concat f n m (x ∷ ns) (inr h) k = in-back n (f x) (concat (map f ns)) (in-concat f n m ns h k)

pub in-ordered : (nodes : ℕ) (steps : List Step) (end : StepEnd) (numbers : List ℕ) (n : ℕ) → node_at steps end n < nodes → IsIn n numbers → IsIn n (numbers_by_node nodes steps end numbers)
in-ordered nodes steps end numbers n lt h =
    in-concat (numbers_at steps end numbers) n (node_at steps end n) (range_with_len 0 nodes)
    (in-range 0 nodes (node_at steps end n) (omega arith) (omega (arith, lt)))
    (in-filter (λ k. node_at steps end k == node_at steps end n) n numbers (eq-eqb (node_at steps end n) (node_at steps end n) refl) h)

pub in-group : (steps : List Step) (end : StepEnd) (numbers : List ℕ) (n node : ℕ) → node_at steps end n ≡ node → IsIn n numbers → IsIn n (numbers_at steps end numbers node)
in-group steps end numbers n node is h = in-filter (λ k. node_at steps end k == node) n numbers (eq-eqb (node_at steps end n) node is) h

pub placed-all : (nodes : ℕ) (steps : List Step) → AllByRecursion (IsInside nodes) steps → ArePlaced nodes steps (numbers_of steps)
placed-all nodes steps all =
    each-below (IsPlaced nodes steps) 0 (length steps)
    (λ k lt.
    let within : k < length steps = omega (arith, lt) in
    record { is = within; inside = subst (IsInside nodes) (sym (unwrap_or-slice_get steps k _)) (each-or (IsInside nodes) steps k _ all within) })

pub placed-ordered : (nodes : ℕ) (steps : List Step) (end : StepEnd) (numbers : List ℕ) → ArePlaced nodes steps numbers → ArePlaced nodes steps (numbers_by_node nodes steps end numbers)
placed-ordered nodes steps end numbers all = each-ordered nodes steps end (IsPlaced nodes steps) numbers all
