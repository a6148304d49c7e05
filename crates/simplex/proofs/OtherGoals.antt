-- A corner of the rows with another objective as its goal.
use Rattle.std.proofs.Common.{◌≡◌, ◌≢◌, ℕ, suc, ◌+◌, ◌<◌, ◌≤◌, Bool, true, false, cond, List, [], ◌∷◌, ◌++◌, drop, length, get_or, refl, sym, ap, subst, ◌∙◌, arith, ⊎_elim, Ok, ℤ, pos, negsuc, int_eq, ◌≤ℤ◌, ◌<ℤ◌}
use Rattle.std.proofs.lemmas.Int.{ints}
use Rattle.std.proofs.lemmas.Bool.{cases_eq, eq-eqb, ne_eqb, false≢true}
use Rattle.items.specs.Gives.{◌>>=◌}
use Rattle.items.proofs.Gives.{on_ok}
use Rattle.whole_numbers.specs.Divisors.{gcd_of_all}
use Rattle.whole_numbers.specs.Fits.{product_of}
use Rattle.linear_terms.specs.declared.col.Col.{Col}
use Rattle.linear_terms.specs.declared.row.Kind.{Kind}
use Rattle.linear_terms.specs.declared.row.Kind.TheVariants.{AtMost, Equal}
use Rattle.linear_terms.specs.declared.row.Row.{Row}
use Rattle.linear_terms.specs.Polynomial.{Polynomial}
use Rattle.farkas_check.specs.Relations.{entry}
use Rattle.simplex.specs.Endings.{cleared_line, IsFront, IsMetFor}
use Rattle.simplex.specs.Exchange.{sum_of_lines, reduced_line, line_without, numbers_of, choices_of, HasShape, IsTableauOf, ArePrimitive}
use Rattle.simplex.specs.Frames.{IsOwnCombination, IsWholeTableau, IsCleared}
use Rattle.simplex.specs.Raise.{Framed, enters_at, leaves_at}
use Rattle.simplex.specs.Rows.{kinds_of, kind_at, whole_line, lines_from, framed_tableau}
use Rattle.simplex.specs.Search.{IsFixed, IsMet}
use Rattle.simplex.specs.Suprema.{with_goal, frame_over}
use Rattle.simplex.specs.declared.tableau.Tableau.{Tableau}
use Rattle.simplex.proofs.Divisors.{one-primitive, line_without-primitive}
use Rattle.simplex.proofs.RowTableaux.{at_front, after_front, long, kinds-length, lines_from-length, whole_line-length, whole_line-unit, numbers-unit, framed-is}
use Rattle.simplex.proofs.Numbers.{line_without-is, line_without-length}
use Rattle.simplex.proofs.Objectives.{more_rows}
use Rattle.simplex.proofs.Swaps.{HasGoal, IsClearedTo, cleared_first, cleared_more, swapped_is}

not_zero : (z : ℤ) → pos 0 <ℤ z → z ≡ pos 0 → ⊥
not_zero z p e = omega (arith, ints)

-- ---- the goal's line

record IsGoalLine (lines goal units columns : ℕ) (other numbers : ℕ → ℕ → ℤ) (chosen : ℕ → ℕ) (line : List ℤ) : Type 0 where
  wide : length line ≡ columns
  primitive : gcd_of_all line ≡ 1
  is : IsClearedTo lines goal units columns other numbers chosen goal (entry line)

goal_line-cleared : (goal units : ℕ) (frame other : ℕ → ℕ → ℤ) (t : Tableau) → HasGoal (length t.lines) goal units (units + length t.lines) frame other (numbers_of t) (choices_of t) → HasShape (units + length t.lines) t
    → (pivots : List (List ℤ)) (place : ℕ) (line made : List ℤ) → place + length pivots ≡ goal → ((i : ℕ) → i < length pivots → get_or pivots i [] ≡ get_or t.lines (place + i) [])
    → length line ≡ units + length t.lines → gcd_of_all line ≡ 1 → IsClearedTo (length t.lines) goal units (units + length t.lines) other (numbers_of t) (choices_of t) place (entry line)
    → cleared_line pivots t.chosen place line ≡ Ok made → IsGoalLine (length t.lines) goal units (units + length t.lines) other (numbers_of t) (choices_of t) made
goal_line-cleared goal units frame other t s shape [] place line made at there wide primitive c e =
    let same : line ≡ made = cc in
    let last : place ≡ goal = omega (arith, at) in
    subst (λ zs. IsGoalLine (length t.lines) goal units (units + length t.lines) other (numbers_of t) (choices_of t) zs) same
    (record { wide = wide; primitive = primitive; is = subst (λ (n : ℕ). IsClearedTo (length t.lines) goal units (units + length t.lines) other (numbers_of t) (choices_of t) n (entry line)) last c })
goal_line-cleared goal units frame other t s shape (pivot ∷ pivots) place line made at there wide primitive c e =
    on_ok (line_without (choices_of t place) pivot line) (λ w. cleared_line pivots t.chosen (place + 1) w) made e
    (λ w f g. goal_line-cleared goal units frame other t s shape pivots (place + 1) w made (omega (arith, at)) there_next (wide_next w f) (primitive_next w f) (cleared_next w f) g)
  where
    before : place < goal
    before = omega (arith, at)

    within : place < length t.lines
    within = let h : goal < length t.lines = s.here in omega (arith, h, before)

    is : pivot ≡ get_or t.lines place []
    is = there 0 (omega arith) ∙ (let z : place + 0 ≡ place = omega arith in ap (λ (n : ℕ). get_or t.lines n []) z)

    lengths : length line ≡ length pivot
    lengths = wide ∙ sym (ap length is ∙ shape.wide place within)

    cleared_next : (w : List ℤ) → line_without (choices_of t place) pivot line ≡ Ok w → IsClearedTo (length t.lines) goal units (units + length t.lines) other (numbers_of t) (choices_of t) (place + 1) (entry w)
    cleared_next w f =
        cleared_more (length t.lines) goal units (units + length t.lines) frame other (numbers_of t) (choices_of t) s place (entry line) (entry w) before c
        (subst (λ zs. IsCleared (entry line) (entry zs) (entry w) (choices_of t place)) is
        (line_without-is (choices_of t place) pivot line w lengths (subst (λ zs. pos 0 <ℤ entry zs (choices_of t place)) (sym is) (s.tableau.own place within)) f))

    there_next : (i : ℕ) → i < length pivots → get_or pivots i [] ≡ get_or t.lines (place + 1 + i) []
    there_next i h = there (suc i) (omega (arith, h)) ∙ (let z : place + suc i ≡ place + 1 + i = omega arith in ap (λ (n : ℕ). get_or t.lines n []) z)

    wide_next : (w : List ℤ) → line_without (choices_of t place) pivot line ≡ Ok w → length w ≡ units + length t.lines
    wide_next w f = line_without-length (choices_of t place) pivot line w lengths f ∙ wide

    primitive_next : (w : List ℤ) → line_without (choices_of t place) pivot line ≡ Ok w → gcd_of_all w ≡ 1
    primitive_next w f = line_without-primitive (choices_of t place) pivot line w (units + goal) primitive f (not_zero (entry w (units + goal)) (cleared_next w f).own)

-- one step of the code
pub cleared-next : (lines : List (List ℤ)) (chosen : List ℕ) (place : ℕ) (pivot line made : List ℤ) → drop place lines ≡ pivot ∷ drop (place + 1) lines → line_without (get_or chosen place 0) pivot line ≡ Ok made → cleared_line (drop (place + 1) lines) chosen (place + 1) made ≡ cleared_line (drop place lines) chosen place line
cleared-next lines chosen place pivot line made e f = sym (ap (λ ls. cleared_line ls chosen place line) e ∙ ap (λ r. r >>= λ w. cleared_line (drop (place + 1) lines) chosen (place + 1) w) f)

-- a line that is 0 at the column stays as it is
pub zero-cleared : (column : ℕ) (pivot line : List ℤ) → entry line column ≡ pos 0 → line_without column pivot line ≡ Ok line
zero-cleared column pivot line e =
    ap (λ z. cond (int_eq z (pos 0)) (Ok line) (product_of (entry line column) (negsuc 0) >>= λ q. sum_of_lines (entry pivot column) line q pivot >>= λ made. Ok (reduced_line made))) e

-- ---- the frames of two objectives

abbrev pub goal_row : Polynomial → Row
goal_row p = record { poly = p; kind = AtMost }

lines_from-last : (cs : List (List Col)) (count place : ℕ) (rows : List Row) (row : Row) → lines_from cs count place (rows ++ row ∷ []) ≡ lines_from cs count place rows ++ whole_line cs count (place + length rows) row ∷ []
lines_from-last cs count place [] row = let z : place ≡ place + 0 = omega arith in ap (λ (n : ℕ). whole_line cs count n row ∷ []) z
lines_from-last cs count place (first ∷ rows) row =
    let z : place + 1 + length rows ≡ place + length (first ∷ rows) = omega arith in
    ap (λ ls. whole_line cs count place first ∷ ls) (lines_from-last cs count (place + 1) rows row ∙ ap (λ (n : ℕ). lines_from cs count (place + 1) rows ++ whole_line cs count n row ∷ []) z)

module _ (cs : List (List Col)) (rows : List Row) where
  abbrev row_lines : List (List ℤ)
  row_lines = lines_from cs (length rows + 1) 0 rows

  abbrev pub goal_line : Polynomial → List ℤ
  goal_line p = whole_line cs (length rows + 1) (length rows) (goal_row p)

  abbrev frame_of : Polynomial → Tableau
  frame_of p = framed_tableau cs (with_goal rows p)

  frame-lines : (p : Polynomial) → (frame_of p).lines ≡ row_lines ++ goal_line p ∷ []
  frame-lines p =
      let z : 0 + length rows ≡ length rows = omega arith in
      ap (λ (n : ℕ). lines_from cs n 0 (with_goal rows p)) (more_rows rows p) ∙ lines_from-last cs (length rows + 1) 0 rows (goal_row p)
      ∙ ap (λ (n : ℕ). row_lines ++ whole_line cs (length rows + 1) n (goal_row p) ∷ []) z

  row_lines-length : length row_lines ≡ length rows
  row_lines-length = lines_from-length cs (length rows + 1) 0 rows

  -- the lines of the rows are the same
  frame-row : (p : Polynomial) (l : ℕ) → l < length rows → get_or (frame_of p).lines l [] ≡ get_or row_lines l []
  frame-row p l h = ap (λ ls. get_or ls l []) (frame-lines p) ∙ at_front row_lines (goal_line p ∷ []) [] l (let e : length row_lines ≡ length rows = row_lines-length in omega (arith, e, h))

  frame-goal : (p : Polynomial) → get_or (frame_of p).lines (length rows) [] ≡ goal_line p
  frame-goal p =
      let e : length rows ≡ length row_lines + 0 = (let f : length row_lines ≡ length rows = row_lines-length in omega (arith, f)) in
      ap (λ ls. get_or ls (length rows) []) (frame-lines p) ∙ ap (λ (n : ℕ). get_or (row_lines ++ goal_line p ∷ []) n []) e ∙ after_front row_lines (goal_line p ∷ []) [] 0

  goal_line-long : (p : Polynomial) → length (goal_line p) ≡ length cs + 1 + (length rows + 1)
  goal_line-long p = whole_line-length cs (length rows + 1) (length rows) (goal_row p)

  goal_line-primitive : (p : Polynomial) → gcd_of_all (goal_line p) ≡ 1
  goal_line-primitive p = one-primitive (goal_line p) (length cs + 1 + length rows) (whole_line-unit cs (length rows + 1) (length rows) (goal_row p) (length rows) (omega arith) ∙ ap (λ (b : Bool). cond b (pos 1) (pos 0)) (eq-eqb (length rows) (length rows) refl))

  frame-many : (p : Polynomial) → length (frame_of p).lines ≡ length rows + 1
  frame-many p = lines_from-length cs (length (with_goal rows p)) 0 (with_goal rows p) ∙ more_rows rows p

  module _ (p q : Polynomial) (enters : List Bool) (t : Tableau) (met : IsMetFor cs rows p enters t) where
    pub many : length t.lines ≡ length rows + 1
    many = sym met.placed.marked.sized.many ∙ kinds-length (with_goal rows p) ∙ more_rows rows p

    goal_here : length rows < length t.lines
    goal_here = let e : length t.lines ≡ length rows + 1 = many in omega (arith, e)

    goal_kind : kind_at (kinds_of (with_goal rows p)) (length rows) ≡ AtMost
    goal_kind = met.placed.marked.sized.goals (length rows) (omega arith) goal_here

    goal_out : enters_at enters (length cs + 1 + length rows) ≡ false
    goal_out = met.placed.out (length rows) (omega arith) goal_here

    goal_own : choices_of t (length rows) ≡ length cs + 1 + length rows
    goal_own = met.placed.marked.waiting (length rows) goal_here goal_kind goal_out

    row_place : (l : ℕ) → l < length t.lines → l ≢ length rows → l < length rows
    row_place l h apart = let e : length t.lines ≡ length rows + 1 = many in omega (arith, e, h, apart)

    in_goals : (l : ℕ) → l < length t.lines → l < length (with_goal rows q)
    in_goals l h = subst (λ (n : ℕ). l < n) (many ∙ sym (more_rows rows q)) h

    -- the columns and the lengths that the clearing asks for
    module _ (pivots : List (List ℤ)) (front : IsFront t.lines pivots) where
      pivots_many : length pivots ≡ length rows
      pivots_many = let a : length t.lines ≡ length pivots + 1 = ap length front.is ∙ long pivots (front.last ∷ []) in let b : length t.lines ≡ length rows + 1 = many in omega (arith, a, b)

      in_lines : (k : ℕ) → k < length pivots → k < length t.lines
      in_lines k h = let a : length pivots ≡ length rows = pivots_many in let b : length t.lines ≡ length rows + 1 = many in omega (arith, a, b, h)

      pivot_at : (k : ℕ) → k < length pivots → get_or pivots k [] ≡ get_or t.lines k []
      pivot_at k h = sym (at_front pivots (front.last ∷ []) [] k h) ∙ ap (λ ls. get_or ls k []) (sym front.is)

      wide_goal : length (goal_line q) ≡ length cs + 1 + length t.lines
      wide_goal = goal_line-long q ∙ ap (λ (n : ℕ). length cs + 1 + n) (sym many)

      pub choices_within : (k : ℕ) → k < length pivots → choices_of t k < length (goal_line q)
      choices_within k h = subst (λ (n : ℕ). choices_of t k < n) (sym wide_goal) (met.placed.marked.sized.tableau.within k (in_lines k h))

      pub pivots_wide : (k : ℕ) → k < length pivots → length (get_or pivots k []) ≡ length (goal_line q)
      pivots_wide k h = ap length (pivot_at k h) ∙ met.placed.marked.sized.tableau.shape.wide k (in_lines k h) ∙ sym wide_goal

    has_goal : HasGoal (length t.lines) (length rows) (length cs + 1) (length cs + 1 + length t.lines) (numbers_of (frame_of p)) (numbers_of (frame_of q)) (numbers_of t) (choices_of t)
    has_goal = record {
      tableau = met.placed.marked.sized.tableau.is;
      wide = refl;
      within = met.placed.marked.sized.tableau.within;
      here = goal_here;
      own = goal_own;
      same = λ l j h apart. ap (λ zs. entry zs j) (frame-row q l (row_place l h apart) ∙ sym (frame-row p l (row_place l h apart)));
      apart = λ l h apart. numbers-unit cs (with_goal rows q) l (length rows) (in_goals l h) (in_goals (length rows) goal_here) ∙ ap (λ (b : Bool). cond b (pos 1) (pos 0)) (ne_eqb (length rows) l (λ e. apart (sym e)));
      unit = numbers-unit cs (with_goal rows q) (length rows) (length rows) (in_goals (length rows) goal_here) (in_goals (length rows) goal_here) ∙ ap (λ (b : Bool). cond b (pos 1) (pos 0)) (eq-eqb (length rows) (length rows) refl);
      whole = subst (λ (n : ℕ). IsOwnCombination n (length cs + 1) (length cs + 1 + n) (numbers_of (frame_of q)) (numbers_of (frame_of q) (length rows))) (frame-many q ∙ sym many)
          ((framed-is cs (with_goal rows q)).is.combination (length rows) (subst (λ (n : ℕ). length rows < n) (sym (frame-many q)) (omega arith)));
    }

-- ---- a corner with other numbers in its goal's line

module _ (over : Framed) (other : ℕ → ℕ → ℤ) (constants : ℕ) (kinds : List Kind) (enters : List Bool) (t : Tableau) (lines : List (List ℤ)) (met : IsMet over constants kinds enters t)
    (many : length t.lines ≡ over.rows + 1) (each : length lines ≡ length t.lines) (rows : (i : ℕ) → i < over.rows → get_or lines i [] ≡ get_or t.lines i []) where
  abbrev now : Tableau
  now = record { lines = lines; chosen = t.chosen }

  abbrev next : Framed
  next = record { units = over.units; rows = over.rows; frame = other }

  in_t : (l : ℕ) → l < length lines → l < length t.lines
  in_t l h = subst (λ (n : ℕ). l < n) each h

  goal_in : over.rows < length t.lines
  goal_in = omega (arith, many)

  goal_stays : choices_of t over.rows ≡ over.units + over.rows
  goal_stays = met.placed.marked.waiting over.rows goal_in (met.placed.marked.sized.goals over.rows (omega arith) goal_in) (met.placed.out over.rows (omega arith) goal_in)

  row_at : (i : ℕ) → i < length t.lines → i ≢ over.rows → i < over.rows
  row_at i h apart = omega (arith, h, apart, many)

  same : (i j : ℕ) → i < over.rows → numbers_of now i j ≡ numbers_of t i j
  same i j h = ap (λ zs. entry zs j) (rows i h)

  differ : {P : Type 0} (k : Kind) → k ≡ AtMost → k ≡ Equal → P
  differ AtMost e f = cc
  differ Equal e f = cc

  fixed_now : (i : ℕ) → i < over.rows → IsFixed over constants kinds t i → IsFixed next constants kinds now i
  fixed_now i h f = record {
    flat = λ j m. same i j h ∙ f.flat j m;
    corner = same i constants h ∙ f.corner;
    apart = λ m g k. same i (over.units + m) h ∙ f.apart m (in_t m g) k;
  }

  pub met_now : IsTableauOf over.units other now → ArePrimitive now → IsMet next constants kinds enters now
  met_now tableau primitive = record {
    placed = record {
      marked = record {
        sized = record { tableau = tableau; units = met.placed.marked.sized.units; many = met.placed.marked.sized.many ∙ sym each; apart = λ i h. met.placed.marked.sized.apart i (in_t i h); primitive = primitive; inside = subst (λ (n : ℕ). over.rows ≤ n) (sym each) met.placed.marked.sized.inside; goals = λ l h k. met.placed.marked.sized.goals l h (in_t l k) };
        wide = met.placed.marked.wide ∙ ap (λ (n : ℕ). over.units + n) (sym each);
        fixed = λ i l h g c k. fixed_now i (row_at i (in_t i h) (not_goal i l c k)) (met.placed.marked.fixed i l (in_t i h) (in_t l g) c k);
        entering = λ j e. let u = met.placed.marked.entering j e in record { row = u.row; here = subst (λ (n : ℕ). u.row < n) (sym each) u.here; is = u.is; kind = u.kind };
        waiting = λ l h k e. met.placed.marked.waiting l (in_t l h) k e;
      };
      out = λ l h k. met.placed.out l h (in_t l k);
      flat = λ i r h c j m. same i j r ∙ met.placed.flat i r (in_t i h) c j m;
      corner = λ i h e. subst (λ (z : ℤ). z ≤ℤ pos 0) (sym (same i constants (row_at i (in_t i h) (λ is. stays i is e)))) (met.placed.corner i (in_t i h) e);
    };
    kept = met.kept;
  }
    where
      not_goal : (i l : ℕ) → choices_of t i ≡ over.units + l → kind_at kinds l ≡ Equal → i ≢ over.rows
      not_goal i l c k is = differ (kind_at kinds l) (ap (kind_at kinds) row ∙ met.placed.marked.sized.goals over.rows (omega arith) goal_in) k
        where
          row : l ≡ over.rows
          row = let a : over.units + l ≡ over.units + over.rows = sym c ∙ ap (choices_of t) is ∙ goal_stays in omega (arith, a)

      stays : (i : ℕ) → i ≡ over.rows → leaves_at enters t i ≡ true → ⊥
      stays i is e = false≢true (sym (ap (λ (k : ℕ). enters_at enters (choices_of t k)) is ∙ ap (enters_at enters) goal_stays ∙ met.placed.out over.rows (omega arith) goal_in) ∙ e)

-- ---- the corner with the other objective

-- a tableau with other lines
abbrev with_last : List (List ℤ) → List ℤ → Tableau → Tableau
with_last pivots made t = record { lines = pivots ++ made ∷ []; chosen = t.chosen }

kinds-goal : (rows : List Row) (p q : Polynomial) → kinds_of (with_goal rows p) ≡ kinds_of (with_goal rows q)
kinds-goal [] p q = refl
kinds-goal (row ∷ rows) p q = ap (λ ks. row.kind ∷ ks) (kinds-goal rows p q)

pub met_turned : (cs : List (List Col)) (rows : List Row) (p q : Polynomial) (enters : List Bool) (t : Tableau) (pivots : List (List ℤ)) (made : List ℤ) → IsMetFor cs rows p enters t → IsFront t.lines pivots
    → cleared_line pivots t.chosen 0 (whole_line cs (length rows + 1) (length rows) (goal_row q)) ≡ Ok made → IsMetFor cs rows q enters (record { lines = pivots ++ made ∷ []; chosen = t.chosen })
met_turned cs rows p q enters t pivots made met front e =
    subst (λ (ks : List Kind). IsMet (frame_over cs rows q) (length cs) ks enters (record { lines = pivots ++ made ∷ []; chosen = t.chosen })) (kinds-goal rows p q)
    (met_now (frame_over cs rows p) (numbers_of (framed_tableau cs (with_goal rows q))) (length cs) (kinds_of (with_goal rows p)) enters t (pivots ++ made ∷ []) met all each rows_same tableau primitive)
  where
    all : length t.lines ≡ length rows + 1
    all = many cs rows p q enters t met

    few : length pivots ≡ length rows
    few = pivots_many cs rows p q enters t met pivots front

    each : length (pivots ++ made ∷ []) ≡ length t.lines
    each = long pivots (made ∷ []) ∙ (let a : length pivots ≡ length rows = few in let b : length t.lines ≡ length rows + 1 = all in omega (arith, a, b))

    in_pivots : (i : ℕ) → i < length rows → i < length pivots
    in_pivots i h = subst (λ (n : ℕ). i < n) (sym few) h

    at : (i : ℕ) → i < length pivots → get_or pivots i [] ≡ get_or t.lines i []
    at = pivot_at cs rows p q enters t met pivots front

    rows_same : (i : ℕ) → i < length rows → get_or (pivots ++ made ∷ []) i [] ≡ get_or t.lines i []
    rows_same i h = at_front pivots (made ∷ []) [] i (in_pivots i h) ∙ at i (in_pivots i h)

    goal_there : get_or (pivots ++ made ∷ []) (length rows) [] ≡ made
    goal_there = let z : length rows ≡ length pivots + 0 = (let a : length pivots ≡ length rows = few in omega (arith, a)) in ap (λ (n : ℕ). get_or (pivots ++ made ∷ []) n []) z ∙ after_front pivots (made ∷ []) [] 0

    s : HasGoal (length t.lines) (length rows) (length cs + 1) (length cs + 1 + length t.lines) (numbers_of (framed_tableau cs (with_goal rows p))) (numbers_of (framed_tableau cs (with_goal rows q))) (numbers_of t) (choices_of t)
    s = has_goal cs rows p q enters t met

    begins : IsClearedTo (length t.lines) (length rows) (length cs + 1) (length cs + 1 + length t.lines) (numbers_of (framed_tableau cs (with_goal rows q))) (numbers_of t) (choices_of t) 0 (entry (goal_line cs rows q))
    begins =
        subst (λ zs. IsClearedTo (length t.lines) (length rows) (length cs + 1) (length cs + 1 + length t.lines) (numbers_of (framed_tableau cs (with_goal rows q))) (numbers_of t) (choices_of t) 0 (entry zs)) (frame-goal cs rows q)
        (cleared_first (length t.lines) (length rows) (length cs + 1) (length cs + 1 + length t.lines) (numbers_of (framed_tableau cs (with_goal rows p))) (numbers_of (framed_tableau cs (with_goal rows q))) (numbers_of t) (choices_of t) s)

    line : IsGoalLine (length t.lines) (length rows) (length cs + 1) (length cs + 1 + length t.lines) (numbers_of (framed_tableau cs (with_goal rows q))) (numbers_of t) (choices_of t) made
    line =
        goal_line-cleared (length rows) (length cs + 1) (numbers_of (framed_tableau cs (with_goal rows p))) (numbers_of (framed_tableau cs (with_goal rows q))) t s met.placed.marked.sized.tableau.shape pivots 0 (goal_line cs rows q) made
        (let a : length pivots ≡ length rows = few in omega (arith, a)) (λ i h. at i h ∙ (let z : i ≡ 0 + i = omega arith in ap (λ (n : ℕ). get_or t.lines n []) z))
        (goal_line-long cs rows q ∙ ap (λ (n : ℕ). length cs + 1 + n) (sym all)) (goal_line-primitive cs rows q) begins e

    in_t : (i : ℕ) → i < length (pivots ++ made ∷ []) → i < length t.lines
    in_t i h = subst (λ (n : ℕ). i < n) each h

    row_of : (i : ℕ) → i < length t.lines → i ≢ length rows → i < length rows
    row_of i h apart = let b : length t.lines ≡ length rows + 1 = all in omega (arith, b, h, apart)

    tableau : IsTableauOf (length cs + 1) (numbers_of (framed_tableau cs (with_goal rows q))) (with_last pivots made t)
    tableau = record {
      shape = record {
        wide = λ i h. ⊎_elim (λ (is : i ≡ length rows). ap (λ (k : ℕ). length (get_or (pivots ++ made ∷ []) k [])) is ∙ ap length goal_there ∙ line.wide)
            (λ apart. ap length (rows_same i (row_of i (in_t i h) apart)) ∙ met.placed.marked.sized.tableau.shape.wide i (in_t i h)) (cases_eq i (length rows)) ∙ ap (λ (n : ℕ). length cs + 1 + n) (sym each);
        choices = met.placed.marked.sized.tableau.shape.choices ∙ sym each;
      };
      is = subst (λ (n : ℕ). IsWholeTableau n (length cs + 1) (length cs + 1 + n) (numbers_of (framed_tableau cs (with_goal rows q))) (numbers_of (with_last pivots made t)) (choices_of (with_last pivots made t))) (sym each)
          (swapped_is (length t.lines) (length rows) (length cs + 1) (length cs + 1 + length t.lines) (numbers_of (framed_tableau cs (with_goal rows p))) (numbers_of (framed_tableau cs (with_goal rows q))) (numbers_of t) (choices_of t) s (numbers_of (with_last pivots made t)) (entry made) all line.is
          (λ i h apart. ap entry (rows_same i (row_of i h apart))) (ap entry goal_there));
      within = λ i h. subst (λ (n : ℕ). choices_of t i < length cs + 1 + n) (sym each) (met.placed.marked.sized.tableau.within i (in_t i h));
    }

    primitive : ArePrimitive (with_last pivots made t)
    primitive i h = ⊎_elim (λ (is : i ≡ length rows). ap (λ (k : ℕ). gcd_of_all (get_or (pivots ++ made ∷ []) k [])) is ∙ ap gcd_of_all goal_there ∙ line.primitive)
        (λ apart. ap gcd_of_all (rows_same i (row_of i (in_t i h) apart)) ∙ met.placed.marked.sized.primitive i (in_t i h)) (cases_eq i (length rows))
