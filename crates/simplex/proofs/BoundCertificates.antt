-- What the line of an objective that can't grow is worth as a certificate: the sum of the multiples
-- of the rows is the scale times the objective, less the sum.
use Rattle.std.proofs.Common.{◌≡◌, Bool, true, ℕ, zero, suc, ◌+◌, ◌<◌, ◌≤◌, List, [], ◌∷◌, map, length, get_or, take, drop, Result, Ok, refl, sym, ap, subst, ◌∙◌, arith, ℤ, pos, negsuc, ◌+ℤ◌, ◌-ℤ◌, ◌*ℤ◌, ◌≤ℤ◌, ◌<ℤ◌}
use Rattle.std.specs.Prelude.{◌&&◌, ◌==◌, ◌-◌}
use Rattle.std.specs.List.{list_all, zip}
use Rattle.std.proofs.lemmas.Bool.{eq-eqb}
use Rattle.std.specs.Cmp.Lexicographic.{pointwise}
use Rattle.std.specs.Ordering.{int_eq}
use Rattle.std.proofs.lemmas.Bool.Decides.{Decides-int_eq}
use Rattle.std.proofs.lemmas.Int.{ints}
use Rattle.std.proofs.lemmas.List.{get_or-take, get_or-drop, length-take-le, length-drop}
use Rattle.items.specs.Gives.{◌>>=◌}
use Rattle.items.proofs.Gives.{on_ok}
use Rattle.whole_numbers.specs.declared.wide.Wide as Step
use Rattle.whole_numbers.specs.Fits.{sum_of, product_of}
use Rattle.whole_numbers.proofs.Ring.{sum_of-value, product_of-value}
use Rattle.linear_terms.specs.declared.col.Col.{Col}
use Rattle.linear_terms.specs.declared.row.Kind.TheVariants.{AtMost}
use Rattle.linear_terms.specs.declared.row.Row.{Row}
use Rattle.linear_terms.specs.Polynomial.{Terms, Polynomial, coefficient_in}
use Rattle.farkas_check.specs.Frames.{sum_below}
use Rattle.farkas_check.specs.Multiples.{Form, number_at as coefficient_at, constant_in, is_multiplier, are_multipliers, sum_of_multiples, same_form, scaled_coefficients, scaled_less, scaled_form}
use Rattle.farkas_check.specs.Relations.{entry}
use Rattle.farkas_check.specs.Tested.{goal_columns, tested_sum}
use Rattle.farkas_check.specs.declared.question.Goal.{Goal}
use Rattle.farkas_check.specs.declared.answer.Cert.{Cert}
use Rattle.farkas_check.proofs.Farkas.{bool_ok, total, sums, form_of, on_sum}
use Rattle.simplex.specs.Exchange.{numbers_of, choices_of, line_multiple, IsTableauOf}
use Rattle.simplex.specs.Rows.{kinds_of, kind_at, framed_tableau}
use Rattle.simplex.specs.Suprema.{with_goal, frame_over, goal_frame, certificate_of, IsTopped}
use Rattle.simplex.specs.declared.tableau.Tableau.{Tableau}
use Rattle.simplex.proofs.Certificates.{each_of, total-is, all_multipliers, framed-column, framed-constant}
use Rattle.simplex.proofs.RowTableaux.{kinds-length}
use Rattle.simplex.proofs.Lines.{line_multiple-length}
use Rattle.simplex.proofs.Numbers.{line_multiple-number}
use Rattle.simplex.proofs.Objectives.{more_rows}
use Rattle.simplex.proofs.Sums.{sum_below-same, weighted_multiple}

-- the parts of a certificate, read at the line
pub record IsCertificate (constants goal : ℕ) (line : List ℤ) (cert : Cert) : Type 0 where
  pub by : (l : ℕ) → l < goal → entry cert.by l ≡ entry line (constants + 1 + l) *ℤ negsuc 0
  pub each : length cert.by ≡ length (take goal (drop (constants + 1) line))
  pub scale : cert.scale ≡ entry line (constants + 1 + goal)
  pub sum : cert.sum ≡ entry line constants

abbrev cert_ok : Cert → Result Cert Step.Wide
cert_ok cert = Ok cert

pub certificate-is : (constants goal : ℕ) (line : List ℤ) (cert : Cert) → certificate_of constants goal line ≡ Ok cert → IsCertificate constants goal line cert
certificate-is constants goal line cert e =
    on_ok (line_multiple (take goal (drop (constants + 1) line)) (negsuc 0)) (λ by. cert_ok (record { scale = entry line (constants + 1 + goal); sum = entry line constants; by = by })) cert e
    (λ by f g. let same : record { scale = entry line (constants + 1 + goal); sum = entry line constants; by = by } ≡ cert = cc in subst (IsCertificate constants goal line) same (made by f))
  where
    made : (by : List ℤ) → line_multiple (take goal (drop (constants + 1) line)) (negsuc 0) ≡ Ok by → IsCertificate constants goal line (record { scale = entry line (constants + 1 + goal); sum = entry line constants; by = by })
    made by f = record {
      by = λ l h. line_multiple-number (take goal (drop (constants + 1) line)) (negsuc 0) by f l ∙ ap (λ z. z *ℤ negsuc 0) (get_or-take goal (drop (constants + 1) line) l (pos 0) h ∙ get_or-drop (constants + 1) line l (pos 0));
      each = line_multiple-length (take goal (drop (constants + 1) line)) (negsuc 0) by f;
      scale = refl;
      sum = refl;
    }

-- numbers of the rows, before the objective's
pub each_before : (number : Row → ℤ) (rows : List Row) (p : Polynomial) (l : ℕ) → l < length rows → each_of number (with_goal rows p) l ≡ each_of number rows l
each_before number [] p l h = absurd (omega (arith, h))
each_before number (row ∷ rows) p zero h = refl
each_before number (row ∷ rows) p (suc l) h = each_before number rows p l (omega (arith, h))

each_goal : (number : Row → ℤ) (rows : List Row) (p : Polynomial) → each_of number (with_goal rows p) (length rows) ≡ number (record { poly = p; kind = AtMost })
each_goal number [] p = refl
each_goal number (row ∷ rows) p = each_goal number rows p

pub cert_total : (cs : List (List Col)) (rows : List Row) (p : Polynomial) (t : Tableau) (cert : Cert) (number : Row → ℤ) (j : ℕ) → IsTableauOf (length cs + 1) (numbers_of (framed_tableau cs (with_goal rows p))) t → length t.lines ≡ length rows + 1 → IsCertificate (length cs) (length rows) (get_or t.lines (length rows) []) cert → length cert.by ≡ length rows
    → j < length cs + 1 + length t.lines → ((l : ℕ) → numbers_of (framed_tableau cs (with_goal rows p)) l j ≡ each_of number (with_goal rows p) l)
    → total number rows cert.by ≡ cert.scale *ℤ number (record { poly = p; kind = AtMost }) -ℤ numbers_of t (length rows) j
cert_total cs rows p t cert number j s many c each h f =
    total-is number rows cert.by each
    ∙ sum_below-same m (λ l. get_or cert.by l (pos 0) *ℤ each_of number rows l) (λ l. get_or cert.by l (pos 0) *ℤ numbers_of (framed_tableau cs (with_goal rows p)) l j) (λ l g. ap (λ z. get_or cert.by l (pos 0) *ℤ z) (sym (f l ∙ each_before number rows p l g)))
    ∙ weighted_multiple m (λ l. numbers_of t m (length cs + 1 + l)) (λ l. get_or cert.by l (pos 0)) (λ l. numbers_of (framed_tableau cs (with_goal rows p)) l j) (negsuc 0) (λ l g. c.by l g ∙ turn (numbers_of t m (length cs + 1 + l)))
    ∙ finish (sum_below m (λ l. numbers_of t m (length cs + 1 + l) *ℤ numbers_of (framed_tableau cs (with_goal rows p)) l j)) (cert.scale *ℤ number (record { poly = p; kind = AtMost })) (numbers_of t m j) whole
  where
    m : ℕ
    m = length rows

    turn : (z : ℤ) → z *ℤ negsuc 0 ≡ negsuc 0 *ℤ z
    turn z = omega (arith, ints)

    finish : (a b c : ℤ) → c ≡ a +ℤ b → negsuc 0 *ℤ a ≡ b -ℤ c
    finish a b c e = omega (arith, ints, e)

    whole : numbers_of t (length rows) j ≡ sum_below (length rows) (λ l. numbers_of t (length rows) (length cs + 1 + l) *ℤ numbers_of (framed_tableau cs (with_goal rows p)) l j) +ℤ cert.scale *ℤ number (record { poly = p; kind = AtMost })
    whole =
        s.is.combination m (subst (λ (n : ℕ). m < n) (sym many) (omega arith)) j h
        ∙ ap (λ (n : ℕ). sum_below n (λ l. numbers_of t m (length cs + 1 + l) *ℤ numbers_of (framed_tableau cs (with_goal rows p)) l j)) (many ∙ (let e : length rows + 1 ≡ suc (length rows) = omega arith in e))
        ∙ ap (λ z. sum_below m (λ l. numbers_of t m (length cs + 1 + l) *ℤ numbers_of (framed_tableau cs (with_goal rows p)) l j) +ℤ numbers_of t m (length cs + 1 + m) *ℤ z) (f m ∙ each_goal number rows p)
        ∙ ap (λ z. sum_below m (λ l. numbers_of t m (length cs + 1 + l) *ℤ numbers_of (framed_tableau cs (with_goal rows p)) l j) +ℤ z *ℤ number (record { poly = p; kind = AtMost })) (sym c.scale)

-- ---- the test of the sum

scaled_value : (scale : ℤ) (terms : Terms) (cs : List (List Col)) (ns : List ℤ) → scaled_coefficients scale terms cs ≡ Ok ns → ns ≡ map (λ c. scale *ℤ coefficient_in terms c) cs
scaled_value scale terms [] ns e = cc
scaled_value scale terms (c ∷ cs) ns e =
    on_ok (product_of scale (coefficient_in terms c)) (λ s. scaled_coefficients scale terms cs >>= λ more. numbers_ok (s ∷ more)) ns e
    (λ s f g. on_ok (scaled_coefficients scale terms cs) (λ more. numbers_ok (s ∷ more)) ns g
    (λ more h k. let same : s ∷ more ≡ ns = cc in sym same ∙ ap (λ (z : ℤ). z ∷ more) (product_of-value scale (coefficient_in terms c) s f) ∙ ap (λ (zs : List ℤ). (scale *ℤ coefficient_in terms c) ∷ zs) (scaled_value scale terms cs more h)))
  where
    numbers_ok : List ℤ → Result (List ℤ) Step.Wide
    numbers_ok ns = Ok ns

less_value : (scale rest less z : ℤ) → scaled_less scale rest less ≡ Ok z → z ≡ scale *ℤ rest +ℤ less *ℤ negsuc 0
less_value scale rest less z e =
    on_ok (product_of scale rest) (λ left. product_of less (negsuc 0) >>= λ right. sum_of left right) z e
    (λ left f g. on_ok (product_of less (negsuc 0)) (λ right. sum_of left right) z g
    (λ right h k. sum_of-value left right z k ∙ ap (λ x. x +ℤ right) (product_of-value scale rest left f) ∙ ap (λ x. scale *ℤ rest +ℤ x) (product_of-value less (negsuc 0) right h)))

pub equal_lists : (f g : List Col → ℤ) (cs : List (List Col)) → ((j : ℕ) → j < length cs → f (get_or cs j []) ≡ g (get_or cs j [])) → pointwise int_eq (map f cs) (map g cs) ≡ true
equal_lists f g [] h = refl
equal_lists f g (c ∷ cs) h = both (int_eq (f c) (g c)) ((Decides-int_eq (f c) (g c)).1 (h 0 (omega arith))) (equal_lists f g cs (λ j k. h (suc j) (omega (arith, k))))
  where
    both : (b : Bool) → b ≡ true → pointwise int_eq (map f cs) (map g cs) ≡ true → b && pointwise int_eq (map f cs) (map g cs) ≡ true
    both b e k = rw (e, k) refl

pub sum_honest : (goal : Goal) (cert : Cert) (b : Bool) → ((j : ℕ) → j < length (goal_columns goal) → total (coefficient_at (get_or (goal_columns goal) j [])) goal.rows cert.by ≡ cert.scale *ℤ coefficient_in goal.objective.terms (get_or (goal_columns goal) j [])) → total constant_in goal.rows cert.by ≡ cert.scale *ℤ goal.objective.rest +ℤ cert.sum *ℤ negsuc 0 → tested_sum goal cert ≡ Ok b → b ≡ true
sum_honest goal cert b at_columns at_constant e =
    on_ok (sum_of_multiples goal.rows cert.by (goal_columns goal)) (λ left. scaled_form cert.scale cert.sum goal.objective (goal_columns goal) >>= λ right. bool_ok (same_form left right)) b e
    (λ left f g. on_ok (scaled_form cert.scale cert.sum goal.objective (goal_columns goal)) (λ right. bool_ok (same_form left right)) b g
    (λ right h k. on_sum goal.rows cert.by (goal_columns goal) left f
    (λ is. on_ok (scaled_coefficients cert.scale goal.objective.terms (goal_columns goal)) (λ numbers. scaled_less cert.scale goal.objective.rest cert.sum >>= λ rest. form_ok (form_of numbers rest)) right h
    (λ numbers l m. on_ok (scaled_less cert.scale goal.objective.rest cert.sum) (λ rest. form_ok (form_of numbers rest)) right m
    (λ rest n o. made left right numbers rest is (scaled_value cert.scale goal.objective.terms (goal_columns goal) numbers l) (less_value cert.scale goal.objective.rest cert.sum rest n) (cc) k)))))
  where
    form_ok : Form → Result Form Step.Wide
    form_ok form = Ok form

    made : (left right : Form) (numbers : List ℤ) (rest : ℤ) → left ≡ form_of (sums goal.rows cert.by (goal_columns goal)) (total constant_in goal.rows cert.by) → numbers ≡ map (λ c. cert.scale *ℤ coefficient_in goal.objective.terms c) (goal_columns goal) → rest ≡ cert.scale *ℤ goal.objective.rest +ℤ cert.sum *ℤ negsuc 0 → form_of numbers rest ≡ right → bool_ok (same_form left right) ≡ Ok b → b ≡ true
    made left right numbers rest e f g h k =
        let same : same_form left right ≡ b = cc in
        sym same ∙ ap (λ (x : Form). same_form x right) e ∙ ap (λ (x : Form). same_form (form_of (sums goal.rows cert.by (goal_columns goal)) (total constant_in goal.rows cert.by)) x) (sym h)
        ∙ both (pointwise int_eq (sums goal.rows cert.by (goal_columns goal)) numbers)
        (ap (λ zs. pointwise int_eq (sums goal.rows cert.by (goal_columns goal)) zs) f ∙ equal_lists (λ c. total (coefficient_at c) goal.rows cert.by) (λ c. cert.scale *ℤ coefficient_in goal.objective.terms c) (goal_columns goal) at_columns)
        (int_eq (total constant_in goal.rows cert.by) rest) ((Decides-int_eq (total constant_in goal.rows cert.by) rest).1 (at_constant ∙ sym g))
      where
        both : (x : Bool) → x ≡ true → (y : Bool) → y ≡ true → x && y ≡ true
        both x u y v = rw (u, v) refl

-- ---- the certificate of an objective that can't grow

pub kind_before : (rows : List Row) (p : Polynomial) (l : ℕ) → l < length rows → kind_at (kinds_of (with_goal rows p)) l ≡ kind_at (kinds_of rows) l
kind_before [] p l h = absurd (omega (arith, h))
kind_before (row ∷ rows) p zero h = refl
kind_before (row ∷ rows) p (suc l) h = kind_before rows p l (omega (arith, h))

-- what a certificate is worth, read at the columns and at the constant
pub record IsCertifiedOver (cs : List (List Col)) (rows : List Row) (p : Polynomial) (cert : Cert) : Type 0 where
  pub each : length cert.by ≡ length rows
  pub multipliers : are_multipliers rows cert.by ≡ true
  pub scale : pos 0 <ℤ cert.scale
  pub columns : (j : ℕ) → j < length cs → total (coefficient_at (get_or cs j [])) rows cert.by ≡ cert.scale *ℤ coefficient_in p.terms (get_or cs j [])
  pub constant : total constant_in rows cert.by ≡ cert.scale *ℤ p.rest +ℤ cert.sum *ℤ negsuc 0

pub certified_over : (cs : List (List Col)) (rows : List Row) (p : Polynomial) (enters : List Bool) (t : Tableau) (cert : Cert) → IsTopped (frame_over cs rows p) (length cs) (kinds_of (with_goal rows p)) enters t → certificate_of (length cs) (length rows) (get_or t.lines (length rows) []) ≡ Ok cert → IsCertifiedOver cs rows p cert
certified_over cs rows p enters t cert top e = record {
  each = each;
  multipliers = both (length cert.by == length rows) (eq-eqb (length cert.by) (length rows) each) (all_multipliers rows cert.by signs);
  scale = subst (λ (z : ℤ). pos 0 <ℤ z) (sym c.scale) (subst (λ (j : ℕ). pos 0 <ℤ numbers_of t (length rows) j) own (s.is.own (length rows) inside));
  columns = at_columns;
  constant = at_constant;
}
  where
    s : IsTableauOf (length cs + 1) (numbers_of (framed_tableau cs (with_goal rows p))) t
    s = top.met.placed.marked.sized.tableau

    many : length t.lines ≡ length rows + 1
    many = sym top.met.placed.marked.sized.many ∙ kinds-length (with_goal rows p) ∙ more_rows rows p

    inside : length rows < length t.lines
    inside = omega (arith, many)

    own : choices_of t (length rows) ≡ length cs + 1 + length rows
    own = top.met.placed.marked.waiting (length rows) inside (top.met.placed.marked.sized.goals (length rows) (omega arith) inside) (top.met.placed.out (length rows) (omega arith) inside)

    c : IsCertificate (length cs) (length rows) (get_or t.lines (length rows) []) cert
    c = certificate-is (length cs) (length rows) (get_or t.lines (length rows) []) cert e

    each : length cert.by ≡ length rows
    each = c.each ∙ length-take-le (length rows) (drop (length cs + 1) (get_or t.lines (length rows) [])) long_enough
      where
        long_enough : length rows ≤ length (drop (length cs + 1) (get_or t.lines (length rows) []))
        long_enough =
            let w : length (get_or t.lines (length rows) []) ≡ length cs + 1 + length t.lines = s.shape.wide (length rows) inside in
            let d : length (drop (length cs + 1) (get_or t.lines (length rows) [])) ≡ length (get_or t.lines (length rows) []) - (length cs + 1) = length-drop (length cs + 1) (get_or t.lines (length rows) []) in
            omega (arith, w, d, many)

    minus_zero : (a z : ℤ) → z ≡ pos 0 → a -ℤ z ≡ a
    minus_zero a z f = omega (arith, ints, f)

    minus : (a z : ℤ) → a -ℤ z ≡ a +ℤ z *ℤ negsuc 0
    minus a z = omega (arith, ints)

    at_columns : (j : ℕ) → j < length cs → total (coefficient_at (get_or cs j [])) rows cert.by ≡ cert.scale *ℤ coefficient_in p.terms (get_or cs j [])
    at_columns j h =
        cert_total cs rows p t cert (coefficient_at (get_or cs j [])) j s many c each (omega (arith, h)) (λ l. framed-column cs (with_goal rows p) j l h)
        ∙ minus_zero (cert.scale *ℤ coefficient_in p.terms (get_or cs j [])) (numbers_of t (length rows) j) (top.flat j h)

    at_constant : total constant_in rows cert.by ≡ cert.scale *ℤ p.rest +ℤ cert.sum *ℤ negsuc 0
    at_constant =
        cert_total cs rows p t cert constant_in (length cs) s many c each (omega arith) (λ l. framed-constant cs (with_goal rows p) l)
        ∙ ap (λ z. cert.scale *ℤ p.rest -ℤ z) (sym c.sum) ∙ minus (cert.scale *ℤ p.rest) cert.sum

    up : (z : ℤ) → pos 0 ≤ℤ (negsuc 0 *ℤ z) → pos 0 ≤ℤ (z *ℤ negsuc 0)
    up z h = omega (arith, ints, h)

    signs : (l : ℕ) → l < length rows → kind_at (kinds_of rows) l ≡ AtMost → pos 0 ≤ℤ get_or cert.by l (pos 0)
    signs l h k =
        subst (λ (z : ℤ). pos 0 ≤ℤ z) (sym (c.by l h))
        (up (numbers_of t (length rows) (length cs + 1 + l))
        (top.best (length cs + 1 + l) (subst (λ (n : ℕ). length cs + 1 + l < n) (sym top.met.placed.marked.wide) (omega (arith, h, many))) (top.met.kept l h (kind_before rows p l h ∙ k))))

    both : (x : Bool) → x ≡ true → list_all (λ (p : Row × ℤ). is_multiplier p.0.kind p.1) (zip rows cert.by) ≡ true → x && list_all (λ (p : Row × ℤ). is_multiplier p.0.kind p.1) (zip rows cert.by) ≡ true
    both x f g = rw (f, g) refl

-- what the test of a certificate asks but for the bound
pub record IsCertified (goal : Goal) (cert : Cert) : Type 0 where
  pub each : length cert.by ≡ length goal.rows
  pub multipliers : are_multipliers goal.rows cert.by ≡ true
  pub scale : pos 0 <ℤ cert.scale
  pub sum : (b : Bool) → tested_sum goal cert ≡ Ok b → b ≡ true

pub certified : (goal : Goal) (enters : List Bool) (t : Tableau) (cert : Cert) → IsTopped (goal_frame goal) (length (goal_columns goal)) (kinds_of (with_goal goal.rows goal.objective)) enters t → certificate_of (length (goal_columns goal)) (length goal.rows) (get_or t.lines (length goal.rows) []) ≡ Ok cert → IsCertified goal cert
certified goal enters t cert top e = of_parts (certified_over (goal_columns goal) goal.rows goal.objective enters t cert top e)
  where
    of_parts : IsCertifiedOver (goal_columns goal) goal.rows goal.objective cert → IsCertified goal cert
    of_parts c = record { each = c.each; multipliers = c.multipliers; scale = c.scale; sum = λ b f. sum_honest goal cert b c.columns c.constant f }
