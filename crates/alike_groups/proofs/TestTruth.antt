-- The tests decide what they test.
--     term-decided         expressions
--     callee-decided       procedures that members call
--     statement-decided    statements, where the test of what they call decides
--     proc-decided         procedures
--     groups-decided       groups
use mathlib.Core.Bool.{beq}
use Rattle.std.proofs.Common.{◌≡◌, ℕ, zero, suc, Bool, true, false, not, List, [], ◌∷◌, length, map, Option, None, Some, refl, sym, ap, subst, ◌∙◌, arith}
use Rattle.std.specs.Prelude.{nat_eq, ◌&&◌, ◌==◌, is_some, slice_get}
use Rattle.std.specs.Bool.{Decides}
use Rattle.std.specs.Cmp.{booleans_Decides}
use Rattle.std.specs.Cmp.Derive.Mapped.{pointwise-map}
use Rattle.std.specs.Cmp.Lexicographic.{pointwise}
use Rattle.std.specs.List.{AllZip}
use Rattle.std.specs.Option.{option_eq}
use Rattle.std.proofs.lemmas.Bool.{false≢true}
use Rattle.std.proofs.lemmas.Bool.Decides.{Decides-and, Decides-eqb, Decides-int_eq, Decides-like}
use Rattle.std.proofs.lemmas.Slice.Eq.{slice_eq-Decides}
use denote.Enum.Bare.{sameb, same_true, true_same}
use Rattle.linear_terms.proofs.Equal.{case_decides, row_decides}
use Rattle.syntax_tree.specs.Code.{Statement, Set, Any, Call, Guard, Check, If, Loop, Break, Continue, Return, Code, End, Then, code_of}
use Rattle.syntax_tree.specs.Term.{Term, Lit, Col, Unary, Binary}
use Rattle.syntax_tree.specs.WellFormed.{has_name}
use Rattle.syntax_tree.specs.contracts.op.Op.{the_type as the_operators}
use Rattle.syntax_tree.specs.contracts.op.Sign.{the_type as the_signs}
use Rattle.syntax_tree.specs.declared.program.Proc.{Proc}
use Rattle.syntax_tree.specs.declared.program.Program.{Program}
use Rattle.transition_formula.specs.Transition.{Transition}
use Rattle.proc_summary.specs.Alike.{AreAlike, AreAlikeProcs, AreAlikeStatements, AreKnownAlike, alike_anys, alike_breaks, alike_calls, alike_checks, alike_continues, alike_ends, alike_guards, alike_ifs, alike_loops, alike_more, alike_returns, alike_sets}
use Rattle.newton_rounds.specs.Alike.{AreAlikeCallees, AreAlikeGroups, AreAlikeMembers, StandOnce}
use Rattle.newton_rounds.specs.Members.{place_of}
use Rattle.newton_rounds.proofs.ApartWalks.{no-place}
use Rattle.newton_rounds.proofs.GroupCalls.{placed-at}
use Rattle.alike_groups.specs.Tests.{are_alike_groups, are_found_alike, is_alike_callee, is_alike_code, is_alike_member, is_alike_place, is_alike_proc, is_alike_statement, is_same_case, is_same_formula, is_same_term, stand_once}

-- ---- parts of tests

never : {P : Type 0} → (P → ⊥) → Decides false P
never h = (λ e. absurd (false≢true e), λ p. absurd (h p))

both : (a b : Bool) → (a && b) ≡ true → (a ≡ true) × (b ≡ true)
both true b e = (refl, e)
both false b e = absurd (false≢true e)

both-true : (a b : Bool) → a ≡ true → b ≡ true → (a && b) ≡ true
both-true a b e f = rw (e, f) refl

option-decided : {A : Type 0} (E : A → A → Bool) → ((a b : A) → Decides (E a b) (a ≡ b)) → (x y : Option A) → Decides (option_eq E x y) (x ≡ y)
option-decided E decided None None = (λ e. refl, λ e. refl)
option-decided E decided None (Some b) = never (λ e. cc)
option-decided E decided (Some a) None = never (λ e. cc)
option-decided E decided (Some a) (Some b) = Decides-like (E a b) (λ e. ap Some e) (λ e. cc) (decided a b)

zipped-decided : {A B : Type 0} (E : A → B → Bool) (R : A → B → Type 0) → ((a : A) (b : B) → Decides (E a b) (R a b)) → (xs : List A) (ys : List B) → Decides (pointwise E xs ys) (AllZip R xs ys)
zipped-decided E R decided [] [] = (λ e. tt, λ h. refl)
zipped-decided E R decided [] (y ∷ ys) = never (λ h. h)
zipped-decided E R decided (x ∷ xs) [] = never (λ h. h)
zipped-decided E R decided (x ∷ xs) (y ∷ ys) = Decides-and (E x y) (pointwise E xs ys) (decided x y) (zipped-decided E R decided xs ys)

-- ---- formulas

pub formula-decided : (f g : Transition) → Decides (is_same_formula f g) (f ≡ g)
unfolding is_same_formula
formula-decided f g =
    let cases = slice_eq-Decides (λ x y. case_decides (λ r s. row_decides r s _ refl) x y _ refl) f.cases g.cases (pointwise is_same_case f.cases g.cases) refl in
    Decides-like (f.from == g.from && (f.to == g.to && pointwise is_same_case f.cases g.cases))
    (λ h. λ i. record { from = h.0 i; to = h.1.0 i; cases = h.1.1 i })
    (λ e. ((λ i. (e i).from), ((λ i. (e i).to), (λ i. (e i).cases))))
    (Decides-and (f.from == g.from) (f.to == g.to && pointwise is_same_case f.cases g.cases) (Decides-eqb f.from g.from)
    (Decides-and (f.to == g.to) (pointwise is_same_case f.cases g.cases) (Decides-eqb f.to g.to) cases))

-- ---- expressions

term-told : (s t : Term) → is_same_term s t ≡ true → s ≡ t
term-told (Lit value) (Lit given) e = ap Lit ((Decides-int_eq value given).0 e)
term-told (Col col) (Col given) e = ap Col ((Decides-eqb col given).0 e)
term-told (Unary sign inner) (Unary given next) e =
    let parts = both (sameb the_signs sign given) (is_same_term inner next) e in
    let signs : sign ≡ given = same_true the_signs tt sign given parts.0 in
    let inners = term-told inner next parts.1 in
    λ i. Unary (signs i) (inners i)
term-told (Binary op left right) (Binary given next last) e =
    let parts = both (sameb the_operators op given) (is_same_term left next && is_same_term right last) e in
    let sides = both (is_same_term left next) (is_same_term right last) parts.1 in
    let ops : op ≡ given = same_true the_operators tt op given parts.0 in
    let lefts = term-told left next sides.0 in
    let rights = term-told right last sides.1 in
    λ i. Binary (ops i) (lefts i) (rights i)
term-told _ _ e = absurd (false≢true e)

term-same : (t : Term) → is_same_term t t ≡ true
term-same (Lit value) = (Decides-int_eq value value).1 refl
term-same (Col col) = (Decides-eqb col col).1 refl
term-same (Unary sign inner) = both-true (sameb the_signs sign sign) (is_same_term inner inner) (true_same the_signs sign sign refl) (term-same inner)
term-same (Binary op left right) =
    both-true (sameb the_operators op op) (is_same_term left left && is_same_term right right) (true_same the_operators op op refl)
    (both-true (is_same_term left left) (is_same_term right right) (term-same left) (term-same right))

pub term-decided : (s t : Term) → Decides (is_same_term s t) (s ≡ t)
term-decided s t = (term-told s t, λ e. subst (λ other. is_same_term s other ≡ true) e (term-same s))

terms-decided : (xs ys : List Term) → Decides (pointwise is_same_term xs ys) (xs ≡ ys)
terms-decided xs ys = slice_eq-Decides term-decided xs ys (pointwise is_same_term xs ys) refl

column-decided : (into to : Option ℕ) → Decides (option_eq nat_eq into to) (into ≡ to)
column-decided = option-decided nat_eq Decides-eqb

-- ---- statements

module _ (same : ℕ → ℕ → Type 0) (test : ℕ → ℕ → Bool) (decided : (proc next : ℕ) → Decides (test proc next) (same proc next)) where
  mutual
    statement-told : (s o : Statement) → is_alike_statement test s o ≡ true → AreAlikeStatements same s o
    statement-told (Set col value) (Set to given) e =
        let parts = both (col == to) (is_same_term value given) e in
        let cols : col ≡ to = (Decides-eqb col to).0 parts.0 in
        let values = term-told value given parts.1 in
        subst (λ o. AreAlikeStatements same (Set col value) o) (λ i. Set (cols i) (values i)) (alike_sets col value)
    statement-told (Any col) (Any to) e =
        let cols : col ≡ to = (Decides-eqb col to).0 e in
        subst (λ o. AreAlikeStatements same (Any col) o) (λ i. Any (cols i)) (alike_anys col)
    statement-told (Call proc args into) (Call callee given to) e =
        let parts = both (test proc callee) (pointwise is_same_term args given && option_eq nat_eq into to) e in
        let lists = both (pointwise is_same_term args given) (option_eq nat_eq into to) parts.1 in
        let all = (terms-decided args given).0 lists.0 in
        let cols = (column-decided into to).0 lists.1 in
        subst (λ o. AreAlikeStatements same (Call proc args into) o) (λ i. Call callee (all i) (cols i)) (alike_calls proc callee args into ((decided proc callee).0 parts.0))
    statement-told (Guard cond) (Guard given) e =
        let conds = term-told cond given e in
        subst (λ o. AreAlikeStatements same (Guard cond) o) (λ i. Guard (conds i)) (alike_guards cond)
    statement-told (Check number cond) (Check other given) e =
        let conds = term-told cond given e in
        subst (λ o. AreAlikeStatements same (Check number cond) o) (λ i. Check other (conds i)) (alike_checks number other cond)
    statement-told (If cond on_true on_false) (If given true_code false_code) e =
        let parts = both (is_same_term cond given) (is_alike_code test on_true true_code && is_alike_code test on_false false_code) e in
        let sides = both (is_alike_code test on_true true_code) (is_alike_code test on_false false_code) parts.1 in
        let conds = term-told cond given parts.0 in
        subst (λ o. AreAlikeStatements same (If cond on_true on_false) o) (λ i. If (conds i) true_code false_code)
        (alike_ifs cond on_true on_false true_code false_code (code-told on_true true_code sides.0) (code-told on_false false_code sides.1))
    statement-told (Loop pre cond body step first) (Loop begin given turn end at) e =
        let parts = both (is_alike_code test pre begin) (is_same_term cond given && (is_alike_code test body turn && (is_alike_code test step end && beq first at))) e in
        let more = both (is_same_term cond given) (is_alike_code test body turn && (is_alike_code test step end && beq first at)) parts.1 in
        let codes = both (is_alike_code test body turn) (is_alike_code test step end && beq first at) more.1 in
        let last = both (is_alike_code test step end) (beq first at) codes.1 in
        let conds = term-told cond given more.0 in
        let firsts : first ≡ at = (booleans_Decides first at).0 last.1 in
        subst (λ o. AreAlikeStatements same (Loop pre cond body step first) o) (λ i. Loop begin (conds i) turn end (firsts i))
        (alike_loops pre begin cond body step turn end first (code-told pre begin parts.0) (code-told body turn codes.0) (code-told step end last.0))
    statement-told Break Break e = alike_breaks
    statement-told Continue Continue e = alike_continues
    statement-told Return Return e = alike_returns
    statement-told _ _ e = absurd (false≢true e)

    code-told : (a b : Code) → is_alike_code test a b ≡ true → AreAlike same a b
    code-told End End e = alike_ends
    code-told (Then s rest) (Then o others) e =
        let parts = both (is_alike_statement test s o) (is_alike_code test rest others) e in
        alike_more s o rest others (statement-told s o parts.0) (code-told rest others parts.1)
    code-told _ _ e = absurd (false≢true e)

  mutual
    statement-tested : (s o : Statement) → AreAlikeStatements same s o → is_alike_statement test s o ≡ true
    statement-tested _ _ (alike_sets col value) = both-true (col == col) (is_same_term value value) ((Decides-eqb col col).1 refl) (term-same value)
    statement-tested _ _ (alike_anys col) = (Decides-eqb col col).1 refl
    statement-tested _ _ (alike_calls proc callee args into h) =
        both-true (test proc callee) (pointwise is_same_term args args && option_eq nat_eq into into) ((decided proc callee).1 h)
        (both-true (pointwise is_same_term args args) (option_eq nat_eq into into) ((terms-decided args args).1 refl) ((column-decided into into).1 refl))
    statement-tested _ _ (alike_guards cond) = term-same cond
    statement-tested _ _ (alike_checks number other cond) = term-same cond
    statement-tested _ _ (alike_ifs cond a b c d h k) =
        both-true (is_same_term cond cond) (is_alike_code test a c && is_alike_code test b d) (term-same cond)
        (both-true (is_alike_code test a c) (is_alike_code test b d) (code-tested a c h) (code-tested b d k))
    statement-tested _ _ (alike_loops pre begin cond body step turn end first h k l) =
        both-true (is_alike_code test pre begin) (is_same_term cond cond && (is_alike_code test body turn && (is_alike_code test step end && beq first first))) (code-tested pre begin h)
        (both-true (is_same_term cond cond) (is_alike_code test body turn && (is_alike_code test step end && beq first first)) (term-same cond)
        (both-true (is_alike_code test body turn) (is_alike_code test step end && beq first first) (code-tested body turn k)
        (both-true (is_alike_code test step end) (beq first first) (code-tested step end l) ((booleans_Decides first first).1 refl))))
    statement-tested _ _ alike_breaks = refl
    statement-tested _ _ alike_continues = refl
    statement-tested _ _ alike_returns = refl

    code-tested : (a b : Code) → AreAlike same a b → is_alike_code test a b ≡ true
    code-tested _ _ alike_ends = refl
    code-tested _ _ (alike_more s o rest others h k) = both-true (is_alike_statement test s o) (is_alike_code test rest others) (statement-tested s o h) (code-tested rest others k)

  code-decided : (a b : Code) → Decides (is_alike_code test a b) (AreAlike same a b)
  code-decided a b = (code-told a b, code-tested a b)

  -- ---- procedures

  pub proc-decided : (program other : Program) (p q : Proc) → Decides (is_alike_proc test program other p q) (AreAlikeProcs same program other p q)
  proc-decided program other p q =
      let names = map has_name p.columns in
      let other_names = map has_name q.columns in
      let columns = pointwise (λ a b. beq (has_name a) (has_name b)) p.columns q.columns in
      let code = is_alike_code test (code_of p.body) (code_of q.body) in
      let named = slice_eq-Decides booleans_Decides names other_names columns (sym (pointwise-map has_name beq p.columns q.columns)) in
      Decides-like (is_alike_proc test program other p q)
      (λ h. record { globals = h.0; rule = h.1.0; params = h.1.1.0; returns = h.1.1.1.0; named = h.1.1.1.1.0; body = h.1.1.1.1.1 })
      (λ h. (h.globals, (h.rule, (h.params, (h.returns, (h.named, h.body))))))
      (Decides-and (length program.globals == length other.globals) _ (Decides-eqb (length program.globals) (length other.globals))
      (Decides-and (program.rule == other.rule) _ (Decides-eqb program.rule other.rule)
      (Decides-and (p.params == q.params) _ (Decides-eqb p.params q.params)
      (Decides-and (beq p.returns q.returns) _ (booleans_Decides p.returns q.returns)
      (Decides-and columns code named (code-decided (code_of p.body) (code_of q.body)))))))

  member-decided : (program other : Program) (proc next : ℕ) → Decides (is_alike_member test program other proc next) (AreAlikeMembers same program other proc next)
  member-decided program other proc next = go (slice_get program.procs proc) (slice_get other.procs next) refl refl
    where
      go : (o n : Option Proc) → slice_get program.procs proc ≡ o → slice_get other.procs next ≡ n → Decides (are_found_alike test program other o n) (AreAlikeMembers same program other proc next)
      go (Some p) (Some q) e f =
          Decides-like (is_alike_proc test program other p q)
          (λ h. record { p = p; q = q; is = e; other_is = f; alike = h })
          (λ m.
          let left : m.p ≡ p = cc (m.is, e) in
          let right : m.q ≡ q = cc (m.other_is, f) in
          subst (λ x. AreAlikeProcs same program other x q) left (subst (λ y. AreAlikeProcs same program other m.p y) right m.alike))
          (proc-decided program other p q)
      go None n e f = never (λ m. cc (m.is, e))
      go (Some p) None e f = never (λ m. cc (m.other_is, f))

-- ---- procedures that are called

callee-decided : (procs others : List ℕ) (known other_known : List (Option Transition)) (proc next : ℕ)
    → Decides (is_alike_callee procs others known other_known proc next) (AreAlikeCallees procs others known other_known proc next)
unfolding is_alike_callee
callee-decided procs others known other_known proc next =
    go (place_of proc procs) (place_of next others) refl refl (option_eq (option_eq is_same_formula) (slice_get known proc) (slice_get other_known next))
    (option-decided (option_eq is_same_formula) (option-decided is_same_formula formula-decided) (slice_get known proc) (slice_get other_known next))
  where
    go : (o n : Option ℕ) → place_of proc procs ≡ o → place_of next others ≡ n → (b : Bool) → Decides b (AreKnownAlike known other_known proc next)
        → Decides (is_alike_place o n b) (AreAlikeCallees procs others known other_known proc next)
    go (Some place) (Some there) e f b same =
        Decides-like (place == there)
        (λ h. record { place = e ∙ ap Some h ∙ sym f; outside = λ none. absurd (cc (none, e)) })
        (λ m. cc (m.place, e, f))
        (Decides-eqb place there)
    go None None e f b same = Decides-like b (λ h. record { place = e ∙ sym f; outside = λ none. h }) (λ m. m.outside e) same
    go None (Some there) e f b same = never (λ m. cc (m.place, e, f))
    go (Some place) None e f b same = never (λ m. cc (m.place, e, f))

-- ---- groups

once-told : (ns : List ℕ) → stand_once ns ≡ true → StandOnce ns
once-told [] e place next proc a b = absurd (none place a)
  where
    none : (k : ℕ) → slice_get [] k ≡ Some proc → ⊥
    none zero a = cc
    none (suc k) a = cc
once-told (n ∷ ns) e place next proc a b =
    let parts = both (not (is_some (place_of n ns))) (stand_once ns) e in
    go (place_of n ns) refl parts.0 (once-told ns parts.1) place next a b
  where
    go : (o : Option ℕ) → place_of n ns ≡ o → not (is_some o) ≡ true → StandOnce ns → (place next : ℕ) → slice_get (n ∷ ns) place ≡ Some proc → slice_get (n ∷ ns) next ≡ Some proc → place ≡ next
    go (Some k) at none later place next a b = absurd (false≢true none)
    go None at none later zero zero a b = refl
    go None at none later zero (suc next) a b = let same : proc ≡ n = cc in absurd (no-place n ns at next (subst (λ m. slice_get ns next ≡ Some m) same b))
    go None at none later (suc place) zero a b = let same : proc ≡ n = cc in absurd (no-place n ns at place (subst (λ m. slice_get ns place ≡ Some m) same a))
    go None at none later (suc place) (suc next) a b = ap suc (later place next proc a b)

once-tested : (ns : List ℕ) → StandOnce ns → stand_once ns ≡ true
once-tested [] h = refl
once-tested (n ∷ ns) h =
    both-true (not (is_some (place_of n ns))) (stand_once ns) (go (place_of n ns) refl)
    (once-tested ns (λ place next proc a b. let same : suc place ≡ suc next = h (suc place) (suc next) proc a b in omega (arith, same)))
  where
    go : (o : Option ℕ) → place_of n ns ≡ o → not (is_some o) ≡ true
    go None at = refl
    go (Some k) at = let same : 0 ≡ suc k = h 0 (suc k) n refl (placed-at n ns k at) in absurd (omega (arith, same))

once-decided : (ns : List ℕ) → Decides (stand_once ns) (StandOnce ns)
once-decided ns = (once-told ns, once-tested ns)

pub groups-decided : (program other : Program) (procs others : List ℕ) (known other_known : List (Option Transition))
    → Decides (are_alike_groups (is_alike_callee procs others known other_known) program other procs others known other_known) (AreAlikeGroups program other procs others known other_known)
groups-decided program other procs others known other_known =
    let test = is_alike_callee procs others known other_known in
    let Same = AreAlikeCallees procs others known other_known in
    let members =
    zipped-decided (is_alike_member test program other) (AreAlikeMembers Same program other)
    (member-decided Same test (callee-decided procs others known other_known) program other) procs others in
    Decides-like (are_alike_groups test program other procs others known other_known)
    (λ h. record { once = h.0; other_once = h.1.0; each = h.1.1.0; other_each = h.1.1.1.0; members = h.1.1.1.1 })
    (λ h. (h.once, (h.other_once, (h.each, (h.other_each, h.members)))))
    (Decides-and (stand_once procs) _ (once-decided procs)
    (Decides-and (stand_once others) _ (once-decided others)
    (Decides-and (length known == length program.procs) _ (Decides-eqb (length known) (length program.procs))
    (Decides-and (length other_known == length other.procs) _ (Decides-eqb (length other_known) (length other.procs)) members))))
