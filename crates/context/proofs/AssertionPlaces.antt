-- The assertions of a well-formed program are conditions that fit, and each stands in one place.
use Rattle.std.proofs.Common.{◌≡◌, ℕ, zero, suc, ◌+◌, ◌≤◌, Bool, true, false, length, List, [], ◌∷◌, ◌++◌, Option, Some, refl, sym, ap, ◌∙◌, arith}
use Rattle.std.specs.Prelude.{IsTrue, ◌&&◌, ◌==◌, nat_le, slice_get, if◌then◌else◌}
use Rattle.std.specs.List.{AllByRecursion}
use Rattle.std.proofs.lemmas.Bool.{leb-true}
use Rattle.std.proofs.lemmas.Bool.Decides.{Decides-eqb}
use Rattle.std.proofs.lemmas.List.Elements.{recursion_from_All}
use Rattle.items.proofs.Each.{each-append, each-get}
use Rattle.syntax_tree.specs.declared.program.Proc.{Proc}
use Rattle.syntax_tree.specs.declared.program.Program.{Program}
use Rattle.syntax_tree.specs.Code.{Statement, Set, Any, Call, Guard, Check, If, Loop, Break, Continue, Return, Code, End, Then, code_of}
use Rattle.syntax_tree.specs.Nodes.{code_nodes, statement_nodes}
use Rattle.syntax_tree.specs.WellFormed.{cond_fits, statement_fits, code_fits, statement_checks, code_checks, procs_checks, width_of, IsProcFit, IsWellFormed}
use Rattle.vocabularies.specs.Procs.{IsProcOf}
use Rattle.flow_graph.specs.FlowGraph.{CheckPlace, checks_at, code_checks_at, flow_of}

pub two : (a b : Bool) → IsTrue (a && b) → IsTrue a × IsTrue b
two true true h = (refl, refl)
two true false h = absurd (cc)
two false b h = absurd (cc)

pub some-one : {A : Type 0} (o : Option A) (x y : A) → o ≡ Some x → o ≡ Some y → x ≡ y
some-one o x y e f = cc

-- ---- the condition of each assertion fits, and its number is one of the program

abbrev pub IsCheckFit : Program → ℕ → CheckPlace → Type 0
IsCheckFit program width check = IsTrue (nat_le 1 check.number && nat_le check.number (length program.checks) && cond_fits width check.cond)

module _ (program : Program) (width : ℕ) where
  mutual
    statement-checks : (c : ℕ) (place : _) (statement : Statement) → IsTrue (statement_fits program width place statement) → AllByRecursion (IsCheckFit program width) (checks_at c statement)
    statement-checks c place (Set col value) h = tt
    statement-checks c place (Any col) h = tt
    statement-checks c place (Call proc args into) h = tt
    statement-checks c place (Guard cond) h = tt
    statement-checks c place (Check number cond) h = (h, tt)
    statement-checks c place (If cond on_true on_false) h =
        let a = two _ _ h in
        let b = two (cond_fits width cond) _ a.0 in
        each-append (IsCheckFit program width) (code_checks_at (c + 1) on_true) (code_checks_at (c + 1 + code_nodes on_true + 1) on_false)
        (code-checks (c + 1) place on_true b.1) (code-checks (c + 1 + code_nodes on_true + 1) place on_false a.1)
    statement-checks c place (Loop pre cond body step false) h =
        let a = two _ _ h in
        let b = two _ _ a.0 in
        let d = two (cond_fits width cond) _ b.0 in
        let body_at : ℕ = c + 1 + code_nodes pre + 1 in
        each-append (IsCheckFit program width) (code_checks_at (c + 1) pre ++ code_checks_at body_at body) (code_checks_at (body_at + code_nodes body + 1) step)
        (each-append (IsCheckFit program width) (code_checks_at (c + 1) pre) (code_checks_at body_at body) (code-checks (c + 1) _ pre d.1) (code-checks body_at _ body b.1))
        (code-checks (body_at + code_nodes body + 1) _ step a.1)
    statement-checks c place (Loop pre cond body step true) h =
        let a = two _ _ h in
        let b = two _ _ a.0 in
        let d = two (cond_fits width cond) _ b.0 in
        each-append (IsCheckFit program width) (code_checks_at (c + 1) body) (code_checks_at (c + 1 + code_nodes body + 1) pre)
        (code-checks (c + 1) _ body b.1) (code-checks (c + 1 + code_nodes body + 1) _ pre d.1)
    statement-checks c place Break h = tt
    statement-checks c place Continue h = tt
    statement-checks c place Return h = tt

    code-checks : (c : ℕ) (place : _) (code : Code) → IsTrue (code_fits program width place code) → AllByRecursion (IsCheckFit program width) (code_checks_at c code)
    code-checks c place End h = tt
    code-checks c place (Then statement rest) h =
        let a = two _ _ h in
        each-append (IsCheckFit program width) (checks_at c statement) (code_checks_at (c + statement_nodes statement) rest)
        (statement-checks c place statement a.0) (code-checks (c + statement_nodes statement) place rest a.1)

pub check-fits : (program : Program) (p : Proc) (n : ℕ) (check : CheckPlace) → IsProcFit program p → slice_get (flow_of (code_of p.body)).checks n ≡ Some check → IsCheckFit program (width_of program p) check
check-fits program p n check fit is =
    each-get (IsCheckFit program (width_of program p)) (code_checks_at 0 (code_of p.body)) n check (code-checks program (width_of program p) 0 _ (code_of p.body) fit.body) is

-- ---- how often a number stands among assertions

abbrev one : ℕ → ℕ → ℕ
one k number = if k == number then 1 else 0

abbrev times : ℕ → List CheckPlace → ℕ
times k [] = 0
times k (check ∷ checks) = one k check.number + times k checks

times-append : (k : ℕ) (xs ys : List CheckPlace) → times k (xs ++ ys) ≡ times k xs + times k ys
times-append k [] ys = omega arith
times-append k (x ∷ xs) ys = let e = times-append k xs ys in omega arith

one-same : (k number : ℕ) → number ≡ k → one k number ≡ 1
one-same k number e = let pick : Bool → ℕ = λ b. if b then 1 else 0 in ap pick ((Decides-eqb k number).1 (sym e))

mutual
  statement-times : (k c : ℕ) (statement : Statement) → times k (checks_at c statement) ≤ statement_checks k statement
  statement-times k c (Set col value) = omega arith
  statement-times k c (Any col) = omega arith
  statement-times k c (Call proc args into) = omega arith
  statement-times k c (Guard cond) = omega arith
  statement-times k c (Check number cond) = omega arith
  statement-times k c (If cond on_true on_false) =
      let next : ℕ = c + 1 + code_nodes on_true + 1 in
      let e = times-append k (code_checks_at (c + 1) on_true) (code_checks_at next on_false) in
      let a = code-times k (c + 1) on_true in
      let b = code-times k next on_false in
      omega (arith, e, a, b)
  statement-times k c (Loop pre cond body step false) =
      let body_at : ℕ = c + 1 + code_nodes pre + 1 in
      let step_at : ℕ = body_at + code_nodes body + 1 in
      let e = times-append k (code_checks_at (c + 1) pre ++ code_checks_at body_at body) (code_checks_at step_at step) in
      let f = times-append k (code_checks_at (c + 1) pre) (code_checks_at body_at body) in
      let x = code-times k (c + 1) pre in
      let y = code-times k body_at body in
      let z = code-times k step_at step in
      omega (arith, e, f, x, y, z)
  statement-times k c (Loop pre cond body step true) =
      let pre_at : ℕ = c + 1 + code_nodes body + 1 in
      let e = times-append k (code_checks_at (c + 1) body) (code_checks_at pre_at pre) in
      let a = code-times k (c + 1) body in
      let b = code-times k pre_at pre in
      omega (arith, e, a, b)
  statement-times k c Break = omega arith
  statement-times k c Continue = omega arith
  statement-times k c Return = omega arith

  code-times : (k c : ℕ) (code : Code) → times k (code_checks_at c code) ≤ code_checks k code
  code-times k c End = omega arith
  code-times k c (Then statement rest) =
      let e = times-append k (checks_at c statement) (code_checks_at (c + statement_nodes statement) rest) in
      let a = statement-times k c statement in
      let b = code-times k (c + statement_nodes statement) rest in
      omega (arith, e, a, b)

-- ---- a number that stands once

stands-some : (k : ℕ) (checks : List CheckPlace) (n : ℕ) (a : CheckPlace) → slice_get checks n ≡ Some a → a.number ≡ k → 1 ≤ times k checks
stands-some k [] n a is e = absurd (cc)
stands-some k (check ∷ checks) zero a is e =
    let same : check ≡ a = cc in
    let o = one-same k check.number (ap (λ (c : CheckPlace). c.number) same ∙ e) in omega (arith, o)
stands-some k (check ∷ checks) (suc n) a is e = let h = stands-some k checks n a is e in omega (arith, h)

stands-once : (k : ℕ) (checks : List CheckPlace) (m n : ℕ) (a b : CheckPlace) → times k checks ≤ 1 → slice_get checks m ≡ Some a → slice_get checks n ≡ Some b → a.number ≡ k → b.number ≡ k → m ≡ n
stands-once k [] m n a b few is js e f = absurd (cc)
stands-once k (check ∷ checks) zero zero a b few is js e f = refl
stands-once k (check ∷ checks) zero (suc n) a b few is js e f =
    let same : check ≡ a = cc in
    let o = one-same k check.number (ap (λ (c : CheckPlace). c.number) same ∙ e) in
    let h = stands-some k checks n b js f in absurd (omega (arith, o, h, few))
stands-once k (check ∷ checks) (suc m) zero a b few is js e f =
    let same : check ≡ b = cc in
    let o = one-same k check.number (ap (λ (c : CheckPlace). c.number) same ∙ f) in
    let h = stands-some k checks m a is e in absurd (omega (arith, o, h, few))
stands-once k (check ∷ checks) (suc m) (suc n) a b few is js e f = ap suc (stands-once k checks m n a b (omega (arith, few)) is js e f)

in-some : (k : ℕ) (procs : List Proc) (i : ℕ) (p : Proc) → slice_get procs i ≡ Some p → code_checks k (code_of p.body) ≤ procs_checks k procs
in-some k [] i p is = absurd (cc)
in-some k (q ∷ procs) zero p is =
    let same : q ≡ p = cc in
    let e = ap (λ (r : Proc). code_checks k (code_of r.body)) same in omega (arith, e)
in-some k (q ∷ procs) (suc i) p is = let h = in-some k procs i p is in omega (arith, h)

in-one : (k : ℕ) (procs : List Proc) (i j : ℕ) (p q : Proc) → procs_checks k procs ≤ 1 → slice_get procs i ≡ Some p → slice_get procs j ≡ Some q → 1 ≤ code_checks k (code_of p.body) → 1 ≤ code_checks k (code_of q.body) → i ≡ j
in-one k [] i j p q few is js a b = absurd (cc)
in-one k (r ∷ procs) zero zero p q few is js a b = refl
in-one k (r ∷ procs) zero (suc j) p q few is js a b =
    let same : r ≡ p = cc in
    let e = ap (λ (x : Proc). code_checks k (code_of x.body)) same in
    let h = in-some k procs j q js in absurd (omega (arith, e, h, few, a, b))
in-one k (r ∷ procs) (suc i) zero p q few is js a b =
    let same : r ≡ q = cc in
    let e = ap (λ (x : Proc). code_checks k (code_of x.body)) same in
    let h = in-some k procs i p is in absurd (omega (arith, e, h, few, a, b))
in-one k (r ∷ procs) (suc i) (suc j) p q few is js a b = ap suc (in-one k procs i j p q (omega (arith, few)) is js a b)

pub proc-fit : (program : Program) (i : ℕ) (p : Proc) → IsWellFormed program → IsProcOf program i p → IsProcFit program p
proc-fit program i p formed is = each-get (IsProcFit program) program.procs i p (recursion_from_All (IsProcFit program) program.procs formed.each) is

-- assertions with one number stand in one place
pub one-place : (program : Program) → IsWellFormed program → (i j m n : ℕ) (p q : Proc) (a b : CheckPlace) → IsProcOf program i p → IsProcOf program j q → slice_get (flow_of (code_of p.body)).checks m ≡ Some a
    → slice_get (flow_of (code_of q.body)).checks n ≡ Some b → a.number ≡ b.number → (i ≡ j) × (m ≡ n)
one-place program formed i j m n p q a b is js ks ls e =
    let k : ℕ = b.number in
    let fit = check-fits program q n b (proc-fit program j q formed js) ls in
    let range = two (nat_le 1 k && nat_le k (length program.checks)) _ fit in
    let ends = two (nat_le 1 k) (nat_le k (length program.checks)) range.0 in
    let once = formed.once k (leb-true 1 k ends.0) (leb-true k (length program.checks) ends.1) in
    let some_a = stands-some k (code_checks_at 0 (code_of p.body)) m a ks e in
    let some_b = stands-some k (code_checks_at 0 (code_of q.body)) n b ls refl in
    let in_a = code-times k 0 (code_of p.body) in
    let in_b = code-times k 0 (code_of q.body) in
    let same_i : i ≡ j = in-one k program.procs i j p q (omega (arith, once)) is js (omega (arith, some_a, in_a)) (omega (arith, some_b, in_b)) in
    let same_p : p ≡ q = some-one (slice_get program.procs j) p q (sym (ap (slice_get program.procs) same_i) ∙ is) js in
    let ks_q : slice_get (code_checks_at 0 (code_of q.body)) m ≡ Some a = sym (ap (λ (x : Proc). slice_get (code_checks_at 0 (code_of x.body)) m) same_p) ∙ ks in
    let few = in-some k program.procs j q js in
    (same_i, stands-once k (code_checks_at 0 (code_of q.body)) m n a b (omega (arith, in_b, few, once)) ks_q ls e refl)
