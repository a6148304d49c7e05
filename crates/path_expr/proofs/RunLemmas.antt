-- One evaluation after another.
use Rattle.std.proofs.Common.{◌≡◌, ℕ, ◌≤◌, Bool, List, [], ◌++◌, Option, None, Some, refl, sym, ◌∙◌, ap, subst, arith, append_assoc}
use Rattle.std.proofs.lemmas.List.{append-nil}
use Rattle.std.proofs.lemmas.Result.{err_from_is_err_and}
use Rattle.std.specs.Prelude.{Result, Ok, Err, IfOk}
use Rattle.std.specs.Result.{IsErrAnd}
use Rattle.path_expr.specs.declared.cell.ReachError.{ReachError}
use Rattle.path_expr.specs.declared.cell.ReachError.TheVariants.{Algebra, Memory}
use Rattle.path_expr.specs.PathExpr.{PathExpr}
use Rattle.path_expr.specs.Algebra.{Keeps}
use Rattle.path_expr.specs.Runs.{Refuses, Answers, HasCause, Runs, Makes, error_of}

module _ {A T F : Type 0} (fits : A → PathExpr → T → Type 0) (spans : A → T → ℕ → ℕ → Type 0) (ends : A → ℕ → ℕ → ℕ → Type 0)
    (is_memory : F → Bool) (faults : A → ℕ) (made : A → List PathExpr → Type 0) (stopped : A → PathExpr → Type 0) where
  Keeps-then : {a b c : A} → Keeps fits spans ends faults a b → Keeps fits spans ends faults b c → Keeps fits spans ends faults a c
  Keeps-then h r = record {
    paths = λ p x f. r.paths p x (h.paths p x f);
    nodes = λ x i j s. r.nodes x i j (h.nodes x i j s);
    numbers = λ k i j e. r.numbers k i j (h.numbers k i j e);
    later = let x = h.later in let y = r.later in omega arith;
  }

  Keeps-same : (a : A) → Keeps fits spans ends faults a a
  Keeps-same a = record { paths = λ p x f. f; nodes = λ x i j s. s; numbers = λ k i j e. e; later = omega arith }

  -- the cause of an error that came after calls that went well
  HasCause-later : (a b c : A) (e : Option (ReachError F)) → faults a ≤ faults b → HasCause is_memory faults b c e → HasCause is_memory faults a c e
  HasCause-later a b c None le h = tt
  HasCause-later a b c (Some Memory) le h = tt
  HasCause-later a b c (Some (Algebra f)) le h = λ n. let r = h n in omega arith

  Refuses-more : (a : A) (rest more : List PathExpr) (e : ReachError F) → Refuses is_memory stopped a rest e → Refuses is_memory stopped a (rest ++ more) e
  Refuses-more a rest more Memory h = tt
  Refuses-more a rest more (Algebra f) h = λ n. let s = h n in (s.0, s.1 ++ more, ap (λ x. x ++ more) s.2, s.3)

  Answers-then : (c : A) (done o1 o2 : List PathExpr) (e : Option (ReachError F)) → Answers is_memory made stopped c (done ++ o1) o2 e → Answers is_memory made stopped c done (o1 ++ o2) e
  Answers-then c done o1 o2 None h = subst (made c) (append_assoc done o1 o2) h
  Answers-then c done o1 o2 (Some e) h = record {
    front = o1 ++ h.front;
    rest = h.rest;
    parts = ap (λ x. o1 ++ x) h.parts ∙ sym (append_assoc o1 h.front h.rest);
    answered = subst (made c) (append_assoc done o1 h.front) h.answered;
    refused = h.refused;
  }

-- an error is a good answer
IfOk-err : {X F : Type 0} (P : X → Type 0) (r : Result X (ReachError F)) (e : ReachError F) → IsErrAnd r (λ y. y ≡ e) → IfOk r P
IfOk-err P r e is = let p = err_from_is_err_and r is in subst (λ y. IfOk y P) (sym p.1) tt

module _ {A T F : Type 0} {fits : A → PathExpr → T → Type 0} {spans : A → T → ℕ → ℕ → Type 0} {ends : A → ℕ → ℕ → ℕ → Type 0}
    {is_memory : F → Bool} {faults : A → ℕ} {made : A → List PathExpr → Type 0} {stopped : A → PathExpr → Type 0} where
  -- no operation
  pub Runs-none : (a : A) → Runs fits spans ends is_memory faults made stopped a a [] None
  Runs-none a = record {
    keeps = Keeps-same fits spans ends is_memory faults made stopped a;
    answers = λ done h. subst (made a) (sym (append-nil done)) h;
    cause = tt;
  }

  -- an evaluation after one that went well
  pub Runs-then : {a b c : A} {o1 o2 : List PathExpr} {e : Option (ReachError F)} →
      Runs fits spans ends is_memory faults made stopped a b o1 None → Runs fits spans ends is_memory faults made stopped b c o2 e →
      Runs fits spans ends is_memory faults made stopped a c (o1 ++ o2) e
  Runs-then {a} {b} {c} {o1} {o2} {e} h r = record {
    keeps = Keeps-then fits spans ends is_memory faults made stopped h.keeps r.keeps;
    answers = λ done m. Answers-then fits spans ends is_memory faults made stopped c done o1 o2 e (r.answers (done ++ o1) (h.answers done m));
    cause = HasCause-later fits spans ends is_memory faults made stopped a b c e h.keeps.later r.cause;
  }

  -- an evaluation that failed, as a part of a longer one
  pub Runs-more : {a b : A} {o1 : List PathExpr} {e : ReachError F} (o2 : List PathExpr) →
      Runs fits spans ends is_memory faults made stopped a b o1 (Some e) → Runs fits spans ends is_memory faults made stopped a b (o1 ++ o2) (Some e)
  Runs-more {a} {b} {o1} {e} o2 h = record {
    keeps = h.keeps;
    answers = λ done m. let s = h.answers done m in record {
      front = s.front;
      rest = s.rest ++ o2;
      parts = ap (λ x. x ++ o2) s.parts ∙ append_assoc s.front s.rest o2;
      answered = s.answered;
      refused = Refuses-more fits spans ends is_memory faults made stopped b s.rest o2 e s.refused;
    };
    cause = h.cause;
  }

  -- want of memory in the midst of an evaluation
  pub Runs-memory : {a b : A} {o1 : List PathExpr} (o2 : List PathExpr) →
      Runs fits spans ends is_memory faults made stopped a b o1 None → Runs fits spans ends is_memory faults made stopped a b (o1 ++ o2) (Some Memory)
  Runs-memory {a} {b} {o1} o2 h = record {
    keeps = h.keeps;
    answers = λ done m. record { front = o1; rest = o2; parts = refl; answered = h.answers done m; refused = tt };
    cause = tt;
  }

  -- the same operations, otherwise written
  pub Runs-as : {a b : A} {o1 o2 : List PathExpr} {e : Option (ReachError F)} → o1 ≡ o2 →
      Runs fits spans ends is_memory faults made stopped a b o1 e → Runs fits spans ends is_memory faults made stopped a b o2 e
  Runs-as {a} {b} {o1} {o2} {e} is h = subst (λ o. Runs fits spans ends is_memory faults made stopped a b o e) is h

  -- the exit of a `?` after a part that failed
  pub Runs-exit : {X : Type 0} {a b : A} {o1 : List PathExpr} {e : ReachError F} (r : Result X (ReachError F)) (o2 : List PathExpr) →
      IsErrAnd r (λ y. y ≡ e) → Runs fits spans ends is_memory faults made stopped a b o1 (Some e) →
      Runs fits spans ends is_memory faults made stopped a b (o1 ++ o2) (error_of r)
  Runs-exit {X} {a} {b} {o1} {e} r o2 is h = let p = err_from_is_err_and r is in
      subst (λ y. Runs fits spans ends is_memory faults made stopped a b (o1 ++ o2) (error_of y)) (sym (p.1 ∙ ap Err p.2)) (Runs-more o2 h)

  -- the exit of a `?` where memory is wanting
  pub Runs-exit_memory : {X : Type 0} {a b : A} {o1 : List PathExpr} (r : Result X (ReachError F)) (o2 : List PathExpr) →
      IsErrAnd r (λ y. y ≡ Memory) → Runs fits spans ends is_memory faults made stopped a b o1 None →
      Runs fits spans ends is_memory faults made stopped a b (o1 ++ o2) (error_of r)
  Runs-exit_memory {X} {a} {b} {o1} r o2 is h = let p = err_from_is_err_and r is in
      subst (λ y. Runs fits spans ends is_memory faults made stopped a b (o1 ++ o2) (error_of y)) (sym (p.1 ∙ ap Err p.2)) (Runs-memory o2 h)

  -- an answer
  pub Makes-ok : {X : Type 0} {P : X → Type 0} {a b : A} {ops : List PathExpr} (x : X) →
      Runs fits spans ends is_memory faults made stopped a b ops None → P x → Makes fits spans ends is_memory faults made stopped a b ops (Ok x) P
  Makes-ok x h p = record { run = h; good = p }

  -- the same operations, otherwise written
  pub Makes-as : {X : Type 0} {P : X → Type 0} {a b : A} {o1 o2 : List PathExpr} {r : Result X (ReachError F)} → o1 ≡ o2 →
      Makes fits spans ends is_memory faults made stopped a b o1 r P → Makes fits spans ends is_memory faults made stopped a b o2 r P
  Makes-as is h = record { run = Runs-as is h.run; good = h.good }

  -- a call after an evaluation that went well
  pub Makes-then : {X : Type 0} {P : X → Type 0} {a b c : A} {o1 o2 : List PathExpr} {r : Result X (ReachError F)} →
      Runs fits spans ends is_memory faults made stopped a b o1 None → Makes fits spans ends is_memory faults made stopped b c o2 r P →
      Makes fits spans ends is_memory faults made stopped a c (o1 ++ o2) r P
  Makes-then h m = record { run = Runs-then h m.run; good = m.good }

  -- the exit of a `?` after a part that failed
  pub Makes-exit : {X : Type 0} {P : X → Type 0} {a b : A} {o1 : List PathExpr} {e : ReachError F} (r : Result X (ReachError F)) (o2 : List PathExpr) →
      IsErrAnd r (λ y. y ≡ e) → Runs fits spans ends is_memory faults made stopped a b o1 (Some e) →
      Makes fits spans ends is_memory faults made stopped a b (o1 ++ o2) r P
  Makes-exit {X} {P} {a} {b} {o1} {e} r o2 is h = record { run = Runs-exit r o2 is h; good = IfOk-err P r e is }

  -- the exit of a `?` where memory is wanting
  pub Makes-exit_memory : {X : Type 0} {P : X → Type 0} {a b : A} {o1 : List PathExpr} (r : Result X (ReachError F)) (o2 : List PathExpr) →
      IsErrAnd r (λ y. y ≡ Memory) → Runs fits spans ends is_memory faults made stopped a b o1 None →
      Makes fits spans ends is_memory faults made stopped a b (o1 ++ o2) r P
  Makes-exit_memory {X} {P} r o2 is h = record { run = Runs-exit_memory r o2 is h; good = IfOk-err P r Memory is }

  -- what follows from a good answer
  pub Makes-good : {X : Type 0} {P Q : X → Type 0} {a b : A} {ops : List PathExpr} {r : Result X (ReachError F)} →
      Makes fits spans ends is_memory faults made stopped a b ops r P → ((x : X) → P x → Q x) → Makes fits spans ends is_memory faults made stopped a b ops r Q
  Makes-good {X} {P} {Q} {a} {b} {ops} {r} m f = record { run = m.run; good = good r m.good }
    where
      good : (r : Result X (ReachError F)) → IfOk r P → IfOk r Q
      good (Ok x) p = f x p
      good (Err e) p = tt
