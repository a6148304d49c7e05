-- The members of a group by their places, and what is known with a table of their formulas.
use Rattle.std.proofs.Common.{◌≡◌, ◌⊎◌, inl, inr, ℕ, zero, suc, ◌<◌, ◌≤◌, List, [], ◌∷◌, ◌++◌, length, Option, None, Some, refl, sym, ap, subst, ◌∙◌, arith}
use Rattle.std.specs.Prelude.{option_to_list, slice_set}
use Rattle.std.specs.List.{AllByRecursion, slice_get}
use Rattle.std.proofs.lemmas.List.{length-set}
use Rattle.syntax_tree.specs.declared.program.Proc.{Proc}
use Rattle.syntax_tree.specs.declared.program.Program.{Program}
use Rattle.transition_formula.specs.Transition.{Transition}
use Rattle.vocabularies.specs.Procs.{IsProcOf}
use Rattle.newton_rounds.specs.Alike.{StandOnce}
use Rattle.newton_rounds.specs.Members.{members_of, with_table}
use Rattle.newton_rounds.proofs.CratesBelow.{some_at}
use Rattle.newton_rounds.proofs.GroupCalls.{AreThere}
use Rattle.newton_rounds.proofs.KnownTables.{set-get}

-- ---- members

module _ (program : Program) where
  -- a procedure of the group, and then the others
  pub first-member : (proc : ℕ) (procs : List ℕ) (p : Proc) → IsProcOf program proc p → members_of program (proc ∷ procs) ≡ p ∷ members_of program procs
  first-member proc procs p there = ap (λ o. option_to_list o ++ members_of program procs) there

  -- each member is a procedure of the program
  abbrev pub IsProcedure : Proc → Type 0
  IsProcedure p = (proc : ℕ) × (IsProcOf program proc p)

  pub each-member : (procs : List ℕ) → AreThere program procs → AllByRecursion IsProcedure (members_of program procs)
  each-member [] all = tt
  each-member (q ∷ procs) all =
      let one = some_at program.procs q all.0 in
      subst (AllByRecursion IsProcedure) (sym (first-member q procs one.0 one.1)) ((q, one.1), each-member procs all.1)

-- ---- what is known with a table

abbrev pub IsKnownAt : List (Option Transition) → ℕ → Type 0
IsKnownAt known proc = (f : Transition) × (slice_get known proc ≡ Some (Some f))

set-same : {X : Type 0} (xs : List X) (i : ℕ) (x : X) → i < length xs → slice_get (slice_set xs i x) i ≡ Some x
set-same [] i x lt = absurd (omega (arith, lt))
set-same (y ∷ xs) zero x lt = refl
set-same (y ∷ xs) (suc i) x lt = set-same xs i x (omega (arith, lt))

set-other : {X : Type 0} (xs : List X) (i j : ℕ) (x : X) → (i ≡ j → ⊥) → slice_get (slice_set xs i x) j ≡ slice_get xs j
set-other [] i j x differs = refl
set-other (y ∷ xs) zero zero x differs = absurd (differs refl)
set-other (y ∷ xs) zero (suc j) x differs = refl
set-other (y ∷ xs) (suc i) zero x differs = refl
set-other (y ∷ xs) (suc i) (suc j) x differs = set-other xs i j x (λ same. differs (ap suc same))

set-known : (known : List (Option Transition)) (i proc : ℕ) (f : Transition) → IsKnownAt known proc → IsKnownAt (slice_set known i (Some f)) proc
set-known [] i proc f h = h
set-known (o ∷ known) zero zero f h = (f, refl)
set-known (o ∷ known) zero (suc proc) f h = h
set-known (o ∷ known) (suc i) zero f h = h
set-known (o ∷ known) (suc i) (suc proc) f h = set-known known i proc f h

-- what was known stays known, if the table has a formula for each
pub table-keeps : (procs : List ℕ) (table : List Transition) (known : List (Option Transition)) (proc : ℕ) → length procs ≤ length table → IsKnownAt known proc → IsKnownAt (with_table procs table known) proc
table-keeps [] table known proc le h = h
table-keeps (q ∷ procs) [] known proc le h = absurd (omega (arith, le))
table-keeps (q ∷ procs) (f ∷ table) known proc le h = table-keeps procs table (slice_set known q (Some f)) proc (omega (arith, le)) (set-known known q proc f h)

-- and each member is
pub table-knows : (procs : List ℕ) (table : List Transition) (known : List (Option Transition)) (place proc : ℕ) → length procs ≤ length table → proc < length known → slice_get procs place ≡ Some proc → IsKnownAt (with_table procs table known) proc
table-knows [] table known place proc le lt e = absurd (none place e)
  where
    none : (n : ℕ) → slice_get [] n ≡ Some proc → ⊥
    none n e = cc
table-knows (q ∷ procs) [] known place proc le lt e = absurd (omega (arith, le))
table-knows (q ∷ procs) (f ∷ table) known zero proc le lt e =
    let same : q ≡ proc = cc in
    table-keeps procs table (slice_set known q (Some f)) proc (omega (arith, le)) (f, ap (slice_get (slice_set known q (Some f))) (sym same) ∙ set-same known q (Some f) (subst (λ n. n < length known) (sym same) lt))
table-knows (q ∷ procs) (f ∷ table) known (suc place) proc le lt e =
    table-knows procs table (slice_set known q (Some f)) place proc (omega (arith, le)) (subst (λ n. proc < n) (sym (length-set known q (Some f))) lt) e

-- a formula that is known is the table's for a place of its procedure, or was known
pub table-either : (procs : List ℕ) (table : List Transition) (known : List (Option Transition)) (proc : ℕ) (f : Transition) → slice_get (with_table procs table known) proc ≡ Some (Some f)
    → ((place : ℕ) × (slice_get procs place ≡ Some proc) × (slice_get table place ≡ Some f)) ⊎ (slice_get known proc ≡ Some (Some f))
table-either [] table known proc f e = inr e
table-either (q ∷ procs) [] known proc f e = go (table-either procs [] (slice_set known q None) proc f e)
  where
    none : (n : ℕ) → slice_get [] n ≡ Some f → ⊥
    none n e = cc

    older : ((q ≡ proc) × (None ≡ Some f)) ⊎ (slice_get known proc ≡ Some (Some f)) → ((place : ℕ) × (slice_get (q ∷ procs) place ≡ Some proc) × (slice_get [] place ≡ Some f)) ⊎ (slice_get known proc ≡ Some (Some f))
    older (inl both) = absurd (differs both.1)
      where
        differs : None ≡ Some f → ⊥
        differs e = cc
    older (inr h) = inr h

    go : ((place : ℕ) × (slice_get procs place ≡ Some proc) × (slice_get [] place ≡ Some f)) ⊎ (slice_get (slice_set known q None) proc ≡ Some (Some f))
        → ((place : ℕ) × (slice_get (q ∷ procs) place ≡ Some proc) × (slice_get [] place ≡ Some f)) ⊎ (slice_get known proc ≡ Some (Some f))
    go (inl there) = absurd (none there.0 there.2)
    go (inr h) = older (set-get known q proc None (Some f) h)
table-either (q ∷ procs) (g ∷ table) known proc f e = go (table-either procs table (slice_set known q (Some g)) proc f e)
  where
    older : ((q ≡ proc) × (Some g ≡ Some f)) ⊎ (slice_get known proc ≡ Some (Some f)) → ((place : ℕ) × (slice_get (q ∷ procs) place ≡ Some proc) × (slice_get (g ∷ table) place ≡ Some f)) ⊎ (slice_get known proc ≡ Some (Some f))
    older (inl both) = inl (0, ap Some both.0, both.1)
    older (inr h) = inr h

    go : ((place : ℕ) × (slice_get procs place ≡ Some proc) × (slice_get table place ≡ Some f)) ⊎ (slice_get (slice_set known q (Some g)) proc ≡ Some (Some f))
        → ((place : ℕ) × (slice_get (q ∷ procs) place ≡ Some proc) × (slice_get (g ∷ table) place ≡ Some f)) ⊎ (slice_get known proc ≡ Some (Some f))
    go (inl there) = inl (suc there.0, there.1, there.2)
    go (inr h) = older (set-get known q proc (Some g) (Some f) h)

-- what is known of a procedure outside is left as it was
pub table-leaves : (procs : List ℕ) (table : List Transition) (known : List (Option Transition)) (proc : ℕ) → ((place : ℕ) → slice_get procs place ≡ Some proc → ⊥)
    → slice_get (with_table procs table known) proc ≡ slice_get known proc
table-leaves [] table known proc none = refl
table-leaves (q ∷ procs) [] known proc none =
    table-leaves procs [] (slice_set known q None) proc (λ place. none (suc place)) ∙ set-other known q proc None (λ same. none 0 (ap Some same))
table-leaves (q ∷ procs) (f ∷ table) known proc none =
    table-leaves procs table (slice_set known q (Some f)) proc (λ place. none (suc place)) ∙ set-other known q proc (Some f) (λ same. none 0 (ap Some same))

-- and of each member, if it stands once, the table's formula for its place is known
pub table-tells : (procs : List ℕ) (table : List Transition) (known : List (Option Transition)) (place proc : ℕ) → StandOnce procs → slice_get procs place ≡ Some proc → proc < length known
    → slice_get (with_table procs table known) proc ≡ Some (slice_get table place)
table-tells [] table known place proc once e lt = absurd (none place e)
  where
    none : (n : ℕ) → slice_get [] n ≡ Some proc → ⊥
    none n e = cc
table-tells (q ∷ procs) table known place proc once e lt =
    go place table e (λ o more k f. table-tells procs more (slice_set known q o) k proc rest f (subst (λ n. proc < n) (sym (length-set known q o)) lt))
  where
    rest : StandOnce procs
    rest a b n x y = let same = once (suc a) (suc b) n x y in omega (arith, same)

    first : (o : Option Transition) (more : List Transition) → q ≡ proc → slice_get (with_table procs more (slice_set known q o)) proc ≡ Some o
    first o more same =
        table-leaves procs more (slice_set known q o) proc (λ k f. let both = once 0 (suc k) proc (ap Some same) f in omega (arith, both))
        ∙ ap (slice_get (slice_set known q o)) (sym same) ∙ set-same known q o (subst (λ n. n < length known) (sym same) lt)

    go : (k : ℕ) (all : List Transition) → slice_get (q ∷ procs) k ≡ Some proc
        → ((o : Option Transition) (more : List Transition) (j : ℕ) → slice_get procs j ≡ Some proc → slice_get (with_table procs more (slice_set known q o)) proc ≡ Some (slice_get more j))
        → slice_get (with_table (q ∷ procs) all known) proc ≡ Some (slice_get all k)
    go zero [] f later = first None [] cc
    go zero (g ∷ all) f later = first (Some g) all cc
    go (suc k) [] f later = later None [] k f
    go (suc k) (g ∷ all) f later = later (Some g) all k f
