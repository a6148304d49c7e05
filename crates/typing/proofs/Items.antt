-- Laws of what is read of the items of a text one after another.
use Rattle.std.proofs.Common.{◌≡◌, ℕ, ◌+◌, Option, None, Some, List, [], ◌∷◌, ◌++◌, length, refl, sym, subst, add-zero, append_assoc, length-append, arith}
use Rattle.std.proofs.lemmas.List.{append-nil}
use Rattle.syntax_tree.specs.declared.program.Proc.{Proc}
use Rattle.syntax_tree.specs.declared.tree.Item.{Item}
use Rattle.syntax_tree.specs.declared.tree.Item.TheVariants.{Global, Proto, Body}
use Rattle.typing.specs.declared.error.TypeError.{TypeError}
use Rattle.typing.specs.declared.meaning.Meaning.{Meaning}
use Rattle.typing.specs.Elaborated.{checks_in, procs_of}
use Rattle.typing.specs.Faults.{declaration_faults, least_of, procs_faults}
use Rattle.typing.specs.Scopes.{Scope, or_outer}
use Rattle.typing.specs.Texts.{bodies, count_bodies, count_globals, declarations}
use Rattle.typing.proofs.Steps.{appended, least_of-append}

pub or_outer-none : (meaning : Option Meaning) → or_outer meaning None ≡ meaning
or_outer-none None = refl
or_outer-none (Some meaning) = refl

pub declarations-next : (g p : ℕ) (item : Item) (rest : List Item)
    → declarations g p (item ∷ rest) ≡ declarations g p (item ∷ []) ++ declarations (g + count_globals (item ∷ [])) (p + count_bodies (item ∷ [])) rest
declarations-next g p (Global name at init) rest = simp add-zero
declarations-next g p (Proto name at returns params) rest = simp add-zero
declarations-next g p (Body name at returns params lines end) rest = simp add-zero

pub bodies-next : (p : ℕ) (item : Item) (rest : List Item) → bodies p (item ∷ rest) ≡ bodies p (item ∷ []) ++ bodies (p + count_bodies (item ∷ [])) rest
bodies-next p (Global name at init) rest = simp add-zero
bodies-next p (Proto name at returns params) rest = simp add-zero
bodies-next p (Body name at returns params lines end) rest = simp add-zero

pub count_globals-next : (item : Item) (rest : List Item) → count_globals (item ∷ rest) ≡ count_globals (item ∷ []) + count_globals rest
count_globals-next (Global name at init) rest = omega arith
count_globals-next (Proto name at returns params) rest = omega arith
count_globals-next (Body name at returns params lines end) rest = omega arith

pub declaration_faults-next : (above : Scope) (g p : ℕ) (item : Item) (rest : List Item)
    → declaration_faults above g p (item ∷ rest)
    ≡ declaration_faults above g p (item ∷ []) ++ declaration_faults (above ++ declarations g p (item ∷ [])) (g + count_globals (item ∷ [])) (p + count_bodies (item ∷ [])) rest
declaration_faults-next above g p (Global name at init) rest = simp (add-zero, append-nil)
declaration_faults-next above g p (Proto name at returns params) rest = simp (add-zero, append-nil)
declaration_faults-next above g p (Body name at returns params lines end) rest = simp (add-zero, append-nil)

pub procs_of-next : (text : Scope) (g n : ℕ) (item : Item) (rest : List Item)
    → procs_of text g n (item ∷ rest) ≡ procs_of text g n (item ∷ []) ++ procs_of text g (n + length (checks_in (item ∷ []))) rest
procs_of-next text g n (Global name at init) rest = simp add-zero
procs_of-next text g n (Proto name at returns params) rest = simp add-zero
procs_of-next text g n (Body name at returns params lines end) rest = simp append-nil

pub procs_faults-next : (text : Scope) (g n : ℕ) (item : Item) (rest : List Item)
    → procs_faults text g n (item ∷ rest) ≡ procs_faults text g n (item ∷ []) ++ procs_faults text g (n + length (checks_in (item ∷ []))) rest
procs_faults-next text g n (Global name at init) rest = simp add-zero
procs_faults-next text g n (Proto name at returns params) rest = simp add-zero
procs_faults-next text g n (Body name at returns params lines end) rest = simp append-nil

pub checks_in-next : (item : Item) (rest : List Item) → checks_in (item ∷ rest) ≡ checks_in (item ∷ []) ++ checks_in rest
checks_in-next (Global name at init) rest = refl
checks_in-next (Proto name at returns params) rest = refl
checks_in-next (Body name at returns params lines end) rest = simp append-nil

-- one more item, where the scope of the text is known by an equation
pub procs_of-step : (before all : List Proc) (text same : Scope) (g : ℕ) (above now : List ℕ) (item : Item) (rest : List Item)
    → text ≡ same → now ≡ above ++ checks_in (item ∷ [])
    → before ++ procs_of same g (length above) (item ∷ rest) ≡ all
    → (before ++ procs_of text g (length above) (item ∷ [])) ++ procs_of same g (length now) rest ≡ all
procs_of-step before all text same g above now item rest e counted h =
    subst (λ (t : Scope). (before ++ procs_of t g (length above) (item ∷ [])) ++ procs_of same g (length now) rest ≡ all) (sym e)
    (rw (counted, length-append, append_assoc, ← procs_of-next) h)

pub procs_faults-step : (before all : Option TypeError) (text same : Scope) (g : ℕ) (above now : List ℕ) (item : Item) (rest : List Item)
    → text ≡ same → now ≡ above ++ checks_in (item ∷ [])
    → least_of before (procs_faults same g (length above) (item ∷ rest)) ≡ all
    → least_of (least_of before (procs_faults text g (length above) (item ∷ []))) (procs_faults same g (length now) rest) ≡ all
procs_faults-step before all text same g above now item rest e counted h =
    subst (λ (t : Scope). least_of (least_of before (procs_faults t g (length above) (item ∷ []))) (procs_faults same g (length now) rest) ≡ all) (sym e)
    (rw (counted, length-append, ← least_of-append, ← procs_faults-next) h)

pub ruleset items = (or_outer-none, appended, append-nil, least_of-append)
