-- What the names in scope mean fits a program: columns are below a number, and procedures stand in
-- the program.
use Rattle.std.proofs.Common.{◌≡◌, ℕ, ◌+◌, ◌<◌, Bool, true, false, Option, None, Some, List, [], ◌∷◌, ◌++◌, subst}
use Rattle.std.specs.Prelude.{is_none, unwrap_or, slice_get, if◌then◌else◌}
use Rattle.std.specs.Str.{bytes_eq}
use Rattle.syntax_tree.specs.declared.program.Proc.{Proc}
use Rattle.typing.specs.declared.callee.Callee.{Callee}
use Rattle.typing.specs.declared.callee.Callee.TheVariants as callee
use Rattle.typing.specs.declared.env.Env.{Env}
use Rattle.typing.specs.declared.env.LoopPlace.{LoopPlace}
use Rattle.typing.specs.declared.meaning.Meaning.{Meaning}
use Rattle.typing.specs.declared.meaning.Meaning.TheVariants.{Variable, Procedure}
use Rattle.typing.specs.declared.meaning.CallSignature.{CallSignature}
use Rattle.typing.specs.declared.special.Special.{Special}
use Rattle.typing.specs.CallFaults.{variable_faults}
use Rattle.typing.specs.Env.{without_scope, with_variable, with_assertions, with_scope, with_place, with_columns_taken}
use Rattle.typing.specs.Scopes.{Entry, Scope, callee_of, column_of, with_declaration, meaning_in, if_procedure, if_special, if_variable, meaning_of, or_outer, outer_of, variable_of}
use Rattle.typing.specs.Specials.{is_special, special_of}
use Rattle.typing.proofs.Splits.{not_when}

-- the procedure of a signature stands in the program as it says
pub record IsKnown (procs : List Proc) (signature : CallSignature) : Type 0 where
  pub proc : Proc
  pub stands : slice_get procs signature.number ≡ Some proc
  pub params : proc.params ≡ signature.params
  pub returns : proc.returns ≡ signature.returns

abbrev pub MeaningFits : List Proc → ℕ → Meaning → Type 0
MeaningFits procs width (Variable col) = col < width
MeaningFits procs width (Procedure signature) = IsKnown procs signature

abbrev pub IfFits : List Proc → ℕ → Option Meaning → Type 0
IfFits procs width None = Unit {0}
IfFits procs width (Some meaning) = MeaningFits procs width meaning

abbrev pub ScopeFits : List Proc → ℕ → Scope → Type 0
ScopeFits procs width [] = Unit {0}
ScopeFits procs width (entry ∷ rest) = MeaningFits procs width entry.1 × ScopeFits procs width rest

abbrev pub ScopesFit : List Proc → ℕ → List Scope → Type 0
ScopesFit procs width [] = Unit {0}
ScopesFit procs width (scope ∷ outer) = ScopeFits procs width scope × ScopesFit procs width outer

if_fits : (procs : List Proc) (width : ℕ) (b : Bool) (x y : Option Meaning) → IfFits procs width x → IfFits procs width y → IfFits procs width (if b then x else y)
if_fits procs width true x y h k = h
if_fits procs width false x y h k = k

found_fits : (procs : List Proc) (width : ℕ) (scope : Scope) (name : List ℕ) → ScopeFits procs width scope → IfFits procs width (meaning_in scope name)
found_fits procs width [] name h = tt
found_fits procs width (entry ∷ rest) name h = if_fits procs width (bytes_eq entry.0 name) (Some entry.1) (meaning_in rest name) h.0 (found_fits procs width rest name h.1)

or_fits : (procs : List Proc) (width : ℕ) (x y : Option Meaning) → IfFits procs width x → IfFits procs width y → IfFits procs width (or_outer x y)
or_fits procs width None y h k = k
or_fits procs width (Some m) y h k = h

pub meaning_fits : (procs : List Proc) (width : ℕ) (scopes : List Scope) (name : List ℕ) → ScopesFit procs width scopes → IfFits procs width (meaning_of scopes name)
meaning_fits procs width [] name h = tt
meaning_fits procs width (scope ∷ outer) name h =
    or_fits procs width (meaning_in scope name) (meaning_of outer name) (found_fits procs width scope name h.0) (meaning_fits procs width outer name h.1)

abbrev IsYes : Bool → Type 0
IsYes true = Unit {0}
IsYes false = ⊥

column_below : (procs : List Proc) (width : ℕ) (special : Bool) (m : Option Meaning) → IfFits procs width m
    → is_none (if special then None else if_variable m) ≡ false → unwrap_or (if special then None else if_variable m) 0 < width
column_below procs width true m h e = absurd (subst (λ (b : Bool). IsYes b) e tt)
column_below procs width false None h e = absurd (subst (λ (b : Bool). IsYes b) e tt)
column_below procs width false (Some (Variable col)) h e = h
column_below procs width false (Some (Procedure signature)) h e = absurd (subst (λ (b : Bool). IsYes b) e tt)

-- the column of a variable is below
pub variable_below : (procs : List Proc) (width : ℕ) (env : Env) (at : ℕ) (name : List ℕ) → ScopesFit procs width env.scopes
    → variable_faults env at name ≡ [] → column_of env.scopes name < width
unfolding variable_of
variable_below procs width env at name h f =
    column_below procs width (is_special name) (meaning_of env.scopes name) (meaning_fits procs width env.scopes name h) (not_when _ _ f)

-- the procedure that a call means is known
abbrev pub CalleeFits : List Proc → Callee → Type 0
CalleeFits procs (callee.Special special) = Unit {0}
CalleeFits procs (callee.Own signature) = IsKnown procs signature
CalleeFits procs callee.Nobody = Unit {0}

pub procedure_fits : (procs : List Proc) (width : ℕ) (m : Option Meaning) → IfFits procs width m → CalleeFits procs (if_procedure m)
procedure_fits procs width None h = tt
procedure_fits procs width (Some (Variable col)) h = tt
procedure_fits procs width (Some (Procedure signature)) h = h

special_fits : (procs : List Proc) (o : Option Special) (c : Callee) → CalleeFits procs c → CalleeFits procs (if_special o c)
special_fits procs None c h = h
special_fits procs (Some special) c h = tt

pub call_known : (procs : List Proc) (width : ℕ) (scopes : List Scope) (name : List ℕ) → ScopesFit procs width scopes → CalleeFits procs (callee_of scopes name)
unfolding callee_of
call_known procs width scopes name h =
    special_fits procs (special_of name) (if_procedure (meaning_of scopes name)) (procedure_fits procs width (meaning_of scopes name) (meaning_fits procs width scopes name h))

-- ---- scopes as lines change them

scope_append : (procs : List Proc) (width : ℕ) (scope : Scope) (entry : Entry) → ScopeFits procs width scope → MeaningFits procs width entry.1 → ScopeFits procs width (scope ++ entry ∷ [])
scope_append procs width [] entry h m = (m, tt)
scope_append procs width (e ∷ rest) entry h m = (h.0, scope_append procs width rest entry h.1 m)

declared_fits : (procs : List Proc) (width : ℕ) (scopes : List Scope) (name : List ℕ) (meaning : Meaning) → ScopesFit procs width scopes
    → MeaningFits procs width meaning → ScopesFit procs width (with_declaration name meaning scopes)
declared_fits procs width [] name meaning h m = ((m, tt), tt)
declared_fits procs width (scope ∷ outer) name meaning h m = (scope_append procs width scope (name, meaning) h.0 m, h.1)

outer_fits : (procs : List Proc) (width : ℕ) (scopes : List Scope) → ScopesFit procs width scopes → ScopesFit procs width (outer_of scopes)
outer_fits procs width [] h = tt
outer_fits procs width (scope ∷ outer) h = h.1

-- the names of an environment fit, and the returned value has the last column
pub record EnvFits (procs : List Proc) (width : ℕ) (env : Env) : Type 0 where
  pub scopes : ScopesFit procs width env.scopes
  pub ret : env.ret + 1 ≡ width

pub taken_env : {procs : List Proc} {width : ℕ} (n : ℕ) (env : Env) → EnvFits procs width env → EnvFits procs width (with_columns_taken n env)
unfolding with_columns_taken
taken_env n env h = record { scopes = h.scopes; ret = h.ret }

pub numbered_env : {procs : List Proc} {width : ℕ} (n : ℕ) (env : Env) → EnvFits procs width env → EnvFits procs width (with_assertions n env)
unfolding with_assertions
numbered_env n env h = record { scopes = h.scopes; ret = h.ret }

pub declared_env : {procs : List Proc} {width : ℕ} (name : List ℕ) (env : Env) → env.next < width → EnvFits procs width env → EnvFits procs width (with_variable name env)
unfolding with_variable
declared_env {procs = procs} {width = width} name env l h = record { scopes = declared_fits procs width env.scopes name (Variable env.next) h.scopes l; ret = h.ret }

pub opened_env : {procs : List Proc} {width : ℕ} (env : Env) → EnvFits procs width env → EnvFits procs width (with_scope env)
unfolding with_scope
opened_env env h = record { scopes = (tt, h.scopes); ret = h.ret }

pub closed_env : {procs : List Proc} {width : ℕ} (env : Env) → EnvFits procs width env → EnvFits procs width (without_scope env)
unfolding without_scope
closed_env {procs = procs} {width = width} env h = record { scopes = outer_fits procs width env.scopes h.scopes; ret = h.ret }

pub placed_env : {procs : List Proc} {width : ℕ} (place : LoopPlace) (env : Env) → EnvFits procs width env → EnvFits procs width (with_place place env)
unfolding with_place
placed_env place env h = record { scopes = h.scopes; ret = h.ret }
