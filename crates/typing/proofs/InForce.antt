-- What is in force for a name, when a scope opens, declares and ends.
use Rattle.std.proofs.Common.{◌≡◌, inl, inr, ℕ, ◌+◌, ◌<◌, ◌==◌, Bool, true, false, Option, None, Some, is_some, unwrap_or, List, [], ◌∷◌, ◌++◌, map, reverse, length, slice_get, drop, refl, sym, ap, subst, ◌∙◌, if◌then◌else◌, arith}
use Rattle.std.proofs.lemmas.List.{append_assoc, length-map, length-reverse, map-append, reverse-append}
use Rattle.std.specs.Option.{option_map}
use Rattle.std.specs.Str.{bytes_eq}
use Rattle.std.specs.Map.{lookup}
use Rattle.std.proofs.lemmas.Slice.Eq.{bytes_eq-Decides}
use Rattle.typing.specs.declared.meaning.Meaning.{Meaning}
use Rattle.typing.specs.declared.scopes.Held.{Held}
use Rattle.typing.specs.declared.scopes.Declaration.{Declaration}
use Rattle.typing.specs.Scopes.{Scope, meaning_in, is_declared_here, meaning_of, or_outer}
use Rattle.typing.specs.InForce.{after_declaration, AllAfter, entry_of, flat, entry_for, in_force, is_at, IsInForce, IsInnermost, or_held, Restores, RestoresAll, scopes_of}
use Rattle.typing.proofs.Lookups.{meaning_in-append}

-- ---- lists whose elements have to do with those before them

after-none : {A : Type 0} (P : List A → A → Type 0) → AllAfter P []
after-none P [] x newer q = absurd (cc)
after-none P (o ∷ older) x newer q = absurd (cc)

by_last : {A : Type 0} {R : Type 0} (xs : List A) (last : A) (older : List A) (x : A) (newer : List A)
    → xs ++ last ∷ [] ≡ older ++ x ∷ newer
    → (xs ≡ older → last ≡ x → R) → ((rest : List A) → xs ≡ older ++ x ∷ rest → R) → R
by_last [] last [] x newer q at_end before = at_end refl (ap (λ l. unwrap_or (slice_get l 0) x) q)
by_last (y ∷ ys) last [] x newer q at_end before =
    before ys (ap (λ z. z ∷ ys) (ap (λ l. unwrap_or (slice_get l 0) x) q))
by_last [] last (o ∷ []) x newer q at_end before = absurd (cc)
by_last [] last (o ∷ p ∷ older) x newer q at_end before = absurd (cc)
by_last (y ∷ ys) last (o ∷ older) x newer q at_end before =
    let first : y ≡ o = ap (λ l. unwrap_or (slice_get l 0) y) q in
    by_last ys last older x newer (ap (drop 1) q)
    (λ same here. at_end (λ i. first i ∷ same i) here)
    (λ rest same. before rest (λ i. first i ∷ same i))

pub after-push : {A : Type 0} (P : List A → A → Type 0) (xs : List A) (last : A) → AllAfter P xs → P xs last → AllAfter P (xs ++ last ∷ [])
after-push P xs last all new older x newer q =
    by_last xs last older x newer q (λ same here. subst (P older) here (subst (λ l. P l last) same new)) (λ rest same. all older x rest same)

pub after-pop : {A : Type 0} (P : List A → A → Type 0) (xs : List A) (last : A) → AllAfter P (xs ++ last ∷ []) → AllAfter P xs
after-pop P xs last all older x newer q =
    all older x (newer ++ last ∷ []) (ap (λ l. l ++ last ∷ []) q ∙ append_assoc older (x ∷ newer) (last ∷ []))

pub after-last : {A : Type 0} (P : List A → A → Type 0) (xs : List A) (last : A) → AllAfter P (xs ++ last ∷ []) → P xs last
after-last P xs last all = all xs last [] refl

-- ---- what is shown of a stack

pub shown-push : (stack : List (List Declaration)) (scope : List Declaration) → scopes_of (stack ++ scope ∷ []) ≡ map entry_of scope ∷ scopes_of stack
shown-push stack scope =
    ap reverse (map-append (map entry_of) stack (scope ∷ []))
    ∙ reverse-append (map (map entry_of) stack) (map entry_of scope ∷ [])

-- ---- what is in force

found-other : (scope : Scope) (name other : List ℕ) (meaning : Meaning) → bytes_eq name other ≡ false
    → meaning_in (scope ++ (name, meaning) ∷ []) other ≡ meaning_in scope other
found-other scope name other meaning q =
    meaning_in-append scope ((name, meaning) ∷ []) other
    ∙ ap (λ (b : Bool). or_outer (meaning_in scope other) (if b then Some meaning else None)) q
    ∙ or-none (meaning_in scope other)
  where
    or-none : (m : Option Meaning) → or_outer m None ≡ m
    or-none None = refl
    or-none (Some m) = refl

found-same : (scope : Scope) (name : List ℕ) (meaning : Meaning)
    → meaning_in (scope ++ (name, meaning) ∷ []) name ≡ or_outer (meaning_in scope name) (Some meaning)
found-same scope name meaning =
    meaning_in-append scope ((name, meaning) ∷ []) name
    ∙ ap (λ (b : Bool). or_outer (meaning_in scope name) (if b then Some meaning else None)) ((bytes_eq-Decides name name).1 refl)

-- a declaration is in force for other names what was before
pub other-stays : (scope : Scope) (outer : List Scope) (name other : List ℕ) (meaning : Meaning) → bytes_eq name other ≡ false
    → in_force ((scope ++ (name, meaning) ∷ []) ∷ outer) other ≡ in_force (scope ∷ outer) other
other-stays scope outer name other meaning q =
    ap (λ m. or_held (length outer) m (in_force outer other)) (found-other scope name other meaning q)

-- what the innermost scope declares is in force
pub with_variable-held : (scope : Scope) (outer : List Scope) (name : List ℕ) (meaning : Meaning)
    → in_force ((scope ++ (name, meaning) ∷ []) ∷ outer) name ≡ None → ⊥
with_variable-held scope outer name meaning none =
    by (meaning_in scope name) (sym (ap (λ m. or_held (length outer) m (in_force outer name)) (found-same scope name meaning)) ∙ none)
  where
    by : (m : Option Meaning) → or_held (length outer) (or_outer m (Some meaning)) (in_force outer name) ≡ None → ⊥
    by None q = absurd (cc)
    by (Some first) q = absurd (cc)

-- A scope's last declaration is taken back: the map holds what it hid.
pub with_columns_taken-back : (old new : List (List ℕ × Option Held)) (rest : List Declaration) (last : Declaration) (outer : List Scope)
    → last.hidden ≡ in_force (map entry_of rest ∷ outer) last.name
    → IsInForce old (map entry_of (rest ++ last ∷ []) ∷ outer)
    → ((other : List ℕ) → entry_for new other ≡ (if bytes_eq last.name other then last.hidden else entry_for old other))
    → IsInForce new (map entry_of rest ∷ outer)
with_columns_taken-back old new rest last outer hidden holds put other = put other ∙ by (bytes_eq last.name other) refl
  where
    by : (b : Bool) → bytes_eq last.name other ≡ b → (if b then last.hidden else entry_for old other) ≡ in_force (map entry_of rest ∷ outer) other
    by true q = hidden ∙ ap (in_force (map entry_of rest ∷ outer)) ((bytes_eq-Decides last.name other).0 q)
    by false q =
        holds other
        ∙ ap (λ scope. in_force (scope ∷ outer) other) (map-append entry_of rest (last ∷ []))
        ∙ other-stays (map entry_of rest) outer last.name other last.meaning q

-- ---- depths

held-depth : (scopes : List Scope) (name : List ℕ) (held : Held) → in_force scopes name ≡ Some held → held.depth < length scopes
held-depth [] name held q = absurd (cc)
held-depth (scope ∷ outer) name held q = by (held-depth outer name held) (meaning_in scope name) q
  where
    by : (in_force outer name ≡ Some held → held.depth < length outer) → (m : Option Meaning) → or_held (length outer) m (in_force outer name) ≡ Some held → held.depth < length (scope ∷ outer)
    by below None p = let inner = below p in omega arith
    by below (Some meaning) p = let at : length outer ≡ held.depth = ap (λ h. (unwrap_or h held).depth) p in omega arith

at_self : (n : ℕ) → (n == n) ≡ true
at_self n = grind arith

-- a name is declared in the innermost scope exactly where what is in force stands there
pub here : (scope : Scope) (outer : List Scope) (name : List ℕ) → is_at (in_force (scope ∷ outer) name) (length outer) ≡ is_some (meaning_in scope name)
here scope outer name = by (meaning_in scope name)
  where
    below : (h : Option Held) → in_force outer name ≡ h → is_at h (length outer) ≡ false
    below None q = refl
    below (Some held) q = let small = held-depth outer name held q in grind arith

    by : (m : Option Meaning) → is_at (or_held (length outer) m (in_force outer name)) (length outer) ≡ is_some m
    by None = below (in_force outer name) refl
    by (Some meaning) = at_self (length outer)

pub meaning-in_force : (scopes : List Scope) (name : List ℕ) → option_map (λ held. held.meaning) (in_force scopes name) ≡ meaning_of scopes name
meaning-in_force [] name = refl
meaning-in_force (scope ∷ outer) name = by (meaning-in_force outer name) (meaning_in scope name)
  where
    by : option_map (λ held. held.meaning) (in_force outer name) ≡ meaning_of outer name → (m : Option Meaning) → option_map (λ held. held.meaning) (or_held (length outer) m (in_force outer name)) ≡ or_outer m (meaning_of outer name)
    by same None = same
    by same (Some meaning) = refl

-- ---- a declaration

pub declaration-held : (scope : Scope) (outer : List Scope) (name : List ℕ) (meaning : Meaning) (other : List ℕ)
    → after_declaration name record { depth = length outer; meaning = meaning } (in_force (scope ∷ outer) name) (in_force (scope ∷ outer) other) other
    ≡ in_force ((scope ++ (name, meaning) ∷ []) ∷ outer) other
declaration-held scope outer name meaning other = by (bytes_eq name other) refl
  where
    held : Held
    held = record { depth = length outer; meaning = meaning }

    first : (m : Option Meaning) → meaning_in scope name ≡ m
        → after_declaration name held (in_force (scope ∷ outer) name) (in_force (scope ∷ outer) name) name
        ≡ in_force ((scope ++ (name, meaning) ∷ []) ∷ outer) name
    first None q =
        ap (λ (b : Bool). if b then in_force (scope ∷ outer) name else (if bytes_eq name name then Some held else in_force (scope ∷ outer) name))
        (here scope outer name ∙ ap is_some q)
        ∙ ap (λ (b : Bool). if b then Some held else in_force (scope ∷ outer) name) ((bytes_eq-Decides name name).1 refl)
        ∙ sym (ap (λ m. or_held (length outer) m (in_force outer name)) (found-same scope name meaning ∙ ap (λ m. or_outer m (Some meaning)) q))
    first (Some known) q =
        ap (λ (b : Bool). if b then in_force (scope ∷ outer) name else (if bytes_eq name name then Some held else in_force (scope ∷ outer) name))
        (here scope outer name ∙ ap is_some q)
        ∙ ap (λ m. or_held (length outer) m (in_force outer name)) q
        ∙ sym (ap (λ m. or_held (length outer) m (in_force outer name)) (found-same scope name meaning ∙ ap (λ m. or_outer m (Some meaning)) q))

    either : (b : Bool) (h : Option Held) → (if b then h else h) ≡ h
    either true h = refl
    either false h = refl

    by : (b : Bool) → bytes_eq name other ≡ b
        → after_declaration name held (in_force (scope ∷ outer) name) (in_force (scope ∷ outer) other) other
        ≡ in_force ((scope ++ (name, meaning) ∷ []) ∷ outer) other
    by true q = subst (λ o. after_declaration name held (in_force (scope ∷ outer) name) (in_force (scope ∷ outer) o) o ≡ in_force ((scope ++ (name, meaning) ∷ []) ∷ outer) o)
        ((bytes_eq-Decides name other).0 q) (first (meaning_in scope name) refl)
    by false q =
        ap (λ (b : Bool). if is_at (in_force (scope ∷ outer) name) (length outer) then in_force (scope ∷ outer) other else (if b then Some held else in_force (scope ∷ outer) other)) q
        ∙ either (is_at (in_force (scope ∷ outer) name) (length outer)) (in_force (scope ∷ outer) other)
        ∙ sym (other-stays scope outer name other meaning q)

length-shown : (stack : List (List Declaration)) → length (scopes_of stack) ≡ length stack
length-shown stack = length-reverse (map (map entry_of) stack) ∙ length-map stack (map entry_of)

-- what is known of a stack, as its innermost scope stands apart
pub record Opened (entries : List (List ℕ × Option Held)) (rest : List (List Declaration)) (scope : List Declaration) : Type 0 where
  pub holds : IsInForce entries (map entry_of scope ∷ scopes_of rest)
  pub restores : Restores scope (scopes_of rest)
  pub others : RestoresAll rest

pub with_scope : (entries : List (List ℕ × Option Held)) (stack rest : List (List Declaration)) (scope : List Declaration)
    → IsInnermost stack rest scope → IsInForce entries (scopes_of stack) → RestoresAll stack → Opened entries rest scope
with_scope entries stack rest scope (inl q) holds all =
    let every : RestoresAll (rest ++ scope ∷ []) = subst RestoresAll q all in
    record {
      holds = λ name. holds name ∙ ap (λ scopes. in_force scopes name) (ap scopes_of q ∙ shown-push rest scope);
      restores = after-last (λ outer one. Restores one (scopes_of outer)) rest scope every;
      others = after-pop (λ outer one. Restores one (scopes_of outer)) rest scope every;
    }
with_scope entries stack rest scope (inr none) holds all =
    record {
      holds = λ name.
          holds name ∙ ap (λ scopes. in_force (scopes_of scopes) name) none.0
          ∙ sym (ap (λ scopes. in_force (map entry_of scope ∷ scopes_of scopes) name) none.1 ∙ ap (λ one. in_force (map entry_of one ∷ []) name) none.2);
      restores = subst (λ one. Restores one (scopes_of rest)) (sym none.2) (after-none (λ older declaration. declaration.hidden ≡ in_force (map entry_of older ∷ scopes_of rest) declaration.name));
      others = subst RestoresAll (sym none.1) (after-none (λ outer one. Restores one (scopes_of outer)));
    }

-- the innermost scope is put back with one more declaration
pub with_variable-again : (old new : List (List ℕ × Option Held)) (rest : List (List Declaration)) (scope : List Declaration)
    (name : List ℕ) (meaning : Meaning) (hidden : Option Held)
    → Opened old rest scope
    → hidden ≡ entry_for old name
    → ((other : List ℕ) → entry_for new other ≡ after_declaration name record { depth = length rest; meaning = meaning } hidden (entry_for old other) other)
    → IsInForce new (scopes_of (rest ++ (scope ++ record { name = name; meaning = meaning; hidden = hidden } ∷ []) ∷ []))
    × RestoresAll (rest ++ (scope ++ record { name = name; meaning = meaning; hidden = hidden } ∷ []) ∷ [])
with_variable-again old new rest scope name meaning hidden known before put = (in_force_again, all_again)
  where
    declaration : Declaration
    declaration = record { name = name; meaning = meaning; hidden = hidden }

    hides : hidden ≡ in_force (map entry_of scope ∷ scopes_of rest) name
    hides = before ∙ known.holds name

    shows : scopes_of (rest ++ (scope ++ declaration ∷ []) ∷ []) ≡ (map entry_of scope ++ (name, meaning) ∷ []) ∷ scopes_of rest
    shows = shown-push rest (scope ++ declaration ∷ []) ∙ ap (λ one. one ∷ scopes_of rest) (map-append entry_of scope (declaration ∷ []))

    in_force_again : IsInForce new (scopes_of (rest ++ (scope ++ declaration ∷ []) ∷ []))
    in_force_again other =
        put other
        ∙ ap (λ depth. after_declaration name record { depth = depth; meaning = meaning } hidden (entry_for old other) other) (sym (length-shown rest))
        ∙ ap (λ h. after_declaration name record { depth = length (scopes_of rest); meaning = meaning } h (entry_for old other) other) hides
        ∙ ap (λ h. after_declaration name record { depth = length (scopes_of rest); meaning = meaning } (in_force (map entry_of scope ∷ scopes_of rest) name) h other) (known.holds other)
        ∙ declaration-held (map entry_of scope) (scopes_of rest) name meaning other
        ∙ ap (λ scopes. in_force scopes other) (sym shows)

    all_again : RestoresAll (rest ++ (scope ++ declaration ∷ []) ∷ [])
    all_again =
        after-push (λ outer one. Restores one (scopes_of outer)) rest (scope ++ declaration ∷ []) known.others
        (after-push (λ older one. one.hidden ≡ in_force (map entry_of older ∷ scopes_of rest) one.name) scope declaration known.restores hides)

-- a scope without declarations is opened
pub with_scope-again : (entries : List (List ℕ × Option Held)) (stack : List (List Declaration))
    → IsInForce entries (scopes_of stack) → RestoresAll stack
    → IsInForce entries (scopes_of (stack ++ [] ∷ [])) × RestoresAll (stack ++ [] ∷ [])
with_scope-again entries stack holds all = (
  (λ name. holds name ∙ ap (λ scopes. in_force scopes name) (sym (shown-push stack []))),
  after-push (λ outer one. Restores one (scopes_of outer)) stack [] all
      (after-none (λ older one. one.hidden ≡ in_force (map entry_of older ∷ scopes_of stack) one.name)),
)

-- where a name is declared, by how many scopes there are
pub here-at : (scopes : List Scope) (name : List ℕ) (depth : ℕ) → length scopes ≡ depth + 1
    → is_at (in_force scopes name) depth ≡ is_declared_here scopes name
here-at [] name depth q = absurd (omega arith)
here-at (scope ∷ outer) name depth q =
    let one : length outer ≡ depth = omega arith in
    ap (is_at (in_force (scope ∷ outer) name)) (sym one) ∙ here scope outer name

pub meaning-in_force-some : (scopes : List Scope) (name : List ℕ) (held : Held) → in_force scopes name ≡ Some held → meaning_of scopes name ≡ Some held.meaning
meaning-in_force-some scopes name held q = sym (meaning-in_force scopes name) ∙ ap (option_map (λ (h : Held). h.meaning)) q

pub meaning-in_force-none : (scopes : List Scope) (name : List ℕ) → in_force scopes name ≡ None → meaning_of scopes name ≡ None
meaning-in_force-none scopes name q = sym (meaning-in_force scopes name) ∙ ap (option_map (λ (h : Held). h.meaning)) q

-- ---- taking a scope back

-- what a loop that takes back the declarations of a scope keeps
abbrev pub TakesBack : List Scope → List Declaration → List (List ℕ × Option Held) → Type 0
TakesBack outer scope entries = Restores scope outer × IsInForce entries (map entry_of scope ∷ outer)

pub takes-back : (outer : List Scope) (old new : List (List ℕ × Option Held)) (scope rest : List Declaration) (last : Declaration)
    → scope ≡ rest ++ last ∷ []
    → ((other : List ℕ) → entry_for new other ≡ (if bytes_eq last.name other then last.hidden else entry_for old other))
    → TakesBack outer scope old → TakesBack outer rest new
takes-back outer old new scope rest last q put keeps =
    let P : List Declaration → Declaration → Type 0 = λ older one. one.hidden ≡ in_force (map entry_of older ∷ outer) one.name in
    let every : Restores (rest ++ last ∷ []) outer = subst (λ one. Restores one outer) q keeps.0 in (
      after-pop P rest last every,
      with_columns_taken-back old new rest last outer (after-last P rest last every) (subst (λ one. IsInForce old (map entry_of one ∷ outer)) q keeps.1) put,
    )

-- the last declaration of a scope is in force, so a map that holds what is has its name
pub has-name : (entries : List (List ℕ × Option Held)) (rest : List Declaration) (last : Declaration) (outer : List Scope)
    → IsInForce entries (map entry_of (rest ++ last ∷ []) ∷ outer) → lookup (bytes_eq last.name) entries ≡ None → ⊥
has-name entries rest last outer holds none =
    with_variable-held (map entry_of rest) outer last.name last.meaning
    (ap (λ scope. in_force (scope ∷ outer) last.name) (sym (map-append entry_of rest (last ∷ []))) ∙ sym (holds last.name) ∙ ap flat none)
