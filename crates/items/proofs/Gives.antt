-- Laws of stated answers: `>>=`, its inversion, and what a `?` leaves of `Gives`.
--     bind-Ok, bind-assoc        a step that only answers; three steps in a row
--     on_ok, on_err              how two steps came to a value, or to a fault
--     lifted-bind                lifting goes through the steps
--     FailsBy-bind               a fault of the first step is the fault of both
--     FailsBy-lifted             the same across two error types
--     Gives-Ok, Gives-Err        a clause at an answer that is known
use Rattle.std.proofs.Common.{◌≡◌, refl, ◌∙◌, ap}
use Rattle.std.specs.Prelude.{Option, None, Some, Result, Ok, Err}
use Rattle.items.specs.Gives.{◌>>=◌, err_map, FailsBy, Gives}

pub bind-Ok : {A E : Type 0} (r : Result A E) → r >>= (λ x. Ok x) ≡ r
bind-Ok (Ok x) = refl
bind-Ok (Err e) = refl

pub bind-assoc : {A B C E : Type 0} (r : Result A E) (f : A → Result B E) (g : B → Result C E) → (r >>= f) >>= g ≡ r >>= (λ x. f x >>= g)
bind-assoc (Ok x) f g = refl
bind-assoc (Err e) f g = refl

-- two steps came to a value: the first did, and the second did from there
pub on_ok : {A B E : Type 0} {P : Type 0} (r : Result A E) (f : A → Result B E) (y : B) → r >>= f ≡ Ok y → ((x : A) → r ≡ Ok x → f x ≡ Ok y → P) → P
on_ok (Ok x) f y came k = k x refl came
on_ok (Err e) f y came k = cc

-- two steps came to a fault: the first's, or the second's after the first came to a value
pub on_err : {A B E : Type 0} {P : Type 0} (r : Result A E) (f : A → Result B E) (e : E) → r >>= f ≡ Err e → (r ≡ Err e → P) → ((x : A) → r ≡ Ok x → f x ≡ Err e → P) → P
on_err (Ok x) f e came first second = second x refl came
on_err (Err d) f e came first second = let same : d ≡ e = cc in first (ap (λ fault. Err fault) same)

pub lifted-bind : {A B E F : Type 0} (as_fault : E → F) (r : Result A E) (f : A → Result B E) → err_map as_fault (r >>= f) ≡ err_map as_fault r >>= (λ x. err_map as_fault (f x))
lifted-bind as_fault (Ok x) f = refl
lifted-bind as_fault (Err e) f = refl

pub FailsBy-bind : {A B F : Type 0} (cause : Option F) (r : Result A F) (f : A → Result B F) → FailsBy cause r → FailsBy cause (r >>= f)
FailsBy-bind None r f fails = tt
FailsBy-bind (Some fault) r f fails = ap (λ stated. stated >>= f) fails

-- `inner` and `outer` are the causes of one error as the callee and the caller read it.
pub FailsBy-lifted : {A B F G : Type 0} (as_fault : F → G) (inner : Option F) (outer : Option G) (r : Result A F) (f : A → Result B G)
    → ((fault : F) → inner ≡ Some fault → outer ≡ Some (as_fault fault)) → (inner ≡ None → outer ≡ None) → FailsBy inner r → FailsBy outer (err_map as_fault r >>= f)
FailsBy-lifted as_fault None outer r f told free fails = let e : outer ≡ None = free refl in rw e tt
FailsBy-lifted as_fault (Some fault) outer r f told free fails =
    let e : outer ≡ Some (as_fault fault) = told fault refl in rw e (ap (λ stated. err_map as_fault stated >>= f) fails)

pub Gives-Ok : {X Y E F : Type 0} (cause : E → Option F) (view : X → Y) (r : Result X E) (stated : Result Y F) (x : X) → r ≡ Ok x → Gives cause view r stated → stated ≡ Ok (view x)
Gives-Ok cause view (Ok x) stated y came gives = let same : x ≡ y = cc in gives ∙ ap (λ v. Ok (view v)) same
Gives-Ok cause view (Err e) stated y came gives = cc

pub Gives-Err : {X Y E F : Type 0} (cause : E → Option F) (view : X → Y) (r : Result X E) (stated : Result Y F) (e : E) (fault : F) → r ≡ Err e → cause e ≡ Some fault → Gives cause view r stated → stated ≡ Err fault
Gives-Err cause view (Ok x) stated e fault came told gives = cc
Gives-Err cause view (Err d) stated e fault came told gives =
    let same : d ≡ e = cc in let told_here : cause d ≡ Some fault = ap cause same ∙ told in rw told_here at gives
