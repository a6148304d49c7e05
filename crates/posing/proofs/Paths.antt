-- Laws of computations that ask questions.
--     bind-Done, bind-assoc     the laws of `>>=`
--     path_then                 a path, and one from where it ends
--     path_into                 a path is one of the computation with more behind it
--     path_bind                 two computations in a row, each to its end
--     path_each                 one step of a loop
--     path_run                  what comes of a computation under the answers of a path and others behind them
--     path_ends, path_stops     the same at an end and at a question that no answer is left for
--     path_map                  what is known of each answer may be weakened
--     always_bind, always_each  a property of two computations in a row, and of a loop
--     always_down               the same of a loop down to zero
--     always_until              the same of rounds until nothing changes
--     always_any                a property of all values
--     always_weaker             a weaker property
--     always_path               a property of all ends is one of the end that true answers lead to
use Rattle.std.specs.Prelude.{Bool, false, if◌then◌else◌}
use Rattle.std.proofs.Common.{◌≡◌, ℕ, zero, suc, List, [], ◌∷◌, ◌++◌, true, refl, sym, ap, ◌∙◌, subst, append_assoc, append-nil}
use Rattle.farkas_check.specs.declared.answer.Answer.{Answer}
use Rattle.farkas_check.specs.declared.question.Question.{Question}
use Rattle.farkas_check.specs.Meaning.{IsTrueAnswer}
use Rattle.farkas_check.specs.Tested.{Passes, is_passed, passes}
use Rattle.posing.specs.declared.note.Note.{Note}
use Rattle.posing.specs.Posing.{Posing, Done, Noted, Asked, ◌>>=◌, each, down, until, Posed, Finished, Stuck, after_notes, run, Always, Path, here, noted, asked}

-- ---- the laws of `>>=`

pub bind-Done : {A : Type 0} (p : Posing A) → p >>= (λ x. Done x) ≡ p
unfolding ◌>>=◌
bind-Done (Done x) = refl
bind-Done (Noted notes p) = ap (λ q. Noted notes q) (bind-Done p)
bind-Done (Asked question next) = λ i. Asked question (λ answer. bind-Done (next answer) i)

pub bind-assoc : {A B C : Type 0} (p : Posing A) (f : A → Posing B) (g : B → Posing C) → (p >>= f) >>= g ≡ p >>= (λ x. f x >>= g)
unfolding ◌>>=◌
bind-assoc (Done x) f g = refl
bind-assoc (Noted notes p) f g = ap (λ q. Noted notes q) (bind-assoc p f g)
bind-assoc (Asked question next) f g = λ i. Asked question (λ answer. bind-assoc (next answer) f g i)

-- ---- paths

pub path_then : {A : Type 0} (Good : Question → Answer → Type 0) (p q r : Posing A) (notes more : List Note) (answers others : List Answer)
    → Path Good p notes answers q → Path Good q more others r → Path Good p (notes ++ more) (answers ++ others) r
path_then Good _ _ r _ more _ others (here p) after = after
path_then Good _ _ r _ more _ others (noted first rest answers p q path) after =
    subst (λ ns. Path Good (Noted first p) ns (answers ++ others) r) (sym (append_assoc first rest more))
    (noted first (rest ++ more) (answers ++ others) p r (path_then Good p q r rest more answers others path after))
path_then Good _ _ r _ more _ others (asked question answer next notes answers q good path) after =
    asked question answer next (notes ++ more) (answers ++ others) r good (path_then Good (next answer) q r notes more answers others path after)

pub path_into : {A B : Type 0} (Good : Question → Answer → Type 0) (p q : Posing A) (notes : List Note) (answers : List Answer) (f : A → Posing B)
    → Path Good p notes answers q → Path Good (p >>= f) notes answers (q >>= f)
unfolding ◌>>=◌
path_into Good _ _ _ _ f (here p) = here (p >>= f)
path_into Good _ _ _ _ f (noted first rest answers p q path) = noted first rest answers (p >>= f) (q >>= f) (path_into Good p q rest answers f path)
path_into Good _ _ _ _ f (asked question answer next notes answers q good path) =
    asked question answer (λ a. next a >>= f) notes answers (q >>= f) good (path_into Good (next answer) q notes answers f path)

pub path_bind : {A B : Type 0} (Good : Question → Answer → Type 0) (p : Posing A) (x : A) (f : A → Posing B) (q : Posing B) (notes more : List Note) (answers others : List Answer)
    → Path Good p notes answers (Done x) → Path Good (f x) more others q → Path Good (p >>= f) (notes ++ more) (answers ++ others) q
unfolding ◌>>=◌
path_bind Good p x f q notes more answers others first second =
    path_then Good (p >>= f) (f x) q notes more answers others (path_into Good p (Done x) notes answers f first) second

pub path_map : {A : Type 0} (Good Fine : Question → Answer → Type 0) (p q : Posing A) (notes : List Note) (answers : List Answer)
    → ((question : Question) (answer : Answer) → Good question answer → Fine question answer) → Path Good p notes answers q → Path Fine p notes answers q
path_map Good Fine _ _ _ _ weaker (here p) = here p
path_map Good Fine _ _ _ _ weaker (noted first rest answers p q path) = noted first rest answers p q (path_map Good Fine p q rest answers weaker path)
path_map Good Fine _ _ _ _ weaker (asked question answer next notes answers q good path) =
    asked question answer next notes answers q (weaker question answer good) (path_map Good Fine (next answer) q notes answers weaker path)

-- ---- what comes of it

after_none : {A : Type 0} (posed : Posed A) → after_notes [] posed ≡ posed
after_none (Finished value notes left) = refl
after_none (Stuck question left) = refl

after_both : {A : Type 0} (notes more : List Note) (posed : Posed A) → after_notes notes (after_notes more posed) ≡ after_notes (notes ++ more) posed
after_both notes more (Finished value others left) = ap (λ ns. Finished value ns left) (sym (append_assoc notes more others))
after_both notes more (Stuck question left) = refl

taken : {A : Type 0} (question : Question) (answer : Answer) (next : Answer → Posing A) (answers : List Answer)
    → passes question answer ≡ true → run (Asked question next) (answer ∷ answers) ≡ run (next answer) answers
taken question answer next answers e = rw e refl

pub path_run : {A : Type 0} (Good : Question → Answer → Type 0) (p q : Posing A) (notes : List Note) (answers rest : List Answer)
    → ((question : Question) (answer : Answer) → Good question answer → Passes question answer)
    → Path Good p notes answers q → run p (answers ++ rest) ≡ after_notes notes (run q rest)
path_run Good _ _ _ _ rest passing (here p) = sym (after_none (run p rest))
path_run Good _ _ _ _ rest passing (noted first more answers p q path) =
    ap (after_notes first) (path_run Good p q more answers rest passing path) ∙ after_both first more (run q rest)
path_run Good _ _ _ _ rest passing (asked question answer next notes answers q good path) =
    taken question answer next (answers ++ rest) (ap is_passed (passing question answer good).passed) ∙ path_run Good (next answer) q notes answers rest passing path

pub path_ends : {A : Type 0} (Good : Question → Answer → Type 0) (p : Posing A) (x : A) (notes : List Note) (answers rest : List Answer)
    → ((question : Question) (answer : Answer) → Good question answer → Passes question answer)
    → Path Good p notes answers (Done x) → run p (answers ++ rest) ≡ Finished x notes rest
path_ends Good p x notes answers rest passing path =
    path_run Good p (Done x) notes answers rest passing path ∙ ap (λ ns. Finished x ns rest) (append-nil notes)

pub path_stops : {A : Type 0} (Good : Question → Answer → Type 0) (p : Posing A) (question : Question) (next : Answer → Posing A) (notes : List Note) (answers : List Answer)
    → ((question : Question) (answer : Answer) → Good question answer → Passes question answer)
    → Path Good p notes answers (Asked question next) → run p answers ≡ Stuck question []
path_stops Good p question next notes answers passing path =
    ap (run p) (sym (append-nil answers)) ∙ path_run Good p (Asked question next) notes answers [] passing path

-- ---- whatever the answers

pub always_bind : {A B : Type 0} (P : A → Type 0) (Q : B → Type 0) (p : Posing A) (f : A → Posing B)
    → Always P p → ((x : A) → P x → Always Q (f x)) → Always Q (p >>= f)
unfolding ◌>>=◌
always_bind P Q (Done x) f holds rest = rest x holds
always_bind P Q (Noted notes p) f holds rest = always_bind P Q p f holds rest
always_bind P Q (Asked question next) f holds rest = λ answer is_true. always_bind P Q (next answer) f (holds answer is_true) rest

pub always_weaker : {A : Type 0} (P Q : A → Type 0) (p : Posing A) → ((x : A) → P x → Q x) → Always P p → Always Q p
always_weaker P Q (Done x) weaker holds = weaker x holds
always_weaker P Q (Noted notes p) weaker holds = always_weaker P Q p weaker holds
always_weaker P Q (Asked question next) weaker holds = λ answer is_true. always_weaker P Q (next answer) weaker (holds answer is_true)

pub always_any : {A : Type 0} (P : A → Type 0) (p : Posing A) → ((x : A) → P x) → Always P p
always_any P (Done x) holds = holds x
always_any P (Noted notes p) holds = always_any P p holds
always_any P (Asked question next) holds = λ answer is_true. always_any P (next answer) holds

-- what holds of what is left and of what is made is kept by each step
pub always_each : {A B : Type 0} (Keeps : List A → B → Type 0) (step : B → A → Posing B) (made : B) (xs : List A)
    → ((x : A) (rest : List A) (made : B) → Keeps (x ∷ rest) made → Always (Keeps rest) (step made x))
    → Keeps xs made → Always (Keeps []) (each step made xs)
always_each Keeps step made [] kept holds = holds
always_each Keeps step made (x ∷ xs) kept holds =
    always_bind (Keeps xs) (Keeps []) (step made x) (λ next. each step next xs) (kept x xs made holds) (λ next here. always_each Keeps step next xs kept here)

pub always_down : {B : Type 0} (Keeps : B → Type 0) (step : B → ℕ → Posing B) (made : B) (n : ℕ)
    → ((made : B) (n : ℕ) → Keeps made → Always Keeps (step made n)) → Keeps made → Always Keeps (down step made n)
always_down Keeps step made zero kept holds = holds
always_down Keeps step made (suc n) kept holds =
    always_bind Keeps Keeps (step made n) (λ next. down step next n) (kept made n holds) (λ next here. always_down Keeps step next n kept here)

pub always_until : {B : Type 0} (Keeps : B → Type 0) (step : B → Posing (B × Bool)) (n : ℕ) (made : B)
    → ((made : B) → Keeps made → Always (λ next. Keeps next.0) (step made)) → Keeps made → Always Keeps (until step n made)
always_until Keeps step zero made kept holds = holds
always_until {B = B} Keeps step (suc n) made kept holds =
    always_bind (λ next. Keeps next.0) Keeps (step made) (λ next. if next.1 then until step n next.0 else Done next.0) (kept made holds)
    (λ next here. go next.1 next.0 here (always_until Keeps step n next.0 kept here))
  where
    go : (changed : Bool) (next : B) → Keeps next → Always Keeps (until step n next) → Always Keeps (if changed then until step n next else Done next)
    go true next h more = more
    go false next h more = h

pub always_path : {A : Type 0} (Good : Question → Answer → Type 0) (P : A → Type 0) (p q : Posing A) (notes : List Note) (answers : List Answer)
    → ((question : Question) (answer : Answer) → Good question answer → IsTrueAnswer question answer)
    → Path Good p notes answers q → Always P p → Always P q
always_path Good P _ _ _ _ true_answers (here p) holds = holds
always_path Good P _ _ _ _ true_answers (noted first rest answers p q path) holds = always_path Good P p q rest answers true_answers path holds
always_path Good P _ _ _ _ true_answers (asked question answer next notes answers q good path) holds =
    always_path Good P (next answer) q notes answers true_answers path (holds answer (true_answers question answer good))
