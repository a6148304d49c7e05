-- Questions to which answers led a computation.
--     asked-within, asked-behind, asked-noted, asked-later      further on, and further back
--     answers-limitless           where each question has a property, and its answer is then no limit
--     owns-done, owns-noted, owns-bind, owns-each, owns-frame   a value names questions that were asked
use Rattle.std.proofs.Common.{◌≡◌, ◌⊎◌, inl, inr, List, [], ◌∷◌, ◌++◌, refl, sym, ap, ◌∙◌, subst, append_assoc}
use Rattle.farkas_check.specs.declared.answer.Answer.{Answer}
use Rattle.farkas_check.specs.declared.question.Question.{Question}
use Rattle.posing.specs.declared.note.Note.{Note}
use Rattle.posing.specs.Posing.{Posing, Done, Noted, Asked, ◌>>=◌, each, Path, here, noted, asked}
use Rattle.posing.proofs.Paths.{path_then, path_into, path_map}
use Rattle.named_limits.specs.Leading.{IsAny, LeadsTo, WasAsked}
use Rattle.named_limits.specs.Limits.{limit_given, limits_given}
use Rattle.named_limits.proofs.Cuts.{from-Done, from-Noted, path-cut}

-- what leads under good answers leads under any
pub any-leads : {A : Type 0} (Good : Question → Answer → Type 0) (p q : Posing A) (notes : List Note) (answers : List Answer) → Path Good p notes answers q → LeadsTo p notes answers q
any-leads Good p q notes answers path = path_map Good IsAny p q notes answers (λ question answer good. tt) path

-- ---- further on, and further back

pub asked-within : {A B : Type 0} (p : Posing A) (f : A → Posing B) (share others answers : List Answer) (question : Question) (answer : Answer) → answers ≡ share ++ others
    → WasAsked p share question answer → WasAsked (p >>= f) answers question answer
unfolding ◌>>=◌
asked-within p f share others answers question answer split was =
    record {
      before = was.before;
      after = was.after ++ others;
      is = split ∙ ap (λ l. l ++ others) was.is ∙ append_assoc was.before (answer ∷ was.after) others;
      notes = was.notes;
      next = λ a. was.next a >>= f;
      leads = path_into IsAny p (Asked question was.next) was.notes was.before f was.leads;
    }

pub asked-behind : {A B : Type 0} (p : Posing A) (f : A → Posing B) (x : A) (notes : List Note) (share others answers : List Answer) (question : Question) (answer : Answer)
    → answers ≡ share ++ others → LeadsTo p notes share (Done x) → WasAsked (f x) others question answer → WasAsked (p >>= f) answers question answer
unfolding ◌>>=◌
asked-behind p f x notes share others answers question answer split path was =
    record {
      before = share ++ was.before;
      after = was.after;
      is = split ∙ ap (λ l. share ++ l) was.is ∙ sym (append_assoc share was.before (answer ∷ was.after));
      notes = notes ++ was.notes;
      next = was.next;
      leads = path_then IsAny (p >>= f) (f x) (Asked question was.next) notes was.notes share was.before (path_into IsAny p (Done x) notes share f path) was.leads;
    }

pub asked-noted : {A : Type 0} (first : List Note) (p : Posing A) (answers : List Answer) (question : Question) (answer : Answer)
    → WasAsked p answers question answer → WasAsked (Noted first p) answers question answer
asked-noted first p answers question answer was =
    record {
      before = was.before;
      after = was.after;
      is = was.is;
      notes = first ++ was.notes;
      next = was.next;
      leads = noted first was.notes was.before p (Asked question was.next) was.leads;
    }

pub asked-later : {A : Type 0} (question : Question) (answer : Answer) (next : Answer → Posing A) (answers : List Answer) (other : Question) (a : Answer)
    → WasAsked (next answer) answers other a → WasAsked (Asked question next) (answer ∷ answers) other a
asked-later question answer next answers other a was =
    record {
      before = answer ∷ was.before;
      after = was.after;
      is = ap (λ l. answer ∷ l) was.is;
      notes = was.notes;
      next = was.next;
      leads = asked question answer next was.notes was.before (Asked other was.next) tt was.leads;
    }

pub asked-now : {A : Type 0} (question : Question) (answer : Answer) (next : Answer → Posing A) (answers : List Answer) → WasAsked (Asked question next) (answer ∷ answers) question answer
asked-now question answer next answers = record { before = []; after = answers; is = refl; notes = []; next = next; leads = here (Asked question next) }

-- ---- where each question has a property

pub answers-limitless : {A : Type 0} (Good : Question → Answer → Type 0) (Tame : Question → Type 0)
    → ((question : Question) (answer : Answer) → Good question answer → Tame question → limit_given answer ≡ [])
    → (p q : Posing A) (notes : List Note) (answers : List Answer) → Path Good p notes answers q → ((question : Question) (answer : Answer) → WasAsked p answers question answer → Tame question)
    → limits_given answers ≡ []
answers-limitless Good Tame none _ _ _ _ (here p) tame = refl
answers-limitless Good Tame none _ _ _ _ (noted first more answers p q path) tame =
    answers-limitless Good Tame none p q more answers path (λ question answer was. tame question answer (asked-noted first p answers question answer was))
answers-limitless Good Tame none _ _ _ _ (asked question answer next notes answers q good path) tame =
    let now = none question answer good (tame question answer (asked-now question answer next answers)) in
    let rest = answers-limitless Good Tame none (next answer) q notes answers path (λ other a was. tame other a (asked-later question answer next answers other a was)) in
    ap (λ l. l ++ limits_given answers) now ∙ rest

-- ---- what a value names was asked

-- each pair that the value names is one of those before, or was asked
pub record Owns {A : Type 0} (before : Question → Answer → Type 0) (names : A → Question → Answer → Type 0) (p : Posing A) : Type 0 where
  pub own : (notes : List Note) (answers : List Answer) (value : A) → LeadsTo p notes answers (Done value) → (question : Question) (answer : Answer) → names value question answer
      → before question answer ⊎ WasAsked p answers question answer

pub owns-done : {A : Type 0} (before : Question → Answer → Type 0) (names : A → Question → Answer → Type 0) (value : A) → ((question : Question) (answer : Answer) → names value question answer → before question answer)
    → Owns before names (Done value)
owns-done before names value old =
    record {
      own = λ notes answers last path question answer h.
          inl (old question answer (subst (λ v. names v question answer) ((from-Done value last notes answers path).same) h));
    }

pub owns-noted : {A : Type 0} (before : Question → Answer → Type 0) (names : A → Question → Answer → Type 0) (first : List Note) (p : Posing A) → Owns before names p → Owns before names (Noted first p)
owns-noted before names first p owns =
    record {
      own = λ notes answers last path question answer h.
          let step = from-Noted first notes p answers last path in
          go answers question answer (owns.own step.more answers last step.path question answer h);
    }
  where
    go : (answers : List Answer) (question : Question) (answer : Answer) → before question answer ⊎ WasAsked p answers question answer → before question answer ⊎ WasAsked (Noted first p) answers question answer
    go answers question answer (inl old) = inl old
    go answers question answer (inr was) = inr (asked-noted first p answers question answer was)

pub owns-bind : {A B : Type 0} (before : Question → Answer → Type 0) (between : A → Question → Answer → Type 0) (names : B → Question → Answer → Type 0) (p : Posing A) (f : A → Posing B)
    → Owns before between p → ((x : A) → Owns (between x) names (f x)) → Owns before names (p >>= f)
owns-bind {A = A} before between names p f first rest =
    record {
      own = λ notes answers last path question answer h.
          let cut = path-cut p f notes answers last path in
          second answers cut.share cut.others cut.answers_are cut.value cut.first cut.leads question answer
          (λ old. first.own cut.first cut.share cut.value cut.leads question answer old)
          ((rest cut.value).own cut.more cut.others last cut.rest question answer h);
    }
  where
    one : (answers share others : List Answer) → answers ≡ share ++ others → (question : Question) (answer : Answer) → before question answer ⊎ WasAsked p share question answer
        → before question answer ⊎ WasAsked (p >>= f) answers question answer
    one answers share others split question answer (inl old) = inl old
    one answers share others split question answer (inr was) = inr (asked-within p f share others answers question answer split was)

    second : (answers share others : List Answer) → answers ≡ share ++ others → (x : A) (notes : List Note) → LeadsTo p notes share (Done x) → (question : Question) (answer : Answer)
        → (between x question answer → before question answer ⊎ WasAsked p share question answer)
        → between x question answer ⊎ WasAsked (f x) others question answer → before question answer ⊎ WasAsked (p >>= f) answers question answer
    second answers share others split x notes path question answer earlier (inl old) = one answers share others split question answer (earlier old)
    second answers share others split x notes path question answer earlier (inr was) = inr (asked-behind p f x notes share others answers question answer split path was)

pub owns-each : {A B : Type 0} (names : B → Question → Answer → Type 0) (step : B → A → Posing B) (made : B) (xs : List A)
    → ((made : B) (x : A) → Owns (names made) names (step made x)) → Owns (names made) names (each step made xs)
owns-each names step made [] owns = owns-done (names made) names made (λ question answer h. h)
owns-each names step made (x ∷ xs) owns =
    owns-bind (names made) names names (step made x) (λ next. each step next xs) (owns made x) (λ next. owns-each names step next xs owns)

-- none
abbrev pub Never : Question → Answer → Type 0
Never question answer = ⊥

-- with others before
pub owns-frame : {A : Type 0} (before : Question → Answer → Type 0) (names : A → Question → Answer → Type 0) (p : Posing A) → Owns Never names p
    → Owns before (λ x question answer. before question answer ⊎ names x question answer) p
owns-frame before names p owns =
    record { own = λ notes answers value path question answer h. go answers question answer (λ own. owns.own notes answers value path question answer own) h }
  where
    last : (answers : List Answer) (question : Question) (answer : Answer) → ⊥ ⊎ WasAsked p answers question answer → before question answer ⊎ WasAsked p answers question answer
    last answers question answer (inl never) = absurd never
    last answers question answer (inr was) = inr was

    go : (answers : List Answer) (question : Question) (answer : Answer) {N : Type 0} → (N → ⊥ ⊎ WasAsked p answers question answer) → before question answer ⊎ N → before question answer ⊎ WasAsked p answers question answer
    go answers question answer asks (inl old) = inl old
    go answers question answer asks (inr own) = last answers question answer (asks own)

-- those before alone
pub owns-before : {A : Type 0} (before : Question → Answer → Type 0) (p : Posing A) → Owns before (λ x. before) p
owns-before before p = record { own = λ notes answers value path question answer h. inl h }

pub owns-none : {A : Type 0} (p : Posing A) → Owns Never (λ x. Never) p
owns-none p = record { own = λ notes answers value path question answer h. absurd h }
