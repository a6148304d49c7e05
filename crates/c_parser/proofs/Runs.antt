-- How a run of a reader ends: behind a front it looks at one token, and all that begins with these
-- goes the same way.
use Rattle.std.proofs.Common.{◌≡◌, ℕ, zero, suc, ◌+◌, ◌<◌, Bool, true, false, List, [], ◌∷◌, ◌++◌, length, refl, sym, ap, subst, ◌∙◌, arith, append-nil, append_assoc}
use Rattle.std.specs.Prelude.{not, Result, Ok, Err, if◌then◌else◌}
use Rattle.items.specs.Gives.{◌>>=◌}
use Rattle.c_lexer.specs.declared.mark.Mark.{Mark}
use Rattle.c_parser.specs.declared.error.ParseError.{ParseError}
use Rattle.c_parser.specs.declared.error.ParseError.TheVariants as error
use Rattle.c_parser.specs.Descent.{deeper, is_mark, refusal_of}
use Rattle.c_parser.specs.Repeat.{go_on, repeat}
use Rattle.c_parser.specs.Spots.{Spot, ends_once, is_end, mark}
use Rattle.c_parser.proofs.CompleteLines.{bind_ok}
use Rattle.c_parser.proofs.FirstTokens.{both}
use Rattle.c_parser.proofs.Derivations.{is_mark-kind}
use Rattle.c_parser.proofs.Repeats.{chosen, left_out, repeat-done, repeat-more, repeat-once}

-- a limit that is larger by so much
abbrev pub limit : ℕ → ℕ → ℕ
limit more zero = more
limit more (suc n) = suc (limit more n)

pub limit-sum : (more n : ℕ) → limit more n ≡ n + more
limit-sum more zero = omega arith
limit-sum more (suc n) = let rest = limit-sum more n in omega (arith, rest)

-- How the values of a reader hold the tokens that are left: how to set these, and what larger
-- limits make of a value.
pub record Shape (V : Type 0) : Type 0 where
  pub set : V → List Spot → V
  pub up : ℕ → V → V

-- a reader came to a value, and left these tokens
abbrev pub Finished : {V : Type 0} → Shape V → Result V ParseError → List Spot → Type 0
Finished {V} sh came later = (v : V) × (came ≡ Ok (sh.set v later))

-- the front, where it is some, can be read to an end
abbrev pub Finishes : {V : Type 0} → Shape V → (List Spot → Type 0) → (List Spot → Result V ParseError) → List Spot → Type 0
Finishes sh F g [] = Unit {0}
Finishes sh F g (s ∷ front) = (tail : List Spot) × ((later : List Spot) → F later → Finished sh (g (s ∷ (front ++ (tail ++ later)))) later)

-- what comes of the token behind the front: all is read before it, it is refused, or it passes a
-- limit
pub data Outcome {V : Type 0} (sh : Shape V) (F : List Spot → Type 0) (f : ℕ → List Spot → Result V ParseError) (front : List Spot) (look : Spot) : Type 0 where
  Came : (v : V) → ((more : ℕ) (x : List Spot) → f more (front ++ look ∷ x) ≡ Ok (sh.set (sh.up more v) (look ∷ x))) → Outcome sh F f front look
  Refused : ((more : ℕ) (x : List Spot) → f more (front ++ look ∷ x) ≡ Err (refusal_of (look ∷ []))) → Outcome sh F f front look
  TooDeep : ((x : List Spot) → f 0 (front ++ look ∷ x) ≡ Err (error.Deep look.at))
      → (tail : List Spot) → ((later : List Spot) → F later → Finished sh (f 1 (front ++ look ∷ (tail ++ later))) later) → Outcome sh F f front look

-- A reader, by how much its limits are larger. What stands in `F` ends what it reads.
pub record Run {V : Type 0} (sh : Shape V) (F : List Spot → Type 0) (f : ℕ → List Spot → Result V ParseError) (spots : List Spot) : Type 0 where
  pub front : List Spot
  pub look : Spot
  pub rest : List Spot
  pub cut : spots ≡ front ++ look ∷ rest
  pub finish : Finishes sh F (f 0) front
  pub outcome : Outcome sh F f front look

-- a reader that each run of goes so, and the shortest that it reads
pub record Behaves {V : Type 0} (sh : Shape V) (F : List Spot → Type 0) (short : List Spot) (f : ℕ → List Spot → Result V ParseError) : Type 0 where
  pub shortest : (more : ℕ) (later : List Spot) → F later → Finished sh (f more (short ++ later)) later
  pub runs : (spots : List Spot) → ends_once spots ≡ true → Run sh F f spots

-- ---- lists

pub ends-rest : (front : List Spot) (look : Spot) (rest : List Spot) → ends_once (front ++ look ∷ rest) ≡ true → ends_once (look ∷ rest) ≡ true
ends-rest [] look rest e = e
ends-rest (s ∷ []) look rest e = (both (not (is_end s.kind)) (ends_once (look ∷ rest)) e).1
ends-rest (s ∷ t ∷ front) look rest e = ends-rest (t ∷ front) look rest (both (not (is_end s.kind)) (ends_once (t ∷ (front ++ look ∷ rest))) e).1

pub ends-tail : (s : Spot) (x : List Spot) → is_end s.kind ≡ false → ends_once (s ∷ x) ≡ true → ends_once x ≡ true
ends-tail s [] inner e = cc
ends-tail s (t ∷ x) inner e = (both (not (is_end s.kind)) (ends_once (t ∷ x)) e).1

pub mark-is : (m : Mark) (s : Spot) → is_mark m s.kind ≡ true → s ≡ mark s.at m
mark-is m s e = let same = is_mark-kind m s.kind e in λ i. record { at = s.at; kind = same i }

pub mark-no_end : (m : Mark) (s : Spot) → is_mark m s.kind ≡ true → is_end s.kind ≡ false
mark-no_end m s e = ap is_end (is_mark-kind m s.kind e)

-- a step that fails
pub bind_err : {A B E : Type 0} {r : Result A E} {e : E} (f : A → Result B E) → r ≡ Err e → r >>= f ≡ Err e
bind_err f e = ap (λ came. came >>= f) e

heads : (s t : Spot) (x y : List Spot) → s ∷ x ≡ t ∷ y → s ≡ t
heads s t x y e = cc

-- what begins like a front and the token behind it begins with the first of these
first-same : (s : Spot) (x front : List Spot) (look : Spot) (rest : List Spot) → s ∷ x ≡ front ++ look ∷ rest → (y : List Spot) → (z : List Spot) × (front ++ look ∷ y ≡ s ∷ z)
first-same s x [] look rest e y = (y, ap (λ l. l ∷ y) (sym (heads s look x rest e)))
first-same s x (t ∷ front) look rest e y = (front ++ look ∷ y, ap (λ l. l ∷ (front ++ look ∷ y)) (sym (heads s t x (front ++ look ∷ rest) e)))

-- ---- single steps

module _ {V : Type 0} (sh : Shape V) (F : List Spot → Type 0) (f : ℕ → List Spot → Result V ParseError) where
  front-finishes : (front tail : List Spot) → ((later : List Spot) → F later → Finished sh (f 0 (front ++ (tail ++ later))) later) → Finishes sh F (f 0) front
  front-finishes [] tail is = tt
  front-finishes (s ∷ front) tail is = (tail, is)

  -- the first token is refused
  pub run-refuses : (s : Spot) (x : List Spot) → ((more : ℕ) (y : List Spot) → f more (s ∷ y) ≡ Err (refusal_of (s ∷ []))) → Run sh F f (s ∷ x)
  run-refuses s x is = record { front = []; look = s; rest = x; cut = refl; finish = tt; outcome = Refused is }

  -- nothing is read
  pub run-stays : (s : Spot) (x : List Spot) (v : V) → ((more : ℕ) (y : List Spot) → f more (s ∷ y) ≡ Ok (sh.set (sh.up more v) (s ∷ y))) → Run sh F f (s ∷ x)
  run-stays s x v is = record { front = []; look = s; rest = x; cut = refl; finish = tt; outcome = Came v is }

  pub run-gives : (v : V) → ((more : ℕ) (x : List Spot) → f more x ≡ Ok (sh.set (sh.up more v) x)) → (spots : List Spot) → ends_once spots ≡ true → Run sh F f spots
  run-gives v is [] e = cc
  run-gives v is (s ∷ x) e = run-stays s x v (λ more y. is more (s ∷ y))

-- nothing is read
pub nothing-behaves : {V : Type 0} (sh : Shape V) (F : List Spot → Type 0) (w : V) → Behaves sh F [] (λ more y. Ok (sh.set (sh.up more w) y))
nothing-behaves sh F w = record { shortest = λ more later ok. (sh.up more w, refl); runs = run-gives sh F (λ more y. Ok (sh.set (sh.up more w) y)) w (λ more y. refl) }

-- a reader that goes as another one does, where the first token is this
module _ {V : Type 0} (sh : Shape V) (F : List Spot → Type 0) (f h : ℕ → List Spot → Result V ParseError) (s : Spot) where
  by_outcome : (front : List Spot) (look : Spot) → ((more : ℕ) (y : List Spot) → f more (front ++ look ∷ y) ≡ h more (front ++ look ∷ y)) → Outcome sh F h front look → Outcome sh F f front look
  by_outcome front look same (Came v is) = Came v (λ more y. same more y ∙ is more y)
  by_outcome front look same (Refused is) = Refused (λ more y. same more y ∙ is more y)
  by_outcome front look same (TooDeep is tail fin) =
      TooDeep (λ y. same 0 y ∙ is y) tail (λ later ok. let r = fin later ok in (r.0, same 1 (tail ++ later) ∙ r.1))

  by_finish : (x front : List Spot) (look : Spot) (rest : List Spot) → s ∷ x ≡ front ++ look ∷ rest → ((more : ℕ) (y : List Spot) → f more (s ∷ y) ≡ h more (s ∷ y))
      → Finishes sh F (h 0) front → Finishes sh F (f 0) front
  by_finish x [] look rest e same fin = tt
  by_finish x (t ∷ front) look rest e same fin =
      let first = heads s t x (front ++ look ∷ rest) e in (
        fin.0,
        λ later ok. let r = fin.1 later ok in
            (r.0, ap (λ l. f 0 (l ∷ (front ++ (fin.0 ++ later)))) (sym first) ∙ same 0 (front ++ (fin.0 ++ later)) ∙ ap (λ l. h 0 (l ∷ (front ++ (fin.0 ++ later)))) first ∙ r.1),
      )

  pub run-same : (x : List Spot) → ((more : ℕ) (y : List Spot) → f more (s ∷ y) ≡ h more (s ∷ y)) → Run sh F h (s ∷ x) → Run sh F f (s ∷ x)
  run-same x same run = record {
    front = run.front;
    look = run.look;
    rest = run.rest;
    cut = run.cut;
    finish = by_finish x run.front run.look run.rest run.cut same run.finish;
    outcome = by_outcome run.front run.look (λ more y. let first = first-same s x run.front run.look run.rest run.cut y in
        ap (f more) first.1 ∙ same more first.0 ∙ ap (h more) (sym first.1)) run.outcome;
  }

  skip-outcome : (front : List Spot) (look : Spot) → ((more : ℕ) (y : List Spot) → f more (s ∷ y) ≡ h more y) → Outcome sh F h front look → Outcome sh F f (s ∷ front) look
  skip-outcome front look same (Came v is) = Came v (λ more y. same more (front ++ look ∷ y) ∙ is more y)
  skip-outcome front look same (Refused is) = Refused (λ more y. same more (front ++ look ∷ y) ∙ is more y)
  skip-outcome front look same (TooDeep is tail fin) =
      TooDeep (λ y. same 0 (front ++ look ∷ y) ∙ is y) tail (λ later ok. let r = fin later ok in (r.0, same 1 (front ++ look ∷ (tail ++ later)) ∙ r.1))

  skip-finish : (short front : List Spot) → ((more : ℕ) (later : List Spot) → F later → Finished sh (h more (short ++ later)) later) → ((more : ℕ) (y : List Spot) → f more (s ∷ y) ≡ h more y)
      → Finishes sh F (h 0) front → Finishes sh F (f 0) (s ∷ front)
  skip-finish short [] shortest same fin = (short, λ later ok. let r = shortest 0 later ok in (r.0, same 0 (short ++ later) ∙ r.1))
  skip-finish short (t ∷ front) shortest same fin = (fin.0, λ later ok. let r = fin.1 later ok in (r.0, same 0 (t ∷ (front ++ (fin.0 ++ later))) ∙ r.1))

  -- the first token is read
  pub run-skips : {short : List Spot} (x : List Spot) → is_end s.kind ≡ false → ((more : ℕ) (y : List Spot) → f more (s ∷ y) ≡ h more y) → Behaves sh F short h → ends_once (s ∷ x) ≡ true → Run sh F f (s ∷ x)
  run-skips {short} x inner same good e =
      let run = good.runs x (ends-tail s x inner e) in
      record {
        front = s ∷ run.front;
        look = run.look;
        rest = run.rest;
        cut = ap (λ r. s ∷ r) run.cut;
        finish = skip-finish short run.front good.shortest same run.finish;
        outcome = skip-outcome run.front run.look same run.outcome;
      }

-- ---- one reader behind another

module _ {V W : Type 0} (SA : Shape V) (SB : Shape W) (FA FB : List Spot → Type 0)
    (a : ℕ → List Spot → Result V ParseError) (k : ℕ → V → Result W ParseError) (f : ℕ → List Spot → Result W ParseError)
    (whole : (more : ℕ) (x : List Spot) → f more x ≡ a more x >>= k more)
    (q : List Spot) (follows : (later : List Spot) → FB later → FA (q ++ later))
    (short : (more : ℕ) (v : V) (later : List Spot) → FB later → Finished SB (k more (SA.set v (q ++ later))) later) where
  then_finished : (more : ℕ) (x later : List Spot) → FB later → Finished SA (a more x) (q ++ later) → Finished SB (f more x) later
  then_finished more x later ok came = let r = short more came.0 later ok in (r.0, whole more x ∙ bind_ok (k more) came.1 r.1)

  first-finish : (front : List Spot) → Finishes SA FA (a 0) front → Finishes SB FB (f 0) front
  first-finish [] fin = tt
  first-finish (s ∷ front) fin = (
    fin.0 ++ q,
    λ later ok. let r = then_finished 0 (s ∷ (front ++ (fin.0 ++ (q ++ later)))) later ok (fin.1 (q ++ later) (follows later ok)) in
        (r.0, ap (λ z. f 0 (s ∷ (front ++ z))) (append_assoc fin.0 q later) ∙ r.1),
  )

  module _ (front : List Spot) (look : Spot) (v : V) (is : (more : ℕ) (x : List Spot) → a more (front ++ look ∷ x) ≡ Ok (SA.set (SA.up more v) (look ∷ x))) where
    abbrev next : ℕ → List Spot → Result W ParseError
    next more x = k more (SA.set (SA.up more v) x)

    through : (more : ℕ) (rest kf : List Spot) (kl : Spot) (krest : List Spot) → look ∷ rest ≡ kf ++ kl ∷ krest → (y : List Spot)
        → f more ((front ++ kf) ++ kl ∷ y) ≡ next more (kf ++ kl ∷ y)
    through more rest kf kl krest cut y =
        let first = first-same look rest kf kl krest cut y in
        ap (f more) (append_assoc front kf (kl ∷ y) ∙ ap (λ z. front ++ z) first.1)
        ∙ whole more (front ++ look ∷ first.0)
        ∙ bind_ok (k more) (is more first.0) (ap (next more) (sym first.1))

    came-outcome : (rest kf : List Spot) (kl : Spot) (krest : List Spot) → look ∷ rest ≡ kf ++ kl ∷ krest → Outcome SB FB next kf kl → Outcome SB FB f (front ++ kf) kl
    came-outcome rest kf kl krest cut (Came w e) = Came w (λ more y. through more rest kf kl krest cut y ∙ e more y)
    came-outcome rest kf kl krest cut (Refused e) = Refused (λ more y. through more rest kf kl krest cut y ∙ e more y)
    came-outcome rest kf kl krest cut (TooDeep e tail fin) =
        TooDeep (λ y. through 0 rest kf kl krest cut y ∙ e y) tail
        (λ later ok. let r = fin later ok in (r.0, through 1 rest kf kl krest cut (tail ++ later) ∙ r.1))

    came-finish : (rest kf : List Spot) (kl : Spot) (krest : List Spot) → look ∷ rest ≡ kf ++ kl ∷ krest → Finishes SA FA (a 0) front → Finishes SB FB (next 0) kf → Finishes SB FB (f 0) (front ++ kf)
    came-finish rest [] kl krest cut fin other = subst (Finishes SB FB (f 0)) (sym (append-nil front)) (first-finish front fin)
    came-finish rest (t ∷ kf) kl krest cut fin other =
        let first = heads look t rest (kf ++ kl ∷ krest) cut in
        front-finishes SB FB f (front ++ t ∷ kf) other.0 (λ later ok. let r = other.1 later ok in (
          r.0,
          ap (f 0) (append_assoc front (t ∷ kf) (other.0 ++ later) ∙ ap (λ l. front ++ l ∷ (kf ++ (other.0 ++ later))) (sym first))
              ∙ whole 0 (front ++ look ∷ (kf ++ (other.0 ++ later)))
              ∙ bind_ok (k 0) (is 0 (kf ++ (other.0 ++ later))) (ap (λ l. next 0 (l ∷ (kf ++ (other.0 ++ later)))) first ∙ r.1),
        ))

    came-run : (spots rest : List Spot) → spots ≡ front ++ look ∷ rest → Finishes SA FA (a 0) front → Run SB FB next (look ∷ rest) → Run SB FB f spots
    came-run spots rest cut fin run = record {
      front = front ++ run.front;
      look = run.look;
      rest = run.rest;
      cut = cut ∙ ap (λ r. front ++ r) run.cut ∙ sym (append_assoc front run.front (run.look ∷ run.rest));
      finish = came-finish rest run.front run.look run.rest run.cut fin run.finish;
      outcome = came-outcome rest run.front run.look run.rest run.cut run.outcome;
    }

  -- what the second reader has to do with where the first one came
  abbrev Seconds : List Spot → Type 0
  Seconds spots = (front : List Spot) (look : Spot) (rest : List Spot) (v : V) → spots ≡ front ++ look ∷ rest
      → ((more : ℕ) → a more spots ≡ Ok (SA.set (SA.up more v) (look ∷ rest))) → Run SB FB (λ more x. k more (SA.set (SA.up more v) x)) (look ∷ rest)

  bind-outcome : (spots front : List Spot) (look : Spot) (rest : List Spot) → spots ≡ front ++ look ∷ rest → Finishes SA FA (a 0) front → Seconds spots → Outcome SA FA a front look → Run SB FB f spots
  bind-outcome spots front look rest cut fin seconds (Came v is) =
      came-run front look v is spots rest cut fin (seconds front look rest v cut (λ more. ap (a more) cut ∙ is more rest))
  bind-outcome spots front look rest cut fin seconds (Refused is) = record {
    front = front;
    look = look;
    rest = rest;
    cut = cut;
    finish = first-finish front fin;
    outcome = Refused (λ more y. whole more (front ++ look ∷ y) ∙ ap (λ r. r >>= k more) (is more y));
  }
  bind-outcome spots front look rest cut fin seconds (TooDeep is tail end) = record {
    front = front;
    look = look;
    rest = rest;
    cut = cut;
    finish = first-finish front fin;
    outcome = TooDeep (λ y. whole 0 (front ++ look ∷ y) ∙ ap (λ r. r >>= k 0) (is y)) (tail ++ q)
        (λ later ok. let r = then_finished 1 (front ++ look ∷ (tail ++ (q ++ later))) later ok (end (q ++ later) (follows later ok)) in
        (r.0, ap (λ z. f 1 (front ++ look ∷ z)) (append_assoc tail q later) ∙ r.1));
  }

  pub run-bind : (spots : List Spot) → Seconds spots → Run SA FA a spots → Run SB FB f spots
  run-bind spots seconds run = bind-outcome spots run.front run.look run.rest run.cut run.finish seconds run.outcome

  pub run-then : (spots : List Spot) → ends_once spots ≡ true → ((v : V) (x : List Spot) → ends_once x ≡ true → Run SB FB (λ more x. k more (SA.set (SA.up more v) x)) x)
      → Run SA FA a spots → Run SB FB f spots
  run-then spots e second run =
      run-bind spots (λ front look rest v cut is. second v (look ∷ rest) (ends-rest front look rest (ap ends_once (sym cut) ∙ e))) run

  pub behaves-then : {p : List Spot} → Behaves SA FA p a → ((v : V) (x : List Spot) → ends_once x ≡ true → Run SB FB (λ more x. k more (SA.set (SA.up more v) x)) x) → Behaves SB FB (p ++ q) f
  behaves-then {p} first second = record {
    shortest = λ more later ok. let r = then_finished more (p ++ (q ++ later)) later ok (first.shortest more (q ++ later) (follows later ok)) in
        (r.0, ap (f more) (append_assoc p q later) ∙ r.1);
    runs = λ spots e. run-then spots e second (first.runs spots e);
  }

-- The same where larger limits leave the first values as they are.
module _ {V W : Type 0} (SA : Shape V) (SB : Shape W) (FA FB : List Spot → Type 0)
    (a : ℕ → List Spot → Result V ParseError) (k : ℕ → V → Result W ParseError) (f : ℕ → List Spot → Result W ParseError)
    (whole : (more : ℕ) (x : List Spot) → f more x ≡ a more x >>= k more)
    (flat : (more : ℕ) (v : V) → SA.up more v ≡ v) where
  pub behaves-next : {p q : List Spot} → ((later : List Spot) → FB later → FA (q ++ later)) → Behaves SA FA p a
      → ((v : V) → Behaves SB FB q (λ more x. k more (SA.set v x))) → Behaves SB FB (p ++ q) f
  behaves-next {p} {q} follows first second =
      behaves-then SA SB FA FB a k f whole q follows (λ more v later ok. (second v).shortest more later ok) first
      (λ v x e. by_flat v x ((second v).runs x e))
    where
      by_flat : (v : V) (x : List Spot) → Run SB FB (λ more x. k more (SA.set v x)) x → Run SB FB (λ more x. k more (SA.set (SA.up more v) x)) x
      by_flat v x run = record {
        front = run.front;
        look = run.look;
        rest = run.rest;
        cut = run.cut;
        finish = same-finish run.front run.finish;
        outcome = same-outcome run.front run.look run.outcome;
      }
        where
          same : (more : ℕ) (y : List Spot) → k more (SA.set (SA.up more v) y) ≡ k more (SA.set v y)
          same more y = ap (λ u. k more (SA.set u y)) (flat more v)

          same-finish : (front : List Spot) → Finishes SB FB (λ y. k 0 (SA.set v y)) front → Finishes SB FB (λ y. k 0 (SA.set (SA.up 0 v) y)) front
          same-finish [] fin = tt
          same-finish (s ∷ front) fin = (fin.0, λ later ok. let r = fin.1 later ok in (r.0, same 0 (s ∷ (front ++ (fin.0 ++ later))) ∙ r.1))

          same-outcome : (front : List Spot) (look : Spot) → Outcome SB FB (λ more y. k more (SA.set v y)) front look → Outcome SB FB (λ more y. k more (SA.set (SA.up more v) y)) front look
          same-outcome front look o = by_outcome SB FB (λ more y. k more (SA.set (SA.up more v) y)) (λ more y. k more (SA.set v y)) look front look (λ more y. same more (front ++ look ∷ y)) o

-- ---- a value that is made of another one

module _ {V W : Type 0} (SA : Shape V) (SB : Shape W) (F : List Spot → Type 0) (a : ℕ → List Spot → Result V ParseError) (g : V → W) (f : ℕ → List Spot → Result W ParseError)
    (whole : (more : ℕ) (x : List Spot) → f more x ≡ a more x >>= λ v. Ok (g v))
    (holds : (v : V) (x : List Spot) → g (SA.set v x) ≡ SB.set (g v) x)
    (grows : (more : ℕ) (v : V) (x : List Spot) → g (SA.set (SA.up more v) x) ≡ SB.set (SB.up more (g v)) x) where
  made-short : (more : ℕ) (v : V) (later : List Spot) → F later → Finished SB (let r : Result W ParseError = Ok (g (SA.set v later)) in r) later
  made-short more v later ok = (g v, ap (λ w. Ok w) (holds v later))

  made-run : (v : V) (x : List Spot) → ends_once x ≡ true → Run SB F (λ more x. Ok (g (SA.set (SA.up more v) x))) x
  made-run v x e = run-gives SB F (λ more x. Ok (g (SA.set (SA.up more v) x))) (g v) (λ more x. ap (λ w. Ok w) (grows more v x)) x e

  pub run-map : (spots : List Spot) → ends_once spots ≡ true → Run SA F a spots → Run SB F f spots
  run-map spots e run = run-then SA SB F F a (λ more v. Ok (g v)) f whole [] (λ later ok. ok) made-short spots e made-run run

  pub behaves-map : {p : List Spot} → Behaves SA F p a → Behaves SB F p f
  behaves-map {p} reads =
      subst (λ p. Behaves SB F p f) (append-nil p) (behaves-then SA SB F F a (λ more v. Ok (g v)) f whole [] (λ later ok. ok) made-short reads made-run)

-- ---- choices by the first token

module _ {V : Type 0} (sh : Shape V) (F : List Spot → Type 0) (f yes no : ℕ → List Spot → Result V ParseError) (t : Spot → Bool)
    (same : (more : ℕ) (s : Spot) (y : List Spot) → f more (s ∷ y) ≡ (if t s then yes more (s ∷ y) else no more (s ∷ y))) where
  pub run-chooses : ((s : Spot) (x : List Spot) → t s ≡ true → ends_once (s ∷ x) ≡ true → Run sh F yes (s ∷ x))
      → ((s : Spot) (x : List Spot) → t s ≡ false → ends_once (s ∷ x) ≡ true → Run sh F no (s ∷ x)) → (spots : List Spot) → ends_once spots ≡ true → Run sh F f spots
  run-chooses if_so if_not [] e = cc
  run-chooses if_so if_not (s ∷ x) e = by_test (t s) refl
    where
      by_test : (b : Bool) → t s ≡ b → Run sh F f (s ∷ x)
      by_test true is = run-same sh F f yes s x (λ more y. same more s y ∙ chosen (t s) (yes more (s ∷ y)) (no more (s ∷ y)) is) (if_so s x is e)
      by_test false is = run-same sh F f no s x (λ more y. same more s y ∙ left_out (t s) (yes more (s ∷ y)) (no more (s ∷ y)) is) (if_not s x is e)

-- ---- limits

-- behind a token that takes one from a limit
module _ {V : Type 0} (sh : Shape V) (F : List Spot → Type 0) (f : ℕ → List Spot → Result V ParseError) (h : ℕ → ℕ → List Spot → Result V ParseError) (s : Spot) (x : List Spot)
    (no_end : is_end s.kind ≡ false) (ends : ends_once (s ∷ x) ≡ true)
    (tail : List Spot) (end : (later : List Spot) → F later → Finished sh (f 1 (s ∷ (tail ++ later))) later) where
  pub run-deep : {p : List Spot} (n : ℕ) → ((more : ℕ) (y : List Spot) → f more (s ∷ y) ≡ deeper (limit more n) s.at >>= λ less. h more less y)
      → ((less : ℕ) → n ≡ suc less → Behaves sh F p (λ more y. h more (limit more less) y)) → Run sh F f (s ∷ x)
  run-deep zero same inner =
      record { front = []; look = s; rest = x; cut = refl; finish = tt; outcome = TooDeep (λ y. same 0 y) tail end }
  run-deep (suc less) same inner = run-skips sh F f (λ more y. h more (limit more less) y) s x no_end same (inner less refl) ends

-- ---- steps that repeat

module _ {S : Type 0} (size : S → ℕ) (test : S → Bool) (step : S → Result S ParseError) where
  by_step : (state : S) → test state ≡ true → ((after : S) → step state ≡ Ok after → size after < size state) → (r : Result S ParseError) → step state ≡ r
      → repeat size test step state ≡ r >>= repeat size test step
  by_step state is less (Ok after) made = repeat-more size test step state after is made (less after made)
  by_step state is less (Err e) made = repeat-once size test step state is ∙ ap (λ r. r >>= go_on size (size state) (repeat size test step)) made

  pub repeat-then : (state : S) → test state ≡ true → ((after : S) → step state ≡ Ok after → size after < size state) → repeat size test step state ≡ step state >>= repeat size test step
  repeat-then state is less = by_step state is less (step state) refl

module _ {S : Type 0} (sh : Shape S) (F FS : List Spot → Type 0) (size : S → ℕ) (test : S → Bool) (t : Spot → Bool) (step : ℕ → S → Result S ParseError)
    (sized : (v : S) (x : List Spot) → size (sh.set v x) ≡ length x)
    (tested : (v : S) (s : Spot) (x : List Spot) → test (sh.set v (s ∷ x)) ≡ t s)
    (stops : (v : S) (later : List Spot) → F later → test (sh.set v later) ≡ false)
    (follows : (later : List Spot) → F later → FS later)
    (less : (more : ℕ) (v after : S) → test v ≡ true → step more v ≡ Ok after → size after < size v)
    (steps : (v : S) (s : Spot) (x : List Spot) → t s ≡ true → ends_once (s ∷ x) ≡ true → Run sh FS (λ more x. step more (sh.set (sh.up more v) x)) (s ∷ x)) where
  abbrev loop : ℕ → S → Result S ParseError
  loop more v = repeat size test (step more) v

  pub loop-short : (more : ℕ) (v : S) (later : List Spot) → F later → Finished sh (loop more (sh.set v later)) later
  loop-short more v later ok = (v, repeat-done size test (step more) (sh.set v later) (stops v later ok))

  loop-all : (n : ℕ) (v : S) (spots : List Spot) → length spots < n → ends_once spots ≡ true → Run sh F (λ more x. loop more (sh.set (sh.up more v) x)) spots
  loop-all zero v spots few e = absurd (omega arith)
  loop-all (suc n) v [] few e = cc
  loop-all (suc n) v (s ∷ x) few e = by_test (loop-all n) (t s) refl
    where
      by_test : ((w : S) (spots : List Spot) → length spots < n → ends_once spots ≡ true → Run sh F (λ more x. loop more (sh.set (sh.up more w) x)) spots)
          → (b : Bool) → t s ≡ b → Run sh F (λ more x. loop more (sh.set (sh.up more v) x)) (s ∷ x)
      by_test again false is = run-stays sh F (λ more x. loop more (sh.set (sh.up more v) x)) s x v
          (λ more y. repeat-done size test (step more) (sh.set (sh.up more v) (s ∷ y)) (tested (sh.up more v) s y ∙ is))
      by_test again true is =
          run-same sh F (λ more x. loop more (sh.set (sh.up more v) x)) (λ more x. step more (sh.set (sh.up more v) x) >>= loop more) s x
          (λ more y. let going = tested (sh.up more v) s y ∙ is in
          repeat-then size test (step more) (sh.set (sh.up more v) (s ∷ y)) going (λ after made. less more (sh.set (sh.up more v) (s ∷ y)) after going made))
          (run-bind sh sh FS F (λ more x. step more (sh.set (sh.up more v) x)) loop (λ more x. step more (sh.set (sh.up more v) x) >>= loop more) (λ more x. refl)
          [] follows loop-short (s ∷ x)
          (λ front look rest w cut made.
          let fewer = less 0 (sh.set (sh.up 0 v) (s ∷ x)) (sh.set (sh.up 0 w) (look ∷ rest)) (tested (sh.up 0 v) s x ∙ is) (made 0) in
          let one = sized (sh.up 0 v) (s ∷ x) in
          let other = sized (sh.up 0 w) (look ∷ rest) in
          again w (look ∷ rest) (omega (arith, fewer, one, other)) (ends-rest front look rest (ap ends_once (sym cut) ∙ e)))
          (steps v s x is e))

  pub loop-run : (v : S) (spots : List Spot) → ends_once spots ≡ true → Run sh F (λ more x. loop more (sh.set (sh.up more v) x)) spots
  loop-run v spots e = loop-all (suc (length spots)) v spots (omega arith) e

module _ {V : Type 0} (sh : Shape V) (F : List Spot → Type 0) (f : ℕ → List Spot → Result V ParseError) where
  -- a reader that goes as another one does
  pub behaves-same : {short : List Spot} (h : ℕ → List Spot → Result V ParseError) → ((more : ℕ) (x : List Spot) → f more x ≡ h more x) → Behaves sh F short h → Behaves sh F short f
  behaves-same {short} h same reads = record {
    shortest = λ more later ok. let r = reads.shortest more later ok in (r.0, same more (short ++ later) ∙ r.1);
    runs = λ spots e. by_first spots e (reads.runs spots e);
  }
    where
      by_first : (spots : List Spot) → ends_once spots ≡ true → Run sh F h spots → Run sh F f spots
      by_first [] e run = cc
      by_first (s ∷ x) e run = run-same sh F f h s x (λ more y. same more (s ∷ y)) run

  -- a mark that has to stand first, and nothing more
  module _ (m : Mark) (w : ℕ → V) (found : (more at : ℕ) (y : List Spot) → f more (mark at m ∷ y) ≡ Ok (sh.set (sh.up more (w at)) y))
      (missing : (more : ℕ) (s : Spot) (y : List Spot) → is_mark m s.kind ≡ false → f more (s ∷ y) ≡ Err (refusal_of (s ∷ []))) where
    pub run-past : (spots : List Spot) → ends_once spots ≡ true → Run sh F f spots
    run-past [] e = cc
    run-past (s ∷ x) e = by_test (is_mark m s.kind) refl
      where
        by_test : (b : Bool) → is_mark m s.kind ≡ b → Run sh F f (s ∷ x)
        by_test false is = run-refuses sh F f s x (λ more y. missing more s y is)
        by_test true is =
            let same = mark-is m s is in
            run-skips sh F f (λ more y. Ok (sh.set (sh.up more (w s.at)) y)) s x (mark-no_end m s is) (λ more y. ap (λ l. f more (l ∷ y)) same ∙ found more s.at y)
            (nothing-behaves sh F (w s.at)) e

    pub mark-behaves : Behaves sh F (mark 0 m ∷ []) f
    mark-behaves = record { shortest = λ more later ok. (sh.up more (w 0), found more 0 later); runs = run-past }

-- ---- less may stand behind

module _ {V : Type 0} (sh : Shape V) (F G : List Spot → Type 0) (f : ℕ → List Spot → Result V ParseError) (less : (later : List Spot) → G later → F later) where
  looser-finish : (front : List Spot) → Finishes sh F (f 0) front → Finishes sh G (f 0) front
  looser-finish [] fin = tt
  looser-finish (s ∷ front) fin = (fin.0, λ later ok. fin.1 later (less later ok))

  looser-outcome : (front : List Spot) (look : Spot) → Outcome sh F f front look → Outcome sh G f front look
  looser-outcome front look (Came v is) = Came v is
  looser-outcome front look (Refused is) = Refused is
  looser-outcome front look (TooDeep is tail fin) = TooDeep is tail (λ later ok. fin later (less later ok))

pub run-looser : {V : Type 0} (sh : Shape V) {F G : List Spot → Type 0} {f : ℕ → List Spot → Result V ParseError} {spots : List Spot} → ((later : List Spot) → G later → F later) → Run sh F f spots → Run sh G f spots
run-looser sh {F} {G} {f} less run = record {
  front = run.front;
  look = run.look;
  rest = run.rest;
  cut = run.cut;
  finish = looser-finish sh F G f less run.front run.finish;
  outcome = looser-outcome sh F G f less run.front run.look run.outcome;
}
