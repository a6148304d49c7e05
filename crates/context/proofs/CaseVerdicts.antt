-- The verdict on several cases, from the verdicts on each.
use Rattle.std.proofs.Common.{◌≡◌, ℕ, ℤ, zero, suc, ◌+◌, ◌<◌, ◌≤◌, length, take, drop, get_or, arith, Bool, true, false, List, [], ◌∷◌, ◌++◌, Option, Some, None, refl, sym, ap, subst, ◌∙◌}
use Rattle.std.specs.Prelude.{IsTrue, IfOk, Result, Ok, Err, fold, if◌then◌else◌}
use Rattle.std.specs.List.{filter_map, find}
use Rattle.std.proofs.lemmas.List.{append-nil, drop_all}
use Rattle.std.proofs.lemmas.List.Sums.{fold-append}
use Rattle.linear_terms.specs.declared.row.Case.{Case}
use Rattle.transition_formula.specs.declared.solving.Solved.{Solved}
use Rattle.transition_formula.specs.declared.solving.Solved.TheVariants.{Kept, False}
use Rattle.transition_formula.specs.Meaning.{HoldsCase, HoldsLeft, HoldsSolved}
use Rattle.transition_formula.specs.Rounds.{Stays}
use Rattle.transition_formula.specs.Transition.{fits}
use Rattle.posing.specs.declared.error.WorkError.{WorkError}
use Rattle.posing.specs.declared.note.Note.{Note}
use Rattle.report.specs.declared.verdict.Verdict.{Verdict}
use Rattle.report.specs.declared.verdict.Verdict.TheVariants.{Proved, Unproved, UnprovedLimit}
use Rattle.context.specs.Verdicts.{is_refuted, is_limited, else_by, limit_of, verdict_from}
use Rattle.context.specs.Judging.{FitsLeft, IsLeftOf, IsVerdictOn, AreVerdictsOn, IsVerdictOnAll, stronger}

found : (test : Verdict → Bool) (xs : List Verdict) (x : Verdict) → find test xs ≡ Some x → test x ≡ true
found test [] x e = absurd (cc)
found test (y ∷ ys) x e = go (test y) refl e (found test ys x)
  where
    go : (b : Bool) → test y ≡ b → (if b then Some y else find test ys) ≡ Some x → (find test ys ≡ Some x → test x ≡ true) → test x ≡ true
    go true f g rest = let same : y ≡ x = cc in ap test (sym same) ∙ f
    go false f g rest = rest g

not_both : (v : Verdict) → is_limited v ≡ true → is_refuted v ≡ false
not_both Proved e = refl
not_both (Unproved case point) e = absurd (cc)
not_both (UnprovedLimit case limit) e = refl

-- the first counts before those behind it
next : (v : Verdict) (vs : List Verdict) → verdict_from (v ∷ vs) ≡ stronger v (verdict_from vs)
next Proved vs = refl
next (Unproved case point) vs = refl
next (UnprovedLimit case limit) vs = go (find is_refuted vs) (find is_limited vs) (found is_refuted vs) (found is_limited vs)
  where
    pick : Verdict → Bool → Verdict
    pick w b = if b then w else UnprovedLimit case limit

    go : (r l : Option Verdict) → ((x : Verdict) → r ≡ Some x → is_refuted x ≡ true) → ((x : Verdict) → l ≡ Some x → is_limited x ≡ true) → else_by r (Some (UnprovedLimit case limit)) ≡ stronger (UnprovedLimit case limit) (else_by r l)
    go (Some w) l f g = sym (ap (pick w) (f w refl))
    go None None f g = refl
    go None (Some w) f g = sym (ap (pick w) (not_both w (g w refl)))

stronger-assoc : (a b c : Verdict) → stronger (stronger a b) c ≡ stronger a (stronger b c)
stronger-assoc Proved b c = refl
stronger-assoc (Unproved case point) b c = refl
stronger-assoc (UnprovedLimit case limit) Proved c = refl
stronger-assoc (UnprovedLimit case limit) (Unproved other point) c = refl
stronger-assoc (UnprovedLimit case limit) (UnprovedLimit other more) Proved = refl
stronger-assoc (UnprovedLimit case limit) (UnprovedLimit other more) (Unproved last point) = refl
stronger-assoc (UnprovedLimit case limit) (UnprovedLimit other more) (UnprovedLimit last least) = refl

folded : (a : Verdict) (vs : List Verdict) → fold stronger a vs ≡ stronger a (verdict_from vs)
folded a [] = none a
  where
    none : (a : Verdict) → a ≡ stronger a Proved
    none Proved = refl
    none (Unproved case point) = refl
    none (UnprovedLimit case limit) = refl
folded a (v ∷ vs) = folded (stronger a v) vs ∙ stronger-assoc a v (verdict_from vs) ∙ ap (stronger a) (sym (next v vs))

-- one more verdict behind the others
pub one-behind : (vs : List Verdict) (a v b : Verdict) → a ≡ verdict_from vs → b ≡ stronger a v → b ≡ verdict_from (vs ++ v ∷ [])
one-behind vs a v b is same =
    same ∙ ap (λ w. stronger w v) (is ∙ sym (folded Proved vs)) ∙ sym (fold-append stronger Proved vs (v ∷ [])) ∙ folded Proved (vs ++ v ∷ [])

-- the limits of all verdicts, where none is left
pub limits-all : (verdicts : List Verdict) (i : ℕ) (notes : List Note) → length verdicts ≤ i → notes ++ filter_map limit_of (drop i verdicts) ≡ filter_map limit_of verdicts → notes ≡ filter_map limit_of verdicts
limits-all verdicts i notes le h = sym (append-nil notes) ∙ ap (λ l. notes ++ filter_map limit_of l) (sym (drop_all i verdicts le)) ∙ h

both-known : (case : Case) (cases : List Case) (v w : Verdict) → IsVerdictOn case v → IsVerdictOnAll cases w → IsVerdictOnAll (case ∷ cases) (stronger v w)
both-known case cases Proved w one all =
    record { dead = λ e. (one.dead refl, all.dead e); refuted = all.refuted; fits = λ shown h. all.fits shown h.1 }
both-known case cases (Unproved left point) w one all =
    record { dead = λ e. absurd (cc); refuted = one.refuted; fits = λ shown h. one.fits shown h.0 }
both-known case cases (UnprovedLimit left limit) Proved one all =
    record { dead = λ e. absurd (cc); refuted = one.refuted; fits = λ shown h. one.fits shown h.0 }
both-known case cases (UnprovedLimit left limit) (Unproved other point) one all =
    record { dead = λ e. absurd (cc); refuted = all.refuted; fits = λ shown h. all.fits shown h.1 }
both-known case cases (UnprovedLimit left limit) (UnprovedLimit other more) one all =
    record { dead = λ e. absurd (cc); refuted = one.refuted; fits = λ shown h. one.fits shown h.0 }

pub all-known : (cases : List Case) (verdicts : List Verdict) → AreVerdictsOn cases verdicts → IsVerdictOnAll cases (verdict_from verdicts)
all-known [] [] h = record { dead = λ e. tt; refuted = tt; fits = λ shown h. tt }
all-known [] (v ∷ vs) h = absurd h
all-known (case ∷ cases) [] h = absurd h
all-known (case ∷ cases) (v ∷ vs) h =
    subst (IsVerdictOnAll (case ∷ cases)) (sym (next v vs)) (both-known case cases v (verdict_from vs) h.0 (all-known cases vs h.1))

pub one-more : (cases : List Case) (verdicts : List Verdict) (case : Case) (v : Verdict) → AreVerdictsOn cases verdicts → IsVerdictOn case v → AreVerdictsOn (cases ++ case ∷ []) (verdicts ++ v ∷ [])
one-more [] [] case v h one = (one, tt)
one-more [] (w ∷ ws) case v h one = absurd h
one-more (c ∷ cases) [] case v h one = absurd h
one-more (c ∷ cases) (w ∷ ws) case v h one = (h.0, one-more cases ws case v h.1 one)

pub take-one : {A : Type 0} (xs : List A) (i : ℕ) (x : A) → i < length xs → x ≡ get_or xs i x → take (i + 1) xs ≡ take i xs ++ x ∷ []
take-one [] i x lt e = absurd (omega arith)
take-one (y ∷ ys) zero x lt e = λ i. sym e i ∷ []
take-one (y ∷ ys) (suc i) x lt e =
    let n : suc i + 1 ≡ suc (i + 1) = omega arith in
    ap (λ k. take k (y ∷ ys)) n ∙ ap (λ l. y ∷ l) (take-one ys i x (omega arith) e)

pub left-known : (case left : Case) (o : Option Case) (r : Result Verdict WorkError) → IsLeftOf case o → o ≡ Some left → IfOk r (IsVerdictOn left) → IfOk r (IsVerdictOn case)
left-known case left o (Err e) known is h = h
left-known case left o (Ok v) known is h =
    record {
      dead = λ e before after holds. h.dead e before after (subst (λ l. HoldsLeft l before after) is (known.holds before after holds));
      refuted = h.refuted;
      fits = λ shown f. h.fits shown (subst (FitsLeft 0 shown) is (known.fits 0 shown f));
    }

pub none-known : (case : Case) (o : Option Case) → IsLeftOf case o → o ≡ None → IsVerdictOn case Proved
none-known case o known is =
    record {
      dead = λ e before after holds. subst (λ l. HoldsLeft l before after) is (known.holds before after holds);
      refuted = tt;
      fits = λ shown f. tt;
    }

-- what is left of a case that was put in order
pub kept-known : (case left : Case) (s : Solved) → ((before after : List ℤ) → HoldsCase case before after → HoldsSolved s before after) → ((from to : ℕ) → IsTrue (fits from to case) → Stays (λ c. IsTrue (fits from to c)) s) → s ≡ Kept left → IsLeftOf case (Some left)
kept-known case left s least fit is =
    record {
      holds = λ before after h. subst (λ t. HoldsSolved t before after) is (least before after h);
      fits = λ from to f. subst (Stays (λ c. IsTrue (fits from to c))) is (fit from to f);
    }

pub false-known : (case : Case) (s : Solved) → ((before after : List ℤ) → HoldsCase case before after → HoldsSolved s before after) → s ≡ False → IsLeftOf case None
false-known case s least is =
    record { holds = λ before after h. subst (λ t. HoldsSolved t before after) is (least before after h); fits = λ from to f. tt }
