-- The numbers that a step needs, why one isn't there, and the columns of a new frame.
use Rattle.std.proofs.Common.{◌≡◌, ℕ, zero, suc, ◌+◌, ◌-◌, ◌<◌, ℤ, pos, Bool, true, false, List, [], ◌∷◌, ◌++◌, drop, get_or, length, map, Option, Some, Result, Ok, Err, refl, sym, ap, ◌∙◌, add-one, arith, append_assoc, length-append}
use Rattle.std.specs.Prelude.{IsTrue, ◌&&◌, slice_get}
use Rattle.std.proofs.Math.Seq.{drop-cons}
use Rattle.std.proofs.lemmas.Option.{get_or_from_slice_get}
use Rattle.items.specs.Gives.{◌>>=◌, FailsBy}
use Rattle.syntax_tree.specs.declared.core_expr.Core.{Core}
use Rattle.items.proofs.Gives.{on_ok}
use Rattle.syntax_tree.specs.declared.program.Proc.{Proc}
use Rattle.syntax_tree.specs.declared.program.Program.{Program}
use Rattle.syntax_tree.specs.Code.{code_of}
use Rattle.syntax_tree.specs.Term.{Term, term_of}
use Rattle.syntax_tree.specs.Value.{State}
use Rattle.execution.specs.declared.outcome.Stop.{Stop}
use Rattle.execution.specs.declared.outcome.Stop.TheVariants as stop
use Rattle.execution.specs.Machine.{Item, pending}
use Rattle.execution.specs.Chosen.{cause, first_columns, first_items, new_frame, number_in, numbers_in, zeros}

pub both : (a b : Bool) → IsTrue (a && b) → IsTrue a × IsTrue b
both true b h = (refl, h)
both false b h = absurd (cc h)

pub fails_with : {Y : Type 0} (e : Stop) (stated : Result Y Stop) → stated ≡ Err e → FailsBy (cause e) stated
fails_with stop.Memory stated is = tt
fails_with (stop.Done v) stated is = is
fails_with (stop.Failed n) stated is = is
fails_with stop.Guard stated is = is
fails_with stop.Zero stated is = is
fails_with stop.Dry stated is = is
fails_with (stop.Wide wide) stated is = is

pub number_fails : {Y : Type 0} (e : Stop) (r : Result ℤ Stop) (f : ℤ → Result Y Stop) → r ≡ Err e → FailsBy (cause e) (r >>= f)
number_fails e r f is = fails_with e (r >>= f) (ap (λ x. x >>= f) is)

pub args-drop : (args : List Core) (k : ℕ) (e : Core) → e ≡ get_or args k e → k < length args
    → map term_of (drop k args) ≡ term_of e ∷ map term_of (drop (k + 1) args)
args-drop args k e is h = rw (add-one, drop-cons args k e h) (ap (λ x. term_of x ∷ map term_of (drop (suc k) args)) (sym is))

pub ruleset stops = (number_fails, fails_with)

pub ruleset values = (args-drop)

-- ---- the columns of a new frame

pub zeros-end : (n : ℕ) → zeros n ++ pos 0 ∷ [] ≡ zeros (suc n)
zeros-end zero = refl
zeros-end (suc n) = ap (λ z. pos 0 ∷ z) (zeros-end n)

pub length-zeros : (n : ℕ) → length (zeros n) ≡ n
length-zeros zero = refl
length-zeros (suc n) = ap suc (length-zeros n)

-- one column more is 0
pub filled-more : (own args : State) (n : ℕ) → own ≡ args ++ zeros n → own ++ pos 0 ∷ [] ≡ args ++ zeros (suc n)
filled-more own args n is = ap (λ o. o ++ pos 0 ∷ []) is ∙ append_assoc args (zeros n) (pos 0 ∷ []) ∙ ap (λ z. args ++ z) (zeros-end n)

-- a frame of which all columns are there is the new one
pub entered : (program : Program) (proc : ℕ) (args : List ℤ) (into : Option ℕ) (callee : Proc) (own : State) (items : List Item) (n : ℕ)
    → slice_get program.procs proc ≡ Some callee → own ≡ args ++ zeros n → length own ≡ length callee.columns + 1
    → items ≡ pending (code_of callee.body) []
    → record { proc = proc; own = own; items = items; into = into } ≡ new_frame program proc args into
entered program proc args into callee own items n is filled width todo =
    let sum : length own ≡ length args + n = ap length filled ∙ length-append args (zeros n) ∙ ap (λ k. length args + k) (length-zeros n) in
    let count : n ≡ length callee.columns + 1 - length args = omega arith in
    let columns : own ≡ first_columns (slice_get program.procs proc) args =
    filled ∙ ap (λ k. args ++ zeros k) count ∙ sym (ap (λ p. first_columns p args) is) in
    let body : items ≡ first_items (slice_get program.procs proc) = todo ∙ sym (ap first_items is) in
    λ i. record { proc = proc; own = columns i; items = body i; into = into }

pub numbers-length : (terms : List Term) (state : State) (vs : List ℤ) → numbers_in terms state ≡ Ok vs → length vs ≡ length terms
numbers-length [] state vs came = let none : [] ≡ vs = cc in sym (ap length none)
numbers-length (e ∷ rest) state vs came =
    on_ok (number_in e state) _ vs came (λ v first later.
    on_ok (numbers_in rest state) _ vs later (λ ws others made.
    let those : v ∷ ws ≡ vs = cc in
    sym (ap length those) ∙ ap suc (numbers-length rest state ws others)))

pub same_callee : (procs here : List Proc) (k : ℕ) (found callee : Proc) → here ≡ procs → found ≡ get_or here k found
    → slice_get procs k ≡ Some callee → found ≡ callee
same_callee procs here k found callee are is got =
    is ∙ ap (λ l. get_or l k found) are ∙ get_or_from_slice_get procs k callee found got
