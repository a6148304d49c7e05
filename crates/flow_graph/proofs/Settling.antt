-- What a look at one group changes.
use Rattle.std.proofs.Common.{inl, inr, ◌⊎◌, ◌≡◌, ℕ, ◌<◌, ◌≤◌, Bool, true, false, List, [], ◌∷◌, ◌++◌, length, get_or, set, refl, sym, ap, subst, arith, ◌∙◌}
use Rattle.std.specs.Prelude.{◌==◌, ◌||◌, Result, Ok, Err, OnOk}
use Rattle.std.specs.declared.cmp.Ordering.{Ordering}
use Rattle.std.specs.declared.cmp.Ordering.TheVariants.{Less, Equal, Greater}
use Rattle.std.specs.Ordering.{is_lt, is_gt, match_ordering, nat_cmp}
use Rattle.std.specs.BTreeSet.{insert_key}
use Rattle.std.proofs.lemmas.Map.Keys.{le_from_not_gt, ge_from_not_lt}
use Rattle.std.proofs.lemmas.Bool.{cases_lt, cases_eq}
use Rattle.std.proofs.lemmas.Bool.Decides.{Decides-eqb}
use Rattle.std.proofs.lemmas.List.{get_or-set_same, get_or-set_other, get_or_default, length-set}
use Rattle.std.proofs.lemmas.List.Elements.{Contains-append_left, Contains-append_right, Contains-append_cases}
use Rattle.std.specs.List.{Contains}
use Rattle.flow_graph.specs.declared.turns.Plan.{Plan}
use Rattle.flow_graph.specs.Turns.{group, row_of, first_of, Stage, flag, mem, is_past, IsPast, IsBlocked, ArePast, AreWithin, Settled}
use Rattle.flow_graph.proofs.Entering.{only_end}
use Rattle.flow_graph.proofs.Sieves.{differ}

pub on_ok : {X E : Type 0} (P Q : Type 0) (r : Result X E) → (P → Q) → OnOk r P → OnOk r Q
on_ok P Q (Ok x) h there = h there
on_ok P Q (Err e) h there = there

-- ---- bits

pub or_cases : (a b : Bool) → (a || b) ≡ true → (a ≡ true) ⊎ (b ≡ true)
or_cases true b e = inl refl
or_cases false b e = inr e

or_none : (a b : Bool) → (a || b) ≡ false → (a ≡ false) × (b ≡ false)
or_none true b e = absurd (cc e)
or_none false b e = (refl, e)

pub or_right : (a b : Bool) → b ≡ true → (a || b) ≡ true
or_right true b e = refl
or_right false b e = e

pub or_left : (a b : Bool) → a ≡ true → (a || b) ≡ true
or_left true b e = refl
or_left false b e = absurd (cc e)

pub past_is : (plan : Plan) (come : List Bool) (g q : ℕ) → is_past plan.groups come g q ≡ true → IsPast plan come g q
past_is plan come g q e = elim (or_cases (group plan q == g) (flag come (group plan q)) e) [
  | inl same ↦ inl ((Decides-eqb (group plan q) g).0 same)
  | inr came ↦ inr came
]

-- ---- keys

kept_by : (o : Ordering) (x : ℕ) (xs rest : List ℕ) (k f : ℕ) → (mem xs f ≡ true → mem rest f ≡ true) → mem (x ∷ xs) f ≡ true
    → mem (match_ordering o (k ∷ x ∷ xs) (x ∷ xs) (x ∷ rest)) f ≡ true
kept_by Less x xs rest k f h e = or_right (k == f) (mem (x ∷ xs) f) e
kept_by Equal x xs rest k f h e = e
kept_by Greater x xs rest k f h e = elim (or_cases (x == f) (mem xs f) e) [
  | inl same ↦ or_left (x == f) (mem rest f) same
  | inr there ↦ or_right (x == f) (mem rest f) (h there)
]

from_by : (o : Ordering) (x : ℕ) (xs rest : List ℕ) (k f : ℕ) → (mem rest f ≡ true → (f ≡ k) ⊎ (mem xs f ≡ true))
    → mem (match_ordering o (k ∷ x ∷ xs) (x ∷ xs) (x ∷ rest)) f ≡ true → (f ≡ k) ⊎ (mem (x ∷ xs) f ≡ true)
from_by Less x xs rest k f h e = elim (or_cases (k == f) (mem (x ∷ xs) f) e) [
  | inl same ↦ inl (sym ((Decides-eqb k f).0 same))
  | inr there ↦ inr there
]
from_by Equal x xs rest k f h e = inr e
from_by Greater x xs rest k f h e = elim (or_cases (x == f) (mem rest f) e) [
  | inl same ↦ inr (or_left (x == f) (mem xs f) same)
  | inr there ↦ elim (h there) [ inl is ↦ inl is | inr old ↦ inr (or_right (x == f) (mem xs f) old) ]
]

same_by : (o : Ordering) (k x : ℕ) → nat_cmp k x ≡ o → o ≡ Equal → x ≡ k
same_by o k x e is =
    let low = le_from_not_gt k x (ap is_gt (e ∙ is)) in
    let high = ge_from_not_lt k x (ap is_lt (e ∙ is)) in
    omega (arith, low, high)

here_by : (o : Ordering) (x : ℕ) (xs rest : List ℕ) (k : ℕ) → nat_cmp k x ≡ o → mem rest k ≡ true
    → mem (match_ordering o (k ∷ x ∷ xs) (x ∷ xs) (x ∷ rest)) k ≡ true
here_by Less x xs rest k e h = or_left (k == k) (mem (x ∷ xs) k) ((Decides-eqb k k).1 refl)
here_by Equal x xs rest k e h = or_left (x == k) (mem xs k) ((Decides-eqb x k).1 (same_by Equal k x e refl))
here_by Greater x xs rest k e h = or_right (x == k) (mem rest k) h

pub mem_kept : (ks : List ℕ) (k f : ℕ) → mem ks f ≡ true → mem (insert_key nat_cmp ks k) f ≡ true
mem_kept [] k f e = absurd (cc e)
mem_kept (x ∷ xs) k f e = kept_by (nat_cmp k x) x xs (insert_key nat_cmp xs k) k f (mem_kept xs k f) e

pub mem_from : (ks : List ℕ) (k f : ℕ) → mem (insert_key nat_cmp ks k) f ≡ true → (f ≡ k) ⊎ (mem ks f ≡ true)
mem_from [] k f e = elim (or_cases (k == f) false e) [ inl same ↦ inl (sym ((Decides-eqb k f).0 same)) | inr none ↦ inr none ]
mem_from (x ∷ xs) k f e = from_by (nat_cmp k x) x xs (insert_key nat_cmp xs k) k f (mem_from xs k f) e

pub mem_here : (ks : List ℕ) (k : ℕ) → mem (insert_key nat_cmp ks k) k ≡ true
mem_here [] k = or_left (k == k) false ((Decides-eqb k k).1 refl)
mem_here (x ∷ xs) k = here_by (nat_cmp k x) x xs (insert_key nat_cmp xs k) k refl (mem_here xs k)

-- ---- one look

at_place : (xs : List ℕ) (i : ℕ) → i < length xs → Contains xs (get_or xs i 0)
at_place xs i l = (i, l, get_or_default xs i (get_or xs i 0) 0 l)

module _ (plan : Plan) (s : Stage) (g at : ℕ) (past : ArePast plan s) (there : g < length s.next) (late : flag s.come g ≡ false)
    (blocked : IsBlocked plan.groups s.come (row_of plan g) g (get_or s.next g 0) at) where
  past_until : (i : ℕ) → i < at → i < length (row_of plan g) → is_past plan.groups s.come g (get_or (row_of plan g) i 0) ≡ true
  past_until i l h = elim (cases_lt i (get_or s.next g 0)) [
    | inl before ↦ past g i before h
    | inr ge ↦ blocked.past i (omega (arith, ge)) l
  ]

  past_next : (k i : ℕ) → i < get_or (set s.next g at) k 0 → i < length (row_of plan k)
      → is_past plan.groups s.come k (get_or (row_of plan k) i 0) ≡ true
  past_next k i l h = elim (cases_eq k g) [
    | inl same ↦
        let place : get_or (set s.next g at) k 0 ≡ at = ap (λ (x : ℕ). get_or (set s.next g at) x 0) same ∙ get_or-set_same s.next g at 0 there in
        subst (λ (x : ℕ). is_past plan.groups s.come x (get_or (row_of plan x) i 0) ≡ true) (sym same)
        (past_until i (omega (arith, l, place)) (subst (λ (x : ℕ). i < length (row_of plan x)) same h))
    | inr ne ↦ past k i (let place = get_or-set_other s.next g k at 0 ne in omega (arith, l, place)) h
  ]

  module _ (within : AreWithin plan s g) (stop : at < length (row_of plan g)) where
    pub settled_waits : (waiting : List (List ℕ))
        → waiting ≡ set s.waiting (group plan (get_or (row_of plan g) at 0)) (get_or s.waiting (group plan (get_or (row_of plan g) at 0)) [] ++ g ∷ [])
        → Settled plan s (record { come = s.come; waiting = waiting; next = set s.next g at; ready = s.ready }) g
    settled_waits waiting is =
        let to = group plan (get_or (row_of plan g) at 0) in
        let row = get_or s.waiting to [] in
        let in-row : to < length s.waiting = within (get_or (row_of plan g) at 0) (at_place (row_of plan g) at stop) in
        let held : get_or waiting to [] ≡ row ++ g ∷ [] = ap (λ (w : List (List ℕ)). get_or w to []) is ∙ get_or-set_same s.waiting to (row ++ g ∷ []) [] in-row in
        let not-past = or_none (to == g) (flag s.come to) (blocked.stop stop) in
        record {
          come = refl;
          past = past_next;
          as_many = ap (λ (w : List (List ℕ)). length w) is ∙ length-set s.waiting to (row ++ g ∷ []);
          places = length-set s.next g at;
          kept = λ f e. e;
          added = λ f e. inl e;
          waiting = λ k x c. elim (cases_eq k to) [
            | inl same ↦ subst (λ (y : ℕ). Contains (get_or waiting y []) x) (sym same)
                (subst (λ (xs : List ℕ). Contains xs x) (sym held)
                (Contains-append_left row (g ∷ []) x (subst (λ (y : ℕ). Contains (get_or s.waiting y []) x) same c)))
            | inr ne ↦ subst (λ (xs : List ℕ). Contains xs x)
                (sym (ap (λ (w : List (List ℕ)). get_or w k []) is ∙ get_or-set_other s.waiting to k (row ++ g ∷ []) [] ne)) c
          ];
          waits = λ k x c. elim (cases_eq k to) [
            | inl same ↦ elim (Contains-append_cases row (g ∷ []) x (subst (λ (xs : List ℕ). Contains xs x) held (subst (λ (y : ℕ). Contains (get_or waiting y []) x) same c))) [
              | inl old ↦ inl (subst (λ (y : ℕ). Contains (get_or s.waiting y []) x) (sym same) old)
              | inr new ↦ inr (only_end g x new)
            ]
            | inr ne ↦ inl (subst (λ (xs : List ℕ). Contains xs x)
                (ap (λ (w : List (List ℕ)). get_or w k []) is ∙ get_or-set_other s.waiting to k (row ++ g ∷ []) [] ne) c)
          ];
          now = λ e. inr (record {
            at = get_or (row_of plan g) at 0;
            called = at_place (row_of plan g) at stop;
            other = λ same. differ (to == g) not-past.0 ((Decides-eqb to g).1 same);
            late = not-past.1;
            waits = subst (λ (xs : List ℕ). Contains xs g) (sym held) (Contains-append_right row (g ∷ []) g (0, omega arith, refl));
          });
        }

  pub settled_ready : (keys new : List ℕ) → s.ready ≡ mem keys → new ≡ insert_key nat_cmp keys (first_of plan g) → length (row_of plan g) ≤ at
      → Settled plan s (record { come = s.come; waiting = s.waiting; next = set s.next g at; ready = mem new }) g
  settled_ready keys new had is end = record {
    come = refl;
    past = past_next;
    as_many = refl;
    places = length-set s.next g at;
    kept = λ f e. ap (λ (ks : List ℕ). mem ks f) is ∙ mem_kept keys (first_of plan g) f (sym (ap (λ (h : ℕ → Bool). h f) had) ∙ e);
    added = λ f e. elim (mem_from keys (first_of plan g) f (sym (ap (λ (ks : List ℕ). mem ks f) is) ∙ e)) [
      | inl same ↦ inr (
        same,
        late,
        λ q c. past_is plan s.come g q
            (subst (λ (x : ℕ). is_past plan.groups s.come g x ≡ true) (get_or_default (row_of plan g) c.0 0 q c.1 ∙ c.2)
            (past_until c.0 (omega (arith, c.1, end)) c.1)),
      )
      | inr old ↦ inl (ap (λ (h : ℕ → Bool). h f) had ∙ old)
    ];
    waiting = λ k x c. c;
    waits = λ k x c. inl c;
    now = λ e. inl (ap (λ (ks : List ℕ). mem ks (first_of plan g)) is ∙ mem_here keys (first_of plan g));
  }

pub blocked_as : (groups other : List ℕ) (come late : List Bool) (row line : List ℕ) (g from to at : ℕ) → groups ≡ other → come ≡ late → row ≡ line → from ≡ to
    → IsBlocked groups come row g from at → IsBlocked other late line g to at
blocked_as groups other come late row line g from to at a b c d blocked =
    subst (λ (x : List ℕ). IsBlocked x late line g to at) a
    (subst (λ (x : List Bool). IsBlocked groups x line g to at) b
    (subst (λ (x : List ℕ). IsBlocked groups come x g to at) c
    (subst (λ (x : ℕ). IsBlocked groups come row g x at) d blocked)))
