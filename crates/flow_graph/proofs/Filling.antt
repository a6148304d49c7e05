-- Tables of the groups, filled with one procedure after the other.
use Rattle.std.proofs.Common.{inl, inr, ◌≡◌, ℕ, zero, suc, ◌+◌, ◌<◌, List, [], ◌∷◌, ◌++◌, length, get_or, set, refl, sym, ap, subst, arith, ◌∙◌}
use Rattle.std.specs.Prelude.{◌↔◌}
use Rattle.std.proofs.lemmas.Bool.{cases_eq}
use Rattle.std.proofs.lemmas.List.{get_or-set_same, get_or-set_other, length-set}
use Rattle.std.proofs.lemmas.List.Elements.{Contains-append_left, Contains-append_right, Contains-append_cases}
use Rattle.std.specs.List.{Contains}
use Rattle.flow_graph.specs.Groups.{IsAscending}
use Rattle.flow_graph.specs.Components.{group_at}
use Rattle.flow_graph.specs.Reaching.{Calls, callees_of}
use Rattle.flow_graph.specs.Plans.{AreFilled, empty_rows}
use Rattle.flow_graph.proofs.Entering.{contains_end, only_end}
use Rattle.flow_graph.proofs.Orders.{rest_in}

row_empty : (n g : ℕ) → get_or (empty_rows n) g [] ≡ []
row_empty zero g = refl
row_empty (suc n) zero = refl
row_empty (suc n) (suc g) = row_empty n g

pub length_empty : (n : ℕ) → length (empty_rows n) ≡ n
length_empty zero = refl
length_empty (suc n) = ap suc (length_empty n)

rows_then : (n : ℕ) → empty_rows n ++ [] ∷ [] ≡ empty_rows (suc n)
rows_then zero = refl
rows_then (suc n) = ap (λ (r : List (List ℕ)). [] ∷ r) (rows_then n)

pub rows_more : (n : ℕ) → empty_rows n ++ [] ∷ [] ≡ empty_rows (n + 1)
rows_more n = let e : suc n ≡ n + 1 = omega arith in rows_then n ∙ ap empty_rows e

pub none_in : (n g q : ℕ) {X : Type 0} → Contains (get_or (empty_rows n) g []) q → X
none_in n g q c = let none : Contains [] q = subst (λ (xs : List ℕ). Contains xs q) (row_empty n g) c in absurd (omega (arith, none.1))

pub none_filled : (calls : List (List ℕ)) (groups : List ℕ) (count : ℕ) → AreFilled calls groups count 0 (empty_rows count) (empty_rows count)
none_filled calls groups count = record {
  many = length_empty count;
  rows_many = length_empty count;
  listed = λ g q. ((λ c. none_in count g q c), (λ both. absurd (omega (arith, both.0))));
  in_order = λ g. subst IsAscending (sym (row_empty count g)) tt;
  called = λ p q l. absurd (omega (arith, l));
  callers = λ g q c. none_in count g q c;
}

-- a list whose elements are less than what is put behind it
pub ascending_end : (xs : List ℕ) (k : ℕ) → IsAscending xs → ((q : ℕ) → Contains xs q → q < k) → IsAscending (xs ++ k ∷ [])
ascending_end [] k a less = (λ q c. absurd (omega (arith, c.1)), tt)
ascending_end (x ∷ xs) k a less = (
  (λ q c. elim (Contains-append_cases xs (k ∷ []) q c) [
    | inl old ↦ a.0 q old
    | inr new ↦ let e = only_end k q new in let l = less x (0, omega arith, refl) in omega (arith, e, l)
  ]),
  ascending_end xs k a.1 (λ q c. less q (rest_in x q xs c)),
)

module _ (calls : List (List ℕ)) (groups : List ℕ) (count k : ℕ) (members rows : List (List ℕ)) (filled : AreFilled calls groups count k members rows)
    (within : group_at groups k < count) where
  row_here : (xs : List ℕ) → get_or (set members (group_at groups k) xs) (group_at groups k) [] ≡ xs
  row_here xs = get_or-set_same members (group_at groups k) xs [] (omega (arith, within, filled.many))

  calls_here : (xs : List ℕ) → get_or (set rows (group_at groups k) xs) (group_at groups k) [] ≡ xs
  calls_here xs = get_or-set_same rows (group_at groups k) xs [] (omega (arith, within, filled.rows_many))

  pub one_more_filled : (new more : List (List ℕ)) → new ≡ set members (group_at groups k) (get_or members (group_at groups k) [] ++ k ∷ [])
      → more ≡ set rows (group_at groups k) (get_or rows (group_at groups k) [] ++ callees_of calls k) → AreFilled calls groups count (k + 1) new more
  one_more_filled new more is was =
      let own = get_or members (group_at groups k) [] in
      let line = get_or rows (group_at groups k) [] in
      let same : get_or new (group_at groups k) [] ≡ own ++ k ∷ [] = ap (λ (t : List (List ℕ)). get_or t (group_at groups k) []) is ∙ row_here (own ++ k ∷ []) in
      let same_row : get_or more (group_at groups k) [] ≡ line ++ callees_of calls k = ap (λ (t : List (List ℕ)). get_or t (group_at groups k) []) was ∙ calls_here (line ++ callees_of calls k) in
      let other : (g : ℕ) → (g ≡ group_at groups k → ⊥) → get_or new g [] ≡ get_or members g [] =
      λ g ne. ap (λ (t : List (List ℕ)). get_or t g []) is ∙ get_or-set_other members (group_at groups k) g (own ++ k ∷ []) [] ne in
      let other_row : (g : ℕ) → (g ≡ group_at groups k → ⊥) → get_or more g [] ≡ get_or rows g [] =
      λ g ne. ap (λ (t : List (List ℕ)). get_or t g []) was ∙ get_or-set_other rows (group_at groups k) g (line ++ callees_of calls k) [] ne in
      record {
        many = ap (λ (t : List (List ℕ)). length t) is ∙ length-set members (group_at groups k) (own ++ k ∷ []) ∙ filled.many;
        rows_many = ap (λ (t : List (List ℕ)). length t) was ∙ length-set rows (group_at groups k) (line ++ callees_of calls k) ∙ filled.rows_many;
        listed = λ g q. elim (cases_eq g (group_at groups k)) [
          | inl e ↦ subst (λ (x : ℕ). Contains (get_or new x []) q ↔ ((q < k + 1) × (group_at groups q ≡ x))) (sym e) (
            (λ c. elim (Contains-append_cases own (k ∷ []) q (subst (λ (xs : List ℕ). Contains xs q) same c)) [
              | inl old ↦ let o = (filled.listed (group_at groups k) q).0 old in (let l = o.0 in omega (arith, l), o.1)
              | inr now ↦ let n = only_end k q now in (omega (arith, n), ap (group_at groups) n)
            ]),
            (λ both. subst (λ (xs : List ℕ). Contains xs q) (sym same) (elim (cases_eq q k) [
              | inl n ↦ subst (λ (x : ℕ). Contains (own ++ k ∷ []) x) (sym n) (contains_end own k)
              | inr ne ↦ Contains-append_left own (k ∷ []) q ((filled.listed (group_at groups k) q).1 (let l = both.0 in omega (arith, l, ne), both.1))
            ])),
          )
          | inr ne ↦ (
            (λ c. let o = (filled.listed g q).0 (subst (λ (xs : List ℕ). Contains xs q) (other g ne) c) in (let l = o.0 in omega (arith, l), o.1)),
            (λ both. subst (λ (xs : List ℕ). Contains xs q) (sym (other g ne)) ((filled.listed g q).1 (
              elim (cases_eq q k) [ inl n ↦ absurd (ne (sym both.1 ∙ ap (group_at groups) n)) | inr un ↦ let l = both.0 in omega (arith, l, un) ],
              both.1,
            ))),
          )
        ];
        in_order = λ g. elim (cases_eq g (group_at groups k)) [
          | inl e ↦ subst (λ (x : ℕ). IsAscending (get_or new x [])) (sym e) (subst IsAscending (sym same)
              (ascending_end own k (filled.in_order (group_at groups k)) (λ q c. ((filled.listed (group_at groups k) q).0 c).0)))
          | inr ne ↦ subst IsAscending (sym (other g ne)) (filled.in_order g)
        ];
        called = λ p q l call. elim (cases_eq (group_at groups p) (group_at groups k)) [
          | inl e ↦ subst (λ (x : ℕ). Contains (get_or more x []) q) (sym e) (subst (λ (xs : List ℕ). Contains xs q) (sym same_row) (elim (cases_eq p k) [
            | inl n ↦ Contains-append_right line (callees_of calls k) q (subst (λ (x : ℕ). Calls calls x q) n call)
            | inr un ↦ Contains-append_left line (callees_of calls k) q (subst (λ (x : ℕ). Contains (get_or rows x []) q) e (filled.called p q (omega (arith, l, un)) call))
          ]))
          | inr ne ↦ subst (λ (xs : List ℕ). Contains xs q) (sym (other_row (group_at groups p) ne)) (filled.called p q
              (elim (cases_eq p k) [ inl n ↦ absurd (ne (ap (group_at groups) n)) | inr un ↦ omega (arith, l, un) ]) call)
        ];
        callers = λ g q c. elim (cases_eq g (group_at groups k)) [
          | inl e ↦ elim (Contains-append_cases line (callees_of calls k) q (subst (λ (xs : List ℕ). Contains xs q) same_row (subst (λ (x : ℕ). Contains (get_or more x []) q) e c))) [
            | inl old ↦ let o = filled.callers (group_at groups k) q old in (o.0, (let l = o.1 in omega (arith, l)), o.2 ∙ sym e, o.3)
            | inr now ↦ (k, omega arith, sym e, now)
          ]
          | inr ne ↦ let o = filled.callers g q (subst (λ (xs : List ℕ). Contains xs q) (other_row g ne) c) in (o.0, (let l = o.1 in omega (arith, l)), o.2, o.3)
        ];
      }
