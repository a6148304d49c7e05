-- Chains of calls join.
use Rattle.std.proofs.Common.{ℕ, List, [], ◌∷◌, ◌++◌, refl, sym, subst}
use Rattle.flow_graph.specs.Reaching.{Calls, Leads, Reaches}

leads_then : (calls : List (List ℕ)) (p q r : ℕ) (over more : List ℕ) → Leads calls p over q → Leads calls q more r → Leads calls p (over ++ more) r
leads_then calls p q r [] more e l = subst (λ (x : ℕ). Leads calls x more r) (sym e) l
leads_then calls p q r (n ∷ over) more h l = (h.0, leads_then calls n q r over more h.1 l)

pub reaches_self : (calls : List (List ℕ)) (p : ℕ) → Reaches calls p p
reaches_self calls p = record { over = []; leads = refl }

pub reaches_then : (calls : List (List ℕ)) (p q r : ℕ) → Reaches calls p q → Reaches calls q r → Reaches calls p r
reaches_then calls p q r a b = record { over = a.over ++ b.over; leads = leads_then calls p q r a.over b.over a.leads b.leads }

pub reaches_call : (calls : List (List ℕ)) (p q : ℕ) → Calls calls p q → Reaches calls p q
reaches_call calls p q h = record { over = q ∷ []; leads = (h, refl) }
