-- How `Boxed` holds its value, so that a type may reach itself through a box. Contracts see the box
-- as the value, so its former is the value's own.
use mathlib.Core.Path.{refl}
use mathlib.Core.Former.{Former, this, const, pair, via}
use base.Stored.{gnil}
use base.Fml.{ftrue}
use denote.RattleType.{RattleType}
use denote.Memory.{part_of}
use denote.RawPtr.{Ptr}
use denote.Sharing.{nothing}
use denote.HoleLaws.{Alike}
use denote.HolePlaces.{Recodes, struct_places, laid, one_value}
use denote.Hole.Fix.{over}
use denote.Param.Weighed.{Weighed}
use denote.Model.Placed.{view_places}
use Rattle.std.specs.declared.boxed.Box.{Box}
use Rattle.std.specs.contracts.boxed.Box as box
use Rattle.std.specs.declared.alloc.Global.{Global}
use Rattle.std.specs.contracts.alloc.Global as heap
use Rattle.std.specs.contracts.impls.GlobalAllocator.TheImpl.{ghosts}
use Rattle.items.specs.declared.boxed.Boxed.TheInside.{Inside}
use Rattle.items.specs.declared.boxed.Boxed.TheView.{view, invariant}
use Rattle.items.specs.contracts.boxed.Boxed as seen
use Rattle.items.specs.contracts.boxed.Boxed.TheInside as inside

abbrev pub the_former : Former {0} → Former {0}
the_former value = value

abbrev pub the_weighed : {value : Former {0}} → Weighed value → Weighed (the_former value)
the_weighed weighed = weighed

-- the one field: a pointer, its allocator, and the value behind it
abbrev the_field : Former {0}
the_field = via (pair (const (Ptr × Global)) this) Inside
    (λ X fields. ((fields.inner.ptr, fields.inner.alloc), fields.inner.value))
    (λ X parts. record {
      inner = record { ptr = parts.0.0; alloc = parts.0.1; value = parts.1 };
    }) (λ X fields. refl) (λ X parts. refl)

-- the same box round another value
abbrev box_with : {X Y : Type 0} → Box X Global → Y → Box Y Global
box_with b value = record { ptr = b.ptr; alloc = b.alloc; value = value }

abbrev box_of : RattleType → RattleType
box_of R = box.the_row R heap.the_row ghosts

module _ (R S : RattleType) (h : R.Denot → S.Denot) where
  boxes_alike : Alike R S h → Alike (box_of R) (box_of S) (λ b. box_with b (h b.value))
  unfolding part_of
  boxes_alike alike = record {
    mir_same = λ i.
        (box_of (one_value R (alike.mir_same i) (λ _. ftrue) (λ _ _. nothing) gnil)).mir;
    own_same = λ b i.
        (box_of (one_value R (alike.mir_same i) (alike.own_same b.value i)
        (alike.shr_same b.value i) gnil)).own_val (box_with b tt);
    shr_same = λ b i.
        (box_of (one_value R (alike.mir_same i) (alike.own_same b.value i)
        (alike.shr_same b.value i) gnil)).shr_at (box_with b tt);
  }

  pub the_places : Alike R S h
      → Alike (seen.the_row R) (seen.the_row S) ((the_former this).map R.Denot S.Denot h)
  the_places alike = view_places the_field this view (λ X Y k fields. refl) (λ X fields. refl)
      R.Denot S.Denot h (seen.the_row R).coded (seen.the_row S).coded
      (invariant R.Denot) (invariant S.Denot) (λ fields p q. refl) (λ fields p q. refl)
      (λ fields p. tt) (λ fields p. tt)
      (over (inside.the_row R)) (over (inside.the_row S))
      (struct_places (inside.the_type R) (inside.the_type S) ((λ b. box_with b (h b.value)), tt) _
      (λ fields. refl) refl
      (laid _ _ _ (boxes_alike alike), tt))

  pub the_codes_placed : Recodes R S h
      → Recodes (seen.the_row R) (seen.the_row S) ((the_former this).map R.Denot S.Denot h)
  the_codes_placed recodes value = recodes value
