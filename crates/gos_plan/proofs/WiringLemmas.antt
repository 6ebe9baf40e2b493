-- Ways between places of a wiring lead back too.
use Rattle.std.specs.Prelude.{◌≡◌, ℕ, Some, slice_get}
use Rattle.std.proofs.Common.{inl, inr, sym, subst}
use Rattle.gos_plan.specs.Joining.{Place, Wiring, Linked, JoinedWithin, place}

pub linked_back : (w : Wiring) (a b : Place) → Linked w a b → Linked w b a
linked_back w a b (l, has, ways) = (l, has, elim ways [ inl (e, f) ↦ inr (f, e) | inr (e, f) ↦ inl (f, e) ])

pub joined_back : (w : Wiring) (a b : Place) → JoinedWithin w a b → JoinedWithin w b a
joined_back w a b (p, j, same, is, has, ways) = (
  p,
  j,
  sym same,
  subst (λ (k : ℕ). slice_get w.plans k ≡ Some p) same is,
  has,
  elim ways [ inl (e, f) ↦ inr (f, e) | inr (e, f) ↦ inl (f, e) ],
)

pub place_is : (a b : Place) → a.plan ≡ b.plan → a.end ≡ b.end → a ≡ b
place_is a b k e = λ i. place (k i) (e i)
