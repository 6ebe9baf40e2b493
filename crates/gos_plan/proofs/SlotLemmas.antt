-- A row is found for the slot that it takes.
use Rattle.std.proofs.Common.{◌≡◌, Bool, true, false, [], ◌∷◌, Some, refl, sym, ◌∙◌, ap, arith, if◌then◌else◌}
use Rattle.std.specs.Prelude.{None}
use Rattle.std.proofs.lemmas.Option.{none-some}
use Rattle.gos_plan.specs.Firing.{Slot, Req, Ans, Row, row_for, same_slot}

slots_same : (a b : Slot) → same_slot a b ≡ true → b ≡ a
slots_same (Req h) (Req j) e = let same : h ≡ j = grind (arith, e) in ap Req (sym same)
slots_same (Req h) (Ans j) e = absurd (cc e)
slots_same (Ans h) (Req j) e = absurd (cc e)
slots_same (Ans h) (Ans j) e = let same : h ≡ j = grind (arith, e) in ap Ans (sym same)

pub one_row : (a r : Row) (slot : Slot) → row_for slot (a ∷ []) ≡ Some r → slot ≡ a.takes
one_row a r slot e = by_test (same_slot a.takes slot) refl
  where
    by_test : (b : Bool) → same_slot a.takes slot ≡ b → slot ≡ a.takes
    by_test true t = slots_same a.takes slot t
    by_test false t = absurd (none-some r (sym (ap (λ (b : Bool). if b then Some a else None) t) ∙ e))
