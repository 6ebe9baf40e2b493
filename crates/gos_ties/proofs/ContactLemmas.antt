-- One of the handshakes of a part, an import or the result, as the program holds it.
use Rattle.std.specs.Prelude.{◌≡◌, ℕ, zero, suc, List, [], ◌∷◌, map, slice_get}
use Rattle.std.proofs.Common.{refl}
use Rattle.gos_plan.specs.Contacts.{held_contact}
use Rattle.gos_plan.specs.Kinds as kinds
use Rattle.gos_plan.specs.Kinds.{other_side}
use Rattle.gos_plan.specs.Plans.{turned_if}
use Rattle.gos_ties.specs.inner.Contacts.{asked}

pub asked_held : (cs : List kinds.Contact) (h : ℕ) → asked (slice_get (map held_contact cs) h) ≡ slice_get cs h
asked_held [] h = refl
asked_held (c ∷ cs) zero = refl
asked_held (c ∷ cs) (suc h) = asked_held cs h

-- one of the turned handshakes
pub result_contact : (cs : List kinds.Contact) (h : ℕ) → slice_get (other_side cs) h ≡ turned_if (slice_get cs h)
result_contact [] h = refl
result_contact (c ∷ cs) zero = refl
result_contact (c ∷ cs) (suc h) = result_contact cs h
