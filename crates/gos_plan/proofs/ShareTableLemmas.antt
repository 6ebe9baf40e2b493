-- The table of a Share: its rows are such where those of each handshake of its type are, and so is the row by which it fires.
use Rattle.std.proofs.Common.{◌≡◌, ℕ, suc, ◌+◌, List, [], ◌∷◌, ◌++◌, length, Some, slice_get, sym, ◌∙◌, ap, arith}
use Rattle.gos_types.specs.Types.{Type'}
use Rattle.gos_plan.specs.Kinds.{Share, Contact, contacts_of}
use Rattle.gos_plan.specs.Firing.{Phase, Rest, State, Slot, Row, rows, shared_rows, share_rows, firing}
use Rattle.gos_plan.proofs.RowLemmas.{EachRow, row_with}

each_append : (P : Row → Type 0) (rs qs : List Row) → EachRow P rs → EachRow P qs → EachRow P (rs ++ qs)
each_append P [] qs h g = g
each_append P (r ∷ rs) qs h g = (h.0, each_append P rs qs h.1 g)

module _ (P : Row → Type 0) (t : Type') (b : ℕ)
    (each : (j : ℕ) (c : Contact) → slice_get (contacts_of t) j ≡ Some c → EachRow P (shared_rows c.role (length (contacts_of t)) j b)) where
  from_shake : (cs : List Contact) (j : ℕ) → ((m : ℕ) → slice_get cs m ≡ slice_get (contacts_of t) (j + m))
      → EachRow P (share_rows cs (length (contacts_of t)) j b)
  from_shake [] j there = tt
  from_shake (c ∷ cs) j there =
      each_append P (shared_rows c.role (length (contacts_of t)) j b) (share_rows cs (length (contacts_of t)) (suc j) b) (each j c here)
      (from_shake cs (suc j) (λ m. let next : j + suc m ≡ suc j + m = omega arith in there (suc m) ∙ ap (slice_get (contacts_of t)) next))
    where
      here : slice_get (contacts_of t) j ≡ Some c
      here = let same : j + 0 ≡ j = omega arith in sym (there 0 ∙ ap (slice_get (contacts_of t)) same)

  -- in each phase
  pub share_table : (p : Phase) → EachRow P (rows (Share t) p b)
  share_table Rest = from_shake (contacts_of t) 0 (λ m. let same : m ≡ 0 + m = omega arith in ap (slice_get (contacts_of t)) same)
  share_table p = tt

-- the row by which it fires
pub share_row : (P : Row → Type 0) (t : Type') (q : State) (slot : Slot) (r : Row)
    → ((j : ℕ) (c : Contact) → slice_get (contacts_of t) j ≡ Some c → EachRow P (shared_rows c.role (length (contacts_of t)) j q.number))
    → firing (Share t) q slot ≡ Some r → (r.takes ≡ slot) × P r
share_row P t q slot r each fires = row_with P slot (rows (Share t) q.phase q.number) r (share_table P t q.number each q.phase) fires
