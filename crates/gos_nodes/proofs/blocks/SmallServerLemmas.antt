-- What is no server: other parts in the place of a Local, other supplies, and a Local of which something else is said.
use Rattle.std.specs.Prelude.{◌≡◌, ℕ, suc, true, false, List, [], ◌∷◌, ◌++◌, Option, Some, None, length, slice_get}
use Rattle.std.proofs.Common.{arith, refl, sym, ap, ◌∙◌}
use Rattle.std.proofs.lemmas.Option.{none-some}
use Rattle.gos_types.specs.Types.{Exp, Var}
use Rattle.gos_plan.specs.Kinds.{Contact, Lit, Seq, Share, contacts_of, part_contacts, serves}
use Rattle.gos_plan.specs.Firing.{Phase, Rest, Reading, Slot, Req, Row, at}
use Rattle.gos_nodes.specs.blocks.Servers.{Server, run_of, IsServer, ServerRow, begins, serves_one, ends, local_server, array_server}
use Rattle.gos_nodes.specs.blocks.SmallServers.{OthersAreNone, TypeIsNeeded, OpenIsNone, ArrayTypeIsNeeded}

-- a server has two handshakes more than its supply
lengths : (a : Server) (v : ℕ) → IsServer a v → length (part_contacts a.part) ≡ suc (length (contacts_of a.supply ++ serves 0 v ∷ []))
lengths a v is = ap length is.contacts

-- the bits of an answer
abbrev answer_of : Option Contact → ℕ
answer_of None = 0
answer_of (Some c) = c.answer_bits

abbrev answer_at : ℕ → List Contact → ℕ
answer_at h cs = answer_of (slice_get cs h)

pub others_are_none : OthersAreNone
others_are_none w v k = (
  λ is. let bad = lengths (record (local_server w v) { part = Lit w k }) v is in omega (arith, bad),
  λ is. let bad = lengths (record (local_server w v) { part = Seq v }) v is in omega (arith, bad),
  λ is. let bad = lengths (record (local_server w v) { part = Share (Var w) }) v is in omega (arith, bad),
)

pub type_is_needed : TypeIsNeeded
type_is_needed w v = (
  λ is. let bad = lengths (record (local_server w v) { supply = Exp w }) v is in omega (arith, bad),
  λ is. let bad : w ≡ suc w = ap (answer_at 1) is.contacts in omega (arith, bad),
  λ is. let bad : v ≡ suc v = ap (answer_at 0) is.contacts in omega (arith, bad),
)

-- in some phase its body runs
module _ (a : Server) (v : ℕ) (is : IsServer a v) where
  not_running : a.runs Rest ≡ true → ⊥
  not_running runs = let bad : true ≡ false = sym runs ∙ is.rests in cc bad

  of_row : (slot : Slot) (w : Row) → ServerRow a (at Rest 0) slot w → (p : Phase) × (a.runs p ≡ true)
  of_row slot w (begins next rest is_slot is_w runs closed) = ((next 0).phase, runs 0)
  of_row slot w (serves_one e) = absurd (not_running e.running)
  of_row slot w (ends next runs is_slot is_w rest closed) = absurd (not_running runs)

  some_runs : (p : Phase) × (a.runs p ≡ true)
  some_runs = let (w, by) = is.begun (at Rest 0) refl in of_row (Req (run_of a)) w (is.rows (at Rest 0) (Req (run_of a)) w by)

pub open_is_none : OpenIsNone
open_is_none w v = (
  λ is. let bad = is.closed (at Rest 0) 0 refl in cc bad,
  λ is.
      let (p, runs) = some_runs (record (local_server w v) { runs = λ p. false }) v is in cc runs,
)

pub array_type_is_needed : ArrayTypeIsNeeded
array_type_is_needed w v = (
  λ is. let bad = lengths (record (array_server w 2 v) { supply = Var w }) v is in omega (arith, bad),
  λ is. let bad : 1 ≡ 2 = ap (answer_at 1) is.contacts in omega (arith, bad),
  λ is.
      let (row, by) = is.served (at (Reading []) 0) (Req 2) 1 (serves 0 w) refl refl refl refl refl (tt, refl, λ h. absurd (cc h)) in none-some row by,
)
