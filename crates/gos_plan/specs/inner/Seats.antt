-- Which ends of a plan are taken, as the program keeps them.
--
-- Read first: Plans, Seen, Contacts. Between the functions of this crate.
use Rattle.std.specs.Prelude.{◌≡◌, ℕ, Bool, true, false, not, if◌then◌else◌, List, map, Option, None, Some, MatchOption, slice_get}
use Rattle.gos_types.specs.declared.shakes.Role.TheVariants.{Serve, Ask}
use Rattle.gos_types.specs.declared.types.Ty.{Ty}
use Rattle.gos_types.specs.Types.{type_of}
use Rattle.gos_plan.specs.declared.kinds.Kind.{Kind}
use Rattle.gos_plan.specs.declared.plan.PlanImport.{PlanImport}
use Rattle.gos_plan.specs.declared.seats.Seat.{Seat}
use Rattle.gos_plan.specs.declared.seats.Seats.{Seats}
use Rattle.gos_plan.specs.declared.contacts.Contact as held
use Rattle.gos_plan.specs.Kinds.{Contact, contacts_of, other_side, part_contacts}
use Rattle.gos_plan.specs.Plans.{End, PartEnd, ImportEnd, ResultEnd, Joint, Plan, contact_at, same_end, is_free}
use Rattle.gos_plan.specs.Seen.{part_of}
use Rattle.gos_plan.specs.Contacts.{held_contact, contact_held}

-- a seat of this handshake that no joint has taken
abbrev pub free_held : held.Contact → Seat
free_held c = record { contact = c; taken = false }

abbrev pub free_seat : Contact → Seat
free_seat c = free_held (held_contact c)

-- the handshake of a seat
abbrev pub contact_of : Seat → Contact
contact_of seat = contact_held seat.contact

-- the seat at an end, in lists of seats
abbrev pub seat_in : Option (List Seat) → ℕ → Option Seat
seat_in None h = None
seat_in (Some seats) h = slice_get seats h

-- the seat at an end
abbrev pub seat_at : Seats → End → Option Seat
seat_at seats (PartEnd i h) = seat_in (slice_get (map (λ s. s.items) seats.parts.items) i) h
seat_at seats (ImportEnd i h) = seat_in (slice_get (map (λ s. s.items) seats.imports.items) i) h
seat_at seats (ResultEnd h) = slice_get seats.result.items h

-- The seats are those of the plan, and those are taken that stand in these joints.
abbrev pub Stands : Plan → List Joint → Seats → Type 0
Stands p before seats =
    (e : End)
    → MatchOption (seat_at seats e) (contact_at p e ≡ None) (λ seat. (contact_at p e ≡ Some (contact_of seat)) × (seat.taken ≡ not (is_free e before)))

-- the seats after one end was taken
abbrev pub taken_seat : Seat → Seat
taken_seat seat = record seat { taken = true }

abbrev pub taken_if : Bool → Option Seat → Option Seat
taken_if b None = None
taken_if b (Some seat) = Some (if b then taken_seat seat else seat)

-- one end more is taken
abbrev pub TakesEnd : End → Seats → Seats → Type 0
TakesEnd e before after = (d : End) → seat_at after d ≡ taken_if (same_end d e) (seat_at before d)

-- two free seats meet: the one asks, the other serves, and their bits are equal
pub record Meet (asking serving : Seat) : Type 0 where
  pub asking_free : asking.taken ≡ false
  pub serving_free : serving.taken ≡ false
  pub asks : asking.contact.role ≡ Ask
  pub serves : serving.contact.role ≡ Serve
  pub requests : asking.contact.ask_bits ≡ serving.contact.ask_bits
  pub answers : asking.contact.answer_bits ≡ serving.contact.answer_bits

-- the free seats of a part, and of an import
abbrev pub kind_seats : Kind → List Seat
kind_seats kind = map free_seat (part_contacts (part_of kind))

abbrev pub import_seats : PlanImport → List Seat
import_seats i = map free_seat (contacts_of (type_of i.ty))

-- the seats are those of these imports, this result and these parts, all of them free
pub record AreSeats (imports : List PlanImport) (outcome : Ty) (parts : List Kind) (seats : Seats) : Type 0 where
  pub of_parts : map (λ s. s.items) seats.parts.items ≡ map kind_seats parts
  pub of_imports : map (λ s. s.items) seats.imports.items ≡ map import_seats imports
  pub of_result : seats.result.items ≡ map free_seat (other_side (contacts_of (type_of outcome)))
