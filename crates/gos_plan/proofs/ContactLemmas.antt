-- Contacts turned, on the other side, and of a part and an import; those that ask and those that serve.
use Rattle.std.specs.Prelude.{◌≡◌, None, suc, List, [], ◌∷◌, length, slice_get, ℕ, Option, Some}
use Rattle.std.proofs.Common.{refl, sym, zero, ap}
use Rattle.std.proofs.lemmas.Option.{none-some, same_Some}
use Rattle.gos_types.specs.Events.{Direction, Request, Answer}
use Rattle.gos_types.specs.declared.shakes.Role.{Role}
use Rattle.gos_types.specs.declared.shakes.Role.TheVariants.{Serve, Ask}
use Rattle.gos_types.specs.Handshakes.{turned}
use Rattle.gos_types.proofs.RoleLemmas.{turned_twice}
use Rattle.gos_model.specs.Typing.{Imported}
use Rattle.gos_plan.specs.Kinds.{Contact, turned_contact, other_side, asks, serves, Part, part_contacts}
use Rattle.gos_plan.specs.Plans.{turned_if, contacts_of_part, contacts_of_import, PartEnd, Plan, contact_at}
use Rattle.gos_plan.specs.Tokens.{bits_of, way_taken, way_put}

pub turned_contact_twice : (c : Contact) → turned_contact (turned_contact c) ≡ c
turned_contact_twice c = λ i. record c { role = turned_twice c.role i }

pub turned_some : (a : Option Contact) (k : Contact) → turned_if a ≡ Some k → (d : Contact) × (a ≡ Some d)
turned_some None k e = absurd (none-some k e)
turned_some (Some d) k e = (d, refl)

pub turned_of : (f : Option Contact) (k : Contact) → turned_if f ≡ Some k → (d : Contact) × (f ≡ Some d) × (k ≡ turned_contact d)
turned_of None k e = absurd (none-some k e)
turned_of (Some d) k e = let same : turned_contact d ≡ k = cc e in (d, refl, sym same)

pub other_side_at : (cs : List Contact) (h : ℕ) → slice_get (other_side cs) h ≡ turned_if (slice_get cs h)
other_side_at [] h = refl
other_side_at (c ∷ cs) zero = refl
other_side_at (c ∷ cs) (suc h) = other_side_at cs h

pub other_side_length : (cs : List Contact) → length (other_side cs) ≡ length cs
other_side_length [] = refl
other_side_length (c ∷ cs) = ap suc (other_side_length cs)

pub turned_bits : (c : Contact) (way : Direction) → bits_of (turned_contact c) way ≡ bits_of c way
turned_bits c Request = refl
turned_bits c Answer = refl

pub turned_put : (role : Role) → way_put (turned role) ≡ way_taken role
turned_put Serve = refl
turned_put Ask = refl

pub turned_taken : (role : Role) → way_taken (turned role) ≡ way_put role
turned_taken Serve = refl
turned_taken Ask = refl

pub as_asks : (c : Contact) → c.role ≡ Ask → c ≡ asks c.ask_bits c.answer_bits
as_asks c role = λ i. record c { role = role i }

pub as_serves : (c : Contact) → c.role ≡ Serve → c ≡ serves c.ask_bits c.answer_bits
as_serves c role = λ i. record c { role = role i }

pub turned_asks : (k : Contact) → k.role ≡ Serve → turned_contact k ≡ asks k.ask_bits k.answer_bits
turned_asks k role = λ n. record { role = turned (role n); ask_bits = k.ask_bits; answer_bits = k.answer_bits }

pub asks_is_not_serves : (q v x y : ℕ) → Some (asks q v) ≡ Some (serves x y) → ⊥
asks_is_not_serves q v x y e = let roles : Ask ≡ Serve = ap (λ (c : Contact). c.role) (same_Some (asks q v) (serves x y) e) in cc roles

pub serves_is_not_asks : (q v k w : ℕ) → Some (serves q v) ≡ Some (asks k w) → ⊥
serves_is_not_asks q v k w e = let roles : Serve ≡ Ask = ap (λ (c : Contact). c.role) (same_Some (serves q v) (asks k w) e) in cc roles

pub part_is_there : (o : Option Part) (h : ℕ) (k : Contact) → slice_get (contacts_of_part o) h ≡ Some k → (p : Part) × (o ≡ Some p)
part_is_there None h k e = absurd (cc e)
part_is_there (Some p) h k e = (p, refl)

pub import_is_there : (o : Option Imported) (h : ℕ) (k : Contact) → slice_get (contacts_of_import o) h ≡ Some k → (y : Imported) × (o ≡ Some y)
import_is_there None h k e = absurd (cc e)
import_is_there (Some y) h k e = (y, refl)

pub part_contact : (r : Plan) (i h : ℕ) (k : Part) → slice_get r.parts i ≡ Some k → contact_at r (PartEnd i h) ≡ slice_get (part_contacts k) h
part_contact r i h k at_i = ap (λ x. slice_get (contacts_of_part x) h) at_i
