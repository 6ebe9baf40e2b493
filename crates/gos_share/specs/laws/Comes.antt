-- What comes in at the three sides of each handshake, and how often its answer is taken early.
--
-- Read first: Slots, Shown.
use Rattle.std.proofs.Common.{◌≡◌, ℕ, zero, suc, ◌+◌, ◌≤◌, List, [], ◌∷◌, ◌++◌, Some, refl, ◌∙◌, subst, arith}
use Rattle.std.specs.Prelude.{◌<◌, length, slice_get, nat_eq, if◌then◌else◌}
use Rattle.std.proofs.lemmas.List.{length-map}
use Rattle.std.proofs.lemmas.Option.{slice_get_within}
use Rattle.gos_types.specs.declared.shakes.Role.{Role}
use Rattle.gos_types.specs.declared.shakes.Role.TheVariants.{Serve, Ask}
use Rattle.gos_types.specs.Handshakes.{turned}
use Rattle.gos_plan.specs.Kinds.{Contact, turned_contact, other_side}
use Rattle.gos_plan.specs.Firing.{Slot, Ans}
use Rattle.gos_macro.specs.Gates.{bits_in, incoming_bits}
use Rattle.gos_macro.specs.Law.{pulse_at}
use Rattle.gos_plan.specs.Firings.{times}
use Rattle.gos_share.specs.Share.{number_of}
use Rattle.gos_share.specs.laws.Slots.{answers_from, pulse_if_asked, answer_pulse, bits_there}

-- the contacts of all three sides
abbrev pub sides : List Contact → List Contact
sides ks = other_side ks ++ (ks ++ ks)

-- an element of a list with others behind it, and ahead of it
pub get_left : (xs ys : List Contact) (m : ℕ) (k : Contact) → slice_get xs m ≡ Some k → slice_get (xs ++ ys) m ≡ Some k
get_left [] ys m k there = absurd (cc there)
get_left (x ∷ xs) ys zero k there = there
get_left (x ∷ xs) ys (suc m) k there = get_left xs ys m k there

pub get_right : (xs ys : List Contact) (e m : ℕ) (k : Contact) → e ≡ length xs + m → slice_get ys m ≡ Some k → slice_get (xs ++ ys) e ≡ Some k
get_right [] ys e m k is there = let here : m ≡ e = omega (arith, is) in subst (λ (c : ℕ). slice_get ys c ≡ Some k) here there
get_right (x ∷ xs) ys zero m k is there = absurd (omega (arith, is))
get_right (x ∷ xs) ys (suc e) m k is there = get_right xs ys e m k (omega (arith, is)) there

get_map : (xs : List Contact) (m : ℕ) (k : Contact) → slice_get xs m ≡ Some k → slice_get (other_side xs) m ≡ Some (turned_contact k)
get_map [] m k there = absurd (cc there)
get_map (x ∷ xs) zero k there = let same : x ≡ k = cc there in λ i. Some (turned_contact (same i))
get_map (x ∷ xs) (suc m) k there = get_map xs m k there

-- where the contact of handshake j stands on each side
pub record IsPlaced (all : List Contact) (k : Contact) (j : ℕ) : Type 0 where
  pub source : slice_get (sides all) j ≡ Some (turned_contact k)
  pub first : slice_get (sides all) (length all + j) ≡ Some k
  pub second : slice_get (sides all) (length all + length all + j) ≡ Some k

pub placed : (all : List Contact) (k : Contact) (j : ℕ) → slice_get all j ≡ Some k → IsPlaced all k j
placed all k j there =
    let long = length-map all turned_contact in
    record {
      source = get_left (other_side all) (all ++ all) j (turned_contact k) (get_map all j k there);
      first = get_right (other_side all) (all ++ all) (length all + j) j k (omega (arith, long)) (get_left all all j k there);
      second = get_right (other_side all) (all ++ all) (length all + length all + j) (length all + j) k (omega (arith, long)) (get_right all all (length all + j) j k refl there);
    }

-- from handshake j on, each contact stands so
abbrev pub ArePlaced : List Contact → ℕ → List Contact → Type 0
ArePlaced all j [] = Unit {0}
ArePlaced all j (k ∷ ks) = IsPlaced all k j × ArePlaced all (suc j) ks

placed_from : (all : List Contact) (j : ℕ) (ks : List Contact) → ((m : ℕ) (k : Contact) → slice_get ks m ≡ Some k → slice_get all (j + m) ≡ Some k) → ArePlaced all j ks
placed_from all j [] there = tt
placed_from all j (k ∷ ks) there =
    let here : j + 0 ≡ j = omega arith in (
      placed all k j (subst (λ (m : ℕ). slice_get all m ≡ Some k) here (there 0 k refl)),
      placed_from all (suc j) ks (λ m l at. let next : j + suc m ≡ suc j + m = omega arith in subst (λ (e : ℕ). slice_get all e ≡ Some l) next (there (suc m) l at)),
    )

pub all_placed : (all : List Contact) → ArePlaced all 0 all
all_placed all = placed_from all 0 all (λ m k there. let here : m ≡ 0 + m = omega arith in subst (λ (e : ℕ). slice_get all e ≡ Some k) here there)

-- the bits of what comes in, by the role there
abbrev pub in_bits : Role → ℕ → ℕ → ℕ
in_bits Serve q a = q
in_bits Ask q a = a

-- at handshake e comes a pulse or none, and a number of w bits, where its answer is taken as often as it has a pulse
pub record Comes (p x a : ℕ → ℕ) (fs : List Slot) (r : Role) (w e : ℕ) : Type 0 where
  pub pulse : p e ≤ 1
  pub number : x e ≡ number_of w (a e)
  pub taken : times (Ans e) fs ≡ pulse_if_asked r (p e)

abbrev pub AllCome : (ℕ → ℕ) → (ℕ → ℕ) → (ℕ → ℕ) → List Slot → ℕ → ℕ → List Contact → Type 0
AllCome p x a fs h j [] = Unit {0}
AllCome p x a fs h j (k ∷ ks) =
    Comes p x a fs (turned k.role) (in_bits (turned k.role) k.ask_bits k.answer_bits) j
    × Comes p x a fs k.role (in_bits k.role k.ask_bits k.answer_bits) (h + j)
    × Comes p x a fs k.role (in_bits k.role k.ask_bits k.answer_bits) (h + h + j)
    × AllCome p x a fs h (suc j) ks

pub bears : (w a : ℕ) → (if nat_eq w 0 then 0 else a) ≡ number_of w a
bears zero a = refl
bears (suc w) a = grind arith

pub same_bits : (r : Role) (k : Contact) → bits_in r k ≡ in_bits r k.ask_bits k.answer_bits
same_bits Serve k = refl
same_bits Ask k = refl

one_comes : (p x a : ℕ → ℕ) (fs : List Slot) (ks : List Contact) (k : Contact) (e : ℕ) → ((m : ℕ) → m < length ks → p m ≤ 1)
    → ((m : ℕ) → x m ≡ (if nat_eq (incoming_bits ks m) 0 then 0 else a m)) → ((m : ℕ) → times (Ans m) fs ≡ pulse_at p (Ans m) (answers_from 0 ks))
    → slice_get ks e ≡ Some k → Comes p x a fs k.role (in_bits k.role k.ask_bits k.answer_bits) e
one_comes p x a fs ks k e pulses numbers taken there =
    record {
      pulse = pulses e (slice_get_within ks e k there);
      number = numbers e ∙ ((λ i. if nat_eq ((bits_there e ks k there ∙ same_bits k.role k) i) 0 then 0 else a e) ∙ bears (in_bits k.role k.ask_bits k.answer_bits) (a e));
      taken = taken e ∙ answer_pulse p e 0 e ks k (omega arith) there;
    }

pub all_come : (p x a : ℕ → ℕ) (fs : List Slot) (all : List Contact) (j : ℕ) (ks : List Contact) → ((m : ℕ) → m < length (sides all) → p m ≤ 1)
    → ((m : ℕ) → x m ≡ (if nat_eq (incoming_bits (sides all) m) 0 then 0 else a m)) → ((m : ℕ) → times (Ans m) fs ≡ pulse_at p (Ans m) (answers_from 0 (sides all)))
    → ArePlaced all j ks → AllCome p x a fs (length all) j ks
all_come p x a fs all j [] pulses numbers taken placed = tt
all_come p x a fs all j (k ∷ ks) pulses numbers taken placed = (
  one_comes p x a fs (sides all) (turned_contact k) j pulses numbers taken placed.0.source,
  one_comes p x a fs (sides all) k (length all + j) pulses numbers taken placed.0.first,
  one_comes p x a fs (sides all) k (length all + length all + j) pulses numbers taken placed.0.second,
  all_come p x a fs all (suc j) ks pulses numbers taken placed.1,
)
