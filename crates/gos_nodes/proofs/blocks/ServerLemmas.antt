-- The handshakes of a server, its slots, and what is open of its supply after a pass.
use Rattle.std.specs.Prelude.{◌≡◌, ℕ, zero, suc, ◌+◌, not, ◌&&◌, Bool, List, [], ◌∷◌, ◌++◌, length, Some, nat_eq, slice_get, if◌then◌else◌}
use Rattle.std.proofs.Common.{arith, refl, sym, ap, inl, inr, ◌∙◌}
use Rattle.std.proofs.lemmas.Option.{none-some, same_Some, slice_get_within}
use Rattle.gos_types.specs.Events.{Direction, Request, Answer}
use Rattle.gos_types.proofs.ListLemmas.{found_in_front}
use Rattle.gos_model.proofs.NumberLemmas.{nat_eq_itself}
use Rattle.gos_plan.specs.Kinds.{Contact, asks, serves, contacts_of, part_contacts}
use Rattle.gos_plan.specs.Firing.{Slot, Req, Ans}
use Rattle.gos_plan.specs.Plans.{End, ImportEnd}
use Rattle.gos_plan.specs.Tokens.{way_of, shake_of}
use Rattle.gos_joining.proofs.unions.FlatFitLemmas.{in_two}
use Rattle.gos_realises.specs.realises.Regular.{Pass, pass, is_request, is_open, count, ComesInTurn}
use Rattle.gos_nodes.specs.blocks.Servers.{Server, run_of, after_pass, IsServer}

-- a slot is told by its direction and its handshake
pub request_slot : (t : Slot) → way_of t ≡ Request → t ≡ Req (shake_of t)
request_slot (Req h) way = refl
request_slot (Ans h) way = absurd (cc way)

pub answer_slot : (t : Slot) → way_of t ≡ Answer → t ≡ Ans (shake_of t)
answer_slot (Req h) way = absurd (cc way)
answer_slot (Ans h) way = refl

-- which of its handshakes one is
pub data WhichContact (a : Server) (v h : ℕ) (c : Contact) : Type 0 where
  at_body : h ≡ 0 → c ≡ asks 0 v → WhichContact a v h c
  at_supply : (n : ℕ) → h ≡ suc n → slice_get (contacts_of a.supply) n ≡ Some c → WhichContact a v h c
  at_run : h ≡ run_of a → c ≡ serves 0 v → WhichContact a v h c

module _ (a : Server) (v : ℕ) (is : IsServer a v) where
  pub body_contact : slice_get (part_contacts a.part) 0 ≡ Some (asks 0 v)
  body_contact = ap (λ xs. slice_get xs 0) is.contacts

  pub supply_contact : (h : ℕ) (c : Contact) → slice_get (contacts_of a.supply) h ≡ Some c → slice_get (part_contacts a.part) (suc h) ≡ Some c
  supply_contact h c there = ap (λ xs. slice_get xs (suc h)) is.contacts ∙ found_in_front (contacts_of a.supply) (serves 0 v ∷ []) h c there

  listed : (h : ℕ) (c : Contact) → slice_get (asks 0 v ∷ (contacts_of a.supply ++ serves 0 v ∷ [])) h ≡ Some c → WhichContact a v h c
  listed zero c there = at_body refl (sym (same_Some (asks 0 v) c there))
  listed (suc h) c there =
      elim (in_two (contacts_of a.supply) (serves 0 v ∷ []) h c there) [
        | inl front ↦ at_supply h refl front
        | inr last ↦ behind last.0 last.1 last.2
      ]
    where
      behind : (n : ℕ) → h ≡ length (contacts_of a.supply) + n → slice_get (serves 0 v ∷ []) n ≡ Some c → WhichContact a v (suc h) c
      behind zero sum at = let same : suc h ≡ suc (count a.supply) = omega (arith, sum) in at_run same (sym (same_Some (serves 0 v) c at))
      behind (suc n) sum at = absurd (none-some c at)

  pub which_contact : (h : ℕ) (c : Contact) → slice_get (part_contacts a.part) h ≡ Some c → WhichContact a v h c
  which_contact h c there = listed h c (sym (ap (λ xs. slice_get xs h) is.contacts) ∙ there)

  -- a handshake of the supply isn't the one by which it is run
  pub not_run : (h n : ℕ) (c : Contact) → slice_get (contacts_of a.supply) n ≡ Some c → h ≡ suc n → h ≡ run_of a → ⊥
  not_run h n c there is_h run =
      let low = slice_get_within (contacts_of a.supply) n c there in
      let last : suc n ≡ suc (count a.supply) = sym is_h ∙ run in omega (arith, low, last)

-- the passes at the ends of an import
pub import_pass : (i h n : ℕ) (way : Direction) (own : List Pass)
    → is_open (pass (ImportEnd i h) way ∷ own) (ImportEnd i n) ≡ after_pass h way (λ m. is_open own (ImportEnd i m)) n
import_pass i h n way own =
    ap (λ (t : Bool). if t && nat_eq h n then is_request way else is_open own (ImportEnd i n)) (nat_eq_itself i)

pub same_after : (h : ℕ) (way : Direction) (f g : ℕ → Bool) → ((n : ℕ) → f n ≡ g n) → (n : ℕ) → after_pass h way f n ≡ after_pass h way g n
same_after h way f g same n = ap (λ (t : Bool). if nat_eq h n then is_request way else t) (same n)

-- what finds its turn comes in turn, and the other way
pub finds_comes : (past : List Pass) (e : End) (way : Direction) → is_open past e ≡ not (is_request way) → ComesInTurn past e way
finds_comes past e Request at = at
finds_comes past e Answer at = at

pub comes_finds : (past : List Pass) (e : End) (way : Direction) → ComesInTurn past e way → is_open past e ≡ not (is_request way)
comes_finds past e Request at = at
comes_finds past e Answer at = at
