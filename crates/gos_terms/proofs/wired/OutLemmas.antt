-- Where a node's parts lead: as many points as their types have handshakes, which see what the parts' handshakes are from the
-- other side.
use Rattle.std.specs.Prelude.{◌≡◌, List, ◌++◌, length}
use Rattle.std.proofs.Common.{◌∙◌, ap}
use Rattle.std.proofs.lemmas.List.{map-append, length-map}
use Rattle.gos_types.specs.Types.{Type', Pair, Fun}
use Rattle.gos_plan.specs.Kinds.{Contact, contacts_of, other_side, turned_contact}
use Rattle.gos_plan.proofs.SideLemmas.{pairs_join, functions_join, sides_turn_back}
use Rattle.gos_realises.specs.realises.Regular.{count}
use Rattle.gos_terms.proofs.wired.FlowedLemmas.{seen}

-- the handshakes of products and of functions
pub seen_pair : (a b : Type') → seen (Pair a b) ≡ seen a ++ seen b
seen_pair a b = ap other_side (pairs_join a b).joined ∙ map-append turned_contact (contacts_of a) (contacts_of b)

pub contacts_fun : (a b : Type') → contacts_of (Fun a b) ≡ seen a ++ contacts_of b
contacts_fun a b = (functions_join a b).joined

pub seen_fun : (a b : Type') → seen (Fun a b) ≡ contacts_of a ++ seen b
seen_fun a b =
    ap other_side (contacts_fun a b)
    ∙ (map-append turned_contact (seen a) (contacts_of b) ∙ ap (λ (cs : List Contact). cs ++ seen b) (sides_turn_back (contacts_of a)))

pub seen_length : (t : Type') → length (seen t) ≡ count t
seen_length t = length-map (contacts_of t) turned_contact
