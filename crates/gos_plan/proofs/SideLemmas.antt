-- The handshakes of a product and of a function are those of their sides.
use Rattle.std.proofs.Common.{◌≡◌, List, [], ◌∷◌, ◌++◌, map, refl, ◌∙◌, ap}
use Rattle.std.proofs.lemmas.List.{map-append}
use Rattle.gos_types.specs.declared.shakes.Step.{Step}
use Rattle.gos_types.specs.declared.shakes.Step.TheVariants.{First, Second, Argument, Outcome}
use Rattle.gos_types.specs.Types.{Pair, Fun}
use Rattle.gos_types.specs.Handshakes.{Shake, turn_all, below, handshakes_of}
use Rattle.gos_types.proofs.SideLemmas.{are_joined}
use Rattle.gos_types.proofs.RoleLemmas.{turned_twice}
use Rattle.gos_plan.specs.Kinds.{Contact, contact, contacts_of, turned_contact, other_side}
use Rattle.gos_plan.specs.Sides.{PairsJoin, FunctionsJoin, SidesTurnBack}

-- the way of a handshake is no part of what a joint sees
one_below : (step : Step) (hs : List Shake) → map contact (below step hs) ≡ map contact hs
one_below step [] = refl
one_below step (h ∷ hs) = ap (λ more. contact h ∷ more) (one_below step hs)

turned_sides : (hs : List Shake) → map contact (turn_all hs) ≡ other_side (map contact hs)
turned_sides [] = refl
turned_sides (h ∷ hs) = ap (λ more. turned_contact (contact h) ∷ more) (turned_sides hs)

pub pairs_join : PairsJoin
pairs_join a b =
    are_joined Contact (contacts_of (Pair a b)) (contacts_of a) (contacts_of b)
    (map-append contact (below First (handshakes_of a)) (below Second (handshakes_of b))
    ∙ (λ i. one_below First (handshakes_of a) i ++ one_below Second (handshakes_of b) i))

pub functions_join : FunctionsJoin
functions_join a b =
    are_joined Contact (contacts_of (Fun a b)) (other_side (contacts_of a)) (contacts_of b)
    (map-append contact (below Argument (turn_all (handshakes_of a))) (below Outcome (handshakes_of b))
    ∙ (λ i. (one_below Argument (turn_all (handshakes_of a)) ∙ turned_sides (handshakes_of a)) i ++ one_below Outcome (handshakes_of b) i))

pub sides_turn_back : SidesTurnBack
sides_turn_back [] = refl
sides_turn_back (c ∷ cs) = λ i. record c { role = turned_twice c.role i } ∷ sides_turn_back cs i
