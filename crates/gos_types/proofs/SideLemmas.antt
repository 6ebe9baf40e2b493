-- The handshakes of a product and of a function are those of their sides.
use Rattle.std.proofs.Common.{◌≡◌, List, [], ◌∷◌, ◌++◌, length, take, drop, refl, ◌∙◌, ap}
use Rattle.gos_types.specs.declared.shakes.Step.TheVariants.{First, Second, Argument, Outcome}
use Rattle.gos_types.specs.Handshakes.{Shake, turn_all, below, handshakes_of}
use Rattle.gos_types.specs.Sides.{AreJoined, PairsHaveSides, FunctionsHaveSides}

take_first : (A : Type 0) (xs ys : List A) → take (length xs) (xs ++ ys) ≡ xs
take_first A [] ys = refl
take_first A (x ∷ xs) ys = ap (λ more. x ∷ more) (take_first A xs ys)

drop_first : (A : Type 0) (xs ys : List A) → drop (length xs) (xs ++ ys) ≡ ys
drop_first A [] ys = refl
drop_first A (x ∷ xs) ys = drop_first A xs ys

pub are_joined : (A : Type 0) (whole first second : List A) → whole ≡ first ++ second → AreJoined A whole first second
are_joined A whole first second joined =
    record {
      joined = joined;
      first_again = ap (take (length first)) joined ∙ take_first A first second;
      second_again = ap (drop (length first)) joined ∙ drop_first A first second;
    }

pub pairs_have_sides : PairsHaveSides
pairs_have_sides a b = are_joined Shake _ (below First (handshakes_of a)) (below Second (handshakes_of b)) refl

pub functions_have_sides : FunctionsHaveSides
functions_have_sides a b = are_joined Shake _ (below Argument (turn_all (handshakes_of a))) (below Outcome (handshakes_of b)) refl
