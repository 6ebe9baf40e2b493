-- How the handshakes of a part are those of the part one step further down.
use Rattle.std.specs.Prelude.{◌≡◌, List, [], ◌∷◌, ◌++◌, map}
use Rattle.std.proofs.Common.{refl, sym, ◌∙◌, append_assoc}
use Rattle.std.proofs.lemmas.List.{map-append}
use Rattle.gos_types.specs.declared.shakes.Role.{Role}
use Rattle.gos_types.specs.declared.shakes.Role.TheVariants.{Serve, Ask}
use Rattle.gos_types.specs.declared.shakes.Step.{Step}
use Rattle.gos_types.specs.declared.shakes.Step.TheVariants.{First, Second, Argument, Outcome}
use Rattle.gos_types.specs.Types.{Type', Pair, Fun}
use Rattle.gos_types.specs.Handshakes.{Shake, turned, turn_all, below, handshakes_of}
use Rattle.gos_types.specs.inner.Within.{role_within, within}

longer : (way path : List Step) (step : Step) → way ++ (step ∷ path) ≡ (way ++ step ∷ []) ++ path
longer way path step = sym (append_assoc way (step ∷ []) path)

role_root : (role : Role) → role_within Serve role ≡ role
role_root Serve = refl
role_root Ask = refl

role_turned : (role own : Role) → role_within role (turned own) ≡ role_within (turned role) own
role_turned Serve Serve = refl
role_turned Serve Ask = refl
role_turned Ask Serve = refl
role_turned Ask Ask = refl

-- a part keeps its handshakes one step further down
within_below : (role : Role) (way : List Step) (step : Step) (hs : List Shake)
    → map (within role way) (below step hs) ≡ map (within role (way ++ step ∷ [])) hs
within_below role way step [] = refl
within_below role way step (h ∷ hs) =
    λ i. record (within role way h) { path = longer way h.path step i } ∷ within_below role way step hs i

-- an argument has its handshakes turned
within_turned : (role : Role) (way : List Step) (step : Step) (hs : List Shake)
    → map (within role way) (below step (turn_all hs)) ≡ map (within (turned role) (way ++ step ∷ [])) hs
within_turned role way step [] = refl
within_turned role way step (h ∷ hs) =
    λ i. record (within role way h) { role = role_turned role h.role i; path = longer way h.path step i } ∷ within_turned role way step hs i

-- the handshakes of a product are those of its sides
within_pair : (role : Role) (way : List Step) (a b : Type')
    → map (within role way) (handshakes_of (Pair a b))
    ≡ map (within role (way ++ First ∷ [])) (handshakes_of a) ++ map (within role (way ++ Second ∷ [])) (handshakes_of b)
within_pair role way a b =
    map-append (within role way) (below First (handshakes_of a)) (below Second (handshakes_of b))
    ∙ (λ i. within_below role way First (handshakes_of a) i ++ within_below role way Second (handshakes_of b) i)

-- the handshakes of a function are those of its argument, turned, and those of its outcome
within_fun : (role : Role) (way : List Step) (a b : Type')
    → map (within role way) (handshakes_of (Fun a b))
    ≡ map (within (turned role) (way ++ Argument ∷ [])) (handshakes_of a) ++ map (within role (way ++ Outcome ∷ [])) (handshakes_of b)
within_fun role way a b =
    map-append (within role way) (below Argument (turn_all (handshakes_of a))) (below Outcome (handshakes_of b))
    ∙ (λ i. within_turned role way Argument (handshakes_of a) i ++ within_below role way Outcome (handshakes_of b) i)

-- both sides of a product are added
pub pair_added : (role : Role) (way : List Step) (a b t : Type') (start middle end : List Shake) → t ≡ Pair a b
    → middle ≡ start ++ map (within role (way ++ First ∷ [])) (handshakes_of a)
    → end ≡ middle ++ map (within role (way ++ Second ∷ [])) (handshakes_of b)
    → end ≡ start ++ map (within role way) (handshakes_of t)
pair_added role way a b t start middle end is first second =
    rw (is, within_pair role way a b, second, first) (append_assoc start _ _)

-- argument and outcome of a function are added
pub fun_added : (role : Role) (way : List Step) (a b t : Type') (start middle end : List Shake) → t ≡ Fun a b
    → middle ≡ start ++ map (within (turned role) (way ++ Argument ∷ [])) (handshakes_of a)
    → end ≡ middle ++ map (within role (way ++ Outcome ∷ [])) (handshakes_of b)
    → end ≡ start ++ map (within role way) (handshakes_of t)
fun_added role way a b t start middle end is argument outcome =
    rw (is, within_fun role way a b, outcome, argument) (append_assoc start _ _)

-- the whole type stands at its own root
pub within_root : (hs : List Shake) → map (within Serve []) hs ≡ hs
within_root [] = refl
within_root (h ∷ hs) = λ i. record h { role = role_root h.role i } ∷ within_root hs i
