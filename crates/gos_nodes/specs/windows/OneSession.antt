-- Lists of one session: a handshake of the result is asked, and at last perhaps answered; meanwhile all else is within the plan, or
-- at its imports.
--
-- Read first: Regular of gos_realises; Regions, Nodes. That a plan is regular, restful and loyal is asked here of
-- such lists alone.
use Rattle.std.specs.Prelude.{◌≡◌, ℕ, ◌<◌, false, List, [], ◌∷◌, ◌++◌, ◌⊎◌, Some, length, nat_lt}
use Rattle.gos_types.specs.declared.shakes.Role.TheVariants.{Ask}
use Rattle.gos_types.specs.Types.{Type'}
use Rattle.gos_plan.specs.Kinds.{Contact}
use Rattle.gos_plan.specs.Firing.{Rest, Slot, at}
use Rattle.gos_plan.specs.Plans.{End, ImportEnd, ResultEnd, Plan, contact_at}
use Rattle.gos_plan.specs.Tokens.{Tokens, Element, Fire, Out, In, shake_of, Does, Runs, IsIdle}
use Rattle.gos_plan.specs.Orderly.{IsOrderly}
use Rattle.gos_realises.specs.realises.Regular.{count, InputsKeepTurns, OutputsKeepTurns}
use Rattle.gos_joining.specs.webs.Cutting.{StandsIn}

-- What has no number among a plan's parts is as if it were idle. The tokens of a region are so.
abbrev pub IsTidy : Plan → Tokens → Type 0
IsTidy p s = (i : ℕ) → nat_lt i (length p.parts) ≡ false → s.state i ≡ at Rest 0

-- an end at which the surroundings ask
abbrev pub IsAsked : Plan → End → Type 0
IsAsked p e = (c : Contact) × (contact_at p e ≡ Some c) × (c.role ≡ Ask)

-- A firing, or what passes an import's end that stands in a joint. The surroundings may ask where no joint is.
abbrev pub Stays : Plan → Element → Type 0
Stays p (Fire i t) = Unit {0}
Stays p (Out (ImportEnd i h) v) = StandsIn p (ImportEnd i h)
Stays p (In (ImportEnd i h) v) = StandsIn p (ImportEnd i h) ⊎ IsAsked p (ImportEnd i h)
Stays p x = ⊥

abbrev pub AllStay : Plan → List Element → Type 0
AllStay p [] = Unit {0}
AllStay p (x ∷ xs) = Stays p x × AllStay p xs

-- such elements, and at last perhaps the answer of handshake h
abbrev pub EndsWell : ℕ → Plan → List Element → Type 0
EndsWell h p ys = AllStay p ys ⊎ ((zs : List Element) × (v : ℕ) × AllStay p zs × (ys ≡ zs ++ Out (ResultEnd h) v ∷ []))

-- a session of handshake h that has not ended, and one that may have
abbrev pub IsOpenSession : ℕ → Plan → List Element → Type 0
IsOpenSession h p [] = ⊥
IsOpenSession h p (Fire i t ∷ xs) = ⊥
IsOpenSession h p (Out e v ∷ xs) = ⊥
IsOpenSession h p (In e v ∷ xs) = (e ≡ ResultEnd h) × AllStay p xs

abbrev pub IsOneSession : ℕ → Plan → List Element → Type 0
IsOneSession h p [] = ⊥
IsOneSession h p (Fire i t ∷ xs) = ⊥
IsOneSession h p (Out e v ∷ xs) = ⊥
IsOneSession h p (In e v ∷ xs) = (e ≡ ResultEnd h) × EndsWell h p xs

-- IsRegular of gos_realises, of these lists
abbrev pub IsRegularAt : ℕ → Plan → Type 0
IsRegularAt h p =
    (s t : Tokens) (xs : List Element)
    → IsTidy p s → IsIdle p s → IsOneSession h p xs → Runs p xs s t → InputsKeepTurns p [] xs → IsOrderly p xs s × OutputsKeepTurns p [] xs

-- the plan rests after the answer of handshake h
abbrev pub IsRestfulAt : ℕ → Plan → Type 0
IsRestfulAt h p =
    (s t : Tokens) (xs : List Element) (v : ℕ)
    → IsTidy p s → IsIdle p s → IsOpenSession h p xs → Runs p (xs ++ Out (ResultEnd h) v ∷ []) s t
    → InputsKeepTurns p [] (xs ++ Out (ResultEnd h) v ∷ []) → IsIdle p t

-- IsLoyal, of these lists: each token that the Share i takes from its source finds this branch
abbrev pub IsLoyalAt : ℕ → ℕ → Type' → ℕ → Plan → Type 0
IsLoyalAt h i t side p =
    (s w u : Tokens) (xs : List Element) (slot : Slot)
    → IsTidy p s → IsIdle p s → IsOpenSession h p xs → Runs p xs s w → InputsKeepTurns p [] xs → Does p (Fire i slot) w u → shake_of slot < count t
    → (w.state i).number ≡ side
