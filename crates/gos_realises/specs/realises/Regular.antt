-- Regular plans: what they ask and answer at their ports comes in turn, as long as what comes in does.
--
-- Read first: Orderly of gos_plan. At a port a handshake is open from its request to its answer.
use Rattle.std.specs.Prelude.{ℕ, zero, suc, ◌+◌, ◌-◌, Bool, true, false, ◌&&◌, ◌||◌, IsTrue, IsFalse, List, [], ◌∷◌, length, Option, Some, None, nat_lt, if◌then◌else◌}
use Rattle.gos_types.specs.Types.{Type', Com, Exp, Var, Pair, Fun}
use Rattle.gos_types.specs.Events.{Direction, Request, Answer}
use Rattle.gos_plan.specs.Kinds.{Contact, contacts_of}
use Rattle.gos_model.specs.Typing.{Imported}
use Rattle.gos_plan.specs.Plans.{End, ImportEnd, ResultEnd, Plan, contact_at, same_end}
use Rattle.gos_plan.specs.Tokens.{Tokens, Element, Fire, Out, In, way_taken, way_put, Runs, IsIdle}
use Rattle.gos_plan.specs.Orderly.{IsOrderly}

-- a token that passed a port's end
pub record Pass : Type 0 where
  pub end : End
  pub way : Direction

abbrev pub pass : End → Direction → Pass
pass e way = record { end = e; way = way }

-- the direction of an input and of an output at an end; at no end there is none
abbrev pub way_in : Option Contact → Direction
way_in None = Request
way_in (Some c) = way_put c.role

abbrev pub way_out : Option Contact → Direction
way_out None = Request
way_out (Some c) = way_taken c.role

-- whether the handshake at a port's end is open after these, the newest first: the last that passed is a request
abbrev pub is_request : Direction → Bool
is_request Request = true
is_request Answer = false

abbrev pub is_open : List Pass → End → Bool
is_open [] e = false
is_open (x ∷ past) e = if same_end x.end e then is_request x.way else is_open past e

-- how many handshakes a type has
abbrev pub count : Type' → ℕ
count t = length (contacts_of t)

-- whether one of the first n is open
abbrev pub some_open : ℕ → (ℕ → Bool) → Bool
some_open zero f = false
some_open (suc n) f = f n || some_open n f

-- the handshakes from number n on
abbrev pub beyond : ℕ → (ℕ → Bool) → ℕ → Bool
beyond n f h = f (n + h)

-- The open handshakes of a type keep its turns: of a variable one at most is open; of a product not both sides have
-- an open one; of a function the argument has one only where the outcome has.
abbrev pub KeepsTurnsOf : Type' → (ℕ → Bool) → Type 0
KeepsTurnsOf Com f = Unit {0}
KeepsTurnsOf (Exp w) f = Unit {0}
KeepsTurnsOf (Var w) f = IsFalse (f 0 && f 1)
KeepsTurnsOf (Pair a b) f =
    KeepsTurnsOf a f × KeepsTurnsOf b (beyond (count a) f)
    × IsFalse (some_open (count a) f && some_open (count b) (beyond (count a) f))
KeepsTurnsOf (Fun a b) f =
    KeepsTurnsOf a f × KeepsTurnsOf b (beyond (count a) f)
    × (IsTrue (some_open (count a) f) → IsTrue (some_open (count b) (beyond (count a) f)))

-- the type that leads from imports, as arguments, to a result
abbrev pub whole_type : List Imported → Type' → Type'
whole_type [] t = t
whole_type (i ∷ is) t = Fun i.ty (whole_type is t)

-- the port's end of handshake h of that type, from import number i on
abbrev pub whole_end : ℕ → List Imported → ℕ → End
whole_end i [] h = ResultEnd h
whole_end i (x ∷ xs) h = if nat_lt h (count x.ty) then ImportEnd i h else whole_end (suc i) xs (h - count x.ty)

-- a request comes on a closed handshake, an answer on an open one
abbrev pub ComesInTurn : List Pass → End → Direction → Type 0
ComesInTurn past e Request = IsFalse (is_open past e)
ComesInTurn past e Answer = IsTrue (is_open past e)

-- what passes a port's end after these keeps turns
abbrev pub KeepsTurns : Plan → List Pass → Pass → Type 0
KeepsTurns p past x =
    ComesInTurn past x.end x.way × KeepsTurnsOf (whole_type p.imports p.outcome) (λ h. is_open (x ∷ past) (whole_end 0 p.imports h))

-- each input of a list keeps turns, and each output
abbrev pub InputsKeepTurns : Plan → List Pass → List Element → Type 0
InputsKeepTurns p past [] = Unit {0}
InputsKeepTurns p past (Fire i t ∷ xs) = InputsKeepTurns p past xs
InputsKeepTurns p past (Out e v ∷ xs) = InputsKeepTurns p (pass e (way_out (contact_at p e)) ∷ past) xs
InputsKeepTurns p past (In e v ∷ xs) =
    KeepsTurns p past (pass e (way_in (contact_at p e))) × InputsKeepTurns p (pass e (way_in (contact_at p e)) ∷ past) xs

abbrev pub OutputsKeepTurns : Plan → List Pass → List Element → Type 0
OutputsKeepTurns p past [] = Unit {0}
OutputsKeepTurns p past (Fire i t ∷ xs) = OutputsKeepTurns p past xs
OutputsKeepTurns p past (Out e v ∷ xs) =
    KeepsTurns p past (pass e (way_out (contact_at p e))) × OutputsKeepTurns p (pass e (way_out (contact_at p e)) ∷ past) xs
OutputsKeepTurns p past (In e v ∷ xs) = OutputsKeepTurns p (pass e (way_in (contact_at p e)) ∷ past) xs

-- Over every list from an idle state whose inputs keep turns, the list is orderly and the outputs keep turns.
abbrev pub IsRegular : Plan → Type 0
IsRegular p =
    (s t : Tokens) (xs : List Element)
    → IsIdle p s → Runs p xs s t → InputsKeepTurns p [] xs → IsOrderly p xs s × OutputsKeepTurns p [] xs
