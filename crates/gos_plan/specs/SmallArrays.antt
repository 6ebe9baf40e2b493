-- A small array, access by access.
--
-- Read first: Firing, OneFiring, Size, TokenBits.
use Rattle.std.specs.Prelude.{◌≡◌, ℕ, List, [], ◌∷◌, None, Some, take, drop}
use Rattle.gos_model.specs.Typing.{array_type}
use Rattle.gos_plan.specs.declared.kinds.Kind.TheVariants as kinds
use Rattle.gos_plan.specs.Kinds.{Part, Skip, Array, contacts_of, part_contacts}
use Rattle.gos_plan.specs.Firing.{Rest, Cells, Reading, WritingTo, State, at, Slot, Req, Ans, Token, put, firing}
use Rattle.gos_plan.specs.OneFiring.{at_value}
use Rattle.gos_plan.specs.Size.{numbers_of}
use Rattle.gos_plan.specs.Ranges.{IsInRange}
use Rattle.gos_plan.specs.TokenBits.{NumbersFit}

-- an array of two numbers of 8 bits, which runs a command
abbrev pub pair : Part
pair = Array 8 2 0

-- what it does in a state with a token of this value
abbrev pub Gives : State → Slot → ℕ → State → List Token → Type 0
Gives q s v p ts = at_value v (firing pair q s) ≡ Some (record { next = p; tokens = ts })

-- each entry leaves zeros, and runs the body
abbrev pub EntryClears : Type 0
EntryClears = (n : ℕ) → Gives (at Rest n) (Req 4) 0 (at (Cells (0 ∷ 0 ∷ [])) n) (put (Req 0) 0 ∷ [])

-- a read and a write ask for the index, and the number to be written is held meanwhile
abbrev pub AccessAsks : Type 0
AccessAsks =
    (a b n x : ℕ)
    → Gives (at (Cells (a ∷ b ∷ [])) n) (Req 2) 0 (at (Reading (a ∷ b ∷ [])) n) (put (Req 1) 0 ∷ [])
    × Gives (at (Cells (a ∷ b ∷ [])) n) (Req 3) x (at (WritingTo (a ∷ b ∷ [])) x) (put (Req 1) 0 ∷ [])

-- a read answers the number at its index, and changes none
abbrev pub ReadIsAtIndex : Type 0
ReadIsAtIndex = (a b n : ℕ) → Gives (at (Reading (a ∷ b ∷ [])) n) (Ans 1) 1 (at (Cells (a ∷ b ∷ [])) n) (put (Ans 2) b ∷ [])

-- a write leaves its number at its index, and the others as they were
abbrev pub WriteIsAtIndex : Type 0
WriteIsAtIndex = (a b x : ℕ) → Gives (at (WritingTo (a ∷ b ∷ [])) x) (Ans 1) 1 (at (Cells (a ∷ x ∷ [])) x) (put (Ans 3) 0 ∷ [])

-- while an index is waited for nothing else is taken, and no index is taken unasked
abbrev pub OneAtATime : Type 0
OneAtATime =
    (a b n : ℕ)
    → (firing pair (at (Reading (a ∷ b ∷ [])) n) (Req 3) ≡ None) × (firing pair (at (WritingTo (a ∷ b ∷ [])) n) (Ans 0) ≡ None)
    × (firing pair (at (Cells (a ∷ b ∷ [])) n) (Ans 1) ≡ None)

-- between the body and the caller stand the handshakes of its type
abbrev pub ServesItsType : Type 0
ServesItsType = (w n v : ℕ) → take 3 (drop 1 (part_contacts (Array w n v))) ≡ contacts_of (array_type n w)

-- three numbers are none of an array in range, and four are; those of all arrays of a plan count
abbrev pub LengthsAreKept : Type 0
LengthsAreKept =
    IsInRange (kinds.Array 8 4 0) × (IsInRange (kinds.Array 8 3 0) → ⊥)
    × (numbers_of (Array 8 4 0 ∷ Skip ∷ Array 1 16 1 ∷ []) ≡ 20)

-- two numbers of 1 bit fit; 2 doesn't, nor do three numbers
abbrev pub SmallNumbersFit : Type 0
SmallNumbersFit = NumbersFit 1 2 (1 ∷ 0 ∷ []) × (NumbersFit 1 2 (2 ∷ 0 ∷ []) → ⊥) × (NumbersFit 1 2 (1 ∷ 0 ∷ 0 ∷ []) → ⊥)
