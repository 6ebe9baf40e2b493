-- With ground imports no array asks for an index: what runs there are reached places, labels and events of ground ports alone.
--
-- Read first: HasTypes; Reach, Moves and ArrayPorts of gos_model.
use Rattle.std.specs.Prelude.{◌≡◌, ◌⊎◌, ℕ, List, []}
use Rattle.gos_types.specs.Types.{Type'}
use Rattle.gos_model.specs.Terms.{Term, Lam, App, Both, Fst, Snd, Seq, Par, If, While, Assign, Deref, New, NewArray, Not, Bin, Lit, Import, Scope, Wait, Held, Put}
use Rattle.gos_model.specs.Typing.{Typed}
use Rattle.gos_model.specs.Stores.{Store}
use Rattle.gos_model.specs.Moves.{Program, Idle, Running, Act, Unfoldings, Moves}
use Rattle.gos_model.specs.ArrayPorts.{AreGround, a, b, read_at}

-- somewhere in the term a port of an array has asked for its index
abbrev pub AsksIndex : Term → Type 0
AsksIndex (Lam t m) = AsksIndex m
AsksIndex (App m n) = AsksIndex m ⊎ AsksIndex n
AsksIndex (Both m n) = AsksIndex m ⊎ AsksIndex n
AsksIndex (Fst m) = AsksIndex m
AsksIndex (Snd m) = AsksIndex m
AsksIndex (Seq m n) = AsksIndex m ⊎ AsksIndex n
AsksIndex (Par m n) = AsksIndex m ⊎ AsksIndex n
AsksIndex (If m n p) = AsksIndex m ⊎ (AsksIndex n ⊎ AsksIndex p)
AsksIndex (While m n) = AsksIndex m ⊎ AsksIndex n
AsksIndex (Assign m n) = AsksIndex m ⊎ AsksIndex n
AsksIndex (Deref m) = AsksIndex m
AsksIndex (New w m) = AsksIndex m
AsksIndex (NewArray n w m) = AsksIndex m
AsksIndex (Not m) = AsksIndex m
AsksIndex (Bin op m n) = AsksIndex m ⊎ AsksIndex n
AsksIndex (Scope l m) = AsksIndex m
AsksIndex (Wait x s) = s ≡ 0
AsksIndex (Held k op n) = AsksIndex n
AsksIndex (Put m k) = AsksIndex m
AsksIndex m = ⊥

-- No running term of a typed program with ground imports has such a port, nor has what it unfolds to.
abbrev pub NoIndexIsAsked : Type 0
NoIndexIsAsked =
    (p : Program) (ty : Type') (acts : List Act) (m u : Term) (s : Store) (n : ℕ)
    → AreGround p.imports → Typed p.imports [] p.body ty → Moves p acts Idle (Running m s) → Unfoldings n m u → AsksIndex u → ⊥

-- At an import of an array one is asked for, as the array may do; until then none is.
abbrev pub ArraysAsk : Type 0
ArraysAsk =
    ((acts : List Act) × (m : Term) × Moves read_at acts Idle (Running m []) × AsksIndex m)
    × AsksIndex (Deref (App (Wait a 0) (Both (Import b) (Lit 1 1))))
    × (AsksIndex (Deref (App (Wait a 1) (Both (Import b) (Lit 1 1)))) → ⊥)
