-- Where a way to a needed place leads, and what may happen at its end.
--
-- Read first: Places, Stages; Heads, Sides and Needed of gos_swaps.
use Rattle.std.specs.Prelude.{◌≡◌, ◌⊎◌, ℕ, List, [], ◌∷◌, ◌++◌}
use Rattle.gos_model.specs.Terms.{Name, Term, Import, Wait, App, Fst, Snd, Deref, Put}
use Rattle.gos_model.specs.Typing.{Imports}
use Rattle.gos_model.specs.Stores.{Store}
use Rattle.gos_model.specs.Reach.{Rewrites}
use Rattle.gos_model.specs.Steps.{IsValue, Computes}
use Rattle.gos_model.specs.Labels.{Port, Label as Shown, Emits, Takes}
use Rattle.gos_programs.specs.contexts.Contexts.{Context, plug, plug_all}
use Rattle.gos_swaps.specs.doings.Heads.{HeadAt}
use Rattle.gos_swaps.specs.doings.Sides.{way, path_through}
use Rattle.gos_swaps.specs.needed.Needed.{IsNeeded, IsOut}
use Rattle.gos_witness.specs.declared.moves.Line.{Line}
use Rattle.gos_witness.specs.declared.moves.Line.TheVariants.{Unfold, Step, Label, Root}
use Rattle.gos_witness.specs.declared.needed.Turn.{Turn}
use Rattle.gos_witness.specs.declared.needed.Turn.TheVariants as turns
use Rattle.gos_witness.specs.declared.needed.Way.{Way}
use Rattle.gos_witness.specs.declared.needed.Way.TheVariants as ways
use Rattle.gos_witness.specs.NodeLists.{Listed, seen}

-- nothing happens below: each reached part is a value
abbrev pub IsRest : Term → Type 0
IsRest m = (c : Context) (z : Term) → m ≡ plug c z → IsValue z

-- what doesn't happen to a term
abbrev pub HasNoHead : Term → Type 0
HasNoHead m = (path : List ℕ) (t : Term) → HeadAt path Rewrites m t → ⊥

abbrev pub HasNoRow : Term → Type 0
HasNoRow m = (s u : Store) (t : Term) → Computes s u m t → ⊥

abbrev pub HasNoLabel : Term → Type 0
HasNoLabel m = (i : Imports) (o : Shown) (t : Term) → Emits i o m t ⊎ Takes i o m t → ⊥

-- an application, or a side of a pair
abbrev pub IsChain : Term → Type 0
IsChain (App m n) = Unit {0}
IsChain (Fst m) = Unit {0}
IsChain (Snd m) = Unit {0}
IsChain m = ⊥

-- the way down function parts and operands
abbrev pub heads : Term → List ℕ
heads (App m n) = 0 ∷ heads m
heads (Fst m) = 0 ∷ heads m
heads (Snd m) = 0 ∷ heads m
heads m = []

-- the innermost of them
abbrev pub innermost : Term → List ℕ
innermost (App m n) = heads m
innermost (Fst m) = heads m
innermost (Snd m) = heads m
innermost m = []

-- what is read or written
abbrev pub IsOperand : Term → Term → Type 0
IsOperand (Deref m) x = m ≡ x
IsOperand (Put m k) x = m ≡ x
IsOperand m x = ⊥

-- the numbers of a way
abbrev pub steps_of : Way → List ℕ
steps_of ways.First = 0 ∷ []
steps_of ways.Second = 1 ∷ []
steps_of ways.Index = 0 ∷ 1 ∷ []
steps_of ways.PortIndex = 0 ∷ 1 ∷ 1 ∷ []

-- the way goes on in a context that leaves no side aside that has the port
abbrev pub GoesInto : Listed → Port → Term → List ℕ → ℕ → Type 0
GoesInto l o m steps part = (c : Context) × (m ≡ plug c (seen l part)) × (way c ≡ steps) × IsOut o c × (IsValue (seen l part) → ⊥)

-- it ends
abbrev pub EndsAtHead : Term → Type 0
EndsAtHead m = IsRest m × HasNoRow m × HasNoLabel m

abbrev pub EndsAtStep : Term → Type 0
EndsAtStep m = IsRest m × HasNoHead m × HasNoLabel m

abbrev pub EndsAtLabel : Term → Type 0
EndsAtLabel m = IsRest m × HasNoHead m × HasNoRow m

abbrev pub IsTurn : Listed → Port → Term → Turn → Type 0
IsTurn l o m (turns.Down w part) = GoesInto l o m (steps_of w) part
IsTurn l o m (turns.Head head) = EndsAtHead m × IsChain m × (m ≡ seen l head)
IsTurn l o m (turns.Operand head) = EndsAtHead m × IsChain (seen l head) × IsOperand m (seen l head)
IsTurn l o m turns.Step = EndsAtStep m
IsTurn l o m turns.Label = EndsAtLabel m

-- the way enters a part, unless that is a value
abbrev pub Enters : Listed → Way → ℕ → Turn → Type 0
Enters l w part r =
    (IsValue (seen l part) × (r ≡ turns.Step)) ⊎ ((IsValue (seen l part) → ⊥) × (r ≡ turns.Down w part))

-- at a read or a write of m
pub record IsAccessTurn (l : Listed) (m : Term) (r : Turn) : Type 0 where
  pub read : (o : Port) → IsTurn l o (Deref m) r
  pub write : (o : Port) (k : ℕ) → IsTurn l o (Put m k) r

-- a port, or a wait for one
abbrev pub IsPortNode : Term → Type 0
IsPortNode (Import x) = Unit {0}
IsPortNode (Wait x s) = Unit {0}
IsPortNode m = ⊥

-- at an access of any port that has asked for its index, with this argument
abbrev pub IsPortTurn : Listed → Term → Turn → Type 0
IsPortTurn l n r = (x : Name) → IsAccessTurn l (App (Wait x 0) n) r

-- the line of an unfolding, so far down from these steps
abbrev pub IsHeadLine : List ℕ → List ℕ → Line → Type 0
IsHeadLine steps more (Unfold path) = path ≡ steps ++ more
IsHeadLine steps more line = ⊥

abbrev pub AreOut : Port → List Context → Type 0
AreOut o [] = Unit {0}
AreOut o (c ∷ cs) = IsOut o c × AreOut o cs

-- the steps so far lead from a term to a part that is no value
pub record IsOnWay (o : Port) (steps : List ℕ) (m x : Term) : Type 0 where
  pub around : List Context
  pub whole : m ≡ plug_all around x
  pub path : steps ≡ path_through around []
  pub out : AreOut o around
  pub alive : IsValue x → ⊥

-- unfoldings happen at this head alone
abbrev pub OnlyAt : List ℕ → Term → Type 0
OnlyAt path m = (q : List ℕ) (t : Term) → HeadAt q Rewrites m t → q ≡ path

-- the line is at the only place where something may happen to a term in contexts
abbrev pub IsLineAt : Port → Line → List Context → Term → Type 0
IsLineAt o (Unfold path) cs x =
    (more : List ℕ) × (path ≡ path_through cs more) × EndsAtHead x × OnlyAt more x × IsNeeded o more x
IsLineAt o (Step path) cs x = (path ≡ path_through cs []) × EndsAtStep x
IsLineAt o (Label path) cs x = (path ≡ path_through cs []) × EndsAtLabel x
IsLineAt o Root cs x = ⊥

pub record IsPlaced (o : Port) (m : Term) (line : Line) : Type 0 where
  pub around : List Context
  pub here : Term
  pub whole : m ≡ plug_all around here
  pub out : AreOut o around
  pub alive : IsValue here → ⊥
  pub ends : IsLineAt o line around here
