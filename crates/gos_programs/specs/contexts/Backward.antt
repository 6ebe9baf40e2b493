-- What a context does: what its term does, or the row of the context itself where the term is a value.
--
-- Read first: Plugged. So where a term can only wait, it does so in a context too.
use Rattle.std.specs.Prelude.{◌≡◌, ◌⊎◌, ℕ}
use Rattle.gos_model.specs.Terms.{Term, Skip, Par}
use Rattle.gos_model.specs.Typing.{Imports}
use Rattle.gos_model.specs.Stores.{Store}
use Rattle.gos_model.specs.Steps.{Steps, Computes, IsValue}
use Rattle.gos_model.specs.Labels.{Label}
use Rattle.gos_model.specs.Moves.{Program, Idle, Running, Act, Computing, Showing, Acts, Unfoldings, Move, Stalled}
use Rattle.gos_programs.specs.contexts.Contexts.{Context, plug, IsAlone}

-- Unfoldings are those of the term; of `||` they are those of both sides.
abbrev pub UnfoldingsWithin : Type 0
UnfoldingsWithin =
    (c : Context) (n : ℕ) (m v : Term) → IsAlone c → Unfoldings n (plug c m) v → (t : Term) × (v ≡ plug c t) × Unfoldings n m t

abbrev pub UnfoldingsOfBoth : Type 0
UnfoldingsOfBoth =
    (n : ℕ) (l r v : Term) → Unfoldings n (Par l r) v
    → (j : ℕ) × (k : ℕ) × (a : Term) × (b : Term) × (v ≡ Par a b) × Unfoldings j l a × Unfoldings k r b

-- A computation step is one of the term, or the row of the context, and then the term is a value.
abbrev pub StepsWithin : Type 0
StepsWithin =
    (c : Context) (s s' : Store) (m v : Term) → IsAlone c → Steps s s' (plug c m) v
    → ((t : Term) × (v ≡ plug c t) × Steps s s' m t) ⊎ (Computes s s' (plug c m) v × IsValue m)

-- Of `||` it is one of a side, or both sides have ended.
abbrev pub StepsOfBoth : Type 0
StepsOfBoth =
    (s s' : Store) (l r v : Term) → Steps s s' (Par l r) v
    → (((t : Term) × (v ≡ Par t r) × Steps s s' l t) ⊎ ((t : Term) × (v ≡ Par l t) × Steps s s' r t))
    ⊎ ((l ≡ Skip) × (r ≡ Skip) × (v ≡ Skip) × (s' ≡ s))

-- A label is always one of the term, or of a side.
abbrev pub LabelsWithin : Type 0
LabelsWithin =
    (i : Imports) (o : Label) (c : Context) (s s' : Store) (m v : Term) → IsAlone c → Acts i (Showing o) s s' (plug c m) v
    → (t : Term) × (v ≡ plug c t) × Acts i (Showing o) s s' m t

abbrev pub LabelsOfBoth : Type 0
LabelsOfBoth =
    (i : Imports) (o : Label) (s s' : Store) (l r v : Term) → Acts i (Showing o) s s' (Par l r) v
    → ((t : Term) × (v ≡ Par t r) × Acts i (Showing o) s s' l t) ⊎ ((t : Term) × (v ≡ Par l t) × Acts i (Showing o) s s' r t)

-- So is a whole move: it is one of the term, or a row of the context after unfoldings to a value. None is an answer.
abbrev pub MoveOfContext : Type 0
MoveOfContext =
    (p q : Program) (a : Act) (c : Context) (s u : Store) (m v : Term)
    → q.imports ≡ p.imports → IsAlone c → Move q a (Running (plug c m) s) (Running v u)
    → ((t : Term) × (v ≡ plug c t) × Move p a (Running m s) (Running t u))
    ⊎ ((a ≡ Computing) × (n : ℕ) × (x : Term) × Unfoldings n m x × IsValue x × Computes s u (plug c x) v)

abbrev pub NoAnswerOfContext : Type 0
NoAnswerOfContext = (q : Program) (a : Act) (c : Context) (s : Store) (m : Term) → IsAlone c → Move q a (Running (plug c m) s) Idle → ⊥

-- Of `||` it is one of a side, where the other side may have unfolded, or both sides have unfolded to `skip`.
abbrev pub MoveOfBoth : Type 0
MoveOfBoth =
    (p q : Program) (a : Act) (s u : Store) (l r v : Term)
    → q.imports ≡ p.imports → Move q a (Running (Par l r) s) (Running v u)
    → (((t : Term) × (b : Term) × (n : ℕ) × (v ≡ Par t b) × Unfoldings n r b × Move p a (Running l s) (Running t u))
    ⊎ ((b : Term) × (t : Term) × (n : ℕ) × (v ≡ Par b t) × Unfoldings n l b × Move p a (Running r s) (Running t u)))
    ⊎ ((a ≡ Computing) × (n : ℕ) × (k : ℕ) × Unfoldings n l Skip × Unfoldings k r Skip × (v ≡ Skip) × (u ≡ s))

-- A term that can only wait is no value, since a value can be answered. So it waits in a context too.
abbrev pub WaitsWithin : Type 0
WaitsWithin =
    (p q : Program) (c : Context) (s : Store) (m : Term)
    → p.imports ≡ q.imports → IsAlone c → Stalled p (Running m s) → Stalled q (Running (plug c m) s)

-- and so does `||` where both sides wait, or one waits and the other is a value
abbrev pub BothWait : Type 0
BothWait =
    (p q : Program) (s : Store) (l r : Term)
    → p.imports ≡ q.imports → Stalled p (Running l s) → Stalled p (Running r s) → Stalled q (Running (Par l r) s)

abbrev pub RightWaits : Type 0
RightWaits =
    (p q : Program) (s : Store) (l r : Term) → p.imports ≡ q.imports → IsValue l → Stalled p (Running r s) → Stalled q (Running (Par l r) s)

abbrev pub LeftWaits : Type 0
LeftWaits =
    (p q : Program) (s : Store) (l r : Term) → p.imports ≡ q.imports → Stalled p (Running l s) → IsValue r → Stalled q (Running (Par l r) s)
