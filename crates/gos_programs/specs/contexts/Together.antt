-- What a program does by itself, done by a program that has it as a part.
--
-- Read first: Beside, Widening, SameStores. All that may differ does: the imports are more, the term stands at a
-- reached place, its locations are renamed, and the store has others besides, in any order. Two parts that run at
-- once have renamings that never give one location, and each is what stands beside the other.
use Rattle.std.specs.Prelude.{◌≢◌, ℕ, List, [], ◌∷◌}
use Rattle.gos_model.specs.Terms.{Term, Par}
use Rattle.gos_model.specs.Stores.{Store}
use Rattle.gos_model.specs.Steps.{IsValue}
use Rattle.gos_model.specs.Moves.{Program, Idle, Running, Act, Showing, Move, Moves, Stalled}
use Rattle.gos_model.specs.Typing.{Typed}
use Rattle.gos_model.specs.Labels.{given}
use Rattle.gos_types.specs.Types.{Type'}
use Rattle.gos_programs.specs.contexts.Contexts.{Context, plug_all, AllAlone}
use Rattle.gos_programs.specs.contexts.Plugged.{AreInner}
use Rattle.gos_programs.specs.contexts.Renaming.{renamed, IsInjective, IsFreeOf, beside}
use Rattle.gos_programs.specs.contexts.Widening.{AreAmong, Knows}
use Rattle.gos_programs.specs.contexts.SameStores.{SameEntries}

-- x has the entries of s, renamed, and those of f, which are others
abbrev pub Holds : (ℕ → ℕ) → Store → Store → Store → Type 0
Holds r s f x = IsInjective r × IsFreeOf r f × SameEntries x (beside r s f)

-- There are renamings for two parts, none of whose locations are taken.
abbrev pub TwoRenamings : Type 0
TwoRenamings =
    (f : Store)
    → (r : ℕ → ℕ) × (q : ℕ → ℕ) × IsInjective r × IsInjective q × ((k l : ℕ) → r k ≢ q l) × IsFreeOf r f × IsFreeOf q f

-- Of two stores that are held, each stands beside the other.
abbrev pub HoldsBoth : Type 0
HoldsBoth =
    (r q : ℕ → ℕ) (s t f x : Store)
    → IsInjective q → ((k l : ℕ) → r k ≢ q l) → IsFreeOf q f → Holds r s (beside q t f) x → Holds q t (beside r s f) x

-- a move of a part
abbrev pub MoveTogether : Type 0
MoveTogether =
    (p q : Program) (cs : List Context) (r : ℕ → ℕ) (f : Store) (a : Act) (s u x : Store) (m t : Term)
    → AreAmong p.imports q.imports → Holds r s f x → Move p a (Running m s) (Running t u)
    → (y : Store) × Holds r u f y × Move q a (Running (plug_all cs (renamed r m)) x) (Running (plug_all cs (renamed r t)) y)

abbrev pub MovesTogether : Type 0
MovesTogether =
    (p q : Program) (cs : List Context) (r : ℕ → ℕ) (f : Store) (acts : List Act) (s u x : Store) (m t : Term)
    → AreAmong p.imports q.imports → Holds r s f x → AreInner acts → Moves p acts (Running m s) (Running t u)
    → (y : Store) × Holds r u f y × Moves q acts (Running (plug_all cs (renamed r m)) x) (Running (plug_all cs (renamed r t)) y)

-- A run of a source from its request to a value. The store is left as it was.
abbrev pub RunTogether : Type 0
RunTogether =
    (p q : Program) (cs : List Context) (acts : List Act) (u x : Store) (v : Term) (ty : Type')
    → AreAmong p.imports q.imports → Typed p.imports [] p.body ty → AreInner acts → IsValue v
    → Moves p (Showing (given 0 0) ∷ acts) Idle (Running v u)
    → (y : Store) × SameEntries y x × Moves q acts (Running (plug_all cs p.body) x) (Running (plug_all cs v) y)

-- a part that can only wait, where no other is reached
abbrev pub WaitsTogether : Type 0
WaitsTogether =
    (p q : Program) (cs : List Context) (r : ℕ → ℕ) (f s x : Store) (m : Term)
    → AreAmong p.imports q.imports → Knows p.imports m → AllAlone cs → Holds r s f x → Stalled p (Running m s)
    → Stalled q (Running (plug_all cs (renamed r m)) x)

-- both sides of `||`, each a program with a store of its own
abbrev pub BothWaitTogether : Type 0
BothWaitTogether =
    (p1 p2 q : Program) (r1 r2 : ℕ → ℕ) (f1 f2 s1 s2 x : Store) (m1 m2 : Term)
    → AreAmong p1.imports q.imports → Knows p1.imports m1 → Holds r1 s1 f1 x → Stalled p1 (Running m1 s1)
    → AreAmong p2.imports q.imports → Knows p2.imports m2 → Holds r2 s2 f2 x → Stalled p2 (Running m2 s2)
    → Stalled q (Running (Par (renamed r1 m1) (renamed r2 m2)) x)

-- one side, where the other one has ended
abbrev pub RightWaitsTogether : Type 0
RightWaitsTogether =
    (p q : Program) (r : ℕ → ℕ) (f s x : Store) (v m : Term)
    → AreAmong p.imports q.imports → Knows p.imports m → Holds r s f x → Stalled p (Running m s) → IsValue v
    → Stalled q (Running (Par v (renamed r m)) x)

abbrev pub LeftWaitsTogether : Type 0
LeftWaitsTogether =
    (p q : Program) (r : ℕ → ℕ) (f s x : Store) (v m : Term)
    → AreAmong p.imports q.imports → Knows p.imports m → Holds r s f x → Stalled p (Running m s) → IsValue v
    → Stalled q (Running (Par (renamed r m) v) x)
