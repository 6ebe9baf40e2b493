-- Progress: a program that waits for no answer is not stalled.
--
-- Read first: Typing, Moves of gos_model.
use Rattle.std.specs.Prelude.{◌≡◌, List, [], ◌∷◌}
use Rattle.gos_types.specs.Types.{Type', IsDone}
use Rattle.gos_model.specs.Terms.{Term, Skip, Lit, Bound, Import, Lam, App, Both, Fst, Snd, Seq, Par, If, While, Assign, Deref, New, NewArray, Not, Bin, Loc, Arr, Scope, Wait, Held, Put}
use Rattle.gos_model.specs.Typing.{Typed}
use Rattle.gos_model.specs.Stores.{Store}
use Rattle.gos_model.specs.Labels.{given}
use Rattle.gos_model.specs.Moves.{Program, Idle, Running, Act, Moves, labels, Stalled}
use Rattle.gos_realises.specs.realises.Realises.{AllPorts}

-- nothing in the term waits for an answer
abbrev pub HasNoWait : Term → Type 0
HasNoWait Skip = Unit {0}
HasNoWait (Lit k w) = Unit {0}
HasNoWait (Bound n) = Unit {0}
HasNoWait (Import x) = Unit {0}
HasNoWait (Lam a m) = HasNoWait m
HasNoWait (App m n) = HasNoWait m × HasNoWait n
HasNoWait (Both m n) = HasNoWait m × HasNoWait n
HasNoWait (Fst m) = HasNoWait m
HasNoWait (Snd m) = HasNoWait m
HasNoWait (Seq m n) = HasNoWait m × HasNoWait n
HasNoWait (Par m n) = HasNoWait m × HasNoWait n
HasNoWait (If m n p) = HasNoWait m × HasNoWait n × HasNoWait p
HasNoWait (While m n) = HasNoWait m × HasNoWait n
HasNoWait (Assign m n) = HasNoWait m × HasNoWait n
HasNoWait (Deref m) = HasNoWait m
HasNoWait (New w m) = HasNoWait m
HasNoWait (NewArray n w m) = HasNoWait m
HasNoWait (Not m) = HasNoWait m
HasNoWait (Bin op m n) = HasNoWait m × HasNoWait n
HasNoWait (Loc l) = Unit {0}
HasNoWait (Arr l) = Unit {0}
HasNoWait (Scope l m) = HasNoWait m
HasNoWait (Wait x n) = ⊥
HasNoWait (Held k op n) = HasNoWait n
HasNoWait (Put m k) = HasNoWait m

-- A command or an expression whose imports are ground, or of arrays, has a computation step, an output or its answer when it begins.
-- That is progress (Wright and Felleisen 1994), with the fact that the unfolding of a head ends (Tait 1967).
abbrev pub ProgramsBegin : Type 0
ProgramsBegin =
    (p : Program) (t : Type') → AllPorts p.imports → Typed p.imports [] p.body t → IsDone t → Stalled p (Running p.body []) → ⊥

-- So it has wherever a run leads it, if nothing in it waits for an answer.
abbrev pub RunsGoOn : Type 0
RunsGoOn =
    (p : Program) (t : Type') (acts : List Act) (m : Term) (s : Store)
    → AllPorts p.imports → Typed p.imports [] p.body t → IsDone t → Moves p acts Idle (Running m s) → HasNoWait m
    → Stalled p (Running m s) → ⊥

-- Nothing waits where the run has shown no label but the request of the program itself.
abbrev pub UnaskedRunsGoOn : Type 0
UnaskedRunsGoOn =
    (p : Program) (t : Type') (acts : List Act) (m : Term) (s : Store)
    → AllPorts p.imports → Typed p.imports [] p.body t → IsDone t → Moves p acts Idle (Running m s) → labels acts ≡ given 0 0 ∷ []
    → Stalled p (Running m s) → ⊥
