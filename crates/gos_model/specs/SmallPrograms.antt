-- Small programs and their traces: what the definitions of moves say of them.
--
-- Read first: Moves, Weight. These show that the definitions are neither empty nor too wide.
use Rattle.std.specs.Prelude.{◌≡◌, ℕ, [], ◌∷◌, codes}
use Rattle.gos_types.specs.Types.{Com, Exp}
use Rattle.gos_model.specs.Terms.{Name, Term, Import, Lam, App, Seq, Par, New, While, Bin, Add, Eq, Deref, Bound, Lit, Assign, Loc, Scope, Wait}
use Rattle.gos_model.specs.Substitution.{instantiate}
use Rattle.gos_model.specs.Typing.{Imports}
use Rattle.gos_model.specs.Weight.{weight}
use Rattle.gos_model.specs.Stores.{variable_at, Store}
use Rattle.gos_model.specs.Labels.{given, taken}
use Rattle.gos_model.specs.Moves.{Program, Trace, Computing, Running, Move, Stalled}

-- the names of two commands
abbrev pub c : Name
c = codes "c"

abbrev pub d : Name
d = codes "d"

-- both as imports
abbrev pub two_commands : Imports
two_commands = record { name = c; ty = Com } ∷ record { name = d; ty = Com } ∷ []

-- `c ; d`
abbrev pub one_then_other : Program
one_then_other = record { imports = two_commands; body = Seq (Import c) (Import d) }

-- it runs c and then d
abbrev pub SeqRuns : Type 0
SeqRuns = Trace one_then_other (given 0 0 ∷ taken c 0 0 ∷ taken c 1 0 ∷ taken d 0 0 ∷ taken d 1 0 ∷ given 1 0 ∷ [])

-- it does not run d first
abbrev pub SeqWaits : Type 0
SeqWaits = Trace one_then_other (given 0 0 ∷ taken d 0 0 ∷ []) → ⊥

-- its weight: three nodes of 4 and one handshake, and the handshakes of two imports
abbrev pub SeqWeight : Type 0
SeqWeight = weight two_commands one_then_other.body ≡ 17

-- while c runs, it can only wait
abbrev pub WaitingIsStalled : Type 0
WaitingIsStalled = Stalled one_then_other (Running (Seq (Wait c 1) (Import d)) [])

-- where it can run c, it isn't stalled
abbrev pub EmittingIsNotStalled : Type 0
EmittingIsNotStalled = Stalled one_then_other (Running (Seq (Import c) (Import d)) []) → ⊥

-- `c || d`
abbrev pub both_at_once : Program
both_at_once = record { imports = two_commands; body = Par (Import c) (Import d) }

-- it may begin with either
abbrev pub ParEitherWay : Type 0
ParEitherWay =
    Trace both_at_once (given 0 0 ∷ taken c 0 0 ∷ taken d 0 0 ∷ taken d 1 0 ∷ taken c 1 0 ∷ given 1 0 ∷ [])
    × Trace both_at_once (given 0 0 ∷ taken d 0 0 ∷ taken c 0 0 ∷ taken d 1 0 ∷ taken c 1 0 ∷ given 1 0 ∷ [])

-- `new x : 1 in while !x = 0:1 do (x := 1:1 ; c)`
abbrev pub loop_once : Program
loop_once =
    record {
      imports = two_commands;
      body = New 1 (While (Bin Eq (Deref (Bound 0)) (Lit 0 1)) (Seq (Assign (Bound 0) (Lit 1 1)) (Import c)));
    }

-- it runs c once
abbrev pub LoopRuns : Type 0
LoopRuns = Trace loop_once (given 0 0 ∷ taken c 0 0 ∷ taken c 1 0 ∷ given 1 0 ∷ [])

-- a new variable begins at 0
abbrev pub NewIsZero : Type 0
NewIsZero =
    (w : ℕ) (m t : Term) (s : Store) → Move (record { imports = []; body = New w m }) Computing (Running (New w m) []) (Running t s)
    → (l : ℕ) × (t ≡ Scope l (instantiate m (Loc l))) × (s ≡ variable_at l w 0 ∷ [])

-- the name of an expression
abbrev pub e : Name
e = codes "e"

-- `(fun x : exp 8 . x + x) e`
abbrev pub double : Program
double =
    record { imports = record { name = e; ty = Exp 8 } ∷ []; body = App (Lam (Exp 8) (Bin Add (Bound 0) (Bound 0))) (Import e) }

-- the argument is asked at each use, and both answers are added
abbrev pub DoubleAsksTwice : Type 0
DoubleAsksTwice = Trace double (given 0 0 ∷ taken e 0 0 ∷ taken e 1 3 ∷ taken e 0 0 ∷ taken e 1 4 ∷ given 1 7 ∷ [])
