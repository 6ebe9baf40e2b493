-- How a command ends, from how its work ended and what was printed.
use Rattle.std.proofs.Common.{◌≡◌, ◌∙◌, ◌⊎◌, inl, inr, refl, List, [], ◌∷◌, ℕ, Option, Some, None, Result, Ok, Err, nat_eq, if◌then◌else◌, ap, sym, subst}
use Rattle.std.specs.Prelude.{IfOk, IfErr}
use Rattle.gos_outside.specs.Files.{Files, SameBut}
use Rattle.gos_outside.specs.Calls.{StoreCall, Calls, Ending, Short, AreMade}
use Rattle.gos_outside.proofs.CallsLemmas.{all_made}
use Rattle.gos_lex.specs.Lines.{Word}
use Rattle.gos_flow.specs.Ends.{IfStopped, IfRejected, IsSaid, ending, status_ending}
use Rattle.gos_flow.specs.Finish.{Finishes}
use Rattle.gos_flow.specs.declared.status.Cause.{Cause}
use Rattle.gos_flow.specs.declared.status.Status.{Status}
use Rattle.gos_flow.specs.declared.status.Status.TheVariants as statuses
use Rattle.gos_flow.specs.declared.stop.Stop.{Stop}
use Rattle.gos_flow.specs.declared.stop.Stop.TheVariants as stops
use Rattle.gos_flow.specs.Command.{Command, ToVerilog, ToNetlist, read_by, written_by, Means, calls_of}
use Rattle.gos_flow.specs.Run.{IsDone, IsRejected, EndsDone, EndsRejected, IsUnsaid, IsUntold}

-- The command that words are, by the first letter of the first.
abbrev first : Word → ℕ
first [] = 0
first (letter ∷ letters) = letter

abbrev read_back : List Word → Option Command
read_back (verb ∷ file ∷ out ∷ []) = Some (if nat_eq (first verb) 118 then ToVerilog file out else ToNetlist file out)
read_back words = None

is_read_back : (words : List Word) (c : Command) → Means words c → read_back words ≡ Some c
is_read_back words (ToVerilog net out) means = ap read_back means.0
is_read_back words (ToNetlist ver out) means = ap read_back means.0

-- words are one command at most
pub same_meaning : (words : List Word) (c d : Command) → Means words c → Means words d → c ≡ d
same_meaning words c d m n = let same : Some c ≡ Some d = sym (is_read_back words c m) ∙ is_read_back words d n in cc

-- what is known of all other files, of one command and so of any that the words are
pub kept : (words : List Word) (old new : Option Files) (c d : Command) → Means words c → Means words d → SameBut (written_by c) old new → SameBut (written_by d) old new
kept words old new c d m n keeps = subst (λ (e : Command). SameBut (written_by e) old new) (same_meaning words c d m n) keeps

-- a command is done only where its work is
pub ends_done : (words : List Word) (old new : Option Files) (written printed : Option (List ℕ)) (c : Command) (ended : Result ℕ Stop) (status : Status)
    → Means words c → IfOk ended (IsDone c old new) → Finishes (read_by c) ended status written printed → status ≡ statuses.Done → EndsDone words old new written printed
ends_done words old new written printed c (Ok cells) status means is says done =
    record { command = c; cells = cells; means = means; line = says.whole done; done = is }
ends_done words old new written printed c (Err (stops.Rejected cause)) status means is says done = absurd (not_done says.only)
  where
    not_done : (status ≡ statuses.Rejected cause) ⊎ ((status ≡ statuses.SinkFailed) ⊎ (status ≡ statuses.NoMemory)) → ⊥
    not_done (inl e) = cc (e, done)
    not_done (inr (inl e)) = cc (e, done)
    not_done (inr (inr e)) = cc (e, done)
ends_done words old new written printed c (Err stops.StoreFailed) status means is says done = let e = says.0 in cc
ends_done words old new written printed c (Err stops.NoMemory) status means is says done = let e = says.0 in cc

-- a command that rejects its file, where the line that says so was printed
ends_rejected : (words : List Word) (old new : Option Files) (written printed : Option (List ℕ)) (c : Command) (ended : Result ℕ Stop) (cause : Cause)
    → Means words c → IfErr ended (λ stop. IfStopped stop (IsRejected c old new)) → Finishes (read_by c) ended (statuses.Rejected cause) written printed
    → EndsRejected words old new written printed cause
ends_rejected words old new written printed c (Ok cells) cause means rejected says = absurd (not_done says.only)
  where
    not_done : (statuses.Rejected cause ≡ statuses.Done) ⊎ ((statuses.Rejected cause ≡ statuses.SinkFailed) ⊎ (statuses.Rejected cause ≡ statuses.NoMemory)) → ⊥
    not_done (inl e) = cc e
    not_done (inr (inl e)) = cc e
    not_done (inr (inr e)) = cc e
ends_rejected words old new written printed c (Err (stops.Rejected why)) cause means rejected says = by_said says.only
  where
    by_said : (statuses.Rejected cause ≡ statuses.Rejected why) ⊎ ((statuses.Rejected cause ≡ statuses.SinkFailed) ⊎ (statuses.Rejected cause ≡ statuses.NoMemory)) → EndsRejected words old new written printed cause
    by_said (inl e) =
        let same : why ≡ cause = cc e in
        subst (λ (f : Cause). EndsRejected words old new written printed f) same
        (record { command = c; means = means; line = says.whole e; rejected = rejected })
    by_said (inr (inl e)) = absurd (cc e)
    by_said (inr (inr e)) = absurd (cc e)
ends_rejected words old new written printed c (Err stops.StoreFailed) cause means rejected says = let e = says.0 in absurd (cc e)
ends_rejected words old new written printed c (Err stops.NoMemory) cause means rejected says = let e = says.0 in absurd (cc e)

pub if_rejected : (words : List Word) (old new : Option Files) (written printed : Option (List ℕ)) (c : Command) (ended : Result ℕ Stop) (status : Status)
    → Means words c → IfErr ended (λ stop. IfStopped stop (IsRejected c old new)) → Finishes (read_by c) ended status written printed
    → IfRejected status (EndsRejected words old new written printed)
if_rejected words old new written printed c ended (statuses.Rejected cause) means rejected says = ends_rejected words old new written printed c ended cause means rejected says
if_rejected words old new written printed c ended statuses.Done means rejected says = tt
if_rejected words old new written printed c ended statuses.Usage means rejected says = tt
if_rejected words old new written printed c ended statuses.StoreFailed means rejected says = tt
if_rejected words old new written printed c ended statuses.SinkFailed means rejected says = tt
if_rejected words old new written printed c ended statuses.NoMemory means rejected says = tt

-- a command whose line could not be printed
unsaid_as : (old new : Option Files) (written printed : Option (List ℕ)) (c : Command) (ended : Result ℕ Stop) (status : Status)
    → IfOk ended (IsDone c old new) → IfErr ended (λ stop. IfStopped stop (IsRejected c old new)) → Finishes (read_by c) ended status written printed
    → status ≡ statuses.SinkFailed → IsUnsaid c old new written printed
unsaid_as old new written printed c (Ok cells) status done rejected says failed = inl (cells, says.cut failed, done)
unsaid_as old new written printed c (Err (stops.Rejected cause)) status done rejected says failed = inr (cause, says.cut failed, rejected)
unsaid_as old new written printed c (Err stops.StoreFailed) status done rejected says failed = let e = says.0 in cc
unsaid_as old new written printed c (Err stops.NoMemory) status done rejected says failed = let e = says.0 in cc

pub unsaid : (words : List Word) (old new : Option Files) (written printed : Option (List ℕ)) (c d : Command) (ended : Result ℕ Stop) (status : Status)
    → Means words c → Means words d → IfOk ended (IsDone c old new) → IfErr ended (λ stop. IfStopped stop (IsRejected c old new))
    → Finishes (read_by c) ended status written printed → status ≡ statuses.SinkFailed → IsUnsaid d old new written printed
unsaid words old new written printed c d ended status m n done rejected says failed =
    subst (λ (e : Command). IsUnsaid e old new written printed) (same_meaning words c d m n) (unsaid_as old new written printed c ended status done rejected says failed)

-- a command at whose end memory runs out
untold_as : (old new : Option Files) (written printed : Option (List ℕ)) (c : Command) (ended : Result ℕ Stop) (status : Status)
    → IfOk ended (IsDone c old new) → IfErr ended (λ stop. IfStopped stop (IsRejected c old new)) → (ended ≡ Err stops.NoMemory → new ≡ old)
    → Finishes (read_by c) ended status written printed → status ≡ statuses.NoMemory → IsUntold c old new
untold_as old new written printed c (Ok cells) status done rejected short says failed = inl (cells, done)
untold_as old new written printed c (Err (stops.Rejected cause)) status done rejected short says failed = inr rejected.same
untold_as old new written printed c (Err stops.StoreFailed) status done rejected short says failed = let e = says.0 in cc
untold_as old new written printed c (Err stops.NoMemory) status done rejected short says failed = inr (short refl)

pub untold : (words : List Word) (old new : Option Files) (written printed : Option (List ℕ)) (c d : Command) (ended : Result ℕ Stop) (status : Status)
    → Means words c → Means words d → IfOk ended (IsDone c old new) → IfErr ended (λ stop. IfStopped stop (IsRejected c old new)) → (ended ≡ Err stops.NoMemory → new ≡ old)
    → Finishes (read_by c) ended status written printed → status ≡ statuses.NoMemory → IsUntold d old new
untold words old new written printed c d ended status m n done rejected short says failed =
    subst (λ (e : Command). IsUntold e old new) (same_meaning words c d m n) (untold_as old new written printed c ended status done rejected short says failed)

-- how far a command came is told by its status, where its line may be unsaid
made_at : (calls : List StoreCall) (status : Status) (end : Ending) (old new : Calls) → status_ending status ≡ end → AreMade end calls old new → AreMade (status_ending status) calls old new
made_at calls status end old new is made = subst (λ (e : Ending). AreMade e calls old new) (sym is) made

made_said : (calls : List StoreCall) (wanted status : Status) (old new : Calls) → IsSaid status wanted → AreMade (status_ending wanted) calls old new
    → AreMade Short calls old new → AreMade (status_ending status) calls old new
made_said calls wanted status old new (inl e) made cut = made_at calls status (status_ending wanted) old new (ap status_ending e) made
made_said calls wanted status old new (inr (inl e)) made cut = made_at calls status Short old new (ap status_ending e) cut
made_said calls wanted status old new (inr (inr e)) made cut = made_at calls status Short old new (ap status_ending e) cut

made_end : (written printed : Option (List ℕ)) (file : Word) (calls : List StoreCall) (ended : Result ℕ Stop) (status : Status) (old new : Calls)
    → Finishes file ended status written printed → AreMade (ending ended) calls old new → AreMade (status_ending status) calls old new
made_end written printed file calls (Ok cells) status old new says made = made_said calls statuses.Done status old new says.only made (all_made calls old new made)
made_end written printed file calls (Err (stops.Rejected cause)) status old new says made = made_said calls (statuses.Rejected cause) status old new says.only made made
made_end written printed file calls (Err stops.StoreFailed) status old new says made = made_at calls status (status_ending statuses.StoreFailed) old new (ap status_ending says.0) made
made_end written printed file calls (Err stops.NoMemory) status old new says made = made_at calls status Short old new (ap status_ending says.0) made

pub made : (words : List Word) (written printed : Option (List ℕ)) (c d : Command) (ended : Result ℕ Stop) (status : Status) (old new : Calls)
    → Means words c → Means words d → Finishes (read_by c) ended status written printed → AreMade (ending ended) (calls_of c) old new
    → AreMade (status_ending status) (calls_of d) old new
made words written printed c d ended status old new m n says all =
    subst (λ (e : Command). AreMade (status_ending status) (calls_of e) old new) (same_meaning words c d m n)
    (made_end written printed (read_by c) (calls_of c) ended status old new says all)
