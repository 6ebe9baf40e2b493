-- What a command's work left, put together from what is known of it.
use Rattle.std.proofs.Common.{◌≡◌, ◌∙◌, inr, Option, None, Some, Result, Ok, Err, ap, sym, subst}
use Rattle.std.specs.Prelude.{IfSome}
use Rattle.std.specs.Result.{IsErrAnd, IsErrOf}
use Rattle.gos_outside.specs.Files.{Files, SameBut, bytes_at}
use Rattle.gos_outside.specs.Faults.{LastFault, WriteFault}
use Rattle.gos_netlist.specs.Nets.{Netlist}
use Rattle.gos_flow.specs.Command.{Command, read_by, written_by}
use Rattle.gos_flow.specs.Run.{Says, IsCall}

-- a fact of a value that may be there
pub of_some : {X : Type 0} (P Q : X → Type 0) (o : Option X) → ((x : X) → P x → Q x) → IfSome o P → IfSome o Q
of_some P Q None f h = tt
of_some P Q (Some x) f h = f x h

-- at the exit of a `?` the call failed so too
pub failed_as : {T U E : Type 0} {e d : E} (r : Result T E) → IsErrAnd r (λ y. y ≡ e) → IsErrOf r d → IsErrOf {T = U} (Err e) d
failed_as (Ok x) h same = absurd h
failed_as {d = d} (Err y) h same = let is : y ≡ d = cc same in ap Err (sym h ∙ is)

-- the write failed
pub is_write : (c : Command) (old mid new : Option Files) (fault : LastFault) (circuit : Netlist)
    → IfSome old (λ files. Says c (bytes_at files (read_by c)) circuit) → mid ≡ old → SameBut (written_by c) mid new → fault ≡ WriteFault (written_by c)
    → IsCall c old new fault
is_write c old mid new fault circuit says same others is =
    inr (
      is,
      subst (λ (told : Option Files). SameBut (written_by c) told new) same others,
      of_some (λ files. Says c (bytes_at files (read_by c)) circuit) (λ files. (given : Netlist) × Says c (bytes_at files (read_by c)) given) old (λ files here. (circuit, here)) says,
    )
