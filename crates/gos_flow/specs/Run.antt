-- How the commands end.
--
-- Read first: Command, Texts; Files of gos_outside; NetText of gos_netlist; VerilogText of gos_verilog. `old` and `new` are the files
-- of the store before and after, `written` and `printed` the bytes of the sink.
use Rattle.std.specs.Prelude.{◌≡◌, ◌⊎◌, ℕ, List, length, Option, IfSome}
use Rattle.gos_outside.specs.Files.{Files, SameBut, bytes_at, with_file}
use Rattle.gos_outside.specs.Faults.{LastFault, ReadFault, WriteFault}
use Rattle.gos_outside.specs.Written.{appended, AppendsPrefix}
use Rattle.gos_lex.specs.Lines.{Word}
use Rattle.gos_netlist.specs.Nets.{Netlist}
use Rattle.gos_netlist.specs.NetText.{text_of}
use Rattle.gos_netcheck.specs.Accepted.{IsAccepted}
use Rattle.gos_verilog.specs.VerilogText.{IsVerilogOf}
use Rattle.gos_flow.specs.declared.status.Cause.{Cause}
use Rattle.gos_flow.specs.Lines.{fault_line, done_line}
use Rattle.gos_flow.specs.Texts.{SaysNet, SaysVerilog, IsOfNet, IsOfVerilog, IsNetCause, IsVerilogCause}
use Rattle.gos_flow.specs.Command.{Command, ToVerilog, ToNetlist, read_by, written_by, Means}

-- the text of the file that is read says this netlist, which is accepted
abbrev pub Says : Command → List ℕ → Netlist → Type 0
Says (ToVerilog net out) text circuit = SaysNet text circuit
Says (ToNetlist ver out) text circuit = SaysVerilog text circuit

-- the text that is written: the netlist's, in the other form
abbrev pub IsOtherText : Command → Netlist → List ℕ → Type 0
IsOtherText (ToVerilog net out) circuit text = IsVerilogOf circuit text
IsOtherText (ToNetlist ver out) circuit text = text ≡ text_of circuit

-- why the text of the file that is read is rejected
abbrev pub IsCause : Command → List ℕ → Cause → Type 0
IsCause (ToVerilog net out) text cause = IsNetCause text cause
IsCause (ToNetlist ver out) text cause = IsVerilogCause text cause

-- the causes for which that file may be rejected, whatever store there is
abbrev pub MayBe : Command → Cause → Type 0
MayBe (ToVerilog net out) cause = IsOfNet cause
MayBe (ToNetlist ver out) cause = IsOfVerilog cause

-- All is done: the file that was read is the text of an accepted netlist, and that of this one in the other form was written. It has
-- so many cells.
pub record IsDone (c : Command) (old new : Option Files) (cells : ℕ) : Type 0 where
  pub circuit : Netlist
  pub text : List ℕ
  pub says : IfSome old (λ files. Says c (bytes_at files (read_by c)) circuit)
  pub accepted : IsAccepted circuit
  pub is : IsOtherText c circuit text
  pub wrote : new ≡ with_file (written_by c) text old
  pub count : cells ≡ length circuit.cells

-- the file that is read is rejected for this cause, and no file was changed
pub record IsRejected (c : Command) (old new : Option Files) (cause : Cause) : Type 0 where
  pub same : new ≡ old
  pub kind : MayBe c cause
  pub why : IfSome old (λ files. IsCause c (bytes_at files (read_by c)) cause)

-- The call of the store that failed: the read, or, where the file that was read is right, the write. A file whose write fails may hold
-- anything.
abbrev pub IsCall : Command → Option Files → Option Files → LastFault → Type 0
IsCall c old new fault =
    ((fault ≡ ReadFault (read_by c)) × (new ≡ old))
    ⊎ ((fault ≡ WriteFault (written_by c)) × SameBut (written_by c) old new
    × IfSome old (λ files. (circuit : Netlist) × Says c (bytes_at files (read_by c)) circuit))

-- the words are a command, which is done, and the line that tells so was printed
pub record EndsDone (words : List Word) (old new : Option Files) (written printed : Option (List ℕ)) : Type 0 where
  pub command : Command
  pub cells : ℕ
  pub means : Means words command
  pub line : printed ≡ appended (done_line cells) written
  pub done : IsDone command old new cells

-- the words are a command, which rejects its file for this cause, and the line that tells so was printed
pub record EndsRejected (words : List Word) (old new : Option Files) (written printed : Option (List ℕ)) (cause : Cause) : Type 0 where
  pub command : Command
  pub means : Means words command
  pub line : printed ≡ appended (fault_line (read_by command) cause) written
  pub rejected : IsRejected command old new cause

-- The line could not be printed, of which a first part was: that of the command that is done, or that of the file that it rejects.
abbrev pub IsUnsaid : Command → Option Files → Option Files → Option (List ℕ) → Option (List ℕ) → Type 0
IsUnsaid c old new written printed =
    ((cells : ℕ) × AppendsPrefix (done_line cells) written printed × IsDone c old new cells)
    ⊎ ((cause : Cause) × AppendsPrefix (fault_line (read_by c) cause) written printed × IsRejected c old new cause)

-- what the command leaves where memory runs out: all that it is to do is done, or no file was changed
abbrev pub IsUntold : Command → Option Files → Option Files → Type 0
IsUntold c old new = ((cells : ℕ) × IsDone c old new cells) ⊎ (new ≡ old)
