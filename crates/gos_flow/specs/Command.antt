-- The commands, and their words.
use Rattle.std.specs.Prelude.{String, string_bytes, ◌≡◌, ◌≢◌, ◌++◌, ℕ, List, [], ◌∷◌, map, codes}
use Rattle.std.specs.Global.{Global}
use Rattle.gos_outside.specs.Calls.{StoreCall, Read, Write}
use Rattle.gos_outside.specs.FileName.{IsFileName}
use Rattle.gos_lex.specs.Lines.{Word}

-- a command, with the files that its words name: the one that it reads, and the one that it writes
pub data Command : Type 0 where
  ToVerilog : (net out : Word) → Command
  ToNetlist : (ver out : Word) → Command

abbrev pub read_by : Command → Word
read_by (ToVerilog net out) = net
read_by (ToNetlist ver out) = ver

abbrev pub written_by : Command → Word
written_by (ToVerilog net out) = out
written_by (ToNetlist ver out) = out

-- the words as their bytes
abbrev pub texts : List (String Global) → List Word
texts words = map string_bytes words

-- The words are this command. The file that is written is not the one that is read.
abbrev pub Means : List Word → Command → Type 0
Means words (ToVerilog net out) = (words ≡ codes "verilog" ∷ net ∷ out ∷ []) × IsFileName net × IsFileName out × (out ≢ net)
Means words (ToNetlist ver out) = (words ≡ codes "netlist" ∷ ver ∷ out ∷ []) × IsFileName ver × IsFileName out × (out ≢ ver)

-- the words are no command
abbrev pub MeanNothing : List Word → Type 0
MeanNothing words = (c : Command) → Means words c → ⊥

-- the line for words that are no command
abbrev pub usage_line : List ℕ
usage_line = codes "usage: gos_flow verilog NET OUT | netlist VER OUT" ++ 10 ∷ []

-- The calls of the store that the command makes, in their order. A file is read by one call: a netlist file of its limit and one byte
-- more, a Verilog file of all the bytes that memory may have.
abbrev pub calls_of : Command → List StoreCall
calls_of (ToVerilog net out) = Read net 268435457 ∷ Write out ∷ []
calls_of (ToNetlist ver out) = Read ver 18446744073709551615 ∷ Write out ∷ []
