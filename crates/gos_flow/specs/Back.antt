-- The way back. Laws of these definitions, for all files.
--
-- Read first: Run, Complete.
use Rattle.std.specs.Prelude.{◌≡◌, ℕ, Option, Some}
use Rattle.gos_outside.specs.Files.{Files, bytes_at, with_file}
use Rattle.gos_lex.specs.Lines.{Word}
use Rattle.gos_flow.specs.Command.{ToVerilog, ToNetlist}
use Rattle.gos_flow.specs.Run.{IsDone}

-- a netlist file that is written as Verilog, and this as a netlist again, has its bytes again
abbrev pub NetlistComesBack : Type 0
NetlistComesBack =
    (files held : Files) (new : Option Files) (net ver back : Word) (cells told : ℕ)
    → IsDone (ToVerilog net ver) (Some files) (Some held) cells → IsDone (ToNetlist ver back) (Some held) new told
    → (new ≡ with_file back (bytes_at files net) (Some held)) × (told ≡ cells)

-- and so has a Verilog file that is written as a netlist, and this as Verilog again
abbrev pub VerilogComesBack : Type 0
VerilogComesBack =
    (files held : Files) (new : Option Files) (ver net back : Word) (cells told : ℕ)
    → IsDone (ToNetlist ver net) (Some files) (Some held) cells → IsDone (ToVerilog net back) (Some held) new told
    → (new ≡ with_file back (bytes_at files ver) (Some held)) × (told ≡ cells)
