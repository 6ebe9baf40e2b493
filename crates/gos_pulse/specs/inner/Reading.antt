-- What reading the entries of a pulse file answers where it refuses.
use Rattle.std.specs.Prelude.{◌≢◌, ℕ, List, Some}
use Rattle.gos_netlist.specs.Nets.{Netlist}
use Rattle.gos_lex.specs.Lines.{Statement}
use Rattle.gos_pulse.specs.declared.entries.Entry.{Entry}
use Rattle.gos_pulse.specs.declared.fault.PulseFault.{PulseFault}
use Rattle.gos_pulse.specs.declared.fault.PulseFault.TheVariants as faults
use Rattle.gos_pulse.specs.PulseFile.{ReadsEntries}

-- the fault of the first statement that is no entry; want of memory is free
abbrev pub IsEntriesFault : Netlist → ℕ → List Statement → PulseFault → Type 0
IsEntriesFault net cycles statements fault =
    fault ≢ faults.NoMemory → (entries : List Entry) × ReadsEntries net cycles 0 statements entries (Some fault)
