-- A numbered term of the program as clauses see it.
--
-- Read first: Numbering. Between the functions of this crate.
use Rattle.std.specs.Prelude.{◌≡◌, Result, MatchResult}
use Rattle.gos_check.specs.declared.fault.CheckFault.{CheckFault}
use Rattle.gos_check.specs.declared.fault.CheckFault.TheVariants as faults
use Rattle.gos_check.specs.declared.numbering.NumberedTerm.{NumberedTerm}
use Rattle.gos_check.specs.Nodes.{node_seen}
use Rattle.gos_check.specs.Numbering as numbering

-- a numbered term of the program
abbrev pub seen : NumberedTerm → numbering.Result
seen term = record { node = node_seen term.node.value; names = term.names.items; next = term.next }

-- the answer is a numbered term that is seen so, or want of memory
abbrev pub Numbers : numbering.Result → Result NumberedTerm CheckFault → Type 0
Numbers found answer = MatchResult answer (λ r. seen r ≡ found) (λ e. e ≡ faults.NoMemory)
