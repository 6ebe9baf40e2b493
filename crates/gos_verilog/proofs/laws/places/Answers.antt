use Rattle.gos_verilog.proofs.PlaceLemmas.{one_place, read_is_formed, blank_is_place, earlier_is_none}
use Rattle.gos_verilog.proofs.FrontLemmas.{latch_head, short_head}
use Rattle.gos_verilog.proofs.laws.places.Goals as goal

pub returns-clause-one : goal.returns-clause-one
returns-clause-one c = one_place

pub returns-clause-read : goal.returns-clause-read
returns-clause-read c = read_is_formed

pub returns-clause-blank : goal.returns-clause-blank
returns-clause-blank c = blank_is_place

pub returns-clause-earlier : goal.returns-clause-earlier
returns-clause-earlier c = earlier_is_none

pub returns-clause-head : goal.returns-clause-head
returns-clause-head c = latch_head

pub returns-clause-no_head : goal.returns-clause-no_head
returns-clause-no_head c = short_head
