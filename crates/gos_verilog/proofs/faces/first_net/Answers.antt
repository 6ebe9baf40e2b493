use Rattle.gos_verilog.specs.inner.Faces.{first_text}
use Rattle.gos_verilog.proofs.FaceLemmas.{name_passed, no_first_name, within_prefix}
use Rattle.gos_verilog.proofs.faces.first_net.Goals as goal

pub returns-in-Some-clause-face : goal.returns-in-Some-clause-face
returns-in-Some-clause-face c = let found = rw c.in-Some.is at c.whole_name.ensures in found.0

pub returns-in-Some-clause-within : goal.returns-in-Some-clause-within
returns-in-Some-clause-within c =
    let found = rw c.in-Some.is at c.whole_name.ensures in (name_passed c.args.rest.now (first_text c.in-Some.face) c.name_length-len.result found.1 found.2).0

pub returns-in-Some-clause-passed : goal.returns-in-Some-clause-passed
returns-in-Some-clause-passed c =
    let found = rw c.in-Some.is at c.whole_name.ensures in (name_passed c.args.rest.now (first_text c.in-Some.face) c.name_length-len.result found.1 found.2).1

pub returns-in_ok-reach-in-None-clause-wrong : goal.returns-in_ok-reach-in-None-clause-wrong
returns-in_ok-reach-in-None-clause-wrong c =
    no_first_name c.args.places.now c.args.rest.now c.name_length-len.result c.in_ok-reach-in-None.field-0 c.name_length-len.ensures (rw c.in-None.is at c.whole_name.ensures) c.in_ok-reach-in-None.ensures

pub whole_name-requires : goal.whole_name-requires
whole_name-requires c = within_prefix c.args.rest.now c.name_length-len.result c.name_length-len.ensures
