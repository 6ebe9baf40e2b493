use Rattle.gos_sim.proofs.readers.Readers.add_two.Goals as goal

pub returns-clause-linked : goal.returns-clause-linked
returns-clause-linked c = λ words low linked. c.in_ok-add-2.ensures.linked words low (c.in_ok-add.ensures.linked words low linked)
