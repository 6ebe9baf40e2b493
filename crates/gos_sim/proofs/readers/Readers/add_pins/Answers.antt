use Rattle.gos_sim.proofs.readers.Readers.add_pins.Goals as goal

pub returns-in_ok-add_two-in-Mux-clause-linked : goal.returns-in_ok-add_two-in-Mux-clause-linked
returns-in_ok-add_two-in-Mux-clause-linked c = λ words low linked.
    c.in_ok-add_two-in-Mux.ensures.linked words low (c.in_ok-add-in-Mux.ensures.linked words low linked)
