use Rattle.gos_witness.proofs.masks.Masks.follow.Goals as goal

pub add_names-requires : goal.add_names-requires
add_names-requires c = c.turn_to.ensures.masks c.args.ports.now c.args.list.now c.requires.masks
