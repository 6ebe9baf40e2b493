use Rattle.gos_sharing.proofs.laws.function_types.small_types.Goals as goal

pub returns-clause-functions : goal.returns-clause-functions
returns-clause-functions c = ((tt, tt), tt)

pub returns-clause-pairs : goal.returns-clause-pairs
returns-clause-pairs c = λ h. h.0
