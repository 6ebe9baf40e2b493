use Rattle.gos_macro.proofs.laws.causal.gates_are_causal.Goals as goal
use Rattle.gos_macro.proofs.causal.CausalLemmas.{causal}

pub returns : goal.returns
returns c = causal
