use Rattle.gos_macro.proofs.laws.causal.late_is_unseen.Goals as goal
use Rattle.gos_macro.proofs.causal.CausalLemmas as lemmas

pub returns : goal.returns
returns c = lemmas.late_is_unseen
