use Rattle.gos_terms.proofs.regions.SpanLemmas.{ties_span}
use Rattle.gos_terms.proofs.laws.regions.spans.Goals as goal

pub returns : goal.returns
returns c = ties_span
