use Rattle.std.proofs.Common.{sym, subst, ◌∙◌, ◌≤◌, ℕ, List}
use Rattle.gos_ties.specs.declared.joining.Bond.{Bond}
use Rattle.gos_ties.specs.inner.Joined.{AreFar, far_at, touches}
use Rattle.gos_ties.proofs.ThinLemmas.{few_bonds, free_bonds}
use Rattle.gos_ties.proofs.joints.tables_of.Goals as goal

pub far_ends-requires-clause-few : goal.far_ends-requires-clause-few
far_ends-requires-clause-few c =
    subst (λ (bs : List Bond). (k : ℕ) → touches k bs ≤ 2) (sym (c.deref.ensures.value ∙ c.in_ok-bonds.ensures.bonds))
    (few_bonds c.in_ok-numbers.numbers.points.keys c.args.ties.now c.requires c.in_ok-numbers.ensures)

pub returns : goal.returns
returns c =
    record {
      numbered = c.in_ok-numbers.ensures;
      far = subst (λ (bs : List Bond). AreFar bs (far_at c.in_ok-far.far.items)) (c.deref.ensures.value ∙ c.in_ok-bonds.ensures.bonds) c.in_ok-far.ensures.far;
      free = free_bonds c.in_ok-numbers.numbers.points.keys c.args.ties.now c.requires c.in_ok-numbers.ensures;
    }
