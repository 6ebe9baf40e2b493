use Rattle.std.proofs.Common.{◌≡◌, ℕ, ◌+◌, sym, subst, ◌∙◌, ap}
use Rattle.std.specs.Prelude.{length}
use Rattle.gos_types.specs.declared.types.Ty.{Ty}
use Rattle.gos_share.specs.Share.{share_cells}
use Rattle.gos_share.specs.inner.Seen.{all_of}
use Rattle.gos_share.proofs.SharingLemmas.{cells_length}
use Rattle.gos_share.proofs.sharing.SharingMacro.size.Goals as goal

pub returns-clause-cells : goal.returns-clause-cells
returns-clause-cells c = λ base nets.
    subst (λ (t : Ty). length (share_cells (all_of t) base nets) ≡ 4 + c.blocks-2.result) c.self.view_is
    (cells_length (all_of c.self.inside.0.now) base nets ∙ ap (λ (n : ℕ). 4 + n) (sym c.blocks-2.ensures.size))
