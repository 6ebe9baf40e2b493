use Rattle.std.proofs.Common.{◌≡◌, Some, subst}
use Rattle.std.specs.Prelude.{slice_get}
use Rattle.gos_types.specs.declared.types.Ty.{Ty}
use Rattle.gos_types.specs.Types.{type_of}
use Rattle.gos_plan.specs.Kinds.{contacts_of}
use Rattle.gos_share.specs.inner.Seen.{contact_of}
use Rattle.gos_share.proofs.SharedLemmas.{fun_first}
use Rattle.gos_share.proofs.shared.+find.Goals as goal

pub returns-in-Ok-find-3-clause-there : goal.returns-in-Ok-find-3-clause-there
returns-in-Ok-find-3-clause-there t c =
    let there = subst (λ (u : Ty). slice_get (contacts_of (type_of u)) c.args.j ≡ Some (contact_of c.in-Ok-find-3.shared)) c.deref-in-Fun.ensures c.in-Ok-find-3.ensures.there in
    rw c.in-Fun.is (fun_first (type_of c.in-Fun.a.value) (type_of c.in-Fun.b.value) c.args.j (contact_of c.in-Ok-find-3.shared) (contact_of c.turned.result) there c.turned.ensures)
