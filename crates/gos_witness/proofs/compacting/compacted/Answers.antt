use Rattle.std.proofs.Common.{rules, ◌≡◌, ℕ, List, Option, Some, sym, subst}
use Rattle.std.specs.Prelude.{IfSome}
use Rattle.gos_witness.specs.inner.Compaction.{ArePlaces, IsCopy}
use Rattle.gos_witness.proofs.compacting.compacted.Goals as goal

pub returns : goal.returns
returns c =
    let l = c.args.list.now in
    let k = c.copy_marked.new.kept in
    let begins = c.in_ok-places.ensures.begins in
    let are = subst (λ (xs : List (Option ℕ)). ArePlaces l k c.args.base xs) (sym c.as_slice-2.ensures.value) c.in_ok-places.ensures.places in
    let found : c.place_of.result ≡ Some c.in-Some.root = search rules in (
      begins,
      subst (λ (o : Option ℕ). IfSome o (IsCopy l k c.args.root)) found (c.place_of.ensures l k begins are),
    )
