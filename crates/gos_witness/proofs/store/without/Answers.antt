use Rattle.std.proofs.Common.{rules, ◌≡◌, List, ap, subst, sym, ◌∙◌}
use Rattle.std.specs.List.{filter}
use Rattle.std.proofs.lemmas.Fn.{filter_same}
use Rattle.gos_witness.specs.declared.store.Entry.{Entry}
use Rattle.gos_witness.specs.inner.Rows.{AreNarrow, entries_of}
use Rattle.gos_witness.proofs.StoreLemmas.{is_other, filter_without, filter_narrow}
use Rattle.gos_witness.proofs.store.without.Goals as goal

pub returns : goal.returns
returns c =
    let p = c.args.place in
    let s = c.args.store.now.items in
    let kept : c.retain.new.self.items ≡ filter (is_other p) s = filter_same _ (is_other p) _ (λ x b f' k. search rules) _ _ c.retain.ensures.filtered in
    record {
      left = ap (λ (r : List Entry). entries_of r) kept ∙ filter_without p s;
      narrow = λ are. subst (λ (r : List Entry). AreNarrow r) (sym kept) (filter_narrow p s are);
    }
