use Rattle.std.proofs.Common.{rules, ◌≡◌, ◌∙◌, ℕ, List, None, ap}
use Rattle.std.specs.Map.{lookup}
use Rattle.indexmap.proofs.CallerLemmas.{insert_entry-new}
use Rattle.gos_link.specs.inner.Served.{same_import}
use Rattle.gos_link.proofs.ServedLemmas.{lookup_last}
use Rattle.gos_link.proofs.served.add_bound.Goals as goal

pub returns-in_ok-insert : goal.returns-in_ok-insert
returns-in_ok-insert c = λ other.
    let none : lookup (same_import c.args.import) c.args.bound.now.entries ≡ None = search rules in
    ap (λ (entries : List ((ℕ × ℕ) × ℕ)). lookup (same_import other) entries) (c.in_ok-insert.ensures.entries ∙ insert_entry-new same_import c.args.bound.now c.args.import c.args.number none)
    ∙ lookup_last (same_import other) c.args.bound.now.entries c.args.import c.args.number
