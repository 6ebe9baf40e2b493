use Rattle.std.proofs.Common.{rules, ◌≡◌, ◌<◌, ◌++◌, ◌∙◌, true, nat_eq, List, length, take, drop, sym, ap, subst}
use Rattle.std.specs.Prelude.{get_or}
use Rattle.gos_model.specs.Stores.{store_put}
use Rattle.gos_witness.specs.declared.store.Entry.{Entry}
use Rattle.gos_witness.specs.inner.Rows.{AreNarrow, entries_of}
use Rattle.gos_witness.proofs.StoreLemmas.{get_any, put_here, narrow_here}
use Rattle.gos_witness.proofs.store.put.Goals as goal

pub returns-then-store-at-clause-put : goal.returns-then-store-at-clause-put
returns-then-store-at-clause-put c =
    let s = c.loop-at.store in
    let at = c.loop-at.at in
    let read = c.index-store-at.result in
    let old = c.index-store-at-then-store-at.result in
    let known = c.set_number.ensures in
    let p = c.args.place in
    let i = c.args.index in
    let k = c.args.number in
    let same : s ≡ c.args.store.now = c.loop-at.invariant.0 in
    let within : at < length s = search rules in
    let tested : nat_eq (get_or s at read).place p ≡ true = search rules in
    let here : nat_eq (get_or s at old).place p ≡ true = ap (λ (e : Entry). nat_eq e.place p) (get_any s at old read within) ∙ tested in
    put_here s at p i k old c.set_number.new.entry within here (known.place, known.width, known.numbers)
    ∙ (ap (λ (q : List Entry). entries_of (take at q) ++ store_put (entries_of (drop at q)) p i k) same ∙ sym c.loop-at.invariant.1)

pub returns-then-store-at-clause-narrow : goal.returns-then-store-at-clause-narrow
returns-then-store-at-clause-narrow c = λ are.
    narrow_here c.loop-at.store c.loop-at.at c.index-store-at-then-store-at.result c.set_number.new.entry c.set_number.ensures.width
    (subst AreNarrow (sym c.loop-at.invariant.0) are)
