use Rattle.std.proofs.Common.{rules, ◌≡◌, ◌<◌, ◌+◌, ◌++◌, ◌∷◌, [], sym, subst, arith, length}
use Rattle.std.proofs.lemmas.List.{get_or_read}
use Rattle.gos_order.specs.declared.links.Entry.{Entry}
use Rattle.gos_order.specs.Rings.{Graph}
use Rattle.gos_order.specs.inner.NodeLists.{at}
use Rattle.gos_order.proofs.LinkLemmas.{chained_out, chained_in, range_kept, sides_kept}
use Rattle.gos_order.proofs.links.Links.add.Goals as goal

pub invariant_of-self-2 : goal.invariant_of-self-2
invariant_of-self-2 c =
    let old = c.self.inside in
    let from = c.args.from in
    let to = c.args.to in
    let place = c.len-place.result in
    let entries = c.push.new.self.items in
    let entry : Entry = record { from = from; to = to; next_out = c.index-next_out.result.now; next_in = c.index-next_in.result.now } in
    let pushed : entries ≡ old.entries.items ++ entry ∷ [] = c.in_ok-push.ensures.items in
    let first : from < length old.last_out.items = subst (λ (g : Graph). from < g.nodes) (sym c.self.view_is) c.requires.from in
    let second : to < length old.last_out.items = subst (λ (g : Graph). to < g.nodes) (sym c.self.view_is) c.requires.to in
    let side : to < length old.last_in.items = omega (arith, second, c.self.invariant.sides) in
    let out : c.index-next_out.result.now ≡ at old.last_out.items from =
    get_or_read old.last_out.items from c.index-next_out.result.now first c.index-next_out.ensures 0 in
    let into : c.index-next_in.result.now ≡ at old.last_in.items to =
    get_or_read old.last_in.items to c.index-next_in.result.now side c.index-next_in.ensures 0 in
    let wanted : Entry = record { from = from; to = to; next_out = at old.last_out.items from; next_in = at old.last_in.items to } in
    let is_entry : entry ≡ wanted = λ i. record { from = from; to = to; next_out = out i; next_in = into i } in
    let counted : place ≡ length old.entries.items + 1 = search rules in
    record {
      sides = sides_kept old c.self.invariant from to place first second entries entry is_entry pushed counted;
      small = omega (arith, c.push.new.self.ok.0, c.push.new.self.small);
      range = range_kept old c.self.invariant from to place first second entries entry is_entry pushed counted;
      out = chained_out old c.self.invariant from to place first second entries entry is_entry pushed counted;
      into = chained_in old c.self.invariant from to place first second entries entry is_entry pushed counted;
    }
