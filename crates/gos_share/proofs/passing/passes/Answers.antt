use Rattle.std.proofs.Common.{◌≡◌, ◌+◌, length, List, sym, ◌∙◌, arith}
use Rattle.std.specs.Prelude.{min}
use Rattle.std.proofs.lemmas.List.{length-map}
use Rattle.gos_types.specs.Types.{type_of}
use Rattle.gos_types.specs.Handshakes.{handshakes_of}
use Rattle.gos_plan.specs.Kinds.{Contact, contact}
use Rattle.gos_plan.proofs.TypeLemmas.{size_le}
use Rattle.gos_share.specs.Share.{block_passing}
use Rattle.gos_share.specs.inner.Seen.{all_of, from, contact_of}
use Rattle.gos_share.proofs.ApartLemmas.{passes_there, passes_nowhere}
use Rattle.gos_share.proofs.passing.passes.Goals as goal

pub count-requires : goal.count-requires
count-requires c =
    let nodes = size_le (type_of c.args.ty.now) in
    let long = length-map (handshakes_of (type_of c.args.ty.now)) contact in
    let few = c.requires in
    omega (arith, nodes, long, few)

pub returns-in-Some : goal.returns-in-Some
returns-in-Some c =
    let ks : List Contact = all_of c.args.ty.now in
    let lower : c.min-j.result ≡ min c.args.from c.args.to = c.min-j.ensures in
    let count : c.count.result ≡ length ks = c.count.ensures ∙ sym (length-map (handshakes_of (type_of c.args.ty.now)) contact) in
    let there = passes_there (length ks) 0 c.min-j.result ks (contact_of c.in-Some.k) (from (c.min-j.result + 1) c.args.ty.now) c.args.from c.args.to
    c.in-Some.ensures (omega (arith, lower)) in
    c.passes_at.ensures ∙ ((λ i. block_passing c.in-Some.k.role (count i) (lower i) c.args.from c.args.to) ∙ sym there)

pub returns-in-None : goal.returns-in-None
returns-in-None c =
    let ks : List Contact = all_of c.args.ty.now in
    let lower = c.min-j.ensures in
    sym (passes_nowhere (length ks) 0 c.min-j.result ks c.args.from c.args.to c.in-None.ensures (omega (arith, lower)))
