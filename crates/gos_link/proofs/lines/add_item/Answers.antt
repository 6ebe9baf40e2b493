use Rattle.std.proofs.Common.{List, subst, sym}
use Rattle.gos_link.specs.declared.said.Item.{Item}
use Rattle.gos_link.specs.inner.Given.{AreGiven}
use Rattle.gos_link.proofs.GivenLemmas.{given_more}
use Rattle.gos_link.proofs.lines.add_item.Goals as goal

pub returns-clause-given : goal.returns-clause-given
returns-clause-given c =
    λ known. subst (λ (items : List Item). AreGiven items c.add_given.new.given) (sym c.in_ok-push.ensures.items)
    (given_more c.args.items.now.items c.args.item c.args.given.now c.add_given.new.given known c.in_ok-add_given.ensures.instances c.in_ok-add_given.ensures.sources
    c.in_ok-add_given.ensures.others)
