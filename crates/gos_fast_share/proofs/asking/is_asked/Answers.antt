use Rattle.std.proofs.Common.{◌+◌, ◌∙◌, sym, ap}
use Rattle.gos_fast_share.specs.Thread.{is_asked}
use Rattle.gos_fast_share.specs.inner.Seen.{all_of, contact_of, from}
use Rattle.gos_fast_share.proofs.AskingLemmas.{asked_there, asked_nowhere}
use Rattle.gos_fast_share.proofs.asking.is_asked.Goals as goal

pub returns-in-Serve : goal.returns-in-Serve
returns-in-Serve c =
    sym (asked_there (all_of c.args.ty.now) c.args.j (contact_of c.in-Some.shared) (from (c.args.j + 1) c.args.ty.now) c.in-Some.ensures ∙ ap is_asked c.in-Serve.is)

pub returns-in_default : goal.returns-in_default
returns-in_default c =
    sym (asked_there (all_of c.args.ty.now) c.args.j (contact_of c.in-Some.shared) (from (c.args.j + 1) c.args.ty.now) c.in-Some.ensures ∙ ap is_asked c.in_default.is)

pub returns-in-None : goal.returns-in-None
returns-in-None c = sym (asked_nowhere (all_of c.args.ty.now) c.args.j c.in-None.ensures)
