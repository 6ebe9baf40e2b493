use Rattle.std.proofs.Common.{List, ℕ, ◌∙◌, ap, set}
use Rattle.std.proofs.lemmas.List.{map-set}
use Rattle.gos_sim.proofs.words.Words.set.Goals as goal

pub returns : goal.returns
returns g c =
    map-set g.W.Word.number c.self.inside.items.items c.args.place c.args.word
    ∙ ap (λ (v : List ℕ). set v c.args.place (g.W.Word.number c.args.word)) c.self.view_is
