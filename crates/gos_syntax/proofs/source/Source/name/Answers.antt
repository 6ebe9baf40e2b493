use Rattle.gos_syntax.specs.Symbols.{SomeName}
use Rattle.gos_syntax.proofs.ItemLemmas.{no_name_there, no_name_past}
use Rattle.gos_syntax.proofs.StopLemmas.{stops_at_token}
use Rattle.gos_syntax.proofs.source.Source.name.Goals as goal

pub returns-then-at-self-clause-refused : goal.returns-then-at-self-clause-refused
returns-then-at-self-clause-refused c =
    stops_at_token c.args.self.now SomeName c.args.at c.requires.within (no_name_past c.args.self.now c.args.at c.if-at-self.true)

pub returns-in_default : goal.returns-in_default
returns-in_default c =
    record {
      within = tt;
      name = tt;
      refused =
          stops_at_token c.args.self.now SomeName c.args.at c.requires.within
          (no_name_there c.args.self.now c.args.at _ c.if-at-self.false c.in_default.not-Name);
    }
