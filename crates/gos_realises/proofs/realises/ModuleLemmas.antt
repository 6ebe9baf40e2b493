-- The plan of `skip` realises its module: there is nothing to put in, and joined to nothing it is itself.
use Rattle.std.specs.Prelude.{[], ◌∷◌}
use Rattle.std.proofs.Common.{refl, sym, subst}
use Rattle.gos_model.specs.Terms as terms
use Rattle.gos_plan.specs.SmallPlans.{skip_plan}
use Rattle.gos_realises.specs.realises.Realises.{AllPorts}
use Rattle.gos_realises.specs.realises.Modules.{RealisesOpen}
use Rattle.gos_realises.specs.realises.Alone.{SkipModuleIsRealised}
use Rattle.gos_realises.proofs.realises.LiteralLemmas.{literals_same}
use Rattle.gos_realises.proofs.realises.AloneLemmas.{alone_is_itself, order_is_free}
use Rattle.gos_realises.proofs.realises.SkipLemmas.{skip_is_realised}
use Rattle.gos_realises.proofs.realises.SmallLinkLemmas.{skip_is_slim}

skip_is_open : RealisesOpen skip_plan terms.Skip
skip_is_open (s ∷ ss) r supplied join names = absurd supplied
skip_is_open [] r supplied join names =
    let suits = skip_is_realised.suits in
    let same = alone_is_itself skip_plan r suits.right join.joining in
    let keeps = order_is_free skip_plan r suits.right join.joining.right same in
    record {
      suits =
          record {
            right = join.joining.right;
            literals = literals_same r.parts skip_plan.parts same.parts suits.literals;
            outcome = join.joining.outcome;
            all_ports = subst AllPorts (sym join.joining.imports) tt;
            names = names;
            typed = refl;
            regular = keeps.0 suits.regular;
          };
      means = keeps.1 terms.Skip skip_is_realised.means;
    }

pub skip_module_is_realised : SkipModuleIsRealised
skip_module_is_realised =
    let suits = skip_is_realised.suits in
    record {
      right = suits.right;
      names = suits.names;
      result_widths = tt;
      import_widths = tt;
      typed = suits.typed;
      regular = suits.regular;
      slim = skip_is_slim;
      open_imports = skip_is_open;
    }
