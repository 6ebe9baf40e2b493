-- Causality of the gates of Skip.
use Rattle.std.proofs.Common.{◌≡◌, false, [], Some, refl, subst, arith}
use Rattle.gos_plan.specs.Kinds.{Skip}
use Rattle.gos_plan.specs.Firing.{Rest, at}
use Rattle.gos_macro.specs.Gates.{Outgoing, Bare, NetsShow, nothing_pending}
use Rattle.gos_macro.specs.SmallGates.{skip_cells, skip_outs, skip_stands}
use Rattle.gos_macro.specs.SmallPaths.{skip_passing}
use Rattle.gos_macro.specs.laws.SkipKept.{skip_gates}
use Rattle.gos_macro.specs.laws.SkipPaths.{skip_paths}
use Rattle.gos_macro.specs.causal.SmallCausal.{joined, asked_once, none, SkipFiresPartly, SkipFiresByNone, SkipIsCausal, SkipShowsItsAnswer, TwoAreNotShown, DemandIsNeeded}
use Rattle.gos_macro.proofs.causal.CausalLemmas.{follow_rows, are_causal}

pub skip_fires_partly : SkipFiresPartly
skip_fires_partly =
    record {
      before = λ h. false;
      behind = λ h. false;
      top = 1;
      above = λ h small. omega arith;
      fires = (_, [], refl, (tt, tt), refl, (refl, refl, refl));
    }

pub skip_fires_by_none : SkipFiresByNone
skip_fires_by_none =
    record {
      before = λ h. false;
      behind = λ h. false;
      top = 1;
      above = λ h small. omega arith;
      fires = (refl, refl, refl);
    }

pub skip_is_causal : SkipIsCausal
skip_is_causal rank = are_causal Skip skip_cells skip_outs [] nothing_pending skip_stands rank skip_passing (skip_gates rank) skip_paths

pub skip_shows_its_answer : SkipShowsItsAnswer
skip_shows_its_answer = ((λ o is alone. at_first o is), (λ shows. let wrong = shows (Bare 0) refl (omega arith) in omega (arith, wrong)))
  where
    at_first : (o : Outgoing) → Some (Bare 0) ≡ Some o → NetsShow asked_once o 1 0
    at_first o is = let same : Bare 0 ≡ o = cc is in subst (λ (x : Outgoing). NetsShow asked_once x 1 0) same refl

pub two_are_not_shown : TwoAreNotShown
two_are_not_shown v o is alone = absurd (omega (arith, alone))

pub demand_is_needed : DemandIsNeeded
demand_is_needed law =
    skip_shows_its_answer.1
    (law Skip skip_cells skip_outs [] (λ h. 0) skip_passing (skip_gates (λ h. 0)).fits skip_paths 0 [] (at Rest 0) []
    (follow_rows Skip skip_cells skip_outs [] nothing_pending skip_stands (λ h. 0) (skip_gates (λ h. 0)) 0 [] (at Rest 0) refl)
    joined asked_once [] none (at Rest 0) [] (refl, refl, tt) (λ h small is early. cc is) skip_fires_by_none 0 tt)
