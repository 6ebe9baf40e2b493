-- The linked plan of modules realises the substituted program as a module, and its netlist keeps pace.
use Rattle.std.specs.Prelude.{◌≡◌, ◌+◌, ℕ, zero, suc, List, [], ◌∷◌, length, Option, Some, None, slice_get}
use Rattle.std.proofs.Common.{refl, sym, ◌∙◌, ap, subst}
use Rattle.std.proofs.lemmas.List.Sums.{sum_by-cons}
use Rattle.gos_types.specs.Types.{IsDone}
use Rattle.gos_types.specs.Widths.{HasWidths}
use Rattle.gos_model.specs.Terms.{Term}
use Rattle.gos_model.specs.Typing.{Imported}
use Rattle.gos_model.specs.Weight.{weight}
use Rattle.gos_model.specs.Moves.{Program}
use Rattle.gos_model.specs.Linking.{Bind, Instances, add_open, giver_of, open_of, open_from, link_weight}
use Rattle.gos_pace.specs.Pace.{KeepsPaceAlways}
use Rattle.gos_plan.specs.Plans.{Plan}
use Rattle.gos_plan.specs.Seen.{SeenPlan}
use Rattle.gos_plan.specs.Joining.{all_weight}
use Rattle.gos_realises.specs.realises.Regular.{IsRegular}
use Rattle.gos_realises.specs.realises.Matched.{RealisesDone, program_of}
use Rattle.gos_realises.specs.realises.Modules.{HaveWidths, RealisesModule}
use Rattle.gos_supplies.specs.ports.Ports.{OpenIsDone}
use Rattle.gos_supplies.proofs.instances.TypeLemmas.{wide_both}
use Rattle.gos_linked.specs.keeping.Paced.{ModulesKeepPace}
use Rattle.gos_link.specs.declared.build.Build.{Build}
use Rattle.gos_link.specs.Linked.{plans_of, outcome_of, IsLinked}
use Rattle.gos_link.specs.Answers.{EachRight}
use Rattle.gos_linked.specs.fits.Fits.{AreSlim, LinkedIsSlim}
use Rattle.gos_linked.specs.linked.Linked.{binds_of, linked_program, AreRealised, LinkedIsRealised, LinkedIsGround}
use Rattle.gos_linked.specs.linked.Modules.{AreModules, LinkedIsModule, LinkedIsDone, LinkedKeepsPace, AreWeighed, LinkedHasWeight}

-- what is asked of each instance
each_realised : (ps : List Plan) (ms : Instances) → AreModules ps ms → AreRealised ps ms
each_realised [] [] all = tt
each_realised [] (m ∷ ms) all = absurd all
each_realised (p ∷ ps) [] all = absurd all
each_realised (p ∷ ps) (m ∷ ms) (one, all) =
    let of = one.realises in
    (record { imports = one.imports; right = of.right; names = of.names; typed = of.typed; open_imports = of.open_imports }, each_realised ps ms all)

each_right : (ps : List Plan) (ms : Instances) → AreModules ps ms → EachRight ps
each_right [] [] all = tt
each_right [] (m ∷ ms) all = absurd all
each_right (p ∷ ps) [] all = absurd all
each_right (p ∷ ps) (m ∷ ms) (one, all) = (one.realises.right, each_right ps ms all)

each_slim : (ps : List Plan) (ms : Instances) → AreModules ps ms → AreSlim ps
each_slim [] [] all = tt
each_slim [] (m ∷ ms) all = absurd all
each_slim (p ∷ ps) [] all = absurd all
each_slim (p ∷ ps) (m ∷ ms) (one, all) = (one.realises.slim, each_slim ps ms all)

-- the numbers of imports that stay, and those of the root's result
pub wide_open : (bs : List Bind) (u : ℕ) (is : List Imported) → HaveWidths is → HaveWidths (open_of bs u is)
wide_open bs u [] wide = tt
wide_open bs u (i ∷ is) (one, wide) = by_giver (giver_of bs u i.name) (wide_open bs u is wide)
  where
    by_giver : (o : Option ℕ) → HaveWidths (open_of bs u is) → HaveWidths (add_open o i (open_of bs u is))
    by_giver None rest = (one, rest)
    by_giver (Some g) rest = rest

all_wide : (bs : List Bind) (u : ℕ) (ps : List Plan) (ms : Instances) → AreModules ps ms → HaveWidths (open_from bs u ms)
all_wide bs u [] [] all = tt
all_wide bs u [] (m ∷ ms) all = absurd all
all_wide bs u (p ∷ ps) [] all = absurd all
all_wide bs u (p ∷ ps) (m ∷ ms) (one, all) =
    wide_both (open_of bs u m.imports) (open_from bs (suc u) ms) (wide_open bs u m.imports (subst HaveWidths one.imports one.realises.import_widths))
    (all_wide bs (suc u) ps ms all)

result_wide : (ps : List Plan) (ms : Instances) (n : ℕ) → AreModules ps ms → HasWidths (outcome_of (slice_get ps n))
result_wide [] ms n all = tt
result_wide (p ∷ ps) [] n all = absurd all
result_wide (p ∷ ps) (m ∷ ms) zero (one, all) = one.realises.result_widths
result_wide (p ∷ ps) (m ∷ ms) (suc n) (one, all) = result_wide ps ms n all

module _ (realises : LinkedIsRealised) (ground : LinkedIsGround) (open_is_done : OpenIsDone) (b : Build) (ps : List SeenPlan)
    (p : Plan) (ms : Instances) (l : IsLinked b ps p) (each : length ps ≡ length b.instances.items) (all : AreModules (plans_of ps) ms)
  where
    are : AreRealised (plans_of ps) ms
    are = each_realised (plans_of ps) ms all

    imports : p.imports ≡ (linked_program b ps p l ms).imports
    imports = (realises b ps p ms l each are).imports

    wide : HaveWidths p.imports
    wide = subst HaveWidths (sym imports) (all_wide (binds_of (plans_of ps) l.services) 0 (plans_of ps) ms all)

    done : IsDone p.outcome
    done = subst IsDone (sym l.joining.outcome) l.light.grounded.result

    regular_done : IsRegular p × RealisesDone p (linked_program b ps p l ms).body
    regular_done =
        let r = realises b ps p ms l each are in
        open_is_done p (linked_program b ps p l ms).body r.right (ground b ps p l) wide r.names r.open_imports done

    same_program : program_of p (linked_program b ps p l ms).body ≡ linked_program b ps p l ms
    same_program = ap (λ (is : List Imported). record { imports = is; body = (linked_program b ps p l ms).body }) imports

    a_module : LinkedIsSlim → RealisesModule p (linked_program b ps p l ms).body
    a_module slim =
        let r = realises b ps p ms l each are in
        record {
          right = r.right;
          names = r.names;
          result_widths = subst HasWidths (sym l.joining.outcome) (result_wide (plans_of ps) ms l.root all);
          import_widths = wide;
          typed = r.typed;
          regular = regular_done.0;
          slim = slim b ps p (record { each = each; right = each_right (plans_of ps) ms all }) (each_slim (plans_of ps) ms all) l;
          open_imports = r.open_imports;
        }

module _ (realises : LinkedIsRealised) (ground : LinkedIsGround) (open_is_done : OpenIsDone) where
  pub linked_is_module : LinkedIsSlim → LinkedIsModule
  linked_is_module slim b ps p ms l each all =
      record {
        imports = imports realises ground open_is_done b ps p ms l each all;
        realises = a_module realises ground open_is_done b ps p ms l each all slim;
      }

  pub linked_is_done : LinkedIsDone
  linked_is_done b ps p ms l each all =
      let both = regular_done realises ground open_is_done b ps p ms l each all in
      (both.1, same_program realises ground open_is_done b ps p ms l each all)

  pub linked_keeps_pace : LinkedIsSlim → ModulesKeepPace → LinkedKeepsPace
  linked_keeps_pace slim keep b ps p ms net l each all of_net =
      let body : Term = (linked_program b ps p l ms).body in
      subst (λ (q : Program). KeepsPaceAlways p.weight q net) (same_program realises ground open_is_done b ps p ms l each all)
      (keep p body net (a_module realises ground open_is_done b ps p ms l each all slim) (ground b ps p l)
      (done realises ground open_is_done b ps p ms l each all) of_net)

weight_sum : (ps : List Plan) (ms : Instances) → AreWeighed ps ms → all_weight ps ≡ link_weight ms
weight_sum [] [] all = refl
weight_sum [] (m ∷ ms) all = absurd all
weight_sum (p ∷ ps) [] all = absurd all
weight_sum (p ∷ ps) (m ∷ ms) (one, all) =
    let rest = weight_sum ps ms all in
    (λ i. one i + rest i) ∙ sym (sum_by-cons (λ (q : Program). weight q.imports q.body) m ms)

pub linked_has_weight : LinkedHasWeight
linked_has_weight b ps p ms l all = l.joining.weight ∙ weight_sum (plans_of ps) ms all
