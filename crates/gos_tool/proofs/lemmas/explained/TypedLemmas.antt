-- The program of right links of accepted modules is typed.
use Rattle.std.specs.Prelude.{◌≡◌, ◌∷◌, [], List, length, map, slice_get}
use Rattle.std.specs.List.{AllByRecursion}
use Rattle.std.proofs.Common.{sym, ◌∙◌, ap, subst}
use Rattle.std.proofs.lemmas.List.{length-map}
use Rattle.gos_types.specs.Types.{Type'}
use Rattle.gos_syntax.specs.Modules.{SeenModule}
use Rattle.gos_model.specs.Typing.{Typed}
use Rattle.gos_model.specs.Moves.{Program}
use Rattle.gos_model.specs.Sources.{program_of}
use Rattle.gos_model.specs.Linking.{Bind, substituted}
use Rattle.gos_check.specs.Accepted.{IsAccepted}
use Rattle.gos_plan.specs.Seen.{SeenPlan, plan_of}
use Rattle.gos_realises.specs.realises.Realises.{NamesDiffer}
use Rattle.gos_terms.proofs.theorem.ImportLemmas.{names_differ}
use Rattle.gos_link.specs.Faces.{Face, face_of, faces_of}
use Rattle.gos_link.specs.Linked.{IsLinkable, SeenLinks, outcome_of, plans_of}
use Rattle.gos_link.specs.declared.build.Build.{Build}
use Rattle.gos_linked.specs.linked.Linked.{AreTypedAs, SubstitutedIsTyped}
use Rattle.gos_witness.specs.Programs.{SeenProgram}
use Rattle.gos_tool.specs.explained.LinkedModules.{IsLinkedAs, IsTypedProgram, StandFor, module_face}
use Rattle.gos_tool.proofs.lemmas.explained.FaceLemmas.{as_many, same_binds}

-- the programs of accepted modules are typed as plans that have their imports and results
are_typed : (ms : List SeenModule) (ps : List SeenPlan) → StandFor ms ps → AllByRecursion IsAccepted ms → AreTypedAs (plans_of ps) (map program_of ms)
are_typed [] [] e all = tt
are_typed [] (p ∷ ps) e all = absurd (cc e)
are_typed (m ∷ ms) [] e all = absurd (cc e)
are_typed (m ∷ ms) (p ∷ ps) e (one, all) =
    let first : face_of p ≡ module_face m = cc e in
    let rest : faces_of ps ≡ map module_face ms = cc e in
    let imports : (plan_of p).imports ≡ (program_of m).imports = ap (λ (f : Face). f.imports) first in (
      record {
        imports = imports;
        names = subst NamesDiffer (sym imports) (names_differ m.imports one.names);
        typed = subst (λ (f : Face). Typed f.imports [] (program_of m).body f.outcome) (sym first) one.typed;
      },
      are_typed ms ps rest all,
    )

pub as_instances : (b : Build) (ms : List SeenModule) (ps : List SeenPlan) → StandFor ms ps → IsLinkable b ps → length ms ≡ length b.instances.items
as_instances b ms ps stand is = sym (as_many ms ps stand) ∙ (length-map ps plan_of ∙ is.each)

pub linked_typed : SubstitutedIsTyped → (b : Build) (ms : List SeenModule) (ls : SeenLinks) (p : SeenProgram) → length ms ≡ length b.instances.items
    → AllByRecursion IsAccepted ms → IsLinkedAs b ms ls p → IsTypedProgram p
linked_typed law b ms ls p size all is =
    let (ps, stand, are) = is.links in
    let each : length ps ≡ length b.instances.items = sym (length-map ps plan_of) ∙ (as_many ms ps stand ∙ size) in
    let t : Type' = outcome_of (slice_get (plans_of ps) ls.root) in
    let of_plans = law b ps ls (map program_of ms) are each (are_typed ms ps stand all) in
    let of_modules =
    subst (λ (bs : List Bind). Typed (substituted (map program_of ms) bs ls.root).imports [] (substituted (map program_of ms) bs ls.root).body t)
    (same_binds ms ps stand ls.services) of_plans
    in
    (t, subst (λ (q : Program). Typed q.imports [] q.body t) (sym is.program.program) of_modules)
