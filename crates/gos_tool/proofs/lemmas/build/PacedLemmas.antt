-- The circuits of modules keep pace with their programs, since their plans realise these, and linked plans the substituted one.
-- They are small, since the plans are slim.
use Rattle.std.specs.Prelude.{◌≡◌, ℕ, zero, suc, List, [], ◌∷◌, map, length, slice_get}
use Rattle.std.proofs.Common.{refl, sym, ◌∙◌, ap, subst, arith}
use Rattle.gos_outside.specs.Files.{Files}
use Rattle.gos_types.specs.Types.{IsDone}
use Rattle.gos_syntax.specs.Modules.{SeenModule}
use Rattle.gos_model.specs.Terms.{Term}
use Rattle.gos_model.specs.Typing.{Imports, Typed}
use Rattle.gos_model.specs.Moves.{Program}
use Rattle.gos_pace.specs.Pace.{KeepsPaceAlways}
use Rattle.gos_model.specs.Sources.{program_of}
use Rattle.gos_model.specs.Linking.{Bind, substituted}
use Rattle.gos_plan.specs.Plans.{Plan}
use Rattle.gos_plan.specs.Seen.{SeenPlan}
use Rattle.gos_realises.specs.realises.Realises.{AllGround}
use Rattle.gos_link.specs.declared.build.Build.{Build}
use Rattle.gos_link.specs.declared.build.Instance.{Instance}
use Rattle.gos_link.specs.declared.services.Service.{Service}
use Rattle.gos_link.specs.Linked.{imports_of, plans_of, IsLinked}
use Rattle.gos_linked.specs.linked.Linked.{name_if, binds_of, linked_program}
use Rattle.gos_linked.specs.fits.Fits.{SlimIsSmall}
use Rattle.gos_linked.specs.linked.Modules.{AreModules, AreWeighed, LinkedIsModule, LinkedHasWeight}
use Rattle.gos_realises.specs.realises.Modules.{RealisesModule}
use Rattle.gos_tool.specs.circuits.Paced.{ModuleCircuitsKeepPace, LinkedCircuitsKeepPace}
use Rattle.gos_tool.specs.build.Objects.{BeginWith, HavePlans}
use Rattle.gos_tool.specs.build.Programs.{imports_if, bind_in, program_along, IsTyped}
use Rattle.gos_tool.specs.build.Paced.{ModuleKeepsPace, BuildKeepsPace, BuildRealises, BuildHasImports, BuildIsTyped, BuildHasWeight, BuildIsSmall}

pub module_keeps_pace : ModuleCircuitsKeepPace → ModuleKeepsPace
module_keeps_pace law layout m plan root net is ground done circuit =
    let body : Term = (program_of m).body in
    let all = subst AllGround (sym is.made.imports) ground in
    let paced = law layout root plan body net is.realises all (subst IsDone (sym is.made.outcome) done) circuit in
    subst (λ (w : ℕ). KeepsPaceAlways w (program_of m) net) is.made.weight
    (subst (λ (i : Imports). KeepsPaceAlways plan.weight (record { imports = i; body = body }) net) is.made.imports paced)

as_many : (ms : List SeenModule) (ps : List SeenPlan) → HavePlans ms ps → length ps ≡ length ms
as_many [] [] have = refl
as_many [] (p ∷ ps) have = absurd have
as_many (m ∷ ms) [] have = absurd have
as_many (m ∷ ms) (p ∷ ps) have = ap suc (as_many ms ps have.1)

-- each plan is that of its module
are_modules : (files : Files) (is : List Instance) (ms : List SeenModule) (ps : List SeenPlan) → BeginWith files is ms → HavePlans ms ps
    → AreModules (plans_of ps) (map program_of ms)
are_modules files is [] [] say have = tt
are_modules files is [] (p ∷ ps) say have = absurd have
are_modules files is (m ∷ ms) [] say have = absurd have
are_modules files [] (m ∷ ms) (p ∷ ps) say have = absurd say
are_modules files (i ∷ is) (m ∷ ms) (p ∷ ps) say have = (
  record { imports = have.0.made.imports; realises = have.0.realises },
  are_modules files is ms ps say.1 have.1,
)

-- what services bind among the plans, they bind among the programs
pub same_imports : (ms : List SeenModule) (ps : List SeenPlan) (n : ℕ) → HavePlans ms ps
    → imports_of (slice_get (plans_of ps) n) ≡ imports_if (slice_get (map program_of ms) n)
same_imports [] [] n have = refl
same_imports [] (p ∷ ps) n have = absurd have
same_imports (m ∷ ms) [] n have = absurd have
same_imports (m ∷ ms) (p ∷ ps) zero have = have.0.made.imports
same_imports (m ∷ ms) (p ∷ ps) (suc n) have = same_imports ms ps n have.1

same_binds : (ms : List SeenModule) (ps : List SeenPlan) (ss : List Service) → HavePlans ms ps
    → binds_of (plans_of ps) ss ≡ map (bind_in (map program_of ms)) ss
same_binds ms ps [] have = refl
same_binds ms ps (s ∷ ss) have =
    let here = same_imports ms ps s.user have in
    let rest = same_binds ms ps ss have in
    λ i. record { user = s.user; import = name_if (slice_get (here i) s.import); giver = s.giver } ∷ rest i

-- the program that is linked is that along the services
same_program : (b : Build) (ms : List SeenModule) (ps : List SeenPlan) (whole : Plan) (l : IsLinked b ps whole) → HavePlans ms ps
    → linked_program b ps whole l (map program_of ms) ≡ program_along ms l.services l.root
same_program b ms ps whole l have = ap (λ (bs : List Bind). substituted (map program_of ms) bs l.root) (same_binds ms ps l.services have)

pub build_keeps_pace : LinkedCircuitsKeepPace → BuildKeepsPace
build_keeps_pace law layout files objects old new b plans weight net compiled done =
    let ms : List SeenModule = compiled.modules in
    let have = compiled.written.plans in
    let whole = done.whole in
    let l = done.linked in
    let all = are_modules files b.instances.items ms plans compiled.written.say have in
    let each : length plans ≡ length b.instances.items = as_many ms plans have ∙ compiled.all in
    let paced = law layout b plans whole (map program_of ms) b.root net l each all done.written.circuit in
    subst (λ (w : ℕ). KeepsPaceAlways w (program_along ms l.services l.root) net) (sym done.weighs)
    (subst (λ (p : Program). KeepsPaceAlways whole.weight p net) (same_program b ms plans whole l have) paced)

pub build_realises : LinkedIsModule → BuildRealises
build_realises is_module layout files objects old new b plans weight net compiled done =
    let ms : List SeenModule = compiled.modules in
    let have = compiled.written.plans in
    let l = done.linked in
    let all = are_modules files b.instances.items ms plans compiled.written.say have in
    let each : length plans ≡ length b.instances.items = as_many ms plans have ∙ compiled.all in
    subst (λ (p : Program). RealisesModule done.whole p.body) (same_program b ms plans done.whole l have)
    (is_module b plans done.whole (map program_of ms) l each all).realises

pub build_has_imports : LinkedIsModule → BuildHasImports
build_has_imports is_module layout files objects old new b plans weight net compiled done =
    let ms : List SeenModule = compiled.modules in
    let have = compiled.written.plans in
    let l = done.linked in
    let all = are_modules files b.instances.items ms plans compiled.written.say have in
    let each : length plans ≡ length b.instances.items = as_many ms plans have ∙ compiled.all in
    (is_module b plans done.whole (map program_of ms) l each all).imports ∙ ap (λ (p : Program). p.imports) (same_program b ms plans done.whole l have)

pub build_is_typed : LinkedIsModule → BuildIsTyped
build_is_typed is_module layout files objects old new b plans weight net compiled done =
    let ms : List SeenModule = compiled.modules in
    let have = compiled.written.plans in
    let l = done.linked in
    let all = are_modules files b.instances.items ms plans compiled.written.say have in
    let each : length plans ≡ length b.instances.items = as_many ms plans have ∙ compiled.all in
    let is = is_module b plans done.whole (map program_of ms) l each all in
    let linked : Program = linked_program b plans done.whole l (map program_of ms) in
    let typed : IsTyped linked done.whole.outcome = subst (λ (i : Imports). Typed i [] linked.body done.whole.outcome) is.imports is.realises.typed in
    subst (λ (p : Program). IsTyped p done.whole.outcome) (same_program b ms plans done.whole l have) typed

-- each plan has its module's weight
are_weighed : (ms : List SeenModule) (ps : List SeenPlan) → HavePlans ms ps → AreWeighed (plans_of ps) (map program_of ms)
are_weighed [] [] have = tt
are_weighed [] (p ∷ ps) have = absurd have
are_weighed (m ∷ ms) [] have = absurd have
are_weighed (m ∷ ms) (p ∷ ps) have = (have.0.made.weight, are_weighed ms ps have.1)

pub build_has_weight : LinkedHasWeight → BuildHasWeight
build_has_weight has_weight layout files objects old new b plans weight net compiled done =
    done.weighs
    ∙ has_weight b plans done.whole (map program_of compiled.modules) done.linked (are_weighed compiled.modules plans compiled.written.plans)

-- the linked plan is slim, since it is that of a module
pub build_is_small : LinkedIsModule → SlimIsSmall → BuildIsSmall
build_is_small is_module small layout files objects old new b plans weight net compiled done =
    let ms : List SeenModule = compiled.modules in
    let have = compiled.written.plans in
    let all = are_modules files b.instances.items ms plans compiled.written.say have in
    let each : length plans ≡ length b.instances.items = as_many ms plans have ∙ compiled.all in
    let few = done.written.circuit.few in
    let size = small done.whole (is_module b plans done.whole (map program_of ms) done.linked each all).realises.slim in
    let weighs = done.weighs in
    omega (arith, few, size, weighs)
