-- The demo's files are right for `build`.
use Rattle.std.proofs.Common.{◌≡◌, ℕ, zero, suc, ◌≤◌, List, [], ◌∷◌, length, map, Option, Some, unwrap_or, refl, sym, ap, ◌∙◌, subst, arith}
use Rattle.std.specs.Prelude.{codes}
use Rattle.std.specs.FinMap.{get}
use Rattle.gos_outside.specs.Files.{Files, bytes_at}
use Rattle.gos_lex.specs.Lines.{Word}
use Rattle.gos_types.specs.Types.{Com}
use Rattle.gos_netlist.specs.Nets.{Give, NetPort, Netlist}
use Rattle.gos_check.specs.Accepted.{FoundExactly}
use Rattle.gos_plan.specs.Plans.{Plan}
use Rattle.gos_plan.specs.Seen.{SeenPlan}
use Rattle.gos_link.specs.declared.build.Build.{Build}
use Rattle.gos_link.specs.BuildFile.{IsBuildFile}
use Rattle.gos_link.specs.Answers.{JointsAreFew}
use Rattle.gos_tool.specs.declared.circuits.layout.Layout.TheVariants.{Few}
use Rattle.gos_tool.specs.circuits.Circuit.{Face, face_of, taken_face, plan_faces}
use Rattle.gos_tool.specs.simulate.Complete.{MayRunUnder}
use Rattle.gos_tool.specs.build.Objects.{HavePlans}
use Rattle.gos_tool.specs.build.Complete.{AreRightToBuild, IsNetFor}
use Rattle.gos_tool.specs.demo.DemoFiles.{IsLevelCount, pulse_file, build_file, demo_files}
use Rattle.gos_tool.specs.demo.Demo.{Holds, HoldsEach}
use Rattle.gos_tool.proofs.lemmas.demo.FormLemmas.{demo_build}
use Rattle.gos_tool.proofs.lemmas.demo.KindLemmas.{AMain, ATwice, APass, APair, AnId, HoldSources, modules_of, modules_said, plans_are, as_many}
use Rattle.gos_tool.proofs.lemmas.demo.SortLemmas.{AreOf}
use Rattle.gos_tool.proofs.lemmas.demo.LinkLemmas.{command_c, not_unlinked, linked_ports}
use Rattle.gos_tool.proofs.lemmas.demo.DemoLinkLemmas.{kinds, sorts, services, IsDemoBuild, is_demo_build}
use Rattle.gos_tool.proofs.lemmas.demo.PulseTextLemmas.{HasPorts}
use Rattle.gos_tool.proofs.lemmas.demo.PulseLemmas.{may_run}

-- what a file holds
pub held_at : (files : Files) (name text : List ℕ) → Holds (Some files) (record { name = name; text = text }) → bytes_at files name ≡ text
held_at files name text holds =
    let same : files ≡ holds.all = cc (holds.told) in
    ap (λ (fs : Files). unwrap_or (get fs name) []) same ∙ ap (λ (o : Option (List ℕ)). unwrap_or o []) holds.text

pub hold_sources : (levels : ℕ) (files : Files) → HoldsEach (Some files) (demo_files levels) → HoldSources files
hold_sources levels files hold AMain = held_at files _ _ hold.0
hold_sources levels files hold ATwice = held_at files _ _ hold.1.0
hold_sources levels files hold APass = held_at files _ _ hold.1.1.0
hold_sources levels files hold APair = held_at files _ _ hold.1.1.1.0
hold_sources levels files hold AnId = held_at files _ _ hold.1.1.1.1.0

-- the circuit's ports
record Two (ports : List NetPort) (one other : Face) : Type 0 where
  first : NetPort
  second : NetPort
  are : ports ≡ first ∷ second ∷ []
  is_first : face_of first ≡ one
  is_second : face_of second ≡ other

two_ports : (ports : List NetPort) (one other : Face) → map face_of ports ≡ one ∷ other ∷ [] → Two ports one other
two_ports [] one other e = absurd (cc e)
two_ports (p ∷ []) one other e = absurd (cc e)
two_ports (p ∷ q ∷ []) one other e = record { first = p; second = q; are = refl; is_first = cc e; is_second = cc e }
two_ports (p ∷ q ∷ r ∷ ports) one other e = absurd (cc e)

has_ports : (net : Netlist) (root : Word) (whole : Plan) → root ≡ codes "main" → whole.outcome ≡ Com → whole.imports ≡ command_c ∷ []
    → map face_of net.ports ≡ plan_faces root whole → HasPorts net
has_ports net root whole named outcome imports faces =
    let main : Face = record { name = codes "main"; side = Give; ty = Com } in
    let known : map face_of net.ports ≡ main ∷ taken_face command_c ∷ [] =
    faces ∙ (λ i. record { name = named i; side = Give; ty = outcome i } ∷ map taken_face (imports i)) in
    let two = two_ports net.ports main (taken_face command_c) known in
    record {
      main = two.first;
      c = two.second;
      are = two.are;
      is_main = record { named = ap (λ (f : Face). f.name) two.is_first; sided = ap (λ (f : Face). f.side) two.is_first; typed = ap (λ (f : Face). f.ty) two.is_first };
      is_c = record { named = ap (λ (f : Face). f.name) two.is_second; sided = ap (λ (f : Face). f.side) two.is_second; typed = ap (λ (f : Face). f.ty) two.is_second };
    }

module _ (exactly : FoundExactly) (few : JointsAreFew) (k : ℕ) (low : k ≤ 11) (files : Files) (hold : HoldsEach (Some files) (demo_files (suc k))) (b : Build)
    (known : IsDemoBuild k b)
  where
    plans_known : (ps : List SeenPlan) → HavePlans (modules_of (kinds k)) ps → AreOf ps (sorts k)
    plans_known ps have = plans_are (kinds k) ps have

    plans_each : (ps : List SeenPlan) → HavePlans (modules_of (kinds k)) ps → length ps ≡ length b.instances.items
    plans_each ps have = as_many b.instances.items (kinds k) ps known.sources have

    runs : (net : Netlist) → IsNetFor Few b (modules_of (kinds k)) net → MayRunUnder net (bytes_at files b.pulses)
    runs net is =
        let ps = is.plans in
        let ports = linked_ports few b ps (sorts k) (services k) known.links (plans_known ps is.compiled) (plans_each ps is.compiled) is.whole is.linked in
        let has = has_ports net b.root is.whole known.root ports.0 ports.1 is.circuit.ports in
        let text : bytes_at files b.pulses ≡ (pulse_file (suc k)).text =
        ap (bytes_at files) known.pulses ∙ held_at files (pulse_file (suc k)).name (pulse_file (suc k)).text hold.1.1.1.1.1.0 in
        subst (MayRunUnder net) (sym text) (may_run (suc k) net (omega arith, omega (arith, low)) has)

    right_for : (new : Option Files) (own : Word) → IsBuildFile (bytes_at files own) own b → AreRightToBuild files new own
    right_for new own is =
        record {
          build = b;
          modules = modules_of (kinds k);
          says = is;
          sources = modules_said exactly files b.instances.items (kinds k) (hold_sources (suc k) files hold) known.sources;
          links = λ ps fault have. not_unlinked few b ps (sorts k) (services k) known.links (plans_known ps have) (plans_each ps have) fault;
          runs = λ net made held. runs net made;
        }

-- whatever is left of other files, where these hold the demo's texts
pub demo_is_right : FoundExactly → JointsAreFew → (levels : ℕ) (files : Files) (new : Option Files) → IsLevelCount levels → HoldsEach (Some files) (demo_files levels)
    → bytes_at files (build_file levels).name ≡ (build_file levels).text → AreRightToBuild files new (build_file levels).name
demo_is_right exactly few zero files new count hold own = let some = count.0 in absurd (omega (arith, some))
demo_is_right exactly few (suc k) files new count hold own =
    let most = count.1 in
    let low : k ≤ 11 = omega (arith, most) in
    let made = demo_build k low in
    right_for exactly few k low files hold made.0 (is_demo_build k made.0 low made.2) new (build_file (suc k)).name
    (subst (λ (text : List ℕ). IsBuildFile text (build_file (suc k)).name made.0) (sym own) made.1)
