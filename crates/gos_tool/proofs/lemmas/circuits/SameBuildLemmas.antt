-- What is so of a build is so of another that says the same (`whole`): how its plans are linked, and why they aren't.
use Rattle.std.proofs.Common.{◌≡◌, ◌∙◌, inl, inr, ℕ, List, [], ◌∷◌, Option, Some, None, map, length, ap, subst}
use Rattle.gos_lex.specs.Lines.{Word}
use Rattle.gos_plan.specs.Plans.{Plan}
use Rattle.gos_plan.specs.Seen.{SeenPlan}
use Rattle.gos_plan.specs.Joining.{Wiring, all_left}
use Rattle.gos_link.specs.declared.build.Bind.{Bind}
use Rattle.gos_link.specs.declared.build.Build.{Build}
use Rattle.gos_link.specs.declared.build.Instance.{Instance}
use Rattle.gos_link.specs.declared.services.Service.{Service}
use Rattle.gos_link.specs.declared.fault.LinkFault.{LinkFault}
use Rattle.gos_link.specs.declared.fault.LinkFault.TheVariants as faults
use Rattle.gos_link.specs.BuildFile.{RootLine, Sum, whole}
use Rattle.gos_link.specs.Services.{BindsOn, instance_named}
use Rattle.gos_link.specs.Linked.{AreDifferent, AreLinks, IsGrounded, IsLight, IsLinked, IsNamed, IsPlaced, IsSecond, IsUnlinked, IsWrongWhole, Port, SeenLinks, first_unplaced, port_of, ports_of, whole_of}

abbrev line_in : Option RootLine → ℕ
line_in None = 0
line_in (Some root) = root.line

abbrev name_in : Option RootLine → Word
name_in None = []
name_in (Some root) = root.name

abbrev pub file_in : Option Word → Word
file_in None = []
file_in (Some file) = file

module _ (b c : Build) (same : whole b ≡ whole c) where
  pub instances_same : b.instances.items ≡ c.instances.items
  instances_same = ap (λ (s : Sum). s.instances) same

  pub binds_same : b.binds.items ≡ c.binds.items
  binds_same = ap (λ (s : Sum). s.binds) same

  line_same : b.root_line ≡ c.root_line
  line_same = ap (λ (s : Sum). line_in s.root) same

  pub root_same : b.root ≡ c.root
  root_same = ap (λ (s : Sum). name_in s.root) same

  pub net_same : b.net ≡ c.net
  net_same = ap (λ (s : Sum). file_in s.net) same

  pub verilog_same : b.verilog ≡ c.verilog
  verilog_same = ap (λ (s : Sum). file_in s.verilog) same

  pub pulses_same : b.pulses ≡ c.pulses
  pulses_same = ap (λ (s : Sum). file_in s.pulses) same

  pub trace_same : b.trace ≡ c.trace
  trace_same = ap (λ (s : Sum). file_in s.trace) same

  found_too : (root : ℕ) → instance_named b.instances.items b.root ≡ Some root → instance_named c.instances.items c.root ≡ Some root
  found_too root found =
      subst (λ (name : Word). instance_named c.instances.items name ≡ Some root) root_same
      (subst (λ (is : List Instance). instance_named is b.root ≡ Some root) instances_same found)

  unfound_too : instance_named b.instances.items b.root ≡ None → instance_named c.instances.items c.root ≡ None
  unfound_too found =
      subst (λ (name : Word). instance_named c.instances.items name ≡ None) root_same
      (subst (λ (is : List Instance). instance_named is b.root ≡ None) instances_same found)

  ports_same : (w : Wiring) → ports_of b w ≡ ports_of c w
  ports_same w =
      ap (λ (is : List Instance). record { name = b.root; instance = b.root } ∷ map (port_of is) (all_left w)) instances_same
      ∙ ap (λ (name : Word). record { name = name; instance = name } ∷ map (port_of c.instances.items) (all_left w)) root_same

  module _ (ps : List SeenPlan) (ss : List Service) where
    binds_too : (ending : Option LinkFault) → BindsOn b.instances.items ps [] b.binds.items ss ending → BindsOn c.instances.items ps [] c.binds.items ss ending
    binds_too ending binds =
        subst (λ (bs : List Bind). BindsOn c.instances.items ps [] bs ss ending) binds_same
        (subst (λ (is : List Instance). BindsOn is ps [] b.binds.items ss ending) instances_same binds)

    placed_too : (root : ℕ) → IsPlaced b ss root → IsPlaced c ss root
    placed_too root placed =
        record {
          finds_root = found_too root placed.finds_root;
          placed = subst (λ (is : List Instance). first_unplaced root ss 0 is ≡ None) instances_same placed.placed;
        }

    named_too : (root : ℕ) → IsNamed b ps ss root → IsNamed c ps ss root
    named_too root named =
        record {
          placed = placed_too root named.placed;
          names = subst (λ (ports : List Port). AreDifferent (length ports) ports) (ports_same (whole_of ps ss root)) named.names;
        }

    grounded_too : (root : ℕ) → IsGrounded b ps ss root → IsGrounded c ps ss root
    grounded_too root grounded = record { named = named_too root grounded.named; result = grounded.result; imports = grounded.imports }

    light_too : (root : ℕ) → IsLight b ps ss root → IsLight c ps ss root
    light_too root light = record { grounded = grounded_too root light.grounded; weight = light.weight }

    wrong_whole_too : (fault : LinkFault) → IsWrongWhole b ps ss fault → IsWrongWhole c ps ss fault
    wrong_whole_too (faults.NoInstance line name) (at, is, none) = (at ∙ line_same, is ∙ root_same, unfound_too none)
    wrong_whole_too (faults.Unplaced name) (root, found, unplaced) =
        (root, found_too root found, subst (λ (is : List Instance). first_unplaced root ss 0 is ≡ Some name) instances_same unplaced)
    wrong_whole_too (faults.OpenTwice name first second) (root, one, other, placed, twice, is, at, also) =
        (root, one, other, placed_too root placed, subst (λ (ports : List Port). IsSecond ports one other) (ports_same (whole_of ps ss root)) twice, is, at, also)
    wrong_whole_too (faults.NotGround name) (root, named, inl (higher, is)) = (root, named_too root named, inl (higher, is ∙ root_same))
    wrong_whole_too (faults.NotGround name) (root, named, inr higher) = (root, named_too root named, inr higher)
    wrong_whole_too (faults.TooHeavy weight) (root, grounded, is, heavy) = (root, grounded_too root grounded, is, heavy)
    wrong_whole_too (faults.TooLarge size ports) (root, p, light, joining, is, also, above) = (root, p, light_too root light, joining, is, also, above)
    wrong_whole_too (faults.Form line) wrong = wrong
    wrong_whole_too (faults.NoImport line name) wrong = wrong
    wrong_whole_too (faults.TypeDiffers line want got) wrong = wrong
    wrong_whole_too (faults.BoundTwice first second) wrong = wrong
    wrong_whole_too (faults.UsedTwice first second) wrong = wrong
    wrong_whole_too (faults.Loop line) wrong = wrong
    wrong_whole_too faults.NoMemory wrong = wrong

  pub links_too : (ps : List SeenPlan) (links : SeenLinks) → AreLinks b ps links → AreLinks c ps links
  links_too ps links are =
      record { binds = binds_too ps links.services None are.binds; grounded = grounded_too ps links.services links.root are.grounded }

  pub linked_too : (ps : List SeenPlan) (p : Plan) → IsLinked b ps p → IsLinked c ps p
  linked_too ps p linked =
      record {
        services = linked.services;
        root = linked.root;
        binds = binds_too ps linked.services None linked.binds;
        light = light_too ps linked.services linked.root linked.light;
        joining = linked.joining;
        order = linked.order;
        small = linked.small;
        few = linked.few;
      }

  pub unlinked_too : (ps : List SeenPlan) (fault : LinkFault) → IsUnlinked b ps fault → IsUnlinked c ps fault
  unlinked_too ps fault (inl (ss, binds)) = inl (ss, binds_too ps ss (Some fault) binds)
  unlinked_too ps fault (inr (ss, binds, wrong)) = inr (ss, binds_too ps ss None binds, wrong_whole_too ps ss fault wrong)
