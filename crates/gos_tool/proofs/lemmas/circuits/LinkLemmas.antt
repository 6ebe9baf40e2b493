-- From the parts of the command `link` to what the whole leaves.
use Rattle.std.proofs.Common.{◌≡◌, ◌≤◌, ◌∙◌, inl, inr, ℕ, List, [], ◌∷◌, Option, length, ap, sym, subst}
use Rattle.std.specs.Prelude.{IfSome}
use Rattle.gos_outside.specs.Files.{Files, bytes_at, with_file, SameBut}
use Rattle.gos_outside.specs.OtherFiles.{OthersSame}
use Rattle.gos_outside.specs.Faults.{LastFault, WriteFault}
use Rattle.gos_outside.proofs.OtherFilesLemmas.{none_yet, one_more}
use Rattle.gos_lex.specs.Lines.{Word}
use Rattle.gos_netlist.specs.Nets.{Netlist}
use Rattle.gos_netlist.specs.NetText.{text_of}
use Rattle.gos_plan.specs.Plans.{Plan}
use Rattle.gos_plan.specs.Seen.{SeenPlan}
use Rattle.gos_link.specs.BuildFile.{IsBuildFile}
use Rattle.gos_link.specs.Linked.{AllKeepLimits, IsLinkable, plans_of}
use Rattle.gos_link.specs.declared.build.Build.{Build}
use Rattle.gos_link.specs.declared.build.Instance.{Instance}
use Rattle.gos_verilog.specs.VerilogText.{IsVerilogOf}
use Rattle.gos_command.specs.Files.{IsReadWhole}
use Rattle.gos_command.specs.declared.report.Report.TheVariants as reports
use Rattle.gos_command.specs.declared.status.Fault.{Fault}
use Rattle.gos_command.proofs.EndLemmas.{of_some, of_some_both}
use Rattle.gos_tool.specs.Causes.{IsFileFault}
use Rattle.gos_tool.specs.declared.circuits.layout.Layout.{Layout}
use Rattle.gos_tool.specs.declared.circuits.layout.Layout.TheVariants.{Few}
use Rattle.gos_tool.specs.circuits.Circuit.{IsCircuitOf}
use Rattle.gos_tool.specs.circuits.Paced.{LinkedCircuitsKeepPace}
use Rattle.gos_tool.specs.circuits.Objects.{HoldPlans, RejectsObject, IsObjectCall}
use Rattle.gos_tool.specs.circuits.Plans.{with_net, IsWritten, IsPlansDone, IsPlansCause, IsWriteCall, IsPlansCall, IsWriteCutShort, IsPlansCutShort}
use Rattle.gos_tool.specs.circuits.Linked.{SaysBuild, IsLinkDone, RejectsLink, IsLinkCall, IsLinkCutShort, KeepsUnnamed}

-- the build file says what was read
pub says_build : (told : Option Files) (own : Word) (read : List ℕ) (b : Build) → IfSome told (λ files. IsReadWhole 65536 read (bytes_at files own))
    → IsBuildFile read own b → IfSome told (λ files. SaysBuild files own b)
says_build told own read b whole is =
    of_some (λ files. IsReadWhole 65536 read (bytes_at files own)) (λ files. SaysBuild files own b) told
    (λ files h. subst (λ (text : List ℕ). IsBuildFile text own b) (h.whole is.short) is) whole

-- the build file was read, and says b; no file was written yet
pub record HasRead (old told : Option Files) (own : Word) (b : Build) : Type 0 where
  pub kept : told ≡ old
  pub says : IfSome old (λ files. SaysBuild files own b)

-- the objects of its instances were read too, and hold these plans
pub record HasPlans (old told : Option Files) (own : Word) (b : Build) (plans : List SeenPlan) : Type 0 where
  pub kept : told ≡ old
  pub says : IfSome old (λ files. SaysBuild files own b)
  pub held : IfSome old (λ files. HoldPlans files b.instances.items plans)

module _ {old told : Option Files} {own : Word} {b : Build} (has : HasRead old told own b) (is : List Instance) (same : is ≡ b.instances.items) where
  -- an object is rejected, or can't be read
  pub object_rejected : (fault : Fault) (line : List ℕ) → IfSome told (λ files. RejectsObject files is fault line)
      → IfSome old (λ files. RejectsLink files own fault line)
  object_rejected fault line wrong =
      of_some_both (λ files. SaysBuild files own b) (λ files. RejectsObject files is fault line) (λ files. RejectsLink files own fault line) old
      (λ files says h. inr (b, says, inl (subst (λ (js : List Instance). RejectsObject files js fault line) same h))) has.says
      (subst (λ (o : Option Files). IfSome o (λ files. RejectsObject files is fault line)) has.kept wrong)

  pub object_call : ((text : List ℕ) × IsBuildFile text own b) → (new : Option Files) (fault : LastFault) → new ≡ told → IsObjectCall told is fault
      → IsLinkCall old new own fault
  object_call read new fault kept call =
      inr (
        b,
        (read, has.says),
        inl (
          subst (λ (o : Option Files). IsObjectCall o b.instances.items fault) has.kept (subst (λ (js : List Instance). IsObjectCall told js fault) same call),
          kept ∙ has.kept,
        ),
      )

  -- the plans that were read are those that are linked
  pub has_plans : (new : Option Files) (read plans : List SeenPlan) → plans ≡ read → new ≡ told → IfSome told (λ files. HoldPlans files is read)
      → HasPlans old new own b plans
  has_plans new read plans linked kept held =
      record {
        kept = kept ∙ has.kept;
        says = has.says;
        held =
            subst (λ (ps : List SeenPlan). IfSome old (λ files. HoldPlans files b.instances.items ps)) (sym linked)
            (subst (λ (js : List Instance). IfSome old (λ files. HoldPlans files js read)) same
            (subst (λ (o : Option Files). IfSome o (λ files. HoldPlans files is read)) has.kept held));
      }

-- plans that were made one for each instance can be linked
pub linkable : (b : Build) (is : List Instance) (ps plans : List SeenPlan) → is ≡ b.instances.items → plans ≡ ps → length ps ≡ length is
    → AllKeepLimits (plans_of ps) → length b.instances.items ≤ 65536 → length b.binds.items ≤ 65536 → IsLinkable b plans
linkable b is ps plans same linked each limits few_instances few_binds =
    record {
      each = ap (λ (qs : List SeenPlan). length qs) linked ∙ (each ∙ ap (λ (js : List Instance). length js) same);
      limits = subst (λ (qs : List SeenPlan). AllKeepLimits (plans_of qs)) (sym linked) limits;
      few_instances = few_instances;
      few_binds = few_binds;
    }

module _ {old told : Option Files} {own : Word} {b : Build} {plans : List SeenPlan} (has : HasPlans old told own b plans) (new : Option Files) where
  -- they can't be linked
  pub plans_rejected : (fault : Fault) (line : List ℕ) → IsFileFault own (IsPlansCause b plans) fault line → IfSome old (λ files. RejectsLink files own fault line)
  plans_rejected fault line wrong =
      of_some_both (λ files. SaysBuild files own b) (λ files. HoldPlans files b.instances.items plans) (λ files. RejectsLink files own fault line) old
      (λ files says h. inr (b, says, inr (record { file = wrong.file; cause = (plans, h, wrong.cause); says = wrong.says }))) has.says has.held

  -- a call that linking makes, and what it leaves where memory runs out
  pub plans_call : ((text : List ℕ) × IsBuildFile text own b) → (fault : LastFault) → IsPlansCall Few told new b plans fault → IsLinkCall old new own fault
  plans_call read fault (whole, linked, call) =
      inr (
        b,
        (read, has.says),
        inr (
          whole,
          record { plans = plans; held = has.held; linked = linked },
          subst (λ (o : Option Files). IsWriteCall Few o new b whole fault) has.kept call,
        ),
      )

  pub plans_cut_short : IsPlansCutShort Few told new b plans → IsLinkCutShort old new own
  plans_cut_short (inl kept) = inl (kept ∙ has.kept)
  plans_cut_short (inr (whole, linked, short)) =
      inr (
        b,
        has.says,
        inr (
          whole,
          record { plans = plans; held = has.held; linked = linked },
          subst (λ (o : Option Files). IsWriteCutShort Few o new b whole) has.kept short,
        ),
      )

  pub plans_others : OthersSame (b.net ∷ b.verilog ∷ []) told new → KeepsUnnamed own old new
  plans_others others = inr (b, has.says, subst (λ (o : Option Files). OthersSame (b.net ∷ b.verilog ∷ []) o new) has.kept others)

  -- the whole was written
  pub link_done : LinkedCircuitsKeepPace → length plans ≡ length b.instances.items → (weight : ℕ) (net : Netlist) → IsPlansDone Few told new b plans weight net
      → IsLinkDone old new own (reports.Weight weight)
  link_done law each weight net done =
      record {
        build = b;
        whole = done.whole;
        net = net;
        says = has.says;
        linked = record { plans = plans; held = has.held; linked = done.linked };
        written = subst (λ (o : Option Files). IsWritten Few o new b done.whole net) has.kept done.written;
        pace = λ programs all. law Few b plans done.whole programs b.root net done.linked each all done.written.circuit;
        tells = ap (λ (n : ℕ). reports.Weight n) done.weighs;
      }

-- the netlist of a circuit was written, in these words
pub net_written : (old mid : Option Files) (b : Build) (net given : Netlist) (name : Word) (text printed : List ℕ)
    → given ≡ net → printed ≡ text_of given → text ≡ printed → name ≡ b.net → mid ≡ with_file name text old → mid ≡ with_net old b net
net_written old mid b net given name text printed same is read named written =
    let all : text ≡ text_of net = read ∙ is ∙ ap text_of same in written ∙ (λ i. with_file (named i) (all i) old)

-- and then its Verilog text, or this write failed, or memory ran out
pub is_written : {layout : Layout} (old mid new : Option Files) (b : Build) (whole : Plan) (net : Netlist) (name : Word) (text verilog : List ℕ)
    → IsCircuitOf layout b.root whole net → mid ≡ with_net old b net → IsVerilogOf net verilog → text ≡ verilog → name ≡ b.verilog → new ≡ with_file name text mid
    → IsWritten layout old new b whole net
is_written old mid new b whole net name text verilog circuit written is read named wrote =
    record { verilog = verilog; circuit = circuit; text = is; wrote = wrote ∙ (λ i. with_file (named i) (read i) (written i)) }

pub verilog_call : {layout : Layout} (old mid new : Option Files) (b : Build) (whole : Plan) (net : Netlist) (name : Word) (fault : LastFault)
    → IsCircuitOf layout b.root whole net → mid ≡ with_net old b net → name ≡ b.verilog → fault ≡ WriteFault name → SameBut name mid new
    → IsWriteCall layout old new b whole fault
verilog_call old mid new b whole net name fault circuit written named is same =
    inr (
      net,
      circuit,
      subst (λ (n : Word). fault ≡ WriteFault n) named is,
      subst (λ (told : Option Files). SameBut b.verilog told new) written (subst (λ (n : Word). SameBut n mid new) named same),
    )

pub has_net : {layout : Layout} (old mid new : Option Files) (b : Build) (whole : Plan) (net : Netlist)
    → IsCircuitOf layout b.root whole net → mid ≡ with_net old b net → new ≡ mid → IsWriteCutShort layout old new b whole
has_net old mid new b whole net circuit written kept = inr (net, circuit, kept ∙ written)

-- what the writes leave as it was: that of the netlist, and then that of its Verilog text
pub net_file : (b : Build) (name : Word) (old mid : Option Files) → name ≡ b.net → SameBut name old mid → OthersSame (b.net ∷ b.verilog ∷ []) old mid
net_file b name old mid named first =
    one_more b.net (b.net ∷ b.verilog ∷ []) old old mid (λ other apart. apart.0) (none_yet (b.net ∷ b.verilog ∷ []) old)
    (subst (λ (n : Word). SameBut n old mid) named first)

pub circuit_files : (b : Build) (name other : Word) (old mid new : Option Files) → name ≡ b.net → other ≡ b.verilog → SameBut name old mid → SameBut other mid new
    → OthersSame (b.net ∷ b.verilog ∷ []) old new
circuit_files b name other old mid new named called first second =
    one_more b.verilog (b.net ∷ b.verilog ∷ []) old mid new (λ other apart. apart.1.0) (net_file b name old mid named first)
    (subst (λ (n : Word). SameBut n mid new) called second)
