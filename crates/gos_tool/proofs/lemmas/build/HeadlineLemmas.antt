-- The headline, from what `build` leaves: the texts stand in their files since these have different names, and each bind line
-- names what its service binds.
use Rattle.std.specs.Prelude.{◌≡◌, ◌≢◌, ◌∷◌, [], ℕ, List, Option, Some, None, map, length, slice_get, Bool, cond, unwrap_or, option_map, ◌++◌, get_or}
use Rattle.std.proofs.Common.{sym, ◌∙◌, ap, subst, arith}
use Rattle.std.specs.Str.{bytes_eq}
use Rattle.std.specs.FinMap.{get, insert, get-insert}
use Rattle.std.specs.Cmp.Lexicographic.{nat_list_cmp_total}
use Rattle.std.proofs.lemmas.Slice.Eq.{bytes_eq-Decides}
use Rattle.std.proofs.lemmas.List.Quantifiers.{position-Some}
use Rattle.gos_outside.specs.Files.{Files, bytes_at, with_file}
use Rattle.gos_outside.proofs.FilesLemmas.{others_keep}
use Rattle.gos_lex.specs.Lines.{Word}
use Rattle.gos_syntax.specs.Modules.{SeenModule}
use Rattle.gos_model.specs.Sources.{program_of}
use Rattle.gos_plan.specs.Seen.{SeenPlan, plan_of, import_of}
use Rattle.gos_link.specs.declared.build.Build.{Build}
use Rattle.gos_link.specs.declared.build.Instance.{Instance}
use Rattle.gos_link.specs.declared.build.Bind as lines
use Rattle.gos_link.specs.declared.services.Service.{Service}
use Rattle.gos_link.specs.Services.{BindsOn, import_named, Means}
use Rattle.gos_tool.specs.build.Objects.{BeginWith}
use Rattle.gos_tool.specs.build.Programs.{imports_if, bind_in, program_along}
use Rattle.gos_tool.specs.build.Headline.{SayModules, SayBinds}
use Rattle.std.proofs.lemmas.Option.{slice_get-map, get_or_from_slice_get}
use Rattle.std.proofs.lemmas.Cmp.{eq_by_cmp_equiv}
use Rattle.gos_model.specs.Typing.{Imported, Imports}
use Rattle.gos_plan.specs.Plans.{Plan}
use Rattle.gos_plan.specs.declared.plan.PlanImport.{PlanImport}
use Rattle.gos_link.specs.Linked.{imports_of, plans_of}
use Rattle.gos_linked.specs.linked.Linked.{name_if}
use Rattle.gos_pace.specs.Pace.{KeepsPaceAlways}
use Rattle.gos_netlist.specs.Nets.{Give}
use Rattle.gos_netlist.specs.NetText.{text_of}
use Rattle.gos_tool.specs.circuits.Circuit.{taken_face}
use Rattle.gos_pulse.specs.TraceText.{trace_text}
use Rattle.gos_verilog.specs.VerilogText.{IsVerilogOf}
use Rattle.gos_tool.specs.build.Paced.{HeadlineHolds}
use Rattle.gos_tool.proofs.lemmas.build.PacedLemmas.{same_imports}
use Rattle.gos_tool.proofs.lemmas.build.RoleLemmas.{roles_differ}

-- the modules of instances that begin with them, and are as many
pub say_modules : (files : Files) (is : List Instance) (ms : List SeenModule) → BeginWith files is ms → length ms ≡ length is → SayModules files is ms
say_modules files [] [] begin all = tt
say_modules files (i ∷ is) [] begin all = absurd (omega (arith, all))
say_modules files [] (m ∷ ms) begin all = absurd begin
say_modules files (i ∷ is) (m ∷ ms) begin all = (begin.0, say_modules files is ms begin.1 (omega (arith, all)))

-- an import's name is that under which it is found
named_so : (is : List PlanImport) (name : Word) (k : ℕ) (x : PlanImport) → import_named is name ≡ Some k → slice_get is k ≡ Some x → x.name ≡ name
named_so is name k x found at =
    let (low, test, first) = position-Some (λ (i : PlanImport). bytes_eq i.name name) is k x found in
    let same : get_or is k x ≡ x = get_or_from_slice_get is k x x at in
    (bytes_eq-Decides x.name name).0 (ap (λ (i : PlanImport). bytes_eq i.name name) (sym same) ∙ test)

module _ (is : List Instance) (ms : List SeenModule) (ps : List SeenPlan)
    (same : (n : ℕ) → imports_of (slice_get (plans_of ps) n) ≡ imports_if (slice_get (map program_of ms) n))
  where
    bound_name : (b : lines.Bind) (s : Service) → Means is ps b s → b.import ≡ (bind_in (map program_of ms) s).import
    bound_name b s (p, q, x, line, names, fits) =
        let at_user : slice_get (plans_of ps) s.user ≡ Some (plan_of p) = slice_get-map plan_of ps s.user ∙ ap (option_map plan_of) names.both.of_user in
        let among : slice_get (plan_of p).imports s.import ≡ Some (import_of x) = slice_get-map import_of p.imports s.import ∙ ap (option_map import_of) names.import in
        let there : slice_get (imports_of (slice_get (plans_of ps) s.user)) s.import ≡ Some (import_of x) =
        ap (λ (o : Option Plan). slice_get (imports_of o) s.import) at_user ∙ among in
        let here : slice_get (imports_if (slice_get (map program_of ms) s.user)) s.import ≡ Some (import_of x) =
        ap (λ (xs : List Imported). slice_get xs s.import) (sym (same s.user)) ∙ there in
        sym (named_so p.imports b.import s.import x names.named names.import) ∙ sym (ap name_if here)

    pub say_binds : (before : List Service) (ls : List lines.Bind) (ss : List Service) → BindsOn is ps before ls ss None → SayBinds is ls (map (bind_in (map program_of ms)) ss)
    say_binds before [] [] on = tt
    say_binds before [] (s ∷ ss) on = absurd on
    say_binds before (l ∷ ls) [] on = absurd on
    say_binds before (l ∷ ls) (s ∷ ss) on =
        let (p, q, x, line, names, fits) = on.0.means in
        (names.both.finds_user, bound_name l s on.0.means, names.both.finds_giver, say_binds (before ++ s ∷ []) ls ss on.1)

-- what was written last stands in the file, and what was written before in another
pub found_last : (files : Files) (name bytes : Word) → bytes_at (insert files name bytes) name ≡ bytes
found_last files name bytes =
    ap (λ (o : Option Word). unwrap_or o [])
    (get-insert nat_list_cmp_total files name bytes name ∙ ap (λ (b : Bool). cond b (Some bytes) (get files name)) ((eq_by_cmp_equiv nat_list_cmp_total).refl name))

pub found_before : (files : Files) (name bytes other : Word) → other ≢ name → bytes_at (insert files name bytes) other ≡ bytes_at files other
found_before files name bytes other apart = ap (λ (o : Option Word). unwrap_or o []) (others_keep files name bytes other apart)

-- three files that are written one after another, with three names
record AreHeld (files : Files) (one two : Word) (first second : Word) : Type 0 where
  at_one : bytes_at files one ≡ first
  at_two : bytes_at files two ≡ second

held_files : (old : Option Files) (new : Files) (one two three first second third : Word) → one ≢ two → one ≢ three → two ≢ three
    → Some new ≡ with_file three third (with_file two second (with_file one first old)) → AreHeld new one two first second
held_files None new one two three first second third apart far further e = absurd (cc e)
held_files (Some old) new one two three first second third apart far further e =
    let all : Files = insert (insert (insert old one first) two second) three third in
    let same : new ≡ all = cc e in
    record {
      at_one =
          ap (λ (files : Files). bytes_at files one) same
          ∙ (found_before (insert (insert old one first) two second) three third one far
          ∙ (found_before (insert old one first) two second one apart ∙ found_last old one first));
      at_two =
          ap (λ (files : Files). bytes_at files two) same
          ∙ (found_before (insert (insert old one first) two second) three third two further ∙ found_last (insert old one first) two second);
    }

pub headline_holds : HeadlineHolds
headline_holds layout files held own report is =
    let b : Build = is.build in
    let ms : List SeenModule = is.compiled.modules in
    let done = is.built.written in
    let written = done.written in
    let differ = roles_differ (bytes_at files own) own b is.says in
    let have = is.compiled.written.plans in
    let holds = held_files is.objects held b.net b.verilog b.trace (text_of is.built.net) written.verilog (trace_text is.built.net is.built.traced.run.lines.items is.built.counts.cycles)
    differ.net_verilog differ.net_trace differ.verilog_trace
    (is.built.traced.wrote ∙ ap (λ (o : Option Files). with_file b.trace (trace_text is.built.net is.built.traced.run.lines.items is.built.counts.cycles) o) written.wrote)
    in
    record {
      build = b;
      modules = ms;
      binds = map (bind_in (map program_of ms)) done.linked.services;
      root = done.linked.root;
      net = is.built.net;
      says = is.says;
      sources = say_modules files b.instances.items ms is.compiled.written.say is.compiled.all;
      bound = say_binds b.instances.items ms is.plans (λ n. same_imports ms is.plans n have) [] b.binds.items done.linked.services done.linked.binds;
      named = done.linked.light.grounded.named.placed.finds_root;
      netlist = holds.at_one;
      verilog = subst (λ (text : Word). IsVerilogOf is.built.net text) (sym holds.at_two) written.text;
      accepted = written.circuit.accepted;
      ports = record {
        ty = done.whole.outcome;
        typed = is.typed;
        are = written.circuit.ports ∙ ap (λ (is : Imports). record { name = b.root; side = Give; ty = done.whole.outcome } ∷ map taken_face is) is.imports;
      };
      pace = subst (λ (w : ℕ). KeepsPaceAlways w (program_along ms done.linked.services done.linked.root) is.built.net) is.weighs is.pace;
    }
