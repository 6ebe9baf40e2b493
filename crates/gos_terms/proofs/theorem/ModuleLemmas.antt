-- The plan of a checked module realises it, since its term's node, wired to supplies, realises its term.
use Rattle.std.specs.Prelude.{ℕ, List, [], length}
use Rattle.std.proofs.Common.{sym, subst}
use Rattle.gos_types.specs.Types.{Type', type_of}
use Rattle.gos_types.specs.Widths.{HasWidths}
use Rattle.gos_model.specs.Typing.{Typed}
use Rattle.gos_check.specs.Nodes.{node_seen}
use Rattle.gos_check.specs.Checked.{SeenLinear, program_in}
use Rattle.gos_realises.specs.realises.Modules.{HaveWidths}
use Rattle.gos_compile.specs.Wiring.{Types, all_types}
use Rattle.gos_terms.specs.wired.Modules.{numbers_from}
use Rattle.gos_terms.specs.wired.Regular.{RegularWired}
use Rattle.gos_terms.specs.wired.Fitting.{CheckedFits}
use Rattle.gos_terms.specs.numbers.Kept.{CheckedIsKept}
use Rattle.gos_terms.specs.numbers.Unsplit.{CheckedIsUnsplit}
use Rattle.gos_terms.proofs.theorem.SuppliedLemmas.{ModuleLaws, whole_realises, differ_there, typed_there, own_literals}
use Rattle.gos_terms.proofs.theorem.ImportLemmas.{names_differ, have_widths}
use Rattle.gos_terms.specs.regular.Opened.{ModuleIsRegular}
use Rattle.gos_terms.specs.theorem.Terms.{TermIsRegular, TermIsRealised}
use Rattle.gos_terms.specs.theorem.Modules.{ModuleIsOpen, ModuleIsRealised}

abbrev types_of : SeenLinear → Types
types_of l = all_types (program_in l).imports (node_seen l.term)

abbrev numbers_of : SeenLinear → List ℕ
numbers_of l = numbers_from 0 (length (program_in l).imports)

pub module_is_open : ModuleLaws → TermIsRealised → CheckedIsUnsplit → ModuleIsOpen
module_is_open laws term unsplit l w p c of ss r are join differ =
    let (parallels, applications) = unsplit l c in
    whole_realises l w p c of laws (term (types_of l) (numbers_of l) (node_seen l.term) (laws.kept l c) parallels applications) ss r are join differ

pub module_is_realised : ModuleIsOpen → TermIsRegular → ModuleIsRegular → CheckedIsKept → CheckedIsUnsplit → CheckedFits → ModuleIsRealised
module_is_realised opened term modules kept unsplit fits l w p c of slim =
    let (same, makes, paths) = fits l w p c of in
    let (parallels, applications) = unsplit l c in
    let node : RegularWired (types_of l) (numbers_of l) (node_seen l.term) =
    term (types_of l) (numbers_of l) (node_seen l.term) (kept l c) parallels applications in
    record {
      right = of.right;
      names = differ_there l w p c of;
      result_widths = subst HasWidths (sym of.outcome) c.result.0;
      import_widths = subst HaveWidths (sym of.imports) (have_widths l.imports c.imports);
      typed = subst (λ (t : Type'). Typed p.imports [] (program_in l).body t) (sym of.outcome) (typed_there l w p c of);
      regular =
          (modules (program_in l).imports (type_of l.result) w (node_seen l.term) p of same makes paths (names_differ l.imports c.names)
          (own_literals l w p c of) node).0;
      slim = slim;
      open_imports = opened l w p c of;
    }
