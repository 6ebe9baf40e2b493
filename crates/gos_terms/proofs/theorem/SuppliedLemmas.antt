-- The plan of a checked module, joined to supplies, is its term's node wired to them, and realises what it means with these.
use Rattle.std.specs.Prelude.{◌≡◌, ℕ, List, [], Option, Some, All, length, slice_get}
use Rattle.std.proofs.Common.{sym, ◌∙◌, ap, subst}
use Rattle.gos_types.specs.Types.{Type', type_of}
use Rattle.gos_types.proofs.BytesLemmas.{bytes_eq_itself}
use Rattle.gos_model.specs.Terms as terms
use Rattle.gos_model.specs.Terms.{Term, Name}
use Rattle.gos_model.specs.Typing.{Imports, import_type, Typed}
use Rattle.gos_model.specs.Linking.{or_import, supplied}
use Rattle.gos_check.specs.Nodes.{Numbered, Meaning, meaning, type_of_node, node_seen}
use Rattle.gos_check.specs.Linearity.{import_at}
use Rattle.gos_check.specs.Checked.{SeenLinear, IsChecked, program_in}
use Rattle.gos_plan.specs.Kinds.{Part}
use Rattle.gos_plan.specs.Plans.{Plan}
use Rattle.gos_plan.specs.TokenBits.{LiteralFits}
use Rattle.gos_realises.specs.realises.Links.{IsJoined}
use Rattle.gos_realises.specs.realises.Realises.{NamesDiffer, Realises}
use Rattle.gos_realises.specs.realises.Modules.{Supply, AreSupplied, term_for, supplying}
use Rattle.gos_realises.proofs.realises.PlaceLemmas.{contains_at}
use Rattle.gos_joining.proofs.renumbered.ImportLemmas.{type_has}
use Rattle.gos_compile.specs.Wiring.{Types, IsPlanOf, all_types}
use Rattle.gos_joining.proofs.renumbered.SupplyLemmas.{supply_of, import_for, at_term}
use Rattle.gos_supplies.specs.typing.Supplied.{SuppliedIsTyped}
use Rattle.gos_terms.specs.meanings.Meanings.{ModuleIsSupplied}
use Rattle.gos_terms.specs.wired.Wired.{Supplies, AreRealised, terms_of}
use Rattle.gos_terms.specs.wired.Modules.{supply_at, numbers_from}
use Rattle.gos_terms.specs.wired.Fitting.{CheckedFits, CheckedIsWired}
use Rattle.gos_terms.specs.wired.NodeFitting.{CheckedStarts}
use Rattle.gos_terms.specs.numbers.Kept.{CheckedIsKept}
use Rattle.gos_terms.specs.ground_forms.Cases.{RealisesWired}
use Rattle.gos_terms.proofs.function_forms.TypeLemmas.{has_leaves}
use Rattle.gos_terms.proofs.theorem.LiteralLemmas.{literals_fit, joined_fit}
use Rattle.gos_terms.proofs.theorem.ImportLemmas.{names_differ, import_there, term_there}

-- the laws of nodes, and of modules
pub record ModuleLaws : Type 0 where
  pub kept : CheckedIsKept
  pub fits : CheckedFits
  pub wired : CheckedIsWired
  pub starts : CheckedStarts
  pub means : ModuleIsSupplied
  pub typed : SuppliedIsTyped

module _ (l : SeenLinear) (w : ℕ) (p : Plan) (c : IsChecked l) (of : IsPlanOf (program_in l).imports (type_of l.result) w (node_seen l.term) p) where
  abbrev imports : Imports
  imports = (program_in l).imports

  abbrev node : Numbered
  node = node_seen l.term

  abbrev types : Types
  types = all_types imports node

  abbrev numbers : List ℕ
  numbers = numbers_from 0 (length imports)

  pub differ_there : NamesDiffer p.imports
  differ_there = subst NamesDiffer (sym of.imports) (names_differ l.imports c.names)

  pub typed_there : Typed p.imports [] (program_in l).body (type_of l.result)
  typed_there = subst (λ (is : Imports). Typed is [] (program_in l).body (type_of l.result)) (sym of.imports) c.typed

  pub own_literals : All LiteralFits p.parts
  own_literals =
      subst (λ (xs : List Part). All LiteralFits xs) (sym of.parts) (literals_fit types imports [] (import_at imports) node (type_of l.result) c.typed)

  module _ (laws : ModuleLaws) (realised : RealisesWired types numbers node) (ss : List Supply) (r : Plan) (are : AreSupplied p.imports ss) (join : IsJoined (supplying p ss) r)
      (differ : NamesDiffer r.imports)
    where
      -- the module's type is the node's
      same_type : type_of l.result ≡ type_of_node node
      same_type = (laws.fits l w p c of).0

      abbrev env : Supplies
      env = supply_at ss

      supplied_there : AreSupplied imports ss
      supplied_there = subst (λ (is : Imports). AreSupplied is ss) of.imports are

      -- what is supplied realises the numbers' terms
      supplies : AreRealised types env numbers
      supplies = (laws.starts l ss c supplied_there).1

      -- and each of its terms has a type under the imports of the whole
      each_typed : (n : ℕ) (s : Supply) → slice_get ss n ≡ Some s → (t : Type') × Typed r.imports [] s.term t
      each_typed n s at =
          let (x, at_x, realised) = import_for p.imports ss n s are at in
          let type : import_type p.imports x.name ≡ Some x.ty =
          type_has p.imports differ_there x.name x (contains_at p.imports n x at_x) (bytes_eq_itself x.name) in
          let term : term_for p.imports ss x.name ≡ Some s.term = at_term p.imports ss x.name n x s differ_there at_x at (bytes_eq_itself x.name) in (
            x.ty,
            subst (λ (o : Option Term). Typed r.imports [] (or_import x.name o) x.ty) term
                (laws.typed p r ss (terms.Import x.name) x.ty are join differ type),
          )

      -- the program with its supplies is what the term means where the imports' numbers stand for these
      means : supplied (term_for p.imports ss) (program_in l).body ≡ meaning (terms_of env) node
      means =
          ap (λ (is : Imports). supplied (term_for is ss) (program_in l).body) of.imports
          ∙ (laws.means imports r.imports ss node (type_of l.result) (has_leaves types node (laws.kept l c).typed)
          (names_differ l.imports c.names) c.typed each_typed stand
          ∙ ap (λ (f : Meaning). meaning f node) (λ i n. term_there ss n i))
        where
          stand : (n : ℕ) (x : Name) → import_at imports n ≡ terms.Import x → (s : Supply) × (slice_get ss n ≡ Some s)
          stand n x e =
              let (i, at_i) = import_there imports n x e in
              let (s, at_s, realised) = supply_of imports ss n i supplied_there at_i in (s, at_s)

      whole_typed : Typed r.imports [] (meaning (terms_of env) node) (type_of_node node)
      whole_typed =
          subst (λ (t : Type'). Typed r.imports [] (meaning (terms_of env) node) t) same_type
          (subst (λ (m : Term). Typed r.imports [] m (type_of l.result)) means
          (laws.typed p r ss (program_in l).body (type_of l.result) are join differ typed_there))

      pub whole_realises : Realises p.outcome r (supplied (term_for p.imports ss) (program_in l).body)
      whole_realises =
          let (pl, wired) = laws.wired l w p r ss c of supplied_there join in
          let node_realised : Realises (type_of_node node) r (meaning (terms_of env) node) =
          realised 0 0 env pl r wired supplies differ
          (joined_fit p.imports p r ss are join own_literals) whole_typed in
          subst (λ (t : Type'). Realises t r (supplied (term_for p.imports ss) (program_in l).body)) (sym (of.outcome ∙ same_type))
          (subst (λ (m : Term). Realises (type_of_node node) r m) (sym means) node_realised)
