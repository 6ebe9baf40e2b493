-- Right links of accepted modules have a program, whose result and open imports may be ports.
use Rattle.std.specs.Prelude.{◌≡◌, ◌<◌, ◌-◌, ◌∷◌, [], ℕ, zero, suc, List, Some, length, map, slice_get}
use Rattle.std.specs.List.{AllByRecursion}
use Rattle.std.proofs.Common.{refl, sym, ◌∙◌, ap, subst, arith, inl, inr}
use Rattle.std.proofs.lemmas.List.{length-map}
use Rattle.std.proofs.lemmas.Option.{slice_get_within}
use Rattle.gos_types.specs.Types.{Type', Com, Exp, Var, Pair, Fun, IsGround, IsDone, type_of}
use Rattle.gos_types.specs.Widths.{HasWidths}
use Rattle.gos_types.proofs.ListLemmas.{mapped_at}
use Rattle.gos_netlist.specs.Writable.{IsPortType}
use Rattle.gos_syntax.specs.Modules.{SeenModule}
use Rattle.gos_model.specs.Terms.{Name}
use Rattle.gos_model.specs.Typing.{Imported, Imports}
use Rattle.gos_model.specs.Moves.{Program}
use Rattle.gos_model.specs.Sources.{import_of, program_of}
use Rattle.gos_model.specs.Linking.{Bind, open_of, open_from}
use Rattle.gos_check.specs.Accepted.{IsAccepted}
use Rattle.gos_plan.specs.Seen.{SeenPlan}
use Rattle.gos_plan.specs.Joining.{LeftImport, Wiring, all_left}
use Rattle.gos_realises.specs.realises.Realises.{AllGround}
use Rattle.gos_realises.specs.realises.Modules.{HaveWidths}
use Rattle.gos_supplies.proofs.instances.TypeLemmas.{wide_both}
use Rattle.gos_terms.proofs.theorem.ImportLemmas.{have_widths}
use Rattle.gos_link.specs.declared.build.Build.{Build}
use Rattle.gos_link.specs.declared.build.Instance.{Instance}
use Rattle.gos_link.specs.declared.services.Service.{Service}
use Rattle.gos_link.specs.Services.{HasService}
use Rattle.gos_link.specs.Linked.{AreDifferent, AreLinks, IsLinkable, Port, SeenLinks, plans_of, port_of, ports_of, whole_of}
use Rattle.gos_link.specs.Linked as links
use Rattle.gos_link.proofs.CountedLemmas.{counted, few_left}
use Rattle.gos_linked.proofs.linked.ChainLemmas.{IsRooted, user_low, giver_low}
use Rattle.gos_linked.proofs.linked.SoundLemmas.{links_rooted}
use Rattle.gos_linked.proofs.linked.OpenLemmas.{ground_in, open_same}
use Rattle.gos_linked.proofs.linked.ModuleLemmas.{wide_open}
use Rattle.gos_witness.specs.declared.binding.Bound.{Bound}
use Rattle.gos_witness.specs.declared.fault.ExplainFault.{ExplainFault}
use Rattle.gos_witness.specs.Programs.{SeenProgram}
use Rattle.gos_witness.specs.Substituted.{AreLinkable, HasNarrow, IsBind, IsLinked, IsTooLargeFault, MayBePorts, NamesDiffer, TypedIsNarrow, binds_of, imports_at, linked_program, outcome_if}
use Rattle.gos_tool.specs.explained.LinkedModules.{StandFor, binds_along, bound_of, program_along}
use Rattle.gos_tool.proofs.lemmas.explained.FaceLemmas.{as_many, imports_there, outcome_there, same_binds, have_imports}
use Rattle.gos_tool.proofs.lemmas.explained.OrderLemmas.{are_ordered}

are_narrow : TypedIsNarrow → (ms : List SeenModule) → AllByRecursion IsAccepted ms → AllByRecursion (λ m. HasNarrow (program_of m).body) ms
are_narrow law [] all = tt
are_narrow law (m ∷ ms) (one, all) = (law (program_of m).imports [] (program_of m).body (type_of m.result) one.typed, are_narrow law ms all)

accepted_at : (ms : List SeenModule) → AllByRecursion IsAccepted ms → (k : ℕ) (m : SeenModule) → slice_get ms k ≡ Some m → IsAccepted m
accepted_at [] all k m at = absurd (cc at)
accepted_at (n ∷ ms) (one, all) zero m at = let same : n ≡ m = cc at in subst IsAccepted same one
accepted_at (n ∷ ms) (one, all) (suc k) m at = accepted_at ms all k m at

-- types that may be those of ports
done_port : (t : Type') → IsDone t → HasWidths t → IsPortType t
done_port Com done wide = tt
done_port (Exp w) done wide = wide
done_port (Var w) done wide = absurd done
done_port (Pair a b) done wide = absurd done
done_port (Fun a b) done wide = absurd done

ground_port : (t : Type') → IsGround t → HasWidths t → IsPortType t
ground_port Com ground wide = tt
ground_port (Exp w) ground wide = wide
ground_port (Var w) ground wide = wide
ground_port (Pair a b) ground wide = absurd ground
ground_port (Fun a b) ground wide = absurd ground

all_taken : (is : Imports) → AllGround is → HaveWidths is → AllByRecursion (λ (x : Imported). IsPortType x.ty) is
all_taken [] ground wide = tt
all_taken (i ∷ is) (one, ground) (width, wide) = (ground_port i.ty one width, all_taken is ground wide)

open_wide : (bs : List Bind) (u : ℕ) (ms : List SeenModule) → AllByRecursion IsAccepted ms → HaveWidths (open_from bs u (map program_of ms))
open_wide bs u [] all = tt
open_wide bs u (m ∷ ms) (one, all) =
    wide_both (open_of bs u (program_of m).imports) (open_from bs (suc u) (map program_of ms))
    (wide_open bs u (program_of m).imports (have_widths m.imports one.imports)) (open_wide bs (suc u) ms all)

-- ports of different names
abbrev port_name : Port → Name
port_name p = p.name

names_apart : (ports : List Port) → AreDifferent (length ports) ports → NamesDiffer (map port_name ports)
names_apart ports differ i j x at_i at_j =
    let (p, at_p, is_p) = mapped_at port_name ports i x at_i in
    let (q, at_q, is_q) = mapped_at port_name ports j x at_j in
    by_order p q at_p at_q (is_p ∙ sym is_q) (i - j) (j - i) refl refl
  where
    by_order : (p q : Port) → slice_get ports i ≡ Some p → slice_get ports j ≡ Some q → p.name ≡ q.name → (a b : ℕ) → i - j ≡ a → j - i ≡ b → i ≡ j
    by_order p q at_p at_q same zero zero e f = omega (arith, e, f)
    by_order p q at_p at_q same (suc a) b e f =
        let low = slice_get_within ports i p at_p in absurd (differ j i q p (omega (arith, e)) low at_q at_p (sym same))
    by_order p q at_p at_q same zero (suc b) e f =
        let low = slice_get_within ports j q at_q in absurd (differ i j p q (omega (arith, f)) low at_p at_q same)

abbrev left_import : LeftImport → Imported
left_import l = l.import

abbrev import_name : Imported → Name
import_name x = x.name

left_names : (is : List Instance) (ls : List LeftImport) → map port_name (map (port_of is) ls) ≡ map import_name (map left_import ls)
left_names is [] = refl
left_names is (l ∷ ls) = ap (λ (names : List Name). l.import.name ∷ names) (left_names is ls)

module _ (b : Build) (ms : List SeenModule) (ps : List SeenPlan) (ls : SeenLinks) (stand : StandFor ms ps) (is : IsLinkable b ps)
    (all : AllByRecursion IsAccepted ms) (are : AreLinks b ps ls)
  where
    abbrev Whole : Wiring
    Whole = whole_of ps ls.services ls.root

    rooted : IsRooted (plans_of ps) ls.services ls.root
    rooted = links_rooted b ps ls are is.each

    size : length (plans_of ps) ≡ length ms
    size = as_many ms ps stand

    is_bind : (s : Service) → HasService ls.services s → IsBind ms (bound_of s)
    is_bind s has =
        let user = user_low (plans_of ps) ls.services ls.root rooted s has in
        let giver = giver_low (plans_of ps) ls.services ls.root rooted s has in
        let (p, q, x, at_p, at_q, at_x, type) = rooted.sound.fits s has in
        let imports : p.imports ≡ map import_of (imports_at ms s.user) = ap links.imports_of (sym at_p) ∙ imports_there ms ps stand s.user in
        let low = slice_get_within p.imports s.import x at_x in
        let count = ap (λ (xs : Imports). length xs) imports ∙ length-map (imports_at ms s.user) import_of in
        record { user = omega (arith, user, size); import = omega (arith, low, count); giver = omega (arith, giver, size) }

    all_binds : (ss : List Service) → ((s : Service) → HasService ss s → HasService ls.services s) → AllByRecursion (IsBind ms) (map bound_of ss)
    all_binds [] holds = tt
    all_binds (s ∷ ss) holds = (is_bind s (holds s (inl refl)), all_binds ss (λ t has. holds t (inr has)))

    pub are_linkable : TypedIsNarrow → AreLinkable ms (binds_along ls) ls.root
    are_linkable law =
        let low = rooted.low in
        record {
          there = omega (arith, low, size);
          binds = all_binds ls.services (λ s has. has);
          order = are_ordered (plans_of ps) ls.services ls.root rooted;
          narrow = are_narrow law ms all;
        }

    -- the imports that stay are those of the program
    opens : map left_import (all_left Whole) ≡ (program_along ms ls).imports
    opens =
        open_same (plans_of ps) ls.services rooted.sound (map program_of ms) (have_imports ms ps stand all)
        ∙ ap (λ (bs : List Bind). open_from bs 0 (map program_of ms)) (same_binds ms ps stand ls.services)

    result : (m : SeenModule) → slice_get ms ls.root ≡ Some m → IsPortType (type_of m.result)
    result m at =
        let outcome = outcome_there ms ps stand ls.root ∙ ap outcome_if at in
        done_port (type_of m.result) (subst IsDone outcome are.grounded.result) (accepted_at ms all ls.root m at).result.0

    names : map port_name (ports_of b Whole) ≡ b.root ∷ map import_name (program_along ms ls).imports
    names =
        ap (λ (xs : List Name). b.root ∷ xs)
        (left_names b.instances.items (all_left Whole) ∙ ap (λ (xs : Imports). map import_name xs) opens)

    few : length (program_along ms ls).imports < 4294967296
    few =
        let left = few_left Whole.links 0 (plans_of ps) in
        let total = (counted b ps ls.services is are.binds).imports in
        let seen = length-map (all_left Whole) left_import in
        let same = ap (λ (xs : Imports). length xs) opens in
        omega (arith, left, total, seen, same)

    pub may_be_ports : MayBePorts ms (binds_along ls) ls.root b.root
    may_be_ports =
        record {
          result = result;
          taken =
              all_taken (program_along ms ls).imports
              (subst AllGround opens (ground_in (all_left Whole) are.grounded.imports))
              (open_wide (binds_of ms (binds_along ls)) 0 ms all);
          apart = subst NamesDiffer names (names_apart (ports_of b Whole) are.grounded.named.names);
          few = few;
        }

-- of what is the same
module _ (ms ns : List SeenModule) (bs cs : List Bound) (r s : ℕ) (modules : ms ≡ ns) (binds : bs ≡ cs) (root : r ≡ s) where
  pub linkable_as : AreLinkable ms bs r → AreLinkable ns cs s
  linkable_as h =
      subst (λ (n : ℕ). AreLinkable ns cs n) root
      (subst (λ (ds : List Bound). AreLinkable ns ds r) binds (subst (λ (ks : List SeenModule). AreLinkable ks bs r) modules h))

  pub ports_as : (name : Name) → MayBePorts ms bs r name → MayBePorts ns cs s name
  ports_as name h =
      subst (λ (n : ℕ). MayBePorts ns cs n name) root
      (subst (λ (ds : List Bound). MayBePorts ns ds r name) binds (subst (λ (ks : List SeenModule). MayBePorts ks bs r name) modules h))

  pub linked_as : (name : Name) (p : SeenProgram) → IsLinked ms bs r name p → IsLinked ns cs s name p
  linked_as name p h =
      subst (λ (n : ℕ). IsLinked ns cs n name p) root
      (subst (λ (ds : List Bound). IsLinked ns ds r name p) binds (subst (λ (ks : List SeenModule). IsLinked ks bs r name p) modules h))

  pub too_large_as : (fault : ExplainFault) → IsTooLargeFault (linked_program ms bs r) fault → IsTooLargeFault (linked_program ns cs s) fault
  too_large_as fault h = subst (λ (p : Program). IsTooLargeFault p fault) (λ i. linked_program (modules i) (binds i) (root i)) h
