-- A node that applies, projects or reads realises its term where its children realise theirs.
use Rattle.std.specs.Prelude.{zero, suc, List, [], ◌∷◌, ◌++◌, slice_get}
use Rattle.std.proofs.Common.{sym, ◌∙◌, ap, subst, arith}
use Rattle.std.proofs.lemmas.List.Elements.{Contains-append_right}
use Rattle.gos_types.specs.Types.{Exp}
use Rattle.gos_model.specs.Terms.{App, Fst, Snd, Deref}
use Rattle.gos_model.specs.Typing.{Imported}
use Rattle.gos_check.specs.Nodes.{type_of_node}
use Rattle.gos_plan.specs.Plans.{Plan}
use Rattle.gos_realises.specs.realises.Realises.{NamesDiffer, HaveOtherNames}
use Rattle.gos_joining.specs.webs.Renumbering.{Renumber, IsRenumbered}
use Rattle.gos_joining.proofs.renumbered.ImportLemmas.{AreReordered, names_same}
use Rattle.gos_joining.proofs.renumbered.HigherLemmas.{renumbered_is_realised}
use Rattle.gos_supplies.proofs.applications.TogetherLemmas.{imports_of}
use Rattle.gos_terms.specs.applying.Realised.{FirstIsRealised, SecondIsRealised, DerefIsRealised, ApplicationIsRealised}

pub first_is_realised : FirstIsRealised
first_is_realised t u types i j m ns env r x is realised =
    let (suits, means) = realised.means.0 is.side_of is.joined in
    renumbered_is_realised is.numbers r is.side_of t (Fst x) is.same (record { suits = suits; means = means })

pub second_is_realised : SecondIsRealised
second_is_realised t u types i j m ns env r x is realised =
    let (suits, means) = realised.means.1 is.side_of is.joined in
    renumbered_is_realised is.numbers r is.side_of u (Snd x) is.same (record { suits = suits; means = means })

pub deref_is_realised : DerefIsRealised
deref_is_realised w types i j m ns env r x is realised =
    let (suits, means) = realised.means.0 is.read is.joined in
    renumbered_is_realised is.numbers r is.read (Exp w) (Deref x) is.same (record { suits = suits; means = means })

-- names of two lists, where those of both differ
other_names : (is js : List Imported) → NamesDiffer (is ++ js) → HaveOtherNames is js
other_names [] js differ x y (k, small, e) in_js = absurd (omega (arith, small))
other_names (z ∷ is) js differ x y (zero, small, e) in_js =
    let apart = differ.0 y (Contains-append_right is js y in_js) in
    λ same. apart (ap (λ (w : Imported). w.name) e ∙ same)
other_names (z ∷ is) js differ x y (suc k, small, e) in_js = other_names is js differ.1 x y (k, omega (arith, small), e) in_js

reordered : (g : Renumber) (r s : Plan) → IsRenumbered g r s → AreReordered g.import g.import_back r.imports s.imports
reordered g r s is =
    record {
      there = is.imports;
      here = λ n. sym (is.imports (g.import_back n)) ∙ ap (slice_get s.imports) (is.one_to_one.imports_back n);
      returns = is.one_to_one.imports_back;
    }

pub application_is_realised : ApplicationIsRealised
application_is_realised t types i j m n ms ks env r x y is names function argument =
    let all : NamesDiffer is.applied.imports =
    names_same is.numbers.import is.numbers.import_back r.imports is.applied.imports (reordered is.numbers r is.applied is.same) names in
    let two : NamesDiffer (is.function.imports ++ is.argument.imports) =
    subst NamesDiffer (imports_of (type_of_node n) t is.function is.argument is.applied is.joined) all in
    let (suits, means) =
    function.means is.argument is.applied y (other_names is.function.imports is.argument.imports two) argument.suits argument.means is.joined in
    renumbered_is_realised is.numbers r is.applied t (App x y) is.same (record { suits = suits; means = means })
