-- Both sides of `||`.
use Rattle.std.specs.Prelude.{suc, ◌+◌, [], length}
use Rattle.std.proofs.Common.{sym, subst}
use Rattle.gos_types.specs.Types.{Type', Com}
use Rattle.gos_model.specs.Typing.{Typed}
use Rattle.gos_check.specs.Nodes.{Two, OfPar, meaning, type_of_node}
use Rattle.gos_realises.specs.realises.Realises.{NamesDiffer, Realises}
use Rattle.gos_compile.specs.Wiring.{parts_of, nodes}
use Rattle.gos_nodes.specs.windows.OpenNodes.{IsHeard}
use Rattle.gos_nodes.specs.parallel.Parallel.{ParallelRealises}
use Rattle.gos_terms.specs.wired.Wired.{terms_of}
use Rattle.gos_terms.specs.regions.Frames.{AreSides, ParallelIsWired}
use Rattle.gos_terms.proofs.wired.NameLemmas.{names_differ}
use Rattle.gos_terms.proofs.regions.PartedLemmas.{first_among, second_among}
use Rattle.gos_terms.proofs.regions.CutLemmas.{literals_within}
use Rattle.gos_terms.proofs.regions.HeardLemmas.{sides_heard}
use Rattle.gos_terms.specs.ground_forms.Cases.{ParallelCase}
use Rattle.gos_terms.proofs.ground_forms.WiredLemmas.{imports_are_ports, typed_there, fewer}

pub parallel_case : ParallelIsWired → ParallelRealises → ParallelCase
parallel_case wiring law types ns ms ks m n parted em en leaves_m leaves_n scope_m scope_n rm rn i j env pl r w supplies differ fit (e, typed_m, typed_n, apart) =
    law (pl.own 0) sides.left_cut sides.right_cut r sides.left sides.right (meaning (terms_of env) m) (meaning (terms_of env) n) sides.parallel heard.0 heard.1 fit
    (imports_are_ports types i j (Two Com [] OfPar m n) ns env pl r w supplies) differ (e, typed_m, typed_n, apart)
    (subst (λ (t : Type'). Realises t sides.left (meaning (terms_of env) m)) em left)
    (subst (λ (t : Type'). Realises t sides.right (meaning (terms_of env) n)) en right)
  where
    sides : AreSides types i j m n ms ks env (pl.own 0) r
    sides = wiring types i j m n ns ms ks env pl r w em en parted differ

    left_names : NamesDiffer sides.left.imports
    left_names =
        names_differ types i j (Two Com [] OfPar m n) ns env pl r w (i + 1) (suc j) m ms sides.left_placing sides.left sides.left_wired
        (first_among m n ns ms ks parted) differ

    right_names : NamesDiffer sides.right.imports
    right_names =
        names_differ types i j (Two Com [] OfPar m n) ns env pl r w (i + 1 + length (parts_of types m)) (suc j + nodes m) n ks sides.right_placing sides.right
        sides.right_wired (second_among m n ns ms ks parted) differ

    heard : IsHeard sides.left_cut r sides.left × IsHeard sides.right_cut r sides.right
    heard =
        sides_heard (pl.own 0) sides.left_cut sides.right_cut r sides.left sides.right sides.parallel left_names right_names sides.left_imports sides.right_imports

    left : Realises (type_of_node m) sides.left (meaning (terms_of env) m)
    left =
        rm (i + 1) (suc j) env sides.left_placing sides.left sides.left_wired (fewer types env ns ms (first_among m n ns ms ks parted) supplies) left_names
        (literals_within sides.left_cut r sides.left sides.parallel.left.cut fit)
        (typed_there types i j (Two Com [] OfPar m n) ns env pl r w (i + 1) (suc j) m ms sides.left_placing sides.left sides.left_wired
        (first_among m n ns ms ks parted) (type_of_node m) supplies differ leaves_m scope_m
        (subst (λ (t : Type'). Typed r.imports [] (meaning (terms_of env) m) t) (sym em) typed_m))

    right : Realises (type_of_node n) sides.right (meaning (terms_of env) n)
    right =
        rn (i + 1 + length (parts_of types m)) (suc j + nodes m) env sides.right_placing sides.right sides.right_wired
        (fewer types env ns ks (second_among m n ns ms ks parted) supplies) right_names
        (literals_within sides.right_cut r sides.right sides.parallel.right.cut fit)
        (typed_there types i j (Two Com [] OfPar m n) ns env pl r w (i + 1 + length (parts_of types m)) (suc j + nodes m) n ks sides.right_placing sides.right
        sides.right_wired (second_among m n ns ms ks parted) (type_of_node n) supplies differ leaves_n scope_n
        (subst (λ (t : Type'). Typed r.imports [] (meaning (terms_of env) n) t) (sym en) typed_n))
