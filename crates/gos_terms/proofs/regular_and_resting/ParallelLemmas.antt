-- Both sides of `||`.
use Rattle.std.specs.Prelude.{suc, ◌+◌, length}
use Rattle.std.proofs.Common.{[], sym, subst}
use Rattle.gos_types.specs.Types.{Com, IsDone}
use Rattle.gos_check.specs.Nodes.{Two, OfPar}
use Rattle.gos_realises.specs.realises.Regular.{IsRegular}
use Rattle.gos_realises.specs.realises.Realises.{NamesDiffer}
use Rattle.gos_nodes.specs.windows.Nodes.{IsRestful}
use Rattle.gos_nodes.specs.windows.OpenNodes.{IsHeard}
use Rattle.gos_supplies.specs.turns.Rests.{Rests}
use Rattle.gos_nodes.specs.parallel.Parallel.{IsParallel}
use Rattle.gos_nodes.proofs.parallel.RegularLemmas.{open_parallel_is_regular, open_parallel_is_restful}
use Rattle.gos_compile.specs.Wiring.{parts_of, nodes}
use Rattle.gos_terms.specs.regions.Frames.{AreSides}
use Rattle.gos_terms.proofs.wired.NameLemmas.{names_differ}
use Rattle.gos_terms.proofs.regions.PartedLemmas.{first_among, second_among}
use Rattle.gos_terms.proofs.regions.CutLemmas.{literals_within}
use Rattle.gos_terms.proofs.regions.ParallelLemmas.{parallel_is_wired}
use Rattle.gos_terms.specs.regular_and_resting.Cases.{ParallelIsSteady}
use Rattle.gos_terms.proofs.regular_and_resting.RestLemmas.{rests_after_answers, rests_where_restful}
use Rattle.gos_terms.proofs.regions.HeardLemmas.{sides_heard}

pub parallel_is_steady : ParallelIsSteady
parallel_is_steady types ns ms ks m n parted em en rm rn i j env pl r w supplies differ fit = (regular, rests_where_restful r done regular restful)
  where
    sides : AreSides types i j m n ms ks env (pl.own 0) r
    sides = parallel_is_wired types i j m n ns ms ks env pl r w em en parted differ

    of : IsParallel (pl.own 0) sides.left_cut sides.right_cut r sides.left sides.right
    of = sides.parallel

    left_names : NamesDiffer sides.left.imports
    left_names =
        names_differ types i j (Two Com [] OfPar m n) ns env pl r w (i + 1) (suc j) m ms sides.left_placing sides.left sides.left_wired
        (first_among m n ns ms ks parted) differ

    right_names : NamesDiffer sides.right.imports
    right_names =
        names_differ types i j (Two Com [] OfPar m n) ns env pl r w (i + 1 + length (parts_of types m)) (suc j + nodes m) n ks sides.right_placing sides.right
        sides.right_wired (second_among m n ns ms ks parted) differ

    left : IsRegular sides.left × Rests sides.left
    left =
        rm (i + 1) (suc j) env sides.left_placing sides.left sides.left_wired (λ k has. supplies k (first_among m n ns ms ks parted k has)) left_names
        (literals_within sides.left_cut r sides.left of.left.cut fit)

    right : IsRegular sides.right × Rests sides.right
    right =
        rn (i + 1 + length (parts_of types m)) (suc j + nodes m) env sides.right_placing sides.right sides.right_wired
        (λ k has. supplies k (second_among m n ns ms ks parted k has)) right_names (literals_within sides.right_cut r sides.right of.right.cut fit)

    left_restful : IsRestful sides.left
    left_restful = rests_after_answers sides.left (subst IsDone (sym of.left.outcome) tt) left.0 left.1

    right_restful : IsRestful sides.right
    right_restful = rests_after_answers sides.right (subst IsDone (sym of.right.outcome) tt) right.0 right.1

    heard : IsHeard sides.left_cut r sides.left × IsHeard sides.right_cut r sides.right
    heard =
        sides_heard (pl.own 0) sides.left_cut sides.right_cut r sides.left sides.right of left_names right_names sides.left_imports sides.right_imports

    done : IsDone r.outcome
    done = subst IsDone (sym of.outcome) tt

    regular : IsRegular r
    regular =
        open_parallel_is_regular (pl.own 0) sides.left_cut sides.right_cut r sides.left sides.right of heard.0 heard.1 fit differ left_names left.0 right_names right.0

    restful : IsRestful r
    restful =
        open_parallel_is_restful (pl.own 0) sides.left_cut sides.right_cut r sides.left sides.right of heard.0 heard.1 fit differ left_names left.0 left_restful
        right_names right.0 right_restful
