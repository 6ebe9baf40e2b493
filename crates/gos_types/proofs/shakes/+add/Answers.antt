use Rattle.std.proofs.Common.{ap}
use Rattle.gos_types.specs.Types.{type_of}
use Rattle.gos_types.proofs.WithinLemmas.{pair_added, fun_added}
use Rattle.gos_types.proofs.shakes.+add.Goals as goal

pub add_handshakes-returns-in_ok-add_below-in-Pair-2-clause-added :
    goal.add_handshakes-returns-in_ok-add_below-in-Pair-2-clause-added
add_handshakes-returns-in_ok-add_below-in-Pair-2-clause-added t c =
    let first = rw c.deref-in-Pair.ensures at c.in_ok-add_below-in-Pair.ensures.added in
    let second = rw (c.deref-in-Pair-2.ensures, c.in_ok-add_below-in-Pair.ensures.way) at c.in_ok-add_below-in-Pair-2.ensures.added in
    pair_added c.args.role c.args.path.now.items _ _ _ _ _ _ (ap type_of c.in-Pair.is) first second

pub add_handshakes-returns-in_ok-add_below-in-Fun-2-clause-added :
    goal.add_handshakes-returns-in_ok-add_below-in-Fun-2-clause-added
add_handshakes-returns-in_ok-add_below-in-Fun-2-clause-added t c =
    let argument = rw (c.turned.ensures, c.deref-in-Fun.ensures) at c.in_ok-add_below-in-Fun.ensures.added in
    let outcome = rw (c.deref-in-Fun-2.ensures, c.in_ok-add_below-in-Fun.ensures.way) at c.in_ok-add_below-in-Fun-2.ensures.added in
    fun_added c.args.role c.args.path.now.items _ _ _ _ _ _ (ap type_of c.in-Fun.is) argument outcome
