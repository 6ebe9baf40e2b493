-- The laws of reading: a text is that of one circuit at most, and has one answer at most.
use Rattle.std.proofs.Common.{[], ◌++◌, append-nil, ℕ, List, refl, sym, subst}
use Rattle.gos_lex.proofs.ItemLemmas.{breaks_off_once}
use Rattle.gos_gates.specs.Gates.{Gates}
use Rattle.gos_gates.specs.AagFaults.{IsRead, IsAagText, IsOneCircuit, ReadHasNoFault, HasOneFault, PrintedIsRead, NothingFollows}
use Rattle.gos_gates.specs.declared.fault.AagFault.TheVariants as faults
use Rattle.gos_gates.specs.inner.Shapes.{Says, whole_shape}
use Rattle.gos_gates.proofs.WholeLemmas.{says_whole, whole_front}

pub read_says : (text : List ℕ) (a : Gates) → IsRead text a → Says whole_shape a text
read_says text a read = subst (Says whole_shape a) (sym read.is) (says_whole a read.are)

pub one_circuit : (text : List ℕ) → IsOneCircuit text
one_circuit text a b first second =
    (whole_front text [] a b (read_says text a first) (subst (Says whole_shape b) (sym (append-nil text)) (read_says text b second))).0

pub nothing_follows : (text : List ℕ) → NothingFollows text
nothing_follows text more first second =
    (whole_front text more first.0 second.0 (read_says text first.0 first.1) (read_says (text ++ more) second.0 second.1)).1

pub read_has_no_fault : (text : List ℕ) → ReadHasNoFault text
read_has_no_fault text a (faults.Form at) read fault = absurd (fault.1 (a, read))
read_has_no_fault text a faults.NoMemory read fault = refl

pub has_one_fault : (text : List ℕ) → HasOneFault text
has_one_fault text at other first second = breaks_off_once IsAagText text 0 at other first.0 second.0

pub printed_is_read : PrintedIsRead
printed_is_read a are = record { are = are; is = refl }
