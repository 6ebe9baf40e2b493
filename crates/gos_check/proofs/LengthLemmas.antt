-- A block with an array of another length is refused for it.
use Rattle.std.specs.Prelude.{◌≡◌, Bool, true, false, Ok, Err, if◌then◌else◌}
use Rattle.std.proofs.Common.{refl}
use Rattle.std.proofs.lemmas.Bool.{false_from_ne_true}
use Rattle.gos_lex.specs.declared.token.Span.{Span}
use Rattle.gos_types.specs.Types.{Type'}
use Rattle.gos_check.specs.Faults.{Fault, Found, Length, after}
use Rattle.gos_check.specs.Written.{is_length}
use Rattle.gos_check.specs.Judging.{sized}
use Rattle.gos_check.specs.Lengths.{OtherLengthsAreRefused, FourIsTaken}
use Rattle.gos_check.proofs.WeightLemmas.{array_rule}
use Rattle.gos_check.proofs.AcceptLemmas.{written_length_is}

-- a question by its test
abbrev asked : Bool → Fault → Found (Unit {0})
asked test fault = if test then Ok tt else Err fault

taken : (test : Bool) (fault : Fault) → test ≡ true → asked test fault ≡ Ok tt
taken test fault h = rw h refl

refused : (test : Bool) (fault : Fault) (s : Span) (rule : Unit {0} → Found Type') → test ≡ false → sized s (after (asked test fault) rule) ≡ Err fault
refused test fault s rule h = rw h refl

pub others_are_refused : OtherLengthsAreRefused
others_are_refused i g s u v x n w m other =
    refused (is_length n) (Length u n) s (array_rule i g x n w v m)
    (false_from_ne_true (is_length n) (λ h. other (written_length_is u n (taken (is_length n) (Length u n) h))))

pub four_is_taken : FourIsTaken
four_is_taken u = refl
