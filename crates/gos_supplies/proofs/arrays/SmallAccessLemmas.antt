-- A small access, and plans that are none.
use Rattle.std.specs.Prelude.{[], ◌∷◌, length, All}
use Rattle.std.proofs.Common.{refl, arith, inr}
use Rattle.std.proofs.lemmas.List.Elements.{All-cons}
use Rattle.gos_types.proofs.ListLemmas.{none_in_empty}
use Rattle.gos_model.specs.Terms as terms
use Rattle.gos_model.specs.ArrayPorts.{a}
use Rattle.gos_plan.specs.Kinds as kinds
use Rattle.gos_plan.specs.TokenBits.{LiteralFits}
use Rattle.gos_realises.proofs.realises.LiteralLemmas.{no_literals}
use Rattle.gos_supplies.specs.names.SmallArrays.{index_left, write_index_left}
use Rattle.gos_supplies.specs.literals.Literals.{number_plan}
use Rattle.gos_supplies.specs.arrays.Accesses.{Read, Write}
use Rattle.gos_supplies.specs.arrays.Made.{access_plan}
use Rattle.gos_supplies.specs.arrays.SmallAccesses.{first_written, FirstIsAccess, LeftIsNoAccess, LeftIsNoRead}
use Rattle.gos_supplies.proofs.names.SmallArrayLemmas.{index_is_told}
use Rattle.gos_supplies.proofs.names.SmallWriteLemmas.{written_index_is_told}
use Rattle.gos_supplies.proofs.literals.NumberLemmas.{literal_is_realised}
use Rattle.gos_supplies.proofs.arrays.MadeLemmas.{own_cut, index_cut, split_access}
use Rattle.gos_supplies.proofs.arrays.WiringLemmas.{write_split}
use Rattle.gos_supplies.proofs.arrays.AccessLemmas.{access_is_realised}
use Rattle.gos_supplies.proofs.arrays.FunctionLemmas.{applied_plan, is_applied, is_body, number_right}

pub first_is_access : FirstIsAccess
first_is_access =
    let own = access_plan (Write 5) a 8 in
    let index = number_plan 0 1 0 in (
      own_cut (length index.parts) own,
      index_cut index,
      split_access 1 8 a first_written own index (write_split a 1 8 index applied_plan first_written number_right refl is_applied.joining 5 is_body.joining),
    )

-- they would realise the access
pub left_is_no_access : LeftIsNoAccess
left_is_no_access f g is =
    let number = literal_is_realised 0 1 0 (omega arith, omega arith) (omega arith) in
    written_index_is_told
    (access_is_realised (Write 5) 1 8 a (terms.Lit 0 1) f g write_index_left (number_plan 0 1 0) is (inr tt, tt) (λ j there. absurd (none_in_empty j there), tt) literals
    number.suits.regular number.suits.typed number.means)
  where
    literals : All LiteralFits write_index_left.parts
    literals =
        All-cons LiteralFits (kinds.Assign 8) (kinds.Lit 8 5 ∷ kinds.Lit 1 0 ∷ []) tt
        (All-cons LiteralFits (kinds.Lit 8 5) (kinds.Lit 1 0 ∷ []) (omega arith) (All-cons LiteralFits (kinds.Lit 1 0) [] (omega arith) no_literals))

pub left_is_no_read : LeftIsNoRead
left_is_no_read f g is =
    let number = literal_is_realised 0 1 0 (omega arith, omega arith) (omega arith) in
    index_is_told
    (access_is_realised Read 1 8 a (terms.Lit 0 1) f g index_left (number_plan 0 1 0) is (inr tt, tt) (λ j there. absurd (none_in_empty j there), tt) literals
    number.suits.regular number.suits.typed number.means)
  where
    literals : All LiteralFits index_left.parts
    literals = All-cons LiteralFits (kinds.Deref 8) (kinds.Lit 1 0 ∷ []) tt (All-cons LiteralFits (kinds.Lit 1 0) [] (omega arith) no_literals)
