-- What realises nothing.
use Rattle.std.specs.Prelude.{◌≡◌, ◌^◌, ◌<◌, ◌≤◌}
use Rattle.std.proofs.Common.{sym, ◌∙◌, arith, inl, inr}
use Rattle.gos_types.specs.Types.{Com, Exp}
use Rattle.gos_plan.specs.Kinds.{Skip}
use Rattle.gos_realises.specs.realises.OtherPlans.{OtherTypesAreNot, NoNumberIsDone, WildIsNot, LargeDoesNotSuit, FunctionImportDoesNotSuit, WideFunctionIsNone, WideImportIsNone}

pub other_types_are_not : OtherTypesAreNot
other_types_are_not t p m other r = other r.suits.outcome

pub no_number_is_done : NoNumberIsDone
no_number_is_done p m number r =
    let both : Exp 8 ≡ Com = sym number ∙ r.suits.outcome in
    cc both

pub wild_is_not : WildIsNot
wild_is_not t m r =
    let (a, (b, (c, (d, (((q, v, asks, serves), one, other), rest))))) = r.suits.right in
    cc serves

pub large_does_not_suit : LargeDoesNotSuit
large_does_not_suit t m suits = let small : 255 < 2 ^ 4 = suits.literals 0 Skip (omega arith) in omega (arith, small)

pub function_import_does_not_suit : FunctionImportDoesNotSuit
function_import_does_not_suit t m suits = elim suits.all_ports.0 [
  | inl none ↦ none
  | inr none ↦ none
]

pub wide_function_is_none : WideFunctionIsNone
wide_function_is_none m realises = let low : 65 ≤ 64 = realises.result_widths.0.1 in omega (arith, low)

pub wide_import_is_none : WideImportIsNone
wide_import_is_none m realises = let low : 65 ≤ 64 = realises.import_widths.0.1 in omega (arith, low)
