use Rattle.gos_lex.specs.Names.{IsNameOrWord}
use Rattle.gos_lex.specs.Items.{IsJust}
use Rattle.gos_lex.specs.Decimals.{IsDecimalIn}
use Rattle.gos_lex.proofs.ItemLemmas.{breaks_off_once}
use Rattle.gos_lex.proofs.law.one_place.Goals as goal

pub returns-clause-word : goal.returns-clause-word
returns-clause-word c = λ bytes. breaks_off_once (IsJust bytes)

pub returns-clause-number : goal.returns-clause-number
returns-clause-number c = λ low high. breaks_off_once (IsDecimalIn low high)

pub returns-clause-name : goal.returns-clause-name
returns-clause-name c = breaks_off_once IsNameOrWord
