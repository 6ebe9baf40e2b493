use Rattle.std.proofs.Common.{◌∷◌, [], ℕ, List, refl, subst}
use Rattle.std.specs.List.{slice_range}
use Rattle.gos_lex.specs.Items.{IsJust, Misses}
use Rattle.gos_lex.specs.Names.{IsSpelled}
use Rattle.gos_lex.proofs.NameTextLemmas.{no_name, name_not_ended}
use Rattle.gos_lex.proofs.PassedLemmas.{passed_both, passed_item}
use Rattle.gos_verilog.proofs.StartLemmas.{name_rest, name_stands}
use Rattle.gos_verilog.proofs.head.module_name.Goals as goal

pub returns-in-Err-clause-wrong : goal.returns-in-Err-clause-wrong
returns-in-Err-clause-wrong c = no_name 40 refl c.args.cursor.now.text c.args.cursor.now.at c.in-Err.at c.in-Err.ensures.wrong c.in-Err.ensures.none

pub returns-in-Err-clause-stands : goal.returns-in-Err-clause-stands
returns-in-Err-clause-stands c name x is left =
    let old = c.args.cursor.now in
    name_stands old.text old.at c.in-Err.at name x (no_name 40 refl old.text old.at c.in-Err.at c.in-Err.ensures.wrong c.in-Err.ensures.none) is left

pub returns-in-Err-pass-clause-wrong : goal.returns-in-Err-pass-clause-wrong
returns-in-Err-pass-clause-wrong c =
    let old = c.args.cursor.now in
    let mid = c.name.new.self in
    let missed = subst (λ (text : List ℕ). Misses (IsJust (40 ∷ [])) text mid.at c.in-Err-pass.at) c.in-Ok.ensures.text c.in-Err-pass.ensures.wrong in
    name_not_ended 40 refl old.text old.at mid.at c.in-Err-pass.at c.in-Ok.ensures.passes c.in-Ok.ensures.name missed

pub returns-in-Err-pass-clause-stands : goal.returns-in-Err-pass-clause-stands
returns-in-Err-pass-clause-stands c name x is left =
    let old = c.args.cursor.now in
    let mid = c.name.new.self in
    let missed = subst (λ (text : List ℕ). Misses (IsJust (40 ∷ [])) text mid.at c.in-Err-pass.at) c.in-Ok.ensures.text c.in-Err-pass.ensures.wrong in
    name_stands old.text old.at c.in-Err-pass.at name x (name_not_ended 40 refl old.text old.at mid.at c.in-Err-pass.at c.in-Ok.ensures.passes c.in-Ok.ensures.name missed) is left

pub returns-in-Ok-pass-clause-passed : goal.returns-in-Ok-pass-clause-passed
returns-in-Ok-pass-clause-passed c =
    let old = c.args.cursor.now in
    let mid = c.name.new.self in
    let found : List ℕ = slice_range old.text old.at mid.at in
    (found, c.in-Ok.ensures.name, passed_both old mid c.pass.new.cursor found (40 ∷ []) (passed_item IsSpelled old mid found c.in-Ok.ensures.text refl c.in-Ok.ensures.passes) c.in-Ok-pass.ensures.passed)

pub returns-in-Ok-pass-clause-stands : goal.returns-in-Ok-pass-clause-stands
returns-in-Ok-pass-clause-stands c name x is left =
    let known = returns-in-Ok-pass-clause-passed c in
    name_rest c.args.cursor.now c.pass.new.cursor known.0 name x known.1 is known.2 left
