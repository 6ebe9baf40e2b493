use Rattle.std.proofs.Common.{rules, ◌≡◌, ◌-◌, ◌∷◌, ◌++◌, [], ℕ, suc, List, map, ap, subst, sym, ◌∙◌, arith}
use Rattle.std.proofs.lemmas.List.{map-append}
use Rattle.std.proofs.lemmas.Result.{err_from_is_err_and}
use Rattle.std.specs.Fmt.{decimal}
use Rattle.gos_netlist.specs.Seen.{number_of}
use Rattle.gos_lex.specs.Items.{Misses}
use Rattle.gos_lex.specs.ItemTexts.{Passed, ended, IsNumberText}
use Rattle.gos_netlist.proofs.NetsLemmas.{NetsSoFar, none_yet, one_more, no_more, nets_passed}
use Rattle.gos_netlist.proofs.items.so_many_nets.Goals as goal

pub loop-left-init : goal.loop-left-init
loop-left-init c =
    let old = c.args.cursor.now in
    let room : c.new-nets.result.capacity ≡ 6 = search rules in
    let nothing : map number_of c.new-nets.result.items ≡ [] = ap (map number_of) c.new-nets.ensures.items in
    (subst (λ (ns : List ℕ). NetsSoFar c.args.count old old ns c.args.count) (sym nothing) (none_yet c.args.count old c.requires.within), room)

pub returns-in_err-n-clause-wrong : goal.returns-in_err-n-clause-wrong
returns-in_err-n-clause-wrong c =
    let far = c.loop-left.invariant.0 in
    let left : ℕ = c.loop-left.left - 1 in
    let fewer : c.loop-left.left ≡ suc left = omega (arith, c.loop-left-test.true) in
    let here = subst (λ (end : ℕ). Misses (IsNumberText 0 4294967295 end) c.loop-left.cursor.text c.loop-left.cursor.at c.in_err-n.field-0.0) c.end_with.ensures.end c.in_err-n.ensures.wrong in
    let known = no_more c.args.count c.args.cursor.now c.loop-left.cursor (map number_of c.loop-left.nets.items) c.loop-left.left left c.in_err-n.field-0.0 fewer far here in
    let p = err_from_is_err_and c.from_residual.result c.from_residual.ensures.1 in
    rw (p.1, p.2) known

pub loop-left-preserved : goal.loop-left-preserved
loop-left-preserved c =
    let far = c.loop-left.invariant.0 in
    let left : ℕ = c.loop-left.left - 1 in
    let fewer : c.loop-left.left ≡ suc left = omega (arith, c.loop-left-test.true) in
    let n : ℕ = c.in_ok-n.n in
    let here = subst (λ (end : ℕ). Passed c.loop-left.cursor c.ended_number.new.self (ended end (decimal n))) c.end_with.ensures.end c.in_ok-n.ensures.passed in
    let known = one_more c.args.count c.args.cursor.now c.loop-left.cursor c.ended_number.new.self (map number_of c.loop-left.nets.items) c.loop-left.left left n fewer far c.in_ok-n.ensures.range.1 here in
    let room : c.push_reserved.new.self.capacity ≡ 6 = search rules in
    let longer : map number_of c.push_reserved.new.self.items ≡ map number_of c.loop-left.nets.items ++ n ∷ [] =
    ap (map number_of) c.push_reserved.ensures.items ∙ map-append number_of c.loop-left.nets.items (record { 0 = n } ∷ []) in
    (subst (λ (ns : List ℕ). NetsSoFar c.args.count c.args.cursor.now c.ended_number.new.self ns left) (sym longer) known, room)

pub returns-clause-passed : goal.returns-clause-passed
returns-clause-passed c =
    nets_passed c.args.count c.args.cursor.now c.loop-left.cursor (map number_of c.loop-left.nets.items) c.loop-left.left (omega (arith, c.loop-left-test.false)) c.loop-left.invariant.0
