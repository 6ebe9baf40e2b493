use Rattle.std.proofs.Common.{ℕ, ◌+◌, ◌*◌, ◌∷◌, [], subst}
use Rattle.gos_macro.specs.Wires.{HoldNets}
use Rattle.gos_data.specs.BodyAnswer.{body_answer}
use Rattle.gos_data.specs.Array.{own_outs}
use Rattle.gos_macro.proofs.WireLemmas.{hold_both}
use Rattle.gos_data.proofs.array.outs.Goals as goal

pub returns-clause-outs : goal.returns-clause-outs
returns-clause-outs c =
    let v = c.args.v in
    let last = subst (λ (m : ℕ). HoldNets (body_answer v m c.own-2.result.0 ∷ []) c.caller_out.new.wires) c.own.ensures c.caller_out.ensures.outs in
    hold_both (own_outs c.args.base) (body_answer v (c.args.base + 18) (c.args.base + (19 + 7 * c.args.n)) ∷ []) c.own_outs.new.wires c.caller_out.new.wires c.own_outs.ensures.outs
    (subst (λ (m : ℕ). HoldNets (body_answer v (c.args.base + 18) m ∷ []) c.caller_out.new.wires) c.own-2.ensures last)
