use Rattle.std.proofs.Common.{◌≡◌, ◌-◌, ℕ, suc, subst, arith}
use Rattle.gos_pulse.specs.inner.Agenda.{IsAgendaFrom}
use Rattle.gos_pulse.proofs.agenda.Agenda.new.Goals as goal

pub put-requires-clause-behind : goal.put-requires-clause-behind
put-requires-clause-behind c =
    let before : c.loop-place.place ≡ suc (c.loop-place.place - 1) = omega (arith, c.loop-place-test.true) in
    (c.args.cycles, subst (λ (n : ℕ). IsAgendaFrom c.args.cycles c.args.entries.now n c.loop-place.agenda) before c.loop-place.invariant.put)

pub loop-place-preserved : goal.loop-place-preserved
loop-place-preserved c =
    let before : c.loop-place.place ≡ suc (c.loop-place.place - 1) = omega (arith, c.loop-place-test.true) in
    record {
      within = omega (arith, c.loop-place.invariant.within);
      put = c.put.ensures c.args.cycles (subst (λ (n : ℕ). IsAgendaFrom c.args.cycles c.args.entries.now n c.loop-place.agenda) before c.loop-place.invariant.put);
    }

pub returns : goal.returns
returns c =
    let first : c.loop-place.place ≡ 0 = omega (arith, c.loop-place-test.false) in
    subst (λ (n : ℕ). IsAgendaFrom c.args.cycles c.args.entries.now n c.loop-place.agenda) first c.loop-place.invariant.put
