use Rattle.std.proofs.Common.{ℕ, ◌+◌, ap, arith}
use Rattle.std.specs.Prelude.{length}
use Rattle.gos_share.proofs.SharingLemmas.{three_times, third}
use Rattle.gos_fast_share.specs.Made.{Made}
use Rattle.gos_fast_share.proofs.FastLemmas.{numbers, three_sides}
use Rattle.gos_fast_share.proofs.fast.FastSharingMacro.outs.Goals as goal

pub fill_side-requires-clause-numbered : goal.fill_side-requires-clause-numbered
fill_side-requires-clause-numbered c =
    let known = numbers _ c.args.self.now c.args.base.0 c.args.base.0 4294967295 _ c.self.view_is c.requires.numbered in
    let number = c.requests_in-start.ensures.number in
    omega (arith, known, number)

pub fill_side-requires-2-clause-numbered : goal.fill_side-requires-2-clause-numbered
fill_side-requires-2-clause-numbered c =
    let known = numbers _ c.args.self.now c.args.base.0 c.args.base.0 4294967295 _ c.self.view_is c.requires.numbered in
    let number = c.requests_in-start.ensures.number in
    omega (arith, known, number)

pub fill_side-requires-3-clause-numbered : goal.fill_side-requires-3-clause-numbered
fill_side-requires-3-clause-numbered c =
    let known = numbers _ c.args.self.now c.args.base.0 c.args.base.0 4294967295 _ c.self.view_is c.requires.numbered in
    let number = c.requests_in-start.ensures.number in
    omega (arith, known, number)

pub fill_side-requires-2-clause-wires : goal.fill_side-requires-2-clause-wires
fill_side-requires-2-clause-wires c =
    let front = c.split_at_mut-first.ensures.front_len in
    let count = third c.self.inside.ty.now c.args.self.now.ty (length c.args.wires.now) (ap (λ (m : Made). m.ty) c.self.view_is) c.requires.wires in
    omega (arith, front, count)

pub fill_side-requires-3-clause-wires : goal.fill_side-requires-3-clause-wires
fill_side-requires-3-clause-wires c =
    let back = c.split_at_mut-source.ensures.back_len in
    let last = c.split_at_mut-first.ensures.back_len in
    let same = ap (λ (m : Made). m.ty) c.self.view_is in
    let count = third c.self.inside.ty.now c.args.self.now.ty (length c.args.wires.now) same c.requires.wires in
    let all = three_times c.self.inside.ty.now c.args.self.now.ty (length c.args.wires.now) same c.requires.wires in
    omega (arith, back, last, count, all)

pub returns-clause-outs : goal.returns-clause-outs
returns-clause-outs c =
    three_sides c.args.base.0 (2 + c.requests_in-start.result) _ c.args.self.now c.fill_side.new.wires c.fill_side-2.new.wires c.fill_side-3.new.wires c.self.view_is
    (ap (λ (n : ℕ). 2 + n) c.requests_in-start.ensures.number) c.fill_side.ensures.outs c.fill_side-2.ensures.outs c.fill_side-3.ensures.outs
