use Rattle.std.proofs.Common.{rules, ◌≡◌, ◌<◌, ◌++◌, true, false, length, reverse, arith, sym, ◌∙◌, refl, true≢false}
use Rattle.std.specs.Vec.{with_item}
use Rattle.gos_pulse.proofs.GiveLemmas.{bounds, known_slot, refused, gave}
use Rattle.gos_pulse.proofs.board.Board.give.Goals as goal

pub allows-requires : goal.allows-requires
allows-requires c = (bounds c.args.self.now c.args.entry c.index.result.now c.requires c.index.ensures).0

pub saw_input-requires : goal.saw_input-requires
saw_input-requires c = (bounds c.args.self.now c.args.entry c.index.result.now c.requires c.index.ensures).0

pub index_mut-requires : goal.index_mut-requires
index_mut-requires c =
    let within : c.index.result.now.place < length c.args.self.now.inputs.items = (bounds c.args.self.now c.args.entry c.index.result.now c.requires c.index.ensures).1 in
    omega (arith, within)

pub returns-then-not-allows : goal.returns-then-not-allows
returns-then-not-allows c = λ net past given has stands gives.
    let slot = c.index.result.now in
    let known = known_slot net past given c.args.self.now c.args.entry slot stands gives c.index.ensures in
    let no : c.allows.result ≡ false = search rules in
    refused net past given c.args.self.now c.args.entry slot stands known
    (λ l label value allowed. true≢false (sym ((c.allows.ensures net (reverse given ++ past) l has stands.rests.guards label value).1 allowed) ∙ no))

pub returns : goal.returns
returns c = λ net past given has stands gives.
    let slot = c.index.result.now in
    let known = known_slot net past given c.args.self.now c.args.entry slot stands gives c.index.ensures in
    let yes : c.allows.result ≡ true = search rules in
    gave net past given c.args.self.now c.args.entry slot stands known
    (λ l label value. (c.allows.ensures net (reverse given ++ past) l has stands.rests.guards label value).0 yes)
    (record {
      guard = c.saw_input.new.self;
      slots = c.args.self.now.slots;
      inputs = with_item c.args.self.now.inputs slot.place (record { on = true; value = c.args.entry.value });
      outputs = c.args.self.now.outputs;
    })
    refl refl refl
    (λ l label. c.saw_input.ensures.guards net (reverse given ++ past) l has stands.rests.guards label)
