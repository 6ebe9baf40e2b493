use Rattle.std.proofs.Common.{ap, ◌∙◌, ◌≡◌, ◌++◌, List, ℕ, length, map, set}
use Rattle.gos_gates.specs.inner.Laying.{Laid, with_net}
use Rattle.gos_gates.proofs.DraftLemmas.{put_shows, at_place}
use Rattle.gos_gates.proofs.draft.Draft.put.Goals as goal

pub returns : goal.returns
returns c =
    let more : c.extend_from_slice.new.self.items ≡ c.self.inside.literals.items ++ c.args.literals.now = c.in_ok-extend_from_slice.ensures.items in
    let from : c.len-from.result ≡ length c.self.inside.literals.items = c.len-from.ensures ∙ c.self.inside.literals.ok.0 in
    let to : c.len-to.result ≡ length (c.self.inside.literals.items ++ c.args.literals.now) = c.len-to.ensures ∙ (c.extend_from_slice.new.self.ok.0 ∙ ap length more) in
    let nets : map (at_place c.extend_from_slice.new.self.items) (set c.self.inside.places.items c.args.net (record { from = c.len-from.result; to = c.len-to.result }))
    ≡ set (map (at_place c.self.inside.literals.items) c.self.inside.places.items) c.args.net c.args.literals.now =
    (λ i. map (at_place (more i)) (set c.self.inside.places.items c.args.net (record { from = from i; to = to i })))
    ∙ put_shows c.self.inside.literals.items c.args.literals.now c.self.inside.places.items c.args.net c.self.invariant in
    ap (λ (ns : List (List ℕ)). record { base = c.self.inside.base; gates = c.self.inside.gates.items; nets = ns }) nets ∙ ap (λ (s : Laid). with_net s c.args.net c.args.literals.now) c.self.view_is
