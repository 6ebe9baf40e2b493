-- Runs that are made of so many steps have no more operands, and numbers of 32 bits.
use Rattle.std.specs.Prelude.{◌≡◌, ℕ, ◌+◌, ◌<◌, ◌≤◌, List, [], ◌∷◌, ◌++◌, All, length}
use Rattle.std.proofs.Common.{arith, ap, subst, sym, ◌∙◌}
use Rattle.std.proofs.lemmas.List.{length-append}
use Rattle.std.proofs.lemmas.List.Elements.{All-push}
use Rattle.gos_netlist.specs.Seen.{function_of}
use Rattle.gos_sim.specs.declared.evaluation.Draft.{Draft}
use Rattle.gos_sim.specs.declared.evaluation.Kind.{Kind}
use Rattle.gos_sim.specs.declared.evaluation.Kind.TheVariants as kinds
use Rattle.gos_sim.specs.declared.evaluation.Operands.{Operands}
use Rattle.gos_sim.specs.declared.evaluation.Run.{Run}
use Rattle.gos_sim.specs.declared.program.Step.{Step}
use Rattle.gos_sim.specs.inner.Evaluation.{AreLonger, GoesOn, IsAdded, IsLonger, bits_of, room_of}
use Rattle.gos_sim.specs.inner.Spots.{IsNumbered, steps_in}
use Rattle.gos_sim.specs.inner.Places.{none}
use Rattle.gos_sim.specs.inner.Drafts.{AreCounted, AreUpTo, IsDraftOf}
use Rattle.gos_sim.proofs.SpotLemmas.{net_of}

longer_one : {A : Type 0} (old new : List A) (many : ℕ) → IsLonger old new → length old ≤ many → length new ≤ many + 1
longer_one old new many more low = let long = ap length more.is ∙ length-append old more.rest in omega (arith, long, more.few, low)

up_to_more : (many : ℕ) (old new : Operands) → AreLonger old new → AreUpTo many old → AreUpTo (many + 1) new
up_to_more many old new more up =
    record {
      constants = longer_one old.constants.items new.constants.items many more.constants up.constants;
      pins = longer_one old.pins.items new.pins.items many more.pins up.pins;
      pairs = longer_one old.pairs.items new.pairs.items many more.pairs up.pairs;
      triples = longer_one old.triples.items new.triples.items many more.triples up.triples;
    }

pub up_to_weaker : (few many : ℕ) (o : Operands) → few ≤ many → AreUpTo few o → AreUpTo many o
up_to_weaker few many o low up =
    record { constants = omega (arith, low, up.constants); pins = omega (arith, low, up.pins); pairs = omega (arith, low, up.pairs); triples = omega (arith, low, up.triples) }

room_most : (k : Kind) (o : Operands) (many : ℕ) → AreUpTo many o → room_of k o ≤ many
room_most kinds.Const o many up = up.constants
room_most kinds.Not o many up = up.pins
room_most kinds.And o many up = up.pairs
room_most kinds.Or o many up = up.pairs
room_most kinds.Xor o many up = up.pairs
room_most kinds.Mux o many up = up.triples
room_most kinds.Add o many up = up.pairs
room_most kinds.Sub o many up = up.pairs
room_most kinds.Eq o many up = up.pairs
room_most kinds.Less o many up = up.pairs
room_most kinds.Gate o many up = up.pairs

-- the run of a step that is added
run_numbered : (m : Step) (old new : Operands) (next : Run) (many : ℕ) → many < none → m.net < none → IsAdded old new m next → AreUpTo many old → IsNumbered next
run_numbered m old new next many room net added up =
    let most = room_most next.kind new (many + 1) (up_to_more many old new added.longer up) in
    let same = net_of next.kind new next (record { net = m.net; width = bits_of (function_of m.gate) m.width; gate = m.gate }) added.steps in
    record { net = omega (arith, same, net, added.one); first = omega (arith, added.fits, most, added.one, room) }

-- a run goes on
pub counted_longer : (runs : List Run) (last next : Run) (many : ℕ) → GoesOn last next → next.count ≡ 1 → IsNumbered next → AreCounted many runs last
    → AreCounted (many + 1) runs (record last { count = last.count + 1 })
counted_longer runs last next many on one numbered known =
    record {
      steps = omega (arith, known.steps);
      all = known.all;
      too = record { net = omega (arith, on.net, one, numbered.net); first = omega (arith, on.first, one, numbered.first) };
    }

pub steps_in_push : (runs : List Run) (r : Run) → steps_in (runs ++ r ∷ []) ≡ steps_in runs + r.count
steps_in_push [] r = omega arith
steps_in_push (q ∷ qs) r = omega (arith, steps_in_push qs r)

-- another one comes behind it
pub counted_pushed : (runs more : List Run) (last next : Run) (many : ℕ) → more ≡ runs ++ last ∷ [] → next.count ≡ 1 → IsNumbered next → AreCounted many runs last
    → AreCounted (many + 1) more next
counted_pushed runs more last next many is one numbered known =
    record {
      steps = omega (arith, ap steps_in is, steps_in_push runs last, known.steps, one);
      all = subst (All IsNumbered) (sym is) (All-push IsNumbered runs last known.all known.too);
      too = numbered;
    }

-- a step more
pub draft_of_more : (m : Step) (old new : Draft) (next : Run) → m.net < none → IsAdded old.operands new.operands m next
    → ((many : ℕ) → IsNumbered next → AreCounted many old.runs.items old.last → AreCounted (many + 1) new.runs.items new.last)
    → (many : ℕ) → many < none → IsDraftOf many old → IsDraftOf (many + 1) new
draft_of_more m old new next net added join many room known =
    record {
      operands = up_to_more many old.operands new.operands added.longer known.operands;
      runs = join many (run_numbered m old.operands new.operands next many room net added known.operands) known.runs;
    }
