-- The plan of a block realises it, where the plan of its body realises the body.
use Rattle.std.specs.Prelude.{List, [], All}
use Rattle.std.proofs.Common.{refl, sym, subst}
use Rattle.gos_types.specs.Types.{Type', Com, Exp, IsDone}
use Rattle.gos_model.specs.Terms.{Term, Import, New, NewArray}
use Rattle.gos_model.specs.Substitution.{instantiate}
use Rattle.gos_model.specs.Typing.{Typed}
use Rattle.gos_model.specs.Moves.{Config, Idle}
use Rattle.gos_plan.specs.Firing.{State}
use Rattle.gos_plan.specs.Plans.{Plan}
use Rattle.gos_plan.specs.Tokens.{Tokens, Element, Runs, IsIdle}
use Rattle.gos_plan.specs.Orderly.{none_open}
use Rattle.gos_plan.specs.TokenBits.{LiteralFits}
use Rattle.gos_joining.specs.webs.Cutting.{cut_tokens}
use Rattle.gos_joining.proofs.webs.IdleLemmas.{idle_is_cut}
use Rattle.gos_realises.specs.realises.Regular.{IsRegular, InputsKeepTurns}
use Rattle.gos_realises.specs.realises.Matched.{IsMatched, program_of, RealisesInTurn}
use Rattle.gos_realises.specs.realises.Realises.{AllPorts, NamesDiffer, Means, Realises}
use Rattle.gos_realises.proofs.realises.InputLemmas.{matching_suffices}
use Rattle.gos_nodes.specs.windows.OpenNodes.{IsHeard}
use Rattle.gos_nodes.proofs.windows.MeetLemmas.{HasPorts}
use Rattle.gos_nodes.proofs.parallel.QuietLemmas.{neat_first}
use Rattle.gos_nodes.specs.blocks.Block.{Block, IsBlock, BlockRealises, ArrayBlockRealises}
use Rattle.gos_nodes.proofs.blocks.PlayedLemmas.{IsPlayed}
use Rattle.gos_nodes.proofs.blocks.LocalLemmas.{LocalWithin, local_is_played}
use Rattle.gos_nodes.proofs.blocks.ArrayLemmas.{ArrayWithin, array_is_played}
use Rattle.gos_nodes.proofs.blocks.SharedLemmas.{body_ports}
use Rattle.gos_nodes.proofs.blocks.RegularLemmas.{holds_first, open_block_is_regular}
use Rattle.gos_nodes.proofs.blocks.WalkLemmas.{walked}
use Rattle.gos_nodes.proofs.blocks.MatchLemmas.{matches_first}

-- what a command or an expression means is that its lists are matched
means_of : (t : Type') → IsDone t → (p : Plan) (m : Term) → RealisesInTurn p m → Means t p m
means_of Com done p m h = h
means_of (Exp w) done p m h = h
means_of t done p m h = absurd done

done_of : (t : Type') → IsDone t → (p : Plan) (m : Term) → Means t p m → RealisesInTurn p m
done_of Com done p m h = h
done_of (Exp w) done p m h = h
done_of t done p m h = absurd done

-- of any server that is played
module _
    (r : Plan) (b : Block) (inner_term term : Term) (is : IsBlock r b) (heard : IsHeard b.cut r b.body) (literals : All LiteralFits r.parts) (ports : AllPorts r.imports) (differ : NamesDiffer r.imports)
    (typed : Typed r.imports [] term r.outcome) (body : Realises r.outcome b.body inner_term) (Within : State → Config → Config → Type 0)
    (played : IsPlayed b.server b.variable.name (program_of b.body inner_term) (program_of r term) Within) where
  whole_regular : IsRegular r
  whole_regular = open_block_is_regular r b is heard literals differ body.suits.names body.suits.regular

  there : HasPorts r b.cut b.body
  there = body_ports r b is heard differ body.suits.names

  whole_matched : (s t : Tokens) (xs : List Element) → IsIdle r s → Runs r xs s t → InputsKeepTurns r [] xs → IsMatched r (program_of r term) xs s Idle
  whole_matched s t xs idle runs keeps =
      let start = holds_first r b is literals there body.suits.regular s idle in
      let (ran, kept) = walked r b is literals there body.suits.regular s idle xs s t [] [] none_open none_open start runs keeps in
      let means = done_of r.outcome is.done b.body inner_term body.means in
      let done = means (cut_tokens b.cut b.body s) (cut_tokens b.cut b.body t) _ (idle_is_cut b.cut r b.body s idle) ran kept in
      matches_first r b is literals differ body.suits.names inner_term term Within played there body.suits.regular s idle xs s t start runs keeps
      idle (neat_first r s idle) done.0

  pub played_realises : Realises r.outcome r term
  played_realises =
      record {
        suits =
            record {
              right = is.cut.whole_right;
              literals = literals;
              outcome = refl;
              all_ports = ports;
              names = differ;
              typed = typed;
              regular = whole_regular;
            };
        means = means_of r.outcome is.done r term (matching_suffices r term whole_regular whole_matched);
      }

pub block_realises : BlockRealises
block_realises r b w m is heard local literals ports differ typed body =
    let own = instantiate m (Import b.variable.name) in
    let source : Typed b.body.imports [] own b.body.outcome = subst (λ (t : Type'). Typed b.body.imports [] own t) (sym is.outcome) body.suits.typed in
    played_realises r b own (New w m) is heard literals ports differ typed body
    (LocalWithin r b is differ w local m) (local_is_played r b is differ w local m typed source)

pub array_block_realises : ArrayBlockRealises
array_block_realises r b n w m is heard array literals ports differ typed body =
    let own = instantiate m (Import b.variable.name) in
    let source : Typed b.body.imports [] own b.body.outcome = subst (λ (t : Type'). Typed b.body.imports [] own t) (sym is.outcome) body.suits.typed in
    played_realises r b own (NewArray n w m) is heard literals ports differ typed body
    (ArrayWithin r b is differ body.suits.names n w array m) (array_is_played r b is differ body.suits.names n w array m typed source)
