-- The plan of `M || N` realises it, where its regions realise M and N.
use Rattle.std.specs.Prelude.{ℕ, List, [], All}
use Rattle.std.proofs.Common.{refl}
use Rattle.gos_types.specs.Types.{Com}
use Rattle.gos_model.specs.Terms.{Term, Par}
use Rattle.gos_model.specs.Moves.{Idle}
use Rattle.gos_plan.specs.Plans.{Plan}
use Rattle.gos_plan.specs.Tokens.{Tokens, Element, Runs, IsIdle}
use Rattle.gos_plan.specs.TokenBits.{LiteralFits}
use Rattle.gos_plan.specs.Orderly.{none_open}
use Rattle.gos_joining.specs.webs.Cutting.{Cut, cut_tokens}
use Rattle.gos_joining.proofs.webs.IdleLemmas.{idle_is_cut}
use Rattle.gos_realises.specs.realises.Regular.{IsRegular, InputsKeepTurns}
use Rattle.gos_realises.specs.realises.Matched.{IsMatched, program_of, RealisesInTurn}
use Rattle.gos_realises.specs.realises.Realises.{NamesDiffer, Suits}
use Rattle.gos_realises.proofs.realises.InputLemmas.{matching_suffices}
use Rattle.gos_nodes.specs.parallel.Parallel.{IsParallel, ParallelRealises}
use Rattle.gos_nodes.specs.windows.OpenNodes.{IsHeard}
use Rattle.gos_nodes.proofs.windows.MeetLemmas.{HasPorts}
use Rattle.gos_nodes.proofs.parallel.SharedLemmas.{side_ports}
use Rattle.gos_nodes.proofs.parallel.RegularLemmas.{holds_first, open_parallel_is_regular}
use Rattle.gos_nodes.proofs.parallel.WalkLemmas.{walked}
use Rattle.gos_nodes.proofs.parallel.QuietLemmas.{neat_first}
use Rattle.gos_nodes.proofs.parallel.StandLemmas.{rests}
use Rattle.gos_nodes.proofs.parallel.MatchLemmas.{matches}

module _
    (d : ℕ) (f g : Cut) (r p q : Plan) (m n : Term) (is : IsParallel d f g r p q) (left_heard : IsHeard f r p) (right_heard : IsHeard g r q)
    (literals : All LiteralFits r.parts) (differ : NamesDiffer r.imports) (left : Suits Com p m) (left_means : RealisesInTurn p m) (right : Suits Com q n) (right_means : RealisesInTurn q n) where
  whole_regular : IsRegular r
  whole_regular =
      open_parallel_is_regular d f g r p q is left_heard right_heard literals differ left.names left.regular right.names right.regular

  left_ports : HasPorts r f p
  left_ports = side_ports d 0 f r p is.left left_heard differ left.names

  right_ports : HasPorts r g q
  right_ports = side_ports d 1 g r q is.right right_heard differ right.names

  whole_matched : (s t : Tokens) (xs : List Element) → IsIdle r s → Runs r xs s t → InputsKeepTurns r [] xs
      → IsMatched r (program_of r (Par m n)) xs s Idle
  whole_matched s t xs idle runs keeps =
      let start = holds_first d f g r p q is literals left_ports right_ports left.regular right.regular s idle in
      let (lefts, rights) =
      walked d f g r p q is literals left_ports right_ports left.regular right.regular s idle xs s t [] [] [] none_open none_open none_open start runs keeps in
      let left_done = left_means (cut_tokens f p s) (cut_tokens f p t) _ (idle_is_cut f r p s idle) lefts.0 lefts.1 in
      let right_done = right_means (cut_tokens g q s) (cut_tokens g q t) _ (idle_is_cut g r q s idle) rights.0 rights.1 in
      matches d f g r p q is literals m n left.typed right.typed left_ports right_ports left.regular right.regular s idle xs s t [] [] [] none_open none_open none_open start
      runs keeps (neat_first r s idle) Idle Idle Idle (rests (idle.1 d) (idle.0 _ _) (idle.0 _ _) refl refl refl) ([], refl) ([], refl) left_done.0 right_done.0

pub parallel_realises : ParallelRealises
parallel_realises d f g r p q m n is left_heard right_heard literals ports differ typed left right =
    let regular = whole_regular d f g r p q m n is left_heard right_heard literals differ left.suits left.means right.suits right.means in
    record {
      suits =
          record {
            right = is.left.cut.whole_right;
            literals = literals;
            outcome = is.outcome;
            all_ports = ports;
            names = differ;
            typed = typed;
            regular = regular;
          };
      means =
          matching_suffices r (Par m n) regular
          (whole_matched d f g r p q m n is left_heard right_heard literals differ left.suits left.means right.suits right.means);
    }
