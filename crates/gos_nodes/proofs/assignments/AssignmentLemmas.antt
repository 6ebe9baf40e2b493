-- The whole law, from the parts: stages that are laid so are stages of a write, where their plans realise the two sides.
use Rattle.std.specs.Prelude.{◌^◌, ◌<◌, Contains}
use Rattle.std.proofs.Common.{◌≡◌, ℕ, [], refl, sym, ◌∙◌, subst}
use Rattle.gos_types.specs.Types.{Type', Com, Exp, Var}
use Rattle.gos_model.specs.Terms.{Term, Assign, Lit}
use Rattle.gos_model.specs.Typing.{Typed}
use Rattle.gos_plan.specs.Plans.{Plan}
use Rattle.gos_realises.specs.realises.Matched.{RealisesInTurn}
use Rattle.gos_realises.specs.realises.Realises.{Realises, NamesDiffer}
use Rattle.gos_nodes.specs.windows.Regions.{IsLoyal}
use Rattle.gos_nodes.specs.windows.Nodes.{Stage, IsRestful}
use Rattle.gos_nodes.specs.windows.OneSession.{IsRegularAt, IsRestfulAt, IsLoyalAt}
use Rattle.gos_nodes.specs.assignments.Writes.{IsWrite, AreRestful}
use Rattle.gos_nodes.specs.assignments.Realised.{SessionIsRealised, AreWritten}
use Rattle.gos_nodes.specs.assignments.Written.{unread}
use Rattle.gos_nodes.specs.assignments.Assignments.{IsAssignment, IsOpenAssignment, AssignmentIsRealised}
use Rattle.gos_nodes.proofs.assignments.AssignLemmas.{write_is_regular}
use Rattle.gos_nodes.proofs.assignments.MatchedLemmas.{write_realises_by_type}
use Rattle.gos_nodes.proofs.assignments.SideLemmas.{sides, zero_one, of_two, is_write, are_restful}
use Rattle.gos_nodes.proofs.assignments.WrittenLemmas.{number_is_asked, variable_is_written}

module _
    (r : Plan) (d w : ℕ) (number variable : Stage) (p : Plan) (m n : Term) (whole : IsAssignment r d w number variable p)
    (asks : Realises (Exp w) number.plan n) (writes : Realises (Var w) p m) where
  asked : IsRegularAt 0 number.plan × IsRestfulAt 0 number.plan × ((i : ℕ) (t : Type') (side : ℕ) → IsLoyal i t side number.plan → IsLoyalAt 0 i t side number.plan)
  asked = number_is_asked w number.plan n asks

  written : IsRegularAt 1 (unread p) × IsRestfulAt 1 (unread p)
      × ((k : ℕ) → k < 2 ^ w → Typed p.imports [] (Assign m (Lit k w)) Com × SessionIsRealised (unread p) 1 k (Assign m (Lit k w)))
  written = variable_is_written w p m writes whole.own_literals

  opened : IsOpenAssignment r d w number variable p
  opened =
      record {
        right = whole.right;
        own = whole.own;
        outcome = whole.outcome;
        literals = whole.literals;
        names = whole.names;
        asked = whole.asked;
        written = whole.written;
        plan = whole.plan;
        laid_number = whole.laid_number;
        laid_variable = whole.laid_variable;
        number_names = asks.suits.names;
        variable_names = subst (λ (x : Plan). NamesDiffer x.imports) (sym whole.plan) writes.suits.names;
        number_heard = whole.number_heard;
        variable_heard = whole.variable_heard;
        result = whole.result;
        joints = whole.joints;
      }

  write : IsWrite r d w (sides number variable)
  write =
      is_write r d w number variable p opened asks.suits.outcome (asked.0, asked.1) writes.suits.right writes.suits.outcome writes.suits.regular
      (written.0, written.1)

  restful : AreRestful (sides number variable)
  restful =
      are_restful r d w number variable p opened asks.suits.outcome (asked.0, asked.1) writes.suits.right writes.suits.outcome writes.suits.regular
      (written.0, written.1)

  -- what is known of each stage, by the handshake at which it is asked
  of_number : (g : Stage) → Contains (sides number variable) g → g.asked_at ≡ 0 → number ≡ g
  of_number = of_two number variable (λ (x : Stage). x.asked_at ≡ 0 → number ≡ x) (λ same. refl) (λ same. absurd (zero_one (sym same ∙ whole.written)))

  of_variable : (g : Stage) → Contains (sides number variable) g → g.asked_at ≡ 1 → variable ≡ g
  of_variable = of_two number variable (λ (x : Stage). x.asked_at ≡ 1 → variable ≡ x) (λ same. absurd (zero_one (sym whole.asked ∙ same))) (λ same. refl)

  are_written : AreWritten w m n (sides number variable)
  are_written =
      record {
        number = λ g has at.
            subst (λ (x : Stage). Typed x.plan.imports [] n (Exp w) × RealisesInTurn x.plan n) (of_number g has at) (asks.suits.typed, asks.means);
        variable = λ g has at k small.
            subst (λ (x : Stage). Typed x.plan.imports [] (Assign m (Lit k w)) Com × SessionIsRealised x.plan 1 k (Assign m (Lit k w))) (of_variable g has at)
            (subst (λ (q : Plan). Typed q.imports [] (Assign m (Lit k w)) Com × SessionIsRealised q 1 k (Assign m (Lit k w))) (sym whole.plan) (written.2 k small));
      }

  pub realised : Typed r.imports [] (Assign m n) Com → Realises Com r (Assign m n) × IsRestful r
  realised typed = (write_realises_by_type r d w (sides number variable) m n write whole.open_imports restful are_written typed, (write_is_regular r d w (sides number variable) write restful).1)

pub assignment_is_realised : AssignmentIsRealised
assignment_is_realised r d w number variable p m n whole asks writes typed = realised r d w number variable p m n whole asks writes typed
