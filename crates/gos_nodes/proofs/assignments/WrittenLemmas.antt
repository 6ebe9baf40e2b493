-- A plan that realises a variable, where it is written; and one that realises an expression.
use Rattle.std.specs.Prelude.{◌^◌, ◌<◌, All, length}
use Rattle.std.proofs.Common.{ℕ, suc, [], arith, subst, sym}
use Rattle.gos_types.specs.Types.{Com, Var, IsDone}
use Rattle.gos_model.specs.Terms as terms
use Rattle.gos_model.specs.Terms.{Term}
use Rattle.gos_model.specs.Typing.{Imports, Typed}
use Rattle.gos_plan.specs.Plans.{Plan}
use Rattle.gos_plan.specs.TokenBits.{LiteralFits}
use Rattle.gos_realises.specs.realises.Wirings.{writing}
use Rattle.gos_realises.specs.realises.Links.{IsJoined}
use Rattle.gos_realises.specs.realises.Realises.{Realises}
use Rattle.gos_realises.specs.joined.Joined.{HasJoining}
use Rattle.gos_realises.proofs.joined.WholeLemmas.{variables_are_joined}
use Rattle.gos_nodes.specs.windows.OneSession.{IsRegularAt, IsRestfulAt}
use Rattle.gos_nodes.specs.assignments.Realised.{SessionIsRealised}
use Rattle.gos_nodes.specs.assignments.Variables.{IsLoneWrite}
use Rattle.gos_nodes.specs.assignments.Written.{unread, written_cut, UnreadIsRegular, JoinedIsLoneWrite, VariableIsWritten, NumberIsAsked}
use Rattle.gos_nodes.proofs.assignments.LoneLemmas.{lone_write_is_session}
use Rattle.gos_nodes.proofs.assignments.JoinedLemmas.{is_lone}
use Rattle.gos_nodes.proofs.assignments.UnreadLemmas.{unread_regular, unread_loyal}
use Rattle.gos_nodes.proofs.nodes.RestLemmas.{realisers_rest}
use Rattle.gos_nodes.proofs.assignments.SessionsRestLemmas.{sessions_rest}

pub unread_is_regular : UnreadIsRegular
unread_is_regular w p right outcome regular = (unread_regular p w right outcome regular, unread_loyal p w right outcome regular)

module _ (w : ℕ) (p : Plan) (m : Term) (realises : Realises (Var w) p m) where
  regular_so : IsRegularAt 1 (unread p)
  regular_so = unread_regular p w realises.suits.right realises.suits.outcome realises.suits.regular

  pub lone : (k : ℕ) (q : Plan) → All LiteralFits p.parts → k < 2 ^ w → IsJoined (writing w k p) q
      → IsLoneWrite q (length p.parts) (suc (length p.parts)) w k (written_cut (unread p)) (unread p)
  lone k q literals small join =
      is_lone w k p q realises.suits.right realises.suits.outcome realises.suits.names literals regular_so small join

  abbrev Session : ℕ → Type 0
  Session k = Typed p.imports [] (terms.Assign m (terms.Lit k w)) Com × SessionIsRealised (unread p) 1 k (terms.Assign m (terms.Lit k w))

  session : All LiteralFits p.parts → (k : ℕ) → k < 2 ^ w → Session k
  session literals k small = of_joining (variables_are_joined w k p realises.suits.right realises.suits.outcome).1
    where
      of_joining : HasJoining (writing w k p) → Session k
      of_joining (q, join) =
          let known = realises.means.1 q k small join in
          let write = lone k q literals small join in (
            subst (λ (i : Imports). Typed i [] (terms.Assign m (terms.Lit k w)) Com) write.imports known.0.typed,
            lone_write_is_session q (length p.parts) (suc (length p.parts)) w k (written_cut (unread p)) (unread p) m write known.0.regular known.1,
          )

  pub written : All LiteralFits p.parts → IsRegularAt 1 (unread p) × IsRestfulAt 1 (unread p) × ((k : ℕ) → k < 2 ^ w → Session k)
  written literals =
      let low : 1 < 2 = omega arith in (
        regular_so,
        sessions_rest (unread p) 1 w (λ k. terms.Assign m (terms.Lit k w)) low realises.suits.outcome (λ k small. (session literals k small).1),
        session literals,
      )

pub joined_is_lone_write : JoinedIsLoneWrite
joined_is_lone_write w k p q m realises literals small join = lone w p m realises k q literals small join

pub variable_is_written : VariableIsWritten
variable_is_written w p m realises literals = written w p m realises literals

-- of an expression
pub number_is_asked : NumberIsAsked
number_is_asked w p n realises = (
  λ s t xs tidy idle one runs turns. realises.suits.regular s t xs idle runs turns,
  λ s t xs v tidy idle begun runs turns.
      realisers_rest p n (subst IsDone (sym realises.suits.outcome) tt) realises.means s t xs v idle runs turns,
  λ i t side loyal s v u xs slot tidy idle begun runs turns does low. loyal s v u xs slot idle runs turns does low,
)
