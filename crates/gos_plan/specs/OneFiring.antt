-- How clauses see the states, slots and tokens of this crate's slow program: as those of Firing.
use Rattle.std.specs.Prelude.{ℕ, List, [], ◌∷◌, Option, None, Some, take}
use Rattle.gos_plan.specs.declared.firing.Numbers as declared_numbers
use Rattle.gos_plan.specs.declared.firing.Phase as declared_phase
use Rattle.gos_plan.specs.declared.firing.Phase.TheVariants as phases
use Rattle.gos_plan.specs.declared.firing.State as declared_state
use Rattle.gos_plan.specs.declared.firing.Slot as declared_slot
use Rattle.gos_plan.specs.declared.firing.Slot.TheVariants as slots
use Rattle.gos_plan.specs.declared.firing.Token as declared_token
use Rattle.gos_plan.specs.declared.firing.Puts as declared_puts
use Rattle.gos_plan.specs.declared.firing.Puts.TheVariants as puts
use Rattle.gos_plan.specs.declared.firing.Firing as declared_firing
use Rattle.gos_plan.specs.Firing.{Phase, Rest, First, Second, Both, LeftOnly, RightOnly, Test, Branch, Body, Left, Right, Waiting, Value, Writing, Active, Cells, Reading, WritingTo, State, Slot, Req, Ans, Token, Row}

-- the numbers of an array
abbrev pub list_of : declared_numbers.Numbers → List ℕ
list_of ns = take ns.length ns.held

abbrev pub phase_of : declared_phase.Phase → Phase
phase_of phases.Rest = Rest
phase_of phases.First = First
phase_of phases.Second = Second
phase_of phases.Both = Both
phase_of phases.LeftOnly = LeftOnly
phase_of phases.RightOnly = RightOnly
phase_of phases.Test = Test
phase_of phases.Branch = Branch
phase_of phases.Body = Body
phase_of phases.Left = Left
phase_of phases.Right = Right
phase_of phases.Waiting = Waiting
phase_of phases.Value = Value
phase_of phases.Writing = Writing
phase_of phases.Active = Active
phase_of (phases.Cells ns) = Cells (list_of ns)
phase_of (phases.Reading ns) = Reading (list_of ns)
phase_of (phases.WritingTo ns) = WritingTo (list_of ns)

abbrev pub state_of : declared_state.State → State
state_of q = record { phase = phase_of q.phase; number = q.number }

abbrev pub slot_of : declared_slot.Slot → Slot
slot_of (slots.Req h) = Req h
slot_of (slots.Ans h) = Ans h

abbrev pub token_of : declared_token.Token → Token
token_of t = record { slot = slot_of t.slot; value = t.value }

abbrev pub tokens_of : declared_puts.Puts → List Token
tokens_of puts.Nothing = []
tokens_of (puts.One t) = token_of t ∷ []
tokens_of (puts.Two t u) = token_of t ∷ token_of u ∷ []

-- what a firing does: the state after it, and the tokens put
pub record Effect : Type 0 where
  pub next : State
  pub tokens : List Token

abbrev pub fired_of : Option declared_firing.Firing → Option Effect
fired_of None = None
fired_of (Some f) = Some record { next = state_of f.next; tokens = tokens_of f.puts }

-- what a row gives for this value
abbrev pub at_value : ℕ → Option Row → Option Effect
at_value v None = None
at_value v (Some r) = Some record { next = r.next v; tokens = r.puts v }
