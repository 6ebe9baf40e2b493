-- What the gates of each part make of a cycle whose list is orderly: the law of their gates, applied to the part's
-- firings.
use Rattle.std.proofs.Common.{◌≡◌, ℕ, ◌<◌, ◌≤◌, true, List, ◌++◌, Some, slice_get, length, refl, ◌∙◌, ap, subst}
use Rattle.gos_netlist.specs.Nets.{Netlist}
use Rattle.gos_netlist.specs.Settling.{Numbers}
use Rattle.gos_plan.specs.Kinds.{Part, part_contacts}
use Rattle.gos_plan.specs.Firing.{State, Slot, Token}
use Rattle.gos_plan.specs.Plans.{End, Plan}
use Rattle.gos_plan.specs.Tokens.{Tokens}
use Rattle.gos_plan.specs.Orderly.{Open}
use Rattle.gos_macro.specs.Gates.{value_in, pulse_in, ShowOne, SameTokens}
use Rattle.gos_macro.specs.Law.{early_in_order, FiredInOrder, pulsed, late_slots}
use Rattle.gos_plan.specs.Firings.{Asked, Fires}
use Rattle.gos_plan.specs.Projection.{firings_of, asked_by}
use Rattle.gos_expand.specs.Gates.{outs_of, late_of, pending_of, stands_of}
use Rattle.gos_expand.specs.Starts.{Laying}
use Rattle.gos_expand.specs.Facts.{Places, incoming_at, order_at}
use Rattle.gos_plan.specs.Accounts.{PartsPut}
use Rattle.gos_expand.proofs.TallyLemmas.{Split, fires_split}
use Rattle.gos_expand.proofs.StandingLemmas.{Now, values, values_if}
use Rattle.gos_expand.proofs.ScheduleLemmas.{top, made_firings, slots_made, early_listed, below_top}
use Rattle.gos_expand.proofs.PossibleLemmas.{listing, firings_listed}
use Rattle.gos_expand.proofs.CauseLemmas.{pulses_small, values_small}
use Rattle.gos_expand.proofs.RankLemmas.{Whole}

-- the slots by which part i fires early in the cycle
abbrev pub early_of : Laying → Plan → Places → (End → ℕ) → Numbers → ℕ → Part → List Slot
early_of lay p n rank v i k = pulsed (pulse_in v (incoming_at p n i)) (early_in_order k (late_of (lay.making i) k) (order_at rank i) (top p rank))

-- What part i shows, holds back and stands for, where it puts these tokens in the cycle: first those that it puts early.
pub record PartStep (lay : Laying) (p : Plan) (n : Places) (rank : End → ℕ) (v regs after : Numbers) (o : Open) (s t : Tokens) (i : ℕ) (k : Part) (ts : List Token) : Type 0 where
  pub first : List Token
  pub second : List Token
  pub puts : ts ≡ first ++ second
  pub between : Asked
  pub state : State
  pub sooner : Fires k (value_in k v (incoming_at p n i)) (asked_by i o) (s.state i) (early_of lay p n rank v i k) between state first
  pub shows : ShowOne v (outs_of (lay.making i) k (n.start i)) (pending_of (lay.making i) k (n.start i) regs ++ first)
  pub same : SameTokens (pending_of (lay.making i) k (n.start i) after) second
  pub stands : stands_of (lay.making i) k (n.start i) after (t.state i)

pub part_step : (lay : Laying) (p : Plan) (net : Netlist) (n : Places) (rank : End → ℕ) (v regs after : Numbers) (o : Open) (s : Tokens) (w : Whole lay p n rank v o s)
    (puts : ℕ → List Token) (i : ℕ) (k : Part)
    → Now lay p net n rank v regs after o s → PartsPut p (values p n v) puts (listing p n v (made_firings lay p n rank v)) o s w.open_then w.state_then → slice_get p.parts i ≡ Some k
    → PartStep lay p n rank v regs after o s w.state_then i k (puts i)
part_step lay p net n rank v regs after o s w puts i k now fires is =
    record {
      first = split.first;
      second = split.second;
      puts = split.puts;
      between = split.mid;
      state = split.state;
      sooner = split.one;
      shows = law.0;
      same = law.1;
      stands = law.2;
    }
  where
    early : List Slot
    early = early_of lay p n rank v i k

    late : List Slot
    late = pulsed (pulse_in v (incoming_at p n i)) (late_slots k (late_of (lay.making i) k))

    listed : firings_of i (listing p n v (made_firings lay p n rank v)) ≡ early ++ late
    listed =
        firings_listed p n v i (made_firings lay p n rank v)
        ∙ (slots_made lay p n rank v i k is
        ∙ ap (λ (l : List Slot). pulsed (pulse_in v (incoming_at p n i)) l ++ late) (early_listed lay p rank (top p rank) i k is))

    taken : values p n v i ≡ (λ h. value_in k v (incoming_at p n i) h)
    taken = λ l h. values_if (is l) v (incoming_at p n i) h

    so : Fires k (value_in k v (incoming_at p n i)) (asked_by i o) (s.state i) (early ++ late) (asked_by i w.open_then) (w.state_then.state i) (puts i)
    so =
        subst (λ (x : ℕ → ℕ). Fires k x (asked_by i o) (s.state i) (early ++ late) (asked_by i w.open_then) (w.state_then.state i) (puts i)) taken
        (subst (λ (l : List Slot). Fires k (values p n v i) (asked_by i o) (s.state i) l (asked_by i w.open_then) (w.state_then.state i) (puts i)) listed (fires i k is))

    split : Split k (value_in k v (incoming_at p n i)) early late (asked_by i o) (asked_by i w.open_then) (s.state i) (w.state_then.state i) (puts i)
    split = fires_split k (value_in k v (incoming_at p n i)) early late (asked_by i o) (asked_by i w.open_then) (s.state i) (w.state_then.state i) (puts i) so

    small : (g : ℕ) → g < length (part_contacts k) → pulse_in v (incoming_at p n i) g ≤ 1
    small g lt = pulses_small p n v (λ i k h. true) i k w.comes is g lt refl

    fired : FiredInOrder k (late_of (lay.making i) k) (order_at rank i) v (incoming_at p n i) (s.state i) (w.state_then.state i) split.first split.second
    fired =
        record {
          before = asked_by i o;
          between = split.mid;
          behind = asked_by i w.open_then;
          state = split.state;
          top = top p rank;
          above = λ h lt. below_top p rank i h k is lt;
          sooner = split.one;
          later = split.two;
        }

    law : ShowOne v (outs_of (lay.making i) k (n.start i)) (pending_of (lay.making i) k (n.start i) regs ++ split.first) × SameTokens (pending_of (lay.making i) k (n.start i) after) split.second
        × stands_of (lay.making i) k (n.start i) after (w.state_then.state i)
    law =
        (now.part_facts.gates i k is).law (n.start i) (incoming_at p n i) v regs after (s.state i) (w.state_then.state i) split.first split.second
        (now.facts.parts i k is) small (λ h. values_small p n v (λ i k h. true) i k w.comes is h refl) (now.standing.parts i k is) fired
