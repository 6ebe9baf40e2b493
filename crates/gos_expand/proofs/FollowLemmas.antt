-- Cycles one after another, from the first one: each is made as a list of the plan, or is the first broken one.
use Rattle.std.specs.Prelude.{Option, None}
use Rattle.std.proofs.Common.{◌≡◌, inl, inr, ◌⊎◌, ℕ, suc, ◌^◌, ◌≤◌, ◌<◌, Bool, true, false, List, [], ◌∷◌, ◌++◌, Some, slice_get, length, refl, sym, ◌∙◌, ap, subst, arith, append_assoc, pow_pos}
use Rattle.gos_netlist.specs.Nets.{Netlist}
use Rattle.gos_types.specs.Events.{Direction}
use Rattle.gos_netlist.specs.Settling.{Numbers, at}
use Rattle.gos_pace.specs.Flattening.{outputs, inputs}
use Rattle.gos_plan.specs.Kinds.{Part}
use Rattle.gos_plan.specs.Firing.{Rest}
use Rattle.gos_plan.specs.Firing as firing
use Rattle.gos_plan.specs.Plans.{End, PartEnd, ImportEnd, ResultEnd, Joint, Plan, IsRight}
use Rattle.gos_plan.specs.Tokens.{Tokens, Element, places_of, held_at, end_of, way_of, Runs}
use Rattle.gos_plan.specs.Orderly.{Open, OrderlyFrom}
use Rattle.gos_plan.specs.Firings.{due, value_due}
use Rattle.gos_pace.specs.Cycles.{cycle_list, list_of, MakesCycles}
use Rattle.gos_plan.specs.Made.{PartFiring, Made, fires_of}
use Rattle.gos_plan.proofs.DecidedLemmas.{orderly_is_possible}
use Rattle.gos_plan.proofs.TokenBitsLemmas.{all_stay_fit, idle_fits}
use Rattle.gos_pace.proofs.OrderLemmas.{one_order_is_enough}
use Rattle.gos_expand.specs.Blocks.{Nets}
use Rattle.gos_expand.specs.Starts.{Laying}
use Rattle.gos_expand.specs.Facts.{Places, source, target, width, CycleFacts, PlanFacts, PartFacts, Rises, Follow}
use Rattle.gos_expand.proofs.ChainLemmas.{never_whole, runs-append, welcome_after}
use Rattle.gos_expand.proofs.StandingLemmas.{pending_if, pending_at, pending_numbers, shown_at, shown_numbers, held_pulse, held_number, number_by_pulse, carried, Standing, Led, led_on, Now, filled}
use Rattle.gos_expand.proofs.ScheduleLemmas.{made_firings}
use Rattle.gos_expand.proofs.PossibleLemmas.{listing}
use Rattle.gos_expand.proofs.RankLemmas.{Whole, Stopped, cycle_ends}
use Rattle.gos_expand.proofs.MadeLemmas.{part_step}
use Rattle.gos_expand.proofs.StepLemmas.{whole_list, passed}

-- what an orderly cycle leaves
pub record Left (lay : Laying) (p : Plan) (n : Places) (v regs after : Numbers) (t : Tokens) : Type 0 where
  pub standing : Standing lay p n after t
  pub goes :
      (x : ℕ) (j : Joint) (way : Direction) → slice_get p.joints x ≡ Some j
      → pending_at lay p n regs (source j way) ≤ at v (n.leaves (source j way)).pulse

pub left : (lay : Laying) (p : Plan) (net : Netlist) (n : Places) (rank : End → ℕ) (v regs after : Numbers) (o : Open) (s : Tokens) (w : Whole lay p n rank v o s)
    → Rises lay p rank → Now lay p net n rank v regs after o s → Left lay p n v regs after w.state_then
left lay p net n rank v regs after o s w rises now =
    let law = filled p n v o w.open_then s w.state_then (whole_list lay p n rank v) now.right now.led w.list w.takes in
    let pass = λ (x : ℕ) (j : Joint) (way : Direction) (there : slice_get p.joints x ≡ Some j).
    passed lay p net n rank v regs after o s w law.0 x j way rises now law.1 (law.2 x j way there) there in
    record {
      standing =
          record {
            welcome = welcome_after p (whole_list lay p n rank v) o w.open_then s w.state_then now.standing.welcome w.list;
            fit =
                all_stay_fit p (whole_list lay p n rank v) s w.state_then now.right now.part_facts.literals now.standing.fit
                (orderly_is_possible p (whole_list lay p n rank v) o w.open_then s w.state_then w.list);
            parts = λ i k is. (part_step lay p net n rank v regs after o s w law.0 i k now law.1 is).stands;
            joints = λ x j way there. (pass x j way there).lies;
            loose = λ e c port there none. (now.facts.ports e c port there).next ∙ (now.facts.loose e c there none).0;
          };
      goes = λ x j way there. (pass x j way there).goes;
    }

-- a cycle that is made
pub record OneCycle (lay : Laying) (p : Plan) (net : Netlist) (n : Places) (rank : End → ℕ) (v regs after : Numbers) (s : Tokens) (m : Made) : Type 0 where
  pub opened : Open
  pub now : Now lay p net n rank v regs after opened s
  pub whole : Whole lay p n rank v opened s
  pub fired : m.firings ≡ made_firings lay p n rank v
  pub leads : m.after ≡ whole.state_then
  pub goes :
      (x : ℕ) (j : Joint) (way : Direction) → slice_get p.joints x ≡ Some j
      → pending_at lay p n regs (source j way) ≤ at v (n.leaves (source j way)).pulse

abbrev pub Chain : Laying → Plan → Netlist → Places → (End → ℕ) → List Numbers → Numbers → Tokens → List Made → Type 0
Chain lay p net n rank vs regs s [] = Unit {0}
Chain lay p net n rank [] regs s (m ∷ ms) = ⊥
Chain lay p net n rank (v ∷ vs) regs s (m ∷ ms) =
    (after : Numbers) × OneCycle lay p net n rank v regs after s m × Chain lay p net n rank vs after m.after ms

-- the next cycle is broken, seen from where o is open
abbrev pub BrokenFrom : Plan → Netlist → List Numbers → Open → Tokens → List Made → Type 0
BrokenFrom p net vs o s ms =
    (v : Numbers) × (fs : List PartFiring) × (t : Tokens) × (slice_get vs (length ms) ≡ Some v)
    × Runs p (list_of p net vs ms ++ cycle_list p (outputs net v) (inputs net v) fs) s t
    × ((u : Open) (w : Tokens) → OrderlyFrom p (list_of p net vs ms ++ cycle_list p (outputs net v) (inputs net v) fs) o s u w → ⊥)

pub record Listed (lay : Laying) (p : Plan) (net : Netlist) (n : Places) (rank : End → ℕ) (regs : Numbers) (vs : List Numbers) (o : Open) (s : Tokens) : Type 0 where
  pub cycles : List Made
  pub made : MakesCycles p net vs s cycles
  pub chain : Chain lay p net n rank vs regs s cycles
  pub ends : (length cycles ≡ length vs) ⊎ BrokenFrom p net vs o s cycles

-- the elements of a cycle are those of its labels
as_labels : (lay : Laying) (p : Plan) (net : Netlist) (n : Places) (v regs after : Numbers) (fs : List PartFiring) → CycleFacts lay p net n v regs after
    → listing p n v fs ≡ cycle_list p (outputs net v) (inputs net v) fs
as_labels lay p net n v regs after fs facts = λ i. sym facts.outs i ++ (sym facts.ins i ++ fires_of fs)

pub follows : (lay : Laying) (p : Plan) (net : Netlist) (n : Places) (rank : End → ℕ) (regs : Numbers) (vs : List Numbers) (o : Open) (s : Tokens)
    → Rises lay p rank → IsRight p → PartFacts lay p rank → PlanFacts lay p n → Led p o s → Standing lay p n regs s
    → Follow lay p net n regs vs → Listed lay p net n rank regs vs o s
follows lay p net n rank regs [] o s rises right parts plan led standing follow = record { cycles = []; made = tt; chain = tt; ends = inl refl }
follows lay p net n rank regs (v ∷ vs) o s rises right parts plan led standing (after, facts, follow) =
    by_end (cycle_ends lay p net n rank v regs after o s rises now)
    (λ u t so_far next. follows lay p net n rank after vs u t rises right parts plan so_far next follow)
  where
    now : Now lay p net n rank v regs after o s
    now = record { right = right; part_facts = parts; plan_facts = plan; facts = facts; led = led; standing = standing }

    as_cycle : (fs : List PartFiring) → listing p n v fs ≡ cycle_list p (outputs net v) (inputs net v) fs
    as_cycle fs = as_labels lay p net n v regs after fs facts

    longer : (w : Whole lay p n rank v o s) → Listed lay p net n rank after vs w.open_then w.state_then → Listed lay p net n rank regs (v ∷ vs) o s
    longer w rest =
        record {
          cycles = m ∷ rest.cycles;
          made = (one_order_is_enough p net v s m right facts.outs_apart facts.ins_apart runs, rest.made);
          chain = (after, one, rest.chain);
          ends = by_rest rest.ends;
        }
      where
        m : Made
        m = record { firings = made_firings lay p n rank v; after = w.state_then }

        list_here : OrderlyFrom p (cycle_list p (outputs net v) (inputs net v) (made_firings lay p n rank v)) o s w.open_then w.state_then
        list_here = subst (λ (l : List Element). OrderlyFrom p l o s w.open_then w.state_then) (as_cycle (made_firings lay p n rank v)) w.list

        runs : Runs p (cycle_list p (outputs net v) (inputs net v) (made_firings lay p n rank v)) s w.state_then
        runs = orderly_is_possible p (cycle_list p (outputs net v) (inputs net v) (made_firings lay p n rank v)) o w.open_then s w.state_then list_here

        one : OneCycle lay p net n rank v regs after s m
        one = record { opened = o; now = now; whole = w; fired = refl; leads = refl; goes = (left lay p net n rank v regs after o s w rises now).goes }

        by_rest : (length rest.cycles ≡ length vs) ⊎ BrokenFrom p net vs w.open_then w.state_then rest.cycles
            → (length (m ∷ rest.cycles) ≡ length (v ∷ vs)) ⊎ BrokenFrom p net (v ∷ vs) o s (m ∷ rest.cycles)
        by_rest (inl as_many) = inl (ap suc as_many)
        by_rest (inr (x, fs, t, there, broken, never)) =
            let here : List Element = cycle_list p (outputs net v) (inputs net v) (made_firings lay p n rank v) in
            let further : List Element = list_of p net vs rest.cycles in
            let last : List Element = cycle_list p (outputs net x) (inputs net x) fs in
            inr (
              x,
              fs,
              t,
              there,
              subst (λ (l : List Element). Runs p l s t) (sym (append_assoc here further last)) (runs-append p here (further ++ last) s w.state_then t runs broken),
              subst (λ (l : List Element). (u : Open) (z : Tokens) → OrderlyFrom p l o s u z → ⊥) (sym (append_assoc here further last))
                  (never_whole p here (further ++ last) o w.open_then s w.state_then list_here never),
            )

    by_end : Whole lay p n rank v o s ⊎ Stopped p n v o s
        → ((u : Open) (t : Tokens) → Led p u t → Standing lay p n after t → Listed lay p net n rank after vs u t)
        → Listed lay p net n rank regs (v ∷ vs) o s
    by_end (inl w) go =
        longer w
        (go w.open_then w.state_then (led_on p (whole_list lay p n rank v) o w.open_then s w.state_then led w.list)
        (left lay p net n rank v regs after o s w rises now).standing)
    by_end (inr stopped) go =
        record {
          cycles = [];
          made = tt;
          chain = tt;
          ends =
              inr (
                v,
                stopped.firings,
                stopped.state_then,
                refl,
                subst (λ (l : List Element). Runs p l s stopped.state_then) (as_cycle stopped.firings) stopped.runs,
                subst (λ (l : List Element). (u : Open) (z : Tokens) → OrderlyFrom p l o s u z → ⊥) (as_cycle stopped.firings) stopped.never,
              );
        }

-- at reset nothing is there
abbrev pub empty : Tokens
empty = record { in_place = λ way e. None; state = λ i. firing.at Rest 0 }

nothing_there : (p : Plan) (way : Direction) (f : Option End) (x : ℕ) → held_at empty way f ≡ Some x → ⊥
nothing_there p way None x e = cc e
nothing_there p way (Some a) x e = cc e

pub at_reset : (lay : Laying) (p : Plan) (n : Places) (rank : End → ℕ) (regs : Numbers) → PartFacts lay p rank → ((m : ℕ) → at regs m ≡ 0) → Standing lay p n regs empty
at_reset lay p n rank regs parts zero_all =
    record {
      welcome = λ i t c x there way lies. absurd (nothing_there p (way_of t) (places_of p (end_of i t)) x lies);
      fit = idle_fits p empty ((λ way e. refl), λ i. refl);
      parts = λ i k is. ((parts.gates i k is).rests (n.start i) regs zero_all).0;
      joints = λ x j way there.
          let a = (nothing_held (lay.keep x way) (n.arrives (target j way))).0 in
          let b = (nothing_held (lay.keep x way) (n.arrives (target j way))).1 in
          let c = (nothing_pending (source j way)).0 in
          let d = (nothing_pending (source j way)).1 in
          let e = (nothing_shown (target j way)).0 in
          let f = (nothing_shown (target j way)).1 in
          record {
            counts = omega (arith, a, c, e);
            numbers = λ some. omega (arith, b, d, f);
            narrow = λ _ some none. subst (λ (m : ℕ). m < 2 ^ width p j way) (sym (zero_all (n.arrives (target j way)).number)) (pow_pos (width p j way));
          };
      loose = λ e c port there none. zero_all (n.shows e).pulse;
    }
  where
    none_carried : (nets : Nets) → carried regs nets ≡ 0
    none_carried nets = ap (λ (m : ℕ). number_by_pulse m (at regs nets.number)) (zero_all nets.pulse)

    nothing_held : (b : Bool) (nets : Nets) → (held_pulse b regs nets ≡ 0) × (held_number b regs nets ≡ 0)
    nothing_held true nets = (zero_all nets.pulse, none_carried nets)
    nothing_held false nets = (refl, refl)

    of_part : (i : ℕ) (f : Option Part) → slice_get p.parts i ≡ f → pending_if (lay.making i) f (n.start i) regs ≡ []
    of_part i None is = refl
    of_part i (Some k) is = ((parts.gates i k is).rests (n.start i) regs zero_all).1

    nothing_pending : (e : End) → (pending_at lay p n regs e ≡ 0) × (pending_numbers lay p n regs e ≡ 0)
    nothing_pending (PartEnd i h) = let none = of_part i (slice_get p.parts i) refl in (ap (due h) none, ap (value_due h) none)
    nothing_pending (ImportEnd i h) = (refl, refl)
    nothing_pending (ResultEnd h) = (refl, refl)

    nothing_shown : (e : End) → (shown_at n regs e ≡ 0) × (shown_numbers n regs e ≡ 0)
    nothing_shown (PartEnd i h) = (refl, refl)
    nothing_shown (ImportEnd i h) = (zero_all (n.shows (ImportEnd i h)).pulse, none_carried (n.shows (ImportEnd i h)))
    nothing_shown (ResultEnd h) = (zero_all (n.shows (ResultEnd h)).pulse, none_carried (n.shows (ResultEnd h)))
