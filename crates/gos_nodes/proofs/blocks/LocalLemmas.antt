-- A block with a local variable is played: while the part is active the body runs within the block, whose variable has its number.
use Rattle.std.specs.Prelude.{◌≡◌, ℕ, false, List, [], ◌∷◌, Some}
use Rattle.std.proofs.Common.{refl, sym, ap, subst, ◌∙◌}
use Rattle.gos_types.specs.Types.{Var}
use Rattle.gos_types.specs.Events.{Request, Answer}
use Rattle.gos_model.specs.Terms.{Term, Import, New, Loc, Scope}
use Rattle.gos_model.specs.Substitution.{instantiate}
use Rattle.gos_model.specs.Typing.{Typed, import_type}
use Rattle.gos_model.specs.Stores.{Store}
use Rattle.gos_model.specs.Labels.{taken}
use Rattle.gos_model.specs.Moves.{Program, Config, Idle, Running, Act, Moves, labels}
use Rattle.gos_plan.specs.Firing.{Rest, Active, State, Slot, Req, Ans, Row, at, firing}
use Rattle.gos_plan.specs.Plans.{Plan}
use Rattle.gos_realises.specs.realises.Matched.{asks_on, event_number, program_of}
use Rattle.gos_realises.specs.realises.Realises.{NamesDiffer}
use Rattle.gos_programs.specs.contexts.Widening.{Knows}
use Rattle.gos_programs.proofs.contexts.WideningLemmas.{sources_known, runs_known}
use Rattle.gos_nodes.specs.sessions.Sessions.{bits}
use Rattle.gos_nodes.proofs.parallel.MoveLemmas.{Came}
use Rattle.gos_nodes.specs.blocks.Servers.{Server, run_of, begin_row, Serves, local_server}
use Rattle.gos_nodes.specs.blocks.Block.{Block, IsBlock}
use Rattle.gos_nodes.proofs.blocks.DriverLemmas.{LocalRow, starts, reads, writes, stops, local_row, LocalServes, is_read, is_write, local_begins, local_serves}
use Rattle.gos_nodes.proofs.blocks.ImportLemmas.{wide_imports, body_among, variable_typed, others_same, variable_new}
use Rattle.gos_nodes.proofs.blocks.InsideLemmas as inside
use Rattle.gos_nodes.proofs.blocks.InsideLemmas.{home_store, Inside, inside_moves, leaves, inside_waits, begins, first_step}
use Rattle.gos_nodes.proofs.blocks.PlayedLemmas.{Served, IsPlayed}

module _ (r : Plan) (b : Block) (is : IsBlock r b) (differ : NamesDiffer r.imports) (width : ℕ) (local : b.server ≡ local_server width (bits r.outcome)) (m : Term) where
  abbrev on_body : Program
  on_body = program_of b.body (instantiate m (Import b.variable.name))

  abbrev on_whole : Program
  on_whole = program_of r (New width m)

  abbrev on_wide : Program
  on_wide = record { imports = wide_imports r b is differ; body = Import b.variable.name }

  abbrev var_typed : import_type on_wide.imports b.variable.name ≡ Some (Var width)
  var_typed = variable_typed r b is differ (Var width) (ap (λ (a : Server). a.supply) local)

  -- the body within the block, whose variable has number k
  abbrev Within : ℕ → Config → Config → Type 0
  Within k inner c =
      Inside on_body on_wide on_whole b.variable.name width (body_among r b is differ) var_typed (others_same r b is differ) k 0 inner c

  abbrev pub LocalWithin : State → Config → Config → Type 0
  LocalWithin q inner c = (q.phase ≡ Active) × Within q.number inner c

  module _ (typed : Typed r.imports [] (New width m) r.outcome) (source : Typed b.body.imports [] (instantiate m (Import b.variable.name)) b.body.outcome) where
    knows : (t : Term) (v : Store) → Came on_body (Running t v) → Knows b.body.imports t
    knows t v (acts, moves) = runs_known on_body acts t v (sources_known b.body.imports [] (instantiate m (Import b.variable.name)) b.body.outcome source) moves

    running_not_idle : (t : Term) (v : Store) (c : Config) → c ≡ Running t v → c ≡ Idle → ⊥
    running_not_idle t v c is_running is_idle = let bad : Running t v ≡ Idle = sym is_running ∙ is_idle in cc bad

    begins_so : (q : State) (next : ℕ → State) (v : ℕ) → firing b.server.part q (Req (run_of b.server)) ≡ Some (begin_row b.server next)
        → q.phase ≡ Rest → next v ≡ at Active 0
    begins_so q next v by rest =
        ap (λ (y : Row). y.next v) (local_begins b.server width (bits r.outcome) local q (Req (run_of b.server)) (begin_row b.server next) by rest)

    -- what the server serves is a read or a write
    serves_so : (q : State) (slot : Slot) (row : Row) (z : Serves b.server q slot row) (v : ℕ) (first more : List Act) (inner between next c : Config)
        → labels first ≡ taken b.variable.name (event_number Request z.at) v ∷ []
        → labels more ≡ taken b.variable.name (event_number Answer z.back) (z.number v) ∷ []
        → Within q.number inner c → Moves on_body first inner between → Moves on_body more between next
        → LocalServes b.server q slot row z → Served LocalWithin on_whole (z.next v) next c
    serves_so q slot row z v first more inner between next c asked answered i one other (is_read active is_slot at_is back_is number state) =
        let all =
        inside.reads on_body on_wide on_whole b.variable.name width (body_among r b is differ) var_typed (others_same r b is differ) q.number v first more inner between next c
        (asked ∙ ap (λ (h : ℕ). taken b.variable.name (event_number Request h) v ∷ []) at_is)
        (answered ∙ (λ l. taken b.variable.name (event_number Answer (back_is l)) (number v l) ∷ [])) i one other in
        record {
          acts = all.acts;
          to = all.to;
          silent = all.silent;
          moves = all.moves;
          within = subst (λ (x : State). LocalWithin x next all.to) (sym (state v)) (refl, all.inside);
        }
    serves_so q slot row z v first more inner between next c asked answered i one other (is_write active is_slot at_is back_is number state) =
        let all =
        inside.writes on_body on_wide on_whole b.variable.name width (body_among r b is differ) var_typed (others_same r b is differ) q.number v first more inner between next c
        (asked ∙ ap (λ (h : ℕ). taken b.variable.name (event_number Request h) v ∷ []) at_is)
        (answered ∙ (λ l. taken b.variable.name (event_number Answer (back_is l)) (number v l) ∷ [])) i one other in
        record {
          acts = all.acts;
          to = all.to;
          silent = all.silent;
          moves = all.moves;
          within = subst (λ (x : State). LocalWithin x next all.to) (sym (state v)) (refl, all.inside);
        }

    -- the one row that takes an answer asks for nothing
    quiet_row : (q : State) (h : ℕ) (row : Row) → LocalRow q.phase q.number (Ans h) row → (v : ℕ) → asks_on (row.puts v) ≡ false
    quiet_row q h row (starts rest is_slot is_row) v = absurd (cc is_slot)
    quiet_row q h row (reads active is_slot is_row) v = absurd (cc is_slot)
    quiet_row q h row (writes active is_slot is_row) v = absurd (cc is_slot)
    quiet_row q h row (stops active is_slot is_row) v = ap (λ (y : Row). asks_on (y.puts v)) is_row

    pub local_is_played : IsPlayed b.server b.variable.name on_body on_whole LocalWithin
    local_is_played =
        record {
          runs = λ q inner c w. (w.1.term, w.1.store, w.1.own_is);
          busy = λ q inner c w same. running_not_idle w.1.now _ c w.1.whole_is same;
          begins = λ q next v by rest. (
            Running (Scope 0 (instantiate m (Loc 0))) (home_store width 0),
            first_step on_whole width m,
            subst (λ (x : State). LocalWithin x (Running (instantiate m (Import b.variable.name)) []) (Running (Scope 0 (instantiate m (Loc 0))) (home_store width 0)))
                (sym (begins_so q next v by rest)) (
                  refl,
                  begins on_body on_wide on_whole b.variable.name width (body_among r b is differ) var_typed (others_same r b is differ) m r.outcome
                      b.body.outcome typed.2 (variable_new r b is differ) source,
                ),
          );
          others = λ q acts inner next c apart w moves.
              (let (e, made, also) =
              inside_moves on_body on_wide on_whole b.variable.name width (body_among r b is differ) var_typed (others_same r b is differ) acts q.number 0
              inner next c apart w.1 moves in (e, made, (w.0, also)));
          serves = λ q slot row z v first more inner between next c by came asked answered w one other.
              serves_so q slot row z v first more inner between next c asked answered w.1 one other
              (local_serves b.server width (bits r.outcome) local q slot row by z);
          quiet = λ q h row by v.
              quiet_row q h row
              (local_row width (bits r.outcome) q.phase q.number (Ans h) row (sym (ap (λ (a : Server). firing a.part q (Ans h)) local) ∙ by)) v;
          leaves = λ q next t s o d c by w e.
              leaves on_body on_wide on_whole b.variable.name width (body_among r b is differ) var_typed (others_same r b is differ) q.number t s o d c w.1 e;
          waits = λ q inner c came w stalled.
              inside_waits on_body on_wide on_whole b.variable.name width (body_among r b is differ) var_typed (others_same r b is differ) q.number
              inner c w.1 (knows w.1.term w.1.store (subst (Came on_body) w.1.own_is came)) stalled;
        }
