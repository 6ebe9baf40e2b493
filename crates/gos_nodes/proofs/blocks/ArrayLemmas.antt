-- A block with an array is played: its numbers are those of the part's phase, and an access waits where the part waits for an index.
use Rattle.std.specs.Prelude.{◌≡◌, ◌<◌, ◌^◌, ℕ, false, List, [], ◌∷◌, length, Some, None, get_or, set, replicate, slice_get}
use Rattle.std.proofs.Common.{refl, sym, ap, subst, ◌∙◌}
use Rattle.std.proofs.lemmas.List.{length-set, length-replicate}
use Rattle.std.proofs.lemmas.Option.{slice_get-get_or}
use Rattle.gos_types.specs.Events.{Request, Answer}
use Rattle.gos_types.proofs.BytesLemmas.{same_bytes_eq}
use Rattle.gos_model.specs.Terms.{Term, Import, NewArray, Arr, Scope}
use Rattle.gos_model.specs.Substitution.{instantiate}
use Rattle.gos_model.specs.Typing.{Typed, index_width, array_type}
use Rattle.gos_model.specs.Stores.{Store}
use Rattle.gos_model.specs.Accesses.{IsArrayImport}
use Rattle.gos_model.specs.Labels.{Label, taken}
use Rattle.gos_model.specs.Moves.{Program, Config, Idle, Running, Act, Moves, labels, Stalled}
use Rattle.gos_model.proofs.ArrayLemmas.{length_is_power}
use Rattle.gos_plan.specs.Firing.{Rest, Cells, Reading, WritingTo, State, Slot, Req, Ans, Row, at, firing}
use Rattle.gos_plan.specs.Plans.{Plan}
use Rattle.gos_joining.proofs.renumbered.ImportLemmas.{type_has}
use Rattle.gos_realises.specs.realises.Matched.{asks_on, event_number, program_of}
use Rattle.gos_realises.specs.realises.Realises.{NamesDiffer}
use Rattle.gos_realises.proofs.realises.PlaceLemmas.{contains_at}
use Rattle.gos_programs.specs.contexts.Widening.{Knows}
use Rattle.gos_programs.proofs.contexts.WideningLemmas.{sources_known, runs_known}
use Rattle.gos_programs.specs.results.HasTypes.{widths_of, HasType}
use Rattle.gos_programs.proofs.results.ResultLemmas.{runs_keep_types}
use Rattle.gos_programs.specs.arrays.Stages.{Stage, Clear, Begun, Asked, Told}
use Rattle.gos_programs.specs.arrays.ArrayWaits.{IsAnswered}
use Rattle.gos_programs.proofs.arrays.ArrayTypeLemmas.{index_fits, read_is_zero}
use Rattle.gos_nodes.specs.sessions.Sessions.{bits}
use Rattle.gos_nodes.proofs.parallel.MoveLemmas.{Came, came_on, Ended}
use Rattle.gos_nodes.specs.blocks.Servers.{Server, run_of, begin_row, end_row, Serves, array_server}
use Rattle.gos_nodes.specs.blocks.Block.{Block, IsBlock}
use Rattle.gos_nodes.proofs.blocks.ArrayDriverLemmas.{ArrayRow, starts, reads, writes, stops, reads_at, writes_at, ArrayServes, is_read, is_write, is_told, is_put, has_row, array_begins, array_ends, array_serves}
use Rattle.gos_nodes.proofs.blocks.ImportLemmas.{wide_imports, body_among, variable_typed, others_same, variable_new}
use Rattle.gos_nodes.proofs.blocks.ArrayInsideLemmas as inside
use Rattle.gos_nodes.proofs.blocks.ArrayInsideLemmas.{home_store, Inside, Shown, inside_moves, asks_index, tells, leaves, inside_waits, begins, first_step}
use Rattle.gos_nodes.proofs.blocks.PlayedLemmas.{AllOthers, Left, Served, IsPlayed}

-- what a phase says of the array's numbers and of the access that waits, with the number that it writes
abbrev StandsFor : State → List ℕ → Stage → Type 0
StandsFor q ks Clear = q.phase ≡ Cells ks
StandsFor q ks (Begun o) = ⊥
StandsFor q ks (Asked None) = q.phase ≡ Reading ks
StandsFor q ks (Asked (Some v)) = (q.phase ≡ WritingTo ks) × (q.number ≡ v)
StandsFor q ks (Told o k) = ⊥

answered : (q : State) (ks : List ℕ) (st : Stage) → StandsFor q ks st → IsAnswered st
answered q ks Clear h = tt
answered q ks (Begun o) h = h
answered q ks (Asked o) h = tt
answered q ks (Told o k) h = h

cells_apart : (ks ns : List ℕ) → Cells ks ≡ Reading ns → ⊥
cells_apart ks ns e = cc e

cells_not_writing : (ks ns : List ℕ) → Cells ks ≡ WritingTo ns → ⊥
cells_not_writing ks ns e = cc e

reading_not_writing : (ks ns : List ℕ) → Reading ks ≡ WritingTo ns → ⊥
reading_not_writing ks ns e = cc e

module _
    (r : Plan) (b : Block) (is : IsBlock r b) (differ : NamesDiffer r.imports) (names : NamesDiffer b.body.imports) (n w : ℕ)
    (array : b.server ≡ array_server w n (bits r.outcome)) (m : Term) where
  abbrev on_body : Program
  on_body = program_of b.body (instantiate m (Import b.variable.name))

  abbrev on_whole : Program
  on_whole = program_of r (NewArray n w m)

  abbrev on_wide : Program
  on_wide = record { imports = wide_imports r b is differ; body = Import b.variable.name }

  abbrev wide_array : IsArrayImport on_wide.imports b.variable.name (index_width n) w
  wide_array = variable_typed r b is differ (array_type n w) (ap (λ (a : Server). a.supply) array)

  own_array : IsArrayImport b.body.imports b.variable.name (index_width n) w
  own_array =
      type_has b.body.imports names b.variable.name b.variable (contains_at b.body.imports b.place b.variable is.there) (same_bytes_eq b.variable.name b.variable.name refl)
      ∙ ap (λ t. Some t) (is.type ∙ ap (λ (a : Server). a.supply) array)

  -- the body within the block, whose array has these numbers
  abbrev Within : List ℕ → Stage → Config → Config → Type 0
  Within ks st inner c =
      Inside on_body on_wide on_whole b.variable.name (index_width n) w (body_among r b is differ) wide_array (others_same r b is differ) ks st inner c

  abbrev pub ArrayWithin : State → Config → Config → Type 0
  ArrayWithin q inner c = (ks : List ℕ) × (st : Stage) × (length ks ≡ n) × StandsFor q ks st × Within ks st inner c

  -- what it says in each phase
  at_cells : (q : State) (ns : List ℕ) (inner c : Config) → q.phase ≡ Cells ns → ArrayWithin q inner c → (length ns ≡ n) × Within ns Clear inner c
  at_cells q ns inner c phase (ks, Clear, long, fits, i) =
      let both : Cells ks ≡ Cells ns = sym fits ∙ phase in
      let same : ks ≡ ns = cc both in
      subst (λ (x : List ℕ). (length x ≡ n) × Within x Clear inner c) same (long, i)
  at_cells q ns inner c phase (ks, Begun o, long, fits, i) = absurd fits
  at_cells q ns inner c phase (ks, Asked None, long, fits, i) = absurd (cells_apart ns ks (sym phase ∙ fits))
  at_cells q ns inner c phase (ks, Asked (Some v), long, fits, i) = absurd (cells_not_writing ns ks (sym phase ∙ fits.0))
  at_cells q ns inner c phase (ks, Told o k, long, fits, i) = absurd fits

  at_reading : (q : State) (ns : List ℕ) (inner c : Config) → q.phase ≡ Reading ns → ArrayWithin q inner c → (length ns ≡ n) × Within ns (Asked None) inner c
  at_reading q ns inner c phase (ks, Clear, long, fits, i) = absurd (cells_apart ks ns (sym fits ∙ phase))
  at_reading q ns inner c phase (ks, Begun o, long, fits, i) = absurd fits
  at_reading q ns inner c phase (ks, Asked None, long, fits, i) =
      let both : Reading ks ≡ Reading ns = sym fits ∙ phase in
      let same : ks ≡ ns = cc both in
      subst (λ (x : List ℕ). (length x ≡ n) × Within x (Asked None) inner c) same (long, i)
  at_reading q ns inner c phase (ks, Asked (Some v), long, fits, i) = absurd (reading_not_writing ns ks (sym phase ∙ fits.0))
  at_reading q ns inner c phase (ks, Told o k, long, fits, i) = absurd fits

  at_writing : (q : State) (ns : List ℕ) (inner c : Config) → q.phase ≡ WritingTo ns → ArrayWithin q inner c → (length ns ≡ n) × Within ns (Asked (Some q.number)) inner c
  at_writing q ns inner c phase (ks, Clear, long, fits, i) = absurd (cells_not_writing ks ns (sym fits ∙ phase))
  at_writing q ns inner c phase (ks, Begun o, long, fits, i) = absurd fits
  at_writing q ns inner c phase (ks, Asked None, long, fits, i) = absurd (reading_not_writing ks ns (sym fits ∙ phase))
  at_writing q ns inner c phase (ks, Asked (Some v), long, fits, i) =
      let both : WritingTo ks ≡ WritingTo ns = sym fits.0 ∙ phase in
      let same : ks ≡ ns = cc both in
      let number : Within ks (Asked (Some q.number)) inner c = subst (λ (x : ℕ). Within ks (Asked (Some x)) inner c) (sym fits.1) i in
      subst (λ (x : List ℕ). (length x ≡ n) × Within x (Asked (Some q.number)) inner c) same (long, number)
  at_writing q ns inner c phase (ks, Told o k, long, fits, i) = absurd fits

  module _ (typed : Typed r.imports [] (NewArray n w m) r.outcome) (source : Typed b.body.imports [] (instantiate m (Import b.variable.name)) b.body.outcome) where
    knows : (t : Term) (v : Store) → Came on_body (Running t v) → Knows b.body.imports t
    knows t v (acts, moves) = runs_known on_body acts t v (sources_known b.body.imports [] (instantiate m (Import b.variable.name)) b.body.outcome source) moves

    has_type : (t : Term) (v : Store) → Came on_body (Running t v) → HasType (widths_of v) b.body.imports [] t b.body.outcome
    has_type t v (acts, moves) = (runs_keep_types on_body b.body.outcome acts t v source moves).0

    running_not_idle : (t : Term) (v : Store) (c : Config) → c ≡ Running t v → c ≡ Idle → ⊥
    running_not_idle t v c is_running is_idle = let bad : Running t v ≡ Idle = sym is_running ∙ is_idle in cc bad

    -- the number at an index that is told
    there_is : (ns : List ℕ) (k : ℕ) → length ns ≡ n → k < 2 ^ index_width n → slice_get ns k ≡ Some (get_or ns k 0)
    there_is ns k long small =
        let whole : length ns ≡ 2 ^ index_width n = long ∙ (length_is_power n typed.1).0 in
        slice_get-get_or ns k 0 (subst (λ (x : ℕ). k < x) (sym whole) small)

    told_small : (k : ℕ) (ks : List ℕ) (st : Stage) (acts : List Act) (inner next c : Config) → Came on_body inner → labels acts ≡ taken b.variable.name 0 k ∷ []
        → Within ks st inner c → Moves on_body acts inner next → k < 2 ^ index_width n
    told_small k ks st acts inner next c came shown i moves =
        let (before, t, u, s, z, run, tell) =
        tells on_body on_wide on_whole b.variable.name (index_width n) w (body_among r b is differ) wide_array (others_same r b is differ) (taken b.variable.name 0 k) ks st acts
        inner next c shown refl i moves in
        index_fits (widths_of s) on_body b.variable.name (index_width n) w k own_array t u s z b.body.outcome
        (has_type t s (came_on on_body before inner (Running t s) came run)) tell

    read_zero : (v : ℕ) (ks : List ℕ) (st : Stage) (acts : List Act) (inner next c : Config) → labels acts ≡ taken b.variable.name 2 v ∷ []
        → Within ks st inner c → Moves on_body acts inner next → v ≡ 0
    read_zero v ks st acts inner next c shown i moves =
        let (before, t, u, s, z, run, tell) =
        tells on_body on_wide on_whole b.variable.name (index_width n) w (body_among r b is differ) wide_array (others_same r b is differ) (taken b.variable.name 2 v) ks st acts
        inner next c shown refl i moves in
        read_is_zero on_body b.variable.name (index_width n) w v own_array t u s z tell

    abbrev ServedSo : State → Config → Config → Type 0
    ServedSo q next c = Served ArrayWithin on_whole q next c

    -- the block after a service
    served : (q next : State) (ks : List ℕ) (st : Stage) (to c : Config) → q ≡ next → length ks ≡ n → StandsFor next ks st
        → Shown on_body on_wide on_whole b.variable.name (index_width n) w (body_among r b is differ) wide_array (others_same r b is differ) ks st to c → ServedSo q to c
    served q next ks st to c state long fits all =
        record {
          acts = all.acts;
          to = all.to;
          silent = all.silent;
          moves = all.moves;
          within = subst (λ (x : State). ArrayWithin x to all.to) (sym state) (ks, st, long, fits, all.inside);
        }

    serves_so : (q : State) (slot : Slot) (row : Row) (z : Serves b.server q slot row) (v : ℕ) (first more : List Act) (inner between next c : Config)
        → Came on_body inner
        → labels first ≡ taken b.variable.name (event_number Request z.at) v ∷ []
        → labels more ≡ taken b.variable.name (event_number Answer z.back) (z.number v) ∷ []
        → ArrayWithin q inner c → Moves on_body first inner between → Moves on_body more between next
        → ArrayServes b.server q slot row z → ServedSo (z.next v) next c
    serves_so q slot row z v first more inner between next c came asked answered i one other (is_read ns phase at_is back_is number state) =
        let (long, here) = at_cells q ns inner c phase i in
        let begun : labels first ≡ taken b.variable.name 2 v ∷ [] = asked ∙ ap (λ (h : ℕ). taken b.variable.name (event_number Request h) v ∷ []) at_is in
        let none = read_zero v ns Clear first inner between c begun here one in
        served (z.next v) (at (Reading ns) q.number) ns (Asked None) next c (state v) long refl
        (asks_index on_body on_wide on_whole b.variable.name (index_width n) w (body_among r b is differ) wide_array (others_same r b is differ) ns None (z.number v) first more inner between
        next c (begun ∙ ap (λ (k : ℕ). taken b.variable.name 2 k ∷ []) none)
        (answered ∙ ap (λ (h : ℕ). taken b.variable.name (event_number Answer h) (z.number v) ∷ []) back_is) here one other)
    serves_so q slot row z v first more inner between next c came asked answered i one other (is_write ns phase at_is back_is number state) =
        let (long, here) = at_cells q ns inner c phase i in
        served (z.next v) (at (WritingTo ns) v) ns (Asked (Some v)) next c (state v) long (refl, refl)
        (asks_index on_body on_wide on_whole b.variable.name (index_width n) w (body_among r b is differ) wide_array (others_same r b is differ) ns (Some v) (z.number v) first more inner
        between next c (asked ∙ ap (λ (h : ℕ). taken b.variable.name (event_number Request h) v ∷ []) at_is)
        (answered ∙ ap (λ (h : ℕ). taken b.variable.name (event_number Answer h) (z.number v) ∷ []) back_is) here one other)
    serves_so q slot row z v first more inner between next c came asked answered i one other (is_told ns phase at_is back_is number state) =
        let (long, here) = at_reading q ns inner c phase i in
        let told : labels first ≡ taken b.variable.name 0 v ∷ [] = asked ∙ ap (λ (h : ℕ). taken b.variable.name (event_number Request h) v ∷ []) at_is in
        let small = told_small v ns (Asked None) first inner between c came told here one in
        served (z.next v) (at (Cells ns) q.number) ns Clear next c (state v) long refl
        (inside.reads on_body on_wide on_whole b.variable.name (index_width n) w (body_among r b is differ) wide_array (others_same r b is differ) ns v (get_or ns v 0) first more inner
        between next c (there_is ns v long small) told
        (answered ∙ (λ l. taken b.variable.name (event_number Answer (back_is l)) (number v l) ∷ [])) here one other)
    serves_so q slot row z v first more inner between next c came asked answered i one other (is_put ns phase at_is back_is number state) =
        let (long, here) = at_writing q ns inner c phase i in
        let told : labels first ≡ taken b.variable.name 0 v ∷ [] = asked ∙ ap (λ (h : ℕ). taken b.variable.name (event_number Request h) v ∷ []) at_is in
        let small = told_small v ns (Asked (Some q.number)) first inner between c came told here one in
        served (z.next v) (at (Cells (set ns v q.number)) q.number) (set ns v q.number) Clear next c (state v) (length-set ns v q.number ∙ long) refl
        (inside.writes on_body on_wide on_whole b.variable.name (index_width n) w (body_among r b is differ) wide_array (others_same r b is differ) ns v q.number (get_or ns v 0) first more
        inner between next c (there_is ns v long small) told
        (answered ∙ (λ l. taken b.variable.name (event_number Answer (back_is l)) (number v l) ∷ [])) here one other)

    -- the rows that take an answer ask for nothing
    quiet_row : (q : State) (h : ℕ) (row : Row) → ArrayRow n q.phase q.number (Ans h) row → (v : ℕ) → asks_on (row.puts v) ≡ false
    quiet_row q h row (starts rest is_slot is_row) v = absurd (cc is_slot)
    quiet_row q h row (reads ns phase is_slot is_row) v = absurd (cc is_slot)
    quiet_row q h row (writes ns phase is_slot is_row) v = absurd (cc is_slot)
    quiet_row q h row (stops ns phase is_slot is_row) v = ap (λ (y : Row). asks_on (y.puts v)) is_row
    quiet_row q h row (reads_at ns phase is_slot is_row) v = ap (λ (y : Row). asks_on (y.puts v)) is_row
    quiet_row q h row (writes_at ns phase is_slot is_row) v = ap (λ (y : Row). asks_on (y.puts v)) is_row

    abbrev first_numbers : List ℕ
    first_numbers = replicate n 0

    abbrev opened : Config
    opened = Running (Scope 0 (instantiate m (Arr 0))) (home_store w first_numbers)

    begins_so : (q : State) (next : ℕ → State) (v : ℕ) → firing b.server.part q (Req (run_of b.server)) ≡ Some (begin_row b.server next) → q.phase ≡ Rest
        → ArrayWithin (next v) (Running (instantiate m (Import b.variable.name)) []) opened
    begins_so q next v by rest =
        let state : next v ≡ at (Cells first_numbers) q.number =
        ap (λ (y : Row). y.next v) (array_begins b.server w n (bits r.outcome) array q (Req (run_of b.server)) (begin_row b.server next) by rest) in
        subst (λ (x : State). ArrayWithin x (Running (instantiate m (Import b.variable.name)) []) opened) (sym state) (
          first_numbers,
          Clear,
          length-replicate n 0,
          refl,
          begins on_body on_wide on_whole b.variable.name n w (body_among r b is differ) wide_array (others_same r b is differ) first_numbers m r.outcome b.body.outcome
              typed.3 (variable_new r b is differ) source,
        )

    others_so : (q : State) (acts : List Act) (inner next c : Config) → AllOthers b.variable.name (labels acts) → ArrayWithin q inner c → Moves on_body acts inner next
        → (e : Config) × Moves on_whole acts c e × ArrayWithin q next e
    others_so q acts inner next c apart (ks, st, long, fits, i) moves =
        let (e, made, also) =
        inside_moves on_body on_wide on_whole b.variable.name (index_width n) w (body_among r b is differ) wide_array (others_same r b is differ) acts ks st inner next c apart i moves in
        (e, made, (ks, st, long, fits, also))

    runs_so : (q : State) (inner c : Config) → ArrayWithin q inner c → (t : Term) × (s : Store) × (inner ≡ Running t s)
    runs_so q inner c (ks, st, long, fits, i) = (i.term, i.store, i.own_is)

    busy_so : (q : State) (inner c : Config) → ArrayWithin q inner c → c ≡ Idle → ⊥
    busy_so q inner c (ks, st, long, fits, i) same = running_not_idle i.now _ c i.whole_is same

    leaves_so : (q : State) (next : ℕ → State) (t : Term) (s : Store) (o : Label) (d c : Config)
        → firing b.server.part q (Ans 0) ≡ Some (end_row b.server next) → ArrayWithin q (Running t s) c → Ended on_body t s o d → Left on_whole o c
    leaves_so q next t s o d c by i e =
        let (ns, phase) = array_ends b.server w n (bits r.outcome) array q (Ans 0) (end_row b.server next) by refl in
        let (long, here) = at_cells q ns (Running t s) c phase i in
        leaves on_body on_wide on_whole b.variable.name (index_width n) w (body_among r b is differ) wide_array (others_same r b is differ) ns t s o d c here e

    waits_so : (q : State) (inner c : Config) → Came on_body inner → ArrayWithin q inner c → Stalled on_body inner → Stalled on_whole c
    waits_so q inner c came (ks, st, long, fits, i) stalled =
        let so = subst (Came on_body) i.own_is came in
        inside_waits on_body on_wide on_whole b.variable.name (index_width n) w (body_among r b is differ) wide_array (others_same r b is differ) ks st inner c i b.body.outcome
        (answered q ks st fits) (knows i.term i.store so) (has_type i.term i.store so) stalled

    pub array_is_played : IsPlayed b.server b.variable.name on_body on_whole ArrayWithin
    array_is_played =
        record {
          runs = runs_so;
          busy = busy_so;
          begins = λ q next v by rest. (opened, first_step on_whole n w m, begins_so q next v by rest);
          others = others_so;
          serves = λ q slot row z v first more inner between next c by came asked answer i one other.
              serves_so q slot row z v first more inner between next c came asked answer i one other
              (array_serves b.server w n (bits r.outcome) array q slot row by z);
          quiet = λ q h row by v. quiet_row q h row (has_row b.server w n (bits r.outcome) array q (Ans h) row by) v;
          leaves = leaves_so;
          waits = waits_so;
        }
