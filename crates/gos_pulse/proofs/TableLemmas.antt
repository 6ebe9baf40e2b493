-- What a table has once a name is added, and the table of all input events.
use Rattle.std.proofs.Common.{◌≡◌, ℕ, zero, suc, ◌+◌, ◌<◌, ◌≤◌, Bool, true, false, cond, List, [], ◌∷◌, length, get_or, refl, sym, ◌∙◌, ap, arith, inl, inr, true≢false, Some, None, All}
use Rattle.std.specs.Prelude.{slice_get}
use Rattle.std.specs.Str.{bytes_eq}
use Rattle.std.proofs.lemmas.Bool.{cases_lt}
use Rattle.std.proofs.lemmas.Option.{slice_get_within}
use Rattle.std.proofs.lemmas.Slice.Eq.{bytes_eq-Decides}
use Rattle.std.proofs.lemmas.List.Elements.{All-append}
use Rattle.gos_netlist.specs.declared.event.Event as seen
use Rattle.gos_netlist.specs.Nets.{Side, NetPort, Netlist}
use Rattle.gos_netlist.specs.Events.{port_events, events_from, events_of}
use Rattle.gos_types.specs.Events.{Event, Is, events}
use Rattle.gos_lex.specs.Lines.{Word}
use Rattle.gos_pulse.specs.EventNames.{name_of, IsInputOf}
use Rattle.gos_lex.specs.NameTables.{number_at, added}
use Rattle.gos_pulse.specs.inner.EventTable.{HasPorts, IsTableOf}
use Rattle.gos_lex.specs.declared.table.NameTable.{NameTable}

module _ (ports : List NetPort) (all : List seen.Event) where
  -- before the first event a table has no name
  pub table_begins : (numbers : NameTable) → ((name : Word) → number_at numbers name ≡ None) → IsTableOf ports all 0 numbers
  table_begins numbers none =
      record {
        sound = λ name i has. let wrong : None ≡ Some i = sym (none name) ∙ has in absurd cc;
        complete = λ i event name before input. absurd (omega (arith, before));
      }

  -- an event that is no input adds nothing
  pub table_passes : (numbers : NameTable) (n : ℕ) (event : seen.Event) → slice_get all n ≡ Some event → event.input ≡ false → IsTableOf ports all n numbers → IsTableOf ports all (n + 1) numbers
  table_passes numbers n event there output table =
      record {
        sound = table.sound;
        complete = λ i other name before input. elim (cases_lt i n) [
          | inl early ↦ table.complete i other name early input
          | inr late ↦
              let last : i ≡ n = omega (arith, late, before) in
              let one : Some other ≡ Some event = sym input.there ∙ ap (slice_get all) last ∙ there in
              let equal : other ≡ event = cc in
              absurd (true≢false (sym input.input ∙ ap (λ e. e.input) equal ∙ output))
        ];
      }

  -- an input adds its name
  pub table_grows : (old new : NameTable) (n : ℕ) (event : seen.Event) (name : Word) → slice_get all n ≡ Some event → event.input ≡ true → name ≡ name_of ports event → ((other : Word) → number_at new other ≡ added name n (number_at old other) other) → IsTableOf ports all n old → IsTableOf ports all (n + 1) new
  table_grows old new n event name there input named adds table = record { sound = sound; complete = complete }
    where
      sound_by : (b : Bool) (other : Word) (i : ℕ) → bytes_eq other name ≡ b → cond b (Some n) (number_at old other) ≡ Some i → (found : seen.Event) × IsInputOf ports all i found other
      sound_by true other i is has =
          let equal : other ≡ name = (bytes_eq-Decides other name).0 is in
          let place : n ≡ i = cc in
          (event, record { there = ap (slice_get all) (sym place) ∙ there; input = input; named = sym named ∙ sym equal })
      sound_by false other i is has = table.sound other i has

      sound : (other : Word) (i : ℕ) → number_at new other ≡ Some i → (found : seen.Event) × IsInputOf ports all i found other
      sound other i has = sound_by (bytes_eq other name) other i refl (sym (adds other) ∙ has)

      complete_by : (b : Bool) (i : ℕ) (found : seen.Event) (other : Word) → bytes_eq other name ≡ b → i < n + 1 → IsInputOf ports all i found other → (j : ℕ) × (cond b (Some n) (number_at old other) ≡ Some j)
      complete_by true i found other is before known = (n, refl)
      complete_by false i found other is before known = elim (cases_lt i n) [
        | inl early ↦ table.complete i found other early known
        | inr late ↦
            let last : i ≡ n = omega (arith, late, before) in
            let one : Some found ≡ Some event = sym known.there ∙ ap (slice_get all) last ∙ there in
            let equal : found ≡ event = cc in
            let its : other ≡ name = sym known.named ∙ ap (name_of ports) equal ∙ sym named in
            absurd (true≢false (sym ((bytes_eq-Decides other name).1 its) ∙ is))
      ]

      complete : (i : ℕ) (found : seen.Event) (other : Word) → i < n + 1 → IsInputOf ports all i found other → (j : ℕ) × (number_at new other ≡ Some j)
      complete i found other before known =
          let there_is = complete_by (bytes_eq other name) i found other refl before known in
          (there_is.0, adds other ∙ there_is.1)

  -- what a whole table says of a name
  pub none_named : (numbers : NameTable) (name : Word) → IsTableOf ports all (length all) numbers → None ≡ number_at numbers name → (i : ℕ) (event : seen.Event) → IsInputOf ports all i event name → ⊥
  none_named numbers name table none i event input =
      let found = table.complete i event name (slice_get_within all i event input.there) input in
      let wrong : None ≡ Some found.0 = none ∙ found.1 in
      absurd cc

all_cons : {X : Type 0} (P : X → Type 0) (x : X) (xs : List X) → P x → All P xs → All P (x ∷ xs)
all_cons P x xs first rest = λ k d within. at k d within
  where
    at : (k : ℕ) (d : _) → k < length (x ∷ xs) → P (get_or (x ∷ xs) k d)
    at zero d within = first
    at (suc k) d within = rest k d (omega (arith, within))

events_of_port : (m k : ℕ) (side : Side) (n : ℕ) (es : List Event) → k < m → HasPorts m (port_events k side n es)
events_of_port m k side n [] known = λ i d within. absurd (omega (arith, within))
events_of_port m k side n (Is way number ∷ es) known = all_cons (λ event. event.port < m) _ _ known (events_of_port m k side (suc n) es known)

events_of_ports : (m k : ℕ) (ports : List NetPort) → k + length ports ≤ m → HasPorts m (events_from k ports)
events_of_ports m k [] few = λ i d within. absurd (omega (arith, within))
events_of_ports m k (p ∷ ps) few =
    All-append (λ event. event.port < m) (port_events k p.side 0 (events p.ty)) (events_from (suc k) ps)
    (events_of_port m k p.side 0 (events p.ty) (omega (arith, few))) (events_of_ports m (suc k) ps (omega (arith, few)))

-- the events of a netlist are those of its ports
pub ports_known : (net : Netlist) → HasPorts (length net.ports) (events_of net)
ports_known net = events_of_ports (length net.ports) 0 net.ports (omega arith)
