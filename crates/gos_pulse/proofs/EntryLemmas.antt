-- How the statements of a text read on, entry by entry.
use Rattle.std.proofs.Common.{inr, All, zero, ◌^◌, ◌<◌, ◌≤◌, ◌≡◌, ◌≢◌, ℕ, suc, List, [], ◌∷◌, ◌++◌, length, refl, sym, subst, arith, Option, Some, None, append-nil, append_assoc, length-append}
use Rattle.std.specs.List.{AllByRecursion}
use Rattle.std.proofs.lemmas.List.Elements.{All-from_recursion}
use Rattle.gos_netlist.specs.Nets.{Netlist}
use Rattle.std.specs.Str.Lines.{lines}
use Rattle.gos_lex.specs.Lines.{Words, Statement, statements_of}
use Rattle.gos_pulse.specs.Entries.{IsEntry, IsValue, SaysCycles, IsRunLength}
use Rattle.gos_pulse.specs.Driving.{GivesInput}
use Rattle.gos_pulse.specs.PulseFile.{ReadsEntries, Names, IsWrongEntry, HasFirstWrong, IsRefused}
use Rattle.gos_pulse.specs.declared.fault.PulseFault.TheVariants as faults
use Rattle.gos_pulse.specs.inner.Reading.{IsEntriesFault}
use Rattle.gos_pulse.specs.declared.entries.Entry.{Entry}
use Rattle.gos_pulse.specs.declared.fault.PulseFault.{PulseFault}

-- whatever the rest reads as, all the statements read as the entries so far and then that
abbrev pub ReadSoFar : Netlist → ℕ → List Statement → List Entry → List Statement → Type 0
ReadSoFar net cycles all entries rest =
    (more : List Entry) (ending : Option PulseFault) → ReadsEntries net cycles (length entries) rest more ending → ReadsEntries net cycles 0 all (entries ++ more) ending

module _ (net : Netlist) (cycles : ℕ) (all : List Statement) (entries : List Entry) (rest : List Statement) where
  -- the statements end
  pub all_read : ReadSoFar net cycles all entries rest → rest ≡ [] → ReadsEntries net cycles 0 all entries None
  all_read so_far ends =
      let last = so_far [] None (subst (λ (ss : List Statement). ReadsEntries net cycles (length entries) ss [] None) (sym ends) refl) in
      subst (λ (es : List Entry). ReadsEntries net cycles 0 all es None) (append-nil entries) last

  -- the next statement is an entry
  pub one_more : (s : Statement) (others : List Statement) (entry : Entry) → ReadSoFar net cycles all entries rest → rest ≡ s ∷ others → IsEntry net cycles (length entries) s.words entry → ReadSoFar net cycles all (entries ++ entry ∷ []) others
  one_more s others entry so_far is known = λ more ending reads.
      let count : length (entries ++ entry ∷ []) ≡ suc (length entries) = omega (arith, length-append entries (entry ∷ [])) in
      let after : ReadsEntries net cycles (suc (length entries)) others more ending = subst (λ (n : ℕ). ReadsEntries net cycles n others more ending) count reads in
      let whole = so_far (entry ∷ more) ending (subst (λ (ss : List Statement). ReadsEntries net cycles (length entries) ss (entry ∷ more) ending) (sym is) (known, after)) in
      subst (λ (es : List Entry). ReadsEntries net cycles 0 all es ending) (sym (append_assoc entries (entry ∷ []) more)) whole

  -- the next statement is wrong
  pub first_wrong : (s : Statement) (others : List Statement) (fault : PulseFault) → ReadSoFar net cycles all entries rest → rest ≡ s ∷ others → Names s.line fault × IsWrongEntry net cycles (length entries) s.words fault → IsEntriesFault net cycles all fault
  first_wrong s others fault so_far is wrong = λ _. (entries ++ [], so_far [] (Some fault) (subst (λ (ss : List Statement). ReadsEntries net cycles (length entries) ss [] (Some fault)) (sym is) wrong))

-- a text whose first line is right and has a wrong line behind it
pub entries_refused : (net : Netlist) (text : List ℕ) (s : Statement) (others : List Statement) (cycles : ℕ) (fault : PulseFault) → length text ≤ 16777216 → statements_of text ≡ s ∷ others → SaysCycles s.words cycles → IsRunLength cycles → IsEntriesFault net cycles others fault → fault ≢ faults.NoMemory → IsRefused net text fault
entries_refused net text s others cycles fault short is says length_is wrong real =
    let found = wrong real in
    inr (short, subst (λ (ss : List Statement). HasFirstWrong net ss (length (lines text)) fault) (sym is) (inr (cycles, found.0, says, length_is, found.1)))

-- a value that is right for its event has at most its bits
value_fits : (bits : ℕ) (written : Option ℕ) (value : ℕ) → IsValue bits written value → value < 2 ^ bits
value_fits zero None value h = omega (arith, h)
value_fits zero (Some w) value h = absurd h
value_fits (suc bits) None value h = absurd h
value_fits (suc bits) (Some w) value h = subst (λ (n : ℕ). n < 2 ^ suc bits) (sym h.0) h.1

gives_input : (net : Netlist) (cycles before : ℕ) (words : Words) (entry : Entry) → IsEntry net cycles before words entry → GivesInput net entry
gives_input net cycles before words entry is =
    record { event = is.event; there = is.input.there; input = is.input.input; fits = value_fits is.event.bits is.value entry.value is.fits }

all_give : (net : Netlist) (cycles before : ℕ) (ss : List Statement) (entries : List Entry) → ReadsEntries net cycles before ss entries None → AllByRecursion (GivesInput net) entries
all_give net cycles before [] [] h = tt
all_give net cycles before [] (entry ∷ entries) h = absurd h
all_give net cycles before (s ∷ ss) [] h = tt
all_give net cycles before (s ∷ ss) (entry ∷ entries) h =
    (gives_input net cycles before s.words entry h.0, all_give net cycles (suc before) ss entries h.1)

-- entries that were read give inputs
pub entries_give : (net : Netlist) (cycles before : ℕ) (ss : List Statement) (entries : List Entry) → ReadsEntries net cycles before ss entries None → All (GivesInput net) entries
entries_give net cycles before ss entries h = All-from_recursion (GivesInput net) entries (all_give net cycles before ss entries h)
