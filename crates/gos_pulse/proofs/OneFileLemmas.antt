-- A text has one answer at most: its cycles and entries, or one fault.
use Rattle.std.proofs.Common.{◌≡◌, inl, inr, ℕ, zero, suc, Bool, true, false, List, [], ◌∷◌, drop, length, get_or, refl, sym, ap, subst, ◌∙◌, arith, Option, Some, None}
use Rattle.std.specs.Str.Lines.{lines}
use Rattle.gos_netlist.specs.declared.event.Event.{Event}
use Rattle.gos_netlist.specs.Nets.{Netlist}
use Rattle.gos_netcheck.specs.Accepted.{IsAccepted}
use Rattle.gos_lex.specs.Numerals.{value_of}
use Rattle.gos_lex.specs.Lines.{Word, Words, Statement, statements_of}
use Rattle.gos_lex.specs.LineNumbers.{IsNumber}
use Rattle.gos_pulse.specs.EventNames.{IsInput}
use Rattle.gos_pulse.specs.Entries.{SaysCycles, IsRunLength, Written, keyword, last_word, WritesValue, SaysEntry, IsWithin, IsValue, IsEntry}
use Rattle.gos_pulse.specs.PulseFile.{Names, IsWrongHead, IsWrongEntry, ReadsEntries, SaysPulses, HasFirstWrong}
use Rattle.gos_pulse.specs.OneAnswer.{IsOneFile, FilesAreNotRefused, HasOneFault}
use Rattle.gos_pulse.specs.declared.entries.Entry.{Entry}
use Rattle.gos_pulse.specs.declared.fault.PulseFault.{PulseFault}
use Rattle.gos_pulse.specs.declared.fault.PulseFault.TheVariants as faults
use Rattle.gos_pulse.proofs.OneEventLemmas.{one_input}

one_number : (digits other : Word) (m n : ℕ) → digits ≡ other → IsNumber digits m → IsNumber other n → m ≡ n
one_number digits other m n same one two = sym one.1 ∙ ap value_of same ∙ two.1

-- the words say one number of cycles at most
one_length : (words : Words) (m n : ℕ) → SaysCycles words m → SaysCycles words n → m ≡ n
one_length words m n one other = one_number one.0 other.0 m n (ap (λ (ws : Words). get_or ws 1 []) (sym one.1 ∙ other.1)) one.2 other.2

one_keyword : (a b : Bool) → keyword a ≡ keyword b → a ≡ b
one_keyword true true same = refl
one_keyword false false same = refl
one_keyword true false same = let wrong : 2 ≡ 4 = ap length same in absurd (omega (arith, wrong))
one_keyword false true same = let wrong : 4 ≡ 2 = ap length same in absurd (omega (arith, wrong))

one_last : (a b : Option Word) → last_word a ≡ last_word b → a ≡ b
one_last None None same = refl
one_last (Some a) (Some b) same = ap (λ (ws : Words). Some (get_or ws 0 [])) same
one_last None (Some b) same = let wrong : 0 ≡ 1 = ap length same in absurd (omega (arith, wrong))
one_last (Some a) None same = let wrong : 1 ≡ 0 = ap length same in absurd (omega (arith, wrong))

one_value : (word other : Option Word) (a b : Option ℕ) → word ≡ other → WritesValue word a → WritesValue other b → a ≡ b
one_value None None None None same one two = refl
one_value None None (Some a) b same one two = absurd one
one_value None None None (Some b) same one two = absurd two
one_value (Some word) (Some other) None b same one two = absurd one
one_value (Some word) (Some other) (Some a) None same one two = absurd two
one_value (Some word) (Some other) (Some a) (Some b) same one two = ap (λ (n : ℕ). Some n) (one_number word other a b (cc same) one two)
one_value None (Some other) a b same one two = absurd (cc same)
one_value (Some word) None a b same one two = absurd (cc same)

-- the words write one entry at most
one_written : (words : Words) (a b : Written) → SaysEntry words a → SaysEntry words b → a ≡ b
one_written words a b one two =
    let same : keyword a.at ∷ one.digits ∷ a.name ∷ last_word one.last ≡ keyword b.at ∷ two.digits ∷ b.name ∷ last_word two.last = sym one.line ∙ two.line in
    let at : a.at ≡ b.at = one_keyword a.at b.at (ap (λ (ws : Words). get_or ws 0 []) same) in
    let number : a.number ≡ b.number = one_number one.digits two.digits a.number b.number (ap (λ (ws : Words). get_or ws 1 []) same) one.number two.number in
    let name : a.name ≡ b.name = ap (λ (ws : Words). get_or ws 2 []) same in
    let value : a.value ≡ b.value = one_value one.last two.last a.value b.value (one_last one.last two.last (ap (drop 3) same)) one.value two.value in
    λ i. record { at = at i; number = number i; name = name i; value = value i }

-- the value written is one pulse's value at most
one_pulse : (bits other : ℕ) (written also : Option ℕ) (a b : ℕ) → bits ≡ other → written ≡ also → IsValue bits written a → IsValue other also b → a ≡ b
one_pulse zero zero None None a b same so one two = one ∙ sym two
one_pulse zero other (Some w) also a b same so one two = absurd one
one_pulse zero zero None (Some x) a b same so one two = absurd two
one_pulse (suc bits) other None also a b same so one two = absurd one
one_pulse (suc bits) (suc other) (Some w) None a b same so one two = absurd two
one_pulse (suc bits) (suc other) (Some w) (Some x) a b same so one two = let equal : w ≡ x = cc so in one.0 ∙ equal ∙ sym two.0
one_pulse zero (suc other) None also a b same so one two = absurd (omega (arith, same))
one_pulse (suc bits) zero (Some w) also a b same so one two = absurd (omega (arith, same))

module _ (net : Netlist) (accepted : IsAccepted net) (cycles : ℕ) where
  -- what an entry's line writes
  abbrev written_by : {before : ℕ} {words : Words} {entry : Entry} → IsEntry net cycles before words entry → Written
  written_by {before} {words} {entry} is = record { at = entry.at; number = entry.number; name = is.name; value = is.value }

  -- the words are one entry at most
  one_entry : (before : ℕ) (words : Words) (a b : Entry) → IsEntry net cycles before words a → IsEntry net cycles before words b → a ≡ b
  one_entry before words a b one two =
      let same = one_written words (written_by one) (written_by two) one.says two.says in
      let name : one.name ≡ two.name = ap (λ (w : Written). w.name) same in
      let input = one_input net accepted a.event b.event one.event two.event two.name (subst (IsInput net a.event one.event) name one.input) two.input in
      let value : a.value ≡ b.value =
      one_pulse one.event.bits two.event.bits one.value two.value a.value b.value (ap (λ (e : Event). e.bits) input.1) (ap (λ (w : Written). w.value) same) one.fits two.fits in
      let at : a.at ≡ b.at = ap (λ (w : Written). w.at) same in
      let number : a.number ≡ b.number = ap (λ (w : Written). w.number) same in
      λ i. record { at = at i; number = number i; event = input.0 i; value = value i }

  -- an entry is not wrong
  right_entry : (before : ℕ) (words : Words) (entry : Entry) (fault : PulseFault) → IsEntry net cycles before words entry → IsWrongEntry net cycles before words fault → ⊥
  right_entry before words entry (faults.Form line) is wrong = wrong (written_by is) is.says
  right_entry before words entry (faults.Limit line) is (written, says, out) =
      out (subst (IsWithin cycles before) (one_written words (written_by is) written is.says says) is.within)
  right_entry before words entry (faults.NoPort line) is (written, says, within, none) =
      none entry.event is.event (subst (λ (w : Written). IsInput net entry.event is.event w.name) (one_written words (written_by is) written is.says says) is.input)
  right_entry before words entry (faults.Value line) is (written, says, within, i, event, input, none) =
      let same = one_written words (written_by is) written is.says says in
      let its = one_input net accepted entry.event i is.event event written.name (subst (λ (w : Written). IsInput net entry.event is.event w.name) same is.input) input in
      none entry.value
      (subst (λ (e : Event). IsValue e.bits written.value entry.value) its.1
      (subst (λ (w : Written). IsValue is.event.bits w.value entry.value) same is.fits))
  right_entry before words entry (faults.Broken cycle event) is wrong = wrong
  right_entry before words entry faults.NoMemory is wrong = wrong

  -- an entry whose number is in range is not out of it
  not_out : (before : ℕ) (words : Words) (a b : Written) → SaysEntry words a → (IsWithin cycles before a → ⊥) → SaysEntry words b → IsWithin cycles before b → ⊥
  not_out before words a b says out says1 within = out (subst (IsWithin cycles before) (one_written words b a says1 says) within)

  -- an entry of an input's name is not without one
  not_nameless : (words : Words) (a b : Written) (i : ℕ) (event : Event) → SaysEntry words a → ((j : ℕ) (e : Event) → IsInput net j e a.name → ⊥) → SaysEntry words b → IsInput net i event b.name → ⊥
  not_nameless words a b i event says none says1 input = none i event (subst (λ (w : Written). IsInput net i event w.name) (one_written words b a says1 says) input)

  -- a line is wrong in one way at most
  one_wrong : (before : ℕ) (words : Words) (n : ℕ) (fault other : PulseFault) → Names n fault → Names n other → IsWrongEntry net cycles before words fault → IsWrongEntry net cycles before words other → fault ≡ other
  one_wrong before words n (faults.Form l) (faults.Form m) names named wrong also = ap (λ (k : ℕ). faults.Form k) (names ∙ sym named)
  one_wrong before words n (faults.Limit l) (faults.Limit m) names named wrong also = ap (λ (k : ℕ). faults.Limit k) (names ∙ sym named)
  one_wrong before words n (faults.NoPort l) (faults.NoPort m) names named wrong also = ap (λ (k : ℕ). faults.NoPort k) (names ∙ sym named)
  one_wrong before words n (faults.Value l) (faults.Value m) names named wrong also = ap (λ (k : ℕ). faults.Value k) (names ∙ sym named)
  one_wrong before words n (faults.Form l) (faults.Limit m) names named wrong also = absurd (wrong also.0 also.1)
  one_wrong before words n (faults.Form l) (faults.NoPort m) names named wrong also = absurd (wrong also.0 also.1)
  one_wrong before words n (faults.Form l) (faults.Value m) names named wrong also = absurd (wrong also.0 also.1)
  one_wrong before words n (faults.Limit l) (faults.Form m) names named wrong also = absurd (also wrong.0 wrong.1)
  one_wrong before words n (faults.NoPort l) (faults.Form m) names named wrong also = absurd (also wrong.0 wrong.1)
  one_wrong before words n (faults.Value l) (faults.Form m) names named wrong also = absurd (also wrong.0 wrong.1)
  one_wrong before words n (faults.Limit l) (faults.NoPort m) names named (a, says, out) (b, says1, within, none) = absurd (not_out before words a b says out says1 within)
  one_wrong before words n (faults.NoPort m) (faults.Limit l) names named (b, says1, within, none) (a, says, out) = absurd (not_out before words a b says out says1 within)
  one_wrong before words n (faults.Limit l) (faults.Value m) names named (a, says, out) (b, says1, within, i, event, input, bad) = absurd (not_out before words a b says out says1 within)
  one_wrong before words n (faults.Value m) (faults.Limit l) names named (b, says1, within, i, event, input, bad) (a, says, out) = absurd (not_out before words a b says out says1 within)
  one_wrong before words n (faults.NoPort l) (faults.Value m) names named (a, says, within, none) (b, says1, within1, i, event, input, bad) =
      absurd (not_nameless words a b i event says none says1 input)
  one_wrong before words n (faults.Value m) (faults.NoPort l) names named (b, says1, within1, i, event, input, bad) (a, says, within, none) =
      absurd (not_nameless words a b i event says none says1 input)
  one_wrong before words n (faults.Broken cycle event) other names named wrong also = absurd wrong
  one_wrong before words n fault (faults.Broken cycle event) names named wrong also = absurd also
  one_wrong before words n faults.NoMemory other names named wrong also = absurd wrong
  one_wrong before words n fault faults.NoMemory names named wrong also = absurd also

  -- the statements read in one way at most
  one_reading : (before : ℕ) (ss : List Statement) (es fs : List Entry) (ending other : Option PulseFault) → ReadsEntries net cycles before ss es ending → ReadsEntries net cycles before ss fs other → (es ≡ fs) × (ending ≡ other)
  one_reading before [] [] [] ending other one two = (refl, one ∙ sym two)
  one_reading before [] (e ∷ es) fs ending other one two = absurd one
  one_reading before [] [] (f ∷ fs) ending other one two = absurd two
  one_reading before (s ∷ ss) [] [] (Some fault) (Some wrong) one two =
      (refl, ap (λ (f : PulseFault). Some f) (one_wrong before s.words s.line fault wrong one.0 two.0 one.1 two.1))
  one_reading before (s ∷ ss) [] fs None other one two = absurd one
  one_reading before (s ∷ ss) [] [] (Some fault) None one two = absurd two
  one_reading before (s ∷ ss) [] (f ∷ fs) (Some fault) other one two = absurd (right_entry before s.words f fault two.0 one.1)
  one_reading before (s ∷ ss) (e ∷ es) [] ending (Some fault) one two = absurd (right_entry before s.words e fault one.0 two.1)
  one_reading before (s ∷ ss) (e ∷ es) [] ending None one two = absurd two
  one_reading before (s ∷ ss) (e ∷ es) (f ∷ fs) ending other one two =
      let first = one_entry before s.words e f one.0 two.0 in
      let rest = one_reading (suc before) ss es fs ending other one.1 two.1 in
      (λ i. first i ∷ rest.0 i, rest.1)

-- a first statement that is right is not wrong
right_head : (words : Words) (n : ℕ) (fault : PulseFault) → SaysCycles words n → IsRunLength n → IsWrongHead words fault → ⊥
right_head words n (faults.Form line) says long wrong = wrong n says
right_head words n (faults.Limit line) says long (m, said, short) = short (subst IsRunLength (one_length words n m says said) long)
right_head words n (faults.NoPort line) says long wrong = wrong
right_head words n (faults.Value line) says long wrong = wrong
right_head words n (faults.Broken cycle event) says long wrong = wrong
right_head words n faults.NoMemory says long wrong = wrong

-- it is wrong in one way at most
one_wrong_head : (words : Words) (n : ℕ) (fault other : PulseFault) → Names n fault → Names n other → IsWrongHead words fault → IsWrongHead words other → fault ≡ other
one_wrong_head words n (faults.Form l) (faults.Form m) names named wrong also = ap (λ (k : ℕ). faults.Form k) (names ∙ sym named)
one_wrong_head words n (faults.Limit l) (faults.Limit m) names named wrong also = ap (λ (k : ℕ). faults.Limit k) (names ∙ sym named)
one_wrong_head words n (faults.Form l) (faults.Limit m) names named wrong also = absurd (wrong also.0 also.1)
one_wrong_head words n (faults.Limit l) (faults.Form m) names named wrong also = absurd (also wrong.0 wrong.1)
one_wrong_head words n (faults.NoPort l) other names named wrong also = absurd wrong
one_wrong_head words n (faults.Value l) other names named wrong also = absurd wrong
one_wrong_head words n (faults.Broken cycle event) other names named wrong also = absurd wrong
one_wrong_head words n faults.NoMemory other names named wrong also = absurd wrong
one_wrong_head words n fault (faults.NoPort l) names named wrong also = absurd also
one_wrong_head words n fault (faults.Value l) names named wrong also = absurd also
one_wrong_head words n fault (faults.Broken cycle event) names named wrong also = absurd also
one_wrong_head words n fault faults.NoMemory names named wrong also = absurd also

module _ (net : Netlist) (accepted : IsAccepted net) where
  -- statements after heads that say the same number
  one_rest : (cycles count : ℕ) (ss : List Statement) (es fs : List Entry) (ending other : Option PulseFault) → cycles ≡ count → ReadsEntries net cycles 0 ss es ending → ReadsEntries net count 0 ss fs other → (es ≡ fs) × (ending ≡ other)
  one_rest cycles count ss es fs ending other same one two =
      one_reading net accepted count 0 ss es fs ending other (subst (λ (n : ℕ). ReadsEntries net n 0 ss es ending) same one) two

  one_saying : (ss : List Statement) (cycles count : ℕ) (es fs : List Entry) → SaysPulses net ss cycles es → SaysPulses net ss count fs → (cycles ≡ count) × (es ≡ fs)
  one_saying [] cycles count es fs one two = absurd one
  one_saying (head ∷ rest) cycles count es fs one two =
      let same = one_length head.words cycles count one.0 two.0 in
      (same, (one_rest cycles count rest es fs None None same one.2 two.2).0)

  saying_not_wrong : (ss : List Statement) (lines cycles : ℕ) (es : List Entry) (fault : PulseFault) → SaysPulses net ss cycles es → HasFirstWrong net ss lines fault → ⊥
  saying_not_wrong [] lines cycles es fault says wrong = says
  saying_not_wrong (head ∷ rest) lines cycles es fault says (inl wrong) = right_head head.words cycles fault says.0 says.1 wrong.1
  saying_not_wrong (head ∷ rest) lines cycles es fault says (inr (count, fs, said, long, reads)) =
      let same = one_rest cycles count rest es fs None (Some fault) (one_length head.words cycles count says.0 said) says.2 reads in
      let wrong : None ≡ Some fault = same.1 in
      cc

  one_first_wrong : (ss : List Statement) (lines : ℕ) (fault other : PulseFault) → HasFirstWrong net ss lines fault → HasFirstWrong net ss lines other → fault ≡ other
  one_first_wrong [] lines fault other one two = one ∙ sym two
  one_first_wrong (head ∷ rest) lines fault other (inl one) (inl two) = one_wrong_head head.words head.line fault other one.0 two.0 one.1 two.1
  one_first_wrong (head ∷ rest) lines fault other (inl one) (inr (count, fs, said, long, reads)) = absurd (right_head head.words count fault said long one.1)
  one_first_wrong (head ∷ rest) lines fault other (inr (count, fs, said, long, reads)) (inl two) = absurd (right_head head.words count other said long two.1)
  one_first_wrong (head ∷ rest) lines fault other (inr (cycles, es, says, short, one)) (inr (count, fs, said, long, two)) =
      let same = one_rest cycles count rest es fs (Some fault) (Some other) (one_length head.words cycles count says said) one two in
      let both : Some fault ≡ Some other = same.1 in
      cc

  pub one_file : (text : List ℕ) → IsOneFile net text
  one_file text cycles count entries others one two = one_saying (statements_of text) cycles count entries others one.says two.says

  pub not_refused : (text : List ℕ) → FilesAreNotRefused net text
  not_refused text cycles entries fault file (inl (long, is)) = omega (arith, file.short, long)
  not_refused text cycles entries fault file (inr (short, wrong)) = saying_not_wrong (statements_of text) (length (lines text)) cycles entries fault file.says wrong

  pub one_fault : (text : List ℕ) → HasOneFault net text
  one_fault text fault other (inl (long, is)) (inl (also, so)) = is ∙ sym so
  one_fault text fault other (inl (long, is)) (inr (short, wrong)) = absurd (omega (arith, long, short))
  one_fault text fault other (inr (short, wrong)) (inl (long, is)) = absurd (omega (arith, long, short))
  one_fault text fault other (inr (short, wrong)) (inr (also, bad)) = one_first_wrong (statements_of text) (length (lines text)) fault other wrong bad
