-- What a file's entries are taken and given as in a cycle is told by the labels before it.
use Rattle.std.proofs.Common.{◌≡◌, inl, inr, ℕ, List, [], ◌∷◌, refl, sym, ap, subst, ◌∙◌, Some}
use Rattle.std.specs.Prelude.{slice_get}
use Rattle.gos_netlist.specs.declared.event.Event.{Event}
use Rattle.gos_netlist.specs.Nets.{Netlist}
use Rattle.gos_model.specs.Labels.{Label}
use Rattle.gos_pace.specs.Flattening.{port_of}
use Rattle.gos_pulse.specs.declared.entries.Entry.{Entry}
use Rattle.gos_pulse.specs.Driving.{IsPulse, MayCome, TakesAll, BreaksAt, GivesIn}

module _ (net : Netlist) where
  -- a pulse has one label
  one_label : (number value : ℕ) (l m : Label) → IsPulse net number value l → IsPulse net number value m → l ≡ m
  one_label number value l m one two =
      let both : Some one.event ≡ Some two.event = sym one.there ∙ two.there in
      let event : one.event ≡ two.event = cc in
      let ports : Some one.port ≡ Some two.port = sym one.at ∙ ap (λ (e : Event). slice_get net.ports e.port) event ∙ two.at in
      let port : one.port ≡ two.port = cc in
      one.is ∙ (λ i. record { port = port_of (port i).side (port i).name; event = (event i).place; value = value }) ∙ sym two.is

  -- an entry comes as one label
  one_coming : (past : List Label) (entry : Entry) (l m : Label) → MayCome net past entry l → MayCome net past entry m → l ≡ m
  one_coming past entry l m one two = one_label entry.event entry.value l m one.0 two.0

  -- entries are taken as one list of labels
  pub one_taking : (past : List Label) (entries : List Entry) (ls ms : List Label) → TakesAll net past entries ls → TakesAll net past entries ms → ls ≡ ms
  one_taking past [] ls ms one two = one ∙ sym two
  one_taking past (entry ∷ entries) [] ms one two = absurd one
  one_taking past (entry ∷ entries) (l ∷ ls) [] one two = absurd two
  one_taking past (entry ∷ entries) (l ∷ ls) (m ∷ ms) one two =
      let first = one_coming past entry l m one.0 two.0 in
      let rest = one_taking (m ∷ past) entries ls ms (subst (λ (k : Label). TakesAll net (k ∷ past) entries ls) first one.1) two.1 in
      λ i. first i ∷ rest i

  -- where all are taken none breaks the protocol
  pub none_breaks : (past : List Label) (entries : List Entry) (ls : List Label) (event : ℕ) → TakesAll net past entries ls → BreaksAt net past entries event → ⊥
  none_breaks past [] ls event takes breaks = breaks
  none_breaks past (entry ∷ entries) [] event takes breaks = takes
  none_breaks past (entry ∷ entries) (l ∷ ls) event takes (inl (none, is)) = none l takes.0
  none_breaks past (entry ∷ entries) (l ∷ ls) event takes (inr (m, may, later)) =
      none_breaks (l ∷ past) entries ls event takes.1 (subst (λ (k : Label). BreaksAt net (k ∷ past) entries event) (one_coming past entry m l may takes.0) later)

  -- the first entry that breaks it is one
  pub one_break : (past : List Label) (entries : List Entry) (event other : ℕ) → BreaksAt net past entries event → BreaksAt net past entries other → event ≡ other
  one_break past [] event other one two = absurd one
  one_break past (entry ∷ entries) event other (inl (none, is)) (inl (also, so)) = is ∙ sym so
  one_break past (entry ∷ entries) event other (inl (none, is)) (inr (m, may, later)) = absurd (none m may)
  one_break past (entry ∷ entries) event other (inr (m, may, later)) (inl (none, is)) = absurd (none m may)
  one_break past (entry ∷ entries) event other (inr (l, may, later)) (inr (m, comes, then)) =
      one_break (m ∷ past) entries event other (subst (λ (k : Label). BreaksAt net (k ∷ past) entries event) (one_coming past entry l m may comes) later) then

  -- the `next` entries are given in one way
  pub one_giving : (past : List Label) (t since : ℕ) (entries : List Entry) (ls ms : List Label) (last end : ℕ) (rest others : List Entry) → GivesIn net past t since entries ls last rest → GivesIn net past t since entries ms end others
      → (ls ≡ ms) × (last ≡ end) × (rest ≡ others)
  one_giving past t since entries [] [] last end rest others one two = (refl, one.1 ∙ sym two.1, one.2 ∙ sym two.2)
  one_giving past t since [] (l ∷ ls) ms last end rest others one two = absurd one
  one_giving past t since [] [] (m ∷ ms) last end rest others one two = absurd two
  one_giving past t since (entry ∷ entries) [] (m ∷ ms) last end rest others one two = absurd (one.0 two.0 m two.1)
  one_giving past t since (entry ∷ entries) (l ∷ ls) [] last end rest others one two = absurd (two.0 one.0 l one.1)
  one_giving past t since (entry ∷ entries) (l ∷ ls) (m ∷ ms) last end rest others one two =
      let first = one_coming past entry l m one.1 two.1 in
      let more = one_giving (m ∷ past) t t entries ls ms last end rest others (subst (λ (k : Label). GivesIn net (k ∷ past) t t entries ls last rest) first one.2) two.2 in
      ((λ i. first i ∷ more.0 i), more.1, more.2)
