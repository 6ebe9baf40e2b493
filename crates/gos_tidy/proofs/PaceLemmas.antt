-- A netlist that is reduced keeps pace with each program with which the one does that it was reduced from.
--
-- Read first: Flattening, RunProtocol and Pace of gos_pace; AlikeLemmas. Of each run of the reduced netlist there is a run of the
-- first one with the same numbers at the nets of ports, and no more of a run is spoken of.
use Rattle.std.proofs.Common.{◌≡◌, ◌≢◌, ◌⊎◌, inl, inr, ◌^◌, ◌<◌, ◌≤◌, ℕ, zero, suc, Bool, if◌then◌else◌, List, [], ◌∷◌, ◌++◌, length, map, slice_get, Some, None, Contains, refl, sym, ap, subst, ◌∙◌, arith, nat_eq, eq-eqb}
use Rattle.std.specs.Prelude.{not, filter}
use Rattle.std.proofs.lemmas.Bool.{ne_eqb}
use Rattle.std.proofs.lemmas.Option.{slice_get_within}
use Rattle.gos_types.specs.Events.{Event, Is, events}
use Rattle.gos_model.specs.Typing.{Imports}
use Rattle.gos_model.specs.Labels.{Port, Label, is_output}
use Rattle.gos_model.specs.Moves.{Program}
use Rattle.gos_model.specs.Protocol.{KeepsProtocol}
use Rattle.gos_netlist.specs.Nets.{Input, Cell, Side, Give, Take, NetPort, Netlist}
use Rattle.gos_netlist.specs.Settling.{Numbers, at, IsRun}
use Rattle.gos_netlist.proofs.RepeatLemmas.{same_or_not}
use Rattle.gos_netcheck.specs.Accepted.{IsAccepted}
use Rattle.gos_pace.specs.Flattening.{AnyOrder, Flattening, flat, if_pulse, port_of, port_pulses, pulses, pulses_from}
use Rattle.gos_pace.specs.RunProtocol.{InputsInRange, RunKeeps, taken_by, with_side}
use Rattle.gos_pace.specs.Pace.{KeepsPaceAlways}
use Rattle.gos_tidy.specs.Ends.{with_nets}
use Rattle.gos_tidy.specs.Mapped.{renamed}
use Rattle.gos_tidy.specs.Reduced.{IsPart, IsReduced}
use Rattle.gos_tidy.proofs.NarrowLemmas.{GivesNarrow}
use Rattle.gos_tidy.proofs.RenamedLemmas.{renamed_input, one_gate, one_width}
use Rattle.gos_tidy.proofs.QuotientLemmas.{cell_there}
use Rattle.gos_tidy.proofs.PartCellLemmas.{part_apart}
use Rattle.gos_tidy.proofs.AcceptedLemmas.{end_there}
use Rattle.gos_tidy.proofs.RunLemmas.{drawn, at_drawn, through, GivesSame, GiveSame, GiveNarrow, some_run}
use Rattle.gos_tidy.proofs.AlikeLemmas.{port_net_there, range_narrow, narrow_range, first_view, through_all, through_all_narrow, common_run}

-- Pulses.

pulses_from_map : (q : Port) (n : ℕ) (es : List Event) (nets : List ℕ) (f : ℕ → ℕ) (u v : Numbers) → ((x : ℕ) → Contains nets x → at u x ≡ at v (f x))
    → pulses_from q n es nets u ≡ pulses_from q n es (map f nets) v
pulses_from_map q n [] nets f u v same = refl
pulses_from_map q n (Is way None ∷ es) [] f u v same = refl
pulses_from_map q n (Is way None ∷ es) (a ∷ nets) f u v same =
    let here = same a (0, omega arith, refl) in
    let rest = pulses_from_map q (suc n) es nets f u v (λ x (k, l, e). same x (suc k, omega (arith, l), e)) in
    (λ i. if_pulse (here i) (record { port = q; event = n; value = 0 }) ++ rest i)
pulses_from_map q n (Is way (Some b) ∷ es) [] f u v same = refl
pulses_from_map q n (Is way (Some b) ∷ es) (a ∷ []) f u v same = refl
pulses_from_map q n (Is way (Some b) ∷ es) (a ∷ x ∷ nets) f u v same =
    let here = same a (0, omega arith, refl) in
    let number = same x (1, omega arith, refl) in
    let rest = pulses_from_map q (suc n) es nets f u v (λ y (k, l, e). same y (suc (suc k), omega (arith, l), e)) in
    (λ i. if_pulse (here i) (record { port = q; event = n; value = number i }) ++ rest i)

pulses_map : (f : ℕ → ℕ) (ps : List NetPort) (u v : Numbers)
    → ((k : ℕ) (p : NetPort) → slice_get ps k ≡ Some p → (x : ℕ) → Contains p.nets x → at u x ≡ at v (f x)) → pulses ps u ≡ pulses (map (with_nets f) ps) v
pulses_map f [] u v same = refl
pulses_map f (p ∷ ps) u v same =
    let here : port_pulses u p ≡ port_pulses v (with_nets f p) =
    pulses_from_map (port_of p.side p.name) 0 (events p.ty) p.nets f u v (λ x has. same 0 p refl x has) in
    let rest = pulses_map f ps u v (λ k q is x has. same (suc k) q is x has) in
    (λ i. here i ++ rest i)

-- the pulses of all cycles are the same
SamePulses : Netlist → Netlist → List Numbers → List Numbers → Type 0
SamePulses net other [] [] = Unit {0}
SamePulses net other [] (w ∷ ws) = ⊥
SamePulses net other (v ∷ vs) [] = ⊥
SamePulses net other (v ∷ vs) (w ∷ ws) = (pulses net.ports v ≡ pulses other.ports w) × SamePulses net other vs ws

-- so they have the same flattenings
flattened : (net other : Netlist) (vs ws : List Numbers) (parts : List (List Label)) → SamePulses net other vs ws → Flattening net vs parts → Flattening other ws parts
unfolding SamePulses
flattened net other [] [] [] same parts_of = tt
flattened net other [] [] (part ∷ parts) same parts_of = absurd parts_of
flattened net other [] (w ∷ ws) parts same parts_of = absurd same
flattened net other (v ∷ vs) [] parts same parts_of = absurd same
flattened net other (v ∷ vs) (w ∷ ws) [] same parts_of = absurd parts_of
flattened net other (v ∷ vs) (w ∷ ws) (part ∷ parts) same parts_of =
    let (out, inp, first, second, is) = parts_of.0 in (
      (
        out,
        inp,
        subst (λ (ls : List Label). AnyOrder (filter is_output ls) out) same.0 first,
        subst (λ (ls : List Label). AnyOrder (filter (λ l. not (is_output l)) ls) inp) same.0 second,
        is,
      ),
      flattened net other vs ws parts same.1 parts_of.1,
    )

turned_back : (net other : Netlist) (vs ws : List Numbers) → SamePulses net other vs ws → SamePulses other net ws vs
unfolding SamePulses
turned_back net other [] [] same = tt
turned_back net other [] (w ∷ ws) same = same
turned_back net other (v ∷ vs) [] same = same
turned_back net other (v ∷ vs) (w ∷ ws) same = (sym same.0, turned_back net other vs ws same.1)

-- Ports that are taken.

with_side_kept : (f : ℕ → ℕ) (side : Side) (p : NetPort) (is : Imports) → with_side side (with_nets f p) is ≡ with_side side p is
with_side_kept f Give p is = refl
with_side_kept f Take p is = refl

taken_kept : (f : ℕ → ℕ) (ps : List NetPort) → taken_by (map (with_nets f) ps) ≡ taken_by ps
taken_kept f [] = refl
taken_kept f (p ∷ ps) = ap (with_side p.side (with_nets f p)) (taken_kept f ps) ∙ with_side_kept f p.side p (taken_by ps)

-- The place of a net among those below a count, by where it goes; 0 where none goes there.
found : (ℕ → ℕ) → ℕ → ℕ → ℕ
found g m zero = 0
found g m (suc k) = if nat_eq (g k) m then k else found g m k

found_is : (g : ℕ → ℕ) (count : ℕ) → ((m n : ℕ) → m < count → n < count → g m ≡ g n → m ≡ n) → (k n : ℕ) → k ≤ count → n < k → found g (g n) k ≡ n
unfolding found
found_is g count apart zero n few low = absurd (omega (arith, low))
found_is g count apart (suc k) n few low = by_test (same_or_not (g k) (g n)) (λ below. found_is g count apart k n (omega (arith, few)) below)
  where
    by_test : (g k ≡ g n) ⊎ (g k ≢ g n) → (n < k → found g (g n) k ≡ n) → (if nat_eq (g k) (g n) then k else found g (g n) k) ≡ n
    by_test (inl same) further =
        ap (λ (b : Bool). if b then k else found g (g n) k) (eq-eqb (g k) (g n) same)
        ∙ apart k n (omega (arith, few)) (omega (arith, few, low)) same
    by_test (inr differ) further =
        let no : k ≢ n = λ e. differ (ap g e) in
        ap (λ (b : Bool). if b then k else found g (g n) k) (ne_eqb (g k) (g n) differ) ∙ further (omega (arith, low, no))

module _ (cells others : List Cell) (g : ℕ → ℕ) (part : IsPart cells others g) where
  -- the inputs of the others, where those of their part are known
  raised : Numbers → Numbers
  raised o = drawn (λ m. at o (found g m (length cells))) (length others)

  place_found : (n : ℕ) → n < length cells → found g (g n) (length cells) ≡ n
  place_found n low = found_is g (length cells) (part_apart cells others g part) (length cells) n (omega arith) low

  raise_at : (o : Numbers) (n : ℕ) → n < length cells → g n < length others → at (raised o) (g n) ≡ at o n
  unfolding raised
  raise_at o n low high = at_drawn (λ m. at o (found g m (length cells))) (length others) (g n) high ∙ ap (at o) (place_found n low)

  raise_gives : (o : Numbers) → GivesSame cells g o (raised o)
  raise_gives o n c there is =
      let within = slice_get_within others (g n) (record { width = c.width; gate = renamed g c.gate }) (part.kept n c there) in
      sym (raise_at o n (slice_get_within cells n c there) within)

  raise_narrow : (o : Numbers) → GivesNarrow cells o → GivesNarrow others (raised o)
  raise_narrow o low m e is input =
      let (n, below, to) = part.inputs m e is input in
      let (c, there) = cell_there cells n below in
      let here : slice_get others (g n) ≡ Some e = subst (λ (x : ℕ). slice_get others x ≡ Some e) (sym to) is in
      let gate : c.gate ≡ Input =
      renamed_input g c.gate (one_gate others (g n) (record { width = c.width; gate = renamed g c.gate }) e (part.kept n c there) here ∙ input) in
      let width : c.width ≡ e.width = one_width others (g n) (record { width = c.width; gate = renamed g c.gate }) e (part.kept n c there) here in
      let less : at o n < 2 ^ e.width = subst (λ (w : ℕ). at o n < 2 ^ w) width (low n c there gate) in
      let same : at (raised o) m ≡ at o n = subst (λ (x : ℕ). at (raised o) x ≡ at o n) to (raise_at o n below (slice_get_within others (g n) e here)) in
      subst (λ (x : ℕ). x < 2 ^ e.width) (sym same) less

  raise_all : (os : List Numbers) → GiveSame cells g os (map raised os)
  raise_all [] = tt
  raise_all (o ∷ os) = (raise_gives o, raise_all os)

  raise_all_narrow : (os : List Numbers) → GiveNarrow cells os → GiveNarrow others (map raised os)
  raise_all_narrow [] low = tt
  raise_all_narrow (o ∷ os) low = (raise_narrow o low.0, raise_all_narrow os low.1)

module _ (net other : Netlist) (accepted : IsAccepted net) (reduced : IsReduced net other) where
  same_pulses : (us : List Numbers) → SamePulses net other (map (through net.cells reduced.merging) us) (map (through other.cells reduced.placing) us)
  unfolding SamePulses
  same_pulses [] = tt
  same_pulses (u ∷ us) = (
    pulses_map reduced.merging net.ports (through net.cells reduced.merging u) u (λ k p is x has.
        at_drawn (λ m. at u (reduced.merging m)) (length net.cells) x (port_net_there net.cells net.ports accepted.ports k p is x has))
        ∙ (ap (λ ps. pulses ps u) (sym reduced.ports)
        ∙ sym (pulses_map reduced.placing other.ports (through other.cells reduced.placing u) u (λ k p is x has.
        at_drawn (λ m. at u (reduced.placing m)) (length other.cells) x (end_there net other accepted reduced k p is x has)))),
    same_pulses us,
  )

  same_taken : taken_by other.ports ≡ taken_by net.ports
  same_taken = sym (taken_kept reduced.placing other.ports) ∙ (ap taken_by reduced.ports ∙ taken_kept reduced.merging net.ports)

  -- a run of the first netlist, of which the ports are told by the run of the second one
  record RunBeside (others ws : List Numbers) : Type 0 where
    ins : List Numbers
    vs : List Numbers
    range : InputsInRange net ins
    run : IsRun net.cells ins vs
    same : SamePulses net other vs ws

  run_beside : (others ws : List Numbers) → InputsInRange other others → IsRun other.cells others ws → RunBeside others ws
  run_beside others ws range other_run =
      let js : List Numbers = map (raised other.cells reduced.merged reduced.placing reduced.part) others in
      let low = raise_all_narrow other.cells reduced.merged reduced.placing reduced.part others (range_narrow other others range) in
      let ins : List Numbers = map (through net.cells reduced.merging) js in
      let (vs, run) = some_run net.cells accepted.acyclic _ ins in
      let (us, first, second) = common_run net other accepted reduced ins others js vs ws low (through_all net.cells reduced.merging js)
      (raise_all other.cells reduced.merged reduced.placing reduced.part others) run other_run in
      record {
        ins = ins;
        vs = vs;
        range = narrow_range net ins (through_all_narrow net.cells reduced.merged reduced.merging (first_view net other accepted reduced) js low);
        run = run;
        same = subst (λ (xs : List Numbers). SamePulses net other xs ws) (sym first)
            (subst (λ (xs : List Numbers). SamePulses net other (map (through net.cells reduced.merging) us) xs) (sym second) (same_pulses us));
      }

  pub alike_pace : (weight : ℕ) (p : Program) → KeepsPaceAlways weight p net → KeepsPaceAlways weight p other
  alike_pace weight p keeps others ws range other_run protocol parts parts_of =
      let beside = run_beside others ws range other_run in
      let kept : RunKeeps net beside.vs = λ own own_parts.
      subst (λ (is : Imports). KeepsProtocol is (flat own)) same_taken (protocol own (flattened net other beside.vs ws own beside.same own_parts)) in
      keeps beside.ins beside.vs beside.range beside.run kept parts (flattened other net ws beside.vs parts (turned_back net other beside.vs ws beside.same) parts_of)
