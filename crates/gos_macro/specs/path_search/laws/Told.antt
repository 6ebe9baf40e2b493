-- What a search at the fixed place tells is so at every place.
--
-- Read first: Told of specs; Renamed, Found, Closed.
use Rattle.std.proofs.Common.{◌≡◌, inl, inr, ℕ, ◌+◌, ◌<◌, ◌≤◌, Bool, true, false, not, ◌&&◌, ◌||◌, List, length, map, Option, None, Some, option_map, slice_get, nat_le, if◌then◌else◌, refl, sym, ◌∙◌, ap, subst, arith, eqb-true, leb-true}
use Rattle.std.specs.List.{list_all}
use Rattle.std.proofs.lemmas.List.{length-map}
use Rattle.std.proofs.lemmas.Option.{slice_get-map}
use Rattle.gos_netlist.specs.Nets.{Cell, pins}
use Rattle.gos_plan.specs.Kinds.{Contact, part_contacts}
use Rattle.gos_macro.specs.Gates.{Incoming, Outgoing, Bare, Bearing, is_among}
use Rattle.gos_macro.specs.Paths.{IsOut, IsPulseOut, AreApart, LeadsOn, Path, PulseLeadsOn, Renames, with_renamed, TellsIfItPasses}
use Rattle.gos_macro.specs.path_search.Fixed.{fixed, placed, placed_out, placed_cells, placed_outs}
use Rattle.gos_macro.specs.path_search.Search.{leads, comes_in, is_pulse, goes_out, pulse_goes_out, is_known, all_below, is_so, is_followed, is_told}
use Rattle.gos_macro.specs.path_search.Told.{ToldIsKept}
use Rattle.gos_macro.specs.path_search.laws.Elements.{both_true, each_below}
use Rattle.gos_macro.specs.path_search.laws.Renamed.{placed_own, placed_pulse, named_by_name, path_placed}
use Rattle.gos_macro.specs.path_search.laws.Found.{is_not, found_is_there}
use Rattle.gos_macro.specs.path_search.laws.Closed.{Followed, IsFound, all_found}

-- the parts of the test
record Tested (contacts : List Contact) (cs : List Cell) (os : List Outgoing) (late : List ℕ) (passing : ℕ → ℕ → Bool) : Type 0 where
  few : length cs ≤ 1000
  narrow : length contacts ≤ 1000
  known : list_all (λ c. list_all (is_known contacts (length cs)) (pins c.gate)) cs ≡ true
  followed : (from : ℕ) → from < length contacts → is_followed cs from ≡ true
  so : (from to : ℕ) → from < length contacts → to < length contacts → is_so cs os late passing from to ≡ true

tested : (contacts : List Contact) (cs : List Cell) (os : List Outgoing) (late : List ℕ) (passing : ℕ → ℕ → Bool)
    → is_told contacts cs os late passing ≡ true → Tested contacts cs os late passing
tested contacts cs os late passing told =
    record {
      few = leb-true (length cs) 1000 first.0;
      narrow = leb-true (length contacts) 1000 second.0;
      known = third.0;
      followed = λ from small. (here from small).0;
      so = λ from to small near. each_below (length contacts) (λ to. is_so cs os late passing from to) to (here from small).1 near;
    }
  where
    pairs : ℕ → Bool
    pairs from = is_followed cs from && all_below (length contacts) (λ to. is_so cs os late passing from to)

    names : Bool
    names = list_all (λ c. list_all (is_known contacts (length cs)) (pins c.gate)) cs

    first : (nat_le (length cs) 1000 ≡ true) × ((nat_le (length contacts) 1000 && (names && all_below (length contacts) pairs)) ≡ true)
    first = both_true (nat_le (length cs) 1000) (nat_le (length contacts) 1000 && (names && all_below (length contacts) pairs)) told

    second : (nat_le (length contacts) 1000 ≡ true) × ((names && all_below (length contacts) pairs) ≡ true)
    second = both_true (nat_le (length contacts) 1000) (names && all_below (length contacts) pairs) first.1

    third : (names ≡ true) × (all_below (length contacts) pairs ≡ true)
    third = both_true names (all_below (length contacts) pairs) second.1

    here : (from : ℕ) → from < length contacts
        → (is_followed cs from ≡ true) × (all_below (length contacts) (λ to. is_so cs os late passing from to) ≡ true)
    here from small =
        both_true (is_followed cs from) (all_below (length contacts) (λ to. is_so cs os late passing from to))
        (each_below (length contacts) pairs from third.1 small)

-- a pair that passes
passes_so : (cs : List Cell) (os : List Outgoing) (late : List ℕ) (passing : ℕ → ℕ → Bool) (from to : ℕ)
    → is_so cs os late passing from to ≡ true → passing from to ≡ true
    → (is_among late from ≡ false) × (pulse_goes_out (leads cs (is_pulse from) (length cs)) (slice_get os to) ≡ true)
passes_so cs os late passing from to so holds =
    let out : Bool = pulse_goes_out (leads cs (is_pulse from) (length cs)) (slice_get os to) in
    let none : Bool = not (goes_out (leads cs (comes_in from) (length cs)) (slice_get os to)) in
    let both = both_true (not (is_among late from)) out
    (subst (λ (t : Bool). (if t then not (is_among late from) && out else none) ≡ true) holds so) in
    (is_not (is_among late from) both.0, both.1)

-- and one that doesn't
waits_so : (cs : List Cell) (os : List Outgoing) (late : List ℕ) (passing : ℕ → ℕ → Bool) (from to : ℕ)
    → is_so cs os late passing from to ≡ true → passing from to ≡ false
    → goes_out (leads cs (comes_in from) (length cs)) (slice_get os to) ≡ false
waits_so cs os late passing from to so fails =
    let out : Bool = not (is_among late from) && pulse_goes_out (leads cs (is_pulse from) (length cs)) (slice_get os to) in
    let none : Bool = not (goes_out (leads cs (comes_in from) (length cs)) (slice_get os to)) in
    is_not (goes_out (leads cs (comes_in from) (length cs)) (slice_get os to))
    (subst (λ (t : Bool). (if t then out else none) ≡ true) fails so)

-- a pulse that goes out goes out
out_of_pulse : (f : Option Outgoing) (z : ℕ) → IsPulseOut f z → IsOut f z
out_of_pulse None z out = absurd out
out_of_pulse (Some (Bare p)) z out = out
out_of_pulse (Some (Bearing p a)) z out = inl out

-- the path from pulse to pulse
pulse_path : (contacts : List Contact) (cs : List Cell) (os : List Outgoing) (from to : ℕ) → length cs ≤ 1000 → from < 1000
    → pulse_goes_out (leads cs (is_pulse from) (length cs)) (slice_get os to) ≡ true
    → (b : ℕ) (i : Incoming) → PulseLeadsOn b i (placed_cells b i cs) (placed_outs b os) from to
pulse_path contacts cs os from to few low found b i =
    let (z, ns, out, path) = by_out (slice_get os to) found in
    (z, ns, subst (λ (f : Option Outgoing). IsPulseOut f z) (sym (slice_get-map (placed_out b) os to)) out, path)
  where
    own : (k : ℕ) → k < length cs → placed b i k ≡ b + k
    own k inside = placed_own b i k (omega (arith, few, inside))

    to_net : (p : ℕ) → leads cs (is_pulse from) (length cs) p ≡ true
        → (ns : List ℕ) × Path b (placed_cells b i cs) (i.pulse from) ns (b + p)
    to_net p holds =
        let (inside, m, ns, starts, path) = found_is_there cs (is_pulse from) (length cs) p holds in
        let start : placed b i m ≡ i.pulse from = ap (placed b i) (eqb-true m (1000 + from) starts) ∙ placed_pulse b i from low in
        let there = path_placed (placed b i) b cs own m ns p path in (
          map (placed b i) ns,
          subst (λ (n : ℕ). Path b (placed_cells b i cs) (i.pulse from) (map (placed b i) ns) n) (own p inside)
              (subst (λ (n : ℕ). Path b (placed_cells b i cs) n (map (placed b i) ns) (placed b i p)) start there),
        )

    by_out : (f : Option Outgoing) → pulse_goes_out (leads cs (is_pulse from) (length cs)) f ≡ true
        → (z : ℕ) × (ns : List ℕ) × IsPulseOut (option_map (placed_out b) f) z × Path b (placed_cells b i cs) (i.pulse from) ns z
    by_out None holds = absurd (cc holds)
    by_out (Some (Bare p)) holds = let (ns, path) = to_net p holds in (b + p, ns, refl, path)
    by_out (Some (Bearing p a)) holds = let (ns, path) = to_net p holds in (b + p, ns, refl, path)

-- what was found and goes out goes out at the fixed place
out_found : (b : ℕ) (cs : List Cell) (found : ℕ → Bool) (f : Option Outgoing) (z : ℕ) → IsOut (option_map (placed_out b) f) z → IsFound b cs found z
    → goes_out found f ≡ true
out_found b cs found None z out is = absurd out
out_found b cs found (Some (Bare p)) z out (k, at, inside, holds) =
    let same : k ≡ p = omega (arith, at, out) in subst (λ (n : ℕ). found n ≡ true) same holds
out_found b cs found (Some (Bearing p a)) z (inl out) (k, at, inside, holds) =
    let same : k ≡ p = omega (arith, at, out) in
    ap (λ (t : Bool). t || found a) (subst (λ (n : ℕ). found n ≡ true) same holds)
out_found b cs found (Some (Bearing p a)) z (inr out) (k, at, inside, holds) =
    let same : k ≡ a = omega (arith, at, out) in
    or_second (found p) (subst (λ (n : ℕ). found n ≡ true) same holds)
  where
    or_second : (t : Bool) → found a ≡ true → (t || found a) ≡ true
    or_second true h = refl
    or_second false h = h

-- no path leads on where the search says so
no_path : (contacts : List Contact) (cs : List Cell) (os : List Outgoing) (from to : ℕ)
    → Followed contacts cs from (leads cs (comes_in from) (length cs)) → goes_out (leads cs (comes_in from) (length cs)) (slice_get os to) ≡ false
    → (b : ℕ) (i : Incoming) → AreApart contacts b (length cs) i
    → LeadsOn contacts b i (placed_cells b i cs) (placed_outs b os) from to → ⊥
no_path contacts cs os from to followed none b i apart (m, z, ns, into, out, path) =
    let found = all_found contacts cs from (leads cs (comes_in from) (length cs)) followed b i apart m ns z (inl into) path in
    let holds = out_found b cs (leads cs (comes_in from) (length cs)) (slice_get os to) z
    (subst (λ (f : Option Outgoing). IsOut f z) (slice_get-map (placed_out b) os to) out) found in
    let clash : true ≡ false = sym holds ∙ none in
    cc clash

-- both ways, of gates at some place
abbrev Tells : List Contact → ℕ → Incoming → ℕ → ℕ → Bool → List Cell → List Outgoing → Type 0
Tells contacts b i from to answer xs ys =
    (answer ≡ true → LeadsOn contacts b i xs ys from to) × (LeadsOn contacts b i xs ys from to → answer ≡ true)

tells_so : (contacts : List Contact) (cs : List Cell) (os : List Outgoing) (late : List ℕ) (passing : ℕ → ℕ → Bool) → Tested contacts cs os late passing
    → (from to : ℕ) → from < length contacts → to < length contacts → (b : ℕ) (i : Incoming) → AreApart contacts b (length cs) i
    → Tells contacts b i from to (passing from to) (placed_cells b i cs) (placed_outs b os)
tells_so contacts cs os late passing t from to small near b i apart = (forth, back)
  where
    Leads : Type 0
    Leads = LeadsOn contacts b i (placed_cells b i cs) (placed_outs b os) from to

    forth : passing from to ≡ true → Leads
    forth holds =
        let out = (passes_so cs os late passing from to (t.so from to small near) holds).1 in
        let (z, ns, goes, path) = pulse_path contacts cs os from to t.few (omega (arith, small, t.narrow)) out b i in
        (i.pulse from, z, ns, inl refl, out_of_pulse (slice_get (placed_outs b os) to) z goes, path)

    back : Leads → passing from to ≡ true
    back leads_on = by_test (passing from to) refl
      where
        by_test : (a : Bool) → passing from to ≡ a → passing from to ≡ true
        by_test true holds = holds
        by_test false fails =
            absurd
            (no_path contacts cs os from to (record { there = small; known = t.known; closed = t.followed from small })
            (waits_so cs os late passing from to (t.so from to small near) fails) b i apart leads_on)

pub told_is_kept : ToldIsKept
told_is_kept k cells outs late passing named outs_named told puts =
    record {
      exact = exact;
      pulses = pulses;
      waits = waits;
      puts = puts;
      named = λ f b d i j r. named_by_name contacts cells (length cs) named t.known f b d i j (sized b i f d j r);
    }
  where
    contacts : List Contact
    contacts = part_contacts k

    cs : List Cell
    cs = cells 0 fixed

    os : List Outgoing
    os = outs 0

    t : Tested contacts cs os late passing
    t = tested contacts cs os late passing told

    size : (b : ℕ) (i : Incoming) → length (cells b i) ≡ length cs
    size b i = ap length (named b i) ∙ length-map cs (with_renamed (placed b i))

    sized : (b : ℕ) (i : Incoming) (f : ℕ → ℕ) (d : ℕ) (j : Incoming) → Renames contacts (length (cells b i)) f b d i j → Renames contacts (length cs) f b d i j
    sized b i f d j = subst (λ (n : ℕ). Renames contacts n f b d i j) (size b i)

    exact : (from to : ℕ) → from < length contacts → to < length contacts → TellsIfItPasses k cells outs from to (passing from to)
    exact from to small near b i apart =
        let here = tells_so contacts cs os late passing t from to small near b i (subst (λ (n : ℕ). AreApart contacts b n i) (size b i) apart) in
        subst (λ (xs : List Cell). Tells contacts b i from to (passing from to) xs (outs b)) (sym (named b i))
        (subst (λ (ys : List Outgoing). Tells contacts b i from to (passing from to) (placed_cells b i cs) ys) (sym (outs_named b)) here)

    pulses : (b : ℕ) (i : Incoming) (from to : ℕ) → AreApart contacts b (length (cells b i)) i → from < length contacts → to < length contacts
        → passing from to ≡ true → PulseLeadsOn b i (cells b i) (outs b) from to
    pulses b i from to apart small near holds =
        let out = (passes_so cs os late passing from to (t.so from to small near) holds).1 in
        subst (λ (xs : List Cell). PulseLeadsOn b i xs (outs b) from to) (sym (named b i))
        (subst (λ (ys : List Outgoing). PulseLeadsOn b i (placed_cells b i cs) ys from to) (sym (outs_named b))
        (pulse_path contacts cs os from to t.few (omega (arith, small, t.narrow)) out b i))

    waits : (from to : ℕ) → from < length contacts → to < length contacts → is_among late from ≡ true → passing from to ≡ false
    waits from to small near is_late = by_test (passing from to) refl
      where
        by_test : (a : Bool) → passing from to ≡ a → passing from to ≡ false
        by_test true holds =
            let not_late = (passes_so cs os late passing from to (t.so from to small near) holds).0 in
            let clash : true ≡ false = sym is_late ∙ not_late in
            absurd (cc clash)
        by_test false fails = fails
