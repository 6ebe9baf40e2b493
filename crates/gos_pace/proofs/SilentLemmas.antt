-- The silent circuit does not keep pace with `skip`.
--
-- It is run in cycle 0 and never again. Then the program could answer, but no cycle has a label or a move.
use Rattle.std.specs.Prelude.{◌≡◌, ◌≢◌, ℕ, zero, suc, ◌+◌, ◌^◌, ◌<◌, ◌≤◌, ◌⊎◌, List, [], ◌∷◌, ◌++◌, length, replicate, Some, slice_get}
use Rattle.std.proofs.Common.{arith, refl, sym, ap, subst, inl, inr, ◌∙◌}
use Rattle.std.proofs.Math.Nat.{one-le-pow}
use Rattle.gos_model.specs.Terms.{Term, Skip}
use Rattle.gos_model.specs.Weight.{weight, pace}
use Rattle.gos_model.specs.Reach.{Unfolds}
use Rattle.gos_model.specs.Labels.{Label, given}
use Rattle.gos_model.specs.Moves.{Config, Idle, Running, Act, Computing, Showing, Moves, labels, Unfoldings, ActsTo, Stalled}
use Rattle.gos_netlist.specs.Nets.{Input, Const, Cell}
use Rattle.gos_netlist.specs.Settling.{Numbers, at, shown, Settling, RunFrom}
use Rattle.gos_pace.specs.Flattening.{Flattening, flat}
use Rattle.gos_model.specs.Protocol.{KeepsProtocol}
use Rattle.gos_pace.specs.RunProtocol.{IsInRange, InputsInRange, RunKeeps}
use Rattle.gos_pace.specs.Pace.{Turn, Follows, MovesWithin, KeepsPace}
use Rattle.gos_netlist.specs.SmallNets.{bit}
use Rattle.gos_pace.specs.SmallPace.{skip, silent_circuit, SilentLags}
use Rattle.gos_pace.proofs.SmallPaceLemmas.{only_order}

abbrev run : Label
run = given 0 0

-- the values of a cycle with this input
abbrev values : ℕ → Numbers
values a = a ∷ 0 ∷ []

-- the inputs, the values and the parts of a run with one request and k cycles after it
abbrev inputs_for : ℕ → List Numbers
inputs_for k = (1 ∷ []) ∷ replicate k []

abbrev values_for : ℕ → List Numbers
values_for k = values 1 ∷ replicate k (values 0)

abbrev parts_for : ℕ → List (List Label)
parts_for k = (run ∷ []) ∷ replicate k []

settles : (a : ℕ) (ins : Numbers) → at ins 0 ≡ a → Settling silent_circuit.cells (0 ∷ 0 ∷ []) ins (values a)
settles a ins e = (refl, each)
  where
    each : (n : ℕ) (c : Cell) → slice_get silent_circuit.cells n ≡ Some c
        → at (values a) n ≡ shown c.width c.gate (at (0 ∷ 0 ∷ []) n) (at ins n) (at (values a))
    each zero c h =
        let same : bit Input ≡ c = cc in
        let P : Cell → Type 0 = λ x. a ≡ shown x.width x.gate 0 (at ins 0) (at (values a)) in
        subst P same (sym e)
    each (suc zero) c h =
        let same : bit (Const 0) ≡ c = cc in
        let P : Cell → Type 0 = λ x. 0 ≡ shown x.width x.gate 0 (at ins 1) (at (values a)) in
        subst P same refl
    each (suc (suc n)) c h = absurd cc

quiet_run : (k : ℕ) → RunFrom silent_circuit.cells (0 ∷ 0 ∷ []) (replicate k []) (replicate k (values 0))
quiet_run zero = refl
quiet_run (suc k) = (settles 0 [] refl, quiet_run k)

some_power : (w : ℕ) → 0 < 2 ^ w
some_power w = omega (arith, one-le-pow w 2 (omega arith))

quiet_in_range : IsInRange silent_circuit []
quiet_in_range = λ n c h g. some_power c.width

request_in_range : IsInRange silent_circuit (1 ∷ [])
request_in_range = within
  where
    within : (n : ℕ) (c : Cell) → slice_get silent_circuit.cells n ≡ Some c → c.gate ≡ Input → at (1 ∷ []) n < 2 ^ c.width
    within zero c h g =
        let same : bit Input ≡ c = cc in
        let P : Cell → Type 0 = λ x. 1 < 2 ^ x.width in
        subst P same (omega arith)
    within (suc n) c h g = some_power c.width

all_in_range : (k : ℕ) → InputsInRange silent_circuit (replicate k [])
all_in_range zero = tt
all_in_range (suc k) = (quiet_in_range, all_in_range k)

quiet_parts : (k : ℕ) (parts : List (List Label)) → Flattening silent_circuit (replicate k (values 0)) parts → parts ≡ replicate k []
quiet_parts zero [] fl = refl
quiet_parts zero (part ∷ parts) fl = absurd fl
quiet_parts (suc k) [] fl = absurd fl
quiet_parts (suc k) (part ∷ parts) ((out, inp, o, n, e), fl) =
    let empty : part ≡ [] = e ∙ (λ i. o i ++ n i) in
    λ i. empty i ∷ quiet_parts k parts fl i

all_parts : (k : ℕ) (parts : List (List Label)) → Flattening silent_circuit (values_for k) parts → parts ≡ parts_for k
all_parts k [] fl = absurd fl
all_parts k (part ∷ parts) ((out, inp, o, n, e), fl) =
    let request : part ≡ run ∷ [] = e ∙ (λ i. o i ++ only_order run inp n i) in
    λ i. request i ∷ quiet_parts k parts fl i

flat_quiet : (k : ℕ) → flat (replicate k []) ≡ []
flat_quiet zero = refl
flat_quiet (suc k) = flat_quiet k

keeps : (k : ℕ) → RunKeeps silent_circuit (values_for k)
keeps k parts fl =
    let one : flat (parts_for k) ≡ run ∷ [] = ap (λ ls. run ∷ ls) (flat_quiet k) in
    let whole : run ∷ [] ≡ flat parts = sym one ∙ ap flat (sym (all_parts k parts fl)) in
    subst (KeepsProtocol []) whole (λ _. (refl, refl, refl), tt)

quiet_flattening : (k : ℕ) → Flattening silent_circuit (replicate k (values 0)) (replicate k [])
quiet_flattening zero = tt
quiet_flattening (suc k) = (([], [], refl, refl, refl), quiet_flattening k)

flattening : (k : ℕ) → Flattening silent_circuit (values_for k) (parts_for k)
flattening k = (([], run ∷ [], refl, ([], [], refl, refl), refl), quiet_flattening k)

unfolds_none : (n : ℕ) (u : Term) → Unfoldings n Skip u → Skip ≡ u
unfolds_none zero u h = h
unfolds_none (suc n) u h = absurd (no_unfolding h.0 h.1)
  where
    no_unfolding : (u : Term) → Unfolds Skip u → ⊥
    no_unfolding u h = grind (arith, h)

computes_none : (c : Config) → ActsTo [] Computing [] Skip c → ⊥
computes_none Idle h = h
computes_none (Running m s) h = grind (arith, h)

-- moves without a label from where the program runs: there are none
no_moves : (acts : List Act) (c : Config) → Moves skip acts (Running Skip []) c → labels acts ≡ [] → (acts ≡ []) × (c ≡ Running Skip [])
no_moves [] c m e = (refl, sym m)
no_moves (Computing ∷ acts) c (b, (n, u, us, h), m) e =
    absurd (computes_none b (subst (λ v. ActsTo [] Computing [] v b) (sym (unfolds_none n u us)) h))
no_moves (Showing o ∷ acts) c m e = absurd cc

first_moves : (acts : List Act) (c : Config) → Moves skip acts Idle c → labels acts ≡ run ∷ [] → c ≡ Running Skip []
first_moves [] c m e = absurd cc
first_moves (Computing ∷ acts) c (b, (is, at_body), m) e = absurd cc
first_moves (Showing o ∷ acts) c (b, (is, at_body), m) e =
    let rest : labels acts ≡ [] = cc in
    (no_moves acts c (subst (λ x. Moves skip acts x c) at_body m) rest).1

-- and so in all cycles after it
quiet_turns : (k : ℕ) (c : Config) (ts : List Turn) → c ≡ Running Skip [] → Follows skip c (replicate k []) ts
    → (length ts ≡ k) × ((j : ℕ) (t : Turn) → slice_get ts j ≡ Some t → t.acts ≡ [])
quiet_turns zero c [] e f = (refl, λ j t h. absurd cc)
quiet_turns zero c (t ∷ ts) e f = absurd f
quiet_turns (suc k) c [] e f = absurd f
quiet_turns (suc k) c (t ∷ ts) e (m, l, f) =
    let none = no_moves t.acts t.config (subst (λ x. Moves skip t.acts x t.config) e m) l in
    let rest = quiet_turns k t.config ts none.1 f in
    (ap suc rest.0, each none.0 rest.1)
  where
    each : t.acts ≡ [] → ((j : ℕ) (u : Turn) → slice_get ts j ≡ Some u → u.acts ≡ []) → (j : ℕ) (u : Turn) → slice_get (t ∷ ts) j ≡ Some u → u.acts ≡ []
    each here rest zero u h = let same : t ≡ u = cc in subst (λ (x : Turn). x.acts ≡ []) same here
    each here rest (suc j) u h = rest j u h

can_answer : Stalled skip (Running Skip []) → ⊥
can_answer stalled = stalled.1 (given 1 0) Idle refl (0, Skip, refl, inl (refl, refl))

lags : (k : ℕ) (ts : List Turn) → Follows skip Idle (parts_for k) ts → MovesWithin k skip ts → ⊥
lags k [] f within = f
lags k (t ∷ ts) (m, l, f) within =
    let running = first_moves t.acts t.config m l in
    let rest = quiet_turns k t.config ts running f in
    decide running rest.1 (within 1 (omega (arith, rest.0)))
  where
    decide : t.config ≡ Running Skip [] → ((j : ℕ) (u : Turn) → slice_get ts j ≡ Some u → u.acts ≡ [])
        → Stalled skip t.config ⊎ ((j : ℕ) × (u : Turn) × (1 ≤ j) × (j < 1 + k) × (slice_get (t ∷ ts) j ≡ Some u) × (u.acts ≢ [])) → ⊥
    decide running none (inl stalled) = can_answer (subst (Stalled skip) running stalled)
    decide running none (inr (zero, u, some, below, h, acts)) = omega (arith, some)
    decide running none (inr (suc j, u, some, below, h, acts)) = acts (none j u h)

silent : (k : ℕ) → KeepsPace k skip silent_circuit (values_for k) → ⊥
silent k keeps =
    let (ts, f, within) = keeps (parts_for k) (flattening k) in
    lags k ts f within

pub silent_lags : SilentLags
silent_lags always =
    let k : ℕ = pace (weight skip.imports skip.body) in
    silent k (always (inputs_for k) (values_for k) (request_in_range, all_in_range k) (settles 1 (1 ∷ []) refl, quiet_run k) (keeps k))
