-- Cycles without moves: the program stays where it is, and what the parts do grows quiet.
use Rattle.std.specs.Prelude.{◌≢◌, Contains}
use Rattle.std.proofs.Common.{◌≡◌, inl, inr, ◌⊎◌, ℕ, zero, suc, ◌+◌, ◌<◌, ◌≤◌, List, [], ◌∷◌, ◌++◌, length, Some, slice_get, refl, sym, ◌∙◌, ap, subst, arith, append_assoc}
use Rattle.std.proofs.lemmas.List.{append-nil}
use Rattle.gos_netlist.specs.Nets.{Netlist}
use Rattle.gos_netlist.specs.Settling.{Numbers}
use Rattle.gos_model.specs.Moves.{Program, Config, Act, Stalled}
use Rattle.gos_pace.specs.Flattening.{outputs}
use Rattle.gos_pace.specs.Pace.{Turn, config_after}
use Rattle.gos_model.specs.Weight.{pace}
use Rattle.gos_plan.specs.Plans.{Plan}
use Rattle.gos_plan.specs.Tokens.{Tokens, Element, Fire, Out, In, Does, IsIdle}
use Rattle.gos_plan.specs.Orderly.{IsOrderly}
use Rattle.gos_pace.specs.Cycles.{outs_of, IsMadeSoon, IsPrompt}
use Rattle.gos_plan.specs.Made.{Made, state_after}
use Rattle.gos_realises.specs.realises.Matched.{Agrees}
use Rattle.gos_realises.specs.quiet.Quiet.{FiresOnly, all_fires, IsFiredSoon, FiresSoon, GrowsQuiet}
use Rattle.gos_linked.proofs.keeping.FollowLemmas.{Here, Still, Along}

-- the first k cycles
abbrev until : ℕ → List Made → List Made
until zero ms = []
until (suc k) [] = []
until (suc k) (m ∷ ms) = m ∷ until k ms

-- the first k turns have no moves
abbrev AreEmpty : ℕ → List Turn → Type 0
AreEmpty zero ts = Unit {0}
AreEmpty (suc k) [] = ⊥
AreEmpty (suc k) (t ∷ ts) = (t.acts ≡ []) × AreEmpty k ts

abbrev OneMoves : ℕ → List Turn → Type 0
OneMoves k ts = (j : ℕ) × (t : Turn) × (j < k) × (slice_get ts j ≡ Some t) × (t.acts ≢ [])

one_moves_or : (k : ℕ) (ts : List Turn) → k ≤ length ts → OneMoves k ts ⊎ AreEmpty k ts
one_moves_or zero ts h = inr tt
one_moves_or (suc k) [] h = absurd (omega (arith, h))
one_moves_or (suc k) (t ∷ ts) h = by_acts t.acts refl (one_moves_or k ts (omega (arith, h)))
  where
    by_acts : (acts : List Act) → t.acts ≡ acts → OneMoves k ts ⊎ AreEmpty k ts → OneMoves (suc k) (t ∷ ts) ⊎ AreEmpty (suc k) (t ∷ ts)
    by_acts [] e (inl (j, u, before, there, moves)) = inl (suc j, u, omega (arith, before), there, moves)
    by_acts [] e (inr empty) = inr (e, empty)
    by_acts (a ∷ acts) e rest = inl (0, t, omega arith, refl, (λ none. let never : a ∷ acts ≡ [] = sym e ∙ none in cc never))

here : (p : Plan) (g : Program) (net : Netlist) (first : Tokens) (ms : List Made) (vs : List Numbers) (ts : List Turn) (past : List Element) (s : Tokens)
    (c : Config) → Along p g net first ms vs ts past s c → Here p g first past s c
here p g net first [] [] [] past s c h = h
here p g net first [] [] (t ∷ ts) past s c h = absurd h
here p g net first [] (v ∷ vs) [] past s c h = absurd h
here p g net first [] (v ∷ vs) (t ∷ ts) past s c h = absurd h
here p g net first (m ∷ ms) [] [] past s c h = absurd h
here p g net first (m ∷ ms) [] (t ∷ ts) past s c h = absurd h
here p g net first (m ∷ ms) (v ∷ vs) [] past s c h = absurd h
here p g net first (m ∷ ms) (v ∷ vs) (t ∷ ts) past s c h = h.0

-- what is known of k cycles without moves
record Period (p : Plan) (g : Program) (net : Netlist) (first : Tokens) (k : ℕ) (ms : List Made) (vs : List Numbers) (past : List Element) (s : Tokens) (c : Config) : Type 0 where
  pub fires : FiresOnly p s (until k ms)
  pub orderly : IsOrderly p (past ++ all_fires (until k ms)) first
  pub agree : (j : ℕ) → j ≤ k → Agrees p g (state_after s (until k ms) j) c
  pub silent : (j : ℕ) (v : Numbers) → j < k → slice_get vs j ≡ Some v → outputs net v ≡ []
  pub long : length (until k ms) ≡ k

period : (p : Plan) (g : Program) (net : Netlist) (first : Tokens) (k : ℕ) (ms : List Made) (vs : List Numbers) (ts : List Turn) (past : List Element)
    (s : Tokens) (c : Config) → Along p g net first ms vs ts past s c → AreEmpty k ts → Period p g net first k ms vs past s c
period p g net first zero ms vs ts past s c h empty =
    record {
      fires = tt;
      orderly = subst (λ (xs : List Element). IsOrderly p xs first) (sym (append-nil past)) (here p g net first ms vs ts past s c h).orderly;
      agree = λ j within. let none : j ≡ 0 = omega (arith, within) in
          subst (λ (n : ℕ). Agrees p g (state_after s [] n) c) (sym none) (here p g net first ms vs ts past s c h).agree;
      silent = λ j v within. absurd (omega (arith, within));
      long = refl;
    }
period p g net first (suc k) ms vs [] past s c h empty = absurd empty
period p g net first (suc k) [] [] (t ∷ ts) past s c h empty = absurd h
period p g net first (suc k) [] (v ∷ vs) (t ∷ ts) past s c h empty = absurd h
period p g net first (suc k) (m ∷ ms) [] (t ∷ ts) past s c h empty = absurd h
period p g net first (suc k) (m ∷ ms) (v ∷ vs) (t ∷ ts) past s c (now, xs, quiet, rest) empty =
    let more = period p g net first k ms vs ts (past ++ xs) m.after t.config rest empty.1 in
    let is = quiet empty.0 in
    record {
      fires = (is.none, more.fires);
      orderly =
          subst (λ (ys : List Element). IsOrderly p ys first)
          (append_assoc past xs (all_fires (until k ms)) ∙ ap (λ (ys : List Element). past ++ (ys ++ all_fires (until k ms))) is.list) more.orderly;
      agree = agreeing is more;
      silent = silence is more;
      long = ap suc more.long;
    }
  where
    agreeing : Still p net s c m v t xs → Period p g net first k ms vs (past ++ xs) m.after t.config
        → (j : ℕ) → j ≤ suc k → Agrees p g (state_after s (m ∷ until k ms) j) c
    agreeing is more zero within = now.agree
    agreeing is more (suc j) within =
        subst (λ (d : Config). Agrees p g (state_after m.after (until k ms) j) d) is.config (more.agree j (omega (arith, within)))

    silence : Still p net s c m v t xs → Period p g net first k ms vs (past ++ xs) m.after t.config
        → (j : ℕ) (w : Numbers) → j < suc k → slice_get (v ∷ vs) j ≡ Some w → outputs net w ≡ []
    silence is more zero w within there = let same : v ≡ w = grind (arith, there) in ap (outputs net) (sym same) ∙ is.outputs
    silence is more (suc j) w within there = more.silent j w (omega (arith, within)) there

-- what is possible in them is made in them
until_state : (k : ℕ) (s : Tokens) (ms : List Made) (t : ℕ) → t ≤ k → state_after s (until k ms) t ≡ state_after s ms t
until_state k s ms zero h = refl
until_state zero s ms (suc t) h = absurd (omega (arith, h))
until_state (suc k) s [] (suc t) h = refl
until_state (suc k) s (m ∷ ms) (suc t) h = until_state k m.after ms t (omega (arith, h))

until_at : (k : ℕ) (ms : List Made) (j : ℕ) → j < k → slice_get (until k ms) j ≡ slice_get ms j
until_at zero ms j h = absurd (omega (arith, h))
until_at (suc k) [] j h = refl
until_at (suc k) (m ∷ ms) zero h = refl
until_at (suc k) (m ∷ ms) (suc j) h = until_at k ms j (omega (arith, h))

until_long : (k : ℕ) (ms : List Made) → length (until k ms) ≤ length ms
until_long zero ms = omega arith
until_long (suc k) [] = omega arith
until_long (suc k) (m ∷ ms) = let more = until_long k ms in omega (arith, more)

not_in_none : {X : Type 0} (xs : List X) (x : X) → xs ≡ [] → Contains xs x → ⊥
not_in_none [] x e h = let within = h.1 in omega (arith, within)
not_in_none (y ∷ xs) x e h = cc e

fires_soon : (p : Plan) (g : Program) (net : Netlist) (first : Tokens) (k : ℕ) (ms : List Made) (vs : List Numbers) (past : List Element) (s : Tokens)
    (c : Config) → Period p g net first k ms vs past s c → IsPrompt p net vs s ms → FiresSoon p s (until k ms)
fires_soon p g net first k ms vs past s c h prompt t x after within does =
    by_element x (prompt t x after (omega (arith, within, fewer)) (subst (λ (w : Tokens). Does p x w after) (until_state k s ms t (omega (arith, within, long))) does))
  where
    long : length (until k ms) ≡ k
    long = h.long

    fewer : length (until k ms) ≤ length ms
    fewer = until_long k ms

    by_element : (x : Element) → IsMadeSoon p net vs ms t x → IsFiredSoon (until k ms) t x
    by_element (Fire i slot) (j, m, from, to, there, fired) = (j, m, from, to, until_at k ms j (omega (arith, within, long, to)) ∙ there, fired)
    by_element (Out e n) (j, v, from, to, there, made) =
        absurd (not_in_none (outs_of p (outputs net v)) (Out e n) (ap (outs_of p) (h.silent j v (omega (arith, within, long, to)) there)) made)
    by_element (In e n) made = tt

-- so where none of so many cycles has moves, the program can only wait
at_start : (p : Plan) (g : Program) (net : Netlist) (first : Tokens) (ms : List Made) (vs : List Numbers) (ts : List Turn) (past : List Element) (s : Tokens)
    (c : Config) → GrowsQuiet p → IsIdle p first → Along p g net first ms vs ts past s c → IsPrompt p net vs s ms → pace p.weight ≤ length ts
    → Stalled g c ⊎ OneMoves (pace p.weight) ts
at_start p g net first ms vs ts past s c grows idle h prompt many = by_case (one_moves_or (pace p.weight) ts many)
  where
    by_case : OneMoves (pace p.weight) ts ⊎ AreEmpty (pace p.weight) ts → Stalled g c ⊎ OneMoves (pace p.weight) ts
    by_case (inl moves) = inr moves
    by_case (inr empty) =
        let all = period p g net first (pace p.weight) ms vs ts past s c h empty in
        let long = all.long in
        let quiet = grows first s past (until (pace p.weight) ms) idle (here p g net first ms vs ts past s c h).runs all.orderly all.fires
        (fires_soon p g net first (pace p.weight) ms vs past s c all prompt) (omega (arith, long)) in
        let within = quiet.1 in
        inl ((all.agree quiet.0 (omega (arith, within, long))).0 quiet.2)

-- promptness of the rest of a run
prompt_after : (p : Plan) (net : Netlist) (v : Numbers) (vs : List Numbers) (s : Tokens) (m : Made) (ms : List Made) → IsPrompt p net (v ∷ vs) s (m ∷ ms)
    → IsPrompt p net vs m.after ms
prompt_after p net v vs s m ms prompt t x after within does = by_element x (prompt (suc t) x after (omega (arith, within)) does)
  where
    by_element : (x : Element) → IsMadeSoon p net (v ∷ vs) (m ∷ ms) (suc t) x → IsMadeSoon p net vs ms t x
    by_element (Fire i slot) (zero, w, from, to, there, fired) = absurd (omega (arith, from))
    by_element (Fire i slot) (suc j, w, from, to, there, fired) = (j, w, omega (arith, from), omega (arith, to), there, fired)
    by_element (Out e n) (zero, w, from, to, there, made) = absurd (omega (arith, from))
    by_element (Out e n) (suc j, w, from, to, there, made) = (j, w, omega (arith, from), omega (arith, to), there, made)
    by_element (In e n) made = tt

pub moves_within : (p : Plan) (g : Program) (net : Netlist) (first : Tokens) (ms : List Made) (vs : List Numbers) (ts : List Turn) (past : List Element)
    (s : Tokens) (c : Config) → GrowsQuiet p → IsIdle p first → Along p g net first ms vs ts past s c → IsPrompt p net vs s ms
    → (i : ℕ) → i + pace p.weight ≤ length ts
    → Stalled g (config_after c ts i)
    ⊎ ((j : ℕ) × (t : Turn) × (i ≤ j) × (j < i + pace p.weight) × (slice_get ts j ≡ Some t) × (t.acts ≢ []))
moves_within p g net first ms vs ts past s c grows idle h prompt zero many =
    elim (at_start p g net first ms vs ts past s c grows idle h prompt (omega (arith, many))) [
      | inl stalled ↦ inl stalled
      | inr m ↦ let before = m.2 in inr (m.0, m.1, omega arith, omega (arith, before), m.3, m.4)
    ]
moves_within p g net first [] [] [] past s c grows idle h prompt (suc i) many = absurd (omega (arith, many))
moves_within p g net first [] [] (t ∷ ts) past s c grows idle h prompt (suc i) many = absurd h
moves_within p g net first [] (v ∷ vs) [] past s c grows idle h prompt (suc i) many = absurd h
moves_within p g net first [] (v ∷ vs) (t ∷ ts) past s c grows idle h prompt (suc i) many = absurd h
moves_within p g net first (m ∷ ms) [] [] past s c grows idle h prompt (suc i) many = absurd h
moves_within p g net first (m ∷ ms) [] (t ∷ ts) past s c grows idle h prompt (suc i) many = absurd h
moves_within p g net first (m ∷ ms) (v ∷ vs) [] past s c grows idle h prompt (suc i) many = absurd h
moves_within p g net first (m ∷ ms) (v ∷ vs) (t ∷ ts) past s c grows idle h prompt (suc i) many =
    elim (moves_within p g net first ms vs ts (past ++ h.1) m.after t.config grows idle h.3 (prompt_after p net v vs s m ms prompt) i (omega (arith, many))) [
      | inl stalled ↦ inl stalled
      | inr w ↦ let from = w.2 in let to = w.3 in inr (suc w.0, w.1, omega (arith, from), omega (arith, to), w.4, w.5)
    ]
