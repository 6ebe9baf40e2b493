-- The moves that match the list of a run, cut by its cycles.
--
-- Where a cycle has no moves it has no outputs and no inputs, and none of its firings goes on.
use Rattle.std.proofs.Common.{◌≡◌, List, [], ◌∷◌, ◌++◌, length, refl, sym, ◌∙◌, ap, subst, arith, append_assoc}
use Rattle.gos_netlist.specs.Nets.{Netlist}
use Rattle.gos_netlist.specs.Settling.{Numbers}
use Rattle.gos_model.specs.Labels.{Label}
use Rattle.gos_model.specs.Moves.{Program, Config, Act, Moves, labels}
use Rattle.gos_model.proofs.MoveLemmas.{labels_then, moves_then}
use Rattle.gos_pace.specs.Flattening.{outputs, inputs, AnyOrder, Flattening, flat}
use Rattle.gos_pace.specs.Pace.{Turn, Follows}
use Rattle.gos_plan.specs.Plans.{Plan}
use Rattle.gos_plan.specs.Tokens.{Tokens, Element, Runs}
use Rattle.gos_plan.specs.Orderly.{IsOrderly}
use Rattle.gos_pace.specs.Cycles.{cycle_list, MakesCycles}
use Rattle.gos_plan.specs.Made.{fires_of, Made}
use Rattle.gos_plan.proofs.ElementLemmas.{runs_then}
use Rattle.gos_realises.specs.realises.Matched.{all_shown, GoesOn, Agrees, IsMatched}
use Rattle.gos_realises.specs.quiet.Quiet.{NoneGoesOn}
use Rattle.gos_realises.proofs.realises.MatchedLemmas.{matched_agrees, shown_then}
use Rattle.gos_linked.proofs.keeping.ListedLemmas.{orderly_first, CyclesShown, cycle_shows}

-- lists that are empty together
both_empty : {X : Type 0} (xs ys : List X) → xs ++ ys ≡ [] → (xs ≡ []) × (ys ≡ [])
both_empty [] ys e = (refl, e)
both_empty (x ∷ xs) ys e = absurd (cc e)

none_from : (ls order : List Label) → AnyOrder ls order → order ≡ [] → ls ≡ []
none_from [] order o e = refl
none_from (l ∷ ls) order (before, after, is, o) e = absurd (never before (sym is ∙ e))
  where
    never : (before : List Label) → before ++ l ∷ after ≡ [] → ⊥
    never [] e = cc e
    never (x ∷ before) e = cc e

-- the front of a matched list
pub record Cut (p : Plan) (g : Program) (xs ys : List Element) (s t : Tokens) (c : Config) : Type 0 where
  pub acts : List Act
  pub config : Config
  pub moves : Moves g acts c config
  pub labelled : labels acts ≡ all_shown p xs
  pub still : acts ≡ [] → NoneGoesOn p xs s t
  pub rest : IsMatched p g ys t config

pub cut : (p : Plan) (g : Program) (xs ys : List Element) (s t : Tokens) (c : Config) → IsMatched p g (xs ++ ys) s c → Runs p xs s t → Cut p g xs ys s t c
cut p g [] ys s t c h r =
    record {
      acts = [];
      config = c;
      moves = refl;
      labelled = refl;
      still = λ e. r;
      rest = subst (λ (x : Tokens). IsMatched p g ys x c) (sym r) h;
    }
cut p g (x ∷ xs) ys s t c h r =
    let here = h.1 r.0 r.1 in
    let more = cut p g xs ys r.0 t here.1 here.5 r.2 in
    record {
      acts = here.0 ++ more.acts;
      config = more.config;
      moves = moves_then g here.0 more.acts c here.1 more.config here.2 more.moves;
      labelled = labels_then here.0 more.acts ∙ (λ j. here.3 j ++ more.labelled j);
      still = λ e. (r.0, r.1, subst (GoesOn p s x) (both_empty here.0 more.acts e).0 here.4, more.still (both_empty here.0 more.acts e).1);
      rest = more.rest;
    }

-- the list of a run with the pulses in the order of a flattening
abbrev pub ordered : (p : Plan) (net : Netlist) (vs : List Numbers) (parts : List (List Label)) → List Made → Flattening net vs parts → List Element
ordered p net [] parts ms f = []
ordered p net (v ∷ vs) [] ms f = []
ordered p net (v ∷ vs) (part ∷ parts) [] f = []
ordered p net (v ∷ vs) (part ∷ parts) (m ∷ ms) f = cycle_list p f.0.0 f.0.1 m.firings ++ ordered p net vs parts ms f.1

pub runs_ordered : (p : Plan) (net : Netlist) (vs : List Numbers) (parts : List (List Label)) (ms : List Made) (s : Tokens) (f : Flattening net vs parts)
    → MakesCycles p net vs s ms → (t : Tokens) × Runs p (ordered p net vs parts ms f) s t
runs_ordered p net [] parts ms s f made = (s, refl)
runs_ordered p net (v ∷ vs) [] ms s f made = (s, refl)
runs_ordered p net (v ∷ vs) (part ∷ parts) [] s f made = (s, refl)
runs_ordered p net (v ∷ vs) (part ∷ parts) (m ∷ ms) s f made =
    let more = runs_ordered p net vs parts ms m.after f.1 made.1 in
    (more.0, runs_then p (cycle_list p f.0.0 f.0.1 m.firings) (ordered p net vs parts ms f.1) s m.after more.0 (made.0 f.0.0 f.0.1 f.0.2 f.0.3) more.1)

pub ordered_shows : (p : Plan) (net : Netlist) (vs : List Numbers) (parts : List (List Label)) (ms : List Made) (f : Flattening net vs parts) → CyclesShown p net
    → length ms ≡ length vs → all_shown p (ordered p net vs parts ms f) ≡ flat parts
ordered_shows p net [] [] ms f shown long = refl
ordered_shows p net [] (part ∷ parts) ms f shown long = absurd f
ordered_shows p net (v ∷ vs) [] ms f shown long = absurd f
ordered_shows p net (v ∷ vs) (part ∷ parts) [] f shown long = absurd (omega (arith, long))
ordered_shows p net (v ∷ vs) (part ∷ parts) (m ∷ ms) f shown long =
    shown_then p (cycle_list p f.0.0 f.0.1 m.firings) (ordered p net vs parts ms f.1)
    ∙ (λ j. (cycle_shows p net v f.0.0 f.0.1 m.firings shown f.0.2 f.0.3 ∙ sym f.0.4) j ++ ordered_shows p net vs parts ms f.1 shown (omega (arith, long)) j)

-- what holds at the beginning of a cycle, where the list up to it is `past`
pub record Here (p : Plan) (g : Program) (first : Tokens) (past : List Element) (s : Tokens) (c : Config) : Type 0 where
  pub runs : Runs p past first s
  pub agree : Agrees p g s c
  pub orderly : IsOrderly p past first

-- a cycle without moves, whose list is xs
pub record Still (p : Plan) (net : Netlist) (s : Tokens) (c : Config) (m : Made) (v : Numbers) (t : Turn) (xs : List Element) : Type 0 where
  pub config : t.config ≡ c
  pub outputs : outputs net v ≡ []
  pub list : xs ≡ fires_of m.firings
  pub none : NoneGoesOn p (fires_of m.firings) s m.after

-- the turns go along with the cycles
abbrev pub Along : Plan → Program → Netlist → Tokens → List Made → List Numbers → List Turn → List Element → Tokens → Config → Type 0
Along p g net first [] [] [] past s c = Here p g first past s c
Along p g net first (m ∷ ms) (v ∷ vs) (t ∷ ts) past s c =
    Here p g first past s c
    × (xs : List Element) × (t.acts ≡ [] → Still p net s c m v t xs) × Along p g net first ms vs ts (past ++ xs) m.after t.config
Along p g net first ms vs ts past s c = ⊥

still : (p : Plan) (g : Program) (net : Netlist) (v : Numbers) (out inp : List Label) (m : Made) (s : Tokens) (c : Config) (ys : List Element)
    → CyclesShown p net → AnyOrder (outputs net v) out → AnyOrder (inputs net v) inp
    → (k : Cut p g (cycle_list p out inp m.firings) ys s m.after c) → k.acts ≡ []
    → Still p net s c m v (record { acts = k.acts; config = k.config }) (cycle_list p out inp m.firings)
still p g net v out inp m s c ys shown o i k e =
    record {
      config = sym (subst (λ (acts : List Act). Moves g acts c k.config) e k.moves);
      outputs = none_from (outputs net v) out o empty.0;
      list = list;
      none = subst (λ (xs : List Element). NoneGoesOn p xs s m.after) list (k.still e);
    }
  where
    empty : (out ≡ []) × (inp ≡ [])
    empty = both_empty out inp (sym (cycle_shows p net v out inp m.firings shown o i) ∙ sym k.labelled ∙ ap labels e)

    list : cycle_list p out inp m.firings ≡ fires_of m.firings
    list = λ j. cycle_list p (empty.0 j) (empty.1 j) m.firings

pub turns : (p : Plan) (g : Program) (net : Netlist) (first : Tokens) (vs : List Numbers) (parts : List (List Label)) (ms : List Made)
    (past : List Element) (s : Tokens) (c : Config) (f : Flattening net vs parts) → CyclesShown p net → length ms ≡ length vs → MakesCycles p net vs s ms
    → Runs p past first s → IsOrderly p (past ++ ordered p net vs parts ms f) first → IsMatched p g (ordered p net vs parts ms f) s c
    → (ts : List Turn) × Follows g c parts ts × Along p g net first ms vs ts past s c
turns p g net first [] [] [] past s c f shown long made runs orderly matched =
    ([], tt, record { runs = runs; agree = matched; orderly = orderly_first p past [] first orderly })
turns p g net first [] [] (m ∷ ms) past s c f shown long made runs orderly matched = absurd (omega (arith, long))
turns p g net first [] (part ∷ parts) ms past s c f shown long made runs orderly matched = absurd f
turns p g net first (v ∷ vs) [] ms past s c f shown long made runs orderly matched = absurd f
turns p g net first (v ∷ vs) (part ∷ parts) [] past s c f shown long made runs orderly matched = absurd (omega (arith, long))
turns p g net first (v ∷ vs) (part ∷ parts) (m ∷ ms) past s c f shown long made runs orderly matched =
    let run = made.0 f.0.0 f.0.1 f.0.2 f.0.3 in
    let here = cut p g (cycle_list p f.0.0 f.0.1 m.firings) (ordered p net vs parts ms f.1) s m.after c matched run in
    let more = turns p g net first vs parts ms (past ++ cycle_list p f.0.0 f.0.1 m.firings) m.after here.config f.1 shown (omega (arith, long)) made.1
    (runs_then p past (cycle_list p f.0.0 f.0.1 m.firings) first s m.after runs run)
    (subst (λ (xs : List Element). IsOrderly p xs first) (sym (append_assoc past (cycle_list p f.0.0 f.0.1 m.firings) (ordered p net vs parts ms f.1))) orderly)
    here.rest in (
      record { acts = here.acts; config = here.config } ∷ more.0,
      (here.moves, here.labelled ∙ cycle_shows p net v f.0.0 f.0.1 m.firings shown f.0.2 f.0.3 ∙ sym f.0.4, more.1),
      (
        record {
          runs = runs;
          agree = matched_agrees p g (ordered p net (v ∷ vs) (part ∷ parts) (m ∷ ms) f) s c matched;
          orderly = orderly_first p past (ordered p net (v ∷ vs) (part ∷ parts) (m ∷ ms) f) first orderly;
        },
        cycle_list p f.0.0 f.0.1 m.firings,
        still p g net v f.0.0 f.0.1 m s c (ordered p net vs parts ms f.1) shown f.0.2 f.0.3 here,
        more.2,
      ),
    )
