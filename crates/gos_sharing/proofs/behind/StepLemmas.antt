-- A regular plan, step by step: from where a list led, each element that comes in turn comes in order, and keeps turns.
use Rattle.std.specs.Prelude.{◌≡◌, List, [], ◌∷◌, ◌++◌}
use Rattle.std.proofs.Common.{refl, sym, ◌∙◌, ap, subst}
use Rattle.gos_plan.specs.Plans.{Plan}
use Rattle.gos_plan.specs.Tokens.{Tokens, Element, Fire, Out, In, Does, Runs, IsIdle}
use Rattle.gos_plan.specs.Orderly.{Open, none_open, ComesInOrder, AllWelcome, OrderlyFrom}
use Rattle.gos_plan.proofs.DecidedLemmas.{one_state, one_open}
use Rattle.gos_realises.specs.realises.Regular.{Pass, InputsKeepTurns, OutputsKeepTurns, IsRegular}
use Rattle.gos_realises.proofs.realises.InputLemmas.{passed, passed_then, inputs_then, InputTurns, runs_then}
use Rattle.gos_realises.proofs.realises.RingLemmas.{after, OutputTurns}

abbrev pub Ordered : Plan → List Element → Open → Tokens → Type 0
Ordered p zs o s = (u : Open) × (v : Tokens) × OrderlyFrom p zs o s u v

-- the list that led here from an idle state
pub record Came (p : Plan) (past : List Pass) (s : Tokens) : Type 0 where
  pub list : List Element
  pub first : Tokens
  pub idle : IsIdle p first
  pub runs : Runs p list first s
  pub inputs : InputsKeepTurns p [] list
  pub is_past : passed p [] list ≡ past

-- a list led here, and each list from here on whose inputs keep turns is orderly, and its outputs keep turns
abbrev pub RegularFrom : Plan → List Pass → Open → Tokens → Type 0
RegularFrom p past o s =
    Came p past s
    × ((zs : List Element) (w : Tokens) → Runs p zs s w → InputsKeepTurns p past zs → Ordered p zs o s × OutputsKeepTurns p past zs)

-- a list with one element more in front, whose inputs keep turns
pub with_turn : (p : Plan) (past : List Pass) (x : Element) (zs : List Element) → InputTurns p past x → InputsKeepTurns p (after p x past) zs
    → InputsKeepTurns p past (x ∷ zs)
with_turn p past (Fire i t) zs one more = more
with_turn p past (Out e v) zs one more = more
with_turn p past (In e v) zs one more = (one, more)

out_first : (p : Plan) (past : List Pass) (x : Element) (zs : List Element) → OutputsKeepTurns p past (x ∷ zs) → OutputTurns p past x
out_first p past (Fire i t) zs turns = tt
out_first p past (Out e v) zs turns = turns.0
out_first p past (In e v) zs turns = tt

out_later : (p : Plan) (past : List Pass) (x : Element) (zs : List Element) → OutputsKeepTurns p past (x ∷ zs) → OutputsKeepTurns p (after p x past) zs
out_later p past (Fire i t) zs turns = turns
out_later p past (Out e v) zs turns = turns.1
out_later p past (In e v) zs turns = turns

pub out_joined : (p : Plan) (past : List Pass) (x : Element) (zs : List Element) → OutputTurns p past x → OutputsKeepTurns p (after p x past) zs
    → OutputsKeepTurns p past (x ∷ zs)
out_joined p past (Fire i t) zs one more = more
out_joined p past (Out e v) zs one more = (one, more)
out_joined p past (In e v) zs one more = more

no_inputs : (p : Plan) (past : List Pass) (x : Element) → InputTurns p past x → InputsKeepTurns p past (x ∷ [])
no_inputs p past (Fire i t) one = tt
no_inputs p past (Out e v) one = tt
no_inputs p past (In e v) one = (one, tt)

came_first : (p : Plan) (s : Tokens) → IsIdle p s → Came p [] s
came_first p s idle = record { list = []; first = s; idle = idle; runs = refl; inputs = tt; is_past = refl }

came_then : (p : Plan) (past : List Pass) (s : Tokens) (x : Element) (w : Tokens) → Came p past s → Does p x s w → InputTurns p past x → Came p (after p x past) w
came_then p past s x w came does turn =
    record {
      list = came.list ++ x ∷ [];
      first = came.first;
      idle = came.idle;
      runs = runs_then p came.list x came.first s w came.runs does;
      inputs = inputs_then p [] came.list (x ∷ []) came.inputs
          (subst (λ (q : List Pass). InputsKeepTurns p q (x ∷ [])) (sym came.is_past) (no_inputs p past x turn));
      is_past = passed_then p [] came.list x ∙ ap (after p x) came.is_past;
    }

-- one element
pub record Stepped (p : Plan) (past : List Pass) (o : Open) (s : Tokens) (x : Element) (w : Tokens) : Type 0 where
  pub opened : Open
  pub comes : ComesInOrder p x s o opened
  pub welcome : AllWelcome p w
  pub turns : OutputTurns p past x
  pub further : RegularFrom p (after p x past) opened w

pub stepped : (p : Plan) (past : List Pass) (o : Open) (s : Tokens) (x : Element) (w : Tokens) → RegularFrom p past o s → Does p x s w → InputTurns p past x
    → Stepped p past o s x w
stepped p past o s x w regular does turn = of_one (regular.1 (x ∷ []) w (w, does, refl) (no_inputs p past x turn))
  where
    of_more : (m : Open) → ComesInOrder p x s o m → (zs : List Element) → Ordered p (x ∷ zs) o s → Ordered p zs m w
    of_more m comes zs (u, v, (n, z, also, now, welcome, list)) = (
      u,
      v,
      subst (λ (a : Open). OrderlyFrom p zs a w u v) (one_open p x o n m s w does now comes)
          (subst (λ (b : Tokens). OrderlyFrom p zs n b u v) (sym (one_state p x s w z does also)) list),
    )

    of_one : Ordered p (x ∷ []) o s × OutputsKeepTurns p past (x ∷ []) → Stepped p past o s x w
    of_one ((u, v, (m, z, also, now, welcome, list)), outs) =
        record {
          opened = m;
          comes = now;
          welcome = subst (λ (k : Tokens). AllWelcome p k) (sym (one_state p x s w z does also)) welcome;
          turns = out_first p past x [] outs;
          further = (
            came_then p past s x w regular.0 does turn,
            λ zs k runs keeps.
                (let both = regular.1 (x ∷ zs) k (w, does, runs) (with_turn p past x zs turn keeps) in
                (of_more m now zs both.0, out_later p past x zs both.1)),
          );
        }

pub from_idle : (p : Plan) (s : Tokens) → IsRegular p → IsIdle p s → RegularFrom p [] none_open s
from_idle p s regular idle = (came_first p s idle, λ zs w runs keeps. regular s w zs idle runs keeps)
