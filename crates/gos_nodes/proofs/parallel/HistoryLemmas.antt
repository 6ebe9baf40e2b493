-- The list of a regular plan, so far and one piece further.
use Rattle.std.specs.Prelude.{◌≡◌, List, [], ◌∷◌, ◌++◌}
use Rattle.std.proofs.Common.{refl, sym, subst, ◌∙◌}
use Rattle.gos_plan.specs.Plans.{Plan}
use Rattle.gos_plan.specs.Tokens.{Tokens, Element, Fire, Out, In, Runs, IsIdle}
use Rattle.gos_plan.specs.Orderly.{Open, none_open, AllWelcome, OrderlyFrom, IsOrderly}
use Rattle.gos_plan.proofs.DecidedLemmas.{one_state, one_open}
use Rattle.gos_plan.proofs.ElementLemmas.{runs_then}
use Rattle.gos_realises.specs.realises.Regular.{Pass, InputsKeepTurns, OutputsKeepTurns, IsRegular}
use Rattle.gos_realises.proofs.realises.InputLemmas.{passed, inputs_then, outputs_last}
use Rattle.gos_realises.proofs.realises.RingLemmas.{after}
use Rattle.gos_nodes.proofs.windows.TurnLemmas.{Turned}
use Rattle.gos_nodes.proofs.parallel.LinkedLemmas.{past_all}

passed_all : (p : Plan) (past : List Pass) (ys : List Element) → passed p past ys ≡ past_all p ys past
passed_all p past [] = refl
passed_all p past (y ∷ ys) = passed_all p (after p y past) ys

pub passed_append : (p : Plan) (past : List Pass) (ys zs : List Element) → passed p past (ys ++ zs) ≡ past_all p zs (passed p past ys)
passed_append p past [] zs = passed_all p past zs
passed_append p past (y ∷ ys) zs = passed_append p (after p y past) ys zs

turned_along : (p : Plan) (past : List Pass) (ys : List Element) → Turned p past → InputsKeepTurns p past ys → OutputsKeepTurns p past ys → Turned p (past_all p ys past)
turned_along p past [] turned inputs outputs = turned
turned_along p past (Fire i t ∷ ys) turned inputs outputs = turned_along p past ys turned inputs outputs
turned_along p past (Out e v ∷ ys) turned inputs outputs = turned_along p (after p (Out e v) past) ys outputs.0.1 inputs outputs.1
turned_along p past (In e v ∷ ys) turned inputs outputs = turned_along p (after p (In e v) past) ys inputs.0.1 inputs.1 outputs

-- a list leads to one state, and what is open after a part of it is open before the rest
one_end : (p : Plan) (xs : List Element) (o u : Open) (s t w : Tokens) → OrderlyFrom p xs o s u t → Runs p xs s w → t ≡ w
one_end p [] o u s t w (is_u, is_t) run = is_t ∙ sym run
one_end p (x ∷ xs) o u s t w (m, v, does, comes, welcome, rest) (a, doing, more) =
    one_end p xs m u v t w rest (subst (λ (b : Tokens). Runs p xs b w) (one_state p x s a v doing does) more)

rest_order : (p : Plan) (hs ys : List Element) (o u q : Open) (s t w : Tokens) → OrderlyFrom p (hs ++ ys) o s u t → OrderlyFrom p hs o s q w → OrderlyFrom p ys q w u t
rest_order p [] ys o u q s t w whole is =
    subst (λ (a : Tokens). OrderlyFrom p ys q a u t) (sym is.1) (subst (λ (b : Open). OrderlyFrom p ys b s u t) (sym is.0) whole)
rest_order p (x ∷ hs) ys o u q s t w (m, v, does, comes, welcome, rest) (n, a, doing, coming, well, more) =
    let tokens = one_state p x s v a does doing in
    let open_so = one_open p x o m n s v does comes coming in
    rest_order p hs ys n u q a t w (subst (λ (b : Open). OrderlyFrom p (hs ++ ys) b a u t) open_so (subst (λ (b : Tokens). OrderlyFrom p (hs ++ ys) m b u t) tokens rest)) more

-- what a plan has done so far
pub record History (p : Plan) (first s : Tokens) (hs : List Element) (o : Open) : Type 0 where
  pub runs : Runs p hs first s
  pub inputs : InputsKeepTurns p [] hs
  pub turned : Turned p (passed p [] hs)
  pub order : OrderlyFrom p hs none_open first o s
  pub welcome : AllWelcome p s

-- and what it does next
pub record Grown (p : Plan) (first s w : Tokens) (hs ys : List Element) (o : Open) : Type 0 where
  pub runs : Runs p (hs ++ ys) first w
  pub inputs : InputsKeepTurns p [] (hs ++ ys)
  pub turned : Turned p (passed p [] (hs ++ ys))
  pub now : Open
  pub order : OrderlyFrom p (hs ++ ys) none_open first now w
  pub piece : OrderlyFrom p ys o s now w
  pub outputs : OutputsKeepTurns p (passed p [] hs) ys

pub grow : (p : Plan) → IsRegular p → (first s w : Tokens) (hs ys : List Element) (o : Open) → IsIdle p first → History p first s hs o → Runs p ys s w
    → InputsKeepTurns p (passed p [] hs) ys → Grown p first s w hs ys o
grow p regular first s w hs ys o idle history runs inputs =
    record {
      runs = all_runs;
      inputs = all_inputs;
      turned =
          subst (Turned p) (sym (passed_append p [] hs ys)) (turned_along p (passed p [] hs) ys history.turned inputs piece_outputs);
      now = all.0.0;
      order = whole;
      piece = rest_order p hs ys none_open all.0.0 o first w s whole history.order;
      outputs = piece_outputs;
    }
  where
    all_runs : Runs p (hs ++ ys) first w
    all_runs = runs_then p hs ys first s w history.runs runs

    all_inputs : InputsKeepTurns p [] (hs ++ ys)
    all_inputs = inputs_then p [] hs ys history.inputs inputs

    all : IsOrderly p (hs ++ ys) first × OutputsKeepTurns p [] (hs ++ ys)
    all = regular first w (hs ++ ys) idle all_runs all_inputs

    piece_outputs : OutputsKeepTurns p (passed p [] hs) ys
    piece_outputs = outputs_last p [] hs ys all.1

    whole : OrderlyFrom p (hs ++ ys) none_open first all.0.0 w
    whole =
        subst (λ (t : Tokens). OrderlyFrom p (hs ++ ys) none_open first all.0.0 t)
        (one_end p (hs ++ ys) none_open all.0.0 first all.0.1 w all.0.2 all_runs) all.0.2

pub grown : (p : Plan) (first s w : Tokens) (hs ys : List Element) (o now : Open) → (next : Grown p first s w hs ys o) → next.now ≡ now → AllWelcome p w
    → History p first w (hs ++ ys) now
grown p first s w hs ys o now next same welcome =
    record {
      runs = next.runs;
      inputs = next.inputs;
      turned = next.turned;
      order = subst (λ (x : Open). OrderlyFrom p (hs ++ ys) none_open first x w) same next.order;
      welcome = welcome;
    }

-- at first it has done nothing
pub at_first : (p : Plan) (first : Tokens) → Turned p [] → AllWelcome p first → History p first first [] none_open
at_first p first turned welcome =
    record { runs = refl; inputs = tt; turned = turned; order = (refl, refl); welcome = welcome }
