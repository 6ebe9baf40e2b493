-- What a regular plan has done so far, and what it may do next: it stays in order, and its outputs keep turns.
use Rattle.std.specs.Prelude.{ℕ, ◌<◌, ◌^◌, List, [], ◌∷◌, ◌++◌, Option, Some, None}
use Rattle.std.proofs.Common.{◌≡◌, refl, sym, ◌∙◌, ap, subst}
use Rattle.gos_types.specs.Events.{Direction}
use Rattle.gos_types.proofs.ListLemmas.{some_is_not_none}
use Rattle.gos_plan.specs.Kinds.{Contact}
use Rattle.gos_plan.specs.Plans.{End, Plan, contact_at}
use Rattle.gos_plan.specs.Tokens.{Tokens, Element, Out, In, IsPortEnd, end_of, way_of, bits_of, way_taken, way_put, token_at, with_token, Passes, Does, Runs, IsIdle}
use Rattle.gos_plan.specs.Orderly.{Open, none_open, after_taken, after_put, ComesWell, ComesInOrder, AllWelcome, OrderlyFrom}
use Rattle.gos_plan.proofs.ElementLemmas.{orderly_then}
use Rattle.gos_realises.specs.realises.Regular.{Pass, pass, way_in, way_out, KeepsTurns, InputsKeepTurns, OutputsKeepTurns, IsRegular}
use Rattle.gos_realises.proofs.realises.InputLemmas.{passed, passed_then, inputs_then, outputs_last, last_order, runs_then}
use Rattle.gos_realises.proofs.realises.RingLemmas.{after}
use Rattle.gos_supplies.proofs.turns.StandLemmas.{lies_in}

-- A list so far, from an idle state, whose inputs keep turns: what it leaves open, what passed, and the tokens.
pub record Reached (p : Plan) (o : Open) (past : List Pass) (s : Tokens) : Type 0 where
  pub list : List Element
  pub first : Tokens
  pub idle : IsIdle p first
  pub runs : Runs p list first s
  pub inputs : InputsKeepTurns p [] list
  pub orderly : OrderlyFrom p list none_open first o s
  pub is_past : passed p [] list ≡ past
  pub welcome : AllWelcome p s

pub at_first : (p : Plan) (s : Tokens) → IsIdle p s → Reached p none_open [] s
at_first p s idle =
    record {
      list = [];
      first = s;
      idle = idle;
      runs = refl;
      inputs = tt;
      orderly = (refl, refl);
      is_past = refl;
      welcome = λ i t c v there way lies.
          (let (a, named, is) = lies_in p (end_of i t) (way_of t) v s lies in absurd (some_is_not_none v (s.in_place (way_of t) a) is (idle.0 (way_of t) a)));
    }

-- one more element
pub record Next (p : Plan) (x : Element) (o : Open) (past : List Pass) (s t : Tokens) : Type 0 where
  pub open_then : Open
  pub comes : ComesInOrder p x s o open_then
  pub welcome : AllWelcome p t
  pub outputs : OutputsKeepTurns p past (x ∷ [])
  pub reached : Reached p open_then (after p x past) t

pub next : (p : Plan) (x : Element) (o : Open) (past : List Pass) (s t : Tokens) → IsRegular p → Reached p o past s → Does p x s t
    → InputsKeepTurns p past (x ∷ []) → Next p x o past s t
next p x o past s t regular so does keeps =
    let runs = runs_then p so.list x so.first s t so.runs does in
    let inputs = inputs_then p [] so.list (x ∷ []) so.inputs (subst (λ (b : List Pass). InputsKeepTurns p b (x ∷ [])) (sym so.is_past) keeps) in
    let ((u, w, list), outputs) = regular so.first t (so.list ++ x ∷ []) so.idle runs inputs in
    let (m, comes, welcome) = last_order p so.list x none_open u o so.first w s t list so.orderly does in
    record {
      open_then = m;
      comes = comes;
      welcome = welcome;
      outputs = subst (λ (b : List Pass). OutputsKeepTurns p b (x ∷ [])) so.is_past (outputs_last p [] so.list (x ∷ []) outputs);
      reached =
          record {
            list = so.list ++ x ∷ [];
            first = so.first;
            idle = so.idle;
            runs = runs;
            inputs = inputs;
            orderly = orderly_then p so.list (x ∷ []) none_open o m so.first s t so.orderly (m, t, does, comes, welcome, (refl, refl));
            is_past = passed_then p [] so.list x ∙ ap (after p x) so.is_past;
            welcome = welcome;
          };
    }

-- an output, and an input
pub out_next : (p : Plan) (e : End) (c : Contact) (v : ℕ) (o : Open) (past : List Pass) (s : Tokens) (way : Direction) → IsRegular p → Reached p o past s → IsPortEnd e
    → contact_at p e ≡ Some c → way_taken c.role ≡ way → token_at p s e way ≡ Some v
    → KeepsTurns p past (pass e way) × Reached p (after_taken p e way o) (pass e way ∷ past) (with_token p e way None s)
out_next p e c v o past s way regular so port there is lies =
    let does : Does p (Out e v) s (with_token p e way None s) = (
      port,
      subst (λ (f : Option Contact). Passes p (Out e v) f s (with_token p e way None s)) (sym there)
          (subst (λ (u : Direction). (token_at p s e u ≡ Some v) × (with_token p e way None s ≡ with_token p e u None s)) (sym is) (lies, refl)),
    )
    in
    let n = next p (Out e v) o past s (with_token p e way None s) regular so does tt in
    let passes : way_out (contact_at p e) ≡ way = ap way_out there ∙ is in (
      subst (λ (u : Direction). KeepsTurns p past (pass e u)) passes n.outputs.0,
      subst (λ (q : Open). Reached p q (pass e way ∷ past) (with_token p e way None s)) (n.comes c there ∙ ap (λ (u : Direction). after_taken p e u o) is)
          (subst (λ (u : Direction). Reached p n.open_then (pass e u ∷ past) (with_token p e way None s)) passes n.reached),
    )

pub in_next : (p : Plan) (e : End) (c : Contact) (v : ℕ) (o : Open) (past : List Pass) (s : Tokens) (way : Direction) → IsRegular p → Reached p o past s → IsPortEnd e
    → contact_at p e ≡ Some c → way_put c.role ≡ way → v < 2 ^ bits_of c way → KeepsTurns p past (pass e way)
    → ComesWell p e way o s × Reached p (after_put p e way o) (pass e way ∷ past) (with_token p e way (Some v) s)
in_next p e c v o past s way regular so port there is small keeps =
    let does : Does p (In e v) s (with_token p e way (Some v) s) = (
      port,
      subst (λ (f : Option Contact). Passes p (In e v) f s (with_token p e way (Some v) s)) (sym there)
          (subst (λ (u : Direction). (v < 2 ^ bits_of c u) × (with_token p e way (Some v) s ≡ with_token p e u (Some v) s)) (sym is) (small, refl)),
    )
    in
    let passes : way_in (contact_at p e) ≡ way = ap way_in there ∙ is in
    let n = next p (In e v) o past s (with_token p e way (Some v) s) regular so does (subst (λ (u : Direction). KeepsTurns p past (pass e u)) (sym passes) keeps, tt) in
    let comes = n.comes c there in (
      subst (λ (u : Direction). ComesWell p e u o s) is comes.0,
      subst (λ (q : Open). Reached p q (pass e way ∷ past) (with_token p e way (Some v) s)) (comes.1 ∙ ap (λ (u : Direction). after_put p e u o) is)
          (subst (λ (u : Direction). Reached p n.open_then (pass e u ∷ past) (with_token p e way (Some v) s)) passes n.reached),
    )
