-- Inputs that come in turn, each at its own handshake, keep the protocol, where the imports are ground and have different names: what
-- labels leave open is what passed leaves open. So do inputs that keep turns.
use Rattle.std.specs.Prelude.{◌^◌, ◌<◌, nat_eq, slice_get}
use Rattle.std.proofs.Common.{◌≡◌, ℕ, zero, suc, Bool, true, false, List, [], ◌∷◌, Option, Some, inl, inr, refl, sym, ◌∙◌, ap, subst, arith, if◌then◌else◌}
use Rattle.std.proofs.lemmas.Option.{none-some, same_Some}
use Rattle.std.proofs.lemmas.Bool.Decides.{nat_tests}
use Rattle.gos_types.specs.Types.{Type', Com, Exp, Var, Pair, Fun, IsGround, IsDone}
use Rattle.gos_types.specs.Events.{Direction, Request, Answer}
use Rattle.gos_types.proofs.BoolLemmas.{true_is_not_false}
use Rattle.gos_model.specs.Typing.{Imported, Imports, import_type}
use Rattle.gos_model.specs.Labels.{Taken, Label, is_output, is_output_at}
use Rattle.gos_model.specs.Protocol as protocol
use Rattle.gos_model.specs.Protocol.{event_of, FitsAnswer, Allowed, KeepsAfter, KeepsProtocol}
use Rattle.gos_plan.specs.Kinds.{Contact, contacts_of}
use Rattle.gos_plan.specs.Plans.{End, ImportEnd, ResultEnd, Plan, contact_at, contacts_of_import}
use Rattle.gos_plan.specs.Tokens.{Tokens, Element, Fire, Out, In, IsPortEnd, Passes, way_taken, way_put, bits_of, Runs}
use Rattle.gos_realises.specs.realises.Regular.{Pass, pass, way_in, way_out, ComesInTurn, InputsKeepTurns}
use Rattle.gos_realises.specs.realises.Matched.{port_if, event_number, outward, inward, label_at, all_shown}
use Rattle.gos_realises.specs.realises.Realises.{AllGround, NamesDiffer}
use Rattle.gos_realises.proofs.realises.InputLemmas.{in_there, out_there, one_ground, outward_way, inward_way, OpenAlike, alike_first, alike_out, alike_in}
use Rattle.gos_realises.proofs.realises.ToldLemmas.{one_name, shake_event, asks_event, there_is}
use Rattle.gos_nodes.specs.windows.Keeping.{TurnsKeepProtocol}
use Rattle.gos_nodes.proofs.windows.PortLemmas.{port_role}
use Rattle.gos_nodes.proofs.windows.WholeLemmas.{no_bits, zero_only}

-- each input comes in turn at its own handshake
abbrev pub InTurn : Plan → List Pass → List Element → Type 0
InTurn p past [] = Unit {0}
InTurn p past (Fire i t ∷ xs) = InTurn p past xs
InTurn p past (Out e v ∷ xs) = InTurn p (pass e (way_out (contact_at p e)) ∷ past) xs
InTurn p past (In e v ∷ xs) =
    ComesInTurn past e (way_in (contact_at p e)) × InTurn p (pass e (way_in (contact_at p e)) ∷ past) xs

pub turns_in_turn : (p : Plan) (past : List Pass) (xs : List Element) → InputsKeepTurns p past xs → InTurn p past xs
turns_in_turn p past [] keeps = tt
turns_in_turn p past (Fire i t ∷ xs) keeps = turns_in_turn p past xs keeps
turns_in_turn p past (Out e v ∷ xs) keeps = turns_in_turn p (pass e (way_out (contact_at p e)) ∷ past) xs keeps
turns_in_turn p past (In e v ∷ xs) keeps = (keeps.0.0, turns_in_turn p (pass e (way_in (contact_at p e)) ∷ past) xs keeps.1)

import_named : (is : Imports) → NamesDiffer is → (i : ℕ) (x : Imported) → slice_get is i ≡ Some x → import_type is x.name ≡ Some x.ty
import_named [] differ i x is = absurd (none-some x is)
import_named (j ∷ js) differ zero x is =
    ap (λ (b : Bool). if b then Some j.ty else import_type js x.name) (one_name (j ∷ js) differ 0 0 j x refl is)
    ∙ ap (λ (y : Imported). Some y.ty) (same_Some j x is)
import_named (j ∷ js) differ (suc i) x is =
    let other : nat_eq 0 (suc i) ≡ false = grind (arith, nat_tests) in
    ap (λ (b : Bool). if b then Some j.ty else import_type js x.name) (one_name (j ∷ js) differ 0 (suc i) j x refl is ∙ other)
    ∙ import_named js differ.1 i x is

answer_fits : (t : Type') → IsGround t → (h : ℕ) (c : Contact) → slice_get (contacts_of t) h ≡ Some c → (v : ℕ) → v < 2 ^ c.answer_bits
    → FitsAnswer (event_of (Some t) (event_number Answer h)) v
answer_fits Com ground zero c is v small = subst (λ (x : Contact). v < 2 ^ x.answer_bits) (sym (same_Some _ c is)) small
answer_fits Com ground (suc h) c is v small = absurd (none-some c is)
answer_fits (Exp w) ground zero c is v small = subst (λ (x : Contact). v < 2 ^ x.answer_bits) (sym (same_Some _ c is)) small
answer_fits (Exp w) ground (suc h) c is v small = absurd (none-some c is)
answer_fits (Var w) ground zero c is v small = subst (λ (x : Contact). v < 2 ^ x.answer_bits) (sym (same_Some _ c is)) small
answer_fits (Var w) ground (suc zero) c is v small = subst (λ (x : Contact). v < 2 ^ x.answer_bits) (sym (same_Some _ c is)) small
answer_fits (Var w) ground (suc (suc h)) c is v small = absurd (none-some c is)
answer_fits (Pair a b) ground h c is v small = absurd ground
answer_fits (Fun a b) ground h c is v small = absurd ground

module _ (p : Plan) (ground : AllGround p.imports) (differ : NamesDiffer p.imports) (done : IsDone p.outcome) where
  -- an output shows an output
  shows_output : (e : End) (v : ℕ) (c : Contact) → IsPortEnd e → contact_at p e ≡ Some c → is_output (label_at p e (way_taken c.role) v) ≡ true
  shows_output e v c port there =
      elim (port_role p ground done e c port there) [
        | inl result ↦
            (λ l. is_output (label_at p (result.0 l) (way_taken (result.1 l)) v))
            ∙ refl
        | inr import ↦
            (let (x, is) = there_is p.imports import.0 import.1 c (ap (contact_at p) (sym import.2) ∙ there) in
            (λ l. is_output (label_at p (import.2 l) (way_taken (import.3 l)) v))
            ∙ (ap (λ q. is_output_at q (event_number Request import.1)) (ap port_if is) ∙ asks_event Request import.1))
      ]

  -- an input is allowed
  abbrev Permitted : List Label → End → ℕ → Direction → Type 0
  Permitted ls e v way = Allowed p.imports ls (label_at p e way v).port (label_at p e way v).event (label_at p e way v).value

  at_result : (v : ℕ) (ls : List Label) (past : List Pass) (c : Contact) → contact_at p (ResultEnd 0) ≡ Some c → OpenAlike p ls past → ComesInTurn past (ResultEnd 0) Request
      → v < 2 ^ bits_of c Request → Permitted ls (ResultEnd 0) v Request
  at_result v ls past c there agree comes small =
      (refl, zero_only v (subst (λ (n : ℕ). v < 2 ^ n) (no_bits p.outcome done c there) small), agree (ResultEnd 0) c there tt ∙ comes)

  at_import : (i h v : ℕ) (ls : List Label) (past : List Pass) (c : Contact) → contact_at p (ImportEnd i h) ≡ Some c → OpenAlike p ls past → ComesInTurn past (ImportEnd i h) Answer
      → v < 2 ^ bits_of c Answer → Permitted ls (ImportEnd i h) v Answer
  at_import i h v ls past c there agree comes small =
      subst (λ q. Allowed p.imports ls q (event_number Answer h) v) (sym (ap port_if x.1)) (
        subst (λ (o : Option Type'). FitsAnswer (event_of o (event_number Answer h)) v) (sym (import_named p.imports differ i x.0 x.1))
            (answer_fits x.0.ty (one_ground p.imports ground i x.0 x.1) h c
            (sym (ap (λ (o : Option Imported). slice_get (contacts_of_import o) h) x.1) ∙ there) v small),
        ap (λ n. protocol.is_open ls (Taken x.0.name) n) (shake_event Answer h)
            ∙ (sym (ap (λ q. protocol.is_open ls q h) (ap port_if x.1)) ∙ (agree (ImportEnd i h) c there tt ∙ comes)),
      )
    where
      x : (x : Imported) × (slice_get p.imports i ≡ Some x)
      x = there_is p.imports i h c there

  input_allowed : (e : End) (v : ℕ) (ls : List Label) (past : List Pass) (c : Contact) → contact_at p e ≡ Some c → IsPortEnd e → OpenAlike p ls past
      → ComesInTurn past e (way_put c.role) → v < 2 ^ bits_of c (way_put c.role) → Permitted ls e v (way_put c.role)
  input_allowed e v ls past c there port agree comes small =
      elim (port_role p ground done e c port there) [
        | inl result ↦
            of_result (sym result.0) (ap way_put (sym result.1))
        | inr import ↦
            of_import import.0 import.1 (sym import.2) (ap way_put (sym import.3))
      ]
    where
      of_result : ResultEnd 0 ≡ e → Request ≡ way_put c.role → Permitted ls e v (way_put c.role)
      of_result is way =
          let at = ap (contact_at p) is ∙ there in
          let turn : ComesInTurn past (ResultEnd 0) Request = subst (λ (x : End). ComesInTurn past x Request) (sym is) (subst (ComesInTurn past e) (sym way) comes) in
          let less = subst (λ (w : Direction). v < 2 ^ bits_of c w) (sym way) small in
          subst (λ (w : Direction). Permitted ls e v w) way (subst (λ (x : End). Permitted ls x v Request) is (at_result v ls past c at agree turn less))

      of_import : (i h : ℕ) → ImportEnd i h ≡ e → Answer ≡ way_put c.role → Permitted ls e v (way_put c.role)
      of_import i h is way =
          let at = ap (contact_at p) is ∙ there in
          let turn : ComesInTurn past (ImportEnd i h) Answer = subst (λ (x : End). ComesInTurn past x Answer) (sym is) (subst (ComesInTurn past e) (sym way) comes) in
          let less = subst (λ (w : Direction). v < 2 ^ bits_of c w) (sym way) small in
          subst (λ (w : Direction). Permitted ls e v w) way (subst (λ (x : End). Permitted ls x v Answer) is (at_import i h v ls past c at agree turn less))

  keeps : (xs : List Element) (u t : Tokens) (ls : List Label) (past : List Pass) → OpenAlike p ls past → Runs p xs u t → InTurn p past xs
      → KeepsAfter p.imports ls (all_shown p xs)
  keeps [] u t ls past agree runs turns = tt
  keeps (Fire i slot ∷ xs) u t ls past agree (w, does, runs) turns = keeps xs w t ls past agree runs turns
  keeps (Out e v ∷ xs) u t ls past agree (w, does, runs) turns =
      let (c, there) = out_there p e v u w does in
      let way = sym (outward_way p ground done e c there does.0) ∙ ap way_out there in
      let shown : is_output (label_at p e (outward e) v) ≡ true = ap (λ (d : Direction). is_output (label_at p e d v)) way ∙ shows_output e v c does.0 there in (
        (λ no. absurd (true_is_not_false (is_output (label_at p e (outward e) v)) shown no)),
        keeps xs w t (label_at p e (outward e) v ∷ ls) (pass e (way_out (contact_at p e)) ∷ past)
            (alike_out p differ ground done e v ls past c there does.0 agree) runs turns,
      )
  keeps (In e v ∷ xs) u t ls past agree (w, does, runs) turns =
      let (c, there) = in_there p e v u w does in
      let way = ap way_in there in
      let passes = subst (λ (o : Option Contact). Passes p (In e v) o u w) there does.1 in
      let allowed = input_allowed e v ls past c there does.0 agree (subst (ComesInTurn past e) way turns.0) passes.0 in (
        (λ input. subst (λ (d : Direction). Permitted ls e v d) (sym way ∙ inward_way p ground done e c there does.0) allowed),
        keeps xs w t (label_at p e (inward e) v ∷ ls) (pass e (way_in (contact_at p e)) ∷ past)
            (alike_in p differ ground done e v ls past c there does.0 agree) runs turns.1,
      )

  pub in_turn_keeps : (xs : List Element) (s t : Tokens) → Runs p xs s t → InTurn p [] xs → KeepsProtocol p.imports (all_shown p xs)
  in_turn_keeps xs s t runs turn = keeps xs s t [] [] (alike_first p) runs turn

pub turns_keep_protocol : TurnsKeepProtocol
turns_keep_protocol p xs s t ground differ done runs turns = in_turn_keeps p ground differ done xs s t runs (turns_in_turn p [] xs turns)
