-- At ports that are ground or of arrays inputs that keep the protocol keep turns, and the other way round.
--
-- Along the list what labels leave open is what passed leaves open, and the open handshakes keep turns: after an output since
-- the plan is regular, over the list so far; after an input by what came in.
use Rattle.std.specs.Prelude.{◌≡◌, ◌⊎◌, ℕ, zero, suc, ◌+◌, ◌^◌, ◌<◌, Bool, true, false, ◌&&◌, ◌||◌, IsTrue, IsFalse, List, [], ◌∷◌, ◌++◌, Option, Some, slice_get, nat_eq, if◌then◌else◌}
use Rattle.std.proofs.Common.{refl, sym, ◌∙◌, ap, subst, arith, inl, inr}
use Rattle.std.proofs.lemmas.Option.{none-some, same_Some}
use Rattle.std.proofs.lemmas.Bool.Decides.{nat_tests}
use Rattle.gos_types.specs.declared.shakes.Role.{Role}
use Rattle.gos_types.specs.Types.{Type', Com, Exp, Var, Pair, Fun, IsGround, IsArray, IsDone}
use Rattle.gos_types.specs.Events.{Direction, Request, Answer}
use Rattle.gos_types.proofs.BoolLemmas.{true_is_not_false}
use Rattle.gos_model.specs.Typing.{Imported, Imports, import_type}
use Rattle.gos_model.specs.Labels.{Taken, Label, Port, is_output, is_output_at}
use Rattle.gos_model.specs.Protocol as protocol
use Rattle.gos_model.specs.Protocol.{FitsAnswer, event_of, Allowed}
use Rattle.gos_model.specs.ArrayPorts.{is_asked, AllowedAtArray, KeepsPortsAfter}
use Rattle.gos_model.proofs.ArrayPortLemmas.{ground_ports_keep}
use Rattle.gos_plan.specs.Kinds.{Contact, asks, serves, contacts_of}
use Rattle.gos_plan.specs.Plans.{End, PartEnd, ImportEnd, ResultEnd, Plan, contact_at, contacts_of_import, turned_if, same_end}
use Rattle.gos_plan.specs.Tokens.{Tokens, Element, Fire, Out, In, IsPortEnd, Passes, bits_of, way_put, Does, Runs, IsIdle}
use Rattle.gos_realises.specs.realises.Regular.{Pass, pass, way_in, way_out, is_request, is_open, count, some_open, KeepsTurnsOf, whole_end, ComesInTurn, KeepsTurns, InputsKeepTurns, OutputsKeepTurns, IsRegular}
use Rattle.gos_realises.specs.realises.Matched.{port_if, event_number, outward, inward, label_at, all_shown, RealisesInTurn, RealisesDone}
use Rattle.gos_realises.specs.realises.Realises.{AllGround, AllPorts, NamesDiffer}
use Rattle.gos_realises.specs.realises.Inputs.{ProtocolKeepsTurns, PortsKeepTurns, TurnsKeepPorts, RealisingIsByTurns}
use Rattle.gos_realises.proofs.realises.CountLemmas.{some_shake}
use Rattle.gos_realises.proofs.realises.GroundTurnLemmas.{some_there, there_some, first_open, done_kept, ground_kept}
use Rattle.gos_realises.proofs.realises.EachTurnLemmas.{of_import, of_result, ImportKeeps, EachKeeps, keeps_each, each_keeps}
use Rattle.gos_realises.proofs.realises.InputLemmas.{passed, passed_then, inputs_then, outputs_last, runs_then, in_there, out_there, result_asks, import_serves}
use Rattle.gos_realises.proofs.realises.PlaceLemmas.{ground_import}
use Rattle.gos_realises.proofs.realises.PassLemmas.{open_itself, open_otherwise}
use Rattle.gos_realises.proofs.realises.PortLemmas.{is_index, index_at, asked_at, port_open, array_is, port_at, out_passing, in_passing, PortsAlike, ports_alike_first, ports_alike_after}
use Rattle.gos_realises.proofs.realises.RingLemmas.{after}
use Rattle.gos_realises.proofs.realises.ToldLemmas.{one_name, shake_event, asks_event, there_is}

-- the type of an import that is there, where names differ
pub import_named : (is : Imports) → NamesDiffer is → (i : ℕ) (x : Imported) → slice_get is i ≡ Some x → import_type is x.name ≡ Some x.ty
import_named [] differ i x is = absurd (none-some x is)
import_named (j ∷ js) differ zero x is =
    ap (λ (b : Bool). if b then Some j.ty else import_type js x.name) (one_name (j ∷ js) differ 0 0 j x refl is)
    ∙ ap (λ (y : Imported). Some y.ty) (same_Some j x is)
import_named (j ∷ js) differ (suc i) x is =
    let other : nat_eq 0 (suc i) ≡ false = grind (arith, nat_tests) in
    ap (λ (b : Bool). if b then Some j.ty else import_type js x.name) (one_name (j ∷ js) differ 0 (suc i) j x refl is ∙ other)
    ∙ import_named js differ.1 i x is

-- turns of an array: a read and a write aren't both open, and the index is open only where one of them is
either_way : (b c : Bool) → b || c ≡ true → c || (b || false) ≡ true
either_way true true h = refl
either_way true false h = refl
either_way false true h = refl
either_way false false h = absurd (cc h)

either_back : (b c : Bool) → c || (b || false) ≡ true → b || c ≡ true
either_back true c h = refl
either_back false true h = refl
either_back false false h = absurd (cc h)

array_turns : (a w : ℕ) (f : ℕ → Bool) → IsFalse (f 1 && f 2) → (f 0 ≡ true → IsTrue (f 1 || f 2)) → KeepsTurnsOf (Fun (Exp a) (Var w)) f
array_turns a w f apart leads = (tt, apart, λ busy. either_way (f 1) (f 2) (leads (first_open f busy)))

array_apart : (a w : ℕ) (f : ℕ → Bool) → KeepsTurnsOf (Fun (Exp a) (Var w)) f → IsFalse (f 1 && f 2)
array_apart a w f keeps = keeps.1

array_leads : (a w : ℕ) (f : ℕ → Bool) → KeepsTurnsOf (Fun (Exp a) (Var w)) f → f 0 ≡ true → IsTrue (f 1 || f 2)
array_leads a w f keeps up = either_back (f 1) (f 2) (keeps.2 (there_some 1 f 0 (omega arith) up))

and_false : (b : Bool) → (b && false) ≡ false
and_false true = refl
and_false false = refl

either_open : (a w : ℕ) (f : ℕ → Bool) → IsTrue (f 1 || f 2) → IsTrue (some_open (count (Fun (Exp a) (Var w))) f)
either_open a w f up = by_test (f 1) refl up
  where
    by_test : (b : Bool) → f 1 ≡ b → IsTrue (b || f 2) → IsTrue (some_open (count (Fun (Exp a) (Var w))) f)
    by_test true one h = there_some 3 f 1 (omega arith) one
    by_test false one h = there_some 3 f 2 (omega arith) h

answer_fits : (t : Type') → IsGround t → (h : ℕ) (c : Contact) → slice_get (contacts_of t) h ≡ Some c → (v : ℕ) → v < 2 ^ c.answer_bits
    → FitsAnswer (event_of (Some t) (event_number Answer h)) v
answer_fits Com ground zero c is v small = subst (λ (x : Contact). v < 2 ^ x.answer_bits) (sym (same_Some _ c is)) small
answer_fits Com ground (suc h) c is v small = absurd (none-some c is)
answer_fits (Exp w) ground zero c is v small = subst (λ (x : Contact). v < 2 ^ x.answer_bits) (sym (same_Some _ c is)) small
answer_fits (Exp w) ground (suc h) c is v small = absurd (none-some c is)
answer_fits (Var w) ground zero c is v small = subst (λ (x : Contact). v < 2 ^ x.answer_bits) (sym (same_Some _ c is)) small
answer_fits (Var w) ground (suc zero) c is v small = subst (λ (x : Contact). v < 2 ^ x.answer_bits) (sym (same_Some _ c is)) small
answer_fits (Var w) ground (suc (suc h)) c is v small = absurd (none-some c is)
answer_fits (Pair a b) ground h c is v small = absurd ground
answer_fits (Fun a b) ground h c is v small = absurd ground

-- a request at the result has no number
result_asks_none : (t : Type') → IsDone t → (c : Contact) → turned_if (slice_get (contacts_of t) 0) ≡ Some c → c.ask_bits ≡ 0
result_asks_none Com d c is = sym (ap (λ (k : Contact). k.ask_bits) (same_Some _ c is))
result_asks_none (Exp w) d c is = sym (ap (λ (k : Contact). k.ask_bits) (same_Some _ c is))
result_asks_none (Var w) d c is = absurd d
result_asks_none (Pair a b) d c is = absurd d
result_asks_none (Fun a b) d c is = absurd d

closed_more : (b held : Bool) → (if b then false else held) ≡ true → held ≡ true
closed_more true held h = absurd (cc h)
closed_more false held h = h

module _ (p : Plan) (ports : AllPorts p.imports) (differ : NamesDiffer p.imports) (done : IsDone p.outcome) where
  abbrev Turned : List Pass → Type 0
  Turned past = EachKeeps 0 p.imports p.outcome (is_open past)

  as_turned : (past : List Pass) (x : Pass) → KeepsTurns p past x → Turned (x ∷ past)
  as_turned past x keeps = keeps_each 0 p.imports p.outcome (λ h. is_open (x ∷ past) (whole_end 0 p.imports h)) (is_open (x ∷ past)) (λ h. refl) keeps.1

  as_kept : (past : List Pass) (x : Pass) → ComesInTurn past x.end x.way → Turned (x ∷ past) → KeepsTurns p past x
  as_kept past x comes turned =
      (comes, each_keeps 0 p.imports p.outcome (λ h. is_open (x ∷ past) (whole_end 0 p.imports h)) (is_open (x ∷ past)) (λ h. refl) turned)

  -- of one import
  abbrev Own : ℕ → Imported → List Pass → Type 0
  Own i x past = ImportKeeps (is_open past) i x p.outcome

  own : (past : List Pass) → Turned past → (i : ℕ) (x : Imported) → slice_get p.imports i ≡ Some x → Own i x past
  own past turned i x at = let zeros : 0 + i ≡ i = omega arith in subst (λ (m : ℕ). Own m x past) zeros (turned.0 i x at)

  -- nothing is open at first
  none_turned : Turned []
  none_turned = (λ i x at. (closed x.ty, λ busy. absurd (let (k, low, up) = some_there (count x.ty) (λ h. false) busy in cc up)), done_kept p.outcome done (of_result (is_open [])))
    where
      shut : (n : ℕ) → some_open n (λ h. false) ≡ false
      shut zero = refl
      shut (suc n) = shut n

      closed : (t : Type') → KeepsTurnsOf t (λ h. false)
      closed Com = tt
      closed (Exp w) = tt
      closed (Var w) = refl
      closed (Pair a b) = (closed a, closed b, ap (λ (c : Bool). c && some_open (count b) (λ h. false)) (shut (count a)))
      closed (Fun a b) = (closed a, closed b, λ busy. absurd (let no : false ≡ true = sym (shut (count a)) ∙ busy in cc no))

  -- the result is requested
  result_opens : (past : List Pass) → Turned past → Turned (pass (ResultEnd 0) Request ∷ past)
  result_opens past (each, result) = (
    λ i x at. (
      (each i x at).0,
      λ busy. there_some (count p.outcome) (of_result (is_open (pass (ResultEnd 0) Request ∷ past))) 0 (some_shake p.outcome) refl,
    ),
    done_kept p.outcome done (of_result (is_open (pass (ResultEnd 0) Request ∷ past))),
  )

  -- something passes at import i: the other imports are as they were
  import_changes : (i h : ℕ) (way : Direction) (past : List Pass) (x : Imported) → slice_get p.imports i ≡ Some x → Turned past
      → Own i x (pass (ImportEnd i h) way ∷ past) → Turned (pass (ImportEnd i h) way ∷ past)
  import_changes i h way past x at turned mine = (
    λ j y at_j. (let zeros : j ≡ 0 + j = omega arith in
        subst (λ (m : ℕ). Own m y (pass (ImportEnd i h) way ∷ past)) zeros (by_test j y at_j (nat_eq i j) refl)),
    turned.1,
  )
    where
      by_test : (j : ℕ) (y : Imported) → slice_get p.imports j ≡ Some y → (b : Bool) → nat_eq i j ≡ b → Own j y (pass (ImportEnd i h) way ∷ past)
      by_test j y at_j true test =
          let here : i ≡ j = grind (arith, test) in
          let same : x ≡ y = same_Some x y (sym at ∙ (ap (slice_get p.imports) here ∙ at_j)) in
          subst (λ (m : ℕ). Own m y (pass (ImportEnd i h) way ∷ past)) here (subst (λ (z : Imported). Own i z (pass (ImportEnd i h) way ∷ past)) same mine)
      by_test j y at_j false test =
          let stays : of_import (is_open past) j ≡ of_import (is_open (pass (ImportEnd i h) way ∷ past)) j =
          λ l k. if sym test l && nat_eq h k then is_request way else is_open past (ImportEnd j k)
          in
          subst (λ (f : ℕ → Bool). KeepsTurnsOf y.ty f × (IsTrue (some_open (count y.ty) f) → IsTrue (some_open (count p.outcome) (of_result (is_open past)))))
          stays (own past turned j y at_j)

  -- a handshake of an import closes
  import_closes : (i h : ℕ) (past : List Pass) (x : Imported) → slice_get p.imports i ≡ Some x → Turned past
      → KeepsTurnsOf x.ty (of_import (is_open (pass (ImportEnd i h) Answer ∷ past)) i) → Turned (pass (ImportEnd i h) Answer ∷ past)
  import_closes i h past x at turned keeps =
      import_changes i h Answer past x at turned (
        keeps,
        λ busy. (let (k, low, up) = some_there (count x.ty) (of_import (is_open (pass (ImportEnd i h) Answer ∷ past)) i) busy in
            (own past turned i x at).1
            (there_some (count x.ty) (of_import (is_open past) i) k low (closed_more (same_end (ImportEnd i h) (ImportEnd i k)) (is_open past (ImportEnd i k)) up))),
      )

  ground_closes : (i h : ℕ) (past : List Pass) (x : Imported) → slice_get p.imports i ≡ Some x → IsGround x.ty → Turned past → Turned (pass (ImportEnd i h) Answer ∷ past)
  ground_closes i h past x at ground turned =
      import_closes i h past x at turned
      (ground_kept x.ty ground (of_import (is_open past) i) (of_import (is_open (pass (ImportEnd i h) Answer ∷ past)) i)
      (λ k low up. closed_more (same_end (ImportEnd i h) (ImportEnd i k)) (is_open past (ImportEnd i k)) up) (own past turned i x at).0)

  -- an array
  module _ (i a w : ℕ) (x : Imported) (at : slice_get p.imports i ≡ Some x) (array : x.ty ≡ Fun (Exp a) (Var w)) where
    abbrev IsOpen : List Pass → ℕ → Bool
    IsOpen past = of_import (is_open past) i

    moved : (past : List Pass) (h k : ℕ) (way : Direction) → (ImportEnd i h ≡ ImportEnd i k → ⊥) → IsOpen (pass (ImportEnd i h) way ∷ past) k ≡ IsOpen past k
    moved past h k way apart = open_otherwise (ImportEnd i h) (ImportEnd i k) way past apart

    own_turns : (past : List Pass) → Turned past → KeepsTurnsOf (Fun (Exp a) (Var w)) (IsOpen past)
    own_turns past turned = subst (λ (t : Type'). KeepsTurnsOf t (IsOpen past)) array (own past turned i x at).0

    turns_own : (past : List Pass) → KeepsTurnsOf (Fun (Exp a) (Var w)) (IsOpen past) → KeepsTurnsOf x.ty (IsOpen past)
    turns_own past keeps = subst (λ (t : Type'). KeepsTurnsOf t (IsOpen past)) (sym array) keeps

    -- a read is answered, or a write
    read_closes : (past : List Pass) → Turned past → IsOpen past 0 ≡ false → Turned (pass (ImportEnd i 1) Answer ∷ past)
    read_closes past turned shut =
        let first = moved past 1 0 Answer (λ e. cc e) in
        let here = open_itself (ImportEnd i 1) Answer past in
        import_closes i 1 past x at turned
        (turns_own (pass (ImportEnd i 1) Answer ∷ past)
        (array_turns a w (IsOpen (pass (ImportEnd i 1) Answer ∷ past)) (ap (λ (b : Bool). b && IsOpen (pass (ImportEnd i 1) Answer ∷ past) 2) here)
        (λ up. absurd (true_is_not_false (IsOpen past 0) (sym first ∙ up) shut))))

    write_closes : (past : List Pass) → Turned past → IsOpen past 0 ≡ false → Turned (pass (ImportEnd i 2) Answer ∷ past)
    write_closes past turned shut =
        let first = moved past 2 0 Answer (λ e. cc e) in
        let here = open_itself (ImportEnd i 2) Answer past in
        import_closes i 2 past x at turned
        (turns_own (pass (ImportEnd i 2) Answer ∷ past)
        (array_turns a w (IsOpen (pass (ImportEnd i 2) Answer ∷ past))
        (ap (λ (b : Bool). IsOpen (pass (ImportEnd i 2) Answer ∷ past) 1 && b) here ∙ and_false (IsOpen (pass (ImportEnd i 2) Answer ∷ past) 1))
        (λ up. absurd (true_is_not_false (IsOpen past 0) (sym first ∙ up) shut))))

    -- the index is asked for
    index_opens : (past : List Pass) → Turned past → IsTrue (IsOpen past 1 || IsOpen past 2) → Turned (pass (ImportEnd i 0) Request ∷ past)
    index_opens past turned up =
        let one : IsOpen past 1 ≡ IsOpen (pass (ImportEnd i 0) Request ∷ past) 1 = sym (moved past 0 1 Request (λ e. cc e)) in
        let two : IsOpen past 2 ≡ IsOpen (pass (ImportEnd i 0) Request ∷ past) 2 = sym (moved past 0 2 Request (λ e. cc e)) in
        let was = own_turns past turned in
        let busy : IsTrue (some_open (count x.ty) (IsOpen past)) =
        subst (λ (t : Type'). IsTrue (some_open (count t) (IsOpen past))) (sym array) (either_open a w (IsOpen past) up)
        in
        import_changes i 0 Request past x at turned (
          turns_own (pass (ImportEnd i 0) Request ∷ past)
              (array_turns a w (IsOpen (pass (ImportEnd i 0) Request ∷ past)) (sym (λ l. one l && two l) ∙ array_apart a w (IsOpen past) was)
              (λ opened. sym (λ l. one l || two l) ∙ up)),
          λ more. (own past turned i x at).1 busy,
        )

    -- its ends are there, and what labels say of them
    contact_of : (g : ℕ) → contact_at p (ImportEnd i g) ≡ slice_get (contacts_of (Fun (Exp a) (Var w))) g
    contact_of g = ap (λ (o : Option Imported). slice_get (contacts_of_import o) g) at ∙ ap (λ (t : Type'). slice_get (contacts_of t) g) array

    index_there : contact_at p (ImportEnd i 0) ≡ Some (asks 0 a)
    index_there = contact_of 0

    read_there : contact_at p (ImportEnd i 1) ≡ Some (serves 0 w)
    read_there = contact_of 1

    write_there : contact_at p (ImportEnd i 2) ≡ Some (serves w 0)
    write_there = contact_of 2

    told_asked : (ls : List Label) → port_open p ls (ImportEnd i 0) ≡ is_asked ls x.name
    told_asked ls =
        ap (λ (o : Option Imported). if index_at o 0 then asked_at ls o else protocol.is_open ls (port_if o) 0) at
        ∙ ap (λ (t : Type'). if is_index t 0 then is_asked ls x.name else protocol.is_open ls (Taken x.name) 0) array

    told_later : (ls : List Label) (g : ℕ) → port_open p ls (ImportEnd i (suc g)) ≡ protocol.is_open ls (Taken x.name) (suc g)
    told_later ls g =
        ap (λ (o : Option Imported). if index_at o (suc g) then asked_at ls o else protocol.is_open ls (port_if o) (suc g)) at
        ∙ ap (λ (t : Type'). if is_index t (suc g) then is_asked ls x.name else protocol.is_open ls (Taken x.name) (suc g)) array

    asked_is : (ls : List Label) (past : List Pass) → PortsAlike p ls past → is_asked ls x.name ≡ IsOpen past 0
    asked_is ls past alike = sym (told_asked ls) ∙ alike (ImportEnd i 0) (asks 0 a) index_there tt

    read_is : (ls : List Label) (past : List Pass) → PortsAlike p ls past → protocol.is_open ls (Taken x.name) 1 ≡ IsOpen past 1
    read_is ls past alike = sym (told_later ls 0) ∙ alike (ImportEnd i 1) (serves 0 w) read_there tt

    write_is : (ls : List Label) (past : List Pass) → PortsAlike p ls past → protocol.is_open ls (Taken x.name) 2 ≡ IsOpen past 2
    write_is ls past alike = sym (told_later ls 1) ∙ alike (ImportEnd i 2) (serves w 0) write_there tt

    -- no input of a ground port comes there
    no_answer : (ls : List Label) (n v : ℕ) → Allowed p.imports ls (Taken x.name) n v → ⊥
    no_answer ls n v (fits, asked) =
        subst (λ (o : Option Type'). FitsAnswer (event_of o n) v) (import_named p.imports differ i x at ∙ ap (λ (t : Type'). Some t) array) fits

    -- what the protocol allows comes in turn
    abbrev MayPass : List Pass → ℕ → Direction → Type 0
    MayPass past h way = ComesInTurn past (ImportEnd i h) way × Turned (pass (ImportEnd i h) way ∷ past)

    array_may : (h v : ℕ) (ls : List Label) (past : List Pass) (c : Contact) → contact_at p (ImportEnd i h) ≡ Some c → PortsAlike p ls past → Turned past
        → AllowedAtArray p.imports ls (Taken x.name) (event_number Answer h) v → MayPass past h (way_put c.role)
    array_may zero v ls past c there alike turned (j, u, is, shut, inl (event, none, up)) =
        let role : Request ≡ way_put c.role = ap (λ (k : Contact). way_put k.role) (same_Some (asks 0 a) c (sym index_there ∙ there)) in
        let closed : IsOpen past 0 ≡ false = sym (asked_is ls past alike) ∙ shut in
        let either : IsTrue (IsOpen past 1 || IsOpen past 2) = sym (λ l. read_is ls past alike l || write_is ls past alike l) ∙ up in
        subst (MayPass past 0) role (closed, index_opens past turned either)
    array_may zero v ls past c there alike turned (j, u, is, shut, inr (inl (event, some, up))) = absurd (cc event)
    array_may zero v ls past c there alike turned (j, u, is, shut, inr (inr (event, some, up))) = absurd (cc event)
    array_may (suc zero) v ls past c there alike turned (j, u, is, shut, inl (event, some, up)) = absurd (cc event)
    array_may (suc zero) v ls past c there alike turned (j, u, is, shut, inr (inl (event, small, up))) =
        let role : Answer ≡ way_put c.role = ap (λ (k : Contact). way_put k.role) (same_Some (serves 0 w) c (sym read_there ∙ there)) in
        let closed : IsOpen past 0 ≡ false = sym (asked_is ls past alike) ∙ shut in
        subst (MayPass past 1) role (sym (read_is ls past alike) ∙ up, read_closes past turned closed)
    array_may (suc zero) v ls past c there alike turned (j, u, is, shut, inr (inr (event, some, up))) = absurd (cc event)
    array_may (suc (suc zero)) v ls past c there alike turned (j, u, is, shut, inl (event, some, up)) = absurd (cc event)
    array_may (suc (suc zero)) v ls past c there alike turned (j, u, is, shut, inr (inl (event, some, up))) = absurd (cc event)
    array_may (suc (suc zero)) v ls past c there alike turned (j, u, is, shut, inr (inr (event, none, up))) =
        let role : Answer ≡ way_put c.role = ap (λ (k : Contact). way_put k.role) (same_Some (serves w 0) c (sym write_there ∙ there)) in
        let closed : IsOpen past 0 ≡ false = sym (asked_is ls past alike) ∙ shut in
        subst (MayPass past 2) role (sym (write_is ls past alike) ∙ up, write_closes past turned closed)
    array_may (suc (suc (suc h))) v ls past c there alike turned allowed = absurd (none-some c (sym (contact_of (suc (suc (suc h)))) ∙ there))

    -- and what comes in turn the protocol allows
    named : import_type p.imports x.name ≡ Some (Fun (Exp a) (Var w))
    named = import_named p.imports differ i x at ∙ ap (λ (t : Type'). Some t) array

    -- an answer comes while the index isn't asked for: else the other access would be open as well
    read_shut : (past : List Pass) → Turned past → IsOpen past 1 ≡ true → Turned (pass (ImportEnd i 1) Answer ∷ past) → IsOpen past 0 ≡ false
    read_shut past turned up later = by_test (IsOpen past 0) refl
      where
        by_test : (b : Bool) → IsOpen past 0 ≡ b → IsOpen past 0 ≡ false
        by_test false e = e
        by_test true e =
            let kept = own_turns (pass (ImportEnd i 1) Answer ∷ past) later in
            let leads = array_leads a w (IsOpen (pass (ImportEnd i 1) Answer ∷ past)) kept (moved past 1 0 Answer (λ d. cc d) ∙ e) in
            let other : IsOpen past 2 ≡ true =
            sym (moved past 1 2 Answer (λ d. cc d)) ∙ (sym (ap (λ (b : Bool). b || IsOpen (pass (ImportEnd i 1) Answer ∷ past) 2) (open_itself (ImportEnd i 1) Answer past)) ∙ leads)
            in
            let both : true ≡ false = sym (λ l. up l && other l) ∙ array_apart a w (IsOpen past) (own_turns past turned) in
            absurd (cc both)

    write_shut : (past : List Pass) → Turned past → IsOpen past 2 ≡ true → Turned (pass (ImportEnd i 2) Answer ∷ past) → IsOpen past 0 ≡ false
    write_shut past turned up later = by_test (IsOpen past 0) refl
      where
        or_false : (b : Bool) → (b || false) ≡ b
        or_false true = refl
        or_false false = refl

        by_test : (b : Bool) → IsOpen past 0 ≡ b → IsOpen past 0 ≡ false
        by_test false e = e
        by_test true e =
            let kept = own_turns (pass (ImportEnd i 2) Answer ∷ past) later in
            let leads = array_leads a w (IsOpen (pass (ImportEnd i 2) Answer ∷ past)) kept (moved past 2 0 Answer (λ d. cc d) ∙ e) in
            let other : IsOpen past 1 ≡ true =
            sym (moved past 2 1 Answer (λ d. cc d))
            ∙ (sym (ap (λ (b : Bool). IsOpen (pass (ImportEnd i 2) Answer ∷ past) 1 || b) (open_itself (ImportEnd i 2) Answer past)
            ∙ or_false (IsOpen (pass (ImportEnd i 2) Answer ∷ past) 1)) ∙ leads)
            in
            let both : true ≡ false = sym (λ l. other l && up l) ∙ array_apart a w (IsOpen past) (own_turns past turned) in
            absurd (cc both)

    -- the index is asked for within a read or a write
    index_within : (past : List Pass) → Turned (pass (ImportEnd i 0) Request ∷ past) → IsTrue (IsOpen past 1 || IsOpen past 2)
    index_within past later =
        let kept = own_turns (pass (ImportEnd i 0) Request ∷ past) later in
        let leads = array_leads a w (IsOpen (pass (ImportEnd i 0) Request ∷ past)) kept (open_itself (ImportEnd i 0) Request past) in
        sym (λ l. moved past 0 1 Request (λ d. cc d) l || moved past 0 2 Request (λ d. cc d) l) ∙ leads

    array_permits : (h v : ℕ) (ls : List Label) (past : List Pass) (c : Contact) → contact_at p (ImportEnd i h) ≡ Some c → PortsAlike p ls past → Turned past
        → ComesInTurn past (ImportEnd i h) (way_put c.role) → Turned (pass (ImportEnd i h) (way_put c.role) ∷ past) → v < 2 ^ bits_of c (way_put c.role)
        → AllowedAtArray p.imports ls (Taken x.name) (event_number Answer h) v
    array_permits zero v ls past c there alike turned comes later less =
        let one : c ≡ asks 0 a = same_Some c (asks 0 a) (sym there ∙ index_there) in
        let asked : IsOpen past 0 ≡ false = subst (λ (k : Contact). ComesInTurn past (ImportEnd i 0) (way_put k.role)) one comes in
        let within = index_within past (subst (λ (k : Contact). Turned (pass (ImportEnd i 0) (way_put k.role) ∷ past)) one later) in
        let small : v < 1 = subst (λ (k : Contact). v < 2 ^ bits_of k (way_put k.role)) one less in
        let none : v ≡ 0 = omega (arith, small) in
        (a, w, named, asked_is ls past alike ∙ asked, inl (refl, none, (λ l. read_is ls past alike l || write_is ls past alike l) ∙ within))
    array_permits (suc zero) v ls past c there alike turned comes later less =
        let one : c ≡ serves 0 w = same_Some c (serves 0 w) (sym there ∙ read_there) in
        let up : IsOpen past 1 ≡ true = subst (λ (k : Contact). ComesInTurn past (ImportEnd i 1) (way_put k.role)) one comes in
        let shut = read_shut past turned up (subst (λ (k : Contact). Turned (pass (ImportEnd i 1) (way_put k.role) ∷ past)) one later) in
        let small : v < 2 ^ w = subst (λ (k : Contact). v < 2 ^ bits_of k (way_put k.role)) one less in
        (a, w, named, asked_is ls past alike ∙ shut, inr (inl (refl, small, read_is ls past alike ∙ up)))
    array_permits (suc (suc zero)) v ls past c there alike turned comes later less =
        let one : c ≡ serves w 0 = same_Some c (serves w 0) (sym there ∙ write_there) in
        let up : IsOpen past 2 ≡ true = subst (λ (k : Contact). ComesInTurn past (ImportEnd i 2) (way_put k.role)) one comes in
        let shut = write_shut past turned up (subst (λ (k : Contact). Turned (pass (ImportEnd i 2) (way_put k.role) ∷ past)) one later) in
        let small : v < 1 = subst (λ (k : Contact). v < 2 ^ bits_of k (way_put k.role)) one less in
        let none : v ≡ 0 = omega (arith, small) in
        (a, w, named, asked_is ls past alike ∙ shut, inr (inr (refl, none, write_is ls past alike ∙ up)))
    array_permits (suc (suc (suc h))) v ls past c there alike turned comes later less =
        absurd (none-some c (sym (contact_of (suc (suc (suc h)))) ∙ there))

  -- a ground import
  ground_index : (t : Type') → IsGround t → (h : ℕ) → is_index t h ≡ false
  ground_index Com g h = refl
  ground_index (Exp w) g h = refl
  ground_index (Var w) g h = refl
  ground_index (Pair a b) g h = absurd g
  ground_index (Fun a b) g h = absurd g

  told_ground : (i h : ℕ) (x : Imported) → slice_get p.imports i ≡ Some x → IsGround x.ty → (ls : List Label)
      → port_open p ls (ImportEnd i h) ≡ protocol.is_open ls (Taken x.name) h
  told_ground i h x at ground ls =
      ap (λ (o : Option Imported). if index_at o h then asked_at ls o else protocol.is_open ls (port_if o) h) at
      ∙ ap (λ (b : Bool). if b then is_asked ls x.name else protocol.is_open ls (Taken x.name) h) (ground_index x.ty ground h)

  no_access : (i : ℕ) (x : Imported) → slice_get p.imports i ≡ Some x → IsGround x.ty → (ls : List Label) (n v : ℕ)
      → AllowedAtArray p.imports ls (Taken x.name) n v → ⊥
  no_access i x at ground ls n v (j, u, is, shut, rest) =
      let same : x.ty ≡ Fun (Exp j) (Var u) = same_Some x.ty (Fun (Exp j) (Var u)) (sym (import_named p.imports differ i x at) ∙ is) in
      subst IsGround same ground

  abbrev MayCome : List Pass → End → Direction → Type 0
  MayCome past e way = ComesInTurn past e way × Turned (pass e way ∷ past)

  role_of : (i h : ℕ) (x : Imported) → slice_get p.imports i ≡ Some x → IsGround x.ty → (c : Contact) → contact_at p (ImportEnd i h) ≡ Some c → Answer ≡ way_put c.role
  role_of i h x at ground c there =
      ap way_put (import_serves x.ty ground h c (sym (ap (λ (o : Option Imported). slice_get (contacts_of_import o) h) at) ∙ there))

  ground_may : (i h v : ℕ) (x : Imported) → slice_get p.imports i ≡ Some x → IsGround x.ty → (ls : List Label) (past : List Pass) (c : Contact)
      → contact_at p (ImportEnd i h) ≡ Some c → PortsAlike p ls past → Turned past
      → Allowed p.imports ls (Taken x.name) (event_number Answer h) v → MayCome past (ImportEnd i h) (way_put c.role)
  ground_may i h v x at ground ls past c there alike turned (fits, asked) =
      let told : protocol.is_open ls (Taken x.name) h ≡ true = sym (ap (λ (n : ℕ). protocol.is_open ls (Taken x.name) n) (shake_event Answer h)) ∙ asked in
      let opened : is_open past (ImportEnd i h) ≡ true = sym (alike (ImportEnd i h) c there tt) ∙ (told_ground i h x at ground ls ∙ told) in
      subst (MayCome past (ImportEnd i h)) (role_of i h x at ground c there) (opened, ground_closes i h past x at ground turned)

  -- what the protocol permits at a port
  abbrev Permits : List Label → Label → Type 0
  Permits ls l =
      IsFalse (is_output l) → Allowed p.imports ls l.port l.event l.value ⊎ AllowedAtArray p.imports ls l.port l.event l.value

  abbrev MayBe : List Label → Port → ℕ → ℕ → Type 0
  MayBe ls q n v = Allowed p.imports ls q n v ⊎ AllowedAtArray p.imports ls q n v

  import_may : (i h v : ℕ) (ls : List Label) (past : List Pass) (c : Contact) → contact_at p (ImportEnd i h) ≡ Some c → PortsAlike p ls past → Turned past
      → Permits ls (label_at p (ImportEnd i h) Answer v) → MayCome past (ImportEnd i h) (way_put c.role)
  import_may i h v ls past c there alike turned permits =
      let (x, at) = there_is p.imports i h c there in
      let port = ap port_if at in
      let input : IsFalse (is_output_at (port_if (slice_get p.imports i)) (event_number Answer h)) =
      ap (λ q. is_output_at q (event_number Answer h)) port ∙ asks_event Answer h
      in
      by_type x at (port_at p.imports ports i x at) (subst (λ (q : Port). MayBe ls q (event_number Answer h) v) port (permits input))
    where
      of_array : (x : Imported) → slice_get p.imports i ≡ Some x → (a w : ℕ) → x.ty ≡ Fun (Exp a) (Var w) → MayBe ls (Taken x.name) (event_number Answer h) v
          → MayCome past (ImportEnd i h) (way_put c.role)
      of_array x at a w array (inl allowed) = absurd (no_answer i a w x at array ls (event_number Answer h) v allowed)
      of_array x at a w array (inr allowed) = array_may i a w x at array h v ls past c there alike turned allowed

      by_type : (x : Imported) → slice_get p.imports i ≡ Some x → IsGround x.ty ⊎ IsArray x.ty → MayBe ls (Taken x.name) (event_number Answer h) v
          → MayCome past (ImportEnd i h) (way_put c.role)
      by_type x at (inl ground) (inl allowed) = ground_may i h v x at ground ls past c there alike turned allowed
      by_type x at (inl ground) (inr allowed) = absurd (no_access i x at ground ls (event_number Answer h) v allowed)
      by_type x at (inr array) may = let (a, w, is) = array_is x.ty array in of_array x at a w is may

  result_may : (v : ℕ) (ls : List Label) (past : List Pass) (c : Contact) → contact_at p (ResultEnd 0) ≡ Some c → PortsAlike p ls past → Turned past
      → Permits ls (label_at p (ResultEnd 0) Request v) → MayCome past (ResultEnd 0) Request
  result_may v ls past c there alike turned permits = by_may (permits refl)
    where
      by_may : MayBe ls (label_at p (ResultEnd 0) Request v).port 0 v → MayCome past (ResultEnd 0) Request
      by_may (inl (event, value, shut)) = (sym (alike (ResultEnd 0) c there tt) ∙ shut, result_opens past turned)
      by_may (inr none) = absurd none

  input_may : (e : End) (v : ℕ) (ls : List Label) (past : List Pass) (c : Contact) → contact_at p e ≡ Some c → IsPortEnd e → PortsAlike p ls past → Turned past
      → Permits ls (label_at p e (inward e) v) → MayCome past e (way_put c.role)
  input_may (PartEnd i h) v ls past c there port alike turned permits = absurd port
  input_may (ImportEnd i h) v ls past c there port alike turned permits = import_may i h v ls past c there alike turned permits
  input_may (ResultEnd h) v ls past c there port alike turned permits =
      let (none, role) = result_asks p.outcome done h c there in
      subst (λ (k : ℕ). MayCome past (ResultEnd k) (way_put c.role)) (sym none)
      (subst (λ (r : Role). MayCome past (ResultEnd 0) (way_put r)) role
      (result_may v ls past c (ap (λ (k : ℕ). contact_at p (ResultEnd k)) (sym none) ∙ there) alike turned
      (subst (λ (k : ℕ). Permits ls (label_at p (ResultEnd k) Request v)) none permits)))

  -- and what comes in turn it permits
  ground_permits : (i h v : ℕ) (x : Imported) → slice_get p.imports i ≡ Some x → IsGround x.ty → (ls : List Label) (past : List Pass) (c : Contact)
      → contact_at p (ImportEnd i h) ≡ Some c → PortsAlike p ls past → ComesInTurn past (ImportEnd i h) (way_put c.role) → v < 2 ^ bits_of c (way_put c.role)
      → Allowed p.imports ls (Taken x.name) (event_number Answer h) v
  ground_permits i h v x at ground ls past c there alike comes less =
      let role = role_of i h x at ground c there in
      let small : v < 2 ^ c.answer_bits = subst (λ (way : Direction). v < 2 ^ bits_of c way) (sym role) less in
      let up : is_open past (ImportEnd i h) ≡ true = subst (ComesInTurn past (ImportEnd i h)) (sym role) comes in (
        subst (λ (o : Option Type'). FitsAnswer (event_of o (event_number Answer h)) v) (sym (import_named p.imports differ i x at))
            (answer_fits x.ty ground h c (sym (ap (λ (o : Option Imported). slice_get (contacts_of_import o) h) at) ∙ there) v small),
        ap (λ (n : ℕ). protocol.is_open ls (Taken x.name) n) (shake_event Answer h)
            ∙ (sym (told_ground i h x at ground ls) ∙ (alike (ImportEnd i h) c there tt ∙ up)),
      )

  import_permits : (i h v : ℕ) (ls : List Label) (past : List Pass) (c : Contact) → contact_at p (ImportEnd i h) ≡ Some c → PortsAlike p ls past → Turned past
      → ComesInTurn past (ImportEnd i h) (way_put c.role) → Turned (pass (ImportEnd i h) (way_put c.role) ∷ past) → v < 2 ^ bits_of c (way_put c.role)
      → MayBe ls (label_at p (ImportEnd i h) Answer v).port (event_number Answer h) v
  import_permits i h v ls past c there alike turned comes later less =
      let (x, at) = there_is p.imports i h c there in
      subst (λ (q : Port). MayBe ls q (event_number Answer h) v) (sym (ap port_if at)) (by_type x at (port_at p.imports ports i x at))
    where
      by_type : (x : Imported) → slice_get p.imports i ≡ Some x → IsGround x.ty ⊎ IsArray x.ty → MayBe ls (Taken x.name) (event_number Answer h) v
      by_type x at (inl ground) = inl (ground_permits i h v x at ground ls past c there alike comes less)
      by_type x at (inr array) =
          let (a, w, is) = array_is x.ty array in inr (array_permits i a w x at is h v ls past c there alike turned comes later less)

  result_permits : (v : ℕ) (ls : List Label) (past : List Pass) (c : Contact) → contact_at p (ResultEnd 0) ≡ Some c → PortsAlike p ls past
      → ComesInTurn past (ResultEnd 0) Request → v < 2 ^ bits_of c Request → MayBe ls (label_at p (ResultEnd 0) Request v).port 0 v
  result_permits v ls past c there alike comes less =
      let small : v < 1 = subst (λ (n : ℕ). v < 2 ^ n) (result_asks_none p.outcome done c there) less in
      let none : v ≡ 0 = omega (arith, small) in inl (refl, none, alike (ResultEnd 0) c there tt ∙ comes)

  input_permits : (e : End) (v : ℕ) (ls : List Label) (past : List Pass) (c : Contact) → contact_at p e ≡ Some c → IsPortEnd e → PortsAlike p ls past → Turned past
      → ComesInTurn past e (way_put c.role) → Turned (pass e (way_put c.role) ∷ past) → v < 2 ^ bits_of c (way_put c.role)
      → MayBe ls (label_at p e (inward e) v).port (label_at p e (inward e) v).event (label_at p e (inward e) v).value
  input_permits (PartEnd i h) v ls past c there port alike turned comes later less = absurd port
  input_permits (ImportEnd i h) v ls past c there port alike turned comes later less = import_permits i h v ls past c there alike turned comes later less
  input_permits (ResultEnd h) v ls past c there port alike turned comes later less =
      let (none, role) = result_asks p.outcome done h c there in
      subst (λ (k : ℕ). MayBe ls (label_at p (ResultEnd k) Request v).port (label_at p (ResultEnd k) Request v).event v) (sym none)
      (result_permits v ls past c (ap (λ (k : ℕ). contact_at p (ResultEnd k)) (sym none) ∙ there) alike
      (subst (λ (r : Role). ComesInTurn past (ResultEnd 0) (way_put r)) (sym role) (subst (λ (k : ℕ). ComesInTurn past (ResultEnd k) (way_put c.role)) none comes))
      (subst (λ (r : Role). v < 2 ^ bits_of c (way_put r)) (sym role) less))

  -- an output is shown as an output
  import_shows : (i h v : ℕ) (c : Contact) → contact_at p (ImportEnd i h) ≡ Some c → is_output (label_at p (ImportEnd i h) Request v) ≡ true
  import_shows i h v c there =
      let (x, at) = there_is p.imports i h c there in
      ap (λ q. is_output_at q (event_number Request h)) (ap port_if at) ∙ asks_event Request h

  output_shows : (e : End) (v : ℕ) (c : Contact) → contact_at p e ≡ Some c → IsPortEnd e → is_output (label_at p e (outward e) v) ≡ true
  output_shows (PartEnd i h) v c there port = absurd port
  output_shows (ImportEnd i h) v c there port = import_shows i h v c there
  output_shows (ResultEnd h) v c there port =
      let (none, role) = result_asks p.outcome done h c there in subst (λ (k : ℕ). is_output (label_at p (ResultEnd k) Answer v) ≡ true) (sym none) refl

  alike_out : (e : End) (v : ℕ) (ls : List Label) (past : List Pass) (c : Contact) → contact_at p e ≡ Some c → IsPortEnd e → PortsAlike p ls past
      → PortsAlike p (label_at p e (outward e) v ∷ ls) (pass e (way_out (contact_at p e)) ∷ past)
  alike_out e v ls past c there port alike =
      subst (λ (way : Direction). PortsAlike p (label_at p e (outward e) v ∷ ls) (pass e way ∷ past)) (sym (out_passing p ports done e c there port))
      (ports_alike_after p differ e (outward e) v ls past c there port alike)

  alike_in : (e : End) (v : ℕ) (ls : List Label) (past : List Pass) (c : Contact) → contact_at p e ≡ Some c → IsPortEnd e → PortsAlike p ls past
      → PortsAlike p (label_at p e (inward e) v ∷ ls) (pass e (way_in (contact_at p e)) ∷ past)
  alike_in e v ls past c there port alike =
      subst (λ (way : Direction). PortsAlike p (label_at p e (inward e) v ∷ ls) (pass e way ∷ past)) (sym (in_passing p ports done e c there port))
      (ports_alike_after p differ e (inward e) v ls past c there port alike)

  -- along a list
  module _ (regular : IsRegular p) (first : Tokens) (idle : IsIdle p first) where
    -- the output that a list ends with keeps turns
    output_turns : (ys : List Element) (e : End) (v : ℕ) (u w : Tokens) (past : List Pass) → passed p [] ys ≡ past → Runs p ys first u
        → InputsKeepTurns p [] ys → Does p (Out e v) u w → Turned (pass e (way_out (contact_at p e)) ∷ past)
    output_turns ys e v u w past at ran kept does =
        let ran_on = runs_then p ys (Out e v) first u w ran does in
        let kept_on = inputs_then p [] ys (Out e v ∷ []) kept tt in
        let last =
        subst (λ (q : List Pass). OutputsKeepTurns p q (Out e v ∷ [])) at (outputs_last p [] ys (Out e v ∷ []) (regular first w (ys ++ Out e v ∷ []) idle ran_on kept_on).1) in
        as_turned past (pass e (way_out (contact_at p e))) last.0

    to_turns : (xs ys : List Element) (u t : Tokens) (ls : List Label) (past : List Pass) → passed p [] ys ≡ past → Runs p ys first u
        → InputsKeepTurns p [] ys → PortsAlike p ls past → Turned past → Runs p xs u t → KeepsPortsAfter p.imports ls (all_shown p xs) → InputsKeepTurns p past xs
    to_turns [] ys u t ls past at ran kept alike turned runs keeps = tt
    to_turns (Fire i k ∷ xs) ys u t ls past at ran kept alike turned (w, does, runs) keeps =
        to_turns xs (ys ++ Fire i k ∷ []) w t ls past (passed_then p [] ys (Fire i k) ∙ at) (runs_then p ys (Fire i k) first u w ran does)
        (inputs_then p [] ys (Fire i k ∷ []) kept tt) alike turned runs keeps
    to_turns (Out e v ∷ xs) ys u t ls past at ran kept alike turned (w, does, runs) keeps =
        let (c, there) = out_there p e v u w does in
        to_turns xs (ys ++ Out e v ∷ []) w t (label_at p e (outward e) v ∷ ls) (pass e (way_out (contact_at p e)) ∷ past)
        (passed_then p [] ys (Out e v) ∙ ap (after p (Out e v)) at) (runs_then p ys (Out e v) first u w ran does)
        (inputs_then p [] ys (Out e v ∷ []) kept tt) (alike_out e v ls past c there does.0 alike) (output_turns ys e v u w past at ran kept does) runs keeps.1
    to_turns (In e v ∷ xs) ys u t ls past at ran kept alike turned (w, does, runs) keeps =
        let (c, there) = in_there p e v u w does in
        let may = subst (λ (o : Option Contact). MayCome past e (way_in o)) (sym there) (input_may e v ls past c there does.0 alike turned keeps.0) in
        let turn = as_kept past (pass e (way_in (contact_at p e))) may.0 may.1 in
        let kept_on = inputs_then p [] ys (In e v ∷ []) kept (subst (λ (q : List Pass). InputsKeepTurns p q (In e v ∷ [])) (sym at) (turn, tt)) in (
          turn,
          to_turns xs (ys ++ In e v ∷ []) w t (label_at p e (inward e) v ∷ ls) (pass e (way_in (contact_at p e)) ∷ past)
              (passed_then p [] ys (In e v) ∙ ap (after p (In e v)) at) (runs_then p ys (In e v) first u w ran does) kept_on
              (alike_in e v ls past c there does.0 alike) may.1 runs keeps.1,
        )

    to_labels : (xs ys : List Element) (u t : Tokens) (ls : List Label) (past : List Pass) → passed p [] ys ≡ past → Runs p ys first u
        → InputsKeepTurns p [] ys → PortsAlike p ls past → Turned past → Runs p xs u t → InputsKeepTurns p past xs → KeepsPortsAfter p.imports ls (all_shown p xs)
    to_labels [] ys u t ls past at ran kept alike turned runs turns = tt
    to_labels (Fire i k ∷ xs) ys u t ls past at ran kept alike turned (w, does, runs) turns =
        to_labels xs (ys ++ Fire i k ∷ []) w t ls past (passed_then p [] ys (Fire i k) ∙ at) (runs_then p ys (Fire i k) first u w ran does)
        (inputs_then p [] ys (Fire i k ∷ []) kept tt) alike turned runs turns
    to_labels (Out e v ∷ xs) ys u t ls past at ran kept alike turned (w, does, runs) turns =
        let (c, there) = out_there p e v u w does in (
          λ no. absurd (true_is_not_false (is_output (label_at p e (outward e) v)) (output_shows e v c there does.0) no),
          to_labels xs (ys ++ Out e v ∷ []) w t (label_at p e (outward e) v ∷ ls) (pass e (way_out (contact_at p e)) ∷ past)
              (passed_then p [] ys (Out e v) ∙ ap (after p (Out e v)) at) (runs_then p ys (Out e v) first u w ran does)
              (inputs_then p [] ys (Out e v ∷ []) kept tt) (alike_out e v ls past c there does.0 alike) (output_turns ys e v u w past at ran kept does) runs turns,
        )
    to_labels (In e v ∷ xs) ys u t ls past at ran kept alike turned (w, does, runs) turns =
        let (c, there) = in_there p e v u w does in
        let way : way_in (contact_at p e) ≡ way_put c.role = ap way_in there in
        let later = as_turned past (pass e (way_in (contact_at p e))) turns.0 in
        let less = (subst (λ (o : Option Contact). Passes p (In e v) o u w) there does.1).0 in
        let kept_on = inputs_then p [] ys (In e v ∷ []) kept (subst (λ (q : List Pass). InputsKeepTurns p q (In e v ∷ [])) (sym at) (turns.0, tt)) in (
          λ input. input_permits e v ls past c there does.0 alike turned (subst (ComesInTurn past e) way turns.0.0)
              (subst (λ (d : Direction). Turned (pass e d ∷ past)) way later) less,
          to_labels xs (ys ++ In e v ∷ []) w t (label_at p e (inward e) v ∷ ls) (pass e (way_in (contact_at p e)) ∷ past)
              (passed_then p [] ys (In e v) ∙ ap (after p (In e v)) at) (runs_then p ys (In e v) first u w ran does) kept_on
              (alike_in e v ls past c there does.0 alike) later runs turns.1,
        )

pub turns_keep_ports : TurnsKeepPorts
turns_keep_ports p xs s t regular ports differ done idle runs turns =
    to_labels p ports differ done regular s idle xs [] s t [] [] refl refl tt (ports_alike_first p) (none_turned p ports differ done) runs turns

pub ports_keep_turns : PortsKeepTurns
ports_keep_turns p xs s t regular ports differ done idle runs keeps =
    to_turns p ports differ done regular s idle xs [] s t [] [] refl refl tt (ports_alike_first p) (none_turned p ports differ done) runs keeps

-- inputs that keep the protocol keep that of ports
pub protocol_keeps_turns : ProtocolKeepsTurns
protocol_keeps_turns p xs s t regular ports differ done idle runs keeps =
    ports_keep_turns p xs s t regular ports differ done idle runs ((ground_ports_keep p.imports (all_shown p xs)).0 keeps)

pub realising_is_by_turns : RealisingIsByTurns
realising_is_by_turns p m regular ports differ done = (by_turns, by_labels)
  where
    by_turns : AllGround p.imports → RealisesDone p m → RealisesInTurn p m
    by_turns ground realises s t xs idle runs turns =
        let keeps = turns_keep_ports p xs s t regular ports differ done idle runs turns in
        realises s t xs idle runs ((ground_ports_keep p.imports (all_shown p xs)).1 (ground_import p.imports ground) keeps)

    by_labels : RealisesInTurn p m → RealisesDone p m
    by_labels realises s t xs idle runs keeps = realises s t xs idle runs (protocol_keeps_turns p xs s t regular ports differ done idle runs keeps)
