-- Silence at the ports of a plan's netlist: clean inputs are silent at the ends where they go in, and outputs that are
-- silent at their ends are silent.
use Rattle.std.proofs.Common.{◌≡◌, ℕ, zero, suc, ◌+◌, ◌<◌, true, false, List, [], ◌∷◌, Some, slice_get, refl, sym, ◌∙◌, ap, subst, arith, true≢false}
use Rattle.std.specs.Prelude.{Option}
use Rattle.gos_types.specs.Types.{Type', Com, Exp, Var, Pair, Fun, IsGround, IsDone}
use Rattle.gos_types.specs.Widths.{HasWidths}
use Rattle.gos_types.specs.Events.{events}
use Rattle.gos_netlist.specs.Settling.{Numbers, at, Settling}
use Rattle.gos_model.specs.Labels.{Given, Taken}
use Rattle.gos_model.specs.Typing.{Imported}
use Rattle.gos_pace.specs.Silence.{IsSilentFrom, AreSilent}
use Rattle.gos_plan.specs.Kinds.{Contact, contacts_of, turned_contact}
use Rattle.gos_plan.specs.Plans.{End, PartEnd, ImportEnd, ResultEnd, Plan, contact_at, contacts_of_import, turned_if}
use Rattle.gos_plan.specs.Tokens.{IsPortEnd}
use Rattle.gos_expand.specs.Blocks.{Nets, nets_on, total}
use Rattle.gos_expand.specs.Starts.{Laying, port_start, bits_taken, shake_size}
use Rattle.gos_expand.specs.Laid.{leaves, request_nets, answer_nets, circuit_cells, taken, circuit}
use Rattle.gos_expand.specs.Facts.{bits_put, bits_in_at, bits_out_at}
use Rattle.gos_expand.proofs.FlowLemmas.{IsSound}
use Rattle.gos_expand.proofs.RegisterLemmas.{shows, turned_back, PortCells, shown_inputs}
use Rattle.gos_expand.proofs.OnceLemmas.{import_there}
use Rattle.gos_expand.proofs.OutlineLemmas.{result_bits, import_bits}
use Rattle.gos_expand.proofs.WiringLemmas.{port_cells_at}
use Rattle.gos_expand.proofs.SilenceLemmas.{IsSilent}

-- Inputs.

-- an answer at an import has no number without its pulse
answer_silent : (name : List ℕ) (s h : ℕ) (t : Type') (c : Contact) (ins : Numbers) → IsGround t → HasWidths t
    → IsSilentFrom false (Taken name) 0 (events t) (nets_on s (total shake_size 0 (contacts_of t))) ins → slice_get (contacts_of t) h ≡ Some c → 0 < c.answer_bits
    → IsSilent ins (answer_nets s (contacts_of t) h)
answer_silent name s zero Com c ins ground widths silent is some none = absurd (grind (arith, is, some))
answer_silent name s (suc h) Com c ins ground widths silent is some none = absurd (grind (arith, is))
answer_silent name s h (Exp zero) c ins ground widths silent is some none = absurd (let wide = widths.0 in omega (arith, wide))
answer_silent name s zero (Exp (suc w)) c ins ground widths silent is some none =
    let first : s + 0 + 1 ≡ s + 1 = omega arith in
    let here : at ins (s + 1) ≡ 0 = sym (ap (at ins) first) ∙ none in
    ap (λ (m : ℕ). at ins (m + 1)) first ∙ silent.0 refl here
answer_silent name s (suc h) (Exp (suc w)) c ins ground widths silent is some none = absurd (grind (arith, is))
answer_silent name s h (Var zero) c ins ground widths silent is some none = absurd (let wide = widths.0 in omega (arith, wide))
answer_silent name s zero (Var (suc w)) c ins ground widths silent is some none =
    let first : s + 0 + 1 ≡ s + 1 = omega arith in
    let here : at ins (s + 1) ≡ 0 = sym (ap (at ins) first) ∙ none in
    ap (λ (m : ℕ). at ins (m + 1)) first ∙ silent.0 refl here
answer_silent name s (suc zero) (Var (suc w)) c ins ground widths silent is some none = absurd (grind (arith, is, some))
answer_silent name s (suc (suc h)) (Var (suc w)) c ins ground widths silent is some none = absurd (grind (arith, is))
answer_silent name s h (Pair a b) c ins ground widths silent is some none = absurd ground
answer_silent name s h (Fun a b) c ins ground widths silent is some none = absurd ground

import_silent : (p : Plan) (n : ℕ) (is : List Imported) (ins : Numbers) (m j : ℕ) (t : Imported) → AreSilent false (taken p (suc n) is) ins → j ≡ n + m → slice_get is m ≡ Some t
    → IsSilentFrom false (Taken t.name) 0 (events t.ty) (nets_on (port_start p (suc j)) (total shake_size 0 (contacts_of t.ty))) ins
import_silent p n [] ins m j t silent e there = absurd (grind (arith, there))
import_silent p n (x ∷ is) ins zero j t silent e there =
    let same : x ≡ t = cc there in
    let here : n ≡ j = omega (arith, e) in
    subst (λ (y : Imported). IsSilentFrom false (Taken y.name) 0 (events y.ty) (nets_on (port_start p (suc j)) (total shake_size 0 (contacts_of y.ty))) ins) same
    (subst (λ (k : ℕ). IsSilentFrom false (Taken x.name) 0 (events x.ty) (nets_on (port_start p (suc k)) (total shake_size 0 (contacts_of x.ty))) ins) here silent.0)
import_silent p n (x ∷ is) ins (suc m) j t silent e there = import_silent p (suc n) is ins m j t silent.1 (omega (arith, e)) there

-- a request of the result has no number at all
no_number : (t : Type') (h : ℕ) (c : Contact) → IsDone t → slice_get (contacts_of t) h ≡ Some c → c.ask_bits ≡ 0
no_number Com zero c done is = grind (arith, is)
no_number Com (suc h) c done is = absurd (grind (arith, is))
no_number (Exp w) zero c done is = grind (arith, is)
no_number (Exp w) (suc h) c done is = absurd (grind (arith, is))
no_number (Var w) h c done is = absurd done
no_number (Pair a b) h c done is = absurd done
no_number (Fun a b) h c done is = absurd done

input_silent : (lay : Laying) (p : Plan) (root : List ℕ) (ins : Numbers) (e : End) (c : Contact) → IsSound lay p → AreSilent false (circuit lay p root).ports ins
    → IsPortEnd e → contact_at p e ≡ Some c → 0 < bits_put (Some c) → IsSilent ins (leaves lay p e)
input_silent lay p root ins (PartEnd i h) c sound silent port there some = absurd port
input_silent lay p root ins (ResultEnd h) c sound silent port there some =
    let back = turned_back (slice_get (contacts_of p.outcome) h) c there in
    let bits = (result_bits lay p sound h back.0 back.1).1 in
    let zero_bits = no_number p.outcome h back.0 sound.done back.1 in
    let same : bits_in_at p (ResultEnd h) ≡ bits_put (Some c) = ap bits_put there in
    absurd (omega (arith, bits, zero_bits, same, some))
input_silent lay p root ins (ImportEnd i h) c sound silent port there some =
    let of_import = import_there p i h c there in
    let t : Imported = of_import.0 in
    let bits = (import_bits lay p sound i h t c of_import.1 of_import.2).1 in
    let same : bits_in_at p (ImportEnd i h) ≡ bits_put (Some c) = ap bits_put there in
    let wide : 0 < c.answer_bits = omega (arith, bits, same, some) in
    let nets : leaves lay p (ImportEnd i h) ≡ answer_nets (port_start p (suc i)) (contacts_of t.ty) h =
    ap (λ (f : Option Imported). answer_nets (port_start p (suc i)) (contacts_of_import f) h) of_import.1 in
    let here = import_silent p 0 p.imports ins i i t silent.1 (omega arith) of_import.1 in
    subst (IsSilent ins) (sym nets)
    (answer_silent t.name (port_start p (suc i)) h t.ty c ins (sound.grounds i t of_import.1) (sound.ground_widths i t of_import.1) here of_import.2 wide)

-- so what goes into the circuit there is silent
pub given_silent : (lay : Laying) (p : Plan) (root : List ℕ) (v regs ins : Numbers) → IsSound lay p → Settling (circuit_cells lay p) regs ins v
    → AreSilent false (circuit lay p root).ports ins
    → (e : End) (c : Contact) → IsPortEnd e → contact_at p e ≡ Some c → 0 < bits_put (Some c) → IsSilent v (leaves lay p e)
given_silent lay p root v regs ins sound settles silent e c port there some none =
    let cells : PortCells lay p e c = port_cells_at lay p sound e c port there in
    let w : ℕ = bits_put (Some c) in
    let shown = subst (λ (n : Nets). (at v n.pulse ≡ at ins n.pulse) × (0 < w → at v n.number ≡ at ins n.number)) (sym cells.leaves_is)
    (shown_inputs (circuit_cells lay p) v regs ins w cells.in_from settles cells.in_stands) in
    shown.1 some ∙ input_silent lay p root ins e c sound silent port there some (sym shown.0 ∙ none)

-- Outputs.

-- the answers of the given port
answers_silent : (s : ℕ) (t : Type') (v : Numbers) → IsDone t → HasWidths t
    → ((h : ℕ) (c : Contact) → slice_get (contacts_of t) h ≡ Some c → 0 < c.answer_bits → IsSilent v (answer_nets s (contacts_of t) h))
    → IsSilentFrom true Given 0 (events t) (nets_on s (total shake_size 0 (contacts_of t))) v
answers_silent s Com v done widths each = tt
answers_silent s (Exp zero) v done widths each = absurd (let wide = widths.0 in omega (arith, wide))
answers_silent s (Exp (suc w)) v done widths each =
    let first : s + 0 + 1 ≡ s + 1 = omega arith in
    (λ out none. sym (ap (λ (m : ℕ). at v (m + 1)) first) ∙ each 0 _ refl (omega arith) (ap (at v) first ∙ none), tt)
answers_silent s (Var w) v done widths each = absurd done
answers_silent s (Pair a b) v done widths each = absurd done
answers_silent s (Fun a b) v done widths each = absurd done

-- the requests of another port: of them those of writes have a number
requests_silent : (name : List ℕ) (s : ℕ) (t : Type') (v : Numbers) → IsGround t → HasWidths t
    → ((h : ℕ) (c : Contact) → slice_get (contacts_of t) h ≡ Some c → 0 < c.ask_bits → IsSilent v (request_nets s (contacts_of t) h))
    → IsSilentFrom true (Taken name) 0 (events t) (nets_on s (total shake_size 0 (contacts_of t))) v
requests_silent name s Com v ground widths each = tt
requests_silent name s (Exp zero) v ground widths each = absurd (let wide = widths.0 in omega (arith, wide))
requests_silent name s (Exp (suc w)) v ground widths each = (λ out none. absurd (true≢false (sym out)), tt)
requests_silent name s (Var zero) v ground widths each = absurd (let wide = widths.0 in omega (arith, wide))
requests_silent name s (Var (suc w)) v ground widths each =
    let third : s + 3 ≡ s + 1 + 1 + 1 = omega arith in (
      λ out none. absurd (true≢false (sym out)),
      (λ out none. sym (ap (λ (m : ℕ). at v (m + 1)) third) ∙ each 1 _ refl (omega arith) (ap (at v) third ∙ none), tt),
    )
requests_silent name s (Pair a b) v ground widths each = absurd ground
requests_silent name s (Fun a b) v ground widths each = absurd ground

taken_silent : (p : Plan) (n : ℕ) (is : List Imported) (v : Numbers)
    → ((m j : ℕ) (t : Imported) → j ≡ n + m → slice_get is m ≡ Some t
    → IsSilentFrom true (Taken t.name) 0 (events t.ty) (nets_on (port_start p (suc j)) (total shake_size 0 (contacts_of t.ty))) v)
    → AreSilent true (taken p (suc n) is) v
taken_silent p n [] v each = tt
taken_silent p n (t ∷ is) v each =
    (each 0 n t (omega arith) refl, taken_silent p (suc n) is v (λ m j x e there. each (suc m) j x (omega (arith, e)) there))

-- outputs are silent where they are at their ends
pub ports_silent : (lay : Laying) (p : Plan) (root : List ℕ) (v : Numbers) → IsSound lay p
    → ((e : End) (c : Contact) → IsPortEnd e → contact_at p e ≡ Some c → 0 < bits_taken (Some c) → IsSilent v (shows p e))
    → AreSilent true (circuit lay p root).ports v
ports_silent lay p root v sound each =
    (answers_silent (port_start p 0) p.outcome v sound.done sound.done_widths of_result, taken_silent p 0 p.imports v of_import)
  where
    of_result : (h : ℕ) (c : Contact) → slice_get (contacts_of p.outcome) h ≡ Some c → 0 < c.answer_bits
        → IsSilent v (answer_nets (port_start p 0) (contacts_of p.outcome) h)
    of_result h c is some =
        let there : contact_at p (ResultEnd h) ≡ Some (turned_contact c) = ap turned_if is in
        let bits = (result_bits lay p sound h c is).0 in
        let same : bits_out_at p (ResultEnd h) ≡ bits_taken (Some (turned_contact c)) = ap bits_taken there in
        each (ResultEnd h) (turned_contact c) tt there (omega (arith, bits, same, some))

    of_request : (i h : ℕ) (t : Imported) (c : Contact) → slice_get p.imports i ≡ Some t → slice_get (contacts_of t.ty) h ≡ Some c → 0 < c.ask_bits
        → IsSilent v (request_nets (port_start p (suc i)) (contacts_of t.ty) h)
    of_request i h t c here is some =
        let there : contact_at p (ImportEnd i h) ≡ Some c = subst (λ (f : Option Imported). slice_get (contacts_of_import f) h ≡ Some c) (sym here) is in
        let bits = (import_bits lay p sound i h t c here is).0 in
        let same : bits_out_at p (ImportEnd i h) ≡ bits_taken (Some c) = ap bits_taken there in
        let nets : shows p (ImportEnd i h) ≡ request_nets (port_start p (suc i)) (contacts_of t.ty) h =
        ap (λ (f : Option Imported). request_nets (port_start p (suc i)) (contacts_of_import f) h) here in
        subst (IsSilent v) nets (each (ImportEnd i h) c tt there (omega (arith, bits, same, some)))

    of_import : (m j : ℕ) (t : Imported) → j ≡ 0 + m → slice_get p.imports m ≡ Some t
        → IsSilentFrom true (Taken t.name) 0 (events t.ty) (nets_on (port_start p (suc j)) (total shake_size 0 (contacts_of t.ty))) v
    of_import m j t e there =
        let same : m ≡ j = omega (arith, e) in
        let here : slice_get p.imports j ≡ Some t = subst (λ (k : ℕ). slice_get p.imports k ≡ Some t) same there in
        requests_silent t.name (port_start p (suc j)) t.ty v (sound.grounds j t here) (sound.ground_widths j t here) (λ h c is some. of_request j h t c here is some)
