-- The outputs and the inputs of a plan's netlist, as elements at the ends of its ports.
use Rattle.std.specs.Prelude.{Option}
use Rattle.std.proofs.Common.{◌≡◌, ℕ, zero, suc, ◌+◌, ◌*◌, ◌≤◌, Bool, true, false, not, List, [], ◌∷◌, ◌++◌, map, filter, Some, slice_get, refl, sym, ◌∙◌, ap, subst, arith, nat_eq, if◌then◌else◌}
use Rattle.std.proofs.lemmas.List.{map-append}
use Rattle.std.proofs.lemmas.List.Elements.{filter-append}
use Rattle.gos_types.specs.declared.shakes.Role.TheVariants.{Serve}
use Rattle.gos_netlist.specs.Nets.{Give, Take}
use Rattle.gos_netlist.specs.Settling.{Numbers, at}
use Rattle.gos_model.specs.Labels.{Given, Taken, Label, is_answer, is_output}
use Rattle.gos_pace.specs.Flattening.{port_pulses, pulses, outputs, inputs}
use Rattle.gos_model.specs.Protocol.{shake_of}
use Rattle.gos_plan.specs.Kinds.{Contact, contacts_of}
use Rattle.gos_model.specs.Typing.{Imported}
use Rattle.gos_plan.specs.Plans.{End, ImportEnd, ResultEnd, Plan, contact_at, contacts_of_import, turned_if, same_end}
use Rattle.gos_plan.specs.Tokens.{Element, Out, In}
use Rattle.gos_plan.specs.Accounts.{outs_at, ins_at}
use Rattle.gos_pace.specs.Cycles.{end_of_label, out_of, in_of, outs_of, ins_of}
use Rattle.gos_pace.specs.AnyOrder.{NonePasses, EndsDiffer}
use Rattle.gos_plan.proofs.JointLemmas.{same_is, same_itself}
use Rattle.gos_expand.specs.Blocks.{Nets}
use Rattle.gos_expand.specs.Starts.{Laying, ports_of, taken_ports, port_start, ends_at, port_ends, bits_taken}
use Rattle.gos_expand.specs.Laid.{leaves, request_nets, answer_nets, laid_port, taken, circuit}
use Rattle.gos_expand.specs.Acceptance.{AreDifferent}
use Rattle.gos_expand.specs.Facts.{bits_put, bits_out_at, bits_in_at, elements, occurs}
use Rattle.gos_expand.proofs.FlowLemmas.{IsSound, ground_serves, done_ground}
use Rattle.gos_expand.proofs.PulseLemmas.{pulse_of, count_of, elements-append, shown_alone}
use Rattle.gos_expand.proofs.RegisterLemmas.{shows}
use Rattle.gos_expand.proofs.LabelLemmas.{answers, requests}
use Rattle.gos_expand.proofs.OnceLemmas.{each_once, all_listed, number_is}

-- ports one after another
two_lists : (sort : Label → Bool) (f : Label → Element) (make : End → ℕ → Element) (v : Numbers) (bits : End → ℕ) (nets : End → Nets) (xs ys : List Label) (ds es : List End)
    → map f (filter sort xs) ≡ elements make v bits nets ds → map f (filter sort ys) ≡ elements make v bits nets es
    → map f (filter sort (xs ++ ys)) ≡ elements make v bits nets (ds ++ es)
two_lists sort f make v bits nets xs ys ds es one two =
    ap (map f) (filter-append sort xs ys)
    ∙ (map-append f (filter sort xs) (filter sort ys) ∙ ((λ i. one i ++ two i) ∙ sym (elements-append make v bits nets ds es)))

taken_list : (p : Plan) (sort : Label → Bool) (f : Label → Element) (make : End → ℕ → Element) (v : Numbers) (bits : End → ℕ) (nets : End → Nets) (n : ℕ) (is : List Imported)
    → ((m j : ℕ) (t : Imported) → j ≡ n + m → slice_get is m ≡ Some t
    → map f (filter sort (port_pulses v (laid_port p (suc j) t.name Take t.ty))) ≡ elements make v bits nets (ends_at (ImportEnd j) 0 (contacts_of t.ty)))
    → map f (filter sort (pulses (taken p (suc n) is) v)) ≡ elements make v bits nets (port_ends (taken_ports n is))
taken_list p sort f make v bits nets n [] each = refl
taken_list p sort f make v bits nets n (t ∷ is) each =
    two_lists sort f make v bits nets (port_pulses v (laid_port p (suc n) t.name Take t.ty)) (pulses (taken p (suc (suc n)) is) v)
    (ends_at (ImportEnd n) 0 (contacts_of t.ty)) (port_ends (taken_ports (suc n) is)) (each 0 n t (omega arith) refl)
    (taken_list p sort f make v bits nets (suc n) is (λ m j x e there. each (suc m) j x (omega (arith, e)) there))

all_list : (lay : Laying) (p : Plan) (root : List ℕ) (sort : Label → Bool) (f : Label → Element) (make : End → ℕ → Element) (v : Numbers) (bits : End → ℕ) (nets : End → Nets)
    → map f (filter sort (port_pulses v (laid_port p 0 root Give p.outcome))) ≡ elements make v bits nets (ends_at ResultEnd 0 (contacts_of p.outcome))
    → ((m j : ℕ) (t : Imported) → j ≡ 0 + m → slice_get p.imports m ≡ Some t
    → map f (filter sort (port_pulses v (laid_port p (suc j) t.name Take t.ty))) ≡ elements make v bits nets (ends_at (ImportEnd j) 0 (contacts_of t.ty)))
    → map f (filter sort (pulses (circuit lay p root).ports v)) ≡ elements make v bits nets (port_ends (ports_of p))
all_list lay p root sort f make v bits nets result each =
    two_lists sort f make v bits nets (port_pulses v (laid_port p 0 root Give p.outcome)) (pulses (taken p 1 p.imports) v)
    (ends_at ResultEnd 0 (contacts_of p.outcome)) (port_ends (taken_ports 0 p.imports)) result (taken_list p sort f make v bits nets 0 p.imports each)

not_not : (b : Bool) → not (not b) ≡ b
not_not true = refl
not_not false = refl

-- bits and nets at the ends of ports
pub result_bits : (lay : Laying) → (p : Plan) → IsSound lay p → (h : ℕ) (c : Contact) → slice_get (contacts_of p.outcome) h ≡ Some c
    → (bits_out_at p (ResultEnd h) ≡ c.answer_bits) × (bits_in_at p (ResultEnd h) ≡ c.ask_bits)
result_bits lay p sound h c is =
    let role : c.role ≡ Serve = ground_serves p.outcome h c (done_ground p.outcome sound.done) is in (
      ap (λ (f : Option Contact). bits_taken (turned_if f)) is ∙ rw role refl,
      ap (λ (f : Option Contact). bits_put (turned_if f)) is ∙ rw role refl,
    )

pub import_bits : (lay : Laying) → (p : Plan) → IsSound lay p → (i h : ℕ) (t : Imported) (c : Contact) → slice_get p.imports i ≡ Some t → slice_get (contacts_of t.ty) h ≡ Some c
    → (bits_out_at p (ImportEnd i h) ≡ c.ask_bits) × (bits_in_at p (ImportEnd i h) ≡ c.answer_bits)
import_bits lay p sound i h t c there is =
    let role : c.role ≡ Serve = ground_serves t.ty h c (sound.grounds i t there) is in
    let contact : contact_at p (ImportEnd i h) ≡ Some c = subst (λ (f : Option Imported). slice_get (contacts_of_import f) h ≡ Some c) (sym there) is in
    (ap bits_taken contact ∙ rw role refl, ap bits_put contact ∙ rw role refl)

at_place : (p : Plan) (m j : ℕ) (t : Imported) → j ≡ 0 + m → slice_get p.imports m ≡ Some t → slice_get p.imports j ≡ Some t
at_place p m j t e there = let same : m ≡ j = omega (arith, e) in subst (λ (x : ℕ). slice_get p.imports x ≡ Some t) same there

pub outs_are : (lay : Laying) (p : Plan) (root : List ℕ) (v : Numbers) → IsSound lay p → AreDifferent (root ∷ map (λ (x : Imported). x.name) p.imports)
    → outs_of p (outputs (circuit lay p root) v) ≡ elements Out v (bits_out_at p) (shows p) (port_ends (ports_of p))
outs_are lay p root v sound differ =
    all_list lay p root is_output (out_of p) Out v (bits_out_at p) (shows p)
    (answers is_output (out_of p) Out Given ResultEnd v (bits_out_at p) (shows p) (port_start p 0) p.outcome
    (record { kept = λ m x. refl; made = λ m x. refl }) (done_ground p.outcome sound.done) sound.done_widths (λ h c is. ((result_bits lay p sound h c is).0, refl)))
    (λ m j t e there.
    let here = at_place p m j t e there in
    requests is_output (out_of p) Out (Taken t.name) (ImportEnd j) v (bits_out_at p) (shows p) (port_start p (suc j)) t.ty
    (record { kept = λ a x. refl; made = λ a x. ap (λ (y : ℕ). Out (ImportEnd y (shake_of a)) x) (number_is root j p.imports t differ here) })
    (sound.grounds j t here) (sound.ground_widths j t here)
    (λ h c is. ((import_bits lay p sound j h t c here is).0, ap (λ (f : Option Imported). request_nets (port_start p (suc j)) (contacts_of_import f) h) here)))

pub ins_are : (lay : Laying) (p : Plan) (root : List ℕ) (v : Numbers) → IsSound lay p → AreDifferent (root ∷ map (λ (x : Imported). x.name) p.imports)
    → ins_of p (inputs (circuit lay p root) v) ≡ elements In v (bits_in_at p) (leaves lay p) (port_ends (ports_of p))
ins_are lay p root v sound differ =
    all_list lay p root (λ l. not (is_output l)) (in_of p) In v (bits_in_at p) (leaves lay p)
    (requests (λ l. not (is_output l)) (in_of p) In Given ResultEnd v (bits_in_at p) (leaves lay p) (port_start p 0) p.outcome
    (record { kept = λ m x. refl; made = λ m x. refl }) (done_ground p.outcome sound.done) sound.done_widths (λ h c is. ((result_bits lay p sound h c is).1, refl)))
    (λ m j t e there.
    let here = at_place p m j t e there in
    answers (λ l. not (is_output l)) (in_of p) In (Taken t.name) (ImportEnd j) v (bits_in_at p) (leaves lay p) (port_start p (suc j)) t.ty
    (record { kept = λ a x. not_not (is_answer a); made = λ a x. ap (λ (y : ℕ). In (ImportEnd y (shake_of a)) x) (number_is root j p.imports t differ here) })
    (sound.grounds j t here) (sound.ground_widths j t here)
    (λ h c is. ((import_bits lay p sound j h t c here is).1, ap (λ (f : Option Imported). answer_nets (port_start p (suc j)) (contacts_of_import f) h) here)))

-- no two of them pass one end
turned_apart : (d e : End) → same_end d e ≡ false → same_end e d ≡ false
turned_apart d e apart = by_test (same_end e d) refl
  where
    by_test : (b : Bool) → same_end e d ≡ b → same_end e d ≡ false
    by_test false t = t
    by_test true t =
        let is : e ≡ d = same_is e d t in
        let yes : same_end d e ≡ true = ap (λ (x : End). same_end d x) is ∙ same_itself d in
        let no : true ≡ false = sym yes ∙ apart in absurd (cc no)

none_out : (p : Plan) (e : End) (ls : List Label) → outs_at e (outs_of p ls) ≡ 0 → NonePasses p e ls
none_out p e [] h = tt
none_out p e (l ∷ ls) h = by_test (same_end (end_of_label p l) e) refl h (none_out p e ls)
  where
    by_test : (b : Bool) → same_end (end_of_label p l) e ≡ b → (if b then suc (outs_at e (outs_of p ls)) else outs_at e (outs_of p ls)) ≡ 0
        → (outs_at e (outs_of p ls) ≡ 0 → NonePasses p e ls) → NonePasses p e (l ∷ ls)
    by_test true t h go = absurd (omega (arith, h))
    by_test false t h go = (turned_apart (end_of_label p l) e t, go h)

outs_differ : (p : Plan) (ls : List Label) → ((e : End) → outs_at e (outs_of p ls) ≤ 1) → EndsDiffer p ls
outs_differ p [] few = tt
outs_differ p (l ∷ ls) few =
    let twice : suc (outs_at (end_of_label p l) (outs_of p ls)) ≤ 1 =
    subst (λ (b : Bool). (if b then suc (outs_at (end_of_label p l) (outs_of p ls)) else outs_at (end_of_label p l) (outs_of p ls)) ≤ 1)
    (same_itself (end_of_label p l)) (few (end_of_label p l)) in
    (none_out p (end_of_label p l) ls (omega (arith, twice)), outs_differ p ls (λ e. fewer e (same_end (end_of_label p l) e) (few e)))
  where
    fewer : (e : End) (b : Bool) → (if b then suc (outs_at e (outs_of p ls)) else outs_at e (outs_of p ls)) ≤ 1 → outs_at e (outs_of p ls) ≤ 1
    fewer e true h = omega (arith, h)
    fewer e false h = h

-- labels are as many inputs at an end as they would be outputs there
ins_counted : (p : Plan) (e : End) (ls : List Label) → ins_at e (ins_of p ls) ≡ outs_at e (outs_of p ls)
ins_counted p e [] = refl
ins_counted p e (l ∷ ls) = λ i. if same_end (end_of_label p l) e then suc (ins_counted p e ls i) else ins_counted p e ls i

ins_differ : (p : Plan) (ls : List Label) → ((e : End) → ins_at e (ins_of p ls) ≤ 1) → EndsDiffer p ls
ins_differ p ls few = outs_differ p ls (λ e. subst (λ (n : ℕ). n ≤ 1) (ins_counted p e ls) (few e))

-- what nets show at the ends of ports comes once at most at each
few_shown : (out : Bool) (p : Plan) (v : Numbers) (bits : End → ℕ) (nets : End → Nets) (e : End)
    → count_of out e (elements (pulse_of out) v bits nets (port_ends (ports_of p))) ≤ 1
few_shown out p v bits nets e =
    by_pulse (nat_eq (at v (nets e).pulse) 1) (by_count (occurs e (port_ends (ports_of p))) refl) (shown_alone out e v bits nets (port_ends (ports_of p)))
  where
    by_count : (m : ℕ) → occurs e (port_ends (ports_of p)) ≡ m → m ≤ 1
    by_count zero h = omega arith
    by_count (suc m) h =
        let listed = all_listed p e (omega (arith, h)) in
        let once = each_once p e listed.1.0 listed.0 listed.1.1 in
        omega (arith, h, once)

    shown : ℕ
    shown = count_of out e (elements (pulse_of out) v bits nets (port_ends (ports_of p)))

    by_pulse : (b : Bool) → occurs e (port_ends (ports_of p)) ≤ 1 → shown ≡ occurs e (port_ends (ports_of p)) * (if b then 1 else 0) → shown ≤ 1
    by_pulse true once is = omega (arith, once, is)
    by_pulse false once is = omega (arith, is)

pub outs_are_apart : (lay : Laying) (p : Plan) (root : List ℕ) (v : Numbers) → IsSound lay p → AreDifferent (root ∷ map (λ (x : Imported). x.name) p.imports)
    → EndsDiffer p (outputs (circuit lay p root) v)
outs_are_apart lay p root v sound differ =
    outs_differ p (outputs (circuit lay p root) v)
    (λ e. subst (λ (l : List Element). outs_at e l ≤ 1) (sym (outs_are lay p root v sound differ)) (few_shown true p v (bits_out_at p) (shows p) e))

pub ins_are_apart : (lay : Laying) (p : Plan) (root : List ℕ) (v : Numbers) → IsSound lay p → AreDifferent (root ∷ map (λ (x : Imported). x.name) p.imports)
    → EndsDiffer p (inputs (circuit lay p root) v)
ins_are_apart lay p root v sound differ =
    ins_differ p (inputs (circuit lay p root) v)
    (λ e. subst (λ (l : List Element). ins_at e l ≤ 1) (sym (ins_are lay p root v sound differ)) (few_shown false p v (bits_in_at p) (leaves lay p) e))
