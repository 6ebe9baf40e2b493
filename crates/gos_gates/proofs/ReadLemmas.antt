-- A text that is passed as a whole is read, and one that breaks off or goes on has its fault.
use Rattle.std.proofs.Common.{◌≡◌, inl, inr, ℕ, ◌+◌, ◌<◌, ◌≤◌, List, [], ◌++◌, length, refl, sym, ◌∙◌, ap, subst, arith, append_assoc, append-nil, length-append}
use Rattle.std.specs.List.{slice_range}
use Rattle.std.proofs.lemmas.Bool.{cases_lt}
use Rattle.gos_lex.specs.Items.{TextAt, Misses}
use Rattle.gos_lex.proofs.PlaceLemmas.{length_slice, slice_split}
use Rattle.gos_lex.proofs.SequenceLemmas.{misses_as}
use Rattle.gos_netlist.proofs.WholeLemmas.{slice_whole}
use Rattle.gos_gates.specs.Gates.{Gates}
use Rattle.gos_gates.specs.AagFaults.{IsRead, IsAagText, HasFault}
use Rattle.gos_gates.specs.declared.fault.AagFault.{AagFault}
use Rattle.gos_gates.specs.declared.fault.AagFault.TheVariants as faults
use Rattle.gos_gates.specs.inner.Shapes.{End, Says, HasShape, Leads, Breaks, BreaksOff, whole_shape}
use Rattle.gos_gates.proofs.WholeLemmas.{whole_says}
use Rattle.gos_gates.proofs.LawLemmas.{read_says}

-- a cursor at the start of this text
abbrev start : List ℕ → TextAt
start text = record { text = text; at = 0 }

at_start : (text : List ℕ) (old : TextAt) → old.text ≡ text → old.at ≡ 0 → old ≡ start text
at_start text old same none = λ k. record { text = same k; at = none k }

-- all is passed
pub all_passed : (text : List ℕ) (old new : TextAt) (a : Gates) → old.text ≡ text → old.at ≡ 0 → Leads old new whole_shape (End a) → new.at ≡ length new.text → IsRead text a
all_passed text old new a same none leads finished =
    let from : Leads (start text) new whole_shape (End a) = subst (λ (at : TextAt). Leads at new whole_shape (End a)) (at_start text old same none) leads in
    let end : new.at ≡ length text = finished ∙ ap length from.text in
    let whole : slice_range text 0 new.at ++ [] ≡ text = append-nil (slice_range text 0 new.at) ∙ (ap (slice_range text 0) end ∙ slice_whole text) in
    whole_says a text (subst (Says whole_shape a) whole (from.says a [] (refl, refl)))

-- it breaks off
broken : (text : List ℕ) (place : ℕ) → Misses (HasShape whole_shape) text 0 place → HasFault text (faults.Form place)
broken text place misses = (known.stops, λ item. known.none (length text) (omega arith) (omega arith) (subst IsAagText (sym (slice_whole text)) item))
  where
    known : Misses IsAagText text 0 place
    known =
        misses_as (HasShape whole_shape) IsAagText text 0 place
        (λ bytes item. (item.0, whole_says item.0 bytes item.1))
        (λ bytes item. (item.0, read_says bytes item.0 item.1))
        misses

pub breaks_off : (text : List ℕ) (old : TextAt) (fault : AagFault) → old.text ≡ text → old.at ≡ 0 → BreaksOff whole_shape old fault → HasFault text fault
breaks_off text old (faults.Form place) same none breaks =
    broken text place (subst (λ (at : TextAt). Breaks whole_shape at place) (at_start text old same none) breaks)
breaks_off text old faults.NoMemory same none any = tt

-- it goes on behind a whole circuit
goes_on : (text : List ℕ) (new : TextAt) (a : Gates) → Leads (start text) new whole_shape (End a) → new.at < length text → HasFault text (faults.Form new.at)
goes_on text new a leads some = (
  record {
    after = omega arith;
    within = leads.within;
    before = ([], (a, whole_says a (slice_range text 0 new.at ++ []) (leads.says a [] (refl, refl))));
    stops = λ inside longer. longer_none longer.0 longer.1.0 longer.1.1;
  },
  λ item. whole_none item.0 item.1,
)
  where
    at : ℕ
    at = new.at

    -- a circuit's text that begins with what was passed ends there
    nothing : (b : Gates) (end : ℕ) (more : List ℕ) → at < end → end ≤ length text → Says whole_shape b (slice_range text 0 end ++ more) → ⊥
    nothing b end more above below says =
        let split : slice_range text 0 end ++ more ≡ slice_range text 0 at ++ (slice_range text at end ++ more) =
        ap (λ front. front ++ more) (slice_split text 0 at end (omega arith) (omega (arith, above))) ∙ append_assoc (slice_range text 0 at) (slice_range text at end) more in
        let left = leads.cut b (slice_range text at end ++ more) (subst (Says whole_shape b) split says) in
        omega (arith, ap length left.1, length-append (slice_range text at end) more, length_slice text at end below, above)

    longer_none : (more : List ℕ) (b : Gates) → IsRead (slice_range text 0 (at + 1) ++ more) b → ⊥
    longer_none more b read = nothing b (at + 1) more (omega arith) (omega (arith, some)) (read_says (slice_range text 0 (at + 1) ++ more) b read)

    whole_none : (b : Gates) → IsRead text b → ⊥
    whole_none b read =
        let whole : text ≡ slice_range text 0 (length text) ++ [] = sym (append-nil (slice_range text 0 (length text)) ∙ slice_whole text) in
        nothing b (length text) [] some (omega arith) (subst (Says whole_shape b) whole (read_says text b read))

pub left_over : (text : List ℕ) (old new : TextAt) (a : Gates) (place : ℕ) → old.text ≡ text → old.at ≡ 0 → Leads old new whole_shape (End a) → (new.at ≡ length new.text → ⊥) → place ≡ new.at
    → HasFault text (faults.Form place)
left_over text old new a place same none leads more here =
    let from : Leads (start text) new whole_shape (End a) = subst (λ (at : TextAt). Leads at new whole_shape (End a)) (at_start text old same none) leads in
    let inside : new.at < length text =
    elim (cases_lt new.at (length text)) [
      | inl below ↦ below
      | inr above ↦ absurd (more (omega (arith, above, from.within, ap length from.text)))
    ] in
    subst (λ (n : ℕ). HasFault text (faults.Form n)) (sym here) (goes_on text new a from inside)
