-- Where what is left of a text breaks off: by what stands first, and by what stands behind it.
use Rattle.std.proofs.Common.{◌≡◌, ◌⊎◌, inl, inr, ℕ, zero, suc, ◌+◌, ◌-◌, ◌<◌, ◌≤◌, List, [], ◌∷◌, ◌++◌, length, take, drop, get_or, refl, sym, ◌∙◌, ap, subst, arith, append_assoc, length-append, length-drop}
use Rattle.std.specs.List.{slice_range}
use Rattle.std.proofs.Math.Seq.{take-append_seam}
use Rattle.std.proofs.lemmas.List.{take-append-drop}
use Rattle.gos_lex.specs.Items.{TextAt, Begins, StopsAt, Misses}
use Rattle.gos_lex.proofs.PlaceLemmas.{rest_whole, length_slice, slice_snoc}
use Rattle.gos_lex.specs.ItemTexts.{Passed, IsTextOf}
use Rattle.gos_lex.proofs.PassedLemmas.{passed_both}
use Rattle.gos_lex.proofs.SequenceLemmas.{IsCode, fronts, none_left, then_first}
use Rattle.gos_verilog.specs.declared.fault.VFault.{VFault}
use Rattle.gos_verilog.specs.declared.fault.VFault.TheVariants as faults
use Rattle.gos_verilog.specs.inner.Breaks.{Left, Item, Either, BreaksAfter, BreaksFrom, FaultFrom, Leads, LeadsOn}
use Rattle.gos_verilog.specs.inner.Stages.{BreaksAt}
use Rattle.gos_lex.proofs.RestLemmas.{passed_rest}

-- the same bytes may be left
pub breaks_as : (L M : Left) (bytes : List ℕ) (n : ℕ) → ((x : List ℕ) → L x → M x) → ((x : List ℕ) → M x → L x) → BreaksAfter L bytes n → BreaksAfter M bytes n
breaks_as L M bytes n to from breaks =
    record {
      good = breaks.good;
      bad = breaks.bad;
      is = breaks.is;
      count = breaks.count;
      begins = (breaks.begins.0, to _ breaks.begins.1);
      stops = λ b more is longer. breaks.stops b more is (longer.0, from _ longer.1);
      none = λ m. breaks.none (from bytes m);
    }

pub from_as : (L M : Left) (cursor : TextAt) (place : ℕ) → ((x : List ℕ) → L x → M x) → ((x : List ℕ) → M x → L x) → BreaksFrom L cursor place → BreaksFrom M cursor place
from_as L M cursor place to from (n, is, breaks) = (n, is, breaks_as L M (drop cursor.at cursor.text) n to from breaks)

-- an item that breaks off
pub item_breaks : (P : Left) (text : List ℕ) (at place : ℕ) → Misses P text at place → BreaksFrom P (record { text = text; at = at }) place
item_breaks P text at place misses =
    let stops : StopsAt P text at place = misses.stops in
    let good : List ℕ = slice_range text at place in
    let bad : List ℕ = drop (place - at) (drop at text) in
    let size = length_slice text at place stops.within in (
      place - at,
      omega (arith, stops.after),
      record {
        good = good;
        bad = bad;
        is = sym (take-append-drop (place - at) (drop at text));
        count = size;
        begins = stops.before;
        stops = λ b more is longer.
            let long : length bad ≡ length text - at - (place - at) = length-drop (place - at) (drop at text) ∙ ap (λ (n : ℕ). n - (place - at)) (length-drop at text) in
            let some : place < length text = omega (arith, long, ap length is, stops.after) in
            let snoc : slice_range text at (place + 1) ≡ good ++ get_or text place 0 ∷ [] = slice_snoc text at place stops.after some in
            let byte : get_or text place 0 ≡ b = same_byte text at place b more stops.after is in
            stops.stops some (longer.0, subst (λ (front : List ℕ). P (front ++ longer.0)) (sym (snoc ∙ ap (λ (c : ℕ). good ++ c ∷ []) byte)) longer.1);
        none = λ is. misses.none (length text) (omega (arith, stops.after, stops.within)) (omega arith) (subst P (sym (rest_whole text at)) is);
      },
    )
  where
    byte_of : (text : List ℕ) (n b : ℕ) (more : List ℕ) → drop n text ≡ b ∷ more → get_or text n 0 ≡ b
    byte_of [] zero b more is = absurd (cc is)
    byte_of [] (suc n) b more is = absurd (cc is)
    byte_of (c ∷ text) zero b more is = cc is
    byte_of (c ∷ text) (suc n) b more is = byte_of text n b more is

    far : (text : List ℕ) (at n b : ℕ) (more : List ℕ) → drop n (drop at text) ≡ b ∷ more → get_or text (at + n) 0 ≡ b
    far text zero n b more is = let e : n ≡ 0 + n = omega arith in subst (λ (k : ℕ). get_or text k 0 ≡ b) e (byte_of text n b more is)
    far [] (suc at) n b more is = far [] at n b more (by n is)
      where
        by : (n : ℕ) → drop n [] ≡ b ∷ more → drop n (drop at []) ≡ b ∷ more
        by zero is = absurd (cc is)
        by (suc n) is = absurd (cc is)
    far (c ∷ text) (suc at) n b more is = let e : suc (at + n) ≡ suc at + n = omega arith in subst (λ (k : ℕ). get_or (c ∷ text) k 0 ≡ b) e (far text at n b more is)

    same_byte : (text : List ℕ) (at place b : ℕ) (more : List ℕ) → at ≤ place → drop (place - at) (drop at text) ≡ b ∷ more → get_or text place 0 ≡ b
    same_byte text at place b more after is = let e : at + (place - at) ≡ place = omega (arith, after) in subst (λ (k : ℕ). get_or text k 0 ≡ b) e (far text at (place - at) b more is)

-- where the first item breaks off, it does, if each goes on
pub first_breaks : (V : Type 0) (Is : V → Type 0) (text : V → List ℕ) (Rest : V → Left) (source : List ℕ) (at place : ℕ)
    → ((v : V) → Is v → (rest : List ℕ) × Rest v rest) → Misses (IsTextOf V Is text) source at place → BreaksFrom (Item V Is text Rest) (record { text = source; at = at }) place
first_breaks V Is text Rest source at place goes_on misses =
    item_breaks (Item V Is text Rest) source at place (then_first V Is text Rest source at place goes_on misses)

-- an item leads to what may follow it
pub item_leads : (V : Type 0) (Is : V → Type 0) (text : V → List ℕ) (Rest : V → Left) (v : V) → IsCode V Is text → Is v → Leads (Item V Is text Rest) (Rest v) (text v)
item_leads V Is text Rest v code is =
    record {
      on = λ x rest. (v, x, is, rest, refl);
      back = λ x item.
          let known = code v item.0 x item.1 is item.2 item.4 in
          subst (λ (w : V). Rest w x) (sym known.0) (subst (Rest item.0) (sym known.1) item.3);
    }

pub leads_none : (L : Left) → Leads L L []
leads_none L = record { on = λ x is. is; back = λ x is. is }

pub leads_both : (L M N : Left) (a b : List ℕ) → Leads L M a → Leads M N b → Leads L N (a ++ b)
leads_both L M N a b first second =
    record {
      on = λ x is. subst L (sym (append_assoc a b x)) (first.on (b ++ x) (second.on x is));
      back = λ x is. second.back x (first.back (b ++ x) (subst L (append_assoc a b x) is));
    }

-- the same bytes may be left before or behind the word
pub leads_as : (L M K N : Left) (word : List ℕ) → ((x : List ℕ) → L x → K x) → ((x : List ℕ) → K x → L x) → ((x : List ℕ) → M x → N x) → ((x : List ℕ) → N x → M x)
    → Leads L M word → Leads K N word
leads_as L M K N word to from on back leads =
    record { on = λ x is. to (word ++ x) (leads.on x (back x is)); back = λ x is. on x (leads.back x (from (word ++ x) is)) }

-- where what is behind a word breaks off
pub behind_breaks : (L M : Left) (word x : List ℕ) (n : ℕ) → Leads L M word → BreaksAfter M x n → BreaksAfter L (word ++ x) (length word + n)
behind_breaks L M word x n leads breaks =
    record {
      good = word ++ breaks.good;
      bad = breaks.bad;
      is = ap (λ (rest : List ℕ). word ++ rest) breaks.is ∙ sym (append_assoc word breaks.good breaks.bad);
      count = length-append word breaks.good ∙ ap (λ (k : ℕ). length word + k) breaks.count;
      begins = (
        breaks.begins.0,
        subst L (sym (append_assoc word breaks.good breaks.begins.0)) (leads.on (breaks.good ++ breaks.begins.0) breaks.begins.1),
      );
      stops = λ b more is longer.
          breaks.stops b more is (
            longer.0,
            leads.back ((breaks.good ++ b ∷ []) ++ longer.0)
                (subst L (ap (λ (front : List ℕ). front ++ longer.0) (append_assoc word breaks.good (b ∷ [])) ∙ append_assoc word (breaks.good ++ b ∷ []) longer.0) longer.1),
          );
      none = λ is. breaks.none (leads.back x is);
    }

pub passed_size : (old new : TextAt) (word : List ℕ) → Passed old new word → new.at ≡ old.at + length word
passed_size old new word passed = omega (arith, length_slice old.text old.at new.at passed.within, ap length passed.is, passed.after)

-- at a cursor
pub on_nothing : (L : Left) (old : TextAt) → old.at ≤ length old.text → LeadsOn L L old old
on_nothing L old within =
    record { word = []; passed = record { text = refl; after = omega arith; within = within; is = nothing }; leads = leads_none L }
  where
    nothing : slice_range old.text old.at old.at ≡ []
    nothing = none_left (slice_range old.text old.at old.at) (omega (arith, length_slice old.text old.at old.at within))

pub on_both : (L M N : Left) (old mid new : TextAt) → LeadsOn L M old mid → LeadsOn M N mid new → LeadsOn L N old new
on_both L M N old mid new first second =
    record {
      word = first.word ++ second.word;
      passed = passed_both old mid new first.word second.word first.passed second.passed;
      leads = leads_both L M N first.word second.word first.leads second.leads;
    }

pub on_item : (V : Type 0) (Is : V → Type 0) (text : V → List ℕ) (Rest : V → Left) (old new : TextAt) (v : V) → IsCode V Is text → Is v → Passed old new (text v) → LeadsOn (Item V Is text Rest) (Rest v) old new
on_item V Is text Rest old new v code is passed = record { word = text v; passed = passed; leads = item_leads V Is text Rest v code is }

pub on_breaks : (L M : Left) (old new : TextAt) (place : ℕ) → LeadsOn L M old new → BreaksFrom M new place → BreaksFrom L old place
on_breaks L M old new place lead (n, is, breaks) = (
  length lead.word + n,
  omega (arith, is, passed_size old new lead.word lead.passed),
  subst (λ (bytes : List ℕ). BreaksAfter L bytes (length lead.word + n)) (sym (passed_rest old new lead.word lead.passed))
      (behind_breaks L M lead.word (drop new.at new.text) n lead.leads breaks),
)

pub on_rest : (L M : Left) (old new : TextAt) → LeadsOn L M old new → M (drop new.at new.text) → L (drop old.at old.text)
on_rest L M old new lead rest = subst L (sym (passed_rest old new lead.word lead.passed)) (lead.leads.on (drop new.at new.text) rest)

-- faults
pub fault_as : (L M : Left) (cursor other : TextAt) (fault : VFault) → ((place : ℕ) → BreaksFrom L cursor place → BreaksFrom M other place) → FaultFrom L cursor fault → FaultFrom M other fault
fault_as L M cursor other (faults.Form place) so breaks = so place breaks
fault_as L M cursor other faults.NoMemory so breaks = tt

pub fault_on : (L M : Left) (old new : TextAt) (fault : VFault) → LeadsOn L M old new → FaultFrom M new fault → FaultFrom L old fault
fault_on L M old new fault lead = fault_as M L new old fault (λ place. on_breaks L M old new place lead)

-- a fault at which the first item breaks off
pub fault_first : (V : Type 0) (Is : V → Type 0) (text : V → List ℕ) (Rest : V → Left) (cursor : TextAt) (fault : VFault)
    → ((v : V) → Is v → (rest : List ℕ) × Rest v rest) → BreaksAt (IsTextOf V Is text) cursor fault → FaultFrom (Item V Is text Rest) cursor fault
fault_first V Is text Rest cursor (faults.Form place) goes_on misses = first_breaks V Is text Rest cursor.text cursor.at place goes_on misses
fault_first V Is text Rest cursor faults.NoMemory goes_on misses = tt

-- an item that is all that may be left
pub fault_item : (P : Left) (cursor : TextAt) (fault : VFault) → BreaksAt P cursor fault → FaultFrom P cursor fault
fault_item P cursor (faults.Form place) misses = item_breaks P cursor.text cursor.at place misses
fault_item P cursor faults.NoMemory misses = tt

-- a part of what begins so begins so
begins_part : (L : Left) (a b : List ℕ) → Begins L (a ++ b) → Begins L a
begins_part L a b (more, is) = (b ++ more, subst L (append_assoc a b more) is)

-- of two places at which one or the other breaks off, both do at the further one
pub either_breaks : (L M : Left) (bytes : List ℕ) (m n : ℕ) → m ≤ n → BreaksAfter L bytes m → BreaksAfter M bytes n → BreaksAfter (Either L M) bytes n
either_breaks L M bytes m n order one other =
    record {
      good = other.good;
      bad = other.bad;
      is = other.is;
      count = other.count;
      begins = (other.begins.0, inr other.begins.1);
      stops = λ b more is longer. by b more is longer.0 longer.1;
      none = λ is. elim is [ inl l ↦ one.none l | inr m ↦ other.none m ];
    }
  where
    -- what is longer than the first is good for breaks it
    past : (b : ℕ) (more : List ℕ) → other.bad ≡ b ∷ more → Begins L (other.good ++ b ∷ []) → ⊥
    past b more is begins =
        let whole : (other.good ++ b ∷ []) ++ more ≡ one.good ++ one.bad =
        append_assoc other.good (b ∷ []) more ∙ (ap (λ (rest : List ℕ). other.good ++ rest) (sym is) ∙ (sym other.is ∙ one.is)) in
        elim (fronts (other.good ++ b ∷ []) more one.good one.bad whole) [
          | inl longer ↦ at_bad longer.0 longer.1 longer.2
          | inr shorter ↦ omega (arith, ap length shorter.1, length-append (other.good ++ b ∷ []) shorter.0, length-append other.good (b ∷ []), one.count, other.count, order)
        ]
      where
        at_bad : (rest : List ℕ) → other.good ++ b ∷ [] ≡ one.good ++ rest → rest ++ more ≡ one.bad → ⊥
        at_bad [] same left = omega (arith, ap length same, length-append other.good (b ∷ []), length-append one.good [], one.count, other.count, order)
        at_bad (c ∷ rest) same left =
            let whole : other.good ++ b ∷ [] ≡ (one.good ++ c ∷ []) ++ rest = same ∙ sym (append_assoc one.good (c ∷ []) rest) in
            one.stops c (rest ++ more) (sym left) (begins_part L (one.good ++ c ∷ []) rest (subst (Begins L) whole begins))

    by : (b : ℕ) (more : List ℕ) → other.bad ≡ b ∷ more → (x : List ℕ) → Either L M ((other.good ++ b ∷ []) ++ x) → ⊥
    by b more is x (inl l) = past b more is (x, l)
    by b more is x (inr m) = other.stops b more is (x, m)

pub either_swap : (L M : Left) (x : List ℕ) → Either L M x → Either M L x
either_swap L M x (inl l) = inr l
either_swap L M x (inr m) = inl m

pub either_further : (L M : Left) (cursor : TextAt) (a b r : ℕ) → a ≤ r → b ≤ r → (r ≡ a) ⊎ (r ≡ b) → BreaksFrom L cursor a → BreaksFrom M cursor b → BreaksFrom (Either L M) cursor r
either_further L M cursor a b r over_a over_b (inl is) (m, at_a, one) (n, at_b, other) =
    from_as (Either M L) (Either L M) cursor r (either_swap M L) (either_swap L M)
    (m, is ∙ at_a, either_breaks M L (drop cursor.at cursor.text) n m (omega (arith, is, over_b, at_a, at_b)) other one)
either_further L M cursor a b r over_a over_b (inr is) (m, at_a, one) (n, at_b, other) =
    (n, is ∙ at_b, either_breaks L M (drop cursor.at cursor.text) m n (omega (arith, is, over_a, at_a, at_b)) one other)

-- where the other doesn't begin with the word, it is out of the question
pub alone_leads : (L M N : Left) (word : List ℕ) → (Begins M word → ⊥) → Leads L N word → Leads (Either L M) N word
alone_leads L M N word other leads =
    record { on = λ x is. inl (leads.on x is); back = λ x is. elim is [ inl l ↦ leads.back x l | inr m ↦ absurd (other (x, m)) ] }

-- what stands at the cursor is passed
pub passed_at : (text : List ℕ) (at new : ℕ) (word : List ℕ) → at ≤ length text → drop at text ≡ word ++ drop new text → new ≡ at + length word → Passed (record { text = text; at = at }) (record { text = text; at = new }) word
passed_at text at new word within is end =
    let size : length (drop at text) ≡ length text - at = length-drop at text in
    let whole : length word + length (drop new text) ≡ length text - at = sym (length-append word (drop new text)) ∙ (sym (ap length is) ∙ size) in
    let long : new - at ≡ length word = omega (arith, end) in
    record {
      text = refl;
      after = omega (arith, end);
      within = omega (arith, whole, end, within);
      is = (λ i. take (long i) (is i)) ∙ take-append_seam word (drop new text);
    }
