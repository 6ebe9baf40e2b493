-- What is left of a text behind what a cursor has passed.
--
-- A stage of reading is an item, and what its value leaves. Where the item is passed the reader stands at what is left, and
-- where it breaks off the text does.
use Rattle.std.proofs.Common.{◌≡◌, inl, inr, ℕ, ◌+◌, ◌<◌, ◌≤◌, List, [], ◌++◌, length, refl, sym, ◌∙◌, ap, subst, arith, append_assoc, append-nil, length-append}
use Rattle.std.specs.List.{slice_range}
use Rattle.std.proofs.lemmas.Bool.{cases_lt}
use Rattle.std.proofs.lemmas.List.{append_cancel_left}
use Rattle.gos_lex.specs.Items.{TextAt, StopsAt, Misses}
use Rattle.gos_lex.specs.ItemTexts.{IsTextOf, Passed}
use Rattle.gos_lex.proofs.SequenceLemmas.{Then, IsCode, misses_as, then_first, then_rest}
use Rattle.gos_lex.proofs.PlaceLemmas.{length_slice, slice_nothing, slice_split, rest_whole}
use Rattle.gos_witness.specs.inner.Left.{HasLeft, Behind, End, Leads, Breaks}

-- S says that an item stands there, and behind it what its value leaves
pub record Stage (V U : Type 0) (S : V → List ℕ → Type 0) (Is : U → Type 0) (text : U → List ℕ) (T : U → V → List ℕ → Type 0) : Type 0 where
  pub to : (v : V) (bytes : List ℕ) → S v bytes → Behind V U Is text T v bytes
  pub from : (v : V) (bytes : List ℕ) → Behind V U Is text T v bytes → S v bytes
  pub code : IsCode U Is text
  pub completes : (u : U) → Is u → (bytes : List ℕ) × HasLeft V (T u) bytes

-- fixed bytes don't begin one another
pub fixed_code : (bytes : List ℕ) → IsCode (Unit {0}) (λ _. Unit {0}) (λ _. bytes)
fixed_code bytes v w x y is_v is_w same = (refl, append_cancel_left bytes x y same)

module _ (V U : Type 0) (S : V → List ℕ → Type 0) (Is : U → Type 0) (text : U → List ℕ) (T : U → V → List ℕ → Type 0) (stage : Stage V U S Is text T) where
  Sequence : List ℕ → Type 0
  Sequence = Then U Is text (λ u. HasLeft V (T u))

  joined : (bytes : List ℕ) → Then U Is text (λ u. HasLeft V (T u)) bytes → HasLeft V S bytes
  joined bytes (u, more, is, (v, left), whole) = (v, stage.from v bytes (u, more, is, left, whole))

  cut : (bytes : List ℕ) → HasLeft V S bytes → Then U Is text (λ u. HasLeft V (T u)) bytes
  cut bytes (v, says) =
      let parts = stage.to v bytes says in
      (parts.0, parts.1, parts.2, (v, parts.3), parts.4)

  -- the item is passed
  pub item_passed : (old new : TextAt) (u : U) → Is u → Passed old new (text u) → Leads V S (T u) old new
  item_passed old new u is passed =
      record {
        text = passed.text;
        after = passed.after;
        within = passed.within;
        says = λ v more left. stage.from v (slice_range old.text old.at new.at ++ more) (u, more, is, left, ap (λ front. front ++ more) passed.is);
        cut = λ v more says.
            let parts = stage.to v (slice_range old.text old.at new.at ++ more) says in
            let known = stage.code u parts.0 more parts.1 is parts.2 (ap (λ front. front ++ more) (sym passed.is) ∙ parts.4) in
            subst (λ (w : U). T w v more) (sym known.0) (subst (T parts.0 v) (sym known.1) parts.3);
        breaks = λ place misses.
            misses_as (Then U Is text (λ w. HasLeft V (T w))) (HasLeft V S) old.text old.at place joined cut
            (then_rest U Is text (λ w. HasLeft V (T w)) old.text old.at new.at place u stage.code is passed.after passed.within passed.is misses);
      }

  -- the item breaks off
  pub item_missed : (old : TextAt) (place : ℕ) → Misses (IsTextOf U Is text) old.text old.at place → Breaks V S old place
  item_missed old place misses =
      misses_as (Then U Is text (λ w. HasLeft V (T w))) (HasLeft V S) old.text old.at place joined cut
      (then_first U Is text (λ w. HasLeft V (T w)) old.text old.at place stage.completes misses)

module _ (V : Type 0) where
  -- nothing is passed
  pub stands : (S : V → List ℕ → Type 0) (old : TextAt) → old.at ≤ length old.text → Leads V S S old old
  stands S old within =
      record {
        text = refl;
        after = omega arith;
        within = within;
        says = λ v more says. subst (λ (front : List ℕ). S v (front ++ more)) (sym (slice_nothing old.text old.at)) says;
        cut = λ v more says. subst (λ (front : List ℕ). S v (front ++ more)) (slice_nothing old.text old.at) says;
        breaks = λ place misses. misses;
      }

  -- two parts, one behind the other
  parts : (text : List ℕ) (a b d : ℕ) (more : List ℕ) → a ≤ b → b ≤ d → slice_range text a d ++ more ≡ slice_range text a b ++ (slice_range text b d ++ more)
  parts text a b d more first second =
      ap (λ front. front ++ more) (slice_split text a b d first second) ∙ append_assoc (slice_range text a b) (slice_range text b d) more

  -- one part is passed behind another
  pub leads_on : (S T U : V → List ℕ → Type 0) (old mid new : TextAt) → Leads V S T old mid → Leads V T U mid new → Leads V S U old new
  leads_on S T U old mid new first second =
      record {
        text = second.text ∙ first.text;
        after = omega (arith, first.after, second.after);
        within = subst (λ (text : List ℕ). new.at ≤ length text) first.text second.within;
        says = λ v more says.
            let rest = subst (λ (text : List ℕ). T v (slice_range text mid.at new.at ++ more)) first.text (second.says v more says) in
            let whole = first.says v (slice_range old.text mid.at new.at ++ more) rest in
            subst (S v) (sym (parts old.text old.at mid.at new.at more first.after second.after)) whole;
        cut = λ v more says.
            let rest = first.cut v (slice_range old.text mid.at new.at ++ more) (subst (S v) (parts old.text old.at mid.at new.at more first.after second.after) says) in
            second.cut v more (subst (λ (text : List ℕ). T v (slice_range text mid.at new.at ++ more)) (sym first.text) rest);
        breaks = λ place misses.
            let here = subst (λ (text : List ℕ). Misses (HasLeft V U) text new.at place) (sym first.text) misses in
            first.breaks place (subst (λ (text : List ℕ). Misses (HasLeft V T) text mid.at place) first.text (second.breaks place here));
      }

  -- what breaks off behind a part
  pub breaks_on : (S T : V → List ℕ → Type 0) (old mid : TextAt) (place : ℕ) → Leads V S T old mid → Breaks V T mid place → Breaks V S old place
  breaks_on S T old mid place first breaks = first.breaks place (subst (λ (text : List ℕ). Misses (HasLeft V T) text mid.at place) first.text breaks)

  -- the cursor is within its text
  pub leads_within : (S T : V → List ℕ → Type 0) (old new : TextAt) → Leads V S T old new → new.at ≤ length new.text
  leads_within S T old new leads = subst (λ (text : List ℕ). new.at ≤ length text) (sym leads.text) leads.within

  -- what leads to an end has passed the text of its value
  pub passed_end : (S : V → List ℕ → Type 0) (text : V → List ℕ) (old new : TextAt) (done : V) → Leads V S (End V done) old new
      → ((bytes : List ℕ) → S done bytes → bytes ≡ text done) → Passed old new (text done)
  passed_end S text old new done leads is =
      record {
        text = leads.text;
        after = leads.after;
        within = leads.within;
        is = sym (append-nil (slice_range old.text old.at new.at)) ∙ is (slice_range old.text old.at new.at ++ []) (leads.says done [] (refl, refl));
      }

-- a cursor at the start of this text
abbrev pub start : List ℕ → TextAt
start text = record { text = text; at = 0 }

at_start : (text : List ℕ) (old : TextAt) → old.text ≡ text → old.at ≡ 0 → old ≡ start text
at_start text old same none = λ k. record { text = same k; at = none k }

slice_whole : (text : List ℕ) → slice_range text 0 (length text) ≡ text
slice_whole text = rest_whole text 0

module _ (V : Type 0) (S : V → List ℕ → Type 0) where
  -- all is passed
  pub all_passed : (text : List ℕ) (old new : TextAt) (done : V) → old.text ≡ text → old.at ≡ 0 → Leads V S (End V done) old new → new.at ≡ length new.text → S done text
  all_passed text old new done same none leads finished =
      let from : Leads V S (End V done) (start text) new = subst (λ (at : TextAt). Leads V S (End V done) at new) (at_start text old same none) leads in
      let end : new.at ≡ length text = finished ∙ ap length from.text in
      let whole : slice_range text 0 new.at ++ [] ≡ text = append-nil (slice_range text 0 new.at) ∙ (ap (slice_range text 0) end ∙ slice_whole text) in
      subst (S done) whole (from.says done [] (refl, refl))

  -- it breaks off
  pub breaks_off : (text : List ℕ) (old : TextAt) (place : ℕ) → old.text ≡ text → old.at ≡ 0 → Breaks V S old place → StopsAt (HasLeft V S) text 0 place × (HasLeft V S text → ⊥)
  breaks_off text old place same none breaks =
      let known : Misses (HasLeft V S) text 0 place = subst (λ (at : TextAt). Breaks V S at place) (at_start text old same none) breaks in
      (known.stops, λ item. known.none (length text) (omega arith) (omega arith) (subst (HasLeft V S) (sym (slice_whole text)) item))

  -- it goes on behind a whole value
  goes_on : (text : List ℕ) (new : TextAt) (done : V) → Leads V S (End V done) (start text) new → new.at < length text → StopsAt (HasLeft V S) text 0 new.at × (HasLeft V S text → ⊥)
  goes_on text new done leads some = (
    record {
      after = omega arith;
      within = leads.within;
      before = ([], (done, leads.says done [] (refl, refl)));
      stops = λ inside longer. nothing longer.1.0 (at + 1) longer.0 (omega arith) (omega (arith, some)) longer.1.1;
    },
    λ item. whole_none item.0 item.1,
  )
    where
      at : ℕ
      at = new.at

      -- what begins with what was passed ends there
      nothing : (v : V) (end : ℕ) (more : List ℕ) → at < end → end ≤ length text → S v (slice_range text 0 end ++ more) → ⊥
      nothing v end more above below says =
          let split : slice_range text 0 end ++ more ≡ slice_range text 0 at ++ (slice_range text at end ++ more) =
          ap (λ front. front ++ more) (slice_split text 0 at end (omega arith) (omega (arith, above))) ∙ append_assoc (slice_range text 0 at) (slice_range text at end) more in
          let left = leads.cut v (slice_range text at end ++ more) (subst (S v) split says) in
          omega (arith, ap length left.1, length-append (slice_range text at end) more, length_slice text at end below, above)

      whole_none : (v : V) → S v text → ⊥
      whole_none v says =
          let whole : text ≡ slice_range text 0 (length text) ++ [] = sym (append-nil (slice_range text 0 (length text)) ∙ slice_whole text) in
          nothing v (length text) [] some (omega arith) (subst (S v) whole says)

  pub left_over : (text : List ℕ) (old new : TextAt) (done : V) (place : ℕ) → old.text ≡ text → old.at ≡ 0 → Leads V S (End V done) old new → (new.at ≡ length new.text → ⊥) → place ≡ new.at
      → StopsAt (HasLeft V S) text 0 place × (HasLeft V S text → ⊥)
  left_over text old new done place same none leads more here =
      let from : Leads V S (End V done) (start text) new = subst (λ (at : TextAt). Leads V S (End V done) at new) (at_start text old same none) leads in
      let inside : new.at < length text =
      elim (cases_lt new.at (length text)) [
        | inl below ↦ below
        | inr above ↦ absurd (more (omega (arith, above, from.within, ap length from.text)))
      ] in
      subst (λ (n : ℕ). StopsAt (HasLeft V S) text 0 n × (HasLeft V S text → ⊥)) (sym here) (goes_on text new done from inside)

-- Values are read in one way.

-- bytes of one value, with others behind them, are of no other value
abbrev pub IsOne : (V : Type 0) → (V → List ℕ → Type 0) → Type 0
IsOne V S = (v w : V) (a b x y : List ℕ) → S v a → S w b → a ++ x ≡ b ++ y → (v ≡ w) × (x ≡ y)

pub one_end : (V : Type 0) (done : V) → IsOne V (End V done)
one_end V done v w a b x y (is_v, none) (is_w, nothing) same = (is_v ∙ sym is_w, ap (λ front. front ++ x) (sym none) ∙ (same ∙ ap (λ front. front ++ y) nothing))

pub stage_one : (V U : Type 0) (S : V → List ℕ → Type 0) (Is : U → Type 0) (text : U → List ℕ) (T : U → V → List ℕ → Type 0) → Stage V U S Is text T → ((u : U) → Is u → IsOne V (T u)) → IsOne V S
stage_one V U S Is text T stage ones v w a b x y left other same =
    let (u, more, is, first, front) = stage.to v a left in
    let (t, rest, is_t, second, back) = stage.to w b other in
    let whole : text u ++ (more ++ x) ≡ text t ++ (rest ++ y) =
    sym (append_assoc (text u) more x) ∙ (ap (λ part. part ++ x) (sym front) ∙ (same ∙ (ap (λ part. part ++ y) back ∙ append_assoc (text t) rest y))) in
    let known = stage.code u t (more ++ x) (rest ++ y) is is_t whole in
    ones u is v w more rest x y first (subst (λ (k : U). T k w rest) (sym known.0) second) known.1
