-- Items one behind the other: where the first fails, or the second behind it, both do.
use Rattle.std.proofs.Common.{◌≡◌, inl, inr, ◌⊎◌, ℕ, zero, suc, ◌+◌, ◌-◌, ◌<◌, List, [], ◌∷◌, ◌++◌, length, map, refl, sym, ◌∙◌, ap, subst, arith, append_assoc, append-nil, length-append}
use Rattle.std.specs.List.{AllByRecursion, flat_map, slice_range}
use Rattle.std.proofs.lemmas.Grind.{flat_map-append}
use Rattle.std.proofs.lemmas.List.{append_cancel_left, map-append}
use Rattle.gos_lex.specs.Items.{TextAt}
use Rattle.gos_lex.proofs.PlaceLemmas.{length_slice, slice_split}
use Rattle.gos_lex.proofs.SequenceLemmas.{Then, IsCode, misses_as, then_first, then_rest, slice_front, same_fronts}
use Rattle.gos_plan.specs.declared.fault.ObjectFault.{ObjectFault}
use Rattle.gos_plan.specs.declared.fault.ObjectFault.TheVariants as faults
use Rattle.gos_plan.specs.TextItems.{Item, Spans, IsItem, Reads, Fails, Behind, both, plain, exactly, lines}

-- What every sort of items here has: none begins another, there is one, and no limit is exceeded in one that keeps them,
-- nor at two places.
pub record Lawful (A : Item) : Type 0 where
  pub code : IsCode A.Value A.Is A.text
  pub some : A.Value
  pub some_is : A.Is some
  pub under : (source : List ℕ) (at mid place : ℕ) (v : A.Value) → A.Is v → A.Keeps v → Spans source at mid (A.text v) → A.Over source at place → ⊥
  pub one : (source : List ℕ) (at p q : ℕ) → A.Over source at p → A.Over source at q → p ≡ q

-- two items at one place are the same
pub same_item : (A : Item) → IsCode A.Value A.Is A.text → (source : List ℕ) (at mid end : ℕ) (v w : A.Value) → A.Is v → A.Is w
    → Spans source at mid (A.text v) → Spans source at end (A.text w) → (v ≡ w) × (mid ≡ end)
same_item A code source at mid end v w is_v is_w one other =
    let last : ℕ = length source in
    let first : slice_range source at last ≡ A.text v ++ slice_range source mid last =
    slice_split source at mid last one.after one.within ∙ ap (λ front. front ++ slice_range source mid last) one.is in
    let second : slice_range source at last ≡ A.text w ++ slice_range source end last =
    slice_split source at end last other.after other.within ∙ ap (λ front. front ++ slice_range source end last) other.is in
    let known = code v w (slice_range source mid last) (slice_range source end last) is_v is_w (sym first ∙ second) in
    (known.0, omega (arith, ap length known.1, length_slice source mid last (omega arith), length_slice source end last (omega arith), one.within, other.within))

pub span_both : (source : List ℕ) (at mid end : ℕ) (a b : List ℕ) → Spans source at mid a → Spans source mid end b → Spans source at end (a ++ b)
span_both source at mid end a b first second =
    record {
      after = omega (arith, first.after, second.after);
      within = second.within;
      is = slice_split source at mid end first.after second.after ∙ (λ i. first.is i ++ second.is i);
    }

joined : (A : Item) (B : A.Value → Item) (bytes : List ℕ) → Then A.Value A.Is A.text (λ v. IsItem (B v)) bytes → IsItem (both A B) bytes
joined A B bytes (v, rest, is, (w, is_w, text), whole) = ((v, w), (is, is_w), whole ∙ ap (λ more. A.text v ++ more) text)

cut : (A : Item) (B : A.Value → Item) (bytes : List ℕ) → IsItem (both A B) bytes → Then A.Value A.Is A.text (λ v. IsItem (B v)) bytes
cut A B bytes ((v, w), (is, is_w), whole) = (v, (B v).text w, is, (w, is_w, refl), whole)

-- where the first fails, both do
pub first_fails : (A : Item) (B : A.Value → Item) → ((v : A.Value) → A.Is v → (w : (B v).Value) × (B v).Is w) → (source : List ℕ) (at : ℕ) (fault : ObjectFault)
    → Fails A source at fault → Fails (both A B) source at fault
first_fails A B some source at (faults.Form place) (misses, none) = (
  misses_as (Then A.Value A.Is A.text (λ v. IsItem (B v))) (IsItem (both A B)) source at place (joined A B) (cut A B)
      (then_first A.Value A.Is A.text (λ v. IsItem (B v)) source at place
      (λ v is. let next = some v is in ((B v).text next.0, (next.0, next.1, refl))) misses),
  no_over,
)
  where
    no_over : (p : ℕ) → A.Over source at p ⊎ Behind A (λ v. (B v).Over) source at p → ⊥
    no_over p (inl over) = none p over
    no_over p (inr (v, mid, is, keeps, spans, over)) = misses.none mid spans.after spans.within (v, is, spans.is)
first_fails A B some source at (faults.Limit place) over = inl over
first_fails A B some source at (faults.Joint index) none = none
first_fails A B some source at faults.NoMemory any = tt

-- where the second fails behind the first, both do
rest_here : (A : Item) (B : A.Value → Item) → Lawful A → (source : List ℕ) (at mid : ℕ) (v : A.Value) → A.Is v → A.Keeps v → Spans source at mid (A.text v) → (fault : ObjectFault)
    → Fails (B v) source mid fault → Fails (both A B) source at fault
rest_here A B law source at mid v is keeps spans (faults.Form place) (misses, none) = (
  misses_as (Then A.Value A.Is A.text (λ v. IsItem (B v))) (IsItem (both A B)) source at place (joined A B) (cut A B)
      (then_rest A.Value A.Is A.text (λ v. IsItem (B v)) source at mid place v law.code is spans.after spans.within spans.is misses),
  no_over,
)
  where
    no_over : (p : ℕ) → A.Over source at p ⊎ Behind A (λ v. (B v).Over) source at p → ⊥
    no_over p (inl over) = law.under source at mid p v is keeps spans over
    no_over p (inr (w, end, is_w, keeps_w, spans_w, over)) =
        let known = same_item A law.code source at mid end v w is is_w spans spans_w in
        none p (subst (λ (u : A.Value). (B u).Over source mid p) (sym known.0) (subst (λ (n : ℕ). (B w).Over source n p) (sym known.1) over))
rest_here A B law source at mid v is keeps spans (faults.Limit place) over = inr (v, mid, is, keeps, spans, over)
rest_here A B law source at mid v is keeps spans (faults.Joint index) none = none
rest_here A B law source at mid v is keeps spans faults.NoMemory any = tt

pub rest_fails : (A : Item) (B : A.Value → Item) → Lawful A → (old mid : TextAt) (v : A.Value) → Reads A old mid v → (fault : ObjectFault)
    → Fails (B v) mid.text mid.at fault → Fails (both A B) old.text old.at fault
rest_fails A B law old mid v reads fault fails =
    rest_here A B law old.text old.at mid.at v reads.is reads.keeps reads.spans fault (subst (λ (text : List ℕ). Fails (B v) text mid.at fault) reads.same fails)

-- one is read, and then the other
pub both_read : (A : Item) (B : A.Value → Item) (old mid new : TextAt) (v : A.Value) (w : (B v).Value) → Reads A old mid v → Reads (B v) mid new w → Reads (both A B) old new (v, w)
both_read A B old mid new v w first second =
    record {
      same = second.same ∙ first.same;
      spans = span_both old.text old.at mid.at new.at (A.text v) ((B v).text w) first.spans (subst (λ (text : List ℕ). Spans text mid.at new.at ((B v).text w)) first.same second.spans);
      is = (first.is, second.is);
      keeps = (first.keeps, second.keeps);
    }

-- a value of both
abbrev two : (A : Item) (B : A.Value → Item) (v : A.Value) → (B v).Value → (both A B).Value
two A B v w = (v, w)

code_both : (A : Item) (B : A.Value → Item) → IsCode A.Value A.Is A.text → (v : A.Value) → IsCode (B v).Value (B v).Is (B v).text → (w : A.Value) (v2 : (B v).Value) (w2 : (B w).Value) (x y : List ℕ)
    → A.Is v → A.Is w → (B v).Is v2 → (B w).Is w2 → (A.text v ++ (B v).text v2) ++ x ≡ (A.text w ++ (B w).text w2) ++ y
    → (two A B v v2 ≡ two A B w w2) × (x ≡ y)
code_both A B code v code_rest w v2 w2 x y is_v is_w is_v2 is_w2 same =
    let first = code v w ((B v).text v2 ++ x) ((B w).text w2 ++ y) is_v is_w
    (sym (append_assoc (A.text v) ((B v).text v2) x) ∙ (same ∙ append_assoc (A.text w) ((B w).text w2) y)) in
    subst (λ (u : A.Value). (u2 : (B u).Value) → (B u).Is u2 → (B v).text v2 ++ x ≡ (B u).text u2 ++ y → (two A B v v2 ≡ two A B u u2) × (x ≡ y)) first.0
    (λ u2 is_u2 rest. let second = code_rest v2 u2 x y is_v2 is_u2 rest in ((λ i. two A B v (second.0 i)), second.1)) w2 is_w2 first.1

-- the end of an item that stands at the front of a span
pub span_front : (source : List ℕ) (at end : ℕ) (a b : List ℕ) → Spans source at end (a ++ b) → Spans source at (at + length a) a × Spans source (at + length a) end b
span_front source at end a b spans =
    let front = slice_front source at end a b spans.after spans.within spans.is in
    let mid : ℕ = at + length a in
    let split = slice_split source at mid end (omega arith) front.0 in
    let known = same_fronts (slice_range source at mid) (slice_range source mid end) a b (sym split ∙ spans.is) (ap length front.1) in (
      record { after = omega arith; within = omega (arith, front.0, spans.within); is = front.1 },
      record { after = front.0; within = spans.within; is = known.1 },
    )

-- no limit is exceeded in two that keep them
pub under_both : (A : Item) (B : A.Value → Item) → IsCode A.Value A.Is A.text → (v : A.Value) (w : (B v).Value) → A.Is v
    → ((source : List ℕ) (at mid place : ℕ) → Spans source at mid (A.text v) → A.Over source at place → ⊥)
    → ((source : List ℕ) (at mid place : ℕ) → Spans source at mid ((B v).text w) → (B v).Over source at place → ⊥)
    → (source : List ℕ) (at end place : ℕ) → Spans source at end (A.text v ++ (B v).text w) → (both A B).Over source at place → ⊥
under_both A B code v w is under_first under source at end place spans (inl over) =
    let parts = span_front source at end (A.text v) ((B v).text w) spans in
    under_first source at (at + length (A.text v)) place parts.0 over
under_both A B code v w is under_first under source at end place spans (inr (u, mid, is_u, keeps_u, spans_u, over)) =
    let parts = span_front source at end (A.text v) ((B v).text w) spans in
    let known = same_item A code source at (at + length (A.text v)) mid v u is is_u parts.0 spans_u in
    under source (at + length (A.text v)) end place parts.1
    (subst (λ (u : A.Value). (B u).Over source (at + length (A.text v)) place) (sym known.0) (subst (λ (n : ℕ). (B u).Over source n place) (sym known.1) over))

-- and at one place alone it is exceeded
pub one_behind : (A : Item) → IsCode A.Value A.Is A.text → (Over Other : A.Value → List ℕ → ℕ → ℕ → Type 0)
    → ((v : A.Value) (source : List ℕ) (at p q : ℕ) → A.Is v → A.Keeps v → Over v source at p → Other v source at q → p ≡ q)
    → (source : List ℕ) (at p q : ℕ) → Behind A Over source at p → Behind A Other source at q → p ≡ q
one_behind A code Over Other one source at p q (v, mid, is, keeps, spans, over) (w, end, is_w, keeps_w, spans_w, other) =
    let known = same_item A code source at mid end v w is is_w spans spans_w in
    one v source mid p q is keeps over (subst (λ (u : A.Value). Other u source mid q) (sym known.0) (subst (λ (n : ℕ). Other w source n q) (sym known.1) other))

one_both : (A : Item) (B : A.Value → Item) → Lawful A → ((v : A.Value) → A.Is v → (source : List ℕ) (at p q : ℕ) → (B v).Over source at p → (B v).Over source at q → p ≡ q)
    → (source : List ℕ) (at p q : ℕ) → (both A B).Over source at p → (both A B).Over source at q → p ≡ q
one_both A B law one source at p q (inl over) (inl other) = law.one source at p q over other
one_both A B law one source at p q (inl over) (inr (v, mid, is, keeps, spans, other)) = absurd (law.under source at mid p v is keeps spans over)
one_both A B law one source at p q (inr (v, mid, is, keeps, spans, over)) (inl other) = absurd (law.under source at mid q v is keeps spans other)
one_both A B law one source at p q (inr over) (inr other) = one_behind A law.code (λ v. (B v).Over) (λ v. (B v).Over) (λ v text start a b is keeps here there. one v is text start a b here there) source at p q over other

-- Both are lawful where each is.
pub lawful_both : (A : Item) (B : A.Value → Item) → Lawful A → ((v : A.Value) → A.Is v → Lawful (B v)) → Lawful (both A B)
lawful_both A B law laws =
    record {
      code = λ v w x y is is_w same. code_both A B law.code v.0 (laws v.0 is.0).code w.0 v.1 w.1 x y is.0 is_w.0 is.1 is_w.1 same;
      some = (law.some, (laws law.some law.some_is).some);
      some_is = (law.some_is, (laws law.some law.some_is).some_is);
      under = λ source at mid place v is keeps spans over.
          under_both A B law.code v.0 v.1 is.0 (λ text start end p spans_v. law.under text start end p v.0 is.0 keeps.0 spans_v)
          (λ text start end p spans_v. (laws v.0 is.0).under text start end p v.1 is.1 keeps.1 spans_v) source at mid place spans over;
      one = one_both A B law (λ v is. (laws v is).one);
    }

-- Items without limits are lawful where none begins another.
pub lawful_plain : (V : Type 0) (Is : V → Type 0) (text : V → List ℕ) → IsCode V Is text → (v : V) → Is v → Lawful (plain V Is text)
lawful_plain V Is text code v is =
    record {
      code = code;
      some = v;
      some_is = is;
      under = λ source at mid place v is keeps spans over. over;
      one = λ source at p q over other. absurd over;
    }

pub lawful_exactly : (bytes : List ℕ) → Lawful (exactly bytes)
lawful_exactly bytes = lawful_plain (Unit {0}) (λ v. Unit {0}) (λ v. bytes) (λ v w x y is is_w same. (refl, append_cancel_left bytes x y same)) tt tt

-- Items that are others in another shape.
pub record Via (P A : Item) : Type 0 where
  pub into : P.Value → A.Value
  pub from : A.Value → P.Value
  pub text : (w : P.Value) → P.Is w → P.text w ≡ A.text (into w)
  pub is : (w : P.Value) → P.Is w → A.Is (into w)
  pub keeps : (w : P.Value) → P.Is w → P.Keeps w → A.Keeps (into w)
  pub back : (w : P.Value) → P.Is w → from (into w) ≡ w
  pub from_is : (v : A.Value) → A.Is v → P.Is (from v)
  pub there : (v : A.Value) → A.Is v → into (from v) ≡ v
  pub over : (source : List ℕ) (at place : ℕ) → P.Over source at place → A.Over source at place
  pub over_back : (source : List ℕ) (at place : ℕ) → A.Over source at place → P.Over source at place

via_joined : (P A : Item) → Via P A → (bytes : List ℕ) → IsItem A bytes → IsItem P bytes
via_joined P A via bytes (v, is, whole) =
    let is_w = via.from_is v is in
    (via.from v, is_w, whole ∙ (ap A.text (sym (via.there v is)) ∙ sym (via.text (via.from v) is_w)))

via_cut : (P A : Item) → Via P A → (bytes : List ℕ) → IsItem P bytes → IsItem A bytes
via_cut P A via bytes (w, is, whole) = (via.into w, via.is w is, whole ∙ via.text w is)

pub via_fails : (P A : Item) → Via P A → (source : List ℕ) (at : ℕ) (fault : ObjectFault) → Fails A source at fault → Fails P source at fault
via_fails P A via source at (faults.Form place) (misses, none) =
    (misses_as (IsItem A) (IsItem P) source at place (via_joined P A via) (via_cut P A via) misses, λ p over. none p (via.over source at p over))
via_fails P A via source at (faults.Limit place) over = via.over_back source at place over
via_fails P A via source at (faults.Joint index) none = none
via_fails P A via source at faults.NoMemory any = tt

pub reads_as : (P A : Item) (old new : TextAt) (w : P.Value) (v : A.Value) → P.text w ≡ A.text v → P.Is w → P.Keeps w → Reads A old new v → Reads P old new w
reads_as P A old new w v text is keeps reads =
    record { same = reads.same; spans = subst (Spans old.text old.at new.at) (sym text) reads.spans; is = is; keeps = keeps }

pub via_lawful : (P A : Item) → Via P A → Lawful A → Lawful P
via_lawful P A via law =
    record {
      code = λ v w x y is is_w same.
          let known = law.code (via.into v) (via.into w) x y (via.is v is) (via.is w is_w)
          (ap (λ front. front ++ x) (sym (via.text v is)) ∙ (same ∙ ap (λ front. front ++ y) (via.text w is_w))) in
          (sym (via.back v is) ∙ (ap via.from known.0 ∙ via.back w is_w), known.1);
      some = via.from law.some;
      some_is = via.from_is law.some law.some_is;
      under = λ source at mid place v is keeps spans over.
          law.under source at mid place (via.into v) (via.is v is) (via.keeps v is keeps) (subst (Spans source at mid) (via.text v is) spans) (via.over source at place over);
      one = λ source at p q over other. law.one source at p q (via.over source at p over) (via.over source at q other);
    }

-- So many items: one, and the others behind it.
lines_via : (A : Item) → Lawful A → (k : ℕ) → Via (lines A (suc k)) (both A (λ v. lines A k))
lines_via A law k =
    record {
      into = first;
      from = λ v. v.0 ∷ v.1;
      text = text_is;
      is = parts_are;
      keeps = parts_keep;
      back = back;
      from_is = λ v is. (ap suc is.1.0, (is.0, is.1.1));
      there = λ v is. refl;
      over = λ source at place over. over;
      over_back = λ source at place over. over;
    }
  where
    first : List A.Value → (v : A.Value) × List A.Value
    first [] = (law.some, [])
    first (v ∷ vs) = (v, vs)

    text_is : (vs : List A.Value) → (lines A (suc k)).Is vs → flat_map A.text vs ≡ (both A (λ v. lines A k)).text (first vs)
    text_is [] is = absurd (omega (arith, is.0))
    text_is (v ∷ vs) is = refl

    parts_are : (vs : List A.Value) → (lines A (suc k)).Is vs → (both A (λ v. lines A k)).Is (first vs)
    parts_are [] is = absurd (omega (arith, is.0))
    parts_are (v ∷ vs) is = (is.1.0, (omega (arith, is.0), is.1.1))

    parts_keep : (vs : List A.Value) → (lines A (suc k)).Is vs → (lines A (suc k)).Keeps vs → (both A (λ v. lines A k)).Keeps (first vs)
    parts_keep [] is keeps = absurd (omega (arith, is.0))
    parts_keep (v ∷ vs) is keeps = keeps

    back : (vs : List A.Value) → (lines A (suc k)).Is vs → (first vs).0 ∷ (first vs).1 ≡ vs
    back [] is = absurd (omega (arith, is.0))
    back (v ∷ vs) is = refl

pub lawful_lines : (A : Item) → Lawful A → (k : ℕ) → Lawful (lines A k)
lawful_lines A law zero =
    record {
      code = none_code;
      some = [];
      some_is = (refl, tt);
      under = λ source at mid place v is keeps spans over. over;
      one = λ source at p q over other. absurd over;
    }
  where
    none_code : IsCode (List A.Value) (lines A zero).Is (flat_map A.text)
    none_code [] [] x y is is_w same = (refl, same)
    none_code (v ∷ vs) ws x y is is_w same = absurd (omega (arith, is.0))
    none_code [] (w ∷ ws) x y is is_w same = absurd (omega (arith, is_w.0))
lawful_lines A law (suc k) = via_lawful (lines A (suc k)) (both A (λ v. lines A k)) (lines_via A law k) (lawful_both A (λ v. lines A k) law (λ v is. lawful_lines A law k))

-- Some items are read, so many are left.
pub record SoFar (A : Item) (count : ℕ) (old now : TextAt) (vs : List A.Value) (left : ℕ) : Type 0 where
  pub same : now.text ≡ old.text
  pub spans : Spans old.text old.at now.at (flat_map A.text vs)
  pub counted : length vs + left ≡ count
  pub are : AllByRecursion A.Is vs
  pub keep : AllByRecursion A.Keeps vs
  pub fails : (fault : ObjectFault) → Fails (lines A left) old.text now.at fault → Fails (lines A count) old.text old.at fault

all_more : (V : Type 0) (Is : V → Type 0) (vs : List V) (v : V) → AllByRecursion Is vs → Is v → AllByRecursion Is (vs ++ v ∷ [])
all_more V Is [] v all is = (is, tt)
all_more V Is (u ∷ vs) v all is = (all.0, all_more V Is vs v all.1 is)

one_more : (A : Item) → Lawful A → (count : ℕ) (old mid new : TextAt) (vs : List A.Value) (before left : ℕ) (v : A.Value) → before ≡ suc left
    → SoFar A count old mid vs before → Reads A mid new v → SoFar A count old new (vs ++ v ∷ []) left
one_more A law count old mid new vs before left v fewer far reads =
    let spans : Spans old.text mid.at new.at (A.text v) = subst (λ (source : List ℕ). Spans source mid.at new.at (A.text v)) far.same reads.spans in
    let text : flat_map A.text vs ++ A.text v ≡ flat_map A.text (vs ++ v ∷ []) =
    ap (λ more. flat_map A.text vs ++ more) (sym (append-nil (A.text v))) ∙ sym (flat_map-append A.text vs (v ∷ [])) in
    record {
      same = reads.same ∙ far.same;
      spans = subst (Spans old.text old.at new.at) text (span_both old.text old.at mid.at new.at (flat_map A.text vs) (A.text v) far.spans spans);
      counted = omega (arith, far.counted, length-append vs (v ∷ []), fewer);
      are = all_more A.Value A.Is vs v far.are reads.is;
      keep = all_more A.Value A.Keeps vs v far.keep reads.keeps;
      fails = λ fault fails.
          far.fails fault (subst (λ (k : ℕ). Fails (lines A k) old.text mid.at fault) (sym fewer)
          (via_fails (lines A (suc left)) (both A (λ v. lines A left)) (lines_via A law left) old.text mid.at fault
          (rest_here A (λ v. lines A left) law old.text mid.at new.at v reads.is reads.keeps spans fault fails)));
    }

-- one more is read into a list, of whose elements f tells what they are
pub pushed_more : {V : Type 0} (A : Item) (f : V → A.Value) → Lawful A → (count : ℕ) (old mid new : TextAt) (vs longer : List V) (before : ℕ) (v : V) → 0 < before → longer ≡ vs ++ v ∷ []
    → SoFar A count old mid (map f vs) before → Reads A mid new (f v) → SoFar A count old new (map f longer) (before - 1)
pushed_more {V} A f law count old mid new vs longer before v some pushed far reads =
    let fewer : before ≡ suc (before - 1) = omega (arith, some) in
    let is : map f longer ≡ map f vs ++ f v ∷ [] = ap (map f) pushed ∙ map-append f vs (v ∷ []) in
    subst (λ (ws : List A.Value). SoFar A count old new ws (before - 1)) (sym is) (one_more A law count old mid new (map f vs) before (before - 1) (f v) fewer far reads)

-- where an item fails, they all do
pub no_more : (A : Item) → Lawful A → (count : ℕ) (old mid : TextAt) (vs : List A.Value) (before : ℕ) → 0 < before
    → SoFar A count old mid vs before → (fault : ObjectFault) → Fails A mid.text mid.at fault → Fails (lines A count) old.text old.at fault
no_more A law count old mid vs before some far fault fails =
    let left : ℕ = before - 1 in
    let fewer : before ≡ suc left = omega (arith, some) in
    far.fails fault (subst (λ (k : ℕ). Fails (lines A k) old.text mid.at fault) (sym fewer)
    (via_fails (lines A (suc left)) (both A (λ v. lines A left)) (lines_via A law left) old.text mid.at fault
    (first_fails A (λ v. lines A left) (λ v is. let some = lawful_lines A law left in (some.some, some.some_is)) old.text mid.at fault (subst (λ (source : List ℕ). Fails A source mid.at fault) far.same fails))))

-- all are read
pub all_read : (A : Item) (count : ℕ) (old new : TextAt) (vs : List A.Value) (left : ℕ) → left ≡ 0 → SoFar A count old new vs left → Reads (lines A count) old new vs
all_read A count old new vs left none far =
    record { same = far.same; spans = far.spans; is = (omega (arith, far.counted, none), far.are); keeps = far.keep }
