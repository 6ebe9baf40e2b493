-- What the pins of a cell allow, and a table of the cells so far.
--
-- Read first: Breaches.
use Rattle.std.specs.Prelude.{◌≡◌, ◌≢◌, ◌⊎◌, ℕ, ◌+◌, ◌<◌, ◌≤◌, Bool, true, false, cond, ◌↔◌, List, length, Option, Some, None, IsNone, IfSome, MatchOption, slice_get}
use Rattle.std.proofs.Common.{arith, rules, eqb, eq-eqb, refl, sym, ap, subst, inl, inr, ◌∙◌}
use Rattle.std.proofs.lemmas.Bool.{cases_order, and_parts, and_from, eqb-true}
use Rattle.std.proofs.lemmas.Option.{same_Some, slice_get_within}
use Rattle.indexmap.specs.IndexMap.{IndexMap, get}
use Rattle.gos_netlist.specs.Nets.{Function, Input, Const, Not, And, Or, Xor, Mux, Add, Sub, Eq, Less, Gate, Reg, Cell}
use Rattle.gos_tidy.specs.declared.breach.Change.{Change}
use Rattle.gos_tidy.specs.declared.breach.Change.TheVariants as change
use Rattle.gos_tidy.specs.declared.shape.Shape.{Shape}
use Rattle.gos_tidy.specs.declared.shape.Kind.{Kind}
use Rattle.gos_tidy.specs.contracts.shape.ShapePartialEq.TheImpl.{eq-value}
use Rattle.gos_tidy.specs.contracts.shape.KindPartialEq.TheImpl.{eq-value as kind-eq}
use Rattle.gos_tidy.specs.Mapped.{IsXorOf}
use Rattle.gos_tidy.specs.Tidy.{AllLead, IsSpare, IsTidy}
use Rattle.gos_tidy.specs.inner.Shapes.{shape_in, shape_of, cell_by}
use Rattle.gos_tidy.specs.inner.Breaches.{Allows, MayBe, IsFirm, IsAgain, IsNew, IsFirmAt, AllFirm, HasCells}
use Rattle.gos_tidy.proofs.NarrowLemmas.{less_or}
use Rattle.gos_tidy.proofs.RenamedLemmas.{one_cell, one_gate, xor_gate}

-- A shape is of one cell.

cell_in : (w : ℕ) (g : Function) → cell_by (shape_in w g) ≡ record { width = w; gate = g }
cell_in w Input = refl
cell_in w (Const k) = refl
cell_in w (Not a) = refl
cell_in w (And a b) = refl
cell_in w (Or a b) = refl
cell_in w (Xor a b) = refl
cell_in w (Mux s a b) = refl
cell_in w (Add a b) = refl
cell_in w (Sub a b) = refl
cell_in w (Eq a b) = refl
cell_in w (Less a b) = refl
cell_in w (Gate s a) = refl
cell_in w (Reg a) = refl

same_shape : (c d : Cell) → shape_of c ≡ shape_of d → c ≡ d
same_shape c d same = sym (cell_in c.width c.gate) ∙ (ap cell_by same ∙ cell_in d.width d.gate)

-- shapes that are told to be one are one
told_kind : (k l : Kind) → (kind-eq.it k l ≡ true) ↔ (k ≡ l)
told_kind k l = search rules

told_same : (s t : Shape) → (eq-value.it s t ≡ true) ↔ (s ≡ t)
told_same s t = (one, back)
  where
    one : eq-value.it s t ≡ true → s ≡ t
    one told =
        let (width, rest) = and_parts (eqb s.width t.width) _ told in
        let (kind, pins) = and_parts (kind-eq.it s.kind t.kind) _ rest in
        let (first, later) = and_parts (eqb s.first t.first) _ pins in
        let (second, last) = and_parts (eqb s.second t.second) _ later in
        let (third, number) = and_parts (eqb s.third t.third) (eqb s.number t.number) last in
        λ i. record {
          width = eqb-true s.width t.width width i;
          kind = (told_kind s.kind t.kind).0 kind i;
          first = eqb-true s.first t.first first i;
          second = eqb-true s.second t.second second i;
          third = eqb-true s.third t.third third i;
          number = eqb-true s.number t.number number i;
        }

    itself : eq-value.it s s ≡ true
    itself =
        and_from (eqb s.width s.width) _ (eq-eqb s.width s.width refl)
        (and_from (kind-eq.it s.kind s.kind) _ ((told_kind s.kind s.kind).1 refl)
        (and_from (eqb s.first s.first) _ (eq-eqb s.first s.first refl)
        (and_from (eqb s.second s.second) _ (eq-eqb s.second s.second refl)
        (and_from (eqb s.third s.third) (eqb s.number s.number) (eq-eqb s.third s.third refl) (eq-eqb s.number s.number refl)))))

    back : s ≡ t → eq-value.it s t ≡ true
    back same = subst (λ (x : Shape). eq-value.it s x ≡ true) same itself

no_entry : (k : ℕ) (o : Option ℕ) → o ≡ Some k → o ≡ None → ⊥
no_entry k o some none = let never : Some k ≡ None = sym some ∙ none in cc

-- One cell more.

module _ (cells : List Cell) (n : ℕ) (c : Cell) (there : slice_get cells n ≡ Some c) where
  here : (k : ℕ) (d : Cell) → n ≤ k → k < n + 1 → slice_get cells k ≡ Some d → c ≡ d
  here k d above below is =
      let same : n ≡ k = omega (arith, above, below) in
      one_cell cells n c d there (subst (λ (x : ℕ). slice_get cells x ≡ Some d) (sym same) is)

  pub input_is_new : c.gate ≡ Input → IsNew cells n
  input_is_new input m (d, less, at_m, at_n, other) = other (one_gate cells n d c at_n there ∙ input)

module _ {S : Type 0} (cells : List Cell) (n : ℕ) (c : Cell) (there : slice_get cells n ≡ Some c) where
  pub table_past : (table : IndexMap Shape ℕ S) → c.gate ≡ Input → HasCells cells n table → HasCells cells (n + 1) table
  table_past table input has =
      record {
        all = λ k d low is other. all k d is other low (less_or k n);
        only = λ s k is.
            let (d, less, at_k, shape) = has.only s k is in
            (d, omega (arith, less), at_k, shape);
      }
    where
      all : (k : ℕ) (d : Cell) → slice_get cells k ≡ Some d → d.gate ≢ Input → k < n + 1 → (k < n) ⊎ (n ≤ k) → get eq-value.it table (shape_of d) ≢ None
      all k d is other low (inl less) = has.all k d less is other
      all k d is other low (inr above) = absurd (other (ap (λ (x : Cell). x.gate) (sym (here cells n c there k d above low is)) ∙ input))

  absent_is_new : (table : IndexMap Shape ℕ S) → HasCells cells n table → get eq-value.it table (shape_of c) ≡ None → IsNew cells n
  absent_is_new table has none m (d, less, at_m, at_n, other) =
      let same : c ≡ d = one_cell cells n c d there at_n in
      has.all m d less at_m other (subst (λ (x : Cell). get eq-value.it table (shape_of x) ≡ None) same none)

  present_is_again : (table : IndexMap Shape ℕ S) (m : ℕ) → HasCells cells n table → c.gate ≢ Input → get eq-value.it table (shape_of c) ≡ Some m → IsAgain cells m n
  present_is_again table m has other is =
      let (d, less, at_m, shape) = has.only (shape_of c) m is in
      (c, less, at_m ∙ ap (λ (x : Cell). Some x) (same_shape d c shape), there, other)

  -- what the table had for a shape, which is the cell's
  pub found_again : (table : IndexMap Shape ℕ S) (s : Shape) (o : Option ℕ) → s ≡ shape_of c → o ≡ get eq-value.it table s → HasCells cells n table → c.gate ≢ Input
      → IfSome o (λ m. IsAgain cells m n)
  found_again table s None is found has other = tt
  found_again table s (Some m) is found has other =
      present_is_again table m has other (sym (found ∙ ap (λ (x : Shape). get eq-value.it table x) is))

  pub found_new : (table : IndexMap Shape ℕ S) (s : Shape) (o : Option ℕ) → s ≡ shape_of c → o ≡ get eq-value.it table s → HasCells cells n table → IsNone o → IsNew cells n
  found_new table s None is found has none = absent_is_new table has (sym (found ∙ ap (λ (x : Shape). get eq-value.it table x) is))
  found_new table s (Some m) is found has none = absurd (cc none)

  pub table_more : (table new : IndexMap Shape ℕ S) (key : Shape) → key ≡ shape_of c → HasCells cells n table
      → ((s : Shape) → get eq-value.it new s ≡ cond (eq-value.it key s) (Some n) (get eq-value.it table s)) → HasCells cells (n + 1) new
  table_more table new key keyed has updates =
      record {
        all = λ k d low is other none. all k d is other low none (eq-value.it (shape_of c) (shape_of d)) refl (less_or k n);
        only = λ s k is. only s k is (eq-value.it (shape_of c) s) refl;
      }
    where
      entry : (s : Shape) (b : Bool) → eq-value.it (shape_of c) s ≡ b → get eq-value.it new s ≡ cond b (Some n) (get eq-value.it table s)
      entry s b told = updates s ∙ ap (λ (x : Bool). cond x (Some n) (get eq-value.it table s)) (ap (λ (x : Shape). eq-value.it x s) keyed ∙ told)

      all : (k : ℕ) (d : Cell) → slice_get cells k ≡ Some d → d.gate ≢ Input → k < n + 1 → get eq-value.it new (shape_of d) ≡ None
          → (b : Bool) → eq-value.it (shape_of c) (shape_of d) ≡ b → (k < n) ⊎ (n ≤ k) → ⊥
      all k d is other low none true told place = no_entry n (get eq-value.it new (shape_of d)) (entry (shape_of d) true told) none
      all k d is other low none false told (inl less) = has.all k d less is other (sym (entry (shape_of d) false told) ∙ none)
      all k d is other low none false told (inr above) =
          let one : eq-value.it (shape_of c) (shape_of d) ≡ true = (told_same (shape_of c) (shape_of d)).1 (ap shape_of (here cells n c there k d above low is)) in
          let never : true ≡ false = sym one ∙ told in
          cc

      only : (s : Shape) (k : ℕ) → get eq-value.it new s ≡ Some k → (b : Bool) → eq-value.it (shape_of c) s ≡ b
          → (d : Cell) × (k < n + 1) × (slice_get cells k ≡ Some d) × (shape_of d ≡ s)
      only s k is true told =
          let place : n ≡ k = same_Some n k (sym (entry s true told) ∙ is) in
          (c, omega (arith, place), subst (λ (x : ℕ). slice_get cells x ≡ Some c) place there, (told_same (shape_of c) s).0 told)
      only s k is false told =
          let (d, less, at_k, shape) = has.only s k (sym (entry s false told) ∙ is) in
          (d, omega (arith, less), at_k, shape)

-- What the pins allow may be.

pub may_be : (cells : List Cell) (n : ℕ) (c : Cell) → slice_get cells n ≡ Some c → (r : Change) → Allows cells c.width c.gate r → MayBe cells n r
may_be cells n c there (change.Number k) h = (c, there, h)
may_be cells n c there (change.Net t) h = (c, there, inl h)

pub at_width : (cells : List Cell) (w : ℕ) (g : Function) (o : Option Change) → IfSome o (λ r. (x : ℕ) → Allows cells x g r) → IfSome o (Allows cells w g)
at_width cells w g None h = tt
at_width cells w g (Some r) h = h w

-- a net that isn't the Xor of a net and another one, by its gate
pub no_rest : {T : Type 0} (cells : List Cell) (n a : ℕ) (c : Cell) (found : T → Type 0) (o : Option T) → slice_get cells n ≡ Some c
    → MatchOption o ((t : ℕ) → (c.gate ≡ Xor a t) ⊎ (c.gate ≡ Xor t a) → ⊥) found → IsNone o → (w t : ℕ) → IsXorOf cells w n a t → ⊥
no_rest cells n a c found None there never none w t is = never t (xor_gate cells n w a t c is there)
no_rest cells n a c found (Some r) there rest none w t is = absurd (cc none)

-- neither net is the Xor of the other one and of a third
pub none_left : (cells : List Cell) (a b : ℕ) → ((w t : ℕ) → IsXorOf cells w b a t → ⊥) → ((w t : ℕ) → IsXorOf cells w a b t → ⊥) → IsSpare cells (Xor a b) → ⊥
none_left cells a b first second (w, t, inl is) = first w t is
none_left cells a b first second (w, t, inr is) = second w t is

pub none_of : (o : Option Change) → ((r : Change) → o ≡ Some r → ⊥) → IsNone o
none_of None never = refl
none_of (Some r) never = absurd (never r refl)

pub firm_at : (cells : List Cell) (n : ℕ) (c : Cell) → slice_get cells n ≡ Some c → IsFirm cells c.gate → IsNew cells n → IsFirmAt cells n
firm_at cells n c there firm new = record {
  firm = λ d is. subst (λ (x : Cell). IsFirm cells x.gate) (one_cell cells n c d there is) firm;
  new = new;
}

-- All cells so far, and all.

pub firm_more : (cells : List Cell) (n : ℕ) → ((k : ℕ) → k < n → IsFirmAt cells k) → IsFirmAt cells n → (k : ℕ) → k < n + 1 → IsFirmAt cells k
firm_more cells n before this k low = by_place (less_or k n)
  where
    by_place : (k < n) ⊎ (n ≤ k) → IsFirmAt cells k
    by_place (inl less) = before k less
    by_place (inr above) = let same : n ≡ k = omega (arith, above, low) in subst (IsFirmAt cells) same this

pub firm_all : (cells : List Cell) (n : ℕ) → length cells ≤ n → ((k : ℕ) → k < n → IsFirmAt cells k) → AllFirm cells
firm_all cells n past before k = by_place (less_or k n)
  where
    by_place : (k < n) ⊎ (n ≤ k) → IsFirmAt cells k
    by_place (inl less) = before k less
    by_place (inr above) =
        record {
          firm = λ c is. absurd (let within = slice_get_within cells k c is in omega (arith, within, past, above));
          new = λ m (c, less, at_m, is, other). let within = slice_get_within cells k c is in omega (arith, within, past, above);
        }

-- cells of which none may be changed, and which all lead to these nets, are tidy
pub firm_tidy : (cells : List Cell) (ends : List ℕ) → AllFirm cells → AllLead cells ends → IsTidy cells ends
firm_tidy cells ends firm lead =
    record {
      leads = lead;
      once = λ m n c at_m at_n other. by_order m n c at_m at_n other (cases_order m n);
      folded = λ n c is folds names. ((firm n).firm c is).folded folds names;
      short = λ n c is spare. ((firm n).firm c is).short spare;
    }
  where
    by_order : (m n : ℕ) (c : Cell) → slice_get cells m ≡ Some c → slice_get cells n ≡ Some c → c.gate ≢ Input → (m ≡ n) ⊎ ((m < n) ⊎ (n < m)) → m ≡ n
    by_order m n c at_m at_n other (inl same) = same
    by_order m n c at_m at_n other (inr (inl less)) = absurd ((firm n).new m (c, less, at_m, at_n, other))
    by_order m n c at_m at_n other (inr (inr more)) = absurd ((firm m).new n (c, more, at_n, at_m, other))
