-- A node for a form whose parts were added before it.
use Rattle.std.proofs.Common.{◌≡◌, ◌<◌, ℕ, List, length, refl, sym, ap, Option, Some, None, ◌∙◌, arith}
use Rattle.std.specs.Prelude.{Result, Ok, Err, IfOk}
use Rattle.gos_types.specs.declared.fault.NoMemory.{NoMemory}
use Rattle.gos_model.specs.Terms.{Name, Term, If}
use Rattle.gos_model.specs.Linking.{with_giver, or_import, supplied}
use Rattle.gos_model.specs.Sources.{binder_of, bound_or_import, use_of}
use Rattle.gos_witness.specs.declared.adding.Supply.{Supply}
use Rattle.gos_witness.specs.declared.nodes.TwoParts.{TwoParts}
use Rattle.gos_witness.specs.declared.nodes.Form.TheVariants as forms
use Rattle.gos_witness.specs.NodeLists.{Listed, seen, shape, two_term}
use Rattle.gos_witness.specs.inner.Adding.{node_for, served, AreThere, Serves, IsAdded}
use Rattle.gos_witness.specs.inner.Keeping.{Keeps}
use Rattle.gos_witness.proofs.KeepLemmas.{keeps_twice}

-- supplies stay
pub still_there : (l l' : Listed) (ss : List Supply) → Keeps l l' → AreThere l ss → AreThere l' ss
still_there l l' ss k there x n e = let h = there x n e in omega (arith, h, k.more)

served_keeps : (l l' : Listed) (ss : List Supply) (x : Name) → Keeps l l' → AreThere l ss → served l' ss x ≡ served l ss x
served_keeps l l' ss x k there = by (node_for ss x) refl
  where
    by : (o : Option ℕ) → node_for ss x ≡ o → with_giver (seen l') o ≡ with_giver (seen l) o
    by None e = refl
    by (Some n) e = ap Some (k.terms n (there x n e))

pub serves_keeps : (l l' : Listed) (ss : List Supply) (f : Name → Option Term) → Keeps l l' → AreThere l ss → Serves l ss f → Serves l' ss f
serves_keeps l l' ss f k there serves x = served_keeps l l' ss x k there ∙ serves x

-- a form of two parts
pub added_two : (l0 l1 l2 l3 : Listed) (ss : List Supply) (g h : (Name → Option Term) → Term) (o : TwoParts) (m n i : ℕ)
    → AreThere l0 ss → IsAdded l0 l1 ss g m → Keeps l0 l1 → IsAdded l1 l2 ss h n → Keeps l1 l2
    → seen l3 i ≡ shape l2 (forms.Two o m n) → i < length l3.nodes → IsAdded l0 l3 ss (λ f. two_term o (g f) (h f)) i
added_two l0 l1 l2 l3 ss g h o m n i all a k b k' is there = record {
  there = there;
  term =
      λ f serves.
      is ∙ (λ j. two_term o ((k'.terms m a.there ∙ a.term f serves) j) (b.term f (serves_keeps l0 l1 ss f k all serves) j));
}

-- a choice
pub added_choice : (l0 l1 l2 l3 l4 : Listed) (ss : List Supply) (g h e : (Name → Option Term) → Term) (m n p i : ℕ)
    → AreThere l0 ss → IsAdded l0 l1 ss g m → Keeps l0 l1 → IsAdded l1 l2 ss h n → Keeps l1 l2 → IsAdded l2 l3 ss e p → Keeps l2 l3
    → seen l4 i ≡ shape l3 (forms.If m n p) → i < length l4.nodes → IsAdded l0 l4 ss (λ f. If (g f) (h f) (e f)) i
added_choice l0 l1 l2 l3 l4 ss g h e m n p i all a k b k' c k'' is there = record {
  there = there;
  term =
      λ f serves.
      is
      ∙ (λ j.
      If ((keeps_twice l1 l2 l3 k' k'').terms m a.there j) (k''.terms n b.there j) (seen l3 p))
      ∙ (λ j.
      If (a.term f serves j) (b.term f (serves_keeps l0 l1 ss f k all serves) j)
      (c.term f (serves_keeps l0 l2 ss f (keeps_twice l0 l1 l2 k k') all serves) j));
}

-- a name without a binder: the node of what serves it, or the import
pub added_supply : (l : Listed) (ss : List Supply) (names : List Name) (x : Name) (i : ℕ) → AreThere l ss → binder_of names x ≡ None → node_for ss x ≡ Some i
    → IsAdded l l ss (λ f. supplied f (use_of names x)) i
added_supply l ss names x i there free at = record {
  there = there x i at;
  term =
      λ f serves.
      sym
      (ap (λ b. supplied f (bound_or_import x b)) free
      ∙ ap (or_import x) (sym (serves x) ∙ ap (with_giver (seen l)) at));
}

-- and so where it is the answer of a push
pub push_two : (l0 l1 l2 l3 : Listed) (ss : List Supply) (g h : (Name → Option Term) → Term) (o : TwoParts) (m n : ℕ) (r : Result ℕ NoMemory)
    → AreThere l0 ss → IsAdded l0 l1 ss g m → Keeps l0 l1 → IsAdded l1 l2 ss h n → Keeps l1 l2
    → IfOk r (λ i. seen l3 i ≡ shape l2 (forms.Two o m n)) → IfOk r (λ i. i < length l3.nodes)
    → IfOk r (IsAdded l0 l3 ss (λ f. two_term o (g f) (h f)))
push_two l0 l1 l2 l3 ss g h o m n (Ok i) all a k b k' is there = added_two l0 l1 l2 l3 ss g h o m n i all a k b k' is there
push_two l0 l1 l2 l3 ss g h o m n (Err e) all a k b k' is there = tt

pub push_choice : (l0 l1 l2 l3 l4 : Listed) (ss : List Supply) (g h e : (Name → Option Term) → Term) (m n p : ℕ) (r : Result ℕ NoMemory)
    → AreThere l0 ss → IsAdded l0 l1 ss g m → Keeps l0 l1 → IsAdded l1 l2 ss h n → Keeps l1 l2 → IsAdded l2 l3 ss e p → Keeps l2 l3
    → IfOk r (λ i. seen l4 i ≡ shape l3 (forms.If m n p)) → IfOk r (λ i. i < length l4.nodes)
    → IfOk r (IsAdded l0 l4 ss (λ f. If (g f) (h f) (e f)))
push_choice l0 l1 l2 l3 l4 ss g h e m n p (Ok i) all a k b k' c k'' is there =
    added_choice l0 l1 l2 l3 l4 ss g h e m n p i all a k b k' c k'' is there
push_choice l0 l1 l2 l3 l4 ss g h e m n p (Err o) all a k b k' c k'' is there = tt
