-- Readers: what stands on a chain is found there, and goes on standing there when others are added.
use Rattle.std.specs.Prelude.{◌≡◌, ◌≢◌, ℕ, ◌+◌, ◌<◌, ◌⊎◌, List, [], ◌∷◌, ◌++◌, All, Some, length, set, slice_get}
use Rattle.std.proofs.Common.{arith, refl, ap, sym, subst, inl, inr, ◌∙◌, get_or-set_same, get_or-set_other, length-append, below_more}
use Rattle.std.proofs.lemmas.Bool.{cases_eq}
use Rattle.std.proofs.lemmas.List.{get_or_append_left}
use Rattle.std.proofs.Math.Seq.{get_or-append_seam}
use Rattle.std.proofs.lemmas.Option.{slice_get-get_or, slice_get_within, get_or_from_slice_get}
use Rattle.std.proofs.lemmas.List.Elements.{All-weaker}
use Rattle.gos_netlist.specs.Settling.{Numbers, at}
use Rattle.gos_sim.specs.declared.program.Step.{Step}
use Rattle.gos_sim.specs.declared.program.Latch.{Latch}
use Rattle.gos_sim.specs.declared.readers.Reader.{Reader}
use Rattle.gos_sim.specs.declared.readers.Readers.{Readers}
use Rattle.gos_sim.specs.inner.Program.{reads}
use Rattle.gos_sim.specs.inner.Marks.{IsUnmarked}
use Rattle.gos_sim.specs.inner.Readers.{IsOn, here, behind, KeepsReaders, Reads}
use Rattle.gos_sim.proofs.PlaceLemmas.{same_element}

-- an element stays where others are added behind it
pub slice_get_more : {A : Type 0} (xs : List A) (x : A) (k : ℕ) (a : A) → slice_get xs k ≡ Some a → slice_get (xs ++ x ∷ []) k ≡ Some a
slice_get_more xs x k a is =
    let low : k < length xs = slice_get_within xs k a is in
    let long : k < length (xs ++ x ∷ []) = omega (arith, length-append xs (x ∷ []), low) in
    slice_get-get_or (xs ++ x ∷ []) k a long ∙ ap Some (get_or_append_left xs (x ∷ []) a k low ∙ get_or_from_slice_get xs k a a is)

-- and the last one is the one that was added
pub slice_get_last : {A : Type 0} (xs : List A) (x : A) → slice_get (xs ++ x ∷ []) (length xs) ≡ Some x
slice_get_last xs x =
    let long : length xs < length (xs ++ x ∷ []) = omega (arith, length-append xs (x ∷ [])) in
    slice_get-get_or (xs ++ x ∷ []) (length xs) x long ∙ ap Some (get_or-append_seam xs x [] x)

-- what is on a chain stays there
pub on_more : (all : List Reader) (x : Reader) (item link : ℕ) → IsOn all item link → IsOn (all ++ x ∷ []) item link
on_more all x item link (here _ place r e is same) = here link place r e (slice_get_more all x place r is) same
on_more all x item link (behind _ place r e is on) = behind link place r e (slice_get_more all x place r is) (on_more all x item r.next on)

-- nothing is on none
pub on_none : (all : List Reader) (item : ℕ) → IsOn all item 0 → ⊥
on_none all item (here _ place r e is same) = absurd (omega (arith, e))
on_none all item (behind _ place r e is on) = absurd (omega (arith, e))

-- what is on a chain is its first reader or behind it
pub on_next : (all : List Reader) (item link place : ℕ) (x : Reader) → link ≡ place + 1 → slice_get all place ≡ Some x → IsOn all item link
    → (x.item ≡ item) ⊎ IsOn all item x.next
on_next all item link place x first at_place (here _ other r e is same) =
    let one : other ≡ place = omega (arith, e, first) in
    let it : r ≡ x = same_element all place r x (subst (λ (n : ℕ). slice_get all n ≡ Some r) one is) at_place in
    inl (ap (λ (q : Reader). q.item) (sym it) ∙ same)
on_next all item link place x first at_place (behind _ other r e is on) =
    let one : other ≡ place = omega (arith, e, first) in
    let it : r ≡ x = same_element all place r x (subst (λ (n : ℕ). slice_get all n ≡ Some r) one is) at_place in
    inr (subst (λ (q : Reader). IsOn all item q.next) it on)

-- a reader more: those before it go on reading
pub reads_more : (heads : Numbers) (all grown : List Reader) (x : Reader) (place count other p : ℕ) → place < length heads → grown ≡ all ++ x ∷ []
    → x.next ≡ at heads place → count ≡ length all → IsOn all other (at heads p) → IsOn grown other (at (set heads place (count + 1)) p)
reads_more heads all grown x place count other p low is next long on =
    subst (λ (rs : List Reader). IsOn rs other (at (set heads place (count + 1)) p)) (sym is) (by_place (cases_eq p place))
  where
    last : slice_get (all ++ x ∷ []) count ≡ Some x
    last = subst (λ (n : ℕ). slice_get (all ++ x ∷ []) n ≡ Some x) (sym long) (slice_get_last all x)

    by_place : (p ≡ place) ⊎ (p ≢ place) → IsOn (all ++ x ∷ []) other (at (set heads place (count + 1)) p)
    by_place (inl same) =
        let behind_it : IsOn all other x.next = subst (IsOn all other) (sym next) (subst (λ (q : ℕ). IsOn all other (at heads q)) same on) in
        let there : at (set heads place (count + 1)) p ≡ count + 1 = ap (at (set heads place (count + 1))) same ∙ get_or-set_same heads place (count + 1) 0 low in
        behind _ count x there last (on_more all x other x.next behind_it)
    by_place (inr apart) =
        subst (IsOn (all ++ x ∷ []) other) (sym (get_or-set_other heads place p (count + 1) 0 apart)) (on_more all x other (at heads p) on)

-- and it reads its place
pub reads_new : (heads : Numbers) (all grown : List Reader) (x : Reader) (place count : ℕ) → place < length heads → grown ≡ all ++ x ∷ []
    → count ≡ length all → IsOn grown x.item (at (set heads place (count + 1)) place)
reads_new heads all grown x place count low is long =
    let last : slice_get (all ++ x ∷ []) count ≡ Some x = subst (λ (n : ℕ). slice_get (all ++ x ∷ []) n ≡ Some x) (sym long) (slice_get_last all x) in
    subst (λ (rs : List Reader). IsOn rs x.item (at (set heads place (count + 1)) place)) (sym is)
    (here _ count x (get_or-set_same heads place (count + 1) 0 low) last refl)

-- what has kept reading through two additions
pub keeps_on : (old mid new : Readers) → KeepsReaders old mid → KeepsReaders mid new → KeepsReaders old new
keeps_on old mid new first second = λ place item on. second place item (first place item on)

-- what is on a chain and isn't marked stands behind its first reader, which is
pub on_rest : (all : List Reader) (words : Numbers) (item link place : ℕ) (x : Reader) → link ≡ place + 1 → slice_get all place ≡ Some x
    → (IsUnmarked words x.item → ⊥) → IsUnmarked words item → IsOn all item link → IsOn all item x.next
on_rest all words item link place x first is marked bare on = by_place (on_next all item link place x first is on)
  where
    by_place : (x.item ≡ item) ⊎ IsOn all item x.next → IsOn all item x.next
    by_place (inl same) = absurd (marked (subst (IsUnmarked words) (sym same) bare))
    by_place (inr rest) = rest

-- a latch more
pub latches_more : (old new : Readers) (first k : ℕ) (latches : List Latch) (l : Latch) → slice_get latches k ≡ Some l → KeepsReaders old new
    → Reads new l.pin (first + k) → ((j : ℕ) → j < k → (r : Latch) → slice_get latches j ≡ Some r → Reads old r.pin (first + j))
    → (j : ℕ) → j < k + 1 → (r : Latch) → slice_get latches j ≡ Some r → Reads new r.pin (first + j)
latches_more old new first k latches l is kept now before =
    below_more (λ j. (r : Latch) → slice_get latches j ≡ Some r → Reads new r.pin (first + j)) k
    (λ j low r at_j. kept r.pin (first + j) (before j low r at_j))
    (λ r at_k. subst (λ (q : Latch). Reads new q.pin (first + k)) (same_element latches k l r is at_k) now)

-- a step more
pub steps_more : (old new : Readers) (k : ℕ) (steps : List Step) (s : Step) → slice_get steps k ≡ Some s → KeepsReaders old new
    → All (λ p. Reads new p k) (reads s) → ((j : ℕ) → j < k → (t : Step) → slice_get steps j ≡ Some t → All (λ p. Reads old p j) (reads t))
    → (j : ℕ) → j < k + 1 → (t : Step) → slice_get steps j ≡ Some t → All (λ p. Reads new p j) (reads t)
steps_more old new k steps s is kept now before =
    below_more (λ j. (t : Step) → slice_get steps j ≡ Some t → All (λ p. Reads new p j) (reads t)) k
    (λ j low t at_j. All-weaker (λ p. Reads old p j) (λ p. Reads new p j) (λ p. kept p j) (reads t) (before j low t at_j))
    (λ t at_k. subst (λ (q : Step). All (λ p. Reads new p k) (reads q)) (same_element steps k s t is at_k) now)
