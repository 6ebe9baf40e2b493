-- What is alike to a proper configuration is proper.
use Rattle.std.specs.Prelude.{◌≡◌, ℕ, suc, Bool, true, false, List, [], ◌∷◌, ◌++◌, map, Contains, Option, Some, None, nat_lt, ◌-◌, if◌then◌else◌}
use Rattle.std.proofs.Common.{refl, sym, ap, subst, inl, inr, ◌∙◌}
use Rattle.gos_model.specs.Terms.{Term, Skip, Lit, Bound, Import, Lam, App, Both, Fst, Snd, Seq, Par, If, While, Assign, Deref, New, Not, Bin, Loc, Scope, Wait, Held, Put, NewArray, Arr}
use Rattle.gos_model.specs.Typing.{Thing, Variable, Named, Place, things, Apart}
use Rattle.gos_model.specs.Stores.{Entry, Store, entry_at}
use Rattle.gos_model.specs.Reach.{IsArrayHead, IsArrayPlace}
use Rattle.gos_programs.specs.contexts.Renaming.{renamed}
use Rattle.gos_programs.specs.contexts.Scopes.{IsShut, OpensInPlace, OpensInIndex, IsOpen, IsOpenInIndex}
use Rattle.gos_programs.specs.contexts.Standing.{Present, Has, InScope, OpensDiffer, DifferInIndex, DifferInPortIndex}
use Rattle.gos_swaps.specs.proper.Proper.{PartsApart, IsClosed, IsProper}
use Rattle.gos_swaps.specs.orders.Alike.{Renaming, AlikeStayProper}
use Rattle.gos_swaps.specs.orders.Effects.{carried}
use Rattle.gos_swaps.proofs.proper.ThingLemmas.{only_one, there, nothing, left_part, right_part, by_parts, place_present, stands_from}
use Rattle.gos_swaps.proofs.orders.RenameLemmas.{renamed_back}
use Rattle.gos_swaps.proofs.orders.AlikeLemmas.{Corresponds, corresponds}

-- a thing under another name
abbrev pub moved_thing : (ℕ → ℕ) → Thing → Thing
moved_thing q (Variable n) = Variable n
moved_thing q (Named x) = Named x
moved_thing q (Place l) = Place (q l)

-- what is free in a renamed term is free in the term, under its old name
one_moved : (q : ℕ → ℕ) (t u x : Thing) → moved_thing q t ≡ u → Contains (t ∷ []) x → Contains (u ∷ []) (moved_thing q x)
one_moved q t u x e h = subst (λ (z : Thing). Contains (u ∷ []) z) (sym (ap (moved_thing q) (only_one t x h) ∙ e)) (there u)

bound_moved : (q : ℕ → ℕ) (c n : ℕ) (x : Thing) → Contains (if nat_lt n c then [] else Variable (n - c) ∷ []) x
    → Contains (if nat_lt n c then [] else Variable (n - c) ∷ []) (moved_thing q x)
bound_moved q c n x h = tested (nat_lt n c) h
  where
    tested : (t : Bool) → Contains (if t then [] else Variable (n - c) ∷ []) x → Contains (if t then [] else Variable (n - c) ∷ []) (moved_thing q x)
    tested true k = nothing x k
    tested false k = one_moved q (Variable (n - c)) (Variable (n - c)) x refl k

two_parts : (xs ys zs ws : List Thing) (x y : Thing) → (Contains xs x → Contains zs y) → (Contains ys x → Contains ws y) → Contains (xs ++ ys) x
    → Contains (zs ++ ws) y
two_parts xs ys zs ws x y f g h = by_parts xs ys x (λ k. left_part zs ws y (f k)) (λ k. right_part zs ws y (g k)) h

moved_two : (q r : ℕ → ℕ) (m n : Term) (c : ℕ) (x : Thing)
    → (Contains (things c (renamed r m)) x → Contains (things c m) (moved_thing q x))
    → (Contains (things c (renamed r n)) x → Contains (things c n) (moved_thing q x))
    → Contains (things c (renamed r m) ++ things c (renamed r n)) x → Contains (things c m ++ things c n) (moved_thing q x)
moved_two q r m n c x f g h = two_parts (things c (renamed r m)) (things c (renamed r n)) (things c m) (things c n) x (moved_thing q x) f g h

module _ (q r : ℕ → ℕ) (back : (l : ℕ) → q (r l) ≡ l) where
  pub old_thing : (m : Term) (c : ℕ) (x : Thing) → Contains (things c (renamed r m)) x → Contains (things c m) (moved_thing q x)
  old_thing Skip c x h = nothing x h
  old_thing (Lit k w) c x h = nothing x h
  old_thing (Bound n) c x h = bound_moved q c n x h
  old_thing (Import y) c x h = one_moved q (Named y) (Named y) x refl h
  old_thing (Lam a m) c x h = old_thing m (suc c) x h
  old_thing (App m n) c x h = moved_two q r m n c x (old_thing m c x) (old_thing n c x) h
  old_thing (Both m n) c x h = moved_two q r m n c x (old_thing m c x) (old_thing n c x) h
  old_thing (Fst m) c x h = old_thing m c x h
  old_thing (Snd m) c x h = old_thing m c x h
  old_thing (Seq m n) c x h = moved_two q r m n c x (old_thing m c x) (old_thing n c x) h
  old_thing (Par m n) c x h = moved_two q r m n c x (old_thing m c x) (old_thing n c x) h
  old_thing (If m n p) c x h =
      two_parts (things c (renamed r m)) (things c (renamed r n) ++ things c (renamed r p)) (things c m) (things c n ++ things c p) x (moved_thing q x)
      (old_thing m c x) (moved_two q r n p c x (old_thing n c x) (old_thing p c x)) h
  old_thing (While m n) c x h = moved_two q r m n c x (old_thing m c x) (old_thing n c x) h
  old_thing (Assign m n) c x h = moved_two q r m n c x (old_thing m c x) (old_thing n c x) h
  old_thing (Deref m) c x h = old_thing m c x h
  old_thing (New w m) c x h = old_thing m (suc c) x h
  old_thing (NewArray n w m) c x h = old_thing m (suc c) x h
  old_thing (Not m) c x h = old_thing m c x h
  old_thing (Bin op m n) c x h = moved_two q r m n c x (old_thing m c x) (old_thing n c x) h
  old_thing (Loc l) c x h = one_moved q (Place (r l)) (Place l) x (ap (λ (z : ℕ). Place z) (back l)) h
  old_thing (Arr l) c x h = one_moved q (Place (r l)) (Place l) x (ap (λ (z : ℕ). Place z) (back l)) h
  old_thing (Scope l m) c x h =
      two_parts (Place (r l) ∷ []) (things c (renamed r m)) (Place l ∷ []) (things c m) x (moved_thing q x)
      (one_moved q (Place (r l)) (Place l) x (ap (λ (z : ℕ). Place z) (back l))) (old_thing m c x) h
  old_thing (Wait y s) c x h = one_moved q (Named y) (Named y) x refl h
  old_thing (Held k op n) c x h = old_thing n c x h
  old_thing (Put m k) c x h = old_thing m c x h

  renamed_apart : (m n : Term) → Apart m n → Apart (renamed r m) (renamed r n)
  renamed_apart m n apart x h k = apart (moved_thing q x) (old_thing m 0 x h) (old_thing n 0 x k)

  renamed_parts : (m : Term) → PartsApart m → PartsApart (renamed r m)
  renamed_parts (Lam a m) h = renamed_parts m h
  renamed_parts (App m n) (apart, h, k) = (renamed_apart m n apart, renamed_parts m h, renamed_parts n k)
  renamed_parts (Both m n) (h, k) = (renamed_parts m h, renamed_parts n k)
  renamed_parts (Fst m) h = renamed_parts m h
  renamed_parts (Snd m) h = renamed_parts m h
  renamed_parts (Seq m n) (h, k) = (renamed_parts m h, renamed_parts n k)
  renamed_parts (Par m n) (apart, h, k) = (renamed_apart m n apart, renamed_parts m h, renamed_parts n k)
  renamed_parts (If m n p) (h, k, j) = (renamed_parts m h, renamed_parts n k, renamed_parts p j)
  renamed_parts (While m n) (h, k) = (renamed_parts m h, renamed_parts n k)
  renamed_parts (Assign m n) (h, k) = (renamed_parts m h, renamed_parts n k)
  renamed_parts (Deref m) h = renamed_parts m h
  renamed_parts (New w m) h = renamed_parts m h
  renamed_parts (NewArray n w m) h = renamed_parts m h
  renamed_parts (Not m) h = renamed_parts m h
  renamed_parts (Bin op m n) (h, k) = (renamed_parts m h, renamed_parts n k)
  renamed_parts (Scope l m) h = renamed_parts m h
  renamed_parts (Held k op n) h = renamed_parts n h
  renamed_parts (Put m k) h = renamed_parts m h
  renamed_parts Skip h = tt
  renamed_parts (Lit k w) h = tt
  renamed_parts (Bound n) h = tt
  renamed_parts (Import x) h = tt
  renamed_parts (Loc l) h = tt
  renamed_parts (Arr l) h = tt
  renamed_parts (Wait x s) h = tt

  renamed_closed : (m : Term) → IsClosed m → IsClosed (renamed r m)
  renamed_closed m closed n h = closed n (old_thing m 0 (Variable n) h)

  -- open blocks
  -- an array that asks for its index has no location
  head_back : (g : Term) → IsArrayHead (renamed r g) → IsArrayHead g
  head_back g (x, e) = (x, sym (renamed_back q r back g) ∙ ap (renamed q) e)

  -- and an array of the program's own has the old one
  array_back : (g : Term) → IsArrayPlace (renamed r g) → IsArrayPlace g
  array_back g (l, e) = (q l, sym (renamed_back q r back g) ∙ ap (renamed q) e)

  mutual
    old_open : (l : ℕ) (m : Term) → IsOpen l (renamed r m) → IsOpen (q l) m
    old_open l (Seq m n) h = old_open l m h
    old_open l (Par m n) (inl h) = inl (old_open l m h)
    old_open l (Par m n) (inr h) = inr (old_open l n h)
    old_open l (If m n p) h = old_open l m h
    old_open l (Bin op m n) h = old_open l m h
    old_open l (Held k op n) h = old_open l n h
    old_open l (Not m) h = old_open l m h
    old_open l (Assign m n) h = old_open l n h
    old_open l (Scope k m) (inl e) = inl (sym (back k) ∙ ap q e)
    old_open l (Scope k m) (inr h) = inr (old_open l m h)
    old_open l Skip h = h
    old_open l (Lit k w) h = h
    old_open l (Bound n) h = h
    old_open l (Import x) h = h
    old_open l (Lam a m) h = h
    old_open l (App m n) h = h
    old_open l (Both m n) h = h
    old_open l (Fst m) h = h
    old_open l (Snd m) h = h
    old_open l (While m n) h = h
    old_open l (Deref m) h = old_open_in_index l m h
    old_open l (New w m) h = h
    old_open l (NewArray n w m) h = h
    old_open l (Loc k) h = h
    old_open l (Arr k) h = h
    old_open l (Wait x s) h = h
    old_open l (Put m k) h = old_open_in_index l m h

    old_open_in_index : (l : ℕ) (m : Term) → IsOpenInIndex l (renamed r m) → IsOpenInIndex (q l) m
    old_open_in_index l (App g n) (inr (place, h)) = inr (array_back g place, old_open l n h)
    old_open_in_index l (App g (Both m n)) (inl (head, h)) = inl (head_back g head, old_open l n h)
    old_open_in_index l (App g n) (inl h) = absurd h
    old_open_in_index l m h = absurd h

  mutual
    renamed_differ : (m : Term) → OpensDiffer m → OpensDiffer (renamed r m)
    renamed_differ (Seq m n) h = renamed_differ m h
    renamed_differ (Par m n) (h, k, apart) = (renamed_differ m h, renamed_differ n k, λ l a b. apart (q l) (old_open l m a) (old_open l n b))
    renamed_differ (If m n p) h = renamed_differ m h
    renamed_differ (Bin op m n) h = renamed_differ m h
    renamed_differ (Held k op n) h = renamed_differ n h
    renamed_differ (Not m) h = renamed_differ m h
    renamed_differ (Assign m n) h = renamed_differ n h
    renamed_differ (Scope l m) (new, h) = ((λ o. new (subst (λ (z : ℕ). IsOpen z m) (back l) (old_open (r l) m o))), renamed_differ m h)
    renamed_differ Skip h = tt
    renamed_differ (Lit k w) h = tt
    renamed_differ (Bound n) h = tt
    renamed_differ (Import x) h = tt
    renamed_differ (Lam a m) h = tt
    renamed_differ (App m n) h = tt
    renamed_differ (Both m n) h = tt
    renamed_differ (Fst m) h = tt
    renamed_differ (Snd m) h = tt
    renamed_differ (While m n) h = tt
    renamed_differ (Deref m) h = renamed_index_differs m h
    renamed_differ (New w m) h = tt
    renamed_differ (NewArray n w m) h = tt
    renamed_differ (Loc k) h = tt
    renamed_differ (Arr k) h = tt
    renamed_differ (Wait x s) h = tt
    renamed_differ (Put m k) h = renamed_index_differs m h

    renamed_index_differs : (m : Term) → DifferInIndex m → DifferInIndex (renamed r m)
    renamed_index_differs (App g n) (h, k) = (renamed_port_differs g n h, λ place. renamed_differ n (k (array_back g place)))
    renamed_index_differs m h = tt

    renamed_port_differs : (g n : Term) → DifferInPortIndex g n → DifferInPortIndex (renamed r g) (renamed r n)
    renamed_port_differs g (Both m n) h = λ head. renamed_differ n (h (head_back g head))
    renamed_port_differs g n h = tt

-- blocks are open where they were
head_renamed : (r : ℕ → ℕ) (g : Term) → IsArrayHead g → IsArrayHead (renamed r g)
head_renamed r g (x, e) = (x, ap (renamed r) e)

array_renamed : (r : ℕ → ℕ) (g : Term) → IsArrayPlace g → IsArrayPlace (renamed r g)
array_renamed r g (l, e) = (r l, ap (renamed r) e)

mutual
  new_open : (r : ℕ → ℕ) (l : ℕ) (m : Term) → IsOpen l m → IsOpen (r l) (renamed r m)
  new_open r l (Seq m n) h = new_open r l m h
  new_open r l (Par m n) (inl h) = inl (new_open r l m h)
  new_open r l (Par m n) (inr h) = inr (new_open r l n h)
  new_open r l (If m n p) h = new_open r l m h
  new_open r l (Bin op m n) h = new_open r l m h
  new_open r l (Held k op n) h = new_open r l n h
  new_open r l (Not m) h = new_open r l m h
  new_open r l (Assign m n) h = new_open r l n h
  new_open r l (Scope k m) (inl e) = inl (ap r e)
  new_open r l (Scope k m) (inr h) = inr (new_open r l m h)
  new_open r l (Deref m) h = new_open_in_index r l m h
  new_open r l (Put m k) h = new_open_in_index r l m h
  new_open r l m h = absurd h

  new_open_in_index : (r : ℕ → ℕ) (l : ℕ) (m : Term) → IsOpenInIndex l m → IsOpenInIndex (r l) (renamed r m)
  new_open_in_index r l (App g n) (inr (place, h)) = inr (array_renamed r g place, new_open r l n h)
  new_open_in_index r l (App g (Both m n)) (inl (head, h)) = inl (head_renamed r g head, new_open r l n h)
  new_open_in_index r l (App g n) (inl h) = absurd h
  new_open_in_index r l m h = absurd h

renamed_shut : (r : ℕ → ℕ) (m : Term) → IsShut m → IsShut (renamed r m)
renamed_shut r Skip h = tt
renamed_shut r (Lit k w) h = tt
renamed_shut r (Bound n) h = tt
renamed_shut r (Import x) h = tt
renamed_shut r (Lam a m) h = renamed_shut r m h
renamed_shut r (App m n) h = (renamed_shut r m h.0, renamed_shut r n h.1)
renamed_shut r (Both m n) h = (renamed_shut r m h.0, renamed_shut r n h.1)
renamed_shut r (Fst m) h = renamed_shut r m h
renamed_shut r (Snd m) h = renamed_shut r m h
renamed_shut r (Seq m n) h = (renamed_shut r m h.0, renamed_shut r n h.1)
renamed_shut r (Par m n) h = (renamed_shut r m h.0, renamed_shut r n h.1)
renamed_shut r (If m n p) h = (renamed_shut r m h.0, renamed_shut r n h.1, renamed_shut r p h.2)
renamed_shut r (While m n) h = (renamed_shut r m h.0, renamed_shut r n h.1)
renamed_shut r (Assign m n) h = (renamed_shut r m h.0, renamed_shut r n h.1)
renamed_shut r (Deref m) h = renamed_shut r m h
renamed_shut r (New w m) h = renamed_shut r m h
renamed_shut r (NewArray n w m) h = renamed_shut r m h
renamed_shut r (Not m) h = renamed_shut r m h
renamed_shut r (Bin op m n) h = (renamed_shut r m h.0, renamed_shut r n h.1)
renamed_shut r (Loc l) h = tt
renamed_shut r (Arr l) h = tt
renamed_shut r (Scope l m) h = absurd h
renamed_shut r (Wait x s) h = tt
renamed_shut r (Held k op n) h = renamed_shut r n h
renamed_shut r (Put m k) h = renamed_shut r m h

mutual
  renamed_place : (r : ℕ → ℕ) (m : Term) → OpensInPlace m → OpensInPlace (renamed r m)
  renamed_place r (Seq m n) h = (renamed_place r m h.0, renamed_shut r n h.1)
  renamed_place r (Par m n) h = (renamed_place r m h.0, renamed_place r n h.1)
  renamed_place r (If m n p) h = (renamed_place r m h.0, renamed_shut r n h.1, renamed_shut r p h.2)
  renamed_place r (Bin op m n) h = (renamed_place r m h.0, renamed_shut r n h.1)
  renamed_place r (Held k op n) h = renamed_place r n h
  renamed_place r (Not m) h = renamed_place r m h
  renamed_place r (Assign m n) h = (renamed_shut r m h.0, renamed_place r n h.1)
  renamed_place r (Scope l m) h = renamed_place r m h
  renamed_place r Skip h = tt
  renamed_place r (Lit k w) h = tt
  renamed_place r (Bound n) h = tt
  renamed_place r (Import x) h = tt
  renamed_place r (Lam a m) h = renamed_shut r m h
  renamed_place r (App m n) h = (renamed_shut r m h.0, renamed_shut r n h.1)
  renamed_place r (Both m n) h = (renamed_shut r m h.0, renamed_shut r n h.1)
  renamed_place r (Fst m) h = renamed_shut r m h
  renamed_place r (Snd m) h = renamed_shut r m h
  renamed_place r (While m n) h = (renamed_shut r m h.0, renamed_shut r n h.1)
  renamed_place r (Deref m) (inl h) = inl (renamed_shut r m h)
  renamed_place r (Deref m) (inr h) = inr (renamed_index r m h)
  renamed_place r (New w m) h = renamed_shut r m h
  renamed_place r (NewArray n w m) h = renamed_shut r m h
  renamed_place r (Loc l) h = tt
  renamed_place r (Arr l) h = tt
  renamed_place r (Wait x s) h = tt
  renamed_place r (Put m k) (inl h) = inl (renamed_shut r m h)
  renamed_place r (Put m k) (inr h) = inr (renamed_index r m h)

  renamed_index : (r : ℕ → ℕ) (m : Term) → OpensInIndex m → OpensInIndex (renamed r m)
  renamed_index r (App g n) (inr (place, h)) = inr (array_renamed r g place, renamed_place r n h)
  renamed_index r (App g (Both m n)) (inl (head, shut, h)) = inl (head_renamed r g head, renamed_shut r m shut, renamed_place r n h)
  renamed_index r (App g n) (inl h) = absurd h
  renamed_index r m h = absurd h

-- each location within its block
new_has : (r : ℕ → ℕ) (l : ℕ) (ls : List ℕ) → Has l ls → Has (r l) (map r ls)
new_has r l [] h = absurd h
new_has r l (k ∷ ls) (inl e) = inl (ap r e)
new_has r l (k ∷ ls) (inr h) = inr (new_has r l ls h)

renamed_scope : (r : ℕ → ℕ) (m : Term) (ls : List ℕ) → InScope ls m → InScope (map r ls) (renamed r m)
renamed_scope r Skip ls h = tt
renamed_scope r (Lit k w) ls h = tt
renamed_scope r (Bound n) ls h = tt
renamed_scope r (Import x) ls h = tt
renamed_scope r (Lam a m) ls h = renamed_scope r m ls h
renamed_scope r (App m n) ls h = (renamed_scope r m ls h.0, renamed_scope r n ls h.1)
renamed_scope r (Both m n) ls h = (renamed_scope r m ls h.0, renamed_scope r n ls h.1)
renamed_scope r (Fst m) ls h = renamed_scope r m ls h
renamed_scope r (Snd m) ls h = renamed_scope r m ls h
renamed_scope r (Seq m n) ls h = (renamed_scope r m ls h.0, renamed_scope r n ls h.1)
renamed_scope r (Par m n) ls h = (renamed_scope r m ls h.0, renamed_scope r n ls h.1)
renamed_scope r (If m n p) ls h = (renamed_scope r m ls h.0, renamed_scope r n ls h.1, renamed_scope r p ls h.2)
renamed_scope r (While m n) ls h = (renamed_scope r m ls h.0, renamed_scope r n ls h.1)
renamed_scope r (Assign m n) ls h = (renamed_scope r m ls h.0, renamed_scope r n ls h.1)
renamed_scope r (Deref m) ls h = renamed_scope r m ls h
renamed_scope r (New w m) ls h = renamed_scope r m ls h
renamed_scope r (NewArray n w m) ls h = renamed_scope r m ls h
renamed_scope r (Not m) ls h = renamed_scope r m ls h
renamed_scope r (Bin op m n) ls h = (renamed_scope r m ls h.0, renamed_scope r n ls h.1)
renamed_scope r (Loc l) ls h = new_has r l ls h
renamed_scope r (Arr l) ls h = new_has r l ls h
renamed_scope r (Scope l m) ls h = renamed_scope r m (l ∷ ls) h
renamed_scope r (Wait x s) ls h = tt
renamed_scope r (Held k op n) ls h = renamed_scope r n ls h
renamed_scope r (Put m k) ls h = renamed_scope r m ls h

-- stores that correspond have entries at the same locations
carried_some : (r : ℕ → ℕ) (o : Option Entry) (e : Entry) → o ≡ Some e → (d : Entry) × (carried r o ≡ Some d)
carried_some r o e h = (record e { place = r e.place }, ap (carried r) h)

some_carried : (r : ℕ → ℕ) (o : Option Entry) (d : Entry) → carried r o ≡ Some d → (e : Entry) × (o ≡ Some e)
some_carried r None d h = absurd (cc h)
some_carried r (Some e) d h = (e, refl)

new_present : (r : Renaming) (s u : Store) (l : ℕ) → Corresponds r.to s u → Present s (r.back l) → Present u l
new_present r s u l h (e, is) =
    let (d, there) = carried_some r.to (entry_at s (r.back l)) e is in
    (d, sym (ap (entry_at u) (r.again l)) ∙ (h (r.back l) ∙ there))

old_present : (r : Renaming) (s u : Store) (l : ℕ) (d : Entry) → Corresponds r.to s u → entry_at u l ≡ Some d → Present s (r.back l)
old_present r s u l d h is =
    some_carried r.to (entry_at s (r.back l)) d (sym (h (r.back l)) ∙ (ap (entry_at u) (r.again l) ∙ is))

renamed_proper : (r : Renaming) (m : Term) (s u : Store) → Corresponds r.to s u → IsProper m s → IsProper (renamed r.to m) u
renamed_proper r m s u h p =
    record {
      apart = renamed_parts r.back r.to r.there m p.apart;
      closed = renamed_closed r.back r.to r.there m p.closed;
      scopes = (renamed_place r.to m p.scopes.0, open_there);
      within = renamed_scope r.to m [] p.within;
      differ = renamed_differ r.back r.to r.there m p.differ;
      standing = stands_from u (renamed r.to m) 0 (λ l k. new_present r s u l h (place_present s m 0 (r.back l) p.standing
          (old_thing r.back r.to r.there m 0 (Place l) k)));
    }
  where
    open_there : (l : ℕ) (d : Entry) → entry_at u l ≡ Some d → IsOpen l (renamed r.to m)
    open_there l d is =
        let (e, old) = old_present r s u l d h is in
        subst (λ (z : ℕ). IsOpen z (renamed r.to m)) (r.again l) (new_open r.to (r.back l) m (p.scopes.1 (r.back l) e old))

pub alike_stay_proper : AlikeStayProper
alike_stay_proper m t s u p (r, e, h) = subst (λ (z : Term). IsProper z u) (sym e) (renamed_proper r m s u (corresponds r s u h) p)
