-- What points see: a point of a place has a handshake there, and points see handshakes one by one.
--
-- Read first: FlowedLemmas. A number and a node have their handshakes from two sides.
use Rattle.std.specs.Prelude.{◌≡◌, ℕ, zero, suc, ◌+◌, ◌≤◌, List, [], ◌∷◌, ◌++◌, ◌⊎◌, length, take, drop, map, Option, Some, slice_get}
use Rattle.std.proofs.Common.{refl, sym, ◌∙◌, ap, subst, arith, inl, inr}
use Rattle.std.proofs.lemmas.List.{map-append}
use Rattle.gos_types.specs.Types.{Type'}
use Rattle.gos_types.proofs.ListLemmas.{found_in_front}
use Rattle.gos_model.specs.Typing.{Imports}
use Rattle.gos_plan.specs.Kinds.{Part, Contact, contacts_of, other_side, turned_contact, part_contacts}
use Rattle.gos_plan.specs.Plans.{contacts_of_part, contacts_of_import}
use Rattle.gos_plan.proofs.ContactLemmas.{turned_contact_twice}
use Rattle.gos_ties.specs.declared.points.Place.{Place}
use Rattle.gos_ties.specs.declared.points.Place.TheVariants as places
use Rattle.gos_ties.specs.declared.points.Point.{Point}
use Rattle.gos_ties.specs.declared.points.Tie.{Tie}
use Rattle.gos_ties.specs.Ties.{point, tie}
use Rattle.gos_compile.specs.Wiring.{Types, row, led}
use Rattle.gos_terms.proofs.wired.FlowLemmas.{Flow, tie_in}
use Rattle.gos_terms.proofs.wired.FlowedLemmas.{seen, flowing}

pub turned_at : (cs : List Contact) (k : ℕ) (c : Contact) → slice_get (other_side cs) k ≡ Some c → slice_get cs k ≡ Some (turned_contact c)
turned_at [] k c e = absurd (cc e)
turned_at (d ∷ cs) zero c e =
    let same : turned_contact d ≡ c = cc e in ap (λ (x : Contact). Some x) (sym (turned_contact_twice d) ∙ ap turned_contact same)
turned_at (d ∷ cs) (suc k) c e = turned_at cs k c e

module _ (parts : List Part) (is : Imports) (outcome : Type') (types : Types) (table : ℕ → List Contact) where
  abbrev pub Either : Option Contact → Contact → Type 0
  Either o c = (o ≡ Some c) ⊎ (o ≡ Some (turned_contact c))

  -- the handshake at a place
  abbrev pub Has : Place → ℕ → Contact → Type 0
  Has (places.Part k) h c = slice_get (contacts_of_part (slice_get parts k)) h ≡ Some c
  Has (places.Import k) h c = slice_get (contacts_of_import (slice_get is k)) h ≡ Some c
  Has places.Result h c = slice_get (seen outcome) h ≡ Some c
  Has (places.Number n) h c = Either (slice_get (contacts_of (types n)) h) c
  Has (places.Node j) h c = Either (slice_get (table j) h) c

  -- points have these handshakes, and a place from handshake h on
  abbrev pub See : List Contact → List Point → Type 0
  See [] [] = Unit {0}
  See [] (a ∷ points) = ⊥
  See (c ∷ cs) [] = ⊥
  See (c ∷ cs) (a ∷ points) = Has a.place a.shake c × See cs points

  abbrev pub Offers : Place → ℕ → List Contact → Type 0
  Offers q h cs = (k : ℕ) (c : Contact) → slice_get cs k ≡ Some c → Has q (h + k) c

  pub see_length : (cs : List Contact) (ps : List Point) → See cs ps → length ps ≡ length cs
  see_length [] [] see = refl
  see_length [] (a ∷ ps) see = absurd see
  see_length (c ∷ cs) [] see = absurd see
  see_length (c ∷ cs) (a ∷ ps) see = ap suc (see_length cs ps see.1)

  pub see_two : (cs ds : List Contact) (ps rs : List Point) → See cs ps → See ds rs → See (cs ++ ds) (ps ++ rs)
  see_two [] ds [] rs first second = second
  see_two [] ds (a ∷ ps) rs first second = absurd first
  see_two (c ∷ cs) ds [] rs first second = absurd first
  see_two (c ∷ cs) ds (a ∷ ps) rs first second = (first.0, see_two cs ds ps rs first.1 second)

  pub see_take : (n : ℕ) (cs ds : List Contact) (ps : List Point) → n ≡ length cs → See (cs ++ ds) ps → See cs (take n ps)
  see_take zero [] ds [] e see = tt
  see_take zero [] ds (a ∷ ps) e see = tt
  see_take zero (c ∷ cs) ds ps e see = absurd (omega (arith, e))
  see_take (suc n) [] ds ps e see = absurd (omega (arith, e))
  see_take (suc n) (c ∷ cs) ds [] e see = absurd see
  see_take (suc n) (c ∷ cs) ds (a ∷ ps) e see = (see.0, see_take n cs ds ps (omega (arith, e)) see.1)

  pub see_drop : (n : ℕ) (cs ds : List Contact) (ps : List Point) → n ≡ length cs → See (cs ++ ds) ps → See ds (drop n ps)
  see_drop zero [] ds [] e see = see
  see_drop zero [] ds (a ∷ ps) e see = see
  see_drop zero (c ∷ cs) ds ps e see = absurd (omega (arith, e))
  see_drop (suc n) [] ds ps e see = absurd (omega (arith, e))
  see_drop (suc n) (c ∷ cs) ds [] e see = absurd see
  see_drop (suc n) (c ∷ cs) ds (a ∷ ps) e see = see_drop n cs ds ps (omega (arith, e)) see.1

  next_offers : (q : Place) (h : ℕ) (c : Contact) (cs : List Contact) → Offers q h (c ∷ cs) → Offers q (suc h) cs
  next_offers q h c cs offers k d e = let sum : h + suc k ≡ suc h + k = omega arith in subst (λ (n : ℕ). Has q n d) sum (offers (suc k) d e)

  first_offers : (q : Place) (h : ℕ) (c : Contact) (cs : List Contact) → Offers q h (c ∷ cs) → Has q h c
  first_offers q h c cs offers = let sum : h + 0 ≡ h = omega arith in subst (λ (n : ℕ). Has q n c) sum (offers 0 c refl)

  pub see_row : (q : Place) (h : ℕ) (cs : List Contact) (n : ℕ) → n ≡ length cs → Offers q h cs → See cs (row q h n)
  see_row q h [] zero e offers = tt
  see_row q h [] (suc n) e offers = absurd (omega (arith, e))
  see_row q h (c ∷ cs) zero e offers = absurd (omega (arith, e))
  see_row q h (c ∷ cs) (suc n) e offers =
      (first_offers q h c cs offers, see_row q (suc h) cs n (omega (arith, e)) (next_offers q h c cs offers))

  -- flows whose both sides have their handshakes, and the ties that they are
  abbrev pub AllHave : List Flow → Type 0
  AllHave [] = Unit {0}
  AllHave (f ∷ fs) =
      Has f.one.place f.one.shake f.contact × Has f.other.place f.other.shake (turned_contact f.contact) × AllHave fs

  abbrev pub Good : List Flow → List Tie → Type 0
  Good fs ts = AllHave fs × (map tie_in fs ≡ ts)

  have_two : (fs gs : List Flow) → AllHave fs → AllHave gs → AllHave (fs ++ gs)
  have_two [] gs first second = second
  have_two (f ∷ fs) gs first second = (first.0, first.1, have_two fs gs first.2 second)

  pub good_none : Good [] []
  good_none = (tt, refl)

  pub good_two : (fs gs : List Flow) (ts us : List Tie) → Good fs ts → Good gs us → Good (fs ++ gs) (ts ++ us)
  good_two fs gs ts us first second =
      (have_two fs gs first.0 second.0, map-append tie_in fs gs ∙ (λ i. first.1 i ++ second.1 i))

  pub good_led : (cs : List Contact) (ps : List Point) (q : Place) (h : ℕ) → See cs ps → Offers q h (other_side cs) → Good (flowing cs ps q h) (led ps q h)
  good_led [] [] q h see offers = (tt, refl)
  good_led [] (a ∷ ps) q h see offers = absurd see
  good_led (c ∷ cs) [] q h see offers = absurd see
  good_led (c ∷ cs) (a ∷ ps) q h see offers =
      let rest = good_led cs ps q (suc h) see.1 (next_offers q h (turned_contact c) (other_side cs) offers) in (
        (see.0, first_offers q h (turned_contact c) (other_side cs) offers, rest.0),
        ap (λ (ts : List Tie). tie a (point q h) ∷ ts) rest.1,
      )

  -- more handshakes than points change nothing
  pub flowing_front : (cs ds : List Contact) (ps : List Point) (q : Place) (h : ℕ) → length ps ≤ length cs → flowing (cs ++ ds) ps q h ≡ flowing cs ps q h
  flowing_front [] [] [] q h few = refl
  flowing_front [] (d ∷ ds) [] q h few = refl
  flowing_front [] ds (a ∷ ps) q h few = absurd (omega (arith, few))
  flowing_front (c ∷ cs) ds [] q h few = refl
  flowing_front (c ∷ cs) ds (a ∷ ps) q h few =
      ap (λ (fs : List Flow). record { one = a; other = point q h; contact = c } ∷ fs) (flowing_front cs ds ps q (suc h) (omega (arith, few)))

  -- what numbers and nodes offer from either side
  pub used_offers : (n : ℕ) (t : Type') → t ≡ types n → Offers (places.Number n) 0 (contacts_of t)
  used_offers n t e k c at =
      let zeros : 0 + k ≡ k = omega arith in
      inl (ap (slice_get (contacts_of (types n))) zeros ∙ (ap (λ (u : Type'). slice_get (contacts_of u) k) (sym e) ∙ at))

  pub made_offers : (n : ℕ) (t : Type') → t ≡ types n → Offers (places.Number n) 0 (seen t)
  made_offers n t e k c at =
      let zeros : 0 + k ≡ k = omega arith in
      inr (ap (slice_get (contacts_of (types n))) zeros ∙ (ap (λ (u : Type'). slice_get (contacts_of u) k) (sym e) ∙ turned_at (contacts_of t) k c at))

  pub node_offers : (j : ℕ) (cs : List Contact) → table j ≡ cs → Offers (places.Node j) 0 cs
  node_offers j cs e k c at =
      let zeros : 0 + k ≡ k = omega arith in
      inl (ap (slice_get (table j)) zeros ∙ (ap (λ (ds : List Contact). slice_get ds k) e ∙ at))

  pub node_offers_back : (j : ℕ) (cs : List Contact) → table j ≡ cs → Offers (places.Node j) 0 (other_side cs)
  node_offers_back j cs e k c at =
      let zeros : 0 + k ≡ k = omega arith in
      inr (ap (slice_get (table j)) zeros ∙ (ap (λ (ds : List Contact). slice_get ds k) e ∙ turned_at cs k c at))

  -- parts that stand in the list from number i on
  abbrev pub PartsAt : ℕ → List Part → Type 0
  PartsAt i ks = (k : ℕ) (x : Part) → slice_get ks k ≡ Some x → slice_get parts (i + k) ≡ Some x

  behind : {X : Type 0} (xs ys : List X) (i : ℕ) → slice_get (xs ++ ys) (length xs + i) ≡ slice_get ys i
  behind [] ys i = let zeros : 0 + i ≡ i = omega arith in ap (slice_get ys) zeros
  behind (x ∷ xs) ys i =
      let sum : suc (length xs) + i ≡ suc (length xs + i) = omega arith in ap (slice_get (x ∷ (xs ++ ys))) sum ∙ behind xs ys i

  pub parts_front : (i : ℕ) (ks ls : List Part) → PartsAt i (ks ++ ls) → PartsAt i ks
  parts_front i ks ls all k x at = all k x (found_in_front ks ls k x at)

  pub parts_behind : (i n : ℕ) (ks ls : List Part) → n ≡ length ks → PartsAt i (ks ++ ls) → PartsAt (i + n) ls
  parts_behind i n ks ls e all k x at =
      let sum : i + (length ks + k) ≡ i + n + k = omega (arith, e) in
      ap (slice_get parts) (sym sum) ∙ all (length ks + k) x (behind ks ls k ∙ at)

  pub part_has : (i h : ℕ) (x : Part) (ls : List Part) (c : Contact) → PartsAt i (x ∷ ls) → slice_get (part_contacts x) h ≡ Some c → Has (places.Part i) h c
  part_has i h x ls c all at =
      let zeros : i + 0 ≡ i = omega arith in
      ap (λ (o : Option Part). slice_get (contacts_of_part o) h) (ap (slice_get parts) (sym zeros) ∙ all 0 x refl) ∙ at

  -- a list of one handshake is offered where it is there
  pub one_offer : (q : Place) (h : ℕ) (c : Contact) → Has q h c → Offers q h (c ∷ [])
  one_offer q h c has zero d at =
      let sum : h ≡ h + 0 = omega arith in
      let same : c ≡ d = cc at in
      subst (λ (x : Contact). Has q (h + 0) x) same (subst (λ (n : ℕ). Has q n c) sum has)
  one_offer q h c has (suc k) d at = absurd (cc at)

  pub two_offers : (q : Place) (h : ℕ) (c e : Contact) → Has q h c → Has q (suc h) e → Offers q h (c ∷ e ∷ [])
  two_offers q h c e has next zero d at =
      let sum : h ≡ h + 0 = omega arith in
      let same : c ≡ d = cc at in
      subst (λ (x : Contact). Has q (h + 0) x) same (subst (λ (n : ℕ). Has q n c) sum has)
  two_offers q h c e has next (suc k) d at =
      let sum : suc h + k ≡ h + suc k = omega arith in subst (λ (n : ℕ). Has q n d) sum (one_offer q (suc h) e next k d at)

  pub three_offers : (q : Place) (h : ℕ) (c e g : Contact) → Has q h c → Has q (suc h) e → Has q (suc (suc h)) g → Offers q h (c ∷ e ∷ g ∷ [])
  three_offers q h c e g has next last zero d at =
      let sum : h ≡ h + 0 = omega arith in
      let same : c ≡ d = cc at in
      subst (λ (x : Contact). Has q (h + 0) x) same (subst (λ (n : ℕ). Has q n c) sum has)
  three_offers q h c e g has next last (suc k) d at =
      let sum : suc h + k ≡ h + suc k = omega arith in subst (λ (n : ℕ). Has q n d) sum (two_offers q (suc h) e g next last k d at)
