-- The plan of a function, applied to that of a name, is the plan of its body, whose last import has the name.
use Rattle.std.specs.Prelude.{◌≡◌, ℕ, zero, suc, ◌+◌, ◌-◌, ◌<◌, ◌≤◌, Bool, true, false, List, [], ◌∷◌, ◌++◌, ◌⊎◌, length, Option, Some, None, Contains, nat_eq, nat_lt, slice_get, if◌then◌else◌}
use Rattle.std.proofs.Common.{refl, sym, ◌∙◌, ap, subst, arith, inl, inr}
use Rattle.std.proofs.lemmas.Option.{slice_get_within, slice_get_past}
use Rattle.std.proofs.lemmas.List.{append-nil}
use Rattle.std.proofs.lemmas.List.Elements.{Contains-append_left, Contains-append_right, Contains-append_cases}
use Rattle.std.proofs.lemmas.Bool.Decides.{nat_tests}
use Rattle.std.proofs.lemmas.Bool.{lt-ltb, le-ltb}
use Rattle.gos_types.specs.declared.shakes.Role.{Role}
use Rattle.gos_types.specs.declared.shakes.Role.TheVariants.{Serve, Ask}
use Rattle.gos_types.specs.Types.{Type', Fun}
use Rattle.gos_types.specs.Handshakes.{turned}
use Rattle.gos_types.proofs.ListLemmas.{found_behind, same_in_front, none_in_empty}
use Rattle.gos_model.specs.Typing.{Imported}
use Rattle.gos_plan.specs.Kinds.{Part, Contact, asks, serves, contacts_of, other_side, turned_contact}
use Rattle.gos_plan.specs.Plans.{End, PartEnd, ImportEnd, ResultEnd, Joint, Plan, contact_at, contacts_of_part, contacts_of_import, turned_if, stands_in, IsRight}
use Rattle.gos_plan.specs.Joining.{Place as Spot, place, Link, LeftImport, all_left, left_place, origin}
use Rattle.gos_plan.proofs.JointLemmas.{fits, same_itself, one_joint, contained}
use Rattle.gos_plan.proofs.SideLemmas.{functions_join}
use Rattle.gos_plan.proofs.ContactLemmas.{other_side_at, part_is_there, import_is_there}
use Rattle.gos_realises.specs.realises.Regular.{count}
use Rattle.gos_realises.specs.realises.Links.{IsJoined}
use Rattle.gos_realises.specs.realises.Wirings.{link, results_linked, applying}
use Rattle.gos_joining.specs.webs.Webs.{Dot, Of, Number, Node, Within, Tie, tie, Web, Way, joint, IsOfWeb, own_web}
use Rattle.gos_joining.proofs.webs.WayLemmas.{way_then, way_back, mapped_way}
use Rattle.gos_joining.proofs.webs.WebLemmas.{right_is_of_its_web}
use Rattle.gos_joining.specs.unions.Unions as unions
use Rattle.gos_joining.specs.unions.Unions.{within, link_ties, union}
use Rattle.gos_joining.proofs.unions.UnionLemmas.{Image, of_image, in_image, joining_is_union}
use Rattle.gos_joining.proofs.unions.FlatFitLemmas.{links_stand}
use Rattle.gos_supplies.specs.applications.Opened.{opened, IsFunctionOf}
use Rattle.gos_supplies.proofs.applications.SeamLemmas.{listed, listed_at, listed_length, applied_left}
use Rattle.gos_supplies.proofs.applications.TogetherLemmas.{imports_of}
use Rattle.gos_supplies.specs.turns.Names.{IsNamePlan}
use Rattle.gos_supplies.proofs.turns.TypeLemmas.{sides}
use Rattle.gos_supplies.proofs.turns.OpenedLemmas.{twice_turned}
use Rattle.gos_supplies.proofs.turns.NameLemmas.{unturned}
use Rattle.gos_joining.proofs.weaving.CrossingLemmas.{still}
use Rattle.gos_sharing.proofs.function_types.SideLemmas.{link_is_in}
use Rattle.gos_terms.proofs.applying.SupplyLemmas.{inside, tied_at}
use Rattle.gos_terms.proofs.applying.ApplyWebLemmas.{of_links}

module _
    (x : Imported) (b : Type') (r e q : Plan) (right : IsRight r) (outcome : r.outcome ≡ Fun x.ty b) (is : IsNamePlan x e)
    (joined : IsJoined (applying x.ty b r e) q) where
  abbrev k : ℕ
  k = length r.imports

  abbrev n : ℕ
  n = count x.ty

  parts_same : q.parts ≡ r.parts
  parts_same = joined.joining.parts ∙ (ap (λ (ps : List Part). r.parts ++ (ps ++ [])) is.parts ∙ append-nil r.parts)

  imports_same : q.imports ≡ r.imports ++ (x ∷ [])
  imports_same = imports_of x.ty b r e q joined ∙ ap (λ (ps : List Imported). r.imports ++ ps) is.imports

  -- the contacts
  contacts : contacts_of r.outcome ≡ other_side (contacts_of x.ty) ++ contacts_of b
  contacts = ap contacts_of outcome ∙ (functions_join x.ty b).joined

  argument_contact : (h : ℕ) → h < n → contact_at r (ResultEnd h) ≡ slice_get (contacts_of x.ty) h
  argument_contact h low =
      let long = sides x.ty b in
      ap turned_if
      (ap (λ (cs : List Contact). slice_get cs h) contacts
      ∙ (same_in_front (other_side (contacts_of x.ty)) (contacts_of b) h (omega (arith, low, long)) ∙ other_side_at (contacts_of x.ty) h))
      ∙ twice_turned (slice_get (contacts_of x.ty) h)

  body_contact : (h : ℕ) → contact_at r (ResultEnd (n + h)) ≡ contact_at q (ResultEnd h)
  body_contact h =
      let long = sides x.ty b in
      let sum : n + h ≡ length (other_side (contacts_of x.ty)) + h = omega (arith, long) in
      ap turned_if
      (ap (λ (cs : List Contact). slice_get cs (n + h)) contacts
      ∙ (ap (slice_get (other_side (contacts_of x.ty) ++ contacts_of b)) sum ∙ found_behind (other_side (contacts_of x.ty)) (contacts_of b) h))
      ∙ ap (λ (t : Type'). turned_if (slice_get (contacts_of t) h)) (sym joined.joining.outcome)

  last_import : slice_get q.imports k ≡ Some x
  last_import =
      let zeros : k ≡ k + 0 = omega arith in
      ap (λ (xs : List Imported). slice_get xs k) imports_same ∙ (ap (slice_get (r.imports ++ (x ∷ []))) zeros ∙ found_behind r.imports (x ∷ []) 0)

  last_contact : (h : ℕ) → contact_at q (ImportEnd k h) ≡ slice_get (contacts_of x.ty) h
  last_contact h = ap (λ (o : Option Imported). slice_get (contacts_of_import o) h) last_import

  import_contact : (i h : ℕ) → i < k → contact_at q (ImportEnd i h) ≡ contact_at r (ImportEnd i h)
  import_contact i h low =
      ap (λ (o : Option Imported). slice_get (contacts_of_import o) h)
      (ap (λ (xs : List Imported). slice_get xs i) imports_same ∙ same_in_front r.imports (x ∷ []) i low)

  part_contact : (i h : ℕ) → contact_at q (PartEnd i h) ≡ contact_at r (PartEnd i h)
  part_contact i h = ap (λ (ps : List Part). slice_get (contacts_of_part (slice_get ps i)) h) parts_same

  -- the name's joints are its import's handshakes with the result's
  abbrev same_role : ℕ → Contact → Role → Type 0
  same_role h c Serve = Contains e.joints (joint (ResultEnd h) (ImportEnd 0 h))
  same_role h c Ask = Contains e.joints (joint (ImportEnd 0 h) (ResultEnd h))

  name_joint : (h : ℕ) (c : Contact) → slice_get (contacts_of x.ty) h ≡ Some c → same_role h c c.role
  name_joint h c at = by_role c.role refl
    where
      by_role : (y : Role) → c.role ≡ y → same_role h c c.role
      by_role Serve same = subst (same_role h c) (sym same) (is.serving h c at same)
      by_role Ask same = subst (same_role h c) (sym same) (is.asking h c at same)

  own_tie : (c d : End) → Contains e.joints (joint c d) → Contains (own_web e).ties (tie (Of c) (Of d))
  own_tie c d has = in_image (λ (j : Joint). tie (Of j.asking) (Of j.serving)) e.joints (joint c d) has

  abbrev webs : List Web
  webs = own_web r ∷ own_web e ∷ []

  abbrev u : Web
  u = union (applying x.ty b r e) webs

  of_u : IsOfWeb u q
  of_u =
      joining_is_union (applying x.ty b r e) webs q (right_is_of_its_web r right, (right_is_of_its_web e is.right, tt))
      (links_stand (applying x.ty b r e) joined.fits) joined.joining

  first_there : (y : Tie) → Contains (own_web r).ties y → Contains u.ties (inside 0 y)
  first_there y has =
      Contains-append_left (within 0 (own_web r).ties ++ (within 1 (own_web e).ties ++ [])) (link_ties webs (results_linked 1 0 n)) (inside 0 y)
      (Contains-append_left (within 0 (own_web r).ties) (within 1 (own_web e).ties ++ []) (inside 0 y) (in_image (inside 0) (own_web r).ties y has))

  second_there : (y : Tie) → Contains (own_web e).ties y → Contains u.ties (inside 1 y)
  second_there y has =
      Contains-append_left (within 0 (own_web r).ties ++ (within 1 (own_web e).ties ++ [])) (link_ties webs (results_linked 1 0 n)) (inside 1 y)
      (Contains-append_right (within 0 (own_web r).ties) (within 1 (own_web e).ties ++ []) (inside 1 y)
      (Contains-append_left (within 1 (own_web e).ties) [] (inside 1 y) (in_image (inside 1) (own_web e).ties y has)))

  abbrev linked : ℕ → Tie
  linked h = tie (Within 0 (Of (ResultEnd h))) (Within 1 (Of (ResultEnd h)))

  abbrev of_link : Link → Tie
  of_link l = tie (unions.dot_at webs l.one) (unions.dot_at webs l.other)

  link_there : (h : ℕ) → h < n → Contains u.ties (linked h)
  link_there h low =
      Contains-append_right (within 0 (own_web r).ties ++ (within 1 (own_web e).ties ++ [])) (link_ties webs (results_linked 1 0 n)) (linked h)
      (in_image of_link (results_linked 1 0 n) (link 0 (ResultEnd h) 1 (ResultEnd h)) (link_is_in 0 n h (omega arith) (omega (arith, low))))

  -- through the name
  name_way : (h : ℕ) (c : Contact) → slice_get (contacts_of x.ty) h ≡ Some c → Way u.ties (Within 1 (Of (ResultEnd h))) (Within 1 (Of (ImportEnd 0 h)))
  name_way h c at = by_role c.role (name_joint h c at)
    where
      by_role : (y : Role) → same_role h c y → Way u.ties (Within 1 (Of (ResultEnd h))) (Within 1 (Of (ImportEnd 0 h)))
      by_role Serve has =
          tied_at u.ties (inside 1 (tie (Of (ResultEnd h)) (Of (ImportEnd 0 h)))) (Within 1 (Of (ResultEnd h))) (Within 1 (Of (ImportEnd 0 h)))
          (second_there (tie (Of (ResultEnd h)) (Of (ImportEnd 0 h))) (own_tie (ResultEnd h) (ImportEnd 0 h) has)) refl refl
      by_role Ask has =
          way_back u.ties (Within 1 (Of (ImportEnd 0 h))) (Within 1 (Of (ResultEnd h)))
          (tied_at u.ties (inside 1 (tie (Of (ImportEnd 0 h)) (Of (ResultEnd h)))) (Within 1 (Of (ImportEnd 0 h))) (Within 1 (Of (ResultEnd h)))
          (second_there (tie (Of (ImportEnd 0 h)) (Of (ResultEnd h))) (own_tie (ImportEnd 0 h) (ResultEnd h) has)) refl refl)

  -- the union's dots, in the function's web: the name's are those of the argument
  abbrev through : Dot → Dot
  through (Of (PartEnd i h)) = Of (PartEnd i h)
  through (Of (ImportEnd i h)) = Of (ResultEnd h)
  through (Of (ResultEnd h)) = Of (ResultEnd h)
  through (Number i h) = Number i h
  through (Node i h) = Node i h
  through (Within i d) = Within i d

  abbrev fold : Dot → Dot
  fold (Of y) = Of y
  fold (Number i h) = Number i h
  fold (Node i h) = Node i h
  fold (Within zero d) = d
  fold (Within (suc i) d) = through d

  -- each joint of the name joins one handshake
  its_end : (c d : End) → Contains e.joints (joint c d) → through (Of c) ≡ through (Of d)
  its_end c d has =
      let (v, w, asked, served) = fits e [] e.joints (joint c d) is.right (contained e.joints (joint c d) has) in
      by_end c has (asks v w) refl asked
    where
      other : (y f : End) (h : ℕ) → Contains e.joints (joint y d) → Contains e.joints (joint y f) → d ≡ f
      other y f h one two =
          let self = same_itself y in
          let here : stands_in y (joint y d) ≡ true = grind (arith, self) in
          let there : stands_in y (joint y f) ≡ true = grind (arith, self) in
          ap (λ (j : Joint). j.serving)
          (one_joint e [] e.joints (joint y d) (joint y f) y is.right (contained e.joints (joint y d) one) (contained e.joints (joint y f) two) here there)

      by_end : (y : End) → Contains e.joints (joint y d) → (a : Contact) → a.role ≡ Ask → contact_at e y ≡ Some a → through (Of y) ≡ through (Of d)
      by_end (PartEnd i h) one a asking at =
          let never : None ≡ Some a = sym (ap (λ (ps : List Part). slice_get (contacts_of_part (slice_get ps i)) h) is.parts) ∙ at in
          absurd (cc never)
      by_end (ImportEnd zero h) one a asking at =
          let there : slice_get (contacts_of x.ty) h ≡ Some a =
          sym (ap (λ (xs : List Imported). slice_get (contacts_of_import (slice_get xs 0)) h) is.imports) ∙ at in
          ap (λ (f : End). through (Of f)) (sym (other (ImportEnd 0 h) (ResultEnd h) h one (is.asking h a there asking)))
      by_end (ImportEnd (suc i) h) one a asking at =
          let never : None ≡ Some a = sym (ap (λ (xs : List Imported). slice_get (contacts_of_import (slice_get xs (suc i))) h) is.imports) ∙ at in
          absurd (cc never)
      by_end (ResultEnd h) one a asking at =
          let there = unturned (slice_get (contacts_of x.ty) h) a (sym (ap (λ (t : Type'). turned_if (slice_get (contacts_of t) h)) is.outcome) ∙ at) in
          let serving : (turned_contact a).role ≡ Serve = turned_role a asking in
          ap (λ (f : End). through (Of f)) (sym (other (ResultEnd h) (ImportEnd 0 h) h one (is.serving h (turned_contact a) there serving)))
        where
          turned_role : (c : Contact) → c.role ≡ Ask → (turned_contact c).role ≡ Serve
          turned_role c same = ap turned same

  ties_folded : (y : Tie) → Contains u.ties y → Way (own_web r).ties (fold y.one) (fold y.other)
  ties_folded y has =
      by_link (Contains-append_cases (within 0 (own_web r).ties ++ (within 1 (own_web e).ties ++ [])) (link_ties webs (results_linked 1 0 n)) y has)
    where
      Folds : Tie → Type 0
      Folds z = Way (own_web r).ties (fold z.one) (fold z.other)

      first : Image (inside 0) (own_web r).ties y → Folds y
      first (z, among, same) = subst Folds same (tied_at (own_web r).ties z z.one z.other among refl refl)

      of_joint : (z : Tie) → Image (λ (j : Joint). tie (Of j.asking) (Of j.serving)) e.joints z → through z.one ≡ through z.other
      of_joint z (j, among, same) =
          subst (λ (t : Tie). through t.one ≡ through t.other) same (its_end j.asking j.serving among)

      second : Image (inside 1) (own_web e).ties y → Folds y
      second (z, among, same) =
          subst Folds same
          (still (own_web r).ties (through z.one) (through z.other) (of_joint z (of_image (λ (j : Joint). tie (Of j.asking) (Of j.serving)) e.joints z among)))

      links : Image of_link (results_linked 1 0 n) y → Folds y
      links (l, among, same) =
          let (h, low, link_is) = of_links 0 n l among in
          subst Folds (ap of_link link_is ∙ same) (still (own_web r).ties (Of (ResultEnd h)) (Of (ResultEnd h)) refl)

      by_last : Contains (within 1 (own_web e).ties) y ⊎ Contains [] y → Folds y
      by_last (inl h) = second (of_image (inside 1) (own_web e).ties y h)
      by_last (inr h) = absurd (none_in_empty y h)

      by_web : Contains (within 0 (own_web r).ties) y ⊎ Contains (within 1 (own_web e).ties ++ []) y → Folds y
      by_web (inl h) = first (of_image (inside 0) (own_web r).ties y h)
      by_web (inr h) = by_last (Contains-append_cases (within 1 (own_web e).ties) [] y h)

      by_link : Contains (within 0 (own_web r).ties ++ (within 1 (own_web e).ties ++ [])) y ⊎ Contains (link_ties webs (results_linked 1 0 n)) y → Folds y
      by_link (inl h) = by_web (Contains-append_cases (within 0 (own_web r).ties) (within 1 (own_web e).ties ++ []) y h)
      by_link (inr h) = links (of_image of_link (results_linked 1 0 n) y h)

  -- an end of the function and the same in the body
  record Seam (d f : End) (c : Contact) : Type 0 where
    opens : opened k n d ≡ f
    here : contact_at r d ≡ Some c
    there : contact_at q f ≡ Some c
    way : Way u.ties (Within 0 (Of d)) (u.at f)
    folds : fold (u.at f) ≡ Of d

  abbrev at_spot : Spot → Dot
  at_spot = unions.dot_at webs

  abbrev spot : End → Spot
  spot = origin (applying x.ty b r e)

  left_all : all_left (applying x.ty b r e) ≡ listed 0 0 r.imports ++ listed 1 0 e.imports
  left_all = applied_left x.ty b r e

  part_seam : (i h : ℕ) (c : Contact) → contact_at r (PartEnd i h) ≡ Some c → Seam (PartEnd i h) (PartEnd i h) c
  part_seam i h c at =
      let (y, is_y) = part_is_there (slice_get r.parts i) h c at in
      let low = lt-ltb i (length r.parts) (slice_get_within r.parts i y is_y) in
      let where_is : spot (PartEnd i h) ≡ place 0 (PartEnd i h) =
      ap
      (λ (t : Bool). if t then place 0 (PartEnd i h)
      else (if nat_lt (i - length r.parts) (length e.parts) then place 1 (PartEnd (i - length r.parts) h)
      else place 2 (PartEnd (i - length r.parts - length e.parts) h))) low in
      record {
        opens = refl;
        here = at;
        there = part_contact i h ∙ at;
        way = still u.ties (Within 0 (Of (PartEnd i h))) (u.at (PartEnd i h)) (sym (ap at_spot where_is));
        folds = ap (λ (z : Spot). fold (at_spot z)) where_is;
      }

  import_seam : (i h : ℕ) (c : Contact) (y : Imported) → slice_get r.imports i ≡ Some y → contact_at r (ImportEnd i h) ≡ Some c
      → Seam (ImportEnd i h) (ImportEnd i h) c
  import_seam i h c y is_y at =
      let low = slice_get_within r.imports i y is_y in
      let long = listed_length 0 0 r.imports in
      let zeros : 0 + i ≡ i = omega arith in
      let left : slice_get (all_left (applying x.ty b r e)) i ≡ Some (record { plan = 0; number = 0 + i; import = y }) =
      ap (λ (l : List LeftImport). slice_get l i) left_all
      ∙ (same_in_front (listed 0 0 r.imports) (listed 1 0 e.imports) i (omega (arith, low, long)) ∙ listed_at 0 0 r.imports i y is_y) in
      let where_is : spot (ImportEnd i h) ≡ place 0 (ImportEnd i h) =
      ap (λ (o : Option LeftImport). left_place o h) left ∙ ap (λ (z : ℕ). place 0 (ImportEnd z h)) zeros in
      record {
        opens = refl;
        here = at;
        there = import_contact i h low ∙ at;
        way = still u.ties (Within 0 (Of (ImportEnd i h))) (u.at (ImportEnd i h)) (sym (ap at_spot where_is));
        folds = ap (λ (z : Spot). fold (at_spot z)) where_is;
      }

  argument_seam : (h : ℕ) (c : Contact) → h < n → slice_get (contacts_of x.ty) h ≡ Some c → Seam (ResultEnd h) (ImportEnd k h) c
  argument_seam h c low at =
      let long = listed_length 0 0 r.imports in
      let first : slice_get e.imports 0 ≡ Some x = ap (λ (xs : List Imported). slice_get xs 0) is.imports in
      let sum : k ≡ length (listed 0 0 r.imports) + 0 = omega (arith, long) in
      let left : slice_get (all_left (applying x.ty b r e)) k ≡ Some (record { plan = 1; number = 0 + 0; import = x }) =
      ap (λ (l : List LeftImport). slice_get l k) left_all
      ∙ (ap (slice_get (listed 0 0 r.imports ++ listed 1 0 e.imports)) sum
      ∙ (found_behind (listed 0 0 r.imports) (listed 1 0 e.imports) 0 ∙ listed_at 1 0 e.imports 0 x first)) in
      let where_is : spot (ImportEnd k h) ≡ place 1 (ImportEnd 0 h) = ap (λ (o : Option LeftImport). left_place o h) left in
      let test : opened k n (ResultEnd h) ≡ ImportEnd k h =
      ap (λ (t : Bool). if t then ImportEnd k h else ResultEnd (h - n)) (lt-ltb h n low) in
      record {
        opens = test;
        here = argument_contact h low ∙ at;
        there = last_contact h ∙ at;
        way =
            way_then u.ties (Within 0 (Of (ResultEnd h))) (Within 1 (Of (ResultEnd h))) (u.at (ImportEnd k h))
            (tied_at u.ties (linked h) (Within 0 (Of (ResultEnd h))) (Within 1 (Of (ResultEnd h))) (link_there h low) refl refl)
            (way_then u.ties (Within 1 (Of (ResultEnd h))) (Within 1 (Of (ImportEnd 0 h))) (u.at (ImportEnd k h)) (name_way h c at)
            (still u.ties (Within 1 (Of (ImportEnd 0 h))) (u.at (ImportEnd k h)) (sym (ap at_spot where_is))));
        folds = ap (λ (z : Spot). fold (at_spot z)) where_is;
      }

  result_seam : (h : ℕ) (c : Contact) → contact_at q (ResultEnd h) ≡ Some c → Seam (ResultEnd (n + h)) (ResultEnd h) c
  result_seam h c at =
      let less : n + h - n ≡ h = omega arith in
      let test : opened k n (ResultEnd (n + h)) ≡ ResultEnd h =
      ap (λ (t : Bool). if t then ImportEnd k (n + h) else ResultEnd (n + h - n)) (le-ltb (n + h) n (omega arith)) ∙ ap ResultEnd less in
      record {
        opens = test;
        here = body_contact h ∙ at;
        there = at;
        way = still u.ties (Within 0 (Of (ResultEnd (n + h)))) (u.at (ResultEnd h)) refl;
        folds = refl;
      }

  -- each end of the function that there is stands so, and each of the body
  forth : (d : End) (c : Contact) → contact_at r d ≡ Some c → (f : End) × Seam d f c
  forth (PartEnd i h) c at = (PartEnd i h, part_seam i h c at)
  forth (ImportEnd i h) c at = let (y, is_y) = import_is_there (slice_get r.imports i) h c at in (ImportEnd i h, import_seam i h c y is_y at)
  forth (ResultEnd h) c at = by_test (nat_lt h n) refl
    where
      by_test : (t : Bool) → nat_lt h n ≡ t → (f : End) × Seam (ResultEnd h) f c
      by_test true low =
          let less : h < n = grind (arith, nat_tests) in
          (ImportEnd k h, argument_seam h c less (sym (argument_contact h less) ∙ at))
      by_test false high =
          let more : n ≤ h = grind (arith, nat_tests) in
          let sum : n + (h - n) ≡ h = omega (arith, more) in
          let there : contact_at q (ResultEnd (h - n)) ≡ Some c = sym (body_contact (h - n)) ∙ (ap (λ (y : ℕ). contact_at r (ResultEnd y)) sum ∙ at) in
          (ResultEnd (h - n), subst (λ (y : ℕ). Seam (ResultEnd y) (ResultEnd (h - n)) c) sum (result_seam (h - n) c there))

  back : (f : End) (c : Contact) → contact_at q f ≡ Some c → (d : End) × Seam d f c
  back (PartEnd i h) c at = (PartEnd i h, part_seam i h c (sym (part_contact i h) ∙ at))
  back (ImportEnd i h) c at = by_test (nat_lt i k) refl (nat_eq i k) refl
    where
      by_test : (t : Bool) → nat_lt i k ≡ t → (w : Bool) → nat_eq i k ≡ w → (d : End) × Seam d (ImportEnd i h) c
      by_test true low w same =
          let less : i < k = grind (arith, nat_tests) in
          let here : contact_at r (ImportEnd i h) ≡ Some c = sym (import_contact i h less) ∙ at in
          let (y, is_y) = import_is_there (slice_get r.imports i) h c here in
          (ImportEnd i h, import_seam i h c y is_y here)
      by_test false high true same =
          let number : k ≡ i = grind (arith, same) in
          let there : contact_at q (ImportEnd k h) ≡ Some c = ap (λ (y : ℕ). contact_at q (ImportEnd y h)) number ∙ at in
          let shake : slice_get (contacts_of x.ty) h ≡ Some c = sym (last_contact h) ∙ there in
          let low = slice_get_within (contacts_of x.ty) h c shake in
          (ResultEnd h, subst (λ (y : ℕ). Seam (ResultEnd h) (ImportEnd y h) c) number (argument_seam h c low shake))
      by_test false high false other =
          let past : length (r.imports ++ (x ∷ [])) ≤ i =
          (let sum = longer r.imports in let more : suc k ≤ i = grind (arith, nat_tests, high, other) in omega (arith, sum, more)) in
          let none : slice_get q.imports i ≡ None = ap (λ (xs : List Imported). slice_get xs i) imports_same ∙ slice_get_past (r.imports ++ (x ∷ [])) i past in
          let never : None ≡ Some c = sym (ap (λ (o : Option Imported). slice_get (contacts_of_import o) h) none) ∙ at in
          absurd (cc never)
        where
          longer : (ys : List Imported) → length (ys ++ (x ∷ [])) ≡ suc (length ys)
          longer [] = refl
          longer (y ∷ ys) = ap suc (longer ys)
  back (ResultEnd h) c at = (ResultEnd (n + h), result_seam h c at)

  joints_there : (c d : End) → Contains r.joints (joint c d) → Contains q.joints (joint (opened k n c) (opened k n d))
  joints_there c d has =
      let (v, w, at_c, at_d, way) = ((right_is_of_its_web r right).joints c d).0 has in
      let (f, seam_c) = forth c (asks v w) at_c in
      let (g, seam_d) = forth d (serves v w) at_d in
      let across = mapped_way (own_web r).ties u.ties (λ z. Within 0 z) (λ y among. tied_at u.ties (inside 0 y) (Within 0 y.one) (Within 0 y.other) (first_there y among) refl refl) (Of c) (Of d) way in
      let whole : Way u.ties (u.at f) (u.at g) =
      way_then u.ties (u.at f) (Within 0 (Of c)) (u.at g) (way_back u.ties (Within 0 (Of c)) (u.at f) seam_c.way)
      (way_then u.ties (Within 0 (Of c)) (Within 0 (Of d)) (u.at g) across seam_d.way) in
      subst (λ (y : End). Contains q.joints (joint y (opened k n d))) (sym seam_c.opens)
      (subst (λ (y : End). Contains q.joints (joint f y)) (sym seam_d.opens) ((of_u.joints f g).1 (v, w, seam_c.there, seam_d.there, whole)))

  no_more : (f g : End) → Contains q.joints (joint f g) → (c d : End) × Contains r.joints (joint c d) × (opened k n c ≡ f) × (opened k n d ≡ g)
  no_more f g has =
      let (v, w, at_f, at_g, way) = (of_u.joints f g).0 has in
      let (c, seam_c) = back f (asks v w) at_f in
      let (d, seam_d) = back g (serves v w) at_g in
      let across = mapped_way u.ties (own_web r).ties fold ties_folded (u.at f) (u.at g) way in
      let whole : Way (own_web r).ties (Of c) (Of d) =
      subst (λ (y : Dot). Way (own_web r).ties y (Of d)) seam_c.folds (subst (λ (y : Dot). Way (own_web r).ties (fold (u.at f)) y) seam_d.folds across) in
      (c, d, ((right_is_of_its_web r right).joints c d).1 (v, w, seam_c.here, seam_d.here, whole), seam_c.opens, seam_d.opens)

  pub named_is_body : IsFunctionOf x r q
  named_is_body =
      record {
        right = right;
        body_right = of_u.right;
        parts = sym parts_same;
        imports = imports_same;
        outcome = outcome ∙ ap (λ (t : Type'). Fun x.ty t) (sym joined.joining.outcome);
        joints = joints_there;
        no_more = no_more;
      }
