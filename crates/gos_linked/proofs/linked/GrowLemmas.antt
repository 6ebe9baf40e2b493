-- The tree of the instances below one: its wiring is that of their services, but for the numbers of plans.
use Rattle.std.specs.Prelude.{◌≡◌, ◌<◌, ◌+◌, ◌&&◌, ℕ, zero, suc, List, [], ◌∷◌, ◌++◌, length, map, Option, Some, None, slice_get, nat_eq, if◌then◌else◌}
use Rattle.std.proofs.Common.{refl, sym, ◌∙◌, ap, arith, append-nil, append_assoc}
use Rattle.std.proofs.lemmas.List.{map-append, length-append, length-map}
use Rattle.gos_types.specs.Types.{Com}
use Rattle.gos_model.specs.Terms.{Term}
use Rattle.gos_model.specs.Typing.{Imported, Typed}
use Rattle.gos_plan.specs.Plans.{Plan, IsRight}
use Rattle.gos_plan.specs.Joining.{Link, Wiring, all_left}
use Rattle.gos_realises.specs.realises.Regular.{count}
use Rattle.gos_realises.specs.realises.Realises.{NamesDiffer}
use Rattle.gos_realises.specs.realises.Modules.{import_linked, RealisesOpen}
use Rattle.gos_link.specs.declared.services.Service.{Service}
use Rattle.gos_link.specs.Linked.{links_of, links_from, shakes_at}
use Rattle.gos_joining.specs.unions.Flat.{later_link, deeper_link}
use Rattle.gos_supplies.specs.instances.Trees.{Tree, Alone, Serve, left_of, type_of, wired, IsTree, HasTypes}
use Rattle.gos_linked.proofs.linked.CountLemmas.{back, back_first, back_second}
use Rattle.gos_linked.proofs.linked.NamedLemmas.{named_link, AllWithin, AllFree, within_both, within_later, free_both, free_first, free_later, left_of_first, first_named, second_named, all_between, between_within, between_free}

-- what is asked of an instance
pub record RealisesTerm (p : Plan) (m : Term) : Type 0 where
  pub right : IsRight p
  pub names : NamesDiffer p.imports
  pub typed : Typed p.imports [] m p.outcome
  pub open_imports : RealisesOpen p m

-- the plan of this number
abbrev pub plan_at : List Plan → ℕ → Plan
plan_at [] k = record { weight = 0; imports = []; outcome = Com; parts = []; joints = [] }
plan_at (p ∷ ps) zero = p
plan_at (p ∷ ps) (suc k) = plan_at ps k

-- the service of this import
abbrev pub service_at : List Service → ℕ → ℕ → Option Service
service_at [] u i = None
service_at (s ∷ ss) u i = if nat_eq s.user u && nat_eq s.import i then Some s else service_at ss u i

-- A tree of instances: the imports that stay behind those that come first, the instances' numbers, and their services.
pub record Grown : Type 0 where
  pub tree : Tree
  pub behind : List Imported
  pub numbers : List ℕ
  pub services : List Service

abbrev pub alone : Plan → Term → ℕ → List Imported → Grown
alone p m u is = record { tree = Alone p m; behind = is; numbers = u ∷ []; services = [] }

-- one import more, behind those before it
abbrev pub with_import : Option Service → (ℕ → Grown) → List Imported → Imported → Grown → Grown
with_import None f is x w = record { tree = w.tree; behind = x ∷ w.behind; numbers = w.numbers; services = w.services }
with_import (Some s) f is x w =
    record {
      tree = Serve is w.behind x w.tree (f s.giver).tree;
      behind = w.behind ++ (f s.giver).behind;
      numbers = w.numbers ++ (f s.giver).numbers;
      services = (w.services ++ (f s.giver).services) ++ s ∷ [];
    }

-- with the imports from number k on, the last first
abbrev pub grown_from : (ℕ → Option Service) → (ℕ → Grown) → Grown → ℕ → List Imported → List Imported → Grown
grown_from gs f base k is [] = base
grown_from gs f base k is (x ∷ xs) = with_import (gs k) f is x (grown_from gs f base (suc k) (is ++ x ∷ []) xs)

-- the instances below number u, n levels deep
abbrev pub grow : (ℕ → Plan) → (ℕ → Term) → List Service → ℕ → ℕ → Grown
grow P M ss zero u = alone (P u) (M u) u (P u).imports
grow P M ss (suc n) u = grown_from (service_at ss u) (grow P M ss n) (alone (P u) (M u) u []) 0 [] (P u).imports

pub links_append : (ps : List Plan) (ss ts : List Service) → links_of ps (ss ++ ts) ≡ links_of ps ss ++ links_of ps ts
links_append ps [] ts = refl
links_append ps (s ∷ ss) ts =
    ap (λ (l : List Link). links_from s 0 (shakes_at ps s) ++ l) (links_append ps ss ts)
    ∙ sym (append_assoc (links_from s 0 (shakes_at ps s)) (links_of ps ss) (links_of ps ts))

-- what holds of it
module _ (ps : List Plan) (P : ℕ → Plan) (M : ℕ → Term) (n : ℕ) where
  pub record IsGrown (u : ℕ) (is : List Imported) (w : Grown) : Type 0 where
    pub tree : IsTree w.tree
    pub types : HasTypes w.tree
    pub left : left_of w.tree ≡ is ++ w.behind
    pub outcome : type_of w.tree ≡ (P u).outcome
    pub result : (wired w.tree).outcome ≡ (P u).outcome
    pub plans : (wired w.tree).plans ≡ map P w.numbers
    pub giver : (wired w.tree).giver ≡ 0
    pub skipped : (wired w.tree).skipped ≡ 0
    pub first : (ns : List ℕ) × (w.numbers ≡ u ∷ ns)
    pub links : map (named_link n w.numbers) (wired w.tree).links ≡ links_of ps w.services
    pub within : AllWithin (length w.numbers) (wired w.tree).links
    pub free : (i : ℕ) → i < length is → AllFree i (wired w.tree).links

  pub alone_grown : (u : ℕ) (is js : List Imported) → IsRight (P u) → RealisesOpen (P u) (M u) → Typed (P u).imports [] (M u) (P u).outcome
      → (P u).imports ≡ is ++ js → IsGrown u is (alone (P u) (M u) u js)
  alone_grown u is js right realised typed imports =
      record {
        tree = (right, realised);
        types = typed;
        left = imports;
        outcome = refl;
        result = refl;
        plans = refl;
        giver = refl;
        skipped = refl;
        first = ([], refl);
        links = refl;
        within = tt;
        free = λ i low. tt;
      }

  pub unserved_grown : (u : ℕ) (f : ℕ → Grown) (is : List Imported) (x : Imported) (w : Grown) → IsGrown u (is ++ x ∷ []) w
      → IsGrown u is (with_import None f is x w)
  unserved_grown u f is x w h =
      let size = length-append is (x ∷ []) in
      record {
        tree = h.tree;
        types = h.types;
        left = h.left ∙ append_assoc is (x ∷ []) w.behind;
        outcome = h.outcome;
        result = h.result;
        plans = h.plans;
        giver = h.giver;
        skipped = h.skipped;
        first = h.first;
        links = h.links;
        within = h.within;
        free = λ i low. h.free i (omega (arith, low, size));
      }

  module _ (u : ℕ) (f : ℕ → Grown) (is xs : List Imported) (x : Imported) (w : Grown) (s : Service) (h : IsGrown u (is ++ x ∷ []) w)
      (c : IsGrown s.giver [] (f s.giver)) (user : s.user ≡ u) (import : s.import ≡ length is) (shakes : shakes_at ps s ≡ count x.ty)
      (imports : (P u).imports ≡ is ++ (x ∷ xs)) (type : (P s.giver).outcome ≡ x.ty)
    where
      abbrev v : Grown
      v = f s.giver

      abbrev k : ℕ
      k = length is

      abbrev A : Wiring
      A = wired w.tree

      abbrev B : Wiring
      B = wired v.tree

      abbrev ns : List ℕ
      ns = w.numbers ++ v.numbers

      size_a : length A.plans ≡ length w.numbers
      size_a = ap (λ (l : List Plan). length l) h.plans ∙ length-map w.numbers P

      size_is : length (is ++ x ∷ []) ≡ suc k
      size_is = let size = length-append is (x ∷ []) in omega (arith, size)

      some_a : 0 < length w.numbers
      some_a = let size = ap (λ (l : List ℕ). length l) h.first.1 in omega (arith, size)

      some_b : 0 < length v.numbers
      some_b = let size = ap (λ (l : List ℕ). length l) c.first.1 in omega (arith, size)

      at : slice_get (all_left A) k ≡ Some (record { plan = 0; number = k; import = x })
      at =
          left_of_first A (P u) (map P h.first.0) is xs x (h.plans ∙ ap (map P) h.first.1) imports
          (λ i low. h.free i (omega (arith, low, size_is)))

      at_user : back ns n 0 ≡ s.user
      at_user = back_first n w.numbers v.numbers 0 some_a ∙ (ap (λ (l : List ℕ). back l n 0) h.first.1 ∙ sym user)

      at_giver : back ns n (length A.plans) ≡ s.giver
      at_giver =
          let end : length A.plans ≡ length w.numbers + 0 = omega (arith, size_a) in
          ap (back ns n) end ∙ (back_second n w.numbers v.numbers 0 ∙ ap (λ (l : List ℕ). back l n 0) c.first.1)

      inner_a : map (named_link n ns) (map (later_link 0) A.links) ≡ links_of ps w.services
      inner_a = first_named n w.numbers v.numbers A.links h.within ∙ h.links

      inner_b : map (named_link n ns) (map (later_link (length A.plans)) B.links) ≡ links_of ps v.services
      inner_b =
          ap (λ (a : ℕ). map (named_link n ns) (map (later_link a) B.links)) size_a ∙ (second_named n w.numbers v.numbers B.links ∙ c.links)

      outer : map (named_link n ns) (map (deeper_link (A ∷ B ∷ [])) (import_linked k 1 0 (count x.ty))) ≡ links_of ps (s ∷ [])
      outer =
          all_between A B k x at c.giver c.skipped n ns s at_user at_giver (sym import) 0 (count x.ty)
          ∙ (ap (links_from s 0) (sym shakes) ∙ sym (append-nil (links_from s 0 (shakes_at ps s))))

      abbrev Links : ℕ → List Link
      Links a =
          (map (later_link 0) A.links ++ (map (later_link a) B.links ++ [])) ++ map (deeper_link (A ∷ B ∷ [])) (import_linked k 1 0 (count x.ty))

      start : 0 + length A.plans ≡ length A.plans
      start = omega arith

      all_links : map (named_link n ns) (Links (0 + length A.plans)) ≡ links_of ps ((w.services ++ v.services) ++ s ∷ [])
      all_links =
          let name : Link → Link = named_link n ns in
          let inner : List Link = map (later_link 0) A.links in
          let second : List Link = map (later_link (length A.plans)) B.links in
          let last : List Link = map (deeper_link (A ∷ B ∷ [])) (import_linked k 1 0 (count x.ty)) in
          ap (λ (a : ℕ). map name (Links a)) start
          ∙ (ap (λ (l : List Link). map name ((inner ++ l) ++ last)) (append-nil second)
          ∙ (map-append name (inner ++ second) last
          ∙ (ap (λ (l : List Link). l ++ map name last) (map-append name inner second)
          ∙ ((λ i. (inner_a i ++ inner_b i) ++ outer i)
          ∙ (ap (λ (l : List Link). l ++ links_of ps (s ∷ [])) (sym (links_append ps w.services v.services))
          ∙ sym (links_append ps (w.services ++ v.services) (s ∷ [])))))))

      all_within : AllWithin (length ns) (Links (0 + length A.plans))
      all_within =
          let total = length-append w.numbers v.numbers in
          within_both (length ns) (map (later_link 0) A.links ++ (map (later_link (0 + length A.plans)) B.links ++ []))
          (map (deeper_link (A ∷ B ∷ [])) (import_linked k 1 0 (count x.ty)))
          (within_both (length ns) (map (later_link 0) A.links) (map (later_link (0 + length A.plans)) B.links ++ [])
          (within_later (length w.numbers) 0 (length ns) A.links (omega (arith, total)) h.within)
          (within_both (length ns) (map (later_link (0 + length A.plans)) B.links) []
          (within_later (length v.numbers) (0 + length A.plans) (length ns) B.links (omega (arith, total, size_a)) c.within) tt))
          (between_within A B k x at c.giver c.skipped (length ns) (omega (arith, total, size_a, some_b)) 0 (count x.ty))

      all_free : (i : ℕ) → i < k → AllFree i (Links (0 + length A.plans))
      all_free i low =
          free_both i (map (later_link 0) A.links ++ (map (later_link (0 + length A.plans)) B.links ++ []))
          (map (deeper_link (A ∷ B ∷ [])) (import_linked k 1 0 (count x.ty)))
          (free_both i (map (later_link 0) A.links) (map (later_link (0 + length A.plans)) B.links ++ [])
          (free_first i A.links (h.free i (omega (arith, low, size_is))))
          (free_both i (map (later_link (0 + length A.plans)) B.links) [] (free_later i (0 + length A.plans) B.links (omega (arith, size_a, some_a))) tt))
          (between_free A B k x at c.giver c.skipped i low (omega (arith, size_a, some_a)) 0 (count x.ty))

      pub served_grown : IsGrown u is (with_import (Some s) f is x w)
      served_grown =
          record {
            tree = (h.tree, c.tree, h.left ∙ append_assoc is (x ∷ []) w.behind, c.outcome ∙ type);
            types = (h.types, c.types);
            left = ap (λ (l : List Imported). (is ++ w.behind) ++ l) c.left ∙ append_assoc is w.behind v.behind;
            outcome = h.outcome;
            result = h.outcome;
            plans =
                ap (λ (l : List Plan). A.plans ++ l) (append-nil B.plans)
                ∙ ((λ i. h.plans i ++ c.plans i) ∙ sym (map-append P w.numbers v.numbers));
            giver = (let none : 0 + A.giver ≡ A.giver = omega arith in none ∙ h.giver);
            skipped = (let none : A.skipped + 0 ≡ A.skipped = omega arith in none ∙ h.skipped);
            first = (h.first.0 ++ v.numbers, ap (λ (l : List ℕ). l ++ v.numbers) h.first.1);
            links = all_links;
            within = all_within;
            free = all_free;
          }
