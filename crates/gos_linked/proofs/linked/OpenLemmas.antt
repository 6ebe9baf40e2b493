-- The imports of a linked plan: their names differ, they are ground, and they are those of the substituted program.
use Rattle.std.specs.Prelude.{◌≡◌, ◌≢◌, ◌<◌, ◌+◌, ◌&&◌, ◌||◌, ℕ, zero, suc, Bool, true, false, List, [], ◌∷◌, ◌++◌, length, map, Option, Some, None, option_map, slice_get, nat_eq, if◌then◌else◌}
use Rattle.std.proofs.Common.{refl, sym, ◌∙◌, ap, subst, arith, inl, inr}
use Rattle.std.proofs.lemmas.List.{map-append}
use Rattle.std.proofs.lemmas.Option.{slice_get-map, slice_get_within}
use Rattle.gos_types.proofs.BoolLemmas.{and_false}
use Rattle.gos_types.proofs.ListLemmas.{mapped_at}
use Rattle.gos_model.specs.Typing.{Imported}
use Rattle.gos_model.specs.Linking.{Instances, add_open, open_of, open_from}
use Rattle.gos_plan.specs.Plans.{Plan, contacts_of_import}
use Rattle.gos_plan.specs.Seen.{SeenPlan}
use Rattle.gos_plan.specs.Joining.{Link, is_at_import, is_joined, LeftImport, left_in, left_among, all_left}
use Rattle.gos_realises.specs.realises.Regular.{count}
use Rattle.gos_realises.specs.realises.Realises.{AllGround, NamesDiffer}
use Rattle.gos_realises.proofs.realises.CountLemmas.{some_shake}
use Rattle.gos_realises.proofs.realises.PlaceLemmas.{place_of}
use Rattle.gos_link.specs.declared.build.Build.{Build}
use Rattle.gos_link.specs.declared.build.Instance.{Instance}
use Rattle.gos_link.specs.declared.services.Service.{Service}
use Rattle.gos_link.specs.Services.{HasService}
use Rattle.gos_link.specs.Linked.{Port, port_of, AreDifferent, AreGround, imports_of, shakes_at, link_at, links_from, links_of, whole_of, SeenLinks, AreLinks, IsLinked}
use Rattle.gos_linked.specs.linked.Linked.{binds_of, AreRealised, LinkedIsGround}
use Rattle.gos_linked.proofs.linked.ChainLemmas.{IsSound}
use Rattle.gos_linked.proofs.linked.GrowLemmas.{plan_at, service_at}
use Rattle.gos_linked.proofs.linked.WholeLemmas.{import_here, next_size, next_imports}
use Rattle.gos_linked.proofs.linked.BodyLemmas.{giver_if, giver_same}

abbrev import_of : LeftImport → Imported
import_of l = l.import

-- programs that have the imports of these plans, and the names of each differ
abbrev pub HaveImports : List Plan → Instances → Type 0
HaveImports [] [] = Unit {0}
HaveImports [] (m ∷ ms) = ⊥
HaveImports (p ∷ ps) [] = ⊥
HaveImports (p ∷ ps) (m ∷ ms) = (p.imports ≡ m.imports) × NamesDiffer p.imports × HaveImports ps ms

pub have_imports : (ps : List Plan) (ms : Instances) → AreRealised ps ms → HaveImports ps ms
have_imports [] [] all = tt
have_imports [] (m ∷ ms) all = absurd all
have_imports (p ∷ ps) [] all = absurd all
have_imports (p ∷ ps) (m ∷ ms) (one, all) = (one.imports, one.names, have_imports ps ms all)

differ_in : (ls : List LeftImport)
    → ((i j : ℕ) (x y : LeftImport) → i < j → slice_get ls i ≡ Some x → slice_get ls j ≡ Some y → x.import.name ≢ y.import.name)
    → NamesDiffer (map import_of ls)
differ_in [] apart = tt
differ_in (l ∷ ls) apart = (
  λ z has.
      let (n, at) = place_of (map import_of ls) z has in
      let (y, at_y, is) = mapped_at import_of ls n z at in
      λ e. apart 0 (suc n) l y (omega arith) refl at_y (e ∙ ap (λ (r : Imported). r.name) (sym is)),
  differ_in ls (λ i j x y less at_x at_y. apart (suc i) (suc j) x y (omega (arith, less)) at_x at_y),
)

ports_differ : (is : List Instance) (root : Port) (ls : List LeftImport) → AreDifferent (length (root ∷ map (port_of is) ls)) (root ∷ map (port_of is) ls)
    → NamesDiffer (map import_of ls)
ports_differ is root ls differ =
    differ_in ls
    (λ i j x y less at_x at_y.
    let first : slice_get (map (port_of is) ls) i ≡ Some (port_of is x) = slice_get-map (port_of is) ls i ∙ ap (option_map (port_of is)) at_x in
    let second : slice_get (map (port_of is) ls) j ≡ Some (port_of is y) = slice_get-map (port_of is) ls j ∙ ap (option_map (port_of is)) at_y in
    let low = slice_get_within (map (port_of is) ls) j (port_of is y) second in
    differ (suc i) (suc j) (port_of is x) (port_of is y) (omega (arith, less)) (omega (arith, low)) first second)

pub links_differ : (b : Build) (ps : List SeenPlan) (links : SeenLinks) → AreLinks b ps links
    → NamesDiffer (map import_of (all_left (whole_of ps links.services links.root)))
links_differ b ps links are =
    ports_differ b.instances.items (record { name = b.root; instance = b.root }) (all_left (whole_of ps links.services links.root)) are.grounded.named.names

pub linked_differ : (b : Build) (ps : List SeenPlan) (p : Plan) → IsLinked b ps p → NamesDiffer p.imports
linked_differ b ps p l =
    subst NamesDiffer (sym l.joining.imports)
    (links_differ b ps (record { services = l.services; root = l.root }) (record { binds = l.binds; grounded = l.light.grounded }))

pub ground_in : (ls : List LeftImport) → AreGround (length ls) ls → AllGround (map import_of ls)
ground_in [] all = tt
ground_in (l ∷ ls) all = (all 0 l (omega arith) refl, ground_in ls (λ i x low at. all (suc i) x (omega (arith, low)) at))

pub linked_is_ground : LinkedIsGround
linked_is_ground b ps p l =
    subst AllGround (sym l.joining.imports) (ground_in (all_left (whole_of ps l.services l.root)) l.light.grounded.imports)

-- whether a service's links join an import
or_false : (b : Bool) → (b || false) ≡ b
or_false true = refl
or_false false = refl

or_both : (b : Bool) → (b || b) ≡ b
or_both true = refl
or_both false = refl

or_assoc : (a b c : Bool) → ((a || b) || c) ≡ (a || (b || c))
or_assoc true b c = refl
or_assoc false b c = refl

joined_append : (ls ms : List Link) (k i : ℕ) → is_joined (ls ++ ms) k i ≡ (is_joined ls k i || is_joined ms k i)
joined_append [] ms k i = refl
joined_append (l ∷ ls) ms k i =
    let test : Bool = is_at_import k i l.one || is_at_import k i l.other in
    ap (λ (b : Bool). test || b) (joined_append ls ms k i) ∙ sym (or_assoc test (is_joined ls k i) (is_joined ms k i))

module _ (s : Service) (k i : ℕ) where
  abbrev Test : Bool
  Test = nat_eq s.user k && nat_eq s.import i

  one_joined : (h : ℕ) → (is_at_import k i (link_at s h).one || is_at_import k i (link_at s h).other) ≡ Test
  one_joined h = ap (λ (b : Bool). Test || b) (and_false (nat_eq s.giver k)) ∙ or_false Test

  some_joined : (h n : ℕ) → is_joined (links_from s h (suc n)) k i ≡ Test
  some_joined h zero = ap (λ (b : Bool). b || false) (one_joined h) ∙ or_false Test
  some_joined h (suc n) = (λ l. one_joined h l || some_joined (suc h) n l) ∙ or_both Test

  from_joined : (n : ℕ) → 0 < n → is_joined (links_from s 0 n) k i ≡ Test
  from_joined zero some = absurd (omega (arith, some))
  from_joined (suc n) some = some_joined 0 n

abbrev is_there : Option Service → Bool
is_there None = false
is_there (Some s) = true

module _ (ps : List Plan) (ss : List Service) (sound : IsSound ps ss) where
  some_shakes : (s : Service) → HasService ss s → 0 < shakes_at ps s
  some_shakes s has =
      let (p, q, x, at_p, at_q, at_x, type) = sound.fits s has in
      let shakes : shakes_at ps s ≡ count x.ty =
      ap (λ (o : Option Plan). length (contacts_of_import (slice_get (imports_of o) s.import))) at_p
      ∙ ap (λ (o : Option Imported). length (contacts_of_import o)) at_x
      in
      let some = some_shake x.ty in
      omega (arith, shakes, some)

  all_joined : (k i : ℕ) (ts : List Service) → ((s : Service) → HasService ts s → HasService ss s)
      → is_joined (links_of ps ts) k i ≡ is_there (service_at ts k i)
  all_joined k i [] all = refl
  all_joined k i (s ∷ ts) all =
      let here = from_joined s k i (shakes_at ps s) (some_shakes s (all s (inl refl))) in
      let rest = all_joined k i ts (λ t has. all t (inr has)) in
      joined_append (links_from s 0 (shakes_at ps s)) (links_of ps ts) k i ∙ ((λ l. here l || rest l) ∙ chosen (nat_eq s.user k && nat_eq s.import i))
    where
      chosen : (b : Bool) → (b || is_there (service_at ts k i)) ≡ is_there (if b then Some s else service_at ts k i)
      chosen true = refl
      chosen false = refl

  -- the imports of an instance that stay
  open_in : (u : ℕ) → NamesDiffer (plan_at ps u).imports → (k : ℕ) (is xs : List Imported) → (plan_at ps u).imports ≡ is ++ xs → length is ≡ k
      → map import_of (left_in (links_of ps ss) u k xs) ≡ open_of (binds_of ps ss) u xs
  open_in u differ k is [] imports size = refl
  open_in u differ k is (x ∷ xs) imports size =
      let rest = open_in u differ (suc k) (is ++ x ∷ []) xs (next_imports is xs (plan_at ps u).imports x imports) (next_size is x k size) in
      let given = giver_same ps ss sound u k x differ (import_here is xs (plan_at ps u).imports x k imports size) in
      let joined = all_joined u k ss (λ s has. has) in
      ap (λ (c : Bool). map import_of (if c then lefts else record { plan = u; number = k; import = x } ∷ lefts)) joined
      ∙ (chosen (service_at ss u k)
      ∙ (λ l. add_open (sym given l) x (rest l)))
    where
      lefts : List LeftImport
      lefts = left_in (links_of ps ss) u (suc k) xs

      chosen : (o : Option Service) → map import_of (if is_there o then lefts else record { plan = u; number = k; import = x } ∷ lefts)
          ≡ add_open (giver_if o) x (map import_of lefts)
      chosen None = refl
      chosen (Some s) = refl

  open_among : (u : ℕ) (qs : List Plan) (ms : Instances) → HaveImports qs ms → ((k : ℕ) → k < length qs → plan_at ps (u + k) ≡ plan_at qs k)
      → map import_of (left_among (links_of ps ss) u qs) ≡ open_from (binds_of ps ss) u ms
  open_among u [] [] all same = refl
  open_among u [] (m ∷ ms) all same = absurd all
  open_among u (q ∷ qs) [] all same = absurd all
  open_among u (q ∷ qs) (m ∷ ms) (imports, names, all) same =
      let none : u + 0 ≡ u = omega arith in
      let here : plan_at ps u ≡ q = ap (plan_at ps) (sym none) ∙ same 0 (omega arith) in
      let differ : NamesDiffer (plan_at ps u).imports = subst (λ (r : Plan). NamesDiffer r.imports) (sym here) names in
      let head = open_in u differ 0 [] q.imports (ap (λ (r : Plan). r.imports) here) refl ∙ ap (open_of (binds_of ps ss) u) imports in
      let rest =
      open_among (suc u) qs ms all
      (λ k low. (let sum : suc u + k ≡ u + suc k = omega arith in ap (plan_at ps) sum ∙ same (suc k) (omega (arith, low))))
      in
      map-append import_of (left_in (links_of ps ss) u 0 q.imports) (left_among (links_of ps ss) (suc u) qs) ∙ (λ l. head l ++ rest l)

  pub open_same : (ms : Instances) → HaveImports ps ms → map import_of (left_among (links_of ps ss) 0 ps) ≡ open_from (binds_of ps ss) 0 ms
  open_same ms all = open_among 0 ps ms all (λ k low. (let none : 0 + k ≡ k = omega arith in ap (plan_at ps) none))
