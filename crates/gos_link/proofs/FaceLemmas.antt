-- What a build is judged by before its weight hangs on the faces of its plans alone.
use Rattle.std.specs.Prelude.{◌≡◌, ℕ, zero, suc, ◌+◌, ◌++◌, List, [], ◌∷◌, Option, Some, None, not, length, map, nat_lt, slice_get, option_map}
use Rattle.std.specs.List.{position_or_len}
use Rattle.std.specs.Str.{bytes_eq}
use Rattle.std.proofs.Common.{refl, sym, ◌∙◌, ap, cond, subst, inl, inr}
use Rattle.std.proofs.lemmas.List.{length-map}
use Rattle.std.proofs.lemmas.Option.{slice_get-map}
use Rattle.gos_types.specs.Types.{Type', type_of, IsDone}
use Rattle.gos_lex.specs.Lines.{Word}
use Rattle.gos_model.specs.Typing.{Imported}
use Rattle.gos_plan.specs.declared.plan.PlanImport.{PlanImport}
use Rattle.gos_plan.specs.Plans.{contacts_of_import}
use Rattle.gos_plan.specs.Joining.{Link, LeftImport, left_in, left_among, all_left}
use Rattle.gos_plan.specs.Seen.{SeenPlan, import_of, plan_of}
use Rattle.gos_link.specs.declared.build.Instance.{Instance}
use Rattle.gos_link.specs.declared.build.Bind.{Bind}
use Rattle.gos_link.specs.declared.build.Build.{Build}
use Rattle.gos_link.specs.declared.fault.LinkFault.{LinkFault}
use Rattle.gos_link.specs.declared.fault.LinkFault.TheVariants as faults
use Rattle.gos_link.specs.declared.services.Service.{Service}
use Rattle.gos_link.specs.Services.{import_named, NamesBoth, NamesAll, Means, IsRightBind, IsWrongBind, BindsOn}
use Rattle.gos_link.specs.Linked.{Port, AreDifferent, AreGround, IsFirstHigher, IsSecond, IsNamed, IsGrounded, IsOfLinks, IsWrongWhole, imports_of, links_from, links_of, outcome_of, plans_of, port_of, ports_of, shakes_at, whole_of}
use Rattle.gos_link.specs.Faces.{Face, face_of, faces_of, LinksAreOfFaces, FaultsAreOfFaces}

-- of two lists that are seen as one, an element of the one is seen as that of the other at its place
twin : {X : Type 0} {Y : Type 0} (f : X → Y) (xs ys : List X) → map f xs ≡ map f ys → (k : ℕ) (x : X) → slice_get xs k ≡ Some x
    → (y : X) × (slice_get ys k ≡ Some y) × (f x ≡ f y)
twin {X} {Y} f xs ys same k x at = by (slice_get ys k) refl
  where
    seen : slice_get (map f ys) k ≡ Some (f x)
    seen = ap (λ (zs : List Y). slice_get zs k) (sym same) ∙ (slice_get-map f xs k ∙ ap (option_map f) at)

    by : (o : Option X) → slice_get ys k ≡ o → (y : X) × (slice_get ys k ≡ Some y) × (f x ≡ f y)
    by None is = let wrong : None ≡ Some (f x) = sym (slice_get-map f ys k ∙ ap (option_map f) is) ∙ seen in absurd (cc wrong)
    by (Some y) is =
        let there : Some (f y) ≡ Some (f x) = sym (slice_get-map f ys k ∙ ap (option_map f) is) ∙ seen in
        let one : f y ≡ f x = cc there in (y, is, sym one)

same_place : (name : Word) (xs ys : List PlanImport) → map import_of xs ≡ map import_of ys
    → position_or_len (λ (i : PlanImport). bytes_eq i.name name) xs ≡ position_or_len (λ (i : PlanImport). bytes_eq i.name name) ys
same_place name [] [] e = refl
same_place name [] (y ∷ ys) e = absurd (cc e)
same_place name (x ∷ xs) [] e = absurd (cc e)
same_place name (x ∷ xs) (y ∷ ys) e =
    let first : import_of x ≡ import_of y = cc e in
    let others : map import_of xs ≡ map import_of ys = cc e in
    let rest = same_place name xs ys others in λ i. cond (not (bytes_eq (first i).name name)) (1 + rest i) 0

same_named : (name : Word) (xs ys : List PlanImport) → map import_of xs ≡ map import_of ys → import_named xs name ≡ import_named ys name
same_named name xs ys e =
    let size : length xs ≡ length ys = sym (length-map xs import_of) ∙ (ap (λ (is : List Imported). length is) e ∙ length-map ys import_of) in
    let place = same_place name xs ys e in λ i. cond (nat_lt (place i) (size i)) (Some (place i)) None

-- plans that are seen as one have one face
pub same_faces : (ps qs : List SeenPlan) → plans_of ps ≡ plans_of qs → faces_of ps ≡ faces_of qs
same_faces [] [] e = refl
same_faces [] (q ∷ qs) e = absurd (cc e)
same_faces (p ∷ ps) [] e = absurd (cc e)
same_faces (p ∷ ps) (q ∷ qs) e =
    let first : plan_of p ≡ plan_of q = cc e in
    let others : plans_of ps ≡ plans_of qs = cc e in
    let rest = same_faces ps qs others in λ i. record { imports = (first i).imports; outcome = (first i).outcome } ∷ rest i

module _ (ps qs : List SeenPlan) (same : faces_of ps ≡ faces_of qs) where
  -- a line names an instance, an import, as before
  both_too : (is : List Instance) (b : Bind) (user giver : ℕ) (p q : SeenPlan) → NamesBoth is ps b user giver p q
      → (r t : SeenPlan) × NamesBoth is qs b user giver r t × (face_of p ≡ face_of r) × (face_of q ≡ face_of t)
  both_too is b user giver p q both =
      let (r, at_user, seen_user) = twin face_of ps qs same user p both.of_user in
      let (t, at_giver, seen_giver) = twin face_of ps qs same giver q both.of_giver in (
        r,
        t,
        record { finds_user = both.finds_user; finds_giver = both.finds_giver; of_user = at_user; of_giver = at_giver },
        seen_user,
        seen_giver,
      )

  all_too : (is : List Instance) (b : Bind) (s : Service) (p q : SeenPlan) (x : PlanImport) → NamesAll is ps b s p q x
      → (r t : SeenPlan) × (y : PlanImport) × NamesAll is qs b s r t y × (type_of x.ty ≡ type_of y.ty) × (type_of q.outcome ≡ type_of t.outcome)
  all_too is b s p q x all =
      let (r, t, both, user, giver) = both_too is b s.user s.giver p q all.both in
      let imports : map import_of p.imports ≡ map import_of r.imports = ap (λ (f : Face). f.imports) user in
      let (y, at, seen) = twin import_of p.imports r.imports imports s.import x all.import in (
        r,
        t,
        y,
        record { both = both; named = sym (same_named b.import p.imports r.imports imports) ∙ all.named; import = at },
        ap (λ (i : Imported). i.ty) seen,
        ap (λ (f : Face). f.outcome) giver,
      )

  means_too : (is : List Instance) (b : Bind) (s : Service) → Means is ps b s → Means is qs b s
  means_too is b s (p, q, x, line, all, type) =
      let (r, t, y, names, import, outcome) = all_too is b s p q x all in (r, t, y, line, names, sym import ∙ (type ∙ outcome))

  right_too : (is : List Instance) (before : List Service) (b : Bind) (s : Service) → IsRightBind is ps before b s → IsRightBind is qs before b s
  right_too is before b s right =
      record { means = means_too is b s right.means; unbound = right.unbound; unused = right.unused; ringless = right.ringless }

  wrong_too : (is : List Instance) (before : List Service) (b : Bind) (fault : LinkFault) → IsWrongBind is ps before b fault → IsWrongBind is qs before b fault
  wrong_too is before b (faults.NoInstance line name) wrong = wrong
  wrong_too is before b (faults.NoImport line name) (at, told, (user, giver, p, q, both, none)) =
      let (r, t, names, seen, giver_seen) = both_too is b user giver p q both in
      let imports : map import_of p.imports ≡ map import_of r.imports = ap (λ (f : Face). f.imports) seen in
      (at, told, (user, giver, r, t, names, sym (same_named b.import p.imports r.imports imports) ∙ none))
  wrong_too is before b (faults.TypeDiffers line want got) (s, p, q, x, at, all, wants, gets, differ) =
      let (r, t, y, names, import, outcome) = all_too is b s p q x all in
      (s, r, t, y, at, names, wants ∙ import, gets ∙ outcome, λ e. differ (import ∙ (e ∙ sym outcome)))
  wrong_too is before b (faults.BoundTwice first second) (s, at, means, bound) = (s, at, means_too is b s means, bound)
  wrong_too is before b (faults.UsedTwice first second) (s, at, means, bound, used) = (s, at, means_too is b s means, bound, used)
  wrong_too is before b (faults.Loop line) (s, at, means, bound, used, ring) = (s, at, means_too is b s means, bound, used, ring)
  wrong_too is before b (faults.Form line) wrong = absurd wrong
  wrong_too is before b (faults.Unplaced name) wrong = absurd wrong
  wrong_too is before b (faults.OpenTwice name first second) wrong = absurd wrong
  wrong_too is before b (faults.NotGround name) wrong = absurd wrong
  wrong_too is before b (faults.TooHeavy weight) wrong = absurd wrong
  wrong_too is before b (faults.TooLarge size ports) wrong = absurd wrong
  wrong_too is before b faults.NoMemory wrong = absurd wrong

  -- and so what all lines mean, or the first that is wrong
  pub binds_too : (is : List Instance) (before : List Service) (bs : List Bind) (ss : List Service) (ending : Option LinkFault) → BindsOn is ps before bs ss ending
      → BindsOn is qs before bs ss ending
  binds_too is before [] [] ending binds = binds
  binds_too is before [] (s ∷ ss) ending binds = absurd binds
  binds_too is before (b ∷ bs) [] None binds = absurd binds
  binds_too is before (b ∷ bs) [] (Some fault) binds = wrong_too is before b fault binds
  binds_too is before (b ∷ bs) (s ∷ ss) ending (right, rest) = (right_too is before b s right, binds_too is (before ++ s ∷ []) bs ss ending rest)

-- the imports and the result of the plan at a place
imports_at : (ps qs : List SeenPlan) → faces_of ps ≡ faces_of qs → (k : ℕ) → imports_of (slice_get (plans_of ps) k) ≡ imports_of (slice_get (plans_of qs) k)
imports_at [] [] e k = refl
imports_at [] (q ∷ qs) e k = absurd (cc e)
imports_at (p ∷ ps) [] e k = absurd (cc e)
imports_at (p ∷ ps) (q ∷ qs) e zero = let first : face_of p ≡ face_of q = cc e in ap (λ (f : Face). f.imports) first
imports_at (p ∷ ps) (q ∷ qs) e (suc k) = let rest : faces_of ps ≡ faces_of qs = cc e in imports_at ps qs rest k

outcome_at : (ps qs : List SeenPlan) → faces_of ps ≡ faces_of qs → (k : ℕ) → outcome_of (slice_get (plans_of ps) k) ≡ outcome_of (slice_get (plans_of qs) k)
outcome_at [] [] e k = refl
outcome_at [] (q ∷ qs) e k = absurd (cc e)
outcome_at (p ∷ ps) [] e k = absurd (cc e)
outcome_at (p ∷ ps) (q ∷ qs) e zero = let first : face_of p ≡ face_of q = cc e in ap (λ (f : Face). f.outcome) first
outcome_at (p ∷ ps) (q ∷ qs) e (suc k) = let rest : faces_of ps ≡ faces_of qs = cc e in outcome_at ps qs rest k

-- the same links, and the same imports that stay
links_too : (ps qs : List SeenPlan) → faces_of ps ≡ faces_of qs → (ss : List Service) → links_of (plans_of ps) ss ≡ links_of (plans_of qs) ss
links_too ps qs e [] = refl
links_too ps qs e (s ∷ ss) =
    let count : shakes_at (plans_of ps) s ≡ shakes_at (plans_of qs) s =
    ap (λ (is : List Imported). length (contacts_of_import (slice_get is s.import))) (imports_at ps qs e s.user) in
    let rest = links_too ps qs e ss in λ i. links_from s 0 (count i) ++ rest i

among_too : (ls : List Link) (k : ℕ) (ps qs : List SeenPlan) → faces_of ps ≡ faces_of qs → left_among ls k (plans_of ps) ≡ left_among ls k (plans_of qs)
among_too ls k [] [] e = refl
among_too ls k [] (q ∷ qs) e = absurd (cc e)
among_too ls k (p ∷ ps) [] e = absurd (cc e)
among_too ls k (p ∷ ps) (q ∷ qs) e =
    let first : face_of p ≡ face_of q = cc e in
    let others : faces_of ps ≡ faces_of qs = cc e in
    let rest = among_too ls (suc k) ps qs others in λ i. left_in ls k 0 (first i).imports ++ rest i

module _ (b : Build) (ps qs : List SeenPlan) (same : faces_of ps ≡ faces_of qs) (ss : List Service) where
  left_too : (root : ℕ) → all_left (whole_of ps ss root) ≡ all_left (whole_of qs ss root)
  left_too root = ap (λ (ls : List Link). left_among ls 0 (plans_of ps)) (links_too ps qs same ss) ∙ among_too (links_of (plans_of qs) ss) 0 ps qs same

  ports_too : (root : ℕ) → ports_of b (whole_of ps ss root) ≡ ports_of b (whole_of qs ss root)
  ports_too root = ap (λ (ls : List LeftImport). record { name = b.root; instance = b.root } ∷ map (port_of b.instances.items) ls) (left_too root)

  named_too : (root : ℕ) → IsNamed b ps ss root → IsNamed b qs ss root
  named_too root named =
      record { placed = named.placed; names = subst (λ (all : List Port). AreDifferent (length all) all) (ports_too root) named.names }

  grounded_too : (root : ℕ) → IsGrounded b ps ss root → IsGrounded b qs ss root
  grounded_too root grounded =
      record {
        named = named_too root grounded.named;
        result = subst IsDone (outcome_at ps qs same root) grounded.result;
        imports = subst (λ (ls : List LeftImport). AreGround (length ls) ls) (left_too root) grounded.imports;
      }

  whole_too : (fault : LinkFault) → IsOfLinks fault → IsWrongWhole b ps ss fault → IsWrongWhole b qs ss fault
  whole_too (faults.NoInstance line name) light wrong = wrong
  whole_too (faults.Unplaced name) light wrong = wrong
  whole_too (faults.OpenTwice name first second) light (root, one, other, placed, seconds, is, at, and) =
      (root, one, other, placed, subst (λ (all : List Port). IsSecond all one other) (ports_too root) seconds, is, at, and)
  whole_too (faults.NotGround name) light (root, named, inl (never, is)) =
      (root, named_too root named, inl (subst (λ (t : Type'). IsDone t → ⊥) (outcome_at ps qs same root) never, is))
  whole_too (faults.NotGround name) light (root, named, inr (done, l, higher, is)) = (
    root,
    named_too root named,
    inr (
      subst IsDone (outcome_at ps qs same root) done,
      l,
      subst (λ (ls : List LeftImport). IsFirstHigher ls l) (left_too root) higher,
      is,
    ),
  )
  whole_too (faults.TooHeavy weight) light wrong = absurd light
  whole_too (faults.TooLarge size ports) light wrong = absurd light
  whole_too (faults.Form line) light wrong = absurd wrong
  whole_too (faults.NoImport line name) light wrong = absurd wrong
  whole_too (faults.TypeDiffers line want got) light wrong = absurd wrong
  whole_too (faults.BoundTwice first second) light wrong = absurd wrong
  whole_too (faults.UsedTwice first second) light wrong = absurd wrong
  whole_too (faults.Loop line) light wrong = absurd wrong
  whole_too faults.NoMemory light wrong = absurd wrong

pub links_are_of_faces : LinksAreOfFaces
links_are_of_faces b ps qs all same links =
    record {
      binds = binds_too ps qs same b.instances.items [] b.binds.items all.services None links.binds;
      grounded = grounded_too b ps qs same all.services all.root links.grounded;
    }

pub faults_are_of_faces : FaultsAreOfFaces
faults_are_of_faces b ps qs fault same light (inl (ss, binds)) =
    inl (ss, binds_too ps qs same b.instances.items [] b.binds.items ss (Some fault) binds)
faults_are_of_faces b ps qs fault same light (inr (ss, binds, wrong)) =
    inr (ss, binds_too ps qs same b.instances.items [] b.binds.items ss None binds, whole_too b ps qs same ss fault light wrong)
